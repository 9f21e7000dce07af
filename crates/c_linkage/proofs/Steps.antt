-- Steps of checking that the code takes by a test or by what it reads.
use Rattle.std.proofs.Common.{◌≡◌, Bool as Test, true, false, List, Result, Err, refl, sym, ◌∙◌, ap, subst, inl}
use Rattle.c_types.proofs.Grown.{Extends-refl}
use Rattle.typing_rules.specs.declared.refusal.TypeRefusal.{TypeRefusal}
use Rattle.typing_rules.specs.Known as known
use Rattle.typing_rules.specs.Checking.{Checking, and_then, ◌>>=◌, ◌>>◌, asks, needs, tests}
use Rattle.c_entities.specs.declared.entities.Entities.{Entities}
use Rattle.c_entities.specs.Views.{AreEntities}
use Rattle.c_known.specs.declared.known.Known.{Known}
use Rattle.c_known.specs.Views.{Knows}
use Rattle.c_known.specs.Gives.{Standing, GivesAt, Gives}

module _ {X B : Type 0} (M : Standing X B) (s new : Known) (r : Result X TypeRefusal) where
  -- what is read of all that is known
  pub asked : {A : Type 0} (x : A) (f : known.Known → A) (rest : A → Checking B) → ((k : known.Known) → Knows s k → x ≡ f k)
      → Gives M s new r (rest x) → Gives M s new r (asks f >>= rest)
  asked x f rest same g = record { at = λ k knows. subst (λ a. GivesAt M s new r (rest a k)) (same k knows) (g.at k knows) }

  -- a test that holds
  pub passed : (test : known.Known → Test) (e : TypeRefusal) (rest : Checking B) → ((k : known.Known) → Knows s k → test k ≡ true)
      → Gives M s new r rest → Gives M s new r (tests test e >> rest)
  passed test e rest holds g =
      record { at = λ k knows. subst (λ b. GivesAt M s new r (and_then (needs b e k) (λ _. rest))) (sym (holds k knows)) (g.at k knows) }

-- a test that does not hold
pub stopped : {X B : Type 0} (M : Standing X B) (s : Known) (test : known.Known → Test) (e : TypeRefusal) (rest : Checking B)
    → ((k : known.Known) → Knows s k → test k ≡ false) → Gives {X = X} {A = B} M s s (Err e) (tests test e >> rest)
stopped {X = X} {B = B} M s test e rest fails =
    record { at = λ k knows. subst (λ b. GivesAt {X = X} {A = B} M s s (Err e) (and_then (needs b e k) (λ _. rest))) (sym (fails k knows)) (inl refl) }

-- the entities change alone
pub entities-known : (s : Known) (k : known.Known) → Knows s k → (x : Entities) (es : List known.Entity) (ds : List known.First)
    → AreEntities s.types x es ds → Knows (record s { entities = x }) (record k { entities = es; declared = ds })
entities-known s k h x es ds are = record {
  file = h.file;
  scopes = h.scopes;
  file_scope = h.file_scope;
  entities = are;
  locals = h.locals;
  texts = h.texts;
  static_cells = h.static_cells;
  functions = h.functions;
  types = h.types;
  uses = h.uses;
}
