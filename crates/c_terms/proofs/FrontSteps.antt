-- Fronts of lists whose items take several steps to check.
use Rattle.std.proofs.Common.{◌≡◌, List, [], ◌∷◌, ◌++◌, Result, Ok, Err, refl, sym, ◌∙◌, ap, subst, inr}
use Rattle.std.specs.Prelude.{⊤, OnOk, OnErr}
use Rattle.c_types.specs.Table.{Extends}
use Rattle.c_types.proofs.Grown.{Extends-refl, Extends-trans}
use Rattle.typing_rules.specs.declared.refusal.TypeRefusal.{TypeRefusal}
use Rattle.typing_rules.specs.declared.refusal.TypeRefusal.TheVariants.{Memory}
use Rattle.typing_rules.specs.Known as known
use Rattle.typing_rules.specs.Checking.{Checked, Checking, and_then, ◌>>=◌, pure}
use Rattle.typing_rules.specs.Source.{Parts}
use Rattle.typing_rules.specs.DeclaratorRules as rule
use Rattle.typing_rules.specs.Ordered.{parts_of}
use Rattle.c_known.specs.declared.known.Known.{Known}
use Rattle.c_known.specs.Views.{Knows}
use Rattle.c_known.specs.Gives.{Standing, GivesAt, Gives, IsDone}
use Rattle.c_declarators.specs.declared.derivation.Derivation.{Derivation}
use Rattle.c_declarators.specs.declared.derivation.Lines.{Lines}
use Rattle.c_declarators.specs.Derivations.{AreDerivations, MeansDerivation, lines_view}
use Rattle.c_terms.specs.Fronts.{Front, IsNothing, FrontsAt, Fronts, More}
use Rattle.c_terms.proofs.FrontLaws.{refusal-then, more-one}
use Rattle.c_terms.proofs.ListTerms.{part-items}

-- the same of what is checked with each rest
pub record FrontsOf {P B : Type 0} (M : Front B) (old new : Known) (result : Result ⊤ TypeRefusal) (whole G : P → Checking B) : Type 0 where
  pub at : (k : known.Known) → Knows old k → FrontsAt M old new result whole (λ rest. G rest k)

pub fronts : {P B : Type 0} {M : Front B} {old new : Known} {result : Result ⊤ TypeRefusal} {whole : P → Checking B} (f : P → P)
    → FrontsOf M old new result whole (λ rest. whole (f rest)) → Fronts M old new result whole f
fronts f g = record { at = g.at }

pub front-returned : {P B : Type 0} {M : Front B} {old new : Known} {r e : Result ⊤ TypeRefusal} {whole : P → Checking B} {f : P → P}
    → r ≡ e → Fronts M old new e whole f → Fronts M old new r whole f
front-returned {P} {B} {M} {old} {new} {r} {e} {whole} {f} is g = subst (λ z. Fronts M old new z whole f) (sym is) g

later : {P B : Type 0} (M : Front B) (old mid new : Known) (r : Result ⊤ TypeRefusal) (whole : P → Checking B) (c d : P → Checked B)
    → Extends old.types mid.types → ((rest : P) → d rest ≡ c rest) → FrontsAt M mid new r whole c → FrontsAt M old new r whole d
later M old mid new (Ok x) whole c d more e a =
    record { grown = Extends-trans more a.grown; front = a.front; means = a.means; now = a.now; knows = a.knows; is = λ rest. e rest ∙ a.is rest }
later {P} {B} M old mid new (Err told) whole c d more e a = λ rest. by (c rest) (d rest) (e rest) (a rest)
  where
    move : (y : Checked B) → GivesAt {X = ⊤} {A = B} IsNothing mid new (Err told) y → GivesAt {X = ⊤} {A = B} IsNothing old new (Err told) y
    move (Ok p) h = h
    move (Err q) h = h

    by : (y z : Checked B) → z ≡ y → GivesAt {X = ⊤} {A = B} IsNothing mid new (Err told) y → GivesAt {X = ⊤} {A = B} IsNothing old new (Err told) z
    by y z e h = subst (GivesAt {X = ⊤} {A = B} IsNothing old new (Err told)) (sym e) (move y h)

-- a call gave something, and what comes after it gives the rest
pub front-step : {X A P B : Type 0} (N : Standing X A) (M : Front B) (old mid new : Known) (x : X) (r : Result ⊤ TypeRefusal) (whole G : P → Checking B) (m : Checking A) (next : P → A → Checking B)
    → ((rest : P) → G rest ≡ (m >>= next rest))
    → Gives N old mid (Ok x) m
    → ((a : A) → Extends old.types mid.types → N mid.types x a → FrontsOf M mid new r whole (λ rest. next rest a))
    → FrontsOf M old new r whole G
front-step {X} {A} {P} {B} N M old mid new x r whole G m next is g after = record { at = λ k knows. by k (m k) refl (g.at k knows) }
  where
    by : (k : known.Known) (c : Checked A) → m k ≡ c → GivesAt N old mid (Ok x) c → FrontsAt M old new r whole (λ rest. G rest k)
    by k (Ok found) e given =
        later M old mid new r whole (λ rest. next rest found.0 found.1) (λ rest. G rest k) given.grown
        (λ rest. ap (λ z. z k) (is rest) ∙ ap (λ c. and_then c (next rest)) e)
        ((after found.0 given.grown given.means).at found.1 given.knows)
    by k (Err refusal) e given = absurd given

-- a call gave a refusal
pub front-stop : {X A P B : Type 0} (N : Standing X A) (M : Front B) (old mid : Known) (told : TypeRefusal) (whole G : P → Checking B) (m : Checking A) (next : P → A → Checking B)
    → ((rest : P) → G rest ≡ (m >>= next rest))
    → Gives {X = X} {A = A} N old mid (Err told) m → FrontsOf M old mid (Err told) whole G
front-stop {X} {A} {P} {B} N M old mid told whole G m next is g = record {
  at = λ k knows. λ rest.
      subst (λ z. GivesAt {X = ⊤} {A = B} IsNothing old mid (Err told) (z k)) (sym (is rest))
      (refusal-then {X = X} {Y = ⊤} N IsNothing old mid old mid told (m k) (next rest) (g.at k knows));
}

end-at : {B : Type 0} (c : Checked B) → c ≡ and_then c (λ b. pure b)
end-at (Ok p) = refl
end-at (Err e) = refl

-- what is made known, and the rest
pub front-last : {P B : Type 0} (M : Front B) (old new : Known) (r : Result ⊤ TypeRefusal) (whole G : P → Checking B) (m : Checking (Unit {0}))
    → M new.types (λ b. b) → ((rest : P) → G rest ≡ (m >>= (λ u. whole rest)))
    → Gives IsDone old new r m → FrontsOf M old new r whole G
front-last {P} {B} M old new (Ok x) whole G m means is g =
    front-step IsDone M old new new x (Ok tt) whole G m (λ rest u. whole rest) is g
    (λ a more done. record { at = λ k knows. record { grown = Extends-refl new.types; front = λ b. b; means = means; now = k; knows = knows; is = λ rest. end-at (whole rest k) } })
front-last {P} {B} M old new (Err told) whole G m means is g = front-stop IsDone M old new told whole G m (λ rest u. whole rest) is g

-- a part of a declarator is added, or memory is missing
pub part-added : (lines : Lines) (s : Known) (before after : List Derivation) (result : Result ⊤ TypeRefusal) (x : Derivation) (d : rule.Derivation) (G : Parts → Checking (List rule.Derivation))
    → OnOk result (after ≡ before ++ x ∷ []) → OnErr result (result ≡ Err Memory)
    → MeansDerivation s.types x d
    → ((rest : Parts) → G rest ≡ (parts_of (lines_view lines) rest >>= (λ ds. pure (d ∷ ds))))
    → FrontsOf (More AreDerivations before after) s s result (parts_of (lines_view lines)) G
part-added lines s before after (Ok y) x d G added wants means is = record {
  at = λ k knows. record {
    grown = Extends-refl s.types;
    front = λ ds. d ∷ ds;
    means = more-one AreDerivations MeansDerivation part-items before after s.types x d added means;
    now = k;
    knows = knows;
    is = λ rest. ap (λ z. z k) (is rest);
  };
}
part-added lines s before after (Err told) x d G added wants means is =
    subst (λ z. FrontsOf (More AreDerivations before after) s s z (parts_of (lines_view lines)) G) (sym wants)
    (record { at = λ k knows. λ rest. memory-is (G rest k) })
  where
    memory-is : (c : Checked (List rule.Derivation)) → GivesAt {X = ⊤} {A = List rule.Derivation} IsNothing s s (Err Memory) c
    memory-is (Ok p) = refl
    memory-is (Err q) = inr refl
