-- An entity that is declared, in the order of checking.
use Rattle.std.proofs.Common.{◌≡◌, ℕ, Bool as Test, true, false, if◌then◌else◌, List, [], ◌∷◌, ◌++◌, length, Option, Some, None, Result, Ok, Err, refl, sym, ◌∙◌, ap, subst}
use Rattle.c_types.specs.declared.type_ref.Row.{Row}
use Rattle.c_types.specs.declared.type_ref.TypeRef.{TypeRef}
use Rattle.c_types.specs.declared.type_ref.QualifiedRef.{QualifiedRef}
use Rattle.c_types.specs.Types.{CType, Qualified, composite, cells_of}
use Rattle.typing_rules.specs.Checking.{pure}
use Rattle.typing_rules.specs.OrderedParts.{counted}
use Rattle.c_types.specs.Table.{Extends, Stands, StandsFor}
use Rattle.c_types.proofs.Grown.{Extends-refl}
use Rattle.typing_rules.specs.Known as known
use Rattle.typing_rules.specs.Known.{is_declared_among}
use Rattle.typing_rules.specs.DeclarationRules.{tentatively, declared_entity, type_known}
use Rattle.typing_rules.specs.OrderedUnits.{defines, counted_if}
use Rattle.typing_rules.specs.declared.refusal.TypeRefusal.{TypeRefusal}
use Rattle.c_entities.specs.declared.entity.Linked.{Linked}
use Rattle.c_entities.specs.declared.entities.Entities.{Entities}
use Rattle.c_entities.specs.Changes.{Reads, Changes}
use Rattle.c_known.specs.declared.known.Known.{Known}
use Rattle.c_known.specs.Views.{Knows}
use Rattle.c_known.specs.Gives.{Standing, Gives, IsSame}
use Rattle.c_known.specs.Standing.{MeansLinked, MeansLinkedIf}
use Rattle.c_known.proofs.Binding.{bind, told, choose-true}
use Rattle.c_linkage.specs.Linking.{entity_declared, entity_named, linked_anew, tentatively_complete}
use Rattle.c_linkage.proofs.Steps.{entities-known}
use Rattle.c_linkage.proofs.Linked.{linked-type, means-linked}

module _ (s : Known) (x : Entities) (o : Option ℕ) (n : ℕ) (name : List ℕ) (t : Qualified) (external : Test) where
  pub declared-again : o ≡ Some n → Changes s.types s.file s.entities x (declared_entity (Some n) name t external)
      → Gives IsSame s (record s { entities = x }) (Ok n) (entity_declared o name t external)
  declared-again is changes =
      subst (λ p. Gives IsSame s (record s { entities = x }) (Ok n) (entity_declared p name t external)) (sym is)
      (record { at = λ k h. record { grown = Extends-refl s.types; means = refl; knows = entities-known s k h x _ _ (changes k h.file h.entities) } })

  pub declared-new : o ≡ None → Reads s.types s.entities (λ k. n ≡ length k.entities) → Changes s.types s.file s.entities x (declared_entity None name t external)
      → Gives IsSame s (record s { entities = x }) (Ok n) (entity_declared o name t external)
  declared-new is number changes =
      subst (λ p. Gives IsSame s (record s { entities = x }) (Ok n) (entity_declared p name t external)) (sym is)
      (record { at = λ k h. record { grown = Extends-refl s.types; means = number k h.entities; knows = entities-known s k h x _ _ (changes k h.file h.entities) } })

first-same : (k other : known.Known) (b : Test) → record k { declared = other.declared } ≡ other
    → record k { entities = (if b then k else other).entities; declared = (if b then k else other).declared } ≡ (if b then k else other)
first-same k other true e = refl
first-same k other false e = ap (λ z. record k { entities = z.entities; declared = z.declared }) (sym e) ∙ e

pub first-known : (s : Known) (k : known.Known) → Knows s k → (x : Entities) (n line : ℕ) → Changes s.types s.file s.entities x (known.declared_first n line)
    → Knows (record s { entities = x }) (known.declared_first n line k)
first-known s k h x n line changes =
    subst (Knows (record s { entities = x }))
    (first-same k (record k { declared = k.declared ++ record { entity = n; line = line } ∷ [] }) (is_declared_among n k.declared) refl)
    (entities-known s k h x _ _ (changes k h.file h.entities))

pub declared-named : (old mid : Known) (x : Entities) (o : Option ℕ) (n line : ℕ) (name : List ℕ) (r : QualifiedRef) (b : Option known.Linked) (t : Qualified) (external : Test)
    → Gives IsSame old mid (Ok n) (entity_declared o name t external) → StandsFor old.types r (type_known b t)
    → ((rows : List Row) → Changes rows mid.file mid.entities x (known.declared_first n line))
    → Gives MeansLinked old (record mid { entities = x }) (Ok (record { entity = n; ty = r })) (linked_anew b external o (record { line = line; bytes = name }) t)
declared-named old mid x o n line name r b t external declared stands changes =
    bind IsSame MeansLinked old mid (record mid { entities = x }) n (Ok (record { entity = n; ty = r })) (entity_declared o name t external)
    (entity_named b (record { line = line; bytes = name }) t) declared
    (λ a grown same. subst (λ m. Gives MeansLinked mid (record mid { entities = x }) (Ok (record { entity = n; ty = r })) (entity_named b (record { line = line; bytes = name }) t m)) same
    (record {
      at = λ k h. record {
        grown = Extends-refl mid.types;
        means = means-linked old.types mid.types grown _ _ refl stands;
        knows = first-known mid k h x n line (changes mid.types);
      };
    }))

pub known-some : (rows : List Row) (o : Option Linked) (b : Option known.Linked) (l : Linked) (r : TypeRef) (ty : QualifiedRef) (t : Qualified)
    → o ≡ Some l → MeansLinkedIf rows o b → StandsFor rows ty t
    → ((u v : CType) → Stands rows l.ty.target u → Stands rows ty.target v → Stands rows r (composite u v))
    → StandsFor rows (record { qualifiers = l.ty.qualifiers; target = r }) (type_known b t)
known-some rows o b l r ty t is means stands both = by b (subst (λ z. MeansLinkedIf rows z b) is means)
  where
    by : (c : Option known.Linked) → MeansLinkedIf rows (Some l) c → StandsFor rows (record { qualifiers = l.ty.qualifiers; target = r }) (type_known c t)
    by None m = absurd m
    by (Some d) m = let first = linked-type rows l d m in record { qualifiers = first.qualifiers; type = both _ _ first.type stands.type }

-- an object is defined for the first time or once more, and its cells are counted
pub complete-by : {X : Type 0} (s mid new : Known) (line number : ℕ) (first : Test) (r : Result X TypeRefusal) (M : Standing X (Unit {0})) (l : known.Linked)
    → number ≡ l.entity → Gives IsSame s mid (Ok first) (defines tentatively line number)
    → (Extends s.types mid.types → Gives M mid new r (counted_if first line l.type)) → Gives M s new r (tentatively_complete line l)
complete-by s mid new line number first r M l same defined counted =
    bind (IsSame {A = Test}) M s mid new first r (defines tentatively line l.entity) (λ b. counted_if b line l.type)
    (subst (λ n. Gives (IsSame {A = Test}) s mid (Ok first) (defines tentatively line n)) same defined)
    (λ b grown is. subst (λ z. Gives M mid new r (counted_if z line l.type)) is (counted grown))

pub complete-told : {X : Type 0} (s mid new : Known) (line number : ℕ) (e : TypeRefusal) (M : Standing X (Unit {0})) (l : known.Linked)
    → number ≡ l.entity → Gives {X = Test} {A = Test} IsSame s mid (Err e) (defines tentatively line number) → Gives {X = X} {A = Unit {0}} M s new (Err e) (tentatively_complete line l)
complete-told s mid new line number e M l same refused =
    told (IsSame {A = Test}) M s mid new e (defines tentatively line l.entity) (λ b. counted_if b line l.type)
    (subst (λ n. Gives {X = Test} {A = Test} IsSame s mid (Err e) (defines tentatively line n)) same refused)

pub counted-by : {X : Type 0} (s new : Known) (line cells : ℕ) (test : Test) (r : Result X TypeRefusal) (M : Standing X (Unit {0})) (t : Qualified)
    → cells ≡ cells_of t.type → test ≡ true → Gives M s new r (counted line cells) → Gives M s new r (counted_if test line t)
counted-by s new line cells test r M t same is g =
    choose-true M s new r test (counted line (cells_of t.type)) (pure tt) is (subst (λ n. Gives M s new r (counted line n)) same g)
