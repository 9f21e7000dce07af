-- What names mean by the declarations of the code, as what they mean while checking.
use Rattle.std.proofs.Common.{◌≡◌, ℕ, Bool as Test, true, false, if◌then◌else◌, List, [], ◌∷◌, ◌++◌, map, Option, Some, None, true≢false, not, is_none, is_some, refl, sym, ◌∙◌, ap}
use Rattle.std.specs.Option.{option_map}
use Rattle.std.specs.Str.{bytes_eq}
use Rattle.c_types.specs.declared.type_ref.Row.{Row}
use Rattle.c_types.specs.declared.type_ref.TypeRef.{TypeRef}
use Rattle.c_types.specs.Types.{CType}
use Rattle.c_types.specs.Table.{type_at, Extends}
use Rattle.c_typed.specs.Views.{qualified_from}
use Rattle.c_types.proofs.Grown.{Extends-refl}
use Rattle.c_types.proofs.Rows.{some_is, none_is_not}
use Rattle.c_scopes.specs.Scopes as code
use Rattle.typing_rules.specs.Known.{Meaning, linked, Scope, found_in, or_else, meaning_of, with_meaning, innermost, outer_scopes, Linked, linked_as}
use Rattle.c_entities.specs.declared.entity.Linked.{Linked as CodeLinked}
use Rattle.c_entities.specs.Views.{linked_view}
use Rattle.c_known.specs.declared.local.Meaning as M
use Rattle.c_known.specs.Views.{meaning_view, scope_view, file_scope_view}
use Rattle.c_known.specs.Standing.{MeansMeaning, MeansMeaningIf, MeansLinked, MeansLinkedIf}
use Rattle.c_known.specs.Refusals.{IsGiven}
use Rattle.c_known.specs.Gives.{Standing}

-- a name that is not the first one of a scope
pub passes : {A : Type 0} (b : Test) (x y z : A) → b ≡ false → y ≡ z → y ≡ (if b then x else z)
passes true x y z e same = absurd (true≢false e)
passes false x y z e same = same

module _ {M : Type 0} (f : M → Meaning) where
  -- a scope of the code, whose meanings are these
  abbrev pub scope_by : List (List ℕ × M) → Scope
  scope_by scope = map (λ d. (d.0, f d.1)) scope

  pub found-by : (name : List ℕ) (scope : List (List ℕ × M)) → option_map f (code.found_in name scope) ≡ found_in name (scope_by scope)
  found-by name [] = refl
  found-by name (d ∷ rest) = by (bytes_eq name d.0) (found-by name rest)
    where
      by : (b : Test) → option_map f (code.found_in name rest) ≡ found_in name (scope_by rest)
          → option_map f (if b then Some d.1 else code.found_in name rest) ≡ (if b then Some (f d.1) else found_in name (scope_by rest))
      by true e = refl
      by false e = e

  pub or_else-by : (a b : Option M) → option_map f (code.or_else a b) ≡ or_else (option_map f a) (option_map f b)
  or_else-by None b = refl
  or_else-by (Some m) b = refl

  pub meaning-by : (name : List ℕ) (scopes : List (List (List ℕ × M))) → option_map f (code.meaning_of name scopes) ≡ meaning_of name (map scope_by scopes)
  meaning-by name [] = refl
  meaning-by name (scope ∷ outer) =
      or_else-by (code.found_in name scope) (code.meaning_of name outer) ∙ (λ i. or_else (found-by name scope i) (meaning-by name outer i))

  pub innermost-by : (scopes : List (List (List ℕ × M))) → scope_by (code.innermost scopes) ≡ innermost (map scope_by scopes)
  innermost-by [] = refl
  innermost-by (scope ∷ outer) = refl

  pub outer-by : (scopes : List (List (List ℕ × M))) → map scope_by (code.outer_scopes scopes) ≡ outer_scopes (map scope_by scopes)
  outer-by [] = refl
  outer-by (scope ∷ outer) = refl

  pub with-by : (name : List ℕ) (m : M) (scopes : List (List (List ℕ × M))) → map scope_by (code.with_meaning name m scopes) ≡ with_meaning name (f m) (map scope_by scopes)
  with-by name m [] = refl
  with-by name m (scope ∷ outer) = refl

pub meaning-append : (name : List ℕ) (xs ys : List Scope) → meaning_of name (xs ++ ys) ≡ or_else (meaning_of name xs) (meaning_of name ys)
meaning-append name [] ys = refl
meaning-append name (x ∷ xs) ys = ap (or_else (found_in name x)) (meaning-append name xs ys) ∙ by (found_in name x)
  where
    by : (o : Option Meaning) → or_else o (or_else (meaning_of name xs) (meaning_of name ys)) ≡ or_else (or_else o (meaning_of name xs)) (meaning_of name ys)
    by None = refl
    by (Some m) = refl

-- something that stands for the same in all later tables
pub given-of : {X A : Type 0} (M : Standing X A) (rows : List Row) (view : List Row → X → A) (x : Option X) (o : Option A)
    → ((y : X) (a : A) → ((later : List Row) → Extends rows later → view later y ≡ a) → M rows y a)
    → ((later : List Row) → Extends rows later → option_map (view later) x ≡ o) → IsGiven M rows x o
given-of M rows view None None make h = tt
given-of M rows view None (Some a) make h = none_is_not (h rows (Extends-refl rows))
given-of M rows view (Some y) None make h = none_is_not (sym (h rows (Extends-refl rows)))
given-of M rows view (Some y) (Some a) make h = make y a (λ later more. some_is (h later more))

pub meaning-if : (rows : List Row) (x : Option M.Meaning) (o : Option Meaning)
    → ((later : List Row) → Extends rows later → option_map (meaning_view (type_at later)) x ≡ o) → MeansMeaningIf rows x o
meaning-if rows x o h = given-of MeansMeaning rows (λ later. meaning_view (type_at later)) x o (λ y a e. record { always = e }) h

pub linked-if : (rows : List Row) (x : Option CodeLinked) (o : Option Linked)
    → ((later : List Row) → Extends rows later → option_map (linked_view (type_at later)) x ≡ o) → MeansLinkedIf rows x o
linked-if rows x o h = given-of MeansLinked rows (λ later. linked_view (type_at later)) x o (λ y a e. record { always = e }) h

-- ---- all scopes around a place

module _ (types : TypeRef → CType) where
  -- what a name of file scope means
  abbrev pub meant_by : CodeLinked → Meaning
  meant_by l = linked l.entity (qualified_from types l.ty)

  linked-as-by : (x : Option CodeLinked) → option_map (linked_view types) x ≡ linked_as (option_map meant_by x)
  linked-as-by None = refl
  linked-as-by (Some l) = refl

  pub earlier-by : (name : List ℕ) (names : List (List (List ℕ × CodeLinked))) (scope : Scope) → map (file_scope_view types) names ≡ scope ∷ []
      → option_map (linked_view types) (code.found_in name (code.innermost names)) ≡ linked_as (found_in name scope)
  earlier-by name names scope e =
      linked-as-by (code.found_in name (code.innermost names))
      ∙ ap linked_as (found-by meant_by name (code.innermost names) ∙ ap (found_in name) (innermost-by meant_by names ∙ ap innermost e))

  -- found in a block or a list of parameters
  pub block-means : (name : List ℕ) (blocks : List (List (List ℕ × M.Meaning))) (scopes rest : List Scope) (m : M.Meaning)
      → map (scope_view types) blocks ≡ scopes → code.meaning_of name blocks ≡ Some m → Some (meaning_view types m) ≡ meaning_of name (scopes ++ rest)
  block-means name blocks scopes rest m e found =
      sym (meaning-append name scopes rest
      ∙ ap (λ o. or_else o (meaning_of name rest)) (ap (meaning_of name) (sym e) ∙ sym (meaning-by (meaning_view types) name blocks) ∙ ap (option_map (meaning_view types)) found))

  pub block-passes : (name : List ℕ) (blocks : List (List (List ℕ × M.Meaning))) (scopes rest : List Scope)
      → map (scope_view types) blocks ≡ scopes → code.meaning_of name blocks ≡ None → meaning_of name (scopes ++ rest) ≡ meaning_of name rest
  block-passes name blocks scopes rest e found =
      meaning-append name scopes rest
      ∙ ap (λ o. or_else o (meaning_of name rest)) (ap (meaning_of name) (sym e) ∙ sym (meaning-by (meaning_view types) name blocks) ∙ ap (option_map (meaning_view types)) found)

  or-none : (o : Option Meaning) → or_else o None ≡ o
  or-none None = refl
  or-none (Some m) = refl

  at-file : (name : List ℕ) (names : List (List (List ℕ × CodeLinked))) (scope : Scope) → map (file_scope_view types) names ≡ scope ∷ []
      → found_in name scope ≡ option_map meant_by (code.meaning_of name names)
  at-file name names scope e =
      sym (or-none (found_in name scope)) ∙ ap (meaning_of name) (sym e) ∙ sym (meaning-by meant_by name names)

  -- found at file scope
  pub file-means : (name : List ℕ) (names : List (List (List ℕ × CodeLinked))) (scope : Scope) (rest : List Scope) (l : CodeLinked)
      → map (file_scope_view types) names ≡ scope ∷ [] → code.meaning_of name names ≡ Some l → meaning_of name (scope ∷ rest) ≡ Some (meant_by l)
  file-means name names scope rest l e found =
      ap (λ o. or_else o (meaning_of name rest)) (at-file name names scope e ∙ ap (option_map meant_by) found)

  pub file-passes : (name : List ℕ) (names : List (List (List ℕ × CodeLinked))) (scope outer : Scope)
      → map (file_scope_view types) names ≡ scope ∷ [] → code.meaning_of name names ≡ None → meaning_of name (scope ∷ outer ∷ []) ≡ found_in name outer
  file-passes name names scope outer e found =
      ap (λ o. or_else o (meaning_of name (outer ∷ []))) (at-file name names scope e ∙ ap (option_map meant_by) found) ∙ or-none (found_in name outer)

  none-by : {A B : Type 0} (f : A → B) (o : Option A) → not (is_some o) ≡ is_none (option_map f o)
  none-by f None = refl
  none-by f (Some x) = refl

  -- not declared in the innermost scope
  pub free-by : (name : List ℕ) (blocks : List (List (List ℕ × M.Meaning))) (scopes : List Scope) → map (scope_view types) blocks ≡ scopes
      → not (is_some (code.found_in name (code.innermost blocks))) ≡ is_none (found_in name (innermost scopes))
  free-by name blocks scopes e =
      none-by (meaning_view types) (code.found_in name (code.innermost blocks))
      ∙ ap is_none (found-by (meaning_view types) name (code.innermost blocks) ∙ ap (found_in name) (innermost-by (meaning_view types) blocks ∙ ap innermost e))

pub not-back : (a b : Test) → a ≡ not b → b ≡ not a
not-back a true e = sym (ap not e)
not-back a false e = sym (ap not e)
