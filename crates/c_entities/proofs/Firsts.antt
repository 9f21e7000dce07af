-- The first declarations of a file.
use Rattle.std.proofs.Common.{◌≡◌, ℕ, nat_eq, Bool as Test, true, false, cond, ◌||◌, if◌then◌else◌, List, [], ◌∷◌, ◌++◌, map, Option, Some, None, is_some, refl, sym, ◌∙◌, ap, subst, true≢false}
use Rattle.std.specs.Map.{lookup}
use Rattle.std.proofs.lemmas.List.{map-append}
use Rattle.c_types.specs.declared.type_ref.Row.{Row}
use Rattle.typing_rules.specs.Known as known
use Rattle.typing_rules.specs.Known.{is_declared_among}
use Rattle.c_entities.specs.declared.entities.Entities.{Entities}
use Rattle.c_entities.specs.Views.{first_view, AreEntities}

found-first : (b : Test) (v : ℕ) (o : Option ℕ) → is_some (cond b (Some v) o) ≡ (b || is_some o)
found-first true v o = refl
found-first false v o = refl

pub first-declared : (n : ℕ) (es : List (ℕ × ℕ)) → is_some (lookup (nat_eq n) es) ≡ is_declared_among n (map first_view es)
first-declared n [] = refl
first-declared n (x ∷ es) = found-first (nat_eq n x.0) x.1 (lookup (nat_eq n) es) ∙ ap (λ b. nat_eq n x.0 || b) (first-declared n es)

pub is-none : {A : Type 0} (o : Option A) → is_some o ≡ false → o ≡ None
is-none None e = refl
is-none (Some x) e = absurd (true≢false e)

module _ (rows : List Row) (old new : Entities) (k : known.Known) (are : AreEntities rows old k.entities k.declared) (n line : ℕ) where
  among : (b : Test) → is_some (lookup (nat_eq n) old.declared.entries) ≡ b → is_declared_among n k.declared ≡ b
  among b e = sym (ap (is_declared_among n) are.first) ∙ sym (first-declared n old.declared.entries) ∙ e

  -- it is declared in the file already
  pub declared-before : is_some (lookup (nat_eq n) old.declared.entries) ≡ true → AreEntities rows old (known.declared_first n line k).entities (known.declared_first n line k).declared
  declared-before e =
      subst (λ b. AreEntities rows old (if b then k else record k { declared = k.declared ++ record { entity = n; line = line } ∷ [] }).entities
      (if b then k else record k { declared = k.declared ++ record { entity = n; line = line } ∷ [] }).declared)
      (sym (among true e)) are

  pub declared-now : is_some (lookup (nat_eq n) old.declared.entries) ≡ false
      → new.rows.items ≡ old.rows.items → new.declared.entries ≡ old.declared.entries ++ (n, line) ∷ [] → new.externals.entries ≡ old.externals.entries
      → AreEntities rows new (known.declared_first n line k).entities (known.declared_first n line k).declared
  declared-now e items declared externals =
      subst (λ b. AreEntities rows new (if b then k else record k { declared = k.declared ++ record { entity = n; line = line } ∷ [] }).entities
      (if b then k else record k { declared = k.declared ++ record { entity = n; line = line } ∷ [] }).declared)
      (sym (among false e)) (record {
        each = λ later more. ap (map _) items ∙ are.each later more;
        first = ap (map first_view) declared ∙ map-append first_view old.declared.entries ((n, line) ∷ []) ∙ ap (λ ds. ds ++ record { entity = n; line = line } ∷ []) are.first;
        externals = λ name. ap (lookup _) externals ∙ are.externals name;
      })
