-- Types of functions, each once: what inserting the reference of a type makes of references that stand for types.
use Rattle.std.proofs.Common.{◌≡◌, ℕ, suc, ◌+◌, ◌<◌, Bool, true, false, not, ◌||◌, cond, if◌then◌else◌, List, [], ◌∷◌, ◌++◌, length, map, drop, get_or, refl, sym, ◌∙◌, ap, subst, arith}
use Rattle.std.specs.List.{list_any, position_or_len}
use Rattle.std.proofs.lemmas.List.Elements.{All-push}
use Rattle.std.proofs.Math.Seq.{drop-cons}
use Rattle.indexmap.specs.IndexSet.{insert_key}
use Rattle.c_types.specs.declared.type_ref.TypeRef.{TypeRef}
use Rattle.c_types.specs.declared.type_ref.Row.{Row}
use Rattle.c_types.specs.contracts.type_ref.TypeRefPartialEq.TheImpl as reference
use Rattle.c_types.specs.contracts.type_ref.TypeRefEq.TheImpl.Laws.{laws-law}
use Rattle.c_types.specs.Types.{CType, same_type}
use Rattle.c_types.specs.Table.{type_at, Stands}
use Rattle.c_types.proofs.Grown.{Extends-refl}
use Rattle.c_types.proofs.Rows.{same_ref}
use Rattle.c_types.proofs.Same.{one-type, type-itself}
use Rattle.c_typed.specs.declared.program.Function.{Function as CodeFunction}
use Rattle.c_typed.specs.StatementViews.{function_view}
use Rattle.lower.specs.Emitting.{with_type, place_of_type}
use Rattle.lower.specs.Emits.{AllStand}
use Rattle.lower.specs.Programs.{all_types}

-- whether two references are the same
abbrev pub same_reference : TypeRef → TypeRef → Bool
same_reference = (reference.eq-value).it

same-test : (x y : Bool) → (x ≡ true → y ≡ true) → (y ≡ true → x ≡ true) → x ≡ y
same-test true y f g = sym (f refl)
same-test false true f g = g refl
same-test false false f g = refl

first-stands : (rows : List Row) (x : TypeRef) (xs : List TypeRef) → AllStand rows (x ∷ xs) → Stands rows x (type_at rows x)
first-stands rows x xs all = all 0 x (omega arith)

others-stand : (rows : List Row) (x : TypeRef) (xs : List TypeRef) → AllStand rows (x ∷ xs) → AllStand rows xs
others-stand rows x xs all = λ k d below. all (suc k) d (omega (arith, below))

-- the reference of a type, which no other reference stands for
module _ (rows : List Row) (r : TypeRef) (t : CType) (stands : Stands rows r t) (one : (other : TypeRef) → Stands rows other t → other ≡ r) where
  one-test : (x : TypeRef) → Stands rows x (type_at rows x) → same_reference r x ≡ same_type t (type_at rows x)
  one-test x is =
      same-test _ _
      (λ e. subst (λ v. same_type t v ≡ true) (sym (stands.always rows (Extends-refl rows)) ∙ ap (type_at rows) (same_ref r x e)) (type-itself t))
      (λ e. subst (λ y. same_reference r y ≡ true) (sym (one x (subst (Stands rows x) (sym (one-type t (type_at rows x) e)) is))) (laws-law.refl r))

  -- the references then are those of the types with this one
  pub inserted-types : (keys : List TypeRef) → AllStand rows keys
      → map (type_at rows) (insert_key same_reference keys r) ≡ with_type t (map (type_at rows) keys)
  inserted-types [] all = ap (λ u. u ∷ []) (stands.always rows (Extends-refl rows))
  inserted-types (x ∷ xs) all =
      by (same_reference r x) (list_any (same_reference r) xs) (inserted-types xs (others-stand rows x xs all))
      ∙ ap (λ b. if b then type_at rows x ∷ map (type_at rows) xs else type_at rows x ∷ with_type t (map (type_at rows) xs))
      (one-test x (first-stands rows x xs all))
    where
      by : (b c : Bool) → map (type_at rows) (if c then xs else xs ++ r ∷ []) ≡ with_type t (map (type_at rows) xs)
          → map (type_at rows) (if b || c then x ∷ xs else x ∷ xs ++ r ∷ [])
          ≡ (if b then type_at rows x ∷ map (type_at rows) xs else type_at rows x ∷ with_type t (map (type_at rows) xs))
      by true c h = refl
      by false true h = ap (λ us. type_at rows x ∷ us) h
      by false false h = ap (λ us. type_at rows x ∷ us) h

  -- each of which stands
  pub inserted-stand : (keys : List TypeRef) → AllStand rows keys → AllStand rows (insert_key same_reference keys r)
  inserted-stand keys all = by (list_any (same_reference r) keys)
    where
      by : (b : Bool) → AllStand rows (if b then keys else keys ++ r ∷ [])
      by true = all
      by false =
          All-push (λ x. Stands rows x (type_at rows x)) keys r all
          (subst (Stands rows r) (sym (stands.always rows (Extends-refl rows))) stands)

  inserted-at : (keys : List TypeRef) (n : ℕ) → AllStand rows keys
      → n + position_or_len (same_reference r) keys ≡ place_of_type t n (with_type t (map (type_at rows) keys))
  inserted-at [] n all = plus-zero n ∙ sym (ap (λ b. if b then n else suc n) (type-itself t))
    where
      plus-zero : (n : ℕ) → n + 0 ≡ n
      plus-zero n = omega arith
  inserted-at (x ∷ xs) n all =
      by (same_reference r x) (same_type t u) refl (one-test x (first-stands rows x xs all)) (inserted-at xs (suc n) (others-stand rows x xs all))
    where
      u : CType
      u = type_at rows x

      us : List CType
      us = map (type_at rows) xs

      p : ℕ
      p = position_or_len (same_reference r) xs

      plus-zero : (n : ℕ) → n + 0 ≡ n
      plus-zero n = omega arith

      plus-one : (n p : ℕ) → n + (1 + p) ≡ suc n + p
      plus-one n p = omega arith

      by : (b c : Bool) → c ≡ same_type t u → b ≡ c → suc n + p ≡ place_of_type t (suc n) (with_type t us)
          → n + cond (not b) (1 + p) 0 ≡ place_of_type t n (if c then u ∷ us else u ∷ with_type t us)
      by true true e f h = plus-zero n ∙ ap (λ s. if s then n else place_of_type t (suc n) us) e
      by false false e f h = plus-one n p ∙ h ∙ ap (λ s. if s then n else place_of_type t (suc n) (with_type t us)) e
      by true false e f h = absurd (cc f)
      by false true e f h = absurd (cc f)

  -- and its place is that of the type
  pub inserted-place : (keys : List TypeRef) → AllStand rows keys
      → position_or_len (same_reference r) keys ≡ place_of_type t 0 (with_type t (map (type_at rows) keys))
  inserted-place keys all = zero-plus (position_or_len (same_reference r) keys) ∙ inserted-at keys 0 all
    where
      zero-plus : (n : ℕ) → n ≡ 0 + n
      zero-plus n = omega arith

-- one function more
pub next-type : (rows : List Row) (fs : List CodeFunction) (i : ℕ) (f : CodeFunction) → i < length fs → f ≡ get_or fs i f → (ts : List CType)
    → all_types (with_type (type_at rows f.ty) ts) (map (function_view (type_at rows)) (drop (i + 1) fs))
    ≡ all_types ts (map (function_view (type_at rows)) (drop i fs))
unfolding function_view
next-type rows fs i f within is ts =
    let next : suc i ≡ i + 1 = omega arith in
    sym (ap (λ l. all_types ts (map (function_view (type_at rows)) l))
    (drop-cons fs i f within ∙ (λ k. sym is k ∷ drop (next k) fs)))
