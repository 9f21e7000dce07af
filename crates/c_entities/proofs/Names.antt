-- The numbers of names with external linkage.
use Rattle.std.proofs.Common.{arith, ◌≡◌, ℕ, suc, ◌+◌, Bool as Test, true, false, cond, ◌&&◌, if◌then◌else◌, List, [], ◌∷◌, ◌++◌, map, length, Option, Some, None, is_some, refl, sym, ◌∙◌, ap, subst, true≢false, Vec, Global}
use Rattle.std.specs.Str.{bytes_eq}
use Rattle.std.specs.Map.{lookup}
use Rattle.std.proofs.lemmas.Slice.Eq.{bytes_eq-Decides}
use Rattle.typing_rules.specs.Known as known
use Rattle.typing_rules.specs.Known.{external_from}
use Rattle.c_entities.specs.Views.{has_name, or_else, IsNumbered}

and-true : (b : Test) → (b && true) ≡ b
and-true true = refl
and-true false = refl

and-false : (b : Test) → (b && false) ≡ false
and-false true = refl
and-false false = refl

or-none : (o : Option ℕ) → or_else o None ≡ o
or-none None = refl
or-none (Some n) = refl

behind : (b : Test) (v : ℕ) (o p : Option ℕ) → cond b (Some v) (or_else o p) ≡ or_else (cond b (Some v) o) p
behind true v o p = refl
behind false v o p = refl

lookup-push : (other : List ℕ) (es : List (Vec ℕ Global × ℕ)) (key : Vec ℕ Global) (v : ℕ)
    → lookup (has_name other) (es ++ (key, v) ∷ []) ≡ or_else (lookup (has_name other) es) (if bytes_eq other key.items then Some v else None)
lookup-push other [] key v = refl
lookup-push other (x ∷ es) key v =
    ap (λ r. cond (has_name other x.0) (Some x.1) r) (lookup-push other es key v)
    ∙ behind (has_name other x.0) x.1 (lookup (has_name other) es) (if bytes_eq other key.items then Some v else None)

-- a name behind the others
pub numbered-push : (old new : List (Vec ℕ Global × ℕ)) (key : Vec ℕ Global) (name : List ℕ) (number : ℕ)
    → new ≡ old ++ (key, number) ∷ [] → key.items ≡ name → IsNumbered old new name true number
numbered-push old new key name number e same other =
    ap (lookup (has_name other)) e ∙ lookup-push other old key number
    ∙ ap (λ b. or_else (lookup (has_name other) old) (if b then Some number else None)) (ap (bytes_eq other) same ∙ sym (and-true (bytes_eq other name)))

-- a name that has a number keeps it
pub numbered-before : (es : List (Vec ℕ Global × ℕ)) (name : List ℕ) (number : ℕ) → is_some (lookup (has_name name) es) ≡ true → IsNumbered es es name true number
numbered-before es name number there other = by (bytes_eq other name) refl
  where
    kept : (o p : Option ℕ) → is_some o ≡ true → o ≡ or_else o p
    kept None p e = absurd (true≢false (sym e))
    kept (Some n) p e = refl

    by : (b : Test) → bytes_eq other name ≡ b → lookup (has_name other) es ≡ or_else (lookup (has_name other) es) (if bytes_eq other name && true then Some number else None)
    by true e = kept (lookup (has_name other) es) _ (ap (λ n. is_some (lookup (has_name n) es)) ((bytes_eq-Decides other name).0 e) ∙ there)
    by false e = sym (ap (λ b. or_else (lookup (has_name other) es) (if b && true then Some number else None)) e ∙ or-none (lookup (has_name other) es))

-- a name without external linkage has none
pub not-numbered : (es : List (Vec ℕ Global × ℕ)) (name : List ℕ) (number : ℕ) → IsNumbered es es name false number
not-numbered es name number other =
    sym (ap (λ b. or_else (lookup (has_name other) es) (if b then Some number else None)) (and-false (bytes_eq other name)) ∙ or-none (lookup (has_name other) es))

chosen : (b : Test) (m : ℕ) (o p : Option ℕ) → (if b then Some m else or_else o p) ≡ or_else (if b then Some m else o) p
chosen true m o p = refl
chosen false m o p = refl

pub external-push : (m : ℕ) (name : List ℕ) (es : List known.Entity) (e : known.Entity)
    → external_from m name (es ++ e ∷ []) ≡ or_else (external_from m name es) (if bytes_eq name e.name && e.is_external then Some (m + length es) else None)
external-push m name [] e = let same : m ≡ m + 0 = omega arith in ap (λ n. if bytes_eq name e.name && e.is_external then Some n else None) same
external-push m name (x ∷ es) e =
    let same : suc m + length es ≡ m + suc (length es) = omega arith in
    ap (λ r. if bytes_eq name x.name && x.is_external then Some m else r)
    (external-push (suc m) name es e ∙ ap (λ n. or_else (external_from (suc m) name es) (if bytes_eq name e.name && e.is_external then Some n else None)) same)
    ∙ chosen (bytes_eq name x.name && x.is_external) m (external_from (suc m) name es) (if bytes_eq name e.name && e.is_external then Some (m + suc (length es)) else None)
