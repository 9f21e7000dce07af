-- Lists that begin alike.
use Rattle.std.proofs.Common.{◌≡◌, ℕ, ◌≤◌, List, [], ◌∷◌, ◌++◌, length, take, drop, refl, sym, ap, ◌∙◌, arith, length-append, append_assoc, append-nil, take-append-drop}
use Rattle.std.proofs.lemmas.List.{append_cancel_left}
use Rattle.pair_core.specs.Fit.{IsPrefix}

pub prefix_refl : {A : Type 0} (xs : List A) → IsPrefix xs xs
prefix_refl xs = ([], sym (append-nil xs))

pub prefix_trans : {A : Type 0} (xs ys zs : List A) → IsPrefix xs ys → IsPrefix ys zs → IsPrefix xs zs
prefix_trans xs ys zs p q = (p.0 ++ q.0, q.1 ∙ ap (λ t. t ++ q.0) p.1 ∙ append_assoc xs p.0 q.0)

pub prefix_take : {A : Type 0} (xs ys : List A) (n : ℕ) → IsPrefix (xs ++ take n ys) (xs ++ ys)
prefix_take xs ys n = (drop n ys, ap (λ t. xs ++ t) (sym (take-append-drop n ys)) ∙ sym (append_assoc xs (take n ys) (drop n ys)))

pub prefix_length : {A : Type 0} (xs ys : List A) → IsPrefix xs ys → length xs ≤ length ys
prefix_length xs ys p = omega (arith, ap length p.1, length-append xs p.0)

-- a list that is no longer for what was added had nothing added
pub none_added : {A : Type 0} (xs ys : List A) → length (xs ++ ys) ≤ length xs → ys ≡ []
none_added xs [] h = refl
none_added xs (y ∷ ys) h = absurd (omega (arith, length-append xs (y ∷ ys)))

pub same_next : {A : Type 0} (xs ss ts : List A) (x y : A) → xs ++ x ∷ ss ≡ xs ++ y ∷ ts → x ≡ y
same_next xs ss ts x y h = let e = append_cancel_left xs (x ∷ ss) (y ∷ ts) h in cc

-- the next element of two lists that begin a third
pub next_of_two : {A : Type 0} (xs rest zs : List A) (x y : A) → IsPrefix (xs ++ x ∷ []) zs → IsPrefix (xs ++ y ∷ rest) zs → x ≡ y
next_of_two xs rest zs x y p q =
    same_next xs p.0 (rest ++ q.0) x y (sym (append_assoc xs (x ∷ []) p.0) ∙ sym p.1 ∙ q.1 ∙ append_assoc xs (y ∷ rest) q.0)
