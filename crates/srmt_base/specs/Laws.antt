-- Laws by which a reader can trust the definitions of values, arithmetic and words.
use Rattle.std.specs.Prelude.{◌≡◌, ◌≢◌, ℕ, ◌*◌, ◌^◌, ◌<◌, ℤ, pos, ◌+ℤ◌, ◌*ℤ◌, IsTrue, not, ◌⊎◌, ◌↔◌, Ok}
use Rattle.srmt_base.specs.declared.op.Op.TheVariants.{Div, Rem, Lt, Gt, Le, Ge, Eq, Ne}
use Rattle.srmt_base.specs.declared.ty.Ty.{Ty}
use Rattle.srmt_base.specs.declared.ty.Ty.TheVariants.{Bool}
use Rattle.srmt_base.specs.declared.word.Kind.{Kind}
use Rattle.srmt_base.specs.Types.{width_of, value_at, can_hold}
use Rattle.srmt_base.specs.Arith.{arith_of, compares}
use Rattle.srmt_base.specs.Convert.{convert_of}
use Rattle.srmt_base.specs.Word.{kind_code, word_of, kind_part, site_part, value_part, IsWord}

-- two numbers differ by a multiple of 2^w
abbrev pub IsCongruent : ℕ → ℤ → ℤ → Type 0
IsCongruent w x y = (j : ℕ) × ((k : ℕ) × (x +ℤ pos (j * 2 ^ w) ≡ y +ℤ pos (k * 2 ^ w)))

-- what a number is after a conversion from a type to another, beside what it was
pub record ConvertsAsC (from to : Ty) (a : ℕ) : Type 0 where
  -- the result is a value of the type
  pub held : IsTrue (can_hold to (value_at to (convert_of from to a)))
  -- a value that the type can represent is kept (C11 6.3.1.3p1)
  pub same : IsTrue (can_hold to (value_at from a)) → value_at to (convert_of from to a) ≡ value_at from a
  -- and any other changes by a multiple of 2 to the width (C11 6.3.1.3p2)
  pub congruent : to ≢ Bool → IsCongruent (width_of to) (value_at to (convert_of from to a)) (value_at from a)

-- a quotient and a remainder make up the dividend again (C11 6.5.5p6)
abbrev pub Recombines : Ty → ℕ → ℕ → Type 0
Recombines ty a b =
    (q r : ℕ) → arith_of Div ty a b ≡ Ok q → arith_of Rem ty a b ≡ Ok r
    → value_at ty q *ℤ value_at ty b +ℤ value_at ty r ≡ value_at ty a

-- the comparisons are the total order of whole numbers
pub record OrdersValues (x y z : ℤ) : Type 0 where
  pub reflexive : IsTrue (compares Le x x)
  pub antisymmetric : IsTrue (compares Le x y) → IsTrue (compares Le y x) → x ≡ y
  pub transitive : IsTrue (compares Le x y) → IsTrue (compares Le y z) → IsTrue (compares Le x z)
  pub total : IsTrue (compares Le x y) ⊎ IsTrue (compares Le y x)
  pub less : compares Lt x y ≡ not (compares Le y x)
  pub greater : compares Gt x y ≡ compares Lt y x
  pub at_least : compares Ge x y ≡ compares Le y x
  pub equal : IsTrue (compares Eq x y) ↔ (x ≡ y)
  pub unequal : compares Ne x y ≡ not (compares Eq x y)

-- a word gives its parts back
pub record GivesParts (kind : Kind) (site value : ℕ) : Type 0 where
  pub a_word : IsWord (word_of kind site value)
  pub fits : word_of kind site value < 2 ^ 64
  pub kind_given : kind_part (word_of kind site value) ≡ kind_code kind
  pub site_given : site_part (word_of kind site value) ≡ site
  pub value_given : value_part (word_of kind site value) ≡ value

-- a number is the word of its parts, and of one kind alone
pub record IsItsParts (bits : ℕ) : Type 0 where
  pub kind : Kind
  pub parts : word_of kind (site_part bits) (value_part bits) ≡ bits
  pub alone : (other : Kind) → kind_code other ≡ kind_part bits → other ≡ kind
