-- The first token of a kind in the parts of a declarator.
use Rattle.std.proofs.Common.{◌≡◌, ℕ, suc, ◌+◌, ◌<◌, ◌≤◌, List, [], ◌∷◌, map, length, drop, get_or, Option, Some, None, refl, sym, ap, ◌∙◌, subst, drop-cons, add-one}
use Rattle.std.proofs.Math.ListN.{drop_of_length-le}
use Rattle.c_tree.specs.declared.specifier.Pointer.{Pointer}
use Rattle.c_tree.specs.declared.expression.Suffix as tree_suffix
use Rattle.c_tree.specs.declared.expression.Suffix.TheVariants as s
use Rattle.c_tree.specs.declared.expression.Expr as tree_expr
use Rattle.c_tree.specs.declared.expression.Parameter as tree_parameter
use Rattle.c_tree.specs.declared.expression.Declarator as tree_declarator
use Rattle.typing_rules.specs.Source.{Parts, pointer_part}
use Rattle.typing_rules.specs.SourceViews.{suffix_view, all_parts, pointers_from, qualifiers_from}
use Rattle.typing_rules.proofs.SourceViewLaws.{view_unsized, view_sized, view_function}
use Rattle.c_declarators.specs.declared.mark.Mark.{Mark}
use Rattle.c_declarators.specs.declared.mark.Mark.TheVariants.{Bracket, Parenthesis}
use Rattle.c_declarators.specs.Trees.{first_line, IsFirst, behind}

-- ---- of a suffix

pub array-bracket : (shift : ℕ → ℕ) (x : tree_suffix.Suffix) (line : ℕ) (e : Option tree_expr.Expr) → x ≡ s.Array line e → IsFirst Bracket (Some (shift line)) (suffix_view shift x)
array-bracket shift x line None is = λ rest other. ap (λ y. first_line Bracket (suffix_view shift y rest) other) is ∙ ap (λ p. first_line Bracket p other) (view_unsized shift line rest)
array-bracket shift x line (Some e) is = λ rest other. ap (λ y. first_line Bracket (suffix_view shift y rest) other) is ∙ ap (λ p. first_line Bracket p other) (view_sized shift line e rest)

pub array-parenthesis : (shift : ℕ → ℕ) (x : tree_suffix.Suffix) (line : ℕ) (e : Option tree_expr.Expr) → x ≡ s.Array line e → IsFirst Parenthesis None (suffix_view shift x)
array-parenthesis shift x line None is = λ rest other. ap (λ y. first_line Parenthesis (suffix_view shift y rest) other) is ∙ ap (λ p. first_line Parenthesis p other) (view_unsized shift line rest)
array-parenthesis shift x line (Some e) is = λ rest other. ap (λ y. first_line Parenthesis (suffix_view shift y rest) other) is ∙ ap (λ p. first_line Parenthesis p other) (view_sized shift line e rest)

pub function-mark : (shift : ℕ → ℕ) (x : tree_suffix.Suffix) (line : ℕ) (ps : List tree_parameter.Parameter) → x ≡ s.Function line ps
    → IsFirst Bracket None (suffix_view shift x) × IsFirst Parenthesis (Some (shift line)) (suffix_view shift x)
function-mark shift x line ps is = (
  λ rest other. ap (λ y. first_line Bracket (suffix_view shift y rest) other) is ∙ ap (λ p. first_line Bracket p other) (view_function shift line ps rest),
  λ rest other. ap (λ y. first_line Parenthesis (suffix_view shift y rest) other) is ∙ ap (λ p. first_line Parenthesis p other) (view_function shift line ps rest),
)

-- ---- of parts one behind the other

abbrev pub or_after : Option ℕ → Option ℕ → Option ℕ
or_after None after = after
or_after (Some line) after = Some line

pub first-joined : (mark : Mark) (a b : Option ℕ) (f g : Parts → Parts) → IsFirst mark a f → IsFirst mark b g → IsFirst mark (or_after a b) (λ rest. f (g rest))
first-joined mark None b f g h k = λ rest other. h (g rest) other ∙ k rest other
first-joined mark (Some line) b f g h k = λ rest other. h (g rest) other

pub first-nothing : (mark : Mark) → IsFirst mark None (λ rest. rest)
first-nothing mark = λ rest other. refl

pointer-first : (mark : Mark) (p : Pointer) (rest : Parts) (other : ℕ) → first_line mark (pointer_part (qualifiers_from p) rest) other ≡ first_line mark rest other
pointer-first Bracket p rest other = refl
pointer-first Parenthesis p rest other = refl

pub first-pointers : (mark : Mark) (ps : List Pointer) → IsFirst mark None (pointers_from ps)
first-pointers mark [] = λ rest other. refl
first-pointers mark (p ∷ ps) = λ rest other. first-pointers mark ps (pointer_part (qualifiers_from p) rest) other ∙ pointer-first mark p rest other

-- what stands behind the middle of a declarator
pub first-behind : (mark : Mark) (shift : ℕ → ℕ) (x : tree_declarator.Declarator) (a : Option ℕ) → IsFirst mark a (all_parts (map (suffix_view shift) x.suffixes)) → IsFirst mark a (behind shift x)
first-behind mark shift x None h = first-joined mark None None (all_parts (map (suffix_view shift) x.suffixes)) (pointers_from x.pointers) h (first-pointers mark x.pointers)
first-behind mark shift x (Some line) h = first-joined mark (Some line) None (all_parts (map (suffix_view shift) x.suffixes)) (pointers_from x.pointers) h (first-pointers mark x.pointers)

-- the same parts, written in another way
pub first-same : (mark : Mark) (a : Option ℕ) (f g : Parts → Parts) → ((rest : Parts) → f rest ≡ g rest) → IsFirst mark a g → IsFirst mark a f
first-same mark a f g same h = λ rest other. ap (λ p. first_line mark p other) (same rest) ∙ h rest other

-- ---- of suffixes from one on

from-one-on : (xs : List tree_suffix.Suffix) (i : ℕ) (x : tree_suffix.Suffix) → i < length xs → x ≡ get_or xs i x → drop i xs ≡ x ∷ drop (i + 1) xs
from-one-on xs i x below is = drop-cons xs i x below ∙ ap (λ y. y ∷ drop (suc i) xs) (sym is) ∙ ap (λ n. x ∷ drop n xs) (sym (add-one i))

pub first-from : (mark : Mark) (shift : ℕ → ℕ) (xs : List tree_suffix.Suffix) (i : ℕ) (x : tree_suffix.Suffix) (a b : Option ℕ) → i < length xs → x ≡ get_or xs i x
    → IsFirst mark b (suffix_view shift x) → IsFirst mark a (all_parts (map (suffix_view shift) (drop (i + 1) xs)))
    → IsFirst mark (or_after b a) (all_parts (map (suffix_view shift) (drop i xs)))
first-from mark shift xs i x a b below is h k =
    subst (λ ys. IsFirst mark (or_after b a) (all_parts (map (suffix_view shift) ys))) (sym (from-one-on xs i x below is))
    (first-joined mark b a (suffix_view shift x) (all_parts (map (suffix_view shift) (drop (i + 1) xs))) h k)

pub first-found : (mark : Mark) (shift : ℕ → ℕ) (xs : List tree_suffix.Suffix) (i : ℕ) (x : tree_suffix.Suffix) (line : ℕ) → i < length xs → x ≡ get_or xs i x
    → IsFirst mark (Some line) (suffix_view shift x) → IsFirst mark (Some line) (all_parts (map (suffix_view shift) (drop i xs)))
first-found mark shift xs i x line below is h =
    subst (λ ys. IsFirst mark (Some line) (all_parts (map (suffix_view shift) ys))) (sym (from-one-on xs i x below is))
    (λ rest other. h (all_parts (map (suffix_view shift) (drop (i + 1) xs)) rest) other)

pub first-of-none : (mark : Mark) (shift : ℕ → ℕ) (xs : List tree_suffix.Suffix) (i : ℕ) → length xs ≤ i → IsFirst mark None (all_parts (map (suffix_view shift) (drop i xs)))
first-of-none mark shift xs i past = subst (λ ys. IsFirst mark None (all_parts (map (suffix_view shift) ys))) (sym (drop_of_length-le xs past)) (λ rest other. refl)

pub only-none : (r : Option ℕ) → ((n : ℕ) → r ≡ Some n → ⊥) → r ≡ None
only-none None other = refl
only-none (Some n) other = absurd (other n refl)
