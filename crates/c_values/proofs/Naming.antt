-- What a name or `*` designates, by whether its type is a function's.
use Rattle.std.proofs.Common.{◌≡◌, ℕ, Bool as Test, false, refl, true≢false}
use Rattle.c_types.specs.declared.qualifiers.Qualifiers.{Qualifiers}
use Rattle.c_types.specs.Types.{CType, void, integer, pointer, array, returning, taking, Qualified, is_function}
use Rattle.c_typed.specs.Typed.{Value, place, static, pointed}
use Rattle.typing_rules.specs.Terms as terms

linked-by : (line n : ℕ) (k : Qualifiers) (t : CType) (main : Test) → is_function t ≡ false
    → terms.object (place line (record { qualifiers = k; type = t }) (static n)) ≡ terms.linked_term line n (record { qualifiers = k; type = t }) main
linked-by line n k void main e = refl
linked-by line n k (integer ty) main e = refl
linked-by line n k (pointer r t) main e = refl
linked-by line n k (array r t n') main e = refl
linked-by line n k (returning r t) main e = absurd (true≢false e)
linked-by line n k (taking p t) main e = absurd (true≢false e)

pub linked-object : (line n : ℕ) (q : Qualified) (main : Test) → is_function q.type ≡ false → terms.object (place line q (static n)) ≡ terms.linked_term line n q main
linked-object line n q main e = linked-by line n q.qualifiers q.type main e

pointed-by : (line : ℕ) (v : Value) (k : Qualifiers) (t : CType) → is_function t ≡ false
    → terms.object (place line (record { qualifiers = k; type = t }) (pointed v)) ≡ terms.pointed_term line v (record { qualifiers = k; type = t })
pointed-by line v k void e = refl
pointed-by line v k (integer ty) e = refl
pointed-by line v k (pointer r t) e = refl
pointed-by line v k (array r t n') e = refl
pointed-by line v k (returning r t) e = absurd (true≢false e)
pointed-by line v k (taking p t) e = absurd (true≢false e)

pub pointed-object : (line : ℕ) (v : Value) (q : Qualified) → is_function q.type ≡ false → terms.object (place line q (pointed v)) ≡ terms.pointed_term line v q
pointed-object line v q e = pointed-by line v q.qualifiers q.type e
