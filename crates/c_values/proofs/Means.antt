-- What nodes of the typed tree mean, from what their parts mean.
use Rattle.std.proofs.Common.{◌≡◌, ◌≢◌, ℕ, ◌==◌, Bool as Test, true, false, if◌then◌else◌, List, Result, bit_xor, refl, sym, ◌∙◌, ap, subst}
use Rattle.std.specs.Result.{IfOk}
use Rattle.std.specs.declared.alloc.AllocError.{AllocError}
use Rattle.std.proofs.lemmas.Result.{IfOk-weaker}
use Rattle.std.proofs.lemmas.Bool.{eqb-true}
use Rattle.srmt_base.specs.declared.ty.Ty.{Ty}
use Rattle.srmt_base.specs.declared.op.Op.{Op}
use Rattle.srmt_base.specs.declared.op.Op.TheVariants as op
use Rattle.srmt_base.specs.Arith.{arith_of}
use Rattle.srmt_base.specs.Convert.{convert_of}
use Rattle.c_types.specs.declared.type_ref.Row.{Row}
use Rattle.c_types.specs.declared.type_ref.TypeRef.{TypeRef}
use Rattle.c_types.specs.declared.type_ref.QualifiedRef.{QualifiedRef}
use Rattle.c_types.specs.declared.type_ref.TypeRef.TheVariants as ref
use Rattle.c_typed.specs.declared.value.ValueNode as value_node
use Rattle.c_typed.specs.declared.value.PlaceNode as place_node
use Rattle.c_types.specs.Types.{CType, Qualified, integer, ty_of, is_array, decayed}
use Rattle.c_types.specs.Table.{type_at, qualified_at, Extends, Stands, StandsFor}
use Rattle.c_types.proofs.Grown.{Extends-refl, Extends-trans}
use Rattle.c_types.proofs.Same.{one-ty}
use Rattle.srmt_base.specs.Types.{ty_code}
use Rattle.c_typed.specs.declared.constant.Constant.{Constant}
use Rattle.c_typed.specs.declared.constant.Constant.TheVariants.{Value as Known, NoForm}
use Rattle.c_typed.specs.declared.value.Value as v
use Rattle.c_typed.specs.declared.value.Place as p
use Rattle.c_typed.specs.declared.value.ValueNode.TheVariants as vn
use Rattle.c_typed.specs.Typed as tree
use Rattle.c_typed.specs.Typed.{Place, place, PlaceNode, Value, value, ValueNode, Values, null, read, first_element, address, function, minus, complement, negation, arithmetic, sum, difference, comparison, conjunction, disjunction, choice, sequence, assignment, update, move, conversion, to_bool, requalified, discarded, call, call_through, putchar, getchar, exit, type_of, start_of, place_type}
use Rattle.c_typed.specs.Constants.{constant_of, mapped, both, of_result, chosen, as_test, opposite}
use Rattle.c_typed.specs.Views.{value_node_view, place_view}
use Rattle.c_typed.proofs.ViewLaws.{view_value, view_place, view_conversion}
use Rattle.typing_rules.specs.Terms as terms
use Rattle.c_values.specs.Stand.{MeansValue, MeansPlace, MeansTyped, MeansWritten, Makes, IsMade, converted_value}
use Rattle.c_values.specs.Answers.{MeansNode}
use Rattle.c_values.specs.declared.typed.Typed.{Typed}
use Rattle.c_values.specs.declared.typed.Written.{Written}

-- the type of a value
pub type-of-means : (rows : List Row) (x : v.Value) (t : Value) → MeansValue rows x t → type_at rows x.ty ≡ type_of t
type-of-means rows x t m = ap type_of (sym (view_value (type_at rows) x) ∙ m.always rows (Extends-refl rows))

-- a conversion of an operand
pub conversion-means : (rows : List Row) (x y : v.Value) (t : terms.Written) (first : ℕ) (to : Ty)
    → x.line ≡ first → x.ty ≡ ref.Integer to → x.node ≡ vn.Conversion first y → first ≡ t.first → MeansValue rows y t.value → MeansValue rows x (converted_value to t)
conversion-means rows x y t first to line ty node at m = record {
  always = λ later more.
      view_value (type_at later) x
      ∙ (λ i. value (line i) (type_at later (ty i)) (value_node_view (type_at later) (node i)))
      ∙ ap (value first (integer to)) (view_conversion (type_at later) first y)
      ∙ (λ i. value (at i) (integer to) (conversion (at i) (m.always later more i)));
}

pub conversion-constant : (from to : Ty) (c d : Constant) (t : terms.Written) → c ≡ mapped (λ n. Known (convert_of from to n)) d → from ≡ ty_of (terms.written_type t) → d ≡ constant_of t.value
    → c ≡ constant_of (converted_value to t)
unfolding constant_of
conversion-constant from to c d t is same at = is ∙ (λ i. mapped (λ n. Known (convert_of (same i) to n)) (at i))

-- a test of two numbers
pub test-false : (m n : ℕ) → m ≢ n → (m == n) ≡ false
test-false m n e = by (m == n) refl
  where
    by : (b : Test) → (m == n) ≡ b → (m == n) ≡ false
    by true h = absurd (e (eqb-true m n h))
    by false h = h

-- the line of a value's first token
pub line-of-means : (rows : List Row) (x : v.Value) (t : Value) → MeansValue rows x t → x.line ≡ start_of t
line-of-means rows x t m = ap start_of (sym (view_value (type_at rows) x) ∙ m.always rows (Extends-refl rows))

-- a value that was made of parts whose meaning is known
pub made-means : (rows : List Row) (x : Typed) (line : ℕ) (ty : TypeRef) (node : value_node.ValueNode) (constant : Constant) → IsMade x line ty node constant
    → (t : CType) → Stands rows ty t → (at : ℕ) → line ≡ at → (n : ValueNode)
    → ((later : List Row) → Extends rows later → value_node_view (type_at later) node ≡ n)
    → constant ≡ constant_of (value at t n) → MeansTyped rows x (value at t n)
made-means rows x line ty node constant made t stands at same n means is = record {
  value = record {
    always = λ later more.
        view_value (type_at later) x.value
        ∙ (λ i. value (made.line_is i) (type_at later (made.ty_is i)) (value_node_view (type_at later) (made.node_is i)))
        ∙ (λ i. value (same i) (stands.always later more i) (means later more i));
  };
  constant = made.constant_is ∙ is;
}

pub no-constant-null : (line : ℕ) (t : CType) → NoForm ≡ constant_of (value line t null)
unfolding constant_of
no-constant-null line t = refl

pub no-constant-requalified : (line : ℕ) (t : CType) (e : Value) → NoForm ≡ constant_of (value line t (requalified e))
unfolding constant_of
no-constant-requalified line t e = refl

pub no-constant-to_bool : (line first : ℕ) (t : CType) (e : Value) → NoForm ≡ constant_of (value line t (to_bool first e))
unfolding constant_of
no-constant-to_bool line first t e = refl

pub arithmetic-constant : (op : Op) (at line : ℕ) (ty : Ty) (t : CType) (c d e : Constant) (v' w : Value) → c ≡ both (λ m n. of_result (arith_of op ty m n)) d e
    → d ≡ constant_of v' → e ≡ constant_of w → ty_of (type_of v') ≡ ty → c ≡ constant_of (value line t (arithmetic op at v' w))
unfolding constant_of
arithmetic-constant op at line ty t c d e v' w is left right same = is ∙ (λ i. both (λ m n. of_result (arith_of op (sym same i) m n)) (left i) (right i))

pub no-constant-sum : (line at : ℕ) (t : CType) (is_less first : Test) (a b : Value) → NoForm ≡ constant_of (value line t (sum at is_less first a b))
unfolding constant_of
no-constant-sum line at t is_less first a b = refl

pub no-constant-difference : (line at : ℕ) (t : CType) (a b : Value) → NoForm ≡ constant_of (value line t (difference at a b))
unfolding constant_of
no-constant-difference line at t a b = refl

pub no-constant-comparison : (op : Op) (line at : ℕ) (t : CType) (a b : Value) → NoForm ≡ constant_of (value line t (comparison op at a b))
unfolding constant_of
no-constant-comparison op line at t a b = refl

-- a reference to an integer type
pub integer-stands : (rows : List Row) (ty : Ty) → Stands rows (ref.Integer ty) (integer ty)
integer-stands rows ty = record { always = λ later more. refl }

-- the type at which a converted operand is
pub converted-type : (ty : Ty) (t : terms.Written) → ty_of (type_of (terms.converted ty t)) ≡ ty
converted-type ty t = by (ty_code (ty_of (terms.written_type t)) == ty_code ty) refl
  where
    by : (b : Test) → (ty_code (ty_of (terms.written_type t)) == ty_code ty) ≡ b → ty_of (type_of (if b then t.value else converted_value ty t)) ≡ ty
    by true e = one-ty (ty_of (terms.written_type t)) ty e
    by false e = refl

-- the reference that a value has stands for its type
pub stands-of-means : (rows : List Row) (x : v.Value) (t : Value) → MeansValue rows x t → Stands rows x.ty (type_of t)
stands-of-means rows x t m = record { always = λ later more. ap type_of (sym (view_value (type_at later) x) ∙ m.always later more) }

-- what is made of parts whose meaning is known
pub makes : (rows : List Row) (r : Result Typed AllocError) (line : ℕ) (ty : TypeRef) (node : value_node.ValueNode) (constant : Constant)
    → IfOk r (λ x. IsMade x line ty node constant) → (t : CType) → Stands rows ty t → (at : ℕ) → line ≡ at → (n : ValueNode)
    → ((later : List Row) → Extends rows later → value_node_view (type_at later) node ≡ n)
    → constant ≡ constant_of (value at t n) → Makes rows r (value at t n)
makes rows r line ty node constant made t stands at same n means is =
    IfOk-weaker r _ _ (λ x m. made-means rows x line ty node constant m t stands at same n means is) made

-- the type of an operand, as it is read
pub got-type : (rows : List Row) (y x : v.Value) (t : Value) → y ≡ x → MeansValue rows x t → type_at rows y.ty ≡ type_of t
got-type rows y x t is m = ap (λ z. type_at rows z.ty) is ∙ type-of-means rows x t m

pub got-stands : (rows : List Row) (y x : v.Value) (t : Value) → y ≡ x → MeansValue rows x t → Stands rows y.ty (type_of t)
got-stands rows y x t is m = subst (λ z. Stands rows z.ty (type_of t)) (sym is) (stands-of-means rows x t m)

pub minus-constant : (ty : Ty) (line : ℕ) (c d : Constant) (w : Value) → c ≡ mapped (λ n. of_result (arith_of op.Sub ty 0 n)) d → d ≡ constant_of w
    → c ≡ constant_of (value line (integer ty) (minus w))
unfolding constant_of
minus-constant ty line c d w is at = is ∙ ap (mapped (λ n. of_result (arith_of op.Sub ty 0 n))) at

pub complement-constant : (line : ℕ) (t : CType) (c d : Constant) (w : Value) → c ≡ mapped (λ n. Known (bit_xor n 4294967295)) d → d ≡ constant_of w
    → c ≡ constant_of (value line t (complement w))
unfolding constant_of
complement-constant line t c d w is at = is ∙ ap (mapped (λ n. Known (bit_xor n 4294967295))) at

pub negation-constant : (line : ℕ) (t : CType) (c d : Constant) (w : Value) → c ≡ opposite d → d ≡ constant_of w
    → c ≡ constant_of (value line t (negation w))
unfolding constant_of
negation-constant line t c d w is at = is ∙ ap opposite at

pub conjunction-constant : (line : ℕ) (t : CType) (c d e s : Constant) (v' w : Value) → c ≡ chosen d s (Known 0) → s ≡ as_test e → d ≡ constant_of v' → e ≡ constant_of w
    → c ≡ constant_of (value line t (conjunction v' w))
unfolding constant_of
conjunction-constant line t c d e s v' w is second left right = is ∙ (λ i. chosen (left i) ((second ∙ ap as_test right) i) (Known 0))

pub disjunction-constant : (line : ℕ) (t : CType) (c d e s : Constant) (v' w : Value) → c ≡ chosen d (Known 1) s → s ≡ as_test e → d ≡ constant_of v' → e ≡ constant_of w
    → c ≡ constant_of (value line t (disjunction v' w))
unfolding constant_of
disjunction-constant line t c d e s v' w is second left right = is ∙ (λ i. chosen (left i) (Known 1) ((second ∙ ap as_test right) i))

pub number-constant : (line : ℕ) (ty : Ty) (n : ℕ) → Known n ≡ constant_of (value line (integer ty) (tree.constant n))
unfolding constant_of
number-constant line ty n = refl

pub no-constant-read : (line : ℕ) (t : CType) (q : Place) → NoForm ≡ constant_of (value line t (read q))
unfolding constant_of
no-constant-read line t q = refl

pub no-constant-first_element : (line : ℕ) (t : CType) (q : Place) → NoForm ≡ constant_of (value line t (first_element q))
unfolding constant_of
no-constant-first_element line t q = refl

pub no-constant-address : (line : ℕ) (t : CType) (q : Place) → NoForm ≡ constant_of (value line t (address q))
unfolding constant_of
no-constant-address line t q = refl

pub no-constant-function : (line : ℕ) (t : CType) (n : ℕ) → NoForm ≡ constant_of (value line t (function n))
unfolding constant_of
no-constant-function line t n = refl

pub no-constant-discarded : (line : ℕ) (t : CType) (e : Value) → NoForm ≡ constant_of (value line t (discarded e))
unfolding constant_of
no-constant-discarded line t e = refl

pub no-constant-assignment : (line : ℕ) (t : CType) (q : Place) (e : Value) → NoForm ≡ constant_of (value line t (assignment q e))
unfolding constant_of
no-constant-assignment line t q e = refl

pub no-constant-update : (line : ℕ) (t : CType) (q : Place) (e : Value) (is_after : Test) (first : ℕ) (o : Op) (at : ℕ) (ty : Ty)
    → NoForm ≡ constant_of (value line t (update is_after q first o at ty e))
unfolding constant_of
no-constant-update line t q e is_after first o at ty = refl

pub no-constant-move : (line : ℕ) (t : CType) (q : Place) (e : Value) (is_after is_less : Test) (at : ℕ) → NoForm ≡ constant_of (value line t (move is_after q is_less at e))
unfolding constant_of
no-constant-move line t q e is_after is_less at = refl

pub no-constant-sequence : (line : ℕ) (t : CType) (es : Values) (e : Value) → NoForm ≡ constant_of (value line t (sequence es e))
unfolding constant_of
no-constant-sequence line t es e = refl

pub no-constant-call : (line at n : ℕ) (t : CType) (es : Values) → NoForm ≡ constant_of (value line t (call at n es))
unfolding constant_of
no-constant-call line at n t es = refl

pub no-constant-call_through : (line at : ℕ) (t : CType) (e : Value) (es : Values) → NoForm ≡ constant_of (value line t (call_through at e es))
unfolding constant_of
no-constant-call_through line at t e es = refl

pub no-constant-putchar : (line at : ℕ) (t : CType) (e : Value) → NoForm ≡ constant_of (value line t (putchar at e))
unfolding constant_of
no-constant-putchar line at t e = refl

pub no-constant-getchar : (line at : ℕ) (t : CType) → NoForm ≡ constant_of (value line t (getchar at))
unfolding constant_of
no-constant-getchar line at t = refl

pub no-constant-exit : (line at : ℕ) (t : CType) (e : Value) → NoForm ≡ constant_of (value line t (exit at e))
unfolding constant_of
no-constant-exit line at t e = refl

-- the type of a place
pub type-of-place : (rows : List Row) (x : p.Place) (q : Place) → MeansPlace rows x q → StandsFor rows x.ty (place_type q)
type-of-place rows x q m = record {
  qualifiers = ap (λ z. (place_type z).qualifiers) (sym (view_place (type_at rows) x) ∙ m.always rows (Extends-refl rows));
  type = record { always = λ later more. ap (λ z. (place_type z).type) (sym (view_place (type_at later) x) ∙ m.always later more) };
}

-- the line of a place's first token
abbrev pub place_line : Place → ℕ
place_line (place line type node) = line

pub line-of-place : (rows : List Row) (x : p.Place) (q : Place) → MeansPlace rows x q → x.line ≡ place_line q
line-of-place rows x q m = ap place_line (sym (view_place (type_at rows) x) ∙ m.always rows (Extends-refl rows))

-- the line and the type of a place, as they are read
pub got-line : (rows : List Row) (y x : p.Place) (q : Place) → y ≡ x → MeansPlace rows x q → y.line ≡ place_line q
got-line rows y x q is m = ap (λ z. z.line) is ∙ line-of-place rows x q m

pub got-place : (rows : List Row) (y x : p.Place) (q : Place) → y ≡ x → MeansPlace rows x q → StandsFor rows y.ty (place_type q)
got-place rows y x q is m = subst (λ z. StandsFor rows z.ty (place_type q)) (sym is) (type-of-place rows x q m)

-- the type for which a reference stands
pub stands-now : (rows : List Row) (r : TypeRef) (t : CType) → Stands rows r t → type_at rows r ≡ t
stands-now rows r t s = s.always rows (Extends-refl rows)

pub qualified-now : (rows : List Row) (r : QualifiedRef) (q : Qualified) → StandsFor rows r q → qualified_at rows r ≡ q
qualified-now rows r q s = λ i. record { qualifiers = s.qualifiers i; type = stands-now rows r.target q.type s.type i }

-- ---- a table that has grown

pub later-stands : (rows later : List Row) (r : TypeRef) (t : CType) → Extends rows later → Stands rows r t → Stands later r t
later-stands rows later r t more s = record { always = λ last further. s.always last (Extends-trans more further) }

pub later-value : (rows later : List Row) (x : v.Value) (t : Value) → Extends rows later → MeansValue rows x t → MeansValue later x t
later-value rows later x t more m = record { always = λ last further. m.always last (Extends-trans more further) }

pub later-typed : (rows later : List Row) (x : Typed) (t : Value) → Extends rows later → MeansTyped rows x t → MeansTyped later x t
later-typed rows later x t more m = record { value = later-value rows later x.value t more m.value; constant = m.constant }

pub later-written : (rows later : List Row) (x : Written) (t : terms.Written) → Extends rows later → MeansWritten rows x t → MeansWritten later x t
later-written rows later x t more m = record { first = m.first; typed = later-typed rows later x.typed t.value more m.typed }

pub later-place : (rows later : List Row) (x : p.Place) (q : Place) → Extends rows later → MeansPlace rows x q → MeansPlace later x q
later-place rows later x q more m = record { always = λ last further. m.always last (Extends-trans more further) }

pub cast-constant : (from to : Ty) (line first : ℕ) (t : CType) (c d : Constant) (w : Value) → c ≡ mapped (λ n. Known (convert_of from to n)) d → from ≡ ty_of (type_of w) → to ≡ ty_of t
    → d ≡ constant_of w → c ≡ constant_of (value line t (conversion first w))
unfolding constant_of
cast-constant from to line first t c d w is same other at = is ∙ (λ i. mapped (λ n. Known (convert_of (same i) (other i) n)) (at i))

-- an lvalue that was made of parts whose meaning is known
pub place-means : (rows : List Row) (x : p.Place) (line : ℕ) (ty : QualifiedRef) (k : place_node.PlaceNode) → x ≡ record { line = line; ty = ty; node = k }
    → (q : Qualified) → StandsFor rows ty q → (n : PlaceNode) → MeansNode rows k n → MeansPlace rows x (place line q n)
place-means rows x line ty k is q stands n means = record {
  always = λ later more.
      ap (place_view (type_at later)) is
      ∙ view_place (type_at later) (record { line = line; ty = ty; node = k })
      ∙ (λ i. place line (record { qualifiers = stands.qualifiers i; type = stands.type.always later more i }) (means.always later more i));
}

pub choice-constant : (line : ℕ) (t : CType) (c d e f : Constant) (u v' w : Value) → c ≡ chosen d e f → d ≡ constant_of u → e ≡ constant_of v' → f ≡ constant_of w
    → c ≡ constant_of (value line t (choice u v' w))
unfolding constant_of
choice-constant line t c d e f u v' w is test left right = is ∙ (λ i. chosen (test i) (left i) (right i))

-- what a place holds, or where an array begins
pub array-value : (q : Place) → is_array (place_type q).type ≡ true → value (place_line q) (decayed (place_type q).type) (first_element q) ≡ terms.value_at q
array-value (place line type node) is =
    subst (λ b. value line (decayed type.type) (first_element (place line type node))
    ≡ (if b then value line (decayed type.type) (first_element (place line type node)) else value line type.type (read (place line type node)))) (sym is) refl

pub other-value : (q : Place) → is_array (place_type q).type ≡ false → value (place_line q) (place_type q).type (read q) ≡ terms.value_at q
other-value (place line type node) is =
    subst (λ b. value line type.type (read (place line type node))
    ≡ (if b then value line (decayed type.type) (first_element (place line type node)) else value line type.type (read (place line type node)))) (sym is) refl

pub value-type : (q : Place) → type_of (terms.value_at q) ≡ (if is_array (place_type q).type then decayed (place_type q).type else (place_type q).type)
value-type (place line type node) = by (is_array type.type) refl
  where
    by : (b : Test) → is_array type.type ≡ b → type_of (terms.value_at (place line type node)) ≡ (if is_array type.type then decayed type.type else type.type)
    by true e = ap type_of (sym (array-value (place line type node) e)) ∙ ap (λ b. if b then decayed type.type else type.type) (sym e)
    by false e = ap type_of (sym (other-value (place line type node) e)) ∙ ap (λ b. if b then decayed type.type else type.type) (sym e)
