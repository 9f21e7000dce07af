use Rattle.std.proofs.Common.{true, sym, subst}
use Rattle.std.specs.Result.{IfOk}
use Rattle.c_types.specs.declared.form.BinaryForm.TheVariants as form
use Rattle.c_types.specs.Rules.{binary_type}
use Rattle.c_types.specs.Table.{Stands}
use Rattle.c_typed.specs.Typed as tree
use Rattle.typing_rules.specs.Terms as terms
use Rattle.c_values.specs.Stand.{MeansTyped}
use Rattle.c_values.proofs.Means.{stands-of-means}
use Rattle.c_values.proofs.binary.binary_value.Goals as goal

pub returns-in-Integers : goal.returns-in-Integers
returns-in-Integers c v w a b =
    let rows = c.args.types.now in
    let first = subst (λ x. Stands rows x.ty (terms.written_type v)) (sym c.get.ensures) (stands-of-means rows c.args.a.typed.value v.value a.typed.value) in
    let second = subst (λ x. Stands rows x.ty (terms.written_type w)) (sym c.get-2.ensures) (stands-of-means rows c.args.b.typed.value w.value b.typed.value) in
    let stands = subst (λ f. Stands rows c.result_type-ty.result (binary_type c.args.op f (terms.written_type v) (terms.written_type w))) c.in-Integers.is (c.result_type-ty.ensures rows _ _ first second) in
    subst (λ f. IfOk c.integers.result (λ r. MeansTyped rows r (terms.binary_value c.args.line c.args.op c.args.at f v w))) (sym c.in-Integers.is)
    (c.integers.ensures (binary_type c.args.op (form.Integers c.in-Integers.computes) (terms.written_type v) (terms.written_type w)) v w stands a b)

pub returns-in-Shift : goal.returns-in-Shift
returns-in-Shift c v w a b =
    let rows = c.args.types.now in
    let first = subst (λ x. Stands rows x.ty (terms.written_type v)) (sym c.get.ensures) (stands-of-means rows c.args.a.typed.value v.value a.typed.value) in
    let second = subst (λ x. Stands rows x.ty (terms.written_type w)) (sym c.get-2.ensures) (stands-of-means rows c.args.b.typed.value w.value b.typed.value) in
    let stands = subst (λ f. Stands rows c.result_type-ty.result (binary_type c.args.op f (terms.written_type v) (terms.written_type w))) c.in-Shift.is (c.result_type-ty.ensures rows _ _ first second) in
    subst (λ f. IfOk c.shift.result (λ r. MeansTyped rows r (terms.binary_value c.args.line c.args.op c.args.at f v w))) (sym c.in-Shift.is)
    (c.shift.ensures (binary_type c.args.op (form.Shift c.in-Shift.computes) (terms.written_type v) (terms.written_type w)) v w stands a b)

pub returns-in-IntegerAndPointer : goal.returns-in-IntegerAndPointer
returns-in-IntegerAndPointer c v w a b =
    let rows = c.args.types.now in
    let first = subst (λ x. Stands rows x.ty (terms.written_type v)) (sym c.get.ensures) (stands-of-means rows c.args.a.typed.value v.value a.typed.value) in
    let second = subst (λ x. Stands rows x.ty (terms.written_type w)) (sym c.get-2.ensures) (stands-of-means rows c.args.b.typed.value w.value b.typed.value) in
    let stands = subst (λ f. Stands rows c.result_type-ty.result (binary_type c.args.op f (terms.written_type v) (terms.written_type w))) c.in-IntegerAndPointer.is (c.result_type-ty.ensures rows _ _ first second) in
    subst (λ f. IfOk c.integer_and_pointer.result (λ r. MeansTyped rows r (terms.binary_value c.args.line c.args.op c.args.at f v w))) (sym c.in-IntegerAndPointer.is)
    (c.integer_and_pointer.ensures (binary_type c.args.op (form.IntegerAndPointer) (terms.written_type v) (terms.written_type w)) v w.value stands a b.typed)

pub returns-in-Pointers : goal.returns-in-Pointers
returns-in-Pointers c v w a b =
    let rows = c.args.types.now in
    let first = subst (λ x. Stands rows x.ty (terms.written_type v)) (sym c.get.ensures) (stands-of-means rows c.args.a.typed.value v.value a.typed.value) in
    let second = subst (λ x. Stands rows x.ty (terms.written_type w)) (sym c.get-2.ensures) (stands-of-means rows c.args.b.typed.value w.value b.typed.value) in
    let stands = subst (λ f. Stands rows c.result_type-ty.result (binary_type c.args.op f (terms.written_type v) (terms.written_type w))) c.in-Pointers.is (c.result_type-ty.ensures rows _ _ first second) in
    subst (λ f. IfOk c.pointers.result (λ r. MeansTyped rows r (terms.binary_value c.args.line c.args.op c.args.at f v w))) (sym c.in-Pointers.is)
    (c.pointers.ensures c.args.types.now (binary_type c.args.op (form.Pointers) (terms.written_type v) (terms.written_type w)) v.value w.value stands a.typed b.typed)

pub returns-in-PointerAndNull : goal.returns-in-PointerAndNull
returns-in-PointerAndNull c v w a b =
    let rows = c.args.types.now in
    let first = subst (λ x. Stands rows x.ty (terms.written_type v)) (sym c.get.ensures) (stands-of-means rows c.args.a.typed.value v.value a.typed.value) in
    let second = subst (λ x. Stands rows x.ty (terms.written_type w)) (sym c.get-2.ensures) (stands-of-means rows c.args.b.typed.value w.value b.typed.value) in
    let stands = subst (λ f. Stands rows c.result_type-ty.result (binary_type c.args.op f (terms.written_type v) (terms.written_type w))) c.in-PointerAndNull.is (c.result_type-ty.ensures rows _ _ first second) in
    subst (λ f. IfOk c.pointer_and_null.result (λ r. MeansTyped rows r (terms.binary_value c.args.line c.args.op c.args.at f v w))) (sym c.in-PointerAndNull.is)
    (c.pointer_and_null.ensures (binary_type c.args.op (form.PointerAndNull) (terms.written_type v) (terms.written_type w)) v.value w.value stands a.typed b.typed)

pub returns-in-NullAndPointer : goal.returns-in-NullAndPointer
returns-in-NullAndPointer c v w a b =
    let rows = c.args.types.now in
    let first = subst (λ x. Stands rows x.ty (terms.written_type v)) (sym c.get.ensures) (stands-of-means rows c.args.a.typed.value v.value a.typed.value) in
    let second = subst (λ x. Stands rows x.ty (terms.written_type w)) (sym c.get-2.ensures) (stands-of-means rows c.args.b.typed.value w.value b.typed.value) in
    let stands = subst (λ f. Stands rows c.result_type-ty.result (binary_type c.args.op f (terms.written_type v) (terms.written_type w))) c.in-NullAndPointer.is (c.result_type-ty.ensures rows _ _ first second) in
    subst (λ f. IfOk c.null_and_pointer.result (λ r. MeansTyped rows r (terms.binary_value c.args.line c.args.op c.args.at f v w))) (sym c.in-NullAndPointer.is)
    (c.null_and_pointer.ensures (binary_type c.args.op (form.NullAndPointer) (terms.written_type v) (terms.written_type w)) v.value w.value stands a.typed b.typed)

pub returns-in-PointerAndInteger : goal.returns-in-PointerAndInteger
returns-in-PointerAndInteger c v w a b =
    let rows = c.args.types.now in
    let first = subst (λ x. Stands rows x.ty (terms.written_type v)) (sym c.get.ensures) (stands-of-means rows c.args.a.typed.value v.value a.typed.value) in
    let second = subst (λ x. Stands rows x.ty (terms.written_type w)) (sym c.get-2.ensures) (stands-of-means rows c.args.b.typed.value w.value b.typed.value) in
    let stands = subst (λ f. Stands rows c.result_type-ty.result (binary_type c.args.op f (terms.written_type v) (terms.written_type w))) c.in-PointerAndInteger.is (c.result_type-ty.ensures rows _ _ first second) in
    let made = c.pointer_and_integer.ensures (binary_type c.args.op form.PointerAndInteger (terms.written_type v) (terms.written_type w)) v.value w stands a.typed b in
    subst (λ f. IfOk c.pointer_and_integer.result (λ r. MeansTyped rows r (terms.binary_value c.args.line c.args.op c.args.at f v w))) (sym c.in-PointerAndInteger.is)
    (subst (λ less. IfOk c.pointer_and_integer.result (λ r. MeansTyped rows r (tree.value c.args.line (binary_type c.args.op form.PointerAndInteger (terms.written_type v) (terms.written_type w)) (tree.sum c.args.at less true v.value (terms.promoted_value w))))) c.is_difference.ensures made)
