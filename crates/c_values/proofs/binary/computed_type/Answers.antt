use Rattle.std.proofs.Common.{sym, subst}
use Rattle.srmt_base.specs.declared.ty.Ty.TheVariants.{Int}
use Rattle.c_types.specs.declared.type_ref.TypeRef.TheVariants as ref
use Rattle.c_types.specs.Rules.{computed_type}
use Rattle.c_types.specs.Table.{Stands}
use Rattle.c_values.proofs.Means.{integer-stands}
use Rattle.c_values.proofs.binary.computed_type.Goals as goal

pub returns-in-Integers : goal.returns-in-Integers
returns-in-Integers c rows t u a b = subst (λ f. Stands rows (ref.Integer c.in-Integers.ty) (computed_type f t u)) (sym c.in-Integers.is) (integer-stands rows c.in-Integers.ty)

pub returns-in-Shift : goal.returns-in-Shift
returns-in-Shift c rows t u a b = subst (λ f. Stands rows (ref.Integer c.in-Shift.ty) (computed_type f t u)) (sym c.in-Shift.is) (integer-stands rows c.in-Shift.ty)

pub returns-in-Pointers : goal.returns-in-Pointers
returns-in-Pointers c rows t u a b = subst (λ f. Stands rows (ref.Integer Int) (computed_type f t u)) (sym c.in-Pointers.is) (integer-stands rows Int)

pub returns-in-PointerAndNull : goal.returns-in-PointerAndNull
returns-in-PointerAndNull c rows t u a b = subst (λ f. Stands rows (ref.Integer Int) (computed_type f t u)) (sym c.in-PointerAndNull.is) (integer-stands rows Int)

pub returns-in-NullAndPointer : goal.returns-in-NullAndPointer
returns-in-NullAndPointer c rows t u a b = subst (λ f. Stands rows (ref.Integer Int) (computed_type f t u)) (sym c.in-NullAndPointer.is) (integer-stands rows Int)
