-- The operators of compound assignments.
use Rattle.srmt_base.specs.declared.op.Op.{Op}
use Rattle.srmt_base.specs.declared.op.Op.TheVariants as o
use Rattle.c_tree.specs.declared.operator.CompoundOp.{CompoundOp}
use Rattle.c_tree.specs.declared.operator.CompoundOp.TheVariants as c

-- `x op= y` computes `x op y` (C11 6.5.16.2)
abbrev pub op_of : CompoundOp → Op
op_of c.Mul = o.Mul
op_of c.Div = o.Div
op_of c.Rem = o.Rem
op_of c.Add = o.Add
op_of c.Sub = o.Sub
op_of c.Shl = o.Shl
op_of c.Shr = o.Shr
op_of c.And = o.And
op_of c.Xor = o.Xor
op_of c.Or = o.Or
