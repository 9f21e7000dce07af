-- What an operator makes of its operands, once they are checked, and whatever they are.
use Rattle.std.specs.Prelude.{ℕ, true, false, List, Option, Some, None}
use Rattle.srmt_base.specs.declared.op.Op.TheVariants.{Add, Sub}
use Rattle.c_types.specs.declared.type_ref.Row.{Row}
use Rattle.c_types.specs.declared.type_ref.QualifiedRef.{QualifiedRef}
use Rattle.c_types.specs.Types.{Qualified}
use Rattle.c_types.specs.Table.{StandsFor}
use Rattle.c_tree.specs.Operators.{op_of}
use Rattle.c_tree.specs.declared.operator.PrefixOp.{PrefixOp}
use Rattle.c_tree.specs.declared.operator.PrefixOp.TheVariants as pre
use Rattle.c_tree.specs.declared.operator.PostfixOp.{PostfixOp}
use Rattle.c_tree.specs.declared.operator.PostfixOp.TheVariants as post
use Rattle.c_tree.specs.declared.operator.BinaryOp.{BinaryOp}
use Rattle.c_tree.specs.declared.operator.BinaryOp.TheVariants.{Arithmetic, And, Or}
use Rattle.c_tree.specs.declared.operator.CompoundOp.{CompoundOp}
use Rattle.typing_rules.specs.Terms.{Term, Written, Target, Change, change_by, one_value}
use Rattle.typing_rules.specs.Checking.{Checking, ◌>>=◌, pure}
use Rattle.typing_rules.specs.OrderedParts.{valued, indirect, address_of, opposite, promoted, negative, complemented, computed, conjoined, disjoined, target_of, assigned, changed, unvalued, sized}
use Rattle.c_values.specs.declared.typed.Term as code
use Rattle.c_values.specs.declared.typed.Target as code_target
use Rattle.c_values.specs.declared.typed.Written as operand
use Rattle.c_values.specs.Stand.{MeansWritten}
use Rattle.c_values.specs.Answers.{MeansTerm, MeansTarget, AreWritten}

-- ---- operators

-- the value of an operand, with the line of its first token as it is written
abbrev pub valued_of : ℕ → Term → Checking Written
valued_of first t = valued t >>= (λ v. pure (record { first = first; value = v }))

-- `++` and `--`
abbrev pub stepped_of : ℕ → Change → Term → Checking Term
stepped_of line c t = target_of t >>= (λ target. changed line c target (one_value line))

abbrev pub prefix_of : PrefixOp → ℕ → ℕ → Term → Checking Term
prefix_of pre.Increment line first t = stepped_of line (change_by false first Add line) t
prefix_of pre.Decrement line first t = stepped_of line (change_by false first Sub line) t
prefix_of pre.AddressOf line first t = address_of line t
prefix_of pre.Indirection line first t = valued_of first t >>= indirect line
prefix_of pre.Plus line first t = valued_of first t >>= promoted line
prefix_of pre.Minus line first t = valued_of first t >>= negative line
prefix_of pre.Complement line first t = valued_of first t >>= complemented line
prefix_of pre.Not line first t = valued_of first t >>= opposite line

abbrev pub postfix_of : PostfixOp → ℕ → ℕ → ℕ → Term → Checking Term
postfix_of post.Increment line at first t = stepped_of line (change_by true first Add at) t
postfix_of post.Decrement line at first t = stepped_of line (change_by true first Sub at) t

abbrev pub binary_of : BinaryOp → ℕ → ℕ → Written → Written → Checking Term
binary_of (Arithmetic op) line at v w = computed line op at v w
binary_of And line at v w = conjoined line at v w
binary_of Or line at v w = disjoined line at v w

abbrev pub assignment_of : Option CompoundOp → ℕ → ℕ → ℕ → Target → Written → Checking Term
assignment_of None line first at target w = assigned line at target w
assignment_of (Some op) line first at target w = changed line (change_by false first (op_of op) at) target w

abbrev pub sized_of : ℕ → Term → Checking Term
sized_of line t = unvalued t >>= sized line

-- ---- whatever the parts stand for

abbrev pub OverTerm : List Row → code.Term → (Term → Type 0) → Type 0
OverTerm rows x P = (t : Term) → MeansTerm rows x t → P t

abbrev pub OverType : List Row → QualifiedRef → (Qualified → Type 0) → Type 0
OverType rows x P = (t : Qualified) → StandsFor rows x t → P t

abbrev pub OverOne : List Row → operand.Written → (Written → Type 0) → Type 0
OverOne rows a P = (v : Written) → MeansWritten rows a v → P v

abbrev pub OverTwo : List Row → operand.Written → operand.Written → (Written → Written → Type 0) → Type 0
OverTwo rows a b P = (v w : Written) → MeansWritten rows a v → MeansWritten rows b w → P v w

abbrev pub OverAll : List Row → List operand.Written → (List Written → Type 0) → Type 0
OverAll rows xs P = (ws : List Written) → AreWritten rows xs ws → P ws

abbrev pub OverTarget : List Row → code_target.Target → operand.Written → (Target → Written → Type 0) → Type 0
OverTarget rows x a P = (t : Target) (w : Written) → MeansTarget rows x t → MeansWritten rows a w → P t w
