use Rattle.c_expr.proofs.AgainAt.{one_expression_of}
use Rattle.c_expr.proofs.law.one_expression.Goals as goal

pub returns : goal.returns
returns c = λ tokens src a b h k. one_expression_of src tokens a b h k
