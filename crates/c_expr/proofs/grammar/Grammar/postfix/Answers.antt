use Rattle.std.proofs.Common.{◌∙◌, sym, arith, rules}
use Rattle.c_expr.specs.Codes.{postfix_starts}
use Rattle.c_expr.specs.Reading as reading
use Rattle.c_expr.specs.Reading.{begins}
use Rattle.c_expr.specs.Outcome.{at_depth}
use Rattle.std.proofs.lemmas.Result.{err_from_is_err_and}
use Rattle.c_expr.specs.Parts as parts
use Rattle.c_expr.proofs.Loops.{longer_turn, longer_refused, refused_along}
use Rattle.c_expr.proofs.grammar.Grammar.postfix.Goals as goal

pub loop-turn-preserved : goal.loop-turn-preserved
loop-turn-preserved g c =
    longer_turn (begins postfix_starts) (λ x part. part x) (at_depth reading.postfix_part c.args.self.now.src.now c.args.self.now.depth) _ _ _ _ _ _
    (omega arith) (search rules) c.in_ok-longer.ensures
    ∙ c.loop-turn.invariant

pub returns-in_err-longer : goal.returns-in_err-longer
returns-in_err-longer g c =
    let p = err_from_is_err_and c.from_residual-in_err-longer.result c.from_residual-in_err-longer.ensures.1 in
    rw (p.1, p.2) (refused_along c.in_err-longer.field-0.0
    (parts.applied (at_depth reading.postfix_part c.args.self.now.src.now c.args.self.now.depth) c.loop-turn.left c.loop-turn.rest.now)
    (at_depth reading.postfix c.args.self.now.src.now c.args.self.now.depth c.args.tokens.now)
    c.in_err-longer.ensures
    (λ n e. sym c.loop-turn.invariant ∙ longer_refused (begins postfix_starts) (λ x part. part x) (at_depth reading.postfix_part c.args.self.now.src.now c.args.self.now.depth) _ _ _ _ n (omega arith) (search rules) e))
