use Rattle.std.proofs.Common.{◌∙◌, sym, subst, arith, rules}
use Rattle.c_expr.specs.Codes.{kinds, binary_operators}
use Rattle.c_expr.specs.Reading as reading
use Rattle.c_expr.specs.Reading.{begins}
use Rattle.std.proofs.lemmas.Result.{err_from_is_err_and}
use Rattle.c_expr.specs.Parts as parts
use Rattle.c_expr.specs.Outcome.{at_depth, Gives, seen}
use Rattle.c_expr.proofs.Loops.{longer_turn, longer_refused, refused_along}
use Rattle.c_expr.proofs.Ladder.{ladder_turn, ladder_refused, level_is}
use Rattle.c_expr.proofs.grammar.Grammar.+level.Goals as goal

pub ladder-loop-level-preserved : goal.ladder-loop-level-preserved
ladder-loop-level-preserved g t c = ladder_turn c.args.self.now.src.now (reading.expr_at c.args.self.now.src.now c.args.self.now.depth) (reading.declarator_at c.args.self.now.src.now c.args.self.now.depth) _ _ _ _ _ _ (omega arith) c.in_ok-longer.ensures ∙ c.loop-level.invariant

pub operations-loop-turn-preserved : goal.operations-loop-turn-preserved
operations-loop-turn-preserved g t c =
    longer_turn (begins (kinds (binary_operators c.args.level))) (at_depth reading.operated c.args.self.now.src.now c.args.self.now.depth) (at_depth reading.operation c.args.self.now.src.now c.args.self.now.depth (binary_operators c.args.level) (at_depth reading.level c.args.self.now.src.now c.args.self.now.depth c.args.level)) _ _ _ _ _ _
    (omega arith) (search rules) c.in_ok-longer.ensures
    ∙ c.loop-turn.invariant

pub level-returns : goal.level-returns
level-returns g t c = subst (λ r. Gives seen c.climbed.result r) (level_is c.args.self.now.src.now (reading.expr_at c.args.self.now.src.now c.args.self.now.depth) (reading.declarator_at c.args.self.now.src.now c.args.self.now.depth) c.args.levels c.args.tokens.now) c.climbed.ensures

pub operations-returns-in_err-longer : goal.operations-returns-in_err-longer
operations-returns-in_err-longer g t c =
    let p = err_from_is_err_and c.from_residual.result c.from_residual.ensures.1 in
    rw (p.1, p.2) (refused_along c.in_err-longer.field-0.0
    (at_depth parts.operation_behind c.args.self.now.src.now c.args.self.now.depth c.args.level c.loop-turn.left c.loop-turn.rest.now)
    (at_depth parts.operations c.args.self.now.src.now c.args.self.now.depth c.args.level c.args.left c.args.tokens.now)
    c.in_err-longer.ensures
    (λ n e. sym c.loop-turn.invariant ∙ longer_refused (begins (kinds (binary_operators c.args.level))) (at_depth reading.operated c.args.self.now.src.now c.args.self.now.depth) (at_depth reading.operation c.args.self.now.src.now c.args.self.now.depth (binary_operators c.args.level) (at_depth reading.level c.args.self.now.src.now c.args.self.now.depth c.args.level)) _ _ _ _ n (omega arith) (search rules) e))

pub ladder-returns-in_err-longer : goal.ladder-returns-in_err-longer
ladder-returns-in_err-longer g t c =
    let p = err_from_is_err_and c.from_residual.result c.from_residual.ensures.1 in
    rw (p.1, p.2) (refused_along c.in_err-longer.field-0.0
    (at_depth parts.operations c.args.self.now.src.now c.args.self.now.depth c.loop-level.level c.loop-level.left c.loop-level.rest.now)
    (at_depth parts.ladder c.args.self.now.src.now c.args.self.now.depth c.args.levels 0 c.args.left c.args.tokens.now)
    c.in_err-longer.ensures
    (λ n e. sym c.loop-level.invariant ∙ ladder_refused c.args.self.now.src.now (reading.expr_at c.args.self.now.src.now c.args.self.now.depth) (reading.declarator_at c.args.self.now.src.now c.args.self.now.depth) c.args.levels c.loop-level.level c.loop-level.left c.loop-level.rest.now n (omega arith) e))
