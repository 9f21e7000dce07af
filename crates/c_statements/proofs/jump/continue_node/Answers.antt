use Rattle.std.proofs.Common.{Ok, Err, sym, subst}
use Rattle.c_typed.specs.Statements as t
use Rattle.c_typed.specs.declared.statement.StmtNode.TheVariants as sn
use Rattle.typing_rules.specs.declared.refusal.TypeRefusal.TheVariants.{Mismatch}
use Rattle.typing_rules.specs.Checking.{◌>>=◌, pure, needs}
use Rattle.typing_rules.specs.OrderedStatements.{stmt_of}
use Rattle.c_known.specs.Gives.{Gives}
use Rattle.c_known.proofs.Binding.{pure-gives, refuse-gives}
use Rattle.c_statements.specs.Parts.{IsNode}
use Rattle.c_statements.proofs.Views.{is-continue}
use Rattle.c_statements.proofs.jump.continue_node.Goals as goal

pub returns-then-in_loop : goal.returns-then-in_loop
unfolding stmt_of
returns-then-in_loop c s type =
    subst (λ b. Gives (IsNode c.args.line) s s (Ok sn.Continue) (needs b (Mismatch c.args.line 18) >>= (λ _. pure (t.continue c.args.line)))) (sym c.if-in_loop.true)
    (pure-gives (IsNode c.args.line) s sn.Continue (t.continue c.args.line) (is-continue c.args.line s.types))

pub returns-else-in_loop : goal.returns-else-in_loop
unfolding stmt_of
returns-else-in_loop c s type =
    subst (λ b. Gives (IsNode c.args.line) s s (Err (Mismatch c.args.line 18)) (needs b (Mismatch c.args.line 18) >>= (λ _. pure (t.continue c.args.line)))) (sym c.if-in_loop.false)
    (refuse-gives (IsNode c.args.line) s s (Mismatch c.args.line 18))
