use Rattle.std.proofs.Common.{sym, subst}
use Rattle.c_typed.specs.StatementViews.{stmt_view}
use Rattle.c_meaning.specs.declared.jumps.Jump.{Jump}
use Rattle.c_meaning.specs.declared.jumps.Met.TheVariants as met
use Rattle.c_meaning.specs.Jumping.{Meets}
use Rattle.c_meaning.specs.Pending.{after_body}
use Rattle.c_meaning.specs.Runs.{types_of, completion_of}
use Rattle.c_meaning.proofs.Meeting.{body_continues}
use Rattle.c_meaning.proofs.run.Run.leave_body.Goals as goal

pub returns-in_ok-plan_round-in-Continue : goal.returns-in_ok-plan_round-in-Continue
returns-in_ok-plan_round-in-Continue c =
    let types = types_of c.args.at.program.now in
    let a = stmt_view types c.args.stmt.now in
    let old = c.args.self.now in
    subst (λ (j : Jump). Meets c.args.at (completion_of j) old (after_body a) (record old { tasks = c.plan_round.new.tasks }) met.Stops)
    (sym c.in-Continue.is)
    (body_continues c.args.at old a c.plan_round.new.tasks c.requires.can (c.in_ok-plan_round-in-Continue.ensures types))
