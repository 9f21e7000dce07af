use Rattle.std.proofs.Common.{sym, subst}
use Rattle.c_meaning.specs.declared.run.Did.{Did}
use Rattle.c_meaning.specs.declared.setting.At.{At}
use Rattle.c_meaning.specs.declared.store.Stored.{Stored}
use Rattle.c_meaning.specs.Entering.{called}
use Rattle.c_meaning.specs.Runs.{Steps, IsSound}
use Rattle.c_meaning.proofs.EnteringSteps.{none-steps, enter-fails, enter-steps, enter-falls, enter-sound}
use Rattle.c_meaning.proofs.run.Run.enter.Goals as goal

pub returns-in-None-clause-steps : goal.returns-in-None-clause-steps
returns-in-None-clause-steps c =
    let p = c.args.at.program.now in
    let old = c.args.self.now in
    subst (λ (d : Did). Steps p (called p c.args.line c.args.number c.args.arguments old) old old d) (sym c.trapped.ensures)
    (λ bound low es. none-steps c.args.at c.args.line c.args.number c.args.arguments old c.in-None.ensures bound low es)

pub begin_body-requires : goal.begin_body-requires
begin_body-requires c =
    record { ready = c.requires.can.functions c.args.number _ c.in-Some.ensures.0 }

pub returns-clause-steps : goal.returns-clause-steps
returns-clause-steps c = λ bound low es.
    let inside : At = record { program = c.args.at.program; current = c.in-Some.entered } in
    enter-fails inside c.args.line c.args.number c.args.arguments c.args.self.now c.in-Some.ensures.0 c.in-Some.ensures.1 c.in-Err.end bound low es
    (c.in-Err.ensures.changes es)

pub returns-clause-sound : goal.returns-clause-sound
returns-clause-sound c =
    let old = c.args.self.now in
    subst (λ (w : Stored). IsSound c.args.at.program.now (record old { world = w })) (sym c.in-Err.ensures.kept) c.requires.sound

pub returns-in-Ok : goal.returns-in-Ok
returns-in-Ok c =
    let inside : At = record { program = c.args.at.program; current = c.in-Some.entered } in
    let old = c.args.self.now in
    let w = c.spend_entry.new.self in
    let done = c.in-Ok.ensures in
    let r = c.begin_body.result in
    let new = c.begin_body.new.self in
    record {
      steps = enter-steps inside c.args.line c.args.number c.args.arguments old c.in-Some.ensures.0 c.in-Some.ensures.1 w done.changes done.spent done.locals
          r new c.begin_body.ensures.steps;
      sound = enter-sound inside c.args.line c.args.number c.args.arguments old c.in-Some.ensures.0 c.in-Some.ensures.1 w done.changes done.spent done.locals
          c.requires.can c.requires.sound r new c.begin_body.ensures.budgets c.begin_body.ensures.begun;
      turned = enter-falls inside c.args.line c.args.number c.args.arguments old c.in-Some.ensures.0 c.in-Some.ensures.1 w done.changes done.spent done.locals
          r new c.begin_body.ensures.budgets c.begin_body.ensures.turned;
    }
