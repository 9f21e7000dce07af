use Rattle.std.proofs.Common.{◌≡◌, ◌-◌, suc, sym, subst, arith}
use Rattle.c_meaning.specs.declared.run.Did.{Did}
use Rattle.c_meaning.specs.Finishing.{called_through}
use Rattle.c_meaning.specs.Runs.{Steps}
use Rattle.c_meaning.proofs.CallSteps.{through-done, through-null, sound-stack, falls-stack}
use Rattle.c_meaning.proofs.run.Run.finish_call_through.Goals as goal

pub enter-requires-clause-sound : goal.enter-requires-clause-sound
enter-requires-clause-sound c = sound-stack c.args.at.program.now c.args.self.now c.take-number.new.self c.requires.sound

pub returns-then-number-eq0-clause-steps : goal.returns-then-number-eq0-clause-steps
returns-then-number-eq0-clause-steps c =
    let p = c.args.at.program.now in
    let old = c.args.self.now in
    let new = record old { values = c.take-number.new.self } in
    subst (λ (d : Did). Steps p (called_through p c.args.line c.args.count old) old new d) (sym c.trapped.ensures)
    (through-null p old c.args.line c.args.count c.take-number.result c.in_ok-arguments.arguments c.take_last.new.self c.take-number.ensures.value
    c.in_ok-arguments.ensures.rest new c.if-number-eq0.true)

pub returns-then-number-eq0-clause-sound : goal.returns-then-number-eq0-clause-sound
returns-then-number-eq0-clause-sound c = sound-stack c.args.at.program.now c.args.self.now c.take-number.new.self c.requires.sound

pub returns-clause-steps : goal.returns-clause-steps
returns-clause-steps c =
    let before = c.take-number.result - 1 in
    let is : c.take-number.result ≡ suc before = omega arith in
    through-done c.args.at.program.now c.args.self.now c.args.line c.args.count c.take-number.result c.in_ok-arguments.arguments c.take_last.new.self
    c.take-number.ensures.value c.in_ok-arguments.ensures.rest c.enter.result c.enter.new.self c.take-number.new.self before is
    c.in_ok-arguments.ensures.values c.take-number.ensures.rest c.enter.ensures.steps

pub returns-clause-turned : goal.returns-clause-turned
returns-clause-turned c = falls-stack c.args.at.program.now c.args.self.now c.enter.result c.enter.new.self c.take-number.new.self c.enter.ensures.turned
