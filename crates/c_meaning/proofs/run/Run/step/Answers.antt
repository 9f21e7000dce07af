use Rattle.std.proofs.Common.{ap}
use Rattle.c_meaning.specs.declared.setting.At.{At}
use Rattle.c_meaning.proofs.Popping.{may_take, step_steps, step_sound, step_falls}
use Rattle.c_meaning.proofs.run.Run.step.Goals as goal

pub take-requires : goal.take-requires
take-requires c =
    may_take c.at-at.result c.args.program.now c.args.self.now (ap (λ (a : At). a.program.now) c.at-at.ensures) c.requires.sound c.in-Some.task
    c.pop.new.self c.in-Some.ensures c.requires.can (ap (λ (a : At). a.current) c.at-at.ensures)

pub returns-in-Some-clause-steps : goal.returns-in-Some-clause-steps
returns-in-Some-clause-steps c =
    step_steps c.at-at.result c.args.program.now c.args.self.now (ap (λ (a : At). a.program.now) c.at-at.ensures) c.requires.sound c.in-Some.task
    c.pop.new.self c.in-Some.ensures c.take.result c.take.new.self c.take.ensures

pub returns-in-Some-clause-sound : goal.returns-in-Some-clause-sound
returns-in-Some-clause-sound c =
    step_sound c.at-at.result c.args.program.now c.args.self.now (ap (λ (a : At). a.program.now) c.at-at.ensures) c.requires.sound c.in-Some.task
    c.pop.new.self c.in-Some.ensures c.take.result c.take.new.self c.take.ensures

pub returns-in-Some-clause-falls : goal.returns-in-Some-clause-falls
returns-in-Some-clause-falls c =
    step_falls c.at-at.result c.args.program.now c.args.self.now (ap (λ (a : At). a.program.now) c.at-at.ensures) c.requires.sound c.in-Some.task
    c.pop.new.self c.in-Some.ensures c.take.result c.take.new.self c.take.ensures
