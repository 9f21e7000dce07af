use Rattle.c_meaning.proofs.CallSteps.{called-done, sound-stack, falls-stack}
use Rattle.c_meaning.proofs.run.Run.finish_call.Goals as goal

pub enter-requires-clause-sound : goal.enter-requires-clause-sound
enter-requires-clause-sound c = sound-stack c.args.at.program.now c.args.self.now c.take_last.new.self c.requires.sound

pub returns-clause-steps : goal.returns-clause-steps
returns-clause-steps c =
    called-done c.args.at.program.now c.args.self.now c.enter.result c.enter.new.self c.args.line c.args.entity c.args.count c.value_of_entity-number.result
    c.in_ok-arguments.arguments c.take_last.new.self c.value_of_entity-number.ensures.value c.in_ok-arguments.ensures.values c.in_ok-arguments.ensures.rest
    c.enter.ensures.steps

pub returns-clause-turned : goal.returns-clause-turned
returns-clause-turned c = falls-stack c.args.at.program.now c.args.self.now c.enter.result c.enter.new.self c.take_last.new.self c.enter.ensures.turned
