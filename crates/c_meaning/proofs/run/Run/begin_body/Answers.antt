use Rattle.c_meaning.proofs.EnteringSteps.{parameters-fail, locals-fail, body-starts}
use Rattle.c_meaning.proofs.run.Run.begin_body.Goals as goal

pub returns-in-Err-clause-steps : goal.returns-in-Err-clause-steps
returns-in-Err-clause-steps c = λ bound low es.
    parameters-fail c.args.at c.args.arguments.now c.args.self.now c.exchange.new.self c.in_ok-exchange.ensures.body c.in_ok-exchange.ensures.world
    bound es _ (c.in-Err.ensures.changes bound es)

pub returns-in-Ok-begin_block-clause-steps : goal.returns-in-Ok-begin_block-clause-steps
returns-in-Ok-begin_block-clause-steps c = λ bound low es.
    body-starts c.args.at c.args.arguments.now c.args.self.now c.exchange.new.self c.in_ok-exchange.ensures.body c.in_ok-exchange.ensures.world
    c.begin_parameters.new.self c.as_slice-items.result.now c.as_slice-items.ensures bound es (c.in-Ok.ensures.changes bound es)
    c.begin_block.new.self (c.in-Ok-begin_block.ensures.changes bound es)

pub returns-in-Err-begin_block-clause-steps : goal.returns-in-Err-begin_block-clause-steps
returns-in-Err-begin_block-clause-steps c = λ bound low es.
    locals-fail c.args.at c.args.arguments.now c.args.self.now c.exchange.new.self c.in_ok-exchange.ensures.body c.in_ok-exchange.ensures.world
    c.begin_parameters.new.self c.as_slice-items.result.now c.as_slice-items.ensures bound es (c.in-Ok.ensures.changes bound es)
    _ (c.in-Err-begin_block.ensures.changes bound es)
