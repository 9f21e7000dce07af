use Rattle.std.specs.Prelude.{option_copied}
use Rattle.c_front.proofs.OneAnswer.{found-is, told-is}
use Rattle.c_front.proofs.front.check_files.Goals as goal

pub returns-clause-found : goal.returns-clause-found
returns-clause-found c = found-is c.args.main.now (option_copied c.args.binary) c.program_of.result c.program_of.ensures.ok c.program_of.ensures.err

pub returns-clause-told : goal.returns-clause-told
returns-clause-told c = told-is c.args.main.now (option_copied c.args.binary) c.program_of.result c.program_of.ensures.ok c.program_of.ensures.err
