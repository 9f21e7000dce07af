use Rattle.srmt_base.proofs.Parts.{is_its_parts}
use Rattle.srmt_base.proofs.laws.words_are_their_parts.Goals as goal

pub returns-clause-read : goal.returns-clause-read
returns-clause-read c = is_its_parts
