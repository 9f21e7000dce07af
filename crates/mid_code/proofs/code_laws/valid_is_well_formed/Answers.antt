use Rattle.mid_code.proofs.ValidInWords.{well_formed}
use Rattle.mid_code.proofs.WordsValid.{valid_from}
use Rattle.mid_code.proofs.code_laws.valid_is_well_formed.Goals as goal

pub returns-clause-formed : goal.returns-clause-formed
returns-clause-formed c = well_formed

pub returns-clause-valid : goal.returns-clause-valid
returns-clause-valid c = valid_from
