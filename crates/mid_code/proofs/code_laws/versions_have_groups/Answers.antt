use Rattle.mid_code.specs.Versions.{leading, trailing}
use Rattle.mid_code.proofs.VersionGroups.{leading_sized, trailing_sized, groups}
use Rattle.mid_code.proofs.code_laws.versions_have_groups.Goals as goal

pub returns-clause-leading : goal.returns-clause-leading
returns-clause-leading c = groups leading leading_sized

pub returns-clause-trailing : goal.returns-clause-trailing
returns-clause-trailing c = groups trailing trailing_sized
