use Rattle.std.proofs.Common.{rules}
use Rattle.c_typed.specs.StatementViews.{program_view}
use Rattle.lower.proofs.inside.file_of.Goals as goal

pub returns-in-Protected : goal.returns-in-Protected
unfolding program_view
returns-in-Protected c = search rules

pub returns-in-Binary : goal.returns-in-Binary
unfolding program_view
returns-in-Binary c = search rules
