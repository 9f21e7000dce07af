use Rattle.std.proofs.Common.{sym, ◌∙◌}
use Rattle.c_known.specs.Views.{line_in}
use Rattle.c_declarators.proofs.Shapes.{line-of}
use Rattle.c_declarators.proofs.tree.first_of_declarator.Goals as goal

pub returns : goal.returns
returns c = c.line_in.ensures ∙ sym (line-of (line_in c.args.file) c.args.d.now)
