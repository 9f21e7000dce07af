use Rattle.std.proofs.Common.{sym, ◌∙◌}
use Rattle.std.proofs.Math.Bool.{and-true}
use Rattle.typing_rules.specs.Source.{no_parts}
use Rattle.typing_rules.specs.SourceViews.{declarator_view}
use Rattle.c_known.specs.Views.{line_in}
use Rattle.c_declarators.proofs.Bare.{bare-named, bare-unnamed}
use Rattle.c_declarators.proofs.empty.is_bare.Goals as goal

pub returns-in-Some : goal.returns-in-Some
returns-in-Some c =
    let v = declarator_view (line_in c.args.file) c.args.d.now in
    bare-named v.line v.name _ (v.parts no_parts) (c.in-Some.ensures c.args.file)

pub returns-in-None : goal.returns-in-None
returns-in-None c =
    let v = declarator_view (line_in c.args.file) c.args.d.now in
    sym (c.has_no_parts.ensures c.args.file no_parts ∙ and-true c.has_no_parts.result) ∙ bare-unnamed v.line v.name (v.parts no_parts) (c.in-None.ensures c.args.file)
