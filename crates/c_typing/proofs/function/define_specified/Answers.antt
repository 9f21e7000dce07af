use Rattle.typing_rules.specs.SourceViews.{definition_view}
use Rattle.c_entities.specs.Views.{storage_view}
use Rattle.c_known.specs.Views.{line_in}
use Rattle.c_declarators.specs.Derivations.{lines_view}
use Rattle.c_typing.specs.Files.{IsFunction}
use Rattle.c_typing.proofs.Spine.{stands-later}
use Rattle.c_typing.proofs.Definitions.{specified-by, specified-told}
use Rattle.c_typing.proofs.function.define_specified.Goals as goal

pub returns-in_err-ds : goal.returns-in_err-ds
returns-in_err-ds c t stands =
    specified-told IsFunction c.args.known.now _ _ c.from_residual.result (storage_view c.args.base.0) t (definition_view (line_in c.args.file) c.args.d.now)
    (lines_view c.lines_of-lines.result) c.lines_of-lines.ensures c.in_err-ds.field-0.0 c.in_err-ds.ensures c.from_residual.ensures.1

pub returns : goal.returns
returns c t stands =
    specified-by IsFunction c.args.known.now _ _ c.define_derived.result (storage_view c.args.base.0) t (definition_view (line_in c.args.file) c.args.d.now)
    (lines_view c.lines_of-lines.result) c.lines_of-lines.ensures c.in_ok-ds.ds c.in_ok-ds.ensures
    (λ es grown parts. c.define_derived.ensures t es (stands-later _ _ grown c.args.base.1 t stands) parts)
