use Rattle.std.proofs.Common.{false}
use Rattle.typing_rules.specs.SourceViews.{item_view}
use Rattle.typing_rules.specs.DeclaratorRules.{derived, name_of, or_no_name}
use Rattle.typing_rules.specs.Checking.{from_result}
use Rattle.c_types.specs.Table.{StandsFor}
use Rattle.c_entities.specs.Views.{storage_view}
use Rattle.c_known.specs.Views.{line_in}
use Rattle.c_known.specs.Gives.{IsDone}
use Rattle.c_known.proofs.Binding.{bind}
use Rattle.c_declarators.specs.Derivations.{lines_view}
use Rattle.c_typing.specs.Steps.{declared_typed}
use Rattle.c_typing.proofs.Spine.{told-on}
use Rattle.c_typing.proofs.item.declare_derived.Goals as goal

pub returns-in_err-ty : goal.returns-in_err-ty
returns-in_err-ty c t es stands are =
    let x = item_view (line_in c.args.file) c.args.x.now in
    told-on StandsFor IsDone c.args.known.now _ _ c.in_err-ty.field-0.0 (from_result (derived (lines_view c.args.lines) false t es))
    (λ type. declared_typed (or_no_name (name_of x.declarator)) (storage_view c.args.storage) type x.initial)
    c.from_residual.result (c.in_err-ty.ensures t es stands are) c.from_residual.ensures.1

pub returns : goal.returns
returns c t es stands are =
    let x = item_view (line_in c.args.file) c.args.x.now in
    bind StandsFor IsDone c.args.known.now _ _ c.in_ok-ty.ty c.declare_named.result (from_result (derived (lines_view c.args.lines) false t es))
    (λ type. declared_typed (or_no_name (name_of x.declarator)) (storage_view c.args.storage) type x.initial)
    (c.in_ok-ty.ensures t es stands are) (λ type grown is. c.declare_named.ensures type is)
