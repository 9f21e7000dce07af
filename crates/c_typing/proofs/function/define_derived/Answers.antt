use Rattle.std.proofs.Common.{false, sym, subst}
use Rattle.c_types.specs.Table.{StandsFor}
use Rattle.typing_rules.specs.Source.{Named}
use Rattle.typing_rules.specs.SourceViews.{definition_view}
use Rattle.typing_rules.specs.DeclaratorRules.{derived, or_no_name, name_of}
use Rattle.typing_rules.specs.Checking.{from_result}
use Rattle.c_entities.specs.Views.{storage_view}
use Rattle.c_known.specs.Views.{line_in}
use Rattle.c_known.proofs.Binding.{bind}
use Rattle.c_declarators.specs.Derivations.{lines_view, AreDerivations}
use Rattle.c_declarators.specs.Trees.{declarator_in}
use Rattle.c_typing.specs.Files.{IsFunction}
use Rattle.c_typing.specs.Functions.{defined_typed}
use Rattle.c_typing.proofs.Spine.{told-on}
use Rattle.c_typing.proofs.Definitions.{parts-later, typed-under}
use Rattle.c_typing.proofs.function.define_derived.Goals as goal

pub returns-in_err-ty : goal.returns-in_err-ty
returns-in_err-ty c t es stands are =
    let file = c.args.file in
    let d = c.args.d.now in
    told-on StandsFor IsFunction c.args.known.now _ _ c.in_err-ty.field-0.0 (from_result (derived (lines_view c.args.lines) false t es))
    (defined_typed (or_no_name (name_of (declarator_in file d.declarator))) (storage_view c.args.base.0) (definition_view (line_in file) d) es)
    c.from_residual.result (c.in_err-ty.ensures t es stands (subst (λ xs. AreDerivations c.args.known.now.types xs es) (sym c.as_slice.ensures.value) are)) c.from_residual.ensures.1

pub returns : goal.returns
returns c t es stands are =
    let file = c.args.file in
    let d = c.args.d.now in
    let name : Named = or_no_name (name_of (declarator_in file d.declarator)) in
    let found : Named = record { line = c.line_of_name.result; bytes = c.bytes_of_name.result.now } in
    bind StandsFor IsFunction c.args.known.now _ _ c.in_ok-ty.ty c.define_typed.result (from_result (derived (lines_view c.args.lines) false t es))
    (defined_typed name (storage_view c.args.base.0) (definition_view (line_in file) d) es)
    (c.in_ok-ty.ensures t es stands (subst (λ xs. AreDerivations c.args.known.now.types xs es) (sym c.as_slice.ensures.value) are))
    (λ type grown is. typed-under IsFunction _ _ c.define_typed.result (storage_view c.args.base.0) (definition_view (line_in file) d) es type found name
    (λ i. record { line = c.line_of_name.ensures i; bytes = c.bytes_of_name.ensures file i })
    (c.define_typed.ensures type es is (parts-later _ _ grown c.args.ds.items es are)))
