use Rattle.std.proofs.Common.{[], map, take}
use Rattle.std.specs.Prelude.{Ok}
use Rattle.typing_rules.specs.SourceViews.{expr_view, suffix_view, all_parts}
use Rattle.c_known.specs.Views.{line_in as told_line}
use Rattle.c_terms.specs.Fronts.{AddsValues, AddsParts, AddsParameters}
use Rattle.c_declarators.specs.Trees.{parameter_in}
use Rattle.c_terms.proofs.expression.+expression.Given as goal

abbrev pub invariant-add_parameters-loop-p : goal.invariant-add_parameters-loop-p
invariant-add_parameters-loop-p l = AddsParameters l.initial.known l.known (Ok tt) (map (parameter_in l.file) (take l.p-index l.p-items))

abbrev pub invariant-add_parts-loop-suffix : goal.invariant-add_parts-loop-suffix
invariant-add_parts-loop-suffix l =
    AddsParts l.initial.known l.known l.lines l.initial.parts.items l.parts.items (Ok tt) (all_parts (map (suffix_view (told_line l.file)) (take l.suffix-index l.suffix-items)))

abbrev pub invariant-all_of-loop-e : goal.invariant-all_of-loop-e
invariant-all_of-loop-e l = AddsValues l.initial.known l.known [] l.values.items (Ok tt) (map (expr_view (told_line l.file)) (take l.e-index l.e-items))
