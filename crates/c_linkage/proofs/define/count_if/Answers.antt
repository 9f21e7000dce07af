use Rattle.std.proofs.Common.{ap, ◌∙◌}
use Rattle.c_types.specs.Types.{cells_of}
use Rattle.c_types.proofs.Grown.{Extends-refl}
use Rattle.typing_rules.specs.Checking.{pure}
use Rattle.typing_rules.specs.OrderedParts.{counted}
use Rattle.c_known.specs.Gives.{IsDone}
use Rattle.c_known.proofs.Binding.{choose-false, pure-gives}
use Rattle.c_linkage.proofs.Declared.{counted-by}
use Rattle.c_linkage.proofs.define.count_if.Goals as goal

pub returns-then-test : goal.returns-then-test
returns-then-test c t stands =
    let s = c.args.known.now in
    counted-by s _ c.args.line _ c.args.test c.count_cells.result IsDone t
    (ap (λ z. z.cells) c.size-cells.ensures ∙ ap cells_of (stands.type.always s.types (Extends-refl s.types))) c.if-test.true c.count_cells.ensures

pub returns-else-test : goal.returns-else-test
returns-else-test c t stands =
    let s = c.args.known.now in
    choose-false IsDone s s _ c.args.test (counted c.args.line (cells_of t.type)) (pure tt) c.if-test.false (pure-gives IsDone s tt tt tt)
