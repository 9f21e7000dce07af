use Rattle.std.proofs.Common.{Bool as Test, Ok, Err, subst}
use Rattle.std.specs.Bool.{⊤}
use Rattle.typing_rules.specs.UnitRules.{with_contents}
use Rattle.typing_rules.specs.Source.{Named}
use Rattle.typing_rules.specs.Checking.{◌>>◌, makes}
use Rattle.typing_rules.specs.OrderedUnits.{counted_if}
use Rattle.c_known.specs.Gives.{Gives, IsDone}
use Rattle.c_known.proofs.Binding.{bind}
use Rattle.c_linkage.proofs.Linked.{linked-later}
use Rattle.c_typing.proofs.Spine.{told-on}
use Rattle.c_typing.proofs.Starts.{initialized-later}
use Rattle.c_typing.proofs.contents.count_contents.Goals as goal

pub returns-in_err-count_if : goal.returns-in_err-count_if
returns-in_err-count_if c l i means given =
    let s = c.args.known.now in
    let mid = c.count_if.new.known in
    let e = c.in_err-count_if.field-0.0 in
    let name : Named = record { line = c.args.line; bytes = c.args.name.now } in
    subst (λ (b : Test). Gives {X = ⊤} {A = Unit {0}} IsDone s mid c.from_residual.result (counted_if b c.args.line i.type >> makes (with_contents name l i))) (c.counts_after-counts.ensures l means)
    (told-on IsDone IsDone s mid mid e (counted_if c.counts_after-counts.result c.args.line i.type) (λ done. makes (with_contents name l i)) c.from_residual.result
    (c.in_err-count_if.ensures i.type given.type) c.from_residual.ensures.1)

pub returns : goal.returns
returns c l i means given =
    let s = c.args.known.now in
    let mid = c.count_if.new.known in
    let new = c.set_contents.new.known in
    let name : Named = record { line = c.args.line; bytes = c.args.name.now } in
    bind IsDone IsDone s mid new tt c.set_contents.result (counted_if _ c.args.line i.type) (λ done. makes (with_contents name l i))
    (subst (λ (b : Test). Gives {X = ⊤} {A = Unit {0}} IsDone s mid (Ok tt) (counted_if b c.args.line i.type)) (c.counts_after-counts.ensures l means) (c.in_ok-count_if.ensures i.type given.type))
    (λ done grown is. c.set_contents.ensures l i (linked-later _ _ grown c.args.linked l means) (initialized-later _ _ grown c.args.done i given))
