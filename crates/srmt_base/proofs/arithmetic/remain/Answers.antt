use Rattle.std.proofs.Common.{◌≡◌, ◌∙◌, sym, ap, w64, true, false}
use Rattle.std.specs.Prelude.{int_div, Ok}
use Rattle.std.proofs.lemmas.Int.{quot_is, rem_is}
use Rattle.srmt_base.specs.Types.{can_hold, kept}
use Rattle.srmt_base.proofs.Integers.{int_eq-zero, int_div_fits}
use Rattle.srmt_base.proofs.arithmetic.remain.Goals as goal

pub returns-then-can_hold-clause-exact : goal.returns-then-can_hold-clause-exact
returns-then-can_hold-clause-exact c =
    let fits = int_div_fits c.args.x c.args.y c.ranges.x c.requires.least in
    let held : can_hold c.args.ty (int_div c.args.x c.args.y) ≡ true =
    sym (ap (can_hold c.args.ty) (quot_is w64 c.args.x c.args.y c.ranges.x c.ranges.y fits)) ∙ sym c.can_hold.ensures ∙ c.if-can_hold.true in
    rw (int_eq-zero c.args.y c.if-y-eq0.false, held)
    (ap Ok (c.keep.ensures.exact ∙ ap kept (rem_is w64 c.args.x c.args.y c.ranges.x c.ranges.y)))

pub returns-else-can_hold-clause-exact : goal.returns-else-can_hold-clause-exact
returns-else-can_hold-clause-exact c =
    let fits = int_div_fits c.args.x c.args.y c.ranges.x c.requires.least in
    let held : can_hold c.args.ty (int_div c.args.x c.args.y) ≡ false =
    sym (ap (can_hold c.args.ty) (quot_is w64 c.args.x c.args.y c.ranges.x c.ranges.y fits)) ∙ sym c.can_hold.ensures ∙ c.if-can_hold.false in
    rw (int_eq-zero c.args.y c.if-y-eq0.false, held)
