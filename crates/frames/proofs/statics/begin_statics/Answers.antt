use Rattle.std.proofs.Common.{◌≡◌, ◌+◌, length, take, sym, ap, ◌∙◌, subst, arith}
use Rattle.srmt_base.specs.Objects.{Objects, live_cells}
use Rattle.srmt_base.specs.declared.statics.Static.{Static}
use Rattle.frames.specs.Statics.{with_static}
use Rattle.frames.proofs.StaticRows.{objects_from, next_static, started_more, few_statics}
use Rattle.frames.proofs.statics.begin_statics.Goals as goal

pub overflow_cast-before : goal.overflow_cast-before
overflow_cast-before c =
    let few = few_statics c.args.statics.now c.requires.sound in
    omega (arith, few, c.requires.room, c.requires.few, c.loop-before-test.true)

pub overflow_add-first : goal.overflow_add-first
overflow_add-first c =
    let few = few_statics c.args.statics.now c.requires.sound in
    omega (arith, few, c.requires.room, c.requires.few, c.loop-before-test.true, c.first_number-first.ensures.small)

pub begin_static-requires-clause-others : goal.begin_static-requires-clause-others
begin_static-requires-clause-others c =
    let next = next_static c.first_number-first.result c.args.statics.now c.args.cells c.loop-before.before c.index-statics-before.result c.loop-before-test.true c.requires.sound c.requires.room in
    rw (c.loop-before.invariant) next.others

pub begin_static-requires-clause-room : goal.begin_static-requires-clause-room
begin_static-requires-clause-room c =
    let next = next_static c.first_number-first.result c.args.statics.now c.args.cells c.loop-before.before c.index-statics-before.result c.loop-before-test.true c.requires.sound c.requires.room in
    let item = ap (λ (x : Static). x.cells) c.index-statics-before.is in
    let used = ap live_cells c.loop-before.invariant in
    let budget = ap (λ (s : Objects). s.budget) c.loop-before.invariant in
    omega (arith, next.room, item, used, budget)

pub loop-before-preserved : goal.loop-before-preserved
loop-before-preserved c =
    let first = c.first_number-first.result in
    let more = started_more first c.args.statics.now c.args.cells c.loop-before.before c.index-statics-before.result c.loop-before-test.true in
    let objects = objects_from first (take c.loop-before.before c.args.statics.now) c.args.cells in
    let this = subst (λ (x : Static). with_static objects (first + c.loop-before.before) x (length x.values) ≡ objects_from first (take (c.loop-before.before + 1) c.args.statics.now) c.args.cells) (sym c.index-statics-before.is) more in
    let done = rw (c.loop-before.invariant) at c.begin_static.ensures in
    done ∙ this
