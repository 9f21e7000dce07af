use Rattle.std.proofs.Common.{true≢false, sym, ap, ◌∙◌, refl, slice_set}
use Rattle.c_entities.proofs.Rows.{lent-some}
use Rattle.c_program.proofs.Tables.{set-alone, fill-beyond}
use Rattle.c_program.proofs.numbering.fill.Goals as goal

pub returns-in-Some : goal.returns-in-Some
returns-in-Some c =
    let x = c.args.table.now in
    let n = c.args.entity in
    let there = lent-some x n c.in-Some.place.now (c.in-Some.ensures.variant.0 refl) c.in-Some.ensures.value in
    ap (slice_set x.items n) c.or_else.ensures ∙ set-alone n c.args.is c.in-Some.place.now x.items there

pub returns-in_default : goal.returns-in_default
returns-in_default c = fill-beyond c.args.table.now c.args.entity c.args.is (λ h. true≢false (sym (c.in_default.ensures.variant.1 h)))
