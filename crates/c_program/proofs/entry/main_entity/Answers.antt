use Rattle.std.proofs.Common.{arith, sym, ◌∙◌}
use Rattle.c_program.proofs.Mains.{main-past, main-here, main-end, main-is, main-nowhere}
use Rattle.c_program.proofs.entry.main_entity.Goals as goal

pub loop-number-preserved : goal.loop-number-preserved
loop-number-preserved c k h =
    let all = c.count.ensures c.args.known.now.types k h.entities in
    c.loop-number.invariant k h ∙ main-past k.entities c.loop-number.number (omega arith) (sym (c.begins_at.ensures k h) ∙ c.if-begins_at.false)

pub returns-then-begins_at : goal.returns-then-begins_at
returns-then-begins_at c =
    main-is c.args.known.now c.loop-number.number (λ k h.
    let all = c.count.ensures c.args.known.now.types k h.entities in
    c.loop-number.invariant k h ∙ main-here k.entities c.loop-number.number (omega arith) (sym (c.begins_at.ensures k h) ∙ c.if-begins_at.true))

pub returns : goal.returns
returns c =
    main-nowhere c.args.known.now (λ k h.
    let all = c.count.ensures c.args.known.now.types k h.entities in
    c.loop-number.invariant k h ∙ main-end k.entities c.loop-number.number (omega arith))
