use Rattle.std.proofs.Common.{◌<◌, sym, ◌∙◌, arith, rules}
use Rattle.std.proofs.lemmas.List.{take_rest}
use Rattle.c_lexer.proofs.Gaps.{past_gap_stops, past_gap_goes}
use Rattle.c_lexer.specs.Scan.{gap_part}
use Rattle.c_lexer.proofs.space.past_gap.Goals as goal

pub returns-then-len-eq0-clause-value : goal.returns-then-len-eq0-clause-value
returns-then-len-eq0-clause-value c = sym (past_gap_stops c.loop-bytes.bytes.now (cc)) ∙ c.loop-bytes.invariant.0

pub loop-bytes-preserved : goal.loop-bytes-preserved
loop-bytes-preserved c =
    let bytes = c.loop-bytes.bytes.now in
    let moves : 0 < gap_part bytes = omega arith in
    (rw (take_rest bytes c.gap_part-len.result, c.gap_part-len.ensures.value) (past_gap_goes bytes moves ∙ c.loop-bytes.invariant.0), search rules)
