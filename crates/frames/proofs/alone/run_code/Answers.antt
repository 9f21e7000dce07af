use Rattle.std.proofs.Common.{[], List, ℕ, sym, subst}
use Rattle.std.specs.Prelude.{slice_index_or}
use Rattle.srmt_base.specs.Memory.{Memory}
use Rattle.mid_code.specs.Meaning.{Comes}
use Rattle.frames.specs.Alone.{state_at}
use Rattle.frames.proofs.Ready.{ready_at}
use Rattle.frames.proofs.AloneRuns.{alone_at, comes_alone, alone_sound, names_all, line_here, place_within}
use Rattle.frames.proofs.alone.run_code.Goals as goal

pub pass-requires-clause-place : goal.pass-requires-clause-place
pass-requires-clause-place c =
    let w = c.loop-next.invariant.within in
    let code = c.as_slice-code.result.now in
    let within = place_within c.args.program.now c.args.number c.loop-next.stand.place c.loop-next.registers c.in-Some.function.now code c.in-Some.ensures c.as_slice-code.ensures w in
    let at = line_here c.args.program.now c.args.number c.loop-next.stand.place c.in-Some.function.now code c.index-code-stand.result c.in-Some.ensures c.as_slice-code.ensures within in
    (ready_at c.args.program.now (alone_at c.args.number w.0 c.loop-next.registers c.loop-next.stand).at _ c.requires.valid w.1 at).place

pub pass-requires-clause-names : goal.pass-requires-clause-names
pass-requires-clause-names c =
    let w = c.loop-next.invariant.within in
    let code = c.as_slice-code.result.now in
    let within = place_within c.args.program.now c.args.number c.loop-next.stand.place c.loop-next.registers c.in-Some.function.now code c.in-Some.ensures c.as_slice-code.ensures w in
    let at = line_here c.args.program.now c.args.number c.loop-next.stand.place c.in-Some.function.now code c.index-code-stand.result c.in-Some.ensures c.as_slice-code.ensures within in
    let a = (alone_at c.args.number w.0 c.loop-next.registers c.loop-next.stand).at in
    names_all c.args.program.now (slice_index_or code c.loop-next.stand.place c.index-code-stand.result).mid a (ready_at c.args.program.now a _ c.requires.valid w.1 at).can

pub loop-next-smaller : goal.loop-next-smaller
loop-next-smaller c =
    let w = c.loop-next.invariant.within in
    let code = c.as_slice-code.result.now in
    let within = place_within c.args.program.now c.args.number c.loop-next.stand.place c.loop-next.registers c.in-Some.function.now code c.in-Some.ensures c.as_slice-code.ensures w in
    let at = line_here c.args.program.now c.args.number c.loop-next.stand.place c.in-Some.function.now code c.index-code-stand.result c.in-Some.ensures c.as_slice-code.ensures within in
    (alone_sound c.args.program.now c.args.number w.0 c.loop-next.registers c.pass.new.registers c.loop-next.memory c.pass.new.memory c.loop-next.stand c.in-Some-pass.next _ c.requires.valid at c.in-Some-pass.ensures w.1).nears

pub loop-next-preserved : goal.loop-next-preserved
loop-next-preserved c =
    let w = c.loop-next.invariant.within in
    let code = c.as_slice-code.result.now in
    let within = place_within c.args.program.now c.args.number c.loop-next.stand.place c.loop-next.registers c.in-Some.function.now code c.in-Some.ensures c.as_slice-code.ensures w in
    let at = line_here c.args.program.now c.args.number c.loop-next.stand.place c.in-Some.function.now code c.index-code-stand.result c.in-Some.ensures c.as_slice-code.ensures within in
    let sound = alone_sound c.args.program.now c.args.number w.0 c.loop-next.registers c.pass.new.registers c.loop-next.memory c.pass.new.memory c.loop-next.stand c.in-Some-pass.next _ c.requires.valid at c.in-Some-pass.ensures w.1 in
    record {
      within = (w.0, sound.within);
      comes = comes_alone c.args.program.now c.args.number c.args.registers.now c.loop-next.registers c.pass.new.registers c.args.stand c.loop-next.stand c.in-Some-pass.next c.args.memory.now c.loop-next.memory c.pass.new.memory _ at c.in-Some-pass.ensures c.loop-next.invariant.comes;
    }

pub pass-requires-clause-small : goal.pass-requires-clause-small
pass-requires-clause-small c = c.loop-next.invariant.within.1.each

pub returns-in-None-clause-comes : goal.returns-in-None-clause-comes
returns-in-None-clause-comes c s is =
    let p = c.args.program.now in
    let start = state_at p s c.args.registers.now c.args.memory.now c.args.stand in
    subst (λ (x : Memory). Comes p start [] (state_at p s c.pass.new.registers x c.loop-next.stand)) (sym c.in-None.ensures.1)
    (subst (λ (rs : List ℕ). Comes p start [] (state_at p s rs c.loop-next.memory c.loop-next.stand)) (sym c.in-None.ensures.0) (c.loop-next.invariant.comes s is))
