use Rattle.std.proofs.Common.{◌≡◌, ◌∙◌, ◌%◌, true, [], Some, inl, inr, ap, sym}
use Rattle.std.specs.Option.{option_copied}
use Rattle.srmt_base.specs.declared.side.Side.TheVariants.{Trail}
use Rattle.mid_code.specs.Versions.{operands_list}
use Rattle.machine.specs.Steps.{side_op, holds}
use Rattle.mid_code.specs.declared.version.VersionOp.TheVariants.{Copied, SharedLoad, SharedStore, SharedOpen, SharedClose, Ask, Await, Act, Enter, Callback, Check, CheckZero, CheckStored, Ack, Take, TakeDone, CheckOpen, CheckClose, End}
use Rattle.world.specs.World.{WorldState, Over}
use Rattle.machine.specs.declared.link_call.Taken.TheVariants.{NotYet}
use Rattle.machine.specs.OneStep.{unasked}
use Rattle.verdicts.specs.declared.thread_end.ThreadEnd.TheVariants.{Exit as ExitEnd}
use Rattle.machine.specs.declared.stepped.Stepped.TheVariants.{MadeLast}
use Rattle.machine.specs.Side.{Ended}
use Rattle.machine.specs.Link.{Shown}
use Rattle.machine.proofs.Trying.{was_quiet}
use Rattle.machine.proofs.Standing.{near_here, op_here, can_spell, source_within, copied_ready, copied_alone, trail_tries, trail_fits_after}
use Rattle.machine.proofs.trailing.trail_step.Goals as goal

pub perform_copied-stepped-requires-clause-ready : goal.perform_copied-stepped-requires-clause-ready
perform_copied-stepped-requires-clause-ready g c =
    let at : side_op Trail c.args.pair.now c.args.m.now ≡ Some c.in-Some.line.now = sym c.next_line.ensures ∙ ap option_copied c.in-Some.is in
    let here = op_here Trail c.args.pair.now c.args.m.now c.classed-pair.ensures.sites c.requires.fits c.in-Some.line.now (Copied c.in-Copied.mid) at c.in-Copied.is in
    copied_ready Trail c.args.pair.now c.args.m.now c.classed-pair.ensures.sites c.requires.fits c.in-Copied.mid here

pub perform_copied-stepped-requires-clause-alone : goal.perform_copied-stepped-requires-clause-alone
perform_copied-stepped-requires-clause-alone g c =
    let at : side_op Trail c.args.pair.now c.args.m.now ≡ Some c.in-Some.line.now = sym c.next_line.ensures ∙ ap option_copied c.in-Some.is in
    let here = op_here Trail c.args.pair.now c.args.m.now c.classed-pair.ensures.sites c.requires.fits c.in-Some.line.now (Copied c.in-Copied.mid) at c.in-Copied.is in
    copied_alone Trail c.args.pair.now c.args.m.now c.classed-pair.ensures.sites c.requires.fits c.in-Copied.mid c.in-Some.line.now.line here

pub check_word-stepped-requires-clause-register : goal.check_word-stepped-requires-clause-register
check_word-stepped-requires-clause-register g c =
    let at : side_op Trail c.args.pair.now c.args.m.now ≡ Some c.in-Some.line.now = sym c.next_line.ensures ∙ ap option_copied c.in-Some.is in
    let here = op_here Trail c.args.pair.now c.args.m.now c.classed-pair.ensures.sites c.requires.fits c.in-Some.line.now (Check c.in-Check.site c.in-Check.source) at c.in-Check.is in
    source_within Trail c.args.pair.now c.args.m.now c.classed-pair.ensures.sites c.requires.fits c.in-Check.source here

pub check_word-stepped-requires-clause-near : goal.check_word-stepped-requires-clause-near
check_word-stepped-requires-clause-near g c =
    near_here Trail c.args.pair.now c.args.m.now c.classed-pair.ensures.sites c.requires.fits

pub send_operands-stepped-requires-clause-spelled : goal.send_operands-stepped-requires-clause-spelled
send_operands-stepped-requires-clause-spelled g c =
    let at : side_op Trail c.args.pair.now c.args.m.now ≡ Some c.in-Some.line.now = sym c.next_line.ensures ∙ ap option_copied c.in-Some.is in
    let here = op_here Trail c.args.pair.now c.args.m.now c.classed-pair.ensures.sites c.requires.fits c.in-Some.line.now (Ack c.in-Ack.site c.in-Ack.operands) at c.in-Ack.is in
    can_spell Trail c.args.pair.now c.args.m.now c.classed-pair.ensures.sites c.requires.fits (operands_list c.in-Ack.operands) here

pub send_operands-stepped-requires-clause-near : goal.send_operands-stepped-requires-clause-near
send_operands-stepped-requires-clause-near g c =
    near_here Trail c.args.pair.now c.args.m.now c.classed-pair.ensures.sites c.requires.fits

pub register-requires : goal.register-requires
register-requires g c =
    let at : side_op Trail c.args.pair.now c.args.m.now ≡ Some c.in-Some.line.now = sym c.next_line.ensures ∙ ap option_copied c.in-Some.is in
    let here = op_here Trail c.args.pair.now c.args.m.now c.classed-pair.ensures.sites c.requires.fits c.in-Some.line.now (End c.in-End.source) at c.in-End.is in
    source_within Trail c.args.pair.now c.args.m.now c.classed-pair.ensures.sites c.requires.fits c.in-End.source here

pub unreachable-requires-in-SharedLoad : goal.unreachable-requires-in-SharedLoad
unreachable-requires-in-SharedLoad g c =
    let at : side_op Trail c.args.pair.now c.args.m.now ≡ Some c.in-Some.line.now = sym c.next_line.ensures ∙ ap option_copied c.in-Some.is in
    elim c.in-SharedLoad.is [
      | inl x ↦ op_here Trail c.args.pair.now c.args.m.now c.classed-pair.ensures.sites c.requires.fits c.in-Some.line.now (SharedLoad x.0 x.1 x.2) at x.3
      | inr rest ↦
          elim rest [
            | inl x ↦ op_here Trail c.args.pair.now c.args.m.now c.classed-pair.ensures.sites c.requires.fits c.in-Some.line.now (SharedStore x.0 x.1 x.2) at x.3
            | inr rest ↦
                elim rest [
                  | inl x ↦ op_here Trail c.args.pair.now c.args.m.now c.classed-pair.ensures.sites c.requires.fits c.in-Some.line.now (SharedOpen x.0 x.1 x.2) at x.3
                  | inr rest ↦
                      elim rest [
                        | inl x ↦ op_here Trail c.args.pair.now c.args.m.now c.classed-pair.ensures.sites c.requires.fits c.in-Some.line.now (SharedClose x.0) at x.1
                        | inr rest ↦
                            elim rest [
                              | inl x ↦ op_here Trail c.args.pair.now c.args.m.now c.classed-pair.ensures.sites c.requires.fits c.in-Some.line.now (Ask x.0 x.1) at x.2
                              | inr rest ↦
                                  elim rest [
                                    | inl x ↦ op_here Trail c.args.pair.now c.args.m.now c.classed-pair.ensures.sites c.requires.fits c.in-Some.line.now (Await x.0 x.1) at x.2
                                    | inr rest ↦
                                        elim rest [
                                          | inl x ↦ op_here Trail c.args.pair.now c.args.m.now c.classed-pair.ensures.sites c.requires.fits c.in-Some.line.now (Act x.0 x.1 x.2 x.3 x.4) at x.5
                                          | inr rest ↦
                                              elim rest [
                                                | inl x ↦ op_here Trail c.args.pair.now c.args.m.now c.classed-pair.ensures.sites c.requires.fits c.in-Some.line.now (Enter x.0 x.1 x.2 x.3 x.4) at x.5
                                                | inr rest ↦
                                                    elim rest [
                                                      | inl x ↦ op_here Trail c.args.pair.now c.args.m.now c.classed-pair.ensures.sites c.requires.fits c.in-Some.line.now (Callback x.0) at x.1
                                                      | inr rest ↦
                                                          elim rest [
                                                            | inl x ↦ op_here Trail c.args.pair.now c.args.m.now c.classed-pair.ensures.sites c.requires.fits c.in-Some.line.now (CheckZero x.0) at x.1
                                                            | inr rest ↦
                                                                elim rest [
                                                                  | inl x ↦ op_here Trail c.args.pair.now c.args.m.now c.classed-pair.ensures.sites c.requires.fits c.in-Some.line.now (CheckStored x.0 x.1) at x.2
                                                                  | inr rest ↦
                                                                      elim rest [
                                                                        | inl x ↦ op_here Trail c.args.pair.now c.args.m.now c.classed-pair.ensures.sites c.requires.fits c.in-Some.line.now (Take x.0 x.1) at x.2
                                                                        | inr rest ↦
                                                                            elim rest [
                                                                              | inl x ↦ op_here Trail c.args.pair.now c.args.m.now c.classed-pair.ensures.sites c.requires.fits c.in-Some.line.now (TakeDone x.0) at x.1
                                                                              | inr rest ↦
                                                                                  elim rest [
                                                                                    | inl x ↦ op_here Trail c.args.pair.now c.args.m.now c.classed-pair.ensures.sites c.requires.fits c.in-Some.line.now (CheckOpen x.0 x.1 x.2) at x.3
                                                                                    | inr x ↦ op_here Trail c.args.pair.now c.args.m.now c.classed-pair.ensures.sites c.requires.fits c.in-Some.line.now (CheckClose x.0) at x.1
                                                                                  ]
                                                                            ]
                                                                      ]
                                                                ]
                                                          ]
                                                    ]
                                              ]
                                        ]
                                  ]
                            ]
                      ]
                ]
          ]
    ]

pub returns-in-Copied-clause-step : goal.returns-in-Copied-clause-step
returns-in-Copied-clause-step g c w =
    let at : side_op Trail c.args.pair.now c.args.m.now ≡ Some c.in-Some.line.now = sym c.next_line.ensures ∙ ap option_copied c.in-Some.is in
    trail_tries c.args.pair.now c.args.m.now c.perform_copied-stepped.new.m w w c.perform_copied-stepped.result [] _ _ c.in-Some.line.now (Copied c.in-Copied.mid) at c.in-Copied.is
    (was_quiet _ c.args.m.now c.perform_copied-stepped.new.m w c.perform_copied-stepped.result _ c.perform_copied-stepped.ensures.comes)

pub returns-in-Copied-clause-fits : goal.returns-in-Copied-clause-fits
returns-in-Copied-clause-fits g c =
    let at : side_op Trail c.args.pair.now c.args.m.now ≡ Some c.in-Some.line.now = sym c.next_line.ensures ∙ ap option_copied c.in-Some.is in
    let w : WorldState = Over in
    let link : Shown = unasked NotYet 0 true in
    let tries =
    trail_tries c.args.pair.now c.args.m.now c.perform_copied-stepped.new.m w w c.perform_copied-stepped.result [] link link c.in-Some.line.now (Copied c.in-Copied.mid) at c.in-Copied.is
    (was_quiet _ c.args.m.now c.perform_copied-stepped.new.m w c.perform_copied-stepped.result link c.perform_copied-stepped.ensures.comes)
    in
    trail_fits_after c.args.pair.now c.args.m.now c.perform_copied-stepped.new.m w w [] link link c.perform_copied-stepped.result c.classed-pair.ensures.sites c.requires.fits tries

pub returns-in-Check-clause-step : goal.returns-in-Check-clause-step
returns-in-Check-clause-step g c w =
    let at : side_op Trail c.args.pair.now c.args.m.now ≡ Some c.in-Some.line.now = sym c.next_line.ensures ∙ ap option_copied c.in-Some.is in
    trail_tries c.args.pair.now c.args.m.now c.check_word-stepped.new.m w w c.check_word-stepped.result [] _ _ c.in-Some.line.now (Check c.in-Check.site c.in-Check.source) at c.in-Check.is
    (c.check_word-stepped.ensures.tries w)

pub returns-in-Check-clause-fits : goal.returns-in-Check-clause-fits
returns-in-Check-clause-fits g c =
    let at : side_op Trail c.args.pair.now c.args.m.now ≡ Some c.in-Some.line.now = sym c.next_line.ensures ∙ ap option_copied c.in-Some.is in
    let w : WorldState = Over in
    let tries =
    trail_tries c.args.pair.now c.args.m.now c.check_word-stepped.new.m w w c.check_word-stepped.result [] _ _ c.in-Some.line.now (Check c.in-Check.site c.in-Check.source) at c.in-Check.is
    (c.check_word-stepped.ensures.tries w)
    in
    trail_fits_after c.args.pair.now c.args.m.now c.check_word-stepped.new.m w w [] _ _ c.check_word-stepped.result c.classed-pair.ensures.sites c.requires.fits tries

pub returns-in-Ack-clause-step : goal.returns-in-Ack-clause-step
returns-in-Ack-clause-step g c w =
    let at : side_op Trail c.args.pair.now c.args.m.now ≡ Some c.in-Some.line.now = sym c.next_line.ensures ∙ ap option_copied c.in-Some.is in
    trail_tries c.args.pair.now c.args.m.now c.send_operands-stepped.new.m w w c.send_operands-stepped.result [] _ _ c.in-Some.line.now (Ack c.in-Ack.site c.in-Ack.operands) at c.in-Ack.is
    (c.send_operands-stepped.ensures.tries w)

pub returns-in-Ack-clause-fits : goal.returns-in-Ack-clause-fits
returns-in-Ack-clause-fits g c =
    let at : side_op Trail c.args.pair.now c.args.m.now ≡ Some c.in-Some.line.now = sym c.next_line.ensures ∙ ap option_copied c.in-Some.is in
    let w : WorldState = Over in
    let tries =
    trail_tries c.args.pair.now c.args.m.now c.send_operands-stepped.new.m w w c.send_operands-stepped.result [] _ _ c.in-Some.line.now (Ack c.in-Ack.site c.in-Ack.operands) at c.in-Ack.is
    (c.send_operands-stepped.ensures.tries w)
    in
    trail_fits_after c.args.pair.now c.args.m.now c.send_operands-stepped.new.m w w [] _ _ c.send_operands-stepped.result c.classed-pair.ensures.sites c.requires.fits tries

pub returns-in-End-clause-step : goal.returns-in-End-clause-step
returns-in-End-clause-step g c w =
    let at : side_op Trail c.args.pair.now c.args.m.now ≡ Some c.in-Some.line.now = sym c.next_line.ensures ∙ ap option_copied c.in-Some.is in
    trail_tries c.args.pair.now c.args.m.now c.args.m.now w w (MadeLast (ExitEnd (c.register.result % 256))) [] _ _ c.in-Some.line.now (End c.in-End.source) at c.in-End.is
    (was_quiet (Ended (ExitEnd (holds c.args.m.now c.in-End.source % 256))) c.args.m.now c.args.m.now w (MadeLast (ExitEnd (c.register.result % 256))) _ (ap (λ v. Ended (ExitEnd (v % 256))) (sym c.register.ensures)))
