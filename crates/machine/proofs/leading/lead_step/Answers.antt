use Rattle.std.proofs.Common.{◌≡◌, ◌∙◌, true, [], Some, inl, inr, ap, sym, arith}
use Rattle.std.specs.Option.{option_copied}
use Rattle.srmt_base.specs.declared.side.Side.TheVariants.{Lead}
use Rattle.srmt_outside.proofs.Told.{Appends-nothing}
use Rattle.mid_code.specs.declared.version.VersionOp.TheVariants.{Copied, SharedLoad, SharedStore, SharedOpen, SharedClose, Ask, Await, Act, Enter, Callback, Check, CheckZero, CheckStored, Ack, Take, TakeDone, CheckOpen, CheckClose, End}
use Rattle.mid_code.specs.Versions.{operands_list}
use Rattle.machine.specs.declared.link_call.Taken.TheVariants.{NotYet}
use Rattle.machine.specs.OneStep.{unasked}
use Rattle.machine.specs.Link.{Shown}
use Rattle.machine.specs.Steps.{side_op, operands}
use Rattle.machine.specs.Leading.{act_request}
use Rattle.word_stream.specs.Reading.{request_of}
use Rattle.machine.proofs.Trying.{was_quiet, sends_counts, awaits_counts}
use Rattle.machine.proofs.Standing.{near_here, op_here, heard_here, can_spell, copied_ready, copied_alone, lead_tries, lead_fits_after, lead_lives_after, first_operand, served_there, same_request}
use Rattle.machine.proofs.leading.lead_step.Goals as goal

pub perform_copied-stepped-requires-clause-ready : goal.perform_copied-stepped-requires-clause-ready
perform_copied-stepped-requires-clause-ready g c =
    let at : side_op Lead c.args.pair.now c.args.m.now ≡ Some c.in-Some.line.now = sym c.next_line.ensures ∙ ap option_copied c.in-Some.is in
    let here = op_here Lead c.args.pair.now c.args.m.now c.classed-pair.ensures.sites c.requires.fits c.in-Some.line.now (Copied c.in-Copied.mid) at c.in-Copied.is in
    copied_ready Lead c.args.pair.now c.args.m.now c.classed-pair.ensures.sites c.requires.fits c.in-Copied.mid here

pub perform_copied-stepped-requires-clause-alone : goal.perform_copied-stepped-requires-clause-alone
perform_copied-stepped-requires-clause-alone g c =
    let at : side_op Lead c.args.pair.now c.args.m.now ≡ Some c.in-Some.line.now = sym c.next_line.ensures ∙ ap option_copied c.in-Some.is in
    let here = op_here Lead c.args.pair.now c.args.m.now c.classed-pair.ensures.sites c.requires.fits c.in-Some.line.now (Copied c.in-Copied.mid) at c.in-Copied.is in
    copied_alone Lead c.args.pair.now c.args.m.now c.classed-pair.ensures.sites c.requires.fits c.in-Copied.mid c.in-Some.line.now.line here

pub send_operands-stepped-requires-clause-spelled : goal.send_operands-stepped-requires-clause-spelled
send_operands-stepped-requires-clause-spelled g c =
    let at : side_op Lead c.args.pair.now c.args.m.now ≡ Some c.in-Some.line.now = sym c.next_line.ensures ∙ ap option_copied c.in-Some.is in
    let here = op_here Lead c.args.pair.now c.args.m.now c.classed-pair.ensures.sites c.requires.fits c.in-Some.line.now (Ask c.in-Ask.site c.in-Ask.operands) at c.in-Ask.is in
    can_spell Lead c.args.pair.now c.args.m.now c.classed-pair.ensures.sites c.requires.fits (operands_list c.in-Ask.operands) here

pub send_operands-stepped-requires-clause-near : goal.send_operands-stepped-requires-clause-near
send_operands-stepped-requires-clause-near g c =
    near_here Lead c.args.pair.now c.args.m.now c.classed-pair.ensures.sites c.requires.fits

pub await_acks-stepped-requires-clause-spelled : goal.await_acks-stepped-requires-clause-spelled
await_acks-stepped-requires-clause-spelled g c =
    let at : side_op Lead c.args.pair.now c.args.m.now ≡ Some c.in-Some.line.now = sym c.next_line.ensures ∙ ap option_copied c.in-Some.is in
    let here = op_here Lead c.args.pair.now c.args.m.now c.classed-pair.ensures.sites c.requires.fits c.in-Some.line.now (Await c.in-Await.site c.in-Await.operands) at c.in-Await.is in
    can_spell Lead c.args.pair.now c.args.m.now c.classed-pair.ensures.sites c.requires.fits (operands_list c.in-Await.operands) here

pub await_acks-stepped-requires-clause-near : goal.await_acks-stepped-requires-clause-near
await_acks-stepped-requires-clause-near g c =
    near_here Lead c.args.pair.now c.args.m.now c.classed-pair.ensures.sites c.requires.fits

pub await_acks-stepped-requires-clause-more : goal.await_acks-stepped-requires-clause-more
await_acks-stepped-requires-clause-more g c =
    let at : side_op Lead c.args.pair.now c.args.m.now ≡ Some c.in-Some.line.now = sym c.next_line.ensures ∙ ap option_copied c.in-Some.is in
    heard_here Lead c.args.pair.now c.args.m.now c.classed-pair.ensures.sites c.requires.fits c.in-Some.line.now (Await c.in-Await.site c.in-Await.operands) at c.in-Await.is

pub returns-in-Copied-clause-step : goal.returns-in-Copied-clause-step
returns-in-Copied-clause-step g c =
    let at : side_op Lead c.args.pair.now c.args.m.now ≡ Some c.in-Some.line.now = sym c.next_line.ensures ∙ ap option_copied c.in-Some.is in
    let tries =
    lead_tries c.args.pair.now c.args.m.now c.perform_copied-stepped.new.m c.args.w.now c.args.w.now c.perform_copied-stepped.result [] _ _ c.in-Some.line.now (Copied c.in-Copied.mid) at c.in-Copied.is
    (was_quiet _ c.args.m.now c.perform_copied-stepped.new.m c.args.w.now c.perform_copied-stepped.result _ c.perform_copied-stepped.ensures.comes)
    in
    ([], tries, Appends-nothing _)

pub returns-in-Copied-clause-fits : goal.returns-in-Copied-clause-fits
returns-in-Copied-clause-fits g c =
    let at : side_op Lead c.args.pair.now c.args.m.now ≡ Some c.in-Some.line.now = sym c.next_line.ensures ∙ ap option_copied c.in-Some.is in
    let link : Shown = unasked NotYet 0 true in
    let tries =
    lead_tries c.args.pair.now c.args.m.now c.perform_copied-stepped.new.m c.args.w.now c.args.w.now c.perform_copied-stepped.result [] link link c.in-Some.line.now (Copied c.in-Copied.mid) at c.in-Copied.is
    (was_quiet _ c.args.m.now c.perform_copied-stepped.new.m c.args.w.now c.perform_copied-stepped.result link c.perform_copied-stepped.ensures.comes)
    in
    lead_fits_after c.args.pair.now c.args.m.now c.perform_copied-stepped.new.m c.args.w.now c.args.w.now [] link link c.perform_copied-stepped.result c.classed-pair.ensures.sites c.requires.fits tries

pub returns-in-Copied-clause-live : goal.returns-in-Copied-clause-live
returns-in-Copied-clause-live g c =
    let at : side_op Lead c.args.pair.now c.args.m.now ≡ Some c.in-Some.line.now = sym c.next_line.ensures ∙ ap option_copied c.in-Some.is in
    let link : Shown = unasked NotYet 0 true in
    let tries =
    lead_tries c.args.pair.now c.args.m.now c.perform_copied-stepped.new.m c.args.w.now c.args.w.now c.perform_copied-stepped.result [] link link c.in-Some.line.now (Copied c.in-Copied.mid) at c.in-Copied.is
    (was_quiet _ c.args.m.now c.perform_copied-stepped.new.m c.args.w.now c.perform_copied-stepped.result link c.perform_copied-stepped.ensures.comes)
    in
    lead_lives_after c.args.pair.now c.args.m.now c.perform_copied-stepped.new.m c.args.w.now c.args.w.now [] link link c.perform_copied-stepped.result c.requires.live tries

pub returns-in-Ask-clause-step : goal.returns-in-Ask-clause-step
returns-in-Ask-clause-step g c =
    let at : side_op Lead c.args.pair.now c.args.m.now ≡ Some c.in-Some.line.now = sym c.next_line.ensures ∙ ap option_copied c.in-Some.is in
    let tries =
    lead_tries c.args.pair.now c.args.m.now c.send_operands-stepped.new.m c.args.w.now c.args.w.now c.send_operands-stepped.result [] _ _ c.in-Some.line.now (Ask c.in-Ask.site c.in-Ask.operands) at c.in-Ask.is
    (c.send_operands-stepped.ensures.tries c.args.w.now)
    in
    ([], tries, Appends-nothing _)

pub returns-in-Ask-clause-fits : goal.returns-in-Ask-clause-fits
returns-in-Ask-clause-fits g c =
    let at : side_op Lead c.args.pair.now c.args.m.now ≡ Some c.in-Some.line.now = sym c.next_line.ensures ∙ ap option_copied c.in-Some.is in
    let tries =
    lead_tries c.args.pair.now c.args.m.now c.send_operands-stepped.new.m c.args.w.now c.args.w.now c.send_operands-stepped.result [] _ _ c.in-Some.line.now (Ask c.in-Ask.site c.in-Ask.operands) at c.in-Ask.is
    (c.send_operands-stepped.ensures.tries c.args.w.now)
    in
    lead_fits_after c.args.pair.now c.args.m.now c.send_operands-stepped.new.m c.args.w.now c.args.w.now [] _ _ c.send_operands-stepped.result c.classed-pair.ensures.sites c.requires.fits tries

pub returns-in-Ask-clause-live : goal.returns-in-Ask-clause-live
returns-in-Ask-clause-live g c =
    let at : side_op Lead c.args.pair.now c.args.m.now ≡ Some c.in-Some.line.now = sym c.next_line.ensures ∙ ap option_copied c.in-Some.is in
    let tries =
    lead_tries c.args.pair.now c.args.m.now c.send_operands-stepped.new.m c.args.w.now c.args.w.now c.send_operands-stepped.result [] _ _ c.in-Some.line.now (Ask c.in-Ask.site c.in-Ask.operands) at c.in-Ask.is
    (c.send_operands-stepped.ensures.tries c.args.w.now)
    in
    lead_lives_after c.args.pair.now c.args.m.now c.send_operands-stepped.new.m c.args.w.now c.args.w.now [] _ _ c.send_operands-stepped.result c.requires.live tries

pub returns-in-Ask-clause-faults : goal.returns-in-Ask-clause-faults
returns-in-Ask-clause-faults g c =
    sends_counts _ _ c.args.w.now _ _ c.send_operands-stepped.result _ _ _ _ (c.send_operands-stepped.ensures.tries c.args.w.now)

pub returns-in-Await-clause-step : goal.returns-in-Await-clause-step
returns-in-Await-clause-step g c =
    let at : side_op Lead c.args.pair.now c.args.m.now ≡ Some c.in-Some.line.now = sym c.next_line.ensures ∙ ap option_copied c.in-Some.is in
    let tries =
    lead_tries c.args.pair.now c.args.m.now c.await_acks-stepped.new.m c.args.w.now c.args.w.now c.await_acks-stepped.result [] _ _ c.in-Some.line.now (Await c.in-Await.site c.in-Await.operands) at c.in-Await.is
    (c.await_acks-stepped.ensures.tries c.args.w.now)
    in
    ([], tries, Appends-nothing _)

pub returns-in-Await-clause-fits : goal.returns-in-Await-clause-fits
returns-in-Await-clause-fits g c =
    let at : side_op Lead c.args.pair.now c.args.m.now ≡ Some c.in-Some.line.now = sym c.next_line.ensures ∙ ap option_copied c.in-Some.is in
    let tries =
    lead_tries c.args.pair.now c.args.m.now c.await_acks-stepped.new.m c.args.w.now c.args.w.now c.await_acks-stepped.result [] _ _ c.in-Some.line.now (Await c.in-Await.site c.in-Await.operands) at c.in-Await.is
    (c.await_acks-stepped.ensures.tries c.args.w.now)
    in
    lead_fits_after c.args.pair.now c.args.m.now c.await_acks-stepped.new.m c.args.w.now c.args.w.now [] _ _ c.await_acks-stepped.result c.classed-pair.ensures.sites c.requires.fits tries

pub returns-in-Await-clause-live : goal.returns-in-Await-clause-live
returns-in-Await-clause-live g c =
    let at : side_op Lead c.args.pair.now c.args.m.now ≡ Some c.in-Some.line.now = sym c.next_line.ensures ∙ ap option_copied c.in-Some.is in
    let tries =
    lead_tries c.args.pair.now c.args.m.now c.await_acks-stepped.new.m c.args.w.now c.args.w.now c.await_acks-stepped.result [] _ _ c.in-Some.line.now (Await c.in-Await.site c.in-Await.operands) at c.in-Await.is
    (c.await_acks-stepped.ensures.tries c.args.w.now)
    in
    lead_lives_after c.args.pair.now c.args.m.now c.await_acks-stepped.new.m c.args.w.now c.args.w.now [] _ _ c.await_acks-stepped.result c.requires.live tries

pub returns-in-Await-clause-faults : goal.returns-in-Await-clause-faults
returns-in-Await-clause-faults g c =
    awaits_counts _ _ _ c.args.w.now _ c.await_acks-stepped.result _ _ _ _ (c.await_acks-stepped.ensures.tries c.args.w.now)

pub unreachable-requires-in-SharedLoad : goal.unreachable-requires-in-SharedLoad
unreachable-requires-in-SharedLoad g c =
    let at : side_op Lead c.args.pair.now c.args.m.now ≡ Some c.in-Some.line.now = sym c.next_line.ensures ∙ ap option_copied c.in-Some.is in
    elim c.in-SharedLoad.is [
      | inl x ↦ op_here Lead c.args.pair.now c.args.m.now c.classed-pair.ensures.sites c.requires.fits c.in-Some.line.now (SharedLoad x.0 x.1 x.2) at x.3
      | inr rest ↦
          elim rest [
            | inl x ↦ op_here Lead c.args.pair.now c.args.m.now c.classed-pair.ensures.sites c.requires.fits c.in-Some.line.now (SharedStore x.0 x.1 x.2) at x.3
            | inr rest ↦
                elim rest [
                  | inl x ↦ op_here Lead c.args.pair.now c.args.m.now c.classed-pair.ensures.sites c.requires.fits c.in-Some.line.now (SharedOpen x.0 x.1 x.2) at x.3
                  | inr rest ↦
                      elim rest [
                        | inl x ↦ op_here Lead c.args.pair.now c.args.m.now c.classed-pair.ensures.sites c.requires.fits c.in-Some.line.now (SharedClose x.0) at x.1
                        | inr rest ↦
                            elim rest [
                              | inl x ↦ op_here Lead c.args.pair.now c.args.m.now c.classed-pair.ensures.sites c.requires.fits c.in-Some.line.now (Enter x.0 x.1 x.2 x.3 x.4) at x.5
                              | inr rest ↦
                                  elim rest [
                                    | inl x ↦ op_here Lead c.args.pair.now c.args.m.now c.classed-pair.ensures.sites c.requires.fits c.in-Some.line.now (Callback x.0) at x.1
                                    | inr rest ↦
                                        elim rest [
                                          | inl x ↦ op_here Lead c.args.pair.now c.args.m.now c.classed-pair.ensures.sites c.requires.fits c.in-Some.line.now (Check x.0 x.1) at x.2
                                          | inr rest ↦
                                              elim rest [
                                                | inl x ↦ op_here Lead c.args.pair.now c.args.m.now c.classed-pair.ensures.sites c.requires.fits c.in-Some.line.now (CheckZero x.0) at x.1
                                                | inr rest ↦
                                                    elim rest [
                                                      | inl x ↦ op_here Lead c.args.pair.now c.args.m.now c.classed-pair.ensures.sites c.requires.fits c.in-Some.line.now (CheckStored x.0 x.1) at x.2
                                                      | inr rest ↦
                                                          elim rest [
                                                            | inl x ↦ op_here Lead c.args.pair.now c.args.m.now c.classed-pair.ensures.sites c.requires.fits c.in-Some.line.now (Ack x.0 x.1) at x.2
                                                            | inr rest ↦
                                                                elim rest [
                                                                  | inl x ↦ op_here Lead c.args.pair.now c.args.m.now c.classed-pair.ensures.sites c.requires.fits c.in-Some.line.now (Take x.0 x.1) at x.2
                                                                  | inr rest ↦
                                                                      elim rest [
                                                                        | inl x ↦ op_here Lead c.args.pair.now c.args.m.now c.classed-pair.ensures.sites c.requires.fits c.in-Some.line.now (TakeDone x.0) at x.1
                                                                        | inr rest ↦
                                                                            elim rest [
                                                                              | inl x ↦ op_here Lead c.args.pair.now c.args.m.now c.classed-pair.ensures.sites c.requires.fits c.in-Some.line.now (CheckOpen x.0 x.1 x.2) at x.3
                                                                              | inr rest ↦
                                                                                  elim rest [
                                                                                    | inl x ↦ op_here Lead c.args.pair.now c.args.m.now c.classed-pair.ensures.sites c.requires.fits c.in-Some.line.now (CheckClose x.0) at x.1
                                                                                    | inr x ↦ op_here Lead c.args.pair.now c.args.m.now c.classed-pair.ensures.sites c.requires.fits c.in-Some.line.now (End x.0) at x.1
                                                                                  ]
                                                                            ]
                                                                      ]
                                                                ]
                                                          ]
                                                    ]
                                              ]
                                        ]
                                  ]
                            ]
                      ]
                ]
          ]
    ]

pub operand-value-requires-clause-within : goal.operand-value-requires-clause-within
operand-value-requires-clause-within g c =
    let at : side_op Lead c.args.pair.now c.args.m.now ≡ Some c.in-Some.line.now = sym c.next_line.ensures ∙ ap option_copied c.in-Some.is in
    let here = op_here Lead c.args.pair.now c.args.m.now c.classed-pair.ensures.sites c.requires.fits c.in-Some.line.now (Act c.in-Act.site c.in-Act.request c.in-Act.target c.in-Act.function c.in-Act.operands) at c.in-Act.is in
    omega (arith, here.args_fit.some)

pub operand-value-requires-clause-registers : goal.operand-value-requires-clause-registers
operand-value-requires-clause-registers g c =
    let at : side_op Lead c.args.pair.now c.args.m.now ≡ Some c.in-Some.line.now = sym c.next_line.ensures ∙ ap option_copied c.in-Some.is in
    let here = op_here Lead c.args.pair.now c.args.m.now c.classed-pair.ensures.sites c.requires.fits c.in-Some.line.now (Act c.in-Act.site c.in-Act.request c.in-Act.target c.in-Act.function c.in-Act.operands) at c.in-Act.is in
    (can_spell Lead c.args.pair.now c.args.m.now c.classed-pair.ensures.sites c.requires.fits (operands_list c.in-Act.operands) here.args_fit).registers

pub unreachable-requires-in_default-request_of : goal.unreachable-requires-in_default-request_of
unreachable-requires-in_default-request_of g c =
    let at : side_op Lead c.args.pair.now c.args.m.now ≡ Some c.in-Some.line.now = sym c.next_line.ensures ∙ ap option_copied c.in-Some.is in
    let here = op_here Lead c.args.pair.now c.args.m.now c.classed-pair.ensures.sites c.requires.fits c.in-Some.line.now (Act c.in-Act.site c.in-Act.request c.in-Act.target c.in-Act.function c.in-Act.operands) at c.in-Act.is in
    served_there c.in-Act.request c.in-Act.site c.operand-value.result here.served (sym c.request_of.ensures ∙ c.in_default-request_of.is)

pub act_on-stepped-requires-clause-near : goal.act_on-stepped-requires-clause-near
act_on-stepped-requires-clause-near g c =
    near_here Lead c.args.pair.now c.args.m.now c.classed-pair.ensures.sites c.requires.fits

pub returns-in-Some-request_of-clause-step : goal.returns-in-Some-request_of-clause-step
returns-in-Some-request_of-clause-step g c =
    let at : side_op Lead c.args.pair.now c.args.m.now ≡ Some c.in-Some.line.now = sym c.next_line.ensures ∙ ap option_copied c.in-Some.is in
    let here = op_here Lead c.args.pair.now c.args.m.now c.classed-pair.ensures.sites c.requires.fits c.in-Some.line.now (Act c.in-Act.site c.in-Act.request c.in-Act.target c.in-Act.function c.in-Act.operands) at c.in-Act.is in
    let known : act_request c.in-Act.request c.in-Act.site (operands c.args.m.now (operands_list c.in-Act.operands)) ≡ Some c.in-Some-request_of.request =
    ap (request_of c.in-Act.request c.in-Act.site) (first_operand c.args.m.now (operands_list c.in-Act.operands) here.args_fit.some ∙ sym c.operand-value.ensures) ∙ sym c.request_of.ensures ∙ c.in-Some-request_of.is in
    let acted = c.act_on-stepped.ensures.tries in
    let tries =
    lead_tries c.args.pair.now c.args.m.now c.act_on-stepped.new.m c.args.w.now c.act_on-stepped.new.w c.act_on-stepped.result acted.0 _ _ c.in-Some.line.now (Act c.in-Act.site c.in-Act.request c.in-Act.target c.in-Act.function c.in-Act.operands) at c.in-Act.is
    (same_request _ _ _ _ _ _ _ _ c.in-Some-request_of.request _ known acted.1)
    in
    (acted.0, tries, acted.2)

pub returns-in-Some-request_of-clause-fits : goal.returns-in-Some-request_of-clause-fits
returns-in-Some-request_of-clause-fits g c =
    let at : side_op Lead c.args.pair.now c.args.m.now ≡ Some c.in-Some.line.now = sym c.next_line.ensures ∙ ap option_copied c.in-Some.is in
    let here = op_here Lead c.args.pair.now c.args.m.now c.classed-pair.ensures.sites c.requires.fits c.in-Some.line.now (Act c.in-Act.site c.in-Act.request c.in-Act.target c.in-Act.function c.in-Act.operands) at c.in-Act.is in
    let known : act_request c.in-Act.request c.in-Act.site (operands c.args.m.now (operands_list c.in-Act.operands)) ≡ Some c.in-Some-request_of.request =
    ap (request_of c.in-Act.request c.in-Act.site) (first_operand c.args.m.now (operands_list c.in-Act.operands) here.args_fit.some ∙ sym c.operand-value.ensures) ∙ sym c.request_of.ensures ∙ c.in-Some-request_of.is in
    let acted = c.act_on-stepped.ensures.tries in
    let tries =
    lead_tries c.args.pair.now c.args.m.now c.act_on-stepped.new.m c.args.w.now c.act_on-stepped.new.w c.act_on-stepped.result acted.0 _ _ c.in-Some.line.now (Act c.in-Act.site c.in-Act.request c.in-Act.target c.in-Act.function c.in-Act.operands) at c.in-Act.is
    (same_request _ _ _ _ _ _ _ _ c.in-Some-request_of.request _ known acted.1)
    in
    lead_fits_after c.args.pair.now c.args.m.now c.act_on-stepped.new.m c.args.w.now c.act_on-stepped.new.w acted.0 _ _ c.act_on-stepped.result c.classed-pair.ensures.sites c.requires.fits tries

pub returns-in-Some-request_of-clause-live : goal.returns-in-Some-request_of-clause-live
returns-in-Some-request_of-clause-live g c =
    let at : side_op Lead c.args.pair.now c.args.m.now ≡ Some c.in-Some.line.now = sym c.next_line.ensures ∙ ap option_copied c.in-Some.is in
    let here = op_here Lead c.args.pair.now c.args.m.now c.classed-pair.ensures.sites c.requires.fits c.in-Some.line.now (Act c.in-Act.site c.in-Act.request c.in-Act.target c.in-Act.function c.in-Act.operands) at c.in-Act.is in
    let known : act_request c.in-Act.request c.in-Act.site (operands c.args.m.now (operands_list c.in-Act.operands)) ≡ Some c.in-Some-request_of.request =
    ap (request_of c.in-Act.request c.in-Act.site) (first_operand c.args.m.now (operands_list c.in-Act.operands) here.args_fit.some ∙ sym c.operand-value.ensures) ∙ sym c.request_of.ensures ∙ c.in-Some-request_of.is in
    let acted = c.act_on-stepped.ensures.tries in
    let tries =
    lead_tries c.args.pair.now c.args.m.now c.act_on-stepped.new.m c.args.w.now c.act_on-stepped.new.w c.act_on-stepped.result acted.0 _ _ c.in-Some.line.now (Act c.in-Act.site c.in-Act.request c.in-Act.target c.in-Act.function c.in-Act.operands) at c.in-Act.is
    (same_request _ _ _ _ _ _ _ _ c.in-Some-request_of.request _ known acted.1)
    in
    lead_lives_after c.args.pair.now c.args.m.now c.act_on-stepped.new.m c.args.w.now c.act_on-stepped.new.w acted.0 _ _ c.act_on-stepped.result c.requires.live tries
