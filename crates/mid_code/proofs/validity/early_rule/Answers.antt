use Rattle.std.proofs.Common.{◌∙◌, ap, List}
use Rattle.std.specs.Option.{option_or}
use Rattle.mid_code.specs.declared.program.MidLine.{MidLine}
use Rattle.mid_code.specs.Rules.{broken, fields_rule, runs_out, early_rule}
use Rattle.mid_code.proofs.validity.early_rule.Goals as goal

pub returns : goal.returns
unfolding early_rule
returns c =
    let program = c.args.program.now in
    let function = c.args.function.now in
    let of_fields = c.fields_rule-of_fields.ensures ∙ ap (fields_rule program function c.args.place) c.fields.ensures in
    let last = c.broken.ensures ∙ ap (broken 6) (c.runs_out-last.ensures ∙ ap (λ (ls : List MidLine). runs_out ls c.args.place c.args.mid.now) c.as_slice.ensures) in
    let unfit = c.broken-2.ensures ∙ ap (broken 7) c.misfits_at-unfit.ensures in
    c.or-2.ensures ∙ ap (λ first. option_or first c.broken-2.result) (c.or.ensures ∙ ap (λ first. option_or first c.broken.result) of_fields ∙ ap (option_or _) last) ∙ ap (option_or _) unfit
