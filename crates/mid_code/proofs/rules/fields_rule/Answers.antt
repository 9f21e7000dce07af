use Rattle.std.proofs.Common.{◌≡◌, ◌+◌, ◌∙◌, suc, ◌∷◌, List, sym, ap, drop, arith, Option}
use Rattle.std.proofs.Math.Seq.{drop-cons}
use Rattle.std.proofs.Math.ListN.{drop_of_length-le}
use Rattle.mid_code.specs.Fields.{Field, present}
use Rattle.mid_code.specs.Rules.{lesser, fields_rule}
use Rattle.mid_code.proofs.RuleLemmas.{lesser-none, lesser-assoc, rule_before}
use Rattle.mid_code.proofs.rules.fields_rule.Goals as goal

pub loop-item-preserved : goal.loop-item-preserved
loop-item-preserved c =
    let program = c.args.program.now in
    let function = c.args.function.now in
    let place = c.args.place in
    let row : List (Option Field) = c.args.row.now in
    let at = c.loop-item.item-index in
    let left : drop at row ≡ c.item-item.result ∷ drop (suc at) row =
    drop-cons row at c.item-item.result (omega arith) ∙ ap (λ x. x ∷ drop (suc at) row) (sym c.item-item.is) in
    let next : at + 1 ≡ suc at = omega arith in
    ap (λ n. lesser c.lesser-least.result (fields_rule program function place (present (drop n row)))) next
    ∙ ap (λ r. lesser r (fields_rule program function place (present (drop (suc at) row)))) (c.lesser-least.ensures ∙ ap (lesser c.loop-item.least) c.item_rule.ensures)
    ∙ lesser-assoc c.loop-item.least _ (fields_rule program function place (present (drop (suc at) row)))
    ∙ ap (lesser c.loop-item.least) (sym (rule_before program function place c.item-item.result (drop (suc at) row)) ∙ ap (λ (xs : List (Option Field)). fields_rule program function place (present xs)) (sym left))
    ∙ c.loop-item.invariant

pub returns : goal.returns
returns c =
    sym (lesser-none c.loop-item.least)
    ∙ ap (λ (xs : List (Option Field)). lesser c.loop-item.least (fields_rule c.args.program.now c.args.function.now c.args.place (present xs))) (sym (drop_of_length-le c.args.row.now (omega arith)))
    ∙ c.loop-item.invariant
