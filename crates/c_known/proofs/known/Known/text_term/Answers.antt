use Rattle.std.proofs.Common.{Ok, ◌≡◌, ◌+◌, suc, arith, subst, length, sym, ap, ◌∙◌, nat_le, nat_lt}
use Rattle.typing_rules.specs.declared.refusal.TypeRefusal.TheVariants.{TooLarge}
use Rattle.typing_rules.specs.declared.refusal.Size.TheVariants.{Cells}
use Rattle.typing_rules.specs.Checking.{needs}
use Rattle.typing_rules.specs.OrderedParts.{counted}
use Rattle.c_values.specs.Answers.{MeansTerm}
use Rattle.c_known.specs.Gives.{Gives, IsDone}
use Rattle.c_known.specs.Refusals.{needed_as}
use Rattle.c_known.proofs.Binding.{bind, needs-gives}
use Rattle.c_known.proofs.known.Known.text_term.Goals as goal

pub returns : goal.returns
returns c =
    let s = c.args.self.now in let mid = c.count_cells.new.self in let line = c.args.line in let bytes = c.args.bytes.now in
    let cells : (c.len-cells.result + 1) ≡ suc (length bytes) = omega (arith, c.len-cells.ensures) in
    bind IsDone MeansTerm s s _ c.in_ok-needs.field-0 c.new_text.result (needs (nat_le (suc (length bytes)) 65535) (TooLarge line Cells)) _
    (subst (λ r. Gives IsDone s s r (needs (nat_le (suc (length bytes)) 65535) (TooLarge line Cells)))
    (sym (c.needs.ensures ∙ ap (λ n. needed_as (nat_lt n 65535) (TooLarge line Cells)) c.len-cells.ensures) ∙ c.in_ok-needs.was)
    (needs-gives s (nat_le (suc (length bytes)) 65535) (TooLarge line Cells)))
    (λ _ _ _. bind IsDone MeansTerm s mid _ c.in_ok-count_cells.field-0 c.new_text.result (counted line (suc (length bytes))) _
    (subst (λ n. Gives IsDone s mid (Ok c.in_ok-count_cells.field-0) (counted line n)) cells (subst (λ r. Gives IsDone s mid r (counted line (c.len-cells.result + 1))) c.in_ok-count_cells.was c.count_cells.ensures))
    (λ _ _ _. c.new_text.ensures))
