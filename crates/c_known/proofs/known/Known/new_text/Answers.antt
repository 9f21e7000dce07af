use Rattle.std.proofs.Common.{subst, length}
use Rattle.c_typed.specs.Typed.{place, text}
use Rattle.typing_rules.specs.Known as known
use Rattle.typing_rules.specs.Terms.{object, text_type}
use Rattle.typing_rules.specs.Checking.{pure, asks, makes}
use Rattle.c_values.specs.Answers.{MeansTerm}
use Rattle.c_known.specs.Gives.{Gives, IsDone, IsSame}
use Rattle.c_known.proofs.Binding.{bind}
use Rattle.c_known.proofs.Growing.{answers-grown}
use Rattle.c_known.proofs.known.Known.new_text.Goals as goal

pub returns : goal.returns
returns c =
    let s = c.args.self.now in let mid = c.add_text.new.self in let line = c.args.line in let bytes = c.args.bytes.now in
    bind IsSame MeansTerm s s _ c.in_ok-number.number c.text_object.result (asks (λ k. length k.texts)) _
    (subst (λ r. Gives IsSame s s r (asks (λ k. length k.texts))) c.in_ok-number.was c.text_count.ensures)
    (λ n more same. bind IsDone MeansTerm s mid _ c.in_ok-add_text.field-0 c.text_object.result (makes (known.with_text line bytes)) _
    (subst (λ r. Gives IsDone s mid r (makes (known.with_text line bytes))) c.in_ok-add_text.was c.add_text.ensures)
    (λ _ _ _. subst (Gives MeansTerm mid (record mid { types = c.text_object.new.types }) c.text_object.result)
    (λ i. pure (object (place line (text_type (c.len.ensures i)) (text (same i)))))
    (answers-grown MeansTerm mid c.text_object.new.types c.text_object.result _ c.text_object.ensures.kept c.text_object.ensures.term)))
