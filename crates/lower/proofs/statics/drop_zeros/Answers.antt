use Rattle.std.proofs.Common.{◌≡◌, ◌∙◌, ℕ, Some, None, Option, Bor, sym, ap, refl}
use Rattle.std.specs.Option.{option_copied, option_eq}
use Rattle.std.specs.contracts.prelude.U64PartialEq.TheImpl as numbers
use Rattle.lower.proofs.StartingObjects.{is_zero, all_kept, last_dropped, asks_last}
use Rattle.lower.proofs.statics.drop_zeros.Goals as goal

asked : (r : Option (Bor ℕ)) (z : Bor ℕ) → z.now ≡ 0
    → option_eq (λ (x : Bor ℕ) (y : Bor ℕ). (numbers.ghosts).eq x.now y.now) r (Some z) ≡ is_zero (option_copied r)
asked None z is = refl
asked (Some x) z is = ap (λ n. (numbers.ghosts).eq x.now n) is

pub loop-values-preserved : goal.loop-values-preserved
loop-values-preserved c =
    last_dropped c.loop-values.values.items c.pop.new.self.items c.pop.result c.pop.ensures.items
    (sym (asks_last c.loop-values.values.items _ c.last.result c.last.ensures.value c.deref.ensures.value)
    ∙ sym (asked c.last.result _ refl) ∙ sym c.eq.ensures ∙ c.loop-values-test.true)
    ∙ c.loop-values.invariant

pub returns : goal.returns
returns c =
    all_kept c.loop-values.values.items
    (sym (asks_last c.loop-values.values.items _ c.last.result c.last.ensures.value c.deref.ensures.value)
    ∙ sym (asked c.last.result _ refl) ∙ sym c.eq.ensures ∙ c.loop-values-test.false)
    ∙ c.loop-values.invariant
