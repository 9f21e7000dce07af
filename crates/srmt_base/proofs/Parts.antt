-- Words and their parts.
use Rattle.std.proofs.Common.{◌≡◌, ◌∙◌, sym, ap, zero, suc, ℕ, ◌^◌, ◌<◌, ◌≤◌, arith, refl}
use Rattle.srmt_base.specs.declared.word.Kind.{Kind}
use Rattle.srmt_base.specs.declared.word.Kind.TheVariants.{Check, Value, Trap, Callback, Ack, Exit}
use Rattle.srmt_base.specs.Word.{kind_code, kind_part, IsWord}
use Rattle.srmt_base.specs.Laws.{IsItsParts}

-- the kind of a code
kind_of : ℕ → Kind
kind_of zero = Check
kind_of (suc zero) = Check
kind_of (suc (suc zero)) = Value
kind_of (suc (suc (suc zero))) = Trap
kind_of (suc (suc (suc (suc zero)))) = Callback
kind_of (suc (suc (suc (suc (suc zero))))) = Ack
kind_of (suc (suc (suc (suc (suc (suc n)))))) = Exit

kind_of-kind_code : (kind : Kind) → kind_of (kind_code kind) ≡ kind
unfolding kind_of
kind_of-kind_code Check = refl
kind_of-kind_code Value = refl
kind_of-kind_code Trap = refl
kind_of-kind_code Callback = refl
kind_of-kind_code Ack = refl
kind_of-kind_code Exit = refl

kind_code-kind_of : (n : ℕ) → 1 ≤ n → n ≤ 6 → kind_code (kind_of n) ≡ n
unfolding kind_of
kind_code-kind_of zero low high = absurd (omega arith)
kind_code-kind_of (suc zero) low high = refl
kind_code-kind_of (suc (suc zero)) low high = refl
kind_code-kind_of (suc (suc (suc zero))) low high = refl
kind_code-kind_of (suc (suc (suc (suc zero)))) low high = refl
kind_code-kind_of (suc (suc (suc (suc (suc zero))))) low high = refl
kind_code-kind_of (suc (suc (suc (suc (suc (suc n)))))) low high = omega arith

pub is_its_parts : (bits : ℕ) → bits < 2 ^ 64 → IsWord bits → IsItsParts bits
is_its_parts bits fits word =
    let code : kind_code (kind_of (kind_part bits)) ≡ kind_part bits = kind_code-kind_of (kind_part bits) word.0 word.1 in
    record {
      kind = kind_of (kind_part bits);
      parts = omega arith;
      alone = λ other e. sym (kind_of-kind_code other) ∙ ap kind_of e;
    }
