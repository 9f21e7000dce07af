-- Whether a word is one to be checked.
use Rattle.std.proofs.Common.{◌≡◌, true, false, not, refl, arith}
use denote.Enum.Bare.{sameb}
use Rattle.srmt_base.specs.contracts.word.Kind.{the_type}
use Rattle.srmt_base.specs.declared.word.Kind.{Kind}
use Rattle.srmt_base.specs.declared.word.Kind.TheVariants.{Check, Value, Trap, Callback, Ack, Exit}
use Rattle.srmt_base.specs.Word.{kind_code}

pub is_check : (kind : Kind) → false ≡ not (sameb the_type kind Check) → kind_code kind ≡ 1
is_check Check h = refl
is_check Value h = absurd (cc)
is_check Trap h = absurd (cc)
is_check Callback h = absurd (cc)
is_check Ack h = absurd (cc)
is_check Exit h = absurd (cc)

pub is_other : (kind : Kind) → true ≡ not (sameb the_type kind Check) → kind_code kind ≡ 1 → ⊥
is_other Check h one = cc
is_other Value h one = omega arith
is_other Trap h one = omega arith
is_other Callback h one = omega arith
is_other Ack h one = omega arith
is_other Exit h one = omega arith
