use Rattle.std.proofs.Common.{inl, inr, ◌∙◌, sym, ap, refl, arith}
use Rattle.std.proofs.lemmas.Bool.{cases_lt}
use Rattle.mid_code.specs.Rules.{line_rule}
use Rattle.mid_code.proofs.Passing.{line_there}
use Rattle.mid_code.proofs.FirstLemmas.{starts, rule_within, rule_past}
use Rattle.mid_code.proofs.validity.first_instruction.Goals as goal

pub loop-place-init : goal.loop-place-init
loop-place-init c = record {
  holds = starts c.begin.new.row c.args.function.now.code (λ p within. c.begin.ensures p (omega arith));
  sound = λ p within. absurd (omega arith);
}

pub returns-in-Some-clause-first : goal.returns-in-Some-clause-first
returns-in-Some-clause-first c =
    let there = line_there c.args.function.now.code c.loop-place.place (omega arith) in
    record {
      here = refl;
      broken =
          rule_within c.args.program.now c.args.number c.loop-place.place c.args.function.now c.requires.bounded
          ∙ ap (line_rule c.args.program.now c.args.number c.args.function.now c.loop-place.place) there.1
          ∙ sym (c.in-Some.ensures.exact there.0 there.1);
      earlier = c.loop-place.invariant.sound;
    }

pub returns-clause-none : goal.returns-clause-none
returns-clause-none c = λ place.
    elim (cases_lt place c.loop-place.place) [
      | inl before ↦ c.loop-place.invariant.sound place before
      | inr past ↦ rule_past c.args.program.now c.args.number place c.args.function.now c.requires.bounded (omega arith)
    ]
