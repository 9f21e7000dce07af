use Rattle.std.proofs.Common.{sym, ◌∙◌}
use Rattle.mid_code.specs.declared.mid.Mid.TheVariants as mid
use Rattle.lower.specs.Emitting.{pure, emits}
use Rattle.lower.proofs.SameTypes.{same-ty}
use Rattle.lower.proofs.Steps.{given, same-making, first-of, second-of}
use Rattle.lower.proofs.emitter.Emitter.convert.Goals as goal

-- src/operators.rt:97:13
pub returns-then-eq : goal.returns-then-eq
returns-then-eq c =
    λ rows. same-making (first-of (pure tt) (emits c.args.line (mid.Conv c.args.from c.args.to c.args.register c.args.register))
    (sym (same-ty c.args.from c.args.to) ∙ sym c.if-eq.ensures)) given

-- src/operators.rt:87:5
pub returns : goal.returns
returns c =
    λ rows. same-making (second-of (pure tt) (emits c.args.line (mid.Conv c.args.from c.args.to c.args.register c.args.register))
    (sym (same-ty c.args.from c.args.to) ∙ sym c.if-eq.ensures)) (c.emit.ensures rows)
