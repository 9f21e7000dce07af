use Rattle.std.proofs.Common.{ℕ, List, length, inl, refl, sym, subst}
use Rattle.std.specs.Prelude.{All}
use Rattle.mid_code.specs.Fits.{IsValue}
use Rattle.frames.specs.Alone.{Names, HasPassed}
use Rattle.frames.proofs.alone.pass.Goals as goal

pub access-requires-clause-names : goal.access-requires-clause-names
access-requires-clause-names c = subst (λ (rs : List ℕ). Names c.args.mid.now (length rs)) (sym c.in-None.ensures.0) c.requires.names

pub access-requires-clause-small : goal.access-requires-clause-small
access-requires-clause-small c = subst (All IsValue) (sym c.in-None.ensures.0) c.requires.small

pub returns-in-Some : goal.returns-in-Some
returns-in-Some c = inl (c.in-Some.ensures, refl)

pub returns-in-None : goal.returns-in-None
returns-in-None c =
    subst (λ (rs : List ℕ). HasPassed c.args.mid.now rs c.args.memory.now c.args.stand c.access.new.registers c.access.new.memory c.access.result) c.in-None.ensures.0 c.access.ensures
