use Rattle.std.proofs.Common.{ℕ, List, sym, subst}
use Rattle.frames.specs.Copied.{CanCopyAll, CopiesNone}
use Rattle.frames.proofs.copied.run_copied.Goals as goal

pub copy-requires-clause-can : goal.copy-requires-clause-can
copy-requires-clause-can c = subst (CanCopyAll c.args.side c.args.pair.now c.args.number) (sym c.loop-count.invariant.kept.count) c.requires.can

pub returns-in-None-clause-whole : goal.returns-in-None-clause-whole
returns-in-None-clause-whole c few =
    subst (λ (rs : List ℕ). CopiesNone c.args.side c.args.pair.now c.args.number rs c.loop-count.stand) (sym c.in-None.ensures.0) c.in-None.ensures.1
