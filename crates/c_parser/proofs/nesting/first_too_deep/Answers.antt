use Rattle.std.proofs.Common.{◌≡◌, ◌+◌, ◌≤◌, false, ◌∷◌, drop, reverse, refl, ap, sym, ◌∙◌, subst, arith}
use Rattle.c_parser.specs.Nesting as spec
use Rattle.c_parser.specs.LevelStack.{levels_of, AreTame}
use Rattle.c_parser.proofs.Depths.{later, later_zero, nesting_of, behind_of, deep_at, past_at, end_at, nesting_after, found_below, found_tame, behind_small, behind_tame}
use Rattle.c_parser.specs.declared.nesting.Level.{Level}
use Rattle.c_parser.proofs.nesting.first_too_deep.Goals as goal

pub loop-at-init : goal.loop-at-init
unfolding spec.first_too_deep
loop-at-init c = record {
  counted = rw c.new.ensures.items refl;
  size = rw c.started.ensures (omega arith);
  tame = rw (c.started.ensures, c.new.ensures.items) (omega arith, tt);
  progress = ap (λ s. later 0 (spec.first_above (spec.nestings s c.args.tokens.now))) (ap (λ l. record { innermost = l; others = reverse c.new.result.items; ended = false }) c.started.ensures ∙ ap (λ v. record { innermost = spec.started false; others = reverse v; ended = false }) c.new.ensures.items) ∙ later_zero _;
}

pub weight-requires-clause-operators : goal.weight-requires-clause-operators
weight-requires-clause-operators c =
    let b = found_below c.code-kind.result (levels_of c.loop-at.levels) in
    rw c.found_by-found.ensures (omega (arith, b.0, c.loop-at.invariant.size))

pub weight-requires-clause-words : goal.weight-requires-clause-words
weight-requires-clause-words c =
    let b = found_below c.code-kind.result (levels_of c.loop-at.levels) in
    rw c.found_by-found.ensures (omega (arith, b.1, c.loop-at.invariant.size))

pub overflow_add-levels : goal.overflow_add-levels
overflow_add-levels c =
    let b = found_below c.code-kind.result (levels_of c.loop-at.levels) in
    let w : spec.weight c.found_by-found.result ≤ spec.weight c.loop-at.levels.innermost = rw c.found_by-found.ensures (omega (arith, b.0, b.1)) in
    omega (arith, c.weight.ensures, w, c.loop-at.invariant.size)

pub returns-then-levels-weight-gt-NESTING : goal.returns-then-levels-weight-gt-NESTING
returns-then-levels-weight-gt-NESTING c =
    let n = nesting_of c.code-kind.result c.loop-at.levels.outer (levels_of c.loop-at.levels) c.found_by-found.result c.loop-at.invariant.counted c.found_by-found.ensures in
    sym (deep_at c.args.tokens.now c.loop-at.at c.code-kind.result _ (levels_of c.loop-at.levels) c.loop-at-test.true c.code-kind.ensures (omega (arith, n, c.weight.ensures, c.if-levels-weight-gt-NESTING.true)))
    ∙ c.loop-at.invariant.progress

pub read-requires-clause-dos : goal.read-requires-clause-dos
read-requires-clause-dos c =
    let b = found_below c.code-kind.result (levels_of c.loop-at.levels) in
    let t = b.2 c.loop-at.invariant.tame.0 in
    rw c.found_by-found.ensures (omega (arith, t, b.1, c.loop-at.invariant.size))

pub loop-at-preserved : goal.loop-at-preserved
loop-at-preserved c =
    let k = c.code-kind.result in
    let s = levels_of c.loop-at.levels in
    let found = c.found_by-found.result in
    let others = reverse c.loop-at.levels.others.items in
    let after : levels_of c.read.new.self ≡ spec.behind k (record { innermost = found; others = others; ended = false }) = c.in_ok-read.ensures.levels in
    let n = nesting_of k c.loop-at.levels.outer s found c.loop-at.invariant.counted c.found_by-found.ensures in
    let low : spec.nesting_in (spec.found_by k s) ≤ 400 = omega (arith, n, c.weight.ensures, c.if-levels-weight-gt-NESTING.false) in
    let tame_before : AreTame (found ∷ others) = (let P : Level → Type 0 = λ l. AreTame (l ∷ others) in subst P (sym c.found_by-found.ensures) (found_tame k s c.loop-at.invariant.tame)) in
    let small : spec.nesting_in (spec.behind k (record { innermost = found; others = others; ended = false })) ≤ spec.around others + spec.weight found + 2 = behind_small k found others in
    let tame_after = behind_tame k found others tame_before in
    record {
      counted = c.in_ok-read.ensures.counted;
      size = nesting_after c.read.new.self (spec.behind k (record { innermost = found; others = others; ended = false })) after c.in_ok-read.ensures.counted
          (omega (arith, small, c.loop-at.invariant.counted, c.weight.ensures, c.if-levels-weight-gt-NESTING.false));
      tame = (let P : spec.Levels → Type 0 = λ v. AreTame (v.innermost ∷ v.others) in subst P (sym after) tame_after);
      progress = ap (λ v. later (c.loop-at.at + 1) (spec.first_above (spec.nestings v (drop (c.loop-at.at + 1) c.args.tokens.now)))) (after ∙ sym (behind_of k s found c.found_by-found.ensures))
          ∙ (sym (past_at c.args.tokens.now c.loop-at.at k _ s c.loop-at-test.true c.code-kind.ensures low) ∙ c.loop-at.invariant.progress);
    }

pub returns : goal.returns
returns c = sym (end_at c.args.tokens.now c.loop-at.at (levels_of c.loop-at.levels) c.loop-at-test.false) ∙ c.loop-at.invariant.progress
