-- The levels are those of the tokens so far, and none of these is nested too deeply.
use Rattle.std.proofs.Common.{◌≡◌, ◌+◌, ◌≤◌, ◌∷◌, reverse, drop}
use Rattle.c_parser.specs.Nesting.{first_too_deep, first_above, nestings, weight}
use Rattle.c_parser.specs.LevelStack.{levels_of, IsCounted, AreTame}
use Rattle.c_parser.proofs.Depths.{later}
use Rattle.c_parser.proofs.nesting.first_too_deep.Given as goal

abbrev pub invariant-loop-at : goal.invariant-loop-at
invariant-loop-at l = record {
  counted : IsCounted l.levels;
  size : l.levels.outer + weight l.levels.innermost ≤ 402;
  tame : AreTame (l.levels.innermost ∷ reverse l.levels.others.items);
  progress : later l.at (first_above (nestings (levels_of l.levels) (drop l.at l.tokens))) ≡ first_too_deep l.tokens;
}
