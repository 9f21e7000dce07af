-- A sink in memory, as its clauses see it.
use Rattle.std.specs.Prelude.{ℕ, List}

pub record Collected : Type 0 where
  -- the bytes that were appended, in order
  pub bytes : List ℕ
  -- how many bytes there is room for
  pub room : ℕ
  -- how many calls of the trait there were
  pub calls : ℕ
  -- how many of these failed
  pub faults : ℕ
  -- the numbers, from 1, of the calls that are to fail
  pub fails : List ℕ
