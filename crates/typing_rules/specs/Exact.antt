-- The ordered function and the relation are one: the function answers a result exactly where the relation has it.
use Rattle.std.specs.Prelude.{◌≡◌, Ok}
use Rattle.typing_rules.specs.Known.{Known}
use Rattle.typing_rules.specs.Checking.{Checking}
use Rattle.typing_rules.specs.Holding.{Typing}

pub record Exact {A : Type 0} (m : Checking A) (R : Typing A) : Type 0 where
  pub found : (x : A) (before after : Known) → m before ≡ Ok (x, after) → R x before after
  pub whole : (x : A) (before after : Known) → R x before after → m before ≡ Ok (x, after)
