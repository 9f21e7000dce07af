use Rattle.std.proofs.Common.{arith}
use Rattle.std.proofs.lemmas.Grind.{common_steps}
use Rattle.std.proofs.lemmas.Str.{IsUtf8-from_ascii}
use Rattle.std.proofs.lemmas.Fmt.{IsAscii-from_digits}
use Rattle.upset.proofs.reading.value_of.Goals as goal

-- digits are text
pub returns-in_err-text : goal.returns-in_err-text
returns-in_err-text c = let text = IsUtf8-from_ascii _ (IsAscii-from_digits _ c.requires) in absurd (grind (arith, common_steps, text))
