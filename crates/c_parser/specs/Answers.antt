-- What the whole parse answers.
use Rattle.std.specs.Prelude.{◌≡◌, ◌⊎◌, List, None, Result, Ok, Err}
use Rattle.c_lexer.specs.declared.token.Token.{Token}
use Rattle.c_tree.specs.declared.unit.Unit.{Unit as TheUnit}
use Rattle.c_parser.specs.declared.refusal.ParseRefusal.{ParseRefusal}
use Rattle.c_parser.specs.declared.refusal.ParseRefusal.TheVariants.{Memory}
use Rattle.c_expr.specs.Nodes.{Bytes}
use Rattle.c_parser.specs.Units.{Derives}
use Rattle.c_parser.specs.Nesting.{first_too_deep}
use Rattle.c_parser.specs.Refusals.{Refuses}

-- The tokens are this unit, and none of them is nested too deeply.
abbrev pub IsUnitWithin : List Token → Bytes → TheUnit → Type 0
IsUnitWithin tokens src unit = Derives tokens src unit × (first_too_deep tokens ≡ None)

-- Unless memory ran out, the answer is that unit or that refusal.
abbrev pub Answers : List Token → Bytes → Result TheUnit ParseRefusal → Type 0
Answers tokens src (Ok unit) = IsUnitWithin tokens src unit
Answers tokens src (Err Memory) = Unit {0}
Answers tokens src (Err refusal) = Refuses tokens src refusal

abbrev pub UnlessMemory : Result TheUnit ParseRefusal → Result TheUnit ParseRefusal → Type 0
UnlessMemory result answer = (result ≡ Err Memory) ⊎ (result ≡ answer)
