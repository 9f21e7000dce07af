-- A program that is parsed of files of at most 1,048,576 bytes has short functions, and so few events.
use Rattle.std.proofs.Common.{ℕ, ◌≤◌, length, Option, Some, None}
use Rattle.std.specs.Prelude.{option_map}
use Rattle.c_tree.specs.declared.unit.Unit.{Unit as TreeUnit}
use Rattle.c_typed.specs.Statements.{Program}
use Rattle.c_expr.specs.Nodes.{Bytes}
use Rattle.source_meaning.specs.EventLaws.{HasShortFunctions}
use Rattle.typing_rules.specs.SourceViews.{unit_view, main_line, binary_line}
use Rattle.typing_laws.specs.LanguagePrograms.{IfThere}
use Rattle.event_laws.specs.TokensOf.{AreShort}
use Rattle.event_laws.proofs.FilesFew.{functions_are_short}
use Rattle.parsed_laws.specs.Parsed.{IsParsedIf, TypesBytes}
use Rattle.parsed_laws.proofs.UnitTokens.{derived_short}

other_short : (bound : ℕ) (binary : Option Bytes) (unit : Option TreeUnit) → IfThere (λ b. length b ≤ bound) binary → IsParsedIf binary unit
    → IfThere (AreShort bound) (option_map (unit_view binary_line) unit)
other_short bound None None fits h = tt
other_short bound None (Some unit) fits h = absurd h
other_short bound (Some src) None fits h = absurd h
other_short bound (Some src) (Some unit) fits h = derived_short binary_line h.tokens src unit h.lexed h.derived bound fits

pub short_functions : (main : Bytes) (binary : Option Bytes) (program : Program) → length main ≤ 1048576 → IfThere (λ b. length b ≤ 1048576) binary
    → TypesBytes main binary program → HasShortFunctions program
short_functions main binary program fits others h =
    functions_are_short 1048576 (unit_view main_line h.unit) (option_map (unit_view binary_line) h.other) program
    (derived_short main_line h.parsed.tokens main h.unit h.parsed.lexed h.parsed.derived 1048576 fits, other_short 1048576 binary h.other others h.other_parsed)
    h.typed
