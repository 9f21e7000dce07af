-- Steps of checking the definition of a function.
use Rattle.std.specs.Prelude.{ℕ, suc, nat_le, false, List, length, map}
use Rattle.c_types.specs.Types.{CType, Qualified, result_of}
use Rattle.c_typed.specs.Statements as t
use Rattle.typing_rules.specs.declared.refusal.TypeRefusal.TheVariants.{Mismatch, TooLarge}
use Rattle.typing_rules.specs.declared.refusal.Size.TheVariants.{Functions}
use Rattle.typing_rules.specs.Source.{Named}
use Rattle.typing_rules.specs.SourceUnits.{Definition}
use Rattle.typing_rules.specs.Known as known
use Rattle.typing_rules.specs.Known.{Linked, Local}
use Rattle.typing_rules.specs.Limits.{most_functions}
use Rattle.typing_rules.specs.SpecifierRules.{Storage}
use Rattle.typing_rules.specs.DeclaratorRules.{Lines, Derivation, lines_of, name_of, derived, or_no_name}
use Rattle.typing_rules.specs.UnitRules.{own_parameters, function_opened, function_closed, row_of}
use Rattle.typing_rules.specs.DeclarationRules.{fully}
use Rattle.typing_rules.specs.Checking.{Checking, ◌>>=◌, ◌>>◌, pure, asks, makes, tests, given, from_result}
use Rattle.typing_rules.specs.OrderedParts.{counted_type}
use Rattle.typing_rules.specs.OrderedDeclarations.{links}
use Rattle.typing_rules.specs.OrderedUnits.{defines, function_begun}
use Rattle.typing_rules.specs.Ordered.{derivations_of}
use Rattle.typing_rules.specs.OrderedStatements.{items_of}

-- its type is one of the program's
abbrev pub begun_typed : ℕ → Qualified → ℕ → Checking ℕ
begun_typed line t n = counted_type line t.type >> pure n

-- the file has room for it
abbrev pub begun_counted : ℕ → Qualified → ℕ → Checking ℕ
begun_counted line t n = tests (λ k. nat_le (suc k.functions) most_functions) (TooLarge line Functions) >> begun_typed line t n

-- it is defined once
abbrev pub begun_defined : ℕ → Qualified → ℕ → Checking ℕ
begun_defined line t n = defines fully line n >> begun_counted line t n

-- its name means it
abbrev pub begun_named : Named → Qualified → Linked → Checking ℕ
begun_named name t l = makes (known.with_file_meaning name.bytes (known.linked l.entity l.type)) >> begun_defined name.line t l.entity

-- it is declared
abbrev pub begun_linked : Named → Storage → Qualified → Checking ℕ
begun_linked name storage t = links name storage t >>= begun_named name t

-- ---- the body

-- its locals are told, and its scope ends
abbrev pub function_ended : ℕ → ℕ → CType → ℕ → ℕ → ℕ → t.Items → Checking t.Function
function_ended n line type parameters begin end body = do
  locals ← asks (λ k. k.locals)
  makes function_closed
  pure (record { entity = n; line = line; type = type; parameters = parameters; locals = map row_of locals; begin = begin; body = body; end = end })

abbrev pub function_bodied : ℕ → ℕ → CType → ℕ → Definition → Checking t.Function
function_bodied n line type parameters d = items_of (result_of type) false d.body >>= function_ended n line type parameters d.begin d.end

abbrev pub function_with : List Local → ℕ → CType → Definition → ℕ → Checking t.Function
function_with ps line type d n = makes (function_opened ps) >> function_bodied n line type (length ps) d

-- ---- the definition, step by step

abbrev pub defined_begun : Named → Storage → Qualified → Definition → List Local → Checking t.Function
defined_begun name storage type d ps = function_begun name storage type >>= function_with ps name.line type.type d

abbrev pub defined_typed : Named → Storage → Definition → List Derivation → Qualified → Checking t.Function
defined_typed name storage d ds type = given (own_parameters ds) (Mismatch name.line 22) >>= defined_begun name storage type d

abbrev pub defined_derived : Named → Storage → Qualified → Lines → Definition → List Derivation → Checking t.Function
defined_derived name storage base lines d ds = from_result (derived lines false base ds) >>= defined_typed name storage d ds

abbrev pub defined_specified : Storage → Qualified → Definition → Checking t.Function
defined_specified storage base d =
    derivations_of (lines_of d.declarator d.specifiers.line) d.declarator
    >>= defined_derived (or_no_name (name_of d.declarator)) storage base (lines_of d.declarator d.specifiers.line) d
