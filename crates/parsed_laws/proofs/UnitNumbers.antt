-- The numbers of a unit that is parsed of bytes have 32 bits, and so a program of such units can run.
use Rattle.std.proofs.Common.{ℕ, List, [], Option, Some, None}
use Rattle.std.specs.Prelude.{option_map}
use Rattle.c_lexer.specs.declared.token.Token.{Token}
use Rattle.c_lexer.specs.Tokens.{Lexes}
use Rattle.c_tree.specs.declared.unit.Unit.{Unit as TreeUnit}
use Rattle.c_tree.specs.declared.unit.External.{External}
use Rattle.c_tree.specs.declared.unit.External.TheVariants as x
use Rattle.c_typed.specs.Statements.{Program}
use Rattle.c_expr.specs.Nodes.{Bytes}
use Rattle.c_parser.specs.StatementNodes.{unit_node}
use Rattle.c_parser.specs.Units.{IsExternal, IsUnit, Derives}
use Rattle.source_meaning.specs.Sound.{CanRun}
use Rattle.typing_rules.specs.SourceViews.{external_view, unit_view, main_line, binary_line}
use Rattle.typing_rules.specs.Laws.{Each}
use Rattle.typing_laws.specs.LanguagePrograms.{IfThere}
use Rattle.running_laws.specs.HasNumbers.{ExternalHasNumbers, HasNumbers}
use Rattle.running_laws.proofs.CanRun.{can_run}
use Rattle.parsed_laws.specs.Parsed.{AreBytes, IsParsedIf, TypesBytes}
use Rattle.parsed_laws.proofs.DeclarationsHave.{each_mapped}
use Rattle.parsed_laws.proofs.UnitsHave.{derived_has, other_has}
use Rattle.parsed_laws.proofs.Fitting.{Fits, fits_is, fits_bind, fits_then, fits_map, fits_or, fits_further}
use Rattle.parsed_laws.proofs.DeclarationNumbers.{any_declarator_fits, whole_has, declaration_fits}
use Rattle.parsed_laws.proofs.StatementNumbers.{fits_block, any_stmt_fits}
use Rattle.parsed_laws.proofs.TokenNumbers.{tokens_fit}

module _ (shift : ℕ → ℕ) where
  abbrev Has : External → Type 0
  Has e = ExternalHasNumbers (external_view shift e)

  external_fits : (src : Bytes) → Fits Has (IsExternal src)
  external_fits src =
      fits_or (fits_then (λ ss. fits_bind (any_declarator_fits shift src _) (λ declarator h.
      fits_bind (fits_block shift src (any_stmt_fits shift src)) (λ body k. fits_is (whole_has shift declarator h, k)))))
      (fits_map x.Declaration (declaration_fits shift src) (λ d h. h))

  abbrev HasUnit : TreeUnit → Type 0
  HasUnit unit = HasNumbers (unit_view shift unit)

  externals_have : (es : List External) → Each Has es → HasUnit (unit_node es)
  unfolding unit_view
  externals_have es h = each_mapped ExternalHasNumbers (external_view shift) es h

  unit_fits : (src : Bytes) → Fits HasUnit (IsUnit src)
  unit_fits src = fits_map unit_node (fits_further [] tt (external_fits src)) externals_have

  pub derived_fits : (tokens : List Token) (src : Bytes) (unit : TreeUnit) → AreBytes src → Lexes src tokens → Derives tokens src unit → HasUnit unit
  derived_fits tokens src unit bytes lexed h = (unit_fits src).fits unit tokens (tokens_fit src tokens bytes lexed) h

other_fits : (binary : Option Bytes) (unit : Option TreeUnit) → IfThere AreBytes binary → IsParsedIf binary unit
    → IfThere HasNumbers (option_map (unit_view binary_line) unit)
other_fits None None bytes h = tt
other_fits None (Some unit) bytes h = absurd h
other_fits (Some src) None bytes h = absurd h
other_fits (Some src) (Some unit) bytes h = derived_fits binary_line h.tokens src unit bytes h.lexed h.derived

pub bytes_run : (main : Bytes) (binary : Option Bytes) (program : Program) → AreBytes main → IfThere AreBytes binary → TypesBytes main binary program
    → CanRun program
bytes_run main binary program bytes others h =
    can_run (unit_view main_line h.unit) (option_map (unit_view binary_line) h.other) program
    (derived_has main_line h.parsed.tokens main h.unit h.parsed.derived, other_has binary h.other h.other_parsed)
    (derived_fits main_line h.parsed.tokens main h.unit bytes h.parsed.lexed h.parsed.derived, other_fits binary h.other others h.other_parsed) h.typed
