-- That whatever number and character constants stand in the trees of a file are numbers of 32 bits.
use Rattle.std.specs.Prelude.{ℕ, ◌^◌, ◌<◌, Option}
use Rattle.typing_rules.specs.Source.{Expr, at, name, number, character, text, parenthesized, index, call, prefix, postfix, sizeof_expr, sizeof_type, cast, binary, conjunction, disjunction, choice, assignment, compound, comma, Exprs, no_exprs, first_expr, TypeName, type_name, Declarator, declarator, Parts, no_parts, pointer_part, array_part, unsized_part, function_part, Parameters, no_parameters, first_parameter}
use Rattle.typing_rules.specs.SourceUnits.{Initial, single, braced, Initials, no_initials, first_initial, Item, Declaration, ForStart, starts, declares, Stmt, block, empty, expression, if_only, if_else, while, do_while, for, continue, break, return, Items, no_items, declaration, statement, External, function, declaration_of, Unit as SourceUnit}
use Rattle.typing_rules.specs.Laws.{Each}
use Rattle.typing_laws.specs.LanguagePrograms.{IfThere}

-- ---- expressions

abbrev pub IsConstant : ℕ → Type 0
IsConstant n = n < 2 ^ 32

unfoldable mutual
  pub ExprHasNumbers : Expr → Type 0
  ExprHasNumbers (at line (name bytes)) = Unit {0}
  ExprHasNumbers (at line (number ty n)) = IsConstant n
  ExprHasNumbers (at line (character n)) = IsConstant n
  ExprHasNumbers (at line (text bytes)) = Unit {0}
  ExprHasNumbers (at line (parenthesized e)) = ExprHasNumbers e
  ExprHasNumbers (at line (index e where_to i)) = ExprHasNumbers e × ExprHasNumbers i
  ExprHasNumbers (at line (call f where_to es)) = ExprHasNumbers f × ExprsHaveNumbers es
  ExprHasNumbers (at line (prefix op e)) = ExprHasNumbers e
  ExprHasNumbers (at line (postfix op where_to e)) = ExprHasNumbers e
  ExprHasNumbers (at line (sizeof_expr e)) = ExprHasNumbers e
  ExprHasNumbers (at line (sizeof_type t)) = TypeHasNumbers t
  ExprHasNumbers (at line (cast t e)) = TypeHasNumbers t × ExprHasNumbers e
  ExprHasNumbers (at line (binary op where_to e f)) = ExprHasNumbers e × ExprHasNumbers f
  ExprHasNumbers (at line (conjunction where_to e f)) = ExprHasNumbers e × ExprHasNumbers f
  ExprHasNumbers (at line (disjunction where_to e f)) = ExprHasNumbers e × ExprHasNumbers f
  ExprHasNumbers (at line (choice where_to c e f)) = ExprHasNumbers c × ExprHasNumbers e × ExprHasNumbers f
  ExprHasNumbers (at line (assignment where_to e f)) = ExprHasNumbers e × ExprHasNumbers f
  ExprHasNumbers (at line (compound op where_to e f)) = ExprHasNumbers e × ExprHasNumbers f
  ExprHasNumbers (at line (comma es e)) = ExprsHaveNumbers es × ExprHasNumbers e

  pub ExprsHaveNumbers : Exprs → Type 0
  ExprsHaveNumbers no_exprs = Unit {0}
  ExprsHaveNumbers (first_expr e es) = ExprHasNumbers e × ExprsHaveNumbers es

  pub TypeHasNumbers : TypeName → Type 0
  TypeHasNumbers (type_name s d) = DeclaratorHasNumbers d

  pub DeclaratorHasNumbers : Declarator → Type 0
  DeclaratorHasNumbers (declarator line naming parts) = PartsHaveNumbers parts

  pub PartsHaveNumbers : Parts → Type 0
  PartsHaveNumbers no_parts = Unit {0}
  PartsHaveNumbers (pointer_part q rest) = PartsHaveNumbers rest
  PartsHaveNumbers (array_part line length rest) = ExprHasNumbers length × PartsHaveNumbers rest
  PartsHaveNumbers (unsized_part line rest) = PartsHaveNumbers rest
  PartsHaveNumbers (function_part line ps rest) = ParametersHaveNumbers ps × PartsHaveNumbers rest

  pub ParametersHaveNumbers : Parameters → Type 0
  ParametersHaveNumbers no_parameters = Unit {0}
  ParametersHaveNumbers (first_parameter s d rest) = DeclaratorHasNumbers d × ParametersHaveNumbers rest

-- ---- initializers and declarations

unfoldable mutual
  pub InitialHasNumbers : Initial → Type 0
  InitialHasNumbers (single e) = ExprHasNumbers e
  InitialHasNumbers (braced line items) = InitialsHaveNumbers items

  pub InitialsHaveNumbers : Initials → Type 0
  InitialsHaveNumbers no_initials = Unit {0}
  InitialsHaveNumbers (first_initial x rest) = InitialHasNumbers x × InitialsHaveNumbers rest

abbrev pub ItemHasNumbers : Item → Type 0
ItemHasNumbers x = DeclaratorHasNumbers x.declarator × IfThere InitialHasNumbers x.initial

abbrev pub DeclarationHasNumbers : Declaration → Type 0
DeclarationHasNumbers d = Each ItemHasNumbers d.items

-- ---- statements

abbrev pub ForStartHasNumbers : ForStart → Type 0
ForStartHasNumbers (starts e) = IfThere ExprHasNumbers e
ForStartHasNumbers (declares d) = DeclarationHasNumbers d

unfoldable mutual
  pub StmtHasNumbers : Stmt → Type 0
  StmtHasNumbers (block line items end) = BlockHasNumbers items
  StmtHasNumbers (empty line) = Unit {0}
  StmtHasNumbers (expression line e) = ExprHasNumbers e
  StmtHasNumbers (if_only line e s) = ExprHasNumbers e × StmtHasNumbers s
  StmtHasNumbers (if_else line e s u) = ExprHasNumbers e × StmtHasNumbers s × StmtHasNumbers u
  StmtHasNumbers (while line e s) = ExprHasNumbers e × StmtHasNumbers s
  StmtHasNumbers (do_while line s e) = StmtHasNumbers s × ExprHasNumbers e
  StmtHasNumbers (for line start e u s) =
      ForStartHasNumbers start × IfThere ExprHasNumbers e × IfThere ExprHasNumbers u × StmtHasNumbers s
  StmtHasNumbers (continue line) = Unit {0}
  StmtHasNumbers (break line) = Unit {0}
  StmtHasNumbers (return line e) = IfThere ExprHasNumbers e

  pub BlockHasNumbers : Items → Type 0
  BlockHasNumbers no_items = Unit {0}
  BlockHasNumbers (declaration d rest) = DeclarationHasNumbers d × BlockHasNumbers rest
  BlockHasNumbers (statement s rest) = StmtHasNumbers s × BlockHasNumbers rest

-- ---- files

abbrev pub ExternalHasNumbers : External → Type 0
ExternalHasNumbers (function d) = DeclaratorHasNumbers d.declarator × BlockHasNumbers d.body
ExternalHasNumbers (declaration_of d) = DeclarationHasNumbers d

abbrev pub HasNumbers : SourceUnit → Type 0
HasNumbers unit = Each ExternalHasNumbers unit

-- of the main file, and of the binary file if it is there
abbrev pub HaveNumbers : SourceUnit → Option SourceUnit → Type 0
HaveNumbers main other = HasNumbers main × IfThere HasNumbers other
