-- That whatever the trees of a file declare as an array without a length has an item in the braces of its initializer
-- (C11 6.7.9p1), so that no array is completed to one without elements.
use Rattle.std.specs.Prelude.{◌≤◌, Bool as Test, true, false, Option, IsTrue}
use Rattle.typing_rules.specs.Source.{Declarator, declarator, no_parts, pointer_part, array_part, unsized_part, function_part}
use Rattle.typing_rules.specs.SourceUnits.{Initial, single, braced, Item, Declaration, ForStart, starts, declares, Stmt, block, empty, expression, if_only, if_else, while, do_while, for, continue, break, return, Items, no_items, declaration, statement, External, function, declaration_of, Unit as SourceUnit}
use Rattle.typing_rules.specs.DeclarationRules.{initials_count}
use Rattle.typing_rules.specs.Laws.{Each}
use Rattle.typing_laws.specs.LanguagePrograms.{IfThere}

-- a declarator of an array without a length: `[]` stands next to the name
abbrev pub is_unsized : Declarator → Test
is_unsized (declarator line name no_parts) = false
is_unsized (declarator line name (pointer_part q rest)) = false
is_unsized (declarator line name (array_part at length rest)) = false
is_unsized (declarator line name (unsized_part at rest)) = true
is_unsized (declarator line name (function_part at ps rest)) = false

abbrev pub InitialHasItems : Initial → Type 0
InitialHasItems (single e) = Unit {0}
InitialHasItems (braced line items) = 1 ≤ initials_count items

abbrev pub ItemHasItems : Item → Type 0
ItemHasItems x = IsTrue (is_unsized x.declarator) → IfThere InitialHasItems x.initial

abbrev pub DeclarationHasItems : Declaration → Type 0
DeclarationHasItems d = Each ItemHasItems d.items

abbrev pub ForStartHasItems : ForStart → Type 0
ForStartHasItems (starts e) = Unit {0}
ForStartHasItems (declares d) = DeclarationHasItems d

unfoldable mutual
  pub StmtHasItems : Stmt → Type 0
  StmtHasItems (block line items end) = BlockHasItems items
  StmtHasItems (empty line) = Unit {0}
  StmtHasItems (expression line e) = Unit {0}
  StmtHasItems (if_only line e s) = StmtHasItems s
  StmtHasItems (if_else line e s u) = StmtHasItems s × StmtHasItems u
  StmtHasItems (while line e s) = StmtHasItems s
  StmtHasItems (do_while line s e) = StmtHasItems s
  StmtHasItems (for line start e u s) = ForStartHasItems start × StmtHasItems s
  StmtHasItems (continue line) = Unit {0}
  StmtHasItems (break line) = Unit {0}
  StmtHasItems (return line e) = Unit {0}

  pub BlockHasItems : Items → Type 0
  BlockHasItems no_items = Unit {0}
  BlockHasItems (declaration d rest) = DeclarationHasItems d × BlockHasItems rest
  BlockHasItems (statement s rest) = StmtHasItems s × BlockHasItems rest

abbrev pub ExternalHasItems : External → Type 0
ExternalHasItems (function d) = BlockHasItems d.body
ExternalHasItems (declaration_of d) = DeclarationHasItems d

abbrev pub HasItems : SourceUnit → Type 0
HasItems unit = Each ExternalHasItems unit

-- of the main file, and of the binary file if it is there
abbrev pub HaveItems : SourceUnit → Option SourceUnit → Type 0
HaveItems main binary = HasItems main × IfThere HasItems binary
