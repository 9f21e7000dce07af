-- Steps of checking statements, apart from one another.
use Rattle.std.specs.Prelude.{ℕ, Bool as Test, List, [], ◌∷◌, Option, Some, None}
use Rattle.c_types.specs.Types.{CType, is_void}
use Rattle.c_types.specs.Rules.{conversion_form}
use Rattle.c_typed.specs.Typed.{Value}
use Rattle.c_typed.specs.Statements as t
use Rattle.typing_rules.specs.declared.refusal.TypeRefusal.TheVariants.{Mismatch}
use Rattle.typing_rules.specs.Source.{Expr}
use Rattle.typing_rules.specs.SourceUnits.{ForStart, Stmt, Items, no_items, declaration, statement}
use Rattle.typing_rules.specs.Terms.{Written, operand_of, converted_by}
use Rattle.typing_rules.specs.Checking.{Checking, ◌>>=◌, pure, refuse, choose, ruled_by}
use Rattle.typing_rules.specs.OrderedDeclarations.{declared_in_block}
use Rattle.typing_rules.specs.OrderedStatements.{condition_if, value_if, for_start, stmt_of}

-- the value that a function with a result type returns, once it is known
abbrev pub returned_value : ℕ → CType → Written → Checking (Option Value)
returned_value line result a = choose (is_void result) (refuse (Mismatch line 19)) (do
  form ← ruled_by line (conversion_form result (operand_of a.value))
  pure (Some (converted_by form result a)))

-- what stands in the parentheses of a `for`
pub record Head : Type 0 where
  pub start : t.ForStart
  pub test : Option Value
  pub step : Option Value

abbrev pub for_head : ℕ → ForStart → Option Expr → Option Expr → Checking Head
for_head line start e u = do
  first ← for_start start
  test ← condition_if line e
  step ← value_if u
  pure (record { start = first; test = test; step = step })

-- the statement behind `else`, if there is one
abbrev pub stmt_if : CType → Test → Option Stmt → Checking (Option t.Stmt)
stmt_if result in_loop None = pure None
stmt_if result in_loop (Some s) = do
  second ← stmt_of result in_loop s
  pure (Some second)

-- the first part of a block
abbrev pub part_of : CType → Test → Items → Checking (t.Items → t.Items)
part_of result in_loop no_items = pure (λ rest. rest)
part_of result in_loop (declaration d rest) = do
  locals ← declared_in_block d
  pure (t.declaration locals)
part_of result in_loop (statement s rest) = do
  first ← stmt_of result in_loop s
  pure (t.statement first)

-- the parts of a block, each as what it makes of those behind it
abbrev pub parts_of : CType → Test → List (Items → Items) → Checking (List (t.Items → t.Items))
parts_of result in_loop [] = pure []
parts_of result in_loop (f ∷ fs) = do
  first ← part_of result in_loop (f no_items)
  others ← parts_of result in_loop fs
  pure (first ∷ others)
