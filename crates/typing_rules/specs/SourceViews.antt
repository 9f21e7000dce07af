-- The syntax trees of the parser as plain data, with their lines changed by a function: those of the binary file are
-- kept apart from those of the main file.
use Rattle.std.specs.Prelude.{ℕ, ◌+◌, ◌-◌, ◌^◌, min, List, [], ◌∷◌, map, Option, Some, None, option_map}
use Rattle.c_types.specs.declared.qualifiers.Qualifiers.{Qualifiers}
use Rattle.c_tree.specs.Operators.{op_of}
use Rattle.c_tree.specs.declared.name.Name as tree_name
use Rattle.c_tree.specs.declared.operator.BinaryOp.{BinaryOp}
use Rattle.c_tree.specs.declared.operator.BinaryOp.TheVariants.{Arithmetic, And, Or}
use Rattle.c_tree.specs.declared.operator.CompoundOp.{CompoundOp}
use Rattle.c_tree.specs.declared.specifier.Specifier.{Specifier}
use Rattle.c_tree.specs.declared.specifier.SpecifierWord.{SpecifierWord}
use Rattle.c_tree.specs.declared.specifier.Pointer.{Pointer}
use Rattle.c_tree.specs.declared.expression.Direct.{Direct-F}
use Rattle.c_tree.specs.declared.expression.ExprNode.{ExprNode-F}
use Rattle.c_tree.specs.declared.expression.Suffix.{Suffix-F}
use Rattle.c_tree.specs.declared.expression.Direct as tree_direct
use Rattle.c_tree.specs.declared.expression.ExprNode as tree_node
use Rattle.c_tree.specs.declared.expression.Suffix as tree_suffix
use Rattle.c_tree.specs.declared.expression.Declarator as tree_declarator
use Rattle.c_tree.specs.declared.expression.Expr as tree_expr
use Rattle.c_tree.specs.declared.expression.Parameter as tree_parameter
use Rattle.c_tree.specs.declared.expression.TypeName as tree_type_name
use Rattle.c_tree.specs.declared.declaration.Initializer as tree_initializer
use Rattle.c_tree.specs.declared.declaration.Initializer.{Initializer-F}
use Rattle.c_tree.specs.declared.declaration.Item as tree_item
use Rattle.c_tree.specs.declared.declaration.Declaration as tree_declaration
use Rattle.c_tree.specs.declared.statement.ForStart.{ForStart as TreeForStart}
use Rattle.c_tree.specs.declared.statement.ForStart.TheVariants as for_start
use Rattle.c_tree.specs.declared.statement.BlockItem.{BlockItem-F}
use Rattle.c_tree.specs.declared.statement.StmtNode.{StmtNode-F}
use Rattle.c_tree.specs.declared.statement.BlockItem as tree_block_item
use Rattle.c_tree.specs.declared.statement.StmtNode as tree_stmt_node
use Rattle.c_tree.specs.declared.statement.Block as tree_block
use Rattle.c_tree.specs.declared.statement.Stmt as tree_stmt
use Rattle.c_tree.specs.declared.unit.External.{External as TreeExternal}
use Rattle.c_tree.specs.declared.unit.External.TheVariants as external
use Rattle.c_tree.specs.declared.unit.FunctionDefinition.{FunctionDefinition}
use Rattle.c_tree.specs.declared.unit.Unit.{Unit as TreeUnit}
use Rattle.typing_rules.specs.Source.{Named, Specifiers, Expr, at, Node, name, number, character, text, parenthesized, index, call, prefix, postfix, sizeof_expr, sizeof_type, cast, binary, conjunction, disjunction, choice, assignment, compound, comma, Exprs, no_exprs, first_expr, TypeName, type_name, Declarator, declarator, Parts, no_parts, pointer_part, array_part, unsized_part, function_part, Parameters, no_parameters, first_parameter}
use Rattle.typing_rules.specs.SourceUnits.{Initial, single, braced, Initials, no_initials, first_initial, Item, Declaration, ForStart, starts, declares, Stmt, block, empty, expression, if_only, if_else, while, do_while, for, continue, break, return, Items, no_items, declaration, statement, Definition, External, function, declaration_of, Unit}

-- ---- lines

-- a line of the main file is kept
abbrev pub main_line : ℕ → ℕ
main_line line = line

-- a line of the binary file is 2,000,000 more; the sum stands still at the end of its type
abbrev pub binary_line : ℕ → ℕ
binary_line line = min (line + 2000000) (2 ^ 32 - 1)

-- ---- lists

abbrev pub exprs_from : List Expr → Exprs
exprs_from [] = no_exprs
exprs_from (e ∷ es) = first_expr e (exprs_from es)

abbrev pub initials_from : List Initial → Initials
initials_from [] = no_initials
initials_from (x ∷ xs) = first_initial x (initials_from xs)

-- what a parameter is, with its specifiers
pub record ParameterView : Type 0 where
  pub specifiers : Specifiers
  pub declarator : Declarator

abbrev pub parameters_from : List ParameterView → Parameters
parameters_from [] = no_parameters
parameters_from (p ∷ ps) = first_parameter p.specifiers p.declarator (parameters_from ps)

abbrev pub all_parts : List (Parts → Parts) → Parts → Parts
all_parts [] rest = rest
all_parts (f ∷ fs) rest = f (all_parts fs rest)

abbrev pub qualifiers_from : Pointer → Qualifiers
qualifiers_from p = record { is_const = p.is_const; is_volatile = p.is_volatile }

-- the `*` of a declarator from the name outward: the last stands nearest to the name
abbrev pub pointers_from : List Pointer → Parts → Parts
pointers_from [] rest = rest
pointers_from (p ∷ ps) rest = pointers_from ps (pointer_part (qualifiers_from p) rest)

-- a declarator with its name, and its parts in front of others
pub record DeclaratorView : Type 0 where
  pub line : ℕ
  pub name : Option Named
  pub parts : Parts → Parts

pub record DirectView : Type 0 where
  pub name : Option Named
  pub parts : Parts → Parts

abbrev pub declarator_of : DeclaratorView → Declarator
declarator_of d = declarator d.line d.name (d.parts no_parts)

-- a declarator that is not there stands at its specifiers
abbrev pub declarator_or : ℕ → Option DeclaratorView → Declarator
declarator_or line None = declarator line None no_parts
declarator_or line (Some d) = declarator_of d

abbrev pub binary_from : BinaryOp → ℕ → Expr → Expr → Node
binary_from (Arithmetic op) line x y = binary op line x y
binary_from And line x y = conjunction line x y
binary_from Or line x y = disjunction line x y

abbrev pub assignment_from : Option CompoundOp → ℕ → Expr → Expr → Node
assignment_from None line x y = assignment line x y
assignment_from (Some op) line x y = compound (op_of op) line x y

abbrev pub word_of : Specifier → SpecifierWord
word_of s = s.word

-- a block with its lines
pub record BlockView : Type 0 where
  pub line : ℕ
  pub items : Items
  pub end : ℕ

abbrev pub all_items : List (Items → Items) → Items
all_items [] = no_items
all_items (f ∷ fs) = f (all_items fs)

abbrev pub if_from : ℕ → Expr → Stmt → Option Stmt → Stmt
if_from line e s None = if_only line e s
if_from line e s (Some u) = if_else line e s u

abbrev pub block_from : BlockView → Stmt
block_from b = block b.line b.items b.end

module _ (shift : ℕ → ℕ) where
  abbrev pub specifiers_view : ℕ → List Specifier → Specifiers
  specifiers_view line words = record { line = shift line; words = map word_of words }

  abbrev pub named_view : tree_name.Name → Named
  named_view n = record { line = shift n.line; bytes = n.bytes }

  -- ---- expressions and declarators, a layer at a time

  abbrev pub direct_from : Direct-F DirectView Node (Parts → Parts) DeclaratorView Expr ParameterView TypeName → DirectView
  direct_from (Direct-F.Direct::Name n) = record { name = Some (named_view n); parts = λ rest. rest }
  direct_from (Direct-F.Nested d) = record { name = d.name; parts = d.parts }
  direct_from Direct-F.Unnamed = record { name = None; parts = λ rest. rest }

  abbrev pub node_from : ExprNode-F DirectView Node (Parts → Parts) DeclaratorView Expr ParameterView TypeName → Node
  node_from (ExprNode-F.ExprNode::Name bytes) = name bytes
  node_from (ExprNode-F.Number ty n) = number ty n
  node_from (ExprNode-F.Character n) = character n
  node_from (ExprNode-F.Text bytes) = text bytes
  node_from (ExprNode-F.Parenthesized x) = parenthesized x
  node_from (ExprNode-F.Index x line y) = index x (shift line) y
  node_from (ExprNode-F.Call x line xs) = call x (shift line) (exprs_from xs)
  node_from (ExprNode-F.Postfix x op line) = postfix op (shift line) x
  node_from (ExprNode-F.Prefix op x) = prefix op x
  node_from (ExprNode-F.SizeofExpr x) = sizeof_expr x
  node_from (ExprNode-F.SizeofType t) = sizeof_type t
  node_from (ExprNode-F.Cast t x) = cast t x
  node_from (ExprNode-F.Binary x op line y) = binary_from op (shift line) x y
  node_from (ExprNode-F.Conditional x line y z) = choice (shift line) x y z
  node_from (ExprNode-F.Assign x op line y) = assignment_from op (shift line) x y
  node_from (ExprNode-F.Comma xs y) = comma (exprs_from xs) y

  abbrev pub suffix_from : Suffix-F DirectView Node (Parts → Parts) DeclaratorView Expr ParameterView TypeName → Parts → Parts
  suffix_from (Suffix-F.Array line None) rest = unsized_part (shift line) rest
  suffix_from (Suffix-F.Array line (Some e)) rest = array_part (shift line) e rest
  suffix_from (Suffix-F.Function line ps) rest = function_part (shift line) (parameters_from ps) rest

  abbrev pub declarator_from : tree_declarator.Declarator-F DirectView Node (Parts → Parts) DeclaratorView Expr ParameterView TypeName → DeclaratorView
  declarator_from d =
      record { line = shift d.line; name = d.direct.name; parts = λ rest. d.direct.parts (all_parts d.suffixes (pointers_from d.pointers rest)) }

  abbrev pub expr_from : tree_expr.Expr-F DirectView Node (Parts → Parts) DeclaratorView Expr ParameterView TypeName → Expr
  expr_from e = at (shift e.line) e.node

  abbrev pub parameter_from : tree_parameter.Parameter-F DirectView Node (Parts → Parts) DeclaratorView Expr ParameterView TypeName → ParameterView
  parameter_from p = record { specifiers = specifiers_view p.line p.specifiers; declarator = declarator_or (shift p.line) p.declarator }

  abbrev pub type_name_from : tree_type_name.TypeName-F DirectView Node (Parts → Parts) DeclaratorView Expr ParameterView TypeName → TypeName
  type_name_from t = type_name (specifiers_view t.line t.specifiers) (declarator_or (shift t.line) t.declarator)

  -- ---- whole expressions and declarators

  unfoldable pub expr_view : tree_expr.Expr → Expr
  expr_view =
      tree_expr.fold-Expr DirectView Node (Parts → Parts) DeclaratorView Expr ParameterView TypeName direct_from node_from suffix_from
      declarator_from expr_from parameter_from type_name_from

  unfoldable pub node_view : tree_node.ExprNode → Node
  node_view =
      tree_node.fold-ExprNode DirectView Node (Parts → Parts) DeclaratorView Expr ParameterView TypeName direct_from node_from suffix_from
      declarator_from expr_from parameter_from type_name_from

  unfoldable pub type_name_view : tree_type_name.TypeName → TypeName
  type_name_view =
      tree_type_name.fold-TypeName DirectView Node (Parts → Parts) DeclaratorView Expr ParameterView TypeName direct_from node_from suffix_from
      declarator_from expr_from parameter_from type_name_from

  unfoldable pub direct_view : tree_direct.Direct → DirectView
  direct_view =
      tree_direct.fold-Direct DirectView Node (Parts → Parts) DeclaratorView Expr ParameterView TypeName direct_from node_from suffix_from
      declarator_from expr_from parameter_from type_name_from

  unfoldable pub suffix_view : tree_suffix.Suffix → Parts → Parts
  suffix_view =
      tree_suffix.fold-Suffix DirectView Node (Parts → Parts) DeclaratorView Expr ParameterView TypeName direct_from node_from suffix_from
      declarator_from expr_from parameter_from type_name_from

  unfoldable pub parameter_view : tree_parameter.Parameter → ParameterView
  parameter_view =
      tree_parameter.fold-Parameter DirectView Node (Parts → Parts) DeclaratorView Expr ParameterView TypeName direct_from node_from suffix_from
      declarator_from expr_from parameter_from type_name_from

  unfoldable pub declarator_view : tree_declarator.Declarator → DeclaratorView
  declarator_view =
      tree_declarator.fold-Declarator DirectView Node (Parts → Parts) DeclaratorView Expr ParameterView TypeName direct_from node_from suffix_from
      declarator_from expr_from parameter_from type_name_from

  -- ---- initializers and declarations

  abbrev pub initial_from : Initializer-F Initial → Initial
  initial_from (Initializer-F.Value e) = single (expr_view e)
  initial_from (Initializer-F.List line xs) = braced (shift line) (initials_from xs)

  unfoldable pub initial_view : tree_initializer.Initializer → Initial
  initial_view = tree_initializer.fold-Initializer Initial initial_from

  abbrev pub item_view : tree_item.Item → Item
  item_view x = record { declarator = declarator_of (declarator_view x.declarator); initial = option_map initial_view x.initializer }

  unfoldable pub declaration_view : tree_declaration.Declaration → Declaration
  declaration_view d = record { specifiers = specifiers_view d.line d.specifiers; items = map item_view d.items }

  -- ---- statements, a layer at a time

  abbrev pub for_start_view : TreeForStart → ForStart
  for_start_view (for_start.Declaration d) = declares (declaration_view d)
  for_start_view (for_start.Expr e) = starts (option_map expr_view e)

  abbrev pub block_item_from : BlockItem-F (Items → Items) (ℕ → Stmt) BlockView Stmt → Items → Items
  block_item_from (BlockItem-F.Declaration d) rest = declaration (declaration_view d) rest
  block_item_from (BlockItem-F.Statement s) rest = statement s rest

  abbrev pub stmt_node_from : StmtNode-F (Items → Items) (ℕ → Stmt) BlockView Stmt → ℕ → Stmt
  stmt_node_from (StmtNode-F.Block b) line = block_from b
  stmt_node_from StmtNode-F.Empty line = empty line
  stmt_node_from (StmtNode-F.Expr e) line = expression line (expr_view e)
  stmt_node_from (StmtNode-F.If e s u) line = if_from line (expr_view e) s u
  stmt_node_from (StmtNode-F.While e s) line = while line (expr_view e) s
  stmt_node_from (StmtNode-F.Do s e) line = do_while line s (expr_view e)
  stmt_node_from (StmtNode-F.For head s) line =
      for line (for_start_view head.start) (option_map expr_view head.condition) (option_map expr_view head.step) s
  stmt_node_from StmtNode-F.Continue line = continue line
  stmt_node_from StmtNode-F.Break line = break line
  stmt_node_from (StmtNode-F.Return e) line = return line (option_map expr_view e)

  abbrev pub block_view_from : tree_block.Block-F (Items → Items) (ℕ → Stmt) BlockView Stmt → BlockView
  block_view_from b = record { line = shift b.line; items = all_items b.items; end = shift b.end }

  abbrev pub stmt_from : tree_stmt.Stmt-F (Items → Items) (ℕ → Stmt) BlockView Stmt → Stmt
  stmt_from s = s.node (shift s.line)

  -- ---- whole statements, and units

  unfoldable pub stmt_view : tree_stmt.Stmt → Stmt
  stmt_view = tree_stmt.fold-Stmt (Items → Items) (ℕ → Stmt) BlockView Stmt block_item_from stmt_node_from block_view_from stmt_from

  unfoldable pub stmt_node_view : tree_stmt_node.StmtNode → ℕ → Stmt
  stmt_node_view =
      tree_stmt_node.fold-StmtNode (Items → Items) (ℕ → Stmt) BlockView Stmt block_item_from stmt_node_from block_view_from stmt_from

  unfoldable pub block_item_view : tree_block_item.BlockItem → Items → Items
  block_item_view =
      tree_block_item.fold-BlockItem (Items → Items) (ℕ → Stmt) BlockView Stmt block_item_from stmt_node_from block_view_from stmt_from

  unfoldable pub block_view : tree_block.Block → BlockView
  block_view = tree_block.fold-Block (Items → Items) (ℕ → Stmt) BlockView Stmt block_item_from stmt_node_from block_view_from stmt_from

  abbrev pub definition_view : FunctionDefinition → Definition
  definition_view d =
      record {
        specifiers = specifiers_view d.line d.specifiers;
        declarator = declarator_of (declarator_view d.declarator);
        begin =
            (block_view d.body).line;
        body = (block_view d.body).items;
        end = (block_view d.body).end;
      }

  abbrev pub external_view : TreeExternal → External
  external_view (external.Function d) = function (definition_view d)
  external_view (external.Declaration d) = declaration_of (declaration_view d)

  unfoldable pub unit_view : TreeUnit → Unit
  unit_view u = map external_view u.externals
