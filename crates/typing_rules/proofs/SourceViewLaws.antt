-- What the view of a syntax tree is, a constructor at a time.
use Rattle.std.proofs.Common.{◌≡◌, ℕ, List, map, Option, Some, None, ap, sym, ◌∙◌}
use Rattle.std.specs.Prelude.{option_map}
use Rattle.srmt_base.specs.declared.ty.Ty.{Ty}
use Rattle.c_tree.specs.declared.operator.BinaryOp.{BinaryOp}
use Rattle.c_tree.specs.declared.operator.CompoundOp.{CompoundOp}
use Rattle.c_tree.specs.declared.operator.PrefixOp.{PrefixOp}
use Rattle.c_tree.specs.declared.operator.PostfixOp.{PostfixOp}
use Rattle.c_tree.specs.declared.expression.Direct as tree_direct
use Rattle.c_tree.specs.declared.expression.Direct.{Direct-F}
use Rattle.c_tree.specs.declared.expression.Direct.TheVariants as d
use Rattle.c_tree.specs.declared.name.Name as tree_name
use Rattle.c_tree.specs.declared.specifier.Specifier.{Specifier}
use Rattle.c_tree.specs.declared.expression.ExprNode as tree_node
use Rattle.c_tree.specs.declared.expression.ExprNode.{ExprNode-F}
use Rattle.c_tree.specs.declared.expression.ExprNode.TheVariants as e
use Rattle.c_tree.specs.declared.expression.Suffix as tree_suffix
use Rattle.c_tree.specs.declared.expression.Suffix.{Suffix-F}
use Rattle.c_tree.specs.declared.expression.Suffix.TheVariants as s
use Rattle.c_tree.specs.declared.expression.Declarator as tree_declarator
use Rattle.c_tree.specs.declared.expression.Expr as tree_expr
use Rattle.c_tree.specs.declared.expression.Parameter as tree_parameter
use Rattle.c_tree.specs.declared.expression.TypeName as tree_type_name
use Rattle.typing_rules.specs.Source.{Bytes, Expr, at, Node, name, number, character, text, parenthesized, index, call, prefix, postfix, sizeof_expr, sizeof_type, cast, choice, comma, TypeName, Parts, unsized_part, array_part, function_part}
use Rattle.typing_rules.specs.Source.{type_name}
use Rattle.typing_rules.specs.SourceViews.{direct_view, named_view, specifiers_view, declarator_or, all_parts, pointers_from, DirectView, DeclaratorView, ParameterView, exprs_from, parameters_from, binary_from, assignment_from, direct_from, node_from, suffix_from, declarator_from, expr_from, parameter_from, type_name_from, expr_view, node_view, type_name_view, suffix_view, parameter_view, declarator_view}

module _ (shift : ℕ → ℕ) where
  pub view_name : (bytes : Bytes) → node_view shift (e.Name bytes) ≡ name bytes
  unfolding node_view expr_view type_name_view
  view_name bytes =
      ap (node_view shift) (sym (e.rolls-Name bytes)) ∙ tree_node.fold-roll-ExprNode DirectView Node (Parts → Parts) DeclaratorView Expr
      ParameterView TypeName (direct_from shift) (node_from shift) (suffix_from shift) (declarator_from shift) (expr_from shift)
      (parameter_from shift) (type_name_from shift) (ExprNode-F.ExprNode::Name bytes)

  pub view_number : (ty : Ty) (n : ℕ) → node_view shift (e.Number ty n) ≡ number ty n
  unfolding node_view expr_view type_name_view
  view_number ty n =
      ap (node_view shift) (sym (e.rolls-Number ty n)) ∙ tree_node.fold-roll-ExprNode DirectView Node (Parts → Parts) DeclaratorView Expr
      ParameterView TypeName (direct_from shift) (node_from shift) (suffix_from shift) (declarator_from shift) (expr_from shift)
      (parameter_from shift) (type_name_from shift) (ExprNode-F.Number ty n)

  pub view_character : (n : ℕ) → node_view shift (e.Character n) ≡ character n
  unfolding node_view expr_view type_name_view
  view_character n =
      ap (node_view shift) (sym (e.rolls-Character n)) ∙ tree_node.fold-roll-ExprNode DirectView Node (Parts → Parts) DeclaratorView Expr
      ParameterView TypeName (direct_from shift) (node_from shift) (suffix_from shift) (declarator_from shift) (expr_from shift)
      (parameter_from shift) (type_name_from shift) (ExprNode-F.Character n)

  pub view_text : (bytes : Bytes) → node_view shift (e.Text bytes) ≡ text bytes
  unfolding node_view expr_view type_name_view
  view_text bytes =
      ap (node_view shift) (sym (e.rolls-Text bytes)) ∙ tree_node.fold-roll-ExprNode DirectView Node (Parts → Parts) DeclaratorView Expr
      ParameterView TypeName (direct_from shift) (node_from shift) (suffix_from shift) (declarator_from shift) (expr_from shift)
      (parameter_from shift) (type_name_from shift) (ExprNode-F.Text bytes)

  pub view_parenthesized : (x : tree_expr.Expr) → node_view shift (e.Parenthesized x) ≡ parenthesized (expr_view shift x)
  unfolding node_view expr_view type_name_view
  view_parenthesized x =
      ap (node_view shift) (sym (e.rolls-Parenthesized x)) ∙ tree_node.fold-roll-ExprNode DirectView Node (Parts → Parts) DeclaratorView Expr
      ParameterView TypeName (direct_from shift) (node_from shift) (suffix_from shift) (declarator_from shift) (expr_from shift)
      (parameter_from shift) (type_name_from shift) (ExprNode-F.Parenthesized x)

  pub view_index : (x : tree_expr.Expr) (line : ℕ) (y : tree_expr.Expr) → node_view shift (e.Index x line y) ≡ index (expr_view shift x) (shift line)
      (expr_view shift y)
  unfolding node_view expr_view type_name_view
  view_index x line y =
      ap (node_view shift) (sym (e.rolls-Index x line y)) ∙ tree_node.fold-roll-ExprNode DirectView Node (Parts → Parts) DeclaratorView Expr
      ParameterView TypeName (direct_from shift) (node_from shift) (suffix_from shift) (declarator_from shift) (expr_from shift)
      (parameter_from shift) (type_name_from shift) (ExprNode-F.Index x line y)

  pub view_call : (x : tree_expr.Expr) (line : ℕ) (xs : List tree_expr.Expr) → node_view shift (e.Call x line xs) ≡ call (expr_view shift x)
      (shift line) (exprs_from (map (expr_view shift) xs))
  unfolding node_view expr_view type_name_view
  view_call x line xs =
      ap (node_view shift) (sym (e.rolls-Call x line xs)) ∙ tree_node.fold-roll-ExprNode DirectView Node (Parts → Parts) DeclaratorView Expr
      ParameterView TypeName (direct_from shift) (node_from shift) (suffix_from shift) (declarator_from shift) (expr_from shift)
      (parameter_from shift) (type_name_from shift) (ExprNode-F.Call x line xs)

  pub view_postfix : (x : tree_expr.Expr) (op : PostfixOp) (line : ℕ) → node_view shift (e.Postfix x op line) ≡ postfix op (shift line) (expr_view shift x)
  unfolding node_view expr_view type_name_view
  view_postfix x op line =
      ap (node_view shift) (sym (e.rolls-Postfix x op line)) ∙ tree_node.fold-roll-ExprNode DirectView Node (Parts → Parts) DeclaratorView Expr
      ParameterView TypeName (direct_from shift) (node_from shift) (suffix_from shift) (declarator_from shift) (expr_from shift)
      (parameter_from shift) (type_name_from shift) (ExprNode-F.Postfix x op line)

  pub view_prefix : (op : PrefixOp) (x : tree_expr.Expr) → node_view shift (e.Prefix op x) ≡ prefix op (expr_view shift x)
  unfolding node_view expr_view type_name_view
  view_prefix op x =
      ap (node_view shift) (sym (e.rolls-Prefix op x)) ∙ tree_node.fold-roll-ExprNode DirectView Node (Parts → Parts) DeclaratorView Expr
      ParameterView TypeName (direct_from shift) (node_from shift) (suffix_from shift) (declarator_from shift) (expr_from shift)
      (parameter_from shift) (type_name_from shift) (ExprNode-F.Prefix op x)

  pub view_sizeofexpr : (x : tree_expr.Expr) → node_view shift (e.SizeofExpr x) ≡ sizeof_expr (expr_view shift x)
  unfolding node_view expr_view type_name_view
  view_sizeofexpr x =
      ap (node_view shift) (sym (e.rolls-SizeofExpr x)) ∙ tree_node.fold-roll-ExprNode DirectView Node (Parts → Parts) DeclaratorView Expr
      ParameterView TypeName (direct_from shift) (node_from shift) (suffix_from shift) (declarator_from shift) (expr_from shift)
      (parameter_from shift) (type_name_from shift) (ExprNode-F.SizeofExpr x)

  pub view_sizeoftype : (t : tree_type_name.TypeName) → node_view shift (e.SizeofType t) ≡ sizeof_type (type_name_view shift t)
  unfolding node_view expr_view type_name_view
  view_sizeoftype t =
      ap (node_view shift) (sym (e.rolls-SizeofType t)) ∙ tree_node.fold-roll-ExprNode DirectView Node (Parts → Parts) DeclaratorView Expr
      ParameterView TypeName (direct_from shift) (node_from shift) (suffix_from shift) (declarator_from shift) (expr_from shift)
      (parameter_from shift) (type_name_from shift) (ExprNode-F.SizeofType t)

  pub view_cast : (t : tree_type_name.TypeName) (x : tree_expr.Expr) → node_view shift (e.Cast t x) ≡ cast (type_name_view shift t) (expr_view shift x)
  unfolding node_view expr_view type_name_view
  view_cast t x =
      ap (node_view shift) (sym (e.rolls-Cast t x)) ∙ tree_node.fold-roll-ExprNode DirectView Node (Parts → Parts) DeclaratorView Expr ParameterView
      TypeName (direct_from shift) (node_from shift) (suffix_from shift) (declarator_from shift) (expr_from shift) (parameter_from shift)
      (type_name_from shift) (ExprNode-F.Cast t x)

  pub view_binary : (x : tree_expr.Expr) (op : BinaryOp) (line : ℕ) (y : tree_expr.Expr) → node_view shift (e.Binary x op line y) ≡ binary_from op
      (shift line) (expr_view shift x) (expr_view shift y)
  unfolding node_view expr_view type_name_view
  view_binary x op line y =
      ap (node_view shift) (sym (e.rolls-Binary x op line y)) ∙ tree_node.fold-roll-ExprNode DirectView Node (Parts → Parts) DeclaratorView Expr
      ParameterView TypeName (direct_from shift) (node_from shift) (suffix_from shift) (declarator_from shift) (expr_from shift)
      (parameter_from shift) (type_name_from shift) (ExprNode-F.Binary x op line y)

  pub view_conditional : (x : tree_expr.Expr) (line : ℕ) (y z : tree_expr.Expr) → node_view shift (e.Conditional x line y z) ≡ choice (shift line)
      (expr_view shift x) (expr_view shift y) (expr_view shift z)
  unfolding node_view expr_view type_name_view
  view_conditional x line y z =
      ap (node_view shift) (sym (e.rolls-Conditional x line y z)) ∙ tree_node.fold-roll-ExprNode DirectView Node (Parts → Parts) DeclaratorView Expr
      ParameterView TypeName (direct_from shift) (node_from shift) (suffix_from shift) (declarator_from shift) (expr_from shift)
      (parameter_from shift) (type_name_from shift) (ExprNode-F.Conditional x line y z)

  pub view_assign : (x : tree_expr.Expr) (op : Option CompoundOp) (line : ℕ) (y : tree_expr.Expr) → node_view shift (e.Assign x op line y) ≡
      assignment_from op (shift line) (expr_view shift x) (expr_view shift y)
  unfolding node_view expr_view type_name_view
  view_assign x op line y =
      ap (node_view shift) (sym (e.rolls-Assign x op line y)) ∙ tree_node.fold-roll-ExprNode DirectView Node (Parts → Parts) DeclaratorView Expr
      ParameterView TypeName (direct_from shift) (node_from shift) (suffix_from shift) (declarator_from shift) (expr_from shift)
      (parameter_from shift) (type_name_from shift) (ExprNode-F.Assign x op line y)

  pub view_comma : (xs : List tree_expr.Expr) (y : tree_expr.Expr) → node_view shift (e.Comma xs y) ≡ comma (exprs_from (map (expr_view shift) xs))
      (expr_view shift y)
  unfolding node_view expr_view type_name_view
  view_comma xs y =
      ap (node_view shift) (sym (e.rolls-Comma xs y)) ∙ tree_node.fold-roll-ExprNode DirectView Node (Parts → Parts) DeclaratorView Expr
      ParameterView TypeName (direct_from shift) (node_from shift) (suffix_from shift) (declarator_from shift) (expr_from shift)
      (parameter_from shift) (type_name_from shift) (ExprNode-F.Comma xs y)

  pub view_expr : (x : tree_expr.Expr) → expr_view shift x ≡ at (shift x.line) (node_view shift x.node)
  unfolding expr_view node_view
  view_expr x =
      ap (expr_view shift) (sym (tree_expr.rolls-Expr' (record { line = x.line; node = x.node }))) ∙ tree_expr.fold-roll-Expr DirectView Node
      (Parts → Parts) DeclaratorView Expr ParameterView TypeName (direct_from shift) (node_from shift) (suffix_from shift)
      (declarator_from shift) (expr_from shift) (parameter_from shift) (type_name_from shift) (record { line = x.line; node = x.node })

  pub view_type_name : (line : ℕ) (words : List Specifier) (declarator : Option tree_declarator.Declarator)
      → type_name_view shift (tree_type_name.roll-TypeName (record { line = line; specifiers = words; declarator = declarator })) ≡ type_name
      (specifiers_view shift line words) (declarator_or (shift line) (option_map (declarator_view shift) declarator))
  unfolding type_name_view declarator_view
  view_type_name line words None = tree_type_name.fold-roll-TypeName DirectView Node (Parts → Parts) DeclaratorView Expr ParameterView TypeName
      (direct_from shift) (node_from shift) (suffix_from shift) (declarator_from shift) (expr_from shift) (parameter_from shift)
      (type_name_from shift) (record { line = line; specifiers = words; declarator = None })
  view_type_name line words (Some x) = tree_type_name.fold-roll-TypeName DirectView Node (Parts → Parts) DeclaratorView Expr ParameterView TypeName
      (direct_from shift) (node_from shift) (suffix_from shift) (declarator_from shift) (expr_from shift) (parameter_from shift)
      (type_name_from shift) (record { line = line; specifiers = words; declarator = Some x })

  pub view_parameter : (line : ℕ) (words : List Specifier) (declarator : Option tree_declarator.Declarator)
      → parameter_view shift (tree_parameter.roll-Parameter (record { line = line; specifiers = words; declarator = declarator })) ≡ record
      { specifiers = specifiers_view shift line words; declarator = declarator_or (shift line) (option_map (declarator_view shift) declarator) }
  unfolding parameter_view declarator_view
  view_parameter line words None = tree_parameter.fold-roll-Parameter DirectView Node (Parts → Parts) DeclaratorView Expr ParameterView TypeName
      (direct_from shift) (node_from shift) (suffix_from shift) (declarator_from shift) (expr_from shift) (parameter_from shift)
      (type_name_from shift) (record { line = line; specifiers = words; declarator = None })
  view_parameter line words (Some x) = tree_parameter.fold-roll-Parameter DirectView Node (Parts → Parts) DeclaratorView Expr ParameterView TypeName
      (direct_from shift) (node_from shift) (suffix_from shift) (declarator_from shift) (expr_from shift) (parameter_from shift)
      (type_name_from shift) (record { line = line; specifiers = words; declarator = Some x })

  pub view_declarator : (x : tree_declarator.Declarator)
      → declarator_view shift x ≡ record {
        line = shift x.line;
        name = (direct_view shift x.direct).name;
        parts = λ rest.
            (direct_view shift x.direct).parts (all_parts (map (suffix_view shift) x.suffixes) (pointers_from x.pointers rest));
      }
  unfolding declarator_view direct_view suffix_view
  view_declarator x =
      ap (declarator_view shift) (sym (tree_declarator.rolls-Declarator'
      (record { line = x.line; pointers = x.pointers; direct = x.direct; suffixes = x.suffixes }))) ∙ tree_declarator.fold-roll-Declarator
      DirectView Node (Parts → Parts) DeclaratorView Expr ParameterView TypeName (direct_from shift) (node_from shift) (suffix_from shift)
      (declarator_from shift) (expr_from shift) (parameter_from shift) (type_name_from shift)
      (record { line = x.line; pointers = x.pointers; direct = x.direct; suffixes = x.suffixes })

  pub view_direct_name : (n : tree_name.Name) → direct_view shift (d.Name n) ≡ record { name = Some (named_view shift n); parts = λ rest. rest }
  unfolding direct_view
  view_direct_name n = ap (direct_view shift) (sym (d.rolls-Name n)) ∙ tree_direct.fold-roll-Direct DirectView Node (Parts → Parts) DeclaratorView
      Expr ParameterView TypeName (direct_from shift) (node_from shift) (suffix_from shift) (declarator_from shift) (expr_from shift)
      (parameter_from shift) (type_name_from shift) (Direct-F.Direct::Name n)

  pub view_direct_nested : (x : tree_declarator.Declarator) → direct_view shift (d.Nested x) ≡ record
      { name = (declarator_view shift x).name; parts = (declarator_view shift x).parts }
  unfolding direct_view declarator_view
  view_direct_nested x = ap (direct_view shift) (sym (d.rolls-Nested x)) ∙ tree_direct.fold-roll-Direct DirectView Node (Parts → Parts)
      DeclaratorView Expr ParameterView TypeName (direct_from shift) (node_from shift) (suffix_from shift) (declarator_from shift) (expr_from shift)
      (parameter_from shift) (type_name_from shift) (Direct-F.Nested x)

  pub view_direct_unnamed : direct_view shift d.Unnamed ≡ record { name = None; parts = λ rest. rest }
  unfolding direct_view
  view_direct_unnamed = ap (direct_view shift) (sym d.rolls-Unnamed) ∙ tree_direct.fold-roll-Direct DirectView Node (Parts → Parts) DeclaratorView
      Expr ParameterView TypeName (direct_from shift) (node_from shift) (suffix_from shift) (declarator_from shift) (expr_from shift)
      (parameter_from shift) (type_name_from shift) Direct-F.Unnamed

  pub view_unsized : (line : ℕ) (rest : Parts) → suffix_view shift (s.Array line None) rest ≡ unsized_part (shift line) rest
  unfolding suffix_view
  view_unsized line rest = ap (λ x. suffix_view shift x rest) (sym (s.rolls-Array line None)) ∙ ap (λ f. f rest)
      (tree_suffix.fold-roll-Suffix DirectView Node (Parts → Parts) DeclaratorView Expr ParameterView TypeName (direct_from shift) (node_from shift)
      (suffix_from shift) (declarator_from shift) (expr_from shift) (parameter_from shift) (type_name_from shift) (Suffix-F.Array line None))

  pub view_sized : (line : ℕ) (x : tree_expr.Expr) (rest : Parts) → suffix_view shift (s.Array line (Some x)) rest ≡ array_part (shift line)
      (expr_view shift x) rest
  unfolding suffix_view expr_view
  view_sized line x rest = ap (λ y. suffix_view shift y rest) (sym (s.rolls-Array line (Some x))) ∙ ap (λ f. f rest)
      (tree_suffix.fold-roll-Suffix DirectView Node (Parts → Parts) DeclaratorView Expr ParameterView TypeName (direct_from shift) (node_from shift)
      (suffix_from shift) (declarator_from shift) (expr_from shift) (parameter_from shift) (type_name_from shift) (Suffix-F.Array line (Some x)))

  pub view_function : (line : ℕ) (ps : List tree_parameter.Parameter) (rest : Parts)
      → suffix_view shift (s.Function line ps) rest ≡ function_part (shift line) (parameters_from (map (parameter_view shift) ps)) rest
  unfolding suffix_view parameter_view
  view_function line ps rest = ap (λ y. suffix_view shift y rest) (sym (s.rolls-Function line ps)) ∙ ap (λ f. f rest)
      (tree_suffix.fold-roll-Suffix DirectView Node (Parts → Parts) DeclaratorView Expr ParameterView TypeName (direct_from shift) (node_from shift)
      (suffix_from shift) (declarator_from shift) (expr_from shift) (parameter_from shift) (type_name_from shift) (Suffix-F.Function line ps))
