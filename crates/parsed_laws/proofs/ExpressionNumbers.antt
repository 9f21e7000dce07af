-- The numbers of an expression or a declarator that the grammar derives are those of its tokens.
use Rattle.std.proofs.Common.{◌≡◌, ℕ, zero, suc, List, [], ◌∷◌, map, sym, subst, Option, Some, None}
use Rattle.std.specs.Prelude.{option_map}
use Rattle.srmt_base.specs.declared.ty.Ty.{Ty}
use Rattle.c_lexer.specs.declared.token.TokenKind.{TokenKind}
use Rattle.c_lexer.specs.declared.token.TokenKind.TheVariants.{Keyword, Name, Number, Character, Text, Punct}
use Rattle.c_tree.specs.declared.operator.BinaryOp.{BinaryOp}
use Rattle.c_tree.specs.declared.operator.BinaryOp.TheVariants.{Arithmetic, And, Or}
use Rattle.c_tree.specs.declared.operator.CompoundOp.{CompoundOp}
use Rattle.c_tree.specs.declared.operator.PrefixOp.{PrefixOp}
use Rattle.c_tree.specs.declared.operator.PostfixOp.{PostfixOp}
use Rattle.c_tree.specs.declared.specifier.Specifier.{Specifier}
use Rattle.c_tree.specs.declared.specifier.Pointer.{Pointer}
use Rattle.c_tree.specs.declared.expression.Expr.{Expr}
use Rattle.c_tree.specs.declared.expression.ExprNode.{ExprNode}
use Rattle.c_tree.specs.declared.expression.ExprNode.TheVariants as e
use Rattle.c_tree.specs.declared.expression.TypeName.{TypeName}
use Rattle.c_tree.specs.declared.expression.Declarator.{Declarator}
use Rattle.c_tree.specs.declared.expression.Direct.{Direct}
use Rattle.c_tree.specs.declared.expression.Direct.TheVariants as d
use Rattle.c_tree.specs.declared.expression.Suffix.{Suffix}
use Rattle.c_tree.specs.declared.expression.Suffix.TheVariants as s
use Rattle.c_tree.specs.declared.expression.Parameter.{Parameter}
use Rattle.c_expr.specs.declared.start.Start.{Start}
use Rattle.c_expr.specs.declared.start.Start.TheVariants as at
use Rattle.c_expr.specs.declared.start.Naming.{Naming}
use Rattle.c_expr.specs.declared.start.Naming.TheVariants as n
use Rattle.c_expr.specs.Codes.{Table, binary_operators, levels, step_operators, unary_operators}
use Rattle.c_expr.specs.Spelling.{Spelling}
use Rattle.c_expr.specs.Nodes.{Bytes, at_line, constant_node, first_line, type_node, parameter_node, declarator_node, comma_node, with_operand}
use Rattle.c_expr.specs.Grammar.{IsArray, IsParameter, IsParameters, IsFunction, IsSuffix, IsNamed, IsNested, IsBare, IsCore, IsPointerAlone, IsDeclaratorLine, IsTypeName, IsName, IsConstant, IsTexts, IsParenthesized, IsPrimary, IsIndex, IsArguments, IsCall, IsStep, IsPostfix, IsSizeof, IsPrefix, IsUnary, IsTyped, IsCast, IsOperation, operated, IsLevel, IsBranches, IsConditional, IsAssigned, IsAssignment, IsExpression, IsExprLine, ExprAt, DeclaratorAt}
use Rattle.typing_rules.specs.Source as t
use Rattle.typing_rules.specs.SourceViews.{exprs_from, parameters_from, all_parts, qualifiers_from, pointers_from, declarator_or, binary_from, assignment_from, expr_view, node_view, type_name_view, direct_view, suffix_view, parameter_view, declarator_view}
use Rattle.typing_rules.specs.Laws.{Each}
use Rattle.typing_rules.proofs.Exactness.{some_same}
use Rattle.typing_rules.proofs.Keeping.{each_append}
use Rattle.typing_rules.proofs.SourceViewLaws.{view_name, view_number, view_character, view_text, view_parenthesized, view_index, view_call, view_postfix, view_prefix, view_sizeofexpr, view_sizeoftype, view_cast, view_binary, view_conditional, view_assign, view_comma, view_expr, view_type_name, view_parameter, view_declarator, view_direct_name, view_direct_nested, view_direct_unnamed, view_unsized, view_sized, view_function}
use Rattle.typing_laws.specs.LanguagePrograms.{IfThere}
use Rattle.running_laws.specs.HasNumbers.{IsConstant as IsSmall, ExprHasNumbers, ExprsHaveNumbers, TypeHasNumbers, DeclaratorHasNumbers, PartsHaveNumbers, ParametersHaveNumbers}
use Rattle.parsed_laws.proofs.Fitting.{KindFits, TokenFits, Fits, fits_is, fits_bind, fits_then, fits_map, fits_or, fits_maybe, fits_parens, fits_grown, fits_further, fits_some, fits_listed}

module _ (shift : ℕ → ℕ) where
  abbrev pub HasExpr : Expr → Type 0
  HasExpr x = ExprHasNumbers (expr_view shift x)

  -- what a node asks of its parts, at whichever line
  abbrev HasNode : t.Node → Type 0
  HasNode node = (line : ℕ) → ExprHasNumbers (t.at line node)

  node_has : (line : ℕ) (node : ExprNode) (view : t.Node) → node_view shift node ≡ view → HasNode view → HasExpr (at_line line node)
  unfolding at_line
  node_has line node view e h =
      subst ExprHasNumbers (sym (view_expr shift (at_line line node))) (subst (λ z. ExprHasNumbers (t.at (shift line) z)) (sym e) (h (shift line)))

  exprs_have : (xs : List Expr) → Each HasExpr xs → ExprsHaveNumbers (exprs_from (map (expr_view shift) xs))
  unfolding ExprHasNumbers
  exprs_have [] h = tt
  exprs_have (x ∷ xs) h = (h.0, exprs_have xs h.1)

  -- ---- expressions of their parts

  name_has : (line : ℕ) (bytes : Bytes) → HasExpr (at_line line (e.Name bytes))
  unfolding ExprHasNumbers
  name_has line bytes = node_has line _ _ (view_name shift bytes) (λ l. tt)

  number_has : (line : ℕ) (ty : Ty) (m : ℕ) → IsSmall m → HasExpr (at_line line (e.Number ty m))
  unfolding ExprHasNumbers
  number_has line ty m h = node_has line _ _ (view_number shift ty m) (λ l. h)

  character_has : (line m : ℕ) → IsSmall m → HasExpr (at_line line (e.Character m))
  unfolding ExprHasNumbers
  character_has line m h = node_has line _ _ (view_character shift m) (λ l. h)

  text_has : (line : ℕ) (bytes : Bytes) → HasExpr (at_line line (e.Text bytes))
  unfolding ExprHasNumbers
  text_has line bytes = node_has line _ _ (view_text shift bytes) (λ l. tt)

  parenthesized_has : (line : ℕ) (x : Expr) → HasExpr x → HasExpr (at_line line (e.Parenthesized x))
  unfolding ExprHasNumbers
  parenthesized_has line x h = node_has line _ _ (view_parenthesized shift x) (λ l. h)

  index_has : (line : ℕ) (x : Expr) (where_to : ℕ) (y : Expr) → HasExpr x → HasExpr y → HasExpr (at_line line (e.Index x where_to y))
  unfolding ExprHasNumbers
  index_has line x where_to y h k = node_has line _ _ (view_index shift x where_to y) (λ l. (h, k))

  call_has : (line : ℕ) (x : Expr) (where_to : ℕ) (xs : List Expr) → HasExpr x → Each HasExpr xs → HasExpr (at_line line (e.Call x where_to xs))
  unfolding ExprHasNumbers
  call_has line x where_to xs h k = node_has line _ _ (view_call shift x where_to xs) (λ l. (h, exprs_have xs k))

  postfix_has : (line : ℕ) (x : Expr) (op : PostfixOp) (where_to : ℕ) → HasExpr x → HasExpr (at_line line (e.Postfix x op where_to))
  unfolding ExprHasNumbers
  postfix_has line x op where_to h = node_has line _ _ (view_postfix shift x op where_to) (λ l. h)

  prefix_has : (line : ℕ) (op : PrefixOp) (x : Expr) → HasExpr x → HasExpr (at_line line (e.Prefix op x))
  unfolding ExprHasNumbers
  prefix_has line op x h = node_has line _ _ (view_prefix shift op x) (λ l. h)

  sizeof_expr_has : (line : ℕ) (x : Expr) → HasExpr x → HasExpr (at_line line (e.SizeofExpr x))
  unfolding ExprHasNumbers
  sizeof_expr_has line x h = node_has line _ _ (view_sizeofexpr shift x) (λ l. h)

  abbrev HasType : TypeName → Type 0
  HasType x = TypeHasNumbers (type_name_view shift x)

  sizeof_type_has : (line : ℕ) (ty : TypeName) → HasType ty → HasExpr (at_line line (e.SizeofType ty))
  unfolding ExprHasNumbers
  sizeof_type_has line ty h = node_has line _ _ (view_sizeoftype shift ty) (λ l. h)

  cast_has : (line : ℕ) (ty : TypeName) (x : Expr) → HasType ty → HasExpr x → HasExpr (at_line line (e.Cast ty x))
  unfolding ExprHasNumbers
  cast_has line ty x h k = node_has line _ _ (view_cast shift ty x) (λ l. (h, k))

  binary_from_has : (op : BinaryOp) (line : ℕ) (x y : t.Expr) → ExprHasNumbers x → ExprHasNumbers y → HasNode (binary_from op line x y)
  unfolding ExprHasNumbers
  binary_from_has (Arithmetic op) line x y h k l = (h, k)
  binary_from_has And line x y h k l = (h, k)
  binary_from_has Or line x y h k l = (h, k)

  binary_has : (line : ℕ) (x : Expr) (op : BinaryOp) (where_to : ℕ) (y : Expr) → HasExpr x → HasExpr y → HasExpr (at_line line (e.Binary x op where_to y))
  binary_has line x op where_to y h k = node_has line _ _ (view_binary shift x op where_to y) (binary_from_has op (shift where_to) _ _ h k)

  conditional_has : (line : ℕ) (x : Expr) (where_to : ℕ) (y z : Expr) → HasExpr x → HasExpr y → HasExpr z
      → HasExpr (at_line line (e.Conditional x where_to y z))
  unfolding ExprHasNumbers
  conditional_has line x where_to y z h k m = node_has line _ _ (view_conditional shift x where_to y z) (λ l. (h, k, m))

  assignment_from_has : (op : Option CompoundOp) (line : ℕ) (x y : t.Expr) → ExprHasNumbers x → ExprHasNumbers y → HasNode (assignment_from op line x y)
  unfolding ExprHasNumbers
  assignment_from_has None line x y h k l = (h, k)
  assignment_from_has (Some op) line x y h k l = (h, k)

  assign_has : (line : ℕ) (x : Expr) (op : Option CompoundOp) (where_to : ℕ) (y : Expr) → HasExpr x → HasExpr y
      → HasExpr (at_line line (e.Assign x op where_to y))
  assign_has line x op where_to y h k = node_has line _ _ (view_assign shift x op where_to y) (assignment_from_has op (shift where_to) _ _ h k)

  comma_has : (line : ℕ) (xs : List Expr) (y : Expr) → Each HasExpr xs → HasExpr y → HasExpr (at_line line (e.Comma xs y))
  unfolding ExprHasNumbers
  comma_has line xs y h k = node_has line _ _ (view_comma shift xs y) (λ l. (exprs_have xs h, k))

  -- ---- declarators of their parts

  -- what stands in front of other parts
  abbrev HasParts : (t.Parts → t.Parts) → Type 0
  HasParts f = (rest : t.Parts) → PartsHaveNumbers rest → PartsHaveNumbers (f rest)

  abbrev pub HasDeclarator : Declarator → Type 0
  HasDeclarator x = HasParts (declarator_view shift x).parts

  abbrev HasDirect : Direct → Type 0
  HasDirect x = HasParts (direct_view shift x).parts

  abbrev HasSuffix : Suffix → Type 0
  HasSuffix x = HasParts (suffix_view shift x)

  abbrev HasParameter : Parameter → Type 0
  HasParameter p = DeclaratorHasNumbers (parameter_view shift p).declarator

  declarator_or_has : (line : ℕ) (x : Option Declarator) → IfThere HasDeclarator x
      → DeclaratorHasNumbers (declarator_or line (option_map (declarator_view shift) x))
  unfolding ExprHasNumbers
  declarator_or_has line None h = tt
  declarator_or_has line (Some x) h = h t.no_parts tt

  type_has : (ss : List Specifier) (x : Option Declarator) → IfThere HasDeclarator x → HasType (type_node ss x)
  unfolding ExprHasNumbers type_node
  type_has ss x h = subst TypeHasNumbers (sym (view_type_name shift (first_line ss) ss x)) (declarator_or_has (shift (first_line ss)) x h)

  parameter_has : (ss : List Specifier) (x : Option Declarator) → IfThere HasDeclarator x → HasParameter (parameter_node ss x)
  unfolding parameter_node
  parameter_has ss x h =
      subst (λ v. DeclaratorHasNumbers v.declarator) (sym (view_parameter shift (first_line ss) ss x)) (declarator_or_has (shift (first_line ss)) x h)

  parameters_have : (ps : List Parameter) → Each HasParameter ps → ParametersHaveNumbers (parameters_from (map (parameter_view shift) ps))
  unfolding ExprHasNumbers
  parameters_have [] h = tt
  parameters_have (p ∷ ps) h = (h.0, parameters_have ps h.1)

  array_has : (line : ℕ) (size : Option Expr) → IfThere HasExpr size → HasSuffix (s.Array line size)
  unfolding ExprHasNumbers
  array_has line None h rest k = subst PartsHaveNumbers (sym (view_unsized shift line rest)) k
  array_has line (Some x) h rest k = subst PartsHaveNumbers (sym (view_sized shift line x rest)) (h, k)

  function_has : (line : ℕ) (ps : List Parameter) → Each HasParameter ps → HasSuffix (s.Function line ps)
  unfolding ExprHasNumbers
  function_has line ps h rest k = subst PartsHaveNumbers (sym (view_function shift line ps rest)) (parameters_have ps h, k)

  suffixes_have : (xs : List Suffix) → Each HasSuffix xs → HasParts (all_parts (map (suffix_view shift) xs))
  suffixes_have [] h rest k = k
  suffixes_have (x ∷ xs) h rest k = h.0 (all_parts (map (suffix_view shift) xs) rest) (suffixes_have xs h.1 rest k)

  pointers_have : (ps : List Pointer) → HasParts (pointers_from ps)
  unfolding ExprHasNumbers
  pointers_have [] rest k = k
  pointers_have (p ∷ ps) rest k = pointers_have ps (t.pointer_part (qualifiers_from p) rest) k

  direct_name_has : (name : _) → HasDirect (d.Name name)
  direct_name_has name = subst (λ v. HasParts v.parts) (sym (view_direct_name shift name)) (λ rest k. k)

  direct_nested_has : (x : Declarator) → HasDeclarator x → HasDirect (d.Nested x)
  direct_nested_has x h = subst (λ v. HasParts v.parts) (sym (view_direct_nested shift x)) h

  direct_unnamed_has : HasDirect d.Unnamed
  direct_unnamed_has = subst (λ v. HasParts v.parts) (sym (view_direct_unnamed shift)) (λ rest k. k)

  -- a declarator's core: what is next to the name, and what stands behind it
  abbrev HasCore : Direct × List Suffix → Type 0
  HasCore p = HasDirect p.0 × Each HasSuffix p.1

  declarator_has : (line : ℕ) (ps : List Pointer) (core : Direct × List Suffix) → HasCore core → HasDeclarator (declarator_node line ps core.0 core.1)
  unfolding declarator_node
  declarator_has line ps core h =
      subst (λ v. HasParts v.parts) (sym (view_declarator shift (declarator_node line ps core.0 core.1)))
      (λ rest k. h.0 (all_parts (map (suffix_view shift) core.1) (pointers_from ps rest)) (suffixes_have core.1 h.1 (pointers_from ps rest)
      (pointers_have ps rest k)))

  -- ---- lines of the grammar, over those of one depth less

  module _ (src : Bytes) (E : Start → Spelling Expr) (D : Naming → Spelling Declarator) (exprs : (start : Start) → Fits HasExpr (E start))
      (declarators : (naming : Naming) → Fits HasDeclarator (D naming)) where
    fits_array : Fits HasSuffix (IsArray src E D)
    fits_array = fits_then (λ o. fits_bind (fits_maybe (exprs at.Conditional)) (λ size h. fits_then (λ c. fits_is (array_has o.line size h))))

    fits_parameter : Fits HasParameter (IsParameter src E D)
    fits_parameter = fits_then (λ ss. fits_bind (fits_maybe (declarators n.Either)) (λ x h. fits_is (parameter_has ss x h)))

    fits_parameters : Fits (Each HasParameter) (IsParameters src E D)
    fits_parameters = fits_or (fits_listed fits_parameter) (fits_is tt)

    fits_function : Fits HasSuffix (IsFunction src E D)
    fits_function = fits_then (λ o. fits_bind fits_parameters (λ ps h. fits_then (λ c. fits_is (function_has o.line ps h))))

    fits_suffix : Fits HasSuffix (IsSuffix src E D)
    fits_suffix = fits_or fits_array fits_function

    fits_named : Fits HasCore (IsNamed src E D)
    fits_named = fits_then (λ name. fits_bind (fits_further {P = HasSuffix} [] tt fits_suffix) (λ found h. fits_is (direct_name_has _, h)))

    fits_nested : (naming : Naming) → Fits HasCore (IsNested src E D naming)
    fits_nested naming =
        fits_bind (fits_parens (declarators naming)) (λ inner k. fits_bind (fits_further {P = HasSuffix} [] tt fits_suffix) (λ found h.
        fits_is (direct_nested_has inner k, h)))

    fits_bare : Fits HasCore (IsBare src E D)
    fits_bare = fits_bind (fits_some fits_suffix) (λ found h. fits_is (direct_unnamed_has, h))

    fits_core : (naming : Naming) → Fits HasCore (IsCore src E D naming)
    fits_core n.Named = fits_or fits_named (fits_nested n.Named)
    fits_core n.Unnamed = fits_or (fits_nested n.Unnamed) fits_bare
    fits_core n.Either = fits_or fits_named (fits_or (fits_nested n.Either) fits_bare)

    fits_pointer_alone : (naming : Naming) (ps : List Pointer) → Fits HasCore (IsPointerAlone src E D naming ps)
    fits_pointer_alone n.Named ps = record { fits = λ x w k h. absurd h }
    fits_pointer_alone n.Unnamed [] = record { fits = λ x w k h. absurd h }
    fits_pointer_alone n.Unnamed (p ∷ ps) = record { fits = λ x w k h. subst HasCore (sym h.0) (direct_unnamed_has, tt) }
    fits_pointer_alone n.Either [] = record { fits = λ x w k h. absurd h }
    fits_pointer_alone n.Either (p ∷ ps) = record { fits = λ x w k h. subst HasCore (sym h.0) (direct_unnamed_has, tt) }

    fits_declarator : (naming : Naming) → Fits HasDeclarator (IsDeclaratorLine src E D naming)
    fits_declarator naming = record {
      fits = λ x w k h.
          let rest : Fits HasDeclarator _ = fits_then (λ ps. fits_bind (fits_or (fits_core naming) (fits_pointer_alone naming ps)) (λ found q.
          fits_is (declarator_has _ ps found q))) in rest.fits x w k h;
    }

    fits_type : Fits HasType (IsTypeName src E D)
    fits_type = fits_then (λ ss. fits_bind (fits_maybe (declarators n.Unnamed)) (λ x h. fits_is (type_has ss x h)))

    fits_name : Fits HasExpr (IsName src E D)
    fits_name = fits_then (λ name. fits_is (name_has name.line _))

    constant_fits : (line : ℕ) (k : TokenKind) (x : Expr) → KindFits k → option_map (at_line line) (constant_node k) ≡ Some x → HasExpr x
    constant_fits line (Keyword i) x h q = absurd cc
    constant_fits line Name x h q = absurd cc
    constant_fits line (Number ty m) x h q = subst HasExpr (some_same (at_line line (e.Number ty m)) x q) (number_has line ty m h)
    constant_fits line (Character m) x h q = subst HasExpr (some_same (at_line line (e.Character m)) x q) (character_has line m h)
    constant_fits line Text x h q = absurd cc
    constant_fits line (Punct i) x h q = absurd cc

    fits_constant : Fits HasExpr (IsConstant src E D)
    fits_constant = record {
      fits = λ x w k h.
          let own : Each TokenFits (h.0 ∷ []) = subst (Each TokenFits) h.1 k in constant_fits h.0.line h.0.kind x own.0 h.2;
    }

    fits_texts : Fits HasExpr (IsTexts src E D)
    fits_texts = fits_then (λ first. fits_then (λ bytes. fits_is (text_has first.line bytes)))

    fits_parenthesized : Fits HasExpr (IsParenthesized src E D)
    fits_parenthesized = fits_then (λ o. fits_bind (exprs at.Expression) (λ x h. fits_then (λ c. fits_is (parenthesized_has o.line x h))))

    fits_primary : Fits HasExpr (IsPrimary src E D)
    fits_primary = fits_or fits_name (fits_or fits_texts (fits_or fits_parenthesized fits_constant))

    -- what stands behind an expression
    abbrev HasPart : (Expr → Expr) → Type 0
    HasPart f = (x : Expr) → HasExpr x → HasExpr (f x)

    fits_index : Fits HasPart (IsIndex src E D)
    fits_index = fits_then (λ o. fits_bind (exprs at.Expression) (λ y k. fits_then (λ c. fits_is (λ x h. index_has _ x o.line y h k))))

    fits_arguments : Fits (Each HasExpr) (IsArguments src E D)
    fits_arguments = fits_or (fits_listed (exprs at.Assignment)) (fits_is tt)

    fits_call : Fits HasPart (IsCall src E D)
    fits_call = fits_then (λ o. fits_bind fits_arguments (λ xs k. fits_then (λ c. fits_is (λ x h. call_has _ x o.line xs h k))))

    fits_step : Fits HasPart (IsStep src E D)
    fits_step = fits_then (λ p. fits_is (λ x h. postfix_has _ x p.1 p.0 h))

    fits_postfix : Fits HasExpr (IsPostfix src E D)
    fits_postfix =
        fits_bind fits_primary (λ x h. fits_grown {P = HasExpr} {Q = HasPart} (λ y part. part y) (λ y part p q. q y p)
        (fits_or fits_index (fits_or fits_call fits_step)) x h)

    fits_sizeof : Fits HasExpr (IsSizeof src E D)
    fits_sizeof =
        fits_then (λ o. fits_or (fits_map _ (fits_parens fits_type) (λ ty h. sizeof_type_has o.line ty h))
        (fits_map _ (exprs at.Unary) (λ x h. sizeof_expr_has o.line x h)))

    fits_prefix : (table : Table PrefixOp) (start : Start) → Fits HasExpr (IsPrefix src E D table start)
    fits_prefix table start = fits_then (λ p. fits_bind (exprs start) (λ x h. fits_is (prefix_has p.0 p.1 x h)))

    fits_unary : Fits HasExpr (IsUnary src E D)
    fits_unary = fits_or fits_sizeof (fits_or (fits_prefix step_operators at.Unary) (fits_or (fits_prefix unary_operators at.Cast) fits_postfix))

    fits_typed : Fits HasExpr (IsTyped src E D)
    fits_typed =
        fits_then (λ o. fits_bind fits_type (λ ty h. fits_then (λ c. fits_bind (exprs at.Cast) (λ x k. fits_is (cast_has o.line ty x h k)))))

    fits_cast : Fits HasExpr (IsCast src E D)
    fits_cast = fits_or fits_typed fits_unary

    abbrev HasOperation : (ℕ × BinaryOp) × Expr → Type 0
    HasOperation p = HasExpr p.1

    fits_operation : (table : Table BinaryOp) {S : Spelling Expr} → Fits HasExpr S → Fits HasOperation (IsOperation src E D table S)
    fits_operation table inner = fits_then (λ p. fits_bind inner (λ x h. fits_is h))

    fits_level : (level : ℕ) → Fits HasExpr (IsLevel src E D level)
    fits_level zero = fits_cast
    fits_level (suc level) =
        fits_bind (fits_level level) (λ x h. fits_grown {P = HasExpr} {Q = HasOperation} (operated src E D)
        (λ y p q r. binary_has _ y p.0.1 p.0.0 p.1 q r) (fits_operation (binary_operators level) (fits_level level)) x h)

    fits_branches : Fits HasPart (IsBranches src E D)
    fits_branches =
        fits_then (λ o. fits_bind (exprs at.Expression) (λ first h. fits_then (λ c. fits_bind (exprs at.Conditional) (λ second k.
        fits_is (λ x m. conditional_has _ x o.line first second m h k)))))

    fits_conditional : Fits HasExpr (IsConditional src E D)
    fits_conditional = fits_bind (fits_level levels) (λ x h. fits_or (fits_map _ fits_branches (λ f k. k x h)) (fits_is h))

    fits_assigned : (x : Expr) → HasExpr x → Fits HasExpr (IsAssigned src E D x)
    fits_assigned x h = fits_then (λ p. fits_bind (exprs at.Assignment) (λ right k. fits_is (assign_has _ x p.1 p.0 right h k)))

    fits_assignment : Fits HasExpr (IsAssignment src E D)
    fits_assignment = fits_or fits_conditional (fits_bind fits_unary fits_assigned)

    abbrev HaveOperands : List Expr × Expr → Type 0
    HaveOperands p = Each HasExpr p.0 × HasExpr p.1

    operands_have : (p : List Expr × Expr) → HaveOperands p → HasExpr (comma_node p)
    operands_have ([], last) h = h.1
    operands_have (first ∷ more, last) h = comma_has _ (first ∷ more) last h.0 h.1

    operand_more : (p : List Expr × Expr) (x : Expr) → HaveOperands p → HasExpr x → HaveOperands (with_operand p x)
    operand_more (dropped, last) x h k = (each_append HasExpr dropped (last ∷ []) h.0 (h.1, tt), k)

    fits_expression : Fits HasExpr (IsExpression src E D)
    fits_expression =
        fits_bind fits_assignment (λ first h. fits_bind {P = HaveOperands} (fits_grown {P = HaveOperands} {Q = HasExpr} with_operand operand_more
        (fits_then (λ c. fits_assignment)) ([], first) (tt, h)) (λ operands k. fits_is (operands_have operands k)))

    fits_line : (start : Start) → Fits HasExpr (IsExprLine src E D start)
    fits_line at.Expression = fits_expression
    fits_line at.Assignment = fits_assignment
    fits_line at.Conditional = fits_conditional
    fits_line at.Cast = fits_cast
    fits_line at.Unary = fits_unary

  -- ---- by depth

  mutual
    unfolding ExprAt

    pub expr_fits : (src : Bytes) (depth : ℕ) (start : Start) → Fits HasExpr (ExprAt src depth start)
    expr_fits src zero start = record { fits = λ x w k h. absurd h }
    expr_fits src (suc depth) start = record {
      fits = λ x w k h.
          (fits_line src (ExprAt src depth) (DeclaratorAt src depth) (λ a. expr_fits src depth a) (λ a. declarator_fits src depth a) start).fits x w k h;
    }

    pub declarator_fits : (src : Bytes) (depth : ℕ) (naming : Naming) → Fits HasDeclarator (DeclaratorAt src depth naming)
    declarator_fits src zero naming = record { fits = λ x w k h. absurd h }
    declarator_fits src (suc depth) naming = record {
      fits = λ x w k h.
          (fits_declarator src (ExprAt src depth) (DeclaratorAt src depth) (λ a. expr_fits src depth a) (λ a. declarator_fits src depth a) naming).fits
          x w k h;
    }
