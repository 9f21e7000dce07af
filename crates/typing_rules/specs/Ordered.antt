-- The ordered function on expressions: the typed expression, or the first refusal. Operands come before operators,
-- from left to right; the rules of one operator stand beside one another, the least first.
use Rattle.std.specs.Prelude.{ℕ, true, false, List, [], ◌∷◌, Some, None}
use Rattle.srmt_base.specs.declared.ty.Ty.TheVariants.{Int}
use Rattle.srmt_base.specs.declared.op.Op.TheVariants.{Add, Sub}
use Rattle.c_types.specs.Types.{Qualified}
use Rattle.c_tree.specs.declared.operator.PrefixOp.TheVariants as pre
use Rattle.c_tree.specs.declared.operator.PostfixOp.TheVariants as post
use Rattle.typing_rules.specs.Source.{Expr, at, name, number, character, text, parenthesized, index, call, prefix, postfix, sizeof_expr, sizeof_type, cast, binary, conjunction, disjunction, choice, assignment, compound, comma, Exprs, no_exprs, first_expr, TypeName, type_name, Declarator, declarator, Parts, no_parts, pointer_part, array_part, unsized_part, function_part, Parameters, no_parameters, first_parameter, line_of}
use Rattle.typing_rules.specs.Terms.{Term, result, Written, number_value, one_value, Change, sequence_of, change_by}
use Rattle.typing_rules.specs.DeclaratorRules.{Derivation, to_pointer, to_array, to_function, Lines, lines_of, length_of, derived}
use Rattle.typing_rules.specs.Checking.{Checking, ◌>>=◌, ◌>>◌, pure, ruled_by, from_result}
use Rattle.typing_rules.specs.OrderedParts.{written, named, text_term, indexed, indirect, address_of, opposite, promoted, negative, complemented, computed, conjoined, disjoined, chosen, target_of, assigned, changed, cast_to, unvalued, sized, called, call_of, specified, parameter, parameter_list}

-- `++` and `--`, whose 1 has the line of the whole expression
abbrev pub stepped : ℕ → Change → Checking Term → Checking Term
stepped line c m = do
  term ← m
  target ← target_of term
  changed line c target (one_value line)

unfoldable mutual
  pub term_of : Expr → Checking Term
  term_of (at line (name bytes)) = named line bytes
  term_of (at line (number ty n)) = pure (result (number_value line ty n))
  term_of (at line (character n)) = pure (result (number_value line Int n))
  term_of (at line (text bytes)) = text_term line bytes
  term_of (at line (parenthesized e)) = term_of e
  term_of (at line (index e op i)) = do
    a ← written (line_of e) (term_of e)
    b ← written (line_of i) (term_of i)
    indexed line op a b
  term_of (at line (call f op es)) = do
    callee ← term_of f
    function ← called callee
    arguments ← all_of es
    call_of line op function arguments
  term_of (at line (prefix pre.Increment e)) = stepped line (change_by false (line_of e) Add line) (term_of e)
  term_of (at line (prefix pre.Decrement e)) = stepped line (change_by false (line_of e) Sub line) (term_of e)
  term_of (at line (prefix pre.AddressOf e)) = term_of e >>= address_of line
  term_of (at line (prefix pre.Indirection e)) = written (line_of e) (term_of e) >>= indirect line
  term_of (at line (prefix pre.Plus e)) = written (line_of e) (term_of e) >>= promoted line
  term_of (at line (prefix pre.Minus e)) = written (line_of e) (term_of e) >>= negative line
  term_of (at line (prefix pre.Complement e)) = written (line_of e) (term_of e) >>= complemented line
  term_of (at line (prefix pre.Not e)) = written (line_of e) (term_of e) >>= opposite line
  term_of (at line (postfix post.Increment op e)) = stepped line (change_by true (line_of e) Add op) (term_of e)
  term_of (at line (postfix post.Decrement op e)) = stepped line (change_by true (line_of e) Sub op) (term_of e)
  term_of (at line (sizeof_expr e)) = do
    term ← term_of e
    type ← unvalued term
    sized line type
  term_of (at line (sizeof_type t)) = do
    type ← type_named t
    sized line type.type
  term_of (at line (cast t e)) = do
    type ← type_named t
    a ← written (line_of e) (term_of e)
    cast_to line type a
  term_of (at line (binary o op e f)) = do
    a ← written (line_of e) (term_of e)
    b ← written (line_of f) (term_of f)
    computed line o op a b
  term_of (at line (conjunction op e f)) = do
    a ← written (line_of e) (term_of e)
    b ← written (line_of f) (term_of f)
    conjoined line op a b
  term_of (at line (disjunction op e f)) = do
    a ← written (line_of e) (term_of e)
    b ← written (line_of f) (term_of f)
    disjoined line op a b
  term_of (at line (choice op c e f)) = do
    test ← written (line_of c) (term_of c)
    a ← written (line_of e) (term_of e)
    b ← written (line_of f) (term_of f)
    chosen line op test a b
  term_of (at line (assignment op e f)) = do
    left ← term_of e
    target ← target_of left
    a ← written (line_of f) (term_of f)
    assigned line op target a
  term_of (at line (compound o op e f)) = do
    left ← term_of e
    target ← target_of left
    a ← written (line_of f) (term_of f)
    changed line (change_by false (line_of e) o op) target a
  term_of (at line (comma es e)) = do
    dropped ← all_of es
    last ← written (line_of e) (term_of e)
    pure (result (sequence_of line dropped last))

  pub all_of : Exprs → Checking (List Written)
  all_of no_exprs = pure []
  all_of (first_expr e es) = do
    a ← written (line_of e) (term_of e)
    rest ← all_of es
    pure (a ∷ rest)

  -- the type that is named
  pub type_named : TypeName → Checking Qualified
  type_named (type_name s d) = do
    base ← specified false s
    ds ← derivations_of (lines_of d s.line) d
    from_result (derived (lines_of d s.line) false base.type ds)

  -- all lengths and lists of parameters of a declarator, as they stand in the source
  pub derivations_of : Lines → Declarator → Checking (List Derivation)
  derivations_of lines (declarator line naming parts) = parts_of lines parts

  pub parts_of : Lines → Parts → Checking (List Derivation)
  parts_of lines no_parts = pure []
  parts_of lines (pointer_part q ps) = do
    rest ← parts_of lines ps
    pure (to_pointer q ∷ rest)
  parts_of lines (array_part line e ps) = do
    a ← written (line_of e) (term_of e)
    n ← ruled_by lines.lengths (length_of a.value)
    rest ← parts_of lines ps
    pure (to_array (Some n) ∷ rest)
  parts_of lines (unsized_part line ps) = do
    rest ← parts_of lines ps
    pure (to_array None ∷ rest)
  parts_of lines (function_part line list ps) = do
    found ← parameter_list list (parameters_of list)
    rest ← parts_of lines ps
    pure (to_function found ∷ rest)

  -- the parameters of a list become locals, each in its turn
  pub parameters_of : Parameters → Checking (Unit {0})
  parameters_of no_parameters = pure tt
  parameters_of (first_parameter s d rest) = do
    base ← specified false s
    ds ← derivations_of (lines_of d s.line) d
    parameter s base.type d ds
    parameters_of rest
