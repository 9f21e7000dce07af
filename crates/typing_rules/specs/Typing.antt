-- The typing relation on expressions (C11 6.5), declarators and names of types (C11 6.7.6, 6.7.7): a case for each
-- construct.
use Rattle.std.specs.Prelude.{ℕ, true, false, List, [], ◌∷◌, Some, None}
use Rattle.srmt_base.specs.declared.ty.Ty.TheVariants.{Int}
use Rattle.srmt_base.specs.declared.op.Op.TheVariants.{Add, Sub}
use Rattle.c_types.specs.Types.{Qualified}
use Rattle.c_tree.specs.declared.operator.PrefixOp.TheVariants as pre
use Rattle.c_tree.specs.declared.operator.PostfixOp.TheVariants as post
use Rattle.typing_rules.specs.Source.{Expr, at, name, number, character, text, parenthesized, index, call, prefix, postfix, sizeof_expr, sizeof_type, cast, binary, conjunction, disjunction, choice, assignment, compound, comma, Exprs, no_exprs, first_expr, TypeName, type_name, Declarator, declarator, Parts, no_parts, pointer_part, array_part, unsized_part, function_part, Parameters, no_parameters, first_parameter, line_of}
use Rattle.typing_rules.specs.Terms.{Term, result, Written, number_value, one_value, Change, sequence_of, change_by}
use Rattle.typing_rules.specs.DeclaratorRules.{Derivation, to_pointer, to_array, to_function}
use Rattle.typing_rules.specs.Holding.{Typing, ◌>>=◌, ◌>>◌, Is, Such}
use Rattle.typing_rules.specs.TypingParts.{IsWritten, IsNamed, IsText, IsIndexed, IsIndirect, IsAddress, IsOpposite, IsPromoted, IsNegative, IsComplement, IsComputed, IsConjunction, IsDisjunction, IsChosen, IsTarget, IsAssigned, IsChanged, IsCast, IsUnvalued, IsSized, IsCalled, IsCall}
use Rattle.typing_rules.specs.Declarators.{AreSpecified, IsLength, IsDerived, IsParameter, IsParameterList}

-- `++` and `--`
abbrev pub IsStepped : ℕ → Change → Typing Term → Typing Term
IsStepped line c S = do
  term ← S
  target ← IsTarget term
  IsChanged line c target (one_value line)

unfoldable mutual
  pub IsTerm : Expr → Typing Term
  IsTerm (at line (name bytes)) = IsNamed line bytes
  IsTerm (at line (number ty n)) = Is (result (number_value line ty n))
  IsTerm (at line (character n)) = Is (result (number_value line Int n))
  IsTerm (at line (text bytes)) = IsText line bytes
  IsTerm (at line (parenthesized e)) = IsTerm e
  IsTerm (at line (index e op i)) = do
    a ← IsWritten (line_of e) (IsTerm e)
    b ← IsWritten (line_of i) (IsTerm i)
    IsIndexed line op a b
  IsTerm (at line (call f op es)) = do
    callee ← IsTerm f
    function ← IsCalled callee
    arguments ← AreAll es
    IsCall line op function arguments
  IsTerm (at line (prefix pre.Increment e)) = IsStepped line (change_by false (line_of e) Add line) (IsTerm e)
  IsTerm (at line (prefix pre.Decrement e)) = IsStepped line (change_by false (line_of e) Sub line) (IsTerm e)
  IsTerm (at line (prefix pre.AddressOf e)) = IsTerm e >>= IsAddress line
  IsTerm (at line (prefix pre.Indirection e)) = IsWritten (line_of e) (IsTerm e) >>= IsIndirect line
  IsTerm (at line (prefix pre.Plus e)) = IsWritten (line_of e) (IsTerm e) >>= IsPromoted line
  IsTerm (at line (prefix pre.Minus e)) = IsWritten (line_of e) (IsTerm e) >>= IsNegative line
  IsTerm (at line (prefix pre.Complement e)) = IsWritten (line_of e) (IsTerm e) >>= IsComplement line
  IsTerm (at line (prefix pre.Not e)) = IsWritten (line_of e) (IsTerm e) >>= IsOpposite line
  IsTerm (at line (postfix post.Increment op e)) = IsStepped line (change_by true (line_of e) Add op) (IsTerm e)
  IsTerm (at line (postfix post.Decrement op e)) = IsStepped line (change_by true (line_of e) Sub op) (IsTerm e)
  IsTerm (at line (sizeof_expr e)) = do
    term ← IsTerm e
    type ← IsUnvalued term
    IsSized line type
  IsTerm (at line (sizeof_type t)) = do
    type ← IsTypeNamed t
    IsSized line type.type
  IsTerm (at line (cast t e)) = do
    type ← IsTypeNamed t
    a ← IsWritten (line_of e) (IsTerm e)
    IsCast line type a
  IsTerm (at line (binary o op e f)) = do
    a ← IsWritten (line_of e) (IsTerm e)
    b ← IsWritten (line_of f) (IsTerm f)
    IsComputed line o op a b
  IsTerm (at line (conjunction op e f)) = do
    a ← IsWritten (line_of e) (IsTerm e)
    b ← IsWritten (line_of f) (IsTerm f)
    IsConjunction line a b
  IsTerm (at line (disjunction op e f)) = do
    a ← IsWritten (line_of e) (IsTerm e)
    b ← IsWritten (line_of f) (IsTerm f)
    IsDisjunction line a b
  IsTerm (at line (choice op c e f)) = do
    test ← IsWritten (line_of c) (IsTerm c)
    a ← IsWritten (line_of e) (IsTerm e)
    b ← IsWritten (line_of f) (IsTerm f)
    IsChosen line test a b
  IsTerm (at line (assignment op e f)) = do
    left ← IsTerm e
    target ← IsTarget left
    a ← IsWritten (line_of f) (IsTerm f)
    IsAssigned line target a
  IsTerm (at line (compound o op e f)) = do
    left ← IsTerm e
    target ← IsTarget left
    a ← IsWritten (line_of f) (IsTerm f)
    IsChanged line (change_by false (line_of e) o op) target a
  IsTerm (at line (comma es e)) = do
    dropped ← AreAll es
    last ← IsWritten (line_of e) (IsTerm e)
    Is (result (sequence_of line dropped last))

  pub AreAll : Exprs → Typing (List Written)
  AreAll no_exprs = Is []
  AreAll (first_expr e es) = do
    a ← IsWritten (line_of e) (IsTerm e)
    rest ← AreAll es
    Is (a ∷ rest)

  pub IsTypeNamed : TypeName → Typing Qualified
  IsTypeNamed (type_name s d) = do
    base ← AreSpecified false s
    ds ← AreDerivations d
    Such (IsDerived false base.type ds)

  pub AreDerivations : Declarator → Typing (List Derivation)
  AreDerivations (declarator line naming parts) = AreParts parts

  pub AreParts : Parts → Typing (List Derivation)
  AreParts no_parts = Is []
  AreParts (pointer_part q ps) = do
    rest ← AreParts ps
    Is (to_pointer q ∷ rest)
  AreParts (array_part line e ps) = do
    a ← IsWritten (line_of e) (IsTerm e)
    n ← Such (IsLength a.value)
    rest ← AreParts ps
    Is (to_array (Some n) ∷ rest)
  AreParts (unsized_part line ps) = do
    rest ← AreParts ps
    Is (to_array None ∷ rest)
  AreParts (function_part line list ps) = do
    found ← IsParameterList list (AreParameters list)
    rest ← AreParts ps
    Is (to_function found ∷ rest)

  pub AreParameters : Parameters → Typing (Unit {0})
  AreParameters no_parameters = Is tt
  AreParameters (first_parameter s d rest) = do
    base ← AreSpecified false s
    ds ← AreDerivations d
    IsParameter s base.type d ds
    AreParameters rest
