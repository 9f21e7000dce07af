-- Worked examples: sources, as trees, and what the ordered function answers.
use Rattle.std.specs.Prelude.{is_ok}
use Rattle.std.proofs.Common.{◌≡◌, ℕ, true, false, List, [], ◌∷◌, Some, None, Ok, Err, refl}
use Rattle.srmt_base.specs.declared.ty.Ty.TheVariants as ty
use Rattle.srmt_base.specs.declared.op.Op.TheVariants as o
use Rattle.c_types.specs.Types.{same_type, plain, integer, returning}
use Rattle.c_tree.specs.declared.specifier.SpecifierWord.TheVariants as w
use Rattle.c_typed.specs.Constants.{constant_of}
use Rattle.c_typed.specs.Starts.{start_of}
use Rattle.c_typed.specs.declared.program.Numbered.TheVariants as numbered
use Rattle.c_typed.specs.Typed.{value, constant}
use Rattle.c_typed.specs.Statements as t
use Rattle.c_typed.specs.Statements.{Program, Function}
use Rattle.typing_rules.specs.declared.refusal.TypeRefusal.TheVariants as r
use Rattle.typing_rules.specs.Source.{at, name, number, call, binary, assignment, no_exprs, first_expr, declarator, no_parts, pointer_part, array_part, function_part, no_parameters, first_parameter, Parameters}
use Rattle.typing_rules.specs.SourceUnits.{single, braced, no_initials, first_initial, expression, return, no_items, declaration, statement, function, declaration_of, Items, External, Unit as SourceUnit}
use Rattle.typing_rules.specs.Ordered.{term_of}
use Rattle.typing_rules.specs.OrderedDeclarations.{insides, cells_given}
use Rattle.typing_rules.specs.OrderedStatements.{stmt_of}
use Rattle.typing_rules.specs.OrderedUnits.{checked}

-- all that the function computes with
running : Unit {0}
unfolding checked stmt_of insides cells_given term_of start_of constant_of same_type
running = tt

-- `a`
abbrev name_a : List ℕ
name_a = 97 ∷ []

-- `c`
abbrev name_c : List ℕ
name_c = 99 ∷ []

-- `f`
abbrev name_f : List ℕ
name_f = 102 ∷ []

-- `main`
abbrev name_main : List ℕ
name_main = 109 ∷ 97 ∷ 105 ∷ 110 ∷ []

-- `p`
abbrev name_p : List ℕ
name_p = 112 ∷ []

-- `q`
abbrev name_q : List ℕ
name_q = 113 ∷ []

-- `x`
abbrev name_x : List ℕ
name_x = 120 ∷ []

-- `z`
abbrev name_z : List ℕ
name_z = 122 ∷ []

-- `(void)`, and a function `int name(void) { .. }` whose head is on one line
abbrev void_list : ℕ → Parameters
void_list line = first_parameter (record { line = line; words = w.Void ∷ [] }) (declarator line None no_parts) no_parameters

abbrev int_function : ℕ → List ℕ → Items → ℕ → External
int_function line bytes body end =
    function (record {
      specifiers = record { line = line; words = w.Int ∷ [] };
      declarator = declarator line (Some (record { line = line; bytes = bytes })) (function_part line (void_list line) no_parts);
      begin = line;
      body = body;
      end = end;
    })

-- int main(void){return x;}
abbrev unknown_name : SourceUnit
unknown_name =
    int_function 1 name_main (statement (return 1 (Some (at 1 (name name_x)))) no_items) 1 ∷ []

unknown_name_is_refused : checked unknown_name None ≡ Err (r.Unknown 1)
unfolding running
unknown_name_is_refused = refl

-- int f(void){return 0;}
abbrev no_main : SourceUnit
no_main =
    int_function 1 name_f (statement (return 1 (Some (at 1 (number ty.Int 0)))) no_items) 1 ∷ []

no_main_is_refused : checked no_main None ≡ Err r.NoMain
unfolding running
no_main_is_refused = refl

-- int main(void){int a[2]; a = 0; return 0;}
abbrev array_assigned : SourceUnit
array_assigned =
    int_function 1 name_main
    (declaration
    (record {
      specifiers = (record { line = 1; words = w.Int ∷ [] });
      items =
          record {
            declarator =
                (declarator 1
                (Some (record { line = 1; bytes = name_a }))
                (array_part 1 (at 1 (number ty.Int 2)) no_parts));
            initial = None;
          } ∷
          [];
    })
    (statement
    (expression 1 (at 1 (assignment 1 (at 1 (name name_a)) (at 1 (number ty.Int 0)))))
    (statement (return 1 (Some (at 1 (number ty.Int 0)))) no_items)))
    1 ∷
    []

array_assigned_is_refused : checked array_assigned None ≡ Err (r.Mismatch 1 7)
unfolding running
array_assigned_is_refused = refl

-- int main(void){
-- int *p; p = p *
--  z;
-- return 0;}
-- an operand comes before the rule of its operator
abbrev operand_first : SourceUnit
operand_first =
    int_function 1 name_main
    (declaration
    (record {
      specifiers = (record { line = 2; words = w.Int ∷ [] });
      items =
          record {
            declarator =
                (declarator 2
                (Some (record { line = 2; bytes = name_p }))
                (pointer_part (record { is_const = false; is_volatile = false }) no_parts));
            initial = None;
          } ∷
          [];
    })
    (statement
    (expression 2
    (at 2
    (assignment 2
    (at 2 (name name_p))
    (at 2 (binary o.Mul 2 (at 2 (name name_p)) (at 3 (name name_z)))))))
    (statement (return 4 (Some (at 4 (number ty.Int 0)))) no_items)))
    4 ∷
    []

operand_first_is_refused : checked operand_first None ≡ Err (r.Unknown 3)
unfolding running
operand_first_is_refused = refl

-- int main(void){
-- const int c = 1; int *p; c = p;
-- return 0;}
-- of two rules at one operator the least is named
abbrev least_rule : SourceUnit
least_rule =
    int_function 1 name_main
    (declaration
    (record {
      specifiers = (record { line = 2; words = w.Const ∷ w.Int ∷ [] });
      items =
          record {
            declarator = (declarator 2 (Some (record { line = 2; bytes = name_c })) no_parts);
            initial = (Some (single (at 2 (number ty.Int 1))));
          } ∷
          [];
    })
    (declaration
    (record {
      specifiers = (record { line = 2; words = w.Int ∷ [] });
      items =
          record {
            declarator =
                (declarator 2
                (Some (record { line = 2; bytes = name_p }))
                (pointer_part (record { is_const = false; is_volatile = false }) no_parts));
            initial = None;
          } ∷
          [];
    })
    (statement
    (expression 2 (at 2 (assignment 2 (at 2 (name name_c)) (at 2 (name name_p)))))
    (statement (return 3 (Some (at 3 (number ty.Int 0)))) no_items))))
    3 ∷
    []

least_rule_is_refused : checked least_rule None ≡ Err (r.Mismatch 2 7)
unfolding running
least_rule_is_refused = refl

-- int main(void){
-- return main(
-- z);}
-- rule 20 is at the name, before the arguments
abbrev main_before_arguments : SourceUnit
main_before_arguments =
    int_function 1 name_main
    (statement
    (return 2 (Some (at 2 (call (at 2 (name name_main)) 2 (first_expr (at 3 (name name_z)) no_exprs)))))
    no_items)
    3 ∷
    []

main_before_arguments_is_refused : checked main_before_arguments None ≡ Err (r.Mismatch 2 20)
unfolding running
main_before_arguments_is_refused = refl

-- int main(void){
-- int a[2] = {1, z, 3};
-- return 0;}
-- what is in an initializer comes before its shape
abbrev type_before_shape : SourceUnit
type_before_shape =
    int_function 1 name_main
    (declaration
    (record {
      specifiers = (record { line = 2; words = w.Int ∷ [] });
      items =
          record {
            declarator =
                (declarator 2
                (Some (record { line = 2; bytes = name_a }))
                (array_part 2 (at 2 (number ty.Int 2)) no_parts));
            initial =
                (Some
                (braced 2
                (first_initial
                (single (at 2 (number ty.Int 1)))
                (first_initial
                (single (at 2 (name name_z)))
                (first_initial (single (at 2 (number ty.Int 3))) no_initials)))));
          } ∷
          [];
    })
    (statement (return 3 (Some (at 3 (number ty.Int 0)))) no_items))
    3 ∷
    []

type_before_shape_is_refused : checked type_before_shape None ≡ Err (r.Unknown 2)
unfolding running
type_before_shape_is_refused = refl

-- int q(void);
-- int main(void){return q();}
-- what is used and not defined comes last
abbrev unresolved_last : SourceUnit
unresolved_last =
    declaration_of
    (record {
      specifiers = (record { line = 1; words = w.Int ∷ [] });
      items =
          record {
            declarator =
                (declarator 1
                (Some (record { line = 1; bytes = name_q }))
                (function_part 1
                (first_parameter
                (record { line = 1; words = w.Void ∷ [] })
                (declarator 1 None no_parts)
                no_parameters)
                no_parts));
            initial = None;
          } ∷
          [];
    }) ∷
    int_function 2 name_main
    (statement (return 2 (Some (at 2 (call (at 2 (name name_q)) 2 no_exprs)))) no_items)
    2 ∷
    []

unresolved_last_is_refused : checked unresolved_last None ≡ Err (r.Unresolved 2)
unfolding running
unresolved_last_is_refused = refl

-- int f(void);int main(void){return f();}
-- and as the binary file
-- int f(void){return 1;}
abbrev two_files : SourceUnit
two_files =
    declaration_of
    (record {
      specifiers = (record { line = 1; words = w.Int ∷ [] });
      items =
          record {
            declarator =
                (declarator 1
                (Some (record { line = 1; bytes = name_f }))
                (function_part 1
                (first_parameter
                (record { line = 1; words = w.Void ∷ [] })
                (declarator 1 None no_parts)
                no_parameters)
                no_parts));
            initial = None;
          } ∷
          [];
    }) ∷
    int_function 1 name_main
    (statement (return 1 (Some (at 1 (call (at 1 (name name_f)) 1 no_exprs)))) no_items)
    1 ∷
    []

abbrev two_files_binary : SourceUnit
two_files_binary =
    int_function 2000001 name_f
    (statement (return 2000001 (Some (at 2000001 (number ty.Int 1)))) no_items)
    2000001 ∷
    []

two_files_is_typed : is_ok (checked two_files (Some two_files_binary)) ≡ true
unfolding running
two_files_is_typed = refl

-- int f(void);int main(void){return f();}
-- and as the binary file
-- int f(int x){return 1;}
-- a rule across files is broken at the binary file
abbrev two_files_disagree : SourceUnit
two_files_disagree =
    declaration_of
    (record {
      specifiers = (record { line = 1; words = w.Int ∷ [] });
      items =
          record {
            declarator =
                (declarator 1
                (Some (record { line = 1; bytes = name_f }))
                (function_part 1
                (first_parameter
                (record { line = 1; words = w.Void ∷ [] })
                (declarator 1 None no_parts)
                no_parameters)
                no_parts));
            initial = None;
          } ∷
          [];
    }) ∷
    int_function 1 name_main
    (statement (return 1 (Some (at 1 (call (at 1 (name name_f)) 1 no_exprs)))) no_items)
    1 ∷
    []

abbrev two_files_disagree_binary : SourceUnit
two_files_disagree_binary =
    function
    (record {
      specifiers = (record { line = 2000001; words = w.Int ∷ [] });
      declarator =
          (declarator 2000001
          (Some (record { line = 2000001; bytes = name_f }))
          (function_part 2000001
          (first_parameter
          (record { line = 2000001; words = w.Int ∷ [] })
          (declarator 2000001 (Some (record { line = 2000001; bytes = name_x })) no_parts)
          no_parameters)
          no_parts));
      begin = 2000001;
      body = (statement (return 2000001 (Some (at 2000001 (number ty.Int 1)))) no_items);
      end = 2000001;
    }) ∷
    []

two_files_disagree_is_refused : checked two_files_disagree (Some two_files_disagree_binary) ≡ Err (r.Mismatch 2000001 17)
unfolding running
two_files_disagree_is_refused = refl

-- int main(void){return 0;}
abbrev empty_program : SourceUnit
empty_program = int_function 1 name_main (statement (return 1 (Some (at 1 (number ty.Int 0)))) no_items) 1 ∷ []

abbrev typed_main : Function
typed_main =
    record {
      entity = 0;
      line = 1;
      type = returning plain (integer ty.Int);
      parameters = 0;
      locals = [];
      begin = 1;
      body = t.statement (t.return 1 (Some (value 1 (integer ty.Int) (constant 0)))) t.no_items;
      end = 1;
    }

abbrev typed_program : Program
typed_program =
    record {
      main_file = record { functions = typed_main ∷ []; statics = []; texts = [] };
      binary_file = record { functions = []; statics = []; texts = [] };
      entities = numbered.Function 1 ∷ [];
      main = 0;
    }

empty_program_is_typed : checked empty_program None ≡ Ok typed_program
unfolding running
empty_program_is_typed = refl
