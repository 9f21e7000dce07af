use Rattle.std.proofs.Common.{◌∙◌, ap}
use Rattle.std.specs.HashSet.{HashSet}
use Rattle.c_types.specs.declared.type_ref.TypeRef.{TypeRef}
use Rattle.c_typed.specs.StatementViews.{program_view}
use Rattle.lower.specs.Expressions.{number_of}
use Rattle.lower.specs.Programs.{types_of_program}
use Rattle.lower.proofs.Steps.{exits}
use Rattle.lower.proofs.LoweredPrograms.{refused-first, refused-others, program-given, main-counted, main-entity}
use Rattle.lower.proofs.programs.lower.Goals as goal

pub returns-in_err-between : goal.returns-in_err-between
returns-in_err-between c =
    let p = program_view c.args.program.now in
    refused-first {K = HashSet TypeRef _} (λ known. known.keys) c.args.program.now.types p c.new-functions.result.items c.lower_part.new.lowered.items _
    c.from_residual-in_err-between.result (exits c.from_residual-in_err-between.result _ c.from_residual-in_err-between.ensures.1)
    (c.in_err-between.ensures (types_of_program p) c.in_ok-first.ensures)

pub returns-in_err-known : goal.returns-in_err-known
returns-in_err-known c =
    let p = program_view c.args.program.now in
    refused-others {K = HashSet TypeRef _} (λ known. known.keys) c.args.program.now.types p c.new-functions.result.items c.lower_part.new.lowered.items
    c.lower_part-2.new.lowered.items c.in_ok-between.between _ c.from_residual-in_err-known.result
    (exits c.from_residual-in_err-known.result _ c.from_residual-in_err-known.ensures.1)
    (c.in_ok-between.ensures (types_of_program p) c.in_ok-first.ensures) (λ types are. c.in_err-known.ensures types are)

pub returns : goal.returns
returns c =
    let p = program_view c.args.program.now in
    program-given {K = HashSet TypeRef _} (λ known. known.keys) c.args.program.now.types p c.new-functions.result.items c.lower_part.new.lowered.items
    c.lower_part-2.new.lowered.items c.in_ok-between.between c.in_ok-known.known _ c.new-functions.ensures.items
    (c.in_ok-between.ensures (types_of_program p) c.in_ok-first.ensures) (λ types are. c.in_ok-known.ensures types are)
    (record {
      types_are = c.in_ok-fun_types.ensures;
      counted = c.in-Ok.ensures.1 ∙ c.len.ensures ∙ main-counted c.args.program.now;
      main_is = c.in_ok-short.ensures.same ∙ c.number_of.ensures ∙ ap (number_of p) (main-entity c.args.program.now);
      main_objects = c.in_ok-statics_of.ensures.objects;
      binary_objects = c.in_ok-statics_of-2.ensures.objects;
      functions_are = c.from_vec.ensures;
    })
