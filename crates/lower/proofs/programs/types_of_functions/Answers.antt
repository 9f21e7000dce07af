use Rattle.std.proofs.Common.{[], map, sym, subst, List, ◌∙◌}
use Rattle.std.proofs.lemmas.List.{nil_from_length}
use Rattle.c_types.specs.declared.type_ref.TypeRef.{TypeRef}
use Rattle.c_types.specs.Types.{CType}
use Rattle.c_types.specs.Table.{type_at}
use Rattle.c_typed.specs.StatementViews.{function_view}
use Rattle.lower.specs.Functions.{AreTypes}
use Rattle.lower.specs.Programs.{all_types}
use Rattle.lower.proofs.LoweredFunctions.{types-of-both, no-types}
use Rattle.lower.proofs.programs.types_of_functions.Goals as goal

pub returns : goal.returns
returns c =
    let p = c.args.program.now in
    let rows = p.types in
    let none = subst (λ (keys : List TypeRef). AreTypes rows keys []) (sym (nil_from_length c.new-known.result.keys c.new-known.ensures.len))
    (no-types rows) in
    let h = c.in_ok-add_types-2.ensures _ (c.in_ok-add_types.ensures [] none) in
    subst (λ (types : List CType). AreTypes rows c.add_types-2.new.known.keys types)
    ((λ i. all_types (all_types [] (map (function_view (type_at rows)) (c.as_slice.ensures i))) (map (function_view (type_at rows)) (c.as_slice-2.ensures i)))
    ∙ types-of-both p) h
