use Rattle.std.proofs.Common.{◌≡◌, ◌≤◌, List, length, take, sym, ap, ◌∙◌, subst, arith}
use Rattle.std.proofs.lemmas.List.{length-take-le}
use Rattle.mid_code.specs.declared.class.Class.{Class}
use Rattle.mid_code.specs.declared.program.MidFunction.{MidFunction}
use Rattle.mid_code.specs.declared.program.MidProgram.{MidProgram}
use Rattle.mid_code.specs.Classes.{classes_of, protected_functions}
use Rattle.version_code.specs.Rows.{HaveClasses}
use Rattle.version_code.proofs.ClassesThere.{classes_there, functions_there}
use Rattle.gen_trailing.proofs.versions.generate.Goals as goal

pub slice_bounds-functions-end : goal.slice_bounds-functions-end
slice_bounds-functions-end c =
    let same = c.program-code.ensures.same in
    let mains = ap (λ (q : MidProgram). q.main_functions) same in
    let count = ap length c.as_slice.ensures ∙ ap (λ (q : MidProgram). length q.functions) same in
    let within : c.from.result ≤ length c.as_slice.result.now =
    omega (arith, c.from.ensures, mains, count, functions_there c.args.program.now c.program-code.ensures.sites) in
    sym (length-take-le c.from.result c.as_slice.result.now within)

pub versions-requires : goal.versions-requires
versions-requires c =
    let p = c.args.program.now in
    let rows : c.as_slice-2.result.now ≡ classes_of p = c.as_slice-2.ensures ∙ c.classes.ensures in
    let functions : take c.from.result c.as_slice.result.now ≡ protected_functions p.program =
    ap (λ n. take n c.as_slice.result.now) c.from.ensures ∙ ap (take c.program-code.result.now.main_functions) c.as_slice.ensures
    ∙ ap protected_functions c.program-code.ensures.same in
    subst (λ (rs : List (List Class)). HaveClasses rs (take c.from.result c.as_slice.result.now)) (sym rows)
    (subst (λ (fs : List MidFunction). HaveClasses (classes_of p) fs) (sym functions) (classes_there p c.program-code.ensures.sites))
