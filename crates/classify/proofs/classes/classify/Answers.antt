use Rattle.std.proofs.Common.{◌≤◌, sym, ◌∙◌, subst}
use Rattle.std.proofs.lemmas.Bool.{ltb-false}
use Rattle.mid_code.specs.Classes.{shared_program, all_sites}
use Rattle.classify.proofs.SitesThere.{functions_there, has_rows, has_sites}
use Rattle.classify.proofs.classes.classify.Goals as goal

pub everything_shared-requires : goal.everything_shared-requires
everything_shared-requires c = functions_there c.args.program c.requires.valid

pub has_many_sites-requires : goal.has_many_sites-requires
has_many_sites-requires c = has_rows c.args.program c.as_slice.result.now c.requires.valid (c.as_slice.ensures ∙ c.in_ok-shared.ensures)

pub all_classes-requires-clause-rows : goal.all_classes-requires-clause-rows
all_classes-requires-clause-rows c = has_rows c.args.program c.as_slice-2.result.now c.requires.valid (c.as_slice-2.ensures ∙ c.in_ok-shared.ensures)

pub new-requires-clause-sites : goal.new-requires-clause-sites
new-requires-clause-sites c =
    let program = c.args.program in
    let limit : all_sites (shared_program program c.as_slice.result.now) ≤ 65535 =
    ltb-false 65535 (all_sites (shared_program program c.as_slice.result.now)) (sym c.has_many_sites.ensures ∙ c.if-has_many_sites.false) in
    has_sites program c.in_ok-shared.shared c.requires.valid c.in_ok-shared.ensures
    (subst (λ s. all_sites (shared_program program s) ≤ 65535) c.as_slice.ensures limit) c.requires.first_form
