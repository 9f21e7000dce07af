use Rattle.first_form.proofs.CodeMeaning.{program_implements}
use Rattle.first_form.proofs.compiling.compile_first_form.Goals as goal

pub returns-clause-ok : goal.returns-clause-ok
returns-clause-ok c =
    let is = c.in_ok-form.ensures.found in
    (c.in_ok-form.form, is, program_implements _ _ _ is c.in_ok-lower_first_form.ensures)
