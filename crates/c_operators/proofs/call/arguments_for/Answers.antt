use Rattle.std.proofs.Common.{◌≡◌, ◌==◌, true, false, length, refl, sym, ap, ◌∙◌, subst}
use Rattle.c_types.specs.Types.{parameters_of}
use Rattle.c_typed.specs.Typed.{no_values}
use Rattle.c_values.specs.Answers.{AreWritten, MeanValues}
use Rattle.c_values.proofs.Means.{stands-now}
use Rattle.c_operators.proofs.Passing.{same-length, counted-answers, uncounted-answers}
use Rattle.c_operators.proofs.call.arguments_for.Goals as goal

pub returns-then-has_parameters : goal.returns-then-has_parameters
returns-then-has_parameters c t ws stands m =
    let rows = c.args.types.now in
    let same = c.has_parameters.ensures ∙ (λ i. length (parameters_of (stands-now rows _ _ stands i)) == (c.len.ensures ∙ ap length c.from_vec-arguments.ensures ∙ same-length rows c.args.arguments.items ws m) i) in
    counted-answers rows c.args.at (parameters_of t) ws c.passed.result (sym same ∙ c.if-has_parameters.true)
    (c.passed.ensures t ws no_values stands (subst (λ xs. AreWritten rows xs ws) (sym c.from_vec-arguments.ensures) m)
    (subst (λ xs. MeanValues rows xs no_values) (sym c.new.ensures) (record { always = λ later more. refl })))

pub returns-else-has_parameters : goal.returns-else-has_parameters
returns-else-has_parameters c t ws stands m =
    let rows = c.args.types.now in
    let same = c.has_parameters.ensures ∙ (λ i. length (parameters_of (stands-now rows _ _ stands i)) == (c.len.ensures ∙ ap length c.from_vec-arguments.ensures ∙ same-length rows c.args.arguments.items ws m) i) in
    uncounted-answers rows c.args.at (parameters_of t) ws (sym same ∙ c.if-has_parameters.false)
