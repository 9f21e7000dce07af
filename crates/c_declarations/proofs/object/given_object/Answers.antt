use Rattle.std.proofs.Common.{[], ◌∷◌, Some, Ok, subst}
use Rattle.typing_rules.specs.SourceViews.{item_view}
use Rattle.typing_rules.specs.Checking.{◌>>=◌, pure}
use Rattle.typing_rules.specs.OrderedDeclarations.{local_initialized}
use Rattle.c_known.specs.Views.{line_in}
use Rattle.c_known.specs.Gives.{Gives}
use Rattle.c_known.proofs.Binding.{bind, pure-gives}
use Rattle.c_declarations.specs.Parts.{IsLocalItem, MeansInitializerIf}
use Rattle.c_declarations.proofs.object.given_object.Goals as goal

pub returns-in-Ok : goal.returns-in-Ok
returns-in-Ok c t h =
    let x = item_view (line_in c.args.file) c.args.x.now in
    let mid = c.local_initialized.new.known in
    let n = c.args.number in
    subst (λ line. Gives IsLocalItem c.args.known.now mid (Ok (Some (record { number = n; initializer = c.in-Ok.initializer }))) (local_initialized line n t x.initial >>= (λ i. pure (record { number = n; initializer = i } ∷ []))))
    c.line_of_name-at.ensures
    (bind MeansInitializerIf IsLocalItem c.args.known.now mid mid c.in-Ok.initializer (Ok (Some (record { number = n; initializer = c.in-Ok.initializer }))) (local_initialized c.line_of_name-at.result n t x.initial)
    (λ i. pure (record { number = n; initializer = i } ∷ [])) (c.in-Ok.ensures t h)
    (λ i more means. pure-gives IsLocalItem mid (Some (record { number = n; initializer = c.in-Ok.initializer })) (record { number = n; initializer = i } ∷ [])
    (record { always = λ later e j. record { number = n; initializer = means.always later e j } ∷ [] })))
