use Rattle.std.proofs.Common.{◌≡◌, refl, subst}
use Rattle.typing_rules.specs.SourceViews.{item_view}
use Rattle.typing_rules.specs.Known as known
use Rattle.typing_rules.specs.Source.{Named}
use Rattle.typing_rules.specs.OrderedParts.{declares}
use Rattle.c_known.specs.Views.{line_in}
use Rattle.c_known.specs.Gives.{Gives, IsDone}
use Rattle.c_declarations.specs.Parts.{item_name}
use Rattle.c_declarations.proofs.object.name_object.Goals as goal

pub returns : goal.returns
returns c =
    let same : record { line = c.line_of_name-line.result; bytes = c.bytes_of_name.result.now } ≡ item_name (item_view (line_in c.args.file) c.args.x.now) =
    (λ i. record { line = c.line_of_name-line.ensures i; bytes = c.bytes_of_name.ensures c.args.file i }) in
    subst (λ (n : Named). Gives IsDone c.args.known.now c.declare.new.self c.declare.result (declares n (known.local c.args.number))) same
    (c.declare.ensures (known.local c.args.number) (record { always = λ later more. refl }))
