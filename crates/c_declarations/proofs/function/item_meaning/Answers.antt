use Rattle.std.proofs.Common.{◌≡◌, subst}
use Rattle.typing_rules.specs.SourceViews.{item_view}
use Rattle.typing_rules.specs.Known as known
use Rattle.typing_rules.specs.Source.{Named}
use Rattle.typing_rules.specs.OrderedDeclarations.{function_meaning}
use Rattle.c_known.specs.Views.{line_in}
use Rattle.c_known.specs.Gives.{Gives}
use Rattle.c_known.specs.Standing.{MeansMeaning}
use Rattle.c_declarations.specs.Parts.{item_name}
use Rattle.c_declarations.proofs.function.item_meaning.Goals as goal

pub returns : goal.returns
returns c t h =
    let same : record { line = c.line_of_name-line.result; bytes = c.bytes_of_name.result.now } ≡ item_name (item_view (line_in c.args.file) c.args.x.now) =
    (λ i. record { line = c.line_of_name-line.ensures i; bytes = c.bytes_of_name.ensures c.args.file i }) in
    subst (λ (n : Named). Gives MeansMeaning c.args.known.now c.function_meaning.new.known c.function_meaning.result (function_meaning n t (known.found_in n.bytes known.predeclared_scope))) same
    (c.function_meaning.ensures t h)
