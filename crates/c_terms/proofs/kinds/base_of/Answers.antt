use Rattle.std.proofs.Common.{false, Ok}
use Rattle.typing_rules.specs.SourceViews.{specifiers_view}
use Rattle.typing_rules.specs.OrderedParts.{specified as said}
use Rattle.c_known.specs.Views.{line_in as told_line}
use Rattle.c_known.proofs.Binding.{answers-give}
use Rattle.c_declarators.specs.Specifiers.{MeansSpecified}
use Rattle.c_terms.specs.Kinds.{IsBase}
use Rattle.c_terms.proofs.Paths.{means-as}
use Rattle.c_terms.proofs.kinds.base_of.Goals as goal

pub returns-in-Ok : goal.returns-in-Ok
returns-in-Ok c =
    means-as MeansSpecified IsBase c.args.known.now c.args.known.now c.in-Ok.said c.in-Ok.said.ty (said false (specifiers_view (told_line c.args.file) c.args.line c.args.words.now)) (λ a m. m.type)
    (answers-give MeansSpecified c.args.known.now (Ok c.in-Ok.said) (said false (specifiers_view (told_line c.args.file) c.args.line c.args.words.now)) (c.in-Ok.ensures c.args.known.now.types))
