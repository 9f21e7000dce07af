use Rattle.std.proofs.Common.{map}
use Rattle.typing_rules.specs.SourceViews.{word_of}
use Rattle.typing_rules.specs.SpecifierRules as rule
use Rattle.c_known.specs.Views.{line_in}
use Rattle.c_declarators.proofs.Said.{said-answers, unsaid-answers}
use Rattle.c_declarators.proofs.specifier.specified.Goals as goal

pub returns-in-Some : goal.returns-in-Some
returns-in-Some c rows k =
    said-answers rows k (line_in c.args.file c.args.line) (rule.specified_by c.args.may_store (map word_of c.args.words.now)) c.in-Some.said (c.in-Some.ensures rows)

pub returns-in-None : goal.returns-in-None
returns-in-None c rows k =
    unsaid-answers rows k (line_in c.args.file c.args.line) c.line_in.result (rule.specified_by c.args.may_store (map word_of c.args.words.now)) c.line_in.ensures (c.in-None.ensures rows)
