use Rattle.std.proofs.Common.{sym, ◌∙◌, map}
use Rattle.typing_rules.specs.SourceViews.{word_of}
use Rattle.typing_rules.specs.SpecifierRules as rule
use Rattle.c_declarators.proofs.Said.{none-says, some-says}
use Rattle.c_declarators.proofs.specifier.said_by.Goals as goal

pub returns-in-None : goal.returns-in-None
returns-in-None c rows =
    let words = map word_of c.args.words.now in
    none-says rows (rule.storage_fits c.args.may_store words) (rule.named_by words rule.namings) words (c.in-None.ensures rows)

pub returns-in-Some : goal.returns-in-Some
returns-in-Some c rows =
    let words = map word_of c.args.words.now in
    some-says rows _ (rule.storage_fits c.args.may_store words) (rule.named_by words rule.namings) words (sym c.storage_fits.ensures ∙ c.if-not-storage_fits.false) (c.in-Some.ensures rows)
    c.storage_in.ensures c.qualifiers_in.ensures
