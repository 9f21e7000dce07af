use Rattle.c_typed.specs.StatementViews.{program_view}
use Rattle.c_meaning.proofs.StartingObjects.{text_small}
use Rattle.c_meaning.proofs.statics.start_value.Goals as goal

pub address_of_text-requires : goal.address_of_text-requires
address_of_text-requires c =
    text_small (program_view c.args.program.now) c.args.part c.args.start c.in-Text.number c.in-Text.offset c.in-Text.is c.requires.small
