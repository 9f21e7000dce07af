use Rattle.mid_code.proofs.Naming.{whole}
use Rattle.first_form.proofs.pairing.pair_of.Goals as goal

pub everything_shared-requires : goal.everything_shared-requires
everything_shared-requires c = (whole c.args.program c.requires.valid).main_functions
