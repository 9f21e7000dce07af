use Rattle.srmtrun.proofs.Meaning.{each_byte}
use Rattle.srmtrun.proofs.reference.run_with_binary.Goals as goal

pub run_bytes-requires-clause-bytes : goal.run_bytes-requires-clause-bytes
run_bytes-requires-clause-bytes g c = each_byte c.args.binary.now (λ k. (c.type_inv.binary k).fits)
