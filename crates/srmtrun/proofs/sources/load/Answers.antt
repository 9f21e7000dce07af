use Rattle.srmtrun.specs.Reads.{file_named}
use Rattle.srmtrun.proofs.Asking.{reads_one, is_read_one}
use Rattle.srmtrun.proofs.sources.load.Goals as goal

pub returns-clause-ok : goal.returns-clause-ok
returns-clause-ok g c = is_read_one (g.F.Files.contents c.args.files.now) (λ v. v.items) c.read.result (file_named c.args.limit c.args.name.now) c.read.ensures.told c.read.ensures.within

pub returns-clause-asks : goal.returns-clause-asks
returns-clause-asks g c = reads_one (g.F.Files.contents c.args.files.now) (λ v. v.items) c.read.result _ _ (file_named c.args.limit c.args.name.now) c.read.ensures.told c.read.ensures.within c.read.ensures.too_long c.read.ensures.asks
