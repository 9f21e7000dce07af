use Rattle.std.proofs.Common.{refl}
use Rattle.std.proofs.Math.Seq.{take-append_seam}
use Rattle.word_stream.specs.Exchange.{exchange}
use Rattle.word_stream.proofs.laws.exchanges_read_back.Goals as goal

pub returns : goal.returns
returns c = λ table request response rest allowed. record { allowed = allowed; first = take-append_seam (exchange request response) rest; long = refl }
