use Rattle.std.proofs.Common.{true}
use Rattle.c_lexer.proofs.Decoding.{decoded_means, means_decoded}
use Rattle.c_lexer.proofs.Sources.{lexes_once, refuses_once, lexes_or_refuses}
use Rattle.c_lexer.proofs.Wholes.{lexes_or_fails}
use Rattle.c_lexer.proofs.law.one_reading.Goals as goal

pub returns-clause-tokens : goal.returns-clause-tokens
returns-clause-tokens c = λ source list other l m. lexes_once true 0 1 source list other l m

pub returns-clause-fault : goal.returns-clause-fault
returns-clause-fault c = λ source fault other l m. refuses_once true 0 source fault other l m

pub returns-clause-apart : goal.returns-clause-apart
returns-clause-apart c = λ source list fault l m. lexes_or_refuses true 0 1 source list fault l m

pub returns-clause-some : goal.returns-clause-some
returns-clause-some c = λ source. lexes_or_fails source

pub returns-clause-decoding : goal.returns-clause-decoding
returns-clause-decoding c = λ body bytes. (decoded_means bytes body, means_decoded bytes body)
