-- Requests and responses as words. What depends on the kind of request or response stands here, one
-- case for each; all else is built from it.
use Rattle.std.specs.Prelude.{ℕ, Bool, true, List, [], ◌∷◌, ◌++◌, map}
use Rattle.srmt_base.specs.declared.word.Kind.TheVariants.{Check, Ack}
use Rattle.srmt_base.specs.Word.{word_of}
use Rattle.word_stream.specs.declared.request.Request.{Request}
use Rattle.word_stream.specs.declared.request.Request.TheVariants.{Put, Exit}
use Rattle.word_stream.specs.declared.request.Response.{Response}
use Rattle.word_stream.specs.declared.request.Response.TheVariants.{Done}

-- the site that asks
unfoldable pub request_site : Request → ℕ
request_site (Put site value) = site.0
request_site (Exit site value) = site.0

-- the values that the trailing thread compares with its own, in order
unfoldable pub operands_of : Request → List ℕ
operands_of (Put site value) = value ∷ []
operands_of (Exit site value) = value ∷ []

-- whether the request waits until the trailing thread has echoed its operands
unfoldable pub is_guarded : Request → Bool
is_guarded (Put site value) = true
is_guarded (Exit site value) = true

-- what a response adds to the words of its request
unfoldable pub response_words : Request → Response → List ℕ
response_words request Done = []

-- one word to be checked for each operand, and its acknowledgement
abbrev pub check_words : ℕ → List ℕ → List ℕ
check_words site values = map (word_of Check site) values

abbrev pub ack_words : ℕ → List ℕ → List ℕ
ack_words site values = map (word_of Ack site) values

abbrev pub checks_of : Request → List ℕ
checks_of request = check_words (request_site request) (operands_of request)

abbrev pub acks_of : Request → List ℕ
acks_of request = ack_words (request_site request) (operands_of request)

-- all words of a request and its response, in order
abbrev pub exchange : Request → Response → List ℕ
exchange request response = checks_of request ++ response_words request response
