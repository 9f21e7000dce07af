-- The exchanges that a table of sites allows, and those with which a row of words begins.
use Rattle.std.specs.Prelude.{◌≡◌, ℕ, zero, suc, ◌^◌, ◌<◌, List, length, take, Option, Some, None, slice_get, All}
use Rattle.srmt_base.specs.declared.request_kind.RequestKind.{RequestKind}
use Rattle.srmt_base.specs.declared.request_kind.RequestKind.TheVariants.{Load as AsksLoad, Store as AsksStore, VLoad as AsksVLoad, VStore as AsksVStore, Put as AsksPut, Get as AsksGet, Exit as AsksExit, Open as AsksOpen, Close as AsksClose, Call as AsksCall, CallbackReturn as AsksReturn}
use Rattle.srmt_base.specs.declared.word.Site.{Site}
use Rattle.word_stream.specs.declared.request.Request.{Request}
use Rattle.word_stream.specs.declared.request.Request.TheVariants.{Put, Exit}
use Rattle.word_stream.specs.declared.request.Response.{Response}
use Rattle.word_stream.specs.declared.table.SiteRow.{SiteRow}
use Rattle.word_stream.specs.declared.table.SiteTable.{SiteTable}
use Rattle.word_stream.specs.Exchange.{request_site, operands_of, exchange}

-- what is asked at a site; the first is 1
abbrev pub row_at : SiteTable → ℕ → Option SiteRow
row_at table zero = None
row_at table (suc before) = slice_get table.sites before

unfoldable pub kind_of : Request → RequestKind
kind_of (Put site value) = AsksPut
kind_of (Exit site value) = AsksExit

-- the request of a kind with this operand; nothing asks the other kinds yet
abbrev pub request_of : RequestKind → Site → ℕ → Option Request
request_of AsksPut site value = Some (Put site value)
request_of AsksExit site value = Some (Exit site value)
request_of AsksLoad site value = None
request_of AsksStore site value = None
request_of AsksVLoad site value = None
request_of AsksVStore site value = None
request_of AsksGet site value = None
request_of AsksOpen site value = None
request_of AsksClose site value = None
request_of AsksCall site value = None
request_of AsksReturn site value = None

-- the request is of the kind of its site, its parts fit a word, and the response is one of its kind
pub record IsOf (table : SiteTable) (request : Request) (response : Response) : Type 0 where
  pub row : SiteRow
  pub found : row_at table (request_site request) ≡ Some row
  pub kind : row.request ≡ kind_of request
  pub site : request_site request < 2 ^ 16
  pub values : All (λ v. v < 2 ^ 44) (operands_of request)

-- the words begin with this exchange, which is so long
pub record Begins (table : SiteTable) (words : List ℕ) (request : Request) (response : Response) (count : ℕ) : Type 0 where
  pub allowed : IsOf table request response
  pub first : take count words ≡ exchange request response
  pub long : count ≡ length (exchange request response)
