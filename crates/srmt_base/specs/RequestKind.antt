-- Codes of requests.
use Rattle.std.specs.Prelude.{ℕ}
use Rattle.srmt_base.specs.declared.request_kind.RequestKind.{RequestKind}
use Rattle.srmt_base.specs.declared.request_kind.RequestKind.TheVariants.{Load, Store, VLoad, VStore, Put, Get, Exit, Open, Close, Call, CallbackReturn}

-- the code of a kind of request, 1 to 11
abbrev pub request_code : RequestKind → ℕ
request_code Load = 1
request_code Store = 2
request_code VLoad = 3
request_code VStore = 4
request_code Put = 5
request_code Get = 6
request_code Exit = 7
request_code Open = 8
request_code Close = 9
request_code Call = 10
request_code CallbackReturn = 11
