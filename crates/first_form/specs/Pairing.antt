-- Words of the contracts of the parts that make a pair.
use Rattle.std.specs.Prelude.{ℕ, List, [], ◌∷◌, None}
use Rattle.srmt_base.specs.declared.request_kind.RequestKind.{RequestKind}
use Rattle.srmt_base.specs.declared.word.Site.{Site}
use Rattle.mid_code.specs.declared.version.Operands.TheVariants.{One}
use Rattle.mid_code.specs.declared.version.VersionOp.{VersionOp}
use Rattle.mid_code.specs.declared.version.VersionOp.TheVariants.{Ask, Await, Act, Check, Ack}

-- the two sides of an exchange of one register that waits for the trailing side
abbrev pub leading_echo : Site → RequestKind → ℕ → List VersionOp
leading_echo site request source = Ask site (One source) ∷ Await site (One source) ∷ Act site request None None (One source) ∷ []

abbrev pub trailing_echo : Site → ℕ → List VersionOp
trailing_echo site source = Check site source ∷ Ack site (One source) ∷ []
