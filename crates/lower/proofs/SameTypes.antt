-- Two types of the code are the same where their codes are.
use Rattle.std.proofs.Common.{rules, ◌≡◌, ◌==◌}
use denote.Enum.Bare.{sameb}
use Rattle.srmt_base.specs.contracts.ty.Ty.{the_type}
use Rattle.srmt_base.specs.declared.ty.Ty.{Ty}
use Rattle.srmt_base.specs.Types.{ty_code}

pub same-ty : (a b : Ty) → sameb the_type a b ≡ (ty_code a == ty_code b)
same-ty a b = search rules
