use Rattle.std.proofs.Common.{◌≡◌, ◌++◌, map, drop}
use Rattle.mid_code.specs.Rules.{same_kind}
use Rattle.mid_code.specs.declared.program.RegisterKind.TheVariants.{Address}
use Rattle.mid_code.proofs.class.addresses.Given as goal

-- the marks so far, and those of what is left, are those of all
abbrev pub invariant-loop-kind : goal.invariant-loop-kind
invariant-loop-kind l = l.marks ++ map (same_kind Address) (drop l.kind-index l.kinds) ≡ map (same_kind Address) l.kinds
