-- The arguments of a call, as a list.
use Rattle.std.specs.Prelude.{ℕ, List, take}
use Rattle.srmt_base.specs.declared.args.Args.{Args}

-- the arguments in their order: the first `count` of the values
abbrev pub args_list : Args → List ℕ
args_list args = take args.count args.values
