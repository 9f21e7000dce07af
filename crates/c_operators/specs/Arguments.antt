-- Arguments of a call, behind those that are converted already.
use Rattle.std.specs.Prelude.{ℕ, List}
use Rattle.c_types.specs.Types.{CType}
use Rattle.c_typed.specs.declared.value.Value as v
use Rattle.c_typed.specs.Typed.{Values, no_values, first_value}
use Rattle.typing_rules.specs.Terms as terms
use Rattle.typing_rules.specs.Checking.{Checking, ◌>>=◌, pure}
use Rattle.typing_rules.specs.OrderedParts.{passed}
use Rattle.c_values.specs.declared.typed.Written.{Written}
use Rattle.c_values.specs.Answers.{value_for}

-- the value of an operand
abbrev pub value_in : Written → v.Value
value_in x = x.typed.value

-- values behind others
abbrev pub joined : Values → Values → Values
joined no_values more = more
joined (first_value u vs) more = first_value u (joined vs more)

-- one more, converted to the type of its parameter
abbrev pub value_after : ℕ → Values → CType → terms.Written → Checking Values
value_after at vs t w = value_for at t w >>= (λ u. pure (joined vs (first_value u no_values)))

-- all arguments for parameters
abbrev pub passed_after : ℕ → Values → List CType → List terms.Written → Checking Values
passed_after at vs ts ws = passed at ts ws >>= (λ rest. pure (joined vs rest))
