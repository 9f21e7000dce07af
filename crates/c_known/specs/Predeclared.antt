-- The end of the scope of what is declared outside of every file: `exit`, `EOF`, `NULL`.
use Rattle.std.specs.Prelude.{[], ◌∷◌}
use Rattle.typing_rules.specs.Known.{Scope, constant, predeclared, the_exit}

abbrev pub constant_scope : Scope
constant_scope = (69 ∷ 79 ∷ 70 ∷ [], constant 4294967295) ∷ (78 ∷ 85 ∷ 76 ∷ 76 ∷ [], constant 0) ∷ []

abbrev pub exit_scope : Scope
exit_scope = (101 ∷ 120 ∷ 105 ∷ 116 ∷ [], predeclared the_exit) ∷ constant_scope
