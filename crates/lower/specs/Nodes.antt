-- A `for` of the code as plain data.
use Rattle.std.specs.Prelude.{ℕ, option_map}
use Rattle.c_types.specs.declared.type_ref.TypeRef.{TypeRef}
use Rattle.c_types.specs.Types.{CType}
use Rattle.c_typed.specs.declared.statement.ForHead.{ForHead}
use Rattle.c_typed.specs.Views.{value_view}
use Rattle.c_typed.specs.StatementViews.{for_start_view}
use Rattle.c_typed.specs.Statements.{Stmt, for}

abbrev pub for_of : (TypeRef → CType) → ℕ → ForHead → Stmt → Stmt
for_of types line head a =
    for line (for_start_view types head.start) (option_map (value_view types) head.test) (option_map (value_view types) head.step) a
