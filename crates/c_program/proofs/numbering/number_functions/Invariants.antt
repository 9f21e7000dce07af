use Rattle.std.proofs.Common.{◌≡◌, ◌+◌, map, drop}
use Rattle.c_types.specs.declared.type_ref.TypeRef.{TypeRef}
use Rattle.c_types.specs.Types.{CType}
use Rattle.c_typed.specs.StatementViews.{function_view}
use Rattle.c_program.specs.Numbers.{by_functions, filled}
use Rattle.c_program.proofs.numbering.number_functions.Given as goal

-- those that are left fill the table as all would
abbrev pub invariant-loop-function : goal.invariant-loop-function
invariant-loop-function l = record {
  number : l.number ≡ l.first + l.function-index;
  filled : (types : TypeRef → CType) → filled (by_functions l.first (map (function_view types) l.functions)) 0 l.fn.table.items
      ≡ filled (by_functions l.number (map (function_view types) (drop l.function-index l.functions))) 0 l.table.items;
}
