use Rattle.std.proofs.Common.{◌≡◌, ◌+◌, map, drop}
use Rattle.c_types.specs.declared.type_ref.TypeRef.{TypeRef}
use Rattle.c_types.specs.Types.{CType}
use Rattle.c_typed.specs.StatementViews.{static_view}
use Rattle.c_program.specs.Numbers.{by_statics, filled}
use Rattle.c_program.proofs.numbering.number_statics.Given as goal

-- those that are left fill the table as all would
abbrev pub invariant-loop-object : goal.invariant-loop-object
invariant-loop-object l = record {
  number : l.number ≡ l.first + l.object-index;
  filled : (types : TypeRef → CType) → filled (by_statics l.first (map (static_view types) l.statics)) 0 l.fn.table.items
      ≡ filled (by_statics l.number (map (static_view types) (drop l.object-index l.statics))) 0 l.table.items;
}
