-- What is still to be done where a value's operands are on the stack: the assignments and the calls.
use Rattle.std.specs.Prelude.{ℕ, ◌%◌, true, if◌then◌else◌, ◌∷◌, drop}
use Rattle.srmt_base.specs.declared.event.Event.TheVariants.{Byte}
use Rattle.srmt_base.specs.Arith.{arith_of}
use Rattle.srmt_base.specs.Convert.{convert_of}
use Rattle.c_types.specs.Types.{CType, ty_of}
use Rattle.c_typed.specs.declared.program.TypedProgram.{TypedProgram}
use Rattle.c_typed.specs.declared.value.IntegerChange.{IntegerChange}
use Rattle.c_typed.specs.declared.value.PointerChange.{PointerChange}
use Rattle.c_typed.specs.StatementViews.{program_view}
use Rattle.c_typed.specs.Typed.{Place, place_type}
use Rattle.source_meaning.specs.World.{Doing, ◌>>=◌, ◌>>◌, computed, happens}
use Rattle.source_meaning.specs.Places.{value_of_entity, store}
use Rattle.source_meaning.specs.Expressions.{moved, call_of_value}
use Rattle.source_meaning.specs.Statements.{normal}
use Rattle.source_meaning.specs.Calls.{calls}
use Rattle.c_meaning.specs.declared.run.Run.{Run}
use Rattle.c_meaning.specs.declared.setting.At.{At}
use Rattle.c_meaning.specs.Pending.{top_of, below, last_values, located, setting_at}
use Rattle.c_meaning.specs.TaskViews.{current_view}
use Rattle.c_meaning.specs.Runs.{types_of, setting_of, going}

-- a place takes a value, and another goes onto the stack
abbrev pub stored : At → Place → (address value result : ℕ) → Run → ℕ → Doing ⊥
stored at p address value result run bound =
    store (located (setting_of bound at) p address) value >> going at.program.now bound run (result ∷ run.values) normal

abbrev pub assigned : At → Place → Run → ℕ → Doing ⊥
assigned at p run bound =
    let vs = run.values in
    store (located (setting_of bound at) p (top_of (below vs))) (top_of vs)
    >> going at.program.now bound run (top_of vs ∷ below (below vs)) normal

abbrev pub updated : At → IntegerChange → Place → Run → ℕ → Doing ⊥
updated at c p run bound =
    let vs = run.values in
    let old = top_of (below vs) in
    let ty = ty_of (place_type p).type in
    computed c.at (arith_of c.op c.ty (convert_of ty c.ty old) (top_of vs)) >>= (λ result.
    let new = convert_of c.ty ty result in
    store (located (setting_of bound at) p (top_of (below (below vs)))) new
    >> going at.program.now bound run ((if c.is_after then old else new) ∷ below (below (below vs))) normal)

abbrev pub pointer_moved : At → PointerChange → Place → CType → Run → ℕ → Doing ⊥
pointer_moved at c p by run bound =
    let vs = run.values in
    let old = top_of (below vs) in
    moved c.at c.is_less true (place_type p).type by old (top_of vs) >>= (λ new.
    store (located (setting_of bound at) p (top_of (below (below vs)))) new
    >> going at.program.now bound run ((if c.is_after then old else new) ∷ below (below (below vs))) normal)

abbrev pub put : TypedProgram → Run → ℕ → Doing ⊥
put p run bound =
    happens (Byte (top_of run.values % 256)) >> going p bound run (top_of run.values % 256 ∷ below run.values) normal

-- a call of a function by its number, with so many arguments from the stack
abbrev pub called : TypedProgram → (line entity count : ℕ) → Run → ℕ → Doing ⊥
called p line entity count run bound =
    calls (program_view p) bound line (value_of_entity (program_view p) entity) (last_values count run.values)
    >>= (λ v. going p bound run (v ∷ drop count run.values) normal)

abbrev pub called_through : TypedProgram → (line count : ℕ) → Run → ℕ → Doing ⊥
called_through p line count run bound =
    let rest = drop count run.values in
    call_of_value (setting_at (program_view p) bound (current_view (types_of p) run.current)) line (top_of rest) (last_values count run.values)
    >>= (λ v. going p bound run (v ∷ below rest) normal)
