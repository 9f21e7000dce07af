-- How a run begins, and what a program means.
use Rattle.std.specs.Prelude.{ℕ, ◌+◌, Bool, true, false, ◌||◌, List, [], ◌∷◌, ◌++◌, length, map, replicate, slice_set}
use Rattle.srmt_base.specs.declared.event.Event.{Event}
use Rattle.srmt_base.specs.declared.limits.Limits.{Limits}
use Rattle.srmt_base.specs.declared.part.Part.{Part}
use Rattle.srmt_base.specs.declared.part.Part.TheVariants.{Protected, Binary}
use Rattle.srmt_base.specs.declared.statics.Static.{Static as StartingObject}
use Rattle.srmt_base.specs.declared.trap.SourceEnd.{SourceEnd}
use Rattle.srmt_base.specs.declared.ty.Ty.TheVariants.{Char, UChar}
use Rattle.srmt_base.specs.Budgets.{full_budgets}
use Rattle.srmt_base.specs.Convert.{convert_of}
use Rattle.srmt_base.specs.Statics.{started_objects}
use Rattle.c_types.specs.Types.{CType, array, cells_of}
use Rattle.c_typed.specs.declared.program.Start.{Start}
use Rattle.c_typed.specs.declared.program.Start.TheVariants as start
use Rattle.c_typed.specs.declared.program.StartCell.{StartCell}
use Rattle.c_typed.specs.declared.program.TextObject.{TextObject}
use Rattle.c_typed.specs.Statements.{Program, Static}
use Rattle.source_meaning.specs.World.{World, Outcome, Gives, Ends, Doing, ◌>>=◌, exits}
use Rattle.source_meaning.specs.Places.{value_of_entity, file_of, address_of_text}
use Rattle.source_meaning.specs.Calls.{calls}

-- what a cell starts with
abbrev pub start_value : Program → Part → Start → ℕ
start_value program part (start.Number n) = n
start_value program part (start.Object entity offset) = value_of_entity program entity + offset
start_value program part (start.Text n offset) = address_of_text part program n + offset
start_value program part (start.Function entity) = value_of_entity program entity

-- cells with those that are given
abbrev pub with_given : Program → Part → List StartCell → List ℕ → List ℕ
with_given program part [] cells = cells
with_given program part (c ∷ rest) cells = with_given program part rest (slice_set cells c.index (start_value program part c.start))

-- whether the elements of an array are `const` (C11 6.7.3p9)
abbrev pub has_const_elements : CType → Bool
has_const_elements (array q t length) = q.is_const || has_const_elements t
has_const_elements other = false

-- a static object, which may only be read where it is `const` (C11 6.7.3p6)
abbrev pub object_of_static : Program → Part → Static → StartingObject
object_of_static program part s =
    record {
      cells = cells_of s.type.type;
      read_only = s.type.qualifiers.is_const || has_const_elements s.type.type;
      values = with_given program part s.cells (replicate (cells_of s.type.type) 0);
    }

-- a string literal: its bytes as `char`, and a final 0 (C11 6.4.5p6, p7)
abbrev pub object_of_text : TextObject → StartingObject
object_of_text t = record { cells = length t.bytes + 1; read_only = true; values = map (convert_of UChar Char) t.bytes }

-- those of a part, in the order of their numbers
abbrev pub objects_at_start : Program → Part → List StartingObject
objects_at_start program part =
    map (object_of_static program part) (file_of part program).statics ++ map object_of_text (file_of part program).texts

abbrev pub started : Program → List ℕ → Limits → World
started program input limits =
    record {
      memory =
          record {
            protected = started_objects Protected (objects_at_start program Protected) limits.cells;
            binary = started_objects Binary (objects_at_start program Binary) limits.cells;
          };
      budgets = full_budgets limits;
      input = input;
      events = [];
      locals = [];
    }

-- what a program does that can be seen (C11 5.1.2.3p6): its events in order, and its end
pub record Behaviour : Type 0 where
  pub events : List Event
  pub end : SourceEnd

abbrev pub behaviour_of : Outcome ⊥ → Behaviour
behaviour_of (Gives nothing w) = absurd nothing
behaviour_of (Ends end events) = record { events = events; end = end }

-- `main` is called, and leaving it is a call of `exit` (C11 5.1.2.2.1, 5.1.2.2.3)
abbrev pub runs_main : Program → Limits → Doing ⊥
runs_main program limits = calls program (limits.turns + limits.turns) 0 (value_of_entity program program.main) [] >>= exits

unfoldable pub means : Program → List ℕ → Limits → Behaviour
means program input limits = behaviour_of (runs_main program limits (started program input limits))
