-- What meanings, locals and the like of the code stand for, in a table of types and in all that have more.
use Rattle.std.specs.Prelude.{◌≡◌, List, map, Option}
use Rattle.std.specs.declared.vec.Vec.{Vec}
use Rattle.std.specs.declared.alloc.Global.{Global}
use Rattle.c_types.specs.declared.type_ref.Row.{Row}
use Rattle.c_types.specs.Table.{type_at, Extends}
use Rattle.c_typed.specs.declared.program.LocalRow.{LocalRow}
use Rattle.c_typed.specs.StatementViews.{row_view}
use Rattle.typing_rules.specs.Known as known
use Rattle.typing_rules.specs.UnitRules.{row_of}
use Rattle.c_entities.specs.declared.entity.Linked.{Linked}
use Rattle.c_entities.specs.Views.{linked_view}
use Rattle.c_known.specs.declared.local.Meaning.{Meaning}
use Rattle.c_known.specs.declared.local.Local.{Local}
use Rattle.c_known.specs.Views.{meaning_view, local_view}
use Rattle.c_known.specs.Refusals.{IsGiven}

pub record MeansMeaning (rows : List Row) (x : Meaning) (m : known.Meaning) : Type 0 where
  pub always : (later : List Row) → Extends rows later → meaning_view (type_at later) x ≡ m

abbrev pub MeansMeaningIf : List Row → Option Meaning → Option known.Meaning → Type 0
MeansMeaningIf = IsGiven MeansMeaning

pub record MeansLocal (rows : List Row) (x : Local) (l : known.Local) : Type 0 where
  pub always : (later : List Row) → Extends rows later → local_view (type_at later) x ≡ l

pub record MeanLocals (rows : List Row) (xs : List Local) (ls : List known.Local) : Type 0 where
  pub always : (later : List Row) → Extends rows later → map (local_view (type_at later)) xs ≡ ls

pub record MeansLinked (rows : List Row) (x : Linked) (l : known.Linked) : Type 0 where
  pub always : (later : List Row) → Extends rows later → linked_view (type_at later) x ≡ l

abbrev pub MeansLinkedIf : List Row → Option Linked → Option known.Linked → Type 0
MeansLinkedIf = IsGiven MeansLinked

-- the rows of a function's locals
pub record AreRows (rows : List Row) (xs : List LocalRow) (ls : List known.Local) : Type 0 where
  pub always : (later : List Row) → Extends rows later → map (row_view (type_at later)) xs ≡ map row_of ls

abbrev pub MeanVec : List Row → Vec Local Global → List known.Local → Type 0
MeanVec rows xs ls = MeanLocals rows xs.items ls
