-- Objects of static storage duration (C11 6.2.4p3) as they are at the start of a run.
use Rattle.std.specs.Prelude.{ℕ, ◌+◌, ◌-◌, List, [], ◌∷◌, ◌++◌, length, replicate, sum_by}
use Rattle.srmt_base.specs.declared.part.Part.{Part}
use Rattle.srmt_base.specs.declared.statics.Static.{Static}
use Rattle.srmt_base.specs.Objects.{Object, Objects}
use Rattle.srmt_base.specs.Memory.{first_number}

-- how many cells they have
abbrev pub static_cells : List Static → ℕ
static_cells statics = sum_by (λ object. object.cells) statics

-- one as it is at the start: its first cells hold its values, and all others 0 (C11 5.1.2p1, 6.7.9p10)
abbrev pub static_object : ℕ → Static → Object
static_object number object =
    record { number = number; cells = object.values ++ replicate (object.cells - length object.values) 0; read_only = object.read_only }

-- they are numbered in their order
abbrev pub static_objects : ℕ → List Static → List Object
static_objects number [] = []
static_objects number (object ∷ objects) = static_object number object ∷ static_objects (number + 1) objects

-- the objects of a part at the start, where so many cells may live
abbrev pub started_objects : Part → List Static → ℕ → Objects
started_objects part statics cells =
    record { budget = cells; fresh = first_number part + length statics; live = static_objects (first_number part) statics }
