-- An upset: a value that takes the place of another, in one side and just before one of its steps.
use Rattle.std.specs.Prelude.{◌≡◌, ℕ, zero, suc, ◌-◌, Bool, true, false, ◌&&◌, ◌||◌, ◌==◌, map, List, [], ◌∷◌, length, if◌then◌else◌, nat_eq, nat_le, nat_lt, slice_set, slice_get, Option, Some, None}
use Rattle.srmt_base.specs.declared.side.Side.{Side}
use Rattle.srmt_base.specs.declared.side.Side.TheVariants.{Lead, Trail}
use Rattle.std.specs.List.{list_any}
use Rattle.srmt_base.specs.Objects.{Object, object_part, offset_part}
use Rattle.mid_code.specs.Machine.{Activation, Machine, activations}
use Rattle.machine.specs.Side.{SideState, Outcome, Went, Ended}

-- what is replaced
pub data Target : Type 0 where
  -- a register of a live activation, by its depth, which is 1 for `main`
  RegisterAt : (depth register : ℕ) → Target
  -- a cell of an object that is the side's own, by its pointer
  CellAt : (pointer : ℕ) → Target

pub record Upset : Type 0 where
  -- just before which counted step of the side it strikes; the first is 1
  pub step : ℕ
  pub target : Target
  pub value : ℕ

-- the upsets of a run: all strike one side, and those of one step in their order
pub record Upsets : Type 0 where
  pub side : Side
  pub list : List Upset

abbrev pub no_upsets : Upsets
no_upsets = record { side = Lead; list = [] }

abbrev pub IsNone : Upsets → Type 0
IsNone upsets = upsets.list ≡ []

abbrev pub if_alike : List Upset → Side → Side → List Upset
if_alike [] side other = []
if_alike (upset ∷ upsets) Lead Lead = upset ∷ upsets
if_alike (upset ∷ upsets) Trail Trail = upset ∷ upsets
if_alike (upset ∷ upsets) Lead Trail = []
if_alike (upset ∷ upsets) Trail Lead = []

-- those that strike a side
abbrev pub upsets_of : Side → Upsets → List Upset
upsets_of side upsets = if_alike upsets.list upsets.side side

-- how many activations are above the one of a depth, if it lives
abbrev pub above : ℕ → Machine → Option ℕ
above depth m = if nat_le 1 depth && nat_le depth (length (activations m)) then Some (length (activations m) - depth) else None

-- an activation with a value in a register; a register that is not there changes nothing
abbrev pub with_register : ℕ → ℕ → Activation → Activation
with_register register value a = record a { registers = slice_set a.registers register value }

abbrev pub with_register_at : ℕ → ℕ → ℕ → List Activation → List Activation
with_register_at n register value [] = []
with_register_at zero register value (a ∷ rest) = with_register register value a ∷ rest
with_register_at (suc n) register value (a ∷ rest) = a ∷ with_register_at n register value rest

abbrev pub struck_above : Option ℕ → ℕ → ℕ → Machine → Machine
struck_above None register value m = m
struck_above (Some zero) register value m = record m { top = with_register register value m.top }
struck_above (Some (suc n)) register value m = record m { below = with_register_at n register value m.below }

-- a cell of one of the side's own objects with a value
abbrev pub with_cell : ℕ → ℕ → Object → Object
with_cell pointer value object =
    if object.number == object_part pointer then record object { cells = slice_set object.cells (offset_part pointer) value } else object

abbrev pub is_cell : ℕ → Object → Bool
is_cell pointer object = object.number == object_part pointer && nat_lt (offset_part pointer) (length object.cells)

-- the side after a strike; a target that is not there changes nothing
unfoldable pub struck : Target → ℕ → SideState → SideState
struck (RegisterAt depth register) value s = record s { at = record s.at { machine = struck_above (above depth s.at.machine) register value s.at.machine } }
struck (CellAt pointer) value s = record s { at = record s.at { own = record s.at.own { live = map (with_cell pointer value) s.at.own.live } } }

-- whether a target is there
abbrev pub has_register : ℕ → Option Activation → Bool
has_register register None = false
has_register register (Some a) = nat_lt register (length a.registers)

abbrev pub is_there_above : Option ℕ → ℕ → Machine → Bool
is_there_above None register m = false
is_there_above (Some n) register m = has_register register (slice_get (activations m) n)

unfoldable pub is_there : Target → SideState → Bool
is_there (RegisterAt depth register) s = is_there_above (above depth s.at.machine) register s.at.machine
is_there (CellAt pointer) s = list_any (is_cell pointer) s.at.own.live

-- one upset at a step: it strikes where it is due and the side has not ended
abbrev pub struck_if : Bool → Upset → Outcome → Outcome
struck_if true upset (Went s) = Went (struck upset.target upset.value s)
struck_if true upset (Ended end) = Ended end
struck_if false upset at = at

abbrev pub applies_if : Bool → Upset → Outcome → Bool
applies_if true upset (Went s) = is_there upset.target s
applies_if true upset (Ended end) = false
applies_if false upset at = false

-- where a side stands once the upsets of a step have struck, and whether one was applied, now or before
abbrev pub struck_by : List Upset → ℕ → Outcome → Outcome
struck_by [] step at = at
struck_by (upset ∷ upsets) step at = struck_by upsets step (struck_if (nat_eq upset.step step) upset at)

abbrev pub applied_by : List Upset → ℕ → Outcome → Bool → Bool
applied_by [] step at applied = applied
applied_by (upset ∷ upsets) step at applied =
    applied_by upsets step (struck_if (nat_eq upset.step step) upset at) (applied || applies_if (nat_eq upset.step step) upset at)
