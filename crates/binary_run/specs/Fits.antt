-- What every state of the binary functions is like.
--
-- A stub is no activation within the program, since it has one register and not those of its function. So the stack is
-- told by parts: a function of the main file stands as a stub, and a binary one within the program.
use Rattle.std.specs.Prelude.{◌≡◌, ℕ, ◌<◌, ◌≤◌, List, [], ◌∷◌, length, Option, Some, All, slice_get}
use Rattle.srmt_base.specs.declared.part.Part.{Part}
use Rattle.srmt_base.specs.declared.part.Part.TheVariants.{Protected, Binary}
use Rattle.srmt_base.specs.declared.event.Event.{Event}
use Rattle.srmt_base.specs.Args.{args_list}
use Rattle.srmt_base.specs.Objects.{Objects}
use Rattle.srmt_outside.specs.Told.{Appends}
use Rattle.mid_code.specs.declared.program.MidProgram.{MidProgram}
use Rattle.mid_code.specs.declared.program.FunType.{FunType}
use Rattle.mid_code.specs.declared.program.MidFunction.{MidFunction}
use Rattle.mid_code.specs.Program.{function_at}
use Rattle.mid_code.specs.Machine.{Activation, Machine, activations, part_of_function, live_of}
use Rattle.mid_code.specs.Fits.{IsValue, IsWithin, IsLeft, IsPart, open_count}
use Rattle.frames.specs.Kept.{TakesResult}
use Rattle.binary_run.specs.declared.binary.BinaryStep.{BinaryStep}
use Rattle.binary_run.specs.declared.binary.BinaryStep.TheVariants as code
use Rattle.binary_run.specs.Binary.{Next, Rests, Enters, Runs, Stopped, BinaryState, Answer, Went, Returned, Calls, Ended, After}

-- a stub: a register, and no object
pub record IsStub (a : Activation) : Type 0 where
  pub register : length a.registers ≡ 1
  pub opened : a.opened ≡ []

-- an activation of a function of a part
abbrev pub IsPlaced : Part → MidProgram → Activation → Type 0
IsPlaced Protected program a = IsStub a
IsPlaced Binary program a = IsWithin program a

-- no stub stands directly upon another
abbrev pub MayStand : Part → Part → Type 0
MayStand Protected Protected = ⊥
MayStand Protected Binary = Unit {0}
MayStand Binary Protected = Unit {0}
MayStand Binary Binary = Unit {0}

-- what stands below an activation: each has the register that takes the result of the one above it. The last is `main`
abbrev pub AreBelow : MidProgram → Activation → List Activation → Type 0
AreBelow program above [] = above.function ≡ program.main
AreBelow program above (caller ∷ rest) =
    (above.into < length caller.registers)
    × MayStand (part_of_function program above.function) (part_of_function program caller.function)
    × IsPlaced (part_of_function program caller.function) program caller
    × AreBelow program caller rest

-- the machine stands within its program
pub record IsBinaryMachine (program : MidProgram) (m : Machine) : Type 0 where
  pub top : IsPlaced (part_of_function program m.top.function) program m.top
  pub below : AreBelow program m.top m.below
  pub left : IsLeft program Binary (activations m) m.budgets
  pub uncounted : m.budgets.protected ≡ record { turns = 0; depth = 0 }

-- a binary function may be entered with these arguments: they are as many as its type has parameters, each of 44 bits
pub record MayEnter (program : MidProgram) (number : ℕ) (args : List ℕ) : Type 0 where
  pub binary : part_of_function program number ≡ Binary
  pub function : MidFunction
  pub found : function_at program number ≡ Some function
  pub type : FunType
  pub typed : slice_get program.types function.ty ≡ Some type
  pub count : length args ≡ length type.params
  pub each : All IsValue args

-- a stub is the newest activation where it rests, and a binary function where that runs
abbrev pub FitsNext : MidProgram → Activation → Next → Type 0
FitsNext program top Rests = part_of_function program top.function ≡ Protected
FitsNext program top (Enters function args) = (part_of_function program top.function ≡ Protected) × MayEnter program function args
FitsNext program top Runs = part_of_function program top.function ≡ Binary
FitsNext program top Stopped = Unit {0}

-- the state stands within the program
pub record FitsBinary (program : MidProgram) (b : BinaryState) : Type 0 where
  pub machine : IsBinaryMachine program b.machine
  pub objects : IsPart Binary b.objects
  pub opened : open_count (activations b.machine) ≤ length b.objects.live
  -- below each function that was entered stands the stub of the one that entered it
  pub entered : b.entered ≡ live_of program Protected b.machine.below
  pub next : FitsNext program b.machine.top b.next

-- a step is due
abbrev pub IsDue : Next → Type 0
IsDue Rests = ⊥
IsDue (Enters function args) = Unit {0}
IsDue Runs = Unit {0}
IsDue Stopped = ⊥

-- the code's answer
abbrev pub said : BinaryStep → Answer
said code.Went = Went
said (code.Returned value) = Returned value
said (code.Calls function args) = Calls function (args_list args)
said (code.Ended end) = Ended end

-- a step has come to these, with this answer of the code, and its events are told
abbrev pub ComesTo : Option After → BinaryState → Objects → List ℕ → BinaryStep → Option (List Event) → Option (List Event) → Type 0
ComesTo step state shared input answer before after =
    (events : List Event)
    × (step ≡ Some (record { state = state; shared = shared; input = input; events = events; answer = said answer }))
    × Appends before after events

-- what a step does to the machine alone has come to this, whatever is outside
abbrev pub LeavesOutside : (Objects → List ℕ → Option After) → BinaryState → BinaryStep → Type 0
LeavesOutside step state answer =
    (shared : Objects) (input : List ℕ) →
    step shared input ≡ Some (record { state = state; shared = shared; input = input; events = []; answer = said answer })

-- what it answers holds numbers of 44 bits
abbrev pub AreSmall : BinaryStep → Type 0
AreSmall code.Went = Unit {0}
AreSmall (code.Returned value) = IsValue value
AreSmall (code.Calls function args) = All IsValue (args_list args)
AreSmall (code.Ended end) = Unit {0}

-- what comes next, by what a step has answered: where a function is called, one below it waits
abbrev pub IsFollowed : BinaryStep → BinaryState → Type 0
IsFollowed code.Went b = b.next ≡ Runs
IsFollowed (code.Returned value) b = b.next ≡ Rests
IsFollowed (code.Calls function args) b = (b.next ≡ Rests) × TakesResult b.machine.top.into b.machine.below
IsFollowed (code.Ended end) b = b.next ≡ Stopped
