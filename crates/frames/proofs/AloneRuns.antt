-- Steps of one activation by itself are steps of the run.
use Rattle.std.proofs.Common.{◌≡◌, ℕ, ◌+◌, ◌<◌, List, [], length, Option, Some, None, Result, Ok, Err, inl, inr, refl, sym, ap, ap₂, subst, ◌∙◌, arith}
use Rattle.std.specs.Prelude.{IfOk, slice_index, slice_set, slice_index_or, slice_get, option_and_then}
use Rattle.std.proofs.lemmas.Option.{slice_get-get_or}
use Rattle.srmt_base.specs.declared.budgets.Budget.{Budget}
use Rattle.srmt_base.specs.declared.budgets.Budgets.{Budgets}
use Rattle.srmt_base.specs.declared.part.Part.{Part}
use Rattle.srmt_base.specs.declared.part.Part.TheVariants.{Protected, Binary}
use Rattle.srmt_base.specs.declared.trap.Trap.{Trap}
use Rattle.srmt_base.specs.Budgets.{budget_of, with_budget}
use Rattle.srmt_base.specs.Memory.{Memory, read_of, write_of}
use Rattle.mid_code.specs.declared.program.MidProgram.{MidProgram}
use Rattle.mid_code.specs.declared.program.MidLine.{MidLine}
use Rattle.mid_code.specs.declared.mid.Mid.{Mid}
use Rattle.mid_code.specs.declared.mid.Mid.TheVariants.{Const, Move, Arith, Conv, PtrAdd, PtrDiff, PtrCmp, GlobAddr, FunAddr, Load, Store, VLoad, VStore, Open, Close, Jump, JumpZ, JumpN, Turn, Call, CallPtr, Return, Put, Get, Exit}
use Rattle.mid_code.specs.declared.access.Access.{Access}
use Rattle.mid_code.specs.declared.access.Access.TheVariants.{Loads, Stores}
use Rattle.mid_code.specs.declared.program.MidFunction.{MidFunction}
use Rattle.mid_code.specs.Program.{function_at, line_at}
use Rattle.mid_code.specs.Valid.{IsValid}
use Rattle.mid_code.specs.Machine.{Opened, Activation, Local, Machine, Goes, Reaches, part_of_function, local_of, with_local, act, does}
use Rattle.mid_code.specs.Meaning.{State, On, after_read, after_write, reach, step, step_by, Comes}
use Rattle.mid_code.specs.Bounds.{alone_to_go}
use Rattle.mid_code.specs.Fits.{IsValue, IsWithin}
use Rattle.mid_code.proofs.OneMeaning.{comes_on}
use Rattle.mid_code.proofs.InstructionsFit.{Sound, does-at, does_fits}
use Rattle.frames.proofs.Gone.{same_budget}
use Rattle.frames.specs.declared.alone.Stand.{Stand}
use Rattle.frames.specs.Acts.{CanAct}
use Rattle.frames.specs.Alone.{local_at, state_at, GoesBy, HasStepped, Passes, HasPassed, Names, IsWithinCode, IsSetIf, IsWrittenIf}

pub budget_back : (part : Part) (budget : Budget) (budgets : Budgets) → budget_of part (with_budget part budget budgets) ≡ budget
budget_back Protected budget budgets = refl
budget_back Binary budget budgets = refl

pub budget_again : (part : Part) (first second : Budget) (budgets : Budgets) → with_budget part second (with_budget part first budgets) ≡ with_budget part second budgets
budget_again Protected first second budgets = refl
budget_again Binary first second budgets = refl

-- one step by itself
on_alone : (program : MidProgram) (s : State) (before after : List ℕ) (memory : Memory) (from to : Stand) (line : MidLine) →
    line_at program s.machine.top.function from.place ≡ Some line → GoesBy line.mid before from after to →
    step program (state_at program s before memory from) ≡ On (state_at program s after memory to) []
on_alone program s before after memory from to line at goes =
    let m = s.machine in
    let l : Local = local_at (local_of program m) before from in
    let next : Local = local_at (local_of program m) after to in
    let part = part_of_function program m.top.function in
    let same : local_of program (with_local program l m) ≡ l = ap (λ (b : Budget). record { at = l.at; budget = b }) (budget_back part l.budget m.budgets) in
    let does_so : does program (local_of program (with_local program l m)) ≡ Goes next = ap (does program) same ∙ does-at program l line at ∙ goes program line.line (local_of program m) in
    let after_it : with_local program next (with_local program l m) ≡ with_local program next m =
    ap (λ (b : Budgets). record m { top = next.at; budgets = b }) (budget_again part l.budget next.budget m.budgets) in
    ap (λ d. step_by program d (state_at program s before memory from)) does_so
    ∙ ap (λ (x : Machine). On (record s { machine = x; memory = memory }) []) after_it

-- one step by an instruction that wants memory
on_reaching : (program : MidProgram) (s : State) (before : List ℕ) (memory : Memory) (from : Stand) (line : MidLine) (access : Access) →
    line_at program s.machine.top.function from.place ≡ Some line →
    act program line.mid line.line (local_at (local_of program s.machine) before from) ≡ Reaches access line.line →
    step program (state_at program s before memory from) ≡ reach program access line.line (state_at program s before memory from)
on_reaching program s before memory from line access at wants =
    let m = s.machine in
    let l : Local = local_at (local_of program m) before from in
    let part = part_of_function program m.top.function in
    let same : local_of program (with_local program l m) ≡ l = ap (λ (b : Budget). record { at = l.at; budget = b }) (budget_back part l.budget m.budgets) in
    let does_so : does program (local_of program (with_local program l m)) ≡ Reaches access line.line = ap (does program) same ∙ does-at program l line at ∙ wants in
    ap (λ d. step_by program d (state_at program s before memory from)) does_so

-- one step, however it goes on
on_passing : (program : MidProgram) (s : State) (before after : List ℕ) (memory left : Memory) (from to : Stand) (line : MidLine) →
    line_at program s.machine.top.function from.place ≡ Some line → Passes line.mid before memory from after left to →
    step program (state_at program s before memory from) ≡ On (state_at program s after left to) []
on_passing program s before after memory left from to line at (inl p) =
    on_alone program s before after memory from to line at p.0 ∙ ap (λ (x : Memory). On (state_at program s after x to) []) (sym p.1)
on_passing program s before after memory left from to line at (inr (inl p)) =
    let r = p.0 in
    let here = state_at program s before memory from in
    on_reaching program s before memory from line (Loads r.target (slice_index before r.pointer)) at
    (ap (λ mid. act program mid line.line (local_at (local_of program s.machine) before from)) r.is)
    ∙ ap (after_read r.target line.line [] here) r.reads
    ∙ ap (λ (x : List ℕ). On (state_at program s x memory (record from { place = from.place + 1 })) []) (sym r.registers)
    ∙ ap (λ (x : Stand). On (state_at program s after memory x) []) (sym r.passes)
    ∙ ap (λ (x : Memory). On (state_at program s after x to) []) (sym p.1)
on_passing program s before after memory left from to line at (inr (inr p)) =
    let w = p.0 in
    let here = state_at program s before memory from in
    on_reaching program s before memory from line (Stores (slice_index before w.pointer) (slice_index before w.source)) at
    (ap (λ mid. act program mid line.line (local_at (local_of program s.machine) before from)) w.is)
    ∙ ap (after_write line.line [] here) w.writes
    ∙ ap (λ (x : Stand). On (state_at program s before left x) []) (sym w.passes)
    ∙ ap (λ (x : List ℕ). On (state_at program s x left to) []) (sym p.1)

-- and after others
pub comes_alone : (program : MidProgram) (number : ℕ) (first before after : List ℕ) (start from to : Stand) (begun memory left : Memory) (line : MidLine) →
    line_at program number from.place ≡ Some line → Passes line.mid before memory from after left to →
    ((s : State) → s.machine.top.function ≡ number → Comes program (state_at program s first begun start) [] (state_at program s before memory from)) →
    (s : State) → s.machine.top.function ≡ number → Comes program (state_at program s first begun start) [] (state_at program s after left to)
comes_alone program number first before after start from to begun memory left line at passes so_far s is =
    comes_on program (state_at program s first begun start) (state_at program s before memory from) (state_at program s after left to) [] [] (so_far s is)
    (on_passing program s before after memory left from to line (ap (λ f. line_at program f from.place) is ∙ at) passes)

-- an activation of this function
abbrev pub alone_at : ℕ → List Opened → List ℕ → Stand → Local
alone_at number opened registers stand = record {
  at = record { function = number; place = stand.place; registers = registers; opened = opened; into = 0 };
  budget = record { turns = stand.turns; depth = 0 };
}

-- it stays within the program, and comes nearer to its end
pub record IsNearer (program : MidProgram) (l next : Local) : Type 0 where
  pub within : IsWithin program next.at
  pub nears : alone_to_go program next < alone_to_go program l

pub alone_sound : (program : MidProgram) (number : ℕ) (opened : List Opened) (before after : List ℕ) (memory left : Memory) (from to : Stand) (line : MidLine) → IsValid program →
    line_at program number from.place ≡ Some line → Passes line.mid before memory from after left to → IsWithin program (alone_at number opened before from).at →
    IsNearer program (alone_at number opened before from) (alone_at number opened after to)
alone_sound program number opened before after memory left from to line valid at (inl p) w =
    let l = alone_at number opened before from in
    let is : does program l ≡ Goes (alone_at number opened after to) = does-at program l line at ∙ p.0 program line.line l in
    let sound = subst (Sound program l) is (does_fits program l valid w) in
    record { within = sound.0.within; nears = sound.1 }
alone_sound program number opened before after memory left from to line valid at (inr (inl p)) w =
    let r = p.0 in
    let l = alone_at number opened before from in
    let is : does program l ≡ Reaches (Loads r.target (slice_index before r.pointer)) line.line =
    does-at program l line at ∙ ap (λ mid. act program mid line.line l) r.is in
    let sound = subst (Sound program l) is (does_fits program l valid w) in
    let next : IsNearer program l (alone_at number opened (slice_set before r.target r.value) (record from { place = from.place + 1 })) =
    record { within = sound.0.1 r.value r.small; nears = omega (arith, sound.1) } in
    subst (λ (x : Stand). IsNearer program l (alone_at number opened after x)) (sym r.passes)
    (subst (λ (x : List ℕ). IsNearer program l (alone_at number opened x (record from { place = from.place + 1 }))) (sym r.registers) next)
alone_sound program number opened before after memory left from to line valid at (inr (inr p)) w =
    let x = p.0 in
    let l = alone_at number opened before from in
    let is : does program l ≡ Reaches (Stores (slice_index before x.pointer) (slice_index before x.source)) line.line =
    does-at program l line at ∙ ap (λ mid. act program mid line.line l) x.is in
    let sound = subst (Sound program l) is (does_fits program l valid w) in
    let next : IsNearer program l (alone_at number opened before (record from { place = from.place + 1 })) =
    record { within = sound.0.2; nears = omega (arith, sound.1) } in
    subst (λ (y : Stand). IsNearer program l (alone_at number opened after y)) (sym x.passes)
    (subst (λ (y : List ℕ). IsNearer program l (alone_at number opened y (record from { place = from.place + 1 }))) (sym p.1) next)

-- an instruction that needs no memory leaves it as it is
pub passed_alone : (mid : Mid) (before after : List ℕ) (memory : Memory) (from : Stand) (result : Option Stand) →
    HasStepped mid before from after result → HasPassed mid before memory from after memory result
passed_alone mid before after memory from (Some to) goes = inl (goes, refl)
passed_alone mid before after memory from None held = (held.0, refl)

-- a read, and a write
pub passed_read : (target pointer : ℕ) (before after : List ℕ) (memory : Memory) (from : Stand) (outcome : Result ℕ Trap) (result : Option Stand) →
    outcome ≡ read_of memory (slice_index before pointer) → IfOk outcome IsValue → IsSetIf target outcome before from after result →
    HasPassed (Load target pointer) before memory from after memory result
passed_read target pointer before after memory from (Ok value) None reads small set = absurd (cc)
passed_read target pointer before after memory from (Ok value) (Some to) reads small set =
    let stands : to ≡ record from { place = from.place + 1 } = cc in
    inr (inl (
      record {
        target = target;
        pointer = pointer;
        value = value;
        is = refl;
        reads = sym reads;
        small = small;
        registers = set.0;
        passes = stands;
      },
      refl,
    ))
passed_read target pointer before after memory from (Err trap) None reads small set = (set.0, refl)
passed_read target pointer before after memory from (Err trap) (Some to) reads small set = absurd (cc)

pub passed_write : (pointer source : ℕ) (before : List ℕ) (memory left : Memory) (from : Stand) (result : Option Stand) →
    IsWrittenIf (write_of memory (slice_index before pointer) (slice_index before source)) memory from left result →
    HasPassed (Store pointer source) before memory from before left result
passed_write pointer source before memory left from None same = (refl, same)
passed_write pointer source before memory left from (Some to) written =
    inr (inr (record { pointer = pointer; source = source; is = refl; writes = written.0; passes = written.1 }, refl))

-- the registers that an instruction names
pub names_all : (program : MidProgram) (mid : Mid) (a : Activation) → CanAct program mid a → Names mid (length a.registers)
names_all program (Const target value) a can = can.0
names_all program (Move target source) a can = can
names_all program (Arith op ty target left right) a can = can
names_all program (Conv from to target source) a can = can
names_all program (PtrAdd target pointer index ty negated scale) a can = can
names_all program (PtrDiff target left right scale) a can = can
names_all program (PtrCmp op target left right) a can = can
names_all program (GlobAddr target object) a can = can.0
names_all program (FunAddr target function) a can = can
names_all program (Load target pointer) a can = can
names_all program (Store pointer source) a can = can
names_all program (VLoad target pointer) a can = tt
names_all program (VStore pointer source) a can = tt
names_all program (Open target cells) a can = tt
names_all program (Close place) a can = tt
names_all program (Jump place) a can = tt
names_all program (JumpZ source place) a can = can
names_all program (JumpN source place) a can = can
names_all program Turn a can = tt
names_all program (Call target function args) a can = tt
names_all program (CallPtr target callee ty args) a can = tt
names_all program (Return source) a can = tt
names_all program (Put source) a can = tt
names_all program (Get target) a can = tt
names_all program (Exit source) a can = tt

-- the instruction at a place of a function's code
pub line_here : (program : MidProgram) (number place : ℕ) (f : MidFunction) (code : List MidLine) (d : MidLine) → Some f ≡ function_at program number → code ≡ f.code →
    place < length code → line_at program number place ≡ Some (slice_index_or code place d)
line_here program number place f code d found is within =
    ap (λ o. option_and_then (λ g. slice_get g.code place) o) (sym found)
    ∙ ap (λ xs. slice_get xs place) (sym is) ∙ slice_get-get_or code place d within

-- the place of an activation that stands within a function lies in its code
pub place_within : (program : MidProgram) (number place : ℕ) (registers : List ℕ) (f : MidFunction) (code : List MidLine) → Some f ≡ function_at program number →
    code ≡ f.code → IsWithinCode program number place registers → place < length code
place_within program number place registers f code found is within =
    let same : Some within.1.code ≡ Some f = sym within.1.found ∙ sym found in
    let code_is : within.1.code ≡ f = cc in
    subst (λ xs. place < length xs) (sym is) (subst (λ (g : MidFunction). place < length g.code) code_is within.1.place)

-- registers, memory and turns as they are make the same state
pub state_same : (program : MidProgram) (s : State) → (let m = s.machine in
    state_at program s m.top.registers s.memory (record { place = m.top.place; turns = (budget_of (part_of_function program m.top.function) m.budgets).turns })) ≡ s
state_same program s = ap (λ (b : Budgets). record s { machine = record s.machine { budgets = b } }) (same_budget (part_of_function program s.machine.top.function) s.machine.budgets)

-- the run after its newest activation has gone on by itself
pub comes_whole : (program : MidProgram) (s : State) (m : Machine) (memory left_memory : Memory) (registers own : List ℕ) (end : Stand) (part : Part) (left : Budget) (budgets : Budgets) (after : Machine) →
    m ≡ s.machine → memory ≡ s.memory → part ≡ part_of_function program m.top.function → left ≡ budget_of part m.budgets → m.top.registers ≡ registers →
    budgets ≡ with_budget part (record { turns = end.turns; depth = left.depth }) m.budgets →
    after ≡ record m { top = record m.top { place = end.place; registers = own }; budgets = budgets } →
    ((t : State) → t.machine.top.function ≡ m.top.function →
    Comes program (state_at program t registers memory (record { place = m.top.place; turns = left.turns })) [] (state_at program t own left_memory end)) →
    Comes program s [] (record s { machine = after; memory = left_memory })
comes_whole program s m memory left_memory registers own end part left budgets after here cells part_is left_is own_is budgets_is after_is runs =
    let t : State = record s { machine = m; memory = memory } in
    let p = part_of_function program m.top.function in
    let budget : left ≡ budget_of p m.budgets = left_is ∙ ap (λ q. budget_of q m.budgets) part_is in
    let with_own = subst (λ (rs : List ℕ). Comes program (state_at program t rs memory (record { place = m.top.place; turns = left.turns })) [] (state_at program t own left_memory end)) (sym own_is) (runs t refl) in
    let with_turns = subst (λ (b : Budget). Comes program (state_at program t m.top.registers memory (record { place = m.top.place; turns = b.turns })) [] (state_at program t own left_memory end)) budget with_own in
    let from_here = subst (λ (x : State). Comes program x [] (state_at program t own left_memory end)) (state_same program t) with_turns in
    let spent_so : budgets ≡ with_budget p (record { turns = end.turns; depth = (budget_of p m.budgets).depth }) m.budgets =
    budgets_is ∙ ap (λ q. with_budget q (record { turns = end.turns; depth = left.depth }) m.budgets) part_is
    ∙ ap (λ (b : Budget). with_budget p (record { turns = end.turns; depth = b.depth }) m.budgets) budget in
    let machine = ap (λ (b : Budgets). record m { top = record m.top { place = end.place; registers = own }; budgets = b }) (sym spent_so) ∙ sym after_is in
    let to_there : Comes program t [] (record s { machine = after; memory = left_memory }) = subst (λ (x : Machine). Comes program t [] (record s { machine = x; memory = left_memory })) machine from_here in
    let same : t ≡ s = ap₂ (λ (x : Machine) (y : Memory). record s { machine = x; memory = y }) here cells in
    subst (λ (x : State). Comes program x [] (record s { machine = after; memory = left_memory })) same to_there
