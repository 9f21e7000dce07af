-- What an instruction does against the budgets is what it counts, and an object begins by an `Open` alone.
use Rattle.std.proofs.Common.{◌≡◌, ◌≢◌, ℕ, zero, suc, ◌-◌, List, [], ◌∷◌, Option, Some, None, Result, Ok, Err, Bool, true, false, refl, sym, ap, ◌∙◌, subst, arith}
use Rattle.std.specs.Prelude.{IfErr, ◌==◌, not, if◌then◌else◌}
use Rattle.std.proofs.lemmas.Bool.{ne_eqb, true≢false}
use Rattle.srmt_base.specs.declared.budgets.Budget.{Budget}
use Rattle.srmt_base.specs.declared.part.Part.{Part}
use Rattle.srmt_base.specs.declared.trap.Trap.{Trap}
use Rattle.srmt_base.specs.declared.trap.Trap.TheVariants.{NullPointer, NotAFunction, Turns, Store as StoreTrap}
use Rattle.srmt_base.specs.Arith.{arith_of}
use Rattle.srmt_base.specs.Budgets.{after_turn}
use Rattle.srmt_base.specs.Pointer.{pointer_sum_of, pointer_difference_of, pointer_comparison_of}
use Rattle.srmt_base.specs.Trap.{is_budget}
use Rattle.mid_code.specs.declared.program.MidFunction.{MidFunction}
use Rattle.mid_code.specs.declared.program.MidLine.{MidLine}
use Rattle.mid_code.specs.declared.program.MidProgram.{MidProgram}
use Rattle.mid_code.specs.declared.mid.Mid.{Mid}
use Rattle.mid_code.specs.declared.mid.Mid.TheVariants.{Const, Move, Arith, Conv, PtrAdd, PtrDiff, PtrCmp, GlobAddr, FunAddr, Load, Store, VLoad, VStore, Open, Close, Jump, JumpZ, JumpN, Turn, Call, CallPtr, Return, Put, Get, Exit}
use Rattle.mid_code.specs.declared.access.Access.TheVariants.{Closes, Opens}
use Rattle.mid_code.specs.Program.{function_at, line_at}
use Rattle.mid_code.specs.Machine.{Opened, Local, Does, Goes, Calls, Leaves, Traps, Reaches, Lost, register, arguments, goes, gives, moved_if, counts, part_of_function, is_callee, calls_value, closes, act, act_at, does}
use Rattle.mid_code.specs.Counting.{Counting, Uncounted, OneTurn, OneActivation, entry_of, counting_of, counting_at}
use Rattle.mid_code.proofs.OtherTraps.{IsOther, arith_other, sum_other, difference_other, comparison_other}

-- an instruction that counts nothing
abbrev pub Quiet : MidProgram → Local → Does → Type 0
Quiet program l (Goes next) = (next.budget ≡ l.budget) × (l.at.function ≡ next.at.function)
Quiet program l (Calls function args target) = function_at program function ≡ None
Quiet program l (Leaves value) = Unit {0}
Quiet program l (Traps trap line) = IsOther trap
Quiet program l (Reaches access line) = Unit {0}
Quiet program l Lost = Unit {0}

-- a call of a function that is there, of a part and with this line
pub record CallsOne (program : MidProgram) (part : Part) (line : ℕ) (d : Does) : Type 0 where
  pub function : ℕ
  pub args : List ℕ
  pub target : ℕ
  pub code : MidFunction
  pub found : function_at program function ≡ Some code
  pub does_call : d ≡ Calls function args target
  pub line_is : code.line ≡ line
  pub part_is : part_of_function program function ≡ part

-- what an activation does is what its instruction counts
abbrev pub Counted : MidProgram → Local → Counting → Does → Type 0
Counted program l Uncounted d = Quiet program l d
Counted program l (OneTurn part line) d = (part_of_function program l.at.function ≡ part) × (d ≡ counts line l (after_turn l.budget))
Counted program l (OneActivation part line) d = CallsOne program part line d

-- only an `Open` begins an object, and nothing inside the machine traps by the budget of cells
abbrev pub OpensBy : Mid → ℕ → Does → Type 0
OpensBy mid line (Goes next) = Unit {0}
OpensBy mid line (Calls function args target) = Unit {0}
OpensBy mid line (Leaves value) = Unit {0}
OpensBy mid line (Traps trap at) = trap ≢ StoreTrap
OpensBy mid line (Reaches (Opens target cells) at) = (mid ≡ Open target cells) × (line ≡ at)
OpensBy mid line (Reaches _ at) = Unit {0}
OpensBy mid line Lost = Unit {0}

pub not_store : (trap : Trap) → IsOther trap → trap ≢ StoreTrap
not_store trap h e = true≢false (sym (ap is_budget e) ∙ h)

module _ (program : MidProgram) (l : Local) (line : ℕ) where
  -- both, of an instruction that counts nothing
  abbrev IsQuiet : Mid → Does → Type 0
  IsQuiet mid d = Quiet program l d × OpensBy mid line d

  gives_quiet : (mid : Mid) (target : ℕ) (r : Result ℕ Trap) → IfErr r IsOther → IsQuiet mid (gives target line l r)
  gives_quiet mid target (Ok value) h = ((refl, refl), tt)
  gives_quiet mid target (Err trap) h = (h, not_store trap h)

  moved_quiet : (mid : Mid) (b : Bool) (place : ℕ) → IsQuiet mid (goes l (moved_if b place l.at))
  moved_quiet mid true place = ((refl, refl), tt)
  moved_quiet mid false place = ((refl, refl), tt)

  closes_quiet : (place : ℕ) (opened : List Opened) → IsQuiet (Close place) (closes place line opened)
  closes_quiet place [] = (tt, tt)
  closes_quiet place (newest ∷ older) =
      elim (newest.place == place) as (λ b. IsQuiet (Close place) (if b then Reaches (Closes newest.number) line else Lost)) [ true ↦ (tt, tt) | false ↦ (tt, tt) ]

  turn_opens : (r : Result Budget Trap) → IfErr r (λ trap. trap ≢ StoreTrap) → OpensBy Turn line (counts line l r)
  turn_opens (Ok budget) h = tt
  turn_opens (Err trap) h = h

  turn_other : (used : Bool) (budget : Budget) → IfErr (if used then Err Turns else Ok budget) (λ trap. trap ≢ StoreTrap)
  turn_other true budget = λ e. cc
  turn_other false budget = tt

  calls_counted : (function : ℕ) (f : Option MidFunction) (args : List ℕ) (target : ℕ) → function_at program function ≡ f →
      Counted program l (entry_of program function f) (Calls function args target)
  calls_counted function None args target is = is
  calls_counted function (Some f) args target is =
      record { function = function; args = args; target = target; code = f; found = is; does_call = refl; line_is = refl; part_is = refl }

  -- a value that is 0 is no function
  value_counted : (mid : Mid) (ty value : ℕ) (args : List ℕ) (target : ℕ) →
      Counted program l (if is_callee program ty value then entry_of program value (function_at program value) else Uncounted) (calls_value program ty value args target line)
      × OpensBy mid line (calls_value program ty value args target line)
  value_counted mid ty zero args target = (refl, λ e. cc)
  value_counted mid ty (suc n) args target =
      let some : (suc n == 0) ≡ false = ne_eqb (suc n) 0 (λ e. omega (arith, e)) in
      let asked : Counting = if is_callee program ty (suc n) then entry_of program (suc n) (function_at program (suc n)) else Uncounted in
      let called : Does = if is_callee program ty (suc n) then Calls (suc n) args target else Traps NotAFunction line in
      subst (λ b. Counted program l asked (if b then Traps NullPointer line else called) × OpensBy mid line (if b then Traps NullPointer line else called)) (sym some)
      (by_type (is_callee program ty (suc n)))
    where
      by_type : (b : Bool) →
          Counted program l (if b then entry_of program (suc n) (function_at program (suc n)) else Uncounted) (if b then Calls (suc n) args target else Traps NotAFunction line)
          × OpensBy mid line (if b then Calls (suc n) args target else Traps NotAFunction line)
      by_type true = (calls_counted (suc n) (function_at program (suc n)) args target refl, tt)
      by_type false = (refl, λ e. cc)

  -- one case for each instruction
  act_counted : (mid : Mid) → Counted program l (counting_of program mid line l.at) (act program mid line l) × OpensBy mid line (act program mid line l)
  act_counted (Const target value) = ((refl, refl), tt)
  act_counted (Move target source) = ((refl, refl), tt)
  act_counted (Arith op ty target left right) =
      let a = register l.at left in
      let b = register l.at right in
      gives_quiet (Arith op ty target left right) target (arith_of op ty a b) (arith_other op ty a b)
  act_counted (Conv from to target source) = ((refl, refl), tt)
  act_counted (PtrAdd target pointer index ty negated scale) =
      let a = register l.at pointer in
      let b = register l.at index in
      gives_quiet (PtrAdd target pointer index ty negated scale) target (pointer_sum_of a ty b negated scale) (sum_other a ty b negated scale)
  act_counted (PtrDiff target left right scale) =
      let a = register l.at left in
      let b = register l.at right in
      gives_quiet (PtrDiff target left right scale) target (pointer_difference_of a b scale) (difference_other a b scale)
  act_counted (PtrCmp op target left right) =
      let a = register l.at left in
      let b = register l.at right in
      gives_quiet (PtrCmp op target left right) target (pointer_comparison_of op a b) (comparison_other op a b)
  act_counted (GlobAddr target object) = ((refl, refl), tt)
  act_counted (FunAddr target function) = ((refl, refl), tt)
  act_counted (Load target pointer) = (tt, tt)
  act_counted (Store pointer source) = (tt, tt)
  act_counted (VLoad target pointer) = (tt, tt)
  act_counted (VStore pointer source) = (tt, tt)
  act_counted (Open target cells) = (tt, (refl, refl))
  act_counted (Close place) = closes_quiet place l.at.opened
  act_counted (Jump place) = ((refl, refl), tt)
  act_counted (JumpZ source place) = moved_quiet (JumpZ source place) (register l.at source == 0) place
  act_counted (JumpN source place) = moved_quiet (JumpN source place) (not (register l.at source == 0)) place
  act_counted Turn = ((refl, refl), turn_opens (after_turn l.budget) (turn_other (l.budget.turns == 0) (record l.budget { turns = l.budget.turns - 1 })))
  act_counted (Call target function args) = (calls_counted function (function_at program function) (arguments l.at args) target refl, tt)
  act_counted (CallPtr target callee ty args) = value_counted (CallPtr target callee ty args) ty (register l.at callee) (arguments l.at args) target
  act_counted (Return source) = (tt, tt)
  act_counted (Put source) = (tt, tt)
  act_counted (Get target) = (tt, tt)
  act_counted (Exit source) = (tt, tt)

act_at_counted : (program : MidProgram) (l : Local) (line : Option MidLine) → Counted program l (counting_at program line l.at) (act_at program line l)
act_at_counted program l None = tt
act_at_counted program l (Some line) = (act_counted program l line.line line.mid).0

pub does_counted : (program : MidProgram) (l : Local) → Counted program l (counting_at program (line_at program l.at.function l.at.place) l.at) (does program l)
unfolding does
does_counted program l = act_at_counted program l (line_at program l.at.function l.at.place)

pub act_opens : (program : MidProgram) (l : Local) (line : ℕ) (mid : Mid) → OpensBy mid line (act program mid line l)
act_opens program l line mid = (act_counted program l line mid).1
