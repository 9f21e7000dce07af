-- What an instruction of a valid program does keeps its activation within the program, and brings it nearer to a turn.
use Rattle.std.proofs.Common.{◌≡◌, ◌≢◌, ℕ, ◌+◌, ◌-◌, ◌<◌, ◌≤◌, ◌^◌, ◌⊎◌, List, [], ◌∷◌, length, Option, Some, None, Result, Ok, Err, Bool, true, false, inl, inr, refl, sym, ap, ◌∙◌, subst, arith}
use Rattle.std.specs.Prelude.{All, IfOk, not, ◌==◌, if◌then◌else◌, map, drop, slice_set, slice_get, option_and_then}
use Rattle.std.proofs.lemmas.Bool.{cases_lt, and_parts, not-false, not-true, eqb-true, eqb-false, both_ways}
use Rattle.std.proofs.lemmas.List.{length-set, length-map}
use Rattle.std.proofs.lemmas.List.Elements.{All-set}
use Rattle.srmt_base.specs.declared.trap.Trap.{Trap}
use Rattle.srmt_base.specs.declared.trap.Trap.TheVariants.{NullPointer, NotAFunction, Turns}
use Rattle.srmt_base.specs.Arith.{arith_of}
use Rattle.srmt_base.specs.Convert.{convert_of}
use Rattle.srmt_base.specs.Pointer.{pointer_sum_of, pointer_difference_of, pointer_comparison_of}
use Rattle.srmt_base.specs.Objects.{pointer_to}
use Rattle.srmt_base.proofs.Ranges.{arith_of-lt, convert_of-lt, pointer_sum_of-lt, pointer_difference_of-lt, pointer_comparison_of-lt}
use Rattle.mid_code.specs.declared.program.MidFunction.{MidFunction}
use Rattle.mid_code.specs.declared.program.MidLine.{MidLine}
use Rattle.mid_code.specs.declared.program.MidProgram.{MidProgram}
use Rattle.mid_code.specs.declared.registers.Registers.{Registers}
use Rattle.mid_code.specs.declared.mid.Mid.{Mid}
use Rattle.mid_code.specs.declared.mid.Mid.TheVariants.{Const, Move, Arith, Conv, PtrAdd, PtrDiff, PtrCmp, GlobAddr, FunAddr, Load, Store, VLoad, VStore, Open, Close, Jump, JumpZ, JumpN, Turn, Call, CallPtr, Return, Put, Get, Exit}
use Rattle.mid_code.specs.declared.access.Access.TheVariants.{Opens, Closes}
use Rattle.mid_code.specs.Registers.{registers_list}
use Rattle.mid_code.specs.Program.{function_at, line_at}
use Rattle.mid_code.specs.Ways.{Way, Next, Branches, way_of, is_final_way, is_final, is_counting}
use Rattle.mid_code.specs.Flow.{way_goes, way_opened, found_at, goes_to, open_behind}
use Rattle.mid_code.specs.Rules.{is_turn, misfits_type, type_of, misreturns}
use Rattle.mid_code.specs.WellFormed.{IsTarget}
use Rattle.mid_code.specs.Valid.{IsValid}
use Rattle.mid_code.specs.Machine.{Opened, Activation, Local, Does, Goes, Calls, Leaves, Traps, Reaches, Lost, register, arguments, moved_to, passed, given, goes, gives, moved_if, counts, is_of_type, is_callee, calls_value, closes, act, act_at, does}
use Rattle.mid_code.specs.Bounds.{to_turn_in, to_turn, Nears}
use Rattle.mid_code.specs.Fits.{IsValue, IsWithin}
pub use Rattle.mid_code.proofs.AccessShapes.{AccessFits}
use Rattle.mid_code.proofs.Keeping.{KeepsRules, neither, keeps}
use Rattle.mid_code.proofs.Values.{one_within, read_small, reads_small, wider}
use Rattle.mid_code.proofs.MachineFits.{GoesOn, CallFits}
use Rattle.mid_code.proofs.Flowing.{in_order, first_entered, second_entered, followed}
use Rattle.mid_code.proofs.Naming.{not_zero, static_small, callable_small, callee_of, function_kept, args_room}

-- a call finds its function, and its caller waits within the program, with the register for the result
pub record Waits (program : MidProgram) (a : Activation) (function : ℕ) (args : List ℕ) (target : ℕ) : Type 0 where
  pub call : CallFits program function args
  pub behind : IsWithin program (passed a)
  pub takes : target < length a.registers

abbrev pub DoesFit : MidProgram → Local → Does → Type 0
DoesFit program l (Goes next) = GoesOn program l next
DoesFit program l (Calls function args target) = Waits program l.at function args target
DoesFit program l (Leaves value) = (l.at.function ≢ program.main) × IsValue value
DoesFit program l (Traps trap line) = Unit {0}
DoesFit program l (Reaches access line) = AccessFits program l.at access
DoesFit program l Lost = ⊥

-- both of what it does
abbrev pub Sound : MidProgram → Local → Does → Type 0
Sound program l d = DoesFit program l d × Nears program l d

-- an activation stands at an instruction, which keeps the rules
pub record Stands (program : MidProgram) (a : Activation) (w : IsWithin program a) (line : ℕ) (mid : Mid) : Type 0 where
  pub rules : KeepsRules program a.function w.code a.place mid
  pub here : slice_get w.code.code a.place ≡ Some (record { line = line; mid = mid })

-- the places of the open objects of an activation
abbrev places : Activation → List ℕ
places a = map (λ o. o.place) a.opened

-- a place of the code with what is open there
pub at_place : (program : MidProgram) (a : Activation) (w : IsWithin program a) (place : ℕ) (registers : List ℕ) (opened : List Opened) →
    place < length w.code.code → length registers ≡ length a.registers → All IsValue registers →
    found_at w.code.code place ≡ Some (map (λ o. o.place) opened) →
    IsWithin program (record a { place = place; registers = registers; opened = opened })
at_place program a w place registers opened within count each found = record {
  code = w.code;
  found = w.found;
  place = within;
  registers = count ∙ w.registers;
  each = each;
  opened = found;
}

-- a place further on, or a `Turn`, is nearer to the next turn than a place that is none
nearer : (f : MidFunction) (place target : ℕ) → place < length f.code → is_turn (slice_get f.code place) ≡ false →
    (place < target) ⊎ (is_turn (slice_get f.code target) ≡ true) → to_turn_in (Some f) target < to_turn_in (Some f) place
nearer f place target within here on =
    let from : to_turn_in (Some f) place ≡ length f.code - place = ap (λ b. if b then 0 else length f.code - place) here in
    elim (is_turn (slice_get f.code target)) as (λ b. (place < target) ⊎ (b ≡ true) → (if b then 0 else length f.code - target) < to_turn_in (Some f) place) [
      | true ↦ λ _. omega (arith, from, within)
      | false ↦ λ way. (elim way as (λ _. length f.code - target < to_turn_in (Some f) place) [
        | inl later ↦ omega (arith, from, within, later)
        | inr turn ↦ absurd (cc)
      ])
    ] on

to_turn-le : (f : MidFunction) (place : ℕ) → to_turn_in (Some f) place ≤ length f.code
to_turn-le f place = elim (is_turn (slice_get f.code place)) as (λ b. (if b then 0 else length f.code - place) ≤ length f.code) [ true ↦ omega arith | false ↦ omega arith ]

-- an activation has at most 65,535 instructions before it
pub few_to_turn : (program : MidProgram) (a : Activation) → IsValid program → IsWithin program a → to_turn program a ≤ 65535
few_to_turn program a valid w =
    let k = function_kept program a.function w.code valid w.found in
    let e : to_turn program a ≡ to_turn_in (Some w.code) a.place = ap (λ g. to_turn_in g a.place) w.found in
    omega (arith, e, to_turn-le w.code a.place, k.limit)

near_place : (program : MidProgram) (a : Activation) (w : IsWithin program a) (target : ℕ) → is_turn (slice_get w.code.code a.place) ≡ false →
    (a.place < target) ⊎ (is_turn (slice_get w.code.code target) ≡ true) → to_turn program (moved_to target a) < to_turn program a
near_place program a w target here on =
    subst (λ f. to_turn_in f target < to_turn_in f a.place) (sym w.found) (nearer w.code a.place target w.place here on)

-- an instruction behind which its function goes on
record Passes (program : MidProgram) (a : Activation) (w : IsWithin program a) (line : ℕ) (mid : Mid) : Type 0 where
  stands : Stands program a w line mid
  more : is_final mid ≡ false
  -- the place behind it is the first of those that it enters
  rest : List ℕ
  first : goes_to a.place mid ≡ (a.place + 1) ∷ rest

-- and the objects behind it
behind : (program : MidProgram) (a : Activation) (w : IsWithin program a) (line : ℕ) (mid : Mid) → Passes program a w line mid →
    (registers : List ℕ) (opened : List Opened) → length registers ≡ length a.registers → All IsValue registers →
    open_behind a.place mid (places a) ≡ map (λ o. o.place) opened →
    IsWithin program (record a { place = a.place + 1; registers = registers; opened = opened })
behind program a w line mid p registers opened count each same =
    let k = p.stands.rules in
    let within = followed program a.function w.code a.place mid k p.more w.place in
    let order = in_order w.code.code a.place mid (places a) k.ordered w.opened in
    let found = first_entered w.code.code a.place mid (places a) (a.place + 1) p.rest p.first order.1 within in
    at_place program a w (a.place + 1) registers opened within count each (found ∙ ap Some same)

-- it changes no open objects, and is no `Turn`
record IsPlain (program : MidProgram) (a : Activation) (w : IsWithin program a) (line : ℕ) (mid : Mid) : Type 0 where
  passes : Passes program a w line mid
  same : open_behind a.place mid (places a) ≡ places a
  no_turn : is_turn (Some (record { line = line; mid = mid })) ≡ false

plain_given : (program : MidProgram) (a : Activation) (w : IsWithin program a) (line : ℕ) (mid : Mid) → IsPlain program a w line mid →
    (target value : ℕ) → IsValue value → IsWithin program (given target value a)
plain_given program a w line mid p target value small =
    behind program a w line mid p.passes (slice_set a.registers target value) a.opened (length-set a.registers target value)
    (All-set IsValue a.registers target value small w.each) p.same

plain_passed : (program : MidProgram) (a : Activation) (w : IsWithin program a) (line : ℕ) (mid : Mid) → IsPlain program a w line mid →
    IsWithin program (passed a)
plain_passed program a w line mid p = behind program a w line mid p.passes a.registers a.opened refl w.each p.same

no_turn_here : (program : MidProgram) (a : Activation) (w : IsWithin program a) (line : ℕ) (mid : Mid) → Stands program a w line mid →
    is_turn (Some (record { line = line; mid = mid })) ≡ false → to_turn program (passed a) < to_turn program a
no_turn_here program a w line mid stands other = near_place program a w (a.place + 1) (ap is_turn stands.here ∙ other) (inl (omega arith))

plain_near : (program : MidProgram) (a : Activation) (w : IsWithin program a) (line : ℕ) (mid : Mid) → IsPlain program a w line mid →
    to_turn program (passed a) < to_turn program a
plain_near program a w line mid p = no_turn_here program a w line mid p.passes.stands p.no_turn

module _ (program : MidProgram) (l : Local) (w : IsWithin program l.at) (line : ℕ) where
  -- an instruction that enters the place behind it alone, and one that enters another too
  plain : (mid : Mid) → Stands program l.at w line mid → way_of mid ≡ Next → IsPlain program l.at w line mid
  plain mid stands way = record {
    passes = record { stands = stands; more = ap is_final_way way; rest = []; first = ap (way_goes l.at.place) way };
    same = ap (λ (x : Way). way_opened l.at.place x (places l.at)) way;
    no_turn = ap is_counting way;
  }

  branching : (mid : Mid) (place : ℕ) → Stands program l.at w line mid → way_of mid ≡ Branches place → IsPlain program l.at w line mid
  branching mid place stands way = record {
    passes = record { stands = stands; more = ap is_final_way way; rest = place ∷ []; first = ap (way_goes l.at.place) way };
    same = ap (λ (x : Way). way_opened l.at.place x (places l.at)) way;
    no_turn = ap is_counting way;
  }

  -- an activation that changes, with its budget as it is
  changed_fits : (a : Activation) → l.at.function ≡ a.function → l.at.into ≡ a.into → l.at.opened ≡ a.opened → IsWithin program a →
      to_turn program a < to_turn program l.at → Sound program l (goes l a)
  changed_fits a function into opened within near =
      (record { within = within; function = function; into = into; opened = opened; turns = omega arith; depth = refl }, omega (arith, near))

  -- a value goes into a register
  set_fits : (mid : Mid) → IsPlain program l.at w line mid → (target value : ℕ) → IsValue value → Sound program l (goes l (given target value l.at))
  set_fits mid p target value small =
      changed_fits (given target value l.at) refl refl refl (plain_given program l.at w line mid p target value small) (plain_near program l.at w line mid p)

  -- a result that may be a trap
  gives_fit : (mid : Mid) → IsPlain program l.at w line mid → (target : ℕ) (r : Result ℕ Trap) → IfOk r IsValue → Sound program l (gives target line l r)
  gives_fit mid p target (Ok value) small = set_fits mid p target value small
  gives_fit mid p target (Err trap) small = (tt, tt)

  -- a jump leads further on, or to a `Turn`
  way_on : (target : ℕ) → IsTarget w.code.code l.at.place target → (l.at.place < target) ⊎ (is_turn (slice_get w.code.code target) ≡ true)
  way_on target good =
      elim (cases_lt l.at.place target) as (λ _. (l.at.place < target) ⊎ (is_turn (slice_get w.code.code target) ≡ true)) [
        | inl forward ↦ inl forward
        | inr back ↦ inr (good.back (omega arith))
      ]

  jumped : (mid : Mid) → Stands program l.at w line mid → is_turn (Some (record { line = line; mid = mid })) ≡ false → (target : ℕ) →
      IsTarget w.code.code l.at.place target → found_at w.code.code target ≡ Some (places l.at) → Sound program l (goes l (moved_to target l.at))
  jumped mid stands other target good found =
      changed_fits (moved_to target l.at) refl refl refl
      (at_place program l.at w target l.at.registers l.at.opened good.within refl w.each found)
      (near_place program l.at w target (ap is_turn stands.here ∙ other) (way_on target good))

  jump_fits : (place : ℕ) → Stands program l.at w line (Jump place) → Sound program l (goes l (moved_to place l.at))
  jump_fits place stands =
      let code = w.code.code in
      let good = stands.rules.fields.0 in
      let order = in_order code l.at.place (Jump place) (places l.at) stands.rules.ordered w.opened in
      jumped (Jump place) stands refl place good
      (first_entered code l.at.place (Jump place) (places l.at) place [] refl order.1 good.within)

  either_fits : (b : Bool) (place : ℕ) → Sound program l (goes l (moved_to place l.at)) → Sound program l (goes l (passed l.at)) →
      Sound program l (goes l (moved_if b place l.at))
  either_fits true place taken not_taken = taken
  either_fits false place taken not_taken = not_taken

  branch_fits : (mid : Mid) (b : Bool) (place : ℕ) → Stands program l.at w line mid → way_of mid ≡ Branches place →
      IsTarget w.code.code l.at.place place → Sound program l (goes l (moved_if b place l.at))
  branch_fits mid b place stands way good =
      let code = w.code.code in
      let p = branching mid place stands way in
      let order = in_order code l.at.place mid (places l.at) stands.rules.ordered w.opened in
      let found = second_entered code l.at.place mid (places l.at) (l.at.place + 1) place [] (ap (way_goes l.at.place) way) order.1 good.within in
      either_fits b place (jumped mid stands p.no_turn place good (found ∙ ap Some p.same))
      (changed_fits (passed l.at) refl refl refl (plain_passed program l.at w line mid p) (plain_near program l.at w line mid p))

  -- a turn is counted
  turn_fits : IsValid program → Stands program l.at w line Turn → (used : Bool) → (l.budget.turns == 0) ≡ used →
      Sound program l (counts line l (if used then Err Turns else Ok (record l.budget { turns = l.budget.turns - 1 })))
  turn_fits valid stands true is = (tt, tt)
  turn_fits valid stands false is =
      let passes : Passes program l.at w line Turn = record { stands = stands; more = refl; rest = []; first = refl } in
      let within = behind program l.at w line Turn passes l.at.registers l.at.opened refl w.each refl in
      let some = not_zero l.budget.turns is in (
        record { within = within; function = refl; into = refl; opened = refl; turns = omega arith; depth = refl },
        omega (arith, some, few_to_turn program (passed l.at) valid within),
      )

  -- a call
  call_fits : (mid : Mid) → IsPlain program l.at w line mid → (function : ℕ) (args : List ℕ) (target : ℕ) → CallFits program function args →
      target < length l.at.registers → Sound program l (Calls function args target)
  call_fits mid p function args target call there =
      (record { call = call; behind = plain_passed program l.at w line mid p; takes = there }, plain_near program l.at w line mid p)

  into_there : (target : ℕ) → target < length w.code.kinds → target < length l.at.registers
  into_there target within = omega (arith, within, w.registers)

  args_count : (args : Registers) → length (arguments l.at args) ≡ length (registers_list args)
  args_count args = length-map (registers_list args) (register l.at)

  direct_fits : (target function : ℕ) (args : Registers) → IsValid program → IsPlain program l.at w line (Call target function args) →
      Sound program l (Calls function (arguments l.at args) target)
  direct_fits target function args valid p =
      let k = p.passes.stands.rules in
      let rs = registers_list args in
      let callee = callee_of program function k.fields.1.0 in
      let kept = function_kept program function callee.code valid callee.found in
      let typed : misfits_type w.code.kinds target rs (slice_get program.types callee.code.ty) ≡ false =
      ap (λ f. misfits_type w.code.kinds target rs (type_of program f)) (sym callee.found) ∙ k.fits in
      let room : length (arguments l.at args) ≤ length callee.code.kinds = omega (arith, args_count args, args_room program w.code.kinds target rs function callee.code kept typed) in
      call_fits (Call target function args) p function (arguments l.at args) target
      (record { code = callee.code; found = callee.found; room = room; values = reads_small l.at.registers rs w.each; other = callee.other })
      (into_there target k.fields.0.there)

  if_sound : (b : Bool) (d e : Does) → (b ≡ true → Sound program l d) → (b ≡ false → Sound program l e) → Sound program l (if b then d else e)
  if_sound true d e taken not_taken = taken refl
  if_sound false d e taken not_taken = not_taken refl

  is_callee-found : (ty : ℕ) (f : Option MidFunction) → is_of_type ty f ≡ true → (g : MidFunction) × (f ≡ Some g) × (g.ty ≡ ty)
  is_callee-found ty None h = absurd (cc)
  is_callee-found ty (Some g) h = (g, refl, eqb-true g.ty ty h)

  value_fits : (target callee ty : ℕ) (args : Registers) → IsValid program → IsPlain program l.at w line (CallPtr target callee ty args) →
      (value : ℕ) → is_callee program ty value ≡ true → Sound program l (Calls value (arguments l.at args) target)
  value_fits target callee ty args valid p value callable =
      let k = p.passes.stands.rules in
      let rs = registers_list args in
      let both = and_parts (is_of_type ty (function_at program value)) (not (value == program.main)) callable in
      let f = is_callee-found ty (function_at program value) both.0 in
      let kept = function_kept program value f.0 valid f.1 in
      let typed : misfits_type w.code.kinds target rs (slice_get program.types f.0.ty) ≡ false = ap (λ t. misfits_type w.code.kinds target rs (slice_get program.types t)) f.2 ∙ k.fits in
      let room : length (arguments l.at args) ≤ length f.0.kinds = omega (arith, args_count args, args_room program w.code.kinds target rs value f.0 kept typed) in
      call_fits (CallPtr target callee ty args) p value (arguments l.at args) target
      (record {
        code = f.0;
        found = f.1;
        room = room;
        values = reads_small l.at.registers rs w.each;
        other = eqb-false value program.main (not-true (value == program.main) both.1);
      })
      (into_there target k.fields.0.there)

  indirect_fits : (target callee ty : ℕ) (args : Registers) → IsValid program → IsPlain program l.at w line (CallPtr target callee ty args) →
      Sound program l (calls_value program ty (register l.at callee) (arguments l.at args) target line)
  indirect_fits target callee ty args valid p =
      let value = register l.at callee in
      let call = Calls value (arguments l.at args) target in
      if_sound (value == 0) (Traps NullPointer line) (if is_callee program ty value then call else Traps NotAFunction line) (λ _. (tt, tt))
      (λ _. if_sound (is_callee program ty value) call (Traps NotAFunction line) (value_fits target callee ty args valid p value) (λ _. (tt, tt)))

  -- a return
  leave_fits : (source : ℕ) → Stands program l.at w line (Return source) → Sound program l (Leaves (register l.at source))
  leave_fits source stands =
      let other = eqb-false l.at.function program.main (neither (l.at.function == program.main) (misreturns w.code.kinds source (slice_get program.types w.code.ty)) stands.rules.fits).0 in
      ((other, read_small l.at.registers source w.each), omega (arith, no_turn_here program l.at w line (Return source) stands refl))

  -- objects begin and end
  open_fits : (target cells : ℕ) → Stands program l.at w line (Open target cells) → Sound program l (Reaches (Opens target cells) line)
  open_fits target cells stands =
      let passes : Passes program l.at w line (Open target cells) = record { stands = stands; more = refl; rest = []; first = refl } in (
        (
          stands.rules.fields.1.0,
          λ number small. behind program l.at w line (Open target cells) passes (slice_set l.at.registers target (pointer_to number 0))
              (record { place = l.at.place; number = number } ∷ l.at.opened) (length-set l.at.registers target (pointer_to number 0))
              (All-set IsValue l.at.registers target (pointer_to number 0) small w.each) refl,
        ),
        no_turn_here program l.at w line (Open target cells) stands refl,
      )

  -- a `Close` that is reached names the newest object
  close_fits : (place : ℕ) → Stands program l.at w line (Close place) → (opened : List Opened) → l.at.opened ≡ opened →
      Sound program l (closes place line opened)
  close_fits place stands [] is =
      let found : found_at w.code.code l.at.place ≡ Some [] = w.opened ∙ ap (λ os. Some (map (λ o. o.place) os)) is in
      let order = in_order w.code.code l.at.place (Close place) [] stands.rules.ordered found in
      absurd (cc)
  close_fits place stands (newest ∷ older) is =
      let found : found_at w.code.code l.at.place ≡ Some (newest.place ∷ map (λ o. o.place) older) = w.opened ∙ ap (λ os. Some (map (λ o. o.place) os)) is in
      let order = in_order w.code.code l.at.place (Close place) (newest.place ∷ map (λ o. o.place) older) stands.rules.ordered found in
      let named : (newest.place == place) ≡ true = not-false (newest.place == place) order.0 in
      let passes : Passes program l.at w line (Close place) = record { stands = stands; more = refl; rest = []; first = refl } in
      let same : open_behind l.at.place (Close place) (places l.at) ≡ map (λ o. o.place) (drop 1 l.at.opened) =
      rw is (ap (λ b. if b then map (λ o. o.place) older else newest.place ∷ map (λ o. o.place) older) named) in
      if_sound (newest.place == place) (Reaches (Closes newest.number) line) Lost
      (λ _. (
        (
          omega (arith, ap (λ (os : List Opened). length os) is),
          behind program l.at w line (Close place) passes l.at.registers (drop 1 l.at.opened) refl w.each same,
        ),
        no_turn_here program l.at w line (Close place) stands refl,
      ))
      (λ unnamed. (both_ways (newest.place == place) unnamed named, tt))

  register_small : (r : ℕ) → IsValue (register l.at r)
  register_small r = read_small l.at.registers r w.each

  -- one case for each instruction
  pub act_fits : (mid : Mid) → IsValid program → Stands program l.at w line mid → Sound program l (act program mid line l)
  act_fits (Const target value) valid s = set_fits (Const target value) (plain _ s refl) target value s.rules.fields.1.0.small
  act_fits (Move target source) valid s = set_fits (Move target source) (plain _ s refl) target (register l.at source) (register_small source)
  act_fits (Arith op ty target left right) valid s =
      let a = register l.at left in
      let b = register l.at right in
      gives_fit (Arith op ty target left right) (plain _ s refl) target (arith_of op ty a b) (wider (2 ^ 32) (arith_of op ty a b) (omega arith) (arith_of-lt op ty a b))
  act_fits (Conv from to target source) valid s =
      let a = register l.at source in
      set_fits (Conv from to target source) (plain _ s refl) target (convert_of from to a) (omega (arith, convert_of-lt from to a))
  act_fits (PtrAdd target pointer index ty negated scale) valid s =
      let a = register l.at pointer in
      let b = register l.at index in
      gives_fit (PtrAdd target pointer index ty negated scale) (plain _ s refl) target (pointer_sum_of a ty b negated scale)
      (pointer_sum_of-lt a ty b negated scale (register_small pointer))
  act_fits (PtrDiff target left right scale) valid s =
      let a = register l.at left in
      let b = register l.at right in
      gives_fit (PtrDiff target left right scale) (plain _ s refl) target (pointer_difference_of a b scale)
      (wider (2 ^ 32) (pointer_difference_of a b scale) (omega arith) (pointer_difference_of-lt a b scale))
  act_fits (PtrCmp op target left right) valid s =
      let a = register l.at left in
      let b = register l.at right in
      gives_fit (PtrCmp op target left right) (plain _ s refl) target (pointer_comparison_of op a b)
      (wider 2 (pointer_comparison_of op a b) (omega arith) (pointer_comparison_of-lt op a b))
  act_fits (GlobAddr target object) valid s =
      set_fits (GlobAddr target object) (plain _ s refl) target (pointer_to object 0) (static_small program object valid s.rules.fields.1.0)
  act_fits (FunAddr target function) valid s =
      set_fits (FunAddr target function) (plain _ s refl) target function (callable_small program function valid s.rules.fields.1.0)
  act_fits (Load target pointer) valid s =
      let p = plain (Load target pointer) s refl in
      ((register_small pointer, plain_given program l.at w line (Load target pointer) p target), plain_near program l.at w line (Load target pointer) p)
  act_fits (Store pointer source) valid s =
      let p = plain (Store pointer source) s refl in
      ((register_small pointer, register_small source, plain_passed program l.at w line (Store pointer source) p), plain_near program l.at w line (Store pointer source) p)
  act_fits (VLoad target pointer) valid s =
      let p = plain (VLoad target pointer) s refl in
      ((register_small pointer, plain_given program l.at w line (VLoad target pointer) p target), plain_near program l.at w line (VLoad target pointer) p)
  act_fits (VStore pointer source) valid s =
      let p = plain (VStore pointer source) s refl in
      ((register_small pointer, register_small source, plain_passed program l.at w line (VStore pointer source) p), plain_near program l.at w line (VStore pointer source) p)
  act_fits (Open target cells) valid s = open_fits target cells s
  act_fits (Close place) valid s = close_fits place s l.at.opened refl
  act_fits (Jump place) valid s = jump_fits place s
  act_fits (JumpZ source place) valid s =
      branch_fits (JumpZ source place) (register l.at source == 0) place s refl s.rules.fields.1.0
  act_fits (JumpN source place) valid s =
      branch_fits (JumpN source place) (not (register l.at source == 0)) place s refl s.rules.fields.1.0
  act_fits Turn valid s = turn_fits valid s (l.budget.turns == 0) refl
  act_fits (Call target function args) valid s = direct_fits target function args valid (plain _ s refl)
  act_fits (CallPtr target callee ty args) valid s = indirect_fits target callee ty args valid (plain _ s refl)
  act_fits (Return source) valid s = leave_fits source s
  act_fits (Put source) valid s =
      let p = plain (Put source) s refl in
      (plain_passed program l.at w line (Put source) p, plain_near program l.at w line (Put source) p)
  act_fits (Get target) valid s =
      let p = plain (Get target) s refl in
      (plain_given program l.at w line (Get target) p target, plain_near program l.at w line (Get target) p)
  act_fits (Exit source) valid s = (tt, no_turn_here program l.at w line (Exit source) s refl)

-- there is a next instruction
pub next_found : (program : MidProgram) (a : Activation) (w : IsWithin program a) →
    (l : MidLine) × (slice_get w.code.code a.place ≡ Some l) × (line_at program a.function a.place ≡ Some l)
next_found program a w =
    let here = one_within w.code.code a.place w.place in
    (here.0, here.1, ap (λ o. option_and_then (λ f. slice_get f.code a.place) o) w.found ∙ here.1)

-- what an activation does, by its next instruction
pub does-at : (program : MidProgram) (l : Local) (line : MidLine) → line_at program l.at.function l.at.place ≡ Some line →
    does program l ≡ act program line.mid line.line l
unfolding does
does-at program l line at = ap (λ o. act_at program o l) at

-- what it does keeps it within the program
pub does_fits : (program : MidProgram) (l : Local) → IsValid program → IsWithin program l.at → Sound program l (does program l)
does_fits program l valid w =
    let next = next_found program l.at w in
    let stands : Stands program l.at w next.0.line next.0.mid =
    record { rules = keeps program l.at.function l.at.place w.code next.0 valid w.found next.1; here = next.1 } in
    rw (does-at program l next.0 next.2) (act_fits program l w next.0.line next.0.mid valid stands)
