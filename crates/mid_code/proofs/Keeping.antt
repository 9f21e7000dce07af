-- What a valid program keeps: each rule at each of its places.
use Rattle.std.proofs.Common.{◌≡◌, ℕ, zero, suc, ◌<◌, ◌≤◌, ◌^◌, List, [], ◌∷◌, length, Option, Some, None, Bool, true, false, refl, sym, ap, ◌∙◌, subst, arith}
use Rattle.std.specs.Prelude.{slice_get, if◌then◌else◌, ◌==◌, ◌&&◌, ◌||◌, not, nat_lt, nat_le, All}
use Rattle.std.specs.List.{list_any}
use Rattle.std.specs.Option.{option_or}
use Rattle.std.proofs.lemmas.Bool.{not-false, leb-false, ltb-false, eqb-false, le-leb}
use Rattle.std.proofs.lemmas.List.Elements.{All-cons, All-nil}
use Rattle.mid_code.specs.declared.program.MidProgram.{MidProgram}
use Rattle.mid_code.specs.declared.program.MidFunction.{MidFunction}
use Rattle.mid_code.specs.declared.program.MidLine.{MidLine}
use Rattle.mid_code.specs.declared.program.RegisterKind.{RegisterKind}
use Rattle.mid_code.specs.declared.program.RegisterKind.TheVariants.{Number, Address}
use Rattle.mid_code.specs.declared.mid.Mid.{Mid}
use Rattle.mid_code.specs.Program.{function_at}
use Rattle.mid_code.specs.Registers.{registers_list}
use Rattle.mid_code.specs.Fields.{Field, Writes, Reads, Passes, Value, Operator, Comparison, AnyType, ArithmeticType, Negated, Scale, Cells, StaticObject, Callable, TypeNumber, Beginning, Target, Wanted, Any, Kind, Like, fields}
use Rattle.mid_code.specs.Flow.{breaks_order}
use Rattle.mid_code.specs.Rules.{same_kind, is_of_kind, is_of_other_kind, has_other_kind, is_outside, is_turn, is_bad_target, broken, register_rule, value_rule, field_rule, lesser, fields_rule, breaks_program, breaks_function, runs_out, misfits, misfits_params, early_rule, instruction_rule, line_rule, function_rule}
use Rattle.mid_code.specs.Valid.{IsValid}
use Rattle.mid_code.specs.WellFormed.{HasKind, IsRegister, IsConstant, IsTarget, KeepsField, KeepsFields}

-- an instruction keeps the rules at its place
pub record KeepsRules (program : MidProgram) (number : ℕ) (function : MidFunction) (place : ℕ) (mid : Mid) : Type 0 where
  pub fields : KeepsFields program function place (fields mid)
  pub followed : runs_out function.code place mid ≡ false
  pub fits : misfits program number function mid ≡ false
  pub params : (place == 0 && misfits_params function (slice_get program.types function.ty)) ≡ false
  pub ordered : breaks_order function.code place mid ≡ false

pub neither : (a b : Bool) → (a || b) ≡ false → (a ≡ false) × (b ≡ false)
neither true b h = absurd (cc)
neither false b h = (refl, h)

-- a rule that is not answered is kept, and so are those after it
pub past : (b : Bool) (rule : ℕ) (rest : Option ℕ) → (if b then Some rule else rest) ≡ None → (b ≡ false) × (rest ≡ None)
past true rule rest h = absurd (cc)
past false rule rest h = (refl, h)

kept : (rule : ℕ) (breaks : Bool) → broken rule breaks ≡ None → breaks ≡ false
kept rule breaks h = (past breaks rule None h).0

neither_rule : (first second : Option ℕ) → option_or first second ≡ None → (first ≡ None) × (second ≡ None)
neither_rule (Some rule) second h = absurd (cc)
neither_rule None second h = (refl, h)

no_lesser : (first second : Option ℕ) → lesser first second ≡ None → (first ≡ None) × (second ≡ None)
no_lesser None second h = (refl, h)
no_lesser (Some a) None h = absurd (cc)
no_lesser (Some a) (Some b) h = absurd (some_lesser (nat_lt b a) h) where
  some_lesser : (less : Bool) → (if less then Some b else Some a) ≡ None → ⊥
  some_lesser true e = cc
  some_lesser false e = cc

-- kinds
pub same_kinds : (left right : RegisterKind) → same_kind left right ≡ true → left ≡ right
same_kinds Number Number h = refl
same_kinds Number Address h = absurd (cc)
same_kinds Address Number h = absurd (cc)
same_kinds Address Address h = refl

pub kind_found : (found : Option RegisterKind) (kind : RegisterKind) → is_of_kind found kind ≡ true → found ≡ Some kind
kind_found None kind h = absurd (cc)
kind_found (Some found) kind h = ap (λ k. Some k) (same_kinds found kind h)

alike : (found other : Option RegisterKind) → is_of_other_kind found other ≡ false → (kind : RegisterKind) → other ≡ Some kind → found ≡ Some kind
alike found None h kind is = absurd (cc)
alike found (Some k) h kind is = kind_found found k (not-false (is_of_kind found k) h) ∙ is

wanted_kind : (kinds : List RegisterKind) (register : ℕ) (wanted : Wanted) → has_other_kind kinds register wanted ≡ false → HasKind kinds register wanted
wanted_kind kinds register Any h = tt
wanted_kind kinds register (Kind kind) h = kind_found (slice_get kinds register) kind (not-false (is_of_kind (slice_get kinds register) kind) h)
wanted_kind kinds register (Like other) h = alike (slice_get kinds register) (slice_get kinds other) h

-- fields
register_kept : (kinds : List RegisterKind) (register : ℕ) (wanted : Wanted) → register_rule kinds register wanted ≡ None → IsRegister kinds register wanted
register_kept kinds register wanted h =
    let both = neither_rule (broken 3 (is_outside kinds register)) (broken 4 (has_other_kind kinds register wanted)) h in
    record { there = leb-false (length kinds) register (kept 3 (is_outside kinds register) both.0); kind = wanted_kind kinds register wanted (kept 4 (has_other_kind kinds register wanted) both.1) }

none_below : (value : ℕ) (some : Bool) → nat_lt 0 value ≡ some → (some && true) ≡ false → value ≡ 0
none_below value true is h = absurd (cc)
none_below value false is h = omega (arith, ltb-false 0 value is)

zero_only : (value : ℕ) (is_address : Bool) → (nat_lt 0 value && is_address) ≡ false → is_address ≡ true → value ≡ 0
zero_only value true h is = none_below value (nat_lt 0 value) refl h
zero_only value false h is = absurd (cc)

address_there : (found : Option RegisterKind) → found ≡ Some Address → is_of_kind found Address ≡ true
address_there found is = ap (λ f. is_of_kind f Address) is

constant_kept : (kinds : List RegisterKind) (value register : ℕ) → value_rule kinds value register ≡ None → IsConstant kinds value register
constant_kept kinds value register h =
    let both = neither_rule (broken 1 (nat_le (2 ^ 44) value)) (broken 4 (nat_lt 0 value && is_of_kind (slice_get kinds register) Address)) h in
    record {
      small = leb-false (2 ^ 44) value (kept 1 (nat_le (2 ^ 44) value) both.0);
      null = λ is. zero_only value (is_of_kind (slice_get kinds register) Address) (kept 4 (nat_lt 0 value && is_of_kind (slice_get kinds register) Address) both.1) (address_there (slice_get kinds register) is);
    }

none_outside : (kinds : List RegisterKind) (registers : List ℕ) → list_any (is_outside kinds) registers ≡ false → All (λ register. register < length kinds) registers
none_outside kinds [] h = All-nil (λ register. register < length kinds)
none_outside kinds (r ∷ rs) h =
    let both = neither (is_outside kinds r) (list_any (is_outside kinds) rs) h in
    All-cons (λ register. register < length kinds) r rs (leb-false (length kinds) r both.0) (none_outside kinds rs both.1)

some_there : (n : ℕ) → (n == 0) ≡ false → 1 ≤ n
some_there zero h = absurd (eqb-false 0 0 h refl)
some_there (suc n) h = omega arith

turns_back : (target place : ℕ) (turn : Bool) → (nat_le target place && not turn) ≡ false → target ≤ place → turn ≡ true
turns_back target place turn h back = not-false turn (subst (λ b. (b && not turn) ≡ false) (le-leb target place back) h)

target_kept : (code : List MidLine) (place target : ℕ) → is_bad_target code place target ≡ false → IsTarget code place target
target_kept code place target h =
    let both = neither (nat_le (length code) target) (nat_le target place && not (is_turn (slice_get code target))) h in
    record { within = leb-false (length code) target both.0; back = turns_back target place (is_turn (slice_get code target)) both.1 }

module _ (program : MidProgram) (f : MidFunction) (place : ℕ) where
  field_kept : (field : Field) → field_rule program f place field ≡ None → KeepsField program f place field
  field_kept (Writes register wanted) h = register_kept f.kinds register wanted h
  field_kept (Reads register wanted) h = register_kept f.kinds register wanted h
  field_kept (Passes args) h = none_outside f.kinds (registers_list args) (kept 3 _ h)
  field_kept (Value value register) h = constant_kept f.kinds value register h
  field_kept (Operator op) h = tt
  field_kept (Comparison op) h = not-false _ (kept 3 _ h)
  field_kept (AnyType ty) h = tt
  field_kept (ArithmeticType ty) h = not-false _ (kept 3 _ h)
  field_kept (Negated negated) h = tt
  field_kept (Scale scale) h = some_there scale (kept 3 _ h)
  field_kept (Cells cells) h = some_there cells (kept 1 _ h)
  field_kept (StaticObject object) h = not-false _ (kept 3 _ h)
  field_kept (Callable number) h = not-false _ (kept 3 _ h)
  field_kept (TypeNumber ty) h = leb-false (length program.types) ty (kept 3 _ h)
  field_kept (Beginning begun) h = leb-false (length f.code) begun (kept 5 _ h)
  field_kept (Target target) h = target_kept f.code place target (kept 5 _ h)

  pub fields_kept : (fs : List Field) → fields_rule program f place fs ≡ None → KeepsFields program f place fs
  fields_kept [] h = tt
  fields_kept (field ∷ rest) h =
      let both = no_lesser (field_rule program f place field) (fields_rule program f place rest) h in
      (field_kept field both.0, fields_kept rest both.1)

pub keeps_instruction : (program : MidProgram) (number : ℕ) (function : MidFunction) (place : ℕ) (mid : Mid) → instruction_rule program number function place mid ≡ None → KeepsRules program number function place mid
unfolding early_rule
keeps_instruction program number function place mid h =
    let all = neither_rule (early_rule program number function place mid) (broken 8 (breaks_order function.code place mid)) h in
    let first = neither_rule _ _ all.0 in
    let early = neither_rule _ _ first.0 in
    let types = neither _ _ (kept 7 _ first.1) in
    record {
      fields = fields_kept program function place (fields mid) early.0;
      followed = kept 6 _ early.1;
      fits = types.0;
      params = types.1;
      ordered = kept 8 _ all.1;
    }

function_past : (program : MidProgram) (number place : ℕ) (f : MidFunction) (l : MidLine) → function_rule program number place (Some f) ≡ None → slice_get f.code place ≡ Some l → instruction_rule program number f place l.mid ≡ None
function_past program number place f l h at = sym (ap (line_rule program number f place) at) ∙ (past _ _ _ h).1

-- at each instruction
pub keeps : (program : MidProgram) (number place : ℕ) (f : MidFunction) (l : MidLine) → IsValid program → function_at program number ≡ Some f → slice_get f.code place ≡ Some l → KeepsRules program number f place l.mid
keeps program zero place f l valid found at = absurd (cc)
keeps program (suc before) place f l valid found at =
    let here : function_rule program (suc before) place (Some f) ≡ None = sym (ap (function_rule program (suc before) place) found) ∙ valid.unbroken (suc before) place in
    keeps_instruction program (suc before) f place l.mid (function_past program (suc before) place f l here at)

-- at each function
pub keeps_function : (program : MidProgram) (number : ℕ) (f : MidFunction) → IsValid program → function_at program number ≡ Some f → breaks_function program number f ≡ false
keeps_function program zero f valid found = absurd (cc)
keeps_function program (suc before) f valid found =
    let here : function_rule program (suc before) 0 (Some f) ≡ None = sym (ap (function_rule program (suc before) 0) found) ∙ valid.unbroken (suc before) 0 in
    (past _ _ _ here).0

-- and as a whole
pub keeps_program : (program : MidProgram) → IsValid program → breaks_program program ≡ false
keeps_program program valid = (past _ _ _ (valid.unbroken 0 0)).0
