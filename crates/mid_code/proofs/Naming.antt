-- What the instructions of a valid program name is there, and small.
use Rattle.std.proofs.Common.{◌≡◌, ◌≢◌, ℕ, zero, suc, ◌+◌, ◌-◌, ◌<◌, ◌≤◌, ◌^◌, List, [], ◌∷◌, length, Option, Some, None, Bool, true, false, inl, inr, refl, subst, arith}
use Rattle.std.specs.Prelude.{◌&&◌, ◌||◌, not, ◌==◌, nat_lt, nat_le, slice_get, sum_by}
use Rattle.std.specs.List.{list_any}
use Rattle.std.proofs.lemmas.Bool.{and_parts, not-false, not-true, eqb-true, eqb-false, eq-eqb, ltb-false, leb-true, ltb-true, or_cases}
use Rattle.std.proofs.lemmas.List.Sums.{sum_by-cons}
use Rattle.srmt_base.specs.Objects.{pointer_to}
use Rattle.mid_code.specs.declared.program.RegisterKind.{RegisterKind}
use Rattle.mid_code.specs.declared.program.RegisterKind.TheVariants.{Number}
use Rattle.srmt_base.specs.declared.statics.Static.{Static}
use Rattle.mid_code.specs.declared.program.FunType.{FunType}
use Rattle.mid_code.specs.declared.program.MidFunction.{MidFunction}
use Rattle.mid_code.specs.declared.program.MidProgram.{MidProgram}
use Rattle.mid_code.specs.Program.{function_at}
use Rattle.mid_code.specs.Rules.{is_bad_static, has_bad_statics, has_large_type, has_bad_parts, has_bad_type, is_number_alone, is_static, is_callable, same_kind, is_of_kind, are_of_kinds, misfits_type}
use Rattle.mid_code.specs.Valid.{IsValid}
use Rattle.mid_code.proofs.Keeping.{neither, keeps_function, keeps_program}
use Rattle.mid_code.proofs.Values.{one_within}

-- what the tests of a whole program say
pub record KeepsProgram (program : MidProgram) : Type 0 where
  pub main_functions : program.main_functions ≤ length program.functions
  pub few_functions : length program.functions ≤ 8192
  pub some_main : 1 ≤ program.main
  pub main : program.main ≤ program.main_functions
  pub main_statics : has_bad_statics program.main_statics ≡ false
  pub binary_statics : has_bad_statics program.binary_statics ≡ false

-- a number that is not 0 is at least 1
pub not_zero : (n : ℕ) → (n == 0) ≡ false → 1 ≤ n
not_zero zero h = absurd (eqb-false 0 0 h refl)
not_zero (suc n) h = omega arith

pub whole : (program : MidProgram) → IsValid program → KeepsProgram program
whole program valid =
    let statics = neither (has_large_type program.types || has_bad_parts program || has_bad_statics program.main_statics) (has_bad_statics program.binary_statics) (keeps_program program valid) in
    let first = neither (has_large_type program.types || has_bad_parts program) (has_bad_statics program.main_statics) statics.0 in
    let parts = neither (has_large_type program.types) (has_bad_parts program) first.0 in
    let e = neither (nat_lt (length program.functions) program.main_functions || nat_lt 4096 program.main_functions || nat_lt 4096 (length program.functions - program.main_functions) || program.main == 0) (nat_lt program.main_functions program.main) parts.1 in
    let d = neither (nat_lt (length program.functions) program.main_functions || nat_lt 4096 program.main_functions || nat_lt 4096 (length program.functions - program.main_functions)) (program.main == 0) e.0 in
    let c = neither (nat_lt (length program.functions) program.main_functions || nat_lt 4096 program.main_functions) (nat_lt 4096 (length program.functions - program.main_functions)) d.0 in
    let a = neither (nat_lt (length program.functions) program.main_functions) (nat_lt 4096 program.main_functions) c.0 in
    record {
      main_functions = ltb-false (length program.functions) program.main_functions a.0;
      few_functions = omega (arith, ltb-false (length program.functions) program.main_functions a.0, ltb-false 4096 program.main_functions a.1, ltb-false 4096 (length program.functions - program.main_functions) c.1);
      some_main = not_zero program.main d.1;
      main = ltb-false program.main_functions program.main e.1;
      main_statics = first.1;
      binary_statics = statics.1;
    }

-- `main` is there
pub main_found : (program : MidProgram) → KeepsProgram program → (f : MidFunction) × (function_at program program.main ≡ Some f)
main_found program k = found program.main k.some_main (omega (arith, k.main, k.main_functions)) where
  found : (number : ℕ) → 1 ≤ number → number ≤ length program.functions → (f : MidFunction) × (function_at program number ≡ Some f)
  found zero some within = absurd (omega arith)
  found (suc before) some within = one_within program.functions before (omega (arith, within))

-- each static object has a cell
static_cell : (object : Static) → is_bad_static object ≡ false → 1 ≤ object.cells
static_cell object h =
    let a = neither _ _ h in
    let b = neither _ _ a.0 in
    let c = neither _ _ b.0 in
    not_zero object.cells c.0

few_statics_by : (objects : List Static) → list_any is_bad_static objects ≡ false → length objects ≤ sum_by (λ object. object.cells) objects
few_statics_by [] h = omega arith
few_statics_by (object ∷ objects) h =
    let both = neither (is_bad_static object) (list_any is_bad_static objects) h in
    omega (arith, few_statics_by objects both.1, static_cell object both.0, sum_by-cons (λ (o : Static). o.cells) object objects)

pub few_statics : (objects : List Static) → has_bad_statics objects ≡ false → length objects ≤ 1048576
few_statics objects h =
    let both = neither (list_any is_bad_static objects) (nat_lt 1048576 (sum_by (λ object. object.cells) objects)) h in
    omega (arith, few_statics_by objects both.0, ltb-false 1048576 (sum_by (λ (o : Static). o.cells) objects) both.1)

-- the number of a static object is one of 28 bits
pub static_small : (program : MidProgram) (object : ℕ) → IsValid program → is_static program object ≡ true → pointer_to object 0 < 2 ^ 44
static_small program object valid h =
    let k = whole program valid in
    elim (or_cases (nat_le 1 object && nat_le object (length program.main_statics)) (nat_le 134217728 object && nat_lt object (134217728 + length program.binary_statics)) h) as (λ _. pointer_to object 0 < 2 ^ 44) [
      | inl main ↦
          let both = and_parts (nat_le 1 object) (nat_le object (length program.main_statics)) main in
          omega (arith, leb-true object (length program.main_statics) both.1, few_statics program.main_statics k.main_statics)
      | inr binary ↦
          let both = and_parts (nat_le 134217728 object) (nat_lt object (134217728 + length program.binary_statics)) binary in
          omega (arith, ltb-true object (134217728 + length program.binary_statics) both.1, few_statics program.binary_statics k.binary_statics)
    ]

-- a function that may be called is there, and is not `main`
pub record Callee (program : MidProgram) (number : ℕ) : Type 0 where
  pub code : MidFunction
  pub found : function_at program number ≡ Some code
  pub other : number ≢ program.main

pub callee_of : (program : MidProgram) (number : ℕ) → is_callable program number ≡ true → Callee program number
callee_of program zero h =
    let both = and_parts (nat_le 1 0 && nat_le 0 (length program.functions)) (not (0 == program.main)) h in
    let low = leb-true 1 0 (and_parts (nat_le 1 0) (nat_le 0 (length program.functions)) both.0).0 in
    absurd (omega (arith, low))
callee_of program (suc before) h =
    let both = and_parts (nat_le 1 (suc before) && nat_le (suc before) (length program.functions)) (not (suc before == program.main)) h in
    let range = and_parts (nat_le 1 (suc before)) (nat_le (suc before) (length program.functions)) both.0 in
    let high = leb-true (suc before) (length program.functions) range.1 in
    let there = one_within program.functions before (omega (arith, high)) in
    record { code = there.0; found = there.1; other = eqb-false (suc before) program.main (not-true (suc before == program.main) both.1) }

pub callable_small : (program : MidProgram) (number : ℕ) → IsValid program → is_callable program number ≡ true → number < 2 ^ 44
callable_small program number valid h =
    let both = and_parts (nat_le 1 number && nat_le number (length program.functions)) (not (number == program.main)) h in
    let range = and_parts (nat_le 1 number) (nat_le number (length program.functions)) both.0 in
    let k = whole program valid in
    omega (arith, leb-true number (length program.functions) range.1, k.few_functions)

-- what the tests of a function say
pub record KeepsFunction (program : MidProgram) (number : ℕ) (f : MidFunction) : Type 0 where
  pub long : 1 ≤ length f.code
  pub limit : length f.code ≤ 65535
  pub registers : length f.kinds ≤ 1024
  pub type : FunType
  pub typed : slice_get program.types f.ty ≡ Some type
  pub params : length type.params ≤ length f.kinds
  pub main : number ≡ program.main → length type.params ≡ 0

typed_by : (is_main : Bool) (f : MidFunction) (type : Option FunType) → has_bad_type is_main f type ≡ false → (t : FunType) × (type ≡ Some t) × (length t.params ≤ length f.kinds) × (is_main ≡ true → length t.params ≡ 0)
typed_by is_main f None h = absurd (cc)
typed_by is_main f (Some t) h =
    let both = neither (nat_lt (length f.kinds) (length t.params)) (is_main && not (is_number_alone t)) h in (
      t,
      refl,
      ltb-false (length f.kinds) (length t.params) both.0,
      λ yes.
          let alone : (true && not (is_number_alone t)) ≡ false = subst (λ b. (b && not (is_number_alone t)) ≡ false) yes both.1 in
          let fact = and_parts (length t.params == 0) (same_kind t.result Number) (not-false (is_number_alone t) alone) in
          eqb-true (length t.params) 0 fact.0,
    )

pub function_kept : (program : MidProgram) (number : ℕ) (f : MidFunction) → IsValid program → function_at program number ≡ Some f → KeepsFunction program number f
function_kept program number f valid found =
    let e = neither (length f.kinds == 0 || nat_lt 1024 (length f.kinds) || length f.code == 0 || nat_lt 65535 (length f.code)) (has_bad_type (number == program.main) f (slice_get program.types f.ty)) (keeps_function program number f valid found) in
    let d = neither (length f.kinds == 0 || nat_lt 1024 (length f.kinds) || length f.code == 0) (nat_lt 65535 (length f.code)) e.0 in
    let c = neither (length f.kinds == 0 || nat_lt 1024 (length f.kinds)) (length f.code == 0) d.0 in
    let b = neither (length f.kinds == 0) (nat_lt 1024 (length f.kinds)) c.0 in
    let t = typed_by (number == program.main) f (slice_get program.types f.ty) e.1 in
    record {
      long = not_zero (length f.code) c.1;
      limit = ltb-false 65535 (length f.code) d.1;
      registers = ltb-false 1024 (length f.kinds) b.1;
      type = t.0;
      typed = t.1;
      params = t.2;
      main = λ same. t.3 (eq-eqb number program.main same);
    }

-- as many arguments as parameters
same_count : (kinds : List RegisterKind) (args : List ℕ) (params : List RegisterKind) → are_of_kinds kinds args params ≡ true → length args ≡ length params
same_count kinds [] [] h = refl
same_count kinds [] (p ∷ ps) h = absurd (cc)
same_count kinds (r ∷ rs) [] h = absurd (cc)
same_count kinds (r ∷ rs) (p ∷ ps) h =
    let rest = same_count kinds rs ps (and_parts (is_of_kind (slice_get kinds r) p) (are_of_kinds kinds rs ps) h).1 in
    omega (arith, rest)

pub args_counted : (kinds : List RegisterKind) (target : ℕ) (args : List ℕ) (type : FunType) → misfits_type kinds target args (Some type) ≡ false → length args ≡ length type.params
args_counted kinds target args type h =
    let both = neither (not (is_of_kind (slice_get kinds target) type.result)) (not (are_of_kinds kinds args type.params)) h in
    same_count kinds args type.params (not-false (are_of_kinds kinds args type.params) both.1)

-- the arguments of a call have room in the registers of a function of the type
pub args_room : (program : MidProgram) (kinds : List RegisterKind) (target : ℕ) (args : List ℕ) (number : ℕ) (f : MidFunction) → KeepsFunction program number f → misfits_type kinds target args (slice_get program.types f.ty) ≡ false → length args ≤ length f.kinds
args_room program kinds target args number f k h =
    let e = args_counted kinds target args k.type (subst (λ t. misfits_type kinds target args t ≡ false) k.typed h) in
    omega (arith, e, k.params)
