-- A valid program is well formed.
use Rattle.std.proofs.Common.{inl, inr, ◌≡◌, ℕ, zero, suc, ◌-◌, ◌<◌, ◌≤◌, ◌^◌, List, [], ◌∷◌, length, Option, Some, None, Bool, true, false, refl, sym, ap, ◌∙◌, subst, arith}
use Rattle.std.specs.Prelude.{◌&&◌, ◌||◌, not, ◌==◌, nat_lt, nat_le, slice_get, slice_index, sum_by, All}
use Rattle.std.specs.List.{list_any}
use Rattle.std.proofs.lemmas.Bool.{and_parts, not-false, eqb-true, eqb-false, eq-eqb, ltb-false, leb-false, lt-ltb, or_cases}
use Rattle.std.proofs.lemmas.List.Elements.{All-cons, All-nil}
use Rattle.std.proofs.lemmas.Option.{slice_get_within}
use Rattle.srmt_base.specs.declared.statics.Static.{Static}
use Rattle.mid_code.specs.declared.program.RegisterKind.{RegisterKind}
use Rattle.mid_code.specs.declared.program.RegisterKind.TheVariants.{Number}
use Rattle.mid_code.specs.declared.program.FunType.{FunType}
use Rattle.mid_code.specs.declared.program.MidLine.{MidLine}
use Rattle.mid_code.specs.declared.program.MidFunction.{MidFunction}
use Rattle.mid_code.specs.declared.program.MidProgram.{MidProgram}
use Rattle.mid_code.specs.declared.mid.Mid.{Mid}
use Rattle.mid_code.specs.declared.mid.Mid.TheVariants.{Call, CallPtr, Return}
use Rattle.mid_code.specs.Program.{function_at}
use Rattle.mid_code.specs.Registers.{registers_list}
use Rattle.mid_code.specs.Ways.{Way, Next, Counts, Begins, Ends, Jumps, Branches, Returns, Stops, way_of}
use Rattle.mid_code.specs.Flow.{found_at, goes_to, open_behind, is_not_newest, has_open, has_others, way_closes_wrongly, enters_wrongly}
use Rattle.mid_code.specs.Rules.{is_bad_static, has_bad_statics, has_large_type, has_bad_parts, has_bad_type, is_number_alone, same_kind, is_of_kind, are_of_kinds, starts_with_kinds, misfits, misfits_type, misfits_params, misreturns, type_of}
use Rattle.mid_code.specs.Valid.{IsValid}
use Rattle.mid_code.specs.WellFormed.{HaveKinds, FitsType, FitsTypes, EndsNewest, Nests, IsInstruction, IsFunction, IsStaticObject, AreStaticObjects, IsWellFormed}
use Rattle.mid_code.proofs.Keeping.{KeepsRules, neither, keeps, keeps_function, keeps_program, same_kinds, kind_found}
use Rattle.mid_code.proofs.Flowing.{in_order, followed, entered_here}
use Rattle.mid_code.proofs.Naming.{not_zero}
use Rattle.mid_code.proofs.Values.{one_within}

-- no element passes a test
none_passes : {X : Type 0} (test : X → Bool) (xs : List X) → list_any test xs ≡ false → All (λ x. test x ≡ false) xs
none_passes test [] h = All-nil (λ x. test x ≡ false)
none_passes test (x ∷ xs) h =
    let both = neither (test x) (list_any test xs) h in
    All-cons (λ y. test y ≡ false) x xs both.0 (none_passes test xs both.1)

each_so : {X : Type 0} (P Q : X → Type 0) (xs : List X) → ((x : X) → P x → Q x) → All P xs → All Q xs
each_so P Q xs so all = λ k d within. so _ (all k d within)

-- statics
last_kept : (long here : Bool) → (long && here) ≡ false → long ≡ true → here ≡ false
last_kept true here h is = h
last_kept false here h is = absurd (cc)

object_kept : (object : Static) → is_bad_static object ≡ false → IsStaticObject object
object_kept object h =
    let a = neither (object.cells == 0 || nat_lt object.cells (length object.values) || list_any (λ value. nat_le (2 ^ 44) value) object.values) _ h in
    let b = neither (object.cells == 0 || nat_lt object.cells (length object.values)) _ a.0 in
    let c = neither (object.cells == 0) _ b.0 in
    record {
      cells = not_zero object.cells c.0;
      room = ltb-false object.cells (length object.values) c.1;
      small = each_so (λ v. nat_le (2 ^ 44) v ≡ false) (λ v. v < 2 ^ 44) object.values (λ v is. leb-false (2 ^ 44) v is) (none_passes (λ v. nat_le (2 ^ 44) v) object.values b.1);
      last = λ long.
          eqb-false (slice_index object.values (length object.values - 1)) 0
          (last_kept (nat_lt 0 (length object.values)) (slice_index object.values (length object.values - 1) == 0) a.1 (lt-ltb 0 (length object.values) long));
    }

statics_kept : (objects : List Static) → has_bad_statics objects ≡ false → AreStaticObjects objects
statics_kept objects h =
    let both = neither (list_any is_bad_static objects) (nat_lt 1048576 (sum_by (λ object. object.cells) objects)) h in
    record {
      each = each_so (λ o. is_bad_static o ≡ false) IsStaticObject objects object_kept (none_passes is_bad_static objects both.0);
      few = ltb-false 1048576 (sum_by (λ (o : Static). o.cells) objects) both.1;
    }

-- kinds
have_more : (kinds : List RegisterKind) (r : ℕ) (rs : List ℕ) (w : RegisterKind) (ws : List RegisterKind) → slice_get kinds r ≡ Some w → HaveKinds kinds rs ws → HaveKinds kinds (r ∷ rs) (w ∷ ws)
have_more kinds r rs w ws first rest = record { count = ap suc rest.count; each = each } where
  each : (k register : ℕ) (kind : RegisterKind) → slice_get (r ∷ rs) k ≡ Some register → slice_get (w ∷ ws) k ≡ Some kind → slice_get kinds register ≡ Some kind
  each zero register kind at at_kind =
      let same : r ≡ register = cc in
      let same_wanted : w ≡ kind = cc in
      sym (ap (slice_get kinds) same) ∙ first ∙ ap (λ x. Some x) same_wanted
  each (suc k) register kind at at_kind = rest.each k register kind at at_kind

have_kinds : (kinds : List RegisterKind) (registers : List ℕ) (wanted : List RegisterKind) → are_of_kinds kinds registers wanted ≡ true → HaveKinds kinds registers wanted
have_kinds kinds [] [] h = record { count = refl; each = λ k register kind at at_kind. absurd (cc) }
have_kinds kinds [] (w ∷ ws) h = absurd (cc)
have_kinds kinds (r ∷ rs) [] h = absurd (cc)
have_kinds kinds (r ∷ rs) (w ∷ ws) h =
    let both = and_parts (is_of_kind (slice_get kinds r) w) (are_of_kinds kinds rs ws) h in
    have_more kinds r rs w ws (kind_found (slice_get kinds r) w both.0) (have_kinds kinds rs ws both.1)

fits_type : (kinds : List RegisterKind) (target : ℕ) (args : List ℕ) (type : FunType) → misfits_type kinds target args (Some type) ≡ false → FitsType kinds target args type
fits_type kinds target args type h =
    let both = neither (not (is_of_kind (slice_get kinds target) type.result)) (not (are_of_kinds kinds args type.params)) h in
    record {
      result = kind_found (slice_get kinds target) type.result (not-false (is_of_kind (slice_get kinds target) type.result) both.0);
      passed = have_kinds kinds args type.params (not-false (are_of_kinds kinds args type.params) both.1);
    }

starts_with : (kinds params : List RegisterKind) → length params ≤ length kinds → starts_with_kinds kinds params ≡ true → (register : ℕ) (kind : RegisterKind) → slice_get params register ≡ Some kind → slice_get kinds register ≡ Some kind
starts_with kinds [] room h register kind at = absurd (cc)
starts_with [] (p ∷ ps) room h register kind at = absurd (omega (arith, room))
starts_with (k ∷ ks) (p ∷ ps) room h zero kind at =
    let both = and_parts (same_kind k p) (starts_with_kinds ks ps) h in
    ap (λ x. Some x) (same_kinds k p both.0) ∙ at
starts_with (k ∷ ks) (p ∷ ps) room h (suc register) kind at =
    let both = and_parts (same_kind k p) (starts_with_kinds ks ps) h in
    starts_with ks ps (omega (arith, room)) both.1 register kind at

-- types
module _ (program : MidProgram) (number : ℕ) (f : MidFunction) (type : FunType) where
  fits_types : slice_get program.types f.ty ≡ Some type → (mid : Mid) → misfits program number f mid ≡ false → FitsTypes program number f type mid
  fits_types typed (Call target callee args) h = λ called of found is.
      fits_type f.kinds target (registers_list args) of (subst (λ t. misfits_type f.kinds target (registers_list args) t ≡ false) (ap (type_of program) found ∙ is) h)
  fits_types typed (CallPtr target callee ty args) h = λ of is.
      fits_type f.kinds target (registers_list args) of (subst (λ t. misfits_type f.kinds target (registers_list args) t ≡ false) is h)
  fits_types typed (Return source) h =
      let both = neither (number == program.main) (misreturns f.kinds source (slice_get program.types f.ty)) h in
      let right : misreturns f.kinds source (Some type) ≡ false = subst (λ t. misreturns f.kinds source t ≡ false) typed both.1 in
      (eqb-false number program.main both.0, kind_found (slice_get f.kinds source) type.result (not-false (is_of_kind (slice_get f.kinds source) type.result) right))
  fits_types typed _ h = tt

-- nesting
newest : (begun : ℕ) (opened : List ℕ) → is_not_newest begun opened ≡ false → (rest : List ℕ) × (opened ≡ begun ∷ rest)
newest begun [] h = absurd (cc)
newest begun (n ∷ rest) h = (rest, ap (λ m. m ∷ rest) (eqb-true n begun (not-false (n == begun) h)))

none_open : (opened : List ℕ) → has_open opened ≡ false → opened ≡ []
none_open [] h = refl
none_open (n ∷ rest) h = absurd (cc)

ends_newest : (way : Way) (opened : List ℕ) → way_closes_wrongly way opened ≡ false → EndsNewest way opened
ends_newest Next opened h = tt
ends_newest Counts opened h = tt
ends_newest Begins opened h = tt
ends_newest (Ends begun) opened h = newest begun opened h
ends_newest (Jumps target) opened h = tt
ends_newest (Branches target) opened h = tt
ends_newest Returns opened h = none_open opened h
ends_newest Stops opened h = tt

among : (test : ℕ → Bool) (target : ℕ) (ts : List ℕ) → list_any test ts ≡ false → list_any (λ next. next == target) ts ≡ true → test target ≡ false
among test target [] h is = absurd (cc)
among test target (t ∷ ts) h is =
    let both = neither (test t) (list_any test ts) h in
    elim (or_cases (t == target) (list_any (λ next. next == target) ts) is) as (λ _. test target ≡ false) [
      | inl here ↦ ap test (sym (eqb-true t target here)) ∙ both.0
      | inr later ↦ among test target ts both.1 later
    ]

nests : (code : List MidLine) (place : ℕ) (mid : Mid) (opened : List ℕ) → way_closes_wrongly (way_of mid) opened ≡ false → enters_wrongly code place mid opened ≡ false → Nests code place mid opened
nests code place mid opened closes enters = record {
  ends = ends_newest (way_of mid) opened closes;
  same = λ target is within.
      entered_here code target (open_behind place mid opened)
      (among (λ t. nat_lt t (length code) && has_others (found_at code t) (open_behind place mid opened)) target (goes_to place mid) enters is) within;
}

-- functions
record Typed (is_main : Bool) (f : MidFunction) (found : Option FunType) : Type 0 where
  type : FunType
  is : found ≡ Some type
  room : length type.params ≤ length f.kinds
  main : is_main ≡ true → (length type.params ≡ 0) × (type.result ≡ Number)

typed_by : (is_main : Bool) (f : MidFunction) (found : Option FunType) → has_bad_type is_main f found ≡ false → Typed is_main f found
typed_by is_main f None h = absurd (cc)
typed_by is_main f (Some t) h =
    let both = neither (nat_lt (length f.kinds) (length t.params)) (is_main && not (is_number_alone t)) h in
    record {
      type = t;
      is = refl;
      room = ltb-false (length f.kinds) (length t.params) both.0;
      main = λ yes.
          let fact = and_parts (length t.params == 0) (same_kind t.result Number) (not-false (is_number_alone t) (last_kept is_main (not (is_number_alone t)) both.1 yes)) in
          (eqb-true (length t.params) 0 fact.0, same_kinds t.result Number fact.1);
    }

params_kept : (f : MidFunction) (found : Option FunType) (type : FunType) → found ≡ Some type → misfits_params f found ≡ false → starts_with_kinds f.kinds type.params ≡ true
params_kept f found type is h = not-false (starts_with_kinds f.kinds type.params) (subst (λ t. misfits_params f t ≡ false) is h)

module _ (program : MidProgram) (number : ℕ) (f : MidFunction) (valid : IsValid program) (found : function_at program number ≡ Some f) where
  kept_at : (place : ℕ) (l : MidLine) → slice_get f.code place ≡ Some l → KeepsRules program number f place l.mid
  kept_at place l at = keeps program number place f l valid found at

  instruction : (type : FunType) → slice_get program.types f.ty ≡ Some type → (place : ℕ) (l : MidLine) → slice_get f.code place ≡ Some l → IsInstruction program number f type place l.mid
  instruction type typed place l at =
      let k = kept_at place l at in
      record {
        fields = k.fields;
        followed = λ more. followed program number f place l.mid k more (slice_get_within f.code place l at);
        types = fits_types program number f type typed l.mid k.fits;
        nests = λ opened reached.
            let order = in_order f.code place l.mid opened k.ordered reached in
            nests f.code place l.mid opened order.0 order.1;
      }

  pub well_formed_function : IsFunction program number f
  well_formed_function =
      let e = neither (length f.kinds == 0 || nat_lt 1024 (length f.kinds) || length f.code == 0 || nat_lt 65535 (length f.code)) (has_bad_type (number == program.main) f (slice_get program.types f.ty)) (keeps_function program number f valid found) in
      let d = neither (length f.kinds == 0 || nat_lt 1024 (length f.kinds) || length f.code == 0) (nat_lt 65535 (length f.code)) e.0 in
      let c = neither (length f.kinds == 0 || nat_lt 1024 (length f.kinds)) (length f.code == 0) d.0 in
      let b = neither (length f.kinds == 0) (nat_lt 1024 (length f.kinds)) c.0 in
      let t = typed_by (number == program.main) f (slice_get program.types f.ty) e.1 in
      let some = not_zero (length f.code) c.1 in
      let first = one_within f.code 0 (omega (arith, some)) in
      record {
        registers = (not_zero (length f.kinds) b.0, ltb-false 1024 (length f.kinds) b.1);
        code = (some, ltb-false 65535 (length f.code) d.1);
        type = t.type;
        typed = t.is;
        params = starts_with f.kinds t.type.params t.room (params_kept f (slice_get program.types f.ty) t.type t.is (kept_at 0 first.0 first.1).params);
        main = λ same. t.main (eq-eqb number program.main same);
        each = instruction t.type t.is;
      }

pub well_formed : (program : MidProgram) → IsValid program → IsWellFormed program
well_formed program valid =
    let statics = neither (has_large_type program.types || has_bad_parts program || has_bad_statics program.main_statics) (has_bad_statics program.binary_statics) (keeps_program program valid) in
    let first = neither (has_large_type program.types || has_bad_parts program) (has_bad_statics program.main_statics) statics.0 in
    let parts = neither (has_large_type program.types) (has_bad_parts program) first.0 in
    let types = neither (nat_lt 65535 (length program.types)) (list_any (λ type. nat_lt 16 (length type.params)) program.types) parts.0 in
    let e = neither (nat_lt (length program.functions) program.main_functions || nat_lt 4096 program.main_functions || nat_lt 4096 (length program.functions - program.main_functions) || program.main == 0) (nat_lt program.main_functions program.main) parts.1 in
    let d = neither (nat_lt (length program.functions) program.main_functions || nat_lt 4096 program.main_functions || nat_lt 4096 (length program.functions - program.main_functions)) (program.main == 0) e.0 in
    let c = neither (nat_lt (length program.functions) program.main_functions || nat_lt 4096 program.main_functions) (nat_lt 4096 (length program.functions - program.main_functions)) d.0 in
    let a = neither (nat_lt (length program.functions) program.main_functions) (nat_lt 4096 program.main_functions) c.0 in
    record {
      types = ltb-false 65535 (length program.types) types.0;
      parameters = each_so (λ (t : FunType). nat_lt 16 (length t.params) ≡ false) (λ (t : FunType). length t.params ≤ 16) program.types (λ t is. ltb-false 16 (length t.params) is) (none_passes (λ (t : FunType). nat_lt 16 (length t.params)) program.types types.1);
      main_functions = (ltb-false (length program.functions) program.main_functions a.0, ltb-false 4096 program.main_functions a.1);
      binary_functions = ltb-false 4096 (length program.functions - program.main_functions) c.1;
      main = (not_zero program.main d.1, ltb-false program.main_functions program.main e.1);
      main_statics = statics_kept program.main_statics first.1;
      binary_statics = statics_kept program.binary_statics statics.1;
      functions = λ number f found. well_formed_function program number f valid found;
    }
