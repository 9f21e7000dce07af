-- A well-formed program is valid.
use Rattle.std.proofs.Common.{inl, inr, ◌≡◌, ℕ, zero, suc, ◌+◌, ◌-◌, ◌<◌, ◌≤◌, ◌^◌, List, [], ◌∷◌, length, Option, Some, None, Bool, true, false, refl, ap, ◌∙◌, arith}
use Rattle.std.specs.Prelude.{◌&&◌, ◌||◌, not, ◌==◌, nat_lt, nat_le, slice_get, slice_index, sum_by, All}
use Rattle.std.specs.List.{list_any}
use Rattle.std.specs.Option.{option_or}
use Rattle.std.proofs.lemmas.Bool.{cases_lt, ltb-true, leb-true, eqb-true, eq-eqb, ne_eqb, le-ltb, lt-leb}
use Rattle.std.proofs.Math.Bool.{and-false}
use Rattle.std.proofs.lemmas.List.Folds.{list_any_none}
use Rattle.std.proofs.lemmas.Option.{slice_get_within}
use Rattle.srmt_base.specs.declared.statics.Static.{Static}
use Rattle.mid_code.specs.declared.program.RegisterKind.{RegisterKind}
use Rattle.mid_code.specs.declared.program.RegisterKind.TheVariants.{Number, Address}
use Rattle.mid_code.specs.declared.program.FunType.{FunType}
use Rattle.mid_code.specs.declared.program.MidLine.{MidLine}
use Rattle.mid_code.specs.declared.program.MidFunction.{MidFunction}
use Rattle.mid_code.specs.declared.program.MidProgram.{MidProgram}
use Rattle.mid_code.specs.declared.mid.Mid.{Mid}
use Rattle.mid_code.specs.declared.mid.Mid.TheVariants.{Call, CallPtr, Return}
use Rattle.mid_code.specs.Program.{function_at}
use Rattle.mid_code.specs.Registers.{registers_list}
use Rattle.mid_code.specs.Ways.{Way, Next, Counts, Begins, Ends, Jumps, Branches, Returns, Stops, way_of, is_final}
use Rattle.mid_code.specs.Flow.{found_at, goes_to, open_behind, is_not_newest, has_open, has_others, way_closes_wrongly, closes_wrongly, enters_wrongly, breaks_order, breaks_order_by}
use Rattle.mid_code.specs.Fields.{Field, Writes, Reads, Passes, Value, Operator, Comparison, AnyType, ArithmeticType, Negated, Scale, Cells, StaticObject, Callable, TypeNumber, Beginning, Target, Wanted, Any, Kind, Like, fields}
use Rattle.mid_code.specs.Rules.{is_bad_static, has_bad_statics, has_large_type, has_bad_parts, breaks_program, has_bad_type, breaks_function, is_number_alone, same_kind, is_of_kind, is_of_other_kind, has_other_kind, is_outside, is_turn, is_bad_target, are_of_kinds, starts_with_kinds, broken, register_rule, value_rule, field_rule, lesser, fields_rule, runs_out, misfits, misfits_type, misfits_params, misfits_at, misreturns, type_of, early_rule, instruction_rule, line_rule, function_rule, rule_broken}
use Rattle.mid_code.specs.Valid.{IsValid}
use Rattle.mid_code.specs.WellFormed.{HasKind, IsRegister, IsConstant, IsTarget, KeepsField, KeepsFields, HaveKinds, FitsType, FitsTypes, EndsNewest, Nests, IsInstruction, IsFunction, IsStaticObject, AreStaticObjects, IsWellFormed}
use Rattle.mid_code.proofs.Keeping.{kind_found}
use Rattle.mid_code.proofs.Values.{one_within}
use Rattle.mid_code.proofs.Passing.{same_refl}
use Rattle.mid_code.proofs.FirstLemmas.{rule_within, none_broken}

-- tests that are false
both_false : (a b : Bool) → a ≡ false → b ≡ false → (a || b) ≡ false
both_false true b first second = absurd (cc)
both_false false b first second = second

more_than : (a b : ℕ) → b < a → nat_le a b ≡ false
more_than a b less = lt-leb a b less

some_not_zero : (n : ℕ) → 1 ≤ n → (n == 0) ≡ false
some_not_zero n some = ne_eqb n 0 (λ e. omega (arith, e))

not_broken : (rule : ℕ) (breaks : Bool) → breaks ≡ false → broken rule breaks ≡ None
not_broken rule breaks h = ap (broken rule) h

neither_broken : (one two : ℕ) (first second : Bool) → first ≡ false → second ≡ false → option_or (broken one first) (broken two second) ≡ None
neither_broken one two first second a b = ap (λ x. option_or (broken one x) (broken two second)) a ∙ not_broken two second b

none_each : {X : Type 0} (P : X → Type 0) (test : X → Bool) (xs : List X) → ((x : X) → P x → test x ≡ false) → All P xs → list_any test xs ≡ false
none_each P test xs so all = list_any_none test xs (λ k d within. so _ (all k d within))

-- where one test holds, the other is false
where_true : (first second : Bool) → (first ≡ true → second ≡ false) → (first && second) ≡ false
where_true true second h = h refl
where_true false second h = refl

-- kinds
same_kind_refl : (kind : RegisterKind) → same_kind kind kind ≡ true
same_kind_refl Number = refl
same_kind_refl Address = refl

of_kind : (found : Option RegisterKind) (kind : RegisterKind) → found ≡ Some kind → is_of_kind found kind ≡ true
of_kind found kind is = ap (λ f. is_of_kind f kind) is ∙ same_kind_refl kind

like_other : (found other : Option RegisterKind) → ((kind : RegisterKind) → other ≡ Some kind → found ≡ Some kind) → is_of_other_kind found other ≡ false
like_other found None h = refl
like_other found (Some kind) h = ap not (of_kind found kind (h kind refl))

wanted_there : (kinds : List RegisterKind) (register : ℕ) (wanted : Wanted) → HasKind kinds register wanted → has_other_kind kinds register wanted ≡ false
wanted_there kinds register Any h = refl
wanted_there kinds register (Kind kind) h = ap not (of_kind (slice_get kinds register) kind h)
wanted_there kinds register (Like other) h = like_other (slice_get kinds register) (slice_get kinds other) h

-- fields
register_right : (kinds : List RegisterKind) (register : ℕ) (wanted : Wanted) → IsRegister kinds register wanted → register_rule kinds register wanted ≡ None
register_right kinds register wanted h =
    neither_broken 3 4 (is_outside kinds register) (has_other_kind kinds register wanted) (more_than (length kinds) register h.there) (wanted_there kinds register wanted h.kind)

constant_right : (kinds : List RegisterKind) (value register : ℕ) → IsConstant kinds value register → value_rule kinds value register ≡ None
constant_right kinds value register h =
    neither_broken 1 4 (nat_le (2 ^ 44) value) (nat_lt 0 value && is_of_kind (slice_get kinds register) Address) (more_than (2 ^ 44) value h.small)
    (where_true (nat_lt 0 value) (is_of_kind (slice_get kinds register) Address) (λ some. number_of (is_of_kind (slice_get kinds register) Address) refl (ltb-true 0 value some)))
  where
    number_of : (is_address : Bool) → is_of_kind (slice_get kinds register) Address ≡ is_address → 0 < value → is_of_kind (slice_get kinds register) Address ≡ false
    number_of true is some = absurd (omega (arith, h.null (kind_found (slice_get kinds register) Address is)))
    number_of false is some = is

target_right : (code : List MidLine) (place target : ℕ) → IsTarget code place target → is_bad_target code place target ≡ false
target_right code place target h =
    both_false (nat_le (length code) target) (nat_le target place && not (is_turn (slice_get code target))) (more_than (length code) target h.within)
    (where_true (nat_le target place) (not (is_turn (slice_get code target))) (λ back. ap not (h.back (leb-true target place back))))

module _ (program : MidProgram) (f : MidFunction) (place : ℕ) where
  field_right : (field : Field) → KeepsField program f place field → field_rule program f place field ≡ None
  field_right (Writes register wanted) h = register_right f.kinds register wanted h
  field_right (Reads register wanted) h = register_right f.kinds register wanted h
  field_right (Passes args) h =
      not_broken 3 (list_any (is_outside f.kinds) (registers_list args))
      (none_each (λ r. r < length f.kinds) (is_outside f.kinds) (registers_list args) (λ r there. more_than (length f.kinds) r there) h)
  field_right (Value value register) h = constant_right f.kinds value register h
  field_right (Operator op) h = refl
  field_right (Comparison op) h = not_broken 3 _ (ap not h)
  field_right (AnyType ty) h = refl
  field_right (ArithmeticType ty) h = not_broken 3 _ (ap not h)
  field_right (Negated negated) h = refl
  field_right (Scale scale) h = not_broken 3 (scale == 0) (some_not_zero scale h)
  field_right (Cells cells) h = not_broken 1 (cells == 0) (some_not_zero cells h)
  field_right (StaticObject object) h = not_broken 3 _ (ap not h)
  field_right (Callable number) h = not_broken 3 _ (ap not h)
  field_right (TypeNumber ty) h = not_broken 3 _ (more_than (length program.types) ty h)
  field_right (Beginning begun) h = not_broken 5 _ (more_than (length f.code) begun h)
  field_right (Target target) h = not_broken 5 _ (target_right f.code place target h)

  fields_right : (fs : List Field) → KeepsFields program f place fs → fields_rule program f place fs ≡ None
  fields_right [] h = refl
  fields_right (field ∷ rest) h = ap (λ first. lesser first (fields_rule program f place rest)) (field_right field h.0) ∙ fields_right rest h.1

-- types
of_kinds : (kinds : List RegisterKind) (registers : List ℕ) (wanted : List RegisterKind) → HaveKinds kinds registers wanted → are_of_kinds kinds registers wanted ≡ true
of_kinds kinds [] [] h = refl
of_kinds kinds [] (w ∷ ws) h = absurd (omega (arith, h.count))
of_kinds kinds (r ∷ rs) [] h = absurd (omega (arith, h.count))
of_kinds kinds (r ∷ rs) (w ∷ ws) h =
    ap (λ b. b && are_of_kinds kinds rs ws) (of_kind (slice_get kinds r) w (h.each 0 r w refl refl))
    ∙ of_kinds kinds rs ws (record { count = omega (arith, h.count); each = λ k register kind at at_kind. h.each (suc k) register kind at at_kind })

type_right : (kinds : List RegisterKind) (target : ℕ) (args : List ℕ) (type : FunType) → FitsType kinds target args type → misfits_type kinds target args (Some type) ≡ false
type_right kinds target args type h =
    both_false (not (is_of_kind (slice_get kinds target) type.result)) (not (are_of_kinds kinds args type.params))
    (ap not (of_kind (slice_get kinds target) type.result h.result)) (ap not (of_kinds kinds args type.params h.passed))

any_type_right : (kinds : List RegisterKind) (target : ℕ) (args : List ℕ) (found : Option FunType) → ((type : FunType) → found ≡ Some type → FitsType kinds target args type) → misfits_type kinds target args found ≡ false
any_type_right kinds target args None h = refl
any_type_right kinds target args (Some type) h = type_right kinds target args type (h type refl)

called_right : (program : MidProgram) (kinds : List RegisterKind) (target : ℕ) (args : List ℕ) (found : Option MidFunction) →
    ((called : MidFunction) (of : FunType) → found ≡ Some called → slice_get program.types called.ty ≡ Some of → FitsType kinds target args of) → misfits_type kinds target args (type_of program found) ≡ false
called_right program kinds target args None h = refl
called_right program kinds target args (Some called) h = any_type_right kinds target args (slice_get program.types called.ty) (λ of is. h called of refl is)

module _ (program : MidProgram) (number : ℕ) (f : MidFunction) (type : FunType) where
  types_right : slice_get program.types f.ty ≡ Some type → (mid : Mid) → FitsTypes program number f type mid → misfits program number f mid ≡ false
  types_right typed (Call target callee args) h = called_right program f.kinds target (registers_list args) (function_at program callee) h
  types_right typed (CallPtr target callee ty args) h = any_type_right f.kinds target (registers_list args) (slice_get program.types ty) h
  types_right typed (Return source) h =
      both_false (number == program.main) (misreturns f.kinds source (slice_get program.types f.ty)) (ne_eqb number program.main h.0)
      (ap (misreturns f.kinds source) typed ∙ ap not (of_kind (slice_get f.kinds source) type.result h.1))
  types_right typed _ h = refl

starts_right : (kinds params : List RegisterKind) → ((register : ℕ) (kind : RegisterKind) → slice_get params register ≡ Some kind → slice_get kinds register ≡ Some kind) → starts_with_kinds kinds params ≡ true
starts_right kinds [] h = refl
starts_right [] (p ∷ ps) h = refl
starts_right (k ∷ ks) (p ∷ ps) h =
    let same : k ≡ p = first_of (h 0 p refl) in
    ap (λ b. b && starts_with_kinds ks ps) (ap (λ x. same_kind x p) same ∙ same_kind_refl p) ∙ starts_right ks ps (λ register kind at. h (suc register) kind at)
  where
    first_of : {a b : RegisterKind} → Some a ≡ Some b → a ≡ b
    first_of e = cc

-- nesting
closes_right : (way : Way) (opened : List ℕ) → EndsNewest way opened → way_closes_wrongly way opened ≡ false
closes_right Next opened h = refl
closes_right Counts opened h = refl
closes_right Begins opened h = refl
closes_right (Ends begun) opened h = ap (is_not_newest begun) h.1 ∙ ap not (eq-eqb begun begun refl)
closes_right (Jumps target) opened h = refl
closes_right (Branches target) opened h = refl
closes_right Returns opened h = ap has_open h
closes_right Stops opened h = refl

or_later : (a b : Bool) → b ≡ true → (a || b) ≡ true
or_later true b h = refl
or_later false b h = h

none_among : (test : ℕ → Bool) (ts : List ℕ) → ((t : ℕ) → list_any (λ next. next == t) ts ≡ true → test t ≡ false) → list_any test ts ≡ false
none_among test [] h = refl
none_among test (x ∷ xs) h =
    both_false (test x) (list_any test xs) (h x (ap (λ b. b || list_any (λ next. next == x) xs) (eq-eqb x x refl)))
    (none_among test xs (λ t among. h t (or_later (x == t) (list_any (λ next. next == t) xs) among)))

same_found : (found : Option (List ℕ)) (left : List ℕ) → found ≡ Some left → has_others found left ≡ false
same_found found left is = ap (λ o. has_others o left) is ∙ ap not (same_refl left)

enters_right : (code : List MidLine) (place : ℕ) (mid : Mid) (opened : List ℕ) → Nests code place mid opened → enters_wrongly code place mid opened ≡ false
enters_right code place mid opened h =
    none_among (λ t. nat_lt t (length code) && has_others (found_at code t) (open_behind place mid opened)) (goes_to place mid)
    (λ t among. where_true (nat_lt t (length code)) (has_others (found_at code t) (open_behind place mid opened))
    (λ within. same_found (found_at code t) (open_behind place mid opened) (h.same t among (ltb-true t (length code) within))))

order_by : (code : List MidLine) (place : ℕ) (mid : Mid) (found : Option (List ℕ)) → ((opened : List ℕ) → found ≡ Some opened → Nests code place mid opened) → breaks_order_by code place mid found ≡ false
order_by code place mid None h = refl
order_by code place mid (Some opened) h =
    let nests = h opened refl in
    both_false (closes_wrongly mid opened) (enters_wrongly code place mid opened) (closes_right (way_of mid) opened nests.ends) (enters_right code place mid opened nests)

order_right : (code : List MidLine) (place : ℕ) (mid : Mid) → ((opened : List ℕ) → found_at code place ≡ Some opened → Nests code place mid opened) → breaks_order code place mid ≡ false
unfolding breaks_order
order_right code place mid h = order_by code place mid (found_at code place) h

-- instructions
last_right : (code : List MidLine) (place : ℕ) (mid : Mid) (final : Bool) → is_final mid ≡ final → (is_final mid ≡ false → place + 1 < length code) → runs_out code place mid ≡ false
last_right code place mid true is h = ap (λ b. place + 1 == length code && not b) is ∙ and-false (place + 1 == length code)
last_right code place mid false is h = ap (λ b. b && not (is_final mid)) (ne_eqb (place + 1) (length code) (λ e. omega (arith, e, h is)))

module _ (program : MidProgram) (number : ℕ) (f : MidFunction) (h : IsFunction program number f) where
  params_right : (first : Bool) → (first && misfits_params f (slice_get program.types f.ty)) ≡ false
  params_right first =
      ap (λ t. first && misfits_params f t) h.typed ∙ ap (λ b. first && not b) (starts_right f.kinds h.type.params h.params) ∙ and-false first

  instruction_right : (place : ℕ) (mid : Mid) → IsInstruction program number f h.type place mid → instruction_rule program number f place mid ≡ None
  unfolding early_rule
  instruction_right place mid k =
      let of_fields = fields_right program f place (fields mid) k.fields in
      let last = not_broken 6 (runs_out f.code place mid) (last_right f.code place mid (is_final mid) refl k.followed) in
      let unfit = not_broken 7 (misfits_at program number f place mid)
      (both_false (misfits program number f mid) (place == 0 && misfits_params f (slice_get program.types f.ty)) (types_right program number f h.type h.typed mid k.types) (params_right (place == 0))) in
      let order = not_broken 8 (breaks_order f.code place mid) (order_right f.code place mid k.nests) in
      ap (λ x. option_or (option_or (option_or x (broken 6 (runs_out f.code place mid))) (broken 7 (misfits_at program number f place mid))) (broken 8 (breaks_order f.code place mid))) of_fields
      ∙ ap (λ x. option_or (option_or x (broken 7 (misfits_at program number f place mid))) (broken 8 (breaks_order f.code place mid))) last
      ∙ ap (λ x. option_or x (broken 8 (breaks_order f.code place mid))) unfit ∙ order

  line_right : (place : ℕ) (found : Option MidLine) → slice_get f.code place ≡ found → line_rule program number f place found ≡ None
  line_right place None at = refl
  line_right place (Some l) at = instruction_right place l.mid (h.each place l at)

  room : length h.type.params ≤ length f.kinds
  room =
      elim (cases_lt (length f.kinds) (length h.type.params)) as (λ _. length h.type.params ≤ length f.kinds) [
        | inl more ↦
            let one = one_within h.type.params (length f.kinds) more in
            absurd (omega (arith, slice_get_within f.kinds (length f.kinds) one.0 (h.params (length f.kinds) one.0 one.1)))
        | inr most ↦ omega arith
      ]

  main_alone : (number == program.main) ≡ true → not (is_number_alone h.type) ≡ false
  main_alone is =
      let fact = h.main (eqb-true number program.main is) in
      ap not (ap (λ b. b && same_kind h.type.result Number) (eq-eqb (length h.type.params) 0 fact.0) ∙ ap (λ k. same_kind k Number) fact.1)

  type_there : has_bad_type (number == program.main) f (slice_get program.types f.ty) ≡ false
  type_there =
      ap (has_bad_type (number == program.main) f) h.typed
      ∙ both_false (nat_lt (length f.kinds) (length h.type.params)) ((number == program.main) && not (is_number_alone h.type)) (le-ltb (length f.kinds) (length h.type.params) room)
      (where_true (number == program.main) (not (is_number_alone h.type)) main_alone)

  function_right : breaks_function program number f ≡ false
  function_right =
      both_false (length f.kinds == 0 || nat_lt 1024 (length f.kinds) || length f.code == 0 || nat_lt 65535 (length f.code)) _
      (both_false (length f.kinds == 0 || nat_lt 1024 (length f.kinds) || length f.code == 0) (nat_lt 65535 (length f.code))
      (both_false (length f.kinds == 0 || nat_lt 1024 (length f.kinds)) (length f.code == 0)
      (both_false (length f.kinds == 0) (nat_lt 1024 (length f.kinds)) (some_not_zero (length f.kinds) h.registers.0) (le-ltb 1024 (length f.kinds) h.registers.1))
      (some_not_zero (length f.code) h.code.0)) (le-ltb 65535 (length f.code) h.code.1)) type_there

  place_right : (place : ℕ) → function_rule program number place (Some f) ≡ None
  place_right place = rule_within program number place f function_right ∙ line_right place (slice_get f.code place) refl

-- the whole
static_right : (object : Static) → IsStaticObject object → is_bad_static object ≡ false
static_right object h =
    both_false (object.cells == 0 || nat_lt object.cells (length object.values) || list_any (λ value. nat_le (2 ^ 44) value) object.values) _
    (both_false (object.cells == 0 || nat_lt object.cells (length object.values)) _
    (both_false (object.cells == 0) _ (some_not_zero object.cells h.cells) (le-ltb object.cells (length object.values) h.room))
    (none_each (λ v. v < 2 ^ 44) (λ v. nat_le (2 ^ 44) v) object.values (λ v small. more_than (2 ^ 44) v small) h.small))
    (where_true (nat_lt 0 (length object.values)) (slice_index object.values (length object.values - 1) == 0)
    (λ long. ne_eqb (slice_index object.values (length object.values - 1)) 0 (h.last (ltb-true 0 (length object.values) long))))

statics_right : (objects : List Static) → AreStaticObjects objects → has_bad_statics objects ≡ false
statics_right objects h =
    both_false (list_any is_bad_static objects) (nat_lt 1048576 (sum_by (λ object. object.cells) objects))
    (none_each IsStaticObject is_bad_static objects static_right h.each) (le-ltb 1048576 (sum_by (λ (o : Static). o.cells) objects) h.few)

program_right : (program : MidProgram) → IsWellFormed program → breaks_program program ≡ false
program_right program h =
    let types = both_false (nat_lt 65535 (length program.types)) (list_any (λ type. nat_lt 16 (length type.params)) program.types) (le-ltb 65535 (length program.types) h.types)
    (none_each (λ (t : FunType). length t.params ≤ 16) (λ (t : FunType). nat_lt 16 (length t.params)) program.types (λ t few. le-ltb 16 (length t.params) few) h.parameters) in
    let parts =
    both_false (nat_lt (length program.functions) program.main_functions || nat_lt 4096 program.main_functions || nat_lt 4096 (length program.functions - program.main_functions) || program.main == 0) (nat_lt program.main_functions program.main)
    (both_false (nat_lt (length program.functions) program.main_functions || nat_lt 4096 program.main_functions || nat_lt 4096 (length program.functions - program.main_functions)) (program.main == 0)
    (both_false (nat_lt (length program.functions) program.main_functions || nat_lt 4096 program.main_functions) (nat_lt 4096 (length program.functions - program.main_functions))
    (both_false (nat_lt (length program.functions) program.main_functions) (nat_lt 4096 program.main_functions) (le-ltb (length program.functions) program.main_functions h.main_functions.0) (le-ltb 4096 program.main_functions h.main_functions.1))
    (le-ltb 4096 (length program.functions - program.main_functions) h.binary_functions)) (some_not_zero program.main h.main.0)) (le-ltb program.main_functions program.main h.main.1) in
    both_false (has_large_type program.types || has_bad_parts program || has_bad_statics program.main_statics) (has_bad_statics program.binary_statics)
    (both_false (has_large_type program.types || has_bad_parts program) (has_bad_statics program.main_statics) (both_false (has_large_type program.types) (has_bad_parts program) types parts) (statics_right program.main_statics h.main_statics))
    (statics_right program.binary_statics h.binary_statics)

function_there : (program : MidProgram) (before place : ℕ) (found : Option MidFunction) → slice_get program.functions before ≡ found → IsWellFormed program → function_rule program (suc before) place found ≡ None
function_there program before place None at h = refl
function_there program before place (Some f) at h = place_right program (suc before) f (h.functions (suc before) f at) place

pub valid_from : (program : MidProgram) → IsWellFormed program → IsValid program
valid_from program h = record { unbroken = unbroken } where
  unbroken : (number place : ℕ) → rule_broken program number place ≡ None
  unbroken zero place = none_broken program place (program_right program h)
  unbroken (suc before) place = function_there program before place (slice_get program.functions before) refl h
