-- The first place that breaks a rule.
use Rattle.std.proofs.Common.{inl, inr, ◌≡◌, ℕ, zero, suc, ◌+◌, ◌-◌, ◌<◌, ◌≤◌, List, [], length, get_or, Some, None, Bool, true, false, refl, sym, ap, ◌∙◌, arith}
use Rattle.std.specs.Prelude.{nat_lt, ◌==◌, ◌&&◌, ◌||◌, if◌then◌else◌, slice_get, slice_index}
use Rattle.std.proofs.lemmas.Bool.{cases_lt, cases_eq}
use Rattle.std.proofs.lemmas.Bool.Decides.{nat_tests}
use Rattle.std.proofs.lemmas.Option.{slice_get_cases, slice_get_within, get_or_from_slice_get}
use Rattle.mid_code.specs.declared.program.MidLine.{MidLine}
use Rattle.mid_code.specs.declared.program.MidFunction.{MidFunction}
use Rattle.mid_code.specs.declared.program.MidProgram.{MidProgram}
use Rattle.mid_code.specs.declared.refusal.MidRefusal.{MidRefusal}
use Rattle.mid_code.specs.Flow.{entered_by}
use Rattle.mid_code.specs.Row.{number_of, Holds}
use Rattle.mid_code.specs.Rules.{has_large_type, has_bad_parts, has_bad_statics, breaks_program, breaks_function, line_rule, function_rule, rule_broken}
use Rattle.mid_code.specs.Valid.{IsValid, IsFirstBroken, IsSoundFunction, IsFirstIn}

-- at the start of a pass the first place is reached with nothing open
numbered : (first : Bool) → (if first then 1 else 0) ≡ number_of (if first then Some [] else None)
numbered true = refl
numbered false = refl

pub starts : (row : List ℕ) (code : List MidLine) → ((place : ℕ) → place < length code → slice_index row place ≡ (if place == 0 then 1 else 0)) → Holds row code 0
unfolding entered_by
starts row code h = record {
  behind = λ place before within. absurd (omega arith);
  ahead = λ place past within. h place within ∙ numbered (place == 0);
}

-- none of five things is wrong
five : (a b c d e : Bool) → (a || b || c || d || e) ≡ false → (a ≡ false) × (b ≡ false) × (c ≡ false) × (d ≡ false) × (e ≡ false)
five false false false false false h = (refl, refl, refl, refl, refl)
five false false false false true h = absurd (cc)
five false false false true e h = absurd (cc)
five false false true d e h = absurd (cc)
five false true c d e h = absurd (cc)
five true b c d e h = absurd (cc)

not_more : (a b : ℕ) → nat_lt a b ≡ false → b ≤ a
not_more a b h = grind (arith, nat_tests)

-- a program of few enough functions has numbers of 16 bits for them
four : (a b c d : Bool) → (a || b || c || d) ≡ false → (a ≡ false) × (b ≡ false) × (c ≡ false) × (d ≡ false)
four false false false false h = (refl, refl, refl, refl)
four false false false true h = absurd (cc)
four false false true d h = absurd (cc)
four false true c d h = absurd (cc)
four true b c d h = absurd (cc)

pub few_functions : (program : MidProgram) → breaks_program program ≡ false → length program.functions ≤ 8192
few_functions program h =
    let parts : has_bad_parts program ≡ false = (four (has_large_type program.types) (has_bad_parts program) (has_bad_statics program.main_statics) (has_bad_statics program.binary_statics) h).1 in
    let of = five (nat_lt (length program.functions) program.main_functions) (nat_lt 4096 program.main_functions) (nat_lt 4096 (length program.functions - program.main_functions)) (program.main == 0) (nat_lt program.main_functions program.main) parts in
    omega (arith, not_more (length program.functions) program.main_functions of.0, not_more 4096 program.main_functions of.1, not_more 4096 (length program.functions - program.main_functions) of.2)

-- what a function's rule is at its places
not_both : (a b : Bool) → b ≡ false → (a && b) ≡ false
not_both true b h = h
not_both false b h = refl

pub rule_within : (program : MidProgram) (number place : ℕ) (f : MidFunction) → breaks_function program number f ≡ false → function_rule program number place (Some f) ≡ line_rule program number f place (slice_get f.code place)
rule_within program number place f h =
    ap (λ b. if b then Some 1 else line_rule program number f place (slice_get f.code place)) (not_both (place == 0) (breaks_function program number f) h)

pub rule_past : (program : MidProgram) (number place : ℕ) (f : MidFunction) → breaks_function program number f ≡ false → length f.code ≤ place → function_rule program number place (Some f) ≡ None
rule_past program number place f h past =
    rule_within program number place f h
    ∙ elim (slice_get_cases f.code place).1 as (λ _. line_rule program number f place (slice_get f.code place) ≡ None) [
      | inl found ↦ absurd (omega (arith, slice_get_within f.code place found.0 found.2))
      | inr none ↦ ap (line_rule program number f place) none.1
    ]

-- all functions
pub at_function : (program : MidProgram) (before place : ℕ) (f : MidFunction) → slice_get program.functions before ≡ Some f → rule_broken program (suc before) place ≡ function_rule program (suc before) place (Some f)
at_function program before place f at = ap (function_rule program (suc before) place) at

past_functions : (program : MidProgram) (before place : ℕ) → length program.functions ≤ before → rule_broken program (suc before) place ≡ None
past_functions program before place past =
    elim (slice_get_cases program.functions before).1 as (λ _. rule_broken program (suc before) place ≡ None) [
      | inl found ↦ absurd (omega (arith, slice_get_within program.functions before found.0 found.2))
      | inr none ↦ ap (function_rule program (suc before) place) none.1
    ]

pub none_broken : (program : MidProgram) (place : ℕ) → breaks_program program ≡ false → rule_broken program 0 place ≡ None
none_broken program place h = ap (λ b. if b then Some 1 else None) (not_both (place == 0) (breaks_program program) h)

pub all_sound : (program : MidProgram) (count : ℕ) → breaks_program program ≡ false → length program.functions ≤ count → ((before place : ℕ) → before < count → rule_broken program (suc before) place ≡ None) → IsValid program
all_sound program count bounded all each = record { unbroken = unbroken } where
  unbroken : (number place : ℕ) → rule_broken program number place ≡ None
  unbroken zero place = none_broken program place bounded
  unbroken (suc before) place =
      elim (cases_lt before count) [
        | inl within ↦ each before place within
        | inr past ↦ past_functions program before place (omega arith)
      ]

pub first_of_all : (program : MidProgram) (index : ℕ) (f : MidFunction) (refusal : MidRefusal) → breaks_program program ≡ false → slice_get program.functions index ≡ Some f → ((before place : ℕ) → before < index → rule_broken program (suc before) place ≡ None) →
    IsFirstIn program (suc index) f refusal → IsFirstBroken program refusal
first_of_all program index f refusal bounded at each first = record {
  broken = ap (λ n. rule_broken program n refusal.place) first.here ∙ at_function program index refusal.place f at ∙ first.broken;
  earlier_functions = earlier;
  earlier_places = λ place before. ap (λ n. rule_broken program n place) first.here ∙ at_function program index place f at ∙ first.earlier place before;
} where
  earlier : (number place : ℕ) → number < refusal.function → rule_broken program number place ≡ None
  earlier zero place before = none_broken program place bounded
  earlier (suc n) place before = each n place (omega (arith, first.here))

pub more_functions : (program : MidProgram) (index : ℕ) (f : MidFunction) → slice_get program.functions index ≡ Some f → ((before place : ℕ) → before < index → rule_broken program (suc before) place ≡ None) → IsSoundFunction program (suc index) f →
    (before place : ℕ) → before < index + 1 → rule_broken program (suc before) place ≡ None
more_functions program index f at each here before place within =
    elim (cases_eq before index) [
      | inl same ↦ ap (λ n. rule_broken program (suc n) place) same ∙ at_function program index place f at ∙ here place
      | inr other ↦ each before place (omega arith)
    ]

-- an element by its index
pub at_index : {X : Type 0} (xs : List X) (k : ℕ) (x : X) → k < length xs → x ≡ get_or xs k x → slice_get xs k ≡ Some x
at_index xs k x within is =
    elim (slice_get_cases xs k).1 as (λ _. slice_get xs k ≡ Some x) [
      | inl found ↦ found.2 ∙ ap (λ y. Some y) (sym (is ∙ get_or_from_slice_get xs k found.0 x found.2))
      | inr past ↦ absurd (omega (arith, past.0))
    ]
