-- The middle code of a source of the first form is valid.
use Rattle.std.proofs.Common.{◌≡◌, ◌≢◌, ℕ, zero, suc, ◌+◌, ◌*◌, ◌^◌, ◌<◌, ◌≤◌, List, [], ◌∷◌, ◌++◌, length, take, get_or, All, Option, Some, None, Bool, true, false, ◌⊎◌, inl, inr, refl, sym, ap, subst, ◌∙◌, arith, append_assoc, length-append}
use Rattle.std.specs.Prelude.{slice_get, ◌==◌, ◌&&◌, ◌||◌, not, nat_lt, if◌then◌else◌}
use Rattle.std.specs.List.{flat_map, AllByRecursion, list_any}
use Rattle.std.proofs.Math.Seq.{get_or-append_seam}
use Rattle.std.proofs.lemmas.Bool.{ne_eqb, eq-eqb, eqb-true, le-ltb, lt-leb}
use Rattle.std.proofs.lemmas.List.Concat.{flat_map-cons}
use Rattle.std.proofs.lemmas.List.Elements.{All-cons, All-from_recursion}
use Rattle.std.proofs.lemmas.Option.{get_or_from_slice_get}
use Rattle.srmt_base.specs.declared.ty.Ty.TheVariants.{Int, UChar}
use Rattle.mid_code.specs.declared.program.MidFunction.{MidFunction}
use Rattle.mid_code.specs.declared.program.MidLine.{MidLine}
use Rattle.mid_code.specs.declared.mid.Mid.{Mid}
use Rattle.mid_code.specs.declared.mid.Mid.TheVariants.{Const, Conv, Put, Exit}
use Rattle.mid_code.specs.declared.field.Field.TheVariants.{Value}
use Rattle.mid_code.specs.Fields.{fields}
use Rattle.mid_code.specs.Ways.{is_final}
use Rattle.mid_code.specs.Flow.{goes_to, is_target, open_behind, open_into, entered_by, found_at, same_places, has_others, closes_wrongly, enters_wrongly, breaks_order_by, breaks_order}
use Rattle.mid_code.specs.Rules.{breaks_function, broken, field_rule, lesser, fields_rule, runs_out, misfits, misfits_params, early_rule, instruction_rule, line_rule, function_rule, rule_broken}
use Rattle.mid_code.specs.Valid.{IsValid}
use Rattle.mid_code.specs.declared.class.Shared.{Shared}
use Rattle.mid_code.specs.Classes.{sharings, site_count, all_sites, protected_functions}
use Rattle.mid_code.specs.Closed.{all_of, everything_shared}
use Rattle.mid_code.specs.Pairs.{IsOfFirstForm, HasSites}
use Rattle.mid_code.proofs.AllShared.{everything_closed}
use Rattle.mid_code.proofs.Values.{found_one}
use Rattle.first_form.specs.declared.source.PutConstant.{PutConstant}
use Rattle.first_form.specs.declared.source.FirstForm.{FirstForm}
use Rattle.first_form.specs.FirstForm.{IsFirstForm}
use Rattle.first_form.specs.Lowered.{put_code, tail_code, code_of, main_of, program_of}

-- the rule of limits
abbrev first : Option ℕ
first = Some 1

-- an instruction that leads to the next place alone, with the same open objects
pub record Leads (mid : Mid) : Type 0 where
  pub final : is_final mid ≡ false
  pub next : (place : ℕ) → goes_to place mid ≡ (place + 1) ∷ []
  pub keeps : (place : ℕ) (found : List ℕ) → open_behind place mid found ≡ found
  pub closes : (found : List ℕ) → closes_wrongly mid found ≡ false

-- an instruction that keeps each rule that depends on it alone
pub record IsOurs (form : FirstForm) (mid : Mid) : Type 0 where
  pub fields : (place : ℕ) → fields_rule (program_of form) (main_of form) place (fields mid) ≡ None
  pub fits : misfits (program_of form) 1 (main_of form) mid ≡ false
  pub way : Leads mid ⊎ (mid ≡ Exit 0)

small_value : (form : FirstForm) (place v : ℕ) → v ≤ 2147483647 → field_rule (program_of form) (main_of form) place (Value v 0) ≡ None
small_value form place v most = rw (lt-leb (2 ^ 44) v (omega arith)) (by_test (nat_lt 0 v))
  where
    by_test : (b : Bool) → broken 4 (b && false) ≡ None
    by_test true = refl
    by_test false = refl

const_ours : (form : FirstForm) (v : ℕ) → v ≤ 2147483647 → IsOurs form (Const 0 v)
const_ours form v h = record {
  fields = λ place. ap (λ rule. lesser None (lesser rule None)) (small_value form place v h);
  fits = refl;
  way = inl (record { final = refl; next = λ place. refl; keeps = λ place found. refl; closes = λ found. refl });
}

put_ours : (form : FirstForm) → IsOurs form (Put 0)
put_ours form = record {
  fields = λ place. refl;
  fits = refl;
  way = inl (record { final = refl; next = λ place. refl; keeps = λ place found. refl; closes = λ found. refl });
}

conv_ours : (form : FirstForm) → IsOurs form (Conv Int UChar 0 0)
conv_ours form = record {
  fields = λ place. refl;
  fits = refl;
  way = inl (record { final = refl; next = λ place. refl; keeps = λ place found. refl; closes = λ found. refl });
}

exit_ours : (form : FirstForm) → IsOurs form (Exit 0)
exit_ours form = record { fields = λ place. refl; fits = refl; way = inr refl }

abbrev IsOurLine : FirstForm → MidLine → Type 0
IsOurLine form l = IsOurs form l.mid

puts_ours : (form : FirstForm) (puts : List PutConstant) (rest : List MidLine) → AllByRecursion (λ p. p.constant.value ≤ 2147483647) puts → AllByRecursion (IsOurLine form) rest → AllByRecursion (IsOurLine form) (flat_map put_code puts ++ rest)
puts_ours form [] rest h r = r
puts_ours form (p ∷ others) rest h r = subst (λ (x : List MidLine). AllByRecursion (IsOurLine form) (x ++ rest)) (sym (flat_map-cons put_code p others)) (const_ours form p.constant.value h.0, (put_ours form, (conv_ours form, puts_ours form others rest h.1 r)))

-- the places of a code whose instructions lead to the next place, or nowhere
AreOurs : FirstForm → List MidLine → Type 0
AreOurs form code = (place : ℕ) (l : MidLine) → slice_get code place ≡ Some l → IsOurs form l.mid

other_place : (form : FirstForm) (mid : Mid) (place target : ℕ) → IsOurs form mid → place + 1 ≢ target → is_target place mid target ≡ false
other_place form mid place target ours other = by_way ours.way
  where
    by_way : Leads mid ⊎ (mid ≡ Exit 0) → is_target place mid target ≡ false
    by_way (inl leads) = ap (list_any (λ next. next == target)) (leads.next place) ∙ ap (λ b. b || false) (ne_eqb (place + 1) target other)
    by_way (inr exit) = ap (λ x. is_target place x target) exit

no_entry : (form : FirstForm) (place target : ℕ) (found : Option (List ℕ)) (line : Option MidLine) → ((l : MidLine) → line ≡ Some l → IsOurs form l.mid) → place + 1 ≢ target → open_into target place found line ≡ None
no_entry form place target None line ours other = refl
no_entry form place target (Some found) None ours other = refl
no_entry form place target (Some found) (Some l) ours other = ap (λ b. if b then Some (open_behind place l.mid found) else None) (other_place form l.mid place target (ours l refl) other)

not_before : (form : FirstForm) (code : List MidLine) → AreOurs form code → (n target : ℕ) → n < target → entered_by code n target ≡ None
unfolding entered_by AreOurs
not_before form code ours zero target h = ap (λ b. if b then Some [] else None) (ne_eqb target 0 (λ e. absurd (omega (arith, e, h))))
not_before form code ours (suc place) target h =
    let first = not_before form code ours place target (omega arith) in
    let last = no_entry form place target (entered_by code place place) (slice_get code place) (ours place) (λ e. absurd (omega (arith, e, h))) in
    rw (first, last) refl

same_places-same : (xs : List ℕ) → same_places xs xs ≡ true
same_places-same [] = refl
same_places-same (x ∷ xs) = rw (eq-eqb x x refl) (same_places-same xs)

-- what is open at the next place
found_next : (form : FirstForm) (code : List MidLine) (place : ℕ) (l : MidLine) (found : List ℕ) → AreOurs form code → slice_get code place ≡ Some l → found_at code place ≡ Some found → Leads l.mid → found_at code (place + 1) ≡ Some found
unfolding entered_by
found_next form code place l found ours at here leads =
    let e : place + 1 ≡ suc place = omega arith in
    let before : entered_by code place (suc place) ≡ None = not_before form code ours place (suc place) (omega arith) in
    let goes : is_target place l.mid (suc place) ≡ true = ap (list_any (λ next. next == suc place)) (leads.next place) ∙ ap (λ b. b || false) (eq-eqb (place + 1) (suc place) (omega arith)) in
    let step : open_into (suc place) place (Some found) (Some l) ≡ Some found = ap (λ b. if b then Some (open_behind place l.mid found) else None) goes ∙ ap Some (leads.keeps place found) in
    rw (e, before, here, at) step

in_order : (form : FirstForm) (code : List MidLine) (place : ℕ) (l : MidLine) → AreOurs form code → slice_get code place ≡ Some l → breaks_order code place l.mid ≡ false
unfolding breaks_order AreOurs
in_order form code place l ours at = by_found (found_at code place) refl
  where
    by_way : (found : List ℕ) → found_at code place ≡ Some found → Leads l.mid ⊎ (l.mid ≡ Exit 0) → (closes_wrongly l.mid found || enters_wrongly code place l.mid found) ≡ false
    by_way found here (inl leads) =
        let next = found_next form code place l found ours at here leads in
        let test : has_others (found_at code (place + 1)) (open_behind place l.mid found) ≡ false =
        ap (λ o. has_others o (open_behind place l.mid found)) next ∙ ap (λ xs. has_others (Some found) xs) (leads.keeps place found) ∙ ap not (same_places-same found) in
        let enters : enters_wrongly code place l.mid found ≡ false =
        ap (list_any (λ target. nat_lt target (length code) && has_others (found_at code target) (open_behind place l.mid found))) (leads.next place)
        ∙ ap (λ b. (nat_lt (place + 1) (length code) && b) || false) test ∙ both (nat_lt (place + 1) (length code)) in
        rw (leads.closes found, enters) refl
      where
        both : (b : Bool) → ((b && false) || false) ≡ false
        both true = refl
        both false = refl
    by_way found here (inr exit) = ap (λ mid. closes_wrongly mid found || enters_wrongly code place mid found) exit

    by_found : (o : Option (List ℕ)) → found_at code place ≡ o → breaks_order_by code place l.mid o ≡ false
    by_found None here = refl
    by_found (Some found) here = by_way found here (ours place l at).way

length-put_code : (puts : List PutConstant) → length (flat_map put_code puts) ≡ 3 * length puts
length-put_code [] = omega arith
length-put_code (p ∷ others) = ap length (flat_map-cons put_code p others) ∙ omega (arith, length-put_code others)

last_is : (xs : List MidLine) (y l : MidLine) (n : ℕ) → n ≡ length xs → slice_get (xs ++ y ∷ []) n ≡ Some l → y ≡ l
last_is xs y l n e at = sym (get_or-append_seam xs y [] l) ∙ ap (λ k. get_or (xs ++ y ∷ []) k l) (sym e) ∙ get_or_from_slice_get (xs ++ y ∷ []) n l l at

module _ (form : FirstForm) (few : length form.puts ≤ 20000) (ints : AllByRecursion (λ p. p.constant.value ≤ 2147483647) form.puts) (status : form.status.value ≤ 2147483647) where
  long : length (code_of form) ≡ 3 * length form.puts + 4
  long = omega (arith, length-append (flat_map put_code form.puts) (tail_code form), length-put_code form.puts)

  ours : AreOurs form (code_of form)
  unfolding AreOurs
  ours place l found =
      let each = puts_ours form form.puts (tail_code form) ints (const_ours form form.status.value status, (exit_ours form, (const_ours form 0 (omega arith), (exit_ours form, tt)))) in
      found_one (IsOurLine form) (code_of form) place l (All-from_recursion (IsOurLine form) (code_of form) each) found

  -- the last instruction ends the run
  last_exits : (place : ℕ) (l : MidLine) → slice_get (code_of form) place ≡ Some l → place + 1 ≡ length (code_of form) → l.mid ≡ Exit 0
  last_exits place l found e =
      let init : List MidLine = flat_map put_code form.puts ++ take 3 (tail_code form) in
      let split : code_of form ≡ init ++ record { line = form.end_line; mid = Exit 0 } ∷ [] = sym (append_assoc (flat_map put_code form.puts) (take 3 (tail_code form)) (record { line = form.end_line; mid = Exit 0 } ∷ [])) in
      let front : length init ≡ 3 * length form.puts + 3 = omega (arith, length-append (flat_map put_code form.puts) (take 3 (tail_code form)), length-put_code form.puts) in
      sym (ap (λ (x : MidLine). x.mid) (last_is init (record { line = form.end_line; mid = Exit 0 }) l place (omega (arith, long, front)) (sym (ap (λ (c : List MidLine). slice_get c place) split) ∙ found)))

  followed : (place : ℕ) (l : MidLine) → slice_get (code_of form) place ≡ Some l → runs_out (code_of form) place l.mid ≡ false
  unfolding ours
  followed place l found = by_test (place + 1 == length (code_of form)) refl
    where
      by_test : (b : Bool) → (place + 1 == length (code_of form)) ≡ b → (b && not (is_final l.mid)) ≡ false
      by_test false e = refl
      by_test true e = ap (λ mid. not (is_final mid)) (last_exits place l found (eqb-true (place + 1) (length (code_of form)) e))

  line_kept : (place : ℕ) (l : MidLine) → slice_get (code_of form) place ≡ Some l → instruction_rule (program_of form) 1 (main_of form) place l.mid ≡ None
  unfolding early_rule AreOurs
  line_kept place l found =
      let k = ours place l found in
      let params : (place == 0 && misfits_params (main_of form) (slice_get (program_of form).types (main_of form).ty)) ≡ false = no_param (place == 0) in
      let early : early_rule (program_of form) 1 (main_of form) place l.mid ≡ None = rw (k.fields place, followed place l found, k.fits, params) refl in
      rw (early, in_order form (code_of form) place l ours found) refl
    where
      no_param : (b : Bool) → (b && false) ≡ false
      no_param true = refl
      no_param false = refl

  lines_kept : (place : ℕ) (line : Option MidLine) → slice_get (code_of form) place ≡ line → line_rule (program_of form) 1 (main_of form) place line ≡ None
  lines_kept place None found = refl
  lines_kept place (Some l) found = line_kept place l found

  main_kept : breaks_function (program_of form) 1 (main_of form) ≡ false
  main_kept =
      let some : (length (code_of form) == 0) ≡ false = ne_eqb (length (code_of form)) 0 (λ e. absurd (omega (arith, e, long))) in
      let within : nat_lt 65535 (length (code_of form)) ≡ false = le-ltb 65535 (length (code_of form)) (omega (arith, long)) in
      rw (some, within) refl

  at_main : (place : ℕ) → function_rule (program_of form) 1 place (Some (main_of form)) ≡ None
  at_main place = rw main_kept (by_test (place == 0))
    where
      by_test : (b : Bool) → (if b && false then first else line_rule (program_of form) 1 (main_of form) place (slice_get (code_of form) place)) ≡ None
      by_test true = lines_kept place (slice_get (code_of form) place) refl
      by_test false = lines_kept place (slice_get (code_of form) place) refl

  none_broken : (number place : ℕ) → rule_broken (program_of form) number place ≡ None
  none_broken zero place = by_test (place == 0)
    where
      by_test : (b : Bool) → (if b && false then first else None) ≡ None
      by_test true = refl
      by_test false = refl
  none_broken (suc zero) place = at_main place
  none_broken (suc (suc before)) place = refl

pub program_valid : (bytes : List ℕ) (form : FirstForm) → IsFirstForm bytes form → IsValid (program_of form)
program_valid bytes form is = record { unbroken = none_broken form is.puts is.constants is.status }

-- each statement takes a site, and so do the two ends of main
site_count-code : (form : FirstForm) (shared : Shared) (place : ℕ) (puts : List PutConstant) → site_count (sharings 1 shared place (flat_map put_code puts ++ tail_code form)) ≡ length puts + 2
site_count-code form shared place [] = omega arith
site_count-code form shared place (p ∷ others) =
    ap (λ (x : List MidLine). site_count (sharings 1 shared place (x ++ tail_code form))) (flat_map-cons put_code p others)
    ∙ omega (arith, site_count-code form shared (place + 1 + 1 + 1) others)

-- each instruction is one of the first form
abbrev IsPlain : MidLine → Type 0
IsPlain l = IsOfFirstForm l.mid

plain_code : (puts : List PutConstant) (rest : List MidLine) → All IsPlain rest → All IsPlain (flat_map put_code puts ++ rest)
plain_code [] rest plain = plain
plain_code (p ∷ others) rest plain =
    let more = plain_code others rest plain in
    let row = flat_map put_code others ++ rest in
    let third = All-cons IsPlain (record { line = p.name_line; mid = Conv Int UChar 0 0 }) row tt more in
    let second = All-cons IsPlain (record { line = p.paren_line; mid = Put 0 }) (record { line = p.name_line; mid = Conv Int UChar 0 0 } ∷ row) tt third in
    let first = All-cons IsPlain (record { line = p.constant.line; mid = Const 0 p.constant.value }) (record { line = p.paren_line; mid = Put 0 } ∷ record { line = p.name_line; mid = Conv Int UChar 0 0 } ∷ row) tt second in
    subst (λ (x : List MidLine). All IsPlain (x ++ rest)) (sym (flat_map-cons put_code p others)) first

plain_tail : (form : FirstForm) → All IsPlain (tail_code form)
plain_tail form = All-from_recursion IsPlain (tail_code form) (tt, (tt, (tt, (tt, tt))))

plain_functions : (form : FirstForm) → All (λ f. All IsPlain f.code) (protected_functions (program_of form))
plain_functions form = All-from_recursion (λ (f : MidFunction). All IsPlain f.code) (main_of form ∷ []) (plain_code form.puts (tail_code form) (plain_tail form), tt)

pub program_sites : (bytes : List ℕ) (form : FirstForm) → IsFirstForm bytes form → HasSites (everything_shared (program_of form))
program_sites bytes form is =
    let count = site_count (sharings 1 (all_of (main_of form)) 0 (code_of form)) in
    let sum : all_sites (everything_shared (program_of form)) ≡ (0 + count) + 0 = refl in
    let valid = program_valid bytes form is in
    record {
      valid = valid;
      closed = everything_closed (program_of form) valid;
      limit = omega (arith, is.puts, sum, site_count-code form (all_of (main_of form)) 0 form.puts);
      first_form = plain_functions form;
    }
