-- The middle code of a source of the first form means what the source does.
use Rattle.std.proofs.Common.{◌≡◌, ℕ, suc, ◌+◌, ◌%◌, List, [], ◌∷◌, ◌++◌, length, get_or, map, Some, refl, sym, ap, subst, ◌∙◌, arith, append_assoc, length-append}
use Rattle.std.specs.Prelude.{slice_get}
use Rattle.std.specs.List.{flat_map}
use Rattle.std.proofs.lemmas.List.{get_or-append-add}
use Rattle.std.proofs.lemmas.List.Concat.{flat_map-cons}
use Rattle.std.proofs.lemmas.Option.{slice_get_within, slice_get_read, get_or_from_slice_get}
use Rattle.srmt_base.specs.declared.event.Event.{Event}
use Rattle.srmt_base.specs.declared.event.Event.TheVariants.{Byte, Exit as ExitEvent}
use Rattle.srmt_base.specs.declared.limits.Limits.{Limits}
use Rattle.srmt_base.specs.declared.trap.SourceEnd.{SourceEnd}
use Rattle.srmt_base.specs.declared.ty.Ty.TheVariants.{Int, UChar}
use Rattle.srmt_base.specs.Convert.{convert_of}
use Rattle.mid_code.specs.declared.program.MidLine.{MidLine}
use Rattle.mid_code.specs.declared.program.MidProgram.{MidProgram}
use Rattle.srmt_base.specs.Budgets.{full_budget, spent}
use Rattle.mid_code.specs.Machine.{local_of, does, act, act_at}
use Rattle.mid_code.specs.Start.{started_memory}
use Rattle.mid_code.specs.Meaning.{State, On, Ends, step, step_by, preceded, then_run, exec, Finishes, Middle}
use Rattle.first_form.specs.declared.source.PutConstant.{PutConstant}
use Rattle.first_form.specs.declared.source.FirstForm.{FirstForm}
use Rattle.first_form.specs.Meaning.{events_of, end_of}
use Rattle.first_form.specs.Lowered.{put_code, tail_code, code_of, program_of, Implements}
use Rattle.first_form.specs.FirstForm.{IsFirstForm}
use Rattle.first_form.proofs.ValidCode.{program_sites}

-- one step, and the rest of the run
finishes_by : (program : MidProgram) (m next : State) (es fs : List Event) (end : SourceEnd) → step program m ≡ On next es → Finishes program next fs end → Finishes program m (es ++ fs) end
finishes_by program m next es fs end s rest = (suc rest.0, ap (λ t. then_run t (exec program rest.0)) s ∙ ap (preceded es) rest.1)

finishes_end : (program : MidProgram) (m : State) (es : List Event) (end : SourceEnd) → step program m ≡ Ends end es → Finishes program m es end
finishes_end program m es end s = (1, ap (λ t. then_run t (exec program 0)) s)

-- what stands somewhere in the second part of a list
slice_get-append : (xs ys : List MidLine) (n k : ℕ) (l : MidLine) → k ≡ length xs + n → slice_get ys n ≡ Some l → slice_get (xs ++ ys) k ≡ Some l
slice_get-append xs ys n k l e found =
    let within = slice_get_within ys n l found in
    let read = ap (λ j. get_or (xs ++ ys) j l) e ∙ get_or-append-add xs ys n l ∙ get_or_from_slice_get ys n l l found in
    slice_get_read (xs ++ ys) (length (xs ++ ys)) k l refl (omega (arith, length-append xs ys)) (sym read)

module _ (form : FirstForm) (input : List ℕ) (limits : Limits) where
  -- main stands at a place, and its register holds a value
  abbrev main_at : ℕ → ℕ → State
  main_at place value = record {
    machine = record {
      top = record { function = 1; place = place; registers = value ∷ []; opened = []; into = 0 };
      below = [];
      budgets = record { protected = spent (full_budget limits); binary = full_budget limits };
    };
    memory = started_memory (program_of form) limits;
    input = input;
  }

  step_at : (before rest : List MidLine) (n place value : ℕ) (l : MidLine) → code_of form ≡ before ++ rest → place ≡ length before + n → slice_get rest n ≡ Some l → step (program_of form) (main_at place value) ≡ step_by (program_of form) (act (program_of form) l.mid l.line (local_of (program_of form) (main_at place value).machine)) (main_at place value)
  unfolding does
  step_at before rest n place value l split e found =
      let here : slice_get (code_of form) place ≡ Some l = ap (λ (c : List MidLine). slice_get c place) split ∙ slice_get-append before rest n place l e found in
      ap (λ o. step_by (program_of form) (act_at (program_of form) o (local_of (program_of form) (main_at place value).machine)) (main_at place value)) here

  finishes_from : (puts : List PutConstant) (before : List MidLine) (place value : ℕ) → code_of form ≡ before ++ (flat_map put_code puts ++ tail_code form) → place ≡ length before → Finishes (program_of form) (main_at place value) (map (λ p. Byte (p.constant.value % 256)) puts ++ ExitEvent (form.status.value % 256) ∷ []) (end_of form)
  finishes_from [] before place value split e =
      let program = program_of form in
      let rest = tail_code form in
      let one = step_at before rest 0 place value _ split (omega arith) refl in
      let two = step_at before rest 1 (place + 1) form.status.value _ split (omega arith) refl in
      finishes_by program (main_at place value) (main_at (place + 1) form.status.value) [] _ _ one (finishes_end program (main_at (place + 1) form.status.value) _ _ two)
  finishes_from (p ∷ others) before place value split e =
      let program = program_of form in
      let rest = flat_map put_code others ++ tail_code form in
      let here : code_of form ≡ before ++ (put_code p ++ rest) = split ∙ ap (λ (x : List MidLine). before ++ (x ++ tail_code form)) (flat_map-cons put_code p others) in
      let one = step_at before (put_code p ++ rest) 0 place value _ here (omega arith) refl in
      let two = step_at before (put_code p ++ rest) 1 (place + 1) p.constant.value _ here (omega arith) refl in
      let three = step_at before (put_code p ++ rest) 2 (place + 1 + 1) p.constant.value _ here (omega arith) refl in
      let after = finishes_from others (before ++ put_code p) (place + 1 + 1 + 1) (convert_of Int UChar p.constant.value) (here ∙ sym (append_assoc before (put_code p) rest)) (omega (arith, length-append before (put_code p))) in
      finishes_by program _ (main_at (place + 1) p.constant.value) [] _ _ one
      (finishes_by program _ (main_at (place + 1 + 1) p.constant.value) (Byte (p.constant.value % 256) ∷ []) _ _ two
      (finishes_by program _ (main_at (place + 1 + 1 + 1) (convert_of Int UChar p.constant.value)) [] _ _ three after))

pub program_means : (form : FirstForm) (input : List ℕ) (limits : Limits) → Middle (program_of form) input limits (events_of form) (end_of form)
program_means form input limits = finishes_from form input limits form.puts [] 0 0 refl refl

pub program_implements : (bytes : List ℕ) (form : FirstForm) (program : MidProgram) → IsFirstForm bytes form → program ≡ program_of form → Implements program form
program_implements bytes form program is e = subst (λ (p : MidProgram). Implements p form) (sym e) (record { same = refl; sites = program_sites bytes form is; means = program_means form })
