-- What a source of the first form answers that is run, from what its parts say.
use Rattle.std.proofs.Common.{◌≡◌, ◌⊎◌, inl, inr, ℕ, ◌+◌, ◌≤◌, true, List, [], ◌∷◌, ◌++◌, length, take, Option, Some, None, Result, Ok, Err, refl, sym, ap, subst, ◌∙◌, arith}
use Rattle.std.specs.Prelude.{IfSome, IfOk, IfErr, OnOk, option_map}
use Rattle.std.proofs.Math.Seq.{take-append_seam, take-length}
use Rattle.std.proofs.lemmas.Option.{IfSome_then}
use Rattle.srmt_base.specs.declared.event.Event.{Event}
use Rattle.srmt_base.specs.declared.limits.Limits.{Limits}
use Rattle.srmt_base.specs.declared.trap.SourceEnd.{SourceEnd}
use Rattle.srmt_outside.specs.Count.{next_count, Rose}
use Rattle.srmt_outside.specs.Told.{Appends, AppendsPrefix}
use Rattle.mid_code.specs.declared.program.MidProgram.{MidProgram}
use Rattle.mid_code.specs.Classes.{SharedProgram}
use Rattle.mid_code.specs.Closed.{everything_shared}
use Rattle.mid_code.specs.Meaning.{State, Run, Running, Ended, NoWay, preceded, exec, started, Finishes, Middle}
use Rattle.mid_code.proofs.OneMeaning.{one_end, stays_ended, exec_on}
use Rattle.mid_run.specs.Progress.{Progress, At, Over, Runs}
use Rattle.world.specs.World.{setting_of}
use Rattle.world.specs.Ideal.{IsIdeal}
use Rattle.world.proofs.Running.{ideal_sound, ideal_whole}
use Rattle.verdicts.specs.declared.verdict.Ran.{Ran}
use Rattle.verdicts.specs.declared.verdict.Verdict.{Verdict}
use Rattle.verdicts.specs.declared.verdict.Verdict.TheVariants.{WriteFault as FaultVerdict}
use Rattle.machine.specs.Upset.{no_upsets}
use Rattle.pair_core.specs.Faults.{faults_told}
use Rattle.pair_core.specs.Answer.{IsAnswer, FollowsIdeal, verdict_as}
use Rattle.pair_core.specs.Duo.{DuoState, opening_duo}
use Rattle.pair_core.specs.Fit.{IsPrefix}
use Rattle.pair_core.proofs.Sounds.{first_events}
use Rattle.mid_run.specs.Progress.{end_of as progress_end}
use Rattle.answers.specs.declared.answer.RunAnswer.{RunAnswer}
use Rattle.answers.specs.declared.answer.RunAnswer.TheVariants.{Alone, Ran as RanBoth, Checked, Help, Version, Usage, ReadFault, TooLong, Refused, WriteFault, OutOfMemory}
use Rattle.answers.specs.declared.answer.CompileRefusal.{CompileRefusal}
use Rattle.answers.specs.declared.answer.CompileRefusal.TheVariants.{Form}
use Rattle.first_form.specs.declared.source.FirstForm.{FirstForm}
use Rattle.answers.specs.Answer.{unread}
use Rattle.c_typed.specs.Statements.{Program}
use Rattle.c_front.specs.Front.{TypesFiles, RefusesFiles, IsRefusal}
use Rattle.srmt_outside.specs.declared.file_fault.FileFault.{FileFault}
use Rattle.srmt_outside.specs.declared.file_fault.FileFault.TheVariants.{Failed, TooLong as FileTooLong, Memory as NoMemory}
use Rattle.srmt_outside.proofs.Told.{AppendsPrefix-whole}
use Rattle.srmtrun.specs.Answer.{answer_from, check_from, write_faults_after}
use Rattle.srmtrun.specs.Words.{Command, takes_form}
use Rattle.srmtrun.specs.Reads.{Contents, Wanted, names_of, ReadsAll, Reads, AreRead}
use Rattle.srmtrun.specs.declared.words.Mode.{Mode}
use Rattle.srmtrun.specs.declared.words.Mode.TheVariants.{Single, Alternate, Reference, Check}
use Rattle.first_form.specs.FirstForm.{IsFirstForm}
use Rattle.first_form.specs.Lowered.{Implements}
use Rattle.first_form.specs.Meaning.{events_of, end_of}
use Rattle.srmtrun.specs.declared.still.TheConstants.{LIMITS}
use Rattle.srmtrun.specs.Still.{AsksFor, run_of, RunsBoth, IsNoSource, RefusedAs, EndsAlone, FailsWriting, LacksMemory}
use Rattle.srmtrun.specs.Parts.{Serves, Runs as RunsAs, StopsCompiling, StopsRun, RanBySides}

-- a run that has not ended has written the first events of the whole run
ended_front : (before : List Event) (r : Run) (fs : List Event) (end : SourceEnd) → preceded before r ≡ Ended end fs → take (length before) fs ≡ before
ended_front before (Running m seen) fs end e = absurd cc
ended_front before (Ended over seen) fs end e = let all : before ++ seen ≡ fs = cc in ap (take (length before)) (sym all) ∙ take-append_seam before seen
ended_front before NoWay fs end e = absurd cc

run_front : (program : MidProgram) (m : State) (p : Progress) (es fs : List Event) (end : SourceEnd) → Runs program (At m) es p → Finishes program m fs end → take (length es) fs ≡ es
run_front program m (At next) es fs end runs whole =
    let on = exec_on program runs.0 whole.0 m next es runs.1 in
    let stays = stays_ended program whole.0 runs.0 m end fs whole.1 in
    let order : whole.0 + runs.0 ≡ runs.0 + whole.0 = omega arith in
    ended_front es (exec program whole.0 next) fs end (sym on ∙ ap (λ n. exec program n m) order ∙ stays)
run_front program m (Over over) es fs end runs whole =
    let same = (one_end program m es fs over end runs whole).0 in
    ap (λ xs. take (length xs) fs) same ∙ take-length fs ∙ sym same

-- the events so far are a prefix of all that the program means
pub prefix_written : (program : MidProgram) (limits : Limits) (start end : Progress) (before after : Option (List Event)) → start ≡ At (started program [] limits) → ((es : List Event) × Runs program start es end × Appends before after es) → (fs : List Event) (over : SourceEnd) → Middle program [] limits fs over → AppendsPrefix before after fs
prefix_written program limits start end before after is so_far fs over means =
    let es = so_far.0 in
    let runs = subst (λ (s : Progress). Runs program s es end) is so_far.1 in
    (length es, so_far.2 ∙ ap (λ xs. option_map (λ told. told ++ xs) before) (sym (run_front program (started program [] limits) end es fs over runs means)))

-- where nothing was written, memory may have run out
pub silent : (contents : Contents) (command : Command) (before after : Option (List Event)) (mode : Mode) → after ≡ before → LacksMemory mode contents command before after
silent contents command before after Single same = same
silent contents command before after Alternate same = same
silent contents command before after Check same = same
silent contents command before after Reference same = inl same

module _ (contents : Contents) (name : List ℕ) (before after : Option (List Event)) (read_failed write_failed : Type 0) (mode : Mode) (bytes : List ℕ) (same : IfSome (contents name) (λ t. t ≡ bytes)) (within : length bytes ≤ 1048576) where
  abbrev own : Command
  own = record { mode = mode; program = name; binary = None; input = None; turns = None }

  refused_as : (m : Mode) (cause : CompileRefusal) → takes_form m ≡ true → cause ≡ Form → IsNoSource (contents name) → RefusedAs m contents own cause
  refused_as Single cause runs is none = (is, none)
  refused_as Alternate cause runs is none = (is, none)
  refused_as Check cause runs is none = absurd cc
  refused_as Reference cause runs is none = absurd cc

  -- a source that has no program is told so, where it is to run
  pub compile_serves : takes_form mode ≡ true → (answer : RunAnswer) → StopsCompiling bytes answer → RunsAs mode name contents before before read_failed write_failed answer
  compile_serves runs (Refused cause) none =
      (refused_as mode cause runs none.0 (IfSome_then (contents name) same (λ t e. (subst (λ (b : List ℕ). length b ≤ 1048576) (sym e) within, λ form is. none.1 form (subst (λ (b : List ℕ). IsFirstForm b form) e is)))), refl)
  compile_serves runs OutOfMemory none = silent contents own before before mode refl
  compile_serves runs (Alone end) none = absurd none
  compile_serves runs (RanBoth ran) none = absurd none
  compile_serves runs Checked none = absurd none
  compile_serves runs WriteFault none = absurd none
  compile_serves runs ReadFault none = absurd none
  compile_serves runs TooLong none = absurd none
  compile_serves runs Usage none = absurd none
  compile_serves runs Help none = absurd none
  compile_serves runs Version none = absurd none

  pub run_serves : mode ≡ Single → (limits : Limits) (program : MidProgram) (form : FirstForm) → IsFirstForm bytes form → Implements program form → (r : Result SourceEnd RunAnswer) → IfOk r (λ end. (events : List Event) × Middle program [] limits events end × Appends before after events) → IfErr r (StopsRun program limits before after write_failed) → RunsAs mode name contents before after read_failed write_failed (answer_from r)
  run_serves how limits program form is code (Ok end) ok err =
      let one = one_end program (started program [] limits) ok.0 (events_of form) end (end_of form) ok.1 (code.means [] limits) in
      subst (λ (m : Mode). EndsAlone m contents own before after end) (sym how)
      (form, record { bytes = bytes; told_bytes = same; within = within; is_form = is }, one.1, ok.2 ∙ ap (λ es. option_map (λ told. told ++ es) before) one.0)
  run_serves how limits program form is code (Err WriteFault) ok err = (
    err.0,
    subst (λ (m : Mode). FailsWriting m contents own before after) (sym how)
        (form, record { bytes = bytes; told_bytes = same; within = within; is_form = is }, err.1 (events_of form) (end_of form) (code.means [] limits)),
  )
  run_serves how limits program form is code (Err OutOfMemory) ok err = silent contents own before after mode err
  run_serves how limits program form is code (Err (Alone end)) ok err = absurd err
  run_serves how limits program form is code (Err (RanBoth ran)) ok err = absurd err
  run_serves how limits program form is code (Err Checked) ok err = absurd err
  run_serves how limits program form is code (Err Usage) ok err = absurd err
  run_serves how limits program form is code (Err ReadFault) ok err = absurd err
  run_serves how limits program form is code (Err TooLong) ok err = absurd err
  run_serves how limits program form is code (Err (Refused cause)) ok err = absurd err
  run_serves how limits program form is code (Err Help) ok err = absurd err
  run_serves how limits program form is code (Err Version) ok err = absurd err

-- what alternate answers of a core that was started for the program
pub ran_by_sides : (program : MidProgram) (pair : SharedProgram) (input : List ℕ) (duo : DuoState) (before after : Option (List Event)) (write_failed : Type 0) (ran : Ran) → pair ≡ everything_shared program → input ≡ [] → duo ≡ opening_duo (setting_of pair input LIMITS) →
    ((given : List ℕ) (limits : Limits) → let setting = setting_of pair given limits in
    duo ≡ opening_duo setting → (events : List Event) × Appends before after events × IsAnswer setting no_upsets events ran × FollowsIdeal setting events ran) →
    (ran.verdict ≡ FaultVerdict → write_failed) → RanBySides program LIMITS before after write_failed ran
ran_by_sides program pair input duo before after write_failed ran same none opening answers failed =
    let a = answers [] LIMITS (opening ∙ ap (λ (i : List ℕ). opening_duo (setting_of pair i LIMITS)) none) in
    record {
      events = a.0;
      written = a.1;
      answer = subst (λ (p : SharedProgram). IsAnswer (setting_of p [] LIMITS) no_upsets a.0 ran) same a.2;
      follows = subst (λ (p : SharedProgram). FollowsIdeal (setting_of p [] LIMITS) a.0 ran) same a.3;
      failed = failed;
    }

-- the count rose where the verdict tells a fault
pub rose_by : (verdict : Verdict) (before after : ℕ) → after ≡ faults_told verdict before → verdict ≡ FaultVerdict → Rose before after
rose_by verdict before after e fault = let same : after ≡ next_count before = e ∙ ap (λ v. faults_told v before) fault in omega (arith, same)

-- both sides of the program give what the source does
pub both_runs : (program : MidProgram) (form : FirstForm) (before after : Option (List Event)) (write_failed : Type 0) (ran : Ran) → Implements program form → RanBySides program LIMITS before after write_failed ran → RunsBoth form before after write_failed ran
both_runs program form before after write_failed ran code r = record {
  events = r.events;
  written = r.written;
  answer = subst (λ (p : MidProgram). IsAnswer (run_of p LIMITS) no_upsets r.events ran) code.same r.answer;
  outcome = by_end r.follows.whole;
}
  where
    means : Middle program [] LIMITS (events_of form) (end_of form)
    means = code.means [] LIMITS

    whole_run : (words : List ℕ) × IsIdeal (run_of program LIMITS) words (events_of form) (end_of form)
    whole_run = ideal_whole (run_of program LIMITS) code.sites (events_of form) (end_of form) means

    first : IsPrefix r.events (events_of form)
    first = first_events (run_of program LIMITS) code.sites r.events (events_of form) whole_run.0 (end_of form) r.follows.first whole_run.1

    by_end : ((ran.verdict ≡ FaultVerdict) ⊎ ((end : SourceEnd) × (words : List ℕ) × IsIdeal (run_of program LIMITS) words r.events end × (ran.verdict ≡ verdict_as end))) →
        ((ran.verdict ≡ FaultVerdict) × write_failed × AppendsPrefix before after (events_of form)) ⊎ ((r.events ≡ events_of form) × (ran.verdict ≡ verdict_as (end_of form)))
    by_end (inl fault) =
        let front : take (length r.events) (events_of form) ≡ r.events = ap (take (length r.events)) first.1 ∙ take-append_seam r.events first.0 in
        inl (fault, r.failed fault, (length r.events, r.written ∙ ap (λ es. option_map (λ told. told ++ es) before) (sym front)))
    by_end (inr (end, words, ideal, verdict)) =
        let one = one_end program (started program [] LIMITS) r.events (events_of form) end (end_of form) (ideal_sound (run_of program LIMITS) code.sites words r.events end ideal) means in
        inr (one.0, verdict ∙ ap verdict_as one.1)

module _ (contents : Contents) (name : List ℕ) (before after : Option (List Event)) (read_failed write_failed : Type 0) (bytes : List ℕ) (same : IfSome (contents name) (λ t. t ≡ bytes)) (within : length bytes ≤ 1048576) where
  pub sides_serve : (program : MidProgram) (form : FirstForm) → IsFirstForm bytes form → Implements program form → (ran : Ran) → RanBySides program LIMITS before after write_failed ran → RunsAs Alternate name contents before after read_failed write_failed (RanBoth ran)
  sides_serve program form is code ran r = (refl, (form, record { bytes = bytes; told_bytes = same; within = within; is_form = is }, both_runs program form before after write_failed ran code r))

-- the files were asked for, whatever stopped the compiling, and whatever the run answers
module _ (contents : Contents) (before after : Option (List (List ℕ))) (files : List Wanted) (reads : ReadsAll contents before after files) where
  all_asked : AppendsPrefix before after (names_of files)
  all_asked = AppendsPrefix-whole before after (names_of files) reads.asked

  pub compile_asks : (source : List ℕ) (answer : RunAnswer) → StopsCompiling source answer → AsksFor contents before after files answer
  compile_asks source (Refused cause) none = reads
  compile_asks source OutOfMemory none = all_asked
  compile_asks source (Alone end) none = absurd none
  compile_asks source (RanBoth ran) none = absurd none
  compile_asks source Checked none = absurd none
  compile_asks source WriteFault none = absurd none
  compile_asks source ReadFault none = absurd none
  compile_asks source TooLong none = absurd none
  compile_asks source Usage none = absurd none
  compile_asks source Help none = absurd none
  compile_asks source Version none = absurd none

  pub run_asks : (program : MidProgram) (limits : Limits) (old new : Option (List Event)) (write_failed : Type 0) (r : Result SourceEnd RunAnswer) → IfErr r (StopsRun program limits old new write_failed) → AsksFor contents before after files (answer_from r)
  run_asks program limits old new write_failed (Ok end) err = reads
  run_asks program limits old new write_failed (Err OutOfMemory) err = all_asked
  run_asks program limits old new write_failed (Err WriteFault) err = reads
  run_asks program limits old new write_failed (Err (Alone end)) err = absurd err
  run_asks program limits old new write_failed (Err (RanBoth ran)) err = absurd err
  run_asks program limits old new write_failed (Err Checked) err = absurd err
  run_asks program limits old new write_failed (Err Usage) err = absurd err
  run_asks program limits old new write_failed (Err ReadFault) err = absurd err
  run_asks program limits old new write_failed (Err TooLong) err = absurd err
  run_asks program limits old new write_failed (Err (Refused cause)) err = absurd err
  run_asks program limits old new write_failed (Err Help) err = absurd err
  run_asks program limits old new write_failed (Err Version) err = absurd err

  pub memory_asks : AsksFor contents before after files OutOfMemory
  memory_asks = all_asked

  pub refusal_asks : (Refuses : CompileRefusal → Type 0) (answer : RunAnswer) → IsRefusal Refuses answer → AsksFor contents before after files answer
  refusal_asks Refuses answer (inl memory) = subst (λ (a : RunAnswer). AsksFor contents before after files a) (sym memory) all_asked
  refusal_asks Refuses answer (inr (cause, is, refuses)) = subst (λ (a : RunAnswer). AsksFor contents before after files a) (sym is) reads

  pub check_asks : {A : Type 0} (Refuses : CompileRefusal → Type 0) (r : Result A RunAnswer) → IfErr r (IsRefusal Refuses) → AsksFor contents before after files (check_from r)
  check_asks Refuses (Ok done) err = reads
  check_asks Refuses (Err answer) err = refusal_asks Refuses answer err

-- a file that is not read
module _ (contents : Contents) where
  pub unread_asks : (A : Type 0) (fault : FileFault) (before after : Option (List (List ℕ))) (files : List Wanted) → Reads {A = A} contents before after files (Err fault) → AsksFor contents before after files (unread fault)
  unread_asks A Failed before after files r = r
  unread_asks A FileTooLong before after files r = r
  unread_asks A NoMemory before after files r = r

  pub unread_serves : (fault : FileFault) (command : Command) (events : Option (List Event)) (read_failed write_failed : Type 0) → (fault ≡ Failed → read_failed) → Serves command contents events events read_failed write_failed (unread fault)
  unread_serves Failed command events read_failed write_failed failed = (failed refl, refl)
  unread_serves FileTooLong command events read_failed write_failed failed = refl
  unread_serves NoMemory command events read_failed write_failed failed = silent contents command events events command.mode refl

  -- what is checked
  pub check_serves : {A : Type 0} (command : Command) (events : Option (List Event)) (read_failed write_failed : Type 0) (main : List ℕ) (binary : Option (List ℕ)) (r : Result A RunAnswer) → command.mode ≡ Check → AreRead contents command main binary
      → OnOk r ((program : Program) × TypesFiles main binary program) → IfErr r (IsRefusal (RefusesFiles main binary)) → Serves command contents events events read_failed write_failed (check_from r)
  check_serves command events read_failed write_failed main binary (Ok done) how read ok err = (how, (main, binary, read, ok), refl)
  check_serves command events read_failed write_failed main binary (Err answer) how read ok (inl memory) =
      subst (λ (a : RunAnswer). Serves command contents events events read_failed write_failed a) (sym memory) (silent contents command events events command.mode refl)
  check_serves command events read_failed write_failed main binary (Err answer) how read ok (inr (cause, is, refuses)) =
      subst (λ (a : RunAnswer). Serves command contents events events read_failed write_failed a) (sym is)
      (subst (λ (m : Mode). RefusedAs m contents command cause) (sym how) (main, binary, read, refuses), refl)

-- a run that has ended from the start has given what the program means
pub run_finished : (program : MidProgram) (limits : Limits) (start final : Progress) (events : List Event) (end : SourceEnd) → start ≡ At (started program [] limits) → Runs program start events final → progress_end final ≡ Some end → Middle program [] limits events end
run_finished program limits start final events end is runs ended = by_final final (subst (λ (s : Progress). Runs program s events final) is runs) ended
  where
    by_final : (q : Progress) → Runs program (At (started program [] limits)) events q → progress_end q ≡ Some end → Middle program [] limits events end
    by_final (At s) runs ended = absurd (cc)
    by_final (Over over) runs ended = let same : over ≡ end = cc in subst (λ (e : SourceEnd). Middle program [] limits events e) same runs

-- nothing that is read or checked writes
pub unread_faults : (fault : FileFault) (n : ℕ) → write_faults_after (unread fault) n ≡ n
unread_faults Failed n = refl
unread_faults FileTooLong n = refl
unread_faults NoMemory n = refl

pub check_faults : {A : Type 0} (Refuses : CompileRefusal → Type 0) (r : Result A RunAnswer) → IfErr r (IsRefusal Refuses) → (n : ℕ) → write_faults_after (check_from r) n ≡ n
check_faults Refuses (Ok done) err n = refl
check_faults Refuses (Err answer) (inl memory) n = subst (λ (a : RunAnswer). write_faults_after a n ≡ n) (sym memory) refl
check_faults Refuses (Err answer) (inr (cause, is, refuses)) n = subst (λ (a : RunAnswer). write_faults_after a n ≡ n) (sym is) refl

-- what is served is no question
pub serves_no_help : (command : Command) (contents : Contents) (before after : Option (List Event)) (read_failed write_failed : Type 0) (answer : RunAnswer) → Serves command contents before after read_failed write_failed answer → answer ≡ Help → ⊥
serves_no_help command contents before after read_failed write_failed answer s e = subst (λ (a : RunAnswer). Serves command contents before after read_failed write_failed a) e s

pub serves_no_version : (command : Command) (contents : Contents) (before after : Option (List Event)) (read_failed write_failed : Type 0) (answer : RunAnswer) → Serves command contents before after read_failed write_failed answer → answer ≡ Version → ⊥
serves_no_version command contents before after read_failed write_failed answer s e = subst (λ (a : RunAnswer). Serves command contents before after read_failed write_failed a) e s
