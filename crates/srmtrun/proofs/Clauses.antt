-- What the top call answers of files that are told.
use Rattle.std.proofs.Common.{◌≡◌, ◌⊎◌, ℕ, ◌≤◌, true, false, List, [], ◌∷◌, length, Option, Some, inl, inr, refl, sym, ap, subst, ◌∙◌, arith}
use Rattle.std.specs.Prelude.{IfSome}
use Rattle.std.proofs.lemmas.Option.{same_Some}
use Rattle.srmt_base.specs.declared.event.Event.{Event}
use Rattle.srmt_base.specs.declared.trap.SourceEnd.{SourceEnd}
use Rattle.srmt_outside.specs.Told.{Appends, AppendsPrefix}
use Rattle.srmt_outside.proofs.Told.{Appends-nothing}
use Rattle.answers.specs.declared.answer.RunAnswer.{RunAnswer}
use Rattle.answers.specs.declared.answer.RunAnswer.TheVariants.{Alone, Ran as RanBoth, Checked, Help, Version, Usage, ReadFault, TooLong, Refused, WriteFault, OutOfMemory}
use Rattle.answers.specs.declared.answer.CompileRefusal.{CompileRefusal}
use Rattle.c_typed.specs.Statements.{Program}
use Rattle.c_front.specs.Front.{TypesFiles, RefusesFiles}
use Rattle.c_front.proofs.OneAnswer.{no-program, one-refusal}
use Rattle.source_meaning.specs.Start.{Behaviour, means}
use Rattle.first_form.specs.declared.source.FirstForm.{FirstForm}
use Rattle.srmtrun.specs.declared.words.Mode.{Mode}
use Rattle.srmtrun.specs.declared.words.Mode.TheVariants.{Single, Alternate, Reference, Check}
use Rattle.first_form.specs.FirstForm.{IsFirstForm}
use Rattle.first_form.specs.Meaning.{events_of, end_of}
use Rattle.srmtrun.specs.Still.{Names, IsSource, IsNoSource, HasTyping, RefusedAs, AnswersCheck, RunsBoth, AnswersForm, AsksFor, limits_of, IsMeaning, StopsMeaning, AnswersMeaning, EndsAlone, FailsWriting, LacksMemory}
use Rattle.srmtrun.specs.Parts.{Serves}
use Rattle.srmtrun.specs.declared.words.Question.{Question}
use Rattle.srmtrun.specs.declared.words.Question.TheVariants.{Help as AskHelp, Version as AskVersion}
use Rattle.srmtrun.specs.Answer.{IsOfWords}
use Rattle.srmtrun.specs.Words.{Command, takes_form, Takes, Asks, IsUsage}
use Rattle.srmtrun.specs.Reads.{Contents, files_of, file_named, PassesLimit, StopsAt, AreRead, AreTold, IsToldInput}
use Rattle.srmtrun.proofs.Spelling.{one_command, is_no_question}
use Rattle.srmtrun.proofs.Asking.{one_main, one_binary, one_input, none_too_long, one_file_within}
use Rattle.srmtrun.proofs.OneProgram.{one_program}
use Rattle.first_form.specs.Reading.{first_form}
use Rattle.first_form.proofs.Form.{first_form_again}

-- one file has one form
same_form : (told : Option (List ℕ)) (bytes : List ℕ) (form other : FirstForm) → told ≡ Some bytes → IsFirstForm bytes form → IsSource told other → other ≡ form
same_form told bytes form other e is source =
    let told_bytes = subst (λ (t : Option (List ℕ)). IfSome t (λ b. b ≡ source.bytes)) e source.told_bytes in
    same_Some other form (sym (first_form_again source.bytes other source.is_form) ∙ ap first_form (sym told_bytes) ∙ first_form_again bytes form is)

-- what is answered to a source of a form that is run
module _ (contents : Contents) (command : Command) (bytes : List ℕ) (form : FirstForm) (e : contents command.program ≡ Some bytes) (within : length bytes ≤ 1048576) (is : IsFirstForm bytes form) (before after : Option (List Event)) (asked_before asked_after : Option (List (List ℕ))) (read_failed write_failed : Type 0) (runs : takes_form command.mode ≡ true) (alone : StopsAt contents asked_before asked_after (files_of command) (PassesLimit contents) → ⊥) where
  refused_form : (mode : Mode) (cause : CompileRefusal) → takes_form mode ≡ true → RefusedAs mode contents command cause → ⊥
  refused_form Check cause t s = cc
  refused_form Reference cause t s = cc
  refused_form Single cause t s = (subst IsNoSource e s.1).1 form is
  refused_form Alternate cause t s = (subst IsNoSource e s.1).1 form is

  ends_form : (mode : Mode) (end : SourceEnd) → takes_form mode ≡ true → EndsAlone mode contents command before after end → (mode ≡ Single) × (end ≡ end_of form) × Appends before after (events_of form)
  ends_form Single end t (other, source, ended, written) =
      let same = same_form (contents command.program) bytes form other e is source in
      (refl, ended ∙ ap end_of same, subst (λ (f : FirstForm). Appends before after (events_of f)) same written)
  ends_form Alternate end t s = absurd s
  ends_form Check end t s = absurd s
  ends_form Reference end t s = absurd cc

  fails_form : (mode : Mode) → takes_form mode ≡ true → FailsWriting mode contents command before after → (mode ≡ Single) × AppendsPrefix before after (events_of form)
  fails_form Single t (other, source, written) =
      (refl, subst (λ (f : FirstForm). AppendsPrefix before after (events_of f)) (same_form (contents command.program) bytes form other e is source) written)
  fails_form Alternate t s = absurd s
  fails_form Check t s = absurd s
  fails_form Reference t s = absurd cc

  lacks_form : (mode : Mode) → takes_form mode ≡ true → LacksMemory mode contents command before after → after ≡ before
  lacks_form Single t s = s
  lacks_form Alternate t s = s
  lacks_form Check t s = s
  lacks_form Reference t s = absurd cc

  answers_form : (answer : RunAnswer) → Serves command contents before after read_failed write_failed answer → AsksFor contents asked_before asked_after (files_of command) answer → AnswersForm command.mode form before after read_failed write_failed answer
  answers_form (Alone end) s asks = ends_form command.mode end runs s
  answers_form (RanBoth ran) (how, (other, source, ran_so)) asks =
      (how, subst (λ (f : FirstForm). RunsBoth f before after write_failed ran) (same_form (contents command.program) bytes form other e is source) ran_so)
  answers_form WriteFault s asks = let f = fails_form command.mode runs s.1 in (f.0, s.0, f.1)
  answers_form ReadFault s asks = s
  answers_form OutOfMemory s asks = lacks_form command.mode runs s
  answers_form TooLong s asks = alone asks
  answers_form (Refused cause) s asks = refused_form command.mode cause runs s.0
  answers_form Checked s asks = let no : takes_form Check ≡ true = ap takes_form (sym s.0) ∙ runs in cc
  answers_form Usage s asks = absurd s
  answers_form Help s asks = absurd s
  answers_form Version s asks = absurd s

-- what is answered to files that are told, where every source is taken
module _ (contents : Contents) (command : Command) (main : List ℕ) (binary : Option (List ℕ)) (told : AreTold contents command main binary) (before after : Option (List Event)) (asked_before asked_after : Option (List (List ℕ))) (read_failed write_failed : Type 0) where
  -- what was read is what is told
  read_types : (other : List ℕ) (given : Option (List ℕ)) → AreRead contents command other given → (program : Program) → TypesFiles other given program → TypesFiles main binary program
  read_types other given read program has = subst (λ (m : List ℕ). TypesFiles m binary program) (one_main contents command main binary told other read.of_main)
      (subst (λ (b : Option (List ℕ)). TypesFiles other b program) (one_binary contents command main binary told given read.of_binary) has)

  read_refuses : (other : List ℕ) (given : Option (List ℕ)) → AreRead contents command other given → (cause : CompileRefusal) → RefusesFiles other given cause → RefusesFiles main binary cause
  read_refuses other given read cause has = subst (λ (m : List ℕ). RefusesFiles m binary cause) (one_main contents command main binary told other read.of_main)
      (subst (λ (b : Option (List ℕ)). RefusesFiles other b cause) (one_binary contents command main binary told given read.of_binary) has)

  refused_so : (mode : Mode) (cause : CompileRefusal) → takes_form mode ≡ false → RefusedAs mode contents command cause → RefusesFiles main binary cause
  refused_so Check cause t r = read_refuses r.0 r.1 r.2 cause r.3
  refused_so Reference cause t r = read_refuses r.0 r.1 r.2 cause r.3
  refused_so Single cause t r = absurd cc
  refused_so Alternate cause t r = absurd cc

  not_refused : (program : Program) → TypesFiles main binary program → takes_form command.mode ≡ false → (cause : CompileRefusal) → RefusedAs command.mode contents command cause → ⊥
  not_refused program has every cause r = no-program main binary cause program (refused_so command.mode cause every r) has

  long_none : {A : Type 0} → StopsAt contents asked_before asked_after (files_of command) (PassesLimit contents) → A
  long_none s = absurd (none_too_long contents command main binary told asked_before asked_after s)

  other_mode : {A : Type 0} (mode other : Mode) → (other ≡ mode → ⊥) → command.mode ≡ mode → command.mode ≡ other → A
  other_mode mode other apart how e = absurd (apart (sym e ∙ how))

  typed_answer : (program : Program) → TypesFiles main binary program → command.mode ≡ Check → (answer : RunAnswer) → Serves command contents before after read_failed write_failed answer → AsksFor contents asked_before asked_after (files_of command) answer → AnswersCheck Checked read_failed answer
  typed_answer program has how (Alone end) s asks = absurd (subst (λ (m : Mode). EndsAlone m contents command before after end) how s)
  typed_answer program has how (RanBoth ran) s asks = other_mode Check Alternate (λ e. cc) how s.0
  typed_answer program has how Checked s asks = inl refl
  typed_answer program has how WriteFault s asks = absurd (subst (λ (m : Mode). FailsWriting m contents command before after) how s.1)
  typed_answer program has how ReadFault s asks = inr (inl (refl, s.0))
  typed_answer program has how TooLong s asks = long_none asks
  typed_answer program has how (Refused cause) s asks = absurd (not_refused program has (ap takes_form how) cause s.0)
  typed_answer program has how OutOfMemory s asks = inr (inr refl)
  typed_answer program has how Usage s asks = absurd s
  typed_answer program has how Help s asks = absurd s
  typed_answer program has how Version s asks = absurd s

  module _ (cause : CompileRefusal) (refuses : RefusesFiles main binary cause) where
    -- files that are refused mean nothing
    no_meaning : (meaning : Behaviour) → IsMeaning contents command meaning → ⊥
    no_meaning meaning is = no-program main binary cause is.program refuses (read_types is.main is.binary is.sources_read is.program is.typed)

    no_end : (mode : Mode) (end : SourceEnd) → takes_form mode ≡ false → EndsAlone mode contents command before after end → ⊥
    no_end Single end t s = cc
    no_end Alternate end t s = s
    no_end Check end t s = s
    no_end Reference end t s = no_meaning s.0 s.1

    no_fault : (mode : Mode) → takes_form mode ≡ false → FailsWriting mode contents command before after → ⊥
    no_fault Single t s = cc
    no_fault Alternate t s = s
    no_fault Check t s = s
    no_fault Reference t s = no_meaning s.0 s.1

    untyped_answer : takes_form command.mode ≡ false → (answer : RunAnswer) → Serves command contents before after read_failed write_failed answer → AsksFor contents asked_before asked_after (files_of command) answer → AnswersCheck (Refused cause) read_failed answer
    untyped_answer every (Alone end) s asks = absurd (no_end command.mode end every s)
    untyped_answer every (RanBoth ran) s asks = let no : takes_form Alternate ≡ false = ap takes_form (sym s.0) ∙ every in absurd cc
    untyped_answer every Checked s asks = let t = s.1 in absurd (no-program main binary cause t.3.0 refuses (read_types t.0 t.1 t.2 t.3.0 t.3.1))
    untyped_answer every WriteFault s asks = absurd (no_fault command.mode every s.1)
    untyped_answer every ReadFault s asks = inr (inl (refl, s.0))
    untyped_answer every TooLong s asks = long_none asks
    untyped_answer every (Refused other) s asks = inl (ap Refused (one-refusal main binary other cause (refused_so command.mode other every s.0) refuses))
    untyped_answer every OutOfMemory s asks = inr (inr refl)
    untyped_answer every Usage s asks = absurd s
    untyped_answer every Help s asks = absurd s
    untyped_answer every Version s asks = absurd s

  -- a program that is run by its meaning
  module _ (input : List ℕ) (given : IsToldInput contents command.input input) (program : Program) (has : TypesFiles main binary program) (how : command.mode ≡ Reference) where
    abbrev meaning : Behaviour
    meaning = means program input (limits_of command)

    one_meaning : (found : Behaviour) → IsMeaning contents command found → found ≡ meaning
    one_meaning found is =
        let programs = one_program main binary is.program program (read_types is.main is.binary is.sources_read is.program is.typed) has in
        let inputs = one_input contents command.input input is.input given is.input_read in
        is.same ∙ ap (λ p. means p is.input (limits_of command)) programs ∙ ap (λ i. means program i (limits_of command)) inputs

    prefix_of : StopsMeaning contents command before after → AppendsPrefix before after meaning.events
    prefix_of s = subst (λ (m : Behaviour). AppendsPrefix before after m.events) (one_meaning s.0 s.1) s.2

    prefix_or_none : (after ≡ before) ⊎ StopsMeaning contents command before after → AppendsPrefix before after meaning.events
    prefix_or_none (inl same) = (0, subst (λ (o : Option (List Event)). Appends before o []) (sym same) (Appends-nothing before))
    prefix_or_none (inr s) = prefix_of s

    meant_answer : (answer : RunAnswer) → Serves command contents before after read_failed write_failed answer → AsksFor contents asked_before asked_after (files_of command) answer → AnswersMeaning meaning before after read_failed write_failed answer
    meant_answer (Alone end) s asks =
        let r = subst (λ (m : Mode). EndsAlone m contents command before after end) how s in
        let same = one_meaning r.0 r.1 in
        (r.2 ∙ ap (λ (m : Behaviour). m.end) same, subst (λ (m : Behaviour). Appends before after m.events) same r.3)
    meant_answer WriteFault s asks = (s.0, prefix_of (subst (λ (m : Mode). FailsWriting m contents command before after) how s.1))
    meant_answer OutOfMemory s asks = prefix_or_none (subst (λ (m : Mode). LacksMemory m contents command before after) how s)
    meant_answer ReadFault s asks = s
    meant_answer (RanBoth ran) s asks = other_mode Reference Alternate (λ e. cc) how s.0
    meant_answer Checked s asks = other_mode Reference Check (λ e. cc) how s.0
    meant_answer TooLong s asks = long_none asks
    meant_answer (Refused cause) s asks = not_refused program has (ap takes_form how) cause s.0
    meant_answer Usage s asks = absurd s
    meant_answer Help s asks = absurd s
    meant_answer Version s asks = absurd s

-- the answer to words that are a command is none that the words alone decide
not_of_words : (words : List (List ℕ)) (command : Command) → Takes words command → (answer : RunAnswer) → (answer ≡ Usage → IsUsage words) → (answer ≡ Help → Asks words AskHelp) → (answer ≡ Version → Asks words AskVersion) → IsOfWords answer → ⊥
not_of_words words command taken Usage usage help version of = (usage refl).taken command taken
not_of_words words command taken Help usage help version of = is_no_question words command taken AskHelp (help refl)
not_of_words words command taken Version usage help version of = is_no_question words command taken AskVersion (version refl)
not_of_words words command taken (Alone end) usage help version of = of
not_of_words words command taken (RanBoth ran) usage help version of = of
not_of_words words command taken Checked usage help version of = of
not_of_words words command taken ReadFault usage help version of = of
not_of_words words command taken TooLong usage help version of = of
not_of_words words command taken (Refused cause) usage help version of = of
not_of_words words command taken WriteFault usage help version of = of
not_of_words words command taken OutOfMemory usage help version of = of

module _ (words : List (List ℕ)) (contents : Contents) (before after : Option (List Event)) (asked_before asked_after : Option (List (List ℕ))) (read_failed write_failed : Type 0) (answer : RunAnswer)
    (usage : answer ≡ Usage → IsUsage words) (help : answer ≡ Help → Asks words AskHelp) (version : answer ≡ Version → Asks words AskVersion)
    (served : (IsOfWords answer → ⊥) → Names words (λ command. Serves command contents before after read_failed write_failed answer × AsksFor contents asked_before asked_after (files_of command) answer))
    (command : Command) (taken : Takes words command) where
  -- the command of the words is the one that was served
  serves_it : Serves command contents before after read_failed write_failed answer × AsksFor contents asked_before asked_after (files_of command) answer
  serves_it =
      let n = served (not_of_words words command taken answer usage help version) in
      subst (λ (c : Command). Serves c contents before after read_failed write_failed answer × AsksFor contents asked_before asked_after (files_of c) answer) (one_command words n.command command n.taken taken) n.holds

  pub told_answers : takes_form command.mode ≡ true → (bytes : List ℕ) (form : FirstForm) → contents command.program ≡ Some bytes → length bytes ≤ 1048576 → IsFirstForm bytes form → AnswersForm command.mode form before after read_failed write_failed answer
  told_answers runs bytes form e within is = answers_form contents command bytes form e within is before after asked_before asked_after read_failed write_failed runs
      (one_file_within contents command bytes e within runs taken.options asked_before asked_after) answer serves_it.0 serves_it.1

  module _ (main : List ℕ) (binary : Option (List ℕ)) (told : AreTold contents command main binary) where
    pub typed_answers : (program : Program) → command.mode ≡ Check → TypesFiles main binary program → AnswersCheck Checked read_failed answer
    typed_answers program how has = typed_answer contents command main binary told before after asked_before asked_after read_failed write_failed program has how answer serves_it.0 serves_it.1

    pub untyped_answers : (cause : CompileRefusal) → takes_form command.mode ≡ false → RefusesFiles main binary cause → AnswersCheck (Refused cause) read_failed answer
    untyped_answers cause every refuses = untyped_answer contents command main binary told before after asked_before asked_after read_failed write_failed cause refuses every answer serves_it.0 serves_it.1

    pub meant_answers : (input : List ℕ) (program : Program) → command.mode ≡ Reference → IsToldInput contents command.input input → TypesFiles main binary program
        → AnswersMeaning (means program input (limits_of command)) before after read_failed write_failed answer
    meant_answers input program how given has = meant_answer contents command main binary told before after asked_before asked_after read_failed write_failed input given program has how answer serves_it.0 serves_it.1
