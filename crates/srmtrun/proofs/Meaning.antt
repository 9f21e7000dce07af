-- What is answered to a program that is run by its meaning.
use Rattle.std.proofs.Common.{◌≡◌, ◌⊎◌, inl, inr, ℕ, ◌≤◌, ◌<◌, List, [], ◌∷◌, Option, Some, None, refl, sym, subst, arith}
use Rattle.std.specs.Prelude.{suc, slice_index}
use Rattle.srmt_base.specs.declared.event.Event.{Event}
use Rattle.srmt_base.specs.declared.limits.Limits.{Limits}
use Rattle.srmt_base.specs.declared.part.Part.{Part}
use Rattle.srmt_base.specs.declared.part.Part.TheVariants.{Protected, Binary}
use Rattle.srmt_base.specs.Statics.{static_cells}
use Rattle.c_tree.specs.declared.unit.Unit.{Unit as TreeUnit}
use Rattle.c_typed.specs.Statements.{Program}
use Rattle.source_meaning.specs.Start.{Behaviour, means, objects_at_start}
use Rattle.c_front.specs.Front.{IsSource, IsBinary, TypesFiles, RefusesFiles, IsRefusal}
use Rattle.parsed_laws.specs.Parsed.{AreBytes, IsParsed, IsParsedIf, TypesBytes}
use Rattle.c_meaning.specs.Limits.{FitLimits}
use Rattle.answers.specs.declared.answer.RunAnswer.{RunAnswer}
use Rattle.answers.specs.declared.answer.RunAnswer.TheVariants.{Alone, Ran as RanBoth, Checked, Help, Version, Usage, ReadFault, TooLong, Refused, WriteFault, OutOfMemory}
use Rattle.srmtrun.specs.declared.words.Mode.{Mode}
use Rattle.srmtrun.specs.declared.words.Mode.TheVariants.{Reference}
use Rattle.srmtrun.specs.Words.{Command}
use Rattle.srmtrun.specs.Reads.{Contents, Wanted, ReadsAll, IsInput, AreRead}
use Rattle.srmtrun.specs.Still.{limits_of, IsMeaning, AnswersMeaning, EndsAlone, FailsWriting, LacksMemory, RefusedAs, AsksFor}
use Rattle.srmtrun.specs.Parts.{Serves, AreLimits, AnswersSources}
use Rattle.srmtrun.proofs.Serving.{silent, refusal_asks, memory_asks}

-- ---- what the evaluator asks for

parsed : (src : List ℕ) (unit : TreeUnit) → IsSource src unit → IsParsed src unit
parsed src unit s = record { tokens = s.tokens; lexed = s.lexed; derived = s.parsed.0 }

parsed_if : (binary : Option (List ℕ)) (other : Option TreeUnit) → IsBinary binary other → IsParsedIf binary other
parsed_if None None h = tt
parsed_if None (Some unit) h = absurd h
parsed_if (Some src) None h = absurd h
parsed_if (Some src) (Some unit) h = parsed src unit h

-- the items of a list of bytes
pub each_byte : (bytes : List ℕ) → ((k : ℕ) → slice_index bytes k < 256) → AreBytes bytes
each_byte [] h = tt
each_byte (b ∷ bytes) h = (h 0, each_byte bytes (λ k. h (suc k)))

-- the program of files is the program of their bytes
pub types_bytes : (main : List ℕ) (binary : Option (List ℕ)) (program : Program) → TypesFiles main binary program → TypesBytes main binary program
types_bytes main binary program t = record {
  unit = t.trees.unit;
  other = t.trees.other;
  parsed = parsed main t.trees.unit t.trees.of_main;
  other_parsed = parsed_if binary t.trees.other t.trees.of_binary;
  typed = t.typed;
}

-- the limits fit a program whose objects have room
pub room_fits : (program : Program) (limits : Limits) → AreLimits limits → ((part : Part) → static_cells (objects_at_start program part) ≤ 1048576) → FitLimits program limits
room_fits program limits are room =
    let turns = are.turns in let depth = are.depth in let cells = are.cells in let main = room Protected in let binary = room Binary in
    record { turns = omega arith; depth = omega arith; cells = omega arith; main_cells = omega arith; binary_cells = omega arith }

-- ---- what its answer says

module _ (contents : Contents) (command : Command) (before after : Option (List Event)) (read_failed write_failed : Type 0) (how : command.mode ≡ Reference) where
  meaning_serves : (meaning : Behaviour) → IsMeaning contents command meaning → (answer : RunAnswer) → AnswersMeaning meaning before after ⊥ write_failed answer → Serves command contents before after read_failed write_failed answer
  meaning_serves meaning is (Alone end) a = subst (λ (m : Mode). EndsAlone m contents command before after end) (sym how) (meaning, is, a.0, a.1)
  meaning_serves meaning is WriteFault a = (a.0, subst (λ (m : Mode). FailsWriting m contents command before after) (sym how) (meaning, is, a.1))
  meaning_serves meaning is OutOfMemory a = subst (λ (m : Mode). LacksMemory m contents command before after) (sym how) (inr (meaning, is, a))
  meaning_serves meaning is ReadFault a = absurd a.0
  meaning_serves meaning is (RanBoth ran) a = absurd a
  meaning_serves meaning is Checked a = absurd a
  meaning_serves meaning is Usage a = absurd a
  meaning_serves meaning is Help a = absurd a
  meaning_serves meaning is Version a = absurd a
  meaning_serves meaning is TooLong a = absurd a
  meaning_serves meaning is (Refused cause) a = absurd a

  refusal_serves : (main : List ℕ) (binary : Option (List ℕ)) → AreRead contents command main binary → (answer : RunAnswer) → IsRefusal (RefusesFiles main binary) answer → after ≡ before → Serves command contents before after read_failed write_failed answer
  refusal_serves main binary read answer (inl memory) same =
      subst (λ (a : RunAnswer). Serves command contents before after read_failed write_failed a) (sym memory) (silent contents command before after command.mode same)
  refusal_serves main binary read answer (inr (cause, is, refuses)) same =
      subst (λ (a : RunAnswer). Serves command contents before after read_failed write_failed a) (sym is)
      (subst (λ (m : Mode). RefusedAs m contents command cause) (sym how) (main, binary, read, refuses), same)

  pub sources_serve : (main : List ℕ) (binary : Option (List ℕ)) (input : List ℕ) → AreRead contents command main binary → IsInput contents command.input input → (answer : RunAnswer)
      → AnswersSources main binary input (limits_of command) before after write_failed answer → Serves command contents before after read_failed write_failed answer
  sources_serve main binary input read given answer (inl (refusal, same)) = refusal_serves main binary read answer refusal same
  sources_serve main binary input read given answer (inr (program, typed, a)) =
      let is : IsMeaning contents command (means program input (limits_of command)) =
      record { main = main; binary = binary; input = input; program = program; sources_read = read; input_read = given; typed = typed; same = refl } in
      meaning_serves (means program input (limits_of command)) is answer a

-- all files were asked for
module _ (contents : Contents) (before after : Option (List (List ℕ))) (files : List Wanted) (reads : ReadsAll contents before after files) where
  meaning_asks : (meaning : Behaviour) (old new : Option (List Event)) (write_failed : Type 0) (answer : RunAnswer) → AnswersMeaning meaning old new ⊥ write_failed answer → AsksFor contents before after files answer
  meaning_asks meaning old new write_failed (Alone end) a = reads
  meaning_asks meaning old new write_failed WriteFault a = reads
  meaning_asks meaning old new write_failed OutOfMemory a = memory_asks contents before after files reads
  meaning_asks meaning old new write_failed ReadFault a = absurd a.0
  meaning_asks meaning old new write_failed (RanBoth ran) a = absurd a
  meaning_asks meaning old new write_failed Checked a = absurd a
  meaning_asks meaning old new write_failed Usage a = absurd a
  meaning_asks meaning old new write_failed Help a = absurd a
  meaning_asks meaning old new write_failed Version a = absurd a
  meaning_asks meaning old new write_failed TooLong a = absurd a
  meaning_asks meaning old new write_failed (Refused cause) a = absurd a

  pub sources_ask : (main : List ℕ) (binary : Option (List ℕ)) (input : List ℕ) (limits : Limits) (old new : Option (List Event)) (write_failed : Type 0) (answer : RunAnswer)
      → AnswersSources main binary input limits old new write_failed answer → AsksFor contents before after files answer
  sources_ask main binary input limits old new write_failed answer (inl (refusal, same)) = refusal_asks contents before after files reads (RefusesFiles main binary) answer refusal
  sources_ask main binary input limits old new write_failed answer (inr (program, typed, a)) = meaning_asks (means program input limits) old new write_failed answer a
