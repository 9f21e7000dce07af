-- What the parts of the reader of words give.
use Rattle.std.specs.Prelude.{◌≡◌, ℕ, List, [], ◌∷◌, ◌++◌, codes, Option, Some, None, is_none, option_map, option_to_list, if◌then◌else◌}
use Rattle.std.specs.List.{flat_map}
use Rattle.srmtrun.specs.declared.words.Mode.{Mode}
use Rattle.srmtrun.specs.declared.words.Command as code_command
use Rattle.srmtrun.specs.declared.words.Part as code_part
use Rattle.srmtrun.specs.declared.words.Part.TheVariants as code
use Rattle.srmtrun.specs.declared.words.Said as code_said
use Rattle.srmtrun.specs.declared.words.Flag.{Flag}
use Rattle.srmtrun.specs.declared.words.Flag.TheVariants as flag
use Rattle.srmtrun.specs.Words.{flag_of, Command, Part, moded, main_file, binary_file, input_file, turn_limit, spell, IsNamed, AreNamed, mode_in, program_in, binary_in, input_in, turns_in, MayHaveOptions}

-- the word of a flag
abbrev pub text_of : Flag → List ℕ
text_of (flag.Mode mode) = flag_of mode
text_of flag.Binary = codes "--binary"
text_of flag.Input = codes "--input"
text_of flag.Turns = codes "--turns"

-- ---- what the values of the code stand for

abbrev pub command_of : code_command.Command → Command
command_of c =
    record {
      mode = c.mode;
      program = c.program.now;
      binary = option_map (λ name. name.now) c.binary;
      input = option_map (λ name. name.now) c.input;
      turns = c.turns;
    }

abbrev pub part_of : code_part.Part → Part
part_of (code.Mode mode) = moded mode
part_of (code.Program name) = main_file name.now
part_of (code.Binary name) = binary_file name.now
part_of (code.Input name) = input_file name.now
part_of (code.Turns turns) = turn_limit turns

-- what parts have said so far
pub record Said : Type 0 where
  pub mode : Option Mode
  pub program : Option (List ℕ)
  pub binary : Option (List ℕ)
  pub input : Option (List ℕ)
  pub turns : Option ℕ

abbrev pub said_of : code_said.Said → Said
said_of s =
    record {
      mode = s.mode;
      program = option_map (λ name. name.now) s.program;
      binary = option_map (λ name. name.now) s.binary;
      input = option_map (λ name. name.now) s.input;
      turns = s.turns;
    }

-- ---- parts

-- words begin with a part
pub record Begins (words : List (List ℕ)) (part : Part) (behind : List (List ℕ)) : Type 0 where
  pub spelled : words ≡ spell part ++ behind
  pub named : IsNamed part

-- what a part says beside what was said before, where this is not said yet
abbrev pub added : Said → Part → Option Said
added s (moded mode) = if is_none s.mode then Some (record s { mode = Some mode }) else None
added s (main_file name) = if is_none s.program then Some (record s { program = Some name }) else None
added s (binary_file name) = if is_none s.binary then Some (record s { binary = Some name }) else None
added s (input_file name) = if is_none s.input then Some (record s { input = Some name }) else None
added s (turn_limit turns) = if is_none s.turns then Some (record s { turns = Some turns }) else None

-- what parts say
pub record Says (parts : List Part) (said : Said) : Type 0 where
  pub mode : flat_map mode_in parts ≡ option_to_list said.mode
  pub program : flat_map program_in parts ≡ option_to_list said.program
  pub binary : flat_map binary_in parts ≡ option_to_list said.binary
  pub input : flat_map input_in parts ≡ option_to_list said.input
  pub turns : flat_map turns_in parts ≡ option_to_list said.turns

-- the words are parts that say this, and these words behind them
pub record SaysBefore (words left : List (List ℕ)) (said : Said) : Type 0 where
  pub parts : List Part
  pub spelled : words ≡ flat_map spell parts ++ left
  pub named : AreNamed parts
  pub says : Says parts said

-- what was said is a command
pub record IsCommand (said : Said) (command : Command) : Type 0 where
  pub mode : said.mode ≡ Some command.mode
  pub program : said.program ≡ Some command.program
  pub binary : said.binary ≡ command.binary
  pub input : said.input ≡ command.input
  pub turns : said.turns ≡ command.turns
  pub options : MayHaveOptions command
