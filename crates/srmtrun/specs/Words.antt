-- The words of a command.
use Rattle.std.specs.Prelude.{◌≡◌, ℕ, ◌≤◌, Bool, true, false, not, ◌&&◌, ◌⊎◌, nat_eq, List, [], ◌∷◌, map, codes, decimal, Option, None, option_to_list, IsTrue, String, string_bytes}
use Rattle.std.specs.List.{starts_with, ends_with, flat_map}
use Rattle.std.specs.declared.alloc.Global.{Global}
use Rattle.srmtrun.specs.declared.words.Mode.{Mode}
use Rattle.srmtrun.specs.declared.words.Mode.TheVariants.{Single, Alternate, Reference, Check}
use Rattle.srmtrun.specs.declared.words.Question.{Question}
use Rattle.srmtrun.specs.declared.words.Question.TheVariants.{Help, Version}

-- the bytes of each word
abbrev pub texts : List (String Global) → List (List ℕ)
texts words = map string_bytes words

-- the flag that asks for a mode
abbrev pub flag_of : Mode → List ℕ
flag_of Single = codes "--single"
flag_of Alternate = codes "--alternate"
flag_of Reference = codes "--reference"
flag_of Check = codes "--check"

-- Which modes take sources of the first form alone, and no option. The others take every source.
abbrev pub takes_form : Mode → Bool
takes_form Single = true
takes_form Alternate = true
takes_form Reference = false
takes_form Check = false

-- a word names a file: it begins as no flag does; the name of a source does not end as that of an object file
abbrev pub names_file : List ℕ → Bool
names_file word = not (starts_with nat_eq word (codes "-"))

abbrev pub names_source : List ℕ → Bool
names_source word = names_file word && not (ends_with nat_eq word (codes ".srm"))

-- how many turns a program can be given
pub record IsTurns (turns : ℕ) : Type 0 where
  pub least : 1 ≤ turns
  pub most : turns ≤ 1000000000000

-- what is to be done, with the names of the main file and, where they are given, of the binary file and of the input, and
-- how many turns the program may take
pub record Command : Type 0 where
  pub mode : Mode
  pub program : List ℕ
  pub binary : Option (List ℕ)
  pub input : Option (List ℕ)
  pub turns : Option ℕ

-- a part of a command: the flag of a mode, the name of the main file, or an option with its value
pub data Part : Type 0 where
  moded : (mode : Mode) → Part
  main_file : (name : List ℕ) → Part
  binary_file : (name : List ℕ) → Part
  input_file : (name : List ℕ) → Part
  turn_limit : (turns : ℕ) → Part

-- the words of a part, and what its name or its number is to be
abbrev pub spell : Part → List (List ℕ)
spell (moded mode) = flag_of mode ∷ []
spell (main_file name) = name ∷ []
spell (binary_file name) = codes "--binary" ∷ name ∷ []
spell (input_file name) = codes "--input" ∷ name ∷ []
spell (turn_limit turns) = codes "--turns" ∷ decimal turns ∷ []

abbrev pub IsNamed : Part → Type 0
IsNamed (moded mode) = Unit {0}
IsNamed (main_file name) = IsTrue (names_source name)
IsNamed (binary_file name) = IsTrue (names_file name)
IsNamed (input_file name) = IsTrue (names_file name)
IsNamed (turn_limit turns) = IsTurns turns

abbrev pub AreNamed : List Part → Type 0
AreNamed [] = Unit {0}
AreNamed (part ∷ rest) = IsNamed part × AreNamed rest

-- what a part gives of each kind
abbrev pub mode_in : Part → List Mode
mode_in (moded mode) = mode ∷ []
mode_in (main_file name) = []
mode_in (binary_file name) = []
mode_in (input_file name) = []
mode_in (turn_limit turns) = []

abbrev pub program_in : Part → List (List ℕ)
program_in (moded mode) = []
program_in (main_file name) = name ∷ []
program_in (binary_file name) = []
program_in (input_file name) = []
program_in (turn_limit turns) = []

abbrev pub binary_in : Part → List (List ℕ)
binary_in (moded mode) = []
binary_in (main_file name) = []
binary_in (binary_file name) = name ∷ []
binary_in (input_file name) = []
binary_in (turn_limit turns) = []

abbrev pub input_in : Part → List (List ℕ)
input_in (moded mode) = []
input_in (main_file name) = []
input_in (binary_file name) = []
input_in (input_file name) = name ∷ []
input_in (turn_limit turns) = []

abbrev pub turns_in : Part → List ℕ
turns_in (moded mode) = []
turns_in (main_file name) = []
turns_in (binary_file name) = []
turns_in (input_file name) = []
turns_in (turn_limit turns) = turns ∷ []

-- no option is given
pub record HasNoOption (command : Command) : Type 0 where
  pub binary : command.binary ≡ None
  pub input : command.input ≡ None
  pub turns : command.turns ≡ None

-- options are given only where every source is taken
abbrev pub MayHaveOptions : Command → Type 0
MayHaveOptions command = (takes_form command.mode ≡ false) ⊎ HasNoOption command

-- The words are taken as a command: they are its parts in any order, a mode and a main file once, each option at most
-- once.
pub record Takes (words : List (List ℕ)) (command : Command) : Type 0 where
  pub parts : List Part
  pub spelled : words ≡ flat_map spell parts
  pub named : AreNamed parts
  pub mode : flat_map mode_in parts ≡ command.mode ∷ []
  pub program : flat_map program_in parts ≡ command.program ∷ []
  pub binary : flat_map binary_in parts ≡ option_to_list command.binary
  pub input : flat_map input_in parts ≡ option_to_list command.input
  pub turns : flat_map turns_in parts ≡ option_to_list command.turns
  pub options : MayHaveOptions command

-- the words are one question, and nothing else
abbrev pub Asks : List (List ℕ) → Question → Type 0
Asks words Help = words ≡ codes "--help" ∷ []
Asks words Version = words ≡ codes "--version" ∷ []

-- the words are no command, and no question
pub record IsUsage (words : List (List ℕ)) : Type 0 where
  pub taken : (command : Command) → Takes words command → ⊥
  pub asked : (question : Question) → Asks words question → ⊥
