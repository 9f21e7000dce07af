-- How the files of a command are read, one after the other.
use Rattle.std.specs.Prelude.{◌≡◌, ℕ, ◌<◌, ◌≤◌, List, [], ◌∷◌, ◌++◌, length, map, Option, Some, None, option_map, option_to_list, IfSome, IsSomeAnd, Result, Ok, Err}
use Rattle.srmt_outside.specs.Told.{Appends, AppendsPrefix}
use Rattle.srmt_outside.specs.declared.file_fault.FileFault.{FileFault}
use Rattle.srmt_outside.specs.declared.file_fault.FileFault.TheVariants.{Failed, TooLong, Memory}
use Rattle.srmtrun.specs.Words.{Command}

-- a file that is to be read: its name, and how many bytes it may have
pub record Wanted : Type 0 where
  pub name : List ℕ
  pub limit : ℕ

abbrev pub file_named : ℕ → List ℕ → Wanted
file_named limit name = record { name = name; limit = limit }

-- a file that may be given
abbrev pub files_named : ℕ → Option (List ℕ) → List Wanted
files_named limit name = map (file_named limit) (option_to_list name)

-- the files of a command, in the order in which they are read: the main file, the binary file and the input
abbrev pub files_of : Command → List Wanted
files_of command = file_named 1048576 command.program ∷ files_named 1048576 command.binary ++ files_named 16777216 command.input

abbrev pub names_of : List Wanted → List (List ℕ)
names_of files = map (λ file. file.name) files

-- the contents by name, of files that are told
abbrev pub Contents : Type 0
Contents = List ℕ → Option (List ℕ)

-- a file that is told is within its limit, or passes it
abbrev pub IsWithin : Contents → Wanted → Type 0
IsWithin contents file = IfSome (contents file.name) (λ bytes. length bytes ≤ file.limit)

abbrev pub PassesLimit : Contents → Wanted → Type 0
PassesLimit contents file = IfSome (contents file.name) (λ bytes. file.limit < length bytes)

abbrev pub AreWithin : Contents → List Wanted → Type 0
AreWithin contents [] = Unit {0}
AreWithin contents (file ∷ rest) = IsWithin contents file × AreWithin contents rest

-- all were asked for, once each and in order, and are within their limits
pub record ReadsAll (contents : Contents) (before after : Option (List (List ℕ))) (files : List Wanted) : Type 0 where
  pub asked : Appends before after (names_of files)
  pub within : AreWithin contents files

-- the reading stopped at one of them, of which this holds: it was asked for as the last, and those before it were read
pub record StopsAt (contents : Contents) (before after : Option (List (List ℕ))) (files : List Wanted) (P : Wanted → Type 0) : Type 0 where
  pub first : List Wanted
  pub file : Wanted
  pub rest : List Wanted
  pub order : files ≡ first ++ file ∷ rest
  pub asked : Appends before after (names_of (first ++ file ∷ []))
  pub within : AreWithin contents first
  pub holds : P file

-- how the reading of some files came out
abbrev pub Reads : {A : Type 0} → Contents → Option (List (List ℕ)) → Option (List (List ℕ)) → List Wanted → Result A FileFault → Type 0
Reads contents before after files (Ok done) = ReadsAll contents before after files
Reads contents before after files (Err Failed) = StopsAt contents before after files (λ file. Unit {0})
Reads contents before after files (Err TooLong) = StopsAt contents before after files (PassesLimit contents)
Reads contents before after files (Err Memory) = AppendsPrefix before after (names_of files)

-- ---- what was read

-- these are the bytes of a file, where it is told
pub record IsRead (contents : Contents) (file : Wanted) (bytes : List ℕ) : Type 0 where
  pub told : IfSome (contents file.name) (λ t. t ≡ bytes)
  pub within : length bytes ≤ file.limit

-- the same of a file that may be given
abbrev pub IsReadIfGiven : Contents → ℕ → Option (List ℕ) → Option (List ℕ) → Type 0
IsReadIfGiven contents limit None None = Unit {0}
IsReadIfGiven contents limit None (Some bytes) = ⊥
IsReadIfGiven contents limit (Some name) None = ⊥
IsReadIfGiven contents limit (Some name) (Some bytes) = IsRead contents (file_named limit name) bytes

-- the same of an input; without one there are no bytes
abbrev pub IsInput : Contents → Option (List ℕ) → List ℕ → Type 0
IsInput contents None bytes = bytes ≡ []
IsInput contents (Some name) bytes = IsRead contents (file_named 16777216 name) bytes

-- these are the bytes of the sources of a command
pub record AreRead (contents : Contents) (command : Command) (main : List ℕ) (binary : Option (List ℕ)) : Type 0 where
  pub of_main : IsRead contents (file_named 1048576 command.program) main
  pub of_binary : IsReadIfGiven contents 1048576 command.binary binary

-- ---- what is told

-- the files of a command are told and within their limits, and these are the bytes of its sources
pub record AreTold (contents : Contents) (command : Command) (main : List ℕ) (binary : Option (List ℕ)) : Type 0 where
  pub of_main : contents command.program ≡ Some main
  pub main_within : length main ≤ 1048576
  pub of_binary : option_map contents command.binary ≡ option_map Some binary
  pub binary_within : IfSome binary (λ bytes. length bytes ≤ 1048576)
  pub of_input : IfSome command.input (λ name. IsSomeAnd (contents name) (λ bytes. length bytes ≤ 16777216))

-- these are the told bytes of an input; without one there are none
abbrev pub IsToldInput : Contents → Option (List ℕ) → List ℕ → Type 0
IsToldInput contents None bytes = bytes ≡ []
IsToldInput contents (Some name) bytes = contents name ≡ Some bytes
