-- Files by name, as the forms in memory keep them.
use Rattle.std.specs.Prelude.{ℕ, List, map, Vec, String, string_bytes, Option}
use Rattle.std.specs.Ordering.{nat_cmp}
use Rattle.std.specs.Cmp.Lexicographic.{slice_cmp}
use Rattle.std.specs.BTreeMap.{BTreeMap}
use Rattle.std.specs.Coded.{Coded, coded_list, coded_ℕ}
use Rattle.std.specs.FinMap as finite
use Rattle.std.specs.declared.alloc.Global.{Global}

-- from the bytes of a name to the bytes of its file
abbrev pub Shelf : Type 0
Shelf = finite.FinMap (slice_cmp nat_cmp) (List ℕ)

abbrev pub shelf_code : Coded Shelf
shelf_code = finite.code (coded_list coded_ℕ) (coded_list coded_ℕ)

-- no file
abbrev pub empty : Shelf
empty = finite.empty

-- the bytes of the file of this name, if there is one
abbrev pub file_of : Shelf → List ℕ → Option (List ℕ)
file_of files name = finite.get files name

-- the same files, but these bytes at this name
abbrev pub with_file : Shelf → List ℕ → List ℕ → Shelf
with_file files name bytes = finite.insert files name bytes

-- the files that a map of the program holds
abbrev pub shelf_of : BTreeMap (String Global) (Vec ℕ Global) → Shelf
shelf_of files = finite.from_entries (map (λ e. (string_bytes e.0, e.1.items)) files.entries)

-- the names that a list of the program holds
abbrev pub names_of : List (String Global) → List (List ℕ)
names_of names = map string_bytes names
