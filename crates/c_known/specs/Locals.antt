-- Locals of the code as they change, and a step of checking on them.
use Rattle.std.specs.Prelude.{◌≡◌, ℕ, suc, true, ◌||◌, List, [], ◌∷◌, drop, take, Option, Some, None, slice_get, slice_set, Result, Ok, Err}
use Rattle.std.specs.declared.vec.Vec.{Vec}
use Rattle.std.specs.declared.alloc.Global.{Global}
use Rattle.c_types.specs.declared.type_ref.Row.{Row}
use Rattle.c_types.specs.declared.type_ref.QualifiedRef.{QualifiedRef}
use Rattle.c_types.specs.Types.{is_array}
use Rattle.c_types.specs.Table.{type_at}
use Rattle.c_typed.specs.declared.program.LocalRow.{LocalRow}
use Rattle.c_typed.specs.Typed as tree
use Rattle.typing_rules.specs.declared.refusal.TypeRefusal.{TypeRefusal}
use Rattle.typing_rules.specs.declared.refusal.TypeRefusal.TheVariants.{Memory}
use Rattle.typing_rules.specs.Known as known
use Rattle.typing_rules.specs.Checking.{Checking, ◌>>=◌, ◌>>◌, pure, asks, makes}
use Rattle.c_known.specs.declared.local.Meaning.{Meaning}
use Rattle.c_known.specs.declared.local.Meaning.TheVariants as meaning
use Rattle.c_known.specs.declared.local.Local.{Local}

-- the end of a list of parameters, whose locals began at a number
abbrev pub list_ended : ℕ → Checking (List known.Local)
list_ended before = do
  found ← asks (λ k. drop before k.locals)
  makes (λ k. known.closed (known.with_locals (take before k.locals) k))
  pure found

abbrev pub changed_to : (Local → Local) → List Local → ℕ → Option Local → List Local
changed_to f locals n None = locals
changed_to f locals n (Some l) = slice_set locals n (f l)

-- a local changes, if it is there
abbrev pub changed_at : (Local → Local) → List Local → ℕ → List Local
changed_at f locals n = changed_to f locals n (slice_get locals n)

abbrev pub addressed : Local → Local
addressed l = record l { is_addressed = true }

abbrev pub completed : QualifiedRef → Local → Local
completed ty l = record l { ty = ty }

-- the number of a local, if a place is one
abbrev pub local_number : tree.PlaceNode → Option ℕ
local_number (tree.local n) = Some n
local_number (tree.static n) = None
local_number (tree.text n) = None
local_number (tree.pointed v) = None
local_number (tree.element at pointer_first a b) = None

-- a number of rows, where it fits
abbrev pub IsCount : Result ℕ TypeRefusal → ℕ → Type 0
IsCount (Ok x) n = x ≡ n
IsCount (Err refusal) n = refusal ≡ Memory

-- the row of a local
abbrev pub row_in : List Row → Local → LocalRow
row_in rows l = record {
  line = l.line;
  first = l.first;
  ty = l.ty;
  is_placed = l.is_addressed || l.ty.qualifiers.is_volatile || is_array (type_at rows l.ty.target);
}

-- the scope of a function's parameters, which are its first locals
abbrev pub with_name : Option (Vec ℕ Global) → ℕ → List (List ℕ × Meaning) → List (List ℕ × Meaning)
with_name None n scope = scope
with_name (Some name) n scope = (name.items, meaning.Local n) ∷ scope

abbrev pub names_from : ℕ → List Local → List (List ℕ × Meaning)
names_from n [] = []
names_from n (p ∷ ps) = with_name p.name n (names_from (suc n) ps)

-- one more parameter in front of the innermost scope
abbrev pub DeclaresOne : List (List (List ℕ × Meaning)) → List (List (List ℕ × Meaning)) → Local → ℕ → Type 0
DeclaresOne old new l n = (scope : List (List ℕ × Meaning)) → old ≡ scope ∷ [] → new ≡ with_name l.name n scope ∷ []
