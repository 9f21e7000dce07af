-- How code is made of parts, and how registers are allotted.
--
-- Code does not depend on the place where it starts but in the places that it names: it is a function of that place, and
-- of what stands around it. Registers of a function are allotted in the order of first need, and only temporaries are
-- used again.
use Rattle.std.specs.Prelude.{ℕ, suc, ◌+◌, nat_lt, Bool, true, false, if◌then◌else◌, List, [], ◌∷◌, ◌++◌, length, Option, Some, None, Result, Ok, Err, slice_get, slice_index, slice_set}
use Rattle.mid_code.specs.declared.mid.Mid.{Mid}
use Rattle.mid_code.specs.declared.mid.Mid.TheVariants as mid
use Rattle.mid_code.specs.declared.program.RegisterKind.{RegisterKind}
use Rattle.mid_code.specs.declared.program.RegisterKind.TheVariants.{Number, Address}
use Rattle.c_types.specs.Types.{CType, is_object_pointer, same_type}

-- ---- code

-- an instruction; the registers that a call passes are a list
pub data Instruction : Type 0 where
  plain : (mid : Mid) → Instruction
  calls : (target function : ℕ) (arguments : List ℕ) → Instruction
  calls_through : (target callee type : ℕ) (arguments : List ℕ) → Instruction

-- with the line that it tells
pub record Line : Type 0 where
  pub line : ℕ
  pub instruction : Instruction

-- what stands around a part of a function: where `break` and `continue` lead, and the places that began the objects that
-- live, the newest first, those of the loop alone and all
pub record Around : Type 0 where
  pub break_at : ℕ
  pub continue_at : ℕ
  pub in_loop : List ℕ
  pub in_function : List ℕ

-- the code that starts at a place
abbrev pub Code : Type 0
Code = Around → ℕ → List Line

abbrev pub no_code : Code
no_code around start = []

infixr 20 ◌⨟◌
abbrev pub ◌⨟◌ : Code → Code → Code
c ⨟ d = λ around start. let first = c around start in first ++ d around (start + length first)

abbrev pub at_line : ℕ → Mid → Line
at_line line m = record { line = line; instruction = plain m }

-- one instruction, which may name places by its own
abbrev pub one_at : ℕ → (ℕ → Mid) → Code
one_at line m around start = at_line line (m start) ∷ []

-- code behind a jump over it: `JumpZ L, .., L:`
abbrev pub jumped : ℕ → (ℕ → Mid) → Code → Code
jumped line jump c around start =
    let skipped = c around (suc start) in at_line line (jump (suc start + length skipped)) ∷ skipped

-- two ways: `JumpZ L, .., Jump E, L: .., E:`
abbrev pub parted : ℕ → (ℕ → Mid) → Code → Code → Code
parted line jump c d around start =
    let first = c around (suc start) in
    let other = suc (suc start + length first) in
    let second = d around other in
    at_line line (jump other) ∷ first ++ at_line line (mid.Jump (other + length second)) ∷ second

-- ---- registers

-- what is allotted so far
pub record Allotted : Type 0 where
  -- the kinds of the registers of the function
  pub kinds : List RegisterKind
  -- the registers of its temporaries
  pub temporaries : List ℕ
  -- those of its locals, by their number
  pub homes : List ℕ
  -- the types of functions of the program
  pub types : List CType

-- ---- making code

-- what making code gives, the code, and what is allotted then
pub record Made (A : Type 0) : Type 0 where
  pub given : A
  pub code : Code
  pub after : Allotted

-- code is made, or there are too many registers, at a line
abbrev pub Making : Type 0 → Type 0
Making A = Allotted → Result (Made A) ℕ

abbrev pub made : {A : Type 0} → A → Code → Allotted → Result (Made A) ℕ
made a c allotted = Ok (record { given = a; code = c; after = allotted })

abbrev pub behind : {A : Type 0} → Code → Result (Made A) ℕ → Result (Made A) ℕ
behind c (Ok m) = made m.given (c ⨟ m.code) m.after
behind c (Err line) = Err line

abbrev pub and_then : {A B : Type 0} → Result (Made A) ℕ → (A → Making B) → Result (Made B) ℕ
and_then (Ok m) f = behind m.code (f m.given m.after)
and_then (Err line) f = Err line

infixl 10 ◌>>=◌ ◌>>◌
unfoldable pub ◌>>=◌ : {A B : Type 0} → Making A → (A → Making B) → Making B
m >>= f = λ allotted. and_then (m allotted) f

abbrev pub ◌>>◌ : {A B : Type 0} → Making A → Making B → Making B
m >> n = m >>= (λ _. n)

abbrev pub pure : {A : Type 0} → A → Making A
pure a allotted = made a no_code allotted

abbrev pub asks : {A : Type 0} → (Allotted → A) → Making A
asks f allotted = made (f allotted) no_code allotted

abbrev pub becomes : (Allotted → Allotted) → Making (Unit {0})
becomes f allotted = made tt no_code (f allotted)

-- an instruction at a line
abbrev pub emits : ℕ → Mid → Making (Unit {0})
emits line m allotted = made tt (one_at line (λ start. m)) allotted

abbrev pub emits_code : Code → Making (Unit {0})
emits_code c allotted = made tt c allotted

-- the same, with its code in the place of the code of a part
abbrev pub around_code : {A : Type 0} → (Code → Code) → Result (Made A) ℕ → Result (Made A) ℕ
around_code f (Ok m) = made m.given (f m.code) m.after
around_code f (Err line) = Err line

abbrev pub wrapped : {A : Type 0} → (Code → Code) → Making A → Making A
wrapped f m allotted = around_code f (m allotted)

-- its code is handed on, and stands nowhere yet
abbrev pub code_of : {A : Type 0} → Result (Made A) ℕ → Result (Made (A × Code)) ℕ
code_of (Ok m) = made (m.given, m.code) no_code m.after
code_of (Err line) = Err line

abbrev pub apart : {A : Type 0} → Making A → Making (A × Code)
apart m allotted = code_of (m allotted)

-- two ways, of which the second begins behind the first; what the first gives is kept
abbrev pub two_ways : {A B : Type 0} → ℕ → (ℕ → Mid) → Making A → (A → Making B) → Making A
two_ways line jump m n = do
  first ← apart m
  second ← apart (n first.0)
  emits_code (parted line jump first.1 second.1)
  pure first.0

abbrev pub either : {A : Type 0} → Bool → Making A → Making A → Making A
either true m n = m
either false m n = n

-- ---- allotting

abbrev pub most_registers : ℕ
most_registers = 1024

-- one register more; a function has at most 1,024
abbrev pub new : RegisterKind → ℕ → Making ℕ
new kind line allotted = if_room (nat_lt (length allotted.kinds) most_registers)
  where
    if_room : Bool → Result (Made ℕ) ℕ
    if_room true = made (length allotted.kinds) no_code (record allotted { kinds = allotted.kinds ++ kind ∷ [] })
    if_room false = Err line

-- a temporary, which is allotted when it is first used
abbrev pub temporary : ℕ → ℕ → Making ℕ
temporary k line = asks (λ allotted. slice_get allotted.temporaries k) >>= found
  where
    found : Option ℕ → Making ℕ
    found (Some r) = pure r
    found None = do
      r ← new Number line
      becomes (λ allotted. record allotted { temporaries = allotted.temporaries ++ r ∷ [] })
      pure r

-- pointers to objects stand in registers of their own kind
abbrev pub kind_of : CType → RegisterKind
kind_of t = if is_object_pointer t then Address else Number

-- where a value of a type goes: to a new address, or to a temporary
abbrev pub target_for : CType → ℕ → ℕ → Making ℕ
target_for t k line = either (is_object_pointer t) (new Address line) (temporary k line)

-- the first temporary that is free behind a value of a type
abbrev pub free_behind : CType → ℕ → ℕ
free_behind t k = if is_object_pointer t then k else suc k

abbrev pub home_of : ℕ → Making ℕ
home_of n = asks (λ allotted. slice_index allotted.homes n)

abbrev pub settles : ℕ → ℕ → Making (Unit {0})
settles n r = becomes (λ allotted. record allotted { homes = slice_set allotted.homes n r })

-- ---- types of functions

-- the number of a type, the first time the next one
abbrev pub place_of_type : CType → ℕ → List CType → ℕ
place_of_type t n [] = n
place_of_type t n (u ∷ us) = if same_type t u then n else place_of_type t (suc n) us

abbrev pub with_type : CType → List CType → List CType
with_type t [] = t ∷ []
with_type t (u ∷ us) = if same_type t u then u ∷ us else u ∷ with_type t us

abbrev pub type_number : CType → Making ℕ
type_number t = do
  becomes (λ allotted. record allotted { types = with_type t allotted.types })
  asks (λ allotted. place_of_type t 0 allotted.types)
