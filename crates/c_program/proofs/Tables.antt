-- Tables of what entities are, filled by one file behind the other.
use Rattle.std.proofs.Common.{arith, ◌≡◌, ℕ, zero, suc, ◌+◌, ◌<◌, ◌≤◌, ◌==◌, Bool as Test, true, false, if◌then◌else◌, List, [], ◌∷◌, map, length, drop, drop-cons, drop_of_length-le, add-one, get_or, replicate, Option, Some, None, slice_get, slice_set, refl, sym, ap, ◌∙◌, subst, Vec, Global, inl, inr}
use Rattle.std.proofs.lemmas.Bool.{eq-eqb, eqb-true}
use Rattle.std.proofs.lemmas.Bool.Decides.{leb_tells}
use Rattle.std.proofs.lemmas.List.{length-map}
use Rattle.c_typed.specs.declared.program.Numbered.{Numbered}
use Rattle.c_typed.specs.declared.program.Numbered.TheVariants.{Function, Object, Nowhere}
use Rattle.c_types.specs.declared.type_ref.TypeRef.{TypeRef}
use Rattle.c_types.specs.Types.{CType}
use Rattle.c_typed.specs.declared.program.Function as code_function
use Rattle.c_typed.specs.declared.program.Static as code_static
use Rattle.c_typed.specs.declared.program.TypedFile as code_file
use Rattle.c_typed.specs.StatementViews.{function_view, static_view, file_view}
use Rattle.c_typed.specs.Statements as typed
use Rattle.c_typed.specs.Statements.{or_function, or_object, function_from, static_from, numbered_in, numbers_from, first_binary_object}
use Rattle.c_program.specs.Numbers.{or_numbered, alone, by_functions, by_statics, filled}

or-nowhere : (x : Numbered) → or_numbered x Nowhere ≡ x
or-nowhere Nowhere = refl
or-nowhere (Function n) = refl
or-nowhere (Object n) = refl

or-twice : (x y z : Numbered) → or_numbered (or_numbered x y) z ≡ or_numbered x (or_numbered y z)
or-twice Nowhere y z = refl
or-twice (Function n) y z = refl
or-twice (Object n) y z = refl

filled-same : (f g : ℕ → Numbered) → ((e : ℕ) → f e ≡ g e) → (n : ℕ) (xs : List Numbered) → filled f n xs ≡ filled g n xs
filled-same f g same n [] = refl
filled-same f g same n (x ∷ xs) = λ i. or_numbered x (same n i) ∷ filled-same f g same (suc n) xs i

-- a table that is filled twice
filled-twice : (f g : ℕ → Numbered) (n : ℕ) (xs : List Numbered) → filled g n (filled f n xs) ≡ filled (λ e. or_numbered (f e) (g e)) n xs
filled-twice f g n [] = refl
filled-twice f g n (x ∷ xs) = λ i. or-twice x (f n) (g n) i ∷ filled-twice f g (suc n) xs i

-- nothing is said
filled-nowhere : (n : ℕ) (xs : List Numbered) → filled (λ e. Nowhere) n xs ≡ xs
filled-nowhere n [] = refl
filled-nowhere n (x ∷ xs) = λ i. or-nowhere x i ∷ filled-nowhere (suc n) xs i

-- ---- one place

not-equal : (a b : ℕ) → (a ≡ b → ⊥) → (a == b) ≡ false
not-equal a b other = by (a == b) refl
  where
    by : (t : Test) → (a == b) ≡ t → (a == b) ≡ false
    by true e = absurd (other (eqb-true a b e))
    by false e = e

alone-at : (m n : ℕ) (is : Numbered) → n ≡ m → alone m is n ≡ is
alone-at m n is same = ap (λ t. if t then is else Nowhere) (eq-eqb n m same)

alone-elsewhere : (m n : ℕ) (is : Numbered) → (n ≡ m → ⊥) → alone m is n ≡ Nowhere
alone-elsewhere m n is other = ap (λ t. if t then is else Nowhere) (not-equal n m other)

-- behind the place
alone-past : (m n : ℕ) (is : Numbered) (xs : List Numbered) → m < n → filled (alone m is) n xs ≡ xs
alone-past m n is [] h = refl
alone-past m n is (x ∷ xs) h =
    let other : n ≡ m → ⊥ = λ e. omega arith in
    let more : m < suc n = omega arith in
    ap (λ y. or_numbered x y ∷ filled (alone m is) (suc n) xs) (alone-elsewhere m n is other) ∙ (λ i. or-nowhere x i ∷ alone-past m (suc n) is xs more i)

-- in front of the place
alone-beyond : (m n : ℕ) (is : Numbered) (xs : List Numbered) → n + length xs ≤ m → filled (alone m is) n xs ≡ xs
alone-beyond m n is [] h = refl
alone-beyond m n is (x ∷ xs) h =
    let other : n ≡ m → ⊥ = λ e. omega arith in
    let more : suc n + length xs ≤ m = omega arith in
    ap (λ y. or_numbered x y ∷ filled (alone m is) (suc n) xs) (alone-elsewhere m n is other) ∙ (λ i. or-nowhere x i ∷ alone-beyond m (suc n) is xs more i)

-- the table has no place of the entity
pub fill-beyond : (v : Vec Numbered Global) (n : ℕ) (is : Numbered) → (n < v.len → ⊥) → v.items ≡ filled (alone n is) 0 v.items
fill-beyond v n is never = elim (leb_tells (length v.items) n) [
  | inl h ↦ let past : length v.items ≤ n = h.1 in sym (alone-beyond n 0 is v.items (omega arith))
  | inr h ↦ absurd (never (subst (λ m. n < m) (sym v.ok.0) h.1))
]

some-is : {A : Type 0} {x y : A} → Some x ≡ Some y → x ≡ y
some-is e = cc

none-some : {A B : Type 0} {x : A} → None ≡ Some x → B
none-some e = absurd (cc)

set-from : (m n k : ℕ) (is x : Numbered) (xs : List Numbered) → m ≡ n + k → slice_get xs k ≡ Some x → slice_set xs k (or_numbered x is) ≡ filled (alone m is) n xs
set-from m n k is x [] at there = none-some there
set-from m n zero is x (y ∷ xs) at there =
    let here : n ≡ m = omega arith in
    let past : m < suc n = omega arith in
    let same : x ≡ y = sym (some-is there) in
    (λ i. or_numbered (same i) (sym (alone-at m n is here) i) ∷ sym (alone-past m (suc n) is xs past) i)
set-from m n (suc k) is x (y ∷ xs) at there =
    let other : n ≡ m → ⊥ = λ e. omega arith in
    let rest : m ≡ suc n + k = omega arith in
    (λ i. sym (or-nowhere y) i ∷ set-from m (suc n) k is x xs rest there i) ∙ ap (λ z. or_numbered y z ∷ filled (alone m is) (suc n) xs) (sym (alone-elsewhere m n is other))

-- an entity's place is filled
pub set-alone : (m : ℕ) (is x : Numbered) (xs : List Numbered) → slice_get xs m ≡ Some x → slice_set xs m (or_numbered x is) ≡ filled (alone m is) 0 xs
set-alone m is x xs there = set-from m 0 m is x xs (omega arith) there

-- ---- functions and static objects

from-one-on : {A : Type 0} (xs : List A) (i : ℕ) (x : A) → i < length xs → x ≡ get_or xs i x → drop i xs ≡ x ∷ drop (i + 1) xs
from-one-on xs i x below is = drop-cons xs i x below ∙ ap (λ y. y ∷ drop (suc i) xs) (sym is) ∙ ap (λ n. x ∷ drop n xs) (sym (add-one i))

none-from : {A : Type 0} (xs : List A) (i : ℕ) → length xs ≤ i → drop i xs ≡ []
none-from xs i past = drop_of_length-le xs past

first-function : (t : Test) (n : ℕ) (o : Option ℕ) → or_function (if t then Some n else o) Nowhere ≡ or_numbered (if t then Function n else Nowhere) (or_function o Nowhere)
first-function true n o = refl
first-function false n o = refl

first-object : (t : Test) (n : ℕ) (o : Option ℕ) → or_object (if t then Some n else o) Nowhere ≡ or_numbered (if t then Object n else Nowhere) (or_object o Nowhere)
first-object true n o = refl
first-object false n o = refl

-- the first function fills the table, and then the others
function-first : (n next : ℕ) (f : typed.Function) (fs : List typed.Function) (xs : List Numbered) → next ≡ suc n
    → filled (by_functions n (f ∷ fs)) 0 xs ≡ filled (by_functions next fs) 0 (filled (alone f.entity (Function n)) 0 xs)
function-first n next f fs xs e =
    filled-same (by_functions n (f ∷ fs)) (λ e. or_numbered (alone f.entity (Function n) e) (by_functions (suc n) fs e))
    (λ e. first-function (e == f.entity) n (function_from e (suc n) fs)) 0 xs
    ∙ sym (filled-twice (alone f.entity (Function n)) (by_functions (suc n) fs) 0 xs)
    ∙ ap (λ m. filled (by_functions m fs) 0 (filled (alone f.entity (Function n)) 0 xs)) (sym e)

static-first : (n next : ℕ) (s : typed.Static) (ss : List typed.Static) (xs : List Numbered) → next ≡ suc n
    → filled (by_statics n (s ∷ ss)) 0 xs ≡ filled (by_statics next ss) 0 (filled (alone s.entity (Object n)) 0 xs)
static-first n next s ss xs e =
    filled-same (by_statics n (s ∷ ss)) (λ e. or_numbered (alone s.entity (Object n) e) (by_statics (suc n) ss e))
    (λ e. first-object (e == s.entity) n (static_from e (suc n) ss)) 0 xs
    ∙ sym (filled-twice (alone s.entity (Object n)) (by_statics (suc n) ss) 0 xs)
    ∙ ap (λ m. filled (by_statics m ss) 0 (filled (alone s.entity (Object n)) 0 xs)) (sym e)

-- one more function has filled the table
pub functions-on : (types : TypeRef → CType) (first number next : ℕ) (xs : List code_function.Function) (i : ℕ) (x : code_function.Function) (old table new : List Numbered)
    → i < length xs → x ≡ get_or xs i x → next ≡ number + 1 → new ≡ filled (alone x.entity (Function number)) 0 table
    → filled (by_functions first (map (function_view types) xs)) 0 old ≡ filled (by_functions number (map (function_view types) (drop i xs))) 0 table
    → filled (by_functions first (map (function_view types) xs)) 0 old ≡ filled (by_functions next (map (function_view types) (drop (i + 1) xs))) 0 new
unfolding function_view
functions-on types first number next xs i x old table new below is more put so_far =
    let rest = map (function_view types) (drop (i + 1) xs) in
    so_far
    ∙ ap (λ ys. filled (by_functions number (map (function_view types) ys)) 0 table) (from-one-on xs i x below is)
    ∙ function-first number next (function_view types x) rest table (omega arith)
    ∙ ap (λ t. filled (by_functions next rest) 0 t) (sym put)

pub functions-end : (types : TypeRef → CType) (first number : ℕ) (xs : List code_function.Function) (i : ℕ) (old table : List Numbered) → length xs ≤ i
    → filled (by_functions first (map (function_view types) xs)) 0 old ≡ filled (by_functions number (map (function_view types) (drop i xs))) 0 table
    → table ≡ filled (by_functions first (map (function_view types) xs)) 0 old
functions-end types first number xs i old table past so_far =
    sym (so_far ∙ ap (λ ys. filled (by_functions number (map (function_view types) ys)) 0 table) (none-from xs i past) ∙ filled-nowhere 0 table)

pub statics-on : (types : TypeRef → CType) (first number next : ℕ) (xs : List code_static.Static) (i : ℕ) (x : code_static.Static) (old table new : List Numbered)
    → i < length xs → x ≡ get_or xs i x → next ≡ number + 1 → new ≡ filled (alone x.entity (Object number)) 0 table
    → filled (by_statics first (map (static_view types) xs)) 0 old ≡ filled (by_statics number (map (static_view types) (drop i xs))) 0 table
    → filled (by_statics first (map (static_view types) xs)) 0 old ≡ filled (by_statics next (map (static_view types) (drop (i + 1) xs))) 0 new
statics-on types first number next xs i x old table new below is more put so_far =
    let rest = map (static_view types) (drop (i + 1) xs) in
    so_far
    ∙ ap (λ ys. filled (by_statics number (map (static_view types) ys)) 0 table) (from-one-on xs i x below is)
    ∙ static-first number next (static_view types x) rest table (omega arith)
    ∙ ap (λ t. filled (by_statics next rest) 0 t) (sym put)

pub statics-end : (types : TypeRef → CType) (first number : ℕ) (xs : List code_static.Static) (i : ℕ) (old table : List Numbered) → length xs ≤ i
    → filled (by_statics first (map (static_view types) xs)) 0 old ≡ filled (by_statics number (map (static_view types) (drop i xs))) 0 table
    → table ≡ filled (by_statics first (map (static_view types) xs)) 0 old
statics-end types first number xs i old table past so_far =
    sym (so_far ∙ ap (λ ys. filled (by_statics number (map (static_view types) ys)) 0 table) (none-from xs i past) ∙ filled-nowhere 0 table)

-- ---- the whole table

in-order : (a b c d : Option ℕ) → or_numbered (or_numbered (or_numbered (or_function a Nowhere) (or_function b Nowhere)) (or_object c Nowhere)) (or_object d Nowhere)
    ≡ or_function a (or_function b (or_object c (or_object d Nowhere)))
in-order (Some a) b c d = refl
in-order None (Some b) c d = refl
in-order None None (Some c) d = refl
in-order None None None d = refl

all-from : (said : ℕ → Numbered) (f g : typed.TypedFile) → ((e : ℕ) → said e ≡ numbered_in f g e) → (n count : ℕ)
    → filled said n (replicate count Nowhere) ≡ numbers_from f g n count
all-from said f g same n zero = refl
all-from said f g same n (suc count) = λ i. same n i ∷ all-from said f g same (suc n) count i

all-filled : (f g : typed.TypedFile) (count next : ℕ) (xs : List Numbered) → next ≡ suc (length f.functions) → xs ≡ replicate count Nowhere
    → filled (by_statics first_binary_object g.statics) 0 (filled (by_statics 1 f.statics) 0 (filled (by_functions next g.functions) 0 (filled (by_functions 1 f.functions) 0 xs)))
    ≡ numbers_from f g 0 count
all-filled f g count next xs behind is =
    let a = by_functions 1 f.functions in
    let b = by_functions next g.functions in
    let c = by_statics 1 f.statics in
    let d = by_statics first_binary_object g.statics in
    ap (λ ys. filled d 0 (filled c 0 ys)) (filled-twice a b 0 xs)
    ∙ ap (filled d 0) (filled-twice (λ e. or_numbered (a e) (b e)) c 0 xs)
    ∙ filled-twice (λ e. or_numbered (or_numbered (a e) (b e)) (c e)) d 0 xs
    ∙ ap (filled (λ e. or_numbered (or_numbered (or_numbered (a e) (b e)) (c e)) (d e)) 0) is
    ∙ all-from (λ e. or_numbered (or_numbered (or_numbered (a e) (b e)) (c e)) (d e)) f g
    (λ e. in-order (function_from e 1 f.functions) (function_from e next g.functions) (static_from e 1 f.statics) (static_from e first_binary_object g.statics)
    ∙ ap (λ n. or_function (function_from e 1 f.functions) (or_function (function_from e n g.functions) (or_object (static_from e 1 f.statics) (or_object (static_from e first_binary_object g.statics) Nowhere)))) behind)
    0 count

-- the table that two files fill
pub all-made : (types : TypeRef → CType) (m b : code_file.TypedFile) (count next : ℕ) (s1 s2 : List code_function.Function) (s3 s4 : List code_static.Static)
    (t0 t1 t2 t3 t4 : List Numbered)
    → s1 ≡ m.functions → s2 ≡ b.functions → s3 ≡ m.statics → s4 ≡ b.statics → t0 ≡ replicate count Nowhere → next ≡ 1 + length s1
    → t1 ≡ filled (by_functions 1 (map (function_view types) s1)) 0 t0
    → t2 ≡ filled (by_functions next (map (function_view types) s2)) 0 t1
    → t3 ≡ filled (by_statics 1 (map (static_view types) s3)) 0 t2
    → t4 ≡ filled (by_statics first_binary_object (map (static_view types) s4)) 0 t3
    → t4 ≡ numbers_from (file_view types m) (file_view types b) 0 count
unfolding file_view
all-made types m b count next s1 s2 s3 s4 t0 t1 t2 t3 t4 e1 e2 e3 e4 begin behind first second third fourth =
    let f = function_view types in
    let g = static_view types in
    let same : length s1 ≡ length m.functions = ap length e1 in
    let mapped : length (map f m.functions) ≡ length m.functions = length-map m.functions f in
    let at : next ≡ suc (length (map f m.functions)) = omega arith in
    fourth
    ∙ ap (λ t. filled (by_statics first_binary_object (map g s4)) 0 t)
    (third ∙ ap (λ t. filled (by_statics 1 (map g s3)) 0 t) (second ∙ ap (λ t. filled (by_functions next (map f s2)) 0 t) first))
    ∙ (λ i. filled (by_statics first_binary_object (map g (e4 i))) 0 (filled (by_statics 1 (map g (e3 i))) 0
    (filled (by_functions next (map f (e2 i))) 0 (filled (by_functions 1 (map f (e1 i))) 0 t0))))
    ∙ all-filled (file_view types m) (file_view types b) count next t0 at begin
