-- Static objects as they start.
use Rattle.std.proofs.Common.{◌≡◌, ◌∙◌, eqb-true, ◌==◌, Bool, true, false, ℕ, suc, ◌+◌, ◌-◌, ◌<◌, Option, Some, None, Bor, List, [], ◌∷◌, ◌++◌, length, get_or, take, drop, map, refl, sym, ap, arith}
use Rattle.std.proofs.lemmas.List.{append_assoc, map_more, map-append}
use Rattle.std.proofs.Math.Seq.{drop-cons}
use Rattle.std.specs.Prelude.{slice_set, slice_get}
use Rattle.std.specs.Option.{option_copied, option_to_list}
use Rattle.std.proofs.lemmas.List.{append-nil}
use Rattle.srmt_base.specs.declared.part.Part.{Part}
use Rattle.srmt_base.specs.declared.statics.Static.{Static as StartingObject}
use Rattle.c_types.specs.declared.type_ref.TypeRef.{TypeRef}
use Rattle.c_types.specs.Types.{CType, array}
use Rattle.c_typed.specs.declared.program.StartCell.{StartCell}
use Rattle.c_typed.specs.declared.program.Static.{Static as CodeStatic}
use Rattle.c_typed.specs.declared.program.TextObject.{TextObject}
use Rattle.c_typed.specs.declared.program.TypedFile.{TypedFile as CodeFile}
use Rattle.c_typed.specs.Statements.{Program, TypedFile}
use Rattle.c_typed.specs.StatementViews.{static_view, file_view}
use Rattle.source_meaning.specs.Places.{file_of}
use Rattle.lower.specs.Programs.{without_zeros, shortened}
use Rattle.source_meaning.specs.Start.{start_value, with_given, object_of_static, object_of_text, objects_at_start}

-- how many arrays a type is made of, one of another
abbrev pub depth : CType → ℕ
depth (array q t n) = suc (depth t)
depth other = 0

pub given_next : (program : Program) (part : Part) (given : List StartCell) (i : ℕ) (d : StartCell) (cells : List ℕ) → i < length given
    → with_given program part (drop i given) cells
    ≡ with_given program part (drop (i + 1) given) (slice_set cells (get_or given i d).index (start_value program part (get_or given i d).start))
given_next program part given i d cells within =
    let next : suc i ≡ i + 1 = omega arith in
    ap (λ l. with_given program part l cells) (drop-cons given i d within ∙ ap (λ j. get_or given i d ∷ drop j given) next)

-- the objects of a file
abbrev pub typed_object : (TypeRef → CType) → Program → Part → CodeStatic → StartingObject
typed_object types program part o = object_of_static program part (static_view types o)

maps_both : {X Y Z : Type 0} (g : Y → Z) (f : X → Y) (xs : List X) → map g (map f xs) ≡ map (λ x. g (f x)) xs
maps_both g f [] = refl
maps_both g f (x ∷ xs) = ap (λ l. g (f x) ∷ l) (maps_both g f xs)

pub statics_of : (types : TypeRef → CType) (program : Program) (part : Part) (f : CodeFile) → file_view types f ≡ file_of part program
    → map (typed_object types program part) f.statics ≡ map (object_of_static program part) (file_of part program).statics
unfolding file_view
statics_of types program part f is =
    sym (maps_both (object_of_static program part) (static_view types) f.statics) ∙ ap (λ (g : TypedFile). map (object_of_static program part) g.statics) is

pub texts_of : (types : TypeRef → CType) (program : Program) (part : Part) (f : CodeFile) → file_view types f ≡ file_of part program
    → f.texts ≡ (file_of part program).texts
unfolding file_view
texts_of types program part f is = ap (λ (g : TypedFile). g.texts) is

-- one more of a list
pub next_of : {X Y : Type 0} (f : X → Y) (before : List Y) (xs : List X) (i : ℕ) (x : X) (ys : List Y) (y : Y) → i < length xs → x ≡ get_or xs i x
    → ys ≡ before ++ map f (take i xs) → y ≡ f x → ys ++ y ∷ [] ≡ before ++ map f (take (i + 1) xs)
next_of f before xs i x ys y within is so_far made =
    ap (λ l. l ++ y ∷ []) so_far ∙ append_assoc before (map f (take i xs)) (y ∷ [])
    ∙ ap (λ z. before ++ (map f (take i xs) ++ z ∷ [])) (made ∙ ap f is) ∙ ap (λ l. before ++ l) (sym (map_more f xs i x within))

-- ---- zeros at the end

pub without_last_zero : (xs : List ℕ) → without_zeros (xs ++ 0 ∷ []) ≡ without_zeros xs
without_last_zero [] = refl
without_last_zero (x ∷ xs) = rw (without_last_zero xs) refl

pub without_zeros_kept : (v : ℕ) → (v == 0) ≡ false → (xs : List ℕ) → without_zeros (xs ++ v ∷ []) ≡ xs ++ v ∷ []
without_zeros_kept v is [] = rw is refl
without_zeros_kept v is (x ∷ []) = rw is refl
without_zeros_kept v is (x ∷ y ∷ ys) = rw (without_zeros_kept v is (y ∷ ys)) refl

abbrev pub is_zero : Option ℕ → Bool
is_zero None = false
is_zero (Some v) = v == 0

abbrev last_of : List ℕ → Option ℕ
last_of [] = None
last_of (x ∷ []) = Some x
last_of (x ∷ y ∷ ys) = last_of (y ∷ ys)

get_last : (xs : List ℕ) → slice_get xs (length xs - 1) ≡ last_of xs
get_last [] = refl
get_last (x ∷ []) = refl
get_last (x ∷ y ∷ ys) =
    let less : length (x ∷ y ∷ ys) - 1 ≡ suc (length (y ∷ ys) - 1) = omega arith in
    ap (slice_get (x ∷ y ∷ ys)) less ∙ get_last (y ∷ ys)

last_behind : (xs : List ℕ) (v : ℕ) → last_of (xs ++ v ∷ []) ≡ Some v
last_behind [] v = refl
last_behind (x ∷ []) v = refl
last_behind (x ∷ y ∷ ys) v = last_behind (y ∷ ys) v

pub all_kept : (xs : List ℕ) → is_zero (slice_get xs (length xs - 1)) ≡ false → xs ≡ without_zeros xs
all_kept xs h = by xs (ap is_zero (sym (get_last xs)) ∙ h)
  where
    by : (xs : List ℕ) → is_zero (last_of xs) ≡ false → xs ≡ without_zeros xs
    by [] h = refl
    by (x ∷ []) h = rw h refl
    by (x ∷ y ∷ ys) h = let e = by (y ∷ ys) h in rw (sym e) refl

pub last_dropped : (old new : List ℕ) (r : Option ℕ) → old ≡ new ++ option_to_list r → is_zero (slice_get old (length old - 1)) ≡ true
    → without_zeros new ≡ without_zeros old
last_dropped old new None is h = ap without_zeros (sym (append-nil new) ∙ sym is)
last_dropped old new (Some v) is h =
    let last : is_zero (Some v) ≡ true = ap is_zero (sym (last_behind new v) ∙ ap last_of (sym is) ∙ sym (get_last old)) ∙ h in
    let none : v ≡ 0 = eqb-true v 0 last in
    sym (without_last_zero new) ∙ ap (λ n. without_zeros (new ++ n ∷ [])) (sym none) ∙ ap without_zeros (sym is)

-- what the code asks of the last value
pub asks_last : (xs ys : List ℕ) (r : Option (Bor ℕ)) → option_copied r ≡ slice_get ys (length ys - 1) → ys ≡ xs
    → is_zero (option_copied r) ≡ is_zero (slice_get xs (length xs - 1))
asks_last xs ys r is same = ap is_zero is ∙ ap (λ zs. is_zero (slice_get zs (length zs - 1))) same

-- the objects of a file, the zeros at their ends left out
abbrev pub short_object : (TypeRef → CType) → Program → Part → CodeStatic → StartingObject
short_object types program part o = shortened (typed_object types program part o)

abbrev pub short_text : TextObject → StartingObject
short_text t = shortened (object_of_text t)

pub both_shortened : (program : Program) (part : Part)
    → map (λ s. shortened (object_of_static program part s)) (file_of part program).statics ++ map short_text (file_of part program).texts
    ≡ map shortened (objects_at_start program part)
both_shortened program part =
    let statics = (file_of part program).statics in
    let texts = (file_of part program).texts in
    (λ i. sym (maps_both shortened (object_of_static program part) statics) i ++ sym (maps_both shortened object_of_text texts) i)
    ∙ sym (map-append shortened (map (object_of_static program part) statics) (map object_of_text texts))

pub short_statics_of : (types : TypeRef → CType) (program : Program) (part : Part) (f : CodeFile) → file_view types f ≡ file_of part program
    → map (short_object types program part) f.statics ≡ map (λ s. shortened (object_of_static program part s)) (file_of part program).statics
unfolding file_view
short_statics_of types program part f is =
    sym (maps_both (λ s. shortened (object_of_static program part s)) (static_view types) f.statics)
    ∙ ap (λ (g : TypedFile). map (λ s. shortened (object_of_static program part s)) g.statics) is
