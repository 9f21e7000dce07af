-- Static objects as they start.
use Rattle.std.proofs.Common.{◌≡◌, ◌∙◌, ℕ, zero, suc, ◌+◌, ◌<◌, ◌≤◌, List, [], ◌∷◌, ◌++◌, length, get_or, take, drop, map, refl, sym, ap, subst, arith}
use Rattle.std.proofs.lemmas.List.{append_assoc, map_more}
use Rattle.std.proofs.Math.Seq.{drop-cons}
use Rattle.std.specs.Prelude.{slice_set}
use Rattle.srmt_base.specs.declared.part.Part.{Part}
use Rattle.srmt_base.specs.declared.part.Part.TheVariants.{Protected, Binary}
use Rattle.mid_code.specs.Fits.{IsValue}
use Rattle.srmt_base.specs.declared.statics.Static.{Static as StartingObject}
use Rattle.c_types.specs.declared.type_ref.TypeRef.{TypeRef}
use Rattle.c_types.specs.Types.{CType, array}
use Rattle.c_typed.specs.declared.program.Start.{Start}
use Rattle.c_typed.specs.declared.program.Start.TheVariants as start
use Rattle.c_typed.specs.declared.program.StartCell.{StartCell}
use Rattle.c_typed.specs.declared.program.Static.{Static as CodeStatic}
use Rattle.c_typed.specs.declared.program.TextObject.{TextObject}
use Rattle.c_typed.specs.declared.program.TypedFile.{TypedFile as CodeFile}
use Rattle.c_typed.specs.Statements.{Program, TypedFile}
use Rattle.c_typed.specs.StatementViews.{static_view, file_view}
use Rattle.source_meaning.specs.Places.{file_of, address_of_text}
use Rattle.source_meaning.specs.Start.{start_value, with_given, object_of_static}
use Rattle.source_meaning.specs.Sound.{CanRun, FileCanRun, HasCells, EachStaticHasCells, EachTextHasCells}
use Rattle.source_meaning.specs.Values.{CellsStart, StaticsStart}

-- how many arrays a type is made of, one of another
abbrev pub depth : CType → ℕ
depth (array q t n) = suc (depth t)
depth other = 0

pub file_can : (part : Part) (program : Program) → CanRun program → FileCanRun program part (file_of part program)
file_can Protected program can = can.main_file
file_can Binary program can = can.binary_file

pub text_small : (program : Program) (part : Part) (s : Start) (n offset : ℕ) → s ≡ start.Text n offset → IsValue (start_value program part s)
    → IsValue (address_of_text part program n)
text_small program part s n offset is small =
    let sum : IsValue (address_of_text part program n + offset) = subst (λ x. IsValue (start_value program part x)) is small in
    omega arith

pub start_small : (program : Program) (part : Part) (given : List StartCell) (i : ℕ) (d : StartCell) → CellsStart program part given → i < length given
    → IsValue (start_value program part (get_or given i d).start)
start_small program part [] i d all within = absurd (omega (arith, within))
start_small program part (y ∷ given) zero d all within = all.0
start_small program part (y ∷ given) (suc i) d all within = start_small program part given i d all.1 (omega (arith, within))

pub given_next : (program : Program) (part : Part) (given : List StartCell) (i : ℕ) (d : StartCell) (cells : List ℕ) → i < length given
    → with_given program part (drop i given) cells
    ≡ with_given program part (drop (i + 1) given) (slice_set cells (get_or given i d).index (start_value program part (get_or given i d).start))
given_next program part given i d cells within =
    let next : suc i ≡ i + 1 = omega arith in
    ap (λ l. with_given program part l cells) (drop-cons given i d within ∙ ap (λ j. get_or given i d ∷ drop j given) next)

pub static_at : (types : TypeRef → CType) (program : Program) (part : Part) (f : CodeFile) (i : ℕ) (x : CodeStatic)
    → FileCanRun program part (file_view types f)
    → i < length f.statics → x ≡ get_or f.statics i x → HasCells (types x.ty.target) × CellsStart program part x.cells
unfolding file_view
static_at types program part f i x can within is = each f.statics i within is can.statics can.starts
  where
    each : (xs : List CodeStatic) (i : ℕ) → i < length xs → x ≡ get_or xs i x → EachStaticHasCells (map (static_view types) xs)
        → StaticsStart program part (map (static_view types) xs) → HasCells (types x.ty.target) × CellsStart program part x.cells
    each [] i within is a b = absurd (omega (arith, within))
    each (y ∷ xs) zero within is a b = subst (λ (z : CodeStatic). HasCells (types z.ty.target) × CellsStart program part z.cells) (sym is) (a.0, b.0)
    each (y ∷ xs) (suc i) within is a b = each xs i (omega (arith, within)) is a.1 b.1

pub text_at : (types : TypeRef → CType) (program : Program) (part : Part) (f : CodeFile) (i : ℕ) (x : TextObject) → FileCanRun program part (file_view types f)
    → i < length f.texts → x ≡ get_or f.texts i x → length x.bytes + 1 ≤ 65535
unfolding file_view
text_at types program part f i x can within is = each f.texts i within is can.texts
  where
    each : (xs : List TextObject) (i : ℕ) → i < length xs → x ≡ get_or xs i x → EachTextHasCells xs → length x.bytes + 1 ≤ 65535
    each [] i within is a = absurd (omega (arith, within))
    each (y ∷ xs) zero within is a = subst (λ (z : TextObject). length z.bytes + 1 ≤ 65535) (sym is) a.0
    each (y ∷ xs) (suc i) within is a = each xs i (omega (arith, within)) is a.1

-- the objects of a file
abbrev pub typed_object : (TypeRef → CType) → Program → Part → CodeStatic → StartingObject
typed_object types program part o = object_of_static program part (static_view types o)

maps_both : {X Y Z : Type 0} (g : Y → Z) (f : X → Y) (xs : List X) → map g (map f xs) ≡ map (λ x. g (f x)) xs
maps_both g f [] = refl
maps_both g f (x ∷ xs) = ap (λ l. g (f x) ∷ l) (maps_both g f xs)

pub statics_of : (types : TypeRef → CType) (program : Program) (part : Part) (f : CodeFile) → file_view types f ≡ file_of part program
    → map (typed_object types program part) f.statics ≡ map (object_of_static program part) (file_of part program).statics
unfolding file_view
statics_of types program part f is =
    sym (maps_both (object_of_static program part) (static_view types) f.statics) ∙ ap (λ (g : TypedFile). map (object_of_static program part) g.statics) is

pub texts_of : (types : TypeRef → CType) (program : Program) (part : Part) (f : CodeFile) → file_view types f ≡ file_of part program
    → f.texts ≡ (file_of part program).texts
unfolding file_view
texts_of types program part f is = ap (λ (g : TypedFile). g.texts) is

-- one more of a list
pub next_of : {X Y : Type 0} (f : X → Y) (before : List Y) (xs : List X) (i : ℕ) (x : X) (ys : List Y) (y : Y) → i < length xs → x ≡ get_or xs i x
    → ys ≡ before ++ map f (take i xs) → y ≡ f x → ys ++ y ∷ [] ≡ before ++ map f (take (i + 1) xs)
next_of f before xs i x ys y within is so_far made =
    ap (λ l. l ++ y ∷ []) so_far ∙ append_assoc before (map f (take i xs)) (y ∷ [])
    ∙ ap (λ z. before ++ (map f (take i xs) ++ z ∷ [])) (made ∙ ap f is) ∙ ap (λ l. before ++ l) (sym (map_more f xs i x within))
