-- What objects are initialized with runs, and an object that is initialized has its cells.
use Rattle.std.proofs.Common.{ℕ, suc, ◌+◌, Bool as Test, List, [], ◌∷◌, refl, sym, subst, Option, Some, None}
use Rattle.std.specs.Prelude.{IsTrue}
use Rattle.srmt_base.specs.declared.ty.Ty.{Ty}
use Rattle.srmt_base.specs.declared.ty.Ty.TheVariants.{Char}
use Rattle.srmt_base.specs.Convert.{convert_of}
use Rattle.c_types.specs.Types.{CType, void, integer, pointer, array, returning, taking, Qualified, is_complete, cells_of, ty_of}
use Rattle.c_types.specs.declared.qualifiers.Qualifiers.{Qualifiers}
use Rattle.c_typed.specs.Statements.{Cell}
use Rattle.source_meaning.specs.Sound.{HasCells}
use Rattle.typing_rules.specs.Source.{Expr}
use Rattle.typing_rules.specs.SourceUnits.{Initial, single, braced, Initials, no_initials, first_initial}
use Rattle.typing_rules.specs.Known.{Known}
use Rattle.typing_rules.specs.Terms.{number_value}
use Rattle.typing_rules.specs.DeclarationRules.{TextAt, text_for, text_cells, text_length, byte_cells, completed, Initialized}
use Rattle.typing_rules.specs.TypingDeclarations.{IsScalar, IsTextGiven, AreSingleCells, AreCellsGiven, AreItemsGiven, IsInitialized}
use Rattle.typing_rules.specs.Laws.{Each}
use Rattle.typing_rules.specs.LanguageTypes.{IsObjectType}
use Rattle.typing_rules.proofs.Keeping.{each_append}
use Rattle.typing_rules.proofs.Sound.{Sound, sound_is, sound_such_as, sound_given, sound_never, sound_bind, sound_either}
use Rattle.typing_laws.proofs.InitializersSound.{IsGivenItems, sound_initialized}
use Rattle.running_laws.specs.HasNumbers.{ExprHasNumbers, InitialHasNumbers, InitialsHaveNumbers}
use Rattle.running_laws.proofs.Running.{Runs}
use Rattle.running_laws.proofs.NodesRun.{complete_has_cells, converted_runs, converted_by_runs}
use Rattle.running_laws.proofs.Ready.{Frame}
use Rattle.running_laws.proofs.StartsRun.{converted_fits}
use Rattle.running_laws.proofs.RunningStatements.{CellRuns}
use Rattle.running_laws.proofs.InsideRuns.{Inside, in_value_of}

bytes_run : (line : ℕ) (ty : Ty) (n : ℕ) (bytes : List ℕ) → Each CellRuns (byte_cells line ty n bytes)
unfolding Runs
bytes_run line ty n [] = tt
bytes_run line ty n (byte ∷ rest) = (
  converted_runs ty (record { first = line; value = number_value line Char (convert_of Char Char byte) }) (converted_fits Char Char byte),
  bytes_run line ty (suc n) rest,
)

in_text_given : {I : Known → Type 0} (element : CType) (n : Option ℕ) (index : ℕ) (t : Option TextAt)
    → Sound I (Each CellRuns) (IsTextGiven element n index t)
in_text_given element n index None = sound_never
in_text_given element n index (Some t) = sound_bind sound_given (λ u p. sound_is (bytes_run t.line (ty_of element) index (text_cells n t.bytes)))

module _ (f : Frame) (M : List CType → Type 0) where
  in_scalar : (is_static : Test) (type : CType) (index : ℕ) (e : Expr) → ExprHasNumbers e
      → Sound (Inside f M) (Each CellRuns) (IsScalar is_static type index e)
  in_scalar is_static type index e n =
      sound_bind (in_value_of e n) (λ a p. sound_bind sound_such_as (λ form u. sound_bind sound_given (λ u' q.
      sound_is (converted_by_runs form type a p.runs, tt))))

  in_single : (is_static : Test) (type : CType) (index : ℕ) (e : Expr) → ExprHasNumbers e
      → Sound (Inside f M) (Each CellRuns) (AreSingleCells is_static type index e)
  in_single is_static (array q t m) index e n = in_text_given t m index (text_for t e)
  in_single is_static (returning q t) index e n = sound_never
  in_single is_static (taking p t) index e n = sound_never
  in_single is_static void index e n = in_scalar is_static void index e n
  in_single is_static (integer ty) index e n = in_scalar is_static (integer ty) index e n
  in_single is_static (pointer q t) index e n = in_scalar is_static (pointer q t) index e n

  mutual
    unfolding AreCellsGiven InitialHasNumbers

    in_cells : (is_static : Test) (type : CType) (index : ℕ) (x : Initial) → InitialHasNumbers x
        → Sound (Inside f M) (Each CellRuns) (AreCellsGiven is_static type index x)
    in_cells is_static type index (single e) n = in_single is_static type index e n
    in_cells is_static (array q t m) index (braced line items) n = in_items is_static t m 0 index items n
    in_cells is_static (returning q t) index (braced line items) n = sound_never
    in_cells is_static (taking p t) index (braced line items) n = sound_never
    in_cells is_static void index (braced line items) n = sound_never
    in_cells is_static (integer ty) index (braced line items) n = sound_never
    in_cells is_static (pointer q t) index (braced line items) n = sound_never

    in_items : (is_static : Test) (t : CType) (m : Option ℕ) (i index : ℕ) (items : Initials) → InitialsHaveNumbers items
        → Sound (Inside f M) (Each CellRuns) (AreItemsGiven is_static t m i index items)
    in_items is_static t m i index no_initials n = sound_is tt
    in_items is_static t m i index (first_initial x rest) n =
        sound_either sound_never (sound_bind (in_cells is_static t index x n.0) (λ first p.
        sound_bind (in_items is_static t m (suc i) (index + cells_of t) rest n.1) (λ others q.
        sound_is (each_append CellRuns first others p q))))

-- ---- the type that an initializer completes

text_completes : (q : Qualifiers) (t : CType) (n : Option TextAt) (index : ℕ) (given : List Cell) (k l : Known) → IsTextGiven t None index n given k l
    → IsTrue (is_complete (array q t (text_length n)))
text_completes q t None index given k l h = absurd h
text_completes q t (Some text) index given k l h = refl

completes : (is_static : Test) (type : CType) (index : ℕ) (x : Initial) (given : List Cell) (k l : Known) → AreCellsGiven is_static type index x given k l
    → IsObjectType type → IsTrue (is_complete (completed type x))
unfolding AreCellsGiven
completes is_static void index x given k l h o = absurd (let e = o.is_there in cc)
completes is_static (integer ty) index x given k l h o = refl
completes is_static (pointer q t) index x given k l h o = refl
completes is_static (array q t None) index (single e) given k l h o = text_completes q t (text_for t e) index given k l h
completes is_static (array q t None) index (braced line items) given k l h o = refl
completes is_static (array q t (Some n)) index x given k l h o = refl
completes is_static (returning q t) index x given k l h o = absurd (let e = o.is_object in cc)
completes is_static (taking p t) index x given k l h o = absurd (let e = o.is_object in cc)

pub record InitializedIs (done : Initialized) : Type 0 where
  pub is_object : IsObjectType done.type.type
  pub is_complete : IsTrue (is_complete done.type.type)
  pub has_cells : HasCells done.type.type
  pub cells : Each CellRuns done.given

pub in_initialized : {f : Frame} {M : List CType → Type 0} (is_static : Test) (type : Qualified) (x : Initial) → InitialHasNumbers x
    → IsGivenItems type.type x
    → IsObjectType type.type → Sound (Inside f M) InitializedIs (IsInitialized is_static type x)
in_initialized {f = f} {M = M} is_static type x n g o = record {
  sound = λ done k l h i.
      let given = (in_cells f M is_static type.type 0 x n).sound h.of k h.between h.first i in
      let has = (sound_initialized is_static type x g o).sound done k l h i.block in
      let fits = h.second in
      let whole : IsTrue (is_complete done.type.type) =
      subst (λ d. IsTrue (is_complete d.type.type)) (sym fits.second.0) (completes is_static type.type 0 x h.of k h.between h.first o) in (
        record {
          is_object = has.0.is_object;
          is_complete = whole;
          has_cells = complete_has_cells done.type.type whole has.0.is_object.of_language;
          cells = subst (λ d. Each CellRuns d.given) (sym fits.second.0) given.0;
        },
        subst (Inside f M) (sym fits.second.1) (subst (Inside f M) (sym fits.first.1) given.1),
      );
}
