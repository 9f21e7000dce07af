-- Files run: their static objects have their cells and start with values, and they have few functions and few objects.
use Rattle.std.proofs.Common.{◌≡◌, ℕ, zero, suc, ◌+◌, ◌≤◌, Bool as Test, true, false, List, [], ◌∷◌, length, refl, sym, subst, Option, Some, None, inl, inr, arith}
use Rattle.std.specs.Prelude.{◌&&◌, if◌then◌else◌, IsTrue, IsFalse}
use Rattle.c_types.specs.Types.{Qualified, is_function}
use Rattle.c_typed.specs.Statements as t
use Rattle.c_typed.specs.declared.program.TextObject.{TextObject}
use Rattle.source_meaning.specs.Sound.{HasCells, EachStaticHasCells, EachTextHasCells}
use Rattle.typing_rules.specs.Source.{Named}
use Rattle.typing_rules.specs.SourceUnits.{Initial, Item, function, declaration_of, Unit as SourceUnit}
use Rattle.typing_rules.specs.Known as known
use Rattle.typing_rules.specs.Known.{Known, File, main_file, binary_file, same_file, Entity, First, Definition, undefined, tentative, defined, Meaning, found_in, entity_at, predeclared_scope}
use Rattle.typing_rules.specs.Limits.{most_functions, most_static_cells}
use Rattle.typing_rules.specs.SpecifierRules.{Storage}
use Rattle.typing_rules.specs.DeclaratorRules.{name_of, or_no_name}
use Rattle.typing_rules.specs.DeclarationRules.{is_undefined}
use Rattle.typing_rules.specs.UnitRules.{is_defined_in, is_object, static_of, statics_of, typed_file, nothing_known, binary_begun}
use Rattle.typing_rules.specs.TypingUnits.{IsDeclaredAtFile, IsDeclaredAs, IsItemAtFile, AreItemsAtFile, AreExternals, IsFile, IsBinary}
use Rattle.typing_rules.specs.Laws.{Each}
use Rattle.typing_laws.specs.LanguagePrograms.{IfThere}
use Rattle.typing_laws.specs.HasItems.{ItemHasItems, HasItems}
use Rattle.typing_laws.proofs.BlocksSound.{IsThere, IsEntity}
use Rattle.typing_laws.proofs.UnsizedSound.{IsBase}
use Rattle.typing_laws.proofs.InitializersSound.{IsGivenIf}
use Rattle.running_laws.specs.HasNumbers.{InitialHasNumbers, ItemHasNumbers, HasNumbers}
use Rattle.running_laws.proofs.Tests.{not_both, and_second, not_first}
use Rattle.running_laws.proofs.NodesRun.{complete_has_cells}
use Rattle.running_laws.proofs.Ready.{TextHasCells}
use Rattle.running_laws.proofs.Linkage.{IsWhole, StartsFit, Fit}
use Rattle.running_laws.proofs.LinkedRuns.{starts_at, main_at}
use Rattle.running_laws.proofs.InsideRuns.{in_base, type_so}
use Rattle.running_laws.proofs.DeclarationsRun.{in_no_initial}
use Rattle.running_laws.proofs.ObjectsRun.{AtFile, object_so}
use Rattle.running_laws.proofs.FunctionsRun.{FunctionRuns, LinkedAt, linked_at, named_at, function_so}

-- ---- declarations at file scope

declared_at_file : (which : File) (functions : ℕ) (name : Named) (word : Storage) (type : Qualified) (x : Option Initial) → IfThere InitialHasNumbers x
    → (IsFalse (is_function type.type) → IsGivenIf type.type x) → IsThere type.type → (u : Unit {0}) (k m : Known) → IsDeclaredAtFile name word type x u k m
    → AtFile which functions k → AtFile which functions m
declared_at_file which functions name word type x n g there u k m h at =
    let linked = linked_at which functions name word type there h.of k h.between h.first at in
    let naming = h.second in
    let named : LinkedAt which functions type h.of naming.between =
    subst (LinkedAt which functions type h.of) (sym naming.first) (named_at which functions name.bytes type h.of h.between linked) in
    elim naming.second [
      | inl p ↦ ((in_no_initial {I = AtFile which functions} x).sound u naming.between m p.1 named.at).1
      | inr p ↦
          object_so which functions name word h.of type x n (g p.0)
          (record { is_there = there.is_there; is_object = p.0; of_language = there.of_language }) u naming.between m p.1 named.well named.there named.at
    ]

declared_as : (which : File) (functions : ℕ) (name : Named) (word : Storage) (type : Qualified) (x : Option Initial) (means : Option Meaning)
    → IfThere InitialHasNumbers x → (IsFalse (is_function type.type) → IsGivenIf type.type x) → IsThere type.type → (u : Unit {0}) (k m : Known)
    → IsDeclaredAs name word type x means u k m → AtFile which functions k → AtFile which functions m
declared_as which functions name word type x None n g there u k m h at = declared_at_file which functions name word type x n g there u k m h at
declared_as which functions name word type x (Some (known.local i)) n g there u k m h at = absurd h
declared_as which functions name word type x (Some (known.linked i v)) n g there u k m h at = absurd h
declared_as which functions name word type x (Some (known.predeclared p)) n g there u k m h at =
    ((in_no_initial {I = AtFile which functions} x).sound u h.between m h.second (subst (AtFile which functions) (sym h.first.1) at)).1
declared_as which functions name word type x (Some (known.constant i)) n g there u k m h at = absurd h

item_so : (which : File) (functions : ℕ) (word : Storage) (base : Qualified) (x : Item) → ItemHasItems x → ItemHasNumbers x → IsBase base
    → (u : Unit {0}) (k m : Known) → IsItemAtFile word base x u k m → AtFile which functions k → AtFile which functions m
item_so which functions word base x items n b u k m h at =
    let so = type_so base x.declarator b n.0 u k m h at.inside in
    let given = so.second in
    let before : AtFile which functions so.between = record { counted = at.counted; inside = so.inside } in
    declared_as which functions (or_no_name (name_of x.declarator)) word so.type x.initial
    (found_in (or_no_name (name_of x.declarator)).bytes predeclared_scope) n.1 (λ f c. items (so.declared.is_open given.first.0 f c))
    (record { is_there = given.first.0; of_language = so.declared.of_language }) u given.between m given.second
    (subst (AtFile which functions) (sym given.first.1) before)

items_so : (which : File) (functions : ℕ) (word : Storage) (base : Qualified) (xs : List Item) → Each ItemHasItems xs → Each ItemHasNumbers xs → IsBase base
    → (u : Unit {0}) (k m : Known) → AreItemsAtFile word base xs u k m → AtFile which functions k → AtFile which functions m
items_so which functions word base [] items n b u k m h at = subst (AtFile which functions) (sym h.1) at
items_so which functions word base (x ∷ rest) items n b u k m h at =
    items_so which functions word base rest items.1 n.1 b u h.between m h.second
    (item_so which functions word base x items.0 n.0 b h.of k h.between h.first at)

-- ---- all that a file has

record ExternalsSo (which : File) (functions : ℕ) (fs : List t.Function) (l : Known) : Type 0 where
  many : ℕ
  many_is : many ≡ functions + length fs
  few : many ≤ most_functions
  at : AtFile which many l
  runs : Each FunctionRuns fs

externals_so : (which : File) (functions : ℕ) (unit : SourceUnit) → HasItems unit → HasNumbers unit → functions ≤ most_functions
    → (fs : List t.Function) (k m : Known) → AreExternals unit fs k m → AtFile which functions k → ExternalsSo which functions fs m
externals_so which functions [] items numbers few fs k m h at = record {
  many = functions;
  many_is = subst (λ xs. functions ≡ functions + length xs) (sym h.0) (omega arith);
  few = few;
  at = subst (AtFile which functions) (sym h.1) at;
  runs = subst (Each FunctionRuns) (sym h.0) tt;
}
externals_so which functions (function d ∷ rest) items numbers few fs k m h at =
    let own = function_so which functions d items.0 numbers.0.0 numbers.0.1 h.of k h.between h.first at in
    let others = h.second in
    let fewer : functions + 1 ≤ most_functions = omega (arith, own.few) in
    let so = externals_so which (functions + 1) rest items.1 numbers.1 fewer others.of h.between others.between others.first own.at in
    let all = others.second in
    let counted : so.many ≡ functions + suc (length others.of) = omega (arith, so.many_is) in
    record {
      many = so.many;
      many_is = subst (λ xs. so.many ≡ functions + length xs) (sym all.0) counted;
      few = so.few;
      at = subst (AtFile which so.many) (sym all.1) so.at;
      runs = subst (Each FunctionRuns) (sym all.0) (own.runs, so.runs);
    }
externals_so which functions (declaration_of d ∷ rest) items numbers few fs k m h at =
    let base = (in_base true d.specifiers).sound h.of k h.between h.first at.inside in
    let before : AtFile which functions h.between = record { counted = at.counted; inside = base.1 } in
    let declared = h.second in
    let after = items_so which functions h.of.storage h.of.type d.items items.0 numbers.0 base.0 declared.of h.between declared.between
    declared.first before in
    externals_so which functions rest items.1 numbers.1 few fs declared.between m declared.second after

-- ---- its static objects and texts

defined_somewhere : (file : File) (d : Definition) → IsTrue (is_defined_in file d) → IsFalse (is_undefined d)
defined_somewhere file undefined h = absurd cc
defined_somewhere file (tentative other) h = refl
defined_somewhere file (defined other) h = refl

static_has : (file : File) (es : List Entity) (n : ℕ) → Each IsEntity es → Each IsWhole es
    → IsTrue (is_object (entity_at es n) && is_defined_in file (entity_at es n).definition) → HasCells (entity_at es n).type.type
static_has file [] n h w d = absurd cc
static_has file (e ∷ rest) zero h w d =
    complete_has_cells e.type.type
    (w.0 (defined_somewhere file e.definition (and_second (is_object e) (is_defined_in file e.definition) d))
    (not_first (is_function e.type.type) (is_defined_in file e.definition) d)) h.0.of_language
static_has file (e ∷ rest) (suc n) h w d = static_has file rest n h.1 w.1 d

abbrev pub StaticFits : t.Static → Type 0
StaticFits s = Fit s.cells

statics_have : (file : File) (es : List Entity) (ds : List First) → Each IsEntity es → Each IsWhole es → EachStaticHasCells (statics_of file es ds)
statics_have file es [] h w = tt
statics_have file es (f ∷ rest) h w =
    go (is_object (entity_at es f.entity) && is_defined_in file (entity_at es f.entity).definition) (static_has file es f.entity h w)
    (statics_have file es rest h w)
  where
    go : (test : Test) → (IsTrue test → HasCells (entity_at es f.entity).type.type) → EachStaticHasCells (statics_of file es rest)
        → EachStaticHasCells (if test then static_of f (entity_at es f.entity) ∷ statics_of file es rest else statics_of file es rest)
    go true own others = (own refl, others)
    go false own others = others

statics_start : (file : File) (es : List Entity) (ds : List First) → Each StartsFit es → Each StaticFits (statics_of file es ds)
statics_start file es [] h = tt
statics_start file es (f ∷ rest) h =
    go (is_object (entity_at es f.entity) && is_defined_in file (entity_at es f.entity).definition) (starts_at es f.entity h)
    (statics_start file es rest h)
  where
    go : (test : Test) → StartsFit (entity_at es f.entity) → Each StaticFits (statics_of file es rest)
        → Each StaticFits (if test then static_of f (entity_at es f.entity) ∷ statics_of file es rest else statics_of file es rest)
    go true own others = (own, others)
    go false own others = others

texts_have : (texts : List TextObject) → Each TextHasCells texts → EachTextHasCells texts
texts_have [] h = tt
texts_have (x ∷ rest) h = (h.0, texts_have rest h.1)

-- ---- the file

pub record FileRuns (file : t.TypedFile) : Type 0 where
  pub functions : Each FunctionRuns file.functions
  pub few_functions : length file.functions ≤ most_functions
  pub statics : EachStaticHasCells file.statics
  pub few_statics : length file.statics ≤ most_static_cells
  pub texts : EachTextHasCells file.texts
  pub starts : Each StaticFits file.statics

pub record FileSo (which : File) (file : t.TypedFile) (l : Known) : Type 0 where
  pub many : ℕ
  pub at : AtFile which many l
  pub runs : FileRuns file

typed_runs : (which : File) (fs : List t.Function) (k : Known) → ExternalsSo which 0 fs k → FileRuns (typed_file fs k)
typed_runs which fs k so =
    let inside = so.at.inside in
    let linkage = inside.ready.linkage in
    let room = inside.ready.room in
    record {
      functions = so.runs;
      few_functions = omega (arith, so.many_is, so.few);
      statics = statics_have k.file k.entities k.declared inside.block.entities linkage.whole;
      few_statics = omega (arith, linkage.statics, room.room, room.most);
      texts = texts_have k.texts room.texts;
      starts = statics_start k.file k.entities k.declared linkage.starts;
    }

pub file_so : (which : File) (unit : SourceUnit) → HasItems unit → HasNumbers unit → (file : t.TypedFile) (k l : Known) → IsFile unit file k l
    → AtFile which 0 k → FileSo which file l
file_so which unit items numbers file k l h at =
    let so = externals_so which 0 unit items numbers (omega arith) h.of k h.between h.first at in
    record {
      many = so.many;
      at = subst (AtFile which so.many) (sym h.second.1) so.at;
      runs = subst FileRuns (sym h.second.0) (typed_runs which h.of h.between so);
    }

-- ---- the main file, and the binary file

pub nothing_at : AtFile main_file 0 nothing_known
nothing_at = record {
  counted = 0;
  inside = record {
    block = record { scopes = tt; file_scope = tt; locals = tt; entities = tt };
    ready = record {
      scopes = tt;
      room = record { functions = refl; texts = tt; room = omega arith; most = omega arith; small = tt };
      linkage = record {
        statics = omega arith;
        once = tt;
        among = λ n d. absurd (nowhere d);
        whole = tt;
        named = tt;
        starts = tt;
        file_is = refl;
        here = λ e. tt;
      };
    };
    locals = tt;
  };
}
  where
    nowhere : IsTrue false → ⊥
    nowhere e = cc

binary_begins : (functions : ℕ) (k : Known) → AtFile main_file functions k → AtFile binary_file 0 (binary_begun k)
binary_begins functions k at =
    let linkage = at.inside.ready.linkage in
    record {
      counted = 0;
      inside = record {
        block = record { scopes = tt; file_scope = tt; locals = tt; entities = at.inside.block.entities };
        ready = record {
          scopes = tt;
          room = record { functions = refl; texts = tt; room = omega arith; most = omega arith; small = tt };
          linkage = record {
            statics = omega arith;
            once = tt;
            among = λ n d. absurd (not_both (is_defined_in binary_file (entity_at k.entities n).definition) d (main_at k.entities n (linkage.here refl)));
            whole = linkage.whole;
            named = tt;
            starts = linkage.starts;
            file_is = refl;
            here = λ e. absurd (differ e);
          };
        };
        locals = tt;
      };
    }
  where
    differ : binary_file ≡ main_file → ⊥
    differ e = cc

pub binary_so : (functions : ℕ) (binary : Option SourceUnit) → IfThere HasItems binary → IfThere HasNumbers binary → (file : t.TypedFile) (k l : Known)
    → IsBinary binary file k l → AtFile main_file functions k → FileRuns file
binary_so functions None items numbers file k l h at = subst FileRuns (sym h.0) (record {
  functions = tt;
  few_functions = omega arith;
  statics = tt;
  few_statics = omega arith;
  texts = tt;
  starts = tt;
})
binary_so functions (Some unit) items numbers file k l h at =
    (file_so binary_file unit items numbers file h.between l h.second (subst (AtFile binary_file 0) (sym h.first) (binary_begins functions k at))).runs
