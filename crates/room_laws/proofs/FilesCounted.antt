-- Files keep what is counted: so the objects of each file of a program have room.
use Rattle.std.proofs.Common.{◌≡◌, ℕ, ◌+◌, ◌≤◌, Bool as Test, true, false, List, [], ◌∷◌, ◌++◌, map, length, refl, sym, subst, ◌∙◌, Option, Some, None, inl, inr, sum_by, arith}
use Rattle.std.specs.Prelude.{◌&&◌, not, if◌then◌else◌, IsTrue, IsFalse, slice_set}
use Rattle.std.proofs.lemmas.List.Sums.{sum_by-cons, sum_by-append}
use Rattle.srmt_base.specs.declared.part.Part.{Part}
use Rattle.srmt_base.specs.declared.part.Part.TheVariants.{Protected, Binary}
use Rattle.srmt_base.specs.declared.statics.Static.{Static as StartingObject}
use Rattle.srmt_base.specs.Statics.{static_cells}
use Rattle.c_types.specs.Types.{CType, Qualified, is_void, is_function, cells_of, function_of, result_of}
use Rattle.c_typed.specs.Statements as t
use Rattle.c_typed.specs.declared.program.TextObject.{TextObject}
use Rattle.source_meaning.specs.Start.{object_of_static, object_of_text, objects_at_start}
use Rattle.typing_rules.specs.Source.{Named}
use Rattle.typing_rules.specs.SourceUnits.{Initial, Item, Definition, function, declaration_of, Unit as SourceUnit}
use Rattle.typing_rules.specs.Known as known
use Rattle.typing_rules.specs.Known.{Known, File, main_file, binary_file, Entity, First, Local, Meaning, found_in, entity_at, predeclared_scope}
use Rattle.typing_rules.specs.Limits.{most_static_cells}
use Rattle.typing_rules.specs.SpecifierRules.{Storage}
use Rattle.typing_rules.specs.DeclaratorRules.{Derivation, to_pointer, to_array, to_function, name_of, or_no_name, parameter_type}
use Rattle.typing_rules.specs.DeclarationRules.{fully, with_definition}
use Rattle.typing_rules.specs.Declarators.{IsDerived}
use Rattle.typing_rules.specs.UnitRules.{own_parameters, is_defined_in, is_object, static_of, statics_of, typed_file, nothing_known, binary_begun}
use Rattle.typing_rules.specs.TypingUnits.{IsDeclaredAtFile, IsDeclaredAs, IsItemAtFile, AreItemsAtFile, IsFunctionBegun, IsFunctionDefined, AreExternals, IsFile, IsBinary, Types}
use Rattle.room_laws.proofs.Keeping.{Keeps, keeps_is, keeps_never, keeps_given, keeps_holds, keeps_such, keeps_such_then, keeps_given_then, keeps_asks, keeps_makes, keeps_bind}
use Rattle.room_laws.proofs.PartsKeep.{keeps_counted_type}
use Rattle.room_laws.proofs.DeclaratorsKeep.{keeps_specified}
use Rattle.room_laws.proofs.TermsKeep.{keeps_derivations}
use Rattle.room_laws.proofs.StatementsKeep.{keeps_no_initial, keeps_items}
use Rattle.room_laws.proofs.StaticsTotal.{is_static, all_cells, own_no_more, not_both, text_cells}
use Rattle.room_laws.proofs.Linkage.{linkage_set, set_no_more}
use Rattle.room_laws.proofs.Counted.{Counted, stays_counted, room_less, keeps_linked, LinkedAt, linked_at, named_at}
use Rattle.room_laws.proofs.ObjectsCounted.{DefinedSo, defined_so, main_defined, redefined, redefined_grows, object_counted}

-- ---- declarations at file scope

declared_at_file : (which : File) (name : Named) (word : Storage) (type : Qualified) (x : Option Initial) → IsFalse (is_void type.type)
    → Keeps (Counted which) (IsDeclaredAtFile name word type x)
declared_at_file which name word type x v = record {
  kept = λ u k m h c.
      let linked = linked_at which name word type h.of k h.between h.first c in
      let naming = h.second in
      let named : LinkedAt which type h.of naming.between =
      subst (LinkedAt which type h.of) (sym naming.first) (named_at which name.bytes type h.of h.between linked) in
      elim naming.second [
        | inl p ↦ (keeps_no_initial {I = Counted which} x).kept u naming.between m p.1 named.counted
        | inr p ↦ object_counted which name word type h.of x v p.0 u naming.between m p.1 named.well named.counted
      ];
}

declared_as : (which : File) (name : Named) (word : Storage) (type : Qualified) (x : Option Initial) (means : Option Meaning) → IsFalse (is_void type.type)
    → Keeps (Counted which) (IsDeclaredAs name word type x means)
declared_as which name word type x None v = declared_at_file which name word type x v
declared_as which name word type x (Some (known.local n)) v = keeps_never
declared_as which name word type x (Some (known.linked n t)) v = keeps_never
declared_as which name word type x (Some (known.predeclared p)) v = keeps_bind keeps_given (λ u. keeps_no_initial x)
declared_as which name word type x (Some (known.constant n)) v = keeps_never

item_counted : (which : File) (word : Storage) (base : Qualified) (x : Item) → Keeps (Counted which) (IsItemAtFile word base x)
item_counted which word base x =
    keeps_bind (keeps_derivations (stays_counted which) x.declarator) (λ ds. keeps_bind keeps_such (λ type. keeps_given_then (λ u v.
    declared_as which (or_no_name (name_of x.declarator)) word type x.initial
    (found_in (or_no_name (name_of x.declarator)).bytes predeclared_scope) v)))

items_counted : (which : File) (word : Storage) (base : Qualified) (xs : List Item) → Keeps (Counted which) (AreItemsAtFile word base xs)
items_counted which word base [] = keeps_is
items_counted which word base (x ∷ rest) = keeps_bind (item_counted which word base x) (λ u. items_counted which word base rest)

-- ---- functions

function_is_one : (ps : List CType) (r : Qualified) → IsTrue (is_function (function_of ps r))
function_is_one [] r = refl
function_is_one (p ∷ ps) r = refl

own_is_function : (base : Qualified) (ds : List Derivation) (u : Qualified) (ps : List Local) → own_parameters ds ≡ Some ps
    → IsDerived false base ds u → IsTrue (is_function u.type)
own_is_function base [] u ps e h = absurd cc
own_is_function base (to_pointer q ∷ ds) u ps e h = absurd cc
own_is_function base (to_array n ∷ ds) u ps e h = absurd cc
own_is_function base (to_function qs ∷ ds) u ps e h =
    subst (λ v. IsTrue (is_function v.type)) (sym h.2.3) (function_is_one (map parameter_type qs) h.0)

never_static : (a b : Test) → IsTrue a → IsTrue (not a && b) → ⊥
never_static true b f h = absurd cc
never_static false b f h = absurd (not_both false f refl)

-- a function that is defined is no static object
function_counted : (which : File) (n : ℕ) (first : Test) (k l : Known) → DefinedSo fully n first k l → IsTrue (known.is_declared_among n k.declared)
    → IsTrue (is_function (entity_at k.entities n).type.type) → Counted which k → Counted which l
function_counted which n first k l so among one c =
    let e = entity_at k.entities n in
    let after = redefined fully k.file e in
    let none : IsTrue (is_static which after) → ⊥ = never_static (is_function e.type.type) (is_defined_in which after.definition) one in
    let result : Counted which (with_definition fully n k) = record {
      file = c.file;
      linkage = linkage_set which k.entities k.declared k.file_scope n after c.linkage (λ s. among) (redefined_grows fully k.file e)
          (λ s. absurd (none s)) (λ i. main_defined fully e.definition k.file (c.file ∙ i) (c.linkage.here i n));
      room = room_less (all_cells which k.entities k.declared) (all_cells which (slice_set k.entities n after) k.declared) (text_cells k.texts)
          k.static_cells
          (set_no_more which k.entities n after k.declared
          (own_no_more (is_static which e) (is_static which after) (cells_of e.type.type) (cells_of e.type.type) (λ s. absurd (none s)))) c.room;
      most = c.most;
    } in
    subst (Counted which) (sym so.after) result

function_begun : (which : File) (name : Named) (word : Storage) (type : Qualified) → IsTrue (is_function type.type)
    → Keeps (Counted which) (IsFunctionBegun name word type)
function_begun which name word type one = keeps_bind keeps_given (λ u. record {
  kept = λ n k m h c.
      let linked = linked_at which name word type h.of k h.between h.first c in
      let naming = h.second in
      let named : LinkedAt which type h.of naming.between =
      subst (LinkedAt which type h.of) (sym naming.first) (named_at which name.bytes type h.of h.between linked) in
      let defining = naming.second in
      let so = defined_so fully h.of.entity defining.of naming.between defining.between defining.first in
      let defined = function_counted which h.of.entity defining.of naming.between defining.between so named.well.among (named.well.function one)
      named.counted in
      let rest : Keeps (Counted which) _ =
      keeps_bind keeps_holds (λ v. keeps_bind (keeps_counted_type (stays_counted which) type.type) (λ v'. keeps_is)) in
      rest.kept n defining.between m defining.second defined;
})

function_defined : (which : File) (d : Definition) → Keeps (Counted which) (IsFunctionDefined d)
function_defined which d =
    let stays = stays_counted which in
    keeps_bind (keeps_specified stays true d.specifiers) (λ base.
    keeps_bind (keeps_derivations stays d.declarator) (λ ds. keeps_such_then (λ type derived. keeps_such_then (λ ps own.
    keeps_bind (function_begun which (or_no_name (name_of d.declarator)) base.storage type (own_is_function base.type ds type ps own derived)) (λ n.
    keeps_bind (keeps_makes (λ k c. record { file = c.file; linkage = c.linkage; room = c.room; most = c.most })) (λ u.
    keeps_bind (keeps_items stays (keeps_linked which) (result_of type.type) false d.body) (λ body. keeps_bind keeps_asks (λ locals.
    keeps_bind (keeps_makes (λ k c. record { file = c.file; linkage = c.linkage; room = c.room; most = c.most })) (λ u'. keeps_is)))))))))

externals_counted : (which : File) (unit : SourceUnit) → Keeps (Counted which) (AreExternals unit)
externals_counted which [] = keeps_is
externals_counted which (function d ∷ rest) =
    keeps_bind (function_defined which d) (λ first. keeps_bind (externals_counted which rest) (λ others. keeps_is))
externals_counted which (declaration_of d ∷ rest) =
    keeps_bind (keeps_specified (stays_counted which) true d.specifiers) (λ base.
    keeps_bind (items_counted which base.storage base.type d.items) (λ u. externals_counted which rest))

-- ---- files

-- the cells of the static objects and texts of a file
abbrev file_cells : t.TypedFile → ℕ
file_cells file = sum_by (λ s. cells_of s.type.type) file.statics + text_cells file.texts

statics_total : (file : File) (es : List Entity) (ds : List First) → sum_by (λ s. cells_of s.type.type) (statics_of file es ds) ≡ all_cells file es ds
statics_total file es [] = refl
statics_total file es (d ∷ rest) =
    by (is_object (entity_at es d.entity) && is_defined_in file (entity_at es d.entity).definition) (statics_total file es rest)
  where
    by : (test : Test) → sum_by (λ s. cells_of s.type.type) (statics_of file es rest) ≡ all_cells file es rest
        → sum_by (λ s. cells_of s.type.type) (if test then static_of d (entity_at es d.entity) ∷ statics_of file es rest else statics_of file es rest)
        ≡ (if test then cells_of (entity_at es d.entity).type.type else 0) + all_cells file es rest
    by true others =
        let first = sum_by-cons (λ s. cells_of s.type.type) (static_of d (entity_at es d.entity)) (statics_of file es rest) in
        omega (arith, first, others)
    by false others = omega (arith, others)

typed_room : (which : File) (fs : List t.Function) (k : Known) → Counted which k → file_cells (typed_file fs k) ≤ most_static_cells
typed_room which fs k c =
    let total = statics_total k.file k.entities k.declared in
    let room = subst (λ file. all_cells file k.entities k.declared + text_cells k.texts ≤ k.static_cells) (sym c.file) c.room in
    let most = c.most in
    omega (arith, total, room, most)

record FileSo (which : File) (file : t.TypedFile) (l : Known) : Type 0 where
  counted : Counted which l
  room : file_cells file ≤ most_static_cells

file_so : (which : File) (unit : SourceUnit) (file : t.TypedFile) (k l : Known) → IsFile unit file k l → Counted which k → FileSo which file l
file_so which unit file k l h c =
    let counted = (externals_counted which unit).kept h.of k h.between h.first c in
    record {
      counted = subst (Counted which) (sym h.second.1) counted;
      room = subst (λ f. file_cells f ≤ most_static_cells) (sym h.second.0) (typed_room which h.of h.between counted);
    }

nothing_counted : Counted main_file nothing_known
nothing_counted = record {
  file = refl;
  linkage = record { once = tt; among = λ n d. absurd (nowhere d); whole = λ n d. absurd (nowhere d); named = tt; here = λ e n. refl };
  room = omega arith;
  most = omega arith;
}
  where
    nowhere : IsTrue false → ⊥
    nowhere e = cc

binary_begins : (k : Known) → Counted main_file k → Counted binary_file (binary_begun k)
binary_begins k c =
    let before = c.linkage.here refl in
    record {
      file = refl;
      linkage = record {
        once = tt;
        among = λ n d. absurd (not_both (is_defined_in binary_file (entity_at k.entities n).definition) d (before n));
        whole = λ n s. absurd (undefined_is_no_static (is_object (entity_at k.entities n))
            (is_defined_in binary_file (entity_at k.entities n).definition) (before n) s);
        named = tt;
        here = λ e. absurd (differ e);
      };
      room = omega arith;
      most = omega arith;
    }
  where
    differ : binary_file ≡ main_file → ⊥
    differ e = cc

    undefined_is_no_static : (a b : Test) → IsFalse b → IsTrue (a && b) → ⊥
    undefined_is_no_static true b f h = not_both b h f
    undefined_is_no_static false b f h = absurd cc

binary_so : (binary : Option SourceUnit) (file : t.TypedFile) (k l : Known) → IsBinary binary file k l → Counted main_file k
    → file_cells file ≤ most_static_cells
binary_so None file k l h c = subst (λ f. file_cells f ≤ most_static_cells) (sym h.0) (omega arith)
binary_so (Some unit) file k l h c =
    (file_so binary_file unit file h.between l h.second (subst (Counted binary_file) (sym h.first) (binary_begins k c))).room

-- ---- programs

statics_objects : (program : t.Program) (part : Part) (ss : List t.Static)
    → static_cells (map (object_of_static program part) ss) ≡ sum_by (λ s. cells_of s.type.type) ss
statics_objects program part [] = refl
statics_objects program part (s ∷ rest) =
    let object = sum_by-cons (λ (o : StartingObject). o.cells) (object_of_static program part s) (map (object_of_static program part) rest) in
    let own = sum_by-cons (λ (x : t.Static). cells_of x.type.type) s rest in
    let others = statics_objects program part rest in
    omega (arith, object, own, others)

texts_objects : (ts : List TextObject) → static_cells (map object_of_text ts) ≡ text_cells ts
texts_objects [] = refl
texts_objects (x ∷ rest) =
    let object = sum_by-cons (λ (o : StartingObject). o.cells) (object_of_text x) (map object_of_text rest) in
    let own = sum_by-cons (λ (y : TextObject). length y.bytes + 1) x rest in
    let others = texts_objects rest in
    omega (arith, object, own, others)

objects_room : (program : t.Program) (part : Part) (file : t.TypedFile) → file_cells file ≤ most_static_cells
    → static_cells (map (object_of_static program part) file.statics ++ map object_of_text file.texts) ≤ 1048576
objects_room program part file h =
    let all = sum_by-append (λ (o : StartingObject). o.cells) (map (object_of_static program part) file.statics) (map object_of_text file.texts) in
    let statics = statics_objects program part file.statics in
    let texts = texts_objects file.texts in
    omega (arith, all, statics, texts, h)

room_in : (program : t.Program) (part : Part) → file_cells program.main_file ≤ most_static_cells → file_cells program.binary_file ≤ most_static_cells
    → static_cells (objects_at_start program part) ≤ 1048576
room_in program Protected a b = objects_room program Protected program.main_file a
room_in program Binary a b = objects_room program Binary program.binary_file b

abbrev HaveRoom : t.Program → Type 0
HaveRoom program = (file_cells program.main_file ≤ most_static_cells) × (file_cells program.binary_file ≤ most_static_cells)

files_room : (main : SourceUnit) (binary : Option SourceUnit) (program : t.Program) → Types main binary program → HaveRoom program
unfolding Types
files_room main binary program h =
    let p = h.1 in
    let first = file_so main_file main p.of nothing_known p.between p.first nothing_counted in
    let second = binary_so binary p.second.of p.between p.second.between p.second.first first.counted in
    subst HaveRoom (sym p.second.second.second.second.second.second.0) (first.room, second)

pub objects_have_room : (main : SourceUnit) (binary : Option SourceUnit) (program : t.Program) → Types main binary program → (part : Part)
    → static_cells (objects_at_start program part) ≤ 1048576
objects_have_room main binary program h part = let both = files_room main binary program h in room_in program part both.0 both.1
