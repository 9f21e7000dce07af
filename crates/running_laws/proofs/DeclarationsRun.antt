-- Declarations in blocks run, and each local that they declare has its cells.
use Rattle.std.proofs.Common.{◌≡◌, ℕ, false, List, [], ◌∷◌, ◌++◌, map, length, refl, ap, sym, subst, ◌∙◌, Option, Some, None, inl, inr}
use Rattle.std.specs.Prelude.{◌⊎◌, IsFalse, IsTrue, IsSome, slice_set}
use Rattle.std.proofs.lemmas.List.{length-map, map-append}
use Rattle.c_types.specs.Types.{CType, Qualified, is_void, is_function, is_array, is_complete}
use Rattle.c_typed.specs.Statements.{Cell, Initializer}
use Rattle.source_meaning.specs.Sound.{HasCells}
use Rattle.typing_rules.specs.Source.{Named}
use Rattle.typing_rules.specs.SourceUnits.{Initial, Item, Declaration}
use Rattle.typing_rules.specs.Known as known
use Rattle.typing_rules.specs.Known.{Known, File, Meaning, Local, found_in, local_at, predeclared_scope}
use Rattle.typing_rules.specs.SpecifierRules.{no_word}
use Rattle.typing_rules.specs.DeclaratorRules.{name_of, first_of_declarator, new_local, or_no_name, parameter_type}
use Rattle.typing_rules.specs.DeclarationRules.{scalar_of, initializer_of}
use Rattle.typing_rules.specs.TypingDeclarations.{IsLinkedInBlock, IsFunctionMeaning, HasNoInitial, IsFunctionInBlock, IsLocalInitialized, IsObjectInBlock, IsItemInBlock, AreItemsInBlock, IsDeclaredInBlock, IsLinked}
use Rattle.typing_rules.specs.Laws.{Each}
use Rattle.typing_rules.specs.LanguageTypes.{IsOfLanguage, IsObjectType}
use Rattle.typing_rules.specs.LanguageTerms.{IsMeaning}
use Rattle.typing_rules.proofs.Keeping.{each_append}
use Rattle.typing_rules.proofs.Sound.{Sound, Any, sound_is, sound_given, sound_holds, sound_makes, sound_never, sound_bind}
use Rattle.typing_rules.proofs.LanguageNodesMade.{if_has}
use Rattle.typing_laws.specs.LanguagePrograms.{IfThere}
use Rattle.typing_laws.specs.HasItems.{ItemHasItems, DeclarationHasItems}
use Rattle.typing_laws.proofs.BlocksSound.{IsThere, meaning_known, local_known, local_set}
use Rattle.typing_laws.proofs.UnsizedSound.{IsBase}
use Rattle.typing_laws.proofs.LinkageSound.{LinkedIs, sound_linked}
use Rattle.typing_laws.proofs.InitializersSound.{IsGivenIf}
use Rattle.typing_laws.proofs.DeclarationsSound.{sound_by_test, function_is_there}
use Rattle.running_laws.specs.HasNumbers.{InitialHasNumbers, ItemHasNumbers, DeclarationHasNumbers}
use Rattle.running_laws.proofs.NodesRun.{complete_has_cells}
use Rattle.running_laws.proofs.Ready.{IsSmall, ready_meaning}
use Rattle.running_laws.proofs.Linkage.{frame}
use Rattle.running_laws.proofs.LinkedRuns.{linked_ready, linked_leaves}
use Rattle.running_laws.proofs.RunningStatements.{CellRuns, InitializerRuns, LocalRuns}
use Rattle.running_laws.proofs.InsideRuns.{Inside, in_base, in_type}
use Rattle.running_laws.proofs.InitializersRun.{in_initialized}

-- all locals have their cells
abbrev pub Locals : List CType → Type 0
Locals ts = Each HasCells ts

pub in_no_initial : {I : Known → Type 0} (x : Option Initial) → Sound I Any (HasNoInitial x)
in_no_initial None = sound_is tt
in_no_initial (Some x) = sound_never

-- ---- functions

-- what a name of a function means: it is no constant that is large, and has a type of the language whatever the locals are
record MeansFunction (m : Meaning) : Type 0 where
  means : (ts : List CType) → IsMeaning ts m
  small : IsSmall m

module _ (which : File) (functions counted : ℕ) (M : List CType → Type 0) where
  in_linked : (name : Named) (type : Qualified) → IsThere type.type
      → Sound (Inside (frame which functions counted) M) LinkedIs (IsLinked name no_word type)
  in_linked name type t = record {
    sound = λ x k l h i.
        let b = (sound_linked name no_word type t).sound x k l h i.block in (
          b.0,
          record {
            block = b.1;
            ready = linked_ready which functions counted name no_word type x k l h i.ready;
            locals = subst (λ ls. M (map parameter_type ls)) (sym (linked_leaves name no_word type x k l h)) i.locals;
          },
        );
  }

  in_linked_in_block : (name : Named) (type : Qualified) → IsThere type.type
      → Sound (Inside (frame which functions counted) M) MeansFunction (IsLinkedInBlock name type)
  in_linked_in_block name type t =
      sound_bind (in_linked name type t) (λ l p. sound_is (record { means = λ ts. (p.is_there, p.of_language); small = tt }))

  in_function_meaning : (name : Named) (type : Qualified) (m : Option Meaning) → IsThere type.type
      → Sound (Inside (frame which functions counted) M) MeansFunction (IsFunctionMeaning name type m)
  in_function_meaning name type None t = in_linked_in_block name type t
  in_function_meaning name type (Some (known.local n)) t = in_linked_in_block name type t
  in_function_meaning name type (Some (known.linked n u)) t = in_linked_in_block name type t
  in_function_meaning name type (Some (known.predeclared p)) t =
      sound_bind sound_given (λ u p. sound_is (record { means = λ ts. tt; small = tt }))
  in_function_meaning name type (Some (known.constant n)) t = in_linked_in_block name type t

  in_function : (name : Named) (type : Qualified) (x : Option Initial) → IsThere type.type
      → Sound (Inside (frame which functions counted) M) (Each LocalRuns) (IsFunctionInBlock name type x)
  in_function name type x t =
      sound_bind sound_holds (λ u p. sound_bind (in_function_meaning name type (found_in name.bytes predeclared_scope) t) (λ m q.
      sound_bind (sound_makes (λ k i. record {
        block = meaning_known name.bytes m k (q.means (map parameter_type k.locals)) i.block;
        ready = ready_meaning (frame which functions counted) name.bytes m q.small k i.ready;
        locals = i.locals;
      })) (λ u' p'. sound_bind (in_no_initial x) (λ u'' p''. sound_is tt))))

-- ---- objects

scalar_runs : (given : List Cell) → Each CellRuns given → IfThere InitializerRuns (scalar_of given)
scalar_runs [] h = tt
scalar_runs (c ∷ rest) h = h.0

initializer_runs : (type : CType) (given : List Cell) → Each CellRuns given → IfThere InitializerRuns (initializer_of type given)
initializer_runs type given h = if_has (IfThere InitializerRuns) (is_array type) _ (scalar_of given) h (scalar_runs given h)

abbrev rest_of : List CType → List CType
rest_of [] = []
rest_of (t ∷ ts) = ts

abbrev first_or : CType → List CType → CType
first_or t [] = t
first_or t (u ∷ us) = u

-- the last local has another type from now on
last_set : (ls : List Local) (before : List CType) (t : CType) (n : ℕ) (own : Local) → n ≡ length before → map parameter_type ls ≡ before ++ t ∷ []
    → Locals before → HasCells (parameter_type own) → Locals (map parameter_type (slice_set ls n own))
last_set ls before t n own counted e h c =
    subst (λ m. Locals (map parameter_type (slice_set ls m own))) (sym counted) (go ls before e h)
  where
    nothing : (ls : List Local) → map parameter_type ls ≡ [] → Locals (map parameter_type ls)
    nothing ls e = subst Locals (sym e) tt

    go : (ls : List Local) (before : List CType) → map parameter_type ls ≡ before ++ t ∷ [] → Locals before
        → Locals (map parameter_type (slice_set ls (length before) own))
    go [] before e h = tt
    go (l ∷ ls) [] e h = (c, nothing ls (ap rest_of e))
    go (l ∷ ls) (u ∷ before) e h =
        (subst HasCells (sym (ap (first_or t) e)) h.0, go ls before (ap rest_of e) h.1)

complete_here : (type : Qualified) (x : Option Initial) → IsSome x ⊎ IsTrue (is_complete type.type) → x ≡ None → IsTrue (is_complete type.type)
complete_here type None (inl p) e = absurd cc
complete_here type (Some x) (inl p) e = absurd cc
complete_here type x (inr p) e = p

module _ (which : File) (functions counted : ℕ) where
  -- before an object is initialized, the type of the last local may be open
  abbrev Open : List CType → CType → Known → Type 0
  Open before t k = Inside (frame which functions counted) (λ ts. ts ≡ before ++ t ∷ []) k

  in_local_initialized : (before : List CType) (n : ℕ) (type : Qualified) (x : Option Initial) → IfThere InitialHasNumbers x → IsGivenIf type.type x
      → IsObjectType type.type → IsSome x ⊎ IsTrue (is_complete type.type) → n ≡ length before → Locals before
      → (i : Option Initializer) (k l : Known) → IsLocalInitialized n type x i k l → Open before type.type k
      → IfThere InitializerRuns i × Inside (frame which functions counted) Locals l
  in_local_initialized before n type None m g o c counts all i k l h pending =
      let cells : HasCells type.type = complete_has_cells type.type (complete_here type None c refl) o.of_language in
      let now : Inside (frame which functions counted) Locals k = record {
        block = pending.block;
        ready = pending.ready;
        locals = subst Locals (sym pending.locals) (each_append HasCells before (type.type ∷ []) all (cells, tt));
      } in (subst (IfThere InitializerRuns) (sym h.0) tt, subst (Inside (frame which functions counted) Locals) (sym h.1) now)
  in_local_initialized before n type (Some x) m g o c counts all i k l h pending =
      let done = h.of in
      let p = (in_initialized false type x m g o).sound done k h.between h.first pending in
      let made = h.second in
      let own : Local = record (local_at h.between.locals n) { type = done.type } in
      let now : Inside (frame which functions counted) Locals (known.local_completed n done.type h.between) = record {
        block = local_set n own h.between p.0.is_object p.1.block;
        ready = record { scopes = p.1.ready.scopes; room = p.1.ready.room; linkage = p.1.ready.linkage };
        locals = last_set h.between.locals before type.type n own counts p.1.locals all p.0.has_cells;
      } in (
        subst (IfThere InitializerRuns) (sym made.second.0) (initializer_runs done.type.type done.given p.0.cells),
        subst (Inside (frame which functions counted) Locals) (sym (made.second.1 ∙ made.first)) now,
      )

  in_object : (name : Named) (first : ℕ) (type : Qualified) (x : Option Initial) → IfThere InitialHasNumbers x
      → (IsFalse (is_void type.type) → IsGivenIf type.type x)
      → IsOfLanguage type.type → IsFalse (is_function type.type)
      → Sound (Inside (frame which functions counted) Locals) (Each LocalRuns) (IsObjectInBlock name first type x)
  in_object name first type x m g l f = record {
    sound = λ xs k e h i.
        let there = h.first.0 in
        let given = h.second in
        let whole = given.first.0 in
        let asked = given.second in
        let declared = asked.second in
        let made = declared.second in
        let n = asked.of in
        let start : asked.between ≡ k = asked.first.1 ∙ given.first.1 ∙ h.first.1 in
        let o : IsObjectType type.type = record { is_there = there; is_object = f; of_language = l } in
        let own = new_local name first type in
        let counted_so : n ≡ length k.locals = asked.first.0 ∙ ap (λ z. length z.locals) (given.first.1 ∙ h.first.1) in
        let named : declared.between ≡ known.meaning name.bytes (known.local n) k =
        declared.first.second ∙ ap (known.meaning name.bytes (known.local n)) (declared.first.first.1 ∙ start) in
        let now : made.between ≡ known.with_local own (known.meaning name.bytes (known.local n) k) =
        made.first ∙ ap (known.with_local own) named in
        let named_ready = ready_meaning (frame which functions counted) name.bytes (known.local n) tt k i.ready in
        let pending : Open (map parameter_type k.locals) type.type (known.with_local own (known.meaning name.bytes (known.local n) k)) = record {
          block = local_known name.bytes n own k counted_so o i.block;
          ready = record { scopes = named_ready.scopes; room = named_ready.room; linkage = named_ready.linkage };
          locals = map-append parameter_type k.locals (own ∷ []);
        } in
        let ended = made.second in
        let p = in_local_initialized (map parameter_type k.locals) n type x m (g there) o whole (counted_so ∙ sym (length-map k.locals parameter_type))
        i.locals ended.of made.between ended.between ended.first
        (subst (Open (map parameter_type k.locals) type.type) (sym now) pending) in (
          subst (Each LocalRuns) (sym ended.second.0) (p.0, tt),
          subst (Inside (frame which functions counted) Locals) (sym ended.second.1) p.1,
        );
  }

  -- ---- declarations

  in_item : (base : Qualified) (x : Item) → ItemHasItems x → ItemHasNumbers x → IsBase base
      → Sound (Inside (frame which functions counted) Locals) (Each LocalRuns) (IsItemInBlock base x)
  in_item base x h n b =
      in_type base x.declarator b n.0 (λ type d. sound_by_test (is_function type.type)
      (λ f. in_function which functions counted Locals (or_no_name (name_of x.declarator)) type x.initial (function_is_there type.type f d.of_language))
      (λ f. in_object (or_no_name (name_of x.declarator)) (first_of_declarator x.declarator) type x.initial n.1
      (λ v c. h (d.is_open v f c)) d.of_language f))

  in_items : (base : Qualified) (xs : List Item) → Each ItemHasItems xs → Each ItemHasNumbers xs → IsBase base
      → Sound (Inside (frame which functions counted) Locals) (Each LocalRuns) (AreItemsInBlock base xs)
  in_items base [] h n b = sound_is tt
  in_items base (x ∷ rest) h n b =
      sound_bind (in_item base x h.0 n.0 b) (λ first p. sound_bind (in_items base rest h.1 n.1 b) (λ others q.
      sound_is (each_append LocalRuns first others p q)))

  pub in_declared : (d : Declaration) → DeclarationHasItems d → DeclarationHasNumbers d
      → Sound (Inside (frame which functions counted) Locals) (Each LocalRuns) (IsDeclaredInBlock d)
  in_declared d h n = sound_bind (in_base false d.specifiers) (λ base p. in_items base.type d.items h n p)
