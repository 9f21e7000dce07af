-- What files and programs are has types of the language.
use Rattle.std.proofs.Common.{◌≡◌, ℕ, Bool as Test, true, false, List, [], ◌∷◌, map, sym, subst, Option, Some, None}
use Rattle.std.specs.Prelude.{IsTrue, IsFalse}
use Rattle.c_types.specs.Types.{CType, Qualified, is_function, result_of}
use Rattle.c_typed.specs.Statements as t
use Rattle.typing_rules.specs.Source.{Named}
use Rattle.typing_rules.specs.SourceUnits.{Initial, Item, Definition, function, declaration_of, Unit as SourceUnit}
use Rattle.typing_rules.specs.Known as known
use Rattle.typing_rules.specs.Known.{Known, Linked, Meaning, Local, found_in, predeclared_scope, is_among}
use Rattle.typing_rules.specs.SpecifierRules.{Storage}
use Rattle.typing_rules.specs.DeclaratorRules.{Derivation, name_of, or_no_name, parameter_type}
use Rattle.typing_rules.specs.DeclarationRules.{Defining, tentatively, fully, composed, starts_of, Initialized}
use Rattle.typing_rules.specs.UnitRules.{own_parameters, row_of, with_contents, nothing_known}
use Rattle.typing_rules.specs.TypingParts.{IsCounted}
use Rattle.typing_rules.specs.TypingUnits.{IsDefined, AreCountedIf, IsDefinedTentatively, IsDefinedWith, IsObjectDefined, IsDeclaredAtFile, IsDeclaredAs, IsItemAtFile, AreItemsAtFile, IsFunctionBegun, IsFunctionDefined, AreExternals, IsFile, IsBinary, Types}
use Rattle.typing_rules.specs.Laws.{Each}
use Rattle.typing_rules.specs.LanguageTypes.{IsOfLanguage, IsObjectType}
use Rattle.typing_rules.proofs.Sound.{Sound, Any, sound_is, sound_such, sound_such_as, sound_given, sound_holds, sound_asks, sound_makes, sound_never, sound_bind, sound_either}
use Rattle.typing_rules.proofs.LanguageNodesMade.{if_has}
use Rattle.typing_rules.proofs.LanguageTypesMade.{result_is}
use Rattle.typing_rules.proofs.DerivedTypes.{sound_specified, derived_is}
use Rattle.typing_laws.specs.LanguagePrograms.{IfThere, FunctionHasTypes, FileHasTypes, HasTypesOfLanguage}
use Rattle.typing_laws.specs.HasItems.{ItemHasItems, BlockHasItems, HasItems, HaveItems}
use Rattle.typing_laws.proofs.BlocksSound.{IsThere, Block, object_is_there, sound_derives}
use Rattle.typing_laws.proofs.UnsizedSound.{IsBase, sound_base, sound_type}
use Rattle.typing_laws.proofs.LinkageSound.{LinkedIs, composite_is, entity_set, sound_definition, sound_linked, sound_file_meaning}
use Rattle.typing_laws.proofs.InitializersSound.{IsGivenItems, IsGivenIf, sound_initialized}
use Rattle.typing_laws.proofs.DeclarationsSound.{sound_no_initial, sound_by_test, function_is_there}
use Rattle.typing_laws.proofs.StatementsSound.{sound_parts}
use Rattle.typing_laws.proofs.FunctionsSound.{own_are, own_is_function, sound_function_opened, sound_function_closed}
use Rattle.typing_laws.proofs.StaticsSound.{statics_have}

-- ---- objects

sound_defined : (how : Defining) (n : ℕ) → Sound Block Any (IsDefined how n)
sound_defined how n =
    sound_bind {P = Any} (sound_asks (λ k b. tt)) (λ before u. sound_bind sound_holds (λ u' v. sound_bind (sound_definition how n) (λ u'' w. sound_is tt)))

sound_counted_if : (test : Test) (type : Qualified) → Sound Block Any (AreCountedIf test type)
sound_counted_if test type =
    sound_either (sound_bind sound_holds (λ u p. sound_makes (λ k b. record
    { scopes = b.scopes; file_scope = b.file_scope; locals = b.locals; entities = b.entities }))) (sound_is tt)

sound_tentatively : (l : Linked) → Sound Block Any (IsDefinedTentatively l)
sound_tentatively l = sound_bind sound_given (λ u p. sound_bind (sound_defined tentatively l.entity) (λ first q. sound_counted_if first l.type))

contents_known : (name : Named) (l : Linked) (done : Initialized) → LinkedIs l → IsObjectType done.type.type → (k : Known) → Block k
    → Block (with_contents name l done k)
contents_known name l done t o k b =
    let there = object_is_there done.type.type o in
    let both = composite_is l.type.type done.type.type t there in
    let set = entity_set l.entity (λ e. record e { type = composed e.type done.type; contents = starts_of done.given })
    (λ e h. composite_is e.type.type done.type.type h there) k b in
    record { scopes = set.scopes; file_scope = ((both.is_there, both.of_language), set.file_scope); locals = set.locals; entities = set.entities }

sound_defined_with : (name : Named) (l : Linked) (type : Qualified) (x : Initial) → IsGivenItems type.type x → LinkedIs l → IsObjectType type.type
    → Sound Block Any (IsDefinedWith name l type x)
sound_defined_with name l type x h t o =
    sound_bind (sound_defined fully l.entity) (λ first u. sound_bind (sound_counted_if _ l.type) (λ u' v.
    sound_bind (sound_initialized true type x h o) (λ done p. sound_bind sound_holds (λ w w'. sound_bind (sound_counted_if _ done.type) (λ z z'.
    sound_makes (contents_known name l done t p.is_object))))))

sound_object_defined : (name : Named) (word : Storage) (l : Linked) (type : Qualified) (x : Option Initial) → IsGivenIf type.type x → LinkedIs l
    → IsObjectType type.type → Sound Block Any (IsObjectDefined name word l type x)
sound_object_defined name word l type None h t o = sound_either (sound_is tt) (sound_tentatively l)
sound_object_defined name word l type (Some x) h t o = sound_defined_with name l type x h t o

-- ---- declarations

sound_declared_at_file : (name : Named) (word : Storage) (type : Qualified) (x : Option Initial) → (IsFalse (is_function type.type) → IsGivenIf type.type x)
    → IsThere type.type → Sound Block Any (IsDeclaredAtFile name word type x)
sound_declared_at_file name word type x h t =
    sound_bind (sound_linked name word type t) (λ l p. sound_bind (sound_file_meaning name.bytes l p) (λ u q.
    sound_by_test (is_function type.type) (λ f. sound_no_initial x)
    (λ f. sound_object_defined name word l type x (h f) p (record { is_there = t.is_there; is_object = f; of_language = t.of_language }))))

sound_declared_as : (name : Named) (word : Storage) (type : Qualified) (x : Option Initial) (m : Option Meaning)
    → (IsFalse (is_function type.type) → IsGivenIf type.type x) → IsThere type.type → Sound Block Any (IsDeclaredAs name word type x m)
sound_declared_as name word type x None h t = sound_declared_at_file name word type x h t
sound_declared_as name word type x (Some (known.local n)) h t = sound_never
sound_declared_as name word type x (Some (known.linked n u)) h t = sound_never
sound_declared_as name word type x (Some (known.predeclared p)) h t = sound_bind sound_given (λ u q. sound_no_initial x)
sound_declared_as name word type x (Some (known.constant n)) h t = sound_never

sound_item_at_file : (word : Storage) (base : Qualified) (x : Item) → ItemHasItems x → IsBase base
    → Sound Block Any (IsItemAtFile word base x)
sound_item_at_file word base x h b =
    sound_type base x.declarator b (λ type d. sound_bind sound_given (λ u v.
    sound_declared_as (or_no_name (name_of x.declarator)) word type x.initial
    (found_in (or_no_name (name_of x.declarator)).bytes predeclared_scope) (λ f c. h (d.is_open v f c))
    (record { is_there = v; of_language = d.of_language })))

sound_items_at_file : (word : Storage) (base : Qualified) (xs : List Item) → Each ItemHasItems xs → IsBase base
    → Sound Block Any (AreItemsAtFile word base xs)
sound_items_at_file word base [] h b = sound_is tt
sound_items_at_file word base (x ∷ rest) h b =
    sound_bind (sound_item_at_file word base x h.0 b) (λ u p. sound_items_at_file word base rest h.1 b)

-- ---- functions

sound_counted : (type : CType) → Sound Block Any (IsCounted type)
sound_counted type = sound_bind (sound_makes (λ k b. if_has Block (is_among type k.types) k _ b (record {
  scopes = b.scopes;
  file_scope = b.file_scope;
  locals = b.locals;
  entities = b.entities;
}))) (λ u p. sound_holds)

sound_function_begun : (name : Named) (word : Storage) (type : Qualified) → IsThere type.type → Sound Block Any (IsFunctionBegun name word type)
sound_function_begun name word type t =
    sound_bind sound_given (λ u p. sound_bind (sound_linked name word type t) (λ l q. sound_bind (sound_file_meaning name.bytes l q) (λ u' p'.
    sound_bind (sound_defined fully l.entity) (λ first v. sound_bind sound_holds (λ w w'. sound_bind (sound_counted type.type) (λ z z'. sound_is tt))))))

-- the type of a function that is defined
record OwnType (ds : List Derivation) (type : Qualified) : Type 0 where
  of_language : IsOfLanguage type.type
  is_one : (ps : List Local) → own_parameters ds ≡ Some ps → IsTrue (is_function type.type)

rows_are : (ls : List Local) → Each IsObjectType (map parameter_type ls) → Each (λ l. IsObjectType l.type.type) (map row_of ls)
rows_are [] h = tt
rows_are (l ∷ rest) h = (h.0, rows_are rest h.1)

sound_function_defined : (d : Definition) → BlockHasItems d.body → Sound Block FunctionHasTypes (IsFunctionDefined d)
sound_function_defined d h =
    sound_bind (sound_specified true d.specifiers) (λ base l. sound_bind (sound_derives d.declarator) (λ ds p.
    sound_bind {P = OwnType ds} (sound_such (λ type g. record {
      of_language = derived_is base.type ds type g p l;
      is_one = λ ps e. own_is_function base.type ds type ps e g;
    })) (λ type o. sound_bind sound_such_as (λ ps e.
    let f = o.is_one ps e in
    sound_bind (sound_function_begun (or_no_name (name_of d.declarator)) base.storage type (function_is_there type.type f o.of_language)) (λ n u.
    sound_bind (sound_function_opened ps (own_are ds ps e p)) (λ u' v.
    sound_bind (sound_parts (result_of type.type) false d.body (result_is type.type o.of_language) h) (λ body b.
    sound_bind {P = λ ls. Each IsObjectType (map parameter_type ls)} (sound_asks (λ k k'. k'.locals)) (λ locals q.
    sound_bind sound_function_closed (λ w w'.
    sound_is (record { is_one = f; of_language = o.of_language; locals = rows_are locals q; body = b }))))))))))

-- ---- files and programs

sound_externals : (unit : SourceUnit) → HasItems unit → Sound Block (Each FunctionHasTypes) (AreExternals unit)
sound_externals [] h = sound_is tt
sound_externals (function d ∷ rest) h =
    sound_bind (sound_function_defined d h.0) (λ first p. sound_bind (sound_externals rest h.1) (λ others q. sound_is (p, q)))
sound_externals (declaration_of d ∷ rest) h =
    sound_bind (sound_base true d.specifiers) (λ base b. sound_bind (sound_items_at_file base.storage base.type d.items h.0 b) (λ u p.
    sound_externals rest h.1))

sound_file : (unit : SourceUnit) → HasItems unit → Sound Block FileHasTypes (IsFile unit)
sound_file unit h = sound_bind (sound_externals unit h) (λ functions p. sound_asks (λ k b. record {
  functions = p;
  statics = statics_have k.file k.entities k.declared b.entities;
}))

sound_binary : (binary : Option SourceUnit) → IfThere HasItems binary → Sound Block FileHasTypes (IsBinary binary)
sound_binary None h = sound_is (record { functions = tt; statics = tt })
sound_binary (Some unit) h =
    sound_bind (sound_makes (λ k b. record { scopes = tt; file_scope = tt; locals = tt; entities = b.entities })) (λ u p. sound_file unit h)

nothing_is : Block nothing_known
nothing_is = record { scopes = tt; file_scope = tt; locals = tt; entities = tt }

pub programs_have : (main : SourceUnit) (binary : Option SourceUnit) (program : t.Program) → HaveItems main binary
    → Types main binary program → HasTypesOfLanguage program
unfolding Types
programs_have main binary program items h =
    let p = h.1 in
    let first = (sound_file main items.0).sound p.of nothing_known p.between p.first nothing_is in
    let second = (sound_binary binary items.1).sound p.second.of p.between p.second.between p.second.first first.1 in
    subst HasTypesOfLanguage (sym p.second.second.second.second.second.second.0) (first.0, second.0)
