-- Files keep that the contents of objects fit.
use Rattle.std.proofs.Common.{ℕ, true, false, List, [], ◌∷◌, refl, Option, Some, None}
use Rattle.c_types.specs.Types.{Qualified, result_of}
use Rattle.typing_rules.specs.Source.{Named}
use Rattle.typing_rules.specs.SourceUnits.{Initial, Item, Definition, function, declaration_of, Unit as SourceUnit}
use Rattle.typing_rules.specs.Known as known
use Rattle.typing_rules.specs.Known.{Known, Linked, Meaning, Predeclared, found_in, predeclared_scope, type_of_predeclared}
use Rattle.typing_rules.specs.SpecifierRules.{Storage}
use Rattle.typing_rules.specs.DeclaratorRules.{lines_of, name_of, or_no_name}
use Rattle.typing_rules.specs.DeclarationRules.{tentatively, fully}
use Rattle.typing_rules.specs.TypingUnits.{IsDefinedTentatively, IsObjectDefined, IsDeclaredAtFile, IsDeclaredAs, IsItemAtFile, AreItemsAtFile, IsFunctionBegun, IsFunctionDefined, AreExternals, IsFile, IsBinary}
use Rattle.typing_rules.proofs.Keeping.{Keeps, keeps_is, keeps_never, keeps_given, keeps_holds, keeps_such, keeps_asks, keeps_makes, keeps_bind, keeps_such_then, keeps_either}
use Rattle.typing_rules.proofs.PartsKeep.{keeps_counted_type}
use Rattle.typing_rules.proofs.DeclaratorsKeep.{keeps_specified}
use Rattle.typing_rules.proofs.TermsKeep.{keeps_derivations}
use Rattle.typing_rules.proofs.DeclarationsKeep.{keeps_links, keeps_no_initial}
use Rattle.typing_rules.proofs.StatementsKeep.{keeps_items}
use Rattle.typing_rules.proofs.ContentsKeep.{IsWhole, derived_whole, says_whole, keeps_defines, keeps_counted_if, keeps_defined_with}

keeps_tentatively : (line : ℕ) (l : Linked) → Keeps (IsDefinedTentatively l)
keeps_tentatively line l =
    keeps_bind keeps_given (λ u. keeps_bind (keeps_defines tentatively line l.entity) (λ first. keeps_counted_if first line l.type))

keeps_object_defined : (name : Named) (word : Storage) (l : Linked) (type : Qualified) (x : Option Initial) → IsWhole type.type
    → Keeps (IsObjectDefined name word l type x)
keeps_object_defined name word l type None w = keeps_either keeps_is (keeps_tentatively name.line l)
keeps_object_defined name word l type (Some x) w = keeps_defined_with name l type x w

keeps_declared_at_file : (name : Named) (word : Storage) (type : Qualified) (x : Option Initial) → IsWhole type.type
    → Keeps (IsDeclaredAtFile name word type x)
keeps_declared_at_file name word type x w =
    keeps_bind (keeps_links name word type) (λ l. keeps_bind (keeps_makes (λ k. refl)) (λ u.
    keeps_either (keeps_no_initial name.line x) (keeps_object_defined name word l type x w)))

keeps_declared_as : (name : Named) (word : Storage) (type : Qualified) (x : Option Initial) (m : Option Meaning) → IsWhole type.type
    → Keeps (IsDeclaredAs name word type x m)
keeps_declared_as name word type x None w = keeps_declared_at_file name word type x w
keeps_declared_as name word type x (Some (known.local n)) w = keeps_never
keeps_declared_as name word type x (Some (known.linked n t)) w = keeps_never
keeps_declared_as name word type x (Some (known.predeclared p)) w = keeps_bind keeps_given (λ u. keeps_no_initial name.line x)
keeps_declared_as name word type x (Some (known.constant n)) w = keeps_never

keeps_item_at_file : (word : Storage) (base : Qualified) (specifiers : ℕ) (x : Item) → IsWhole base.type → Keeps (IsItemAtFile word base x)
keeps_item_at_file word base specifiers x w =
    keeps_bind (keeps_derivations (lines_of x.declarator specifiers) x.declarator) (λ ds. keeps_such_then (λ type p.
    keeps_bind keeps_given (λ u. keeps_declared_as (or_no_name (name_of x.declarator)) word type x.initial
    (found_in (or_no_name (name_of x.declarator)).bytes predeclared_scope) (derived_whole false base ds type w p))))

keeps_items_at_file : (word : Storage) (base : Qualified) (specifiers : ℕ) (xs : List Item) → IsWhole base.type → Keeps (AreItemsAtFile word base xs)
keeps_items_at_file word base specifiers [] w = keeps_is
keeps_items_at_file word base specifiers (x ∷ rest) w =
    keeps_bind (keeps_item_at_file word base specifiers x w) (λ u. keeps_items_at_file word base specifiers rest w)

keeps_function_begun : (name : Named) (word : Storage) (type : Qualified) → Keeps (IsFunctionBegun name word type)
keeps_function_begun name word type =
    keeps_bind keeps_given (λ u. keeps_bind (keeps_links name word type) (λ l. keeps_bind (keeps_makes (λ k. refl)) (λ u'.
    keeps_bind (keeps_defines fully name.line l.entity) (λ first. keeps_bind keeps_holds (λ v.
    keeps_bind (keeps_counted_type name.line type.type) (λ v'. keeps_is))))))

keeps_function_defined : (d : Definition) → Keeps (IsFunctionDefined d)
keeps_function_defined d =
    keeps_bind (keeps_specified true d.specifiers) (λ base.
    keeps_bind (keeps_derivations (lines_of d.declarator d.specifiers.line) d.declarator) (λ ds. keeps_bind keeps_such (λ type.
    keeps_bind keeps_such (λ ps. keeps_bind (keeps_function_begun (or_no_name (name_of d.declarator)) base.storage type) (λ n.
    keeps_bind (keeps_makes (λ k. refl)) (λ u. keeps_bind (keeps_items (result_of type.type) false d.body) (λ body.
    keeps_bind keeps_asks (λ locals. keeps_bind (keeps_makes (λ k. refl)) (λ u'. keeps_is)))))))))

pub keeps_externals : (unit : SourceUnit) → Keeps (AreExternals unit)
keeps_externals [] = keeps_is
keeps_externals (function d ∷ rest) = keeps_bind (keeps_function_defined d) (λ first. keeps_bind (keeps_externals rest) (λ others. keeps_is))
keeps_externals (declaration_of d ∷ rest) =
    keeps_such_then (λ base p.
    keeps_bind (keeps_items_at_file base.storage base.type d.specifiers.line d.items (says_whole true d.specifiers.words base p)) (λ u. keeps_externals rest))

keeps_file : (unit : SourceUnit) → Keeps (IsFile unit)
keeps_file unit = keeps_bind (keeps_externals unit) (λ functions. keeps_asks)

keeps_binary : (binary : Option SourceUnit) → Keeps (IsBinary binary)
keeps_binary None = keeps_is
keeps_binary (Some unit) = keeps_bind (keeps_makes (λ k. refl)) (λ u. keeps_file unit)
