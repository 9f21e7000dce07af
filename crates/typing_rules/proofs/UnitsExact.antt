-- Files and programs: the ordered function and the relation are one.
use Rattle.std.proofs.Common.{◌≡◌, ℕ, suc, Bool as Test, true, false, not, List, [], ◌∷◌, refl, ap, sym, ◌∙◌, Option, Some, None, Result, Ok, Err, ◌↔◌}
use Rattle.std.specs.Prelude.{◌&&◌}
use Rattle.c_types.specs.Types.{Qualified, is_void, is_function, is_complete, same_type, cells_of, result_of}
use Rattle.c_typed.specs.Statements as t
use Rattle.typing_rules.specs.declared.refusal.TypeRefusal.{TypeRefusal}
use Rattle.typing_rules.specs.declared.refusal.TypeRefusal.TheVariants.{Twice, Mismatch, NoMain, Unresolved, TooLarge}
use Rattle.typing_rules.specs.declared.refusal.Size.TheVariants.{Functions}
use Rattle.typing_rules.specs.Source.{Named}
use Rattle.typing_rules.specs.SourceUnits.{Initial, Item, Definition, function, declaration_of, Unit as SourceUnit}
use Rattle.typing_rules.specs.Known as known
use Rattle.typing_rules.specs.Known.{Known, Linked, Meaning, Predeclared, found_in, predeclared_scope, type_of_predeclared}
use Rattle.typing_rules.specs.Limits.{most_functions}
use Rattle.typing_rules.specs.SpecifierRules.{Storage}
use Rattle.typing_rules.specs.DeclaratorRules.{lines_of, name_of, or_no_name}
use Rattle.typing_rules.specs.DeclarationRules.{Defining, tentatively, fully}
use Rattle.typing_rules.specs.UnitRules.{own_parameters, unresolved, nothing_known, no_file, is_extern}
use Rattle.typing_rules.specs.Checking.{asks, ◌>>=◌}
use Rattle.typing_rules.specs.Holding.{Holds}
use Rattle.typing_rules.specs.Exact.{Exact}
use Rattle.typing_rules.specs.OrderedUnits.{defines, counted_if, defined_tentatively, defined_with, object_defined, declared_at_file, declared_as, item_at_file, items_at_file, function_begun, function_defined, externals_of, file_of, binary_of, resolves, program_of, program_alone, checked}
use Rattle.typing_rules.specs.TypingUnits.{IsDefined, AreCountedIf, IsDefinedTentatively, IsDefinedWith, IsObjectDefined, IsDeclaredAtFile, IsDeclaredAs, IsItemAtFile, AreItemsAtFile, IsFunctionBegun, IsFunctionDefined, AreExternals, IsFile, IsBinary, IsProgram, Types}
use Rattle.typing_rules.proofs.Exactness.{exact_pure, exact_refuse, exact_asks, exact_makes, exact_bind, exact_needs, exact_tests, exact_choose, exact_given, exact_from_result, err_no_ok, ok_same, allowed_same, refused_no_ok}
use Rattle.typing_rules.proofs.PartsExact.{exact_counted, exact_counted_type, at_most}
use Rattle.typing_rules.proofs.DeclaratorsExact.{exact_specified, derived_allows, is_there}
use Rattle.typing_rules.proofs.TermsExact.{exact_derivations}
use Rattle.typing_rules.proofs.DeclarationsExact.{itself, opposite_of, exact_links, exact_no_initial, exact_initialized}
use Rattle.typing_rules.proofs.StatementsExact.{exact_items}

exact_defines : (how : Defining) (line n : ℕ) → Exact (defines how line n) (IsDefined how n)
exact_defines how line n =
    exact_bind (exact_asks _) (λ before.
    exact_bind (exact_tests _ _ (Twice line) (λ k. itself _)) (λ u.
    exact_bind (exact_makes _) (λ u'. exact_pure _)))

exact_counted_if : (test : Test) (line : ℕ) (type : Qualified) → Exact (counted_if test line type) (AreCountedIf test type)
exact_counted_if test line type = exact_choose test (exact_counted line (cells_of type.type)) (exact_pure tt)

exact_tentatively : (line : ℕ) (l : Linked) → Exact (defined_tentatively line l) (IsDefinedTentatively l)
exact_tentatively line l =
    exact_bind (exact_needs _ _ (Mismatch line 15) (itself (is_complete l.type.type))) (λ u.
    exact_bind (exact_defines tentatively line l.entity) (λ first. exact_counted_if first line l.type))

exact_defined_with : (name : Named) (l : Linked) (type : Qualified) (x : Initial) → Exact (defined_with name l type x) (IsDefinedWith name l type x)
exact_defined_with name l type x =
    exact_bind (exact_defines fully name.line l.entity) (λ first.
    exact_bind (exact_counted_if (first && is_complete l.type.type) name.line l.type) (λ u.
    exact_bind (exact_initialized true name.line type x) (λ done.
    exact_bind (exact_tests _ _ (Mismatch name.line 17) (λ k. itself _)) (λ u'.
    exact_bind (exact_counted_if (first && not (is_complete l.type.type)) name.line done.type) (λ u''. exact_makes _)))))

exact_object_defined : (name : Named) (word : Storage) (l : Linked) (type : Qualified) (x : Option Initial)
    → Exact (object_defined name word l type x) (IsObjectDefined name word l type x)
exact_object_defined name word l type None = exact_choose (is_extern word) (exact_pure tt) (exact_tentatively name.line l)
exact_object_defined name word l type (Some x) = exact_defined_with name l type x

exact_declared_at_file : (name : Named) (word : Storage) (type : Qualified) (x : Option Initial)
    → Exact (declared_at_file name word type x) (IsDeclaredAtFile name word type x)
exact_declared_at_file name word type x =
    exact_bind (exact_links name word type) (λ l.
    exact_bind (exact_makes _) (λ u.
    exact_choose (is_function type.type) (exact_no_initial name.line x) (exact_object_defined name word l type x)))

exact_declared_as : (name : Named) (word : Storage) (type : Qualified) (x : Option Initial) (m : Option Meaning)
    → Exact (declared_as name word type x m) (IsDeclaredAs name word type x m)
exact_declared_as name word type x None = exact_declared_at_file name word type x
exact_declared_as name word type x (Some (known.local n)) = exact_refuse (Twice name.line)
exact_declared_as name word type x (Some (known.linked n t)) = exact_refuse (Twice name.line)
exact_declared_as name word type x (Some (known.predeclared p)) =
    exact_bind (exact_needs _ _ (Twice name.line) (itself (same_type type.type (type_of_predeclared p)))) (λ u. exact_no_initial name.line x)
exact_declared_as name word type x (Some (known.constant n)) = exact_refuse (Twice name.line)

exact_item_at_file : (word : Storage) (base : Qualified) (specifiers : ℕ) (x : Item) → Exact (item_at_file word base specifiers x) (IsItemAtFile word base x)
exact_item_at_file word base specifiers x =
    exact_bind (exact_derivations (lines_of x.declarator specifiers) x.declarator) (λ ds.
    exact_bind (exact_from_result _ _ (derived_allows (lines_of x.declarator specifiers) false base ds)) (λ type.
    exact_bind (exact_needs _ _ (Mismatch (or_no_name (name_of x.declarator)).line 14) (opposite_of (is_void type.type))) (λ u.
    exact_declared_as (or_no_name (name_of x.declarator)) word type x.initial (found_in (or_no_name (name_of x.declarator)).bytes predeclared_scope))))

exact_items_at_file : (word : Storage) (base : Qualified) (specifiers : ℕ) (xs : List Item)
    → Exact (items_at_file word base specifiers xs) (AreItemsAtFile word base xs)
exact_items_at_file word base specifiers [] = exact_pure tt
exact_items_at_file word base specifiers (x ∷ rest) =
    exact_bind (exact_item_at_file word base specifiers x) (λ u. exact_items_at_file word base specifiers rest)

-- ---- functions

exact_function_begun : (name : Named) (word : Storage) (type : Qualified) → Exact (function_begun name word type) (IsFunctionBegun name word type)
exact_function_begun name word type =
    exact_bind (exact_needs _ _ (Twice name.line) (is_there (found_in name.bytes predeclared_scope))) (λ u.
    exact_bind (exact_links name word type) (λ l.
    exact_bind (exact_makes _) (λ u'.
    exact_bind (exact_defines fully name.line l.entity) (λ first.
    exact_bind (exact_tests _ _ (TooLarge name.line Functions) (λ k. at_most (suc k.functions) most_functions)) (λ v.
    exact_bind (exact_counted_type name.line type.type) (λ v'. exact_pure _))))))

exact_function_defined : (d : Definition) → Exact (function_defined d) (IsFunctionDefined d)
exact_function_defined d =
    exact_bind (exact_specified true d.specifiers) (λ base.
    exact_bind (exact_derivations (lines_of d.declarator d.specifiers.line) d.declarator) (λ ds.
    exact_bind (exact_from_result _ _ (derived_allows (lines_of d.declarator d.specifiers.line) false base.type ds)) (λ type.
    exact_bind (exact_given (own_parameters ds) (Mismatch (or_no_name (name_of d.declarator)).line 22)) (λ ps.
    exact_bind (exact_function_begun (or_no_name (name_of d.declarator)) base.storage type) (λ n.
    exact_bind (exact_makes _) (λ u.
    exact_bind (exact_items (result_of type.type) false d.body) (λ body.
    exact_bind (exact_asks _) (λ locals.
    exact_bind (exact_makes _) (λ u'. exact_pure _)))))))))

-- ---- files and programs

exact_externals : (unit : SourceUnit) → Exact (externals_of unit) (AreExternals unit)
exact_externals [] = exact_pure []
exact_externals (function d ∷ rest) =
    exact_bind (exact_function_defined d) (λ first. exact_bind (exact_externals rest) (λ others. exact_pure _))
exact_externals (declaration_of d ∷ rest) =
    exact_bind (exact_specified true d.specifiers) (λ base.
    exact_bind (exact_items_at_file base.storage base.type d.specifiers.line d.items) (λ u. exact_externals rest))

exact_file : (unit : SourceUnit) → Exact (file_of unit) (IsFile unit)
exact_file unit = exact_bind (exact_externals unit) (λ functions. exact_asks _)

exact_binary : (binary : Option SourceUnit) → Exact (binary_of binary) (IsBinary binary)
exact_binary None = exact_pure no_file
exact_binary (Some unit) = exact_bind (exact_makes _) (λ u. exact_file unit)

resolves_ok : (o : Option ℕ) (u : Unit {0}) (k l : Known) → (resolves o k ≡ Ok (u, l)) ↔ ((o ≡ None) × (l ≡ k))
resolves_ok None u k l = ((λ e. (refl, ap (λ q. q.1) (sym (ok_same (tt, k) (u, l) e)))), (λ q. λ i. Ok (tt, sym q.1 i)))
resolves_ok (Some line) u k l = ((λ e. absurd (err_no_ok (Unresolved line) (u, l) e)), (λ q. absurd cc))

-- no use is unresolved
exact_resolves : Exact (asks (λ k. unresolved k.entities k.uses) >>= resolves) (Holds (λ k. unresolved k.entities k.uses ≡ None))
exact_resolves = record {
  found = λ u k l e. (resolves_ok (unresolved k.entities k.uses) u k l).0 e;
  whole = λ u k l q. (resolves_ok (unresolved k.entities k.uses) u k l).1 q;
}

exact_program : (main : SourceUnit) (binary : Option SourceUnit) → Exact (program_of main binary) (IsProgram main binary)
exact_program main binary =
    exact_bind (exact_file main) (λ first.
    exact_bind (exact_binary binary) (λ second.
    exact_bind (exact_asks _) (λ begin.
    exact_bind (exact_given begin NoMain) (λ n.
    exact_bind exact_resolves (λ u.
    exact_bind (exact_asks _) (λ all. exact_pure _))))))

alone_ok : (r : Result (t.Program × Known) TypeRefusal) (program : t.Program) → (program_alone r ≡ Ok program) ↔ ((after : Known) × (r ≡ Ok (program, after)))
alone_ok (Ok p) program = ((λ e. (p.1, λ i. Ok (allowed_same p.0 program e i, p.1))), (λ q. ap (λ x. Ok (x.0)) (ok_same p (program, q.0) q.1)))
alone_ok (Err refusal) program = ((λ e. absurd cc), (λ q. absurd (err_no_ok refusal (program, q.0) q.1)))

pub typing_is_exact_of : (main : SourceUnit) (binary : Option SourceUnit) (program : t.Program) → (checked main binary ≡ Ok program) ↔ Types main binary program
unfolding checked Types
typing_is_exact_of main binary program =
    let h = exact_program main binary in
    let a = alone_ok (program_of main binary nothing_known) program in
    ((λ e. ((a.0 e).0, h.found program nothing_known (a.0 e).0 (a.0 e).1)), (λ q. a.1 (q.0, h.whole program nothing_known q.0 q.1)))

pub one_typing_of : (main : SourceUnit) (binary : Option SourceUnit) (p q : t.Program) → Types main binary p → Types main binary q → p ≡ q
one_typing_of main binary p q h k =
    allowed_same p q (sym ((typing_is_exact_of main binary p).1 h) ∙ (typing_is_exact_of main binary q).1 k)

pub refused_has_no_typing : (main : SourceUnit) (binary : Option SourceUnit) (refusal : TypeRefusal) (p : t.Program) → checked main binary ≡ Err
    refusal → Types main binary p → ⊥
refused_has_no_typing main binary refusal p e h =
    refused_no_ok refusal p (sym e ∙ (typing_is_exact_of main binary p).1 h)
