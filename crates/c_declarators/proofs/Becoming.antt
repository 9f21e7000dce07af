-- What becomes known with a parameter.
use Rattle.std.proofs.Common.{◌≡◌, ℕ, List, Option, Some, None, Result, Ok, Err, refl, sym, ap}
use Rattle.std.specs.Prelude.{option_map}
use Rattle.c_tree.specs.declared.name.Name.{Name}
use Rattle.c_tree.specs.declared.expression.Parameter as tree_parameter
use Rattle.c_tree.specs.declared.expression.Parameter.{out-Parameter}
use Rattle.c_types.specs.declared.type_ref.QualifiedRef.{QualifiedRef}
use Rattle.c_types.specs.declared.type_ref.Row.{Row}
use Rattle.c_types.specs.Types.{Qualified}
use Rattle.c_types.specs.Table.{Extends, StandsFor}
use Rattle.typing_rules.specs.declared.refusal.TypeRefusal.{TypeRefusal}
use Rattle.typing_rules.specs.Known as known
use Rattle.typing_rules.specs.Checking.{from_result}
use Rattle.typing_rules.specs.SourceViews.{named_view}
use Rattle.typing_rules.specs.DeclaratorRules as rule
use Rattle.c_entities.specs.declared.entity.File.{File}
use Rattle.c_known.specs.declared.known.Known.{Known}
use Rattle.c_known.specs.Views.{Knows, line_in}
use Rattle.c_known.specs.Gives.{GivesAt, Gives}
use Rattle.c_known.proofs.Changes.{grown-known}
use Rattle.c_declarators.specs.Derivations.{Derives}
use Rattle.c_declarators.specs.Locals.{lines_in}
use Rattle.c_declarators.specs.Trees.{declarator_if, parameter_in}
use Rattle.c_declarators.proofs.Bare.{parameter-is}

derived-at : (s : Known) (rows : List Row) (k : known.Known) (x : Result QualifiedRef TypeRefusal) (r : Result Qualified TypeRefusal) → Extends s.types rows → Knows s k
    → Derives rows x r → GivesAt StandsFor s (record s { types = rows }) x (from_result r k)
derived-at s rows k (Ok x) (Ok t) more knows h = record { grown = more; means = h; knows = grown-known s rows k more knows }
derived-at s rows k (Ok x) (Err refusal) more knows h = h
derived-at s rows k (Err told) (Ok t) more knows h = h
derived-at s rows k (Err told) (Err refusal) more knows h = h

-- a type that is derived in the table of what is known
pub derived-gives : (s : Known) (rows : List Row) (x : Result QualifiedRef TypeRefusal) (r : Result Qualified TypeRefusal) → Extends s.types rows → Derives rows x r
    → Gives StandsFor s (record s { types = rows }) x (from_result r)
derived-gives s rows x r more h = record { at = λ k knows. derived-at s rows k x r more knows h }

-- ---- of a tree

pub lines-are : (file : File) (p : tree_parameter.Parameter)
    → rule.lines_of (declarator_if file (out-Parameter p).line (out-Parameter p).declarator) (line_in file (out-Parameter p).line) ≡ lines_in file p
lines-are file p = sym (ap (λ v. rule.lines_of v.declarator v.specifiers.line) (parameter-is (line_in file) p))

pub declarator-is : (file : File) (p : tree_parameter.Parameter) → declarator_if file (out-Parameter p).line (out-Parameter p).declarator ≡ (parameter_in file p).declarator
declarator-is file p = sym (ap (λ v. v.declarator) (parameter-is (line_in file) p))

pub line-is : (file : File) (p : tree_parameter.Parameter) → line_in file (out-Parameter p).line ≡ (parameter_in file p).specifiers.line
line-is file p = sym (ap (λ v. v.specifiers.line) (parameter-is (line_in file) p))

pub bytes-named : (shift : ℕ → ℕ) (n : Option Name) → option_map (λ m. m.bytes) n ≡ option_map (λ m. m.bytes) (option_map (named_view shift) n)
bytes-named shift None = refl
bytes-named shift (Some n) = refl
