-- The files of a program have one typed program.
use Rattle.std.proofs.Common.{◌≡◌, ℕ, true, List, Option, Some, None, Ok, refl, sym, ap, subst, ◌∙◌}
use Rattle.std.specs.Prelude.{option_map}
use Rattle.c_lexer.specs.declared.token.Token.{Token}
use Rattle.c_lexer.proofs.Sources.{lexes_once}
use Rattle.c_parser.specs.Answers.{IsUnitWithin}
use Rattle.c_parser.proofs.UnitLaws.{one_unit_of}
use Rattle.c_tree.specs.declared.unit.Unit.{Unit as TreeUnit}
use Rattle.c_typed.specs.Statements.{Program}
use Rattle.typing_rules.specs.SourceViews.{unit_view, main_line, binary_line}
use Rattle.typing_rules.specs.OrderedUnits.{checked}
use Rattle.typing_rules.proofs.UnitsExact.{typing_is_exact_of}
use Rattle.c_front.specs.Front.{IsSource, IsBinary, typing_of, TypesFiles}

one_source : (src : List ℕ) (a b : TreeUnit) → IsSource src a → IsSource src b → a ≡ b
one_source src a b x y =
    let tokens = lexes_once true 0 1 src x.tokens y.tokens x.lexed y.lexed in
    one_unit_of src y.tokens a b (subst (λ (ts : List Token). IsUnitWithin ts src a) tokens x.parsed).0 y.parsed.0

one_other : (binary : Option (List ℕ)) (a b : Option TreeUnit) → IsBinary binary a → IsBinary binary b → a ≡ b
one_other None None None x y = refl
one_other None None (Some b) x y = absurd y
one_other None (Some a) b x y = absurd x
one_other (Some src) None b x y = absurd x
one_other (Some src) (Some a) None x y = absurd y
one_other (Some src) (Some a) (Some b) x y = ap Some (one_source src a b x y)

module _ (main : List ℕ) (binary : Option (List ℕ)) where
  typed_so : (program : Program) (x : TypesFiles main binary program) → typing_of x.trees ≡ Ok program
  typed_so program x = (typing_is_exact_of (unit_view main_line x.trees.unit) (option_map (unit_view binary_line) x.trees.other) program).1 x.typed

  pub one_program : (p q : Program) → TypesFiles main binary p → TypesFiles main binary q → p ≡ q
  one_program p q x y =
      let unit = one_source main x.trees.unit y.trees.unit x.trees.of_main y.trees.of_main in
      let other = one_other binary x.trees.other y.trees.other x.trees.of_binary y.trees.of_binary in
      let same : Ok p ≡ Ok q =
      sym (typed_so p x) ∙ ap (λ u. checked (unit_view main_line u) (option_map (unit_view binary_line) x.trees.other)) unit
      ∙ ap (λ o. checked (unit_view main_line y.trees.unit) (option_map (unit_view binary_line) o)) other ∙ typed_so q y in
      cc
