-- What the view of a declarator is, by what stands in its middle.
use Rattle.std.proofs.Common.{◌≡◌, ℕ, Some, None, ap, ◌∙◌}
use Rattle.c_tree.specs.declared.name.Name as tree_name
use Rattle.c_tree.specs.declared.expression.Direct.TheVariants as d
use Rattle.c_tree.specs.declared.expression.Declarator as tree_declarator
use Rattle.typing_rules.specs.Source.{Parts}
use Rattle.typing_rules.specs.SourceViews.{named_view, direct_view, declarator_view}
use Rattle.c_declarators.specs.Trees.{behind}
use Rattle.typing_rules.proofs.SourceViewLaws.{view_declarator, view_direct_name, view_direct_nested, view_direct_unnamed}

module _ (shift : ℕ → ℕ) (x : tree_declarator.Declarator) where
  pub line-of : (declarator_view shift x).line ≡ shift x.line
  line-of = ap (λ v. v.line) (view_declarator shift x)

  pub parts-of : (rest : Parts) → (declarator_view shift x).parts rest ≡ (direct_view shift x.direct).parts (behind shift x rest)
  parts-of rest = ap (λ v. v.parts rest) (view_declarator shift x)

  pub name-named : (n : tree_name.Name) → x.direct ≡ d.Name n → (declarator_view shift x).name ≡ Some (named_view shift n)
  name-named n is = ap (λ v. v.name) (view_declarator shift x) ∙ ap (λ y. (direct_view shift y).name) is ∙ ap (λ v. v.name) (view_direct_name shift n)

  pub name-nested : (y : tree_declarator.Declarator) → x.direct ≡ d.Nested y → (declarator_view shift x).name ≡ (declarator_view shift y).name
  name-nested y is = ap (λ v. v.name) (view_declarator shift x) ∙ ap (λ z. (direct_view shift z).name) is ∙ ap (λ v. v.name) (view_direct_nested shift y)

  pub name-unnamed : x.direct ≡ d.Unnamed → (declarator_view shift x).name ≡ None
  name-unnamed is = ap (λ v. v.name) (view_declarator shift x) ∙ ap (λ z. (direct_view shift z).name) is ∙ ap (λ v. v.name) (view_direct_unnamed shift)

  pub parts-named : (n : tree_name.Name) → x.direct ≡ d.Name n → (rest : Parts) → (declarator_view shift x).parts rest ≡ behind shift x rest
  parts-named n is rest = parts-of rest ∙ ap (λ z. (direct_view shift z).parts (behind shift x rest)) is ∙ ap (λ v. v.parts (behind shift x rest)) (view_direct_name shift n)

  pub parts-nested : (y : tree_declarator.Declarator) → x.direct ≡ d.Nested y → (rest : Parts) → (declarator_view shift x).parts rest ≡ (declarator_view shift y).parts (behind shift x rest)
  parts-nested y is rest = parts-of rest ∙ ap (λ z. (direct_view shift z).parts (behind shift x rest)) is ∙ ap (λ v. v.parts (behind shift x rest)) (view_direct_nested shift y)

  pub parts-unnamed : x.direct ≡ d.Unnamed → (rest : Parts) → (declarator_view shift x).parts rest ≡ behind shift x rest
  parts-unnamed is rest = parts-of rest ∙ ap (λ z. (direct_view shift z).parts (behind shift x rest)) is ∙ ap (λ v. v.parts (behind shift x rest)) (view_direct_unnamed shift)
