use Rattle.std.proofs.Common.{List, map, Some, None, subst}
use Rattle.c_tree.specs.declared.expression.Suffix as tree_suffix
use Rattle.typing_rules.specs.SourceViews.{suffix_view, all_parts, declarator_view}
use Rattle.c_known.specs.Views.{line_in}
use Rattle.c_declarators.specs.Trees.{IsFirst, behind}
use Rattle.c_declarators.proofs.Shapes.{parts-named, parts-nested, parts-unnamed}
use Rattle.c_declarators.proofs.FirstLines.{first-same, first-joined, first-behind}
use Rattle.c_declarators.proofs.mark.+first_mark.Goals as goal

pub returns-in-Some : goal.returns-in-Some
returns-in-Some t c =
    let shift = line_in c.args.file in
    let inside = subst (λ y. IsFirst c.args.mark (Some c.in-Some.line) (declarator_view shift y).parts) c.get.ensures c.in-Some.ensures in
    first-same c.args.mark (Some c.in-Some.line) (declarator_view shift c.args.d.now).parts (λ rest. (declarator_view shift c.in-Nested.inner).parts (behind shift c.args.d.now rest))
    (parts-nested shift c.args.d.now c.in-Nested.inner c.in-Nested.is) (λ rest other. inside (behind shift c.args.d.now rest) other)

pub returns-in-None : goal.returns-in-None
returns-in-None t c =
    let shift = line_in c.args.file in
    let inside = subst (λ y. IsFirst c.args.mark None (declarator_view shift y).parts) c.get.ensures c.in-None.ensures in
    let after = subst (λ (xs : List tree_suffix.Suffix). IsFirst c.args.mark c.first_among.result (all_parts (map (suffix_view shift) xs))) c.as_slice.ensures c.first_among.ensures in
    first-same c.args.mark c.first_among.result (declarator_view shift c.args.d.now).parts (λ rest. (declarator_view shift c.in-Nested.inner).parts (behind shift c.args.d.now rest))
    (parts-nested shift c.args.d.now c.in-Nested.inner c.in-Nested.is)
    (first-joined c.args.mark None c.first_among.result (declarator_view shift c.in-Nested.inner).parts (behind shift c.args.d.now) inside (first-behind c.args.mark shift c.args.d.now c.first_among.result after))

pub returns-in-Name : goal.returns-in-Name
returns-in-Name t c =
    let shift = line_in c.args.file in
    let r = c.first_among-in-Name.result in
    let after = subst (λ (xs : List tree_suffix.Suffix). IsFirst c.args.mark r (all_parts (map (suffix_view shift) xs))) c.as_slice-in-Name.ensures c.first_among-in-Name.ensures in
    first-same c.args.mark r (declarator_view shift c.args.d.now).parts (behind shift c.args.d.now)
    (parts-named shift c.args.d.now c.in-Name.field-0 c.in-Name.is) (first-behind c.args.mark shift c.args.d.now r after)

pub returns-in-Unnamed : goal.returns-in-Unnamed
returns-in-Unnamed t c =
    let shift = line_in c.args.file in
    let r = c.first_among-in-Unnamed.result in
    let after = subst (λ (xs : List tree_suffix.Suffix). IsFirst c.args.mark r (all_parts (map (suffix_view shift) xs))) c.as_slice-in-Unnamed.ensures c.first_among-in-Unnamed.ensures in
    first-same c.args.mark r (declarator_view shift c.args.d.now).parts (behind shift c.args.d.now)
    (parts-unnamed shift c.args.d.now c.in-Unnamed.is) (first-behind c.args.mark shift c.args.d.now r after)
