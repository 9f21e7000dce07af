use Rattle.std.proofs.Common.{sym, ap, ◌∙◌}
use Rattle.std.specs.Str.{bytes_eq}
use Rattle.std.specs.Map.{lookup}
use Rattle.indexmap.proofs.CallerLemmas.{insert_entry-new}
use Rattle.c_entities.specs.Views.{has_name}
use Rattle.c_entities.proofs.Firsts.{is-none}
use Rattle.c_entities.proofs.Names.{numbered-push}
use Rattle.c_entities.proofs.change.number_name.Goals as goal

pub returns : goal.returns
returns c =
    let same = c.in_ok-key.ensures.items_if_clones_equal (λ x y h. h) in
    let none = is-none _ (sym c.contains_key.ensures ∙ c.if-contains_key.false) in
    let new = c.in_ok-insert.ensures.entries ∙ insert_entry-new (λ x y. bytes_eq x.items y.items) c.args.externals.now c.in_ok-key.key c.args.number (ap (λ n. lookup (has_name n) c.args.externals.now.entries) same ∙ none) in
    numbered-push _ _ c.in_ok-key.key c.args.name.now c.args.number new same
