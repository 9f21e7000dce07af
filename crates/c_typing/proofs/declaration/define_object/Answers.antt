use Rattle.std.proofs.Common.{option_map, sym, subst}
use Rattle.typing_rules.specs.Source.{Named}
use Rattle.typing_rules.specs.SourceViews.{initial_view}
use Rattle.typing_rules.specs.OrderedUnits.{object_defined}
use Rattle.c_entities.specs.Views.{storage_view}
use Rattle.c_known.specs.Views.{line_in}
use Rattle.c_known.specs.Gives.{Gives, IsDone}
use Rattle.c_typing.proofs.declaration.define_object.Goals as goal

pub returns-in-None : goal.returns-in-None
returns-in-None c t l stands means =
    let at = c.args.at in
    let name : Named = record { line = at.line; bytes = c.args.name.now } in
    subst (λ o. Gives IsDone c.args.known.now c.define_without.new.known c.define_without.result (object_defined name (storage_view at.storage) l t (option_map (initial_view (line_in at.file)) o)))
    (sym c.in-None.is) (c.define_without.ensures t l c.args.name.now means)

pub returns-in-Some : goal.returns-in-Some
returns-in-Some c t l stands means =
    let at = c.args.at in
    let name : Named = record { line = at.line; bytes = c.args.name.now } in
    subst (λ o. Gives IsDone c.args.known.now c.define_with.new.known c.define_with.result (object_defined name (storage_view at.storage) l t (option_map (initial_view (line_in at.file)) o)))
    (sym c.in-Some.is) (c.define_with.ensures t l stands means)
