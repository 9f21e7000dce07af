use Rattle.std.proofs.Common.{ℕ}
use Rattle.typing_rules.specs.Source.{Named}
use Rattle.typing_rules.specs.OrderedDeclarations.{links}
use Rattle.c_entities.specs.Views.{storage_view}
use Rattle.c_known.specs.Gives.{IsSame}
use Rattle.c_known.specs.Standing.{MeansLinked}
use Rattle.c_known.proofs.Binding.{bind}
use Rattle.c_typing.specs.Functions.{begun_named}
use Rattle.c_typing.proofs.Spine.{told-on, stands-later}
use Rattle.c_typing.proofs.begin.begin_linked.Goals as goal

pub returns-in_err-linked : goal.returns-in_err-linked
returns-in_err-linked c t stands =
    let at = c.args.at in
    let name : Named = record { line = at.line; bytes = c.args.name.now } in
    told-on MeansLinked (IsSame {A = ℕ}) c.args.known.now _ _ c.in_err-linked.field-0.0 (links name (storage_view at.storage) t)
    (begun_named name t) c.from_residual.result (c.in_err-linked.ensures t stands) c.from_residual.ensures.1

pub returns : goal.returns
returns c t stands =
    let at = c.args.at in
    let name : Named = record { line = at.line; bytes = c.args.name.now } in
    bind MeansLinked (IsSame {A = ℕ}) c.args.known.now _ _ c.in_ok-linked.linked c.begin_named.result (links name (storage_view at.storage) t)
    (begun_named name t) (c.in_ok-linked.ensures t stands)
    (λ l grown is. c.begin_named.ensures t l (stands-later _ _ grown at.ty t stands) is)
