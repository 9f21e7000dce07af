use Rattle.std.proofs.Common.{ℕ, is_none, sym, ap}
use Rattle.c_types.specs.Table.{type_at}
use Rattle.typing_rules.specs.Source.{Named}
use Rattle.typing_rules.specs.Known.{found_in, predeclared_scope}
use Rattle.typing_rules.specs.declared.refusal.TypeRefusal.TheVariants.{Twice}
use Rattle.c_entities.specs.Views.{storage_view}
use Rattle.c_known.specs.Gives.{IsSame}
use Rattle.c_linkage.proofs.Steps.{passed, stopped}
use Rattle.c_typing.specs.Functions.{begun_linked}
use Rattle.c_typing.proofs.begin.begin_function.Goals as goal

pub returns-in-None : goal.returns-in-None
returns-in-None c t stands =
    let s = c.args.known.now in
    let at = c.args.at in
    let name : Named = record { line = at.line; bytes = c.args.name.now } in
    passed (IsSame {A = ℕ}) s _ c.begin_linked.result (λ k. is_none (found_in name.bytes predeclared_scope)) (Twice at.line) (begun_linked name (storage_view at.storage) t)
    (λ k h. sym (ap is_none (c.in-None.ensures (type_at s.types)))) (c.begin_linked.ensures t stands)

pub returns-in-Some : goal.returns-in-Some
returns-in-Some c t stands =
    let s = c.args.known.now in
    let at = c.args.at in
    let name : Named = record { line = at.line; bytes = c.args.name.now } in
    stopped (IsSame {A = ℕ}) s (λ k. is_none (found_in name.bytes predeclared_scope)) (Twice at.line) (begun_linked name (storage_view at.storage) t)
    (λ k h. sym (ap is_none (c.in-Some.ensures (type_at s.types))))
