use Rattle.typing_rules.specs.Source.{Named}
use Rattle.typing_rules.specs.SourceViews.{definition_view}
use Rattle.typing_rules.specs.UnitRules.{own_parameters}
use Rattle.typing_rules.specs.declared.refusal.TypeRefusal.TheVariants.{Mismatch}
use Rattle.c_entities.specs.Views.{storage_view}
use Rattle.c_known.specs.Views.{line_in}
use Rattle.c_typing.specs.Files.{IsFunction}
use Rattle.c_typing.specs.Functions.{defined_begun}
use Rattle.c_typing.proofs.Definitions.{own-some, own-none}
use Rattle.c_typing.proofs.function.define_typed.Goals as goal

pub returns-in-None : goal.returns-in-None
returns-in-None c t es stands are =
    let s = c.args.known.now in
    let at = c.args.at in
    let name : Named = record { line = at.line; bytes = c.args.name.now } in
    own-none IsFunction s (own_parameters es) (Mismatch at.line 22) (defined_begun name (storage_view at.storage) t (definition_view (line_in at.file) c.args.d.now))
    (c.in-None.ensures s.types es are)

pub returns-in-Some : goal.returns-in-Some
returns-in-Some c t es stands are =
    let s = c.args.known.now in
    let at = c.args.at in
    let name : Named = record { line = at.line; bytes = c.args.name.now } in
    own-some IsFunction s _ c.define_begun.result c.in-Some.ps (own_parameters es) (Mismatch at.line 22) (defined_begun name (storage_view at.storage) t (definition_view (line_in at.file) c.args.d.now))
    (c.in-Some.ensures s.types es are) (λ ls means. c.define_begun.ensures t ls stands means)
