use Rattle.std.proofs.Common.{List, ◌++◌, map, option_map, sym, ap, ◌∙◌}
use Rattle.c_types.specs.Table.{type_at}
use Rattle.c_typed.specs.declared.program.Static as code_static
use Rattle.c_typed.specs.StatementViews.{static_view}
use Rattle.typing_rules.specs.UnitRules.{statics_of}
use Rattle.c_entities.specs.Views.{first_view}
use Rattle.c_program.proofs.StaticLists.{from-next, from-all}
use Rattle.c_program.proofs.static_objects.statics.Goals as goal

pub loop-index-init : goal.loop-index-init
loop-index-init c k h later more =
    ap (λ (xs : List code_static.Static). map (static_view (type_at later)) xs ++ statics_of k.file k.entities k.declared) c.new-found.ensures

pub loop-index-preserved : goal.loop-index-preserved
loop-index-preserved c =
    from-next c.args.known.now c.loop-index.found _ c.loop-index.index (record { entity = c.in-Some.number; line = c.in-Some.line })
    (λ k h. c.in-Some.ensures c.args.known.now.types k h.entities) (λ k h. c.in_ok-add_declared.ensures.added k h) c.loop-index.invariant

pub returns-in_default : goal.returns-in_default
returns-in_default c =
    from-all c.args.known.now c.loop-index.found c.loop-index.index
    (λ k h. sym (ap (option_map first_view) c.in_default.is) ∙ c.first.ensures c.args.known.now.types k h.entities) c.loop-index.invariant
