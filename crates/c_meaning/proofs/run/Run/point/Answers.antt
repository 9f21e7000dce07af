use Rattle.c_typed.specs.declared.value.PlaceNode.TheVariants as pn
use Rattle.c_typed.proofs.ViewLaws.{view_pointed}
use Rattle.c_meaning.specs.Runs.{types_of}
use Rattle.c_meaning.proofs.TakingRows.{local-row}
use Rattle.c_meaning.proofs.TakingViews.{element_scale, element_taken, no_element}
use Rattle.c_meaning.proofs.run.Run.point.Goals as goal

pub finish_sum-requires : goal.finish_sum-requires
finish_sum-requires c =
    element_scale (types_of c.args.at.program.now) c.args.place.now c.in-Element.line c.in-Element.pointer_first c.in-Element.a c.in-Element.b
    c.get.result.now c.get-in-Element.result.now c.in-Element.is c.get.ensures c.get-in-Element.ensures c.requires.task

pub returns-in-Element : goal.returns-in-Element
returns-in-Element c =
    element_taken c.args.at c.args.self.now c.args.place.now c.in-Element.line c.in-Element.pointer_first c.in-Element.a c.in-Element.b
    c.get.result.now c.get-in-Element.result.now c.finish_sum.result c.finish_sum.new.self c.in-Element.is c.get.ensures c.get-in-Element.ensures
    c.requires c.finish_sum.ensures.steps c.finish_sum.ensures.frame c.finish_sum.ensures.framing

pub returns-in-Pointed : goal.returns-in-Pointed
returns-in-Pointed c =
    no_element c.args.at c.args.self.now c.args.place.now (pn.Pointed c.in-Pointed.field-0) _ c.in-Pointed.is
    (view_pointed (types_of c.args.at.program.now) c.in-Pointed.field-0) tt c.requires

pub returns-in-Local : goal.returns-in-Local
returns-in-Local c = local-row c.args.at c.args.self.now c.args.place.now c.requires c.in-Local.is

pub returns-in-Local-2 : goal.returns-in-Local-2
returns-in-Local-2 c = local-row c.args.at c.args.self.now c.args.place.now c.requires c.in-Local.is

pub returns-in-Local-3 : goal.returns-in-Local-3
returns-in-Local-3 c = local-row c.args.at c.args.self.now c.args.place.now c.requires c.in-Local.is
