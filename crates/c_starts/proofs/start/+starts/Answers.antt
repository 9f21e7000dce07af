use Rattle.std.proofs.Common.{◌≡◌, ◌∙◌, ap, true, false}
use Rattle.c_types.specs.Table.{type_at}
use Rattle.c_typed.specs.declared.value.ValueNode.TheVariants as vn
use Rattle.c_typed.specs.declared.value.PlaceNode.TheVariants as pn
use Rattle.c_starts.proofs.ConstantLaws as constant
use Rattle.c_starts.proofs.StartLaws as law
use Rattle.c_starts.proofs.Rows as rows
use Rattle.c_starts.proofs.start.+starts.Goals as goal

pub place_start-returns-in-Local : goal.place_start-returns-in-Local
place_start-returns-in-Local t c = law.local-law (type_at c.args.types.now) c.args.place.now c.in-Local.field-0 c.in-Local.is

pub place_start-returns-in-Static : goal.place_start-returns-in-Static
place_start-returns-in-Static t c = law.static-law (type_at c.args.types.now) c.args.place.now c.in-Static.entity c.in-Static.is

pub place_start-returns-in-Text : goal.place_start-returns-in-Text
place_start-returns-in-Text t c = law.text-law (type_at c.args.types.now) c.args.place.now c.in-Text.number c.in-Text.is

pub place_start-returns-in-Pointed : goal.place_start-returns-in-Pointed
place_start-returns-in-Pointed t c = law.pointed-law (type_at c.args.types.now) c.args.place.now c.in-Pointed.e c.start_of.result c.in-Pointed.is
    (law.part (type_at c.args.types.now) c.get.result.now c.in-Pointed.e c.start_of.result c.get.ensures c.start_of.ensures)

pub place_start-returns-in-Element-default-true-default-default : goal.place_start-returns-in-Element-default-true-default-default
place_start-returns-in-Element-default-true-default-default t c =
    let types = type_at c.args.types.now in
    let flag : c.in-Element-default-true-default-default.field-1 ≡ true = cc in
    law.element-first-law types c.args.place.now c.in-Element-default-true-default-default.a c.in-Element-default-true-default-default.b c.in-Element-default-true-default-default.field-0 c.start_of-in-Element-default-true-default-default.result c.constant_of.result c.ty.result _
    (c.in-Element-default-true-default-default.is ∙ ap (λ f. pn.Element c.in-Element-default-true-default-default.field-0 f c.in-Element-default-true-default-default.a c.in-Element-default-true-default-default.b) flag)
    (law.part types c.get-in-Element-default-true-default-default.result.now c.in-Element-default-true-default-default.a c.start_of-in-Element-default-true-default-default.result c.get-in-Element-default-true-default-default.ensures c.start_of-in-Element-default-true-default-default.ensures)
    (constant.part types c.get-in-Element-default-true-default-default-2.result.now c.in-Element-default-true-default-default.b c.constant_of.result c.get-in-Element-default-true-default-default-2.ensures c.constant_of.ensures.exact)
    (constant.part-type types c.get-in-Element-default-true-default-default-3.result.now c.in-Element-default-true-default-default.b c.ty.result c.get-in-Element-default-true-default-default-3.ensures c.ty.ensures)
    (law.moved-part types c.get-in-Element-default-true-default-default-4.result.now c.in-Element-default-true-default-default.a c.start_of-in-Element-default-true-default-default.result c.constant_of.result c.ty.result false _ c.get-in-Element-default-true-default-default-4.ensures c.moved_by.ensures)

pub place_start-returns-in-Element-default-false-default-default : goal.place_start-returns-in-Element-default-false-default-default
place_start-returns-in-Element-default-false-default-default t c =
    let types = type_at c.args.types.now in
    let flag : c.in-Element-default-false-default-default.field-1 ≡ false = cc in
    law.element-second-law types c.args.place.now c.in-Element-default-false-default-default.a c.in-Element-default-false-default-default.b c.in-Element-default-false-default-default.field-0 c.start_of-in-Element-default-false-default-default.result c.constant_of-in-Element-default-false-default-default.result c.ty-in-Element-default-false-default-default.result _
    (c.in-Element-default-false-default-default.is ∙ ap (λ f. pn.Element c.in-Element-default-false-default-default.field-0 f c.in-Element-default-false-default-default.a c.in-Element-default-false-default-default.b) flag)
    (law.part types c.get-in-Element-default-false-default-default.result.now c.in-Element-default-false-default-default.b c.start_of-in-Element-default-false-default-default.result c.get-in-Element-default-false-default-default.ensures c.start_of-in-Element-default-false-default-default.ensures)
    (constant.part types c.get-in-Element-default-false-default-default-2.result.now c.in-Element-default-false-default-default.a c.constant_of-in-Element-default-false-default-default.result c.get-in-Element-default-false-default-default-2.ensures c.constant_of-in-Element-default-false-default-default.ensures.exact)
    (constant.part-type types c.get-in-Element-default-false-default-default-3.result.now c.in-Element-default-false-default-default.a c.ty-in-Element-default-false-default-default.result c.get-in-Element-default-false-default-default-3.ensures c.ty-in-Element-default-false-default-default.ensures)
    (law.moved-part types c.get-in-Element-default-false-default-default-4.result.now c.in-Element-default-false-default-default.b c.start_of-in-Element-default-false-default-default.result c.constant_of-in-Element-default-false-default-default.result c.ty-in-Element-default-false-default-default.result false _ c.get-in-Element-default-false-default-default-4.ensures c.moved_by-in-Element-default-false-default-default.ensures)

pub start_of-returns-in-Null : goal.start_of-returns-in-Null
start_of-returns-in-Null t c = law.null-law (type_at c.args.types.now) c.args.value.now c.in-Null.is

pub start_of-returns-in-Function : goal.start_of-returns-in-Function
start_of-returns-in-Function t c = law.function-law (type_at c.args.types.now) c.args.value.now c.in-Function.entity c.in-Function.is

pub start_of-returns-in-Sum-default-default-true-default-default : goal.start_of-returns-in-Sum-default-default-true-default-default
start_of-returns-in-Sum-default-default-true-default-default t c =
    let types = type_at c.args.types.now in
    let flag : c.in-Sum-default-default-true-default-default.field-2 ≡ true = cc in
    law.sum-first-law types c.args.value.now c.in-Sum-default-default-true-default-default.a c.in-Sum-default-default-true-default-default.b c.in-Sum-default-default-true-default-default.field-0 c.in-Sum-default-default-true-default-default.is_less c.start_of.result c.constant_of.result c.ty.result _
    (c.in-Sum-default-default-true-default-default.is ∙ ap (λ f. vn.Sum c.in-Sum-default-default-true-default-default.field-0 c.in-Sum-default-default-true-default-default.is_less f c.in-Sum-default-default-true-default-default.a c.in-Sum-default-default-true-default-default.b) flag)
    (law.part types c.get.result.now c.in-Sum-default-default-true-default-default.a c.start_of.result c.get.ensures c.start_of.ensures)
    (constant.part types c.get-in-Sum-default-default-true-default-default.result.now c.in-Sum-default-default-true-default-default.b c.constant_of.result c.get-in-Sum-default-default-true-default-default.ensures c.constant_of.ensures.exact)
    (constant.part-type types c.get-in-Sum-default-default-true-default-default-2.result.now c.in-Sum-default-default-true-default-default.b c.ty.result c.get-in-Sum-default-default-true-default-default-2.ensures c.ty.ensures)
    (law.moved-part types c.get-in-Sum-default-default-true-default-default-3.result.now c.in-Sum-default-default-true-default-default.a c.start_of.result c.constant_of.result c.ty.result c.in-Sum-default-default-true-default-default.is_less _ c.get-in-Sum-default-default-true-default-default-3.ensures c.moved_by.ensures)

pub start_of-returns-in-Sum-default-default-false-default-default : goal.start_of-returns-in-Sum-default-default-false-default-default
start_of-returns-in-Sum-default-default-false-default-default t c =
    let types = type_at c.args.types.now in
    let flag : c.in-Sum-default-default-false-default-default.field-2 ≡ false = cc in
    law.sum-second-law types c.args.value.now c.in-Sum-default-default-false-default-default.a c.in-Sum-default-default-false-default-default.b c.in-Sum-default-default-false-default-default.field-0 c.in-Sum-default-default-false-default-default.is_less c.start_of-in-Sum-default-default-false-default-default.result c.constant_of-in-Sum-default-default-false-default-default.result c.ty-in-Sum-default-default-false-default-default.result _
    (c.in-Sum-default-default-false-default-default.is ∙ ap (λ f. vn.Sum c.in-Sum-default-default-false-default-default.field-0 c.in-Sum-default-default-false-default-default.is_less f c.in-Sum-default-default-false-default-default.a c.in-Sum-default-default-false-default-default.b) flag)
    (law.part types c.get-in-Sum-default-default-false-default-default.result.now c.in-Sum-default-default-false-default-default.b c.start_of-in-Sum-default-default-false-default-default.result c.get-in-Sum-default-default-false-default-default.ensures c.start_of-in-Sum-default-default-false-default-default.ensures)
    (constant.part types c.get-in-Sum-default-default-false-default-default-2.result.now c.in-Sum-default-default-false-default-default.a c.constant_of-in-Sum-default-default-false-default-default.result c.get-in-Sum-default-default-false-default-default-2.ensures c.constant_of-in-Sum-default-default-false-default-default.ensures.exact)
    (constant.part-type types c.get-in-Sum-default-default-false-default-default-3.result.now c.in-Sum-default-default-false-default-default.a c.ty-in-Sum-default-default-false-default-default.result c.get-in-Sum-default-default-false-default-default-3.ensures c.ty-in-Sum-default-default-false-default-default.ensures)
    (law.moved-part types c.get-in-Sum-default-default-false-default-default-4.result.now c.in-Sum-default-default-false-default-default.b c.start_of-in-Sum-default-default-false-default-default.result c.constant_of-in-Sum-default-default-false-default-default.result c.ty-in-Sum-default-default-false-default-default.result c.in-Sum-default-default-false-default-default.is_less _ c.get-in-Sum-default-default-false-default-default-4.ensures c.moved_by-in-Sum-default-default-false-default-default.ensures)

pub start_of-returns-in-ToBool : goal.start_of-returns-in-ToBool
start_of-returns-in-ToBool t c = law.to_bool-law (type_at c.args.types.now) c.args.value.now c.in-ToBool.e c.in-ToBool.field-0 c.start_of-in-ToBool.result _ c.in-ToBool.is
    (law.part (type_at c.args.types.now) c.get-in-ToBool.result.now c.in-ToBool.e c.start_of-in-ToBool.result c.get-in-ToBool.ensures c.start_of-in-ToBool.ensures) c.as_bool.ensures

pub start_of-returns-in-Requalified : goal.start_of-returns-in-Requalified
start_of-returns-in-Requalified t c = law.requalified-law (type_at c.args.types.now) c.args.value.now c.in-Requalified.e c.start_of-in-Requalified.result c.in-Requalified.is
    (law.part (type_at c.args.types.now) c.get-in-Requalified.result.now c.in-Requalified.e c.start_of-in-Requalified.result c.get-in-Requalified.ensures c.start_of-in-Requalified.ensures)

pub start_of-returns-in-Disjunction : goal.start_of-returns-in-Disjunction
start_of-returns-in-Disjunction t c = rows.disjunction-row (type_at c.args.types.now) c.args.value.now c.constant_of-in-Disjunction.result _ c.constant_of-in-Disjunction.ensures.exact c.number_if.ensures c.in-Disjunction.is

pub start_of-returns-in-Negation : goal.start_of-returns-in-Negation
start_of-returns-in-Negation t c = rows.negation-row (type_at c.args.types.now) c.args.value.now c.constant_of-in-Negation.result _ c.constant_of-in-Negation.ensures.exact c.number_if-in-Negation.ensures c.in-Negation.is

pub start_of-returns-in-Constant : goal.start_of-returns-in-Constant
start_of-returns-in-Constant t c = rows.constant-row (type_at c.args.types.now) c.args.value.now c.constant_of-in-Constant.result _ c.constant_of-in-Constant.ensures.exact c.number_if-in-Constant.ensures c.in-Constant.is

pub start_of-returns-in-FirstElement : goal.start_of-returns-in-FirstElement
start_of-returns-in-FirstElement t c = rows.address-start-row (type_at c.args.types.now) c.args.value.now c.in-FirstElement.place c.place_start.result
    (law.place-part (type_at c.args.types.now) c.get-in-FirstElement.result.now c.in-FirstElement.place c.place_start.result c.get-in-FirstElement.ensures c.place_start.ensures) c.in-FirstElement.is

pub start_of-returns-in-Getchar : goal.start_of-returns-in-Getchar
start_of-returns-in-Getchar t c = rows.no-getchar-row (type_at c.args.types.now) c.args.value.now c.in-Getchar.is

pub start_of-returns-in-Getchar-2 : goal.start_of-returns-in-Getchar-2
start_of-returns-in-Getchar-2 t c = rows.no-getchar-row (type_at c.args.types.now) c.args.value.now c.in-Getchar.is

pub start_of-returns-in-CallThrough : goal.start_of-returns-in-CallThrough
start_of-returns-in-CallThrough t c = rows.no-call-row (type_at c.args.types.now) c.args.value.now c.in-CallThrough.is

pub start_of-returns-in-CallThrough-2 : goal.start_of-returns-in-CallThrough-2
start_of-returns-in-CallThrough-2 t c = rows.no-call-row (type_at c.args.types.now) c.args.value.now c.in-CallThrough.is

pub start_of-returns-in-Move : goal.start_of-returns-in-Move
start_of-returns-in-Move t c = rows.no-move-row (type_at c.args.types.now) c.args.value.now c.in-Move.is

pub start_of-returns-in-Move-2 : goal.start_of-returns-in-Move-2
start_of-returns-in-Move-2 t c = rows.no-move-row (type_at c.args.types.now) c.args.value.now c.in-Move.is

pub start_of-returns-in-Move-3 : goal.start_of-returns-in-Move-3
start_of-returns-in-Move-3 t c = rows.no-move-row (type_at c.args.types.now) c.args.value.now c.in-Move.is

pub start_of-returns-in-Sequence : goal.start_of-returns-in-Sequence
start_of-returns-in-Sequence t c = rows.no-sequence-row (type_at c.args.types.now) c.args.value.now c.in-Sequence.is

pub start_of-returns-in-Sequence-2 : goal.start_of-returns-in-Sequence-2
start_of-returns-in-Sequence-2 t c = rows.no-sequence-row (type_at c.args.types.now) c.args.value.now c.in-Sequence.is

pub start_of-returns-in-Sequence-3 : goal.start_of-returns-in-Sequence-3
start_of-returns-in-Sequence-3 t c = rows.no-sequence-row (type_at c.args.types.now) c.args.value.now c.in-Sequence.is

pub start_of-returns-in-Read : goal.start_of-returns-in-Read
start_of-returns-in-Read t c = rows.no-read-row (type_at c.args.types.now) c.args.value.now c.in-Read.is

pub start_of-returns-in-Read-2 : goal.start_of-returns-in-Read-2
start_of-returns-in-Read-2 t c = rows.no-read-row (type_at c.args.types.now) c.args.value.now c.in-Read.is

pub start_of-returns-in-Read-3 : goal.start_of-returns-in-Read-3
start_of-returns-in-Read-3 t c = rows.no-read-row (type_at c.args.types.now) c.args.value.now c.in-Read.is
