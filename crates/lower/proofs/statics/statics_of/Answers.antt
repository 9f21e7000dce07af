use Rattle.std.proofs.Common.{◌∙◌, ◌++◌, [], map, ap, sym}
use Rattle.std.proofs.lemmas.List.{append-nil, take_all}
use Rattle.c_types.specs.Table.{type_at}
use Rattle.c_typed.specs.StatementViews.{program_view}
use Rattle.source_meaning.specs.Places.{file_of}
use Rattle.source_meaning.specs.Start.{object_of_static}
use Rattle.lower.specs.Programs.{shortened}
use Rattle.lower.proofs.StartingObjects.{short_object, short_text, short_statics_of, both_shortened, texts_of, next_of}
use Rattle.lower.proofs.statics.statics_of.Goals as goal

pub loop-object-preserved : goal.loop-object-preserved
loop-object-preserved c =
    let p = program_view c.args.program.now in
    let types = type_at c.args.program.now.types in
    c.in_ok-push.ensures.items
    ∙ next_of (short_object types p c.args.part) [] c.as_slice-object-items.result.now c.loop-object.object-index c.object-item.result
    c.loop-object.objects.items c.in_ok-object_of_static.field-0 c.loop-object-test.true c.object-item.is c.loop-object.invariant
    c.in_ok-object_of_static.ensures.object

pub loop-text-init : goal.loop-text-init
loop-text-init c =
    let p = program_view c.args.program.now in
    let types = type_at c.args.program.now.types in
    let items = c.as_slice-object-items.result.now in
    c.loop-object.invariant
    ∙ ap (map (short_object types p c.args.part)) (take_all c.loop-object.object-index items c.loop-object-test.false ∙ c.as_slice-object-items.ensures)
    ∙ short_statics_of types p c.args.part c.file_of-file.result.now c.file_of-file.ensures
    ∙ sym (append-nil (map (λ s. shortened (object_of_static p c.args.part s)) (file_of c.args.part p).statics))

pub loop-text-preserved : goal.loop-text-preserved
loop-text-preserved c =
    let p = program_view c.args.program.now in
    c.in_ok-push-2.ensures.items
    ∙ next_of short_text (map (λ s. shortened (object_of_static p c.args.part s)) (file_of c.args.part p).statics) c.as_slice-text-items.result.now
    c.loop-text.text-index
    c.text-item.result c.loop-text.objects.items c.in_ok-object_of_text.field-0 c.loop-text-test.true c.text-item.is c.loop-text.invariant
    c.in_ok-object_of_text.ensures.object

pub returns-clause-objects : goal.returns-clause-objects
returns-clause-objects c =
    let p = program_view c.args.program.now in
    let texts = c.as_slice-text-items.result.now in
    c.from_vec.ensures ∙ c.loop-text.invariant
    ∙ ap (λ l. map (λ s. shortened (object_of_static p c.args.part s)) (file_of c.args.part p).statics ++ map short_text l)
    (take_all c.loop-text.text-index texts c.loop-text-test.false ∙ c.as_slice-text-items.ensures
    ∙ texts_of (type_at c.args.program.now.types) p c.args.part c.file_of-file.result.now c.file_of-file.ensures)
    ∙ both_shortened p c.args.part
