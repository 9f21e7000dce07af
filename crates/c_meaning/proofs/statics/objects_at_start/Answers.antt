use Rattle.std.proofs.Common.{◌≡◌, ◌∙◌, ◌<◌, ◌++◌, All, length, map, get_or, ap, sym, subst}
use Rattle.std.proofs.lemmas.List.{append-nil, take_all}
use Rattle.std.proofs.lemmas.List.Elements.{All-push}
use Rattle.c_types.specs.Table.{type_at}
use Rattle.c_typed.specs.StatementViews.{program_view}
use Rattle.frames.specs.Statics.{IsSound}
use Rattle.source_meaning.specs.Places.{file_of}
use Rattle.source_meaning.specs.Sound.{FileCanRun}
use Rattle.source_meaning.specs.Start.{object_of_static, object_of_text}
use Rattle.c_meaning.proofs.StartingObjects.{file_can, static_at, text_at, typed_object, statics_of, texts_of, next_of}
use Rattle.c_meaning.proofs.statics.objects_at_start.Goals as goal

pub object_of_static-requires-clause-cells : goal.object_of_static-requires-clause-cells
object_of_static-requires-clause-cells c =
    let p = program_view c.args.program.now in
    let i = c.loop-object.object-index in
    let f = c.file_of-file.result.now in
    (static_at (type_at c.args.program.now.types) p c.args.part f i c.object-item.result
    (subst (λ g. FileCanRun p c.args.part g) (sym c.file_of-file.ensures) (file_can c.args.part p c.requires))
    (subst (λ l. i < length l) c.as_slice-object-items.ensures c.loop-object-test.true)
    (subst (λ l. c.object-item.result ≡ get_or l i c.object-item.result) c.as_slice-object-items.ensures c.object-item.is)).0

pub object_of_static-requires-clause-small : goal.object_of_static-requires-clause-small
object_of_static-requires-clause-small c =
    let p = program_view c.args.program.now in
    let i = c.loop-object.object-index in
    let f = c.file_of-file.result.now in
    (static_at (type_at c.args.program.now.types) p c.args.part f i c.object-item.result
    (subst (λ g. FileCanRun p c.args.part g) (sym c.file_of-file.ensures) (file_can c.args.part p c.requires))
    (subst (λ l. i < length l) c.as_slice-object-items.ensures c.loop-object-test.true)
    (subst (λ l. c.object-item.result ≡ get_or l i c.object-item.result) c.as_slice-object-items.ensures c.object-item.is)).1

pub loop-text-init : goal.loop-text-init
loop-text-init c =
    let p = program_view c.args.program.now in
    let types = type_at c.args.program.now.types in
    let items = c.as_slice-object-items.result.now in
    record {
      objects =
          c.loop-object.invariant.objects
          ∙ ap (map (typed_object types p c.args.part)) (take_all c.loop-object.object-index items c.loop-object-test.false ∙ c.as_slice-object-items.ensures)
          ∙ statics_of types p c.args.part c.file_of-file.result.now c.file_of-file.ensures
          ∙ sym (append-nil (map (object_of_static p c.args.part) (file_of c.args.part p).statics));
      sound = c.loop-object.invariant.sound;
    }

pub object_of_text-requires : goal.object_of_text-requires
object_of_text-requires c =
    let p = program_view c.args.program.now in
    let i = c.loop-text.text-index in
    text_at (type_at c.args.program.now.types) p c.args.part c.file_of-file.result.now i c.text-item.result
    (subst (λ g. FileCanRun p c.args.part g) (sym c.file_of-file.ensures) (file_can c.args.part p c.requires))
    (subst (λ l. i < length l) c.as_slice-text-items.ensures c.loop-text-test.true)
    (subst (λ l. c.text-item.result ≡ get_or l i c.text-item.result) c.as_slice-text-items.ensures c.text-item.is)

pub loop-text-preserved : goal.loop-text-preserved
loop-text-preserved c =
    let p = program_view c.args.program.now in
    let old = c.loop-text.objects.items in
    let made = c.in_ok-object_of_text.field-0 in
    record {
      objects =
          c.in_ok-push-2.ensures.items
          ∙ next_of object_of_text (map (object_of_static p c.args.part) (file_of c.args.part p).statics) c.as_slice-text-items.result.now
          c.loop-text.text-index
          c.text-item.result old made c.loop-text-test.true c.text-item.is c.loop-text.invariant.objects c.in_ok-object_of_text.ensures.object;
      sound =
          subst (λ l. All IsSound l) (sym c.in_ok-push-2.ensures.items)
          (All-push IsSound old made c.loop-text.invariant.sound c.in_ok-object_of_text.ensures.sound);
    }

pub returns-clause-objects : goal.returns-clause-objects
returns-clause-objects c =
    let p = program_view c.args.program.now in
    let texts = c.as_slice-text-items.result.now in
    c.loop-text.invariant.objects
    ∙ ap (λ l. map (object_of_static p c.args.part) (file_of c.args.part p).statics ++ map object_of_text l)
    (take_all c.loop-text.text-index texts c.loop-text-test.false ∙ c.as_slice-text-items.ensures
    ∙ texts_of (type_at c.args.program.now.types) p c.args.part c.file_of-file.result.now c.file_of-file.ensures)
