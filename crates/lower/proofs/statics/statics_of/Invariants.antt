use Rattle.std.proofs.Common.{◌≡◌, [], ◌++◌, map, take}
use Rattle.c_types.specs.Table.{type_at}
use Rattle.c_typed.specs.StatementViews.{program_view}
use Rattle.source_meaning.specs.Places.{file_of}
use Rattle.source_meaning.specs.Start.{object_of_static}
use Rattle.lower.specs.Programs.{shortened}
use Rattle.lower.proofs.StartingObjects.{short_object, short_text}
use Rattle.lower.proofs.statics.statics_of.Given as goal

abbrev pub invariant-loop-object : goal.invariant-loop-object
invariant-loop-object l =
    l.objects.items ≡ [] ++ map (short_object (type_at l.program.types) (program_view l.program) l.part) (take l.object-index l.object-items)

abbrev pub invariant-loop-text : goal.invariant-loop-text
invariant-loop-text l =
    l.objects.items ≡ map (λ s. shortened (object_of_static (program_view l.program) l.fn.part s)) (file_of l.fn.part (program_view l.program)).statics
    ++ map short_text (take l.text-index l.text-items)
