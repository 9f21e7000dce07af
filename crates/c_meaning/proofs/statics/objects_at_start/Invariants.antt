use Rattle.std.proofs.Common.{◌≡◌, [], ◌++◌, map, take, All}
use Rattle.c_typed.specs.StatementViews.{program_view}
use Rattle.frames.specs.Statics.{IsSound}
use Rattle.source_meaning.specs.Places.{file_of}
use Rattle.source_meaning.specs.Start.{object_of_static, object_of_text}
use Rattle.c_meaning.specs.Runs.{types_of}
use Rattle.c_meaning.proofs.StartingObjects.{typed_object}
use Rattle.c_meaning.proofs.statics.objects_at_start.Given as goal

abbrev pub invariant-loop-object : goal.invariant-loop-object
invariant-loop-object l = record {
  objects : l.objects.items ≡ [] ++ map (typed_object (types_of l.program) (program_view l.program) l.part) (take l.object-index l.object-items);
  sound : All IsSound l.objects.items;
}

abbrev pub invariant-loop-text : goal.invariant-loop-text
invariant-loop-text l = record {
  objects : l.objects.items ≡ map (object_of_static (program_view l.program) l.fn.part) (file_of l.fn.part (program_view l.program)).statics
      ++ map object_of_text (take l.text-index l.text-items);
  sound : All IsSound l.objects.items;
}
