use Rattle.room_laws.proofs.FilesCounted.{objects_have_room}
use Rattle.room_laws.proofs.laws.typed_programs_have_room.Goals as goal

pub returns : goal.returns
returns c = λ main binary program h part. objects_have_room main binary program h part
