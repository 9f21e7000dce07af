use Rattle.std.specs.Prelude.{option_copied}
use Rattle.c_typed.specs.StatementViews.{program_view}
use Rattle.srmtrun.proofs.Meaning.{each_byte, types_bytes, room_fits}
use Rattle.srmtrun.proofs.reference.run_bytes.Goals as goal

pub run_program-requires-clause-can : goal.run_program-requires-clause-can
run_program-requires-clause-can g c =
    let main = each_byte c.args.main.now (λ k. (c.type_inv.main k).fits) in
    c.parsed_programs_can_run.ensures c.args.main.now (option_copied c.args.binary) (program_view c.in-Ok.program) main c.requires.bytes
    (types_bytes c.args.main.now (option_copied c.args.binary) (program_view c.in-Ok.program) c.in-Ok.ensures.ok)

pub run_program-requires-clause-limits : goal.run_program-requires-clause-limits
run_program-requires-clause-limits g c =
    room_fits (program_view c.in-Ok.program) c.args.limits c.requires.limits (c.typed_programs_have_room.ensures _ _ (program_view c.in-Ok.program) c.in-Ok.ensures.ok.typed)
