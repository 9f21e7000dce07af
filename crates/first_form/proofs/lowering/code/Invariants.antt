use Rattle.std.proofs.Common.{◌≡◌, take}
use Rattle.std.specs.List.{flat_map}
use Rattle.first_form.specs.Lowered.{put_code}
use Rattle.first_form.proofs.lowering.code.Given as goal

abbrev pub invariant-loop-put : goal.invariant-loop-put
invariant-loop-put l = l.code.items ≡ flat_map put_code (take l.put-index l.put-items)
