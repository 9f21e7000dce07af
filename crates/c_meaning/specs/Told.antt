-- What a step came to.
use Rattle.std.specs.Prelude.{Option, Some, None, ⊤}
use Rattle.srmt_base.specs.declared.event.Event.{Event}
use Rattle.c_meaning.specs.declared.run.Did.{Did}
use Rattle.c_meaning.specs.declared.run.Did.TheVariants as did

abbrev pub did_of : Option Event → Did
did_of None = did.Went
did_of (Some event) = did.Told event

-- no turn was taken
abbrev pub IsFraming : Did → Type 0
IsFraming did.Went = ⊤
IsFraming did.Turned = ⊥
IsFraming (did.Told event) = ⊤
IsFraming (did.Trapped t) = ⊤
IsFraming (did.Exited v) = ⊤
