-- What a source of the first form does.
use Rattle.std.specs.Prelude.{◌%◌, List, [], ◌∷◌, ◌++◌, map}
use Rattle.srmt_base.specs.declared.event.Event.{Event}
use Rattle.srmt_base.specs.declared.event.Event.TheVariants.{Byte, Exit as ExitEvent}
use Rattle.srmt_base.specs.declared.trap.SourceEnd.{SourceEnd}
use Rattle.srmt_base.specs.declared.trap.SourceEnd.TheVariants.{Exit as ExitEnd}
use Rattle.first_form.specs.declared.source.FirstForm.{FirstForm}

-- how it ends: with the value that main returns, modulo 256 (C11 5.1.2.2.3)
abbrev pub end_of : FirstForm → SourceEnd
end_of form = ExitEnd (form.status.value % 256)

-- its events: each constant as an unsigned char (C11 7.21.7.8), and then the end
abbrev pub events_of : FirstForm → List Event
events_of form = map (λ p. Byte (p.constant.value % 256)) form.puts ++ ExitEvent (form.status.value % 256) ∷ []
