use Rattle.std.proofs.Common.{◌≡◌, ◌-◌}
use Rattle.first_form.specs.Place.{place_of}
use Rattle.first_form.specs.Reading.{puts}
use Rattle.first_form.proofs.Puts.{joined}
use Rattle.first_form.proofs.reading.puts.Given as goal

abbrev pub invariant-loop : goal.invariant-loop
invariant-loop l = puts 20000 (place_of l.fn.at) ≡ joined l.puts (puts (20000 - l.counter) (place_of l.rest))
