use Rattle.machine.specs.Upset.{no_upsets}
use Rattle.pair_core.proofs.Sounds.{sound_scheduled, no_trail_fault, first_words, first_events}
use Rattle.std.proofs.Common.{refl}
use Rattle.pair_core.proofs.Alternating.{countable}
use Rattle.pair_core.specs.Duo.{scheduled}
use Rattle.pair_core.proofs.Faults.{no_fault_scheduled}
use Rattle.pair_core.proofs.laws.over_every_schedule.Goals as goal

pub returns-clause-sound : goal.returns-clause-sound
returns-clause-sound c = λ setting entries sites. sound_scheduled setting sites entries

pub returns-clause-all_words : goal.returns-clause-all_words
returns-clause-all_words c = λ setting words whole events end sites first all. first_words setting sites words whole events end first all

pub returns-clause-all_events : goal.returns-clause-all_events
returns-clause-all_events c = λ setting events whole words end sites first all. first_events setting sites events whole words end first all

pub returns-clause-no_fault : goal.returns-clause-no_fault
returns-clause-no_fault c = λ setting entries none. no_fault_scheduled setting entries none

pub returns-clause-bounded : goal.returns-clause-bounded
returns-clause-bounded c = λ setting entries sites. countable setting (scheduled setting no_upsets entries).duo (scheduled setting no_upsets entries).events sites (entries, refl)

pub returns-clause-trail_no_fault : goal.returns-clause-trail_no_fault
returns-clause-trail_no_fault c = λ setting entries sites. no_trail_fault setting sites entries
