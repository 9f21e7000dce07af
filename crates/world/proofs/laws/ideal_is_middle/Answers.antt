use Rattle.world.proofs.Running.{ideal_sound, ideal_whole}
use Rattle.world.proofs.laws.ideal_is_middle.Goals as goal

pub returns-clause-sound : goal.returns-clause-sound
returns-clause-sound c = λ setting sites words events end whole. ideal_sound setting sites words events end whole

pub returns-clause-whole : goal.returns-clause-whole
returns-clause-whole c = λ setting sites events end means. ideal_whole setting sites events end means
