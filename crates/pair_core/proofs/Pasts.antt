-- What a history of one side tells.
use Rattle.std.proofs.Common.{◌≡◌, sym, ◌∙◌}
use Rattle.machine.specs.Side.{SideState, Went}
use Rattle.pair_core.specs.History.{Past}

-- a side stands in one state
pub same_state : (past : Past) (s t : SideState) → past.at ≡ Went s → past.at ≡ Went t → s ≡ t
same_state past s t at_s at_t = let both : Went s ≡ Went t = sym at_s ∙ at_t in cc
