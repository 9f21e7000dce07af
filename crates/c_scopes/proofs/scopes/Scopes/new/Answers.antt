use Rattle.std.proofs.Common.{rules}
use Rattle.c_scopes.specs.Log.{scopes_from}
use Rattle.c_scopes.proofs.scopes.Scopes.new.Goals as goal

pub returns : goal.returns
unfolding scopes_from
returns g c = search rules
