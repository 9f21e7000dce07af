use Rattle.std.proofs.Common.{◌≡◌, ◌∷◌, rules}
use Rattle.std.proofs.lemmas.Result.{on_ok_weaker}
use Rattle.c_meaning.proofs.TakingInitials.{scalar_addressed}
use Rattle.c_meaning.proofs.run.Run.address_first.Goals as goal

pub returns-in-Some-Scalar : goal.returns-in-Some-Scalar
returns-in-Some-Scalar c =
    on_ok_weaker c.push.result
    (λ (h : c.push.new.self ≡ c.address_of_local-address.result ∷ c.args.self.now.values).
    scalar_addressed c.args.at c.args.self.now c.args.local.now c.in-Some-Scalar.field-0-0 c.address_of_local-address.result c.push.new.self
    (search rules) c.address_of_local-address.ensures.value h)
    c.push.ensures
