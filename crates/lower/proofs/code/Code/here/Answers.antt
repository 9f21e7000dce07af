use Rattle.std.proofs.Common.{arith, subst}
use Rattle.lower.specs.SoFar.{IsHere}
use Rattle.lower.specs.Drafts.{Held, code_of, leads_in}
use Rattle.lower.specs.contracts.code.Code.{the_view}
use Rattle.lower.proofs.Targets.{here-long, here-short}
use Rattle.lower.proofs.code.Code.here.Goals as goal

pub returns-then-self : goal.returns-then-self
unfolding code_of
returns-then-self c = λ leads. subst (λ (h : Held). IsHere 65536 (code_of h leads)) c.self.view_is (here-long _ c.self.inside.is_long c.if-self.true)

pub returns-else-self : goal.returns-else-self
unfolding code_of
returns-else-self c = λ leads.
    let old = c.self.inside in
    subst (λ (h : Held). IsHere c.len.result (code_of h leads)) c.self.view_is
    (here-short (leads_in (the_view old) leads) c.len.result old.drafts.items old.is_long c.if-self.false (omega (arith, old.drafts.ok.0)) c.self.invariant.few)
