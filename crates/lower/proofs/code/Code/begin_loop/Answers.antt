use Rattle.std.proofs.Common.{◌∷◌, ◌∙◌, ap, arith}
use Rattle.lower.specs.Drafts.{Held, code_of}
use Rattle.lower.proofs.OpenLoops.{begun-lines, held-begun, held-more}
use Rattle.lower.proofs.code.Code.begin_loop.Goals as goal

pub invariant_of-self-in_err-push-2 : goal.invariant_of-self-in_err-push-2
invariant_of-self-in_err-push-2 c =
    let old = c.self.inside in
    held-more old.drafts.items old.is_long old.loops.items c.push.new.self.items old.current old.outer.items c.push-2.new.self.items
    c.in_ok-push.ensures.items c.in_err-push-2.ensures.items c.self.invariant

pub invariant_of-self-2 : goal.invariant_of-self-2
invariant_of-self-2 c =
    let old = c.self.inside in
    held-begun old.drafts.items old.is_long old.loops.items c.push.new.self.items c.len-number.result old.current old.outer.items c.push-2.new.self.items
    c.in_ok-push.ensures.items (omega (arith, old.loops.ok.0)) c.in_ok-push-2.ensures.items c.self.invariant

pub returns : goal.returns
unfolding code_of
returns c = λ l leads.
    let old = c.self.inside in
    begun-lines old.drafts.items old.is_long old.loops.items c.push.new.self.items c.len-number.result old.current old.outer.items c.push-2.new.self.items
    (l ∷ leads) c.in_ok-push.ensures.items (omega (arith, old.loops.ok.0)) c.in_ok-push-2.ensures.items c.self.invariant.below
    ∙ ap (λ (h : Held). code_of h leads) c.self.view_is
