use Rattle.std.proofs.Common.{◌∷◌, ◌∙◌, ap, arith}
use Rattle.std.proofs.lemmas.List.{nil_from_length}
use Rattle.lower.specs.Drafts.{Held, code_of}
use Rattle.lower.proofs.OpenLoops.{ended-lines, last-lines, held-ended}
use Rattle.lower.proofs.code.Code.end_loop.Goals as goal

pub invariant_of-self : goal.invariant_of-self
invariant_of-self c =
    let old = c.self.inside in
    held-ended old.drafts.items old.is_long old.loops.items c.in-Some.number old.current old.outer.items c.pop.new.self.items
    (record { break_at = c.args.break_at; continue_at = c.args.continue_at }) c.in-Some.ensures.items c.self.invariant

pub returns-in-Some : goal.returns-in-Some
unfolding code_of
returns-in-Some c = λ leads.
    let old = c.self.inside in
    ended-lines old.drafts.items old.is_long old.loops.items c.in-Some.number old.current old.outer.items c.pop.new.self.items
    (record { break_at = c.args.break_at; continue_at = c.args.continue_at }) leads
    c.in-Some.ensures.items c.self.invariant.opened.0 c.self.invariant.opened.2 c.self.invariant.below
    ∙ ap (λ (h : Held). code_of h (record { break_at = c.args.break_at; continue_at = c.args.continue_at } ∷ leads)) c.self.view_is

pub returns-in_ok-push-in-None : goal.returns-in_ok-push-in-None
unfolding code_of
returns-in_ok-push-in-None c = λ leads.
    let old = c.self.inside in
    let cases = c.in-None.ensures.cases in
    last-lines old.drafts.items old.is_long old.loops.items c.push.new.self.items c.len-number.result old.current old.outer.items c.pop.new.self.items
    (record { break_at = c.args.break_at; continue_at = c.args.continue_at }) leads
    c.in_ok-push-in-None.ensures.items (omega (arith, old.loops.ok.0))
    (nil_from_length old.outer.items (omega (arith, old.outer.ok.0, cases.0)))
    (nil_from_length c.pop.new.self.items (omega (arith, c.pop.new.self.ok.0, cases.1)))
    c.self.invariant.opened.0 c.self.invariant.below
    ∙ ap (λ (h : Held). code_of h (record { break_at = c.args.break_at; continue_at = c.args.continue_at } ∷ leads)) c.self.view_is
