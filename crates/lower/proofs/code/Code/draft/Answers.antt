use Rattle.std.proofs.Common.{◌≡◌, List, [], ◌∷◌, ◌++◌, None, ◌∙◌, ap, subst, arith}
use Rattle.std.specs.Prelude.{map}
use Rattle.lower.specs.declared.code.Draft.{Draft}
use Rattle.lower.specs.SoFar.{with_line}
use Rattle.lower.specs.Drafts.{Held, code_of, leads_in, line_of, lines_if}
use Rattle.lower.specs.contracts.code.Code.{the_view}
use Rattle.lower.proofs.Targets.{draft-more, draft-none}
use Rattle.lower.proofs.code.Code.draft.Goals as goal

pub returns-then-len-ge-MOST_INSTRUCTIONS : goal.returns-then-len-ge-MOST_INSTRUCTIONS
unfolding code_of
returns-then-len-ge-MOST_INSTRUCTIONS c = λ leads.
    let old = c.self.inside in
    subst (λ (h : Held). None ≡ with_line (line_of (leads_in h leads) c.args.draft) (code_of h leads)) c.self.view_is
    (draft-none (leads_in (the_view old) leads) c.args.draft old.drafts.items old.is_long (omega (arith, old.drafts.ok.0)))

pub returns : goal.returns
unfolding code_of
returns c = λ leads.
    let old = c.self.inside in
    let f = leads_in (the_view old) leads in
    let drafts = old.drafts.items ++ c.args.draft ∷ [] in
    ap (λ (ds : List Draft). lines_if old.is_long (map (line_of f) ds)) c.in_ok-push.ensures.items
    ∙ subst (λ (h : Held). lines_if old.is_long (map (line_of f) drafts) ≡ with_line (line_of (leads_in h leads) c.args.draft) (code_of h leads)) c.self.view_is
    (draft-more f c.args.draft old.drafts.items old.is_long c.self.invariant.full (omega (arith, old.drafts.ok.0)))
