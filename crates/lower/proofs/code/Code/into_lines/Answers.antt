use Rattle.std.proofs.Common.{◌≡◌, List, [], Some, take, ◌∙◌, sym, ap, subst, arith}
use Rattle.std.specs.Prelude.{map}
use Rattle.std.proofs.lemmas.List.{take_all}
use Rattle.lower.specs.declared.code.Draft.{Draft}
use Rattle.lower.specs.Instructions.{line_view}
use Rattle.lower.specs.Drafts.{Held, code_of, known_leads, line_of}
use Rattle.lower.proofs.Targets.{long-none}
use Rattle.lower.proofs.OpenLoops.{known-lines}
use Rattle.lower.proofs.code.Code.into_lines.Goals as goal

pub returns-then-self : goal.returns-then-self
unfolding code_of
returns-then-self c = ap (λ (h : Held). code_of h []) (sym c.self.view_is) ∙ long-none _ c.self.inside.is_long c.if-self.true

pub returns : goal.returns
unfolding code_of
returns c =
    let old = c.self.inside in
    let ls = map line_view c.loop-draft.lines.items in
    let items = c.deref-draft-items.result.now in
    let index = c.loop-draft.draft-index in
    let all : take index items ≡ old.drafts.items = take_all index items (omega arith) ∙ c.deref-draft-items.ensures.value in
    subst (λ (h : Held). code_of h [] ≡ Some ls) c.self.view_is
    (known-lines old.drafts.items old.is_long old.loops.items old.current old.outer.items ls c.if-self.false
    (subst (λ (h : Held). ls ≡ map (line_of (known_leads h.loops)) (take index items)) (sym c.self.view_is) c.loop-draft.invariant
    ∙ ap (λ (ds : List Draft). map (line_of (known_leads old.loops.items)) ds) all) c.self.invariant)
