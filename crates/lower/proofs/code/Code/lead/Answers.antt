use Rattle.std.proofs.Common.{◌≡◌, subst, arith}
use Rattle.std.specs.Prelude.{option_map, slice_set, map}
use Rattle.lower.specs.declared.code.Target.TheVariants.{Known}
use Rattle.lower.specs.SoFar.{landed}
use Rattle.lower.specs.Drafts.{Held, code_of, leads_in, line_of, lines_if}
use Rattle.lower.specs.contracts.code.Code.{the_view}
use Rattle.lower.proofs.Targets.{led-at, led-none}
use Rattle.lower.proofs.code.Code.lead.Goals as goal

pub returns-then-at-len : goal.returns-then-at-len
unfolding code_of
returns-then-at-len c = λ leads.
    let old = c.self.inside in
    subst (λ (h : Held). code_of h leads ≡ option_map (landed c.args.at c.args.place) (code_of h leads)) c.self.view_is
    (led-none (leads_in (the_view old) leads) c.args.place c.args.at old.drafts.items old.is_long (omega (arith, old.drafts.ok.0)))

pub returns : goal.returns
unfolding code_of
returns c = λ leads.
    let old = c.self.inside in
    let f = leads_in (the_view old) leads in
    let d = c.index-draft.result.now in
    let drafts = slice_set old.drafts.items c.args.at (record { line = d.line; mid = c.led.result; target = Known }) in
    subst (λ (h : Held). lines_if old.is_long (map (line_of f) drafts) ≡ option_map (landed c.args.at c.args.place) (code_of h leads)) c.self.view_is
    (led-at f c.args.place c.led.result c.args.at old.drafts.items d old.is_long (omega (arith, old.drafts.ok.0)) c.index-draft.ensures c.led.ensures)
