use Rattle.std.proofs.Common.{ℕ, ◌<◌, List, [], ◌∷◌, ◌++◌, ◌≡◌, ap, ◌∙◌, arith, length, map, take, get_or}
use Rattle.srmt_base.specs.Word.{word_of}
use Rattle.mid_code.specs.Versions.{operands_list}
use Rattle.machine.specs.Steps.{holds}
use Rattle.machine.proofs.Sending.{sent_none, sent_both, words_more}
use Rattle.machine.proofs.steps.send_each.Goals as goal

pub loop-i-init : goal.loop-i-init
loop-i-init g c = sent_none (g.L.Link.shows c.args.link.now)

pub loop-i-preserved : goal.loop-i-preserved
loop-i-preserved g c =
    let f : ℕ → ℕ = word_of c.args.kind c.args.site.0 in
    let r : ℕ → ℕ = holds c.args.m.now in
    let args : List ℕ = operands_list c.args.args.now in
    let i : ℕ = c.loop-i.i in
    let within : i < length args = omega (arith, c.loop-i-test.true, c.len-i-end.ensures) in
    let word : c.pack.result ≡ f (r (get_or args i 0)) = c.pack.ensures ∙ ap f c.operand-value.ensures in
    sent_both _ _ _ (map f (map r (take i args))) (c.pack.result ∷ []) _ (ap (λ x. map f (map r (take i args)) ++ x ∷ []) word ∙ words_more f r args i within) c.loop-i.invariant c.send.ensures.sent
