use Rattle.std.proofs.Common.{◌∷◌, [], ◌++◌, ◌≤◌, length, refl, ap, sym, ◌∙◌, arith}
use Rattle.srmt_base.specs.Word.{word_of}
use Rattle.srmt_base.specs.declared.word.Kind.TheVariants.{Ack}
use Rattle.mid_code.specs.Versions.{operands_list}
use Rattle.machine.specs.Side.{SideState, Went, Ended}
use Rattle.machine.proofs.Comparing.{heard_to}
use Rattle.machine.proofs.leading.hear.Goals as goal

pub returns-in-Some : goal.returns-in-Some
returns-in-Some c =
    let all : length (operands_list c.args.args.now) ≤ length c.as_slice-2.result.now = omega (arith, c.if-as_slice-len.false, c.len.ensures, ap length c.as_slice.ensures, ap length c.as_slice-2.ensures) in
    let heard = c.push.ensures ∙ ap (λ (s : SideState). s.heard ++ c.args.word ∷ []) c.m.view_is in
    heard_to (word_of Ack c.args.site.0) (operands_list c.args.args.now) (operands_list c.args.args.now) c.args.m.now _ c.args.word c.as_slice-2.result.now (Ended c.in-Some.end)
    (ap (λ (s : SideState). s.at) c.m.view_is) heard c.as_slice-2.ensures refl all c.in-Some.ensures.some

pub returns : goal.returns
returns c =
    let all : length (operands_list c.args.args.now) ≤ length c.as_slice-2.result.now = omega (arith, c.if-as_slice-len.false, c.len.ensures, ap length c.as_slice.ensures, ap length c.as_slice-2.ensures) in
    let heard = c.push.ensures ∙ ap (λ (s : SideState). s.heard ++ c.args.word ∷ []) c.m.view_is in
    heard_to (word_of Ack c.args.site.0) (operands_list c.args.args.now) (operands_list c.args.args.now) c.args.m.now _ c.args.word c.as_slice-2.result.now (Went c.pass.new.self)
    (ap (λ (s : SideState). s.at) c.m.view_is) heard c.as_slice-2.ensures refl all (c.in_default.ensures.none ∙ ap Went (sym c.pass.ensures))
