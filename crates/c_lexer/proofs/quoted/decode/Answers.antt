use Rattle.std.proofs.Common.{◌≡◌, ◌-◌, ◌<◌, ◌^◌, ◌++◌, length, take, drop, option_map, None, ◌∙◌, sym, arith, length-drop}
use Rattle.std.proofs.lemmas.List.{take_rest}
use Rattle.c_lexer.specs.Tokens.{decoded, first_byte}
use Rattle.c_lexer.proofs.Decoding.{decoded_past, decoded_end, decoded_fails}
use Rattle.c_lexer.proofs.quoted.decode.Goals as goal

pub loop-body-preserved : goal.loop-body-preserved
loop-body-preserved c =
    let body = c.loop-body.body.now in
    let len = c.in-Some.len in
    let kept = c.loop-body.bytes.items in
    let goes : option_map (λ others. c.push.new.self.items ++ others) (decoded (take (length body - len) (drop len body))) ≡ decoded c.args.body.now =
    rw (take_rest body len, c.in_ok-push.ensures.items) (decoded_past kept body (c.in-Some.b, len) (sym c.in-Some.ensures.value) ∙ c.loop-body.invariant.0) in
    let short : length (take (length body - len) (drop len body)) < 2 ^ 32 = rw (take_rest body len) (omega (arith, length-drop len body)) in
    (goes, short)

pub returns : goal.returns
returns c = sym (decoded_end c.loop-body.bytes.items c.loop-body.body.now (grind arith)) ∙ c.loop-body.invariant.0

pub returns-in_default : goal.returns-in_default
returns-in_default c =
    let none : first_byte c.loop-body.body.now ≡ None = cc in
    sym (decoded_fails c.loop-body.bytes.items c.loop-body.body.now (grind arith) none) ∙ c.loop-body.invariant.0
