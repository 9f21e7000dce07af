use Rattle.std.proofs.Common.{ap, sym, ◌∙◌, Some, None, option_map}
use Rattle.c_expr.proofs.Leaves.{text_is, text_of_is}
use Rattle.c_expr.proofs.leaf.text_of.Goals as goal

pub returns-in-None : goal.returns-in-None
returns-in-None c = c.new.ensures ∙ text_of_is c.args.src.now c.args.token None (ap (option_map (λ v. v.items)) (sym c.in-None.is) ∙ c.in_ok-text.ensures ∙ text_is c.args.src.now c.part-part.result.now c.args.token c.part-part.ensures.value)

pub returns-in-Some : goal.returns-in-Some
returns-in-Some c = c.from_vec.ensures ∙ text_of_is c.args.src.now c.args.token (Some c.in-Some.bytes.items) (ap (option_map (λ v. v.items)) (sym c.in-Some.is) ∙ c.in_ok-text.ensures ∙ text_is c.args.src.now c.part-part.result.now c.args.token c.part-part.ensures.value)
