use Rattle.std.proofs.Common.{◌≡◌, true, ap, sym, ◌∙◌, subst}
use Rattle.srmt_base.specs.declared.ty.Ty.TheVariants.{UInt}
use Rattle.c_types.specs.Types.{integer, is_complete, bytes_of}
use Rattle.typing_rules.specs.Terms as terms
use Rattle.typing_rules.specs.Checking.{pure}
use Rattle.c_values.specs.Answers.{Answers, MeansTerm}
use Rattle.c_values.proofs.Means.{stands-now}
use Rattle.c_values.proofs.Answering.{tested-answers}
use Rattle.c_operators.proofs.cast.sized.Goals as goal

pub returns-then-is_complete : goal.returns-then-is_complete
returns-then-is_complete c t stands =
    let rows = c.args.types.now in
    let of = stands-now rows _ _ stands in
    let bytes : c.size.result.bytes ≡ bytes_of t = ap (λ s. s.bytes) c.size.ensures ∙ ap bytes_of of in
    tested-answers (MeansTerm rows) c.args.line 13 (is_complete t) (integer UInt) (λ type. pure (terms.result (terms.sizeof_value c.args.line type t))) c.number_term.result
    (sym (ap is_complete of) ∙ sym c.is_complete.ensures ∙ c.if-is_complete.true)
    (subst (λ n. Answers (MeansTerm rows) c.number_term.result (pure (terms.result (terms.number_value c.args.line UInt n)))) bytes (c.number_term.ensures rows))
