use Rattle.std.proofs.Common.{ap}
use Rattle.c_values.proofs.Means.{conversion-means, conversion-constant}
use Rattle.c_values.proofs.convert.conversion.Goals as goal

pub returns : goal.returns
returns c rows t m from = record {
  value = conversion-means rows c.in_ok-value.value c.args.operand.typed.value t c.args.operand.first c.args.to
      (ap (λ z. z.line) c.in_ok-value.ensures) (ap (λ z. z.ty) c.in_ok-value.ensures) (ap (λ z. z.node) c.in_ok-value.ensures) m.first m.typed.value;
  constant = conversion-constant c.args.from c.args.to c.converted-constant.result c.args.operand.typed.constant t c.converted-constant.ensures from m.typed.constant;
}
