-- A value that is converted as by assignment, and what is made of it.
use Rattle.std.proofs.Common.{◌≡◌, ℕ, Some}
use Rattle.c_types.specs.Types.{CType}
use Rattle.c_types.specs.Rules.{conversion_form}
use Rattle.typing_rules.specs.Terms.{Written, operand_of, converted_by}
use Rattle.typing_rules.specs.Checking.{◌>>=◌, pure, ruled_by}
use Rattle.c_values.specs.Answers.{value_for}
use Rattle.c_statements.proofs.PartLaws.{assoc}

pub some-value_for : (line : ℕ) (t : CType) (w : Written)
    → value_for line t w >>= (λ v. pure (Some v)) ≡ ruled_by line (conversion_form t (operand_of w.value)) >>= (λ form. pure (Some (converted_by form t w)))
some-value_for line t w = assoc (ruled_by line (conversion_form t (operand_of w.value))) (λ form. pure (converted_by form t w)) (λ v. pure (Some v))
