use Rattle.std.proofs.Common.{List, length, ◌∙◌}
use Rattle.c_types.specs.Table.{type_at}
use Rattle.c_types.proofs.Grown.{Extends-refl}
use Rattle.c_typed.specs.declared.program.Numbered.{Numbered}
use Rattle.c_typed.specs.Statements.{numbers_from}
use Rattle.c_known.specs.Gives.{IsSame}
use Rattle.c_known.proofs.Binding.{asks-gives}
use Rattle.c_program.proofs.numbering.numbers.Goals as goal

pub returns-in-Ok : goal.returns-in-Ok
returns-in-Ok c f g first second =
    let rows = c.args.known.now.types in
    asks-gives (IsSame {A = List Numbered}) c.args.known.now c.from_vec.result (λ k. numbers_from f g 0 (length k.entities)) (λ k h.
    c.from_vec.ensures ∙ c.in-Ok.ensures.made (type_at rows)
    ∙ (λ i. numbers_from (first.always rows (Extends-refl rows) i) (second.always rows (Extends-refl rows) i) 0 (c.count.ensures rows k h.entities i)))
