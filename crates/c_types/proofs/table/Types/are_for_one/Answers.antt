use Rattle.std.proofs.Common.{◌≡◌, sym, ap, ◌∙◌}
use Rattle.c_types.specs.Types.{array, are_for_one}
use Rattle.c_types.specs.Table.{type_at}
use Rattle.c_types.proofs.OneObject.{unsized-for-one, sized-for-one}
use Rattle.c_types.proofs.table.Types.are_for_one.Goals as goal

pub returns-in-Array-default-None-default : goal.returns-in-Array-default-None-default
returns-in-Array-default-None-default c =
    let b = type_at c.args.self.now c.args.b in
    let e = c.in-Array-default-None-default.element in
    let made = c.in-Array-default-None-default.ensures.made ∙ ap (array e.qualifiers (type_at c.args.self.now e.target)) c.in-Array-default-None-default.field-1-is in
    c.is_array_of.ensures ∙ sym (ap (λ t. are_for_one t b) made ∙ unsized-for-one _ _ b)

pub returns-then-lacks_length : goal.returns-then-lacks_length
returns-then-lacks_length c =
    let b = type_at c.args.self.now c.args.b in
    let e = c.in-Array-default-Some-default.element in
    let made = c.in-Array-default-Some-default.ensures.made ∙ ap (array e.qualifiers (type_at c.args.self.now e.target)) c.in-Array-default-Some-default.field-1-is in
    c.is_array_of-then-lacks_length.ensures ∙ sym (ap (λ t. are_for_one t b) made ∙ sized-for-one _ _ b _ (sym c.lacks_length.ensures ∙ c.if-lacks_length.true))
