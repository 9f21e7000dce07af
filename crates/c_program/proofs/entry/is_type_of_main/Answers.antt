use Rattle.std.proofs.Common.{◌&&◌, sym, ap, ◌∙◌}
use Rattle.srmt_base.specs.declared.ty.Ty.TheVariants.{Int}
use Rattle.c_types.specs.Types.{same_type, returning, plain, integer}
use Rattle.c_types.specs.Table.{type_at, types_of, shape_type}
use Rattle.c_program.proofs.Mains.{no-returning}
use Rattle.c_program.proofs.entry.is_type_of_main.Goals as goal

pub returns-then-same_qualifiers : goal.returns-then-same_qualifiers
unfolding same_type
returns-then-same_qualifiers c =
    c.is_one.ensures
    ∙ sym (ap (λ t. t && same_type (type_at c.args.types.now c.in-Returning.value.target) (integer Int)) (sym c.same_qualifiers.ensures ∙ c.if-same_qualifiers.true))
    ∙ sym (ap (λ t. same_type t (returning plain (integer Int))) (c.shape.ensures.made ∙ ap (shape_type (types_of c.args.types.now)) c.in-Returning.is))

pub returns-else-same_qualifiers : goal.returns-else-same_qualifiers
unfolding same_type
returns-else-same_qualifiers c =
    c.if-same_qualifiers.false
    ∙ sym (ap (λ t. t && same_type (type_at c.args.types.now c.in-Returning.value.target) (integer Int)) (sym c.same_qualifiers.ensures ∙ c.if-same_qualifiers.false))
    ∙ sym (ap (λ t. same_type t (returning plain (integer Int))) (c.shape.ensures.made ∙ ap (shape_type (types_of c.args.types.now)) c.in-Returning.is))

pub returns-in_default : goal.returns-in_default
returns-in_default c =
    no-returning (types_of c.args.types.now) c.shape.result c.in_default.not-Returning
    ∙ sym (ap (λ t. same_type t (returning plain (integer Int))) c.shape.ensures.made)
