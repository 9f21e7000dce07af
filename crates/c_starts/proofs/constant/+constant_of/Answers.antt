use Rattle.std.proofs.Common.{◌≡◌, subst}
use Rattle.c_typed.specs.Constants.{chosen}
use Rattle.c_typed.specs.declared.constant.Constant.TheVariants.{Value as Known}
use Rattle.c_types.specs.Table.{type_at}
use Rattle.c_starts.proofs.ConstantLaws as law
use Rattle.c_starts.proofs.Rows as rows
use Rattle.c_starts.proofs.constant.+constant_of.Goals as goal

pub returns-in-Constant-clause-exact : goal.returns-in-Constant-clause-exact
returns-in-Constant-clause-exact t c = law.constant-law (type_at c.args.types.now) c.args.value.now c.in-Constant.n _ c.in-Constant.is c.integer_only.ensures.exact

pub returns-in-Minus-clause-exact : goal.returns-in-Minus-clause-exact
returns-in-Minus-clause-exact t c =
    let types = type_at c.args.types.now in
    law.minus-law types c.args.value.now c.in-Minus.e c.ty.result c.constant_of.result _ c.in-Minus.is c.ty.ensures
    (law.part types c.get.result.now c.in-Minus.e c.constant_of.result c.get.ensures c.constant_of.ensures.exact) c.computed.ensures.exact

pub returns-in-Complement-clause-exact : goal.returns-in-Complement-clause-exact
returns-in-Complement-clause-exact t c =
    let types = type_at c.args.types.now in
    law.complement-law types c.args.value.now c.in-Complement.e c.constant_of-in-Complement.result _ c.in-Complement.is
    (law.part types c.get-in-Complement.result.now c.in-Complement.e c.constant_of-in-Complement.result c.get-in-Complement.ensures c.constant_of-in-Complement.ensures.exact) c.complement.ensures

pub returns-in-Negation-clause-exact : goal.returns-in-Negation-clause-exact
returns-in-Negation-clause-exact t c =
    let types = type_at c.args.types.now in
    law.negation-law types c.args.value.now c.in-Negation.e c.constant_of-in-Negation.result _ c.in-Negation.is
    (law.part types c.get-in-Negation.result.now c.in-Negation.e c.constant_of-in-Negation.result c.get-in-Negation.ensures c.constant_of-in-Negation.ensures.exact) c.opposite.ensures

pub returns-in-Arithmetic-clause-exact : goal.returns-in-Arithmetic-clause-exact
returns-in-Arithmetic-clause-exact t c =
    let types = type_at c.args.types.now in
    law.arithmetic-law types c.args.value.now c.in-Arithmetic.a c.in-Arithmetic.b c.in-Arithmetic.op c.in-Arithmetic.field-1 c.ty-in-Arithmetic.result
    c.constant_of-in-Arithmetic.result c.constant_of-in-Arithmetic-2.result _ c.in-Arithmetic.is
    (law.part-type types c.get-in-Arithmetic.result.now c.in-Arithmetic.a c.ty-in-Arithmetic.result c.get-in-Arithmetic.ensures c.ty-in-Arithmetic.ensures)
    (law.part types c.get-in-Arithmetic-2.result.now c.in-Arithmetic.a c.constant_of-in-Arithmetic.result c.get-in-Arithmetic-2.ensures c.constant_of-in-Arithmetic.ensures.exact)
    (law.part types c.get-in-Arithmetic-3.result.now c.in-Arithmetic.b c.constant_of-in-Arithmetic-2.result c.get-in-Arithmetic-3.ensures c.constant_of-in-Arithmetic-2.ensures.exact)
    c.computed-in-Arithmetic.ensures.exact

pub returns-in-Conjunction-clause-exact : goal.returns-in-Conjunction-clause-exact
returns-in-Conjunction-clause-exact t c =
    let types = type_at c.args.types.now in
    law.conjunction-law types c.args.value.now c.in-Conjunction.a c.in-Conjunction.b c.constant_of-in-Conjunction.result c.constant_of-in-Conjunction-2.result _ c.in-Conjunction.is
    (law.part types c.get-in-Conjunction.result.now c.in-Conjunction.a c.constant_of-in-Conjunction.result c.get-in-Conjunction.ensures c.constant_of-in-Conjunction.ensures.exact)
    (law.part types c.get-in-Conjunction-2.result.now c.in-Conjunction.b c.constant_of-in-Conjunction-2.result c.get-in-Conjunction-2.ensures c.constant_of-in-Conjunction-2.ensures.exact)
    (subst (λ d. c.chosen.result ≡ chosen c.constant_of-in-Conjunction.result d (Known 0)) c.as_test.ensures c.chosen.ensures)

pub returns-in-Disjunction-clause-exact : goal.returns-in-Disjunction-clause-exact
returns-in-Disjunction-clause-exact t c =
    let types = type_at c.args.types.now in
    law.disjunction-law types c.args.value.now c.in-Disjunction.a c.in-Disjunction.b c.constant_of-in-Disjunction.result c.constant_of-in-Disjunction-2.result _ c.in-Disjunction.is
    (law.part types c.get-in-Disjunction.result.now c.in-Disjunction.a c.constant_of-in-Disjunction.result c.get-in-Disjunction.ensures c.constant_of-in-Disjunction.ensures.exact)
    (law.part types c.get-in-Disjunction-2.result.now c.in-Disjunction.b c.constant_of-in-Disjunction-2.result c.get-in-Disjunction-2.ensures c.constant_of-in-Disjunction-2.ensures.exact)
    (subst (λ d. c.chosen-in-Disjunction.result ≡ chosen c.constant_of-in-Disjunction.result (Known 1) d) c.as_test-in-Disjunction.ensures c.chosen-in-Disjunction.ensures)

pub returns-in-Choice-clause-exact : goal.returns-in-Choice-clause-exact
returns-in-Choice-clause-exact t c =
    let types = type_at c.args.types.now in
    law.choice-law types c.args.value.now c.in-Choice.e c.in-Choice.a c.in-Choice.b c.constant_of-in-Choice.result c.constant_of-in-Choice-2.result c.constant_of-in-Choice-3.result _ c.in-Choice.is
    (law.part types c.get-in-Choice.result.now c.in-Choice.e c.constant_of-in-Choice.result c.get-in-Choice.ensures c.constant_of-in-Choice.ensures.exact)
    (law.part types c.get-in-Choice-2.result.now c.in-Choice.a c.constant_of-in-Choice-2.result c.get-in-Choice-2.ensures c.constant_of-in-Choice-2.ensures.exact)
    (law.part types c.get-in-Choice-3.result.now c.in-Choice.b c.constant_of-in-Choice-3.result c.get-in-Choice-3.ensures c.constant_of-in-Choice-3.ensures.exact)
    c.chosen-in-Choice.ensures

pub returns-in-Conversion-clause-exact : goal.returns-in-Conversion-clause-exact
returns-in-Conversion-clause-exact t c =
    let types = type_at c.args.types.now in
    law.conversion-law types c.args.value.now c.in-Conversion.e c.in-Conversion.field-0 c.ty-in-Conversion.result c.ty-in-Conversion-2.result c.constant_of-in-Conversion.result _ c.in-Conversion.is
    (law.part-type types c.get-in-Conversion.result.now c.in-Conversion.e c.ty-in-Conversion.result c.get-in-Conversion.ensures c.ty-in-Conversion.ensures)
    c.ty-in-Conversion-2.ensures
    (law.part types c.get-in-Conversion-2.result.now c.in-Conversion.e c.constant_of-in-Conversion.result c.get-in-Conversion-2.ensures c.constant_of-in-Conversion.ensures.exact)
    c.converted.ensures

pub returns-in-Null-clause-exact : goal.returns-in-Null-clause-exact
returns-in-Null-clause-exact t c = rows.null-row (type_at c.args.types.now) c.args.value.now c.in-Null.is

pub returns-in-Null-2-clause-exact : goal.returns-in-Null-2-clause-exact
returns-in-Null-2-clause-exact t c = rows.null-row (type_at c.args.types.now) c.args.value.now c.in-Null.is

pub returns-in-Null-3-clause-exact : goal.returns-in-Null-3-clause-exact
returns-in-Null-3-clause-exact t c = rows.null-row (type_at c.args.types.now) c.args.value.now c.in-Null.is

pub returns-in-Address-clause-exact : goal.returns-in-Address-clause-exact
returns-in-Address-clause-exact t c = rows.address-row (type_at c.args.types.now) c.args.value.now c.in-Address.is

pub returns-in-Address-2-clause-exact : goal.returns-in-Address-2-clause-exact
returns-in-Address-2-clause-exact t c = rows.address-row (type_at c.args.types.now) c.args.value.now c.in-Address.is

pub returns-in-Address-3-clause-exact : goal.returns-in-Address-3-clause-exact
returns-in-Address-3-clause-exact t c = rows.address-row (type_at c.args.types.now) c.args.value.now c.in-Address.is

pub returns-in-Difference-clause-exact : goal.returns-in-Difference-clause-exact
returns-in-Difference-clause-exact t c = rows.difference-row (type_at c.args.types.now) c.args.value.now c.in-Difference.is

pub returns-in-Difference-2-clause-exact : goal.returns-in-Difference-2-clause-exact
returns-in-Difference-2-clause-exact t c = rows.difference-row (type_at c.args.types.now) c.args.value.now c.in-Difference.is

pub returns-in-Sequence-clause-exact : goal.returns-in-Sequence-clause-exact
returns-in-Sequence-clause-exact t c = rows.sequence-row (type_at c.args.types.now) c.args.value.now c.in-Sequence.is

pub returns-in-Sequence-2-clause-exact : goal.returns-in-Sequence-2-clause-exact
returns-in-Sequence-2-clause-exact t c = rows.sequence-row (type_at c.args.types.now) c.args.value.now c.in-Sequence.is

pub returns-in-Sequence-3-clause-exact : goal.returns-in-Sequence-3-clause-exact
returns-in-Sequence-3-clause-exact t c = rows.sequence-row (type_at c.args.types.now) c.args.value.now c.in-Sequence.is

pub returns-in-Move-clause-exact : goal.returns-in-Move-clause-exact
returns-in-Move-clause-exact t c = rows.move-row (type_at c.args.types.now) c.args.value.now c.in-Move.is

pub returns-in-Move-2-clause-exact : goal.returns-in-Move-2-clause-exact
returns-in-Move-2-clause-exact t c = rows.move-row (type_at c.args.types.now) c.args.value.now c.in-Move.is

pub returns-in-Move-3-clause-exact : goal.returns-in-Move-3-clause-exact
returns-in-Move-3-clause-exact t c = rows.move-row (type_at c.args.types.now) c.args.value.now c.in-Move.is

pub returns-in-Discarded-clause-exact : goal.returns-in-Discarded-clause-exact
returns-in-Discarded-clause-exact t c = rows.discarded-row (type_at c.args.types.now) c.args.value.now c.in-Discarded.is

pub returns-in-Discarded-2-clause-exact : goal.returns-in-Discarded-2-clause-exact
returns-in-Discarded-2-clause-exact t c = rows.discarded-row (type_at c.args.types.now) c.args.value.now c.in-Discarded.is

pub returns-in-Discarded-3-clause-exact : goal.returns-in-Discarded-3-clause-exact
returns-in-Discarded-3-clause-exact t c = rows.discarded-row (type_at c.args.types.now) c.args.value.now c.in-Discarded.is

pub returns-in-Putchar-clause-exact : goal.returns-in-Putchar-clause-exact
returns-in-Putchar-clause-exact t c = rows.putchar-row (type_at c.args.types.now) c.args.value.now c.in-Putchar.is

pub returns-in-Putchar-2-clause-exact : goal.returns-in-Putchar-2-clause-exact
returns-in-Putchar-2-clause-exact t c = rows.putchar-row (type_at c.args.types.now) c.args.value.now c.in-Putchar.is

pub returns-in-Putchar-3-clause-exact : goal.returns-in-Putchar-3-clause-exact
returns-in-Putchar-3-clause-exact t c = rows.putchar-row (type_at c.args.types.now) c.args.value.now c.in-Putchar.is
