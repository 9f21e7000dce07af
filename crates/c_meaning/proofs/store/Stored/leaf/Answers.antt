use Rattle.c_types.specs.Table.{type_at}
use Rattle.c_meaning.proofs.KnownPlaces as known
use Rattle.c_meaning.proofs.store.Stored.leaf.Goals as goal

pub returns-in-Constant-clause-exact : goal.returns-in-Constant-clause-exact
returns-in-Constant-clause-exact c =
    known.constant_leaf (type_at c.args.at.program.now.types) c.args.value.now c.args.at c.args.self.now c.in-Constant.number c.from.result
    c.in-Constant.is c.from.ensures

pub returns-in-Null-clause-exact : goal.returns-in-Null-clause-exact
returns-in-Null-clause-exact c = known.null_leaf (type_at c.args.at.program.now.types) c.args.value.now c.args.at c.args.self.now c.in-Null.is

pub returns-in-Function-clause-exact : goal.returns-in-Function-clause-exact
returns-in-Function-clause-exact c =
    known.function_leaf (type_at c.args.at.program.now.types) c.args.value.now c.args.at c.args.self.now c.in-Function.entity c.value_of_entity.result
    c.in-Function.is (λ bound. c.value_of_entity.ensures.value)

pub returns-in-Read-clause-exact : goal.returns-in-Read-clause-exact
returns-in-Read-clause-exact c =
    known.place_leaf (type_at c.args.at.program.now.types) c.args.value.now c.args.at c.args.self.now c.in-Read.place c.get.result.now c.register.result
    c.in-Read.is c.get.ensures c.register.ensures.exact

pub returns-in-FirstElement-clause-exact : goal.returns-in-FirstElement-clause-exact
returns-in-FirstElement-clause-exact c = known.address_row (type_at c.args.at.program.now.types) c.args.value.now c.args.at c.args.self.now c.in-FirstElement.is

pub returns-in-FirstElement-2-clause-exact : goal.returns-in-FirstElement-2-clause-exact
returns-in-FirstElement-2-clause-exact c =
    known.address_row (type_at c.args.at.program.now.types) c.args.value.now c.args.at c.args.self.now c.in-FirstElement.is

pub returns-in-Minus-clause-exact : goal.returns-in-Minus-clause-exact
returns-in-Minus-clause-exact c = known.minus_row (type_at c.args.at.program.now.types) c.args.value.now c.args.at c.args.self.now c.in-Minus.is

pub returns-in-Minus-2-clause-exact : goal.returns-in-Minus-2-clause-exact
returns-in-Minus-2-clause-exact c = known.minus_row (type_at c.args.at.program.now.types) c.args.value.now c.args.at c.args.self.now c.in-Minus.is

pub returns-in-Minus-3-clause-exact : goal.returns-in-Minus-3-clause-exact
returns-in-Minus-3-clause-exact c = known.minus_row (type_at c.args.at.program.now.types) c.args.value.now c.args.at c.args.self.now c.in-Minus.is

pub returns-in-Arithmetic-clause-exact : goal.returns-in-Arithmetic-clause-exact
returns-in-Arithmetic-clause-exact c = known.arithmetic_row (type_at c.args.at.program.now.types) c.args.value.now c.args.at c.args.self.now c.in-Arithmetic.is

pub returns-in-Arithmetic-2-clause-exact : goal.returns-in-Arithmetic-2-clause-exact
returns-in-Arithmetic-2-clause-exact c =
    known.arithmetic_row (type_at c.args.at.program.now.types) c.args.value.now c.args.at c.args.self.now c.in-Arithmetic.is

pub returns-in-Arithmetic-3-clause-exact : goal.returns-in-Arithmetic-3-clause-exact
returns-in-Arithmetic-3-clause-exact c =
    known.arithmetic_row (type_at c.args.at.program.now.types) c.args.value.now c.args.at c.args.self.now c.in-Arithmetic.is

pub returns-in-Comparison-clause-exact : goal.returns-in-Comparison-clause-exact
returns-in-Comparison-clause-exact c = known.comparison_row (type_at c.args.at.program.now.types) c.args.value.now c.args.at c.args.self.now c.in-Comparison.is

pub returns-in-Comparison-2-clause-exact : goal.returns-in-Comparison-2-clause-exact
returns-in-Comparison-2-clause-exact c =
    known.comparison_row (type_at c.args.at.program.now.types) c.args.value.now c.args.at c.args.self.now c.in-Comparison.is

pub returns-in-Disjunction-clause-exact : goal.returns-in-Disjunction-clause-exact
returns-in-Disjunction-clause-exact c =
    known.disjunction_row (type_at c.args.at.program.now.types) c.args.value.now c.args.at c.args.self.now c.in-Disjunction.is

pub returns-in-Disjunction-2-clause-exact : goal.returns-in-Disjunction-2-clause-exact
returns-in-Disjunction-2-clause-exact c =
    known.disjunction_row (type_at c.args.at.program.now.types) c.args.value.now c.args.at c.args.self.now c.in-Disjunction.is

pub returns-in-Disjunction-3-clause-exact : goal.returns-in-Disjunction-3-clause-exact
returns-in-Disjunction-3-clause-exact c =
    known.disjunction_row (type_at c.args.at.program.now.types) c.args.value.now c.args.at c.args.self.now c.in-Disjunction.is

pub returns-in-Assignment-clause-exact : goal.returns-in-Assignment-clause-exact
returns-in-Assignment-clause-exact c = known.assignment_row (type_at c.args.at.program.now.types) c.args.value.now c.args.at c.args.self.now c.in-Assignment.is

pub returns-in-Assignment-2-clause-exact : goal.returns-in-Assignment-2-clause-exact
returns-in-Assignment-2-clause-exact c =
    known.assignment_row (type_at c.args.at.program.now.types) c.args.value.now c.args.at c.args.self.now c.in-Assignment.is

pub returns-in-Assignment-3-clause-exact : goal.returns-in-Assignment-3-clause-exact
returns-in-Assignment-3-clause-exact c =
    known.assignment_row (type_at c.args.at.program.now.types) c.args.value.now c.args.at c.args.self.now c.in-Assignment.is

pub returns-in-Conversion-clause-exact : goal.returns-in-Conversion-clause-exact
returns-in-Conversion-clause-exact c = known.conversion_row (type_at c.args.at.program.now.types) c.args.value.now c.args.at c.args.self.now c.in-Conversion.is

pub returns-in-Conversion-2-clause-exact : goal.returns-in-Conversion-2-clause-exact
returns-in-Conversion-2-clause-exact c =
    known.conversion_row (type_at c.args.at.program.now.types) c.args.value.now c.args.at c.args.self.now c.in-Conversion.is

pub returns-in-Requalified-clause-exact : goal.returns-in-Requalified-clause-exact
returns-in-Requalified-clause-exact c =
    known.requalified_row (type_at c.args.at.program.now.types) c.args.value.now c.args.at c.args.self.now c.in-Requalified.is

pub returns-in-Requalified-2-clause-exact : goal.returns-in-Requalified-2-clause-exact
returns-in-Requalified-2-clause-exact c =
    known.requalified_row (type_at c.args.at.program.now.types) c.args.value.now c.args.at c.args.self.now c.in-Requalified.is

pub returns-in-Call-clause-exact : goal.returns-in-Call-clause-exact
returns-in-Call-clause-exact c = known.call_row (type_at c.args.at.program.now.types) c.args.value.now c.args.at c.args.self.now c.in-Call.is

pub returns-in-Call-2-clause-exact : goal.returns-in-Call-2-clause-exact
returns-in-Call-2-clause-exact c = known.call_row (type_at c.args.at.program.now.types) c.args.value.now c.args.at c.args.self.now c.in-Call.is

pub returns-in-Putchar-clause-exact : goal.returns-in-Putchar-clause-exact
returns-in-Putchar-clause-exact c = known.putchar_row (type_at c.args.at.program.now.types) c.args.value.now c.args.at c.args.self.now c.in-Putchar.is

pub returns-in-Putchar-2-clause-exact : goal.returns-in-Putchar-2-clause-exact
returns-in-Putchar-2-clause-exact c = known.putchar_row (type_at c.args.at.program.now.types) c.args.value.now c.args.at c.args.self.now c.in-Putchar.is

pub returns-in-Putchar-3-clause-exact : goal.returns-in-Putchar-3-clause-exact
returns-in-Putchar-3-clause-exact c = known.putchar_row (type_at c.args.at.program.now.types) c.args.value.now c.args.at c.args.self.now c.in-Putchar.is
