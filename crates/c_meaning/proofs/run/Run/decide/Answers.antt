use Rattle.std.proofs.Common.{◌≡◌, ◌==◌, true, false, arith}
use Rattle.std.proofs.lemmas.Bool.Decides.{nat_tests}
use Rattle.c_meaning.proofs.TakingDecisions.{and_stops, and_goes_on, or_stops, or_goes_on, first_chosen, second_chosen}
use Rattle.c_meaning.proofs.TakingRows.{constant-row, address-row, minus-row, arithmetic-row, comparison-row, assignment-row, conversion-row, requalified-row, call-row, putchar-row}
use Rattle.c_meaning.proofs.run.Run.decide.Goals as goal

pub returns-then-take-eq0 : goal.returns-then-take-eq0
returns-then-take-eq0 c =
    let zero : (c.take.result == 0) ≡ true = grind (arith, nat_tests) in
    and_stops c.args.at c.args.self.now c.args.value.now c.requires c.take.result c.take.new.self c.take.ensures.value c.take.ensures.rest c.gives.new.self
    c.in-Conjunction.field-0 c.in-Conjunction.second c.gives.result c.in-Conjunction.is zero c.gives.ensures.values c.gives.ensures.went

pub returns-else-take-eq0 : goal.returns-else-take-eq0
returns-else-take-eq0 c =
    let other : (c.take.result == 0) ≡ false = grind (arith, nat_tests) in
    and_goes_on c.args.at c.args.self.now c.args.value.now c.requires c.take.result c.take.new.self c.take.ensures.value c.take.ensures.rest c.second.new.self
    c.in-Conjunction.field-0 c.in-Conjunction.second c.get.result.now c.second.result c.in-Conjunction.is c.get.ensures other
    c.second.ensures.puts c.second.ensures.rest c.second.ensures.went

pub returns-then-take-eq0-2 : goal.returns-then-take-eq0-2
returns-then-take-eq0-2 c =
    let zero : (c.take-in-Disjunction.result == 0) ≡ true = grind (arith, nat_tests) in
    or_goes_on c.args.at c.args.self.now c.args.value.now c.requires c.take-in-Disjunction.result c.take-in-Disjunction.new.self c.take-in-Disjunction.ensures.value c.take-in-Disjunction.ensures.rest
    c.second-then-take-eq0-2.new.self
    c.in-Disjunction.field-0 c.in-Disjunction.second c.get-then-take-eq0-2.result.now c.second-then-take-eq0-2.result c.in-Disjunction.is
    c.get-then-take-eq0-2.ensures zero
    c.second-then-take-eq0-2.ensures.puts c.second-then-take-eq0-2.ensures.rest c.second-then-take-eq0-2.ensures.went

pub returns-else-take-eq0-2 : goal.returns-else-take-eq0-2
returns-else-take-eq0-2 c =
    let other : (c.take-in-Disjunction.result == 0) ≡ false = grind (arith, nat_tests) in
    or_stops c.args.at c.args.self.now c.args.value.now c.requires c.take-in-Disjunction.result c.take-in-Disjunction.new.self c.take-in-Disjunction.ensures.value c.take-in-Disjunction.ensures.rest
    c.gives-else-take-eq0-2.new.self
    c.in-Disjunction.field-0 c.in-Disjunction.second c.gives-else-take-eq0-2.result c.in-Disjunction.is other
    c.gives-else-take-eq0-2.ensures.values c.gives-else-take-eq0-2.ensures.went

pub returns-then-take-eq0-3 : goal.returns-then-take-eq0-3
returns-then-take-eq0-3 c =
    let zero : (c.take-in-Choice.result == 0) ≡ true = grind (arith, nat_tests) in
    second_chosen c.args.at c.args.self.now c.args.value.now c.requires c.take-in-Choice.result c.take-in-Choice.new.self c.take-in-Choice.ensures.value c.take-in-Choice.ensures.rest c.instead.new.self
    c.in-Choice.field-0 c.in-Choice.first c.in-Choice.second c.get-then-take-eq0-3.result.now c.instead.result c.in-Choice.is
    c.get-then-take-eq0-3.ensures zero
    c.instead.ensures.puts c.instead.ensures.rest c.instead.ensures.went

pub returns-else-take-eq0-3 : goal.returns-else-take-eq0-3
returns-else-take-eq0-3 c =
    let other : (c.take-in-Choice.result == 0) ≡ false = grind (arith, nat_tests) in
    first_chosen c.args.at c.args.self.now c.args.value.now c.requires c.take-in-Choice.result c.take-in-Choice.new.self c.take-in-Choice.ensures.value c.take-in-Choice.ensures.rest
    c.instead-else-take-eq0-3.new.self
    c.in-Choice.field-0 c.in-Choice.first c.in-Choice.second c.get-else-take-eq0-3.result.now c.instead-else-take-eq0-3.result c.in-Choice.is
    c.get-else-take-eq0-3.ensures other
    c.instead-else-take-eq0-3.ensures.puts c.instead-else-take-eq0-3.ensures.rest c.instead-else-take-eq0-3.ensures.went

pub returns-in-Constant : goal.returns-in-Constant
returns-in-Constant c = constant-row c.args.at c.args.self.now c.args.value.now c.requires c.in-Constant.is

pub returns-in-Constant-2 : goal.returns-in-Constant-2
returns-in-Constant-2 c = constant-row c.args.at c.args.self.now c.args.value.now c.requires c.in-Constant.is

pub returns-in-Constant-3 : goal.returns-in-Constant-3
returns-in-Constant-3 c = constant-row c.args.at c.args.self.now c.args.value.now c.requires c.in-Constant.is

pub returns-in-FirstElement : goal.returns-in-FirstElement
returns-in-FirstElement c = address-row c.args.at c.args.self.now c.args.value.now c.requires c.in-FirstElement.is

pub returns-in-FirstElement-2 : goal.returns-in-FirstElement-2
returns-in-FirstElement-2 c = address-row c.args.at c.args.self.now c.args.value.now c.requires c.in-FirstElement.is

pub returns-in-FirstElement-3 : goal.returns-in-FirstElement-3
returns-in-FirstElement-3 c = address-row c.args.at c.args.self.now c.args.value.now c.requires c.in-FirstElement.is

pub returns-in-Minus : goal.returns-in-Minus
returns-in-Minus c = minus-row c.args.at c.args.self.now c.args.value.now c.requires c.in-Minus.is

pub returns-in-Minus-2 : goal.returns-in-Minus-2
returns-in-Minus-2 c = minus-row c.args.at c.args.self.now c.args.value.now c.requires c.in-Minus.is

pub returns-in-Minus-3 : goal.returns-in-Minus-3
returns-in-Minus-3 c = minus-row c.args.at c.args.self.now c.args.value.now c.requires c.in-Minus.is

pub returns-in-Arithmetic : goal.returns-in-Arithmetic
returns-in-Arithmetic c = arithmetic-row c.args.at c.args.self.now c.args.value.now c.requires c.in-Arithmetic.is

pub returns-in-Arithmetic-2 : goal.returns-in-Arithmetic-2
returns-in-Arithmetic-2 c = arithmetic-row c.args.at c.args.self.now c.args.value.now c.requires c.in-Arithmetic.is

pub returns-in-Arithmetic-3 : goal.returns-in-Arithmetic-3
returns-in-Arithmetic-3 c = arithmetic-row c.args.at c.args.self.now c.args.value.now c.requires c.in-Arithmetic.is

pub returns-in-Comparison : goal.returns-in-Comparison
returns-in-Comparison c = comparison-row c.args.at c.args.self.now c.args.value.now c.requires c.in-Comparison.is

pub returns-in-Comparison-2 : goal.returns-in-Comparison-2
returns-in-Comparison-2 c = comparison-row c.args.at c.args.self.now c.args.value.now c.requires c.in-Comparison.is

pub returns-in-Assignment : goal.returns-in-Assignment
returns-in-Assignment c = assignment-row c.args.at c.args.self.now c.args.value.now c.requires c.in-Assignment.is

pub returns-in-Assignment-2 : goal.returns-in-Assignment-2
returns-in-Assignment-2 c = assignment-row c.args.at c.args.self.now c.args.value.now c.requires c.in-Assignment.is

pub returns-in-Assignment-3 : goal.returns-in-Assignment-3
returns-in-Assignment-3 c = assignment-row c.args.at c.args.self.now c.args.value.now c.requires c.in-Assignment.is

pub returns-in-Conversion : goal.returns-in-Conversion
returns-in-Conversion c = conversion-row c.args.at c.args.self.now c.args.value.now c.requires c.in-Conversion.is

pub returns-in-Conversion-2 : goal.returns-in-Conversion-2
returns-in-Conversion-2 c = conversion-row c.args.at c.args.self.now c.args.value.now c.requires c.in-Conversion.is

pub returns-in-Requalified : goal.returns-in-Requalified
returns-in-Requalified c = requalified-row c.args.at c.args.self.now c.args.value.now c.requires c.in-Requalified.is

pub returns-in-Requalified-2 : goal.returns-in-Requalified-2
returns-in-Requalified-2 c = requalified-row c.args.at c.args.self.now c.args.value.now c.requires c.in-Requalified.is

pub returns-in-Call : goal.returns-in-Call
returns-in-Call c = call-row c.args.at c.args.self.now c.args.value.now c.requires c.in-Call.is

pub returns-in-Call-2 : goal.returns-in-Call-2
returns-in-Call-2 c = call-row c.args.at c.args.self.now c.args.value.now c.requires c.in-Call.is

pub returns-in-Putchar : goal.returns-in-Putchar
returns-in-Putchar c = putchar-row c.args.at c.args.self.now c.args.value.now c.requires c.in-Putchar.is

pub returns-in-Putchar-2 : goal.returns-in-Putchar-2
returns-in-Putchar-2 c = putchar-row c.args.at c.args.self.now c.args.value.now c.requires c.in-Putchar.is

pub returns-in-Putchar-3 : goal.returns-in-Putchar-3
returns-in-Putchar-3 c = putchar-row c.args.at c.args.self.now c.args.value.now c.requires c.in-Putchar.is
