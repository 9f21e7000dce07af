use Rattle.c_meaning.specs.Runs.{types_of}
use Rattle.c_meaning.proofs.FinishArms as arm
use Rattle.c_meaning.proofs.run.Run.finish.Goals as goal

pub finish_minus-requires : goal.finish_minus-requires
finish_minus-requires c =
    arm.minus-has (types_of c.args.at.program.now) c.args.value.now c.in-Minus.e c.get.result.now c.get.ensures c.in-Minus.is c.requires.has

pub returns-in-Minus : goal.returns-in-Minus
returns-in-Minus c =
    let at = c.args.at in
    let old = c.args.self.now in
    let here = c.requires.here in
    let x = c.args.value.now in
    let r = c.finish_minus.result in
    let new = c.finish_minus.new.self in
    record {
      steps =
          arm.steps-as at old here x r new _
          (arm.minus-is at old here x c.in-Minus.e c.get.result.now c.get.ensures c.in-Minus.is)
          c.finish_minus.ensures.steps;
      sound = arm.sound-as at old here x r new c.requires.sound c.finish_minus.ensures.frame;
      falls = arm.falls-as at old here x r new c.finish_minus.ensures.frame c.finish_minus.ensures.framing;
    }

pub finish_complement-requires : goal.finish_complement-requires
finish_complement-requires c =
    arm.complement-has (types_of c.args.at.program.now) c.args.value.now c.in-Complement.e c.get-in-Complement.result.now c.get-in-Complement.ensures
    c.in-Complement.is c.requires.has

pub returns-in-Complement : goal.returns-in-Complement
returns-in-Complement c =
    let at = c.args.at in
    let old = c.args.self.now in
    let here = c.requires.here in
    let x = c.args.value.now in
    let r = c.finish_complement.result in
    let new = c.finish_complement.new.self in
    record {
      steps =
          arm.steps-as at old here x r new _
          (arm.complement-is at old here x c.in-Complement.e c.get-in-Complement.result.now c.get-in-Complement.ensures c.in-Complement.is)
          c.finish_complement.ensures.steps;
      sound = arm.sound-as at old here x r new c.requires.sound c.finish_complement.ensures.frame;
      falls = arm.falls-as at old here x r new c.finish_complement.ensures.frame c.finish_complement.ensures.framing;
    }

pub returns-in-Negation : goal.returns-in-Negation
returns-in-Negation c =
    let at = c.args.at in
    let old = c.args.self.now in
    let here = c.requires.here in
    let x = c.args.value.now in
    let r = c.finish_negation.result in
    let new = c.finish_negation.new.self in
    record {
      steps =
          arm.steps-as at old here x r new _
          (arm.negation-is at old here x c.in-Negation.field-0 c.in-Negation.is)
          c.finish_negation.ensures.steps;
      sound = arm.sound-as at old here x r new c.requires.sound c.finish_negation.ensures.frame;
      falls = arm.falls-as at old here x r new c.finish_negation.ensures.frame c.finish_negation.ensures.framing;
    }

pub returns-in-Conjunction : goal.returns-in-Conjunction
returns-in-Conjunction c =
    let at = c.args.at in
    let old = c.args.self.now in
    let here = c.requires.here in
    let x = c.args.value.now in
    let r = c.finish_truth.result in
    let new = c.finish_truth.new.self in
    record {
      steps =
          arm.steps-as at old here x r new _
          (arm.truth-is at old here x c.in-Conjunction.is)
          c.finish_truth.ensures.steps;
      sound = arm.sound-as at old here x r new c.requires.sound c.finish_truth.ensures.frame;
      falls = arm.falls-as at old here x r new c.finish_truth.ensures.frame c.finish_truth.ensures.framing;
    }

pub returns-in-Conversion : goal.returns-in-Conversion
returns-in-Conversion c =
    let at = c.args.at in
    let old = c.args.self.now in
    let here = c.requires.here in
    let x = c.args.value.now in
    let r = c.finish_conversion.result in
    let new = c.finish_conversion.new.self in
    record {
      steps =
          arm.steps-as at old here x r new _
          (arm.conversion-is at old here x c.in-Conversion.field-0 c.in-Conversion.e c.get-in-Conversion.result.now c.get-in-Conversion.ensures
          c.in-Conversion.is)
          c.finish_conversion.ensures.steps;
      sound = arm.sound-as at old here x r new c.requires.sound c.finish_conversion.ensures.frame;
      falls = arm.falls-as at old here x r new c.finish_conversion.ensures.frame c.finish_conversion.ensures.framing;
    }

pub finish_arithmetic-requires : goal.finish_arithmetic-requires
finish_arithmetic-requires c =
    arm.arithmetic-has (types_of c.args.at.program.now) c.args.value.now c.in-Arithmetic.a c.get-in-Arithmetic.result.now c.get-in-Arithmetic.ensures
    c.in-Arithmetic.op c.in-Arithmetic.line c.in-Arithmetic.field-3 c.in-Arithmetic.is c.requires.has

pub returns-in-Arithmetic : goal.returns-in-Arithmetic
returns-in-Arithmetic c =
    let at = c.args.at in
    let old = c.args.self.now in
    let here = c.requires.here in
    let x = c.args.value.now in
    let r = c.finish_arithmetic.result in
    let new = c.finish_arithmetic.new.self in
    record {
      steps =
          arm.steps-as at old here x r new _
          (arm.arithmetic-is at old here x c.in-Arithmetic.op c.in-Arithmetic.line c.in-Arithmetic.a c.in-Arithmetic.field-3 c.get-in-Arithmetic.result.now
          c.get-in-Arithmetic.ensures c.in-Arithmetic.is)
          c.finish_arithmetic.ensures.steps;
      sound = arm.sound-as at old here x r new c.requires.sound c.finish_arithmetic.ensures.frame;
      falls = arm.falls-as at old here x r new c.finish_arithmetic.ensures.frame c.finish_arithmetic.ensures.framing;
    }

pub finish_sum-requires : goal.finish_sum-requires
finish_sum-requires c =
    arm.sum-has (types_of c.args.at.program.now) c.args.value.now c.in-Sum.a c.get-in-Sum.result.now c.get-in-Sum.ensures c.in-Sum.line
    c.in-Sum.is_less c.in-Sum.pointer_first c.in-Sum.b c.get-in-Sum-2.result.now c.get-in-Sum-2.ensures c.in-Sum.is c.requires.has

pub returns-in-Sum : goal.returns-in-Sum
returns-in-Sum c =
    let at = c.args.at in
    let old = c.args.self.now in
    let here = c.requires.here in
    let x = c.args.value.now in
    let r = c.finish_sum.result in
    let new = c.finish_sum.new.self in
    record {
      steps =
          arm.steps-as at old here x r new _
          (arm.sum-is at old here x c.in-Sum.line c.in-Sum.is_less c.in-Sum.pointer_first c.in-Sum.a c.in-Sum.b c.get-in-Sum.result.now
          c.get-in-Sum-2.result.now c.get-in-Sum.ensures c.get-in-Sum-2.ensures c.in-Sum.is)
          c.finish_sum.ensures.steps;
      sound = arm.sound-as at old here x r new c.requires.sound c.finish_sum.ensures.frame;
      falls = arm.falls-as at old here x r new c.finish_sum.ensures.frame c.finish_sum.ensures.framing;
    }

pub finish_difference-requires : goal.finish_difference-requires
finish_difference-requires c =
    arm.difference-has (types_of c.args.at.program.now) c.args.value.now c.in-Difference.a c.get-in-Difference.result.now c.get-in-Difference.ensures
    c.in-Difference.line c.in-Difference.field-2 c.in-Difference.is c.requires.has

pub returns-in-Difference : goal.returns-in-Difference
returns-in-Difference c =
    let at = c.args.at in
    let old = c.args.self.now in
    let here = c.requires.here in
    let x = c.args.value.now in
    let r = c.finish_difference.result in
    let new = c.finish_difference.new.self in
    record {
      steps =
          arm.steps-as at old here x r new _
          (arm.difference-is at old here x c.in-Difference.line c.in-Difference.a c.in-Difference.field-2 c.get-in-Difference.result.now
          c.get-in-Difference.ensures c.in-Difference.is)
          c.finish_difference.ensures.steps;
      sound = arm.sound-as at old here x r new c.requires.sound c.finish_difference.ensures.frame;
      falls = arm.falls-as at old here x r new c.finish_difference.ensures.frame c.finish_difference.ensures.framing;
    }

pub finish_comparison-requires : goal.finish_comparison-requires
finish_comparison-requires c =
    arm.comparison-has (types_of c.args.at.program.now) c.args.value.now c.in-Comparison.field-2 c.in-Comparison.field-3 c.in-Comparison.op
    c.in-Comparison.line c.in-Comparison.is c.requires.has

pub returns-in-Comparison : goal.returns-in-Comparison
returns-in-Comparison c =
    let at = c.args.at in
    let old = c.args.self.now in
    let here = c.requires.here in
    let x = c.args.value.now in
    let r = c.finish_comparison.result in
    let new = c.finish_comparison.new.self in
    record {
      steps =
          arm.steps-as at old here x r new _
          (arm.comparison-is at old here x c.in-Comparison.op c.in-Comparison.line c.in-Comparison.field-2 c.in-Comparison.field-3 c.in-Comparison.is)
          c.finish_comparison.ensures.steps;
      sound = arm.sound-as at old here x r new c.requires.sound c.finish_comparison.ensures.frame;
      falls = arm.falls-as at old here x r new c.finish_comparison.ensures.frame c.finish_comparison.ensures.framing;
    }

pub returns-in-Assignment : goal.returns-in-Assignment
returns-in-Assignment c =
    let at = c.args.at in
    let old = c.args.self.now in
    let here = c.requires.here in
    let x = c.args.value.now in
    let r = c.finish_assignment.result in
    let new = c.finish_assignment.new.self in
    record {
      steps =
          arm.steps-as at old here x r new _
          (arm.assignment-is at old here x c.in-Assignment.place c.get-in-Assignment.result.now c.in-Assignment.field-1 c.get-in-Assignment.ensures
          c.in-Assignment.is)
          c.finish_assignment.ensures.steps;
      sound = arm.sound-as at old here x r new c.requires.sound c.finish_assignment.ensures.frame;
      falls = arm.falls-as at old here x r new c.finish_assignment.ensures.frame c.finish_assignment.ensures.framing;
    }

pub finish_update-requires : goal.finish_update-requires
finish_update-requires c =
    arm.update-has (types_of c.args.at.program.now) c.args.value.now c.in-Update.field-2 c.in-Update.place c.in-Update.change c.in-Update.is
    c.requires.has

pub returns-in-Update : goal.returns-in-Update
returns-in-Update c =
    let at = c.args.at in
    let old = c.args.self.now in
    let here = c.requires.here in
    let x = c.args.value.now in
    let r = c.finish_update.result in
    let new = c.finish_update.new.self in
    record {
      steps =
          arm.steps-as at old here x r new _
          (arm.update-is at old here x c.in-Update.change c.in-Update.place c.get-in-Update.result.now c.in-Update.field-2
          c.get-in-Update.ensures c.in-Update.is)
          c.finish_update.ensures.steps;
      sound = arm.sound-as at old here x r new c.requires.sound c.finish_update.ensures.frame;
      falls = arm.falls-as at old here x r new c.finish_update.ensures.frame c.finish_update.ensures.framing;
    }

pub finish_move-requires : goal.finish_move-requires
finish_move-requires c =
    arm.move-has (types_of c.args.at.program.now) c.args.value.now c.in-Move.e c.in-Move.place c.get-in-Move.result.now c.in-Move.change
    c.get-in-Move.ensures c.in-Move.is c.requires.has

pub returns-in-Move : goal.returns-in-Move
returns-in-Move c =
    let at = c.args.at in
    let old = c.args.self.now in
    let here = c.requires.here in
    let x = c.args.value.now in
    let r = c.finish_move.result in
    let new = c.finish_move.new.self in
    record {
      steps =
          arm.steps-as at old here x r new _
          (arm.move-is at old here x c.in-Move.change c.in-Move.place c.get-in-Move.result.now c.in-Move.e c.get-in-Move-2.result.now c.get-in-Move.ensures
          c.get-in-Move-2.ensures c.in-Move.is)
          c.finish_move.ensures.steps;
      sound = arm.sound-as at old here x r new c.requires.sound c.finish_move.ensures.frame;
      falls = arm.falls-as at old here x r new c.finish_move.ensures.frame c.finish_move.ensures.framing;
    }

pub returns-in-Call : goal.returns-in-Call
returns-in-Call c =
    let at = c.args.at in
    let old = c.args.self.now in
    let here = c.requires.here in
    let x = c.args.value.now in
    let r = c.finish_call.result in
    let new = c.finish_call.new.self in
    record {
      steps =
          arm.steps-as at old here x r new _
          (arm.call-is at old here x c.in-Call.line c.in-Call.entity c.in-Call.arguments c.len.result c.len.ensures c.in-Call.is)
          c.finish_call.ensures.steps;
      sound = c.finish_call.ensures.sound;
      falls = arm.turned-as at old here x r new c.finish_call.ensures.turned;
    }

pub returns-in-CallThrough : goal.returns-in-CallThrough
returns-in-CallThrough c =
    let at = c.args.at in
    let old = c.args.self.now in
    let here = c.requires.here in
    let x = c.args.value.now in
    let r = c.finish_call_through.result in
    let new = c.finish_call_through.new.self in
    record {
      steps =
          arm.steps-as at old here x r new _
          (arm.call_through-is at old here x c.in-CallThrough.line c.in-CallThrough.field-1 c.in-CallThrough.arguments c.len-in-CallThrough.result
          c.len-in-CallThrough.ensures c.in-CallThrough.is)
          c.finish_call_through.ensures.steps;
      sound = c.finish_call_through.ensures.sound;
      falls = arm.turned-as at old here x r new c.finish_call_through.ensures.turned;
    }

pub returns-in-Putchar : goal.returns-in-Putchar
returns-in-Putchar c =
    let at = c.args.at in
    let old = c.args.self.now in
    let here = c.requires.here in
    let x = c.args.value.now in
    let r = c.finish_putchar.result in
    let new = c.finish_putchar.new.self in
    record {
      steps =
          arm.steps-as at old here x r new _
          (arm.putchar-is at old here x c.in-Putchar.field-0 c.in-Putchar.field-1 c.in-Putchar.is)
          c.finish_putchar.ensures.steps;
      sound = arm.sound-as at old here x r new c.requires.sound c.finish_putchar.ensures.frame;
      falls = arm.falls-as at old here x r new c.finish_putchar.ensures.frame c.finish_putchar.ensures.framing;
    }

pub returns-in-Getchar : goal.returns-in-Getchar
returns-in-Getchar c =
    let at = c.args.at in
    let old = c.args.self.now in
    let here = c.requires.here in
    let x = c.args.value.now in
    let r = c.finish_getchar.result in
    let new = c.finish_getchar.new.self in
    record {
      steps =
          arm.steps-as at old here x r new _
          (arm.getchar-is at old here x c.in-Getchar.field-0 c.in-Getchar.is)
          c.finish_getchar.ensures.steps;
      sound = arm.sound-as at old here x r new c.requires.sound c.finish_getchar.ensures.frame;
      falls = arm.falls-as at old here x r new c.finish_getchar.ensures.frame c.finish_getchar.ensures.framing;
    }

pub returns-in-Exit : goal.returns-in-Exit
returns-in-Exit c =
    let at = c.args.at in
    let old = c.args.self.now in
    let here = c.requires.here in
    let x = c.args.value.now in
    record {
      steps = λ bound low es. arm.exit-is at old here x c.in-Exit.field-0 c.in-Exit.field-1 c.take.result c.take.ensures.value c.in-Exit.is bound es;
      sound = record { tasks = c.requires.sound.tasks; current = c.requires.sound.current; depths = c.requires.sound.depths };
      falls = tt;
    }

pub returns-in-Constant : goal.returns-in-Constant
returns-in-Constant c =
    let at = c.args.at in
    let old = c.args.self.now in
    let here = c.requires.here in
    let x = c.args.value.now in
    record {
      steps = arm.stays-steps at old here x (arm.constant-is at old here x c.in-Constant.is);
      sound = c.requires.sound;
      falls = arm.stays-falls at old here x;
    }

pub returns-in-Constant-2 : goal.returns-in-Constant-2
returns-in-Constant-2 c =
    let at = c.args.at in
    let old = c.args.self.now in
    let here = c.requires.here in
    let x = c.args.value.now in
    record {
      steps = arm.stays-steps at old here x (arm.constant-is at old here x c.in-Constant.is);
      sound = c.requires.sound;
      falls = arm.stays-falls at old here x;
    }

pub returns-in-Constant-3 : goal.returns-in-Constant-3
returns-in-Constant-3 c =
    let at = c.args.at in
    let old = c.args.self.now in
    let here = c.requires.here in
    let x = c.args.value.now in
    record {
      steps = arm.stays-steps at old here x (arm.constant-is at old here x c.in-Constant.is);
      sound = c.requires.sound;
      falls = arm.stays-falls at old here x;
    }

pub returns-in-FirstElement : goal.returns-in-FirstElement
returns-in-FirstElement c =
    let at = c.args.at in
    let old = c.args.self.now in
    let here = c.requires.here in
    let x = c.args.value.now in
    record {
      steps = arm.stays-steps at old here x (arm.address-is at old here x c.in-FirstElement.is);
      sound = c.requires.sound;
      falls = arm.stays-falls at old here x;
    }

pub returns-in-FirstElement-2 : goal.returns-in-FirstElement-2
returns-in-FirstElement-2 c =
    let at = c.args.at in
    let old = c.args.self.now in
    let here = c.requires.here in
    let x = c.args.value.now in
    record {
      steps = arm.stays-steps at old here x (arm.address-is at old here x c.in-FirstElement.is);
      sound = c.requires.sound;
      falls = arm.stays-falls at old here x;
    }

pub returns-in-FirstElement-3 : goal.returns-in-FirstElement-3
returns-in-FirstElement-3 c =
    let at = c.args.at in
    let old = c.args.self.now in
    let here = c.requires.here in
    let x = c.args.value.now in
    record {
      steps = arm.stays-steps at old here x (arm.address-is at old here x c.in-FirstElement.is);
      sound = c.requires.sound;
      falls = arm.stays-falls at old here x;
    }

pub returns-in-Choice : goal.returns-in-Choice
returns-in-Choice c =
    let at = c.args.at in
    let old = c.args.self.now in
    let here = c.requires.here in
    let x = c.args.value.now in
    record {
      steps = arm.stays-steps at old here x (arm.choice-is at old here x c.in-Choice.is);
      sound = c.requires.sound;
      falls = arm.stays-falls at old here x;
    }

pub returns-in-Choice-2 : goal.returns-in-Choice-2
returns-in-Choice-2 c =
    let at = c.args.at in
    let old = c.args.self.now in
    let here = c.requires.here in
    let x = c.args.value.now in
    record {
      steps = arm.stays-steps at old here x (arm.choice-is at old here x c.in-Choice.is);
      sound = c.requires.sound;
      falls = arm.stays-falls at old here x;
    }

pub returns-in-Requalified : goal.returns-in-Requalified
returns-in-Requalified c =
    let at = c.args.at in
    let old = c.args.self.now in
    let here = c.requires.here in
    let x = c.args.value.now in
    record {
      steps = arm.stays-steps at old here x (arm.discarded-is at old here x c.in-Requalified.is);
      sound = c.requires.sound;
      falls = arm.stays-falls at old here x;
    }

pub returns-in-Requalified-2 : goal.returns-in-Requalified-2
returns-in-Requalified-2 c =
    let at = c.args.at in
    let old = c.args.self.now in
    let here = c.requires.here in
    let x = c.args.value.now in
    record {
      steps = arm.stays-steps at old here x (arm.discarded-is at old here x c.in-Requalified.is);
      sound = c.requires.sound;
      falls = arm.stays-falls at old here x;
    }
