use Rattle.std.proofs.Common.{List, Some, subst}
use Rattle.std.proofs.lemmas.Result.{err_from_is_err_and}
use Rattle.c_lexer.specs.declared.token.Token.{Token}
use Rattle.c_parser.specs.Answers.{IsUnitWithin}
use Rattle.answers.specs.declared.answer.Which.TheVariants.{Main, Binary}
use Rattle.c_front.specs.Layers.{StopsParsing}
use Rattle.c_front.proofs.Layers.{source_of, typed-files, untyped-files, main-parse-refuses, binary-parse-refuses}
use Rattle.c_front.proofs.front.whole_program.Goals as goal

pub returns-clause-ok : goal.returns-clause-ok
returns-clause-ok c =
    let parsed = subst (λ (ts : List Token). IsUnitWithin ts c.args.main.now c.in_ok-unit.unit) c.deref.ensures.value c.in_ok-unit.ensures.ok in
    let others = subst (λ (ts : List Token). IsUnitWithin ts c.args.binary.now c.in_ok-other.other) c.deref-2.ensures.value c.in_ok-other.ensures.ok in
    typed-files c.args.main.now (Some c.args.binary.now) c.in_ok-unit.unit (Some c.in_ok-other.other) c.type_files.result
    (source_of c.args.main.now c.in_ok-tokens.tokens.items c.in_ok-unit.unit c.in_ok-tokens.ensures.ok parsed)
    (source_of c.args.binary.now c.in_ok-others.others.items c.in_ok-other.other c.in_ok-others.ensures.ok others) c.type_files.ensures.ok

pub returns-clause-err : goal.returns-clause-err
returns-clause-err c =
    let parsed = subst (λ (ts : List Token). IsUnitWithin ts c.args.main.now c.in_ok-unit.unit) c.deref.ensures.value c.in_ok-unit.ensures.ok in
    let others = subst (λ (ts : List Token). IsUnitWithin ts c.args.binary.now c.in_ok-other.other) c.deref-2.ensures.value c.in_ok-other.ensures.ok in
    untyped-files c.args.main.now (Some c.args.binary.now) c.in_ok-unit.unit (Some c.in_ok-other.other) c.type_files.result
    (source_of c.args.main.now c.in_ok-tokens.tokens.items c.in_ok-unit.unit c.in_ok-tokens.ensures.ok parsed)
    (source_of c.args.binary.now c.in_ok-others.others.items c.in_ok-other.other c.in_ok-others.ensures.ok others) c.type_files.ensures.err

pub returns-in_err-unit-clause-err : goal.returns-in_err-unit-clause-err
returns-in_err-unit-clause-err c =
    let stops = subst (λ (ts : List Token). StopsParsing Main ts c.args.main.now c.in_err-unit.field-0.0) c.deref.ensures.value c.in_err-unit.ensures.err in
    let refuses = main-parse-refuses c.args.main.now (Some c.args.binary.now) c.in_ok-tokens.tokens.items c.in_err-unit.field-0.0 (c.in_ok-others.others.items, c.in_ok-others.ensures.ok) c.in_ok-tokens.ensures.ok stops in
    let e = err_from_is_err_and c.from_residual-in_err-unit.result c.from_residual-in_err-unit.ensures.1 in
    rw (e.1, e.2) refuses

pub returns-in_err-other-clause-err : goal.returns-in_err-other-clause-err
returns-in_err-other-clause-err c =
    let parsed = subst (λ (ts : List Token). IsUnitWithin ts c.args.main.now c.in_ok-unit.unit) c.deref.ensures.value c.in_ok-unit.ensures.ok in
    let stops = subst (λ (ts : List Token). StopsParsing Binary ts c.args.binary.now c.in_err-other.field-0.0) c.deref-2.ensures.value c.in_err-other.ensures.err in
    let refuses = binary-parse-refuses c.args.main.now c.args.binary.now c.in_ok-unit.unit c.in_ok-others.others.items c.in_err-other.field-0.0
    (source_of c.args.main.now c.in_ok-tokens.tokens.items c.in_ok-unit.unit c.in_ok-tokens.ensures.ok parsed) c.in_ok-others.ensures.ok stops in
    let e = err_from_is_err_and c.from_residual-in_err-other.result c.from_residual-in_err-other.ensures.1 in
    rw (e.1, e.2) refuses
