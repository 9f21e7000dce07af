use Rattle.std.proofs.Common.{List, None, subst}
use Rattle.c_lexer.specs.declared.token.Token.{Token}
use Rattle.c_parser.specs.Answers.{IsUnitWithin}
use Rattle.c_front.proofs.Layers.{source_of, typed-files, untyped-files}
use Rattle.c_front.proofs.front.main_program.Goals as goal

pub returns-clause-ok : goal.returns-clause-ok
returns-clause-ok c =
    let parsed = subst (λ (ts : List Token). IsUnitWithin ts c.args.main.now c.in_ok-unit.unit) c.deref.ensures.value c.in_ok-unit.ensures.ok in
    typed-files c.args.main.now None c.in_ok-unit.unit None c.type_files.result (source_of c.args.main.now c.in_ok-tokens.tokens.items c.in_ok-unit.unit c.in_ok-tokens.ensures.ok parsed) tt c.type_files.ensures.ok

pub returns-clause-err : goal.returns-clause-err
returns-clause-err c =
    let parsed = subst (λ (ts : List Token). IsUnitWithin ts c.args.main.now c.in_ok-unit.unit) c.deref.ensures.value c.in_ok-unit.ensures.ok in
    untyped-files c.args.main.now None c.in_ok-unit.unit None c.type_files.result (source_of c.args.main.now c.in_ok-tokens.tokens.items c.in_ok-unit.unit c.in_ok-tokens.ensures.ok parsed) tt c.type_files.ensures.err
