use Rattle.typing_rules.specs.declared.refusal.TypeRefusal.TheVariants.{Twice}
use Rattle.typing_rules.specs.Known.{found_in, innermost}
use Rattle.c_declarations.proofs.Free.{free-name, taken-name}
use Rattle.c_declarations.proofs.function.is_free.Goals as goal

pub returns-in-None : goal.returns-in-None
returns-in-None c = free-name c.args.known.now (λ k. found_in c.args.name.now (innermost k.scopes)) (Twice c.args.line) c.in-None.ensures

pub returns-in-Some : goal.returns-in-Some
returns-in-Some c = taken-name c.args.known.now c.in-Some.field-0 (λ k. found_in c.args.name.now (innermost k.scopes)) (Twice c.args.line) c.in-Some.ensures
