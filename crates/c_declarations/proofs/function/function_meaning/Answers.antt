use Rattle.std.proofs.Common.{Option, Some, sym, ap, ◌∙◌, subst}
use Rattle.c_types.specs.Table.{type_at}
use Rattle.typing_rules.specs.Known as known
use Rattle.typing_rules.specs.Source.{Named}
use Rattle.typing_rules.specs.OrderedDeclarations.{function_meaning}
use Rattle.c_known.specs.declared.local.Meaning.{Meaning}
use Rattle.c_known.specs.Views.{meaning_view}
use Rattle.c_known.specs.Gives.{Gives}
use Rattle.c_known.specs.Standing.{MeansMeaning}
use Rattle.c_declarations.proofs.function.function_meaning.Goals as goal

pub returns-in-None : goal.returns-in-None
returns-in-None c t h =
    let name : Named = record { line = c.args.line; bytes = c.args.name.now } in
    subst (λ (o : Option known.Meaning). Gives MeansMeaning c.args.known.now c.linked.new.known c.linked.result (function_meaning name t o)) (c.in-None.ensures (type_at c.args.known.now.types))
    (c.linked.ensures t h)

pub returns-in-Some-Local : goal.returns-in-Some-Local
returns-in-Some-Local c t h =
    let name : Named = record { line = c.args.line; bytes = c.args.name.now } in
    let types = type_at c.args.known.now.types in
    let is = ap (λ (m : Meaning). Some (meaning_view types m)) (sym c.in-Some-Local.field-0-is) ∙ c.in-Some-Local.ensures types in
    subst (λ (o : Option known.Meaning). Gives MeansMeaning c.args.known.now c.linked-in-Some-Local.new.known c.linked-in-Some-Local.result (function_meaning name t o)) is (c.linked-in-Some-Local.ensures t h)

pub returns-in-Some-Linked : goal.returns-in-Some-Linked
returns-in-Some-Linked c t h =
    let name : Named = record { line = c.args.line; bytes = c.args.name.now } in
    let types = type_at c.args.known.now.types in
    let is = ap (λ (m : Meaning). Some (meaning_view types m)) (sym c.in-Some-Linked.field-0-is) ∙ c.in-Some-Linked.ensures types in
    subst (λ (o : Option known.Meaning). Gives MeansMeaning c.args.known.now c.linked-in-Some-Linked.new.known c.linked-in-Some-Linked.result (function_meaning name t o)) is (c.linked-in-Some-Linked.ensures t h)

pub returns-in-Some-Predeclared : goal.returns-in-Some-Predeclared
returns-in-Some-Predeclared c t h =
    let name : Named = record { line = c.args.line; bytes = c.args.name.now } in
    let types = type_at c.args.known.now.types in
    let is = ap (λ (m : Meaning). Some (meaning_view types m)) (sym c.in-Some-Predeclared.field-0-is) ∙ c.in-Some-Predeclared.ensures types in
    subst (λ (o : Option known.Meaning). Gives MeansMeaning c.args.known.now c.again.new.known c.again.result (function_meaning name t o)) is (c.again.ensures t h)

pub returns-in-Some-Constant : goal.returns-in-Some-Constant
returns-in-Some-Constant c t h =
    let name : Named = record { line = c.args.line; bytes = c.args.name.now } in
    let types = type_at c.args.known.now.types in
    let is = ap (λ (m : Meaning). Some (meaning_view types m)) (sym c.in-Some-Constant.field-0-is) ∙ c.in-Some-Constant.ensures types in
    subst (λ (o : Option known.Meaning). Gives MeansMeaning c.args.known.now c.linked-in-Some-Constant.new.known c.linked-in-Some-Constant.result (function_meaning name t o)) is (c.linked-in-Some-Constant.ensures t h)
