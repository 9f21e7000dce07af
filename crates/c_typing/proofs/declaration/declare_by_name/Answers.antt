use Rattle.std.proofs.Common.{Some, Err, option_map, sym, ap, ◌∙◌, subst}
use Rattle.c_types.specs.Table.{type_at}
use Rattle.typing_rules.specs.Source.{Named}
use Rattle.typing_rules.specs.SourceViews.{initial_view}
use Rattle.typing_rules.specs.OrderedUnits.{declared_as}
use Rattle.typing_rules.specs.declared.refusal.TypeRefusal.TheVariants.{Twice}
use Rattle.c_entities.specs.Views.{storage_view}
use Rattle.c_known.specs.Views.{line_in, meaning_view}
use Rattle.c_known.specs.Gives.{Gives, IsDone}
use Rattle.c_known.proofs.Binding.{refuse-gives}
use Rattle.c_typing.proofs.declaration.declare_by_name.Goals as goal

pub returns-in-None : goal.returns-in-None
returns-in-None c t stands =
    let s = c.args.known.now in
    let at = c.args.at in
    let name : Named = record { line = at.line; bytes = c.args.name.now } in
    subst (λ o. Gives IsDone s c.declare_linked.new.known c.declare_linked.result (declared_as name (storage_view at.storage) t (option_map (initial_view (line_in at.file)) c.args.x.now) o))
    (c.in-None.ensures (type_at s.types)) (c.declare_linked.ensures t stands)

pub returns-in-Some-Predeclared : goal.returns-in-Some-Predeclared
returns-in-Some-Predeclared c t stands =
    let s = c.args.known.now in
    let at = c.args.at in
    let name : Named = record { line = at.line; bytes = c.args.name.now } in
    subst (λ o. Gives IsDone s c.declare_again.new.known c.declare_again.result (declared_as name (storage_view at.storage) t (option_map (initial_view (line_in at.file)) c.args.x.now) o))
    (ap (λ m. Some (meaning_view (type_at s.types) m)) (sym c.in-Some-Predeclared.field-0-is) ∙ c.in-Some-Predeclared.ensures (type_at s.types)) (c.declare_again.ensures t c.args.name.now stands)

pub returns-in-Some-Local : goal.returns-in-Some-Local
returns-in-Some-Local c t stands =
    let s = c.args.known.now in
    let at = c.args.at in
    let name : Named = record { line = at.line; bytes = c.args.name.now } in
    subst (λ o. Gives IsDone s s (Err (Twice at.line)) (declared_as name (storage_view at.storage) t (option_map (initial_view (line_in at.file)) c.args.x.now) o))
    (ap (λ m. Some (meaning_view (type_at s.types) m)) (sym c.in-Some-Local.field-0-is) ∙ c.in-Some-Local.ensures (type_at s.types)) (refuse-gives IsDone s s (Twice at.line))

pub returns-in-Some-Linked : goal.returns-in-Some-Linked
returns-in-Some-Linked c t stands =
    let s = c.args.known.now in
    let at = c.args.at in
    let name : Named = record { line = at.line; bytes = c.args.name.now } in
    subst (λ o. Gives IsDone s s (Err (Twice at.line)) (declared_as name (storage_view at.storage) t (option_map (initial_view (line_in at.file)) c.args.x.now) o))
    (ap (λ m. Some (meaning_view (type_at s.types) m)) (sym c.in-Some-Linked.field-0-is) ∙ c.in-Some-Linked.ensures (type_at s.types)) (refuse-gives IsDone s s (Twice at.line))

pub returns-in-Some-Constant : goal.returns-in-Some-Constant
returns-in-Some-Constant c t stands =
    let s = c.args.known.now in
    let at = c.args.at in
    let name : Named = record { line = at.line; bytes = c.args.name.now } in
    subst (λ o. Gives IsDone s s (Err (Twice at.line)) (declared_as name (storage_view at.storage) t (option_map (initial_view (line_in at.file)) c.args.x.now) o))
    (ap (λ m. Some (meaning_view (type_at s.types) m)) (sym c.in-Some-Constant.field-0-is) ∙ c.in-Some-Constant.ensures (type_at s.types)) (refuse-gives IsDone s s (Twice at.line))
