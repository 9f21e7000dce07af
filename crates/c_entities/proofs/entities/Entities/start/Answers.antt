use Rattle.std.proofs.Common.{true≢false, refl, sym, ap, ◌∙◌}
use Rattle.typing_rules.specs.Known.{entity_at}
use Rattle.c_entities.proofs.Rows.{unchanged-at, lent-some, lent-none}
use Rattle.c_entities.proofs.Changed.{begun, stands-at}
use Rattle.c_entities.proofs.entities.Entities.start.Goals as goal

pub returns-in-Some : goal.returns-in-Some
returns-in-Some c t stands k file are =
    let rows = c.args.types.now in
    let x = c.args.self.now in
    let n = c.args.number in
    let e = c.in-Some.entity.now in
    let there = lent-some x.rows n e (c.in-Some.ensures.variant.0 refl) c.in-Some.ensures.value in
    begun rows x _ k.entities k.declared n e are there c.composite-entity.result t c.args.cells
    (c.composite-entity.ensures (entity_at k.entities n).type.type t.type (stands-at rows x x k.entities k.declared n e are there) stands.type) refl refl refl

pub returns-in_default : goal.returns-in_default
returns-in_default c t stands k file are =
    unchanged-at c.args.types.now c.args.self.now k.entities k.declared c.args.number _ are
    (lent-none c.args.self.now.rows c.args.number (λ h. true≢false (sym (c.in_default.ensures.variant.1 h))))
