use Rattle.std.proofs.Common.{nat_eq, refl, sym, ◌∙◌}
use Rattle.indexmap.proofs.CallerLemmas.{insert_entry-new}
use Rattle.c_entities.proofs.Firsts.{declared-before, declared-now, is-none}
use Rattle.c_entities.proofs.entities.Entities.declare_first.Goals as goal

pub returns-then-contains_key : goal.returns-then-contains_key
returns-then-contains_key c rows k file are =
    declared-before rows c.args.self.now c.args.self.now k are c.args.number c.args.line (sym c.contains_key.ensures ∙ c.if-contains_key.true)

pub returns : goal.returns
returns c rows k file are =
    let none = sym c.contains_key.ensures ∙ c.if-contains_key.false in
    declared-now rows c.args.self.now _ k are c.args.number c.args.line none refl
    (c.in_ok-insert.ensures.entries ∙ insert_entry-new nat_eq c.args.self.now.declared c.args.number c.args.line (is-none _ none)) refl
