use Rattle.std.proofs.Common.{sym, ◌∙◌, ap, List, ℕ, subst}
use Rattle.lower.specs.Statements.{begun_at, all_begin}
use Rattle.lower.specs.Emits.{nothing, rows_of, types_of, inside_view}
use Rattle.lower.specs.Runs.{Begins}
use Rattle.lower.proofs.LocalSteps.{numbers, item_numbers, of-declaration, of-statement, none-begin}
use Rattle.lower.proofs.locals.begin_item.Goals as goal

pub returns-in-Declaration : goal.returns-in-Declaration
returns-in-Declaration c =
    let i = inside_view c.args.at in
    subst (λ (l : List ℕ). Begins nothing (rows_of c.args.at) (λ start. begun_at i.rows start l) c.args.body.now c.begin_locals.new.body
    c.begin_locals.result (all_begin i l))
    (ap (numbers (types_of c.args.at)) c.as_slice.ensures ∙ sym (of-declaration (types_of c.args.at) c.args.item.now _ c.in-Declaration.is))
    c.begin_locals.ensures

pub returns-in-Statement : goal.returns-in-Statement
returns-in-Statement c =
    none-begin (inside_view c.args.at) (rows_of c.args.at) c.args.body.now (item_numbers (types_of c.args.at) c.args.item.now)
    (of-statement (types_of c.args.at) c.args.item.now _ c.in-Statement.is)
