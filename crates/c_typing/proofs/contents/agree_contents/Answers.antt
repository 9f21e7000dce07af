use Rattle.std.proofs.Common.{sym, ◌∙◌}
use Rattle.typing_rules.specs.Source.{Named}
use Rattle.typing_rules.specs.declared.refusal.TypeRefusal.TheVariants.{Mismatch}
use Rattle.c_known.specs.Gives.{IsDone}
use Rattle.c_linkage.proofs.Steps.{passed, stopped}
use Rattle.c_typing.specs.Contents.{agrees_in, contents_counted}
use Rattle.c_typing.proofs.contents.agree_contents.Goals as goal

pub returns-then-agrees : goal.returns-then-agrees
returns-then-agrees c l i means given =
    let s = c.args.known.now in
    let name : Named = record { line = c.args.line; bytes = c.args.name.now } in
    passed IsDone s c.count_contents.new.known c.count_contents.result (λ k. agrees_in l i.type k.entities) (Mismatch c.args.line 17) (contents_counted name l c.args.is_first i)
    (λ k h. sym (c.agrees.ensures l i.type means given.type k h.entities) ∙ c.if-agrees.true) (c.count_contents.ensures l i means given)

pub returns-else-agrees : goal.returns-else-agrees
returns-else-agrees c l i means given =
    let s = c.args.known.now in
    let name : Named = record { line = c.args.line; bytes = c.args.name.now } in
    stopped IsDone s (λ k. agrees_in l i.type k.entities) (Mismatch c.args.line 17) (contents_counted name l c.args.is_first i)
    (λ k h. sym (c.agrees.ensures l i.type means given.type k h.entities) ∙ c.if-agrees.false)
