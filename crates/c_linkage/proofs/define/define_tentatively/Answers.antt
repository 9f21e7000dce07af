use Rattle.std.proofs.Common.{sym, ap, ◌∙◌}
use Rattle.c_types.specs.Types.{is_complete}
use Rattle.c_types.proofs.Grown.{Extends-refl}
use Rattle.typing_rules.specs.declared.refusal.TypeRefusal.TheVariants.{Mismatch}
use Rattle.c_known.specs.Gives.{IsDone}
use Rattle.c_linkage.specs.Linking.{tentatively_complete}
use Rattle.c_linkage.proofs.Steps.{passed, stopped}
use Rattle.c_linkage.proofs.Linked.{linked-type}
use Rattle.c_linkage.proofs.define.define_tentatively.Goals as goal

pub returns-then-is_complete : goal.returns-then-is_complete
returns-then-is_complete c l means =
    let s = c.args.known.now in
    let is = c.is_complete.ensures ∙ ap is_complete ((linked-type s.types c.args.linked l means).type.always s.types (Extends-refl s.types)) in
    passed IsDone s _ c.define_complete.result (λ k. is_complete l.type.type) (Mismatch c.args.line 15) (tentatively_complete c.args.line l)
    (λ k h. sym is ∙ c.if-is_complete.true) (c.define_complete.ensures l means)

pub returns-else-is_complete : goal.returns-else-is_complete
returns-else-is_complete c l means =
    let s = c.args.known.now in
    let is = c.is_complete.ensures ∙ ap is_complete ((linked-type s.types c.args.linked l means).type.always s.types (Extends-refl s.types)) in
    stopped IsDone s (λ k. is_complete l.type.type) (Mismatch c.args.line 15) (tentatively_complete c.args.line l)
    (λ k h. sym is ∙ c.if-is_complete.false)
