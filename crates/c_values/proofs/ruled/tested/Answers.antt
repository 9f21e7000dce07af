use Rattle.std.proofs.Common.{◌≡◌, true, false, if◌then◌else◌, Result, Ok, Err, refl, inl, ap, sym, ◌∙◌, subst}
use Rattle.c_types.specs.Types.{is_scalar}
use Rattle.c_typed.specs.Typed as tree
use Rattle.typing_rules.specs.declared.refusal.TypeRefusal.TheVariants.{Mismatch}
use Rattle.typing_rules.specs.Checking.{ruled_by}
use Rattle.c_values.specs.Answers.{Answers, IsAllowed}
use Rattle.c_values.proofs.Means.{got-type}
use Rattle.c_values.proofs.ruled.tested.Goals as goal

pub returns-then-is_scalar : goal.returns-then-is_scalar
returns-then-is_scalar c v m =
    let from = got-type c.args.types.now c.get.result.now c.args.a.now.value v c.get.ensures m.value in
    let is : is_scalar (tree.type_of v) ≡ true = sym (ap is_scalar from) ∙ sym c.is_scalar.ensures ∙ c.if-is_scalar.true in
    subst (λ b. Answers IsAllowed (Ok tt) (ruled_by c.args.at (if b then Ok (tree.type_of v) else Err 5))) (sym is) (λ k. (tt, refl))

pub returns-else-is_scalar : goal.returns-else-is_scalar
returns-else-is_scalar c v m =
    let from = got-type c.args.types.now c.get.result.now c.args.a.now.value v c.get.ensures m.value in
    let is : is_scalar (tree.type_of v) ≡ false = sym (ap is_scalar from) ∙ sym c.is_scalar.ensures ∙ c.if-is_scalar.false in
    subst (λ b. Answers IsAllowed (Err (Mismatch c.args.at 5)) (ruled_by c.args.at (if b then Ok (tree.type_of v) else Err 5))) (sym is) (λ k. inl refl)
