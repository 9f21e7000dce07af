use Rattle.std.proofs.Common.{◌≡◌, ◌∙◌, ap, sym, ℕ, ◌⊎◌, inl, inr}
use Rattle.srmt_base.specs.declared.op.Op.{Op}
use Rattle.srmt_base.specs.declared.op.Op.TheVariants.{Add, Sub, Mul, Div, Rem}
use Rattle.srmt_base.specs.declared.ty.Ty.{Ty}
use Rattle.srmt_base.specs.Arith.{arith_of}
use Rattle.c_starts.specs.Wide.{wide_of, fitted, remained}
use Rattle.c_starts.proofs.Wide.{add-fit, sub-fit, mul-fit, div-fit, rem-fit}
use Rattle.c_starts.proofs.computing.arith_at.Goals as goal

-- one of the operators whose result is tested
fits : (op : Op) (ty : Ty) (a b : ℕ) → (op ≡ Add) ⊎ ((op ≡ Sub) ⊎ ((op ≡ Mul) ⊎ (op ≡ Div)))
    → fitted ty (arith_of op (wide_of ty) a b) ≡ arith_of op ty a b
fits op ty a b (inl is) = ap (λ o. fitted ty (arith_of o (wide_of ty) a b)) is ∙ add-fit ty a b ∙ sym (ap (λ o. arith_of o ty a b) is)
fits op ty a b (inr (inl is)) = ap (λ o. fitted ty (arith_of o (wide_of ty) a b)) is ∙ sub-fit ty a b ∙ sym (ap (λ o. arith_of o ty a b) is)
fits op ty a b (inr (inr (inl is))) = ap (λ o. fitted ty (arith_of o (wide_of ty) a b)) is ∙ mul-fit ty a b ∙ sym (ap (λ o. arith_of o ty a b) is)
fits op ty a b (inr (inr (inr is))) = ap (λ o. fitted ty (arith_of o (wide_of ty) a b)) is ∙ div-fit ty a b ∙ sym (ap (λ o. arith_of o ty a b) is)

pub returns-in-Add : goal.returns-in-Add
returns-in-Add c =
    c.fitted.ensures
    ∙ ap (fitted c.args.ty) (c.arith.ensures.exact ∙ ap (λ w. arith_of c.args.op w c.args.a c.args.b) c.wide.ensures.exact)
    ∙ fits c.args.op c.args.ty c.args.a c.args.b c.in-Add.is

pub returns-in-Rem : goal.returns-in-Rem
returns-in-Rem c =
    c.remained.ensures
    ∙ ap (λ q. remained c.args.ty q c.arith-in-Rem-2.result) (c.arith-in-Rem.ensures.exact ∙ ap (λ w. arith_of Div w c.args.a c.args.b) c.wide-in-Rem.ensures.exact)
    ∙ ap (remained c.args.ty (arith_of Div (wide_of c.args.ty) c.args.a c.args.b)) (c.arith-in-Rem-2.ensures.exact ∙ ap (λ w. arith_of Rem w c.args.a c.args.b) c.wide-in-Rem-2.ensures.exact)
    ∙ rem-fit c.args.ty c.args.a c.args.b
    ∙ sym (ap (λ o. arith_of o c.args.ty c.args.a c.args.b) c.in-Rem.is)
