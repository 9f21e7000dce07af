use Rattle.std.proofs.Common.{◌≡◌, refl, sym, ap, ◌∙◌, subst}
use Rattle.c_types.specs.Types.{CType, decayed}
use Rattle.c_types.specs.Table.{Stands}
use Rattle.c_types.proofs.table.Types.decayed.Goals as goal

-- a type that does not decay
stays : (t u : CType) → t ≡ u → decayed u ≡ u → t ≡ decayed t
stays t u e f = e ∙ sym f ∙ sym (ap decayed e)

pub returns-in-Void-clause-made : goal.returns-in-Void-clause-made
returns-in-Void-clause-made c = subst (Stands c.args.self.now c.standing.result) (stays _ _ c.in-Void.ensures.made refl) c.standing.ensures

pub returns-in-Integer-clause-made : goal.returns-in-Integer-clause-made
returns-in-Integer-clause-made c = subst (Stands c.args.self.now c.standing-in-Integer.result) (stays _ _ c.in-Integer.ensures.made refl) c.standing-in-Integer.ensures

pub returns-in-Pointer-clause-made : goal.returns-in-Pointer-clause-made
returns-in-Pointer-clause-made c = subst (Stands c.args.self.now c.standing-in-Pointer.result) (stays _ _ c.in-Pointer.ensures.made refl) c.standing-in-Pointer.ensures
