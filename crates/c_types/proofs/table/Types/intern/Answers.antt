use Rattle.std.proofs.Common.{◌≡◌, List, length, Some, sym, ◌∙◌, ap, subst}
use Rattle.std.specs.List.{IsDistinct}
use Rattle.indexmap.specs.IndexSet.{insert_key}
use Rattle.c_types.specs.declared.type_ref.Row.{Row}
use Rattle.c_types.specs.Table.{Extends, WellMade, types_of, IsMadeBelow}
use Rattle.c_types.specs.contracts.type_ref.RowPartialEq.TheImpl as equal
use Rattle.c_types.proofs.Rows.{same_row}
use Rattle.c_types.proofs.Added.{extends-insert, well-insert, stands-added}
use Rattle.c_types.proofs.table.Types.intern.Goals as goal

-- the keys of the set after the row was inserted
grown : (old new : List Row) (x : Row) → new ≡ insert_key (equal.eq-value).it old x → Extends old new
grown old new x e = subst (Extends old) (sym e) (extends-insert old x)

well : (old new : List Row) (x : Row) → new ≡ insert_key (equal.eq-value).it old x → WellMade old
    → IsMadeBelow (types_of old) (length old) x → IsDistinct (equal.eq-value).it new → WellMade new
well old new x e made fits distinct =
    subst WellMade (sym e) (well-insert old made x fits (subst (IsDistinct (equal.eq-value).it) e distinct))

fits_inside : (inside now : List Row) (x : Row) → inside ≡ now → IsMadeBelow (types_of now) (length now) x → IsMadeBelow (types_of inside) (length inside) x
fits_inside inside now x e h = subst (λ rows. IsMadeBelow (types_of rows) (length rows) x) (sym e) h

pub invariant_of-self-2 : goal.invariant_of-self-2
invariant_of-self-2 c =
    well _ _ c.args.row c.in_ok-index.ensures.keys c.self.invariant (fits_inside _ _ c.args.row c.self.view_is c.requires) c.insert_full.ensures.unique

pub returns-clause-kept : goal.returns-clause-kept
returns-clause-kept c = subst (λ rows. Extends rows c.insert_full.new.self.keys) c.self.view_is (grown _ _ c.args.row c.in_ok-index.ensures.keys)

pub returns-clause-made : goal.returns-clause-made
returns-clause-made c =
    let now = subst (λ rows. Extends rows c.insert_full.new.self.keys) c.self.view_is (grown _ _ c.args.row c.in_ok-index.ensures.keys) in
    let made = well _ _ c.args.row c.in_ok-index.ensures.keys c.self.invariant (fits_inside _ _ c.args.row c.self.view_is c.requires) c.insert_full.ensures.unique in
    let s = c.in_ok-index.ensures.stored in
    stands-added c.args.self.now c.insert_full.new.self.keys now made c.args.row c.requires c.in_ok-index.index (s.1 ∙ ap Some (sym (same_row _ _ s.2)))
