-- In every typed program what each static object starts with fits its cells.
use Rattle.std.proofs.Common.{Bool as Test, true, false, List, [], ◌∷◌, sym, subst, Option, Some, None}
use Rattle.std.specs.Prelude.{if◌then◌else◌, ◌&&◌}
use Rattle.c_types.specs.Types.{cells_of}
use Rattle.c_typed.specs.Statements as t
use Rattle.typing_rules.specs.SourceUnits.{Unit as SourceUnit}
use Rattle.typing_rules.specs.Known.{Known, File, Entity, First, entity_at}
use Rattle.typing_rules.specs.UnitRules.{is_defined_in, is_object, static_of, statics_of, nothing_known}
use Rattle.typing_rules.specs.TypingUnits.{IsFile, IsBinary, Types}
use Rattle.typing_rules.specs.Laws.{Each, AreWithin, StaticsFit, ContentsFit}
use Rattle.typing_rules.proofs.Keeping.{AreFit, entity_fits}
use Rattle.typing_rules.proofs.UnitsKeep.{keeps_externals}

abbrev IsStaticFit : t.Static → Type 0
IsStaticFit s = AreWithin (cells_of s.type.type) s.cells

statics_fit : (file : File) (entities : List Entity) (declared : List First) → AreFit entities → Each IsStaticFit (statics_of file entities declared)
statics_fit file entities [] fit = tt
statics_fit file entities (f ∷ rest) fit =
    go (is_object (entity_at entities f.entity) && is_defined_in file (entity_at entities f.entity).definition) (statics_fit file entities rest fit)
  where
    go : (test : Test) → Each IsStaticFit (statics_of file entities rest)
        → Each IsStaticFit (if test then static_of f (entity_at entities f.entity) ∷ statics_of file entities rest else statics_of file entities rest)
    go true others = (entity_fits entities f.entity fit, others)
    go false others = others

file_fits : (unit : SourceUnit) (file : t.TypedFile) (k l : Known) → IsFile unit file k l → AreFit k.entities → StaticsFit file × AreFit l.entities
file_fits unit file k l h fit =
    let after = (keeps_externals unit).kept h.of k h.between h.first fit in (
      subst StaticsFit (sym h.second.0) (statics_fit h.between.file h.between.entities h.between.declared after),
      subst (λ m. AreFit m.entities) (sym h.second.1) after,
    )

binary_fits : (binary : Option SourceUnit) (file : t.TypedFile) (k l : Known) → IsBinary binary file k l → AreFit k.entities → StaticsFit file
binary_fits None file k l h fit = subst StaticsFit (sym h.0) tt
binary_fits (Some unit) file k l h fit = (file_fits unit file h.between l h.second (subst (λ m. AreFit m.entities) (sym h.first) fit)).0

pub contents_fit_of : (main : SourceUnit) (binary : Option SourceUnit) (program : t.Program) → Types main binary program → ContentsFit program
unfolding Types
contents_fit_of main binary program h =
    let p = h.1 in
    let first = file_fits main p.of nothing_known p.between p.first tt in
    let second = binary_fits binary p.second.of p.between p.second.between p.second.first first.1 in
    let made = p.second.second.second.second.second.second.0 in
    subst ContentsFit (sym made) (first.0, second)
