-- Given cells with the type that their initializer completes.
use Rattle.std.proofs.Common.{◌≡◌, ℕ, nat_le, List, Ok, Err}
use Rattle.std.specs.declared.vec.Vec.{Vec}
use Rattle.std.specs.declared.alloc.Global.{Global}
use Rattle.c_types.specs.declared.type_ref.Row.{Row}
use Rattle.c_types.specs.declared.type_ref.TypeRef.{TypeRef}
use Rattle.c_types.specs.declared.qualifiers.Qualifiers.{Qualifiers}
use Rattle.c_types.specs.Types.{CType, Qualified, cells_of}
use Rattle.c_types.specs.Table.{Extends, Stands}
use Rattle.c_types.proofs.Grown.{Extends-trans}
use Rattle.c_typed.specs.declared.statement.Cell as code_cell
use Rattle.c_typed.specs.Statements.{Cell}
use Rattle.typing_rules.specs.declared.refusal.TypeRefusal.{TypeRefusal}
use Rattle.typing_rules.specs.declared.refusal.TypeRefusal.TheVariants.{TooLarge}
use Rattle.typing_rules.specs.declared.refusal.Size.TheVariants.{Cells}
use Rattle.typing_rules.specs.Limits.{most_cells}
use Rattle.typing_rules.specs.SourceUnits.{Initial}
use Rattle.typing_rules.specs.DeclarationRules as rule
use Rattle.typing_rules.specs.DeclarationRules.{completed}
use Rattle.typing_rules.specs.Checking.{Checking, needs, pure}
use Rattle.c_known.specs.declared.known.Known.{Known}
use Rattle.c_known.specs.Gives.{Gives}
use Rattle.c_known.proofs.Binding.{bind, told, pure-gives, regroup}
use Rattle.c_declarations.specs.declared.initializer.Initialized.{Initialized}
use Rattle.c_declarations.specs.Parts.{MeansInitialized}
use Rattle.c_declarations.specs.Cells.{AreCounted, AreExact, type_sized, given_with}
use Rattle.c_declarations.proofs.Counted.{exact-cells}

counted-later : (old new : List Row) (xs : List code_cell.Cell) (cs : List Cell) → Extends old new → AreCounted old xs cs → AreCounted new xs cs
counted-later old new xs cs more a = record { always = λ later e. a.always later (Extends-trans more e) }

abbrev with_type : Qualified → List Cell → CType → Checking rule.Initialized
with_type t cs u = pure (record { type = record { qualifiers = t.qualifiers; type = u }; given = cs })

pub with-cells : (old new : Known) (r : TypeRef) (at : ℕ) (t : Qualified) (x : Initial) (q : Qualifiers) (given : Vec code_cell.Cell Global) (cs : List Cell)
    → q ≡ t.qualifiers → AreCounted old.types given.items cs → AreExact given.items → Gives Stands old new (Ok r) (type_sized at (completed t.type x))
    → Gives MeansInitialized old new (Ok (record { ty = record { qualifiers = q; target = r }; given = given })) (given_with at t x cs)
with-cells old new r at t x q given cs same are exact g =
    let whole : Initialized = record { ty = record { qualifiers = q; target = r }; given = given } in
    regroup MeansInitialized old new (Ok whole) (needs (nat_le (cells_of (completed t.type x)) most_cells) (TooLarge at Cells)) (λ _. pure (completed t.type x)) (with_type t cs)
    (bind Stands MeansInitialized old new new r (Ok whole) (type_sized at (completed t.type x)) (with_type t cs) g
    (λ u more stands. pure-gives MeansInitialized new whole (record { type = record { qualifiers = t.qualifiers; type = u }; given = cs })
    (record { type = record { qualifiers = same; type = stands }; given = exact-cells new.types given.items cs exact (counted-later old.types new.types given.items cs more are) })))

pub with-refusal : (old new : Known) (e : TypeRefusal) (at : ℕ) (t : Qualified) (x : Initial) (cs : List Cell)
    → Gives {X = TypeRef} Stands old new (Err e) (type_sized at (completed t.type x)) → Gives {X = Initialized} MeansInitialized old new (Err e) (given_with at t x cs)
with-refusal old new e at t x cs g =
    regroup {X = Initialized} MeansInitialized old new (Err e) (needs (nat_le (cells_of (completed t.type x)) most_cells) (TooLarge at Cells)) (λ _. pure (completed t.type x)) (with_type t cs)
    (told Stands MeansInitialized old new new e (type_sized at (completed t.type x)) (with_type t cs) g)
