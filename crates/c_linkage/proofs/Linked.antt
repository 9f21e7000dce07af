-- What a name of file scope means in the code.
use Rattle.std.proofs.Common.{◌≡◌, List, Option, Some, None, option_map, refl, sym, ◌∙◌, ap}
use Rattle.c_types.specs.declared.type_ref.Row.{Row}
use Rattle.c_types.specs.declared.type_ref.QualifiedRef.{QualifiedRef}
use Rattle.c_types.specs.Types.{Qualified}
use Rattle.c_types.specs.Table.{type_at, qualified_at, Extends, StandsFor}
use Rattle.c_types.proofs.Grown.{Extends-refl, Extends-trans}
use Rattle.typing_rules.specs.Known as known
use Rattle.c_entities.specs.declared.entity.Linked.{Linked}
use Rattle.c_entities.specs.Views.{linked_view}
use Rattle.c_known.specs.Standing.{MeansLinked, MeansLinkedIf}

pub qualified-is : (rows : List Row) (r : QualifiedRef) (t : Qualified) → StandsFor rows r t → qualified_at rows r ≡ t
qualified-is rows r t stands = λ i. record { qualifiers = stands.qualifiers i; type = stands.type.always rows (Extends-refl rows) i }

pub linked-type : (rows : List Row) (l : Linked) (b : known.Linked) → MeansLinked rows l b → StandsFor rows l.ty b.type
linked-type rows l b means = record {
  qualifiers = ap (λ x. x.type.qualifiers) (means.always rows (Extends-refl rows));
  type = record { always = λ later more. ap (λ x. x.type.type) (means.always later more) };
}

pub linked-is : (rows : List Row) (o : Option Linked) (b : Option known.Linked) → MeansLinkedIf rows o b → option_map (linked_view (type_at rows)) o ≡ b
linked-is rows None None means = refl
linked-is rows None (Some b) means = absurd means
linked-is rows (Some l) None means = absurd means
linked-is rows (Some l) (Some b) means = ap Some (means.always rows (Extends-refl rows))

-- an entity with a type that stands in an earlier table
pub means-linked : (old rows : List Row) → Extends old rows → (l : Linked) (b : known.Linked) → l.entity ≡ b.entity → StandsFor old l.ty b.type → MeansLinked rows l b
means-linked old rows grown l b same stands = record {
  always = λ later more i. record {
    entity = same i;
    type = record { qualifiers = stands.qualifiers i; type = stands.type.always later (Extends-trans grown more) i };
  };
}

pub linked-later : (old rows : List Row) → Extends old rows → (l : Linked) (b : known.Linked) → MeansLinked old l b → MeansLinked rows l b
linked-later old rows grown l b means = record { always = λ later more. means.always later (Extends-trans grown more) }
