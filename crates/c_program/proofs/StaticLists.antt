-- The static objects of a file, one declaration behind the other.
use Rattle.std.proofs.Common.{◌≡◌, ℕ, zero, suc, ◌+◌, Bool as Test, true, false, if◌then◌else◌, List, [], ◌∷◌, ◌++◌, map, drop, append_assoc, append-nil, add-one, Some, None, Result, Ok, OnOk, slice_get, refl, sym, ap, ◌∙◌, subst}
use Rattle.std.proofs.lemmas.List.{map-append}
use Rattle.std.proofs.Math.Seq.{drop-nil}
use Rattle.c_types.specs.declared.type_ref.Row.{Row}
use Rattle.c_types.specs.Table.{type_at, Extends}
use Rattle.c_types.proofs.Rows.{some_is, none_is_not}
use Rattle.c_typed.specs.declared.program.Static as code_static
use Rattle.c_typed.specs.Statements.{Static}
use Rattle.c_typed.specs.StatementViews.{static_view}
use Rattle.std.specs.Bool.{⊤}
use Rattle.typing_rules.specs.declared.refusal.TypeRefusal.{TypeRefusal}
use Rattle.typing_rules.specs.Known as known
use Rattle.typing_rules.specs.Known.{File, First, Entity, entity_at, or_entity}
use Rattle.typing_rules.specs.UnitRules.{statics_of, static_of}
use Rattle.typing_rules.specs.Checking.{asks}
use Rattle.c_entities.specs.declared.entity.Entity as code_entity
use Rattle.c_entities.specs.Views.{entity_view}
use Rattle.c_known.specs.declared.known.Known as code_known
use Rattle.c_known.specs.Views.{Knows}
use Rattle.c_known.specs.Gives.{Gives}
use Rattle.c_known.proofs.Binding.{asks-gives}
use Rattle.c_program.specs.Whole.{AreStatics}
use Rattle.c_program.specs.Statics.{IsEntity, MoreStatics, is_static, static_if}

-- the entity of a number
pub entity-is : (rows : List Row) (e : code_entity.Entity) (es : List Entity) (n : ℕ)
    → ((later : List Row) → Extends rows later → Some (entity_view (type_at later) e) ≡ slice_get es n) → IsEntity rows e (entity_at es n)
entity-is rows e es n found = record { always = λ later more. ap or_entity (found later more) }

pub view-is : (v : Entity) (es : List Entity) (n : ℕ) → Some v ≡ slice_get es n → v ≡ entity_at es n
view-is v es n found = ap or_entity found

-- nothing stands behind those before
pub no-more : (rows : List Row) (xs : List code_static.Static) → MoreStatics rows xs xs []
no-more rows xs = record { always = λ later more. sym (append-nil (map (static_view (type_at later)) xs)) }

-- an entity that is none
pub no-static : (rows : List Row) (xs : List code_static.Static) (file : File) (f : First) (e : Entity) → is_static file e ≡ false → MoreStatics rows xs xs (static_if file f e)
no-static rows xs file f e not = subst (λ t. MoreStatics rows xs xs (if t then static_of f e ∷ [] else [])) (sym not) (no-more rows xs)

-- there is no entity of the number
pub no-static-of : (rows : List Row) (xs : List code_static.Static) (file : File) (n line : ℕ) (es : List Entity) → None ≡ slice_get es n
    → MoreStatics rows xs xs (static_if file (record { entity = n; line = line }) (entity_at es n))
no-static-of rows xs file n line es none =
    subst (λ o. MoreStatics rows xs xs (static_if file (record { entity = n; line = line }) (or_entity o))) none (no-more rows xs)

-- an entity that is one
pub one-static : (r : Result ⊤ TypeRefusal) (rows : List Row) (xs ys : List code_static.Static) (file : File) (f : First) (e : Entity) → is_static file e ≡ true
    → OnOk r (MoreStatics rows xs ys (static_of f e ∷ [])) → OnOk r (MoreStatics rows xs ys (static_if file f e))
one-static r rows xs ys file f e is more = subst (λ t. OnOk r (MoreStatics rows xs ys (if t then static_of f e ∷ [] else []))) (sym is) more

pub one-more : (rows : List Row) (xs ys : List code_static.Static) (x : code_static.Static) (s : Static) → ys ≡ xs ++ x ∷ []
    → ((later : List Row) → Extends rows later → static_view (type_at later) x ≡ s) → MoreStatics rows xs ys (s ∷ [])
one-more rows xs ys x s pushed is = record {
  always = λ later more.
      ap (map (static_view (type_at later))) pushed ∙ map-append (static_view (type_at later)) xs (x ∷ [])
      ∙ ap (λ y. map (static_view (type_at later)) xs ++ y ∷ []) (is later more);
}

-- ---- the declarations

behind : (t : Test) (s : Static) (rest : List Static) → (if t then s ∷ rest else rest) ≡ (if t then s ∷ [] else []) ++ rest
behind true s rest = refl
behind false s rest = refl

drop-first : {A : Type 0} (xs : List A) (i : ℕ) (x : A) → slice_get xs i ≡ Some x → drop i xs ≡ x ∷ drop (suc i) xs
drop-first [] i x e = none_is_not e
drop-first (y ∷ ys) zero x e = ap (λ z. z ∷ ys) (some_is e)
drop-first (y ∷ ys) (suc i) x e = drop-first ys i x e

drop-none : {A : Type 0} (xs : List A) (i : ℕ) → slice_get xs i ≡ None → drop i xs ≡ []
drop-none [] i e = drop-nil i
drop-none (x ∷ xs) zero e = none_is_not (sym e)
drop-none (x ∷ xs) (suc i) e = drop-none xs i e

-- those of one declaration, and of the others behind it
pub statics-on : (file : File) (es : List Entity) (ds : List First) (i : ℕ) (d : First) → Some d ≡ slice_get ds i
    → statics_of file es (drop i ds) ≡ statics_of file es (d ∷ []) ++ statics_of file es (drop (i + 1) ds)
statics-on file es ds i d e =
    ap (statics_of file es) (drop-first ds i d (sym e))
    ∙ behind (is_static file (entity_at es d.entity)) (static_of d (entity_at es d.entity)) (statics_of file es (drop (suc i) ds))
    ∙ ap (λ m. statics_of file es (d ∷ []) ++ statics_of file es (drop m ds)) (sym (add-one i))

pub statics-end : (file : File) (es : List Entity) (ds : List First) (i : ℕ) → None ≡ slice_get ds i → statics_of file es (drop i ds) ≡ []
statics-end file es ds i e = ap (statics_of file es) (drop-none ds i (sym e))

-- static objects so far with those of the declarations from one on
abbrev pub StaticsFrom : code_known.Known → List code_static.Static → ℕ → Type 0
StaticsFrom s xs i = (k : known.Known) → Knows s k → (later : List Row) → Extends s.types later
    → map (static_view (type_at later)) xs ++ statics_of k.file k.entities (drop i k.declared) ≡ statics_of k.file k.entities k.declared

pub from-next : (s : code_known.Known) (xs ys : List code_static.Static) (i : ℕ) (d : First)
    → ((k : known.Known) → Knows s k → Some d ≡ slice_get k.declared i)
    → ((k : known.Known) → Knows s k → MoreStatics s.types xs ys (statics_of k.file k.entities (d ∷ [])))
    → StaticsFrom s xs i → StaticsFrom s ys (i + 1)
from-next s xs ys i d is one so_far k h later more =
    let f = static_view (type_at later) in
    ap (λ zs. zs ++ statics_of k.file k.entities (drop (i + 1) k.declared)) ((one k h).always later more)
    ∙ append_assoc (map f xs) (statics_of k.file k.entities (d ∷ [])) (statics_of k.file k.entities (drop (i + 1) k.declared))
    ∙ ap (λ zs. map f xs ++ zs) (sym (statics-on k.file k.entities k.declared i d (is k h)))
    ∙ so_far k h later more

pub from-all : (s : code_known.Known) (xs : List code_static.Static) (i : ℕ) → ((k : known.Known) → Knows s k → None ≡ slice_get k.declared i) → StaticsFrom s xs i
    → Gives AreStatics s s (Ok xs) (asks (λ k. statics_of k.file k.entities k.declared))
from-all s xs i none so_far =
    asks-gives AreStatics s xs (λ k. statics_of k.file k.entities k.declared) (λ k h. record {
      always = λ later more.
          sym (append-nil (map (static_view (type_at later)) xs)) ∙ ap (λ zs. map (static_view (type_at later)) xs ++ zs) (sym (statics-end k.file k.entities k.declared i (none k h)))
          ∙ so_far k h later more;
    })
