-- What functions on the table of types answer, as what is given where that has grown.
use Rattle.std.proofs.Common.{◌≡◌, ℕ, Bool as Test, true, false, ◌||◌, if◌then◌else◌, List, [], ◌∷◌, ◌++◌, map, Some, None, Result, Ok, Err, slice_get, refl, sym, ◌∙◌, ap, subst}
use Rattle.std.specs.Option.{option_map}
use Rattle.std.specs.List.{list_any}
use Rattle.std.proofs.lemmas.List.{map-append}
use Rattle.std.proofs.lemmas.Option.{slice_get-map}
use Rattle.c_types.specs.declared.type_ref.TypeRef.{TypeRef}
use Rattle.c_types.specs.declared.type_ref.QualifiedRef.{QualifiedRef}
use Rattle.c_types.specs.declared.type_ref.Row.{Row}
use Rattle.c_types.specs.contracts.type_ref.TypeRefPartialEq.TheImpl as reference
use Rattle.c_types.specs.contracts.type_ref.TypeRefEq.TheImpl.Laws.{laws-law}
use Rattle.c_types.specs.Types.{CType, void, Qualified, unqualified, same_type}
use Rattle.c_types.specs.Table.{type_at, Extends, Stands, StandsFor}
use Rattle.c_types.proofs.Grown.{Extends-refl, Extends-trans}
use Rattle.c_types.proofs.Rows.{same_ref, none_is_not}
use Rattle.c_types.proofs.Same.{one-type, type-itself}
use Rattle.c_typed.specs.Views.{qualified_from}
use Rattle.typing_rules.specs.declared.refusal.TypeRefusal.{TypeRefusal}
use Rattle.typing_rules.specs.Known as known
use Rattle.typing_rules.specs.Checking.{Checked, Checking, pure, asks}
use Rattle.c_values.specs.Answers.{AnswersAt, Answers}
use Rattle.c_known.specs.declared.local.Meaning.{Meaning}
use Rattle.c_known.specs.declared.local.Meaning.TheVariants as meaning
use Rattle.c_known.specs.declared.local.Local.{Local}
use Rattle.c_known.specs.declared.known.Known.{Known}
use Rattle.c_known.specs.Views.{Knows, meaning_view, local_view}
use Rattle.c_known.specs.Gives.{Standing, GivesAt, Gives}
use Rattle.c_known.specs.Standing.{MeansMeaning}
use Rattle.c_known.proofs.Binding.{answers-at}
use Rattle.c_known.proofs.Changes.{grown-known}
use Rattle.c_known.proofs.LocalChanges.{cons-first, cons-rest}

-- what is answered with what is known, of all that is known
pub asks-answers : {X A : Type 0} (M : Standing X A) (s : Known) (r : Result X TypeRefusal) (f : known.Known → A)
    → ((k : known.Known) → Knows s k → Answers (M s.types) r (pure (f k))) → Gives M s s r (asks f)
asks-answers M s r f h = record { at = λ k knows. answers-at M s k r (Ok (f k, k)) knows (h k knows k) }

grown-at : {X A : Type 0} (M : Standing X A) (s : Known) (rows : List Row) (k : known.Known) (r : Result X TypeRefusal) (c : Checked A)
    → Extends s.types rows → Knows s k → AnswersAt (M rows) k r c → GivesAt M s (record s { types = rows }) r c
grown-at M s rows k (Ok x) (Ok found) more knows h =
    record { grown = more; means = h.0; knows = subst (Knows (record s { types = rows })) (sym h.1) (grown-known s rows k more knows) }
grown-at M s rows k (Ok x) (Err refusal) more knows h = h
grown-at M s rows k (Err e) (Ok found) more knows h = h
grown-at M s rows k (Err e) (Err refusal) more knows h = h

-- what is answered in a table of types that has grown
pub answers-grown : {X A : Type 0} (M : Standing X A) (s : Known) (rows : List Row) (r : Result X TypeRefusal) (m : Checking A)
    → Extends s.types rows → Answers (M rows) r m → Gives M s (record s { types = rows }) r m
answers-grown M s rows r m more h = record { at = λ k knows. grown-at M s rows k r (m k) more knows (h k) }

pub stands-for-later : {old new : List Row} {r : QualifiedRef} {t : Qualified} → Extends old new → StandsFor old r t → StandsFor new r t
stands-for-later more stands =
    record { qualifiers = stands.qualifiers; type = record { always = λ later e. stands.type.always later (Extends-trans more e) } }

-- ---- meanings

pub meant-as : (rows : List Row) (x y : Meaning) (m : known.Meaning) → MeansMeaning rows x m → x ≡ y → (P : known.Meaning → Type 0)
    → P (meaning_view (type_at rows) y) → P m
meant-as rows x y m means e P p = subst P (ap (meaning_view (type_at rows)) (sym e) ∙ means.always rows (Extends-refl rows)) p

linked_type : known.Meaning → CType
linked_type (known.local n) = void
linked_type (known.linked n t) = t.type
linked_type (known.predeclared p) = void
linked_type (known.constant n) = void

-- the type that a name of an entity has
pub linked-stands : (rows : List Row) (x : Meaning) (m : known.Meaning) (n : ℕ) (ty : QualifiedRef) → x ≡ meaning.Linked n ty → MeansMeaning rows x m
    → StandsFor rows ty (qualified_from (type_at rows) ty)
unfolding linked_type
linked-stands rows x m n ty e means = record {
  qualifiers = refl;
  type = record {
    always = λ later more.
        ap linked_type (ap (meaning_view (type_at later)) (sym e) ∙ means.always later more ∙ sym (means.always rows (Extends-refl rows)) ∙ ap (meaning_view (type_at rows)) e);
  };
}

-- ---- locals

pub local-stands : (s : Known) (k : known.Known) → Knows s k → (n : ℕ) (l : Local) → slice_get s.locals.items n ≡ Some l
    → StandsFor s.types l.ty (known.local_at k.locals n).type
local-stands s k h n l e =
    record {
      qualifiers = ap (λ t. t.qualifiers) (at s.types (Extends-refl s.types));
      type = record { always = λ later more. ap (λ t. t.type) (at later more) };
    }
  where
    at : (later : List Row) → Extends s.types later → qualified_from (type_at later) l.ty ≡ (known.local_at k.locals n).type
    at later more =
        ap (λ o. (known.or_local o).type) (sym (slice_get-map (local_view (type_at later)) s.locals.items n ∙ ap (option_map (local_view (type_at later))) e))
        ∙ ap (λ ls. (known.local_at ls n).type) (h.locals later more)

pub no-local-stands : (s : Known) (k : known.Known) → Knows s k → (n : ℕ) (r : QualifiedRef) → slice_get s.locals.items n ≡ None
    → StandsFor s.types r (unqualified void) → StandsFor s.types r (known.local_at k.locals n).type
no-local-stands s k h n r e stands =
    subst (StandsFor s.types r)
    (ap (λ o. (known.or_local o).type) (sym (slice_get-map (local_view (type_at s.types)) s.locals.items n ∙ ap (option_map (local_view (type_at s.types))) e))
    ∙ ap (λ ls. (known.local_at ls n).type) (h.locals s.types (Extends-refl s.types))) stands

-- ---- types of functions, each once

same-test : (x y : Test) → (x ≡ true → y ≡ true) → (y ≡ true → x ≡ true) → x ≡ y
same-test true y f g = sym (f refl)
same-test false true f g = g refl
same-test false false f g = refl

-- a type is among others where its reference is among theirs
pub among-by : (rows : List Row) (r : TypeRef) (t : CType) → Stands rows r t → ((other : TypeRef) → Stands rows other t → other ≡ r)
    → (keys : List TypeRef) (ts : List CType) → ((later : List Row) → Extends rows later → map (type_at later) keys ≡ ts)
    → list_any ((reference.eq-value).it r) keys ≡ known.is_among t ts
among-by rows r t stands one [] [] h = refl
among-by rows r t stands one [] (u ∷ us) h = none_is_not (ap (λ xs. slice_get xs 0) (h rows (Extends-refl rows)))
among-by rows r t stands one (x ∷ xs) [] h = none_is_not (sym (ap (λ ys. slice_get ys 0) (h rows (Extends-refl rows))))
among-by rows r t stands one (x ∷ xs) (u ∷ us) h =
    let rest = among-by rows r t stands one xs us (λ later e. cons-rest (h later e)) in
    λ i. first i || rest i
  where
    is_x : Stands rows x u
    is_x = record { always = λ later e. cons-first (h later e) }

    first : (reference.eq-value).it r x ≡ same_type t u
    first = same-test _ _
        (λ e. subst (λ v. same_type t v ≡ true) (sym (stands.always rows (Extends-refl rows)) ∙ ap (type_at rows) (same_ref r x e) ∙ is_x.always rows (Extends-refl rows)) (type-itself t))
        (λ e. subst (λ y. (reference.eq-value).it r y ≡ true) (sym (one x (subst (Stands rows x) (sym (one-type t u e)) is_x))) (laws-law.refl r))

-- the types with one more, where it is new
abbrev pub added : CType → List CType → List CType
added t ts = if known.is_among t ts then ts else ts ++ t ∷ []

pub with-type-is : (t : CType) (k : known.Known) → record k { types = added t k.types } ≡ known.with_type t k
with-type-is t k = by (known.is_among t k.types)
  where
    by : (b : Test) → record k { types = if b then k.types else k.types ++ t ∷ [] } ≡ (if b then k else record k { types = k.types ++ t ∷ [] })
    by true = refl
    by false = refl

pub added-by : (s : Known) (k : known.Known) → Knows s k → (keys : List TypeRef) (r : TypeRef) (t : CType) → Stands s.types r t
    → ((other : TypeRef) → Stands s.types other t → other ≡ r)
    → keys ≡ (if list_any ((reference.eq-value).it r) s.function_types.keys then s.function_types.keys else s.function_types.keys ++ r ∷ [])
    → (later : List Row) → Extends s.types later → map (type_at later) keys ≡ added t k.types
added-by s k h keys r t stands one e later more =
    ap (map (type_at later)) e
    ∙ by (list_any ((reference.eq-value).it r) s.function_types.keys)
    ∙ ap (λ b. if b then k.types else k.types ++ t ∷ []) (among-by s.types r t stands one s.function_types.keys k.types h.types)
  where
    by : (b : Test) → map (type_at later) (if b then s.function_types.keys else s.function_types.keys ++ r ∷ []) ≡ (if b then k.types else k.types ++ t ∷ [])
    by true = h.types later more
    by false = map-append (type_at later) s.function_types.keys (r ∷ []) ∙ (λ i. h.types later more i ++ stands.always later more i ∷ [])
