-- Uses of entities that no file defines.
use Rattle.std.proofs.Common.{◌≡◌, ◌<◌, ◌≤◌, ◌+◌, ℕ, Bool as Test, true, false, if◌then◌else◌, List, ◌∷◌, map, length, drop, drop-cons, add-one, drop_of_length-le, get_or, Some, None, Result, Ok, Err, refl, sym, ◌∙◌, ap, subst, inl}
use Rattle.std.specs.Prelude.{⊤}
use Rattle.c_types.proofs.Grown.{Extends-refl}
use Rattle.typing_rules.specs.declared.refusal.TypeRefusal.{TypeRefusal}
use Rattle.typing_rules.specs.declared.refusal.TypeRefusal.TheVariants.{Unresolved}
use Rattle.typing_rules.specs.Known as known
use Rattle.typing_rules.specs.Known.{entity_at}
use Rattle.typing_rules.specs.DeclarationRules.{is_undefined}
use Rattle.typing_rules.specs.UnitRules.{unresolved, is_nowhere_defined}
use Rattle.typing_rules.specs.OrderedUnits.{resolves}
use Rattle.c_known.specs.declared.known.Known.{Known}
use Rattle.c_known.specs.declared.local.Use.{Use}
use Rattle.c_known.specs.Views.{Knows, use_view}
use Rattle.c_known.specs.Gives.{GivesAt, Gives, IsDone}
use Rattle.c_program.specs.Whole.{all_resolved, each_resolved}

nowhere : (d : known.Definition) → is_undefined d ≡ is_nowhere_defined d
nowhere known.undefined = refl
nowhere (known.tentative file) = refl
nowhere (known.defined file) = refl

abbrev no_use : Use
no_use = record { entity = 0; line = 0 }

module _ (es : List known.Entity) (uses : List Use) (i : ℕ) (within : i < length uses) where
  split : drop i uses ≡ get_or uses i no_use ∷ drop (i + 1) uses
  split = drop-cons uses i no_use within ∙ ap (λ n. get_or uses i no_use ∷ drop n uses) (sym (add-one i))

  chosen : (b : Test) → is_undefined (entity_at es (get_or uses i no_use).entity).definition ≡ b
      → unresolved es (map use_view (drop i uses)) ≡ (if b then Some (get_or uses i no_use).line else unresolved es (map use_view (drop (i + 1) uses)))
  chosen b e =
      ap (λ l. unresolved es (map use_view l)) split
      ∙ ap (λ c. if c then Some (get_or uses i no_use).line else unresolved es (map use_view (drop (i + 1) uses))) (sym (nowhere (entity_at es (get_or uses i no_use).entity).definition) ∙ e)

  -- this one is defined
  pub use-past : is_undefined (entity_at es (get_or uses i no_use).entity).definition ≡ false → unresolved es (map use_view (drop i uses)) ≡ unresolved es (map use_view (drop (i + 1) uses))
  use-past e = chosen false e

  -- this one is not
  pub use-here : is_undefined (entity_at es (get_or uses i no_use).entity).definition ≡ true → unresolved es (map use_view (drop i uses)) ≡ Some (get_or uses i no_use).line
  use-here e = chosen true e

pub uses-end : (es : List known.Entity) (uses : List Use) (i : ℕ) → length uses ≤ i → unresolved es (map use_view (drop i uses)) ≡ None
uses-end es uses i past = ap (λ l. unresolved es (map use_view l)) (drop_of_length-le uses past)

module _ (s : Known) (uses : List known.Use) where
  pub all-defined : ((k : known.Known) → Knows s k → unresolved k.entities uses ≡ None) → Gives {X = ⊤} {A = Unit {0}} IsDone s s (Ok tt) (each_resolved uses)
  all-defined none = record {
    at = λ k h. subst (λ o. GivesAt {X = ⊤} {A = Unit {0}} IsDone s s (Ok tt) (resolves o k)) (sym (none k h))
        (record { grown = Extends-refl s.types; means = tt; knows = h });
  }

  pub one-nowhere : (line : ℕ) → ((k : known.Known) → Knows s k → unresolved k.entities uses ≡ Some line)
      → Gives {X = ⊤} {A = Unit {0}} IsDone s s (Err (Unresolved line)) (each_resolved uses)
  one-nowhere line some = record {
    at = λ k h. subst (λ o. GivesAt {X = ⊤} {A = Unit {0}} IsDone s s (Err (Unresolved line)) (resolves o k)) (sym (some k h)) (inl refl);
  }

-- of all uses that are known
pub each-all : (s : Known) (r : Result ⊤ TypeRefusal) (us : List Use) → us ≡ s.uses.items → Gives {X = ⊤} {A = Unit {0}} IsDone s s r (each_resolved (map use_view us))
    → Gives {X = ⊤} {A = Unit {0}} IsDone s s r all_resolved
each-all s r us same g = record {
  at = λ k h. subst (λ vs. GivesAt {X = ⊤} {A = Unit {0}} IsDone s s r (resolves (unresolved k.entities vs) k)) (ap (map use_view) same ∙ h.uses) (g.at k h);
}
