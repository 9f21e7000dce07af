-- Rows of kinds, one after another.
use Rattle.std.proofs.Common.{◌≡◌, ◌≢◌, ℕ, ◌<◌, ◌≤◌, List, [], ◌∷◌, length, drop, Bool, true, false, refl, ap, ◌∙◌, arith}
use Rattle.std.specs.Prelude.{◌&&◌, slice_get}
use Rattle.std.proofs.Common.{inl, inr}
use Rattle.std.proofs.lemmas.Bool.{cases_lt}
use Rattle.std.proofs.Math.ListN.{drop_of_length-le}
use Rattle.mid_code.specs.declared.program.RegisterKind.{RegisterKind}
use Rattle.mid_code.specs.Rules.{is_of_kind, are_of_kinds, starts_with_kinds}

pub other_lengths : (kinds : List RegisterKind) (args : List ℕ) (params : List RegisterKind) → length args ≢ length params → are_of_kinds kinds args params ≡ false
other_lengths kinds [] [] differ = absurd (differ refl)
other_lengths kinds [] (k ∷ ks) differ = refl
other_lengths kinds (r ∷ rs) [] differ = refl
other_lengths kinds (r ∷ rs) (k ∷ ks) differ =
    ap (λ b. is_of_kind (slice_get kinds r) k && b) (other_lengths kinds rs ks (λ e. differ (omega arith))) ∙ and_false (is_of_kind (slice_get kinds r) k)
  where
    and_false : (b : Bool) → (b && false) ≡ false
    and_false true = refl
    and_false false = refl

starts_none : (params : List RegisterKind) → starts_with_kinds [] params ≡ true
starts_none [] = refl
starts_none (p ∷ ps) = refl

starts_empty : (kinds : List RegisterKind) → starts_with_kinds kinds [] ≡ true
starts_empty [] = refl
starts_empty (k ∷ ks) = refl

pub starts_ended_kinds : (kinds params : List RegisterKind) (i : ℕ) → length kinds ≤ i → starts_with_kinds (drop i kinds) (drop i params) ≡ true
starts_ended_kinds kinds params i past = ap (λ ks. starts_with_kinds ks (drop i params)) (drop_of_length-le kinds past) ∙ starts_none (drop i params)

pub starts_ended_params : (kinds params : List RegisterKind) (i : ℕ) → length params ≤ i → starts_with_kinds (drop i kinds) (drop i params) ≡ true
starts_ended_params kinds params i past = ap (starts_with_kinds (drop i kinds)) (drop_of_length-le params past) ∙ starts_empty (drop i kinds)

pub starts_ended : (kinds params : List RegisterKind) (i : ℕ) → (i < length kinds → i < length params → ⊥) → starts_with_kinds (drop i kinds) (drop i params) ≡ true
starts_ended kinds params i none =
    elim (cases_lt i (length kinds)) [
      | inl inside ↦
          elim (cases_lt i (length params)) [
            | inl within ↦ absurd (none inside within)
            | inr past ↦ starts_ended_params kinds params i past
          ]
      | inr past ↦ starts_ended_kinds kinds params i past
    ]
