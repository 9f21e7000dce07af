-- The arguments of a call are known by their list.
use Rattle.std.proofs.Common.{inl, inr, ◌≡◌, ◌∙◌, sym, ap, ℕ, ◌≤◌, length, get_or, arith}
use Rattle.std.proofs.lemmas.List.{length-take-le, get_or-take}
use Rattle.std.proofs.lemmas.Bool.{cases_lt}
use Rattle.std.proofs.Math.ListN.{get_or-eq_default}
use Rattle.std.proofs.Math.Nat.{ℕ_set}
use Rattle.std.proofs.Math.Bridge.{le_prop}
use mathlib.Core.HLevel.{is_prop→PathP, Π_prop}
use Rattle.std.proofs.lemmas.Grind.{same_number_lists}
use Rattle.srmt_base.specs.declared.args.Args.{Args}
use Rattle.srmt_base.specs.Args.{args_list}

-- the list is as long as the count says
pub length-args_list : (args : Args) → length (args_list args) ≡ args.count
length-args_list args = length-take-le args.count args.values (omega (arith, args.room, args.within))

-- the values are the list, and 0 past it
get_or-values : (args : Args) (k : ℕ) → get_or args.values k 0 ≡ get_or (args_list args) k 0
get_or-values args k =
    elim (cases_lt k args.count) [
      | inl below ↦ sym (get_or-take args.count args.values k 0 below)
      | inr past ↦ args.rest k past ∙ sym (get_or-eq_default (args_list args) 0 (omega (arith, length-args_list args)))
    ]

-- arguments with the same list are the same
pub args_list-injective : (a b : Args) → args_list a ≡ args_list b → a ≡ b
args_list-injective a b same =
    let counts : a.count ≡ b.count = sym (length-args_list a) ∙ ap length same ∙ length-args_list b in
    let values : a.values ≡ b.values =
    same_number_lists a.values b.values (a.room ∙ sym b.room)
    (λ k below. get_or-values a k ∙ ap (λ xs. get_or xs k 0) same ∙ sym (get_or-values b k)) in
    λ i. record {
      count = counts i;
      values = values i;
      room = is_prop→PathP (λ j. length (values j) ≡ 16) (λ j. ℕ_set (length (values j)) 16) a.room b.room i;
      within = is_prop→PathP (λ j. counts j ≤ 16) (λ j. le_prop) a.within b.within i;
      rest =
          is_prop→PathP (λ j. (k : ℕ) → counts j ≤ k → get_or (values j) k 0 ≡ 0)
          (λ j. Π_prop (λ k. Π_prop (λ past. ℕ_set (get_or (values j) k 0) 0))) a.rest b.rest i;
    }
