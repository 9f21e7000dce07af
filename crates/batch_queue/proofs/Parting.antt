-- The opening of a queue, the parting of its two ends, and their joining.
use Rattle.std.proofs.Common.{◌≡◌, ◌≢◌, ℕ, zero, suc, ◌+◌, ◌≤◌, true, false, true≢false, List, [], ◌∷◌, ◌++◌, length, get_or, set, sym, refl, ap, ◌∙◌, subst, ⊎_elim, arith}
use Rattle.std.proofs.Math.ListN.{replicate, length-replicate}
use Rattle.std.proofs.lemmas.List.{get_or-replicate}
use mathlib.Core.Option.{none, some, some-ne-none, some-injective}
use lib.ListN.{get_elem?}
use lib.Seq.{set-get_or}
use Rattle.atomic_table.specs.Table.{step, keeps, opening, stepped, Allows, Splits, Joins}
use Rattle.atomic_table.proofs.Lists.{at_set, at_snoc, set_again}
use Rattle.batch_queue.specs.Views.{new_sender, new_receiver, Agree}
use Rattle.batch_queue.specs.Rule.{Holds, Knows, Ruled, both_ends}
use Rattle.batch_queue.specs.Plays.{Sat, settled, sender_part, receiver_part, joined, spent_part}
use Rattle.batch_queue.specs.declared.view.SendView.{SendView}
use Rattle.batch_queue.specs.declared.view.TakeView.{TakeView}
use Rattle.batch_queue.specs.declared.view.View.{View}
use Rattle.batch_queue.proofs.Stepping.{all_know}
use Rattle.batch_queue.proofs.Holding.{agrees}

untrue : {X : Type 0} → false ≡ true → X
untrue p = absurd (true≢false (sym p))

-- one seat alone
only : (v u : View) (j : ℕ) → get_elem? (v ∷ []) j ≡ some u → (j ≡ 0) × (v ≡ u)
only v u zero e = (refl, some-injective v u e)
only v u (suc j) e = absurd (some-ne-none u (sym e))

-- what stands in a longer list and not before is its last
at_end : (l : List View) (v u : View) (j : ℕ) → ¬ (get_elem? l j ≡ some u) → get_elem? (l ++ v ∷ []) j ≡ some u → j ≡ length l
at_end [] v u zero new e = refl
at_end [] v u (suc j) new e = absurd (some-ne-none u (sym e))
at_end (x ∷ xs) v u zero new e = absurd (new e)
at_end (x ∷ xs) v u (suc j) new e = ap suc (at_end xs v u j new e)

opening_holds : (cap : ℕ) → Holds cap (replicate (cap + 2) 0) new_sender new_receiver
opening_holds cap = record {
  index_words = (get_or-replicate (cap + 2) 0 0 0 (omega arith), get_or-replicate (cap + 2) 1 0 0 (omega arith));
  order = record {
    released_known = omega arith;
    received_released = omega arith;
    published_received = omega arith;
    published_known = omega arith;
    sent_published = omega arith;
    sent_fits = omega arith;
  };
  ring = λ k _ below. absurd (omega arith);
  prefix = ([], refl);
  closing = record { closed_publishes = λ _. refl; closed_known = untrue; gone_known = untrue };
  knowledge = record { sender_knew = untrue; receiver_knew = untrue };
  dropping = record { none_before_gone = λ _. refl; none_after_closing = λ _ _. refl };
  every_word = λ k d below. absurd (omega arith);
}

pub opens : (cap : ℕ) → 1 ≤ cap → Ruled cap (opening (replicate (cap + 2) 0) [] both_ends)
opens cap some_places = record {
  sender = 0;
  taker = 0;
  sends = new_sender;
  takes = new_receiver;
  some_places = some_places;
  wide = length-replicate (cap + 2) 0;
  seats = λ j u e. let one = only both_ends u j e in ((λ _. (one.0, ap (λ (v : View). v.sends) (sym one.1))), λ _. (one.0, ap (λ (v : View). v.takes) (sym one.1)));
  holds = opening_holds cap;
}

pub parts : (cap id : ℕ) (v : View) → v.is_sender ≡ true → v.is_receiver ≡ true → Splits (Ruled cap) id v (sender_part v) (receiver_part v)
parts cap id v sends takes s r at = let mine = r.seats id v at in
    let vs : List View = set s.views id (sender_part v) in
    let Sends : ℕ → View → Type 0 = λ j u. (u.is_sender ≡ true → (j ≡ r.sender) × (u.sends ≡ r.sends)) × ¬ (u.is_receiver ≡ true) in
    let old = all_know Sends s.views id (sender_part v) ((λ _. mine.0 sends), untrue) (λ j u other e. ((r.seats j u e).0, λ p. other (((r.seats j u e).1 p).0 ∙ sym (mine.1 takes).0))) in record {
      sender = r.sender;
      taker = length vs;
      sends = r.sends;
      takes = r.takes;
      some_places = r.some_places;
      wide = r.wide;
      seats = λ j u e. ⊎_elim (λ (t : get_elem? vs j ≡ some u). ((old j u t).0, λ p. absurd ((old j u t).1 p)))
          (λ (is : receiver_part v ≡ u). ((λ p. untrue (ap (λ (z : View). z.is_sender) is ∙ p)), λ p. (at_end vs (receiver_part v) u j (λ t. (old j u t).1 p) e, ap (λ (z : View). z.takes) (sym is) ∙ (mine.1 takes).1)))
          (at_snoc vs (receiver_part v) u j e);
      holds = r.holds;
    }

pub joins : (cap id : ℕ) (v : View) (other : ℕ) (w : View) → v.is_sender ≡ true → w.is_receiver ≡ true → Joins (Ruled cap) id v other w (joined v w) spent_part
joins cap id v other w sends takes s r at apart there = let mine = r.seats id v at in
    let vs : List View = set s.views id (joined v w) in
    let was : get_elem? s.views other ≡ some w = ⊎_elim (λ t. absurd (apart t.0)) (λ t. t.1) (at_set s.views id other (joined v w) w there) in
    let theirs = (r.seats other w was).1 takes in
    let Now : ℕ → View → Type 0 = λ j u. j ≢ other → Knows r.sender id r.sends r.takes j u in
    let now = all_know Now s.views id (joined v w) (λ _. ((λ _. mine.0 sends), λ _. (refl, theirs.1)))
    (λ j u _ e elsewhere. ((r.seats j u e).0, λ p. absurd (elsewhere (((r.seats j u e).1 p).0 ∙ sym theirs.0)))) in record {
      sender = r.sender;
      taker = id;
      sends = r.sends;
      takes = r.takes;
      some_places = r.some_places;
      wide = r.wide;
      seats = all_know (Knows r.sender id r.sends r.takes) vs other spent_part (untrue, untrue) (λ j u elsewhere e. now j u e elsewhere);
      holds = r.holds;
    }

pub settles : (cap slots id : ℕ) (me : Sat) → me.0.is_sender ≡ true → me.0.is_receiver ≡ true → Allows (Ruled cap) slots id me 0 (λ n. n) (settled (step slots 0 0 0 none) me)
settles cap slots id me sends takes s r _ at _ = let mine = r.seats id me.0 at in
    let same : Ruled cap (stepped s 0 (get_or s.words 0 0) id me.1 me.0 keeps)
    = subst (λ (z : List ℕ × List View). Ruled cap record { words = z.0; homes = s.homes; views = z.1 }) (λ i. (sym (set-get_or s.words 0 0) i, sym (set_again s.views id me.0 at) i)) r in
    let agreed : Agree me.0.sends me.0.takes
    = subst (λ (z : SendView × TakeView). Agree z.0 z.1) (λ i. (sym (mine.0 sends).1 i, sym (mine.1 takes).1 i)) (agrees cap s.words r.sends r.takes r.holds) in
    (me.0, keeps, tt, same, (refl, agreed))
