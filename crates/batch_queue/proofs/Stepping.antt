-- A step is allowed where it keeps `Holds` for what the end that makes it knows afterwards.
use Rattle.std.proofs.Common.{◌≡◌, ◌≢◌, ℕ, ◌+◌, ◌*◌, ◌/◌, ◌%◌, ◌<◌, ◌≤◌, eqb, true, false, List, length, get_or, set, sym, refl, ◌∙◌, subst, ⊎_elim, length-set}
use mathlib.Core.Option.{none, some}
use lib.ListN.{get_elem?}
use prog.Atomic.{either}
use Rattle.atomic_table.specs.Table.{State, step, keeps, Allows}
use Rattle.atomic_table.proofs.Lists.{at_set}
use Rattle.srmt_base.specs.Word.{IsWord}
use Rattle.batch_queue.specs.Views.{pushed, published_all, closed_now, saw_head, discarded, took, released_all, gone_now, saw_tail, HeadGrows, TailGrows}
use Rattle.batch_queue.specs.Rule.{place, Holds, Knows, Ruled}
use Rattle.batch_queue.specs.Plays.{Sat, SendsAs, TakesAs, stored_slot, stored_tail, stored_last_tail, loaded_head, dropped_word, loaded_slot, stored_head, stored_last_head, loaded_tail}
use Rattle.batch_queue.specs.declared.view.SendView.{SendView}
use Rattle.batch_queue.specs.declared.view.TakeView.{TakeView}
use Rattle.batch_queue.specs.declared.view.View.{View}
use Rattle.batch_queue.proofs.Holding as holding

abbrev pub St : Type 0
St = State (Unit {0}) View

-- what every seat knows, after the seat `id` came to know w
pub all_know : (K : ℕ → View → Type 0) (views : List View) (id : ℕ) (w : View) → K id w → ((j : ℕ) (u : View) → j ≢ id → get_elem? views j ≡ some u → K j u)
    → (j : ℕ) (u : View) → get_elem? (set views id w) j ≡ some u → K j u
all_know K views id w mine others j u e = ⊎_elim (λ (t : (j ≡ id) × (w ≡ u)). subst (λ (z : ℕ × View). K z.0 z.1) (λ i. (sym t.0 i, t.1 i)) mine)
    (λ (t : (j ≢ id) × (get_elem? views j ≡ some u)). others j u t.0 t.1) (at_set views id j w u e)

module _ (cap : ℕ) where
  -- the sender's step makes of the word i, which is n, f n; it then knows x' n, and is told Tell n
  sender_step : (f : ℕ → ℕ) (x' : ℕ → SendView) (Tell : ℕ → Type 0) (slots id i : ℕ) (me : Sat) → me.0.is_sender ≡ true
      → ((ws : List ℕ) (y : TakeView) → length ws ≡ cap + 2 → 1 ≤ cap → Holds cap ws me.0.sends y → let n : ℕ = get_or ws i 0 in Holds cap (set ws i (f n)) (x' n) y × Tell n)
      → Allows (Ruled cap) slots id me i f (λ n m'. SendsAs me (x' n) m' × Tell n)
  sender_step f x' Tell slots id i me is keep s r _ at _ = let n : ℕ = get_or s.words i 0 in
      let mine = r.seats id me.0 at in
      let told = keep s.words r.takes r.wide r.some_places (subst (λ (x : SendView). Holds cap s.words x r.takes) (sym (mine.0 is).1) r.holds) in
      let w : View = record me.0 { sends = x' n } in (
        w,
        keeps,
        tt,
        record {
          sender = r.sender;
          taker = r.taker;
          sends = x' n;
          takes = r.takes;
          some_places = r.some_places;
          wide = length-set s.words i (f n) ∙ r.wide;
          seats = all_know (Knows r.sender r.taker (x' n) r.takes) s.views id w ((λ _. ((mine.0 is).0, refl)), mine.1)
              (λ j u other e. let theirs = r.seats j u e in ((λ p. absurd (other ((theirs.0 p).0 ∙ sym (mine.0 is).0))), theirs.1));
          holds = told.0;
        },
        ((refl, refl), told.1),
      )

  -- the same where it is told no more
  sender_stores : (f : ℕ → ℕ) (x' : SendView) (slots id i : ℕ) (me : Sat) → me.0.is_sender ≡ true
      → ((ws : List ℕ) (y : TakeView) → length ws ≡ cap + 2 → 1 ≤ cap → Holds cap ws me.0.sends y → Holds cap (set ws i (f (get_or ws i 0))) x' y)
      → Allows (Ruled cap) slots id me i f (λ n m'. SendsAs me x' m')
  sender_stores f x' slots id i me is keep s r long at small =
      let t = sender_step f (λ _. x') (λ _. Unit {0}) slots id i me is (λ ws y wide some_places h. (keep ws y wide some_places h, tt)) s r long at small in (t.0, t.1, t.2, t.3, t.4.0)

  -- the receiver's step, likewise
  receiver_step : (f : ℕ → ℕ) (y' : ℕ → TakeView) (Tell : ℕ → Type 0) (slots id i : ℕ) (me : Sat) → me.0.is_receiver ≡ true
      → ((ws : List ℕ) (x : SendView) → length ws ≡ cap + 2 → 1 ≤ cap → Holds cap ws x me.0.takes → let n : ℕ = get_or ws i 0 in Holds cap (set ws i (f n)) x (y' n) × Tell n)
      → Allows (Ruled cap) slots id me i f (λ n m'. TakesAs me (y' n) m' × Tell n)
  receiver_step f y' Tell slots id i me is keep s r _ at _ = let n : ℕ = get_or s.words i 0 in
      let mine = r.seats id me.0 at in
      let told = keep s.words r.sends r.wide r.some_places (subst (λ (y : TakeView). Holds cap s.words r.sends y) (sym (mine.1 is).1) r.holds) in
      let w : View = record me.0 { takes = y' n } in (
        w,
        keeps,
        tt,
        record {
          sender = r.sender;
          taker = r.taker;
          sends = r.sends;
          takes = y' n;
          some_places = r.some_places;
          wide = length-set s.words i (f n) ∙ r.wide;
          seats = all_know (Knows r.sender r.taker r.sends (y' n)) s.views id w (mine.0, λ _. ((mine.1 is).0, refl))
              (λ j u other e. let theirs = r.seats j u e in (theirs.0, λ p. absurd (other ((theirs.1 p).0 ∙ sym (mine.1 is).0))));
          holds = told.0;
        },
        ((refl, refl), told.1),
      )

  receiver_stores : (f : ℕ → ℕ) (y' : TakeView) (slots id i : ℕ) (me : Sat) → me.0.is_receiver ≡ true
      → ((ws : List ℕ) (x : SendView) → length ws ≡ cap + 2 → 1 ≤ cap → Holds cap ws x me.0.takes → Holds cap (set ws i (f (get_or ws i 0))) x y')
      → Allows (Ruled cap) slots id me i f (λ n m'. TakesAs me y' m')
  receiver_stores f y' slots id i me is keep s r long at small =
      let t = receiver_step f (λ _. y') (λ _. Unit {0}) slots id i me is (λ ws x wide some_places h. (keep ws x wide some_places h, tt)) s r long at small in (t.0, t.1, t.2, t.3, t.4.0)

  -- The steps of the sender.

  pub stores_slot : (slots id i word : ℕ) (me : Sat) → me.0.is_sender ≡ true → me.0.sends.closed ≡ false → IsWord word
      → length me.0.sends.sent < me.0.sends.known_released + cap → i ≡ place cap (length me.0.sends.sent)
      → Allows (Ruled cap) slots id me i (λ _. word) (λ _. stored_slot (step slots i word 0 none) me word)
  stores_slot slots id i word me is still_open is_word room at = sender_stores (λ _. word) (pushed me.0.sends word) slots id i me is
      (λ ws y wide some_places h. holding.stores_slot cap ws me.0.sends y h word i wide some_places still_open is_word room at)

  pub stores_tail : (slots id n : ℕ) (me : Sat) → me.0.is_sender ≡ true → me.0.sends.closed ≡ false → n ≡ 2 * length me.0.sends.sent
      → Allows (Ruled cap) slots id me 0 (λ _. n) (λ _. stored_tail (step slots 0 n 0 none) me n)
  stores_tail slots id n me is still_open at = sender_stores (λ _. n) (published_all me.0.sends) slots id 0 me is
      (λ ws y wide _ h. holding.stores_tail cap ws me.0.sends y h n wide still_open at)

  pub stores_last_tail : (slots id n : ℕ) (me : Sat) → me.0.is_sender ≡ true → me.0.sends.closed ≡ false → n ≡ 2 * length me.0.sends.sent + 1
      → Allows (Ruled cap) slots id me 0 (λ _. n) (λ _. stored_last_tail (step slots 0 n 0 none) me n)
  stores_last_tail slots id n me is still_open at = sender_stores (λ _. n) (closed_now me.0.sends) slots id 0 me is
      (λ ws y wide _ h. holding.stores_last_tail cap ws me.0.sends y h n wide still_open at)

  pub loads_head : (slots id : ℕ) (me : Sat) → me.0.is_sender ≡ true → Allows (Ruled cap) slots id me 1 (λ n. n) (loaded_head (step slots 1 0 0 none) me)
  loads_head slots id me is = sender_step (λ n. n) (λ n. saw_head me.0.sends (n / 2) (eqb (n % 2) 1)) (λ n. HeadGrows me.0.sends (n / 2) (eqb (n % 2) 1)) slots id 1 me is
      (λ ws y _ _ h. holding.loads_head cap ws me.0.sends y h)

  pub drops_word : (slots id word : ℕ) (me : Sat) → me.0.is_sender ≡ true → me.0.sends.known_gone ≡ true → me.0.sends.closed ≡ false
      → Allows (Ruled cap) slots id me 0 (λ n. either (eqb n word) word n) (dropped_word (step slots 0 word word none) me)
  drops_word slots id word me is is_gone still_open = sender_stores (λ n. either (eqb n word) word n) (discarded me.0.sends word) slots id 0 me is
      (λ ws y _ _ h. holding.drops_word cap ws me.0.sends y h word is_gone still_open)

  -- The steps of the receiver.

  pub loads_slot : (slots id i : ℕ) (me : Sat) → me.0.is_receiver ≡ true → ¬ (length me.0.takes.received ≡ me.0.takes.known_published) → i ≡ place cap (length me.0.takes.received)
      → Allows (Ruled cap) slots id me i (λ n. n) (loaded_slot (step slots i 0 0 none) me)
  loads_slot slots id i me is some_left at = receiver_step (λ n. n) (took me.0.takes) IsWord slots id i me is (λ ws x _ _ h. holding.loads_slot cap ws x me.0.takes h i some_left at)

  pub stores_head : (slots id n : ℕ) (me : Sat) → me.0.is_receiver ≡ true → me.0.takes.gone ≡ false → n ≡ 2 * length me.0.takes.received
      → Allows (Ruled cap) slots id me 1 (λ _. n) (λ _. stored_head (step slots 1 n 0 none) me n)
  stores_head slots id n me is still_there at = receiver_stores (λ _. n) (released_all me.0.takes) slots id 1 me is
      (λ ws x wide some_places h. holding.stores_head cap ws x me.0.takes h n wide some_places still_there at)

  pub stores_last_head : (slots id n : ℕ) (me : Sat) → me.0.is_receiver ≡ true → me.0.takes.gone ≡ false → n ≡ 2 * length me.0.takes.received + 1
      → Allows (Ruled cap) slots id me 1 (λ _. n) (λ _. stored_last_head (step slots 1 n 0 none) me n)
  stores_last_head slots id n me is still_there at = receiver_stores (λ _. n) (gone_now me.0.takes) slots id 1 me is
      (λ ws x wide some_places h. holding.stores_last_head cap ws x me.0.takes h n wide some_places still_there at)

  pub loads_tail : (slots id : ℕ) (me : Sat) → me.0.is_receiver ≡ true → Allows (Ruled cap) slots id me 0 (λ n. n) (loaded_tail (step slots 0 0 0 none) me)
  loads_tail slots id me is = receiver_step (λ n. n) (λ n. saw_tail me.0.takes (n / 2) (eqb (n % 2) 1)) (λ n. TailGrows me.0.takes (n / 2) (eqb (n % 2) 1)) slots id 0 me is
      (λ ws x _ _ h. holding.loads_tail cap ws x me.0.takes h)
