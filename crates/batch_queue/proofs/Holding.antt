-- Each kind of step keeps `Holds`.
use Rattle.std.proofs.Common.{◌≡◌, ℕ, zero, suc, ◌+◌, ◌*◌, ◌/◌, ◌%◌, ◌<◌, ◌≤◌, eqb, Bool, true, false, true≢false, List, [], ◌∷◌, ◌++◌, length, get_or, set, sym, refl, ap, ◌∙◌, subst, arith, append_assoc, append-nil, length-append, mod-lt, get_or-set_other, get_or-set_same}
use Rattle.std.proofs.lemmas.Bool.{false_from_ne_true}
use Rattle.std.proofs.lemmas.List.Elements.{All-append}
use Rattle.std.proofs.Math.ListN.{get_or-append}
use Rattle.std.proofs.Math.Seq.{get_or-append_seam}
use mathlib.Core.List.{IsPrefix}
use mathlib.Core.Logic.{dite}
use native.Mathlib.Decide.{ℕ_discrete}
use lib.Seq.{set-get_or}
use prog.Atomic.{either}
use Rattle.atomic_table.proofs.Lists.{exchanged}
use Rattle.srmt_base.specs.Word.{IsWord}
use Rattle.batch_queue.specs.Views.{pushed, published_all, closed_now, saw_head, discarded, took, released_all, gone_now, saw_tail, HeadGrows, TailGrows, Agree}
use Rattle.batch_queue.specs.Rule.{index_word, place, Holds}
use Rattle.batch_queue.specs.declared.view.SendView.{SendView}
use Rattle.batch_queue.specs.declared.view.TakeView.{TakeView}
use Rattle.batch_queue.proofs.Numbers.{count_read, mark_read, unmarked, apart}

never : {X : Type 0} (b : Bool) → b ≡ false → b ≡ true → X
never b is_false is_true = absurd (true≢false (sym is_true ∙ is_false))

-- it holds of the one word of a list
all_one : (w : ℕ) → IsWord w → (k d : ℕ) → k < length (w ∷ []) → IsWord (get_or (w ∷ []) k d)
all_one w is zero d h = is
all_one w is (suc k) d h = absurd (omega arith)

-- a prefix with the next number is a prefix
longer : (a l rest : List ℕ) → a ++ rest ≡ l → length a < length l → IsPrefix (a ++ get_or l (length a) 0 ∷ []) l
longer a l [] e h = absurd (omega (arith, ap length e, length-append a []))
longer a l (z ∷ rest) e h = let next : get_or l (length a) 0 ≡ z = ap (λ (m : List ℕ). get_or m (length a) 0) (sym e) ∙ get_or-append_seam a z rest 0 in
    (rest, append_assoc a (get_or l (length a) 0 ∷ []) rest ∙ (ap (λ (v : ℕ). a ++ v ∷ rest) next ∙ e))

-- a prefix of the same length is the whole
whole : (a l rest : List ℕ) → a ++ rest ≡ l → length a ≡ length l → a ≡ l
whole a l [] e h = sym (append-nil a) ∙ e
whole a l (z ∷ rest) e h = absurd (omega (arith, ap length e, length-append a (z ∷ rest)))

module _ (cap : ℕ) (ws : List ℕ) (x : SendView) (y : TakeView) (h : Holds cap ws x y) where
  -- a store in an index word leaves the ring
  ring_stays : (i n : ℕ) → i < 2 → (k : ℕ) → y.released ≤ k → k < length x.sent → get_or (set ws i n) (place cap k) 0 ≡ get_or x.sent k 0
  ring_stays i n low k from below = get_or-set_other ws i (place cap k) n 0 (λ p. omega arith) ∙ h.ring k from below

  pub stores_slot : (word i : ℕ) → length ws ≡ cap + 2 → 1 ≤ cap → x.closed ≡ false → IsWord word → length x.sent < x.known_released + cap
      → i ≡ place cap (length x.sent) → Holds cap (set ws i word) (pushed x word) y
  stores_slot word i wide some_places still_open is_word room at =
      let long : length (x.sent ++ word ∷ []) ≡ length x.sent + 1 = omega (arith, length-append x.sent (word ∷ [])) in
      let below : length x.sent % cap < cap = mod-lt (length x.sent) some_places in
      let known : x.known_released ≤ y.released = h.order.released_known in
      let sent : x.published ≤ length x.sent = h.order.sent_published in record {
        index_words = (get_or-set_other ws i 0 word 0 (λ p. omega arith) ∙ h.index_words.0, get_or-set_other ws i 1 word 0 (λ p. omega arith) ∙ h.index_words.1);
        order = record {
          released_known = h.order.released_known;
          received_released = h.order.received_released;
          published_received = h.order.published_received;
          published_known = h.order.published_known;
          sent_published = omega arith;
          sent_fits = omega arith;
        };
        ring = λ k from to. dite (ℕ_discrete k (length x.sent))
            (λ is. ap (λ (z : ℕ). get_or (set ws i word) z 0) (ap (place cap) is ∙ sym at)
            ∙ (get_or-set_same ws i word 0 (omega arith) ∙ sym (ap (λ (z : ℕ). get_or (x.sent ++ word ∷ []) z 0) is ∙ get_or-append_seam x.sent word [] 0)))
            (λ other. let before : k < length x.sent = omega arith in get_or-set_other ws i (place cap k) word 0 (λ p. apart cap k (length x.sent) before (omega arith) (p ∙ at))
            ∙ (h.ring k from before ∙ sym (get_or-append x.sent (word ∷ []) 0 k before)));
        prefix = (h.prefix.0 ++ word ∷ [], sym (append_assoc y.received h.prefix.0 (word ∷ [])) ∙ ap (λ (l : List ℕ). l ++ word ∷ []) h.prefix.1);
        closing = record { closed_publishes = never x.closed still_open; closed_known = h.closing.closed_known; gone_known = h.closing.gone_known };
        knowledge = record { sender_knew = h.knowledge.sender_knew; receiver_knew = h.knowledge.receiver_knew };
        dropping = record { none_before_gone = h.dropping.none_before_gone; none_after_closing = h.dropping.none_after_closing };
        every_word = All-append IsWord x.sent (word ∷ []) h.every_word (all_one word is_word);
      }

  -- the tail is stored
  pub stores_tail : (n : ℕ) → length ws ≡ cap + 2 → x.closed ≡ false → n ≡ 2 * length x.sent → Holds cap (set ws 0 n) (published_all x) y
  stores_tail n wide still_open at =
      let known : y.known_published ≤ x.published = h.order.published_known in
      let sent : x.published ≤ length x.sent = h.order.sent_published in record {
        index_words = (
          get_or-set_same ws 0 n 0 (omega arith) ∙ (at ∙ (unmarked (length x.sent) ∙ ap (index_word (length x.sent)) (sym still_open))),
          get_or-set_other ws 0 1 n 0 (λ p. omega arith) ∙ h.index_words.1,
        );
        order = record {
          released_known = h.order.released_known;
          received_released = h.order.received_released;
          published_received = h.order.published_received;
          published_known = omega arith;
          sent_published = omega arith;
          sent_fits = h.order.sent_fits;
        };
        ring = ring_stays 0 n (omega arith);
        prefix = h.prefix;
        closing = record {
          closed_publishes = λ _. refl;
          closed_known = λ p. never x.closed still_open (h.closing.closed_known p).0;
          gone_known = h.closing.gone_known;
        };
        knowledge = record { sender_knew = h.knowledge.sender_knew; receiver_knew = h.knowledge.receiver_knew };
        dropping = record { none_before_gone = h.dropping.none_before_gone; none_after_closing = h.dropping.none_after_closing };
        every_word = h.every_word;
      }

  -- the tail is stored for the last time
  pub stores_last_tail : (n : ℕ) → length ws ≡ cap + 2 → x.closed ≡ false → n ≡ 2 * length x.sent + 1 → Holds cap (set ws 0 n) (closed_now x) y
  stores_last_tail n wide still_open at =
      let known : y.known_published ≤ x.published = h.order.published_known in
      let sent : x.published ≤ length x.sent = h.order.sent_published in record {
        index_words = (get_or-set_same ws 0 n 0 (omega arith) ∙ at, get_or-set_other ws 0 1 n 0 (λ p. omega arith) ∙ h.index_words.1);
        order = record {
          released_known = h.order.released_known;
          received_released = h.order.received_released;
          published_received = h.order.published_received;
          published_known = omega arith;
          sent_published = omega arith;
          sent_fits = h.order.sent_fits;
        };
        ring = ring_stays 0 n (omega arith);
        prefix = h.prefix;
        closing = record {
          closed_publishes = λ _. refl;
          closed_known = λ p. never x.closed still_open (h.closing.closed_known p).0;
          gone_known = h.closing.gone_known;
        };
        knowledge = record {
          sender_knew = λ p. (refl, h.closing.gone_known p);
          receiver_knew = λ p. never x.closed still_open (h.closing.closed_known (h.knowledge.receiver_knew p).1).0;
        };
        dropping = record { none_before_gone = h.dropping.none_before_gone; none_after_closing = λ _ p. h.dropping.none_before_gone p };
        every_word = h.every_word;
      }

  sees_head : Holds cap ws (saw_head x y.released y.gone) y
  sees_head =
      let known : x.known_released ≤ y.released = h.order.released_known in
      let fits : length x.sent ≤ x.known_released + cap = h.order.sent_fits in record {
        index_words = h.index_words;
        order = record {
          released_known = omega arith;
          received_released = h.order.received_released;
          published_received = h.order.published_received;
          published_known = h.order.published_known;
          sent_published = h.order.sent_published;
          sent_fits = omega arith;
        };
        ring = h.ring;
        prefix = h.prefix;
        closing = record { closed_publishes = h.closing.closed_publishes; closed_known = h.closing.closed_known; gone_known = λ p. p };
        knowledge = record { sender_knew = h.knowledge.sender_knew; receiver_knew = h.knowledge.receiver_knew };
        dropping = record {
          none_before_gone = λ p. h.dropping.none_before_gone (false_from_ne_true x.known_gone (λ q. never y.gone p (h.closing.gone_known q)));
          none_after_closing = h.dropping.none_after_closing;
        };
        every_word = h.every_word;
      }

  head_grows : HeadGrows x y.released y.gone
  head_grows =
      let received : y.released ≤ length y.received = h.order.received_released in
      let known : length y.received ≤ y.known_published = h.order.published_received in
      let published : y.known_published ≤ x.published = h.order.published_known in
      record { no_fewer = h.order.released_known; no_more = omega arith; stays_gone = h.closing.gone_known }

  -- the head is loaded
  pub loads_head : let n : ℕ = get_or ws 1 0 in Holds cap (set ws 1 n) (saw_head x (n / 2) (eqb (n % 2) 1)) y × HeadGrows x (n / 2) (eqb (n % 2) 1)
  loads_head = let n : ℕ = get_or ws 1 0 in
      let count : n / 2 ≡ y.released = count_read n y.released y.gone h.index_words.1 in
      let mark : eqb (n % 2) 1 ≡ y.gone = mark_read n y.released y.gone h.index_words.1 in
      let seen : Holds cap ws (saw_head x (n / 2) (eqb (n % 2) 1)) y × HeadGrows x (n / 2) (eqb (n % 2) 1)
      = subst (λ (z : ℕ × Bool). Holds cap ws (saw_head x z.0 z.1) y × HeadGrows x z.0 z.1) (λ i. (sym count i, sym mark i)) (sees_head, head_grows) in
      (subst (λ (l : List ℕ). Holds cap l (saw_head x (n / 2) (eqb (n % 2) 1)) y) (sym (set-get_or ws 1 0)) seen.0, seen.1)

  -- a word is dropped, which leaves every word of the table
  drops : (word : ℕ) → x.known_gone ≡ true → x.closed ≡ false → Holds cap ws (discarded x word) y
  drops word is_gone still_open = record {
    index_words = h.index_words;
    order = record {
      released_known = h.order.released_known;
      received_released = h.order.received_released;
      published_received = h.order.published_received;
      published_known = h.order.published_known;
      sent_published = h.order.sent_published;
      sent_fits = h.order.sent_fits;
    };
    ring = h.ring;
    prefix = h.prefix;
    closing = record { closed_publishes = h.closing.closed_publishes; closed_known = h.closing.closed_known; gone_known = h.closing.gone_known };
    knowledge = record { sender_knew = h.knowledge.sender_knew; receiver_knew = h.knowledge.receiver_knew };
    dropping = record { none_before_gone = λ p. never x.known_gone p is_gone; none_after_closing = λ p _. never x.closed still_open p };
    every_word = h.every_word;
  }

  pub drops_word : (word : ℕ) → x.known_gone ≡ true → x.closed ≡ false → let n : ℕ = get_or ws 0 0 in Holds cap (set ws 0 (either (eqb n word) word n)) (discarded x word) y
  drops_word word is_gone still_open = let n : ℕ = get_or ws 0 0 in
      let same : Holds cap (set ws 0 n) (discarded x word) y = subst (λ (l : List ℕ). Holds cap l (discarded x word) y) (sym (set-get_or ws 0 0)) (drops word is_gone still_open) in
      exchanged n word word (λ (m : ℕ). Holds cap (set ws 0 m) (discarded x word) y) (λ hit. subst (λ (m : ℕ). Holds cap (set ws 0 m) (discarded x word) y) hit same) (λ _. same)

  -- a slot is loaded
  pub loads_slot : (i : ℕ) → ¬ (length y.received ≡ y.known_published) → i ≡ place cap (length y.received)
      → let n : ℕ = get_or ws i 0 in Holds cap (set ws i n) x (took y n) × IsWord n
  loads_slot i some_left at = let n : ℕ = get_or ws i 0 in
      let k : ℕ = length y.received in
      let released : y.released ≤ k = h.order.received_released in
      let known : k ≤ y.known_published = h.order.published_received in
      let published : y.known_published ≤ x.published = h.order.published_known in
      let sent : x.published ≤ length x.sent = h.order.sent_published in
      let below : k < length x.sent = omega arith in
      let found : n ≡ get_or x.sent k 0 = ap (λ (z : ℕ). get_or ws z 0) at ∙ h.ring k released below in
      let longer_by : length (y.received ++ n ∷ []) ≡ k + 1 = omega (arith, length-append y.received (n ∷ [])) in
      let kept : Holds cap ws x (took y n) = record {
        index_words = h.index_words;
        order = record {
          released_known = h.order.released_known;
          received_released = omega arith;
          published_received = omega arith;
          published_known = h.order.published_known;
          sent_published = h.order.sent_published;
          sent_fits = h.order.sent_fits;
        };
        ring = h.ring;
        prefix = subst (λ (v : ℕ). IsPrefix (y.received ++ v ∷ []) x.sent) (sym found) (longer y.received x.sent h.prefix.0 h.prefix.1 below);
        closing = record { closed_publishes = h.closing.closed_publishes; closed_known = h.closing.closed_known; gone_known = h.closing.gone_known };
        knowledge = record { sender_knew = h.knowledge.sender_knew; receiver_knew = h.knowledge.receiver_knew };
        dropping = h.dropping;
        every_word = h.every_word;
      } in
      (subst (λ (l : List ℕ). Holds cap l x (took y n)) (sym (set-get_or ws i 0)) kept, subst IsWord (sym found) (h.every_word k 0 below))

  -- the head is stored
  pub stores_head : (n : ℕ) → length ws ≡ cap + 2 → 1 ≤ cap → y.gone ≡ false → n ≡ 2 * length y.received → Holds cap (set ws 1 n) x (released_all y)
  stores_head n wide some_places still_there at =
      let known : x.known_released ≤ y.released = h.order.released_known in
      let released : y.released ≤ length y.received = h.order.received_released in record {
        index_words = (
          get_or-set_other ws 1 0 n 0 (λ p. omega arith) ∙ h.index_words.0,
          get_or-set_same ws 1 n 0 (omega arith) ∙ (at ∙ (unmarked (length y.received) ∙ ap (index_word (length y.received)) (sym still_there))),
        );
        order = record {
          released_known = omega arith;
          received_released = omega arith;
          published_received = h.order.published_received;
          published_known = h.order.published_known;
          sent_published = h.order.sent_published;
          sent_fits = h.order.sent_fits;
        };
        ring = λ k from. ring_stays 1 n (omega arith) k (omega arith);
        prefix = h.prefix;
        closing = record { closed_publishes = h.closing.closed_publishes; closed_known = h.closing.closed_known; gone_known = h.closing.gone_known };
        knowledge = record { sender_knew = h.knowledge.sender_knew; receiver_knew = h.knowledge.receiver_knew };
        dropping = h.dropping;
        every_word = h.every_word;
      }

  -- the head is stored for the last time
  pub stores_last_head : (n : ℕ) → length ws ≡ cap + 2 → 1 ≤ cap → y.gone ≡ false → n ≡ 2 * length y.received + 1 → Holds cap (set ws 1 n) x (gone_now y)
  stores_last_head n wide some_places still_there at =
      let known : x.known_released ≤ y.released = h.order.released_known in
      let released : y.released ≤ length y.received = h.order.received_released in record {
        index_words = (get_or-set_other ws 1 0 n 0 (λ p. omega arith) ∙ h.index_words.0, get_or-set_same ws 1 n 0 (omega arith) ∙ at);
        order = record {
          released_known = omega arith;
          received_released = omega arith;
          published_received = h.order.published_received;
          published_known = h.order.published_known;
          sent_published = h.order.sent_published;
          sent_fits = h.order.sent_fits;
        };
        ring = λ k from. ring_stays 1 n (omega arith) k (omega arith);
        prefix = h.prefix;
        closing = record { closed_publishes = h.closing.closed_publishes; closed_known = h.closing.closed_known; gone_known = λ _. refl };
        knowledge = record {
          sender_knew = λ p. ((h.knowledge.sender_knew p).0, refl);
          receiver_knew = λ p. (refl, p, false_from_ne_true x.knew_gone (λ q. never y.gone still_there (h.knowledge.sender_knew q).1));
        };
        dropping = h.dropping;
        every_word = h.every_word;
      }

  sees_tail : Holds cap ws x (saw_tail y x.published x.closed)
  sees_tail =
      let known : y.known_published ≤ x.published = h.order.published_known in
      let received : length y.received ≤ y.known_published = h.order.published_received in record {
        index_words = h.index_words;
        order = record {
          released_known = h.order.released_known;
          received_released = h.order.received_released;
          published_received = omega arith;
          published_known = omega arith;
          sent_published = h.order.sent_published;
          sent_fits = h.order.sent_fits;
        };
        ring = h.ring;
        prefix = h.prefix;
        closing = record { closed_publishes = h.closing.closed_publishes; closed_known = λ p. (p, refl); gone_known = h.closing.gone_known };
        knowledge = record {
          sender_knew = h.knowledge.sender_knew;
          receiver_knew = λ p. let knew = h.knowledge.receiver_knew p in (knew.0, (h.closing.closed_known knew.1).0, knew.2);
        };
        dropping = h.dropping;
        every_word = h.every_word;
      }

  tail_grows : TailGrows y x.published x.closed
  tail_grows = record { no_fewer = h.order.published_known; stays_closed = λ p. (h.closing.closed_known p).0; all_published = λ p. sym (h.closing.closed_known p).1 }

  -- the tail is loaded
  pub loads_tail : let n : ℕ = get_or ws 0 0 in Holds cap (set ws 0 n) x (saw_tail y (n / 2) (eqb (n % 2) 1)) × TailGrows y (n / 2) (eqb (n % 2) 1)
  loads_tail = let n : ℕ = get_or ws 0 0 in
      let count : n / 2 ≡ x.published = count_read n x.published x.closed h.index_words.0 in
      let mark : eqb (n % 2) 1 ≡ x.closed = mark_read n x.published x.closed h.index_words.0 in
      let seen : Holds cap ws x (saw_tail y (n / 2) (eqb (n % 2) 1)) × TailGrows y (n / 2) (eqb (n % 2) 1)
      = subst (λ (z : ℕ × Bool). Holds cap ws x (saw_tail y z.0 z.1) × TailGrows y z.0 z.1) (λ i. (sym count i, sym mark i)) (sees_tail, tail_grows) in
      (subst (λ (l : List ℕ). Holds cap l x (saw_tail y (n / 2) (eqb (n % 2) 1))) (sym (set-get_or ws 0 0)) seen.0, seen.1)

  -- what the two ends then know of each other
  pub agrees : Agree x y
  agrees = record {
    in_order = h.prefix;
    whole = λ known all. whole y.received x.sent h.prefix.0 h.prefix.1 (all ∙ ((h.closing.closed_known known).1 ∙ h.closing.closed_publishes (h.closing.closed_known known).0));
    closed = λ known. (h.closing.closed_known known).0;
    gone = h.closing.gone_known;
    closed_first = λ knew. let k = h.knowledge.receiver_knew knew in let closed = (h.closing.closed_known k.1).0 in (closed, k.2, h.dropping.none_after_closing closed k.2);
    dropped_late = h.dropping.none_before_gone;
  }
