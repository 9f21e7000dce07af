-- The ideal run: what it writes only grows, and where it has ended it stays.
use Rattle.std.proofs.Common.{◌≡◌, ℕ, zero, suc, ◌+◌, ◌-◌, ◌≤◌, true, List, [], ◌++◌, length, refl, sym, ap, ◌∙◌, subst, arith, inl, inr, length-append, append-nil}
use Rattle.std.proofs.lemmas.Bool.{cases_lt}
use Rattle.srmt_base.specs.declared.event.Event.{Event}
use Rattle.srmt_base.specs.declared.trap.SourceEnd.{SourceEnd}
use Rattle.mid_code.specs.Classes.{SharedProgram}
use Rattle.world.specs.Standing.{Standing}
use Rattle.mid_code.specs.Pairs.{HasSites}
use Rattle.word_stream.specs.declared.request.Request.{Request}
use Rattle.word_stream.specs.declared.request.Response.{Response}
use Rattle.word_stream.specs.Exchange.{is_guarded, response_words, checks_of, acks_of}
use Rattle.world.specs.World.{ask, Setting}
use Rattle.world.specs.Requests.{Wants, Runs, Dies, Requests, Lost, wants, Resumed, Back, Over, resume}
use Rattle.world.specs.Ideal.{Place, Here, Owed, Ended, IdealState, place_by, words_owed, requested, here_next, owed_next, next_by, ideal_next, ideal}
use Rattle.pair_core.specs.Fit.{IsPrefix}
use Rattle.pair_core.proofs.Prefixes.{prefix_refl, prefix_trans}
use Rattle.pair_core.proofs.Groups.{Stands, next_line, never_dies, never_lost, stands_runs, stands_back, stands_started}
use Rattle.pair_core.proofs.Exchanges.{asks_guarded, same_count}

-- what stands at a place of the ideal run
abbrev pub PlaceFits : SharedProgram → Place → Type 0
PlaceFits program (Here m) = Stands program m
PlaceFits program (Owed m response) = Stands program m × (q : Request) × (wants program m ≡ Requests q)
PlaceFits program (Ended end) = Unit {0}

-- a later state has sent and written all that an earlier one had, and no acknowledgement without a word
pub record Grows (c d : IdealState) : Type 0 where
  pub words : IsPrefix c.words d.words
  pub echoes : IsPrefix c.echoes d.echoes
  pub events : IsPrefix c.events d.events
  pub paced : length d.echoes + length c.words ≤ length c.echoes + length d.words

pub grows_none : (c : IdealState) → Grows c c
grows_none c = record { words = prefix_refl c.words; echoes = prefix_refl c.echoes; events = prefix_refl c.events; paced = omega arith }

pub grows_on : (c d e : IdealState) → Grows c d → Grows d e → Grows c e
grows_on c d e f g = record {
  words = prefix_trans c.words d.words e.words f.words g.words;
  echoes = prefix_trans c.echoes d.echoes e.echoes f.echoes g.echoes;
  events = prefix_trans c.events d.events e.events f.events g.events;
  paced = omega (arith, f.paced, g.paced);
}

-- words alone
grows_words : (c d : IdealState) (more : List ℕ) → d.words ≡ c.words ++ more → d.echoes ≡ c.echoes → d.events ≡ c.events → Grows c d
grows_words c d more e f v = record {
  words = (more, e);
  echoes = ([], f ∙ sym (append-nil c.echoes));
  events = ([], v ∙ sym (append-nil c.events));
  paced = omega (arith, ap length e, length-append c.words more, ap length f);
}

-- words with as many acknowledgements
grows_both : (c d : IdealState) (more back : List ℕ) (new : List Event) → d.words ≡ c.words ++ more → d.echoes ≡ c.echoes ++ back → d.events ≡ c.events ++ new → length back ≡ length more → Grows c d
grows_both c d more back new e f v same = record {
  words = (more, e);
  echoes = (back, f);
  events = (new, v);
  paced = omega (arith, ap length e, length-append c.words more, ap length f, length-append c.echoes back);
}

-- a state after a request that was answered, and after its response was taken
abbrev pub asked_state : SharedProgram → Standing → Request → IdealState → IdealState
asked_state program m q c = requested true program m q (ask c.world q) c

abbrev pub answered_state : SharedProgram → Standing → Request → IdealState → IdealState
answered_state program m q c = record {
  place = place_by (resume program m (ask c.world q).response);
  world = (ask c.world q).world;
  words = (c.words ++ checks_of q) ++ response_words q (ask c.world q).response;
  echoes = c.echoes ++ acks_of q;
  events = c.events ++ (ask c.world q).events;
}

module _ (program : SharedProgram) (c : IdealState) where
  pub next_runs : (m next : Standing) → c.place ≡ Here m → wants program m ≡ Runs next → ideal_next program c ≡ record c { place = Here next }
  next_runs m next here h = ap (λ p. next_by p program c) here ∙ ap (λ x. here_next x program m c) h

  asks_on : (m : Standing) (q : Request) → Stands program m → wants program m ≡ Requests q → requested (is_guarded q) program m q (ask c.world q) c ≡ asked_state program m q c
  asks_on m q stands h = ap (λ b. requested b program m q (ask c.world q) c) (asks_guarded program m stands q h)

  pub next_asks : (m : Standing) (q : Request) → c.place ≡ Here m → Stands program m → wants program m ≡ Requests q → ideal_next program c ≡ asked_state program m q c
  next_asks m q here stands h =
      ap (λ p. next_by p program c) here ∙ ap (λ x. here_next x program m c) h ∙ asks_on m q stands h

  pub next_owed : (m : Standing) (r : Response) → c.place ≡ Owed m r → ideal_next program c ≡ owed_next program m r c
  next_owed m r owed = ap (λ p. next_by p program c) owed

  pub next_ended : (end : SourceEnd) → c.place ≡ Ended end → ideal_next program c ≡ c
  next_ended end ended = ap (λ p. next_by p program c) ended

  -- a request is answered in two steps
  pub next_twice : (m : Standing) (q : Request) → c.place ≡ Here m → Stands program m → wants program m ≡ Requests q → ideal_next program (ideal_next program c) ≡ answered_state program m q c
  next_twice m q here stands h =
      ap (ideal_next program) (next_asks m q here stands h)
      ∙ ap (λ x. record {
        place = place_by (resume program m (ask c.world q).response);
        world = (ask c.world q).world;
        words = (c.words ++ checks_of q) ++ words_owed x (ask c.world q).response;
        echoes = c.echoes ++ acks_of q;
        events = c.events ++ (ask c.world q).events;
      }) h

  grows_here : (m : Standing) → Stands program m → (x : Wants) → wants program m ≡ x → Grows c (here_next x program m c)
  grows_here m stands (Runs next) h = grows_words c (record c { place = Here next }) [] (sym (append-nil c.words)) refl refl
  grows_here m stands (Dies words trap line) h = absurd (never_dies program m stands (next_line program m stands) words trap line h)
  grows_here m stands (Requests q) h =
      subst (Grows c) (sym (asks_on m q stands h)) (grows_both c (asked_state program m q c) (checks_of q) (acks_of q) (ask c.world q).events refl refl refl (same_count program m stands q h))
  grows_here m stands (Lost words) h = grows_none c

  grows_at : (p : Place) → PlaceFits program p → Grows c (next_by p program c)
  grows_at (Here m) fits = grows_here m fits (wants program m) refl
  grows_at (Owed m r) fits = grows_words c (owed_next program m r c) (words_owed (wants program m) r) refl refl refl
  grows_at (Ended end) fits = grows_none c

  pub grows_next : PlaceFits program c.place → Grows c (ideal_next program c)
  grows_next fits = grows_at c.place fits

  fits_resumed : (m : Standing) → Stands program m → (q : Request) → wants program m ≡ Requests q → (r : Response) (x : Resumed) → resume program m r ≡ x → PlaceFits program (place_by x)
  fits_resumed m stands q h r (Back next) back = stands_back program m stands (next_line program m stands) q r next h back
  fits_resumed m stands q h r (Over end) over = tt

  fits_here : (m : Standing) → Stands program m → (x : Wants) → wants program m ≡ x → PlaceFits program (here_next x program m c).place
  fits_here m stands (Runs next) h = stands_runs program m stands (next_line program m stands) next h
  fits_here m stands (Dies words trap line) h = tt
  fits_here m stands (Requests q) h =
      subst (λ d. PlaceFits program d.place) (sym (asks_on m q stands h)) (stands, q, h)
  fits_here m stands (Lost words) h = absurd (never_lost program m stands (next_line program m stands) words h)

  fits_at : (p : Place) → c.place ≡ p → PlaceFits program p → PlaceFits program (next_by p program c).place
  fits_at (Here m) same fits = fits_here m fits (wants program m) refl
  fits_at (Owed m r) same fits = fits_resumed m fits.0 fits.1 fits.2 r (resume program m r) refl
  fits_at (Ended end) same fits = subst (PlaceFits program) (sym same) fits

  pub fits_next : PlaceFits program c.place → PlaceFits program (ideal_next program c).place
  fits_next fits = fits_at c.place refl fits

module _ (setting : Setting) (sites : HasSites setting.program) where
  pub fits_point : (i : ℕ) → PlaceFits setting.program (ideal setting i).place
  fits_point zero = stands_started setting.program setting.limits sites
  fits_point (suc i) = fits_next setting.program (ideal setting i) (fits_point i)

  pub stands_point : (i : ℕ) (m : Standing) → (ideal setting i).place ≡ Here m → Stands setting.program m
  stands_point i m here = subst (PlaceFits setting.program) here (fits_point i)

  pub stands_owed : (i : ℕ) (m : Standing) (r : Response) → (ideal setting i).place ≡ Owed m r → Stands setting.program m
  stands_owed i m r owed = let fits : PlaceFits setting.program (Owed m r) = subst (PlaceFits setting.program) owed (fits_point i) in fits.0

  -- after a request was checked
  pub asked_words : (i : ℕ) (m : Standing) (q : Request) → (ideal setting i).place ≡ Here m → wants setting.program m ≡ Requests q → (ideal setting (suc i)).words ≡ (ideal setting i).words ++ checks_of q
  asked_words i m q here h = ap (λ d. d.words) (next_asks setting.program (ideal setting i) m q here (stands_point i m here) h)

  pub asked_echoes : (i : ℕ) (m : Standing) (q : Request) → (ideal setting i).place ≡ Here m → wants setting.program m ≡ Requests q → (ideal setting (suc i)).echoes ≡ (ideal setting i).echoes ++ acks_of q
  asked_echoes i m q here h = ap (λ d. d.echoes) (next_asks setting.program (ideal setting i) m q here (stands_point i m here) h)

  pub asked_events : (i : ℕ) (m : Standing) (q : Request) → (ideal setting i).place ≡ Here m → wants setting.program m ≡ Requests q → (ideal setting (suc i)).events ≡ (ideal setting i).events ++ (ask (ideal setting i).world q).events
  asked_events i m q here h = ap (λ d. d.events) (next_asks setting.program (ideal setting i) m q here (stands_point i m here) h)

  grows_by : (k i : ℕ) → Grows (ideal setting i) (ideal setting (k + i))
  grows_by zero i = let e : i ≡ zero + i = omega arith in subst (λ x. Grows (ideal setting i) (ideal setting x)) e (grows_none (ideal setting i))
  grows_by (suc k) i =
      let e : suc (k + i) ≡ suc k + i = omega arith in
      subst (λ x. Grows (ideal setting i) (ideal setting x)) e
      (grows_on (ideal setting i) (ideal setting (k + i)) (ideal setting (suc (k + i))) (grows_by k i) (grows_next setting.program (ideal setting (k + i)) (fits_point (k + i))))

  pub grows : (i j : ℕ) → i ≤ j → Grows (ideal setting i) (ideal setting j)
  grows i j h =
      let e : (j - i) + i ≡ j = omega arith in
      subst (λ x. Grows (ideal setting i) (ideal setting x)) e (grows_by (j - i) i)

  ended_by : (k i : ℕ) (end : SourceEnd) → (ideal setting i).place ≡ Ended end → ideal setting (k + i) ≡ ideal setting i
  ended_by zero i end ended = let e : zero + i ≡ i = omega arith in ap (ideal setting) e
  ended_by (suc k) i end ended =
      let e : suc k + i ≡ suc (k + i) = omega arith in
      ap (ideal setting) e ∙ ap (ideal_next setting.program) (ended_by k i end ended) ∙ next_ended setting.program (ideal setting i) end ended

  -- nothing changes behind the end
  pub end_stays : (i j : ℕ) (end : SourceEnd) → (ideal setting i).place ≡ Ended end → i ≤ j → ideal setting j ≡ ideal setting i
  end_stays i j end ended h =
      let e : j ≡ (j - i) + i = omega arith in
      ap (ideal setting) e ∙ ended_by (j - i) i end ended

  pub below_end : (i k : ℕ) (end : SourceEnd) → (ideal setting i).place ≡ Ended end → Grows (ideal setting k) (ideal setting i)
  below_end i k end ended =
      elim (cases_lt k i) as (λ _. Grows (ideal setting k) (ideal setting i)) [
        | inl less ↦ grows k i (omega arith)
        | inr more ↦ subst (λ c. Grows c (ideal setting i)) (sym (end_stays i k end ended more)) (grows_none (ideal setting i))
      ]

  pub one_end : (i j : ℕ) (e f : SourceEnd) → (ideal setting i).place ≡ Ended e → (ideal setting j).place ≡ Ended f → ideal setting i ≡ ideal setting j
  one_end i j e f at_i at_j =
      elim (cases_lt i j) as (λ _. ideal setting i ≡ ideal setting j) [
        | inl less ↦ sym (end_stays i j e at_i (omega arith))
        | inr more ↦ end_stays j i f at_j more
      ]
