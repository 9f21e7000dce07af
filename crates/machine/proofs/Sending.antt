-- Words that are sent one after another.
use Rattle.std.proofs.Common.{◌≡◌, ℕ, ◌+◌, ◌<◌, Bool, true, false, List, [], ◌∷◌, ◌++◌, refl, sym, ap, ◌∙◌, arith, length, map, take, get_or, length-append, append-nil, append_assoc}
use Rattle.std.proofs.lemmas.List.{take_more, map-append}
use Rattle.machine.specs.Link.{Shown, kept, dropped_more, IsSent}

pub kept_none : (gone : Bool) (sent : List ℕ) → sent ≡ kept gone sent []
kept_none true sent = refl
kept_none false sent = sym (append-nil sent)

kept_both : (gone : Bool) (sent xs ys : List ℕ) → kept gone (kept gone sent xs) ys ≡ kept gone sent (xs ++ ys)
kept_both true sent xs ys = refl
kept_both false sent xs ys = append_assoc sent xs ys

pub dropped_none : (gone : Bool) (dropped : ℕ) → dropped ≡ dropped_more gone dropped 0
dropped_none true dropped = omega arith
dropped_none false dropped = refl

dropped_both : (gone : Bool) (dropped a b c : ℕ) → a + b ≡ c → dropped_more gone (dropped_more gone dropped a) b ≡ dropped_more gone dropped c
dropped_both true dropped a b c e = omega arith
dropped_both false dropped a b c e = refl

pub sent_none : (link : Shown) → IsSent [] link link
sent_none link = record {
  made = refl;
  sent = kept_none link.gone link.sent;
  dropped = dropped_none link.gone link.dropped;
  taken = refl;
  spare = omega arith;
  gone = refl;
  asks = refl;
  last = refl;
}

-- some words, and then some more
pub sent_both : (first link after : Shown) (xs ys all : List ℕ) → xs ++ ys ≡ all → IsSent xs first link → IsSent ys link after → IsSent all first after
sent_both first link after xs ys all e s t =
    let both : length xs + length ys ≡ length all = sym (length-append xs ys) ∙ ap length e in
    record {
      made = t.made ∙ s.made;
      sent = t.sent ∙ ap (λ g. kept g link.sent ys) s.gone ∙ ap (λ ws. kept first.gone ws ys) s.sent ∙ kept_both first.gone first.sent xs ys ∙ ap (kept first.gone first.sent) e;
      dropped =
          t.dropped ∙ ap (λ g. dropped_more g link.dropped (length ys)) s.gone ∙ ap (λ n. dropped_more first.gone n (length ys)) s.dropped
          ∙ dropped_both first.gone first.dropped (length xs) (length ys) (length all) both;
      taken = t.taken ∙ s.taken;
      spare = omega (arith, s.spare, t.spare, both);
      gone = t.gone ∙ s.gone;
      asks = t.asks ∙ s.asks;
      last = t.last ∙ s.last;
    }

-- the words of one operand more
pub words_more : (f : ℕ → ℕ) (r : ℕ → ℕ) (args : List ℕ) (i : ℕ) → i < length args → map f (map r (take i args)) ++ f (r (get_or args i 0)) ∷ [] ≡ map f (map r (take (i + 1) args))
words_more f r args i within =
    sym (ap (λ t. map f (map r t)) (take_more args i 0 within) ∙ ap (map f) (map-append r (take i args) (get_or args i 0 ∷ [])) ∙ map-append f (map r (take i args)) (r (get_or args i 0) ∷ []))
