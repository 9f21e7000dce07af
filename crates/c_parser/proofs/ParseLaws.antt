-- What the whole parse answers: the unit, the refusal of the tokens, or that of the first token that is nested too
-- deeply, whichever place is first.
use Rattle.std.proofs.Common.{◌≡◌, ℕ, zero, suc, ◌+◌, ◌-◌, ◌≤◌, Result, ◌<◌, Bool, true, false, List, [], ◌∷◌, ◌++◌, length, take, drop, get_or, refl, ap, sym, ◌∙◌, subst, Option, Some, None, Ok, Err, ◌⊎◌, inl, inr, if◌then◌else◌, length-append, arith}
use Rattle.std.specs.Prelude.{IfSome}
use Rattle.std.proofs.lemmas.List.{append-nil, append_assoc, take-append-drop, length-take-le, length-drop}
use Rattle.std.proofs.Math.Seq.{drop-append_seam}
use Rattle.c_lexer.specs.declared.token.Token.{Token}
use Rattle.c_tree.specs.declared.unit.Unit.{Unit as TheUnit}
use Rattle.c_parser.specs.declared.refusal.ParseRefusal.{ParseRefusal}
use Rattle.c_parser.specs.declared.refusal.ParseRefusal.TheVariants.{Expected, LeftOut, TooDeep, Memory}
use Rattle.c_expr.specs.Nodes.{Bytes}
use Rattle.c_parser.specs.Units.{Derives}
use Rattle.c_parser.specs.Nesting.{first_too_deep}
use Rattle.c_parser.specs.Refusals.{BeginsUnit, Stops, RefusedAt, is_left_out, IsRefusalOf, NoneTooDeep, Refuses}
use Rattle.c_parser.specs.Answers.{Answers, IsUnitWithin, UnlessMemory}
use Rattle.c_parser.specs.ReadingUnits.{unit_of}
use Rattle.c_expr.proofs.Alike.{head_same, tail_same, some_same}
use Rattle.c_parser.proofs.UnitLaws.{one_unit_of, unit_of_found}
use Rattle.c_parser.proofs.RefusalLaws.{unit_of_refused, refusal_is_no_unit, cut_once}

-- ---- beginnings

pub begins_before : (src : Bytes) (front behind : List Token) → BeginsUnit (front ++ behind) src → BeginsUnit front src
begins_before src front behind h = (behind ++ h.0, h.1, (let P : List Token → Type 0 = λ v. Derives v src h.1 in subst P (append_assoc front behind h.0) h.2))

pub unit_begins : (src : Bytes) (w : List Token) (u : TheUnit) → Derives w src u → BeginsUnit w src
unit_begins src w u h = ([], u, (let P : List Token → Type 0 = λ v. Derives v src u in subst P (sym (append-nil w)) h))

-- ---- no token is nested too deeply in front

none_at_all : (tokens front : List Token) → first_too_deep tokens ≡ None → NoneTooDeep tokens front
none_at_all tokens front e = let P : Option ℕ → Type 0 = λ o. IfSome o (λ deep. length front < deep) in subst P (sym e) tt

none_before : (tokens front : List Token) (at : ℕ) → first_too_deep tokens ≡ Some at → length front < at → NoneTooDeep tokens front
none_before tokens front at e lt = let P : Option ℕ → Type 0 = λ o. IfSome o (λ deep. length front < deep) in subst P (sym e) lt

none_says : (tokens front : List Token) (at : ℕ) → first_too_deep tokens ≡ Some at → NoneTooDeep tokens front → length front < at
none_says tokens front at e h = let P : Option ℕ → Type 0 = λ o. IfSome o (λ deep. length front < deep) in subst P e h

-- ---- which refusal

no_too_deep : (src : Bytes) (rest : List Token) (place : ℕ) → IsRefusalOf src rest (TooDeep place) → ⊥
no_too_deep src [] place e = cc
no_too_deep src (t ∷ rest) place e = by_kind (is_left_out t.kind) e
  where
    by_kind : (b : Bool) → TooDeep place ≡ (if b then LeftOut t.start t.kind else Expected t.start) → ⊥
    by_kind true d = cc
    by_kind false d = cc

no_memory : (src : Bytes) (rest : List Token) → IsRefusalOf src rest Memory → ⊥
no_memory src [] e = cc
no_memory src (t ∷ rest) e = by_kind (is_left_out t.kind) e
  where
    by_kind : (b : Bool) → Memory ≡ (if b then LeftOut t.start t.kind else Expected t.start) → ⊥
    by_kind true d = cc
    by_kind false d = cc

pub refuses_at : (tokens : List Token) (src : Bytes) (refusal : ParseRefusal) (front rest : List Token) → RefusedAt tokens src front rest → NoneTooDeep tokens front → IsRefusalOf src rest refusal → Refuses tokens src refusal
refuses_at tokens src (Expected place) front rest h n e = (front, rest, h, n, e)
refuses_at tokens src (LeftOut place kind) front rest h n e = (front, rest, h, n, e)
refuses_at tokens src (TooDeep place) front rest h n e = absurd (no_too_deep src rest place e)
refuses_at tokens src Memory front rest h n e = absurd (no_memory src rest e)

behind_front : (w front rest : List Token) (left : ℕ) → w ≡ front ++ rest → left ≡ length rest → drop (length w - left) w ≡ rest
behind_front w front rest left e d =
    let sum : length w ≡ length front + length rest = ap length e ∙ length-append front rest in
    let at : length w - left ≡ length front = omega arith in
    ap (λ n. drop n w) at ∙ (ap (drop (length front)) e ∙ drop-append_seam front rest)

-- ---- no token is nested too deeply

pub whole_refused : (src : Bytes) (tokens : List Token) (left : ℕ) (refusal : ParseRefusal) → first_too_deep tokens ≡ None → unit_of src tokens ≡ Err left → IsRefusalOf src (drop (length tokens - left) tokens) refusal → Refuses tokens src refusal
whole_refused src tokens left refusal none e r =
    let found = unit_of_refused src tokens left e in
    let P : List Token → Type 0 = λ v. IsRefusalOf src v refusal in
    refuses_at tokens src refusal found.0 found.1 found.2 (none_at_all tokens found.0 none) (subst P (behind_front tokens found.0 found.1 left found.2.parts found.3) r)

-- ---- a token is nested too deeply, and these stand in front of it

-- the tokens at a place
pub cut_at : (tokens : List Token) (at : ℕ) (t : Token) → at < length tokens → t ≡ get_or tokens at t → tokens ≡ take at tokens ++ t ∷ drop (suc at) tokens
cut_at [] at t lt e = absurd (omega arith)
cut_at (u ∷ tokens) zero t lt e = ap (λ v. v ∷ tokens) (sym e)
cut_at (u ∷ tokens) (suc at) t lt e = ap (λ v. u ∷ v) (cut_at tokens at t (omega arith) e)

pub too_deep : (src : Bytes) (tokens front : List Token) (t : Token) (rest : List Token) → tokens ≡ front ++ t ∷ rest → first_too_deep tokens ≡ Some (length front) → BeginsUnit front src → Refuses tokens src (TooDeep t.start)
too_deep src tokens front t rest e d b = (front, t, rest, e, d, b, refl)

front_length : (tokens : List Token) (at : ℕ) → at < length tokens → at ≡ length (take at tokens)
front_length tokens at lt = sym (length-take-le at tokens (omega arith))

pub deep_behind_unit : (src : Bytes) (tokens : List Token) (at : ℕ) (t : Token) (u : TheUnit) (rest : List Token) → at < length tokens → t ≡ get_or tokens at t → first_too_deep tokens ≡ Some at
    → unit_of src (take at tokens) ≡ Ok (u, rest) → Refuses tokens src (TooDeep t.start)
deep_behind_unit src tokens at t u rest lt i d e =
    too_deep src tokens (take at tokens) t (drop (suc at) tokens) (cut_at tokens at t lt i) (d ∙ ap Some (front_length tokens at lt)) (unit_begins src (take at tokens) u (unit_of_found src (take at tokens) u rest e).0)

end_front : (w front rest : List Token) → w ≡ front ++ rest → 0 ≡ length rest → front ≡ w
end_front w front [] e d = sym (append-nil front) ∙ sym e
end_front w front (t ∷ rest) e d = absurd (omega arith)

pub deep_behind_beginning : (src : Bytes) (tokens : List Token) (at : ℕ) (t : Token) → at < length tokens → t ≡ get_or tokens at t → first_too_deep tokens ≡ Some at
    → unit_of src (take at tokens) ≡ Err 0 → Refuses tokens src (TooDeep t.start)
deep_behind_beginning src tokens at t lt i d e =
    let found = unit_of_refused src (take at tokens) 0 e in
    let P : List Token → Type 0 = λ v. BeginsUnit v src in
    too_deep src tokens (take at tokens) t (drop (suc at) tokens) (cut_at tokens at t lt i) (d ∙ ap Some (front_length tokens at lt)) (subst P (end_front (take at tokens) found.0 found.1 found.2.parts found.3) found.2.begins)

longer : (src : Bytes) (cut more front rest tokens : List Token) → tokens ≡ cut ++ more → 0 < length rest → RefusedAt cut src front rest → RefusedAt tokens src front (rest ++ more)
longer src cut more front [] tokens e lt h = absurd (omega arith)
longer src cut more front (t ∷ rest) tokens e lt h = record { parts = e ∙ (ap (λ v. v ++ more) h.parts ∙ append_assoc front (t ∷ rest) more); begins = h.begins; stops = h.stops }

pub front_refused : (src : Bytes) (tokens : List Token) (at left : ℕ) (refusal : ParseRefusal) → at < length tokens → first_too_deep tokens ≡ Some at → unit_of src (take at tokens) ≡ Err left → 0 < left
    → IsRefusalOf src (drop (at - left) tokens) refusal → Refuses tokens src refusal
front_refused src tokens at left refusal lt d e some r =
    let found = unit_of_refused src (take at tokens) left e in
    let split : tokens ≡ take at tokens ++ drop at tokens = sym (take-append-drop at tokens) in
    let long : at ≡ length (take at tokens) = front_length tokens at lt in
    let sum : length (take at tokens) ≡ length found.0 + length found.1 = ap length found.2.parts ∙ length-append found.0 found.1 in
    let size : left ≡ length found.1 = found.3 in
    let refused = longer src (take at tokens) (drop at tokens) found.0 found.1 tokens split (omega arith) found.2 in
    let begin : at - left ≡ length found.0 = omega arith in
    let P : List Token → Type 0 = λ v. IsRefusalOf src v refusal in
    let behind : drop (at - left) tokens ≡ found.1 ++ drop at tokens = ap (λ n. drop n tokens) begin ∙ (ap (drop (length found.0)) refused.parts ∙ drop-append_seam found.0 (found.1 ++ drop at tokens)) in
    refuses_at tokens src refusal found.0 (found.1 ++ drop at tokens) refused (none_before tokens found.0 at d (omega arith)) (subst P behind r)

-- ---- laws of refusals

pub refuses_no_unit : (tokens : List Token) (src : Bytes) (refusal : ParseRefusal) (u : TheUnit) → Refuses tokens src refusal → first_too_deep tokens ≡ None → Derives tokens src u → ⊥
refuses_no_unit tokens src (Expected place) u h none d = refusal_is_no_unit src tokens h.0 h.1 u h.2 d
refuses_no_unit tokens src (LeftOut place kind) u h none d = refusal_is_no_unit src tokens h.0 h.1 u h.2 d
refuses_no_unit tokens src (TooDeep place) u h none d = no_deep (sym none ∙ h.4)
  where
    no_deep : {n : ℕ} → Path (Option ℕ) None (Some n) → ⊥
    no_deep e = cc
refuses_no_unit tokens src Memory u h none d = h

pub refused_begins : (tokens : List Token) (src : Bytes) (refusal : ParseRefusal) → Refuses tokens src refusal → (front rest : List Token) × (tokens ≡ front ++ rest) × BeginsUnit front src
refused_begins tokens src (Expected place) h = (h.0, h.1, h.2.parts, h.2.begins)
refused_begins tokens src (LeftOut place kind) h = (h.0, h.1, h.2.parts, h.2.begins)
refused_begins tokens src (TooDeep place) h = (h.0, h.1 ∷ h.2, h.3, h.5)
refused_begins tokens src Memory h = absurd h

-- ---- one refusal

-- of two ways to cut a list one is in front of the other, or they are one
abbrev Further : List Token → List Token → List Token → Type 0
Further f g r = (t : Token) × (more : List Token) × (g ≡ f ++ t ∷ more) × ((rest : List Token) × (r ≡ t ∷ rest))

compare : (f g r s : List Token) → f ++ r ≡ g ++ s → Further f g r ⊎ Further g f s ⊎ ((f ≡ g) × (r ≡ s))
compare [] [] r s e = inr (inr (refl, e))
compare [] (u ∷ g) r s e = inl (u, g, refl, (g ++ s, e))
compare (t ∷ f) [] r s e = inr (inl (t, f, refl, (f ++ r, sym e)))
compare (t ∷ f) (u ∷ g) r s e = elim (compare f g r s (tail_same e)) [
  | inl h ↦ inl (h.0, h.1, ap (λ v. v ∷ g) (sym (head_same e)) ∙ ap (λ v. t ∷ v) h.2, h.3)
  | inr other ↦ (elim other [
    | inl h ↦ inr (inl (h.0, h.1, ap (λ v. v ∷ f) (head_same e) ∙ ap (λ v. u ∷ v) h.2, h.3))
    | inr same ↦ inr (inr (ap (λ v. v ∷ f) (head_same e) ∙ ap (λ v. u ∷ v) same.0, same.1))
  ])
]

-- no beginning lies behind the place of a refusal
not_further : (src : Bytes) (f g r : List Token) → Stops f src r → BeginsUnit g src → Further f g r → ⊥
not_further src f g [] stops b h = nothing_left h.3.1
  where
    nothing_left : {u : Token} {v : List Token} → [] ≡ u ∷ v → ⊥
    nothing_left e = cc
not_further src f g (t ∷ r) stops b h =
    let same : t ≡ h.0 = head_same h.3.1 in
    let P : List Token → Type 0 = λ v. BeginsUnit v src in
    let word : g ≡ (f ++ t ∷ []) ++ h.1 = h.2 ∙ (ap (λ v. f ++ v ∷ h.1) (sym same) ∙ sym (append_assoc f (t ∷ []) h.1)) in
    stops (begins_before src (f ++ t ∷ []) h.1 (subst P word b))

same_place : (src : Bytes) (tokens f g r s : List Token) → RefusedAt tokens src f r → RefusedAt tokens src g s → (f ≡ g) × (r ≡ s)
same_place src tokens f g r s h k = elim (compare f g r s (sym h.parts ∙ k.parts)) [
  | inl a ↦ absurd (not_further src f g r h.stops k.begins a)
  | inr other ↦ (elim other [
    | inl b ↦ absurd (not_further src g f s k.stops h.begins b)
    | inr same ↦ same
  ])
]

same_refusal : (src : Bytes) (rest : List Token) (a b : ParseRefusal) → IsRefusalOf src rest a → IsRefusalOf src rest b → a ≡ b
same_refusal src [] a b h k = h ∙ sym k
same_refusal src (t ∷ rest) a b h k = h ∙ sym k

abbrev Plainly : List Token → Bytes → ParseRefusal → Type 0
Plainly tokens src refusal = (front rest : List Token) × RefusedAt tokens src front rest × NoneTooDeep tokens front × IsRefusalOf src rest refusal

both_plain : (src : Bytes) (tokens : List Token) (a b : ParseRefusal) → Plainly tokens src a → Plainly tokens src b → a ≡ b
both_plain src tokens a b h k =
    let place = same_place src tokens h.0 k.0 h.1 k.1 h.2 k.2 in
    let P : List Token → Type 0 = λ v. IsRefusalOf src v a in
    same_refusal src k.1 a b (subst P place.1 h.4) k.4

-- a refusal in front of the first token that is nested too deeply stops what is to begin a unit there
not_both : (src : Bytes) (tokens : List Token) (a : ParseRefusal) (place : ℕ) → Plainly tokens src a → Refuses tokens src (TooDeep place) → ⊥
not_both src tokens a place h k =
    let lt : length h.0 < length k.0 = none_says tokens h.0 (length k.0) k.4 h.3 in
    elim (compare h.0 k.0 h.1 (k.1 ∷ k.2) (sym h.2.parts ∙ k.3)) [
      | inl f ↦ not_further src h.0 k.0 h.1 h.2.stops k.5 f
      | inr other ↦ (elim other [
        | inl f ↦ (let sum : length h.0 ≡ length k.0 + suc (length f.1) = ap length f.2 ∙ length-append k.0 (f.0 ∷ f.1) in absurd (omega arith))
        | inr same ↦ (let sum : length h.0 ≡ length k.0 = ap length same.0 in absurd (omega arith))
      ])
    ]

both_deep : (src : Bytes) (tokens : List Token) (p q : ℕ) → Refuses tokens src (TooDeep p) → Refuses tokens src (TooDeep q) → TooDeep p ≡ TooDeep q
both_deep src tokens p q h k =
    let size : length h.0 ≡ length k.0 = some_same (sym h.4 ∙ k.4) in
    let l1 : length tokens ≡ length h.0 + suc (length h.2) = ap length h.3 ∙ length-append h.0 (h.1 ∷ h.2) in
    let l2 : length tokens ≡ length k.0 + suc (length k.2) = ap length k.3 ∙ length-append k.0 (k.1 ∷ k.2) in
    let behind : length (h.1 ∷ h.2) ≡ length (k.1 ∷ k.2) = omega arith in
    let same = cut_once h.0 k.0 (h.1 ∷ h.2) (k.1 ∷ k.2) (sym h.3 ∙ k.3) behind in
    ap TooDeep (h.6 ∙ (ap (λ t. t.start) (head_same same.1) ∙ sym k.6))

pub one_refusal_of : (tokens : List Token) (src : Bytes) (a b : ParseRefusal) → Refuses tokens src a → Refuses tokens src b → a ≡ b
one_refusal_of tokens src Memory b h k = absurd h
one_refusal_of tokens src (Expected p) Memory h k = absurd k
one_refusal_of tokens src (LeftOut p x) Memory h k = absurd k
one_refusal_of tokens src (TooDeep p) Memory h k = absurd k
one_refusal_of tokens src (Expected p) (Expected q) h k = both_plain src tokens (Expected p) (Expected q) h k
one_refusal_of tokens src (Expected p) (LeftOut q y) h k = both_plain src tokens (Expected p) (LeftOut q y) h k
one_refusal_of tokens src (LeftOut p x) (Expected q) h k = both_plain src tokens (LeftOut p x) (Expected q) h k
one_refusal_of tokens src (LeftOut p x) (LeftOut q y) h k = both_plain src tokens (LeftOut p x) (LeftOut q y) h k
one_refusal_of tokens src (Expected p) (TooDeep q) h k = absurd (not_both src tokens (Expected p) q h k)
one_refusal_of tokens src (LeftOut p x) (TooDeep q) h k = absurd (not_both src tokens (LeftOut p x) q h k)
one_refusal_of tokens src (TooDeep p) (Expected q) h k = absurd (not_both src tokens (Expected q) p k h)
one_refusal_of tokens src (TooDeep p) (LeftOut q y) h k = absurd (not_both src tokens (LeftOut q y) p k h)
one_refusal_of tokens src (TooDeep p) (TooDeep q) h k = both_deep src tokens p q h k

-- ---- from what the parse answers

-- not more tokens are left than there are
pub refused_left : (src : Bytes) (w : List Token) (left : ℕ) → unit_of src w ≡ Err left → left ≤ length w
refused_left src w left e =
    let found = unit_of_refused src w left e in
    let sum : length w ≡ length found.0 + length found.1 = ap length found.2.parts ∙ length-append found.0 found.1 in
    let size : left ≡ length found.1 = found.3 in omega arith

refuses_of : (tokens : List Token) (src : Bytes) (e : ParseRefusal) → Answers tokens src (Err e) → (e ≡ Memory) ⊎ Refuses tokens src e
refuses_of tokens src (Expected place) h = inr h
refuses_of tokens src (LeftOut place kind) h = inr h
refuses_of tokens src (TooDeep place) h = inr h
refuses_of tokens src Memory h = inl refl

pub answers_refusal : (tokens : List Token) (src : Bytes) (e : ParseRefusal) → Refuses tokens src e → Answers tokens src (Err e)
answers_refusal tokens src (Expected place) h = h
answers_refusal tokens src (LeftOut place kind) h = h
answers_refusal tokens src (TooDeep place) h = h
answers_refusal tokens src Memory h = tt

pub answers_found : (tokens : List Token) (src : Bytes) (result : Result TheUnit ParseRefusal) → Answers tokens src result → (unit : TheUnit) → IsUnitWithin tokens src unit → UnlessMemory result (Ok unit)
answers_found tokens src (Ok u) h unit k = inr (ap Ok (one_unit_of src tokens u unit h.0 k.0))
answers_found tokens src (Err e) h unit k = elim (refuses_of tokens src e h) [
  | inl memory ↦ inl (ap Err memory)
  | inr refuses ↦ absurd (refuses_no_unit tokens src e unit refuses k.1 k.0)
]

pub answers_refused : (tokens : List Token) (src : Bytes) (result : Result TheUnit ParseRefusal) → Answers tokens src result → (refusal : ParseRefusal) → Refuses tokens src refusal → UnlessMemory result (Err refusal)
answers_refused tokens src (Ok u) h refusal k = absurd (refuses_no_unit tokens src refusal u k h.1 h.0)
answers_refused tokens src (Err e) h refusal k = elim (refuses_of tokens src e h) [
  | inl memory ↦ inl (ap Err memory)
  | inr refuses ↦ inr (ap Err (one_refusal_of tokens src e refusal refuses k))
]

pub answers_unit : (tokens : List Token) (src : Bytes) (unit : TheUnit) (rest : List Token) → first_too_deep tokens ≡ None → unit_of src tokens ≡ Ok (unit, rest) → Answers tokens src (Ok unit)
answers_unit tokens src unit rest none e = ((unit_of_found src tokens unit rest e).0, none)

-- ---- at a place in the tokens

cut_with : (tokens : List Token) (at : ℕ) (d : Token) → at < length tokens → tokens ≡ take at tokens ++ get_or tokens at d ∷ drop (suc at) tokens
cut_with [] at d lt = absurd (omega arith)
cut_with (u ∷ tokens) zero d lt = refl
cut_with (u ∷ tokens) (suc at) d lt = ap (λ v. u ∷ v) (cut_with tokens at d (omega arith))

deep_place : (src : Bytes) (tokens : List Token) (at : ℕ) (d : Token) → at < length tokens → first_too_deep tokens ≡ Some at → BeginsUnit (take at tokens) src → Answers tokens src (Err (TooDeep (get_or tokens at d).start))
deep_place src tokens at d lt deep b =
    (take at tokens, get_or tokens at d, drop (suc at) tokens, cut_with tokens at d lt, deep ∙ ap Some (front_length tokens at lt), b, refl)

pub deep_at_unit : (src : Bytes) (tokens : List Token) (at : ℕ) (d : Token) (u : TheUnit) (rest : List Token) → at < length tokens → first_too_deep tokens ≡ Some at → unit_of src (take at tokens) ≡ Ok (u, rest)
    → Answers tokens src (Err (TooDeep (get_or tokens at d).start))
deep_at_unit src tokens at d u rest lt deep e = deep_place src tokens at d lt deep (unit_begins src (take at tokens) u (unit_of_found src (take at tokens) u rest e).0)

pub deep_at_beginning : (src : Bytes) (tokens : List Token) (at left : ℕ) (d : Token) → at < length tokens → first_too_deep tokens ≡ Some at → left ≡ 0 → unit_of src (take at tokens) ≡ Err left
    → Answers tokens src (Err (TooDeep (get_or tokens at d).start))
deep_at_beginning src tokens at left d lt deep z e =
    let found = unit_of_refused src (take at tokens) left e in
    let P : List Token → Type 0 = λ v. BeginsUnit v src in
    deep_place src tokens at d lt deep (subst P (end_front (take at tokens) found.0 found.1 found.2.parts (sym z ∙ found.3)) found.2.begins)

pub front_left : (src : Bytes) (tokens : List Token) (at left : ℕ) → at < length tokens → unit_of src (take at tokens) ≡ Err left → left ≤ at
front_left src tokens at left lt e = let low = refused_left src (take at tokens) left e in let long = front_length tokens at lt in omega (arith, low, long)

take_whole : (tokens : List Token) (n : ℕ) → length tokens ≤ n → take n tokens ≡ tokens
take_whole [] zero le = refl
take_whole [] (suc n) le = refl
take_whole (t ∷ tokens) zero le = absurd (omega arith)
take_whole (t ∷ tokens) (suc n) le = ap (λ v. t ∷ v) (take_whole tokens n (omega arith))

-- the tokens from a place on, as a slice
slice_from : (tokens : List Token) (k : ℕ) → take (length tokens - k) (drop k tokens) ≡ drop k tokens
slice_from tokens k = take_whole (drop k tokens) (length tokens - k) (let e = length-drop k tokens in omega (arith, e))

pub slice_refusal : (src : Bytes) (tokens : List Token) (k : ℕ) (refusal : ParseRefusal) → IsRefusalOf src (take (length tokens - k) (drop k tokens)) refusal → IsRefusalOf src (drop k tokens) refusal
slice_refusal src tokens k refusal h = let P : List Token → Type 0 = λ v. IsRefusalOf src v refusal in subst P (slice_from tokens k) h
