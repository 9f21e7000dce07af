-- What a line begins with.
use Rattle.std.proofs.Common.{◌≡◌, ℕ, Bool, true, false, not, ◌&&◌, ◌||◌, List, [], ◌∷◌, ◌++◌, refl, ap, sym, ◌∙◌, Option, Some, None, option_map, ◌⊎◌, inl, inr, if◌then◌else◌, ◌==◌, arith, rules}
use Rattle.c_lexer.specs.declared.token.Token.{Token}
use Rattle.c_expr.specs.Codes.{Table, code, one_of, kinds, meaning, of_kind}
use Rattle.c_expr.specs.Spelling.{Spelling, One, Sign, Sequence, Is, ◌or◌}
use Rattle.c_expr.specs.Reading.{begins, then_begins}
use Rattle.c_expr.proofs.Repeat.{Filled}
use Rattle.c_expr.proofs.Alike.{false_is_not_true}

pub record Opens (ks : List ℕ) (w : List Token) : Type 0 where
  pub first : Token
  pub rest : List Token
  pub parts : w ≡ first ∷ rest
  pub kind : one_of ks (code first) ≡ true

-- what is spelled begins with a token of one of these kinds
abbrev pub Starts : {A : Type 0} → List ℕ → Spelling A → Type 0
Starts ks S = (x : _) (w : List Token) → S x w → Opens ks w

-- each of these kinds is one of those
abbrev pub within : List ℕ → List ℕ → Bool
within [] ls = true
within (k ∷ ks) ls = one_of ls k && within ks ls

-- none of these kinds is one of those
abbrev pub apart : List ℕ → List ℕ → Bool
apart [] ls = true
apart (k ∷ ks) ls = not (one_of ls k) && apart ks ls

pub and_both : (a b : Bool) → (a && b) ≡ true → (a ≡ true) × (b ≡ true)
and_both true b e = (refl, e)
and_both false b e = absurd (false_is_not_true e)

not_true : (a : Bool) → not a ≡ true → a ≡ false
not_true true e = absurd (false_is_not_true e)
not_true false e = refl

pub or_either : (a b : Bool) → (a || b) ≡ true → (a ≡ true) ⊎ (b ≡ true)
or_either true b e = inl refl
or_either false b e = inr e

or_right : (a b : Bool) → b ≡ true → (a || b) ≡ true
or_right true b e = refl
or_right false b e = e

eq_same : (a b : ℕ) → (a == b) ≡ true → a ≡ b
eq_same a b e = search rules

none_is_not_some : {A : Type 0} (a : A) (e : Path (Option A) None (Some a)) → ⊥
none_is_not_some a e = cc

one_of_left : (ks ls : List ℕ) (k : ℕ) → one_of ks k ≡ true → one_of (ks ++ ls) k ≡ true
one_of_left [] ls k e = absurd (false_is_not_true e)
one_of_left (j ∷ ks) ls k e = elim (or_either (k == j) (one_of ks k) e) [
  | inl d ↦ ap (λ b. b || one_of (ks ++ ls) k) d
  | inr d ↦ or_right (k == j) (one_of (ks ++ ls) k) (one_of_left ks ls k d)
]

one_of_right : (ks ls : List ℕ) (k : ℕ) → one_of ls k ≡ true → one_of (ks ++ ls) k ≡ true
one_of_right [] ls k e = e
one_of_right (j ∷ ks) ls k e = or_right (k == j) (one_of (ks ++ ls) k) (one_of_right ks ls k e)

both_and : (a b : Bool) → a ≡ true → b ≡ true → (a && b) ≡ true
both_and true b e d = d
both_and false b e d = e

eq_self : (k : ℕ) → (k == k) ≡ true
eq_self k = search rules

pub within_one : (ks ls : List ℕ) (k : ℕ) → within ks ls ≡ true → one_of ks k ≡ true → one_of ls k ≡ true
within_one [] ls k w e = absurd (false_is_not_true e)
within_one (j ∷ ks) ls k w e =
    let both = and_both (one_of ls j) (within ks ls) w in
    elim (or_either (k == j) (one_of ks k) e) [
      | inl d ↦ ap (one_of ls) (eq_same k j d) ∙ both.0
      | inr d ↦ within_one ks ls k both.1 d
    ]

pub apart_one : (ks ls : List ℕ) (k : ℕ) → apart ks ls ≡ true → one_of ks k ≡ true → one_of ls k ≡ false
apart_one [] ls k w e = absurd (false_is_not_true e)
apart_one (j ∷ ks) ls k w e =
    let both = and_both (not (one_of ls j)) (apart ks ls) w in
    elim (or_either (k == j) (one_of ks k) e) [
      | inl d ↦ ap (one_of ls) (eq_same k j d) ∙ not_true (one_of ls j) both.0
      | inr d ↦ apart_one ks ls k both.1 d
    ]

module _ {A : Type 0} (ks : List ℕ) (S : Spelling A) (s : Starts ks S) where
  pub starts_filled : Filled S
  starts_filled x w h = let r = s x w h in rw r.parts (omega arith)

  pub starts_wider : (ls : List ℕ) → within ks ls ≡ true → Starts ls S
  starts_wider ls e x w h = let r = s x w h in record { first = r.first; rest = r.rest; parts = r.parts; kind = within_one ks ls (code r.first) e r.kind }

  pub begins_with : (ls : List ℕ) → within ks ls ≡ true → (x : A) (f rest : List Token) → S x f → begins ls (f ++ rest) ≡ true
  unfolding begins
  begins_with ls e x f rest h = let r = s x f h in ap (λ v. begins ls (v ++ rest)) r.parts ∙ within_one ks ls (code r.first) e r.kind

  pub begins_apart : (ls : List ℕ) → apart ks ls ≡ true → (x : A) (f rest : List Token) → S x f → begins ls (f ++ rest) ≡ false
  unfolding begins
  begins_apart ls e x f rest h = let r = s x f h in ap (λ v. begins ls (v ++ rest)) r.parts ∙ apart_one ks ls (code r.first) e r.kind

  pub starts_sequence : {B : Type 0} (T : A → Spelling B) → Starts ks (Sequence S T)
  starts_sequence T x w h =
      let r = s h.of h.front h.first in
      record { first = r.first; rest = r.rest ++ h.back; parts = h.parts ∙ ap (λ v. v ++ h.back) r.parts; kind = r.kind }

pub starts_or : {A : Type 0} (ks ls : List ℕ) (S T : Spelling A) → Starts ks S → Starts ls T → Starts (ks ++ ls) (S or T)
starts_or ks ls S T s t x w (inl h) = let r = s x w h in record { first = r.first; rest = r.rest; parts = r.parts; kind = one_of_left ks ls (code r.first) r.kind }
starts_or ks ls S T s t x w (inr h) = let r = t x w h in record { first = r.first; rest = r.rest; parts = r.parts; kind = one_of_right ks ls (code r.first) r.kind }

pub starts_either : {A : Type 0} (ks : List ℕ) (S T : Spelling A) → Starts ks S → Starts ks T → Starts ks (S or T)
starts_either ks S T s t x w (inl h) = s x w h
starts_either ks S T s t x w (inr h) = t x w h

of_kind_says : (k : ℕ) (t u : Token) → of_kind k t ≡ Some u → (b : Bool) → (code t == k) ≡ b → one_of (k ∷ []) (code t) ≡ true
of_kind_says k t u e true d = ap (λ v. v || false) d
of_kind_says k t u e false d = absurd (none_is_not_some u (sym (ap (λ v. if v then Some t else None) d) ∙ e))

pub starts_one : (k : ℕ) → Starts (k ∷ []) (One k)
starts_one k x w h = record { first = h.0; rest = []; parts = h.1; kind = of_kind_says k h.0 x h.2 (code h.0 == k) refl }

meaning_says : {A : Type 0} (table : Table A) (k : ℕ) (a : A) → meaning table k ≡ Some a → one_of (kinds table) k ≡ true
meaning_says [] k a e = absurd (none_is_not_some a e)
meaning_says (r ∷ rs) k a e = entry_says (meaning rs k) (one_of (kinds rs) k) (meaning_says rs k a) (k == r.0) e
  where
    entry_says : (o : Option _) (found : Bool) → (o ≡ Some a → found ≡ true) → (b : Bool) → (if b then Some r.1 else o) ≡ Some a → (b || found) ≡ true
    entry_says o found later true e = refl
    entry_says o found later false e = later e

table_says : {A : Type 0} (table : Table A) (t : Token) (p : ℕ × A) (o : Option A) → meaning table (code t) ≡ o → option_map (λ a. (t.line, a)) o ≡ Some p → one_of (kinds table) (code t) ≡ true
table_says table t p (Some a) e d = meaning_says table (code t) a e
table_says table t p None e d = absurd (none_is_not_some p d)

pub starts_sign : {A : Type 0} (table : Table A) → Starts (kinds table) (Sign table)
starts_sign table p w h = record { first = h.0; rest = []; parts = h.1; kind = table_says table h.0 p (meaning table (code h.0)) refl h.2 }

-- ---- lists of kinds

pub within_all : (ks ls : List ℕ) → ((k : ℕ) → one_of ks k ≡ true → one_of ls k ≡ true) → within ks ls ≡ true
within_all [] ls h = refl
within_all (k ∷ ks) ls h = both_and (one_of ls k) (within ks ls) (h k (ap (λ b. b || one_of ks k) (eq_self k))) (within_all ks ls (λ j e. h j (or_right (j == k) (one_of ks j) e)))

pub within_left : (ks ls : List ℕ) → within ks (ks ++ ls) ≡ true
within_left ks ls = within_all ks (ks ++ ls) (λ k e. one_of_left ks ls k e)

pub within_right : (ks ls : List ℕ) → within ls (ks ++ ls) ≡ true
within_right ks ls = within_all ls (ks ++ ls) (λ k e. one_of_right ks ls k e)

pub within_self : (ks : List ℕ) → within ks ks ≡ true
within_self ks = within_all ks ks (λ k e. e)

-- ---- the second token

pub record Pair (ks ls : List ℕ) (w : List Token) : Type 0 where
  pub first : Token
  pub next : Token
  pub rest : List Token
  pub parts : w ≡ first ∷ next ∷ rest
  pub kind : one_of ks (code first) ≡ true
  pub second : one_of ls (code next) ≡ true

pub pair_append : (ks ls : List ℕ) (w front back : List Token) → w ≡ front ++ back → Pair ks ls front → Pair ks ls w
pair_append ks ls w front back e p = record { first = p.first; next = p.next; rest = p.rest ++ back; parts = e ∙ ap (λ v. v ++ back) p.parts; kind = p.kind; second = p.second }

pub pair_one : {B : Type 0} (k : ℕ) (ls : List ℕ) (T : Token → Spelling B) → ((t : Token) → Starts ls (T t)) → (x : B) (w : List Token) → Sequence (One k) T x w → Pair (k ∷ []) ls w
pair_one k ls T starts x w h =
    let r = starts h.of x h.back h.second in
    let o = starts_one k h.of h.front h.first in
    record { first = h.first.0; next = r.first; rest = r.rest; parts = h.parts ∙ (ap (λ v. v ++ h.back) h.first.1 ∙ ap (λ v. h.first.0 ∷ v) r.parts); kind = of_kind_says k h.first.0 h.of h.first.2 (code h.first.0 == k) refl; second = r.kind }

pub pair_first : (ks ls ms : List ℕ) (w rest : List Token) → Pair ks ls w → within ks ms ≡ true → begins ms (w ++ rest) ≡ true
unfolding begins
pair_first ks ls ms w rest p e = ap (λ v. begins ms (v ++ rest)) p.parts ∙ within_one ks ms (code p.first) e p.kind

pub pair_second : (ks ls ms : List ℕ) (w rest : List Token) → Pair ks ls w → within ls ms ≡ true → then_begins ms (w ++ rest) ≡ true
unfolding then_begins begins
pair_second ks ls ms w rest p e = ap (λ v. then_begins ms (v ++ rest)) p.parts ∙ within_one ls ms (code p.next) e p.second

pub pair_apart : (ks ls ms : List ℕ) (w rest : List Token) → Pair ks ls w → apart ls ms ≡ true → then_begins ms (w ++ rest) ≡ false
unfolding then_begins begins
pair_apart ks ls ms w rest p e = ap (λ v. then_begins ms (v ++ rest)) p.parts ∙ apart_one ls ms (code p.next) e p.second

-- where the first part may be empty
pub starts_empty : {A B : Type 0} (ks : List ℕ) (S : Spelling A) (a : A) (T : A → Spelling B) → Starts ks S → ((b : A) → Starts ks (T b)) → Starts ks (Sequence (S or Is a) T)
starts_empty ks S a T s t x w h = elim h.first [
  | inl one ↦ (let r = s h.of h.front one in record { first = r.first; rest = r.rest ++ h.back; parts = h.parts ∙ ap (λ v. v ++ h.back) r.parts; kind = r.kind })
  | inr none ↦ (let r = t h.of x h.back h.second in record { first = r.first; rest = r.rest; parts = h.parts ∙ (ap (λ v. v ++ h.back) none.1 ∙ r.parts); kind = r.kind })
]
