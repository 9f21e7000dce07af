-- A reader whose first token is there refuses behind it.
use Rattle.std.proofs.Common.{◌≡◌, ℕ, suc, ◌+◌, ◌≤◌, ◌<◌, Bool, true, false, not, ◌&&◌, ◌||◌, List, [], ◌∷◌, length, refl, ap, sym, ◌∙◌, Some, None, Err, inl, inr, if◌then◌else◌, ◌==◌, length-append, arith}
use Rattle.c_lexer.specs.declared.token.Token.{Token}
use Rattle.c_expr.specs.Codes.{code, of_kind, open_paren, specifier_starts, parameter_starts}
use Rattle.c_expr.specs.Spelling.{Spelling}
use Rattle.c_expr.specs.Reading.{Reader, begins, then_begins, begins_type, encloses, and_then, token, taken, choose}
use Rattle.c_expr.proofs.Alike.{begins_alike, and_then_err, false_is_not_true}
use Rattle.c_expr.proofs.Sound.{Reads}
use Rattle.c_expr.proofs.Repeat.{Filled}
use Rattle.c_expr.proofs.Peek.{Steady, Past}
use Rattle.c_expr.proofs.Starts.{apart, within, within_one, apart_one, and_both}

pub reads_bound : {A : Type 0} {n : ℕ} {S : Spelling A} {R : Reader A} → Reads n S R → (w : List Token) (left : ℕ) → length w ≤ n → R w ≡ Err left → left ≤ length w
reads_bound h w left few e =
    let one = h.fault w left few e in
    let sum : length w ≡ length one.front + length one.rest = ap length one.parts ∙ length-append one.front one.rest in
    let at : left ≡ length one.rest = one.at in omega arith

pub past_seq : {A B : Type 0} {n : ℕ} {first : List Token → Bool} {S : Spelling A} {R : Reader A} {T : A → Spelling B} {f : A → Reader B} → Past n first R → Reads n S R → Filled S → ((a : A) → Reads n (T a) (f a)) → Past n first (λ w. and_then (R w) f)
past_seq {n = n} {R = R} {f = f} past h filled g w left few b e = elim (and_then_err (R w) f left e) [
  | inl d ↦ past w left few b d
  | inr p ↦
      (let one = h.found w p.0.0 p.0.1 p.1 in
      let full : 0 < length one.front = filled p.0.0 one.front one.by in
      let sum : length w ≡ length one.front + length p.0.1 = ap length one.parts ∙ length-append one.front p.0.1 in
      let low : left ≤ length p.0.1 = reads_bound (g p.0.0) p.0.1 left (omega arith) p.2 in
      omega arith)
]

taken_kind : (k : ℕ) (t : Token) (b : Bool) → (code t == k) ≡ b → (b || false) ≡ true → of_kind k t ≡ Some t
taken_kind k t true e d = ap (λ v. if v then Some t else None) e
taken_kind k t false e d = absurd (false_is_not_true d)

pub past_first : {B : Type 0} {T : Token → Spelling B} {f : Token → Reader B} (n m k : ℕ) → n ≤ suc m → ((a : Token) → Reads m (T a) (f a)) → Past n (begins (k ∷ [])) (λ w. and_then (token (of_kind k) w) f)
unfolding begins token
past_first n m k enough g [] left few b e = absurd (false_is_not_true b)
past_first {f = f} n m k enough g (t ∷ r) left few b e =
    let o : of_kind k t ≡ Some t = taken_kind k t (code t == k) refl b in
    let low : left ≤ length r = reads_bound (g t) r left (omega arith) (sym (ap (λ v. and_then (taken t r v) f) o) ∙ e) in
    omega arith

pub begins_other : (ks ls : List ℕ) → apart ks ls ≡ true → (w : List Token) → begins ks w ≡ true → begins ls w ≡ false
unfolding begins
begins_other ks ls e [] b = refl
begins_other ks ls e (t ∷ r) b = apart_one ks ls (code t) e b

pub begins_this : (ks ls : List ℕ) → within ks ls ≡ true → (w : List Token) → begins ks w ≡ true → begins ls w ≡ true
unfolding begins
begins_this ks ls e [] b = absurd (false_is_not_true b)
begins_this ks ls e (t ∷ r) b = within_one ks ls (code t) e b

pub past_other : {A : Type 0} {n : ℕ} {Q : Reader A} (ks ls : List ℕ) (R : Reader A) → apart ks ls ≡ true → Past n (begins ks) Q → Past n (begins ks) (choose (begins ls) R Q)
past_other {Q = Q} ks ls R d past w left few b e = past w left few b (sym (ap (λ v. (if v then R else Q) w) (begins_other ks ls d w b)) ∙ e)

pub past_this : {A : Type 0} {n : ℕ} {R : Reader A} (ks ls : List ℕ) (Q : Reader A) → within ks ls ≡ true → Past n (begins ks) R → Past n (begins ks) (choose (begins ls) R Q)
past_this {R = R} ks ls Q d past w left few b e = past w left few b (sym (ap (λ v. (if v then R else Q) w) (begins_this ks ls d w b)) ∙ e)

-- ---- the two tests of two tokens

pub steady_type : Steady begins_type
unfolding begins_type begins then_begins
steady_type t [] r s alike = ap (λ b. begins (open_paren ∷ []) (t ∷ []) && b) (begins_alike specifier_starts r s alike)
steady_type t (u ∷ f) r s alike = refl

pub type_first : (w : List Token) → begins_type w ≡ true → begins (open_paren ∷ []) w ≡ true
unfolding begins_type
type_first w e = (and_both (begins (open_paren ∷ []) w) (then_begins specifier_starts w) e).0

pub steady_encloses : Steady encloses
unfolding encloses begins then_begins
steady_encloses t [] r s alike = ap (λ b. begins (open_paren ∷ []) (t ∷ []) && not b) (begins_alike parameter_starts r s alike)
steady_encloses t (u ∷ f) r s alike = refl

pub encloses_first : (w : List Token) → encloses w ≡ true → begins (open_paren ∷ []) w ≡ true
unfolding encloses
encloses_first w e = (and_both (begins (open_paren ∷ []) w) (not (then_begins parameter_starts w)) e).0
