-- What is made of exact parts is exact.
use Rattle.std.proofs.Common.{◌≡◌, ℕ, Bool as Test, true, false, refl, ap, sym, subst, Option, Some, None, Result, Ok, Err, inl, inr, ◌↔◌}
use Rattle.std.specs.Prelude.{IsTrue, IsFalse}
use Rattle.c_types.specs.Rules.{Ruled}
use Rattle.typing_rules.specs.declared.refusal.TypeRefusal.{TypeRefusal}
use Rattle.typing_rules.specs.Known.{Known}
use Rattle.typing_rules.specs.Checking as c
use Rattle.typing_rules.specs.Checking.{Checking, Checked, and_then, pure, refuse, asks, makes, choose, needs, tests, ruled_by, given, from_result}
use Rattle.typing_rules.specs.Holding.{Typing, Sequence, Is, Such, Given, Holds, Asks, Makes, Either, Never}
use Rattle.typing_rules.specs.Exact.{Exact}

abbrev kept : {A : Type 0} → A × Known → Checked A → A × Known
kept p (Ok q) = q
kept p (Err refusal) = p

-- two results that are equal are equal in both parts
pub ok_same : {A : Type 0} (p q : A × Known) → Path (Checked A) (Ok p) (Ok q) → p ≡ q
ok_same p q e = ap (kept p) e

pub err_no_ok : {A : Type 0} (refusal : TypeRefusal) (q : A × Known) → Path (Checked A) (Err refusal) (Ok q) → ⊥
err_no_ok refusal q e = cc

pub and_then_ok : {A B : Type 0} (r : Checked A) (f : A → Checking B) (y : B × Known) → and_then r f ≡ Ok y
    → (p : A × Known) × (r ≡ Ok p) × (f p.0 p.1 ≡ Ok y)
and_then_ok (Ok p) f y h = (p, refl, h)
and_then_ok (Err refusal) f y h = absurd cc

-- ---- one step

pub exact_pure : {A : Type 0} (a : A) → Exact (pure a) (Is a)
exact_pure a = record {
  found = λ x k l e. let p = ok_same (a, k) (x, l) e in (ap (λ q. q.0) (sym p), ap (λ q. q.1) (sym p));
  whole = λ x k l h. λ i. Ok (sym h.0 i, sym h.1 i);
}

pub exact_refuse : {A : Type 0} (refusal : TypeRefusal) → Exact {A = A} (refuse refusal) Never
exact_refuse refusal = record {
  found = λ x k l e. err_no_ok refusal (x, l) e;
  whole = λ x k l h. absurd h;
}

pub exact_asks : {A : Type 0} (f : Known → A) → Exact (asks f) (Asks f)
exact_asks f = record {
  found = λ x k l e. let p = ok_same (f k, k) (x, l) e in (ap (λ q. q.0) (sym p), ap (λ q. q.1) (sym p));
  whole = λ x k l h. λ i. Ok (sym h.0 i, sym h.1 i);
}

pub exact_makes : (f : Known → Known) → Exact (makes f) (Makes f)
exact_makes f = record {
  found = λ x k l e. let p = ok_same (tt, f k) (x, l) e in ap (λ q. q.1) (sym p);
  whole = λ x k l h. λ i. Ok (tt, sym h i);
}

pub exact_bind : {A B : Type 0} {m : Checking A} {R : Typing A} {f : A → Checking B} {S : A → Typing B}
    → Exact m R → ((a : A) → Exact (f a) (S a)) → Exact (c.◌>>=◌ m f) (Sequence R S)
exact_bind {m = m} {f = f} h s = record {
  found = λ y k l e.
      let p = and_then_ok (m k) f (y, l) e in
      record { of = p.0.0; between = p.0.1; first = h.found p.0.0 k p.0.1 p.1; second = (s p.0.0).found y p.0.1 l p.2 };
  whole = λ y k l q. rw (h.whole q.of k q.between q.first) ((s q.of).whole y q.between l q.second);
}

-- ---- tests and rules

pub exact_choose : {A : Type 0} (test : Test) {m n : Checking A} {R S : Typing A}
    → Exact m R → Exact n S → Exact (choose test m n) (Either test R S)
exact_choose true h s = record {
  found = λ x k l e. inl (refl, h.found x k l e);
  whole = λ x k l q. elim q [ inl p ↦ h.whole x k l p.1 | inr p ↦ absurd cc ];
}
exact_choose false h s = record {
  found = λ x k l e. inr (refl, s.found x k l e);
  whole = λ x k l q. elim q [ inl p ↦ absurd cc | inr p ↦ s.whole x k l p.1 ];
}

-- a test by which a statement is decided
pub exact_needs : (test : Test) (P : Type 0) (refusal : TypeRefusal) → (IsTrue test ↔ P) → Exact (needs test refusal) (Given P)
exact_needs true P refusal h = record {
  found = λ x k l e. (h.0 refl, ap (λ q. q.1) (sym (ok_same (tt, k) (x, l) e)));
  whole = λ x k l q. λ i. Ok (tt, sym q.1 i);
}
exact_needs false P refusal h = record {
  found = λ x k l e. absurd (err_no_ok refusal (x, l) e);
  whole = λ x k l q. absurd (let p : IsTrue false = h.1 q.0 in cc);
}

pub exact_tests : (test : Known → Test) (P : Known → Type 0) (refusal : TypeRefusal) → ((k : Known) → IsTrue (test k) ↔ P k) → Exact
    (tests test refusal) (Holds P)
exact_tests test P refusal h = record {
  found = λ x k l e. (exact_needs (test k) (P k) refusal (h k)).found x k l e;
  whole = λ x k l q. (exact_needs (test k) (P k) refusal (h k)).whole x k l q;
}

abbrev allowed : {A E : Type 0} → A → Result A E → A
allowed d (Ok a) = a
allowed d (Err n) = d

pub allowed_same : {A E : Type 0} (a b : A) → Path (Result A E) (Ok a) (Ok b) → a ≡ b
allowed_same a b e = ap (allowed a) e

pub refused_no_ok : {A E : Type 0} (n : E) (b : A) → Path (Result A E) (Err n) (Ok b) → ⊥
refused_no_ok n b e = cc

pub exact_ruled : {A : Type 0} (line : ℕ) (r : Ruled A) (P : A → Type 0) → ((a : A) → (r ≡ Ok a) ↔ P a) → Exact (ruled_by line r) (Such P)
exact_ruled line (Ok a) P h = record {
  found = λ x k l e.
      let p = ok_same (a, k) (x, l) e in ((h x).0 (ap (λ q. Ok (q.0)) p), ap (λ q. q.1) (sym p));
  whole = λ x k l q. let p = allowed_same a x ((h x).1 q.0) in λ i. Ok (p i, sym q.1 i);
}
exact_ruled line (Err n) P h = record {
  found = λ x k l e. absurd cc;
  whole = λ x k l q. absurd (refused_no_ok n x ((h x).1 q.0));
}

pub exact_from_result : {A : Type 0} (r : Result A TypeRefusal) (P : A → Type 0) → ((a : A) → (r ≡ Ok a) ↔ P a) → Exact (from_result r) (Such P)
exact_from_result (Ok a) P h = record {
  found = λ x k l e.
      let p = ok_same (a, k) (x, l) e in ((h x).0 (ap (λ q. Ok (q.0)) p), ap (λ q. q.1) (sym p));
  whole = λ x k l q. let p = allowed_same a x ((h x).1 q.0) in λ i. Ok (p i, sym q.1 i);
}
exact_from_result (Err n) P h = record {
  found = λ x k l e. absurd cc;
  whole = λ x k l q. absurd (refused_no_ok n x ((h x).1 q.0));
}

abbrev there : {A : Type 0} → A → Option A → A
there d (Some a) = a
there d None = d

pub some_same : {A : Type 0} (a b : A) → Path (Option A) (Some a) (Some b) → a ≡ b
some_same a b e = ap (there a) e

pub exact_given : {A : Type 0} (o : Option A) (refusal : TypeRefusal) → Exact (given o refusal) (Such (λ a. o ≡ Some a))
exact_given (Some a) refusal = record {
  found = λ x k l e. let p = ok_same (a, k) (x, l) e in (ap (λ q. Some (q.0)) p, ap (λ q. q.1) (sym p));
  whole = λ x k l q. let p = some_same a x q.0 in λ i. Ok (p i, sym q.1 i);
}
exact_given None refusal = record {
  found = λ x k l e. absurd cc;
  whole = λ x k l q. absurd cc;
}

-- a test in front of what holds only where the test does
pub exact_beside : {A : Type 0} (test : Test) (refusal : TypeRefusal) {m : Checking A} {R : Typing A}
    → Exact m R → ((x : A) (k l : Known) → R x k l → IsTrue test) → Exact (c.◌>>◌ (needs test refusal) m) R
exact_beside true refusal h s = record { found = λ x k l e. h.found x k l e; whole = λ x k l q. h.whole x k l q }
exact_beside false refusal h s = record {
  found = λ x k l e. absurd (err_no_ok refusal (x, l) e);
  whole = λ x k l q. absurd (let p : IsTrue false = s x k l q in cc);
}

-- what is refused in the end has no typing
pub exact_refused : {A B : Type 0} (m : Checking A) (refusal : TypeRefusal) → Exact {A = B} (c.◌>>◌ m (refuse refusal)) Never
exact_refused m refusal = record {
  found = λ y k l e. let p = and_then_ok (m k) (λ u. refuse refusal) (y, l) e in err_no_ok refusal (y, l) p.2;
  whole = λ y k l q. absurd q;
}

-- a test that may not hold, in front of more
pub exact_unless : {A : Type 0} (test : Test) (refusal : TypeRefusal) {m : Checking A} {R : Typing A}
    → Exact m R → Exact (choose test (refuse refusal) m) (Sequence (Given (IsFalse test)) (λ u. R))
exact_unless true refusal h = record {
  found = λ x k l e. absurd (err_no_ok refusal (x, l) e);
  whole = λ x k l q. absurd (let p : IsFalse true = q.first.0 in cc);
}
exact_unless false refusal {m = m} {R = R} h = record {
  found = λ x k l e. record { of = tt; between = k; first = (refl, refl); second = h.found x k l e };
  whole = λ x k l q. h.whole x k l (subst (λ b. R x b l) q.first.1 q.second);
}
