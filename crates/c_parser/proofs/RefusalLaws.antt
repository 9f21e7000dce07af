-- Where the reader of units refuses, the tokens stop being a unit.
use Rattle.std.proofs.Common.{◌≡◌, ℕ, suc, ◌+◌, ◌≤◌, List, [], ◌∷◌, ◌++◌, length, refl, ap, sym, ◌∙◌, subst, Ok, Err, inl, inr, length-append, arith}
use Rattle.std.proofs.lemmas.List.{append-nil, append_assoc}
use Rattle.c_lexer.specs.declared.token.Token.{Token}
use Rattle.c_expr.specs.Codes.{specifier_starts}
use Rattle.c_expr.specs.Nodes.{Bytes}
use Rattle.c_expr.specs.Spelling.{Further, push}
use Rattle.c_expr.specs.Reading.{Reader, begins, and_then, grown, expr_at, declarator_at}
use Rattle.c_expr.proofs.Alike.{Alike}
use Rattle.c_expr.proofs.Sound.{Fault}
use Rattle.c_tree.specs.declared.unit.Unit.{Unit as TheUnit}
use Rattle.c_tree.specs.declared.unit.External.{External}
use Rattle.c_parser.specs.StatementNodes.{unit_node}
use Rattle.c_parser.specs.Units.{IsExternal, IsUnit, Derives}
use Rattle.c_parser.specs.ReadingUnits.{external, ended, unit, unit_of}
use Rattle.c_expr.proofs.Alike.{and_then_err, err_same, ok_is_no_err}
use Rattle.c_expr.proofs.Sound.{Fault}
use Rattle.c_parser.specs.Refusals.{Stops, RefusedAt}
use Rattle.c_expr.proofs.Alike.{head_same, tail_same}
use Rattle.c_parser.proofs.UnitLaws.{reads_externals, unit_again, nothing_read}
use Rattle.c_parser.proofs.EnoughUnit.{same_unit}

-- ---- a refusal of the whole

unit_word : (src : Bytes) (xs : List External) (w : List Token) → Further (IsExternal src) [] xs w → IsUnit src (unit_node xs) w
unit_word src xs w h = record { of = xs; front = w; back = []; parts = sym (append-nil w); first = h; second = (refl, refl) }

ended_err : {A : Type 0} (a : A) (v : List Token) (left : ℕ) → ended a v ≡ Err left → (t : Token) × (r : List Token) × (v ≡ t ∷ r) × (left ≡ length v)
ended_err {A = A} a [] left e = absurd (ok_is_no_err {X = A × List Token} (a, []) left e)
ended_err {A = A} a (t ∷ r) left e = (t, r, refl, sym (err_same {X = A × List Token} (length (t ∷ r)) left e))

module _ (src : Bytes) (m : ℕ) where
  abbrev U : Reader TheUnit
  U = unit (expr_at src (suc m)) (declarator_at src (suc m)) (suc m)

  abbrev X : Reader (List External)
  X = grown (begins specifier_starts) push (external (expr_at src (suc m)) (declarator_at src (suc m)) (suc m)) []

  abbrev ending : List External → Reader TheUnit
  ending xs = ended (unit_node xs)

  pub unit_fault : (w : List Token) (left : ℕ) → length w ≤ suc m → U w ≡ Err left → Fault (IsUnit src) U w left
  unfolding unit
  unit_fault w left few e = elim (and_then_err (X w) ending left e) [
    | inl d ↦
        (let one = (reads_externals src m).fault w left few d in
        record {
          front = one.front;
          rest = one.rest;
          parts = one.parts;
          at = one.at;
          more = one.more;
          whole = unit_node one.whole;
          viable = unit_word src one.whole (one.front ++ one.more) one.viable;
          same = λ t r other d. ap (λ v. and_then v ending) (one.same t r other d);
        })
    | inr p ↦
        (let one = (reads_externals src m).found w p.0.0 p.0.1 p.1 in
        let end = ended_err (unit_node p.0.0) p.0.1 left p.2 in
        record {
          front = one.front;
          rest = p.0.1;
          parts = one.parts;
          at = end.3;
          more = [];
          whole = unit_node p.0.0;
          viable = unit_word src p.0.0 (one.front ++ []) (let P : List Token → Type 0 = λ v. Further (IsExternal src) [] p.0.0 v in subst P (sym (append-nil one.front)) one.by);
          same = λ t r other d. ap (λ v. and_then v ending) (one.same (t ∷ other) (let P : List Token → Type 0 = λ v. Alike v (t ∷ other) in subst P (sym d) refl));
        })
  ]

-- two ways to cut a list with as much behind are one
pub cut_once : (f g r s : List Token) → f ++ r ≡ g ++ s → length r ≡ length s → (f ≡ g) × (r ≡ s)
cut_once [] [] r s e d = (refl, e)
cut_once [] (u ∷ g) r s e d =
    let sum : length r ≡ suc (length g + length s) = ap length e ∙ ap suc (length-append g s) in absurd (omega arith)
cut_once (t ∷ f) [] r s e d =
    let sum : suc (length f + length r) ≡ length s = sym (ap suc (length-append f r)) ∙ ap length e in absurd (omega arith)
cut_once (t ∷ f) (u ∷ g) r s e d =
    let rest = cut_once f g r s (tail_same e) d in
    (ap (λ v. v ∷ f) (head_same e) ∙ ap (λ v. u ∷ v) rest.0, rest.1)

-- with the refused token they begin no unit
refused_stops : (src : Bytes) (m : ℕ) (w front rest : List Token) (left : ℕ) → length w ≤ suc m → unit (expr_at src (suc m)) (declarator_at src (suc m)) (suc m) w ≡ Err left
    → w ≡ front ++ rest → left ≡ length rest → Stops front src rest
refused_stops src m w front [] left few e parts at = λ u h.
    let read : unit (expr_at src (suc m)) (declarator_at src (suc m)) (suc m) w ≡ Ok (u, []) = unit_again src w u m few (let P : List Token → Type 0 = λ v. Derives v src u in subst P (sym (parts ∙ append-nil front)) h) in
    ok_is_no_err (u, []) left (sym read ∙ e)
refused_stops src m w front (t ∷ r) left few e parts at = λ p.
    let more = p.0 in
    let u = p.1 in
    let h = p.2 in
    let whole = (front ++ t ∷ []) ++ more in
    let k = length whole + m in
    let deep : unit (expr_at src (suc k)) (declarator_at src (suc k)) (suc k) w ≡ Err left = sym (same_unit src m (suc k) (omega arith) w few) ∙ e in
    let fault = unit_fault src k w left (omega arith) deep in
    let once = cut_once front fault.front (t ∷ r) fault.rest (sym parts ∙ fault.parts) (sym at ∙ fault.at) in
    let refused : unit (expr_at src (suc k)) (declarator_at src (suc k)) (suc k) (fault.front ++ t ∷ more) ≡ Err (length (t ∷ more)) = fault.same t r more (sym once.1) in
    let word : whole ≡ fault.front ++ t ∷ more = append_assoc front (t ∷ []) more ∙ ap (λ v. v ++ t ∷ more) once.0 in
    let read : unit (expr_at src (suc k)) (declarator_at src (suc k)) (suc k) whole ≡ Ok (u, []) = unit_again src whole u k (omega arith) h in
    ok_is_no_err (u, []) (length (t ∷ more)) (sym read ∙ (ap (unit (expr_at src (suc k)) (declarator_at src (suc k)) (suc k)) word ∙ refused))

pub unit_refused : (src : Bytes) (m : ℕ) (w : List Token) (left : ℕ) → length w ≤ suc m → unit (expr_at src (suc m)) (declarator_at src (suc m)) (suc m) w ≡ Err left
    → (front rest : List Token) × RefusedAt w src front rest × (left ≡ length rest)
unit_refused src m w left few e =
    let fault = unit_fault src m w left few e in
    (fault.front, fault.rest, record { parts = fault.parts; begins = (fault.more, fault.whole, fault.viable); stops = refused_stops src m w fault.front fault.rest left few e fault.parts fault.at }, fault.at)

pub unit_of_refused : (src : Bytes) (w : List Token) (left : ℕ) → unit_of src w ≡ Err left → (front rest : List Token) × RefusedAt w src front rest × (left ≡ length rest)
unfolding unit_of
unit_of_refused src [] left e = absurd (ok_is_no_err (unit_node [], []) left (sym (nothing_read src) ∙ e))
unit_of_refused src (t ∷ w) left e = unit_refused src (length w) (t ∷ w) left (omega arith) e

-- ---- a refusal and a unit exclude each other

pub refusal_is_no_unit : (src : Bytes) (w front rest : List Token) (u : TheUnit) → RefusedAt w src front rest → Derives w src u → ⊥
refusal_is_no_unit src w front [] u h d = h.stops u (let P : List Token → Type 0 = λ v. Derives v src u in subst P (h.parts ∙ append-nil front) d)
refusal_is_no_unit src w front (t ∷ r) u h d = h.stops (r, u, let P : List Token → Type 0 = λ v. Derives v src u in subst P (h.parts ∙ sym (append_assoc front (t ∷ []) r)) d)
