-- Acknowledgements are compared one after another.
use Rattle.std.proofs.Common.{◌≡◌, ℕ, suc, ◌+◌, ◌<◌, true, false, List, [], ◌∷◌, ◌++◌, length, map, drop, get_or, ◌≤◌, cond, nat_eq, nat_lt, sym, ap, ◌∙◌, arith, add-one, drop-cons}
use Rattle.std.proofs.lemmas.List.{length-map}
use Rattle.std.proofs.lemmas.Bool.{le-ltb, not-false, not-true}
use Rattle.mid_code.specs.Machine.{register}
use Rattle.world.specs.Standing.{passed_on as passes}
use Rattle.std.specs.Prelude.{not}
use Rattle.std.proofs.Math.ListN.{get_or-map}
use Rattle.verdicts.specs.declared.thread_end.ThreadEnd.TheVariants.{Echo}
use Rattle.machine.specs.Side.{SideState, Outcome, Ended, Went}
use Rattle.machine.specs.Steps.{holds, operands}
use Rattle.machine.specs.Leading.{compared, heard_by}

-- the word at a place, and the side's own there
pub word_at : (words : List ℕ) (i word : ℕ) → i < length words → word ≡ get_or words i word → drop i words ≡ word ∷ drop (i + 1) words
word_at words i word within is = rw add-one (drop-cons words i word within ∙ ap (λ w. w ∷ drop (suc i) words) (sym is))

pub own_at : (f r : ℕ → ℕ) (args : List ℕ) (i own : ℕ) → i < length args → own ≡ f (r (get_or args i 0)) → drop i (map f (map r args)) ≡ own ∷ drop (i + 1) (map f (map r args))
own_at f r args i own within is =
    let all = map f (map r args) in
    let here : i < length all = omega (arith, length-map (map r args) f, length-map args r) in
    let value : get_or all i (f (r 0)) ≡ own = get_or-map f (map r args) i (r 0) ∙ ap f (get_or-map r args i 0) ∙ sym is in
    rw add-one (drop-cons all i (f (r 0)) here ∙ ap (λ w. w ∷ drop (suc i) all) value)

module _ (words own : List ℕ) (s : SideState) (i word mine : ℕ) (at : drop i words ≡ word ∷ drop (i + 1) words) (own_is : drop i own ≡ mine ∷ drop (i + 1) own) where
  judged : compared (drop i words) (drop i own) s ≡ cond (nat_eq word mine) (compared (drop (i + 1) words) (drop (i + 1) own) s) (Ended (Echo word mine))
  judged = ap (λ ws. compared ws (drop i own) s) at ∙ ap (λ os. compared (word ∷ drop (i + 1) words) os s) own_is

  pub differs : not (nat_eq word mine) ≡ true → compared (drop i words) (drop i own) s ≡ Ended (Echo word mine)
  differs h = judged ∙ ap (λ b. cond b (compared (drop (i + 1) words) (drop (i + 1) own) s) (Ended (Echo word mine))) (not-true (nat_eq word mine) h)

  pub agrees : not (nat_eq word mine) ≡ false → compared (drop i words) (drop i own) s ≡ compared (drop (i + 1) words) (drop (i + 1) own) s
  agrees h = judged ∙ ap (λ b. cond b (compared (drop (i + 1) words) (drop (i + 1) own) s) (Ended (Echo word mine))) (not-false (nat_eq word mine) h)

-- where the side stands when all agree depends on its machine alone
pub compared_same : (words own : List ℕ) (s t : SideState) → s.at ≡ t.at → compared words own s ≡ compared words own t
compared_same [] own s t same = ap (λ m. Went (record { at = passes m; heard = [] })) same
compared_same (w ∷ ws) [] s t same = ap (λ m. Went (record { at = passes m; heard = [] })) same
compared_same (w ∷ ws) (o ∷ os) s t same = ap (λ next. cond (nat_eq w o) next (Ended (Echo w o))) (compared_same ws os s t same)

-- once all are there, they are compared
pub heard_all : (words own : List ℕ) (s : SideState) → length own ≤ length words → heard_by (nat_lt (length words) (length own)) words own s ≡ compared words own s
heard_all words own s all = ap (λ b. heard_by b words own s) (le-ltb (length words) (length own) all)

-- the same as the code finds it: `t` is the side with the acknowledgement added
pub heard_to : (f : ℕ → ℕ) (args given : List ℕ) (s t : SideState) (word : ℕ) (words : List ℕ) (outcome : Outcome) →
    t.at ≡ s.at → t.heard ≡ s.heard ++ word ∷ [] → words ≡ t.heard → given ≡ args → length args ≤ length words →
    compared words (map f (operands t given)) t ≡ outcome →
    heard_by (nat_lt (length (s.heard ++ word ∷ [])) (length (map f (operands s args)))) (s.heard ++ word ∷ []) (map f (operands s args)) s ≡ outcome
heard_to f args given s t word words outcome machine heard words_are given_is all h =
    let own = map f (operands s args) in
    let mine = s.heard ++ word ∷ [] in
    let e : words ≡ mine = words_are ∙ heard in
    let count : length own ≤ length mine = omega (arith, length-map (operands s args) f, length-map args (holds s), ap length e) in
    let same : own ≡ map f (operands t given) = ap (λ m. map f (map (register m.machine.top) args)) (sym machine) ∙ ap (λ a. map f (operands t a)) (sym given_is) in
    heard_all mine own s count ∙ compared_same mine own s t (sym machine) ∙ ap (λ ws. compared ws own t) (sym e) ∙ ap (λ os. compared words os t) same ∙ h
