-- What the reader reads of a whole list, and that this is the list whose text it is.
use Rattle.std.proofs.Common.{◌≡◌, ℕ, true, false, nat_le, List, [], ◌∷◌, ◌++◌, Option, Some, None, refl, sym, ap, subst, ◌∙◌, append-nil, append_assoc}
use Rattle.std.proofs.lemmas.Bool.{and_parts, and_from, leb-true, le-leb, both_ways}
use Rattle.srmt_base.specs.declared.side.Side.{Side}
use Rattle.srmt_base.specs.declared.side.Side.TheVariants.{Lead, Trail}
use Rattle.upset.specs.declared.upset.Upset.{Upset}
use Rattle.upset.specs.Lists.{upset_text, list_text, Follows, IsList}
use Rattle.std.specs.Prelude.{codes}
use Rattle.upset.specs.Reading.{literal, upset, is_same, may_follow, Reads}
use Rattle.upset.proofs.Upsets.{literal-from, upset_on-is, upset-is, upset-from}

same-is : (s t : Side) → is_same s t ≡ true → t ≡ s
same-is Lead Lead e = refl
same-is Lead Trail e = absurd cc
same-is Trail Lead e = absurd cc
same-is Trail Trail e = refl

is-same : (s t : Side) → t ≡ s → is_same s t ≡ true
is-same Lead Lead e = refl
is-same Lead Trail e = absurd cc
is-same Trail Lead e = absurd cc
is-same Trail Trail e = refl

follows : (u w : Upset) → may_follow (Some u) w ≡ true → Follows u w
follows u w e =
    let parts = and_parts (is_same u.side w.side) (nat_le u.step w.step) e in
    record { same = same-is u.side w.side parts.0; later = leb-true u.step w.step parts.1 }

may : (u w : Upset) → Follows u w → may_follow (Some u) w ≡ true
may u w f = and_from (is_same u.side w.side) (nat_le u.step w.step) (is-same u.side w.side f.same) (le-leb u.step w.step f.later)

-- what was read is a list with this text
pub record Listed (bytes : List ℕ) (us : List Upset) : Type 0 where
  pub ranged : IsList us
  pub is : bytes ≡ list_text us

first-may : (u : Upset) (rest : List ℕ) (w : Upset) (ws : List Upset) → Reads (Some u) rest (w ∷ ws) → may_follow (Some u) w ≡ true
unfolding Reads
first-may u rest w [] r = r.1
first-may u rest w (x ∷ more) r = r.2

pub reads-list : (us : List Upset) (last : Option Upset) (bytes : List ℕ) → Reads last bytes us → Listed bytes us
unfolding Reads IsList list_text
reads-list [] last bytes r = absurd r
reads-list (u ∷ []) last bytes r =
    let s = upset-is bytes (u, []) r.0 in
    record { ranged = s.ranged; is = s.is ∙ sym (upset_on-is u []) ∙ append-nil (upset_text u) }
reads-list (u ∷ (w ∷ ws)) last bytes r =
    let s = upset-is bytes (u, 44 ∷ r.0) r.1 in
    let others = reads-list (w ∷ ws) (Some u) r.0 r.3 in
    record {
      ranged = (s.ranged, (follows u w (first-may u r.0 w ws r.3), others.ranged));
      is = s.is ∙ sym (upset_on-is u (44 ∷ r.0)) ∙ ap (λ b. upset_text u ++ (44 ∷ b)) others.is;
    }

-- and a list is read of its text
pub list-reads : (u : Upset) (us : List Upset) (last : Option Upset) (bytes : List ℕ) → IsList (u ∷ us) → may_follow last u ≡ true → bytes ≡ list_text (u ∷ us) → Reads last bytes (u ∷ us)
unfolding Reads IsList list_text
list-reads u [] last bytes h m e =
    (ap upset (e ∙ sym (append-nil (upset_text u)) ∙ upset_on-is u []) ∙ upset-from u [] h refl, m)
list-reads u (w ∷ ws) last bytes h m e = (
  list_text (w ∷ ws),
  ap upset (e ∙ upset_on-is u (44 ∷ list_text (w ∷ ws))) ∙ upset-from u (44 ∷ list_text (w ∷ ws)) h.0 refl,
  m,
  list-reads w ws (Some u) (list_text (w ∷ ws)) h.1.1 (may u w h.1.0) refl,
)

-- one text is read as one list
same_read : (u w : Upset) (a b : List ℕ) (o : Option (Upset × List ℕ)) → o ≡ Some (u, a) → o ≡ Some (w, b) → (u ≡ w) × (a ≡ b)
same_read u w a b o e f = let is : Some (u, a) ≡ Some (w, b) = sym e ∙ f in (ap first is, ap second is)
  where
    first : Option (Upset × List ℕ) → Upset
    first None = u
    first (Some x) = x.0

    second : Option (Upset × List ℕ) → List ℕ
    second None = a
    second (Some x) = x.1

pub reads-one : (us ws : List Upset) (last : Option Upset) (bytes : List ℕ) → Reads last bytes us → Reads last bytes ws → us ≡ ws
unfolding Reads
reads-one [] ws last bytes r s = absurd r
reads-one (u ∷ us) [] last bytes r s = absurd s
reads-one (u ∷ []) (w ∷ []) last bytes r s = ap (λ x. x ∷ []) (same_read u w [] [] (upset bytes) r.0 s.0).0
reads-one (u ∷ []) (w ∷ (x ∷ ws)) last bytes r s = let e = (same_read u w [] (44 ∷ s.0) (upset bytes) r.0 s.1).1 in absurd cc
reads-one (u ∷ (v ∷ us)) (w ∷ []) last bytes r s = let e = (same_read u w (44 ∷ r.0) [] (upset bytes) r.1 s.0).1 in absurd cc
reads-one (u ∷ (v ∷ us)) (w ∷ (x ∷ ws)) last bytes r s =
    let e = same_read u w (44 ∷ r.0) (44 ∷ s.0) (upset bytes) r.1 s.1 in
    let same : r.0 ≡ s.0 = cc in
    let moved : Reads (Some u) r.0 (x ∷ ws) = subst (λ b. Reads (Some u) b (x ∷ ws)) (sym same) (subst (λ y. Reads (Some y) s.0 (x ∷ ws)) (sym e.0) s.3) in
    let others = reads-one (v ∷ us) (x ∷ ws) (Some u) r.0 r.3 moved in
    λ i. e.0 i ∷ others i

-- how far the reader has come: what it reads of the rest, behind what it has, is what it reads of the text
pub record Read (text : List ℕ) (have : List Upset) (last : Option Upset) (rest : List ℕ) : Type 0 where
  pub found : (us : List Upset) → Reads last rest us → Reads None text (have ++ us)
  pub all : (us : List Upset) → Reads None text us → (more : List Upset) × (us ≡ have ++ more) × Reads last rest more

module _ (text : List ℕ) (have : List Upset) (last : Option Upset) (rest : List ℕ) (r : Read text have last rest) where
  pub none-left : upset rest ≡ None → (us : List Upset) → Reads None text us → ⊥
  unfolding Reads
  none-left e us reads = let left = r.all us reads in by left.0 left.2
    where
      by : (more : List Upset) → Reads last rest more → ⊥
      by [] g = g
      by (u ∷ []) g = let clash = sym e ∙ g.0 in cc
      by (u ∷ (w ∷ ws)) g = let clash = sym e ∙ g.1 in cc

  pub may-not : (u : Upset) (after : List ℕ) → upset rest ≡ Some (u, after) → may_follow last u ≡ false → (us : List Upset) → Reads None text us → ⊥
  unfolding Reads
  may-not u after e not us reads = let left = r.all us reads in by left.0 left.2
    where
      by : (more : List Upset) → Reads last rest more → ⊥
      by [] g = g
      by (v ∷ []) g = both_ways (may_follow last u) not (subst (λ y. may_follow last y ≡ true) (sym (same_read u v after [] (upset rest) e g.0).0) g.1)
      by (v ∷ (w ∷ ws)) g = both_ways (may_follow last u) not (subst (λ y. may_follow last y ≡ true) (sym (same_read u v after (44 ∷ g.0) (upset rest) e g.1).0) g.2)

  pub stuck : (u : Upset) (after : List ℕ) → upset rest ≡ Some (u, after) → (after ≡ [] → ⊥) → literal (codes ",") after ≡ None → (us : List Upset) → Reads None text us → ⊥
  unfolding Reads
  stuck u after e some none us reads = let left = r.all us reads in by left.0 left.2
    where
      by : (more : List Upset) → Reads last rest more → ⊥
      by [] g = g
      by (v ∷ []) g = some (same_read u v after [] (upset rest) e g.0).1
      by (v ∷ (w ∷ ws)) g =
          let comma : literal (codes ",") after ≡ Some g.0 = ap (literal (codes ",")) (same_read u v after (44 ∷ g.0) (upset rest) e g.1).1 ∙ literal-from (codes ",") g.0 in
          let clash : None ≡ Some g.0 = sym none ∙ comma in
          cc

  pub ended : (u : Upset) → upset rest ≡ Some (u, []) → may_follow last u ≡ true → Reads None text (have ++ (u ∷ []))
  unfolding Reads
  ended u e may = r.found (u ∷ []) (alone u e may)
    where
      alone : (u : Upset) → upset rest ≡ Some (u, []) → may_follow last u ≡ true → Reads last rest (u ∷ [])
      alone u e may = (e, may)

  pub further : (u : Upset) (next : List ℕ) → upset rest ≡ Some (u, 44 ∷ next) → may_follow last u ≡ true → Read text (have ++ (u ∷ [])) (Some u) next
  unfolding Reads
  further u next e may = record {
    found = λ us reads. subst (Reads None text) (sym (append_assoc have (u ∷ []) us)) (r.found (u ∷ us) (before us reads));
    all = λ us reads. (let left = r.all us reads in behind us left.0 left.1 left.2);
  }
    where
      before : (us : List Upset) → Reads (Some u) next us → Reads last rest (u ∷ us)
      before [] g = absurd g
      before (w ∷ ws) g = (next, e, may, g)

      behind : (us more : List Upset) → us ≡ have ++ more → Reads last rest more → (others : List Upset) × (us ≡ (have ++ (u ∷ [])) ++ others) × Reads (Some u) next others
      behind us [] is g = absurd g
      behind us (v ∷ []) is g = let clash = (same_read u v (44 ∷ next) [] (upset rest) e g.0).1 in absurd cc
      behind us (v ∷ (w ∷ ws)) is g =
          let same = same_read u v (44 ∷ next) (44 ∷ g.0) (upset rest) e g.1 in
          let left : next ≡ g.0 = cc in (
            w ∷ ws,
            is ∙ ap (λ y. have ++ (y ∷ (w ∷ ws))) (sym same.0) ∙ sym (append_assoc have (u ∷ []) (w ∷ ws)),
            subst (λ b. Reads (Some u) b (w ∷ ws)) (sym left) (subst (λ y. Reads (Some y) g.0 (w ∷ ws)) (sym same.0) g.3),
          )
