-- Blocks: objects begin, what is inside runs while they live, and they end.
use Rattle.std.proofs.Common.{◌≡◌, ℕ, List, ◌++◌, length, reverse, take, drop, Some, None, Result, Ok, Err, refl, sym, ◌∙◌, ap, subst}
use Rattle.std.specs.Prelude.{⊤}
use Rattle.std.proofs.lemmas.List.{append_assoc, reverse-append, take_at, drop_at}
use Rattle.c_types.specs.declared.type_ref.Row.{Row}
use Rattle.lower.specs.declared.body.Body.{Body}
use Rattle.lower.specs.declared.emitter.Emitter.{Emitter}
use Rattle.lower.specs.declared.refusal.LowerRefusal.{LowerRefusal}
use Rattle.lower.specs.declared.refusal.LowerRefusal.TheVariants.{TooManyRegisters, TooLong, Memory}
use Rattle.lower.specs.Emitting.{Line, Code, ◌⨟◌, Around, Made, Making, behind, and_then, around_code, wrapped, ◌>>=◌, ◌>>◌}
use Rattle.lower.specs.SoFar.{Leads, leads_of, Lines, added, grown}
use Rattle.lower.specs.Drafts.{code_of}
use Rattle.lower.specs.Emits.{AllStand, allotted_view, Grows, nothing}
use Rattle.lower.specs.Expressions.{Inside}
use Rattle.lower.specs.Statements.{begun_at, living, closes, closed_behind, all_begin, in_block}
use Rattle.lower.specs.Runs.{around_of, MakesAround, RunsAs, Runs, BeganAt, MoreObjects, Opens, BeginsAs, Begins}
use Rattle.lower.specs.Bodies.{Closing, ClosingDown}
use Rattle.lower.proofs.Growing.{added-none, added-append, grown-behind}

-- ---- code while objects live

abbrev pub inside : List ℕ → Around → Around
inside begun around = record around { in_loop = begun ++ around.in_loop; in_function = begun ++ around.in_function }

abbrev pub lived : (ℕ → List ℕ) → Code → Code
lived begun c around start = c (inside (begun start) around) start

-- and it ends with them
abbrev pub ended : ℕ → (ℕ → List ℕ) → Code → Code
ended line begun c around start = c around start ++ closes line (begun start)

lived-some : (begun : ℕ → List ℕ) (d : Code) (around within : Around) (opened : List ℕ) (ls : List Line) (p : Lines)
    → BeganAt begun opened (Some ls) p → ((start : ℕ) → reverse opened ≡ begun start → within ≡ inside (begun start) around)
    → grown within d p ≡ grown (inside (begun (length ls)) around) d p
lived-some begun d around within opened ls None began is = refl
lived-some begun d around within opened ls (Some ms) began is = ap (λ a. grown a d (Some ms)) (is (length ls) began)

pub lived-code : (begun : ℕ → List ℕ) (c d : Code) (around within : Around) (opened : List ℕ) (s p q : Lines)
    → BeganAt begun opened s p → ((start : ℕ) → reverse opened ≡ begun start → within ≡ inside (begun start) around)
    → ((a : Around) → p ≡ grown a c s) → q ≡ grown within d p → q ≡ grown around (lived begun (c ⨟ d)) s
lived-code begun c d around within opened None p q began is first next = next ∙ ap (grown within d) (first around)
lived-code begun c d around within opened (Some ls) p q began is first next =
    next ∙ lived-some begun d around within opened ls p began is
    ∙ ap (grown (inside (begun (length ls)) around) d) (first (inside (begun (length ls)) around))
    ∙ grown-behind (inside (begun (length ls)) around) c d (Some ls)

ended-some : (begun : ℕ → List ℕ) (line : ℕ) (d : Code) (within : Around) (opened : List ℕ) (ls : List Line) (p q : Lines)
    → BeganAt begun opened (Some ls) p → q ≡ grown within d p → added (closes line (reverse opened)) q ≡ added (closes line (begun (length ls))) q
ended-some begun line d within opened ls None q began next =
    ap (added (closes line (reverse opened))) next ∙ added-none (closes line (reverse opened))
    ∙ sym (ap (added (closes line (begun (length ls)))) next ∙ added-none (closes line (begun (length ls))))
ended-some begun line d within opened ls (Some ms) q began next = ap (λ (o : List ℕ). added (closes line o) q) began

pub ended-code : (begun : ℕ → List ℕ) (line : ℕ) (c d : Code) (around within : Around) (opened : List ℕ) (s p q r : Lines)
    → BeganAt begun opened s p → ((start : ℕ) → reverse opened ≡ begun start → within ≡ inside (begun start) around)
    → ((a : Around) → p ≡ grown a c s) → q ≡ grown within d p → r ≡ added (closes line (reverse opened)) q
    → r ≡ grown around (ended line begun (lived begun (c ⨟ d))) s
ended-code begun line c d around within opened None p q r began is first next last =
    last ∙ ap (added (closes line (reverse opened))) (next ∙ ap (grown within d) (first around)) ∙ added-none (closes line (reverse opened))
ended-code begun line c d around within opened (Some ls) p q r began is first next last =
    last ∙ ended-some begun line d within opened ls p q began next
    ∙ ap (added (closes line (begun (length ls)))) (lived-code begun c d around within opened (Some ls) p q began is first next)
    ∙ sym (added-append (lived begun (c ⨟ d) around (length ls)) (closes line (begun (length ls))) (Some ls))

-- ---- what lives

pub within-is : (old new : Body) (opened begun : List ℕ) (leads : List Leads) → new.objects.items ≡ old.objects.items ++ opened
    → new.outside.items ≡ old.outside.items → reverse opened ≡ begun → around_of new leads ≡ inside begun (around_of old leads)
within-is old new opened begun leads objects outside is =
    let loop : reverse new.objects.items ≡ begun ++ reverse old.objects.items =
    ap reverse objects ∙ reverse-append old.objects.items opened ∙ ap (λ (l : List ℕ). l ++ reverse old.objects.items) is in
    let function : reverse new.objects.items ++ reverse new.outside.items ≡ begun ++ (reverse old.objects.items ++ reverse old.outside.items) =
    (λ i. loop i ++ reverse (outside i)) ∙ append_assoc begun (reverse old.objects.items) (reverse old.outside.items) in
    λ i. record {
      break_at = (leads_of leads).break_at;
      continue_at = (leads_of leads).continue_at;
      in_loop = loop i;
      in_function = function i;
    }

truncated : (old mid inner new : List ℕ) (opened : List ℕ) → mid ≡ old ++ opened → inner ≡ mid → new ≡ take (length old) inner → new ≡ old
truncated old mid inner new opened a b c = c ∙ ap (take (length old)) (b ∙ a) ∙ take_at old opened (length old) refl

dropped : (old mid inner : List ℕ) (opened : List ℕ) → mid ≡ old ++ opened → inner ≡ mid → drop (length old) inner ≡ opened
dropped old mid inner opened a b = ap (drop (length old)) (b ∙ a) ∙ drop_at old opened (length old) refl

-- ---- what is made

module _ (rows : List Row) (begun : ℕ → List ℕ) (s p q r : Body) where
  live-made : (c : Made (Unit {0})) (d : Result (Made (Unit {0})) ℕ) → MoreObjects begun s p → Grows c.code (code_of s.out.code) (code_of p.out.code)
      → MakesAround rows d tt p q → r.out ≡ q.out → r.objects.items ≡ take (length s.objects.items) q.objects.items → r.outside.items ≡ q.outside.items
      → MakesAround rows (around_code (lived begun) (behind c.code d)) tt s r
  live-made c (Ok d) more grows h out objects outside = (
    h.0,
    h.1 ∙ ap (λ (o : Emitter). allotted_view rows o.allotted) (sym out),
    record {
      objects = truncated s.objects.items p.objects.items q.objects.items r.objects.items more.opened more.objects h.2.objects objects;
      outside = outside ∙ h.2.outside ∙ more.outside;
    },
    (λ leads. ap (λ (o : Emitter). code_of o.code leads) out
        ∙ lived-code begun c.code d.code (around_of s leads) (around_of p leads) more.opened (code_of s.out.code leads) (code_of p.out.code leads)
        (code_of q.out.code leads) (more.began leads) (λ start is. within-is s p more.opened (begun start) leads more.objects more.outside is)
        (λ a. grows leads a) (h.3 leads)),
    subst (λ (o : Emitter). AllStand rows o.allotted.types.keys) (sym out) h.4,
  )
  live-made c (Err line) more grows h out objects outside = h

  live-given : (c : Result (Made (Unit {0})) ℕ) (n : Making (Unit {0})) → Opens rows begun c tt s p
      → (AllStand rows p.out.allotted.types.keys → MakesAround rows (n (allotted_view rows p.out.allotted)) tt p q)
      → r.out ≡ q.out → r.objects.items ≡ take (length s.objects.items) q.objects.items → r.outside.items ≡ q.outside.items
      → MakesAround rows (around_code (lived begun) (and_then c (λ done. n))) tt s r
  live-given (Ok c) n now next out objects outside =
      live-made c (n c.after) now.2 now.3 (subst (λ (d : Result (Made (Unit {0})) ℕ). MakesAround rows d tt p q) (λ i. n (sym now.1 i))
      (next now.4)) out objects outside
  live-given (Err line) n now next out objects outside = now

  end-made : (line : ℕ) (c : Made (Unit {0})) (d : Result (Made (Unit {0})) ℕ) → MoreObjects begun s p → Grows c.code (code_of s.out.code) (code_of p.out.code)
      → MakesAround rows d tt p q → ClosingDown line (length s.objects.items) q r
      → MakesAround rows (around_code (ended line begun) (around_code (lived begun) (behind c.code d))) tt s r
  end-made line c (Ok d) more grows h down =
      let closing : Closing line (reverse more.opened) q.out r.out =
      subst (λ (o : List ℕ). Closing line (reverse o) q.out r.out)
      (dropped s.objects.items p.objects.items q.objects.items more.opened more.objects h.2.objects) down.closing in (
        h.0,
        h.1 ∙ ap (allotted_view rows) (sym closing.allotted),
        record {
          objects = truncated s.objects.items p.objects.items q.objects.items r.objects.items more.opened more.objects h.2.objects down.objects;
          outside = down.outside ∙ h.2.outside ∙ more.outside;
        },
        (λ leads.
            ended-code begun line c.code d.code (around_of s leads) (around_of p leads) more.opened (code_of s.out.code leads) (code_of p.out.code leads)
            (code_of q.out.code leads) (code_of r.out.code leads) (more.began leads)
            (λ start is. within-is s p more.opened (begun start) leads more.objects more.outside is)
            (λ a. grows leads a) (h.3 leads) (closing.grown leads)),
        subst (λ a. AllStand rows a.types.keys) (sym closing.allotted) h.4,
      )
  end-made line c (Err l) more grows h down = h

  end-given : (line : ℕ) (c : Result (Made (Unit {0})) ℕ) (n : Making (Unit {0})) → Opens rows begun c tt s p
      → (AllStand rows p.out.allotted.types.keys → MakesAround rows (n (allotted_view rows p.out.allotted)) tt p q)
      → ClosingDown line (length s.objects.items) q r
      → MakesAround rows (around_code (ended line begun) (around_code (lived begun) (and_then c (λ done. n)))) tt s r
  end-given line (Ok c) n now next down =
      end-made line c (n c.after) now.2 now.3
      (subst (λ (d : Result (Made (Unit {0})) ℕ). MakesAround rows d tt p q) (λ i. n (sym now.1 i)) (next now.4)) down
  end-given line (Err l) n now next down = now

-- ---- what runs while objects live

-- they are only forgotten
pub live : {rows : List Row} (begun : ℕ → List ℕ) (m n : Making (Unit {0})) (s p q r : Body) {x y : ⊤} (z : ⊤)
    → Begins nothing rows begun s p (Ok x) m → Runs nothing rows p q (Ok y) n
    → r.out ≡ q.out → r.objects.items ≡ take (length s.objects.items) q.objects.items → r.outside.items ≡ q.outside.items
    → Runs nothing rows s r (Ok z) (wrapped (lived begun) (m >> n))
unfolding ◌>>=◌
live {rows} begun m n s p q r z first next out objects outside = record {
  is = λ stand. live-given rows begun s p q r (m (allotted_view rows s.out.allotted)) n (first.is stand) next.is out objects outside;
}

-- they end
pub block : {rows : List Row} (i : Inside) (locals : List ℕ) (line : ℕ) (n : Making (Unit {0})) (s p q r : Body) {x y : ⊤} (z : ⊤)
    → Begins nothing rows (λ start. begun_at i.rows start locals) s p (Ok x) (all_begin i locals) → Runs nothing rows p q (Ok y) n
    → ClosingDown line (length s.objects.items) q r
    → Runs nothing rows s r (Ok z) (in_block i locals line n)
unfolding ◌>>=◌
block {rows} i locals line n s p q r z first next down = record {
  is = λ stand.
      end-given rows (λ start. begun_at i.rows start locals) s p q r line (all_begin i locals (allotted_view rows s.out.allotted)) n
      (first.is stand) next.is down;
}

-- ---- refusals

refused-by : (f : Code → Code) (c d : Result (Made (Unit {0})) ℕ) (line : ℕ) → c ≡ Err line → around_code f c ≡ Err line
refused-by f c d line is = ap (around_code f) is

opened-refused : (rows : List Row) (begun : ℕ → List ℕ) (s p : Body) (c : Result (Made (Unit {0})) ℕ) (n : Making (Unit {0})) (line : ℕ)
    → Opens rows begun c tt s p → (AllStand rows p.out.allotted.types.keys → n (allotted_view rows p.out.allotted) ≡ Err line)
    → and_then c (λ done. n) ≡ Err line
opened-refused rows begun s p (Ok c) n line now next = ap (behind c.code) ((λ i. n (now.1 i)) ∙ next now.4)
opened-refused rows begun s p (Err l) n line now next = absurd now

-- what is inside was refused
pub live-refused : {Y : Type 0} {view : Y → Unit {0}} {rows : List Row} (begun : ℕ → List ℕ) (m n : Making (Unit {0}))
    (s p q r : Body) {x : ⊤} {e : LowerRefusal}
    {t : Result Y LowerRefusal} → t ≡ Err e
    → Begins nothing rows begun s p (Ok x) m → Runs nothing rows p q (Err e) n
    → Runs view rows s r t (wrapped (lived begun) (m >> n))
unfolding ◌>>=◌
live-refused {Y} {view} {rows} begun m n s p q r {x} {e} {t} out first next =
    subst (λ u. Runs view rows s r u (wrapped (lived begun) (m >> n))) (sym out) (record { is = by e next.is })
  where
    by : (e : LowerRefusal) → RunsAs nothing rows p q (Err e) n → RunsAs view rows s r (Err e) (wrapped (lived begun) (m >> n))
    by (TooManyRegisters line) h = λ stand.
        ap (around_code (lived begun)) (opened-refused rows begun s p (m (allotted_view rows s.out.allotted)) n line (first.is stand) h)
    by (TooLong line) h = h
    by Memory h = h

-- what begins was refused
pub begin-refused : {Y : Type 0} {view : Y → Unit {0}} {rows : List Row} (begun : ℕ → List ℕ) (m n : Making (Unit {0})) (s p r : Body) {e : LowerRefusal}
    {t : Result Y LowerRefusal} → t ≡ Err e → Begins nothing rows begun s p (Err e) m → Runs view rows s r t (wrapped (lived begun) (m >> n))
unfolding ◌>>=◌
begin-refused {Y} {view} {rows} begun m n s p r {e} {t} out first =
    subst (λ u. Runs view rows s r u (wrapped (lived begun) (m >> n))) (sym out) (record { is = by e first.is })
  where
    by : (e : LowerRefusal) → BeginsAs nothing rows begun s p (Err e) m → RunsAs view rows s r (Err e) (wrapped (lived begun) (m >> n))
    by (TooManyRegisters line) h = λ stand. ap (λ c. around_code (lived begun) (and_then c (λ done. n))) (h stand)
    by (TooLong line) h = h
    by Memory h = h

-- a refusal goes through what is only about code
pub wrapped-refused : {Y : Type 0} {view : Y → Unit {0}} {rows : List Row} (f : Code → Code) (m : Making (Unit {0})) (s r r' : Body) (e : LowerRefusal)
    {t : Result Y LowerRefusal} → t ≡ Err e → Runs view rows s r t m → Runs view rows s r' t (wrapped f m)
wrapped-refused {Y} {view} {rows} f m s r r' e {t} out h =
    subst (λ u. Runs view rows s r' u (wrapped f m)) (sym out) (record { is = by e (subst (λ u. RunsAs view rows s r u m) out h.is) })
  where
    by : (e : LowerRefusal) → RunsAs view rows s r (Err e) m → RunsAs view rows s r' (Err e) (wrapped f m)
    by (TooManyRegisters line) h = λ stand. ap (around_code f) (h stand)
    by (TooLong line) h = h
    by Memory h = h

pub block-refused : {Y : Type 0} {view : Y → Unit {0}} {rows : List Row} (i : Inside) (locals : List ℕ) (line : ℕ) (n : Making (Unit {0}))
    (s p q r : Body) {x : ⊤}
    {e : LowerRefusal} {t : Result Y LowerRefusal} → t ≡ Err e
    → Begins nothing rows (λ start. begun_at i.rows start locals) s p (Ok x) (all_begin i locals) → Runs nothing rows p q (Err e) n
    → Runs view rows s r t (in_block i locals line n)
block-refused {Y} {view} {rows} i locals line n s p q r {x} {e} {t} out first next =
    wrapped-refused (closed_behind i.rows locals line) (wrapped (living i.rows locals) (all_begin i locals >> n)) s r r e out
    (live-refused (λ start. begun_at i.rows start locals) (all_begin i locals) n s p q r out first next)

pub block-begin-refused : {Y : Type 0} {view : Y → Unit {0}} {rows : List Row} (i : Inside) (locals : List ℕ) (line : ℕ) (n : Making (Unit {0})) (s p r : Body)
    {e : LowerRefusal} {t : Result Y LowerRefusal} → t ≡ Err e → Begins nothing rows (λ start. begun_at i.rows start locals) s p (Err e) (all_begin i locals)
    → Runs view rows s r t (in_block i locals line n)
block-begin-refused {Y} {view} {rows} i locals line n s p r {e} {t} out first =
    wrapped-refused (closed_behind i.rows locals line) (wrapped (living i.rows locals) (all_begin i locals >> n)) s r r e out
    (begin-refused (λ start. begun_at i.rows start locals) (all_begin i locals) n s p r out first)
