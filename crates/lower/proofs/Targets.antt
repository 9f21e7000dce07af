-- The lines of drafts: they depend on where the loops lead that the drafts name, and grow and land as lines do.
use Rattle.std.proofs.Common.{◌≡◌, ◌<◌, ◌≤◌, ℕ, zero, suc, Bool, true, false, List, [], ◌∷◌, ◌++◌, length, get_or, set, Some, None, refl, sym, ◌∙◌, ap, arith}
use Rattle.std.specs.Prelude.{All, IsTrue, map, option_map, nat_lt}
use Rattle.std.proofs.lemmas.List.{map-append, length-map}
use Rattle.std.proofs.lemmas.List.Elements.{All-head, All-tail}
use Rattle.std.proofs.lemmas.Bool.{true≢false, false≢true}
use Rattle.std.proofs.lemmas.Bool.Decides.{nat_tests}
use Rattle.mid_code.specs.declared.mid.Mid.{Mid}
use Rattle.mid_code.specs.declared.mid.Mid.TheVariants as mid
use Rattle.lower.specs.declared.code.Draft.{Draft}
use Rattle.lower.specs.declared.code.Target.{Target}
use Rattle.lower.specs.declared.code.Target.TheVariants.{Known, Break, Continue}
use Rattle.lower.specs.Emitting.{Instruction, plain, Line}
use Rattle.lower.specs.SoFar.{Leads, leading_to, line_to, landed, with_line, if_room, IsHere, most_instructions}
use Rattle.lower.specs.Instructions.{told, instruction_view}
use Rattle.lower.specs.Drafts.{line_of, lines_if, IsBelow}

-- ---- the same lines

same-at : (f g : ℕ → Leads) (bound : ℕ) → ((n : ℕ) → n < bound → f n ≡ g n) → (line : ℕ) (m : Mid) (t : Target)
    → IsBelow bound (record { line = line; mid = m; target = t })
    → line_of f (record { line = line; mid = m; target = t }) ≡ line_of g (record { line = line; mid = m; target = t })
same-at f g bound same line m Known h = refl
same-at f g bound same line m (Break n) h = ap (λ (l : Leads). line_to l.break_at (told line m)) (same n h)
same-at f g bound same line m (Continue n) h = ap (λ (l : Leads). line_to l.continue_at (told line m)) (same n h)

pub same-lines : (f g : ℕ → Leads) (bound : ℕ) → ((n : ℕ) → n < bound → f n ≡ g n) → (ds : List Draft)
    → All (IsBelow bound) ds → map (line_of f) ds ≡ map (line_of g) ds
same-lines f g bound same [] h = refl
same-lines f g bound same (d ∷ ds) h = λ i.
    same-at f g bound same d.line d.mid d.target (All-head (IsBelow bound) d ds h) i
    ∷ same-lines f g bound same ds (All-tail (IsBelow bound) d ds h) i

-- ---- their number

pub here-long : (ls : List Line) (b : Bool) → b ≡ true → IsHere (suc most_instructions) (lines_if b ls)
here-long ls true e = refl
here-long ls false e = absurd (false≢true e)

pub here-short : (f : ℕ → Leads) (n : ℕ) (ds : List Draft) (b : Bool) → b ≡ false → n ≡ length ds → length ds ≤ most_instructions
    → IsHere n (lines_if b (map (line_of f) ds))
here-short f n ds true e is few = absurd (true≢false e)
here-short f n ds false e is few = let same : length (map (line_of f) ds) ≡ length ds = length-map ds (line_of f) in (omega arith, omega arith)

-- ---- a draft more

pub draft-more : (f : ℕ → Leads) (d : Draft) (ds : List Draft) (b : Bool) → (IsTrue b → length ds ≡ most_instructions)
    → length ds < most_instructions
    → lines_if b (map (line_of f) (ds ++ d ∷ [])) ≡ with_line (line_of f d) (lines_if b (map (line_of f) ds))
unfolding with_line
draft-more f d ds true full few = let e : length ds ≡ most_instructions = full refl in absurd (omega arith)
draft-more f d ds false full few =
    ap Some (map-append (line_of f) ds (d ∷ []))
    ∙ ap (if_room (line_of f d) (map (line_of f) ds)) (sym (room (length (map (line_of f) ds)) (length ds) (length-map ds (line_of f)) few))
  where
    room : (n m : ℕ) → n ≡ m → m < most_instructions → nat_lt n most_instructions ≡ true
    room n m e h = grind (arith, nat_tests)

pub draft-none : (f : ℕ → Leads) (d : Draft) (ds : List Draft) (b : Bool) → most_instructions ≤ length ds
    → None ≡ with_line (line_of f d) (lines_if b (map (line_of f) ds))
unfolding with_line
draft-none f d ds true many = refl
draft-none f d ds false many =
    ap (if_room (line_of f d) (map (line_of f) ds)) (sym (room (length (map (line_of f) ds)) (length ds) (length-map ds (line_of f)) many))
  where
    room : (n m : ℕ) → n ≡ m → most_instructions ≤ m → nat_lt n most_instructions ≡ false
    room n m e h = grind (arith, nat_tests)

-- ---- a draft that is led

led-twice : (p q : ℕ) (i : Instruction) → leading_to p (leading_to q i) ≡ leading_to p i
led-twice p q (plain (mid.Jump place)) = refl
led-twice p q (plain (mid.JumpZ r place)) = refl
led-twice p q (plain (mid.JumpN r place)) = refl
led-twice p q other = refl

led-line : (f : ℕ → Leads) (place line : ℕ) (m from : Mid) (t : Target) → instruction_view m ≡ leading_to place (instruction_view from)
    → told line m ≡ line_to place (line_of f (record { line = line; mid = from; target = t }))
led-line f place line m from Known is = ap (λ (i : Instruction). record { line = line; instruction = i }) is
led-line f place line m from (Break n) is =
    ap (λ (i : Instruction). record { line = line; instruction = i }) (is ∙ sym (led-twice place (f n).break_at (instruction_view from)))
led-line f place line m from (Continue n) is =
    ap (λ (i : Instruction). record { line = line; instruction = i }) (is ∙ sym (led-twice place (f n).continue_at (instruction_view from)))

led-lines : (f : ℕ → Leads) (place : ℕ) (m : Mid) (at : ℕ) (ds : List Draft) (d : Draft) → at < length ds
    → instruction_view m ≡ leading_to place (instruction_view (get_or ds at d).mid)
    → map (line_of f) (set ds at (record { line = (get_or ds at d).line; mid = m; target = Known })) ≡ landed at place (map (line_of f) ds)
led-lines f place m at [] d within is = refl
led-lines f place m zero (x ∷ ds) d within is = ap (λ (l : Line). l ∷ map (line_of f) ds) (led-line f place x.line m x.mid x.target is)
led-lines f place m (suc at) (x ∷ ds) d within is = ap (λ (ls : List Line). line_of f x ∷ ls) (led-lines f place m at ds d (omega arith) is)

landed-past : (at place : ℕ) (ls : List Line) → length ls ≤ at → landed at place ls ≡ ls
landed-past at place [] h = refl
landed-past zero place (l ∷ ls) h = absurd (omega arith)
landed-past (suc at) place (l ∷ ls) h = ap (λ (xs : List Line). l ∷ xs) (landed-past at place ls (omega arith))

pub led-at : (f : ℕ → Leads) (place : ℕ) (m : Mid) (at : ℕ) (ds : List Draft) (d : Draft) (b : Bool) → at < length ds → d ≡ get_or ds at d
    → instruction_view m ≡ leading_to place (instruction_view d.mid)
    → lines_if b (map (line_of f) (set ds at (record { line = d.line; mid = m; target = Known })))
    ≡ option_map (landed at place) (lines_if b (map (line_of f) ds))
led-at f place m at ds d true within e is = refl
led-at f place m at ds d false within e is =
    ap (λ (x : Draft). Some (map (line_of f) (set ds at (record { line = x.line; mid = m; target = Known })))) e
    ∙ ap Some (led-lines f place m at ds d within (is ∙ ap (λ (x : Draft). leading_to place (instruction_view x.mid)) e))

pub led-none : (f : ℕ → Leads) (place at : ℕ) (ds : List Draft) (b : Bool) → length ds ≤ at
    → lines_if b (map (line_of f) ds) ≡ option_map (landed at place) (lines_if b (map (line_of f) ds))
led-none f place at ds true past = refl
led-none f place at ds false past =
    let same : length (map (line_of f) ds) ≡ length ds = length-map ds (line_of f) in
    ap Some (sym (landed-past at place (map (line_of f) ds) (omega arith)))

pub long-none : (ls : List Line) (b : Bool) → b ≡ true → lines_if b ls ≡ None
long-none ls true e = refl
long-none ls false e = absurd (false≢true e)
