-- What the parts of the reader take is the text of what they give, and no other text is left unread.
use Rattle.std.proofs.Common.{◌≡◌, ℕ, ◌<◌, ◌≤◌, ◌-◌, ◌^◌, false, cond, List, [], ◌∷◌, ◌++◌, length, take, drop, Option, Some, None, nat_eq, ◌&&◌, refl, sym, ap, subst, ◌∙◌, arith, take-append-drop, append_assoc}
use Rattle.std.specs.Prelude.{codes}
use Rattle.std.proofs.lemmas.List.{length-append}
use Rattle.std.proofs.Math.Seq.{take-append_seam, drop-append_seam}
use Rattle.std.specs.Char.{is_ascii_digit, digit_value}
use Rattle.std.specs.Fmt.{decimal}
use Rattle.std.specs.List.{prefix_len}
use Rattle.std.specs.Str.Parse.{AllDigits}
use Rattle.std.proofs.lemmas.Str.Parse.{digit_from_value}
use Rattle.std.specs.Cmp.Lexicographic.{pointwise, bytes_decides}
use Rattle.std.proofs.lemmas.Option.{option_and_then_some, cond_some}
use Rattle.std.proofs.lemmas.Bool.Decides.{nat_tests}
use Rattle.srmt_base.specs.declared.side.Side.{Side}
use Rattle.srmt_base.specs.declared.side.Side.TheVariants.{Lead, Trail}
use Rattle.upset.specs.declared.upset.Target.{Target}
use Rattle.upset.specs.declared.upset.Target.TheVariants.{Register, Cell}
use Rattle.upset.specs.declared.upset.Upset.{Upset}
use Rattle.upset.specs.Lists.{side_text, target_text, upset_text, IsTarget, IsUpset}
use Rattle.upset.specs.Reading.{◌>>=◌, literal, value_of, number, side, register, cell, target, upset}
use Rattle.upset.proofs.Digits.{begins, front_digits, prefix_len-digits, decimal_digits, value_takes, value_of-decimal}

some_is : {A : Type 0} (x y : A) → Some x ≡ Some y → x ≡ y
some_is x y e = cc

-- ---- words

pub literal-is : (w bytes after : List ℕ) → literal w bytes ≡ Some after → bytes ≡ w ++ after
unfolding literal
literal-is w bytes after e =
    let c = cond_some (pointwise nat_eq (take (length w) bytes) w) (drop (length w) bytes) after e in
    sym (take-append-drop (length w) bytes) ∙ ap (λ x. x ++ drop (length w) bytes) ((bytes_decides _ _).0 c.0) ∙ ap (λ x. w ++ x) c.1

pub literal-from : (w rest : List ℕ) → literal w (w ++ rest) ≡ Some rest
unfolding literal
literal-from w rest =
    let front : take (length w) (w ++ rest) ≡ w = take-append_seam w rest in
    let test = (bytes_decides (take (length w) (w ++ rest)) w).1 front in
    let end : drop (length w) (w ++ rest) ≡ rest = drop-append_seam w rest in
    rw (test, end) refl

-- ---- numbers

module _ (least most : ℕ) (fits : most < 2 ^ 64) where
  record Numbered (bytes : List ℕ) (v : ℕ) (after : List ℕ) : Type 0 where
    is : bytes ≡ decimal v ++ after
    from : least ≤ v
    upto : v ≤ most

  number-is : (bytes : List ℕ) (x : ℕ × List ℕ) → number least most bytes ≡ Some x → Numbered bytes x.0 x.1
  unfolding number
  number-is bytes x e =
      let count = prefix_len is_ascii_digit bytes in
      option_and_then_some _ (value_of least most (take count bytes)) x e (λ v is e0.
      let d = value_takes (take count bytes) least most v fits (front_digits bytes) is in
      subst (λ (y : ℕ × List ℕ). Numbered bytes y.0 y.1) (some_is _ _ e0)
      (record { is = sym (take-append-drop count bytes) ∙ ap (λ ds. ds ++ drop count bytes) (sym d.spelled); from = d.from; upto = d.upto }))

  number-from : (v : ℕ) (rest : List ℕ) → least ≤ v → v ≤ most → begins is_ascii_digit rest ≡ false → number least most (decimal v ++ rest) ≡ Some (v, rest)
  unfolding number
  number-from v rest low high ends =
      let d = decimal_digits v (omega arith) in
      let count : prefix_len is_ascii_digit (decimal v ++ rest) ≡ length (decimal v) = prefix_len-digits (decimal v) rest d.1 ends in
      let front : take (length (decimal v)) (decimal v ++ rest) ≡ decimal v = take-append_seam (decimal v) rest in
      let end : drop (length (decimal v)) (decimal v ++ rest) ≡ rest = drop-append_seam (decimal v) rest in
      rw (count, front, end, value_of-decimal least most v fits low high) refl

-- ---- sides

side-from : (s : Side) (rest : List ℕ) → side (side_text s ++ (codes ":" ++ rest)) ≡ Some (s, rest)
unfolding side literal
side-from Lead rest = refl
side-from Trail rest = refl

side-is : (bytes : List ℕ) (x : Side × List ℕ) → side bytes ≡ Some x → bytes ≡ side_text x.0 ++ (codes ":" ++ x.1)
unfolding side
side-is bytes x e = by (literal (codes "lead:") bytes) refl e
  where
    by : (o : Option (List ℕ)) → literal (codes "lead:") bytes ≡ o
        → elim o [ Some rest ↦ Some (Lead, rest) | None ↦ literal (codes "trail:") bytes >>= λ rest. Some (Trail, rest) ] ≡ Some x → bytes ≡ side_text x.0 ++ (codes ":" ++ x.1)
    by (Some rest) is e = subst (λ (y : Side × List ℕ). bytes ≡ side_text y.0 ++ (codes ":" ++ y.1)) (some_is _ _ e) (literal-is (codes "lead:") bytes rest is)
    by None is e = option_and_then_some _ (literal (codes "trail:") bytes) x e (λ rest found e0.
        subst (λ (y : Side × List ℕ). bytes ≡ side_text y.0 ++ (codes ":" ++ y.1)) (some_is _ _ e0) (literal-is (codes "trail:") bytes rest found))

-- ---- targets

-- a target's text with what follows it
abbrev target_on : Target → List ℕ → List ℕ
target_on (Register depth found) rest = decimal depth ++ (codes ":" ++ (decimal found ++ rest))
target_on (Cell pointer) rest = codes "cell:" ++ (decimal pointer ++ rest)

target_on-is : (t : Target) (rest : List ℕ) → target_text t ++ rest ≡ target_on t rest
target_on-is (Register depth found) rest = simp append_assoc
target_on-is (Cell pointer) rest = refl

record Targeted (bytes : List ℕ) (t : Target) (after : List ℕ) : Type 0 where
  is : bytes ≡ target_on t after
  ranged : IsTarget t

register-is : (bytes : List ℕ) (x : Target × List ℕ) → register bytes ≡ Some x → Targeted bytes x.0 x.1
unfolding register
register-is bytes x e =
    option_and_then_some _ (number 1 2000 bytes) x e (λ depth is0 e0.
    option_and_then_some _ (literal (codes ":") depth.1) x e0 (λ colon is1 e1.
    option_and_then_some _ (number 0 1023 colon) x e1 (λ found is2 e2.
    let d = number-is 1 2000 (omega arith) bytes depth is0 in
    let f = number-is 0 1023 (omega arith) colon found is2 in
    subst (λ (y : Target × List ℕ). Targeted bytes y.0 y.1) (some_is _ _ e2) (record {
      is = d.is ∙ ap (λ r. decimal depth.0 ++ r) (literal-is (codes ":") depth.1 colon is1 ∙ ap (λ r. codes ":" ++ r) f.is);
      ranged = (d.from, (d.upto, f.upto));
    }))))

cell-is : (bytes : List ℕ) (x : Target × List ℕ) → cell bytes ≡ Some x → Targeted (codes "cell:" ++ bytes) x.0 x.1
unfolding cell
cell-is bytes x e =
    option_and_then_some _ (number 0 (2 ^ 44 - 1) bytes) x e (λ pointer is e0.
    let n = number-is 0 (2 ^ 44 - 1) (omega arith) bytes pointer is in
    subst (λ (y : Target × List ℕ). Targeted (codes "cell:" ++ bytes) y.0 y.1) (some_is _ _ e0)
    (record { is = ap (λ r. codes "cell:" ++ r) n.is; ranged = omega (arith, n.upto) }))

target-is : (bytes : List ℕ) (x : Target × List ℕ) → target bytes ≡ Some x → Targeted bytes x.0 x.1
unfolding target
target-is bytes x e = by (literal (codes "cell:") bytes) refl e
  where
    by : (o : Option (List ℕ)) → literal (codes "cell:") bytes ≡ o → elim o [ Some rest ↦ cell rest | None ↦ register bytes ] ≡ Some x → Targeted bytes x.0 x.1
    by (Some rest) is e = subst (λ b. Targeted b x.0 x.1) (sym (literal-is (codes "cell:") bytes rest is)) (cell-is rest x e)
    by None is e = register-is bytes x e

-- digits begin no word that a letter begins
digit_no_c : (c : ℕ) → digit_value c < 10 → nat_eq c 99 ≡ false
digit_no_c c h = let k = digit_from_value c h in grind (arith, nat_tests)

no_cell : (ds rest : List ℕ) → 0 < length ds → AllDigits 10 ds → literal (codes "cell:") (ds ++ rest) ≡ None
unfolding literal
no_cell [] rest some h = absurd (omega arith)
no_cell (c ∷ cs) rest some h =
    ap (λ b. cond (b && pointwise nat_eq (take 4 (cs ++ rest)) (codes "ell:")) (Some (drop 5 (c ∷ (cs ++ rest)))) None) (digit_no_c c h.0)

target-cell : (bytes rest : List ℕ) → literal (codes "cell:") bytes ≡ Some rest → target bytes ≡ cell rest
unfolding target
target-cell bytes rest e = ap (λ (o : Option (List ℕ)). elim o [ Some rest ↦ cell rest | None ↦ register bytes ]) e

target-register : (bytes : List ℕ) → literal (codes "cell:") bytes ≡ None → target bytes ≡ register bytes
unfolding target
target-register bytes e = ap (λ (o : Option (List ℕ)). elim o [ Some rest ↦ cell rest | None ↦ register bytes ]) e

register-from : (depth found : ℕ) (rest : List ℕ) → IsTarget (Register depth found) → begins is_ascii_digit rest ≡ false
    → register (target_on (Register depth found) rest) ≡ Some (Register depth found, rest)
unfolding register
register-from depth found rest h ends =
    let first = number-from 1 2000 (omega arith) depth (codes ":" ++ (decimal found ++ rest)) h.0 h.1.0 refl in
    let colon = literal-from (codes ":") (decimal found ++ rest) in
    let second = number-from 0 1023 (omega arith) found rest (omega arith) h.1.1 ends in
    rw (first, colon, second)

cell-from : (pointer : ℕ) (rest : List ℕ) → pointer < 2 ^ 44 → begins is_ascii_digit rest ≡ false → cell (decimal pointer ++ rest) ≡ Some (Cell pointer, rest)
unfolding cell
cell-from pointer rest h ends = let found = number-from 0 (2 ^ 44 - 1) (omega arith) pointer rest (omega arith) (omega arith) ends in rw found

target-from : (t : Target) (rest : List ℕ) → IsTarget t → begins is_ascii_digit rest ≡ false → target (target_on t rest) ≡ Some (t, rest)
target-from (Register depth found) rest h ends =
    let d = decimal_digits depth (omega (arith, h.1.0)) in
    target-register _ (no_cell (decimal depth) (codes ":" ++ (decimal found ++ rest)) d.0 d.1) ∙ register-from depth found rest h ends
target-from (Cell pointer) rest h ends =
    target-cell _ (decimal pointer ++ rest) (literal-from (codes "cell:") (decimal pointer ++ rest)) ∙ cell-from pointer rest h ends

-- ---- upsets

-- an upset's text with what follows it
abbrev pub upset_on : Upset → List ℕ → List ℕ
upset_on u rest =
    side_text u.side ++ (codes ":" ++ (decimal u.step ++ (codes ":" ++ target_on u.target (codes ":" ++ (decimal u.value ++ rest)))))

pub upset_on-is : (u : Upset) (rest : List ℕ) → upset_text u ++ rest ≡ upset_on u rest
upset_on-is u rest = simp append_assoc (ap (λ r. side_text u.side ++ (codes ":" ++ (decimal u.step ++ (codes ":" ++ r)))) (target_on-is u.target (codes ":" ++ (decimal u.value ++ rest))))

pub record Struck (bytes : List ℕ) (u : Upset) (after : List ℕ) : Type 0 where
  pub is : bytes ≡ upset_on u after
  pub ranged : IsUpset u

pub upset-is : (bytes : List ℕ) (x : Upset × List ℕ) → upset bytes ≡ Some x → Struck bytes x.0 x.1
unfolding upset
upset-is bytes x e =
    option_and_then_some _ (side bytes) x e (λ struck is0 e0.
    option_and_then_some _ (number 1 (2 ^ 63 - 1) struck.1) x e0 (λ step is1 e1.
    option_and_then_some _ (literal (codes ":") step.1) x e1 (λ first is2 e2.
    option_and_then_some _ (target first) x e2 (λ place is3 e3.
    option_and_then_some _ (literal (codes ":") place.1) x e3 (λ second is4 e4.
    option_and_then_some _ (number 0 (2 ^ 44 - 1) second) x e4 (λ value is5 e5.
    let k = number-is 1 (2 ^ 63 - 1) (omega arith) struck.1 step is1 in
    let t = target-is first place is3 in
    let v = number-is 0 (2 ^ 44 - 1) (omega arith) second value is5 in
    let behind = literal-is (codes ":") place.1 second is4 ∙ ap (λ r. codes ":" ++ r) v.is in
    subst (λ (y : Upset × List ℕ). Struck bytes y.0 y.1) (some_is _ _ e5) (record {
      is = side-is bytes struck is0
          ∙ ap (λ r. side_text struck.0 ++ (codes ":" ++ r)) (k.is ∙ ap (λ r. decimal step.0 ++ r) (literal-is (codes ":") step.1 first is2
          ∙ ap (λ r. codes ":" ++ r) (t.is ∙ ap (target_on place.0) behind)));
      ranged = record { from_one = k.from; counted = omega (arith, k.upto); target = t.ranged; value = omega (arith, v.upto) };
    })))))))

pub upset-from : (u : Upset) (rest : List ℕ) → IsUpset u → begins is_ascii_digit rest ≡ false → upset (upset_on u rest) ≡ Some (u, rest)
unfolding upset
upset-from u rest h ends =
    let struck = side-from u.side (decimal u.step ++ (codes ":" ++ target_on u.target (codes ":" ++ (decimal u.value ++ rest)))) in
    let step = number-from 1 (2 ^ 63 - 1) (omega arith) u.step (codes ":" ++ target_on u.target (codes ":" ++ (decimal u.value ++ rest))) h.from_one (omega (arith, h.counted)) refl in
    let first = literal-from (codes ":") (target_on u.target (codes ":" ++ (decimal u.value ++ rest))) in
    let place = target-from u.target (codes ":" ++ (decimal u.value ++ rest)) h.target refl in
    let second = literal-from (codes ":") (decimal u.value ++ rest) in
    let value = number-from 0 (2 ^ 44 - 1) (omega arith) u.value rest (omega arith) (omega (arith, h.value)) ends in
    rw (struck, step, first, place, second, value)

-- what is left is no longer than what was there
target_on-long : (t : Target) (rest : List ℕ) → length rest ≤ length (target_on t rest)
target_on-long (Register depth found) rest = omega (arith, length-append (decimal depth) (codes ":" ++ (decimal found ++ rest)), length-append (decimal found) rest)
target_on-long (Cell pointer) rest = omega (arith, length-append (decimal pointer) rest)

pub upset-long : (bytes : List ℕ) (u : Upset) (after : List ℕ) → upset bytes ≡ Some (u, after) → length after ≤ length bytes
upset-long bytes u after e =
    let value = codes ":" ++ (decimal u.value ++ after) in
    let place = codes ":" ++ target_on u.target value in
    let whole : length bytes ≡ length (side_text u.side ++ (codes ":" ++ (decimal u.step ++ place))) = ap length (upset-is bytes (u, after) e).is in
    omega (arith, whole, length-append (side_text u.side) (codes ":" ++ (decimal u.step ++ place)), length-append (decimal u.step) place, target_on-long u.target value, length-append (decimal u.value) after)
