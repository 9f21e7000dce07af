-- What texts written one after the other come to.
use Rattle.std.proofs.Common.{◌≡◌, ◌⊎◌, inl, inr, ℕ, ◌+◌, Bool, true, false, List, [], ◌∷◌, ◌++◌, length, take, drop, Option, Some, None, refl, sym, ap, subst, ◌∙◌, arith, append_assoc}
use Rattle.std.specs.Prelude.{option_map, codes}
use Rattle.std.proofs.Math.Seq.{take-append_seam, take-append-add}
use Rattle.std.proofs.lemmas.List.{take-append-drop, append-nil}
use Rattle.std.proofs.lemmas.Grind.{flat_map-append}
use Rattle.srmt_outside.specs.Count.{Rose}
use Rattle.srmt_outside.specs.Told.{Appends, AppendsPrefix}
use Rattle.answers.specs.Pens.{Wrote, WroteLines}

appends_both : (before middle after : Option (List ℕ)) (s t : List ℕ) → Appends before middle s → Appends middle after t → Appends before after (s ++ t)
appends_both None middle after s t first second = second ∙ ap (option_map (λ told. told ++ t)) first
appends_both (Some told) middle after s t first second = second ∙ ap (option_map (λ (told : List ℕ). told ++ t)) first ∙ ap Some (append_assoc told s t)

-- a first part of a text is one of what begins with it
first_part : (n : ℕ) (s t : List ℕ) → take (length (take n s)) (s ++ t) ≡ take n s
first_part n s t =
    let split : s ++ t ≡ take n s ++ (drop n s ++ t) = ap (λ (u : List ℕ). u ++ t) (sym (take-append-drop n s)) ∙ append_assoc (take n s) (drop n s) t in
    ap (take (length (take n s))) split ∙ take-append_seam (take n s) (drop n s ++ t)

shorter : (before after : Option (List ℕ)) (s t : List ℕ) → AppendsPrefix before after s → AppendsPrefix before after (s ++ t)
shorter before after s t (n, appended) = (length (take n s), subst (λ (u : List ℕ). Appends before after u) (sym (first_part n s t)) appended)

longer : (before middle after : Option (List ℕ)) (s t : List ℕ) → Appends before middle s → AppendsPrefix middle after t → AppendsPrefix before after (s ++ t)
longer before middle after s t first (n, appended) = (length s + n, subst (λ (u : List ℕ). Appends before after u) (sym (take-append-add s t n)) (appends_both before middle after s (take n t) first appended))

none_before : (first second : List (List ℕ)) → first ++ second ≡ [] → first ≡ []
none_before [] second e = refl
none_before (line ∷ first) second e = absurd (cc)

none_behind : (first second : List (List ℕ)) → first ++ second ≡ [] → second ≡ []
none_behind [] second e = e
none_behind (line ∷ first) second e = absurd (cc)

module _ {S : Type 0} {bytes : S → Option (List ℕ)} {faults : S → ℕ} where
  both : (y : Bool) {a b c : S} {x z : Bool} {s t : List ℕ} → Wrote bytes faults a x b y s → Wrote bytes faults b y c z t → Wrote bytes faults a x c z (s ++ t)
  both true {a} {b} {c} {x} {z} {s} {t} first second = record {
    whole = λ e. ((first.whole refl).0, appends_both (bytes a) (bytes b) (bytes c) s t (first.whole refl).1 (second.whole e).1);
    part = λ e. longer (bytes a) (bytes b) (bytes c) s t (first.whole refl).1 (second.part e);
    cause = λ e. later (second.cause e);
    stopped = λ e. absurd (cc (first.stopped e).0);
    never_falls = omega arith;
  }
    where
      later : ((true ≡ false) ⊎ Rose (faults b) (faults c)) → (x ≡ false) ⊎ Rose (faults a) (faults c)
      later (inl e) = absurd (cc)
      later (inr rose) = inr (omega arith)
  both false {a} {b} {c} {x} {z} {s} {t} first second = record {
    whole = λ e. absurd (cc (second.stopped refl).0);
    part = λ e. subst (λ (d : S). AppendsPrefix (bytes a) (bytes d) (s ++ t)) (sym (second.stopped refl).1) (shorter (bytes a) (bytes b) s t (first.part refl));
    cause = λ e. earlier (first.cause refl);
    stopped = λ e. ((second.stopped refl).0, (second.stopped refl).1 ∙ (first.stopped e).1);
    never_falls = omega arith;
  }
    where
      earlier : ((x ≡ false) ⊎ Rose (faults a) (faults b)) → (x ≡ false) ⊎ Rose (faults a) (faults c)
      earlier (inl e) = inl e
      earlier (inr rose) = inr (omega arith)

  -- one text and then another
  pub then : {a b c : S} {x y z : Bool} {s t : List ℕ} → Wrote bytes faults a x b y s → Wrote bytes faults b y c z t → Wrote bytes faults a x c z (s ++ t)
  then {y = y} first second = both y first second

  -- the same text
  pub spelled : {a b : S} {x y : Bool} {s t : List ℕ} → s ≡ t → Wrote bytes faults a x b y s → Wrote bytes faults a x b y t
  spelled {a} {b} {x} {y} same wrote = subst (λ (u : List ℕ). Wrote bytes faults a x b y u) same wrote

  -- no text
  pub nothing : (a : S) (x : Bool) → Wrote bytes faults a x a x []
  nothing a x = record {
    whole = λ e. (e, same (bytes a));
    part = λ e. (0, same (bytes a));
    cause = λ e. inl e;
    stopped = λ e. (e, refl);
    never_falls = omega arith;
  }
    where
      same : (told : Option (List ℕ)) → Appends told told []
      same None = refl
      same (Some told) = ap Some (sym (append-nil told))

  -- a line with its end
  pub one_line : {a b : S} {x y : Bool} {line : List ℕ} → Wrote bytes faults a x b y (line ++ codes "\n") → WroteLines bytes faults a x b y (line ∷ [])
  one_line {line = line} wrote = record {
    text = spelled (sym (append-nil (line ++ codes "\n"))) wrote;
    silent = λ e. absurd (cc);
  }

  -- no line
  pub no_line : (a : S) (x : Bool) → WroteLines bytes faults a x a x []
  no_line a x = record { text = nothing a x; silent = λ e. refl }

  -- the same lines
  pub lines_spelled : {a b : S} {x y : Bool} {lines others : List (List ℕ)} → lines ≡ others → WroteLines bytes faults a x b y lines → WroteLines bytes faults a x b y others
  lines_spelled {a} {b} {x} {y} same wrote = subst (λ (ls : List (List ℕ)). WroteLines bytes faults a x b y ls) same wrote

  -- some lines and then others
  pub lines_then : {a b c : S} {x y z : Bool} {first second : List (List ℕ)} → WroteLines bytes faults a x b y first → WroteLines bytes faults b y c z second → WroteLines bytes faults a x c z (first ++ second)
  lines_then {first = first} {second} ones others = record {
    text = spelled (sym (flat_map-append (λ (line : List ℕ). line ++ codes "\n") first second)) (then ones.text others.text);
    silent = λ e. others.silent (none_behind first second e) ∙ ones.silent (none_before first second e);
  }
