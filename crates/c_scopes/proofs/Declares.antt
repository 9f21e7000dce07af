-- A declaration, and the way back from one.
use Rattle.std.proofs.Common.{arith, ◌≡◌, ℕ, zero, suc, ◌<◌, ◌==◌, ◌++◌, true, false, true≢false, List, [], ◌∷◌, length, Option, Some, None, Result, Ok, Err, slice_get, get_or, set, refl, sym, ◌∙◌, ap, subst, Vec, Global}
use Rattle.std.specs.Map.{keys_of}
use Rattle.std.proofs.lemmas.Bool.{eqb-true}
use Rattle.std.proofs.lemmas.List.{length-map}
use Rattle.std.proofs.lemmas.Option.{get_or_from_slice_get}
use Rattle.std.proofs.lemmas.Map.Entries.{length-keys_of}
use Rattle.std.specs.Result.{OnErr}
use Rattle.indexmap.specs.IndexMap.{set_value_at}
use Rattle.c_scopes.specs.declared.scopes.Entry.{Entry}
use Rattle.c_scopes.specs.declared.scopes.Entry.TheVariants.{Begin, Declared}
use Rattle.c_scopes.specs.declared.scopes.Change.{Change}
use Rattle.c_scopes.specs.Scopes.{meaning_of, with_meaning, innermost, outer_scopes, ShrinksBy}
use Rattle.c_scopes.specs.Log.{names_of, meanings_of, scopes_from, scopes_of, Starts, LeadsBack, IsNamed}
use Rattle.c_scopes.proofs.Meanings.{scopes-push, has-scope}
use Rattle.c_scopes.proofs.Pushed.{declared, declared-undone, begun-undone, last}
use Rattle.c_scopes.proofs.Named.{named, names-set, meanings-set}

pub on-err : {A E : Type 0} (r : Result A E) (Q : Type 0) → Q → OnErr r Q
on-err (Ok a) Q q = tt
on-err (Err e) Q q = q

pub value-read : {A : Type 0} (xs : List A) (i : ℕ) (x d : A) → slice_get xs i ≡ Some x → x ≡ get_or xs i d
value-read xs i x d e = sym (get_or_from_slice_get xs i x d e)

pub zero-of : (n : ℕ) → (0 < n → false ≡ true) → n ≡ 0
zero-of zero h = refl
zero-of (suc n) h = absurd (true≢false (sym (h (omega arith))))

module _ {M : Type 0} where
  length-names : (es : List (Vec ℕ Global × Option M)) → length (names_of es) ≡ length es
  length-names es = length-map (keys_of es) (λ k. k.items) ∙ length-keys_of es

  -- what stands after a write of a value
  written-leads : (es : List (Vec ℕ Global × Option M)) (i : ℕ) (w : Option M) (log : List (Entry M)) → LeadsBack (names_of es) (set (meanings_of es) i w) log
      → LeadsBack (names_of (set_value_at es i w)) (meanings_of (set_value_at es i w)) log
  written-leads es i w log h =
      subst (λ ns. LeadsBack ns (meanings_of (set_value_at es i w)) log) (sym (names-set es i w))
      (subst (λ ms. LeadsBack (names_of es) ms log) (sym (meanings-set es i w)) h)

  declared-behind : (names : List (List ℕ)) (current : List (Option M)) (log : List (Entry M)) (c : Change M) → (length log == 0) ≡ false
      → LeadsBack names current log → c.name < length names → c.before ≡ meaning_of (get_or names c.name []) (scopes_of names log)
      → LeadsBack names (set current c.name (Some c.meaning)) (log ++ Declared c ∷ [])
  declared-behind names current [] c some leads within before = absurd (true≢false some)
  declared-behind names current (x ∷ log) c some leads within before = declared names current x log c leads within before

  -- what is known when a name is declared
  pub record Declares (old new : List (Vec ℕ Global × Option M)) (n : List ℕ) (log : List (Entry M)) (c : Change M) : Type 0 where
    pub grown : IsNamed old new n
    pub leads : LeadsBack (names_of old) (meanings_of old) log
    pub some : (length log == 0) ≡ false
    pub within : c.name < length new
    pub found : get_or (names_of new) c.name [] ≡ n
    pub before : c.before ≡ get_or (meanings_of new) c.name None

  pub declares-leads : (old new : List (Vec ℕ Global × Option M)) (n : List ℕ) (log after : List (Entry M)) (c : Change M) → Declares old new n log c → after ≡ log ++ Declared c ∷ []
      → LeadsBack (names_of (set_value_at new c.name (Some c.meaning))) (meanings_of (set_value_at new c.name (Some c.meaning))) after
  declares-leads old new n log after c d e =
      let leads = (named old new n log d.grown d.leads).0 in
      let within = subst (λ l. c.name < l) (sym (length-names new)) d.within in
      subst (LeadsBack (names_of (set_value_at new c.name (Some c.meaning))) (meanings_of (set_value_at new c.name (Some c.meaning)))) (sym e)
      (written-leads new c.name (Some c.meaning) (log ++ Declared c ∷ [])
      (declared-behind (names_of new) (meanings_of new) log c d.some leads within (d.before ∙ leads.now c.name within)))

  pub declares-scopes : (old new : List (Vec ℕ Global × Option M)) (n : List ℕ) (log after : List (Entry M)) (c : Change M) → Declares old new n log c → after ≡ log ++ Declared c ∷ []
      → scopes_of (names_of (set_value_at new c.name (Some c.meaning))) after ≡ with_meaning n c.meaning (scopes_of (names_of old) log)
  declares-scopes old new n log after c d e =
      ap (λ ns. scopes_of ns after) (names-set new c.name (Some c.meaning))
      ∙ ap (scopes_of (names_of new)) e
      ∙ scopes-push (names_of new) log (Declared c)
      ∙ ap (λ k. with_meaning k c.meaning (scopes_of (names_of new) log)) d.found
      ∙ ap (with_meaning n c.meaning) (named old new n log d.grown d.leads).1

  -- ---- back again

  pub undone-leads : (es : List (Vec ℕ Global × Option M)) (log before : List (Entry M)) (c : Change M) → LeadsBack (names_of es) (meanings_of es) before → before ≡ log ++ Declared c ∷ []
      → LeadsBack (names_of (set_value_at es c.name c.before)) (meanings_of (set_value_at es c.name c.before)) log
  undone-leads es log before c leads e =
      written-leads es c.name c.before log (declared-undone (names_of es) (meanings_of es) log c (subst (LeadsBack (names_of es) (meanings_of es)) e leads))

  pub undone-within : (es : List (Vec ℕ Global × Option M)) (log before : List (Entry M)) (c : Change M) → LeadsBack (names_of es) (meanings_of es) before → before ≡ log ++ Declared c ∷ [] → c.name < length es
  undone-within es log before c leads e =
      subst (λ l. c.name < l) (length-names es) (leads.known (length log) c (ap (λ l. slice_get l (length log)) e ∙ last log (Declared c)))

  -- a log in which something is declared has a scope
  scope-before : (names : List (List ℕ)) (log : List (Entry M)) (c : Change M) → Starts (log ++ Declared c ∷ [])
      → (t : List (List ℕ × M)) × (p : List (List (List ℕ × M))) × (scopes_of names log ≡ t ∷ p)
  unfolding scopes_from
  scope-before names [] c s = absurd s
  scope-before names (Begin ∷ log) c s = has-scope names [] [] log
  scope-before names (Declared d ∷ log) c s = absurd s

  pub undone-scopes : (es : List (Vec ℕ Global × Option M)) (log before : List (Entry M)) (c : Change M) (now : List (List (List ℕ × M)))
      → LeadsBack (names_of es) (meanings_of es) before → before ≡ log ++ Declared c ∷ [] → scopes_of (names_of es) before ≡ now
      → ShrinksBy now (scopes_of (names_of (set_value_at es c.name c.before)) log)
  undone-scopes es log before c now leads e is =
      let names = names_of es in
      let h = scope-before names log c (subst Starts e leads.starts) in
      let new : scopes_of (names_of (set_value_at es c.name c.before)) log ≡ h.0 ∷ h.1 = ap (λ ns. scopes_of ns log) (names-set es c.name c.before) ∙ h.2 in
      let old : ((get_or names c.name [], c.meaning) ∷ h.0) ∷ h.1 ≡ now =
      sym (ap (with_meaning (get_or names c.name []) c.meaning) h.2) ∙ sym (scopes-push names log (Declared c)) ∙ sym (ap (scopes_of names) e) ∙ is in
      subst (λ s. ShrinksBy s (scopes_of (names_of (set_value_at es c.name c.before)) log)) old new

  pub begun-scopes : (names : List (List ℕ)) (log before : List (Entry M)) (now : List (List (List ℕ × M))) → before ≡ log ++ Begin ∷ [] → scopes_of names before ≡ now
      → (innermost now ≡ []) × (scopes_of names log ≡ outer_scopes now)
  begun-scopes names log before now e is =
      let old : now ≡ [] ∷ scopes_of names log = sym is ∙ ap (scopes_of names) e ∙ scopes-push names log Begin in
      (ap innermost old, sym (ap outer_scopes old))

  pub begun-leads : (names : List (List ℕ)) (current : List (Option M)) (log before : List (Entry M)) → LeadsBack names current before → before ≡ log ++ Begin ∷ [] → LeadsBack names current log
  begun-leads names current log before leads e = begun-undone names current log (subst (LeadsBack names current) e leads)

  pub empty-scopes : (names : List (List ℕ)) (log : List (Entry M)) (now : List (List (List ℕ × M))) → (length log == 0) ≡ true → scopes_of names log ≡ now → now ≡ []
  unfolding scopes_from
  empty-scopes names [] now e is = sym is
  empty-scopes names (x ∷ log) now e is = let h = eqb-true (length (x ∷ log)) 0 e in absurd (more (length log) h)
    where
      more : (n : ℕ) → suc n ≡ 0 → ⊥
      more n h = omega arith

  nothing : (log : List (Entry M)) → length log ≡ 0 → log ≡ []
  nothing [] h = refl
  nothing (x ∷ log) h = absurd (more (length log) h)
    where
      more : (n : ℕ) → suc n ≡ 0 → ⊥
      more n k = omega arith

  nothing-behind : (after : List (Entry M)) → [] ≡ after ++ [] → after ≡ []
  nothing-behind [] e = refl
  nothing-behind (x ∷ after) e = absurd (more (length (after ++ [])) (ap length e))
    where
      more : (n : ℕ) → 0 ≡ suc n → ⊥
      more n k = omega arith

  pub none-scopes : (names : List (List ℕ)) (log after : List (Entry M)) (now : List (List (List ℕ × M))) → length log ≡ 0 → log ≡ after ++ [] → scopes_of names log ≡ now
      → (innermost now ≡ []) × (scopes_of names after ≡ outer_scopes now)
  unfolding scopes_from
  none-scopes names log after now none e is =
      let empty = nothing log none in
      let old : now ≡ [] = sym is ∙ ap (scopes_of names) empty in
      (ap innermost old, ap (scopes_of names) (nothing-behind after (sym empty ∙ e)) ∙ sym (ap outer_scopes old))

  -- what a pop took off a log
  pub popped : (before log : List (Entry M)) (x e : Entry M) → before ≡ log ++ x ∷ [] → x ≡ e → before ≡ log ++ e ∷ []
  popped before log x e h same = h ∙ ap (λ z. log ++ z ∷ []) same
