-- Specifiers and declarators: the ordered function and the relation are one.
use Rattle.std.proofs.Common.{◌≡◌, ℕ, ◌≤◌, ◌<◌, Bool as Test, true, false, List, [], ◌∷◌, refl, ap, sym, ◌∙◌, Option, Some, None, Result, Ok, Err, ◌↔◌, arith}
use Rattle.std.specs.Prelude.{if◌then◌else◌, IsTrue, IsFalse, is_none}
use Rattle.std.proofs.lemmas.Bool.Decides.{leb_tells}
use Rattle.c_types.specs.Types.{CType, Qualified, is_void, is_integer, adjusted}
use Rattle.c_types.specs.Rules.{Ruled}
use Rattle.c_tree.specs.declared.specifier.SpecifierWord.{SpecifierWord}
use Rattle.c_typed.specs.declared.constant.Constant.{Constant}
use Rattle.c_typed.specs.declared.constant.Constant.TheVariants.{Value as Number}
use Rattle.typing_rules.specs.declared.refusal.TypeRefusal.{TypeRefusal}
use Rattle.typing_rules.specs.declared.refusal.TypeRefusal.TheVariants.{Twice}
use Rattle.typing_rules.specs.Source.{Named, Specifiers, Declarator, Parameters}
use Rattle.typing_rules.specs.Known as known
use Rattle.typing_rules.specs.Known.{Known, Meaning, Local, innermost, found_in}
use Rattle.typing_rules.specs.Limits.{most_cells}
use Rattle.typing_rules.specs.SpecifierRules.{Specified, specified_as, storage_fits, storage_in, qualifiers_in, named_by, namings}
use Rattle.typing_rules.specs.DeclaratorRules.{Derivation, to_pointer, to_array, to_function, Lines, lines_of, name_of, is_empty_list, constant_length, derived_by, derived_from, derived, parameter_of}
use Rattle.typing_rules.specs.Checking.{Checking}
use Rattle.typing_rules.specs.Holding.{Typing}
use Rattle.typing_rules.specs.Exact.{Exact}
use Rattle.typing_rules.specs.OrderedParts.{specified, declares, named_local, parameter, parameter_list}
use Rattle.typing_rules.specs.Declarators.{AreSpecified, DerivesType, IsDerived, IsParameterType, IsDeclared, IsNamedLocal, IsParameter, IsParameterList}
use Rattle.typing_rules.proofs.Exactness.{exact_pure, exact_asks, exact_makes, exact_bind, exact_tests, exact_ruled, exact_choose, exact_from_result, allowed_same, refused_no_ok, some_same}

specified_allows : (test : Test) (o : Option CType) (words : List SpecifierWord) (s : Specified)
    → (Path (Ruled Specified) (if test then specified_as o words else Err 21) (Ok s)) ↔
    (IsTrue test × ((t : CType) × (o ≡ Some t) × (s ≡ record { storage = storage_in words; type = record { qualifiers = qualifiers_in words; type = t } })))
specified_allows true (Some t) words s = ((λ e. (refl, (t, refl, sym (allowed_same _ _ e)))), (λ q. ap Ok (rw (some_same t q.1.0 q.1.1) (sym q.1.2))))
specified_allows true None words s = ((λ e. absurd cc), (λ q. absurd cc))
specified_allows false o words s = ((λ e. absurd cc), (λ q. absurd (let p : IsTrue false = q.0 in cc)))

pub exact_specified : (may_store : Test) (s : Specifiers) → Exact (specified may_store s) (AreSpecified may_store s)
exact_specified may_store s = exact_ruled s.line _ _ (specified_allows (storage_fits may_store s.words) (named_by s.words namings) s.words)

pub length_allows : (t : CType) (c : Constant) (n : ℕ)
    → (Path (Ruled ℕ) (if is_void t then Err 14 else if is_integer t then constant_length c else Err 15) (Ok n)) ↔
    (IsTrue (is_integer t) × (c ≡ Number n) × (0 < n) × (n ≤ most_cells))
length_allows t c n = grind (arith, leb_tells)

derives_allows : (at : Lines) (is_adjusted : Test) (d : Derivation) (t u : Qualified) → (derived_by at is_adjusted d t ≡ Ok u) ↔ DerivesType is_adjusted d t u
derives_allows at is_adjusted (to_pointer q) t u = grind arith
derives_allows at is_adjusted (to_array n) t u = grind arith
derives_allows at is_adjusted (to_function ps) t u = grind (arith, leb_tells)

pub derived_allows : (at : Lines) (is_adjusted : Test) (base : Qualified) (ds : List Derivation) (u : Qualified)
    → (derived at is_adjusted base ds ≡ Ok u) ↔ IsDerived is_adjusted base ds u
derived_allows at is_adjusted base [] u = ((λ e. sym (allowed_same _ _ e)), (λ p. ap Ok (sym p)))
derived_allows at is_adjusted base (d ∷ ds) u = go (derived at false base ds) refl (derived_allows at false base ds)
  where
    go : (r : Result Qualified TypeRefusal) → derived at false base ds ≡ r → ((t : Qualified) → (derived at false base ds ≡ Ok t) ↔ IsDerived false base ds t)
        → (derived_from r at is_adjusted d ≡ Ok u) ↔ IsDerived is_adjusted base (d ∷ ds) u
    go (Ok t) p h = (
      (λ e. (t, (h t).0 p, (derives_allows at is_adjusted d t u).0 e)),
      (λ q. rw (allowed_same t q.0 (sym p ∙ (h q.0).1 q.1)) ((derives_allows at is_adjusted d q.0 u).1 q.2)),
    )
    go (Err refusal) p h = ((λ e. absurd cc), (λ q. absurd (refused_no_ok refusal q.0 (sym p ∙ (h q.0).1 q.1))))

parameter_allows : (at : Lines) (base : Qualified) (ds : List Derivation) (u : Qualified)
    → (parameter_of at (derived at true base ds) ≡ Ok u) ↔ IsParameterType base ds u
parameter_allows at base ds u = go (derived at true base ds) refl (derived_allows at true base ds)
  where
    adjusts : (t : Qualified) → (parameter_of at (Ok t) ≡ Ok u) ↔ (IsFalse (is_void t.type) × (u ≡ adjusted t))
    adjusts t = grind arith

    go : (r : Result Qualified TypeRefusal) → derived at true base ds ≡ r → ((t : Qualified) → (derived at true base ds ≡ Ok t) ↔ IsDerived true base ds t)
        → (parameter_of at r ≡ Ok u) ↔ IsParameterType base ds u
    go (Ok t) p h =
        ((λ e. (t, (h t).0 p, ((adjusts t).0 e).0, ((adjusts t).0 e).1)), (λ q. rw (allowed_same t q.0 (sym p ∙ (h q.0).1 q.1)) ((adjusts q.0).1 (q.2, q.3))))
    go (Err refusal) p h = ((λ e. absurd cc), (λ q. absurd (refused_no_ok refusal q.0 (sym p ∙ (h q.0).1 q.1))))

-- ---- names and parameters

pub is_there : (o : Option Meaning) → IsTrue (is_none o) ↔ (o ≡ None)
is_there None = ((λ e. refl), (λ e. refl))
is_there (Some m) = ((λ e. absurd cc), (λ e. absurd cc))

pub exact_declares : (name : Named) (m : Meaning) → Exact (declares name m) (IsDeclared name m)
exact_declares name m =
    exact_bind (exact_tests _ _ (Twice name.line) (λ k. is_there (found_in name.bytes (innermost k.scopes)))) (λ u. exact_makes _)

exact_named_local : (name : Option Named) (n : ℕ) → Exact (named_local name n) (IsNamedLocal name n)
exact_named_local None n = exact_pure tt
exact_named_local (Some name) n = exact_declares name (known.local n)

pub exact_parameter : (s : Specifiers) (base : Qualified) (d : Declarator) (ds : List Derivation) → Exact (parameter s base d ds) (IsParameter s base d ds)
exact_parameter s base d ds =
    exact_bind (exact_from_result _ _ (parameter_allows (lines_of d s.line) base ds)) (λ type.
    exact_bind (exact_asks _) (λ n.
    exact_bind (exact_named_local (name_of d) n) (λ u. exact_makes _)))

pub exact_parameter_list : (ps : Parameters) {each : Checking (Unit {0})} {Each : Typing (Unit {0})}
    → Exact each Each → Exact (parameter_list ps each) (IsParameterList ps Each)
exact_parameter_list ps h =
    exact_choose (is_empty_list ps) (exact_pure []) (exact_bind (exact_asks _) (λ before.
    exact_bind (exact_makes _) (λ u.
    exact_bind h (λ u'.
    exact_bind (exact_asks _) (λ found.
    exact_bind (exact_makes _) (λ u''. exact_pure found))))))
