use Rattle.std.proofs.Common.{arith, ◌≡◌, ◌<◌, ℕ, List, [], ◌∷◌, ◌++◌, length, length-append, false, true≢false, is_some, Option, Some, None, get_or, inr, refl, sym, ap, ◌∙◌, Vec, Global}
use Rattle.std.proofs.lemmas.List.{length-map}
use Rattle.std.specs.Str.{bytes_eq}
use Rattle.std.specs.Map.{keys_of, lookup}
use Rattle.std.proofs.lemmas.Map.Entries.{length-keys_of}
use Rattle.indexmap.proofs.CallerLemmas.{insert_entry-new}
use Rattle.c_scopes.specs.Log.{names_of, IsNamed}
use Rattle.c_scopes.proofs.Named.{test_of, position-name, last-of, names-push, meanings-push, absent-name}
use Rattle.c_scopes.proofs.scopes.Scopes.number.Goals as goal

not-some : {A : Type 0} (o : Option A) → false ≡ is_some o → o ≡ None
not-some None e = refl
not-some (Some x) e = absurd (true≢false (sym e))

-- the name behind the others
named-last : {M : Type 0} (old new : List (Vec ℕ Global × Option M)) (k : Vec ℕ Global) (n : List ℕ) (at : ℕ) → new ≡ old ++ (k, None) ∷ [] → k.items ≡ n → at ≡ length old
    → get_or (names_of new) at [] ≡ n
named-last old new k n at e same here =
    let long : at ≡ length (names_of old) = here ∙ sym (length-keys_of old) ∙ sym (length-map (keys_of old) (λ v. v.items)) in
    ap (λ ns. get_or ns at []) (names-push old new k e) ∙ ap (λ i. get_or (names_of old ++ k.items ∷ []) i []) long ∙ last-of (names_of old) k.items [] ∙ same

grown-by : {M : Type 0} (old new : List (Vec ℕ Global × Option M)) (k : Vec ℕ Global) (n : List ℕ) → new ≡ old ++ (k, None) ∷ [] → k.items ≡ n → lookup (test_of n) old ≡ None → IsNamed old new n
grown-by old new k n e same none =
    inr (names-push old new k e ∙ ap (λ i. names_of old ++ i ∷ []) same, meanings-push old new k e, absent-name n old none)

longer-by : {M : Type 0} (old new : List (Vec ℕ Global × Option M)) (x : Vec ℕ Global × Option M) (at : ℕ) → new ≡ old ++ x ∷ [] → at ≡ length old → at < length new
longer-by old new x at e here = let h = ap length e ∙ length-append old (x ∷ []) in omega arith

pub returns-in-Some-clause-found : goal.returns-in-Some-clause-found
returns-in-Some-clause-found g c = (position-name c.args.name.now c.args.names.now.entries c.in-Some.number (sym c.in-Some.ensures.index)).1

pub returns-clause-within : goal.returns-clause-within
returns-clause-within g c =
    let same = c.in_ok-key.ensures.items_if_clones_equal (λ x y h. h) in
    let none = not-some (lookup (test_of c.args.name.now) c.args.names.now.entries) c.in_default.ensures.found in
    let new = c.in_ok-insert.ensures.entries ∙ insert_entry-new (λ x y. bytes_eq x.items y.items) c.args.names.now c.in_ok-key.key None (ap (λ n. lookup (test_of n) c.args.names.now.entries) same ∙ none) in
    longer-by _ _ _ _ new c.len-number.ensures.len

pub returns-clause-found : goal.returns-clause-found
returns-clause-found g c =
    let same = c.in_ok-key.ensures.items_if_clones_equal (λ x y h. h) in
    let none = not-some (lookup (test_of c.args.name.now) c.args.names.now.entries) c.in_default.ensures.found in
    let new = c.in_ok-insert.ensures.entries ∙ insert_entry-new (λ x y. bytes_eq x.items y.items) c.args.names.now c.in_ok-key.key None (ap (λ n. lookup (test_of n) c.args.names.now.entries) same ∙ none) in
    named-last _ _ c.in_ok-key.key _ _ new same c.len-number.ensures.len

pub returns-clause-grown : goal.returns-clause-grown
returns-clause-grown g c =
    let same = c.in_ok-key.ensures.items_if_clones_equal (λ x y h. h) in
    let none = not-some (lookup (test_of c.args.name.now) c.args.names.now.entries) c.in_default.ensures.found in
    let new = c.in_ok-insert.ensures.entries ∙ insert_entry-new (λ x y. bytes_eq x.items y.items) c.args.names.now c.in_ok-key.key None (ap (λ n. lookup (test_of n) c.args.names.now.entries) same ∙ none) in
    grown-by _ _ c.in_ok-key.key _ new same none
