-- The expressions of initializers, one behind the other.
use Rattle.std.proofs.Common.{◌≡◌, ℕ, ◌+◌, ◌<◌, ◌≤◌, List, map, length, drop, get_or, Result, Ok, Err, sym, subst}
use Rattle.std.specs.Bool.{⊤}
use Rattle.c_tree.specs.declared.declaration.Initializer as tree_initializer
use Rattle.typing_rules.specs.declared.refusal.TypeRefusal.{TypeRefusal}
use Rattle.typing_rules.specs.Source.{Expr}
use Rattle.typing_rules.specs.SourceUnits.{single, braced, Initials}
use Rattle.typing_rules.specs.SourceViews.{initial_view, initials_from}
use Rattle.typing_rules.specs.Checking.{Checking, pure}
use Rattle.typing_rules.specs.OrderedDeclarations.{value_of, insides, all_insides}
use Rattle.c_values.specs.declared.typed.Written.{Written}
use Rattle.c_values.specs.Stand.{MeansWritten}
use Rattle.c_known.specs.declared.known.Known.{Known}
use Rattle.c_known.specs.Gives.{Gives, IsDone}
use Rattle.c_known.proofs.Binding.{bind, told, pure-gives}
use Rattle.c_declarations.proofs.Runs.{from-one-on, none-from}

pub single-done : (old mid : Known) (x : Written) (e : Expr) → Gives MeansWritten old mid (Ok x) (value_of e) → Gives IsDone old mid (Ok tt) (insides (single e))
unfolding insides all_insides
single-done old mid x e g = bind MeansWritten IsDone old mid mid x (Ok tt) (value_of e) (λ _. pure tt) g (λ a more m. pure-gives IsDone mid tt tt tt)

pub single-refused : (old mid : Known) (r : TypeRefusal) (e : Expr) → Gives {X = Written} MeansWritten old mid (Err r) (value_of e) → Gives {X = ⊤} IsDone old mid (Err r) (insides (single e))
unfolding insides all_insides
single-refused old mid r e g = told MeansWritten IsDone old mid mid r (value_of e) (λ _. pure tt) g

pub braced-gives : (old new : Known) (r : Result ⊤ TypeRefusal) (line : ℕ) (xs : Initials) → Gives IsDone old new r (all_insides xs) → Gives IsDone old new r (insides (braced line xs))
unfolding insides all_insides
braced-gives old new r line xs g = g

-- ---- several

-- those from one on
abbrev pub insides_from : (ℕ → ℕ) → List tree_initializer.Initializer → ℕ → Checking (Unit {0})
insides_from shift xs i = all_insides (initials_from (map (initial_view shift) (drop i xs)))

pub first-done : (shift : ℕ → ℕ) (xs : List tree_initializer.Initializer) (i : ℕ) (x : tree_initializer.Initializer) (old mid new : Known) (r : Result ⊤ TypeRefusal)
    → i < length xs → x ≡ get_or xs i x → Gives IsDone old mid (Ok tt) (insides (initial_view shift x)) → Gives IsDone mid new r (insides_from shift xs (i + 1))
    → Gives IsDone old new r (insides_from shift xs i)
unfolding insides all_insides
first-done shift xs i x old mid new r below is g h =
    subst (λ (ys : List tree_initializer.Initializer). Gives IsDone old new r (all_insides (initials_from (map (initial_view shift) ys)))) (sym (from-one-on xs i x below is))
    (bind IsDone IsDone old mid new tt r (insides (initial_view shift x)) (λ _. insides_from shift xs (i + 1)) g (λ a more m. h))

pub first-refused : (shift : ℕ → ℕ) (xs : List tree_initializer.Initializer) (i : ℕ) (x : tree_initializer.Initializer) (old mid : Known) (e : TypeRefusal)
    → i < length xs → x ≡ get_or xs i x → Gives {X = ⊤} IsDone old mid (Err e) (insides (initial_view shift x))
    → Gives {X = ⊤} IsDone old mid (Err e) (insides_from shift xs i)
unfolding insides all_insides
first-refused shift xs i x old mid e below is g =
    subst (λ (ys : List tree_initializer.Initializer). Gives {X = ⊤} IsDone old mid (Err e) (all_insides (initials_from (map (initial_view shift) ys)))) (sym (from-one-on xs i x below is))
    (told IsDone IsDone old mid mid e (insides (initial_view shift x)) (λ _. insides_from shift xs (i + 1)) g)

pub none-done : (shift : ℕ → ℕ) (xs : List tree_initializer.Initializer) (i : ℕ) (s : Known) → length xs ≤ i → Gives IsDone s s (Ok tt) (insides_from shift xs i)
unfolding insides all_insides
none-done shift xs i s past =
    subst (λ (ys : List tree_initializer.Initializer). Gives IsDone s s (Ok tt) (all_insides (initials_from (map (initial_view shift) ys)))) (sym (none-from xs i past)) (pure-gives IsDone s tt tt tt)
