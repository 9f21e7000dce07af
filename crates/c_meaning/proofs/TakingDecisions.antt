-- What the steps owe that decide on the first operand of `&&`, `||` or `?:`, as the code finds it.
use Rattle.std.proofs.Common.{◌≡◌, ℕ, ◌==◌, Bool, true, false, List, [], ◌∷◌, Result, sym, ap, ◌∙◌, subst}
use Rattle.std.specs.Prelude.{IfOk, OnOk}
use Rattle.std.proofs.lemmas.Result.{on_ok_weaker}
use Rattle.c_types.specs.declared.type_ref.TypeRef.{TypeRef}
use Rattle.c_types.specs.Types.{CType}
use Rattle.c_typed.specs.declared.value.Value as v
use Rattle.c_typed.specs.declared.value.ValueNode.TheVariants as vn
use Rattle.c_typed.specs.Typed.{Value, value, conjunction, disjunction, choice}
use Rattle.c_typed.specs.Views.{value_view}
use Rattle.c_typed.proofs.ViewLaws.{view_conjunction, view_disjunction, view_choice}
use Rattle.c_meaning.specs.declared.run.Did.{Did}
use Rattle.c_meaning.specs.declared.run.Did.TheVariants as did
use Rattle.c_meaning.specs.declared.run.Run.{Run}
use Rattle.c_meaning.specs.declared.setting.At.{At}
use Rattle.c_meaning.specs.Owes.{CanTake, Takes, IsAsBefore}
use Rattle.c_meaning.specs.Pending.{does, evaluate, decide, finish, top_of, below}
use Rattle.c_meaning.specs.Puts.{Puts}
use Rattle.c_meaning.specs.Runs.{types_of}
use Rattle.c_meaning.proofs.TakingSteps.{IsPut}
use Rattle.c_meaning.proofs.TakingValues.{conjunction_stopped, conjunction_goes, disjunction_stopped, disjunction_goes, first_goes, second_goes}
use Rattle.c_meaning.proofs.TakingViews.{value_is}

-- the value u of the first operand has been taken, and these values stay on the stack
module _ (at : At) (old : Run) (x : v.Value) (can : CanTake at old (does (decide (value_view (types_of at.program.now) x)))) (u : ℕ) (us : List ℕ)
    (top : u ≡ top_of old.values) (under : us ≡ below old.values) (new : Run) where
  abbrev types : TypeRef → CType
  types = types_of at.program.now

  abbrev e : Value
  e = value_view types x

  abbrev t : CType
  t = types x.ty

  abbrev Decides : {E : Type 0} → Result Did E → Type 0
  Decides r = IfOk r (Takes at old (does (decide e)) new)

  tested : (b : Bool) → (u == 0) ≡ b → (top_of old.values == 0) ≡ b
  tested b h = ap (λ k. k == 0) (sym top) ∙ h

  abbrev and_is : (a b : v.Value) → x.node ≡ vn.Conjunction a b → e ≡ value x.line t (conjunction (value_view types a) (value_view types b))
  and_is a b is = value_is types x (vn.Conjunction a b) _ is (view_conjunction types a b)

  abbrev or_is : (a b : v.Value) → x.node ≡ vn.Disjunction a b → e ≡ value x.line t (disjunction (value_view types a) (value_view types b))
  or_is a b is = value_is types x (vn.Disjunction a b) _ is (view_disjunction types a b)

  abbrev choice_is : (d a b : v.Value) → x.node ≡ vn.Choice d a b
      → e ≡ value x.line t (choice (value_view types d) (value_view types a) (value_view types b))
  choice_is d a b is = value_is types x (vn.Choice d a b) _ is (view_choice types d a b)

  -- the second operand and the value, or another value, are put before the pending tasks
  second_put : {E : Type 0} (r : Result Did E) (b c : v.Value) → c ≡ b
      → OnOk r (Puts old.tasks new.tasks (λ types. does (evaluate (value_view types c)) ∷ does (finish (value_view types x)) ∷ []))
      → OnOk r (IsPut at old new.tasks (does (evaluate (value_view types b)) ∷ does (finish e) ∷ []))
  second_put r b c got puts =
      on_ok_weaker r
      (λ (h : Puts old.tasks new.tasks (λ types. does (evaluate (value_view types c)) ∷ does (finish (value_view types x)) ∷ [])).
      subst (λ k. IsPut at old new.tasks (does (evaluate (value_view types k)) ∷ does (finish e) ∷ [])) got (h types)) puts

  other_put : {E : Type 0} (r : Result Did E) (b c : v.Value) → c ≡ b
      → OnOk r (Puts old.tasks new.tasks (λ types. does (evaluate (value_view types c)) ∷ []))
      → OnOk r (IsPut at old new.tasks (does (evaluate (value_view types b)) ∷ []))
  other_put r b c got puts =
      on_ok_weaker r
      (λ (h : Puts old.tasks new.tasks (λ types. does (evaluate (value_view types c)) ∷ [])).
      subst (λ k. IsPut at old new.tasks (does (evaluate (value_view types k)) ∷ [])) got (h types)) puts

  pub and_stops : {E : Type 0} (a b : v.Value) (r : Result Did E) → x.node ≡ vn.Conjunction a b → (u == 0) ≡ true
      → OnOk r (new ≡ record old { values = 0 ∷ us }) → IfOk r (λ d. d ≡ did.Went) → Decides r
  and_stops a b r is zero given went =
      conjunction_stopped at old x.line t us under e new (value_view types a) (value_view types b) r (and_is a b is) can (tested true zero) given went

  pub or_stops : {E : Type 0} (a b : v.Value) (r : Result Did E) → x.node ≡ vn.Disjunction a b → (u == 0) ≡ false
      → OnOk r (new ≡ record old { values = 1 ∷ us }) → IfOk r (λ d. d ≡ did.Went) → Decides r
  or_stops a b r is other given went =
      disjunction_stopped at old x.line t us under e new (value_view types a) (value_view types b) r (or_is a b is) can (tested false other) given went

  pub and_goes_on : {E : Type 0} (a b c : v.Value) (r : Result Did E) → x.node ≡ vn.Conjunction a b → c ≡ b → (u == 0) ≡ false
      → OnOk r (Puts old.tasks new.tasks (λ types. does (evaluate (value_view types c)) ∷ does (finish (value_view types x)) ∷ []))
      → OnOk r (IsAsBefore (record old { values = us }) new) → IfOk r (λ d. d ≡ did.Went) → Decides r
  and_goes_on a b c r is got other puts before went =
      conjunction_goes at old x.line t us under e new (value_view types a) (value_view types b) r (and_is a b is) can (tested false other)
      (second_put r b c got puts) before went

  pub or_goes_on : {E : Type 0} (a b c : v.Value) (r : Result Did E) → x.node ≡ vn.Disjunction a b → c ≡ b → (u == 0) ≡ true
      → OnOk r (Puts old.tasks new.tasks (λ types. does (evaluate (value_view types c)) ∷ does (finish (value_view types x)) ∷ []))
      → OnOk r (IsAsBefore (record old { values = us }) new) → IfOk r (λ d. d ≡ did.Went) → Decides r
  or_goes_on a b c r is got zero puts before went =
      disjunction_goes at old x.line t us under e new (value_view types a) (value_view types b) r (or_is a b is) can (tested true zero)
      (second_put r b c got puts) before went

  pub first_chosen : {E : Type 0} (d a b c : v.Value) (r : Result Did E) → x.node ≡ vn.Choice d a b → c ≡ a → (u == 0) ≡ false
      → OnOk r (Puts old.tasks new.tasks (λ types. does (evaluate (value_view types c)) ∷ []))
      → OnOk r (IsAsBefore (record old { values = us }) new) → IfOk r (λ d. d ≡ did.Went) → Decides r
  first_chosen d a b c r is got other puts before went =
      first_goes at old x.line t us under e new (value_view types d) (value_view types a) (value_view types b) r (choice_is d a b is) can (tested false other)
      (other_put r a c got puts) before went

  pub second_chosen : {E : Type 0} (d a b c : v.Value) (r : Result Did E) → x.node ≡ vn.Choice d a b → c ≡ b → (u == 0) ≡ true
      → OnOk r (Puts old.tasks new.tasks (λ types. does (evaluate (value_view types c)) ∷ []))
      → OnOk r (IsAsBefore (record old { values = us }) new) → IfOk r (λ d. d ≡ did.Went) → Decides r
  second_chosen d a b c r is got zero puts before went =
      second_goes at old x.line t us under e new (value_view types d) (value_view types a) (value_view types b) r (choice_is d a b is) can (tested true zero)
      (other_put r b c got puts) before went
