-- What the steps owe where the code looks at the typed tree, and what it reads of a place.
use Rattle.std.proofs.Common.{◌≡◌, ℕ, Bool, true, false, List, ◌∷◌, Result, Ok, Err, Option, Some, None, refl, sym, ap, ◌∙◌, subst}
use Rattle.std.specs.Prelude.{IfOk, OnOk}
use Rattle.srmt_base.specs.declared.event.Event.{Event}
use Rattle.srmt_base.specs.declared.trap.SourceEnd.TheVariants.{Trap as TrapEnd}
use Rattle.c_types.specs.declared.type_ref.TypeRef.{TypeRef}
use Rattle.c_types.specs.Types.{CType, Qualified}
use Rattle.c_typed.specs.declared.program.TypedProgram.{TypedProgram}
use Rattle.c_typed.specs.declared.statement.Stmt as code_stmt
use Rattle.c_typed.specs.declared.statement.StmtNode as code_stmt_node
use Rattle.c_typed.specs.declared.value.Place as code_place
use Rattle.c_typed.specs.declared.value.PlaceNode as code_place_node
use Rattle.c_typed.specs.declared.value.PlaceNode.TheVariants as pn
use Rattle.c_typed.specs.declared.value.Value as code_value
use Rattle.c_typed.specs.declared.value.ValueNode as code_value_node
use Rattle.c_typed.specs.StatementViews.{stmt_view, stmt_node_view}
use Rattle.c_typed.specs.Statements.{Stmt}
use Rattle.c_typed.specs.Typed.{Place, place, PlaceNode, local, static, text, pointed, element, Value, value, ValueNode, type_of}
use Rattle.c_typed.specs.Views.{value_view, place_view, value_node_view, place_node_view, qualified_from}
use Rattle.c_typed.proofs.StatementViewLaws.{view_stmt}
use Rattle.c_typed.proofs.ViewLaws.{view_value, view_place, view_element}
use Rattle.source_meaning.specs.Expressions.{moved}
use Rattle.source_meaning.specs.Places.{fetch}
use Rattle.source_meaning.specs.Sound.{PlaceHasOperands, HasScale, pointer_of}
use Rattle.source_meaning.specs.Statements.{normal}
use Rattle.source_meaning.specs.World.{Gives, Ends, and_then}
use Rattle.c_meaning.specs.declared.access.Location.{Location as CodeLocation}
use Rattle.c_meaning.specs.declared.run.Did.{Did}
use Rattle.c_meaning.specs.declared.run.Did.TheVariants as did
use Rattle.c_meaning.specs.declared.run.Run.{Run}
use Rattle.c_meaning.specs.declared.setting.At.{At}
use Rattle.c_meaning.specs.declared.store.Trapped.{Trapped}
use Rattle.c_meaning.specs.Operators.{HasScaleOf}
use Rattle.c_meaning.specs.Owes.{CanTake, Takes, held}
use Rattle.c_meaning.specs.Pending.{does, point, top_of, below, located}
use Rattle.c_meaning.specs.Runs.{types_of, setting_of, world_of, with_event, going, going_with, location_view, Frames, Steps, of_two}
use Rattle.c_meaning.specs.Told.{did_of, IsFraming}
use Rattle.c_meaning.proofs.Taking.{work, onward, frame_taken, went_taken}

module _ (types : TypeRef → CType) where
  pub value_is : (x : code_value.Value) (n : code_value_node.ValueNode) (m : ValueNode) → x.node ≡ n → value_node_view types n ≡ m
      → value_view types x ≡ value x.line (types x.ty) m
  value_is x n m is view = view_value types x ∙ ap (λ k. value x.line (types x.ty) (value_node_view types k)) is ∙ ap (value x.line (types x.ty)) view

  pub place_is : (x : code_place.Place) (n : code_place_node.PlaceNode) (m : PlaceNode) → x.node ≡ n → place_node_view types n ≡ m
      → place_view types x ≡ place x.line (qualified_from types x.ty) m
  place_is x n m is view =
      view_place types x ∙ ap (λ k. place x.line (qualified_from types x.ty) (place_node_view types k)) is ∙ ap (place x.line (qualified_from types x.ty)) view

  pub stmt_is : (x : code_stmt.Stmt) (n : code_stmt_node.StmtNode) (m : Stmt) → x.node ≡ n → stmt_node_view types n x.line ≡ m → stmt_view types x ≡ m
  stmt_is x n m is view = view_stmt types x ∙ ap (λ k. stmt_node_view types k x.line) is ∙ view

  pub type_is : (x y : code_value.Value) → y ≡ x → type_of (value_view types x) ≡ types y.ty
  type_is x y got = ap type_of (view_value types x) ∙ ap (λ (z : code_value.Value). types z.ty) (sym got)

  -- the pointer of a sum leads to cells
  scale_of_either : (b : Bool) (a c : Value) → HasScale (type_of (pointer_of b a c)) → HasScaleOf b (type_of a) (type_of c)
  scale_of_either true a c h = h
  scale_of_either false a c h = h

  pub element_scale : (x : code_place.Place) (line : ℕ) (b : Bool) (a c d e : code_value.Value) → x.node ≡ pn.Element line b a c → d ≡ a → e ≡ c
      → PlaceHasOperands (place_view types x) → HasScaleOf b (types d.ty) (types e.ty)
  unfolding PlaceHasOperands
  element_scale x line b a c d e is got-d got-e has =
      let m = element line b (value_view types a) (value_view types c) in
      let parts : PlaceHasOperands (place x.line (qualified_from types x.ty) m) =
      subst PlaceHasOperands (place_is x (pn.Element line b a c) m is (view_element types line b a c)) has in
      subst (λ t. HasScaleOf b t (types e.ty)) (type_is a d got-d)
      (subst (λ t. HasScaleOf b (type_of (value_view types a)) t) (type_is c e got-e)
      (scale_of_either b (value_view types a) (value_view types c) parts.0))

-- a place that is no element
abbrev pub IsNoElement : PlaceNode → Type 0
IsNoElement (element at pointer_first a b) = ⊥
IsNoElement other = Unit {0}

module _ (at : At) (old : Run) where
  abbrev p : TypedProgram
  p = at.program.now

  pub element_taken : {E : Type 0} (x : code_place.Place) (line : ℕ) (b : Bool) (a c d e : code_value.Value) (r : Result Did E) (new : Run)
      → x.node ≡ pn.Element line b a c → d ≡ a → e ≡ c → CanTake at old (does (point (place_view (types_of p) x)))
      → IfOk r (Steps p (of_two p old (moved line false b (types_of p d.ty) (types_of p e.ty))) old new)
      → OnOk r (Frames old new) → IfOk r IsFraming → IfOk r (Takes at old (does (point (place_view (types_of p) x))) new)
  element_taken x line b a c d e (Ok o) new is got-d got-e can steps frame framing =
      let types = types_of p in
      let l = place x.line (qualified_from types x.ty) (element line b (value_view types a) (value_view types c)) in
      let seen : place_view types x ≡ l = place_is types x (pn.Element line b a c) (element line b (value_view types a) (value_view types c)) is (view_element types line b a c) in
      subst (λ k. CanTake at old (does (point k)) → Takes at old (does (point k)) new o) (sym seen)
      (λ can2. frame_taken at old new (does (point l)) can2 (of_two p old (moved line false b (types d.ty) (types e.ty))) o steps
      (λ bound es. λ i. and_then (moved line false b (type_is types a d got-d i) (type_is types c e got-e i) (top_of (below old.values)) (top_of old.values) (world_of old.world es))
      (λ v. going p bound old (v ∷ below (below old.values)) normal))
      frame.tasks frame.current frame.budgets framing) can
  element_taken x line b a c d e (Err o) new is got-d got-e can steps frame framing = framing

  pub no_element : (x : code_place.Place) (n : code_place_node.PlaceNode) (m : PlaceNode) → x.node ≡ n → place_node_view (types_of p) n ≡ m → IsNoElement m
      → CanTake at old (does (point (place_view (types_of p) x))) → Takes at old (does (point (place_view (types_of p) x))) old did.Went
  no_element x n m is view other can =
      let q = qualified_from (types_of p) x.ty in
      subst (λ k. CanTake at old (does (point k)) → Takes at old (does (point k)) old did.Went) (sym (place_is (types_of p) x n m is view))
      (λ can2. went_taken at old old (does (point (place x.line q m))) can2 refl refl refl refl (λ bound es. by_node q bound es m other)) can
    where
      by_node : (q : Qualified) (bound : ℕ) (es : List Event) (k : PlaceNode) → IsNoElement k
          → going_with p bound (does (point (place x.line q k))) old (world_of old.world es) ≡ onward p old (work p old) old.values bound (world_of old.world es)
      by_node q bound es (element e b a c) h = absurd h
      by_node q bound es (local k) h = refl
      by_node q bound es (static k) h = refl
      by_node q bound es (text k) h = refl
      by_node q bound es (pointed k) h = refl

  -- ---- what a place holds

  module _ (l : Place) (a : ℕ) (found : CodeLocation) (is : (bound : ℕ) → location_view found ≡ located (setting_of bound at) l a) where
    pub held_steps : (v : ℕ) (event : Option Event) (d : Did) (us : List ℕ)
        → ((es : List Event) → fetch (location_view found) (world_of old.world es) ≡ Gives v (world_of old.world (with_event es event)))
        → us ≡ v ∷ old.values → d ≡ did_of event → Steps p (held at l a old) old (record old { values = us }) d
    held_steps v None d us fetches stack told =
        subst (Steps p (held at l a old) old (record old { values = us })) (sym told)
        (λ bound low es. ap (λ m. and_then (fetch m (world_of old.world es)) (λ x. going p bound old (x ∷ old.values) normal)) (sym (is bound))
        ∙ ap (λ o. and_then o (λ x. going p bound old (x ∷ old.values) normal)) (fetches es)
        ∙ ap (λ vs. going p bound old vs normal (world_of old.world es)) (sym stack))
    held_steps v (Some event) d us fetches stack told =
        subst (Steps p (held at l a old) old (record old { values = us })) (sym told)
        (λ bound low es. ap (λ m. and_then (fetch m (world_of old.world es)) (λ x. going p bound old (x ∷ old.values) normal)) (sym (is bound))
        ∙ ap (λ o. and_then o (λ x. going p bound old (x ∷ old.values) normal)) (fetches es)
        ∙ ap (λ vs. going p bound old vs normal (world_of old.world (with_event es (Some event)))) (sym stack))

    pub held_traps : (end : Trapped) → ((es : List Event) → fetch (location_view found) (world_of old.world es) ≡ Ends (TrapEnd end.trap end.line) es)
        → Steps p (held at l a old) old old (did.Trapped end)
    held_traps end fetches bound low es =
        ap (λ m. and_then (fetch m (world_of old.world es)) (λ x. going p bound old (x ∷ old.values) normal)) (sym (is bound))
        ∙ ap (λ o. and_then o (λ x. going p bound old (x ∷ old.values) normal)) (fetches es)
