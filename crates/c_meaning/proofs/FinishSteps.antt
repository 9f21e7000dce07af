-- What is made of the values on the stack takes their place, where the code took them off one after another.
use Rattle.std.proofs.Common.{◌≡◌, ℕ, Bool, true, false, List, [], ◌∷◌, ◌++◌, Option, Some, None, Result, Ok, Err, refl, sym, subst, ap, ◌∙◌}
use Rattle.std.specs.Prelude.{IfOk, if◌then◌else◌}
use Rattle.srmt_base.specs.declared.event.Event.{Event}
use Rattle.srmt_base.specs.declared.trap.Trap.{Trap}
use Rattle.srmt_base.specs.declared.trap.SourceEnd.TheVariants.{Trap as TrapEnd}
use Rattle.srmt_base.specs.declared.ty.Ty.{Ty}
use Rattle.srmt_base.specs.Arith.{arith_of}
use Rattle.srmt_base.specs.Convert.{convert_of}
use Rattle.c_types.specs.Types.{CType, ty_of}
use Rattle.c_types.specs.declared.type_ref.TypeRef.{TypeRef}
use Rattle.c_typed.specs.declared.program.TypedProgram.{TypedProgram}
use Rattle.c_typed.specs.declared.value.IntegerChange.{IntegerChange}
use Rattle.c_typed.specs.declared.value.PointerChange.{PointerChange}
use Rattle.c_typed.specs.declared.value.Place as p
use Rattle.c_typed.specs.Typed.{Place, place_type}
use Rattle.c_typed.specs.Views.{place_view}
use Rattle.c_typed.proofs.ViewLaws.{view_place}
use Rattle.source_meaning.specs.World.{Doing, Gives, Ends, and_then, ◌>>=◌, ◌>>◌, computed}
use Rattle.source_meaning.specs.Places.{Location, store}
use Rattle.source_meaning.specs.Expressions.{moved}
use Rattle.source_meaning.specs.Statements.{normal}
use Rattle.c_meaning.specs.declared.run.Did.{Did}
use Rattle.c_meaning.specs.declared.run.Did.TheVariants as did
use Rattle.c_meaning.specs.declared.run.Run.{Run}
use Rattle.c_meaning.specs.declared.setting.At.{At}
use Rattle.c_meaning.specs.declared.store.Stored.{Stored}
use Rattle.c_meaning.specs.declared.store.Trapped.{Trapped}
use Rattle.c_meaning.specs.Finishing.{stored, assigned, updated, pointer_moved}
use Rattle.c_meaning.specs.Operators.{moved_result}
use Rattle.c_meaning.specs.Pending.{top_of, below, located}
use Rattle.c_meaning.specs.Runs.{setting_of, world_of, with_event, going, of_one, of_two, with_result, Steps}
use Rattle.c_meaning.specs.Told.{did_of}

-- the run with other values on the stack
abbrev pub with_stack : Run → List ℕ → Run
with_stack run vs = record run { values = vs }

module _ (p : TypedProgram) {E : Type 0} (r : Result Did E) (old new : Run) where
  pub one_done : (vs : List ℕ) (x : ℕ) (f : ℕ → Doing ℕ) (m : Doing ℕ) → vs ≡ below old.values → x ≡ top_of old.values → m ≡ f x
      → IfOk r (Steps p (with_result p (with_stack old vs) m) (with_stack old vs) new) → IfOk r (Steps p (of_one p old f) old new)
  one_done vs x f m vs-is x-is m-is =
      subst (λ (n : ℕ → Doing ⊥). IfOk r (Steps p n old new))
      (λ i bound. (m-is ∙ ap f x-is) i >>= (λ v. going p bound old (v ∷ vs-is i) normal))

  pub two_done : (us vs : List ℕ) (y x : ℕ) (f : ℕ → ℕ → Doing ℕ) (m : Doing ℕ)
      → y ≡ top_of old.values → us ≡ below old.values → x ≡ top_of us → vs ≡ below us → m ≡ f x y
      → IfOk r (Steps p (with_result p (with_stack old vs) m) (with_stack old vs) new) → IfOk r (Steps p (of_two p old f) old new)
  two_done us vs y x f m y-is us-is x-is vs-is m-is =
      subst (λ (n : ℕ → Doing ⊥). IfOk r (Steps p n old new))
      (λ i bound. (m-is ∙ (λ j. f ((x-is ∙ ap top_of us-is) j) (y-is j))) i >>= (λ v. going p bound old (v ∷ (vs-is ∙ ap below us-is) i) normal))

-- a pointer moves to a result or a trap
pub moved_computed : (line : ℕ) (is_less pointer_first : Bool) (t u : CType) (x y : ℕ)
    → computed line (moved_result is_less pointer_first t u x y) ≡ moved line is_less pointer_first t u x y
moved_computed line is_less true t u x y = refl
moved_computed line is_less false t u x y = refl

-- the type of a place, as the code has it
pub type_of_place : (types : TypeRef → CType) (x : p.Place) → types x.ty.target ≡ (place_type (place_view types x)).type
type_of_place types x = sym (ap (λ (y : Place). (place_type y).type) (view_place types x))

module _ (at : At) (pl : Place) (address value given : ℕ) (old : Run) (l : Location)
    (exact : (bound : ℕ) → l ≡ located (setting_of bound at) pl address) where
  pub stored_done : (w : Stored) (event : Option Event) (vs : List ℕ)
      → ((es : List Event) → store l value (world_of old.world es) ≡ Gives tt (world_of w (with_event es event))) → vs ≡ given ∷ old.values
      → Steps at.program.now (stored at pl address value given old) old (record old { world = w; values = vs }) (did_of event)
  stored_done w None vs makes vs-is = λ bound low es.
      ap (λ k. (store k value >> going at.program.now bound old (given ∷ old.values) normal) (world_of old.world es)) (sym (exact bound))
      ∙ ap (λ o. and_then o (λ _. going at.program.now bound old (given ∷ old.values) normal)) (makes es)
      ∙ ap (λ us. going at.program.now bound old us normal (world_of w es)) (sym vs-is)
  stored_done w (Some event) vs makes vs-is = λ bound low es.
      ap (λ k. (store k value >> going at.program.now bound old (given ∷ old.values) normal) (world_of old.world es)) (sym (exact bound))
      ∙ ap (λ o. and_then o (λ _. going at.program.now bound old (given ∷ old.values) normal)) (makes es)
      ∙ ap (λ us. going at.program.now bound old us normal (world_of w (es ++ event ∷ []))) (sym vs-is)

  pub stored_fails : (new : Run) (t : Trapped) → ((es : List Event) → store l value (world_of old.world es) ≡ Ends (TrapEnd t.trap t.line) es)
      → Steps at.program.now (stored at pl address value given old) old new (did.Trapped t)
  stored_fails new t fails bound low es =
      ap (λ k. (store k value >> going at.program.now bound old (given ∷ old.values) normal) (world_of old.world es)) (sym (exact bound))
      ∙ ap (λ o. and_then o (λ _. going at.program.now bound old (given ∷ old.values) normal)) (fails es)

-- a place takes a value, after the values above its address were taken
module _ (at : At) (old new : Run) where
  pub assigned_done : {E : Type 0} (r : Result Did E) (pl : Place) (us vs : List ℕ) (y x : ℕ)
      → y ≡ top_of old.values → us ≡ below old.values → x ≡ top_of us → vs ≡ below us
      → IfOk r (Steps at.program.now (stored at pl x y y (with_stack old vs)) (with_stack old vs) new)
      → IfOk r (Steps at.program.now (assigned at pl old) old new)
  assigned_done r pl us vs y x y-is us-is x-is vs-is =
      subst (λ (n : ℕ → Doing ⊥). IfOk r (Steps at.program.now n old new))
      (λ i bound. store (located (setting_of bound at) pl ((x-is ∙ ap top_of us-is) i)) (y-is i)
      >> going at.program.now bound old (y-is i ∷ (vs-is ∙ ap below us-is) i) normal)

  module _ (us ts vs : List ℕ) (y x a : ℕ) (y-is : y ≡ top_of old.values) (us-is : us ≡ below old.values) (x-is : x ≡ top_of us) (ts-is : ts ≡ below us)
      (a-is : a ≡ top_of ts) (vs-is : vs ≡ below ts) where
    x-at : x ≡ top_of (below old.values)
    x-at = x-is ∙ ap top_of us-is

    ts-at : ts ≡ below (below old.values)
    ts-at = ts-is ∙ ap below us-is

    a-at : a ≡ top_of (below (below old.values))
    a-at = a-is ∙ ap top_of ts-at

    vs-at : vs ≡ below (below (below old.values))
    vs-at = vs-is ∙ ap below ts-at

    pub updated_done : {E : Type 0} (r : Result Did E) (c : IntegerChange) (pl : Place) (ty : Ty) (operand outcome value given : ℕ)
        → ty ≡ ty_of (place_type pl).type
        → operand ≡ convert_of ty c.ty x → Ok outcome ≡ arith_of c.op c.ty operand y → value ≡ convert_of c.ty ty outcome
        → given ≡ (if c.is_after then x else value)
        → IfOk r (Steps at.program.now (stored at pl a value given (with_stack old vs)) (with_stack old vs) new)
        → IfOk r (Steps at.program.now (updated at c pl old) old new)
    updated_done r c pl ty operand outcome value given ty-is operand-is outcome-is value-is given-is =
        let value-at = value-is ∙ ap (λ (u : Ty). convert_of c.ty u outcome) ty-is in
        let computed-at = outcome-is ∙ (λ i. arith_of c.op c.ty ((operand-is ∙ (λ j. convert_of (ty-is j) c.ty (x-at j))) i) (y-is i)) in
        let given-at = given-is ∙ (λ i. if c.is_after then x-at i else value-at i) in
        subst (λ (n : ℕ → Doing ⊥). IfOk r (Steps at.program.now n old new))
        ((λ i bound. store (located (setting_of bound at) pl (a-at i)) (value-at i) >> going at.program.now bound old (given-at i ∷ vs-at i) normal)
        ∙ (λ i bound. computed c.at (computed-at i) >>= (λ result.
        let value = convert_of c.ty (ty_of (place_type pl).type) result in
        store (located (setting_of bound at) pl (top_of (below (below old.values)))) value
        >> going at.program.now bound old ((if c.is_after then top_of (below old.values) else value) ∷ below (below (below old.values))) normal)))

    pub updated_fails : (c : IntegerChange) (pl : Place) (ty : Ty) (operand : ℕ) (trap : Trap) → ty ≡ ty_of (place_type pl).type
        → operand ≡ convert_of ty c.ty x → Err trap ≡ arith_of c.op c.ty operand y
        → Steps at.program.now (updated at c pl old) old new (did.Trapped (record { trap = trap; line = c.at }))
    updated_fails c pl ty operand trap ty-is operand-is trap-is bound low es =
        let computed-at = trap-is ∙ (λ i. arith_of c.op c.ty ((operand-is ∙ (λ j. convert_of (ty-is j) c.ty (x-at j))) i) (y-is i)) in
        ap (λ (o : Result ℕ Trap). (computed c.at o >>= (λ result.
        let value = convert_of c.ty (ty_of (place_type pl).type) result in
        store (located (setting_of bound at) pl (top_of (below (below old.values)))) value
        >> going at.program.now bound old ((if c.is_after then top_of (below old.values) else value) ∷ below (below (below old.values))) normal))
        (world_of old.world es))
        (sym computed-at)

    pub moved_done : {E : Type 0} (r : Result Did E) (c : PointerChange) (pl : Place) (t by : CType) (value given : ℕ) → t ≡ (place_type pl).type
        → Ok value ≡ moved_result c.is_less true t by x y → given ≡ (if c.is_after then x else value)
        → IfOk r (Steps at.program.now (stored at pl a value given (with_stack old vs)) (with_stack old vs) new)
        → IfOk r (Steps at.program.now (pointer_moved at c pl by old) old new)
    moved_done r c pl t by value given t-is value-is given-is =
        let computed-at = value-is ∙ (λ i. moved_result c.is_less true (t-is i) by (x-at i) (y-is i)) in
        let given-at = given-is ∙ (λ i. if c.is_after then x-at i else value) in
        subst (λ (n : ℕ → Doing ⊥). IfOk r (Steps at.program.now n old new))
        ((λ i bound. store (located (setting_of bound at) pl (a-at i)) value >> going at.program.now bound old (given-at i ∷ vs-at i) normal)
        ∙ (λ i bound. computed c.at (computed-at i) >>= (λ result.
        store (located (setting_of bound at) pl (top_of (below (below old.values)))) result
        >> going at.program.now bound old ((if c.is_after then top_of (below old.values) else result) ∷ below (below (below old.values))) normal)))

    pub moved_fails : (c : PointerChange) (pl : Place) (t by : CType) (trap : Trap) → t ≡ (place_type pl).type
        → Err trap ≡ moved_result c.is_less true t by x y
        → Steps at.program.now (pointer_moved at c pl by old) old new (did.Trapped (record { trap = trap; line = c.at }))
    moved_fails c pl t by trap t-is trap-is bound low es =
        let computed-at = trap-is ∙ (λ i. moved_result c.is_less true (t-is i) by (x-at i) (y-is i)) in
        ap (λ (o : Result ℕ Trap). (computed c.at o >>= (λ result.
        store (located (setting_of bound at) pl (top_of (below (below old.values)))) result
        >> going at.program.now bound old ((if c.is_after then top_of (below old.values) else result) ∷ below (below (below old.values))) normal))
        (world_of old.world es))
        (sym computed-at)
