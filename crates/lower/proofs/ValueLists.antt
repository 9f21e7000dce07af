-- Values of a list are lowered one after another: what a loop has emitted comes before what the rest emits.
use Rattle.std.proofs.Common.{◌≡◌, ℕ, ◌+◌, ◌<◌, ◌≤◌, arith, Bool, false, List, [], ◌∷◌, ◌++◌, map, drop, length, Result, Ok, Err, refl, sym, ◌∙◌, ap, subst}
use Rattle.std.specs.Prelude.{⊤, IsTrue, ◌↔◌}
use Rattle.std.proofs.lemmas.Bool.{false≢true}
use Rattle.mid_code.proofs.RegistersLemmas.{length-registers_list}
use Rattle.std.proofs.Math.ListN.{get_or}
use Rattle.std.proofs.lemmas.List.{append_assoc, drop_more, drop_all}
use Rattle.c_types.specs.declared.type_ref.TypeRef.{TypeRef}
use Rattle.c_types.specs.declared.type_ref.Row.{Row}
use Rattle.c_types.specs.Types.{CType}
use Rattle.c_typed.specs.declared.value.Value as v
use Rattle.c_typed.specs.Views.{value_view, values_from}
use Rattle.mid_code.specs.declared.registers.Registers.{Registers}
use Rattle.mid_code.specs.Registers.{registers_list}
use Rattle.lower.specs.declared.emitter.Emitter.{Emitter}
use Rattle.lower.specs.declared.refusal.LowerRefusal.{LowerRefusal}
use Rattle.lower.specs.declared.refusal.LowerRefusal.TheVariants.{TooManyRegisters, TooLong, Memory}
use Rattle.lower.specs.Emitting.{Making, ◌>>=◌, pure, free_behind}
use Rattle.lower.specs.Expressions.{Inside, value_of, values_in, dropped_in}
use Rattle.lower.specs.Emits.{Emits, itself, nothing}
use Rattle.lower.proofs.Steps.{step, stop, given, same-making}
use Rattle.lower.proofs.Rows.{type-of}

abbrev pub Numbers : Type 0
Numbers = Result (List ℕ) LowerRefusal

abbrev pub listed : List ℕ → List ℕ
listed xs = xs

-- what was found before
abbrev pub before : List ℕ → Numbers → Numbers
before found (Ok xs) = Ok (found ++ xs)
before found (Err e) = Err e

before-none : (r : Numbers) → before [] r ≡ r
before-none (Ok xs) = refl
before-none (Err e) = refl

before-both : (xs ys : List ℕ) (r : Numbers) → before xs (before ys r) ≡ before (xs ++ ys) r
before-both xs ys (Ok zs) = ap Ok (sym (append_assoc xs ys zs))
before-both xs ys (Err e) = refl

append-none : (xs : List ℕ) → xs ++ [] ≡ xs
append-none [] = refl
append-none (x ∷ xs) = ap (λ z. x ∷ z) (append-none xs)

-- a refusal tells nothing of what is given
relabelled : {X Y A : Type 0} (first : X → A) (other : Y → A) (rows : List Row) (old new : Emitter) (m : Making A) (e : LowerRefusal)
    → Emits first rows old new (Err e) m → Emits other rows old new (Err e) m
relabelled first other rows old new m (TooManyRegisters line) h = record { is = h.is }
relabelled first other rows old new m (TooLong line) h = record { is = h.is }
relabelled first other rows old new m Memory h = record { is = h.is }

whole : (rows : List Row) (old new : Emitter) (m : Making (List ℕ)) (xs : List ℕ) (r : Registers) → xs ≡ registers_list r
    → Emits listed rows old new (Ok xs) m → Emits registers_list rows old new (Ok r) m
whole rows old new m xs r is h = record { is = (subst (λ z. Emits listed rows old new (Ok z) m) is h).is }

module _ (i : Inside) (types : TypeRef → CType) (rows : List Row) where
  abbrev pub Values : List v.Value → ℕ → Making (List ℕ)
  Values es = values_in i (values_from (map (value_view types) es))

  abbrev pub Dropped : List v.Value → ℕ → Making (Unit {0})
  Dropped es = dropped_in i (values_from (map (value_view types) es))

  -- whatever the rest emits, all emits with it
  abbrev pub Continues : List v.Value → ℕ → Emitter → List v.Value → ℕ → ℕ → Emitter → List ℕ → Type 0
  Continues es k initial items index free now found =
      (new : Emitter) (r : Numbers) → Emits listed rows now new r (Values (drop index items) free) → Emits listed rows initial new (before found r)
      (Values es k)

  abbrev pub Drops : Emitter → List v.Value → ℕ → ℕ → Emitter → Type 0
  Drops initial items k index now =
      (new : Emitter) (r : Result ⊤ LowerRefusal) → Emits nothing rows now new r (Dropped (drop index items) k) → Emits nothing rows initial new r
      (Dropped items k)

  -- ---- rows

  first-value : (e : v.Value) (es : List v.Value) (k free : ℕ) → free ≡ free_behind (types e.ty) k
      → Values (e ∷ es) k ≡ (value_of i (value_view types e) k >>= (λ x. Values es free >>= (λ xs. pure (x ∷ xs))))
  unfolding values_in
  first-value e es k free is =
      ap (λ z. value_of i (value_view types e) k >>= (λ x. Values es z >>= (λ xs. pure (x ∷ xs)))) (ap (λ t. free_behind t k) (type-of types e) ∙ sym is)

  no-value : (k : ℕ) → Values [] k ≡ pure []
  unfolding values_in
  no-value k = refl

  first-dropped : (e : v.Value) (es : List v.Value) (k : ℕ) → Dropped (e ∷ es) k ≡ (value_of i (value_view types e) k >>= (λ x. Dropped es k))
  unfolding dropped_in
  first-dropped e es k = refl

  none-dropped : (k : ℕ) → Dropped [] k ≡ pure tt
  unfolding dropped_in
  none-dropped k = refl

  -- ---- the loop of arguments

  consed : (old new : Emitter) (x : ℕ) (r : Numbers) (m : Making (List ℕ)) → Emits listed rows old new r m
      → Emits listed rows old new (before (x ∷ []) r) (m >>= (λ xs. pure (x ∷ xs)))
  consed old new x (Ok xs) m h = step _ refl h given
  consed old new x (Err e) m h = stop _ refl refl h

  pub values-begin : (es items : List v.Value) (k : ℕ) (s : Emitter) (found : List ℕ) → items ≡ es → found ≡ [] → Continues es k s items 0 k s found
  values-begin es items k s found same none new r h =
      subst (λ z. Emits listed rows s new z (Values es k)) (sym (ap (λ z. before z r) none ∙ before-none r))
      (subst (λ z. Emits listed rows s new r (Values z k)) same h)

  pub values-next : (es : List v.Value) (k : ℕ) (initial now mid : Emitter) (items : List v.Value) (index free free' : ℕ) (found found' : List ℕ)
      (x y z : v.Value) (number : ℕ) → index < length items → x ≡ get_or items index x → y ≡ x → z ≡ x → free' ≡ free_behind (types z.ty) free
      → found' ≡ found ++ number ∷ []
      → Continues es k initial items index free now found
      → Emits itself rows now mid (Ok number) (value_of i (value_view types y) free)
      → Continues es k initial items (index + 1) free' mid found'
  values-next es k initial now mid items index free free' found found' x y z number below at same same' is more before-it emitted new r h =
      subst (λ w. Emits listed rows initial new w (Values es k)) (before-both found (number ∷ []) r ∙ ap (λ w. before w r) (sym more))
      (before-it new (before (number ∷ []) r)
      (same-making (ap (λ w. Values w free) (drop_more items index x below ∙ ap (λ w. w ∷ drop (index + 1) items) (sym at)))
      (step _ (first-value x (drop (index + 1) items) free free' (is ∙ ap (λ w. free_behind (types w.ty) free) same'))
      (subst (λ w. Emits itself rows now mid (Ok number) (value_of i (value_view types w) free)) same emitted)
      (consed mid new number r (Values (drop (index + 1) items) free') h))))

  pub values-refused : (es : List v.Value) (k : ℕ) (initial now new : Emitter) (items : List v.Value) (index free : ℕ) (found : List ℕ)
      (x y : v.Value) (e : LowerRefusal) (r : Result Registers LowerRefusal) → index < length items → x ≡ get_or items index x → y ≡ x → r ≡ Err e
      → Continues es k initial items index free now found
      → Emits itself rows now new (Err e) (value_of i (value_view types y) free)
      → Emits registers_list rows initial new r (Values es k)
  values-refused es k initial now new items index free found x y e r below at same out before-it emitted =
      subst (λ w. Emits registers_list rows initial new w (Values es k)) (sym out)
      (relabelled _ _ _ _ _ _ e (before-it new (Err e)
      (same-making (ap (λ w. Values w free) (drop_more items index x below ∙ ap (λ w. w ∷ drop (index + 1) items) (sym at)))
      (stop _ (first-value x (drop (index + 1) items) free (free_behind (types x.ty) free) refl) refl
      (subst (λ w. Emits itself rows now new (Err e) (value_of i (value_view types w) free)) same emitted)))))

  pub values-end : (es : List v.Value) (k : ℕ) (initial now : Emitter) (items : List v.Value) (index free : ℕ) (found : Registers) → length items ≤ index
      → Continues es k initial items index free now (registers_list found)
      → Emits registers_list rows initial now (Ok found) (Values es k)
  values-end es k initial now items index free found past before-it =
      whole _ _ _ _ (registers_list found ++ []) found (append-none (registers_list found))
      (before-it now (Ok []) (same-making (ap (λ w. Values w free) (drop_all index items past) ∙ no-value free) (given)))

  -- ---- the loop of dropped values

  pub drops-begin : (items : List v.Value) (k : ℕ) (s : Emitter) → Drops s items k 0 s
  drops-begin items k s new r h = h

  dropping : (initial now : Emitter) (items : List v.Value) (k index : ℕ) (x : v.Value) → index < length items → x ≡ get_or items index x
      → Dropped (drop index items) k ≡ (value_of i (value_view types x) k >>= (λ z. Dropped (drop (index + 1) items) k))
  dropping initial now items k index x below at =
      ap (λ w. Dropped w k) (drop_more items index x below ∙ ap (λ w. w ∷ drop (index + 1) items) (sym at)) ∙ first-dropped x (drop (index + 1) items) k

  pub drops-next : (initial now mid : Emitter) (items : List v.Value) (k index : ℕ) (x y : v.Value) (number : ℕ) → index < length items
      → x ≡ get_or items index x → y ≡ x → Drops initial items k index now
      → Emits itself rows now mid (Ok number) (value_of i (value_view types y) k)
      → Drops initial items k (index + 1) mid
  drops-next initial now mid items k index x y number below at same before-it emitted new r h =
      before-it new r (step _ (dropping initial now items k index x below at)
      (subst (λ w. Emits itself rows now mid (Ok number) (value_of i (value_view types w) k)) same emitted) h)

  pub drops-refused : (es : List v.Value) (initial now new : Emitter) (items : List v.Value) (k index : ℕ) (x y : v.Value) (e : LowerRefusal)
      (r : Result ⊤ LowerRefusal) → items ≡ es → index < length items
      → x ≡ get_or items index x → y ≡ x → r ≡ Err e → Drops initial items k index now
      → Emits itself rows now new (Err e) (value_of i (value_view types y) k)
      → Emits nothing rows initial new r (Dropped es k)
  drops-refused es initial now new items k index x y e r all below at same out before-it emitted =
      subst (λ w. Emits nothing rows initial new r (Dropped w k)) all
      (before-it new r (stop _ (dropping initial now items k index x below at) out
      (subst (λ w. Emits itself rows now new (Err e) (value_of i (value_view types w) k)) same emitted)))

  pub drops-end : (es : List v.Value) (initial now : Emitter) (items : List v.Value) (k index : ℕ) → items ≡ es → length items ≤ index
      → Drops initial items k index now → Emits nothing rows initial now (Ok tt) (Dropped es k)
  drops-end es initial now items k index all past before-it =
      subst (λ w. Emits nothing rows initial now (Ok tt) (Dropped w k)) all
      (before-it now (Ok tt) (same-making (ap (λ w. Dropped w k) (drop_all index items past) ∙ none-dropped k) (given)))

-- ---- room for one argument more

pub has-room : (r : Registers) (b : Bool) → (IsTrue b ↔ (length (registers_list r) ≡ 16)) → b ≡ false → length (registers_list r) < 16
has-room r b full is = below (length (registers_list r)) r.count (length-registers_list r) r.within (λ e. false≢true (sym is ∙ full.1 e))
  where
    below : (n count : ℕ) → n ≡ count → count ≤ 16 → (n ≡ 16 → ⊥) → n < 16
    below n count e within not = omega arith
