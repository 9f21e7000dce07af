-- Arguments and dropped operands, one after another.
use Rattle.std.proofs.Common.{◌≡◌, ◌==◌, true, false, ℕ, suc, List, [], ◌∷◌, ◌++◌, map, length, remove, Option, Some, None, Result, Ok, Err, slice_get, ◌<◌, inl, arith, refl, sym, ap, ◌∙◌, subst}
use Rattle.c_types.specs.declared.type_ref.Row.{Row}
use Rattle.c_types.specs.declared.form.Conversion.{Conversion}
use Rattle.c_types.specs.Types.{CType}
use Rattle.c_types.specs.Rules.{Ruled, conversion_form}
use Rattle.c_types.specs.Table.{type_at, Extends}
use Rattle.c_typed.specs.declared.value.Value as v
use Rattle.c_typed.specs.Typed.{Value, Values, no_values, first_value}
use Rattle.c_typed.specs.Views.{value_view, values_from}
use Rattle.typing_rules.specs.Terms as terms
use Rattle.typing_rules.specs.Known.{Known}
use Rattle.typing_rules.specs.declared.refusal.TypeRefusal.{TypeRefusal}
use Rattle.typing_rules.specs.declared.refusal.TypeRefusal.TheVariants.{Mismatch}
use Rattle.typing_rules.specs.Checking.{Checked, Checking, and_then, ◌>>=◌, ◌>>◌, pure, needs, ruled_by}
use Rattle.typing_rules.specs.OrderedParts.{passed}
use Rattle.c_values.specs.declared.typed.Written.{Written}
use Rattle.c_values.specs.Stand.{MeansValue, MeansWritten}
use Rattle.c_values.specs.Answers.{AnswersAt, Answers, AreWritten, MeanValues, value_for}
use Rattle.c_values.proofs.Answering.{bind-answers, told-answers}
use Rattle.c_operators.specs.Arguments.{value_in, joined, value_after, passed_after}

-- one more value and then others
pub joined-one : (vs : Values) (u : Value) (rest : Values) → joined (joined vs (first_value u no_values)) rest ≡ joined vs (first_value u rest)
joined-one no_values u rest = refl
joined-one (first_value x vs) u rest = ap (first_value x) (joined-one vs u rest)

ends-same : (vs : Values) (u : Value) (c : Checked Values)
    → and_then c (λ rest. pure (joined (joined vs (first_value u no_values)) rest)) ≡ and_then (and_then c (λ rest. pure (first_value u rest))) (λ rest. pure (joined vs rest))
ends-same vs u (Ok p) = ap (λ z. Ok (z, p.1)) (joined-one vs u p.0)
ends-same vs u (Err e) = refl

steps-same : (at : ℕ) (vs : Values) (t : CType) (w : terms.Written) (m : Checking Values) (r : Ruled Conversion) (k : Known)
    → (((ruled_by at r >>= (λ f. pure (terms.converted_by f t w))) >>= (λ u. pure (joined vs (first_value u no_values)))) >>= (λ us. m >>= (λ rest. pure (joined us rest)))) k
    ≡ ((ruled_by at r >>= (λ f. m >>= (λ rest. pure (first_value (terms.converted_by f t w) rest)))) >>= (λ rest. pure (joined vs rest))) k
steps-same at vs t w m (Ok f) k = ends-same vs (terms.converted_by f t w) (m k)
steps-same at vs t w m (Err n) k = refl

-- a first argument, and then the others
pub step-same : (at : ℕ) (vs : Values) (t : CType) (ts : List CType) (w : terms.Written) (ws : List terms.Written) (k : Known)
    → (value_after at vs t w >>= (λ us. passed_after at us ts ws)) k ≡ passed_after at vs (t ∷ ts) (w ∷ ws) k
step-same at vs t ts w ws k = steps-same at vs t w (passed at ts ws) (conversion_form t (terms.operand_of w.value)) k

-- nothing stands before them
pub behind-none : (m : Checking Values) (k : Known) → (m >>= (λ rest. pure (joined no_values rest))) k ≡ m k
behind-none m k = by (m k)
  where
    by : (c : Checked Values) → and_then c (λ rest. pure (joined no_values rest)) ≡ c
    by (Ok p) = refl
    by (Err e) = refl

-- the first of some operands
pub record Split (rows : List Row) (xs : List Written) (x : Written) (ws : List terms.Written) : Type 0 where
  pub first : terms.Written
  pub rest : List terms.Written
  pub is : first ∷ rest ≡ ws
  pub means : MeansWritten rows x first
  pub others : AreWritten rows (remove xs 0) rest

or-first : Option Written → Written → Written
or-first None y = y
or-first (Some x) y = x

is-there : {A : Type 0} → Option A → Type 0
is-there None = ⊥
is-there (Some y) = Unit {0}

pub split : (rows : List Row) (xs : List Written) (x : Written) (ws : List terms.Written) → slice_get xs 0 ≡ Some x → AreWritten rows xs ws → Split rows xs x ws
unfolding or-first is-there
split rows [] x ws e m = absurd (subst is-there (sym e) tt)
split rows (y ∷ ys) x [] e m = absurd m
split rows (y ∷ ys) x (w ∷ ws) e m =
    record { first = w; rest = ws; is = refl; means = subst (λ z. MeansWritten rows z w) (ap (λ o. or-first o y) e) m.0; others = m.1 }

-- no operand
pub none-written : (rows : List Row) (xs : List Written) (ws : List terms.Written) → xs ≡ [] → AreWritten rows xs ws → ws ≡ []
none-written rows xs [] e m = refl
none-written rows xs (w ∷ ws) e m = absurd (subst (λ z. AreWritten rows z (w ∷ ws)) e m)

-- as many as are written
pub same-length : (rows : List Row) (xs : List Written) (ws : List terms.Written) → AreWritten rows xs ws → length xs ≡ length ws
same-length rows [] [] m = refl
same-length rows [] (w ∷ ws) m = absurd m
same-length rows (x ∷ xs) [] m = absurd m
same-length rows (x ∷ xs) (w ∷ ws) m = ap suc (same-length rows xs ws m.1)

-- the values of operands
pub values-mean : (rows : List Row) (xs : List Written) (ws : List terms.Written) → AreWritten rows xs ws → MeanValues rows (map value_in xs) (terms.values_of ws)
values-mean rows [] [] m = record { always = λ later more. refl }
values-mean rows [] (w ∷ ws) m = absurd m
values-mean rows (x ∷ xs) [] m = absurd m
values-mean rows (x ∷ xs) (w ∷ ws) m = record {
  always = λ later more i. first_value (m.0.typed.value.always later more i) ((values-mean rows xs ws m.1).always later more i);
}

-- one more value
view-more : (types : v.Value → Value) (xs : List v.Value) (x : v.Value) → values_from (map types (xs ++ x ∷ [])) ≡ joined (values_from (map types xs)) (first_value (types x) no_values)
view-more types [] x = refl
view-more types (y ∷ ys) x = ap (first_value (types y)) (view-more types ys x)

pub more-mean : (rows : List Row) (xs : List v.Value) (x : v.Value) (vs : Values) (u : Value) → MeanValues rows xs vs → MeansValue rows x u → MeanValues rows (xs ++ x ∷ []) (joined vs (first_value u no_values))
more-mean rows xs x vs u m n = record {
  always = λ later more. view-more (value_view (type_at later)) xs x ∙ (λ i. joined (m.always later more i) (first_value (n.always later more i) no_values));
}

-- ---- what is answered

-- nothing comes behind
joined-none : (vs : Values) → joined vs no_values ≡ vs
joined-none no_values = refl
joined-none (first_value u vs) = ap (first_value u) (joined-none vs)

pub done-answers : (rows : List Row) (at : ℕ) (xs : List v.Value) (vs : Values) (ts : List CType) (ws : List terms.Written) → MeanValues rows xs vs → ts ≡ [] → ws ≡ []
    → Answers (MeanValues rows) (Ok xs) (passed_after at vs ts ws)
done-answers rows at xs vs ts ws m e f =
    subst (λ z. Answers (MeanValues rows) (Ok xs) (passed_after at vs z ws)) (sym e) (subst (λ z. Answers (MeanValues rows) (Ok xs) (passed_after at vs [] z)) (sym f)
    (λ k. (subst (MeanValues rows xs) (sym (joined-none vs)) m, refl)))

-- more arguments than parameters
pub extra-answers : (rows : List Row) (at : ℕ) (xs : List Written) (vs : Values) (ts : List CType) (ws : List terms.Written) → AreWritten rows xs ws → (xs ≡ [] → ⊥) → ts ≡ []
    → Answers {X = List v.Value} (MeanValues rows) (Err (Mismatch at 11)) (passed_after at vs ts ws)
extra-answers rows at [] vs ts [] m some e = absurd (some refl)
extra-answers rows at [] vs ts (w ∷ ws) m some e = absurd m
extra-answers rows at (x ∷ xs) vs ts [] m some e = absurd m
extra-answers rows at (x ∷ xs) vs ts (w ∷ ws) m some e = subst (λ z. Answers {X = List v.Value} (MeanValues rows) (Err (Mismatch at 11)) (passed_after at vs z (w ∷ ws))) (sym e) (λ k. inl refl)

-- the first argument was converted, and the others come behind it
pub step-answers : (rows : List Row) (at : ℕ) (vs : Values) (t : CType) (ts us : List CType) (w : terms.Written) (ws xs : List terms.Written) (found : List v.Value)
    (r : Result (List v.Value) TypeRefusal) → us ≡ t ∷ ts → w ∷ ws ≡ xs → Answers (MeanValues rows) (Ok found) (value_after at vs t w)
    → ((more : Values) → MeanValues rows found more → Answers (MeanValues rows) r (passed_after at more ts ws)) → Answers (MeanValues rows) r (passed_after at vs us xs)
step-answers rows at vs t ts us w ws xs found r e f first next =
    subst (λ z. Answers (MeanValues rows) r (passed_after at vs z xs)) (sym e) (subst (λ z. Answers (MeanValues rows) r (passed_after at vs (t ∷ ts) z)) f
    (λ k. subst (AnswersAt (MeanValues rows) k r) (step-same at vs t ts w ws k)
    (bind-answers (MeanValues rows) (MeanValues rows) found r (value_after at vs t w) (λ more. passed_after at more ts ws) first next k)))

-- the first argument was refused
pub step-told : (rows : List Row) (at : ℕ) (vs : Values) (t : CType) (ts us : List CType) (w : terms.Written) (ws xs : List terms.Written) (told : TypeRefusal)
    → us ≡ t ∷ ts → w ∷ ws ≡ xs → Answers {X = List v.Value} (MeanValues rows) (Err told) (value_after at vs t w)
    → Answers {X = List v.Value} (MeanValues rows) (Err told) (passed_after at vs us xs)
step-told rows at vs t ts us w ws xs told e f first =
    subst (λ z. Answers {X = List v.Value} (MeanValues rows) (Err told) (passed_after at vs z xs)) (sym e)
    (subst (λ z. Answers {X = List v.Value} (MeanValues rows) (Err told) (passed_after at vs (t ∷ ts) z)) f
    (λ k. subst (AnswersAt {X = List v.Value} (MeanValues rows) k (Err told)) (step-same at vs t ts w ws k)
    (told-answers (MeanValues rows) (MeanValues rows) told (value_after at vs t w) (λ more. passed_after at more ts ws) first k)))

-- what is left is shorter
pub shorter : (xs : List Written) (x : Written) → slice_get xs 0 ≡ Some x → length (remove xs 0) < length xs
unfolding is-there
shorter [] x e = absurd (subst is-there (sym e) tt)
shorter (y ∷ ys) x e = omega arith

-- as many arguments as parameters
pub counted-answers : (rows : List Row) (at : ℕ) (ts : List CType) (ws : List terms.Written) (r : Result (List v.Value) TypeRefusal) → (length ts == length ws) ≡ true
    → Answers (MeanValues rows) r (passed_after at no_values ts ws) → Answers (MeanValues rows) r (needs (length ts == length ws) (Mismatch at 11) >> passed at ts ws)
counted-answers rows at ts ws r e h =
    subst (λ b. Answers (MeanValues rows) r (needs b (Mismatch at 11) >> passed at ts ws)) (sym e)
    (λ k. subst (AnswersAt (MeanValues rows) k r) (behind-none (passed at ts ws) k) (h k))

pub uncounted-answers : (rows : List Row) (at : ℕ) (ts : List CType) (ws : List terms.Written) → (length ts == length ws) ≡ false
    → Answers {X = List v.Value} (MeanValues rows) (Err (Mismatch at 11)) (needs (length ts == length ws) (Mismatch at 11) >> passed at ts ws)
uncounted-answers rows at ts ws e =
    subst (λ b. Answers {X = List v.Value} (MeanValues rows) (Err (Mismatch at 11)) (needs b (Mismatch at 11) >> passed at ts ws)) (sym e) (λ k. inl refl)
