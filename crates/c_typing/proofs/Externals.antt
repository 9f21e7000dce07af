-- How the declarations of a file make its functions, one after another.
use Rattle.std.proofs.Common.{◌≡◌, ◌<◌, ◌≤◌, ◌+◌, ℕ, true, List, [], ◌∷◌, ◌++◌, append_assoc, map, length, drop, drop_of_length-le, get_or, Result, Ok, Err, refl, sym, ◌∙◌, ap, subst}
use Rattle.std.specs.Prelude.{⊤, OnOk, IfErr}
use Rattle.std.specs.Result.{IsErrAnd}
use Rattle.std.proofs.lemmas.List.{append-nil, map-append}
use Rattle.c_types.specs.Table.{type_at}
use Rattle.c_types.specs.Table.{Extends}
use Rattle.c_types.specs.declared.type_ref.Row.{Row}
use Rattle.c_types.proofs.Grown.{Extends-refl, Extends-trans}
use Rattle.c_typed.specs.declared.program.Function as code_function
use Rattle.c_typed.specs.Statements as t
use Rattle.c_typed.specs.StatementViews.{function_view}
use Rattle.c_tree.specs.declared.unit.External.{External as TreeExternal}
use Rattle.typing_rules.specs.declared.refusal.TypeRefusal.{TypeRefusal}
use Rattle.typing_rules.specs.declared.refusal.TypeRefusal.TheVariants.{Memory}
use Rattle.typing_rules.specs.Known as known
use Rattle.typing_rules.specs.SourceUnits.{External, function, declaration_of, Unit as SourceUnit}
use Rattle.typing_rules.specs.SourceViews.{external_view}
use Rattle.typing_rules.specs.Checking.{Checked, Checking, and_then, ◌>>=◌, ◌>>◌, pure}
use Rattle.typing_rules.specs.OrderedParts.{specified}
use Rattle.typing_rules.specs.OrderedUnits.{externals_of, function_defined, items_at_file}
use Rattle.c_known.specs.declared.known.Known.{Known}
use Rattle.c_known.specs.Gives.{Gives, IsDone}
use Rattle.c_known.proofs.Binding.{bind, told, pure-gives, memory, gives-same}
use Rattle.c_typing.specs.Files.{IsFunction, AreFunctions, MoreFunctions}
use Rattle.c_typing.specs.Steps.{external_step, externals_onto}
use Rattle.c_typing.proofs.Spine.{told-on}
use Rattle.c_typing.proofs.Items.{drop-at}

-- what stands behind functions
abbrev behind : List t.Function → Checking (List t.Function) → Checking (List t.Function)
behind fs m = m >>= (λ more. pure (fs ++ more))

behind-one : (fs : List t.Function) (f : t.Function) (c : Checked (List t.Function))
    → and_then c (λ more. pure ((fs ++ f ∷ []) ++ more)) ≡ and_then (and_then c (λ others. pure (f ∷ others))) (λ more. pure (fs ++ more))
behind-one fs f (Ok q) = ap (λ l. Ok (l, q.1)) (append_assoc fs (f ∷ []) q.0)
behind-one fs f (Err e) = refl

function-step : (fs : List t.Function) (c : Checked t.Function) (m : Checking (List t.Function))
    → and_then (and_then c (λ f. pure (fs ++ f ∷ []))) (λ gs. behind gs m) ≡ and_then (and_then c (λ f. m >>= (λ others. pure (f ∷ others)))) (λ more. pure (fs ++ more))
function-step fs (Ok p) m = behind-one fs p.0 (m p.1)
function-step fs (Err e) m = refl

done-step : (fs : List t.Function) (c : Checked (Unit {0})) (m : Checking (List t.Function))
    → and_then (and_then c (λ done. pure fs)) (λ gs. behind gs m) ≡ and_then (and_then c (λ done. m)) (λ more. pure (fs ++ more))
done-step fs (Ok q) m = refl
done-step fs (Err e) m = refl

declared-step : {A : Type 0} (fs : List t.Function) (c : Checked A) (f : A → Checking (Unit {0})) (m : Checking (List t.Function))
    → and_then (and_then (and_then c f) (λ done. pure fs)) (λ gs. behind gs m) ≡ and_then (and_then c (λ b. f b >> m)) (λ more. pure (fs ++ more))
declared-step fs (Ok p) f m = done-step fs (f p.0 p.1) m
declared-step fs (Err e) f m = refl

onto-step : (fs : List t.Function) (x : External) (rest : SourceUnit) (k : known.Known)
    → (external_step fs x >>= (λ gs. externals_onto gs rest)) k ≡ externals_onto fs (x ∷ rest) k
onto-step fs (function d) rest k = function-step fs (function_defined d k) (externals_of rest)
onto-step fs (declaration_of d) rest k =
    declared-step fs (specified true d.specifiers k) (λ base. items_at_file base.storage base.type d.specifiers.line d.items) (externals_of rest)

none-before : (c : Checked (List t.Function)) → and_then c (λ more. pure ([] ++ more)) ≡ c
none-before (Ok p) = refl
none-before (Err e) = refl

module _ (shift : ℕ → ℕ) (xs : List TreeExternal) where
  -- behind no function
  pub from-none : (s new : Known) (r : Result (List code_function.Function) TypeRefusal) → Gives AreFunctions s new r (externals_onto [] (map (external_view shift) xs))
      → Gives AreFunctions s new r (externals_of (map (external_view shift) xs))
  from-none s new r g =
      gives-same AreFunctions s new r (externals_onto [] (map (external_view shift) xs)) (externals_of (map (external_view shift) xs))
      (λ k. none-before (externals_of (map (external_view shift) xs) k)) g

  pub externals-step : (i : ℕ) (s mid new : Known) (made : List code_function.Function) (r : Result (List code_function.Function) TypeRefusal) (x : TreeExternal) (fs : List t.Function)
      → i < length xs → x ≡ get_or xs i x → Gives {X = ⊤} {A = List t.Function} (MoreFunctions made) s mid (Ok tt) (external_step fs (external_view shift x))
      → ((gs : List t.Function) → AreFunctions mid.types made gs → Gives AreFunctions mid new r (externals_onto gs (map (external_view shift) (drop (i + 1) xs))))
      → Gives AreFunctions s new r (externals_onto fs (map (external_view shift) (drop i xs)))
  externals-step i s mid new made r x fs within is one rest =
      let others = map (external_view shift) (drop (i + 1) xs) in
      subst (λ l. Gives AreFunctions s new r (externals_onto fs (map (external_view shift) l))) (sym (drop-at xs i x within is))
      (gives-same AreFunctions s new r (external_step fs (external_view shift x) >>= (λ gs. externals_onto gs others)) (externals_onto fs (external_view shift x ∷ others))
      (onto-step fs (external_view shift x) others)
      (bind (MoreFunctions made) AreFunctions s mid new tt r (external_step fs (external_view shift x)) (λ gs. externals_onto gs others) one (λ gs grown are. rest gs are)))

  pub externals-told : (i : ℕ) (s mid new : Known) (made : List code_function.Function) (r : Result (List code_function.Function) TypeRefusal) (x : TreeExternal) (fs : List t.Function) (e : TypeRefusal)
      → i < length xs → x ≡ get_or xs i x → Gives {X = ⊤} {A = List t.Function} (MoreFunctions made) s mid (Err e) (external_step fs (external_view shift x)) → IsErrAnd r (λ y. y ≡ e)
      → Gives AreFunctions s new r (externals_onto fs (map (external_view shift) (drop i xs)))
  externals-told i s mid new made r x fs e within is one h =
      let others = map (external_view shift) (drop (i + 1) xs) in
      subst (λ l. Gives AreFunctions s new r (externals_onto fs (map (external_view shift) l))) (sym (drop-at xs i x within is))
      (gives-same AreFunctions s new r (external_step fs (external_view shift x) >>= (λ gs. externals_onto gs others)) (externals_onto fs (external_view shift x ∷ others))
      (onto-step fs (external_view shift x) others)
      (told-on (MoreFunctions made) AreFunctions s mid new e (external_step fs (external_view shift x)) (λ gs. externals_onto gs others) r one h))

  pub externals-end : (i : ℕ) (s : Known) (made : List code_function.Function) (fs : List t.Function) → length xs ≤ i → AreFunctions s.types made fs
      → Gives AreFunctions s s (Ok made) (externals_onto fs (map (external_view shift) (drop i xs)))
  externals-end i s made fs past are =
      subst (λ l. Gives AreFunctions s s (Ok made) (externals_onto fs (map (external_view shift) l))) (sym (drop_of_length-le xs past))
      (record { at = λ k h. record { grown = Extends-refl s.types; means = subst (AreFunctions s.types made) (sym (append-nil fs)) are; knows = h } })

-- ---- one declaration

functions-later : (old rows : List Row) → Extends old rows → (xs : List code_function.Function) (fs : List t.Function) → AreFunctions old xs fs → AreFunctions rows xs fs
functions-later old rows grown xs fs are = record { always = λ later more. are.always later (Extends-trans grown more) }

pub added : (s : Known) (before after : List code_function.Function) (fn : code_function.Function) (fs : List t.Function) (f : t.Function) (r : Result ⊤ TypeRefusal)
    → OnOk r (after ≡ before ++ fn ∷ []) → IfErr r (λ e. e ≡ Memory) → AreFunctions s.types before fs → IsFunction s.types fn f
    → Gives {X = ⊤} {A = List t.Function} (MoreFunctions after) s s r (pure (fs ++ f ∷ []))
added s before after fn fs f (Ok done) is wants are one =
    pure-gives (MoreFunctions after) s done (fs ++ f ∷ []) (record {
      always = λ later more.
          ap (map (function_view (type_at later))) is ∙ map-append (function_view (type_at later)) before (fn ∷ []) ∙ (λ i. are.always later more i ++ one.always later more i ∷ []);
    })
added s before after fn fs f (Err e) is wants are one =
    subst (λ y. Gives {X = ⊤} {A = List t.Function} (MoreFunctions after) s s (Err y) (pure (fs ++ f ∷ []))) (sym wants) (memory (MoreFunctions after) s s (pure (fs ++ f ∷ [])))

pub function-by : (s mid : Known) (before after : List code_function.Function) (fn : code_function.Function) (fs : List t.Function) (m : Checking t.Function) (r : Result ⊤ TypeRefusal)
    → Gives IsFunction s mid (Ok fn) m → OnOk r (after ≡ before ++ fn ∷ []) → IfErr r (λ e. e ≡ Memory) → AreFunctions s.types before fs
    → Gives {X = ⊤} {A = List t.Function} (MoreFunctions after) s mid r (m >>= (λ f. pure (fs ++ f ∷ [])))
function-by s mid before after fn fs m r one is wants are =
    bind IsFunction (MoreFunctions after) s mid mid fn r m (λ f. pure (fs ++ f ∷ [])) one
    (λ f grown means. added mid before after fn fs f r is wants (functions-later s.types mid.types grown before fs are) means)

pub declared-by : (s new : Known) (before : List code_function.Function) (fs : List t.Function) (m : Checking (Unit {0})) (r : Result ⊤ TypeRefusal)
    → Gives {X = ⊤} {A = Unit {0}} IsDone s new r m → AreFunctions s.types before fs → Gives {X = ⊤} {A = List t.Function} (MoreFunctions before) s new r (m >> pure fs)
declared-by s new before fs m (Ok done) one are =
    bind IsDone (MoreFunctions before) s new new done (Ok done) m (λ unit. pure fs) one
    (λ unit grown means. pure-gives (MoreFunctions before) new done fs (functions-later s.types new.types grown before fs are))
declared-by s new before fs m (Err e) one are = told IsDone (MoreFunctions before) s new new e m (λ unit. pure fs) one
