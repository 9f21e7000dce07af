-- Steps of the loops over lists of expressions, of suffixes and of parameters, and what comes of them.
use Rattle.std.proofs.Common.{◌≡◌, ℕ, suc, ◌+◌, ◌<◌, ◌≤◌, List, [], ◌∷◌, ◌++◌, map, take, drop, length, Result, Ok, Err, refl, sym, ◌∙◌, ap, subst}
use Rattle.std.specs.Prelude.{⊤}
use Rattle.std.specs.declared.vec.Vec.{Vec}
use Rattle.std.specs.declared.alloc.Global.{Global}
use Rattle.std.proofs.Math.ListN.{get_or}
use Rattle.std.proofs.Math.Seq.{drop-cons}
use Rattle.std.proofs.lemmas.List.{take_more, take-append-drop, take_all, map-append}
use Rattle.c_tree.specs.declared.expression.Expr as tree_expr
use Rattle.typing_rules.specs.declared.refusal.TypeRefusal.{TypeRefusal}
use Rattle.typing_rules.specs.Source.{no_exprs, Parts, no_parts, no_parameters}
use Rattle.typing_rules.specs.SourceViews.{expr_view, exprs_from, all_parts, ParameterView, parameters_from, DeclaratorView, declarator_of}
use Rattle.typing_rules.specs.Terms as terms
use Rattle.typing_rules.specs.DeclaratorRules as rule
use Rattle.typing_rules.specs.Checking.{◌>>=◌, pure}
use Rattle.typing_rules.specs.Ordered.{all_of, parts_of, parameters_of, derivations_of}
use Rattle.typing_rules.specs.OrderedDeclarations.{value_of}
use Rattle.c_values.specs.declared.typed.Written.{Written}
use Rattle.c_values.specs.Stand.{MeansWritten}
use Rattle.c_values.specs.Answers.{AreWritten}
use Rattle.c_known.specs.declared.known.Known.{Known}
use Rattle.c_known.specs.Gives.{Gives}
use Rattle.c_declarators.specs.declared.derivation.Derivation.{Derivation}
use Rattle.c_declarators.specs.declared.derivation.Lines.{Lines}
use Rattle.c_declarators.specs.Derivations.{AreDerivations, MeansDerivation, lines_view}
use Rattle.c_terms.specs.Parts.{AreParts}
use Rattle.c_terms.specs.Fronts.{More, MoreParameters, AddsValues, AddsParts, AddsParameters, AreAll, before_exprs, before_parameters}
use Rattle.c_terms.proofs.FrontLaws.{none-front, both-fronts, front-refuses, one-front, item-refuses, front-gives, front-told, more-none, more-one, more-both}
use Rattle.c_terms.proofs.ListTerms.{all-end, all-first, exprs-are, exprs-join, written-items, part-items, parts-end, suffixes-join, parameters-end, parameters-are, parameters-join, whole-parts}

-- ---- a list up to an item

take-next : {X : Type 0} (xs : List X) (i : ℕ) (x : X) → i < length xs → x ≡ get_or xs i x → take (i + 1) xs ≡ take i xs ++ x ∷ []
take-next xs i x below is = take_more xs i x below ∙ ap (λ z. take i xs ++ z ∷ []) (sym is)

split-at : {X : Type 0} (xs : List X) (i : ℕ) (x : X) → i < length xs → x ≡ get_or xs i x → xs ≡ take i xs ++ (x ∷ drop (suc i) xs)
split-at xs i x below is =
    sym (take-append-drop i xs) ∙ ap (λ z. take i xs ++ z) (drop-cons xs i x below ∙ ap (λ z. z ∷ drop (suc i) xs) (sym is))

-- ---- values

pub values-none : (s : Known) (after : List Written) → after ≡ [] → AddsValues s s [] after (Ok tt) []
values-none s after is =
    none-front (More AreWritten [] after) s all_of (before_exprs []) (λ rest. refl)
    (subst (λ z. More AreWritten [] z s.types (λ ds. ds)) (sym is) (more-none AreWritten MeansWritten written-items [] s.types))

pub values-next : (shift : ℕ → ℕ) (old mid new : Known) (before after : List Written) (xs : List tree_expr.Expr) (i : ℕ) (x y : tree_expr.Expr) (v : Written)
    → i < length xs → x ≡ get_or xs i x → y ≡ x → after ≡ before ++ v ∷ []
    → AddsValues old mid [] before (Ok tt) (map (expr_view shift) (take i xs))
    → Gives MeansWritten mid new (Ok v) (value_of (expr_view shift y))
    → AddsValues old new [] after (Ok tt) (map (expr_view shift) (take (i + 1) xs))
values-next shift old mid new before after xs i x y v below at is added first g =
    both-fronts (More AreWritten [] before) (More AreWritten before after) (More AreWritten [] after) old mid new tt (Ok tt) all_of
    (before_exprs (map (expr_view shift) (take i xs))) (before_exprs (expr_view shift x ∷ [])) (before_exprs (map (expr_view shift) (take (i + 1) xs)))
    (λ rest.
    ap (λ z. before_exprs (map (expr_view shift) z) rest) (take-next xs i x below at)
    ∙ ap (λ z. before_exprs z rest) (map-append (expr_view shift) (take i xs) (x ∷ []))
    ∙ exprs-join (map (expr_view shift) (take i xs)) (expr_view shift x ∷ []) rest)
    (λ a b grown m n. more-both AreWritten MeansWritten written-items [] before after mid.types new.types a b grown m n)
    first
    (one-front MeansWritten (More AreWritten before after) mid new v all_of (before_exprs (expr_view shift x ∷ [])) (value_of (expr_view shift x)) (λ a ws. a ∷ ws)
    (λ rest. all-first (expr_view shift x) rest)
    (λ a m. more-one AreWritten MeansWritten written-items before after new.types v a added m)
    (subst (λ z. Gives MeansWritten mid new (Ok v) (value_of (expr_view shift z))) is g))

pub values-refused : (shift : ℕ → ℕ) (old mid new : Known) (before : List Written) (xs : List tree_expr.Expr) (i : ℕ) (x y : tree_expr.Expr) (told : TypeRefusal)
    → i < length xs → x ≡ get_or xs i x → y ≡ x
    → AddsValues old mid [] before (Ok tt) (map (expr_view shift) (take i xs))
    → Gives {X = Written} MeansWritten mid new (Err told) (value_of (expr_view shift y))
    → Gives {X = Vec Written Global} AreAll old new (Err told) (all_of (exprs_from (map (expr_view shift) xs)))
values-refused shift old mid new before xs i x y told below at is first g =
    front-told (More AreWritten [] before) AreAll old new told all_of (before_exprs (map (expr_view shift) xs)) no_exprs (all_of (exprs_from (map (expr_view shift) xs)))
    (ap all_of (exprs-are (map (expr_view shift) xs)))
    (both-fronts (More AreWritten [] before) (More AreWritten before before) (More AreWritten [] before) old mid new tt (Err told) all_of
    (before_exprs (map (expr_view shift) (take i xs))) (before_exprs (map (expr_view shift) (x ∷ drop (suc i) xs))) (before_exprs (map (expr_view shift) xs))
    (λ rest.
    ap (λ z. before_exprs (map (expr_view shift) z) rest) (split-at xs i x below at)
    ∙ ap (λ z. before_exprs z rest) (map-append (expr_view shift) (take i xs) (x ∷ drop (suc i) xs))
    ∙ exprs-join (map (expr_view shift) (take i xs)) (map (expr_view shift) (x ∷ drop (suc i) xs)) rest)
    (λ a b grown m n. more-both AreWritten MeansWritten written-items [] before before mid.types new.types a b grown m n)
    first
    (item-refuses MeansWritten (More AreWritten before before) mid new told all_of (before_exprs (map (expr_view shift) (x ∷ drop (suc i) xs))) (value_of (expr_view shift x))
    (λ rest a. all_of (before_exprs (map (expr_view shift) (drop (suc i) xs)) rest) >>= (λ ws. pure (a ∷ ws)))
    (λ rest. all-first (expr_view shift x) (before_exprs (map (expr_view shift) (drop (suc i) xs)) rest))
    (subst (λ z. Gives {X = Written} MeansWritten mid new (Err told) (value_of (expr_view shift z))) is g)))

-- what was added to nothing is all
pub values-end : (shift : ℕ → ℕ) (old new : Known) (vec : Vec Written Global) (xs : List tree_expr.Expr) (i : ℕ) → length xs ≤ i
    → AddsValues old new [] vec.items (Ok tt) (map (expr_view shift) (take i xs))
    → Gives AreAll old new (Ok vec) (all_of (exprs_from (map (expr_view shift) xs)))
values-end shift old new vec xs i past g =
    front-gives (More AreWritten [] vec.items) AreAll old new vec all_of (before_exprs (map (expr_view shift) (take i xs))) no_exprs [] (all_of (exprs_from (map (expr_view shift) xs)))
    (ap all_of (exprs-are (map (expr_view shift) xs)) ∙ ap (λ z. all_of (before_exprs (map (expr_view shift) z) no_exprs)) (sym (take_all i xs past)))
    all-end
    (λ front m. subst (λ z. AreWritten new.types vec.items z) (sym (m.puts [])) (whole front m))
    g
  where
    append-none : (ws : List terms.Written) → ws ++ [] ≡ ws
    append-none [] = refl
    append-none (w ∷ ws) = ap (λ z. w ∷ z) (append-none ws)

    whole : (front : List terms.Written → List terms.Written) (m : More AreWritten [] vec.items new.types front) → AreWritten new.types vec.items (m.added ++ [])
    whole front m = subst (λ z. AreWritten new.types z (m.added ++ [])) (sym m.is) (subst (AreWritten new.types m.more) (sym (append-none m.added)) m.means)

-- ---- parts of declarators

pub parts-both : (lines : Lines) (old mid new : Known) (before between after : List Derivation) (x : ⊤) (r : Result ⊤ TypeRefusal) (f g h : Parts → Parts)
    → ((rest : Parts) → h rest ≡ f (g rest))
    → AddsParts old mid lines before between (Ok x) f → AddsParts mid new lines between after r g → AddsParts old new lines before after r h
parts-both lines old mid new before between after x r f g h is first second =
    both-fronts (More AreDerivations before between) (More AreDerivations between after) (More AreDerivations before after) old mid new x r (parts_of (lines_view lines)) f g h is
    (λ a b grown m n. more-both AreDerivations MeansDerivation part-items before between after mid.types new.types a b grown m n) first second

pub parts-refused : (lines : Lines) (old mid : Known) (before between after : List Derivation) (told : TypeRefusal) (f g h : Parts → Parts)
    → ((rest : Parts) → h rest ≡ f (g rest)) → AddsParts old mid lines before between (Err told) f → AddsParts old mid lines before after (Err told) h
parts-refused lines old mid before between after told f g h is first =
    front-refuses (More AreDerivations before between) (More AreDerivations before after) old mid told (parts_of (lines_view lines)) f g h is first

pub parts-none : (lines : Lines) (s : Known) (before : List Derivation) (f : Parts → Parts) → ((rest : Parts) → f rest ≡ rest) → AddsParts s s lines before before (Ok tt) f
parts-none lines s before f is =
    none-front (More AreDerivations before before) s (parts_of (lines_view lines)) f is (more-none AreDerivations MeansDerivation part-items before s.types)

pub suffixes-next : {S : Type 0} (view : S → Parts → Parts) (xs : List S) (i : ℕ) (x : S) → i < length xs → x ≡ get_or xs i x → (rest : Parts)
    → all_parts (map view (take (i + 1) xs)) rest ≡ all_parts (map view (take i xs)) (view x rest)
suffixes-next view xs i x below at rest =
    ap (λ z. all_parts (map view z) rest) (take-next xs i x below at)
    ∙ ap (λ z. all_parts z rest) (map-append view (take i xs) (x ∷ []))
    ∙ suffixes-join (map view (take i xs)) (view x ∷ []) rest

pub suffixes-split : {S : Type 0} (view : S → Parts → Parts) (xs : List S) (i : ℕ) (x : S) → i < length xs → x ≡ get_or xs i x → (rest : Parts)
    → all_parts (map view xs) rest ≡ all_parts (map view (take i xs)) (view x (all_parts (map view (drop (suc i) xs)) rest))
suffixes-split view xs i x below at rest =
    ap (λ z. all_parts (map view z) rest) (split-at xs i x below at)
    ∙ ap (λ z. all_parts z rest) (map-append view (take i xs) (x ∷ drop (suc i) xs))
    ∙ suffixes-join (map view (take i xs)) (map view (x ∷ drop (suc i) xs)) rest

pub suffixes-all : {S : Type 0} (view : S → Parts → Parts) (xs : List S) (i : ℕ) → length xs ≤ i → (rest : Parts)
    → all_parts (map view xs) rest ≡ all_parts (map view (take i xs)) rest
suffixes-all view xs i past rest = ap (λ z. all_parts (map view z) rest) (sym (take_all i xs past))

pub parts-end-gives : (lines : Lines) (old new : Known) (vec : Vec Derivation Global) (before : List Derivation) (x : ⊤) (d : DeclaratorView) → before ≡ []
    → AddsParts old new lines before vec.items (Ok x) d.parts
    → Gives AreParts old new (Ok vec) (derivations_of (lines_view lines) (declarator_of d))
parts-end-gives lines old new vec before x d none g =
    front-gives (More AreDerivations before vec.items) AreParts old new vec (parts_of (lines_view lines)) d.parts no_parts [] (derivations_of (lines_view lines) (declarator_of d))
    (whole-parts (lines_view lines) d) (parts-end (lines_view lines))
    (λ front m. subst (λ z. AreDerivations new.types vec.items z) (sym (m.puts [])) (whole front m))
    g
  where
    append-none : (ws : List rule.Derivation) → ws ++ [] ≡ ws
    append-none [] = refl
    append-none (w ∷ ws) = ap (λ z. w ∷ z) (append-none ws)

    whole : (front : List rule.Derivation → List rule.Derivation) (m : More AreDerivations before vec.items new.types front) → AreDerivations new.types vec.items (m.added ++ [])
    whole front m =
        subst (λ z. AreDerivations new.types z (m.added ++ [])) (sym (m.is ∙ ap (λ z. z ++ m.more) none))
        (subst (AreDerivations new.types m.more) (sym (append-none m.added)) m.means)

pub parts-told : (lines : Lines) (old new : Known) (before after : List Derivation) (told : TypeRefusal) (d : DeclaratorView)
    → AddsParts old new lines before after (Err told) d.parts
    → Gives {X = Vec Derivation Global} AreParts old new (Err told) (derivations_of (lines_view lines) (declarator_of d))
parts-told lines old new before after told d g =
    front-told (More AreDerivations before after) AreParts old new told (parts_of (lines_view lines)) d.parts no_parts (derivations_of (lines_view lines) (declarator_of d))
    (whole-parts (lines_view lines) d) g

-- ---- parameters

pub parameters-none : (s : Known) → AddsParameters s s (Ok tt) []
parameters-none s = none-front MoreParameters s parameters_of (before_parameters []) (λ rest. refl) tt

pub parameters-next : {S : Type 0} (view : S → ParameterView) (old mid new : Known) (xs : List S) (i : ℕ) (x : S) (r : Result ⊤ TypeRefusal) → i < length xs → x ≡ get_or xs i x
    → AddsParameters old mid (Ok tt) (map view (take i xs)) → AddsParameters mid new r (view x ∷ [])
    → AddsParameters old new r (map view (take (i + 1) xs))
parameters-next view old mid new xs i x r below at first second =
    both-fronts MoreParameters MoreParameters MoreParameters old mid new tt r parameters_of
    (before_parameters (map view (take i xs))) (before_parameters (view x ∷ [])) (before_parameters (map view (take (i + 1) xs)))
    (λ rest.
    ap (λ z. before_parameters (map view z) rest) (take-next xs i x below at)
    ∙ ap (λ z. before_parameters z rest) (map-append view (take i xs) (x ∷ []))
    ∙ parameters-join (map view (take i xs)) (view x ∷ []) rest)
    (λ a b grown m n. tt) first second

pub parameters-refused : {S : Type 0} (view : S → ParameterView) (old mid new : Known) (xs : List S) (i : ℕ) (x : S) (told : TypeRefusal) → i < length xs → x ≡ get_or xs i x
    → AddsParameters old mid (Ok tt) (map view (take i xs)) → AddsParameters mid new (Err told) (view x ∷ [])
    → AddsParameters old new (Err told) (map view xs)
parameters-refused view old mid new xs i x told below at first second =
    front-refuses MoreParameters MoreParameters old new told parameters_of
    (before_parameters (map view (take (i + 1) xs))) (before_parameters (map view (drop (suc i) xs))) (before_parameters (map view xs))
    (λ rest.
    ap (λ z. before_parameters (map view z) rest) (split-at xs i x below at)
    ∙ ap (λ z. before_parameters z rest) (map-append view (take i xs) (x ∷ drop (suc i) xs))
    ∙ parameters-join (map view (take i xs)) (map view (x ∷ drop (suc i) xs)) rest
    ∙ sym (ap (λ z. before_parameters (map view z) (before_parameters (map view (drop (suc i) xs)) rest)) (take-next xs i x below at)
    ∙ ap (λ z. before_parameters z (before_parameters (map view (drop (suc i) xs)) rest)) (map-append view (take i xs) (x ∷ []))
    ∙ parameters-join (map view (take i xs)) (view x ∷ []) (before_parameters (map view (drop (suc i) xs)) rest)))
    (parameters-next view old mid new xs i x (Err told) below at first second)

pub parameters-all : {S : Type 0} (view : S → ParameterView) (old new : Known) (xs : List S) (i : ℕ) → length xs ≤ i
    → AddsParameters old new (Ok tt) (map view (take i xs)) → AddsParameters old new (Ok tt) (map view xs)
parameters-all view old new xs i past g = subst (λ z. AddsParameters old new (Ok tt) (map view z)) (take_all i xs past) g

pub parameters-give : (old new : Known) (ps : List ParameterView) (x : ⊤)
    → AddsParameters old new (Ok x) ps → Gives {X = ⊤} (λ rows y a. Unit {0}) old new (Ok tt) (parameters_of (parameters_from ps))
parameters-give old new ps x g =
    front-gives MoreParameters (λ rows y a. Unit {0}) old new tt parameters_of (before_parameters ps) no_parameters tt (parameters_of (parameters_from ps))
    (ap parameters_of (parameters-are ps)) parameters-end (λ front m. tt) g

pub parameters-told : (old new : Known) (ps : List ParameterView) (told : TypeRefusal)
    → AddsParameters old new (Err told) ps → Gives {X = ⊤} (λ rows y a. Unit {0}) old new (Err told) (parameters_of (parameters_from ps))
parameters-told old new ps told g =
    front-told MoreParameters (λ rows y a. Unit {0}) old new told parameters_of (before_parameters ps) no_parameters (parameters_of (parameters_from ps))
    (ap parameters_of (parameters-are ps)) g
