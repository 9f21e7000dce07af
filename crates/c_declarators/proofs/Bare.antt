-- Whether a declarator derives something.
use Rattle.std.proofs.Common.{◌≡◌, ℕ, ◌≤◌, length, get_or, arith, ◌&&◌, Bool as Test, true, false, List, [], ◌∷◌, map, Option, Some, None, refl, sym, ap, ◌∙◌}
use Rattle.std.specs.Prelude.{IsTrue, ◌↔◌, option_map}
use Rattle.std.proofs.lemmas.Bool.{false≢true}
use Rattle.c_tree.specs.declared.specifier.Pointer.{Pointer}
use Rattle.c_tree.specs.declared.expression.Suffix as tree_suffix
use Rattle.c_tree.specs.declared.expression.Suffix.{Suffix-F}
use Rattle.c_tree.specs.declared.expression.Parameter as tree_parameter
use Rattle.c_tree.specs.declared.expression.Parameter.{out-Parameter, roll-out-Parameter}
use Rattle.c_tree.specs.declared.expression.Declarator as tree_declarator
use Rattle.typing_rules.specs.Source.{Parts, no_parts, pointer_part, array_part, unsized_part, function_part, Node, Expr, TypeName, Named, declarator}
use Rattle.typing_rules.specs.SourceViews.{DirectView, DeclaratorView, ParameterView, parameter_view, specifiers_view, declarator_or, declarator_view, word_of, direct_from, node_from, suffix_from, declarator_from, expr_from, parameter_from, type_name_from, suffix_view, all_parts, pointers_from, qualifiers_from}
use Rattle.typing_rules.proofs.SourceViewLaws.{view_parameter}
use Rattle.typing_rules.specs.DeclaratorRules.{is_bare, is_void_word, is_empty_list}
use Rattle.c_entities.specs.declared.entity.File.{File}
use Rattle.c_known.specs.Views.{line_in}
use Rattle.c_declarators.specs.Trees.{are_none, behind, declarator_if, parameters_in}

pub none-pointers : (ps : List Pointer) (rest : Parts) → are_none rest ≡ false → are_none (pointers_from ps rest) ≡ false
none-pointers [] rest h = h
none-pointers (p ∷ ps) rest h = none-pointers ps (pointer_part (qualifiers_from p) rest) refl

-- with a pointer there is a part
pub some-pointer : (ps : List Pointer) (rest : Parts) → (ps ≡ [] → ⊥) → are_none (pointers_from ps rest) ≡ false
some-pointer [] rest h = absurd (h refl)
some-pointer (p ∷ ps) rest h = none-pointers ps (pointer_part (qualifiers_from p) rest) refl

pub none-pointers-is : (r : Test) (ps : List Pointer) (rest : Parts) → (IsTrue r ↔ (ps ≡ [])) → are_none (pointers_from ps rest) ≡ (r && are_none rest)
none-pointers-is true ps rest h = ap (λ qs. are_none (pointers_from qs rest)) (h.0 refl)
none-pointers-is false ps rest h = some-pointer ps rest (λ e. false≢true (h.1 e))

some-from : (shift : ℕ → ℕ) (y : Suffix-F DirectView Node (Parts → Parts) DeclaratorView Expr ParameterView TypeName) (rest : Parts) → are_none (suffix_from shift y rest) ≡ false
some-from shift (Suffix-F.Array line None) rest = refl
some-from shift (Suffix-F.Array line (Some e)) rest = refl
some-from shift (Suffix-F.Function line ps) rest = refl

-- a suffix is a part
some-suffix : (shift : ℕ → ℕ) (x : tree_suffix.Suffix) (rest : Parts) → are_none (suffix_view shift x rest) ≡ false
unfolding suffix_view
some-suffix shift x rest =
    ap (λ f. are_none (f rest)) (tree_suffix.fold_out-Suffix DirectView Node (Parts → Parts) DeclaratorView Expr ParameterView TypeName (direct_from shift) (node_from shift)
    (suffix_from shift) (declarator_from shift) (expr_from shift) (parameter_from shift) (type_name_from shift) x) ∙ some-from shift _ rest

pub some-suffixes : (shift : ℕ → ℕ) (xs : List tree_suffix.Suffix) (rest : Parts) → (xs ≡ [] → ⊥) → are_none (all_parts (map (suffix_view shift) xs) rest) ≡ false
some-suffixes shift [] rest h = absurd (h refl)
some-suffixes shift (x ∷ xs) rest h = some-suffix shift x (all_parts (map (suffix_view shift) xs) rest)

pub alone-without : (shift : ℕ → ℕ) (d : tree_declarator.Declarator) (a r : Test) (rest : Parts) → (IsTrue a ↔ (d.suffixes ≡ [])) → a ≡ true → (IsTrue r ↔ (d.pointers ≡ []))
    → are_none (behind shift d rest) ≡ (r && are_none rest)
alone-without shift d a r rest h is k = ap (λ xs. are_none (all_parts (map (suffix_view shift) xs) (pointers_from d.pointers rest))) (h.0 is) ∙ none-pointers-is r d.pointers rest k

pub alone-with : (shift : ℕ → ℕ) (d : tree_declarator.Declarator) (a : Test) (rest : Parts) → (IsTrue a ↔ (d.suffixes ≡ [])) → a ≡ false
    → are_none (behind shift d rest) ≡ (a && are_none rest)
alone-with shift d a rest h is = some-suffixes shift d.suffixes (pointers_from d.pointers rest) (λ e. false≢true (sym is ∙ h.1 e)) ∙ ap (λ b. b && are_none rest) (sym is)

pub bare-named : (line : ℕ) (name : Option Named) (n : Named) (parts : Parts) → Some n ≡ name → false ≡ is_bare (declarator line name parts)
bare-named line name n parts is = ap (λ o. is_bare (declarator line o parts)) is

unnamed-bare : (line : ℕ) (parts : Parts) → are_none parts ≡ is_bare (declarator line None parts)
unnamed-bare line no_parts = refl
unnamed-bare line (pointer_part q rest) = refl
unnamed-bare line (array_part at length rest) = refl
unnamed-bare line (unsized_part at rest) = refl
unnamed-bare line (function_part at ps rest) = refl

pub bare-unnamed : (line : ℕ) (name : Option Named) (parts : Parts) → None ≡ name → are_none parts ≡ is_bare (declarator line name parts)
bare-unnamed line name parts is = unnamed-bare line parts ∙ ap (λ o. is_bare (declarator line o parts)) is

-- ---- lists of parameters

pub parameter-is : (shift : ℕ → ℕ) (p : tree_parameter.Parameter)
    → parameter_view shift p ≡ record { specifiers = specifiers_view shift (out-Parameter p).line (out-Parameter p).specifiers; declarator = declarator_or (shift (out-Parameter p).line) (option_map (declarator_view shift) (out-Parameter p).declarator) }
parameter-is shift p =
    ap (parameter_view shift) (sym (roll-out-Parameter p)) ∙ view_parameter shift (out-Parameter p).line (out-Parameter p).specifiers (out-Parameter p).declarator

one-item : {A : Type 0} (xs : List A) (x : A) → 1 ≤ length xs → length xs ≤ 1 → x ≡ get_or xs 0 x → xs ≡ x ∷ []
one-item [] x some few is = absurd (omega arith)
one-item (y ∷ []) x some few is = ap (λ z. z ∷ []) (sym is)
one-item (y ∷ z ∷ ys) x some few is = absurd (omega arith)

pub one-parameter : (file : File) (ps : List tree_parameter.Parameter) (p : tree_parameter.Parameter) → 1 ≤ length ps → length ps ≤ 1 → p ≡ get_or ps 0 p
    → is_empty_list (parameters_in file ps) ≡ (is_void_word (map word_of (out-Parameter p).specifiers) && is_bare (declarator_if file (out-Parameter p).line (out-Parameter p).declarator))
one-parameter file ps p some few is =
    ap (λ qs. is_empty_list (parameters_in file qs)) (one-item ps p some few is)
    ∙ ap (λ v. is_void_word v.specifiers.words && is_bare v.declarator) (parameter-is (line_in file) p)

pub more-parameters : (file : File) (ps : List tree_parameter.Parameter) → 2 ≤ length ps → false ≡ is_empty_list (parameters_in file ps)
more-parameters file [] more = absurd (omega arith)
more-parameters file (p ∷ []) more = absurd (omega arith)
more-parameters file (p ∷ q ∷ rest) more = refl
