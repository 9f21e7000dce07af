-- The stars of a declarator: the last stands nearest to the name.
use Rattle.std.proofs.Common.{◌≡◌, ℕ, suc, ◌<◌, List, [], ◌∷◌, ◌++◌, drop, length, Ok, refl, sym, ◌∙◌, ap}
use Rattle.std.proofs.Math.ListN.{get_or}
use Rattle.std.proofs.Math.Seq.{drop-cons}
use Rattle.c_tree.specs.declared.specifier.Pointer.{Pointer as Star}
use Rattle.typing_rules.specs.Source.{pointer_part}
use Rattle.typing_rules.specs.SourceViews.{pointers_from, qualifiers_from}
use Rattle.typing_rules.specs.DeclaratorRules as rule
use Rattle.typing_rules.specs.Ordered.{parts_of}
use Rattle.c_known.specs.declared.known.Known.{Known}
use Rattle.c_declarators.specs.declared.derivation.Derivation.{Derivation}
use Rattle.c_declarators.specs.declared.derivation.Derivation.TheVariants.{Pointer}
use Rattle.c_declarators.specs.declared.derivation.Lines.{Lines}
use Rattle.c_declarators.specs.Derivations.{lines_view}
use Rattle.c_terms.specs.Fronts.{AddsParts}
use Rattle.c_terms.proofs.ListTerms.{pointer-at}
use Rattle.c_terms.proofs.ListSteps.{parts-both}
use Rattle.c_terms.proofs.FrontSteps.{fronts, part-added}

pub pointers-next : (lines : Lines) (s : Known) (before mid after : List Derivation) (ps : List Star) (n i : ℕ) (x : Derivation) (d : Star) → n ≡ suc i → i < length ps → x ≡ Pointer (qualifiers_from (get_or ps i d))
    → after ≡ mid ++ x ∷ []
    → AddsParts s s lines before mid (Ok tt) (pointers_from (drop n ps)) → AddsParts s s lines before after (Ok tt) (pointers_from (drop i ps))
pointers-next lines s before mid after ps n i x d next below at added g =
    let q = qualifiers_from (get_or ps i d) in
    parts-both lines s s s before mid after tt (Ok tt) (pointers_from (drop n ps)) (pointer_part q) (pointers_from (drop i ps))
    (λ rest. ap (λ z. pointers_from z rest) (drop-cons ps i d below) ∙ ap (λ z. pointers_from (drop z ps) (pointer_part q rest)) (sym next))
    g
    (fronts (pointer_part q)
    (part-added lines s mid after (Ok tt) (Pointer q) (rule.to_pointer q) (λ rest. parts_of (lines_view lines) (pointer_part q rest))
    (added ∙ ap (λ z. mid ++ z ∷ []) at) tt refl (λ rest. pointer-at (lines_view lines) q rest)))
