use Rattle.std.proofs.Common.{None, if◌then◌else◌, sym, ap, ◌∙◌}
use Rattle.typing_rules.specs.DeclarationRules.{text_of}
use Rattle.typing_rules.specs.SourceViews.{expr_view}
use Rattle.c_declarations.proofs.text.text_for.Goals as goal

pub returns-then-is_character : goal.returns-then-is_character
returns-then-is_character c shift =
    c.text_of.ensures shift ∙ ap (λ b. if b then text_of (expr_view shift c.args.e.now) else None) (sym c.if-is_character.true ∙ c.is_character.ensures)

pub returns-else-is_character : goal.returns-else-is_character
returns-else-is_character c shift = ap (λ b. if b then text_of (expr_view shift c.args.e.now) else None) (sym c.if-is_character.false ∙ c.is_character.ensures)
