use Rattle.std.proofs.Common.{◌&&◌, ap, sym, ◌∙◌}
use Rattle.typing_rules.specs.SourceViews.{declarator_view}
use Rattle.c_known.specs.Views.{line_in}
use Rattle.c_declarators.specs.Trees.{are_none, behind}
use Rattle.c_declarators.proofs.Shapes.{parts-named, parts-nested, parts-unnamed}
use Rattle.c_declarators.proofs.empty.+has_no_parts.Goals as goal

pub returns-then-has_no_parts : goal.returns-then-has_no_parts
returns-then-has_no_parts t c file rest =
    ap are_none (parts-nested (line_in file) c.args.d.now c.in-Nested.inner c.in-Nested.is rest)
    ∙ ap (λ y. are_none ((declarator_view (line_in file) y).parts (behind (line_in file) c.args.d.now rest))) (sym c.get.ensures)
    ∙ c.has_no_parts.ensures file (behind (line_in file) c.args.d.now rest)
    ∙ ap (λ b. b && are_none (behind (line_in file) c.args.d.now rest)) c.if-has_no_parts.true
    ∙ c.stands_alone.ensures file rest

pub returns-else-has_no_parts : goal.returns-else-has_no_parts
returns-else-has_no_parts t c file rest =
    ap are_none (parts-nested (line_in file) c.args.d.now c.in-Nested.inner c.in-Nested.is rest)
    ∙ ap (λ y. are_none ((declarator_view (line_in file) y).parts (behind (line_in file) c.args.d.now rest))) (sym c.get.ensures)
    ∙ c.has_no_parts.ensures file (behind (line_in file) c.args.d.now rest)
    ∙ ap (λ b. b && are_none (behind (line_in file) c.args.d.now rest)) c.if-has_no_parts.false
    ∙ ap (λ b. b && are_none rest) (sym c.if-has_no_parts.false)

pub returns-in-Name : goal.returns-in-Name
returns-in-Name t c file rest = ap are_none (parts-named (line_in file) c.args.d.now c.in-Name.field-0 c.in-Name.is rest) ∙ c.stands_alone-in-Name.ensures file rest

pub returns-in-Unnamed : goal.returns-in-Unnamed
returns-in-Unnamed t c file rest = ap are_none (parts-unnamed (line_in file) c.args.d.now c.in-Unnamed.is rest) ∙ c.stands_alone-in-Unnamed.ensures file rest
