use Rattle.std.proofs.Common.{sym, ap, ◌∙◌}
use Rattle.typing_rules.specs.SourceViews.{declarator_view}
use Rattle.c_known.specs.Views.{line_in}
use Rattle.c_declarators.proofs.Shapes.{name-named, name-nested, name-unnamed}
use Rattle.c_declarators.proofs.tree.+name_of.Goals as goal

pub returns-in-Name : goal.returns-in-Name
returns-in-Name t c file = sym (name-named (line_in file) c.args.d.now c.in-Name.name c.in-Name.is)

pub returns-in-Nested : goal.returns-in-Nested
returns-in-Nested t c file =
    c.name_of.ensures file ∙ ap (λ y. (declarator_view (line_in file) y).name) c.get.ensures ∙ sym (name-nested (line_in file) c.args.d.now c.in-Nested.inner c.in-Nested.is)

pub returns-in-Unnamed : goal.returns-in-Unnamed
returns-in-Unnamed t c file = sym (name-unnamed (line_in file) c.args.d.now c.in-Unnamed.is)
