use Rattle.std.proofs.Common.{ap, sym, ◌∙◌}
use Rattle.c_typed.specs.Views.{place_node_view}
use Rattle.c_typed.proofs.ViewLaws.{view_local, view_static, view_text, view_pointed, view_element}
use Rattle.c_known.specs.Locals as rows
use Rattle.c_known.proofs.local_rows.local_number.Goals as goal

pub returns-in-Local : goal.returns-in-Local
returns-in-Local c = λ types. sym (ap (λ x. rows.local_number (place_node_view types x)) c.in-Local.is ∙ ap rows.local_number (view_local types _))

pub returns-in-Static : goal.returns-in-Static
returns-in-Static c = λ types. sym (ap (λ x. rows.local_number (place_node_view types x)) c.in-Static.is ∙ ap rows.local_number (view_static types _))

pub returns-in-Text : goal.returns-in-Text
returns-in-Text c = λ types. sym (ap (λ x. rows.local_number (place_node_view types x)) c.in-Text.is ∙ ap rows.local_number (view_text types _))

pub returns-in-Pointed : goal.returns-in-Pointed
returns-in-Pointed c = λ types. sym (ap (λ x. rows.local_number (place_node_view types x)) c.in-Pointed.is ∙ ap rows.local_number (view_pointed types _))

pub returns-in-Element : goal.returns-in-Element
returns-in-Element c = λ types. sym (ap (λ x. rows.local_number (place_node_view types x)) c.in-Element.is ∙ ap rows.local_number (view_element types _ _ _ _))
