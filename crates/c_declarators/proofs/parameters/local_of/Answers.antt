use Rattle.std.proofs.Common.{false, ap, ◌∙◌}
use Rattle.std.specs.Prelude.{option_map, option_copied}
use Rattle.c_tree.specs.declared.expression.Parameter.{out-Parameter}
use Rattle.typing_rules.specs.DeclaratorRules as rule
use Rattle.c_known.specs.Views.{line_in}
use Rattle.c_declarators.proofs.Becoming.{declarator-is, line-is, bytes-named}
use Rattle.c_declarators.proofs.parameters.local_of.Goals as goal

pub returns : goal.returns
returns c rows t h =
    let file = c.args.file in
    let p = c.args.p.now in
    let named = c.name_if-name.ensures file (out-Parameter p).line ∙ ap rule.name_of (declarator-is file p) in
    let bytes = c.in_ok-bytes_of.ensures ∙ bytes-named (line_in file) (option_copied c.name_if-name.result) ∙ ap (option_map (λ m. m.bytes)) named in
    let line = c.line_or.ensures ∙ (λ i. rule.line_or (line-is file p i) (named i)) in
    let first = c.first_if.ensures ∙ ap rule.first_of_declarator (declarator-is file p) in
    record {
      always = λ later more i. record {
        name = bytes i;
        line = line i;
        first = first i;
        type = record { qualifiers = h.qualifiers i; type = h.type.always later more i };
        is_addressed = false;
      };
    }
