use Rattle.std.proofs.Common.{sym, ap, ◌∙◌, ◌&&◌, map, arith}
use Rattle.c_tree.specs.declared.expression.Parameter.{out-Parameter}
use Rattle.typing_rules.specs.SourceViews.{word_of}
use Rattle.typing_rules.specs.DeclaratorRules as rule
use Rattle.c_declarators.specs.Trees.{declarator_if}
use Rattle.c_declarators.proofs.Bare.{one-parameter, more-parameters}
use Rattle.c_declarators.proofs.empty.is_empty_list.Goals as goal

pub returns-then-is_void_word : goal.returns-then-is_void_word
returns-then-is_void_word c =
    let p = c.p-item.result in
    let word = sym c.if-is_void_word.true ∙ c.is_void_word.ensures ∙ ap (λ ws. rule.is_void_word (map word_of ws)) c.as_slice.ensures in
    c.is_bare_if.ensures ∙ ap (λ b. b && rule.is_bare (declarator_if c.args.file (out-Parameter p).line (out-Parameter p).declarator)) word ∙ sym (one-parameter c.args.file c.args.ps.now p (omega arith) (omega arith) c.p-item.is)

pub returns-else-is_void_word : goal.returns-else-is_void_word
returns-else-is_void_word c =
    let p = c.p-item.result in
    let word = sym c.if-is_void_word.false ∙ c.is_void_word.ensures ∙ ap (λ ws. rule.is_void_word (map word_of ws)) c.as_slice.ensures in
    c.if-is_void_word.false ∙ ap (λ b. b && rule.is_bare (declarator_if c.args.file (out-Parameter p).line (out-Parameter p).declarator)) word ∙ sym (one-parameter c.args.file c.args.ps.now p (omega arith) (omega arith) c.p-item.is)

pub returns-in_default : goal.returns-in_default
returns-in_default c = more-parameters c.args.file c.args.ps.now (omega arith)
