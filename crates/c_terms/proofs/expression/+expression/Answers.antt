use Rattle.std.proofs.Common.{[], ◌∷◌, map, take, drop, suc, ◌+◌, false, refl, sym, ◌∙◌, ap, subst}
use Rattle.c_tree.specs.declared.expression.ExprNode.TheVariants as tn
use Rattle.c_known.specs.Views.{line_in as told_line}
use Rattle.c_terms.proofs.Paths.{exits, step, stop, same, type-later, written-later, term-later, target-later, all-later}
use Rattle.c_terms.proofs.NodeTerms as node
use Rattle.std.specs.Prelude.{Ok, Err}
use Rattle.c_values.specs.Stand.{MeansWritten}
use Rattle.c_declarators.specs.Derivations.{AreDerivations, lines_view}
use Rattle.typing_rules.specs.Ordered.{all_of, parts_of, parameters_of}
use Rattle.c_terms.specs.Fronts.{More, MoreParameters, before_parameters}
use Rattle.c_terms.proofs.ListTerms as list
use Rattle.c_terms.proofs.ListTerms.{written-items, part-items}
use Rattle.c_known.proofs.Binding.{memory, pure-gives}
use Rattle.typing_rules.specs.SourceViews.{expr_view, exprs_from, suffix_view, direct_view, declarator_view, pointers_from, all_parts, specifiers_view}
use Rattle.typing_rules.specs.DeclaratorRules as rule
use Rattle.typing_rules.specs.Checking.{from_result, ruled_by, ◌>>=◌, pure}
use Rattle.typing_rules.specs.OrderedParts.{specified as said, parameter as becomes_known, parameter_list as list_of}
use Rattle.typing_rules.specs.Ordered.{derivations_of, type_named}
use Rattle.typing_rules.specs.OrderedDeclarations.{value_of}
use Rattle.typing_rules.proofs.SourceViewLaws.{view_declarator, view_direct_name, view_direct_nested, view_direct_unnamed}
use Rattle.c_tree.specs.declared.expression.Suffix.TheVariants as ts
use Rattle.c_tree.specs.declared.expression.TypeName.{out-TypeName}
use Rattle.c_tree.specs.declared.expression.Parameter.{out-Parameter}
use Rattle.c_declarators.specs.declared.derivation.Derivation.TheVariants.{Array, Function}
use Rattle.c_known.specs.Gives.{Gives, IsSame}
use Rattle.c_terms.specs.Parts.{AreParts}
use Rattle.c_terms.specs.Fronts.{AreAll, AddsParts, AddsParameters}
use Rattle.c_terms.specs.Kinds.{IsBase}
use Rattle.c_declarators.specs.Trees.{declarator_if, parameter_in, parameters_in}
use Rattle.c_known.specs.Locals.{list_ended}
use Rattle.c_known.specs.Standing.{MeanVec}
use Rattle.c_terms.proofs.Paths.{returned, told-is}
use Rattle.typing_rules.specs.declared.refusal.TypeRefusal.TheVariants.{Memory}
use Rattle.c_terms.proofs.ListSteps as steps
use Rattle.c_terms.proofs.FrontSteps.{fronts, front-returned, front-step, front-stop, front-last, part-added}
use Rattle.std.proofs.Common.{Some, None}
use Rattle.c_terms.proofs.expression.+expression.Goals as goal

pub term-returns-in-Name : goal.term-returns-in-Name
term-returns-in-Name t c = same (node.name-term (told_line c.args.file) c.args.e.now c.as_slice.result.now c.line_in-line.result c.line_in-line.ensures (c.in-Name.is ∙ (λ i. tn.Name (sym c.as_slice.ensures i)))) c.named.ensures

pub term-returns-in-Number : goal.term-returns-in-Number
term-returns-in-Number t c = same (node.number-term (told_line c.args.file) c.args.e.now c.in-Number.ty c.in-Number.n c.line_in-line.result c.line_in-line.ensures c.in-Number.is) c.number.ensures

pub term-returns-in-Character : goal.term-returns-in-Character
term-returns-in-Character t c = same (node.character-term (told_line c.args.file) c.args.e.now c.in-Character.n c.line_in-line.result c.line_in-line.ensures c.in-Character.is) c.number-in-Character.ensures

pub term-returns-in-Text : goal.term-returns-in-Text
term-returns-in-Text t c = same (node.text-is (told_line c.args.file) c.args.e.now c.in-Text.bytes c.line_in-line.result c.line_in-line.ensures c.in-Text.is) c.text_term.ensures

pub term-returns-in-Parenthesized : goal.term-returns-in-Parenthesized
term-returns-in-Parenthesized t c = same (node.parenthesized-term (told_line c.args.file) c.args.e.now c.get.result.now (c.in-Parenthesized.is ∙ (λ i. tn.Parenthesized (sym c.get.ensures i)))) c.term.ensures

pub term-returns-in_err-a-in-Index : goal.term-returns-in_err-a-in-Index
term-returns-in_err-a-in-Index t c = stop _ (node.index-term (told_line c.args.file) c.args.e.now c.get-in-Index.result.now c.in-Index.y c.line_in-line.result c.in-Index.at ((told_line c.args.file) c.in-Index.at) c.line_in-line.ensures refl (c.in-Index.is ∙ (λ i. tn.Index (sym c.get-in-Index.ensures i) c.in-Index.at c.in-Index.y))) (exits c.from_residual.result _ c.from_residual.ensures.1) c.in_err-a-in-Index.ensures

pub term-returns-in_err-b-in-Index : goal.term-returns-in_err-b-in-Index
term-returns-in_err-b-in-Index t c = step (node.index-term (told_line c.args.file) c.args.e.now c.get-in-Index.result.now c.get-in-Index-2.result.now c.line_in-line.result c.in-Index.at ((told_line c.args.file) c.in-Index.at) c.line_in-line.ensures refl (c.in-Index.is ∙ (λ i. tn.Index (sym c.get-in-Index.ensures i) c.in-Index.at (sym c.get-in-Index-2.ensures i)))) c.in_ok-a-in-Index.ensures (λ v more mv. stop _ refl (exits c.from_residual-in_err-b-in-Index.result _ c.from_residual-in_err-b-in-Index.ensures.1) c.in_err-b-in-Index.ensures)

pub term-returns-in_ok-b-in-Index : goal.term-returns-in_ok-b-in-Index
term-returns-in_ok-b-in-Index t c = step (node.index-term (told_line c.args.file) c.args.e.now c.get-in-Index.result.now c.get-in-Index-2.result.now c.line_in-line.result c.in-Index.at c.line_in.result c.line_in-line.ensures c.line_in.ensures (c.in-Index.is ∙ (λ i. tn.Index (sym c.get-in-Index.ensures i) c.in-Index.at (sym c.get-in-Index-2.ensures i)))) c.in_ok-a-in-Index.ensures (λ v more mv. step refl c.in_ok-b-in-Index.ensures (λ w more2 mw. c.indexed.ensures v w (written-later more2 mv) mw))

pub term-returns-in_err-a-in-Binary : goal.term-returns-in_err-a-in-Binary
term-returns-in_err-a-in-Binary t c = stop _ (node.binary-term (told_line c.args.file) c.args.e.now c.get-in-Binary.result.now c.in-Binary.y c.in-Binary.op c.line_in-line.result c.in-Binary.at ((told_line c.args.file) c.in-Binary.at) c.line_in-line.ensures refl (c.in-Binary.is ∙ (λ i. tn.Binary (sym c.get-in-Binary.ensures i) c.in-Binary.op c.in-Binary.at c.in-Binary.y))) (exits c.from_residual-in_err-a-in-Binary.result _ c.from_residual-in_err-a-in-Binary.ensures.1) c.in_err-a-in-Binary.ensures

pub term-returns-in_err-b-in-Binary : goal.term-returns-in_err-b-in-Binary
term-returns-in_err-b-in-Binary t c = step (node.binary-term (told_line c.args.file) c.args.e.now c.get-in-Binary.result.now c.get-in-Binary-2.result.now c.in-Binary.op c.line_in-line.result c.in-Binary.at ((told_line c.args.file) c.in-Binary.at) c.line_in-line.ensures refl (c.in-Binary.is ∙ (λ i. tn.Binary (sym c.get-in-Binary.ensures i) c.in-Binary.op c.in-Binary.at (sym c.get-in-Binary-2.ensures i)))) c.in_ok-a-in-Binary.ensures (λ v more mv. stop _ refl (exits c.from_residual-in_err-b-in-Binary.result _ c.from_residual-in_err-b-in-Binary.ensures.1) c.in_err-b-in-Binary.ensures)

pub term-returns-in_ok-b-in-Binary : goal.term-returns-in_ok-b-in-Binary
term-returns-in_ok-b-in-Binary t c = step (node.binary-term (told_line c.args.file) c.args.e.now c.get-in-Binary.result.now c.get-in-Binary-2.result.now c.in-Binary.op c.line_in-line.result c.in-Binary.at c.line_in-in-Binary.result c.line_in-line.ensures c.line_in-in-Binary.ensures (c.in-Binary.is ∙ (λ i. tn.Binary (sym c.get-in-Binary.ensures i) c.in-Binary.op c.in-Binary.at (sym c.get-in-Binary-2.ensures i)))) c.in_ok-a-in-Binary.ensures (λ v more mv. step refl c.in_ok-b-in-Binary.ensures (λ w more2 mw. c.binary.ensures v w (written-later more2 mv) mw))

pub term-returns-in_err-callee-in-Call : goal.term-returns-in_err-callee-in-Call
term-returns-in_err-callee-in-Call t c = stop _ (node.call-term (told_line c.args.file) c.args.e.now c.get-in-Call.result.now c.in-Call.es c.line_in-line.result c.in-Call.at ((told_line c.args.file) c.in-Call.at) c.line_in-line.ensures refl (c.in-Call.is ∙ (λ i. tn.Call (sym c.get-in-Call.ensures i) c.in-Call.at c.in-Call.es))) (exits c.from_residual-in_err-callee-in-Call.result _ c.from_residual-in_err-callee-in-Call.ensures.1) c.in_err-callee-in-Call.ensures

pub term-returns-in_err-function-in-Call : goal.term-returns-in_err-function-in-Call
term-returns-in_err-function-in-Call t c = step (node.call-term (told_line c.args.file) c.args.e.now c.get-in-Call.result.now c.in-Call.es c.line_in-line.result c.in-Call.at ((told_line c.args.file) c.in-Call.at) c.line_in-line.ensures refl (c.in-Call.is ∙ (λ i. tn.Call (sym c.get-in-Call.ensures i) c.in-Call.at c.in-Call.es))) c.in_ok-callee-in-Call.ensures (λ u more mu. stop _ refl (exits c.from_residual-in_err-function-in-Call.result _ c.from_residual-in_err-function-in-Call.ensures.1) (c.in_err-function-in-Call.ensures u mu))

pub term-returns-in_err-arguments-in-Call : goal.term-returns-in_err-arguments-in-Call
term-returns-in_err-arguments-in-Call t c = step (node.call-term (told_line c.args.file) c.args.e.now c.get-in-Call.result.now c.in-Call.es c.line_in-line.result c.in-Call.at ((told_line c.args.file) c.in-Call.at) c.line_in-line.ensures refl (c.in-Call.is ∙ (λ i. tn.Call (sym c.get-in-Call.ensures i) c.in-Call.at c.in-Call.es))) c.in_ok-callee-in-Call.ensures (λ u more mu. step refl (c.in_ok-function-in-Call.ensures u mu) (λ g more2 mg. stop _ refl (exits c.from_residual-in_err-arguments-in-Call.result _ c.from_residual-in_err-arguments-in-Call.ensures.1) c.in_err-arguments-in-Call.ensures))

pub term-returns-in_ok-arguments-in-Call : goal.term-returns-in_ok-arguments-in-Call
term-returns-in_ok-arguments-in-Call t c = step (node.call-term (told_line c.args.file) c.args.e.now c.get-in-Call.result.now c.in-Call.es c.line_in-line.result c.in-Call.at c.line_in-in-Call.result c.line_in-line.ensures c.line_in-in-Call.ensures (c.in-Call.is ∙ (λ i. tn.Call (sym c.get-in-Call.ensures i) c.in-Call.at c.in-Call.es))) c.in_ok-callee-in-Call.ensures (λ u more mu. step refl (c.in_ok-function-in-Call.ensures u mu) (λ g more2 mg. step refl c.in_ok-arguments-in-Call.ensures (λ ws more3 mws. c.call_of.ensures g (term-later c.in_ok-function-in-Call.function g more3 mg) ws mws)))

pub term-returns-in_err-operand-in-Postfix : goal.term-returns-in_err-operand-in-Postfix
term-returns-in_err-operand-in-Postfix t c = stop _ (node.postfix-term (told_line c.args.file) c.args.e.now c.get-in-Postfix.result.now c.in-Postfix.op c.line_in-line.result ((told_line c.args.file) c.get-in-Postfix.result.now.line) c.in-Postfix.at ((told_line c.args.file) c.in-Postfix.at) c.line_in-line.ensures refl refl (c.in-Postfix.is ∙ (λ i. tn.Postfix (sym c.get-in-Postfix.ensures i) c.in-Postfix.op c.in-Postfix.at))) (exits c.from_residual-in_err-operand-in-Postfix.result _ c.from_residual-in_err-operand-in-Postfix.ensures.1) c.in_err-operand-in-Postfix.ensures

pub term-returns-in_ok-operand-in-Postfix : goal.term-returns-in_ok-operand-in-Postfix
term-returns-in_ok-operand-in-Postfix t c = step (node.postfix-term (told_line c.args.file) c.args.e.now c.get-in-Postfix.result.now c.in-Postfix.op c.line_in-line.result c.line_in-first.result c.in-Postfix.at c.line_in-in-Postfix.result c.line_in-line.ensures (c.line_in-first.ensures ∙ ap (λ z. told_line c.args.file z.line) (c.get-in-Postfix-2.ensures ∙ sym c.get-in-Postfix.ensures)) c.line_in-in-Postfix.ensures (c.in-Postfix.is ∙ (λ i. tn.Postfix (sym c.get-in-Postfix.ensures i) c.in-Postfix.op c.in-Postfix.at))) c.in_ok-operand-in-Postfix.ensures (λ u more mu. c.postfix.ensures u mu)

pub term-returns-in_err-operand-in-Prefix : goal.term-returns-in_err-operand-in-Prefix
term-returns-in_err-operand-in-Prefix t c = stop _ (node.prefix-term (told_line c.args.file) c.args.e.now c.get-in-Prefix.result.now c.in-Prefix.op c.line_in-line.result ((told_line c.args.file) c.get-in-Prefix.result.now.line) c.line_in-line.ensures refl (c.in-Prefix.is ∙ (λ i. tn.Prefix c.in-Prefix.op (sym c.get-in-Prefix.ensures i)))) (exits c.from_residual-in_err-operand-in-Prefix.result _ c.from_residual-in_err-operand-in-Prefix.ensures.1) c.in_err-operand-in-Prefix.ensures

pub term-returns-in_ok-operand-in-Prefix : goal.term-returns-in_ok-operand-in-Prefix
term-returns-in_ok-operand-in-Prefix t c = step (node.prefix-term (told_line c.args.file) c.args.e.now c.get-in-Prefix.result.now c.in-Prefix.op c.line_in-line.result c.line_in-in-Prefix.result c.line_in-line.ensures (c.line_in-in-Prefix.ensures ∙ ap (λ z. told_line c.args.file z.line) (c.get-in-Prefix-2.ensures ∙ sym c.get-in-Prefix.ensures)) (c.in-Prefix.is ∙ (λ i. tn.Prefix c.in-Prefix.op (sym c.get-in-Prefix.ensures i)))) c.in_ok-operand-in-Prefix.ensures (λ u more mu. c.prefix.ensures u mu)

pub term-returns-in_err-operand-in-SizeofExpr : goal.term-returns-in_err-operand-in-SizeofExpr
term-returns-in_err-operand-in-SizeofExpr t c = stop _ (node.sizeof-term (told_line c.args.file) c.args.e.now c.get-in-SizeofExpr.result.now c.line_in-line.result c.line_in-line.ensures (c.in-SizeofExpr.is ∙ (λ i. tn.SizeofExpr (sym c.get-in-SizeofExpr.ensures i)))) (exits c.from_residual-in_err-operand-in-SizeofExpr.result _ c.from_residual-in_err-operand-in-SizeofExpr.ensures.1) c.in_err-operand-in-SizeofExpr.ensures

pub term-returns-in_ok-operand-in-SizeofExpr : goal.term-returns-in_ok-operand-in-SizeofExpr
term-returns-in_ok-operand-in-SizeofExpr t c = step (node.sizeof-term (told_line c.args.file) c.args.e.now c.get-in-SizeofExpr.result.now c.line_in-line.result c.line_in-line.ensures (c.in-SizeofExpr.is ∙ (λ i. tn.SizeofExpr (sym c.get-in-SizeofExpr.ensures i)))) c.in_ok-operand-in-SizeofExpr.ensures (λ u more mu. c.sized_term.ensures u mu)

pub term-returns-in_err-ty-in-SizeofType : goal.term-returns-in_err-ty-in-SizeofType
term-returns-in_err-ty-in-SizeofType t c = stop _ (node.sizeof-type-term (told_line c.args.file) c.args.e.now c.get-in-SizeofType.result.now c.line_in-line.result c.line_in-line.ensures (c.in-SizeofType.is ∙ (λ i. tn.SizeofType (sym c.get-in-SizeofType.ensures i)))) (exits c.from_residual-in_err-ty-in-SizeofType.result _ c.from_residual-in_err-ty-in-SizeofType.ensures.1) c.in_err-ty-in-SizeofType.ensures

pub term-returns-in_ok-ty-in-SizeofType : goal.term-returns-in_ok-ty-in-SizeofType
term-returns-in_ok-ty-in-SizeofType t c = step (node.sizeof-type-term (told_line c.args.file) c.args.e.now c.get-in-SizeofType.result.now c.line_in-line.result c.line_in-line.ensures (c.in-SizeofType.is ∙ (λ i. tn.SizeofType (sym c.get-in-SizeofType.ensures i)))) c.in_ok-ty-in-SizeofType.ensures (λ q more mq. c.sized_type.ensures q mq)

pub term-returns-in_err-ty-in-Cast : goal.term-returns-in_err-ty-in-Cast
term-returns-in_err-ty-in-Cast t c = stop _ (node.cast-term (told_line c.args.file) c.args.e.now c.in-Cast.x c.get-in-Cast.result.now c.line_in-line.result c.line_in-line.ensures (c.in-Cast.is ∙ (λ i. tn.Cast (sym c.get-in-Cast.ensures i) c.in-Cast.x))) (exits c.from_residual-in_err-ty-in-Cast.result _ c.from_residual-in_err-ty-in-Cast.ensures.1) c.in_err-ty-in-Cast.ensures

pub term-returns-in_err-a-in-Cast : goal.term-returns-in_err-a-in-Cast
term-returns-in_err-a-in-Cast t c = step (node.cast-term (told_line c.args.file) c.args.e.now c.get-in-Cast-2.result.now c.get-in-Cast.result.now c.line_in-line.result c.line_in-line.ensures (c.in-Cast.is ∙ (λ i. tn.Cast (sym c.get-in-Cast.ensures i) (sym c.get-in-Cast-2.ensures i)))) c.in_ok-ty-in-Cast.ensures (λ q more mq. stop _ refl (exits c.from_residual-in_err-a-in-Cast.result _ c.from_residual-in_err-a-in-Cast.ensures.1) c.in_err-a-in-Cast.ensures)

pub term-returns-in_ok-a-in-Cast : goal.term-returns-in_ok-a-in-Cast
term-returns-in_ok-a-in-Cast t c = step (node.cast-term (told_line c.args.file) c.args.e.now c.get-in-Cast-2.result.now c.get-in-Cast.result.now c.line_in-line.result c.line_in-line.ensures (c.in-Cast.is ∙ (λ i. tn.Cast (sym c.get-in-Cast.ensures i) (sym c.get-in-Cast-2.ensures i)))) c.in_ok-ty-in-Cast.ensures (λ q more mq. step refl c.in_ok-a-in-Cast.ensures (λ w more2 mw. c.cast_to.ensures q (type-later more2 mq) w mw))

pub term-returns-in_err-test-in-Conditional : goal.term-returns-in_err-test-in-Conditional
term-returns-in_err-test-in-Conditional t c = stop _ (node.choice-term (told_line c.args.file) c.args.e.now c.get-in-Conditional.result.now c.in-Conditional.y c.in-Conditional.z c.line_in-line.result c.in-Conditional.at ((told_line c.args.file) c.in-Conditional.at) c.line_in-line.ensures refl (c.in-Conditional.is ∙ (λ i. tn.Conditional (sym c.get-in-Conditional.ensures i) c.in-Conditional.at c.in-Conditional.y c.in-Conditional.z))) (exits c.from_residual-in_err-test-in-Conditional.result _ c.from_residual-in_err-test-in-Conditional.ensures.1) c.in_err-test-in-Conditional.ensures

pub term-returns-in_err-a-in-Conditional : goal.term-returns-in_err-a-in-Conditional
term-returns-in_err-a-in-Conditional t c = step (node.choice-term (told_line c.args.file) c.args.e.now c.get-in-Conditional.result.now c.get-in-Conditional-2.result.now c.in-Conditional.z c.line_in-line.result c.in-Conditional.at ((told_line c.args.file) c.in-Conditional.at) c.line_in-line.ensures refl (c.in-Conditional.is ∙ (λ i. tn.Conditional (sym c.get-in-Conditional.ensures i) c.in-Conditional.at (sym c.get-in-Conditional-2.ensures i) c.in-Conditional.z))) c.in_ok-test-in-Conditional.ensures (λ u more mu. stop _ refl (exits c.from_residual-in_err-a-in-Conditional.result _ c.from_residual-in_err-a-in-Conditional.ensures.1) c.in_err-a-in-Conditional.ensures)

pub term-returns-in_err-b-in-Conditional : goal.term-returns-in_err-b-in-Conditional
term-returns-in_err-b-in-Conditional t c = step (node.choice-term (told_line c.args.file) c.args.e.now c.get-in-Conditional.result.now c.get-in-Conditional-2.result.now c.get-in-Conditional-3.result.now c.line_in-line.result c.in-Conditional.at ((told_line c.args.file) c.in-Conditional.at) c.line_in-line.ensures refl (c.in-Conditional.is ∙ (λ i. tn.Conditional (sym c.get-in-Conditional.ensures i) c.in-Conditional.at (sym c.get-in-Conditional-2.ensures i) (sym c.get-in-Conditional-3.ensures i)))) c.in_ok-test-in-Conditional.ensures (λ u more mu. step refl c.in_ok-a-in-Conditional.ensures (λ v more2 mv. stop _ refl (exits c.from_residual-in_err-b-in-Conditional.result _ c.from_residual-in_err-b-in-Conditional.ensures.1) c.in_err-b-in-Conditional.ensures))

pub term-returns-in_ok-b-in-Conditional : goal.term-returns-in_ok-b-in-Conditional
term-returns-in_ok-b-in-Conditional t c = step (node.choice-term (told_line c.args.file) c.args.e.now c.get-in-Conditional.result.now c.get-in-Conditional-2.result.now c.get-in-Conditional-3.result.now c.line_in-line.result c.in-Conditional.at c.line_in-in-Conditional.result c.line_in-line.ensures c.line_in-in-Conditional.ensures (c.in-Conditional.is ∙ (λ i. tn.Conditional (sym c.get-in-Conditional.ensures i) c.in-Conditional.at (sym c.get-in-Conditional-2.ensures i) (sym c.get-in-Conditional-3.ensures i)))) c.in_ok-test-in-Conditional.ensures (λ u more mu. step refl c.in_ok-a-in-Conditional.ensures (λ v more2 mv. step refl c.in_ok-b-in-Conditional.ensures (λ w more3 mw. c.chosen.ensures u (written-later more3 (written-later more2 mu)) v w (written-later more3 mv) mw)))

pub term-returns-in_err-left-in-Assign : goal.term-returns-in_err-left-in-Assign
term-returns-in_err-left-in-Assign t c = stop _ (node.assignment-term (told_line c.args.file) c.args.e.now c.get-in-Assign.result.now c.in-Assign.y c.in-Assign.op c.line_in-line.result ((told_line c.args.file) c.get-in-Assign.result.now.line) c.in-Assign.at ((told_line c.args.file) c.in-Assign.at) c.line_in-line.ensures refl refl (c.in-Assign.is ∙ (λ i. tn.Assign (sym c.get-in-Assign.ensures i) c.in-Assign.op c.in-Assign.at c.in-Assign.y))) (exits c.from_residual-in_err-left-in-Assign.result _ c.from_residual-in_err-left-in-Assign.ensures.1) c.in_err-left-in-Assign.ensures

pub term-returns-in_err-target-in-Assign : goal.term-returns-in_err-target-in-Assign
term-returns-in_err-target-in-Assign t c = step (node.assignment-term (told_line c.args.file) c.args.e.now c.get-in-Assign.result.now c.in-Assign.y c.in-Assign.op c.line_in-line.result ((told_line c.args.file) c.get-in-Assign.result.now.line) c.in-Assign.at ((told_line c.args.file) c.in-Assign.at) c.line_in-line.ensures refl refl (c.in-Assign.is ∙ (λ i. tn.Assign (sym c.get-in-Assign.ensures i) c.in-Assign.op c.in-Assign.at c.in-Assign.y))) c.in_ok-left-in-Assign.ensures (λ u more mu. stop _ refl (exits c.from_residual-in_err-target-in-Assign.result _ c.from_residual-in_err-target-in-Assign.ensures.1) (c.in_err-target-in-Assign.ensures u mu))

pub term-returns-in_err-a-in-Assign : goal.term-returns-in_err-a-in-Assign
term-returns-in_err-a-in-Assign t c = step (node.assignment-term (told_line c.args.file) c.args.e.now c.get-in-Assign.result.now c.get-in-Assign-2.result.now c.in-Assign.op c.line_in-line.result ((told_line c.args.file) c.get-in-Assign.result.now.line) c.in-Assign.at ((told_line c.args.file) c.in-Assign.at) c.line_in-line.ensures refl refl (c.in-Assign.is ∙ (λ i. tn.Assign (sym c.get-in-Assign.ensures i) c.in-Assign.op c.in-Assign.at (sym c.get-in-Assign-2.ensures i)))) c.in_ok-left-in-Assign.ensures (λ u more mu. step refl (c.in_ok-target-in-Assign.ensures u mu) (λ g more2 mg. stop _ refl (exits c.from_residual-in_err-a-in-Assign.result _ c.from_residual-in_err-a-in-Assign.ensures.1) c.in_err-a-in-Assign.ensures))

pub term-returns-in_ok-a-in-Assign : goal.term-returns-in_ok-a-in-Assign
term-returns-in_ok-a-in-Assign t c = step (node.assignment-term (told_line c.args.file) c.args.e.now c.get-in-Assign.result.now c.get-in-Assign-2.result.now c.in-Assign.op c.line_in-line.result c.line_in-first-in-Assign.result c.in-Assign.at c.line_in-in-Assign.result c.line_in-line.ensures (c.line_in-first-in-Assign.ensures ∙ ap (λ z. told_line c.args.file z.line) (c.get-in-Assign-3.ensures ∙ sym c.get-in-Assign.ensures)) c.line_in-in-Assign.ensures (c.in-Assign.is ∙ (λ i. tn.Assign (sym c.get-in-Assign.ensures i) c.in-Assign.op c.in-Assign.at (sym c.get-in-Assign-2.ensures i)))) c.in_ok-left-in-Assign.ensures (λ u more mu. step refl (c.in_ok-target-in-Assign.ensures u mu) (λ g more2 mg. step refl c.in_ok-a-in-Assign.ensures (λ w more3 mw. c.assignment.ensures g w (target-later more3 mg) mw)))

pub term-returns-in_err-dropped-in-Comma : goal.term-returns-in_err-dropped-in-Comma
term-returns-in_err-dropped-in-Comma t c = stop _ (node.comma-term (told_line c.args.file) c.args.e.now c.in-Comma.y c.in-Comma.es c.line_in-line.result c.line_in-line.ensures (c.in-Comma.is ∙ (λ i. tn.Comma c.in-Comma.es c.in-Comma.y))) (exits c.from_residual-in_err-dropped-in-Comma.result _ c.from_residual-in_err-dropped-in-Comma.ensures.1) c.in_err-dropped-in-Comma.ensures

pub term-returns-in_err-last-in-Comma : goal.term-returns-in_err-last-in-Comma
term-returns-in_err-last-in-Comma t c = step (node.comma-term (told_line c.args.file) c.args.e.now c.get-in-Comma.result.now c.in-Comma.es c.line_in-line.result c.line_in-line.ensures (c.in-Comma.is ∙ (λ i. tn.Comma c.in-Comma.es (sym c.get-in-Comma.ensures i)))) c.in_ok-dropped-in-Comma.ensures (λ ws more mws. stop _ refl (exits c.from_residual-in_err-last-in-Comma.result _ c.from_residual-in_err-last-in-Comma.ensures.1) c.in_err-last-in-Comma.ensures)

pub term-returns-in_ok-last-in-Comma : goal.term-returns-in_ok-last-in-Comma
term-returns-in_ok-last-in-Comma t c = step (node.comma-term (told_line c.args.file) c.args.e.now c.get-in-Comma.result.now c.in-Comma.es c.line_in-line.result c.line_in-line.ensures (c.in-Comma.is ∙ (λ i. tn.Comma c.in-Comma.es (sym c.get-in-Comma.ensures i)))) c.in_ok-dropped-in-Comma.ensures (λ ws more mws. step refl c.in_ok-last-in-Comma.ensures (λ w more2 mw. c.sequence_of.ensures ws (all-later c.in_ok-dropped-in-Comma.dropped.items ws more2 mws) w mw))

pub value_of-returns : goal.value_of-returns
value_of-returns t c = step (node.value-is (told_line c.args.file) c.args.e.now c.line_in.result c.line_in.ensures) c.in_ok-found.ensures (λ u more mu. c.written.ensures u mu)

pub all_of-loop-e-init : goal.all_of-loop-e-init
all_of-loop-e-init t c = steps.values-none c.args.known.now c.new-values.result.items c.new-values.ensures.items

pub all_of-loop-e-preserved : goal.all_of-loop-e-preserved
all_of-loop-e-preserved t c = steps.values-next (told_line c.args.file) c.args.known.now c.loop-e.known c.value_of.new.known c.loop-e.values.items c.add.new.items.items c.as_slice-e-items.result.now c.loop-e.e-index c.e-item.result c.get.result.now c.in_ok-value.value c.loop-e-test.true c.e-item.is c.get.ensures c.in_ok-add.ensures.added c.loop-e.invariant c.in_ok-value.ensures

pub all_of-returns-in_err-value : goal.all_of-returns-in_err-value
all_of-returns-in_err-value t c = returned (exits c.from_residual.result _ c.from_residual.ensures.1) (same (ap (λ z. all_of (exprs_from (map (expr_view (told_line c.args.file)) z))) (sym c.as_slice-e-items.ensures)) (steps.values-refused (told_line c.args.file) c.args.known.now c.loop-e.known c.value_of.new.known c.loop-e.values.items c.as_slice-e-items.result.now c.loop-e.e-index c.e-item.result c.get.result.now c.in_err-value.field-0.0 c.loop-e-test.true c.e-item.is c.get.ensures c.loop-e.invariant c.in_err-value.ensures))

pub all_of-returns-in_err-add : goal.all_of-returns-in_err-add
all_of-returns-in_err-add t c = returned ((exits c.from_residual-in_err-add.result _ c.from_residual-in_err-add.ensures.1) ∙ ap Err (told-is _ _ Memory c.in_err-add.ensures.memory)) (memory AreAll c.args.known.now c.value_of.new.known (all_of (exprs_from (map (expr_view (told_line c.args.file)) c.args.es.now))))

pub all_of-returns : goal.all_of-returns
all_of-returns t c = same (ap (λ z. all_of (exprs_from (map (expr_view (told_line c.args.file)) z))) (sym c.as_slice-e-items.ensures)) (steps.values-end (told_line c.args.file) c.args.known.now c.loop-e.known c.loop-e.values c.as_slice-e-items.result.now c.loop-e.e-index c.loop-e-test.false c.loop-e.invariant)

pub add_direct-returns-in-Name : goal.add_direct-returns-in-Name
add_direct-returns-in-Name t c = steps.parts-none c.args.lines c.args.known.now c.args.parts.now.items (direct_view (told_line c.args.file) c.args.direct.now).parts (λ rest. ap (λ z. z.parts rest) (ap (direct_view (told_line c.args.file)) c.in-Name.is ∙ view_direct_name (told_line c.args.file) c.in-Name.field-0))

pub add_direct-returns-in-Unnamed : goal.add_direct-returns-in-Unnamed
add_direct-returns-in-Unnamed t c = steps.parts-none c.args.lines c.args.known.now c.args.parts.now.items (direct_view (told_line c.args.file) c.args.direct.now).parts (λ rest. ap (λ z. z.parts rest) (ap (direct_view (told_line c.args.file)) c.in-Unnamed.is ∙ view_direct_unnamed (told_line c.args.file)))

pub add_direct-returns-in-Nested : goal.add_direct-returns-in-Nested
add_direct-returns-in-Nested t c = subst (AddsParts c.args.known.now c.add_parts.new.known c.args.lines c.args.parts.now.items c.add_parts.new.parts.items c.add_parts.result) (ap (λ z. (declarator_view (told_line c.args.file) z).parts) c.get.ensures ∙ sym (ap (λ z. z.parts) (ap (direct_view (told_line c.args.file)) c.in-Nested.is ∙ view_direct_nested (told_line c.args.file) c.in-Nested.d))) c.add_parts.ensures

pub add_parts-returns-in_err-add_direct : goal.add_parts-returns-in_err-add_direct
add_parts-returns-in_err-add_direct t c = front-returned (exits c.from_residual.result _ c.from_residual.ensures.1) (steps.parts-refused c.args.lines c.args.known.now c.add_direct.new.known c.args.parts.now.items c.add_direct.new.parts.items c.add_direct.new.parts.items c.in_err-add_direct.field-0.0 (direct_view (told_line c.args.file) c.args.d.now.direct).parts (λ rest. all_parts (map (suffix_view (told_line c.args.file)) c.args.d.now.suffixes) (pointers_from c.args.d.now.pointers rest)) (declarator_view (told_line c.args.file) c.args.d.now).parts (λ rest. ap (λ z. z.parts rest) (view_declarator (told_line c.args.file) c.args.d.now)) c.in_err-add_direct.ensures)

pub add_parts-loop-suffix-preserved : goal.add_parts-loop-suffix-preserved
add_parts-loop-suffix-preserved t c = steps.parts-both c.args.lines c.add_direct.new.known c.loop-suffix.known c.add_suffix.new.known c.add_direct.new.parts.items c.loop-suffix.parts.items c.add_suffix.new.parts.items tt (Ok tt) (all_parts (map (suffix_view (told_line c.args.file)) (take c.loop-suffix.suffix-index c.as_slice-suffix-items.result.now))) (suffix_view (told_line c.args.file) c.suffix-item.result) (all_parts (map (suffix_view (told_line c.args.file)) (take (c.loop-suffix.suffix-index + 1) c.as_slice-suffix-items.result.now))) (steps.suffixes-next (suffix_view (told_line c.args.file)) c.as_slice-suffix-items.result.now c.loop-suffix.suffix-index c.suffix-item.result c.loop-suffix-test.true c.suffix-item.is) c.loop-suffix.invariant c.in_ok-add_suffix.ensures

pub add_parts-returns-in_err-add_suffix : goal.add_parts-returns-in_err-add_suffix
add_parts-returns-in_err-add_suffix t c = front-returned (exits c.from_residual-in_err-add_suffix.result _ c.from_residual-in_err-add_suffix.ensures.1) (steps.parts-refused c.args.lines c.args.known.now c.add_suffix.new.known c.args.parts.now.items c.add_suffix.new.parts.items c.add_suffix.new.parts.items c.in_err-add_suffix.field-0.0
    (λ rest. (direct_view (told_line c.args.file) c.args.d.now.direct).parts ((all_parts (map (suffix_view (told_line c.args.file)) (take c.loop-suffix.suffix-index c.as_slice-suffix-items.result.now))) (suffix_view (told_line c.args.file) c.suffix-item.result rest))) (λ rest. all_parts (map (suffix_view (told_line c.args.file)) (drop (suc c.loop-suffix.suffix-index) c.as_slice-suffix-items.result.now)) (pointers_from c.args.d.now.pointers rest)) (declarator_view (told_line c.args.file) c.args.d.now).parts
    (λ rest. ap (λ z. z.parts rest) (view_declarator (told_line c.args.file) c.args.d.now) ∙ ap (λ z. (direct_view (told_line c.args.file) c.args.d.now.direct).parts (all_parts (map (suffix_view (told_line c.args.file)) z) (pointers_from c.args.d.now.pointers rest))) (sym c.as_slice-suffix-items.ensures) ∙ ap (direct_view (told_line c.args.file) c.args.d.now.direct).parts (steps.suffixes-split (suffix_view (told_line c.args.file)) c.as_slice-suffix-items.result.now c.loop-suffix.suffix-index c.suffix-item.result c.loop-suffix-test.true c.suffix-item.is (pointers_from c.args.d.now.pointers rest)))
    (steps.parts-both c.args.lines c.args.known.now c.add_direct.new.known c.add_suffix.new.known c.args.parts.now.items c.add_direct.new.parts.items c.add_suffix.new.parts.items tt (Err c.in_err-add_suffix.field-0.0) (direct_view (told_line c.args.file) c.args.d.now.direct).parts (λ rest. (all_parts (map (suffix_view (told_line c.args.file)) (take c.loop-suffix.suffix-index c.as_slice-suffix-items.result.now))) (suffix_view (told_line c.args.file) c.suffix-item.result rest)) (λ rest. (direct_view (told_line c.args.file) c.args.d.now.direct).parts ((all_parts (map (suffix_view (told_line c.args.file)) (take c.loop-suffix.suffix-index c.as_slice-suffix-items.result.now))) (suffix_view (told_line c.args.file) c.suffix-item.result rest))) (λ rest. refl) c.in_ok-add_direct.ensures
    (steps.parts-both c.args.lines c.add_direct.new.known c.loop-suffix.known c.add_suffix.new.known c.add_direct.new.parts.items c.loop-suffix.parts.items c.add_suffix.new.parts.items tt (Err c.in_err-add_suffix.field-0.0) (all_parts (map (suffix_view (told_line c.args.file)) (take c.loop-suffix.suffix-index c.as_slice-suffix-items.result.now))) (suffix_view (told_line c.args.file) c.suffix-item.result) (λ rest. (all_parts (map (suffix_view (told_line c.args.file)) (take c.loop-suffix.suffix-index c.as_slice-suffix-items.result.now))) (suffix_view (told_line c.args.file) c.suffix-item.result rest)) (λ rest. refl) c.loop-suffix.invariant c.in_err-add_suffix.ensures)))

pub add_parts-returns : goal.add_parts-returns
add_parts-returns t c = steps.parts-both c.args.lines c.args.known.now c.loop-suffix.known c.loop-suffix.known c.args.parts.now.items c.loop-suffix.parts.items c.add_pointers.new.parts.items tt c.add_pointers.result (λ rest. (direct_view (told_line c.args.file) c.args.d.now.direct).parts ((all_parts (map (suffix_view (told_line c.args.file)) (take c.loop-suffix.suffix-index c.as_slice-suffix-items.result.now))) rest)) (pointers_from c.args.d.now.pointers) (declarator_view (told_line c.args.file) c.args.d.now).parts
    (λ rest. ap (λ z. z.parts rest) (view_declarator (told_line c.args.file) c.args.d.now) ∙ ap (λ z. (direct_view (told_line c.args.file) c.args.d.now.direct).parts (all_parts (map (suffix_view (told_line c.args.file)) z) (pointers_from c.args.d.now.pointers rest))) (sym c.as_slice-suffix-items.ensures) ∙ ap (direct_view (told_line c.args.file) c.args.d.now.direct).parts (steps.suffixes-all (suffix_view (told_line c.args.file)) c.as_slice-suffix-items.result.now c.loop-suffix.suffix-index c.loop-suffix-test.false (pointers_from c.args.d.now.pointers rest)))
    (steps.parts-both c.args.lines c.args.known.now c.add_direct.new.known c.loop-suffix.known c.args.parts.now.items c.add_direct.new.parts.items c.loop-suffix.parts.items tt (Ok tt) (direct_view (told_line c.args.file) c.args.d.now.direct).parts (all_parts (map (suffix_view (told_line c.args.file)) (take c.loop-suffix.suffix-index c.as_slice-suffix-items.result.now))) (λ rest. (direct_view (told_line c.args.file) c.args.d.now.direct).parts ((all_parts (map (suffix_view (told_line c.args.file)) (take c.loop-suffix.suffix-index c.as_slice-suffix-items.result.now))) rest)) (λ rest. refl) c.in_ok-add_direct.ensures c.loop-suffix.invariant)
    (subst (λ z. AddsParts c.loop-suffix.known c.loop-suffix.known c.args.lines c.loop-suffix.parts.items c.add_pointers.new.parts.items c.add_pointers.result (pointers_from z)) c.as_slice.ensures c.add_pointers.ensures)

pub derivations-returns-in_err-add_parts : goal.derivations-returns-in_err-add_parts
derivations-returns-in_err-add_parts t c = returned (exits c.from_residual.result _ c.from_residual.ensures.1) (steps.parts-told c.args.lines c.args.known.now c.add_parts.new.known c.new-parts.result.items c.add_parts.new.parts.items c.in_err-add_parts.field-0.0 (declarator_view (told_line c.args.file) c.args.d.now) c.in_err-add_parts.ensures)

pub derivations-returns : goal.derivations-returns
derivations-returns t c = steps.parts-end-gives c.args.lines c.args.known.now c.add_parts.new.known c.add_parts.new.parts c.new-parts.result.items c.in_ok-add_parts.field-0 (declarator_view (told_line c.args.file) c.args.d.now) c.new-parts.ensures.items c.in_ok-add_parts.ensures

pub parts_if-returns-in-None : goal.parts_if-returns-in-None
parts_if-returns-in-None t c = same (ap (λ z. derivations_of (lines_view c.args.lines) (declarator_if c.args.file c.args.line z)) c.in-None.is ∙ list.missing-parts (lines_view c.args.lines) (told_line c.args.file c.args.line)) (pure-gives AreParts c.args.known.now c.new.result [] (subst (λ z. AreDerivations c.args.known.now.types z []) (sym c.new.ensures.items) tt))

pub parts_if-returns-in-Some : goal.parts_if-returns-in-Some
parts_if-returns-in-Some t c = same (ap (λ z. derivations_of (lines_view c.args.lines) (declarator_if c.args.file c.args.line z)) (c.in-Some.is ∙ ap Some (sym c.get.ensures))) c.derivations.ensures

pub type_named-returns-in_err-base : goal.type_named-returns-in_err-base
type_named-returns-in_err-base t c = stop _ (ap type_named (list.type-name-is (told_line c.args.file) c.args.t.now) ∙ list.type-named-at (specifiers_view (told_line c.args.file) (out-TypeName c.args.t.now).line (out-TypeName c.args.t.now).specifiers) (declarator_if c.args.file (out-TypeName c.args.t.now).line (out-TypeName c.args.t.now).declarator)) (exits c.from_residual.result _ c.from_residual.ensures.1) (same (ap (λ z. said false (specifiers_view (told_line c.args.file) (out-TypeName c.args.t.now).line z)) (sym c.as_slice.ensures)) c.in_err-base.ensures)

pub type_named-returns-in_err-ds : goal.type_named-returns-in_err-ds
type_named-returns-in_err-ds t c = step (ap type_named (list.type-name-is (told_line c.args.file) c.args.t.now) ∙ list.type-named-at (specifiers_view (told_line c.args.file) (out-TypeName c.args.t.now).line (out-TypeName c.args.t.now).specifiers) (declarator_if c.args.file (out-TypeName c.args.t.now).line (out-TypeName c.args.t.now).declarator)) (same (ap (λ z. said false (specifiers_view (told_line c.args.file) (out-TypeName c.args.t.now).line z)) (sym c.as_slice.ensures)) c.in_ok-base.ensures) (λ b more mb. stop _ refl (exits c.from_residual-in_err-ds.result _ c.from_residual-in_err-ds.ensures.1) (same (ap (λ z. derivations_of z (declarator_if c.args.file (out-TypeName c.args.t.now).line (out-TypeName c.args.t.now).declarator)) (sym c.lines_if-lines.ensures)) c.in_err-ds.ensures))

pub type_named-returns : goal.type_named-returns
type_named-returns t c = step (ap type_named (list.type-name-is (told_line c.args.file) c.args.t.now) ∙ list.type-named-at (specifiers_view (told_line c.args.file) (out-TypeName c.args.t.now).line (out-TypeName c.args.t.now).specifiers) (declarator_if c.args.file (out-TypeName c.args.t.now).line (out-TypeName c.args.t.now).declarator)) (same (ap (λ z. said false (specifiers_view (told_line c.args.file) (out-TypeName c.args.t.now).line z)) (sym c.as_slice.ensures)) c.in_ok-base.ensures) (λ b more mb. step refl (same (ap (λ z. derivations_of z (declarator_if c.args.file (out-TypeName c.args.t.now).line (out-TypeName c.args.t.now).declarator)) (sym c.lines_if-lines.ensures)) c.in_ok-ds.ensures) (λ ds more2 mds. same (ap (λ z. from_result (rule.derived z false b.type ds)) (sym c.lines_if-lines.ensures)) (c.derived.ensures b.type ds (type-later more2 mb) (subst (λ z. AreDerivations c.parts_if.new.known.types z ds) (sym c.as_slice-2.ensures.value) mds))))

pub add_parameter-returns-in_err-base : goal.add_parameter-returns-in_err-base
add_parameter-returns-in_err-base t c = front-returned (exits c.from_residual.result _ c.from_residual.ensures.1) (fronts (before_parameters ((parameter_in c.args.file c.args.p.now) ∷ [])) (front-stop IsBase MoreParameters c.args.known.now c.args.known.now c.in_err-base.field-0.0 parameters_of (λ rest. parameters_of (before_parameters ((parameter_in c.args.file c.args.p.now) ∷ []) rest)) (said false (specifiers_view (told_line c.args.file) (out-Parameter c.args.p.now).line (out-Parameter c.args.p.now).specifiers)) (λ rest base. derivations_of (rule.lines_of (declarator_if c.args.file (out-Parameter c.args.p.now).line (out-Parameter c.args.p.now).declarator) (specifiers_view (told_line c.args.file) (out-Parameter c.args.p.now).line (out-Parameter c.args.p.now).specifiers).line) (declarator_if c.args.file (out-Parameter c.args.p.now).line (out-Parameter c.args.p.now).declarator) >>= (λ ds. becomes_known (specifiers_view (told_line c.args.file) (out-Parameter c.args.p.now).line (out-Parameter c.args.p.now).specifiers) base.type (declarator_if c.args.file (out-Parameter c.args.p.now).line (out-Parameter c.args.p.now).declarator) ds >>= (λ u. parameters_of rest))) (λ rest. ap (λ z. parameters_of (before_parameters (z ∷ []) rest)) (list.parameter-is (told_line c.args.file) c.args.p.now) ∙ list.parameter-first (record { specifiers = (specifiers_view (told_line c.args.file) (out-Parameter c.args.p.now).line (out-Parameter c.args.p.now).specifiers); declarator = (declarator_if c.args.file (out-Parameter c.args.p.now).line (out-Parameter c.args.p.now).declarator) }) rest) (same (ap (λ z. said false (specifiers_view (told_line c.args.file) (out-Parameter c.args.p.now).line z)) (sym c.as_slice.ensures)) c.in_err-base.ensures)))

pub add_parameter-returns-in_err-ds : goal.add_parameter-returns-in_err-ds
add_parameter-returns-in_err-ds t c = front-returned (exits c.from_residual-in_err-ds.result _ c.from_residual-in_err-ds.ensures.1) (fronts (before_parameters ((parameter_in c.args.file c.args.p.now) ∷ [])) (front-step IsBase MoreParameters c.args.known.now c.args.known.now c.parts_if.new.known c.in_ok-base.base (Err c.in_err-ds.field-0.0) parameters_of (λ rest. parameters_of (before_parameters ((parameter_in c.args.file c.args.p.now) ∷ []) rest)) (said false (specifiers_view (told_line c.args.file) (out-Parameter c.args.p.now).line (out-Parameter c.args.p.now).specifiers)) (λ rest base. derivations_of (rule.lines_of (declarator_if c.args.file (out-Parameter c.args.p.now).line (out-Parameter c.args.p.now).declarator) (specifiers_view (told_line c.args.file) (out-Parameter c.args.p.now).line (out-Parameter c.args.p.now).specifiers).line) (declarator_if c.args.file (out-Parameter c.args.p.now).line (out-Parameter c.args.p.now).declarator) >>= (λ ds. becomes_known (specifiers_view (told_line c.args.file) (out-Parameter c.args.p.now).line (out-Parameter c.args.p.now).specifiers) base.type (declarator_if c.args.file (out-Parameter c.args.p.now).line (out-Parameter c.args.p.now).declarator) ds >>= (λ u. parameters_of rest))) (λ rest. ap (λ z. parameters_of (before_parameters (z ∷ []) rest)) (list.parameter-is (told_line c.args.file) c.args.p.now) ∙ list.parameter-first (record { specifiers = (specifiers_view (told_line c.args.file) (out-Parameter c.args.p.now).line (out-Parameter c.args.p.now).specifiers); declarator = (declarator_if c.args.file (out-Parameter c.args.p.now).line (out-Parameter c.args.p.now).declarator) }) rest) (same (ap (λ z. said false (specifiers_view (told_line c.args.file) (out-Parameter c.args.p.now).line z)) (sym c.as_slice.ensures)) c.in_ok-base.ensures) (λ base more mb. front-stop AreParts MoreParameters c.args.known.now c.parts_if.new.known c.in_err-ds.field-0.0 parameters_of (λ rest. derivations_of (rule.lines_of (declarator_if c.args.file (out-Parameter c.args.p.now).line (out-Parameter c.args.p.now).declarator) (specifiers_view (told_line c.args.file) (out-Parameter c.args.p.now).line (out-Parameter c.args.p.now).specifiers).line) (declarator_if c.args.file (out-Parameter c.args.p.now).line (out-Parameter c.args.p.now).declarator) >>= (λ ds. becomes_known (specifiers_view (told_line c.args.file) (out-Parameter c.args.p.now).line (out-Parameter c.args.p.now).specifiers) base.type (declarator_if c.args.file (out-Parameter c.args.p.now).line (out-Parameter c.args.p.now).declarator) ds >>= (λ u. parameters_of rest))) (derivations_of (rule.lines_of (declarator_if c.args.file (out-Parameter c.args.p.now).line (out-Parameter c.args.p.now).declarator) (specifiers_view (told_line c.args.file) (out-Parameter c.args.p.now).line (out-Parameter c.args.p.now).specifiers).line) (declarator_if c.args.file (out-Parameter c.args.p.now).line (out-Parameter c.args.p.now).declarator)) (λ rest ds. becomes_known (specifiers_view (told_line c.args.file) (out-Parameter c.args.p.now).line (out-Parameter c.args.p.now).specifiers) base.type (declarator_if c.args.file (out-Parameter c.args.p.now).line (out-Parameter c.args.p.now).declarator) ds >>= (λ u. parameters_of rest)) (λ rest. refl) (same (ap (λ z. derivations_of z (declarator_if c.args.file (out-Parameter c.args.p.now).line (out-Parameter c.args.p.now).declarator)) (sym c.lines_if-lines.ensures)) c.in_err-ds.ensures))))

pub add_parameter-returns : goal.add_parameter-returns
add_parameter-returns t c = fronts (before_parameters ((parameter_in c.args.file c.args.p.now) ∷ [])) (front-step IsBase MoreParameters c.args.known.now c.args.known.now c.parameter.new.known c.in_ok-base.base c.parameter.result parameters_of (λ rest. parameters_of (before_parameters ((parameter_in c.args.file c.args.p.now) ∷ []) rest)) (said false (specifiers_view (told_line c.args.file) (out-Parameter c.args.p.now).line (out-Parameter c.args.p.now).specifiers)) (λ rest base. derivations_of (rule.lines_of (declarator_if c.args.file (out-Parameter c.args.p.now).line (out-Parameter c.args.p.now).declarator) (specifiers_view (told_line c.args.file) (out-Parameter c.args.p.now).line (out-Parameter c.args.p.now).specifiers).line) (declarator_if c.args.file (out-Parameter c.args.p.now).line (out-Parameter c.args.p.now).declarator) >>= (λ ds. becomes_known (specifiers_view (told_line c.args.file) (out-Parameter c.args.p.now).line (out-Parameter c.args.p.now).specifiers) base.type (declarator_if c.args.file (out-Parameter c.args.p.now).line (out-Parameter c.args.p.now).declarator) ds >>= (λ u. parameters_of rest))) (λ rest. ap (λ z. parameters_of (before_parameters (z ∷ []) rest)) (list.parameter-is (told_line c.args.file) c.args.p.now) ∙ list.parameter-first (record { specifiers = (specifiers_view (told_line c.args.file) (out-Parameter c.args.p.now).line (out-Parameter c.args.p.now).specifiers); declarator = (declarator_if c.args.file (out-Parameter c.args.p.now).line (out-Parameter c.args.p.now).declarator) }) rest) (same (ap (λ z. said false (specifiers_view (told_line c.args.file) (out-Parameter c.args.p.now).line z)) (sym c.as_slice.ensures)) c.in_ok-base.ensures) (λ base more mb.
    front-step AreParts MoreParameters c.args.known.now c.parts_if.new.known c.parameter.new.known c.in_ok-ds.ds c.parameter.result parameters_of (λ rest. derivations_of (rule.lines_of (declarator_if c.args.file (out-Parameter c.args.p.now).line (out-Parameter c.args.p.now).declarator) (specifiers_view (told_line c.args.file) (out-Parameter c.args.p.now).line (out-Parameter c.args.p.now).specifiers).line) (declarator_if c.args.file (out-Parameter c.args.p.now).line (out-Parameter c.args.p.now).declarator) >>= (λ ds. becomes_known (specifiers_view (told_line c.args.file) (out-Parameter c.args.p.now).line (out-Parameter c.args.p.now).specifiers) base.type (declarator_if c.args.file (out-Parameter c.args.p.now).line (out-Parameter c.args.p.now).declarator) ds >>= (λ u. parameters_of rest))) (derivations_of (rule.lines_of (declarator_if c.args.file (out-Parameter c.args.p.now).line (out-Parameter c.args.p.now).declarator) (specifiers_view (told_line c.args.file) (out-Parameter c.args.p.now).line (out-Parameter c.args.p.now).specifiers).line) (declarator_if c.args.file (out-Parameter c.args.p.now).line (out-Parameter c.args.p.now).declarator)) (λ rest ds. becomes_known (specifiers_view (told_line c.args.file) (out-Parameter c.args.p.now).line (out-Parameter c.args.p.now).specifiers) base.type (declarator_if c.args.file (out-Parameter c.args.p.now).line (out-Parameter c.args.p.now).declarator) ds >>= (λ u. parameters_of rest)) (λ rest. refl) (same (ap (λ z. derivations_of z (declarator_if c.args.file (out-Parameter c.args.p.now).line (out-Parameter c.args.p.now).declarator)) (sym c.lines_if-lines.ensures)) c.in_ok-ds.ensures) (λ ds more2 mds.
    front-last MoreParameters c.parts_if.new.known c.parameter.new.known c.parameter.result parameters_of (λ rest. becomes_known (specifiers_view (told_line c.args.file) (out-Parameter c.args.p.now).line (out-Parameter c.args.p.now).specifiers) base.type (declarator_if c.args.file (out-Parameter c.args.p.now).line (out-Parameter c.args.p.now).declarator) ds >>= (λ u. parameters_of rest)) (becomes_known (specifiers_view (told_line c.args.file) (out-Parameter c.args.p.now).line (out-Parameter c.args.p.now).specifiers) base.type (declarator_if c.args.file (out-Parameter c.args.p.now).line (out-Parameter c.args.p.now).declarator) ds) tt (λ rest. refl)
    (same (ap (λ z. becomes_known z.specifiers base.type z.declarator ds) (sym (list.parameter-is (told_line c.args.file) c.args.p.now))) (c.parameter.ensures base.type ds (type-later more2 mb) (subst (λ z. AreDerivations c.parts_if.new.known.types z ds) (sym c.as_slice-2.ensures.value) mds))))))

pub add_parameters-loop-p-preserved : goal.add_parameters-loop-p-preserved
add_parameters-loop-p-preserved t c = steps.parameters-next (parameter_in c.args.file) c.args.known.now c.loop-p.known c.add_parameter.new.known c.as_slice-p-items.result.now c.loop-p.p-index c.p-item.result (Ok tt) c.loop-p-test.true c.p-item.is c.loop-p.invariant c.in_ok-add_parameter.ensures

pub add_parameters-returns-in_err-add_parameter : goal.add_parameters-returns-in_err-add_parameter
add_parameters-returns-in_err-add_parameter t c = front-returned (exits c.from_residual.result _ c.from_residual.ensures.1) (subst (λ z. AddsParameters c.args.known.now c.add_parameter.new.known (Err c.in_err-add_parameter.field-0.0) (map (parameter_in c.args.file) z)) c.as_slice-p-items.ensures (steps.parameters-refused (parameter_in c.args.file) c.args.known.now c.loop-p.known c.add_parameter.new.known c.as_slice-p-items.result.now c.loop-p.p-index c.p-item.result c.in_err-add_parameter.field-0.0 c.loop-p-test.true c.p-item.is c.loop-p.invariant c.in_err-add_parameter.ensures))

pub add_parameters-returns : goal.add_parameters-returns
add_parameters-returns t c = subst (λ z. AddsParameters c.args.known.now c.loop-p.known (Ok tt) (map (parameter_in c.args.file) z)) c.as_slice-p-items.ensures (steps.parameters-all (parameter_in c.args.file) c.args.known.now c.loop-p.known c.as_slice-p-items.result.now c.loop-p.p-index c.loop-p-test.false c.loop-p.invariant)

pub add_parts-loop-suffix-init : goal.add_parts-loop-suffix-init
add_parts-loop-suffix-init t c = steps.parts-none c.args.lines c.add_direct.new.known c.add_direct.new.parts.items (all_parts []) (λ rest. refl)

pub add_parameters-loop-p-init : goal.add_parameters-loop-p-init
add_parameters-loop-p-init t c = steps.parameters-none c.args.known.now

pub add_suffix-returns-in-Array : goal.add_suffix-returns-in-Array
add_suffix-returns-in-Array t c = subst (λ z. AddsParts c.args.known.now c.add_array.new.known c.args.lines c.args.parts.now.items c.add_array.new.parts.items c.add_array.result (suffix_view (told_line c.args.file) z)) (sym c.in-Array.is) (c.add_array.ensures c.in-Array.field-0)

pub add_array-returns-in-None : goal.add_array-returns-in-None
add_array-returns-in-None t c line = fronts (suffix_view (told_line c.args.file) (ts.Array line c.args.length.now)) (part-added c.args.lines c.args.known.now c.args.parts.now.items c.add.new.items.items c.add.result (Array None) (rule.to_array None) (λ rest. (parts_of (lines_view c.args.lines)) ((suffix_view (told_line c.args.file) (ts.Array line c.args.length.now)) rest)) c.add.ensures.added c.add.ensures.memory refl (list.unsized-is (told_line c.args.file) (lines_view c.args.lines) (ts.Array line c.args.length.now) line (ap (ts.Array line) c.in-None.is)))

pub add_array-returns-in_err-value-in-Some : goal.add_array-returns-in_err-value-in-Some
add_array-returns-in_err-value-in-Some t c line = front-returned (exits c.from_residual.result _ c.from_residual.ensures.1) (fronts (suffix_view (told_line c.args.file) (ts.Array line c.args.length.now)) (front-stop MeansWritten (More AreDerivations c.args.parts.now.items c.args.parts.now.items) c.args.known.now c.value_of.new.known c.in_err-value-in-Some.field-0.0 (parts_of (lines_view c.args.lines)) (λ rest. (parts_of (lines_view c.args.lines)) ((suffix_view (told_line c.args.file) (ts.Array line c.args.length.now)) rest)) (value_of (expr_view (told_line c.args.file) c.get.result.now)) (λ rest a. ruled_by (lines_view c.args.lines).lengths (rule.length_of a.value) >>= (λ n. (parts_of (lines_view c.args.lines)) rest >>= (λ ds. pure (rule.to_array (Some n) ∷ ds)))) (list.sized-is (told_line c.args.file) (lines_view c.args.lines) (ts.Array line c.args.length.now) line c.get.result.now (ap (ts.Array line) (c.in-Some.is ∙ ap Some (sym c.get.ensures)))) c.in_err-value-in-Some.ensures))

pub add_array-returns-in_err-cells-in-Some : goal.add_array-returns-in_err-cells-in-Some
add_array-returns-in_err-cells-in-Some t c line = front-returned (exits c.from_residual-in_err-cells-in-Some.result _ c.from_residual-in_err-cells-in-Some.ensures.1) (fronts (suffix_view (told_line c.args.file) (ts.Array line c.args.length.now)) (front-step MeansWritten (More AreDerivations c.args.parts.now.items c.args.parts.now.items) c.args.known.now c.value_of.new.known c.value_of.new.known c.in_ok-value-in-Some.value (Err c.in_err-cells-in-Some.field-0.0) (parts_of (lines_view c.args.lines)) (λ rest. (parts_of (lines_view c.args.lines)) ((suffix_view (told_line c.args.file) (ts.Array line c.args.length.now)) rest)) (value_of (expr_view (told_line c.args.file) c.get.result.now)) (λ rest a. ruled_by (lines_view c.args.lines).lengths (rule.length_of a.value) >>= (λ n. (parts_of (lines_view c.args.lines)) rest >>= (λ ds. pure (rule.to_array (Some n) ∷ ds)))) (list.sized-is (told_line c.args.file) (lines_view c.args.lines) (ts.Array line c.args.length.now) line c.get.result.now (ap (ts.Array line) (c.in-Some.is ∙ ap Some (sym c.get.ensures)))) c.in_ok-value-in-Some.ensures (λ a more ma. front-stop IsSame (More AreDerivations c.args.parts.now.items c.args.parts.now.items) c.value_of.new.known c.value_of.new.known c.in_err-cells-in-Some.field-0.0 (parts_of (lines_view c.args.lines)) (λ rest. ruled_by (lines_view c.args.lines).lengths (rule.length_of a.value) >>= (λ n. (parts_of (lines_view c.args.lines)) rest >>= (λ ds. pure (rule.to_array (Some n) ∷ ds)))) (ruled_by (lines_view c.args.lines).lengths (rule.length_of a.value)) (λ rest n. (parts_of (lines_view c.args.lines)) rest >>= (λ ds. pure (rule.to_array (Some n) ∷ ds))) (λ rest. refl) (c.in_err-cells-in-Some.ensures a ma))))

pub add_array-returns-in_ok-cells-in-Some : goal.add_array-returns-in_ok-cells-in-Some
add_array-returns-in_ok-cells-in-Some t c line = fronts (suffix_view (told_line c.args.file) (ts.Array line c.args.length.now)) (front-step MeansWritten (More AreDerivations c.args.parts.now.items c.add-in-Some.new.items.items) c.args.known.now c.value_of.new.known c.value_of.new.known c.in_ok-value-in-Some.value c.add-in-Some.result (parts_of (lines_view c.args.lines)) (λ rest. (parts_of (lines_view c.args.lines)) ((suffix_view (told_line c.args.file) (ts.Array line c.args.length.now)) rest)) (value_of (expr_view (told_line c.args.file) c.get.result.now)) (λ rest a. ruled_by (lines_view c.args.lines).lengths (rule.length_of a.value) >>= (λ n. (parts_of (lines_view c.args.lines)) rest >>= (λ ds. pure (rule.to_array (Some n) ∷ ds)))) (list.sized-is (told_line c.args.file) (lines_view c.args.lines) (ts.Array line c.args.length.now) line c.get.result.now (ap (ts.Array line) (c.in-Some.is ∙ ap Some (sym c.get.ensures)))) c.in_ok-value-in-Some.ensures (λ a more ma.
    front-step IsSame (More AreDerivations c.args.parts.now.items c.add-in-Some.new.items.items) c.value_of.new.known c.value_of.new.known c.value_of.new.known c.in_ok-cells-in-Some.cells c.add-in-Some.result (parts_of (lines_view c.args.lines)) (λ rest. ruled_by (lines_view c.args.lines).lengths (rule.length_of a.value) >>= (λ n. (parts_of (lines_view c.args.lines)) rest >>= (λ ds. pure (rule.to_array (Some n) ∷ ds)))) (ruled_by (lines_view c.args.lines).lengths (rule.length_of a.value)) (λ rest n. (parts_of (lines_view c.args.lines)) rest >>= (λ ds. pure (rule.to_array (Some n) ∷ ds))) (λ rest. refl) (c.in_ok-cells-in-Some.ensures a ma) (λ n more2 mn.
    part-added c.args.lines c.value_of.new.known c.args.parts.now.items c.add-in-Some.new.items.items c.add-in-Some.result (Array (Some c.in_ok-cells-in-Some.cells)) (rule.to_array (Some n)) (λ rest. (parts_of (lines_view c.args.lines)) rest >>= (λ ds. pure (rule.to_array (Some n) ∷ ds))) c.add-in-Some.ensures.added c.add-in-Some.ensures.memory (ap Some mn) (λ rest. refl))))

pub add_suffix-returns-in_err-found-in-Function : goal.add_suffix-returns-in_err-found-in-Function
add_suffix-returns-in_err-found-in-Function t c = front-returned (exits c.from_residual.result _ c.from_residual.ensures.1) (fronts (suffix_view (told_line c.args.file) c.args.behind.now) (front-stop MeanVec (More AreDerivations c.args.parts.now.items c.args.parts.now.items) c.args.known.now c.parameter_list.new.known c.in_err-found-in-Function.field-0.0 (parts_of (lines_view c.args.lines)) (λ rest. (parts_of (lines_view c.args.lines)) ((suffix_view (told_line c.args.file) c.args.behind.now) rest)) (list_of (parameters_in c.args.file c.in-Function.ps) (parameters_of (parameters_in c.args.file c.in-Function.ps))) (λ rest found. (parts_of (lines_view c.args.lines)) rest >>= (λ ds. pure (rule.to_function found ∷ ds))) (list.function-is (told_line c.args.file) (lines_view c.args.lines) c.args.behind.now c.in-Function.field-0 c.in-Function.ps c.in-Function.is) c.in_err-found-in-Function.ensures))

pub add_suffix-returns-in_ok-found-in-Function : goal.add_suffix-returns-in_ok-found-in-Function
add_suffix-returns-in_ok-found-in-Function t c = fronts (suffix_view (told_line c.args.file) c.args.behind.now) (front-step MeanVec (More AreDerivations c.args.parts.now.items c.add.new.items.items) c.args.known.now c.parameter_list.new.known c.parameter_list.new.known c.in_ok-found-in-Function.found c.add.result (parts_of (lines_view c.args.lines)) (λ rest. (parts_of (lines_view c.args.lines)) ((suffix_view (told_line c.args.file) c.args.behind.now) rest)) (list_of (parameters_in c.args.file c.in-Function.ps) (parameters_of (parameters_in c.args.file c.in-Function.ps))) (λ rest found. (parts_of (lines_view c.args.lines)) rest >>= (λ ds. pure (rule.to_function found ∷ ds))) (list.function-is (told_line c.args.file) (lines_view c.args.lines) c.args.behind.now c.in-Function.field-0 c.in-Function.ps c.in-Function.is) c.in_ok-found-in-Function.ensures (λ found more mf.
    part-added c.args.lines c.parameter_list.new.known c.args.parts.now.items c.add.new.items.items c.add.result (Function c.in_ok-found-in-Function.found) (rule.to_function found) (λ rest. (parts_of (lines_view c.args.lines)) rest >>= (λ ds. pure (rule.to_function found ∷ ds))) c.add.ensures.added c.add.ensures.memory mf (λ rest. refl)))

pub parameter_list-returns-then-is_empty_list : goal.parameter_list-returns-then-is_empty_list
parameter_list-returns-then-is_empty_list t c = same (list.empty-list (parameters_in c.args.file c.args.ps.now) (ap (λ z. rule.is_empty_list (parameters_in c.args.file z)) (sym c.as_slice.ensures) ∙ sym c.is_empty_list.ensures ∙ c.if-is_empty_list.true)) (pure-gives MeanVec c.args.known.now c.new.result [] (record { always = λ later l. ap (map _) c.new.ensures.items }))

pub parameter_list-returns-in_err-before : goal.parameter_list-returns-in_err-before
parameter_list-returns-in_err-before t c = stop (λ x. parameters_of (parameters_in c.args.file c.args.ps.now) >>= (λ u. list_ended x)) (list.full-list (parameters_in c.args.file c.args.ps.now) (ap (λ z. rule.is_empty_list (parameters_in c.args.file z)) (sym c.as_slice.ensures) ∙ sym c.is_empty_list.ensures ∙ c.if-is_empty_list.false)) (exits c.from_residual.result _ c.from_residual.ensures.1) c.in_err-before.ensures

pub parameter_list-returns-in_err-add_parameters : goal.parameter_list-returns-in_err-add_parameters
parameter_list-returns-in_err-add_parameters t c = step {f = λ x. parameters_of (parameters_in c.args.file c.args.ps.now) >>= (λ u. list_ended x)} (list.full-list (parameters_in c.args.file c.args.ps.now) (ap (λ z. rule.is_empty_list (parameters_in c.args.file z)) (sym c.as_slice.ensures) ∙ sym c.is_empty_list.ensures ∙ c.if-is_empty_list.false)) c.in_ok-before.ensures (λ b more mb. stop (λ u. list_ended b) refl (exits c.from_residual-in_err-add_parameters.result _ c.from_residual-in_err-add_parameters.ensures.1) (steps.parameters-told c.begin_list.new.known c.add_parameters.new.known (map (parameter_in c.args.file) c.args.ps.now) c.in_err-add_parameters.field-0.0 c.in_err-add_parameters.ensures))

pub parameter_list-returns : goal.parameter_list-returns
parameter_list-returns t c = step {f = λ x. parameters_of (parameters_in c.args.file c.args.ps.now) >>= (λ u. list_ended x)} (list.full-list (parameters_in c.args.file c.args.ps.now) (ap (λ z. rule.is_empty_list (parameters_in c.args.file z)) (sym c.as_slice.ensures) ∙ sym c.is_empty_list.ensures ∙ c.if-is_empty_list.false)) c.in_ok-before.ensures (λ b more mb. step {f = λ u. list_ended b} refl (steps.parameters-give c.begin_list.new.known c.add_parameters.new.known (map (parameter_in c.args.file) c.args.ps.now) c.in_ok-add_parameters.field-0 c.in_ok-add_parameters.ensures) (λ u more2 mu. subst (λ z. Gives MeanVec c.add_parameters.new.known c.end_parameters.new.self c.end_parameters.result (list_ended z)) mb c.end_parameters.ensures))
