use Rattle.std.proofs.Common.{refl}
use Rattle.c_tree.specs.declared.expression.ExprNode.TheVariants as tn
use Rattle.typing_rules.proofs.SourceViewLaws.{view_name, view_number, view_character, view_parenthesized, view_index, view_call, view_postfix, view_prefix, view_sizeofexpr, view_sizeoftype, view_cast, view_binary, view_conditional, view_assign, view_comma}
use Rattle.c_declarations.proofs.Texts.{is-text, no-text, binary-no-text, assignment-no-text}
use Rattle.c_declarations.proofs.text.text_of.Goals as goal

pub returns-in-Text : goal.returns-in-Text
returns-in-Text c shift = is-text shift c.args.e.now c.in-Text.bytes c.as_slice.result.now c.in-Text.is c.as_slice.ensures

pub returns-in-Name : goal.returns-in-Name
returns-in-Name c shift = no-text shift c.args.e.now (tn.Name c.in-Name.field-0) _ c.in-Name.is (view_name shift c.in-Name.field-0) refl

pub returns-in-Number : goal.returns-in-Number
returns-in-Number c shift = no-text shift c.args.e.now (tn.Number c.in-Number.field-0 c.in-Number.field-1) _ c.in-Number.is (view_number shift c.in-Number.field-0 c.in-Number.field-1) refl

pub returns-in-Character : goal.returns-in-Character
returns-in-Character c shift = no-text shift c.args.e.now (tn.Character c.in-Character.field-0) _ c.in-Character.is (view_character shift c.in-Character.field-0) refl

pub returns-in-Parenthesized : goal.returns-in-Parenthesized
returns-in-Parenthesized c shift = no-text shift c.args.e.now (tn.Parenthesized c.in-Parenthesized.field-0) _ c.in-Parenthesized.is (view_parenthesized shift c.in-Parenthesized.field-0) refl

pub returns-in-Index : goal.returns-in-Index
returns-in-Index c shift = no-text shift c.args.e.now (tn.Index c.in-Index.field-0 c.in-Index.field-1 c.in-Index.field-2) _ c.in-Index.is (view_index shift c.in-Index.field-0 c.in-Index.field-1 c.in-Index.field-2) refl

pub returns-in-Call : goal.returns-in-Call
returns-in-Call c shift = no-text shift c.args.e.now (tn.Call c.in-Call.field-0 c.in-Call.field-1 c.in-Call.field-2) _ c.in-Call.is (view_call shift c.in-Call.field-0 c.in-Call.field-1 c.in-Call.field-2) refl

pub returns-in-Postfix : goal.returns-in-Postfix
returns-in-Postfix c shift = no-text shift c.args.e.now (tn.Postfix c.in-Postfix.field-0 c.in-Postfix.field-1 c.in-Postfix.field-2) _ c.in-Postfix.is (view_postfix shift c.in-Postfix.field-0 c.in-Postfix.field-1 c.in-Postfix.field-2) refl

pub returns-in-Prefix : goal.returns-in-Prefix
returns-in-Prefix c shift = no-text shift c.args.e.now (tn.Prefix c.in-Prefix.field-0 c.in-Prefix.field-1) _ c.in-Prefix.is (view_prefix shift c.in-Prefix.field-0 c.in-Prefix.field-1) refl

pub returns-in-SizeofExpr : goal.returns-in-SizeofExpr
returns-in-SizeofExpr c shift = no-text shift c.args.e.now (tn.SizeofExpr c.in-SizeofExpr.field-0) _ c.in-SizeofExpr.is (view_sizeofexpr shift c.in-SizeofExpr.field-0) refl

pub returns-in-SizeofType : goal.returns-in-SizeofType
returns-in-SizeofType c shift = no-text shift c.args.e.now (tn.SizeofType c.in-SizeofType.field-0) _ c.in-SizeofType.is (view_sizeoftype shift c.in-SizeofType.field-0) refl

pub returns-in-Cast : goal.returns-in-Cast
returns-in-Cast c shift = no-text shift c.args.e.now (tn.Cast c.in-Cast.field-0 c.in-Cast.field-1) _ c.in-Cast.is (view_cast shift c.in-Cast.field-0 c.in-Cast.field-1) refl

pub returns-in-Binary : goal.returns-in-Binary
returns-in-Binary c shift = no-text shift c.args.e.now (tn.Binary c.in-Binary.field-0 c.in-Binary.field-1 c.in-Binary.field-2 c.in-Binary.field-3) _ c.in-Binary.is (view_binary shift c.in-Binary.field-0 c.in-Binary.field-1 c.in-Binary.field-2 c.in-Binary.field-3) (binary-no-text _ _ _ _ _)

pub returns-in-Conditional : goal.returns-in-Conditional
returns-in-Conditional c shift = no-text shift c.args.e.now (tn.Conditional c.in-Conditional.field-0 c.in-Conditional.field-1 c.in-Conditional.field-2 c.in-Conditional.field-3) _ c.in-Conditional.is (view_conditional shift c.in-Conditional.field-0 c.in-Conditional.field-1 c.in-Conditional.field-2 c.in-Conditional.field-3) refl

pub returns-in-Assign : goal.returns-in-Assign
returns-in-Assign c shift = no-text shift c.args.e.now (tn.Assign c.in-Assign.field-0 c.in-Assign.field-1 c.in-Assign.field-2 c.in-Assign.field-3) _ c.in-Assign.is (view_assign shift c.in-Assign.field-0 c.in-Assign.field-1 c.in-Assign.field-2 c.in-Assign.field-3) (assignment-no-text _ _ _ _ _)

pub returns-in-Comma : goal.returns-in-Comma
returns-in-Comma c shift = no-text shift c.args.e.now (tn.Comma c.in-Comma.field-0 c.in-Comma.field-1) _ c.in-Comma.is (view_comma shift c.in-Comma.field-0 c.in-Comma.field-1) refl
