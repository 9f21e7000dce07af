-- Every expression gives no more events than it has tokens, and a place one less.
use Rattle.std.proofs.Common.{true, false, arith}
use Rattle.srmt_base.specs.declared.op.Op.TheVariants.{Add, Sub}
use Rattle.c_tree.specs.declared.operator.PrefixOp.TheVariants as pre
use Rattle.c_tree.specs.declared.operator.PostfixOp.TheVariants as post
use Rattle.source_meaning.specs.EventLaws.{events_of}
use Rattle.typing_rules.specs.Source.{Expr, at, name, number, character, text, parenthesized, index, call, prefix, postfix, sizeof_expr, sizeof_type, cast, binary, conjunction, disjunction, choice, assignment, compound, comma, Exprs, no_exprs, first_expr, line_of}
use Rattle.typing_rules.specs.Terms.{change_by}
use Rattle.typing_rules.specs.Typing.{IsTerm, AreAll}
use Rattle.event_laws.specs.TokensOf.{tokens_of, tokens_in}
use Rattle.event_laws.proofs.Giving.{Gives, gives_is, gives_bind, gives_after}
use Rattle.event_laws.proofs.NodesFew.{both, events_written}
use Rattle.event_laws.proofs.PartsFew.{TermWithin, AllWithin, constant_within, written_within, named_within, text_within, indexed_within, indirect_within, address_within, opposite_within, promoted_within, negative_within, complemented_within, computed_within, conjoined_within, disjoined_within, chosen_within, target_within, assigns_within, changes_within, stepped_within, casts_within, sized_within, called_within, call_within, sequence_within}

mutual
  unfolding IsTerm tokens_of

  pub term_within : (e : Expr) → Gives (TermWithin (tokens_of e)) (IsTerm e)
  term_within (at line (name bytes)) = named_within line bytes
  term_within (at line (number ty n)) = gives_is (constant_within 1 line n _)
  term_within (at line (character n)) = gives_is (constant_within 1 line n _)
  term_within (at line (text bytes)) = text_within line bytes
  term_within (at line (parenthesized e)) = term_within e
  term_within (at line (index e op i)) =
      gives_bind (written_within (line_of e) (term_within e)) (λ a p. gives_bind (written_within (line_of i) (term_within i)) (λ b q.
      indexed_within line op a b p q))
  term_within (at line (call f op es)) =
      gives_bind (term_within f) (λ callee p. gives_bind (called_within (tokens_of f) callee p) (λ function q.
      gives_bind (all_within es) (λ arguments r. call_within (tokens_of f) (tokens_in es) line op arguments r function q)))
  term_within (at line (prefix pre.Increment e)) = stepped_within line (change_by false (line_of e) Add line) (term_within e)
  term_within (at line (prefix pre.Decrement e)) = stepped_within line (change_by false (line_of e) Sub line) (term_within e)
  term_within (at line (prefix pre.AddressOf e)) = gives_bind (term_within e) (address_within (tokens_of e) line)
  term_within (at line (prefix pre.Indirection e)) = gives_bind (written_within (line_of e) (term_within e)) (indirect_within line)
  term_within (at line (prefix pre.Plus e)) = gives_bind (written_within (line_of e) (term_within e)) (promoted_within line)
  term_within (at line (prefix pre.Minus e)) = gives_bind (written_within (line_of e) (term_within e)) (negative_within line)
  term_within (at line (prefix pre.Complement e)) = gives_bind (written_within (line_of e) (term_within e)) (complemented_within line)
  term_within (at line (prefix pre.Not e)) = gives_bind (written_within (line_of e) (term_within e)) (opposite_within line)
  term_within (at line (postfix post.Increment op e)) = stepped_within line (change_by true (line_of e) Add op) (term_within e)
  term_within (at line (postfix post.Decrement op e)) = stepped_within line (change_by true (line_of e) Sub op) (term_within e)
  term_within (at line (sizeof_expr e)) = gives_after (λ term. gives_after (λ type. sized_within _ line type))
  term_within (at line (sizeof_type t)) = gives_after (λ type. sized_within 1 line type.type)
  term_within (at line (cast t e)) =
      gives_after (λ type. gives_bind (written_within (line_of e) (term_within e)) (λ a p. casts_within line a p type))
  term_within (at line (binary o op e f)) =
      gives_bind (written_within (line_of e) (term_within e)) (λ a p. gives_bind (written_within (line_of f) (term_within f)) (λ b q.
      computed_within line op a b p q o))
  term_within (at line (conjunction op e f)) =
      gives_bind (written_within (line_of e) (term_within e)) (λ a p. gives_bind (written_within (line_of f) (term_within f)) (λ b q.
      conjoined_within line op a b p q))
  term_within (at line (disjunction op e f)) =
      gives_bind (written_within (line_of e) (term_within e)) (λ a p. gives_bind (written_within (line_of f) (term_within f)) (λ b q.
      disjoined_within line op a b p q))
  term_within (at line (choice op c e f)) =
      gives_bind (written_within (line_of c) (term_within c)) (λ test r. gives_bind (written_within (line_of e) (term_within e)) (λ a p.
      gives_bind (written_within (line_of f) (term_within f)) (λ b q. chosen_within line test a b r p q)))
  term_within (at line (assignment op e f)) =
      gives_bind (term_within e) (λ left r. gives_bind (target_within (tokens_of e) left r) (λ target p.
      gives_bind (written_within (line_of f) (term_within f)) (λ a q. assigns_within (tokens_of e) (tokens_of f) line target a p q)))
  term_within (at line (compound o op e f)) =
      gives_bind (term_within e) (λ left r. gives_bind (target_within (tokens_of e) left r) (λ target p.
      gives_bind (written_within (line_of f) (term_within f)) (λ a q. changes_within (tokens_of e) (tokens_of f) line target a p q (change_by false (line_of e) o op))))
  term_within (at line (comma es e)) =
      gives_bind (all_within es) (λ dropped p. gives_bind (written_within (line_of e) (term_within e)) (λ last q.
      gives_is (sequence_within (tokens_in es) (tokens_of e) line dropped last p q)))

  all_within : (es : Exprs) → Gives (AllWithin (tokens_in es)) (AreAll es)
  all_within no_exprs = gives_is (omega arith)
  all_within (first_expr e es) =
      gives_bind (written_within (line_of e) (term_within e)) (λ a p. gives_bind (all_within es) (λ rest q.
      gives_is (both (events_of a.value) (events_written rest) (tokens_of e) (tokens_in es) p q)))
