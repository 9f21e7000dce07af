-- A function of a unit that is parsed of bytes has no more tokens than these have bytes.
use Rattle.std.proofs.Common.{ℕ, ◌+◌, ◌≤◌, List, [], ◌∷◌, map, length, arith}
use Rattle.c_lexer.specs.declared.token.Token.{Token}
use Rattle.c_lexer.specs.Tokens.{Lexes, LieWithin}
use Rattle.c_lexer.proofs.Wholes.{lexes_within}
use Rattle.c_tree.specs.declared.unit.Unit.{Unit as TreeUnit}
use Rattle.c_tree.specs.declared.unit.External.{External}
use Rattle.c_expr.specs.Nodes.{Bytes}
use Rattle.c_parser.specs.StatementNodes.{unit_node}
use Rattle.c_parser.specs.Units.{IsExternal, IsUnit, Derives}
use Rattle.typing_rules.specs.SourceViews.{external_view, unit_view}
use Rattle.typing_rules.specs.Laws.{Each}
use Rattle.event_laws.specs.TokensOf.{ExternalIsShort, AreShort}
use Rattle.parsed_laws.proofs.Counting.{Takes, takes_is, takes_bind, takes_then, takes_map, takes_or, Together, takes_further}
use Rattle.parsed_laws.proofs.StatementTokens.{block_takes}

-- ---- tokens have bytes

fewer_tokens : (from to : ℕ) (tokens : List Token) → from ≤ to → LieWithin from to tokens → from + length tokens ≤ to
fewer_tokens from to [] h k = omega (arith, h)
fewer_tokens from to (t ∷ ts) h k = omega (arith, k.0, k.1, fewer_tokens t.end to ts k.2 k.3)

tokens_few : (src : Bytes) (tokens : List Token) → Lexes src tokens → length tokens ≤ length src
tokens_few src tokens lexed = omega (arith, fewer_tokens 0 (length src) tokens (omega arith) (lexes_within src tokens lexed))

-- ---- units

module _ (shift : ℕ → ℕ) where
  -- so many tokens, or more, are enough
  abbrev Has : External → ℕ → Type 0
  Has e k = (bound : ℕ) → k ≤ bound → ExternalIsShort bound (external_view shift e)

  external_takes : (src : Bytes) → Takes Has (IsExternal src)
  external_takes src =
      takes_or (takes_then (λ ss i. takes_then (λ declarator j. takes_bind (block_takes shift src) (λ body m h.
      takes_is (λ bound k. omega (arith, h, k))))))
      (takes_then (λ d m. takes_is (λ bound k. tt)))

  externals_short : (es : List External) (k bound : ℕ) → Together Has es k → k ≤ bound → Each (ExternalIsShort bound) (map (external_view shift) es)
  externals_short [] k bound h fits = tt
  externals_short (e ∷ es) k bound h fits =
      (h.2 bound (omega (arith, h.4, fits)), externals_short es h.1 bound h.3 (omega (arith, h.4, fits)))

  abbrev HasUnit : TreeUnit → ℕ → Type 0
  HasUnit unit k = (bound : ℕ) → k ≤ bound → AreShort bound (unit_view shift unit)

  unit_short : (es : List External) (k : ℕ) → Together Has es k → HasUnit (unit_node es) k
  unfolding unit_view
  unit_short es k h bound fits = externals_short es k bound h fits

  unit_takes : (src : Bytes) → Takes HasUnit (IsUnit src)
  unit_takes src = takes_map unit_node (takes_further (external_takes src)) unit_short

  pub derived_short : (tokens : List Token) (src : Bytes) (unit : TreeUnit) → Lexes src tokens → Derives tokens src unit
      → (bound : ℕ) → length src ≤ bound → AreShort bound (unit_view shift unit)
  derived_short tokens src unit lexed h bound fits =
      (unit_takes src).takes unit tokens h bound (omega (arith, tokens_few src tokens lexed, fits))
