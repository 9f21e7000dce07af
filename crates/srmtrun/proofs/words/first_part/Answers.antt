use Rattle.std.proofs.Common.{◌≡◌, List, ℕ, false, sym, ap, subst, ◌∙◌, arith}
use Rattle.std.specs.Prelude.{drop, get_or, string_bytes}
use Rattle.srmtrun.specs.Words.{texts, names_source}
use Rattle.srmtrun.specs.Reading.{Begins}
use Rattle.srmtrun.proofs.Spelling.{no_part, first_word}
use Rattle.srmtrun.proofs.words.first_part.Goals as goal

pub returns-in-None-2-clause-none : goal.returns-in-None-2-clause-none
returns-in-None-2-clause-none c =
    let w : string_bytes (get_or c.args.words.now 0 c.word-item.result) ≡ c.as_str-word.result.now = ap string_bytes (sym c.word-item.is) ∙ sym c.as_str-word.ensures.value in
    let source : names_source (string_bytes (get_or c.args.words.now 0 c.word-item.result)) ≡ false = ap names_source w ∙ sym c.names_source.ensures ∙ c.if-names_source.false in
    λ part behind b. no_part (string_bytes (get_or c.args.words.now 0 c.word-item.result)) (texts (drop 1 c.args.words.now)) source (λ f e. c.in-None.ensures.none f (sym w ∙ e)) part behind
    (subst (λ (ws : List (List ℕ)). Begins ws part behind) (first_word c.args.words.now c.word-item.result (omega (arith, c.in-len1-up.len_at_least))) b)
