use Rattle.std.proofs.Common.{◌≡◌, ◌∙◌, sym, ap, Some, None}
use Rattle.word_stream.specs.Reading.{row_at}
use Rattle.word_stream.proofs.Spelled.{request_spelled}
use Rattle.word_stream.proofs.Beginning.{matches, matches_none, asked_here, same_row, read_one}
use Rattle.word_stream.proofs.CheckKind.{is_check, is_other}
use Rattle.word_stream.proofs.table.read_words.Goals as goal

pub returns-in_err-word-clause-only : goal.returns-in_err-word-clause-only
returns-in_err-word-clause-only c = λ request response count b. absurd (matches_none _ _ request response count (sym c.in_err-word.ensures.value) b)

pub returns-then-ne-clause-only : goal.returns-then-ne-clause-only
returns-then-ne-clause-only c = λ request response count b.
    absurd (is_other c.kind.result c.if-ne.ensures (c.kind.ensures ∙ (matches _ _ _ request response count (sym c.in_ok-word.ensures.value) b).check))

pub returns-in_err-row-clause-only : goal.returns-in_err-row-clause-only
returns-in_err-row-clause-only c = λ request response count b.
    let m = matches _ _ _ request response count (sym c.in_ok-word.ensures.value) b in
    let clash : None ≡ Some m.row = c.in_err-row.ensures ∙ ap (row_at c.args.kinds.now) c.site-site.ensures ∙ m.found in
    absurd (cc)

pub returns-in_err-request-clause-only : goal.returns-in_err-request-clause-only
returns-in_err-request-clause-only c = λ request response count b.
    let asked = asked_here _ _ _ request response count _ _ _ (sym c.in_ok-word.ensures.value) c.site-site.ensures c.value.ensures.exact (sym c.in_ok-row.ensures) b in
    let clash : None ≡ Some request = c.in_err-request.ensures ∙ asked in
    absurd (cc)

pub returns-clause-begins : goal.returns-clause-begins
returns-clause-begins c =
    let is = request_spelled _ _ _ _ (sym c.request_of.ensures ∙ c.in_ok-request.was) in
    read_one _ _ _ _ _ _ _ (sym c.in_ok-word.ensures.value) (sym c.kind.ensures ∙ is_check c.kind.result c.if-ne.ensures) c.site-site.ensures c.value.ensures.exact is.spells (sym c.in_ok-row.ensures) is.kind_is

pub returns-clause-only : goal.returns-clause-only
returns-clause-only c = λ request response count b.
    same_row _ _ _ request response count _ _ _ (sym c.in_ok-word.ensures.value) c.site-site.ensures c.value.ensures.exact (sym c.in_ok-row.ensures) b _ (sym c.request_of.ensures ∙ c.in_ok-request.was)
