use Rattle.std.proofs.Common.{◌≡◌, ℕ, suc, ◌+◌, List, length, sym, ap, ◌∙◌, subst, arith, false}
use Rattle.std.specs.Prelude.{slice_index}
use Rattle.std.specs.List.{list_any}
use Rattle.std.proofs.lemmas.Option.{get_or_from_slice_get}
use Rattle.mid_code.specs.declared.program.MidLine.{MidLine}
use Rattle.mid_code.specs.Flow.{way_goes}
use Rattle.mid_code.specs.Ways.{Way, way_of}
use Rattle.mid_code.specs.Row.{Holds, number_behind, number_closes_wrongly, row_after, has_other_number}
use Rattle.mid_code.proofs.Passing.{unreached, answer_quiet, next_quiet, answer_closes, next_passed, answer_enters, on_false, line_there}
use Rattle.mid_code.proofs.flow.breaks_order.Goals as goal

pub returns-then-here-eq0-clause-exact : goal.returns-then-here-eq0-clause-exact
returns-then-here-eq0-clause-exact c = λ l at.
    answer_quiet c.args.code.now c.args.place l.mid (unreached c.args.row.now c.args.code.now c.args.place c.requires.holds c.requires.here c.if-here-eq0.true)

pub returns-then-here-eq0-clause-next : goal.returns-then-here-eq0-clause-next
returns-then-here-eq0-clause-next c =
    let e : suc c.args.place ≡ c.args.place + 1 = omega arith in
    subst (λ n. Holds c.args.row.now c.args.code.now n) e
    (next_quiet c.args.row.now c.args.code.now c.args.place c.requires.holds (unreached c.args.row.now c.args.code.now c.args.place c.requires.holds c.requires.here c.if-here-eq0.true))

pub returns-then-closes_wrongly-clause-exact : goal.returns-then-closes_wrongly-clause-exact
returns-then-closes_wrongly-clause-exact c = λ l at.
    let way : c.way_of-way.result ≡ way_of l.mid =
    c.way_of-way.ensures ∙ ap (λ (x : MidLine). way_of x.mid) (get_or_from_slice_get c.args.code.now c.args.place l c.index-code-place.result at) in
    answer_closes c.args.row.now c.args.code.now c.args.place l.mid c.requires.holds c.requires.here c.if-here-eq0.false
    (sym (ap (λ w. number_closes_wrongly w (slice_index c.args.row.now c.args.place)) way) ∙ sym c.closes_wrongly.ensures ∙ c.if-closes_wrongly.true)

pub returns-clause-exact : goal.returns-clause-exact
returns-clause-exact c = λ l at.
    let row : List ℕ = c.args.row.now in
    let way : c.way_of-way.result ≡ way_of l.mid =
    c.way_of-way.ensures ∙ ap (λ (x : MidLine). way_of x.mid) (get_or_from_slice_get c.args.code.now c.args.place l c.index-code-place.result at) in
    let right : number_closes_wrongly (way_of l.mid) (slice_index row c.args.place) ≡ false =
    sym (ap (λ w. number_closes_wrongly w (slice_index row c.args.place)) way) ∙ sym c.closes_wrongly.ensures ∙ c.if-closes_wrongly.false in
    let is_left : c.number_behind-left.result ≡ number_behind row c.args.place (way_of l.mid) (slice_index row c.args.place) =
    c.number_behind-left.ensures ∙ ap (λ w. number_behind row c.args.place w (slice_index row c.args.place)) way in
    let limit : ℕ = length c.args.code.now in
    let left : ℕ = c.number_behind-left.result in
    c.pass_on.ensures.other
    ∙ ap (λ (r : List ℕ). list_any (λ t. has_other_number limit left r t) (way_goes c.args.place c.way_of-way.result)) c.pass_on.ensures.row
    ∙ ap (λ (w : Way). list_any (λ t. has_other_number limit left (row_after limit c.args.place left (way_goes c.args.place w) row) t) (way_goes c.args.place w)) way
    ∙ answer_enters row c.args.code.now c.args.place left l c.requires.holds c.requires.here c.requires.room at c.if-here-eq0.false right is_left

pub returns-clause-next : goal.returns-clause-next
returns-clause-next c =
    let there = line_there c.args.code.now c.args.place c.requires.here in
    let row : List ℕ = c.args.row.now in
    let way : c.way_of-way.result ≡ way_of there.0.mid =
    c.way_of-way.ensures ∙ ap (λ (x : MidLine). way_of x.mid) (get_or_from_slice_get c.args.code.now c.args.place there.0 c.index-code-place.result there.1) in
    let right : number_closes_wrongly (way_of there.0.mid) (slice_index row c.args.place) ≡ false =
    sym (ap (λ w. number_closes_wrongly w (slice_index row c.args.place)) way) ∙ sym c.closes_wrongly.ensures ∙ c.if-closes_wrongly.false in
    let is_left : c.number_behind-left.result ≡ number_behind row c.args.place (way_of there.0.mid) (slice_index row c.args.place) =
    c.number_behind-left.ensures ∙ ap (λ w. number_behind row c.args.place w (slice_index row c.args.place)) way in
    let limit : ℕ = length c.args.code.now in
    let left : ℕ = c.number_behind-left.result in
    let come : c.pass_on.new.row ≡ row_after limit c.args.place left (way_goes c.args.place (way_of there.0.mid)) row =
    c.pass_on.ensures.row ∙ ap (λ (w : Way). row_after limit c.args.place left (way_goes c.args.place w) row) way in
    let e : suc c.args.place ≡ c.args.place + 1 = omega arith in
    on_false c.pass_on.result
    (subst (λ n. Holds c.pass_on.new.row c.args.code.now n) e
    (subst (λ (r : List ℕ). Holds r c.args.code.now (suc c.args.place)) (sym come)
    (next_passed row c.args.code.now c.args.place left there.0 c.requires.holds c.requires.here c.requires.room there.1 c.if-here-eq0.false right is_left)))
