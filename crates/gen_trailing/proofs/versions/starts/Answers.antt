use Rattle.std.proofs.Common.{◌≡◌, ◌+◌, ◌<◌, length, ap, ◌∙◌, arith, Some}
use Rattle.std.specs.Prelude.{slice_index, slice_index_or, slice_get}
use Rattle.std.proofs.lemmas.List.{length_push}
use Rattle.std.proofs.lemmas.Option.{slice_get-get_or}
use Rattle.mid_code.specs.declared.class.Class.TheVariants.{Repeatable}
use Rattle.mid_code.specs.Versions.{trailing, place_in}
use Rattle.mid_code.proofs.VersionGroups.{trailing_sized}
use Rattle.version_code.proofs.VersionRows.{item_at, next_place, small_place, more_starts}
use Rattle.gen_trailing.proofs.versions.starts.Goals as goal

pub overflow_add-start : goal.overflow_add-start
overflow_add-start c =
    let classes = c.args.classes.now in
    let code = c.args.code.now in
    let i = c.loop-index.index in
    let l = c.index-code-index.result in
    let within : i < length code = omega arith in
    let class = slice_index_or classes i Repeatable in
    let at_class : slice_get classes i ≡ Some class = slice_get-get_or classes i Repeatable (omega (arith, c.requires.classes)) in
    omega (
      arith,
      c.size-start.ensures,
      c.loop-index.invariant.last,
      c.requires.few,
      small_place trailing classes code i class l at_class (item_at code i l within c.index-code-index.is) trailing_sized (omega (arith, c.requires.few)),
    )

pub loop-index-preserved : goal.loop-index-preserved
loop-index-preserved c =
    let classes = c.args.classes.now in
    let code = c.args.code.now in
    let i = c.loop-index.index in
    let l = c.index-code-index.result in
    let within : i < length code = omega arith in
    let class = slice_index_or classes i Repeatable in
    let at_class : slice_get classes i ≡ Some class = slice_get-get_or classes i Repeatable (omega (arith, c.requires.classes)) in
    let start = c.loop-index.start + c.size-start.result in
    let items = c.loop-index.starts.items in
    let pushed = c.push_reserved-in-loop-index.ensures in
    let kept = c.loop-index.invariant in
    let last : start ≡ place_in trailing classes code (i + 1) =
    omega (arith, c.size-start.ensures, kept.last, next_place trailing classes code i class l at_class (item_at code i l within c.index-code-index.is)) in
    record {
      count = ap length pushed.items ∙ length_push items start ∙ omega (arith, kept.count);
      each = λ place below. ap (λ xs. slice_index xs place) pushed.items ∙ more_starts trailing classes code items i start kept.count kept.each last place below;
      last = last;
      room = omega (arith, pushed.len, kept.room);
      reserved = pushed.capacity ∙ kept.reserved;
    }
