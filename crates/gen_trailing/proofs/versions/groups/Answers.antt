use Rattle.std.proofs.Common.{◌≡◌, ◌+◌, ◌-◌, ◌<◌, ◌++◌, List, length, drop, sym, ap, ◌∙◌, arith, Some, append_assoc}
use Rattle.std.specs.Prelude.{slice_index_or, slice_get}
use Rattle.std.proofs.lemmas.Option.{slice_get-get_or}
use Rattle.mid_code.specs.declared.class.Class.TheVariants.{Repeatable}
use Rattle.mid_code.specs.declared.version.VersionLine.{VersionLine}
use Rattle.mid_code.specs.Versions.{trailing, with_line, group_of, groups_from}
use Rattle.mid_code.proofs.VersionGroups.{trailing_sized, length-group_of}
use Rattle.version_code.specs.Lines.{Gathered}
use Rattle.version_code.specs.Places.{moved_by}
use Rattle.version_code.proofs.VersionRows.{item_at, next_place, room_left, groups_left}
use Rattle.gen_trailing.proofs.versions.groups.Goals as goal

pub add_group-requires-clause-room : goal.add_group-requires-clause-room
add_group-requires-clause-room c =
    let classes = c.args.classes.now in
    let code = c.args.code.now in
    let i = c.loop-index.index in
    let l = c.index-code-index.result in
    let within : i < length code = omega arith in
    let class = slice_index_or classes i Repeatable in
    let at_class : slice_get classes i ≡ Some class = slice_get-get_or classes i Repeatable (omega (arith, c.requires.classes)) in
    omega (arith, c.loop-index.invariant.room, room_left trailing classes code i class l at_class (item_at code i l within c.index-code-index.is))

pub loop-index-preserved : goal.loop-index-preserved
loop-index-preserved c =
    let classes = c.args.classes.now in
    let code = c.args.code.now in
    let moved = moved_by c.args.starts.now in
    let i = c.loop-index.index in
    let l = c.index-code-index.result in
    let within : i < length code = omega arith in
    let at : slice_get code i ≡ Some l = item_at code i l within c.index-code-index.is in
    let class = slice_index_or classes i Repeatable in
    let at_class : slice_get classes i ≡ Some class = slice_get-get_or classes i Repeatable (omega (arith, c.requires.classes)) in
    let group = group_of trailing moved i class l.mid in
    let before = c.loop-index.lines in
    let rest = groups_from trailing moved (i + 1) (drop (i + 1) classes) (drop (i + 1) code) in
    let added : c.add_group.new.lines.code ≡ before.code ++ with_line l.line group = ap (λ (g : Gathered). g.code) c.add_group.ensures in
    let taken : c.add_group.new.lines.room ≡ before.room - length group = ap (λ (g : Gathered). g.room) c.add_group.ensures in
    record {
      all = ap (λ (ls : List VersionLine). ls ++ rest) added
          ∙ append_assoc before.code (with_line l.line group) rest
          ∙ ap (λ (ls : List VersionLine). before.code ++ ls) (sym (groups_left trailing classes code i class l at_class at moved))
          ∙ c.loop-index.invariant.all;
      room = omega (
        arith,
        taken,
        length-group_of trailing moved i class l.mid trailing_sized,
        c.loop-index.invariant.room,
        room_left trailing classes code i class l at_class at,
        next_place trailing classes code i class l at_class at,
      );
    }
