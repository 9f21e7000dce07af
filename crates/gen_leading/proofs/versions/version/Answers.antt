use Rattle.std.proofs.Common.{◌≡◌, ℕ, length, sym, ap, ◌∙◌, subst}
use Rattle.std.specs.Prelude.{IfOk, List}
use Rattle.mid_code.specs.declared.program.MidLine.{MidLine}
use Rattle.mid_code.specs.declared.version.Version.{Version}
use Rattle.mid_code.specs.Versions.{leading, place_in, groups_from}
use Rattle.version_code.specs.Places.{moved_by}
use Rattle.version_code.proofs.MovedPlaces.{moves}
use Rattle.gen_leading.proofs.versions.version.Goals as goal

pub returns : goal.returns
returns c =
    let classes = c.args.classes.now in
    let code = c.as_slice-code.result.now in
    let same : length classes ≡ length code = c.requires.each ∙ sym (ap length c.as_slice-code.ensures) in
    let moved : moved_by c.as_slice.result.now ≡ place_in leading classes code =
    ap moved_by c.as_slice.ensures.value ∙ moves leading classes code c.in_ok-starts.starts.items same c.in_ok-starts.ensures in
    subst (λ (ls : List MidLine). IfOk c.groups.result (λ (v : Version). v ≡ record { code = groups_from leading (place_in leading classes ls) 0 classes ls })) c.as_slice-code.ensures
    (subst (λ (m : ℕ → ℕ). IfOk c.groups.result (λ (v : Version). v ≡ record { code = groups_from leading m 0 classes code })) moved c.groups.ensures)
