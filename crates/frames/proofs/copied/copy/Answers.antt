use Rattle.std.proofs.Common.{◌≡◌, Some, sym, ap, ◌∙◌}
use Rattle.std.specs.Option.{option_copied}
use Rattle.mid_code.specs.Versions.{version_at}
use Rattle.frames.specs.Copied.{versions_of}
use Rattle.frames.proofs.CopiesRun.{copied_by}
use Rattle.frames.proofs.copied.copy.Goals as goal

pub go_on-requires-clause-place : goal.go_on-requires-clause-place
go_on-requires-clause-place c =
    let at : version_at (versions_of c.args.side c.args.pair.now) c.args.number c.args.stand.place ≡ Some c.in_ok-line.line.now = sym c.line_at.ensures ∙ ap option_copied c.in_ok-line.was in
    (c.requires.can c.args.stand.place c.in_ok-line.line.now c.in-Copied.mid at c.in-Copied.is).0

pub returns-in-Copied : goal.returns-in-Copied
returns-in-Copied c =
    let at : version_at (versions_of c.args.side c.args.pair.now) c.args.number c.args.stand.place ≡ Some c.in_ok-line.line.now = sym c.line_at.ensures ∙ ap option_copied c.in_ok-line.was in
    copied_by c.args.side c.args.pair.now c.args.number c.args.registers.now c.args.stand c.go_on.new.registers c.in_ok-line.line.now c.in-Copied.mid at c.in-Copied.is
    (c.requires.can c.args.stand.place c.in_ok-line.line.now c.in-Copied.mid at c.in-Copied.is).1 c.requires.small c.go_on.result c.go_on.ensures
