use Rattle.std.proofs.Common.{[], ◌∷◌, Some, sym, ap, ◌∙◌, append_assoc}
use Rattle.mid_code.specs.declared.version.VersionOp.TheVariants.{Ack, Take}
use Rattle.mid_code.specs.declared.version.Operands.TheVariants.{Passed}
use Rattle.mid_code.specs.Registers.{registers_list}
use Rattle.mid_code.specs.Versions.{checks}
use Rattle.version_code.specs.Lines.{Gathered, gained}
use Rattle.version_code.proofs.MoreLines.{gained-twice}
use Rattle.gen_trailing.proofs.exchange.add_call.Goals as goal

pub returns : goal.returns
returns c =
    let before = c.args.lines.now in
    let line = c.args.line in
    let site = c.args.site in
    let compared = checks site (registers_list c.args.args.now) in
    let echo = Ack site (Passed c.args.args.now) in
    let result = Take site (Some c.args.target) in
    c.add.ensures
    ∙ ap (λ (g : Gathered). gained g line (c.ack-echo.result ∷ c.take.result ∷ [])) c.add_checks.ensures.lines
    ∙ ap (λ a. gained (gained before line compared) line (a ∷ c.take.result ∷ [])) c.ack-echo.ensures
    ∙ ap (λ t. gained (gained before line compared) line (echo ∷ t ∷ [])) c.take.ensures
    ∙ gained-twice before line compared (echo ∷ result ∷ [])
    ∙ ap (gained before line) (sym (append_assoc compared (echo ∷ []) (result ∷ [])))
