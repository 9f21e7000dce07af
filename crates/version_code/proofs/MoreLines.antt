-- Instructions gathered in two steps are gathered in one.
use Rattle.std.proofs.Common.{◌≡◌, ℕ, ◌-◌, List, [], ◌∷◌, ◌++◌, length, refl, sym, ap, ◌∙◌, arith, append_assoc, length-append}
use Rattle.mid_code.specs.declared.version.VersionOp.{VersionOp}
use Rattle.mid_code.specs.declared.version.VersionLine.{VersionLine}
use Rattle.mid_code.specs.Versions.{with_line}
use Rattle.version_code.specs.Lines.{Gathered, gained}

pub with_line-append : (line : ℕ) (first second : List VersionOp) → with_line line (first ++ second) ≡ with_line line first ++ with_line line second
with_line-append line [] second = refl
with_line-append line (op ∷ ops) second = ap (λ (ls : List VersionLine). record { line = line; op = op } ∷ ls) (with_line-append line ops second)

pub gained-twice : (g : Gathered) (line : ℕ) (first second : List VersionOp) → gained (gained g line first) line second ≡ gained g line (first ++ second)
gained-twice g line first second =
    let code : (g.code ++ with_line line first) ++ with_line line second ≡ g.code ++ with_line line (first ++ second) =
    append_assoc g.code (with_line line first) (with_line line second) ∙ ap (λ ls. g.code ++ ls) (sym (with_line-append line first second)) in
    let room : g.room - length first - length second ≡ g.room - length (first ++ second) = omega (arith, length-append first second) in
    λ i. record { code = code i; room = room i }
