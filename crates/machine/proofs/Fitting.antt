-- A side that fits stands at an instruction that fits, and fits after it.
use Rattle.std.proofs.Common.{◌≡◌, ℕ, ◌+◌, List, [], length, Option, Some, refl, sym, ap, ◌∙◌, subst, arith}
use Rattle.std.proofs.lemmas.List.Elements.{All-nil}
use Rattle.srmt_base.specs.declared.limits.Limits.{Limits}
use Rattle.srmt_base.specs.declared.side.Side.{Side}
use Rattle.srmt_base.specs.declared.side.Side.TheVariants.{Lead, Trail}
use Rattle.mid_code.specs.declared.mid.Mid.{Mid}
use Rattle.mid_code.specs.declared.program.RegisterKind.{RegisterKind}
use Rattle.mid_code.specs.declared.program.MidFunction.{MidFunction}
use Rattle.mid_code.specs.declared.program.MidProgram.{MidProgram}
use Rattle.mid_code.specs.declared.version.VersionOp.{VersionOp}
use Rattle.mid_code.specs.declared.version.VersionOp.TheVariants.{Copied, Ask, Await, Act, Check, Ack, End}
use Rattle.mid_code.specs.Program.{function_at}
use Rattle.mid_code.specs.Classes.{SharedProgram}
use Rattle.mid_code.specs.Fits.{IsValue}
use Rattle.mid_code.specs.Machine.{Does, Goes, Traps, local_of, with_local, act}
use Rattle.mid_code.specs.Pairs.{HasSites}
use Rattle.mid_code.specs.Versions.{version_at}
use Rattle.mid_code.proofs.Naming.{function_kept}
use Rattle.mid_code.proofs.StartFits.{with_main}
use Rattle.mid_code.proofs.Values.{first_registers, one_within}
use Rattle.mid_code.proofs.VersionGroups.{some_size, class_at}
use Rattle.world.specs.Standing.{Standing, started_own}
use Rattle.world.specs.Requests.{Runs, wants_alone}
use Rattle.world.proofs.Plain.{is_main, is_protected}
use Rattle.machine.specs.Side.{SideState, opening}
use Rattle.machine.specs.Steps.{versions_of, wanted}
use Rattle.machine.specs.Fits.{HeardFits, SideFits, HoldsSmall}
use Rattle.machine.proofs.FirstForm.{GoesOn, GoesAlone, CopiedFits, table_of, table_sized, IsLast, OpFits}
use Rattle.machine.proofs.Placed.{Placed, placed, there}

-- no acknowledgement is kept at the start of an instruction
heard_none : (side : Side) (kinds : List RegisterKind) (op : VersionOp) → OpFits side kinds op → HeardFits op []
heard_none side kinds (Copied mid) fits = refl
heard_none Lead kinds (Ask site args) fits = refl
heard_none Lead kinds (Await site args) fits = omega (arith, fits.some)
heard_none Lead kinds (Act site request target function args) fits = refl
heard_none Trail kinds (Check site source) fits = refl
heard_none Trail kinds (Ack site args) fits = refl
heard_none Trail kinds (End source) fits = refl
heard_none Lead kinds _ fits = absurd fits
heard_none Trail kinds _ fits = absurd fits

module _ (side : Side) (program : SharedProgram) (s : SideState) (sites : HasSites program) (fits : SideFits side program s) where
  -- its instruction is one of the version
  pub here : Placed side program s.at.machine.top.function s.at.machine.top.place fits.line
  here = placed side program s.at.machine.top.function s.at.machine.top.place fits.line sites fits.at

  same_code : here.code ≡ fits.function
  same_code = let e : Some here.code ≡ Some fits.function = sym here.found ∙ fits.found in cc

  pub op_fits : OpFits side fits.function.kinds fits.line.op
  op_fits = subst (λ (f : MidFunction). OpFits side f.kinds fits.line.op) same_code here.fits

  pub fits_next : (next : Standing) → GoesOn s.at.machine.top next.machine.top → (IsLast fits.line.op → ⊥) → SideFits side program (record { at = next; heard = [] })
  fits_next next goes not_last =
      let n = here.next not_last in
      let after = placed side program s.at.machine.top.function (s.at.machine.top.place + 1) n.0 sites n.1 in
      let at : version_at (versions_of side program) next.machine.top.function next.machine.top.place ≡ Some n.0 =
      ap (λ f. version_at (versions_of side program) f next.machine.top.place) goes.function ∙ ap (version_at (versions_of side program) s.at.machine.top.function) goes.place ∙ n.1 in
      record {
        function = fits.function;
        line = n.0;
        found = ap (function_at program.program) goes.function ∙ fits.found;
        at = at;
        registers = goes.count ∙ fits.registers;
        each = goes.each;
        heard = heard_none side after.code.kinds n.0.op after.fits;
      }

-- a copied instruction that goes on
goes_by : (program : SharedProgram) (s : SideState) (next : Standing) (d : Does) → GoesAlone s.at.machine.top d → wants_alone program d s.at ≡ Runs next → GoesOn s.at.machine.top next.machine.top
goes_by program s next (Goes local) goes h =
    let e : record s.at { machine = with_local program.program local s.at.machine } ≡ next = cc in
    subst (λ (n : Standing). GoesOn s.at.machine.top n.machine.top) e goes
goes_by program s next (Traps trap line) goes h = absurd (cc)
goes_by program s next _ goes h = absurd goes

pub goes_on : (program : SharedProgram) (kinds : List RegisterKind) (mid : Mid) (line : ℕ) (s : SideState) (next : Standing) → CopiedFits kinds mid → length s.at.machine.top.registers ≡ length kinds → HoldsSmall s →
    wanted program mid line s ≡ Runs next → GoesOn s.at.machine.top next.machine.top
goes_on program kinds mid line s next fit count each h =
    let l = local_of program.program s.at.machine in
    goes_by program s next (act program.program mid line l) (fit.goes program.program line l count each) h

-- a side at the start, by the code of `main`
abbrev side_with_main : MidProgram → Limits → Option MidFunction → SideState
side_with_main program limits f = record { at = record { machine = with_main program limits f; own = started_own program limits }; heard = [] }

-- `main` of a pair's program has a first instruction in both versions
pub fits_opening : (side : Side) (program : SharedProgram) (limits : Limits) → HasSites program → SideFits side program (opening program limits)
fits_opening side program limits sites =
    let mid = program.program in
    let main = is_main mid sites.valid in
    let is = is_protected program sites mid.main main.function main.found main.of_main_file in
    let first = one_within main.function.code 0 (omega (arith, (function_kept mid mid.main main.function sites.valid main.found).long)) in
    let l = there side program sites mid.main main.function is.0 is.1 0 first.0 0 first.1 (omega (arith, some_size (table_of side) (class_at program mid.main main.function is.0 0 first.0.mid) first.0.mid (table_sized side))) 0 refl in
    let stands = placed side program mid.main 0 l.0 sites l.1 in
    let registers = first_registers [] (length main.function.kinds) (omega arith) (All-nil IsValue) in
    let fits : SideFits side program (side_with_main mid limits (Some main.function)) = record {
      function = main.function;
      line = l.0;
      found = main.found;
      at = l.1;
      registers = registers.0;
      each = registers.1;
      heard = heard_none side stands.code.kinds l.0.op stands.fits;
    } in
    subst (λ f. SideFits side program (side_with_main mid limits f)) (sym main.found) fits
