-- Where an instruction of a version stands: it fits, and another follows it, unless it is the last.
use Rattle.std.proofs.Common.{◌≡◌, ℕ, zero, suc, ◌+◌, ◌-◌, ◌<◌, ◌^◌, Bool, true, false, List, [], ◌∷◌, length, Option, Some, None, refl, sym, ap, ◌∙◌, subst, arith, inl, inr}
use Rattle.std.specs.Prelude.{slice_get, option_and_then}
use Rattle.std.proofs.lemmas.Bool.{cases_lt}
use Rattle.std.proofs.lemmas.Option.{slice_get_within}
use Rattle.srmt_base.specs.declared.side.Side.{Side}
use Rattle.srmt_base.specs.declared.side.Side.TheVariants.{Lead, Trail}
use Rattle.mid_code.specs.declared.class.Class.{Class}
use Rattle.mid_code.specs.declared.class.Shared.{Shared}
use Rattle.mid_code.specs.declared.program.MidLine.{MidLine}
use Rattle.mid_code.specs.declared.program.MidFunction.{MidFunction}
use Rattle.mid_code.specs.declared.version.VersionOp.{VersionOp}
use Rattle.mid_code.specs.declared.version.VersionLine.{VersionLine}
use Rattle.mid_code.specs.declared.version.Version.{Version}
use Rattle.mid_code.specs.Program.{function_at}
use Rattle.mid_code.specs.Ways.{is_final}
use Rattle.mid_code.specs.Classes.{SharedProgram, Sharing, sharings, sites_of, classes_from, protected_functions}
use Rattle.mid_code.specs.Pairs.{HasSites}
use Rattle.mid_code.specs.Versions.{Table, size_of, place_in, group_of, version_of, versions_from, versions_of as table_versions, version_at}
use Rattle.mid_code.specs.CodeLaws.{StandsIn}
use Rattle.mid_code.proofs.Flowing.{followed}
use Rattle.mid_code.proofs.Keeping.{keeps}
use Rattle.mid_code.proofs.Naming.{function_kept}
use Rattle.mid_code.proofs.Values.{one_within}
use Rattle.mid_code.proofs.VersionGroups.{get-with_line, length-lines_at, length-group_of, lines_at, place_in-next, place_in-few, length-groups_from, stands_in, some_size, IsProtected, classes_in, class_at, class_at-found, version_place, version_of-found, fetch}
use Rattle.world.proofs.Plain.{protected_found, is_protected}
use Rattle.machine.specs.Steps.{versions_of}
use Rattle.machine.proofs.FirstForm.{line_fits, table_of, table_sized, IsLast, OpFits, each_at, group_fits}

pub versions_so : (side : Side) (program : SharedProgram) → versions_of side program ≡ table_versions (table_of side) program
versions_so Lead program = refl
versions_so Trail program = refl

-- as many classes as instructions
length-sharings : (mains : ℕ) (shared : Shared) (place : ℕ) (code : List MidLine) → length (sharings mains shared place code) ≡ length code
length-sharings mains shared place [] = refl
length-sharings mains shared place (l ∷ ls) = ap suc (length-sharings mains shared (place + 1) ls)

length-classes : (site : ℕ) (ss : List Sharing) → length (classes_from site ss) ≡ length ss
length-classes site [] = refl
length-classes site (s ∷ ss) = ap suc (length-classes (site + sites_of s) ss)

-- a version is one of a function
version_has : (table : Table) (rows : List (List Class)) (fs : List MidFunction) (index : ℕ) (v : Version) → slice_get (versions_from table rows fs) index ≡ Some v → (f : MidFunction) × (slice_get fs index ≡ Some f)
version_has table [] fs index v at = absurd (cc)
version_has table (cs ∷ rest) [] index v at = absurd (cc)
version_has table (cs ∷ rest) (f ∷ fs) zero v at = (f, refl)
version_has table (cs ∷ rest) (f ∷ fs) (suc index) v at = version_has table rest fs index v at

-- the next instruction of a side's version, and an instruction at a place of it
abbrev pub HasNext : Side → SharedProgram → ℕ → ℕ → Type 0
HasNext side program function place = (next : VersionLine) × (version_at (versions_of side program) function (place + 1) ≡ Some next)

pub record Placed (side : Side) (program : SharedProgram) (function place : ℕ) (l : VersionLine) : Type 0 where
  pub code : MidFunction
  pub found : function_at program.program function ≡ Some code
  pub fits : OpFits side code.kinds l.op
  pub small : place < 2 ^ 21
  pub next : (IsLast l.op → ⊥) → HasNext side program function place

module _ (side : Side) (program : SharedProgram) (sites : HasSites program) (function : ℕ) (f : MidFunction) (s : Shared) (is : IsProtected program function f s) where
  abbrev table : Table
  table = table_of side

  abbrev cs : List Class
  cs = classes_in program function f s

  as_many : length cs ≡ length f.code
  as_many = length-classes _ _ ∙ length-sharings _ s 0 f.code

  -- an instruction of the group that stands for the one at a place
  pub there : (place : ℕ) (x : MidLine) (k : ℕ) → slice_get f.code place ≡ Some x → k < size_of table (class_at program function f s place x.mid) x.mid → (i : ℕ) → i ≡ version_place table program function f s place + k →
      (l : VersionLine) × (version_at (versions_of side program) function i ≡ Some l)
  there place x k at within i e =
      let lines = lines_at table (version_place table program function f s) place (class_at program function f s place x.mid) x in
      let one = one_within lines k (omega (arith, within, length-lines_at table (version_place table program function f s) place (class_at program function f s place x.mid) x (table_sized side))) in
      (one.0, ap (λ vs. version_at vs function i) (versions_so side program) ∙ ap (version_at (table_versions table program) function) e ∙ fetch table program function f s place x k (table_sized side) is at within ∙ one.1)

  module _ (place : ℕ) (l : VersionLine) (at : slice_get (version_of table cs f).code place ≡ Some l) where
    stood : StandsIn table cs f place
    stood = stands_in table cs f place (table_sized side) as_many (slice_get_within (version_of table cs f).code place l at)

    same_class : stood.class ≡ class_at program function f s stood.place stood.line.mid
    same_class = let both : Some stood.class ≡ Some (class_at program function f s stood.place stood.line.mid) = sym stood.at_class ∙ class_at-found program function f s stood.place stood.line stood.at in cc

    within : stood.k < size_of table (class_at program function f s stood.place stood.line.mid) stood.line.mid
    within = subst (λ c. stood.k < size_of table c stood.line.mid) same_class stood.within

    abbrev group : List VersionOp
    group = group_of table (place_in table cs f.code) stood.place (class_at program function f s stood.place stood.line.mid) stood.line.mid

    op_there : slice_get group stood.k ≡ Some l.op
    op_there =
        get-with_line stood.line.line group stood.k l
        (sym (ap (λ c. slice_get (lines_at table (place_in table cs f.code) stood.place c stood.line) stood.k) same_class) ∙ sym stood.instruction ∙ at)

    fit : OpFits side f.kinds l.op
    fit =
        each_at (OpFits side f.kinds) group stood.k l.op
        (group_fits program.program.main_functions _ stood.place s (place_in table cs f.code) side f.kinds stood.line.mid (line_fits program function f stood.place stood.line sites is.found is.protected stood.at)).each op_there

    last_of_group : suc stood.k ≡ size_of table (class_at program function f s stood.place stood.line.mid) stood.line.mid → is_final stood.line.mid ≡ true → IsLast l.op
    last_of_group e final =
        let long : length group - 1 ≡ stood.k = omega (arith, length-group_of table (place_in table cs f.code) stood.place (class_at program function f s stood.place stood.line.mid) stood.line.mid (table_sized side), e) in
        (group_fits program.program.main_functions _ stood.place s (place_in table cs f.code) side f.kinds stood.line.mid (line_fits program function f stood.place stood.line sites is.found is.protected stood.at)).last final l.op (ap (slice_get group) long ∙ op_there)

    behind : suc stood.k ≡ size_of table (class_at program function f s stood.place stood.line.mid) stood.line.mid → is_final stood.line.mid ≡ false → HasNext side program function place
    behind e more =
        let here = slice_get_within f.code stood.place stood.line stood.at in
        let next = one_within f.code (stood.place + 1) (followed program.program function f stood.place stood.line.mid (keeps program.program function stood.place f stood.line sites.valid is.found stood.at) more here) in
        let begins = place_in-next table cs f.code stood.place (class_at program function f s stood.place stood.line.mid) stood.line (class_at-found program function f s stood.place stood.line stood.at) stood.at in
        there (stood.place + 1) next.0 0 next.1 (omega (arith, some_size table (class_at program function f s (stood.place + 1) next.0.mid) next.0.mid (table_sized side))) (place + 1) (omega (arith, begins, stood.is, e))

    next_by : (final : Bool) → is_final stood.line.mid ≡ final → (IsLast l.op → ⊥) → HasNext side program function place
    next_by final final_is not_last =
        elim (cases_lt (suc stood.k) (size_of table (class_at program function f s stood.place stood.line.mid) stood.line.mid)) as (λ _. HasNext side program function place) [
          | inl inside ↦ there stood.place stood.line (suc stood.k) stood.at inside (place + 1) (omega (arith, stood.is))
          | inr outside ↦ at_end (omega (arith, outside, within)) final final_is not_last
        ]
      where
        at_end : suc stood.k ≡ size_of table (class_at program function f s stood.place stood.line.mid) stood.line.mid → (final : Bool) → is_final stood.line.mid ≡ final → (IsLast l.op → ⊥) → HasNext side program function place
        at_end e true is not_last = absurd (not_last (last_of_group e is))
        at_end e false is not_last = behind e is

    near : place < 2 ^ 21
    near =
        let long = length-groups_from table (place_in table cs f.code) 0 cs f.code (table_sized side) as_many in
        omega (arith, slice_get_within (version_of table cs f).code place l at, long, place_in-few table cs f.code (length f.code) (table_sized side), (function_kept program.program function f sites.valid is.found).limit)

    pub placed_there : Placed side program function place l
    placed_there = record { code = f; found = is.found; fits = fit; small = near; next = next_by (is_final stood.line.mid) refl }

placed_in : (side : Side) (program : SharedProgram) (before place : ℕ) (l : VersionLine) (o : Option Version) → HasSites program → slice_get (versions_of side program) before ≡ o → option_and_then (λ v. slice_get v.code place) o ≡ Some l → Placed side program (suc before) place l
placed_in side program before place l None sites at there = absurd (cc)
placed_in side program before place l (Some v) sites at there =
    let known : slice_get (table_versions (table_of side) program) before ≡ Some v = ap (λ vs. slice_get vs before) (sym (versions_so side program)) ∙ at in
    let has = version_has (table_of side) _ (protected_functions program.program) before v known in
    let found = protected_found program.program before has.0 has.1 in
    let is = is_protected program sites (suc before) has.0 found.0 found.1 in
    let less : suc before - 1 ≡ before = omega arith in
    let same : v ≡ version_of (table_of side) (classes_in program (suc before) has.0 is.0) has.0 =
    let both : Some v ≡ Some (version_of (table_of side) (classes_in program (suc before) has.0 is.0) has.0) =
    sym known ∙ ap (slice_get (table_versions (table_of side) program)) (sym less) ∙ version_of-found (table_of side) program (suc before) has.0 is.0 is.1 in cc in
    placed_there side program sites (suc before) has.0 is.0 is.1 place l (ap (λ w. slice_get w.code place) (sym same) ∙ there)

pub placed : (side : Side) (program : SharedProgram) (function place : ℕ) (l : VersionLine) → HasSites program → version_at (versions_of side program) function place ≡ Some l → Placed side program function place l
placed side program zero place l sites at = absurd (cc)
placed side program (suc before) place l sites at = placed_in side program before place l (slice_get (versions_of side program) before) sites refl at
