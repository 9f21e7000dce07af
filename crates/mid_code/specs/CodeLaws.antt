-- Laws by which a reader can trust the classes and versions of a program.
use Rattle.std.specs.Prelude.{◌≡◌, ◌≢◌, ℕ, zero, suc, ◌+◌, ◌<◌, ◌≤◌, List, length, Option, Some, None, slice_get, option_and_then}
use Rattle.srmt_base.specs.declared.word.Site.{Site}
use Rattle.mid_code.specs.declared.class.Class.{Class}
use Rattle.mid_code.specs.declared.class.Class.TheVariants.{Repeatable, NonRepeatable, FailStop}
use Rattle.mid_code.specs.declared.mid.Mid.{Mid}
use Rattle.mid_code.specs.declared.program.MidLine.{MidLine}
use Rattle.mid_code.specs.declared.program.MidFunction.{MidFunction}
use Rattle.mid_code.specs.Classes.{SharedProgram, site_of, classes_of, instruction_sites, all_sites, wrapper_site}
use Rattle.mid_code.specs.Versions.{Table, with_line, size_of, place_in, group_of, version_of}

-- a place of a function's version, and where it stands: it is the k-th, from 0, of the group of the instruction at a place
pub record StandsIn (table : Table) (cs : List Class) (f : MidFunction) (i : ℕ) : Type 0 where
  pub place : ℕ
  pub class : Class
  pub line : MidLine
  pub k : ℕ
  pub at_class : slice_get cs place ≡ Some class
  pub at : slice_get f.code place ≡ Some line
  pub within : k < size_of table class line.mid
  pub is : i ≡ place_in table cs f.code place + k
  pub instruction : slice_get (version_of table cs f).code i
      ≡ slice_get (with_line line.line (group_of table (place_in table cs f.code) place class line.mid)) k

-- each place of a version stands in one group alone, and a group has from 1 to 20 instructions
pub record HasGroups (table : Table) : Type 0 where
  pub some : (class : Class) (mid : Mid) → 1 ≤ size_of table class mid
  pub few : (class : Class) (mid : Mid) → size_of table class mid ≤ 20
  pub sized : (moved : ℕ → ℕ) (place : ℕ) (class : Class) (mid : Mid) → length (group_of table moved place class mid) ≡ size_of table class mid
  pub stands : (cs : List Class) (f : MidFunction) (i : ℕ) → length cs ≡ length f.code → i < length (version_of table cs f).code
      → StandsIn table cs f i
  pub alone : (cs : List Class) (f : MidFunction) (i : ℕ) (first second : StandsIn table cs f i) → (first.place ≡ second.place) × (first.k ≡ second.k)

-- the site of the instruction at a place of a function, if it has one
abbrev pub site_with : Class → Option Site
site_with Repeatable = None
site_with (NonRepeatable site) = Some site
site_with (FailStop site) = Some site

abbrev pub site_in : List (List Class) → ℕ → ℕ → Option Site
site_in rows index place = option_and_then site_with (option_and_then (λ cs. slice_get cs place) (slice_get rows index))

abbrev pub site_at : SharedProgram → ℕ → ℕ → Option Site
site_at p zero place = None
site_at p (suc before) place = site_in (classes_of p) before place

-- each site is that of one instruction, or of one wrapper. The instructions come first, from 1
pub record HasOneOfEach (p : SharedProgram) : Type 0 where
  pub alone : (function place other further site : ℕ) → site_at p function place ≡ Some (site_of site)
      → site_at p other further ≡ Some (site_of site) → (function ≡ other) × (place ≡ further)
  pub first : (function place site : ℕ) → site_at p function place ≡ Some (site_of site) → (1 ≤ site) × (site ≤ instruction_sites p)
  pub wrapped : (function : ℕ) → 1 ≤ function → function ≤ p.program.main_functions → function ≢ p.program.main
      → (instruction_sites p < wrapper_site p function) × (wrapper_site p function ≤ all_sites p)
  pub wrapped_alone : (function other : ℕ) → 1 ≤ function → 1 ≤ other → function ≢ p.program.main → other ≢ p.program.main
      → wrapper_site p function ≡ wrapper_site p other → function ≡ other
