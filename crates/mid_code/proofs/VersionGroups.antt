-- Each instruction of a version stands in the group of one middle instruction, and a group has a size from 1 to 20.
use Rattle.std.proofs.Common.{lit≤, ◌≡◌, ℕ, zero, suc, ◌+◌, ◌-◌, ◌*◌, ◌<◌, ◌≤◌, List, [], ◌∷◌, ◌++◌, length, take, Some, refl, sym, ap, ◌∙◌, arith, inl, inr, length-append}
use Rattle.std.specs.Prelude.{slice_get, sum_by, option_and_then}
use Rattle.std.proofs.lemmas.Bool.{cases_lt}
use Rattle.std.proofs.lemmas.List.Sums.{sum_by-cons}
use Rattle.srmt_base.specs.declared.word.Site.{Site}
use Rattle.mid_code.specs.declared.class.Class.{Class}
use Rattle.mid_code.specs.declared.class.Class.TheVariants.{Repeatable, NonRepeatable, FailStop}
use Rattle.mid_code.specs.declared.class.Shared.{Shared}
use Rattle.mid_code.specs.declared.mid.Mid.{Mid}
use Rattle.mid_code.specs.declared.mid.Mid.TheVariants.{Call, CallPtr}
use Rattle.mid_code.specs.declared.program.MidLine.{MidLine}
use Rattle.mid_code.specs.declared.program.MidFunction.{MidFunction}
use Rattle.mid_code.specs.declared.registers.Registers.{Registers}
use Rattle.mid_code.specs.declared.version.VersionOp.{VersionOp}
use Rattle.mid_code.specs.declared.version.VersionOp.TheVariants.{Ack, Take}
use Rattle.mid_code.specs.declared.version.VersionLine.{VersionLine}
use Rattle.mid_code.specs.declared.version.Operands.TheVariants.{Passed, Called}
use Rattle.mid_code.specs.Program.{function_at}
use Rattle.mid_code.specs.Registers.{registers_list}
use Rattle.mid_code.specs.Classes.{Sharing, sharing_of, sharings, sharings_of, all_sharings, sites_of, site_count, class_of, classes_from, all_classes_from, classes_of, SharedProgram, protected_functions}
use Rattle.mid_code.specs.Versions.{Table, leading, trailing, leading_exchange, leading_exchange_size, trailing_exchange, trailing_exchange_size, checks, check_count, with_line, size_of, place_in, group_of, groups_from, version_of, versions_from, versions_of, version_at}
use Rattle.mid_code.specs.CodeLaws.{StandsIn, HasGroups}
use Rattle.mid_code.proofs.RegistersLemmas.{length-registers_list}

-- an element of what stands in front, and one behind it
pub get_front : {X : Type 0} (xs ys : List X) (k : ℕ) → k < length xs → slice_get (xs ++ ys) k ≡ slice_get xs k
get_front [] ys k within = absurd (omega arith)
get_front (x ∷ xs) ys zero within = refl
get_front (x ∷ xs) ys (suc k) within = get_front xs ys k (omega arith)

pub get_behind : {X : Type 0} (xs ys : List X) (k : ℕ) → slice_get (xs ++ ys) (length xs + k) ≡ slice_get ys k
get_behind [] ys k = let e : zero + k ≡ k = omega arith in ap (slice_get ys) e
get_behind (x ∷ xs) ys k =
    let e : suc (length xs) + k ≡ suc (length xs + k) = omega arith in
    ap (slice_get (x ∷ xs ++ ys)) e ∙ get_behind xs ys k

-- a table whose sizes are those of its groups
pub record IsSized (table : Table) : Type 0 where
  pub exact : (behind : ℕ) (site : Site) (mid : Mid) → length (table.group behind site mid) ≡ table.size mid
  pub some : (mid : Mid) → 1 ≤ table.size mid
  pub few : (mid : Mid) → table.size mid ≤ 20

-- how many checks there are
pub length-checks : (site : Site) (rs : List ℕ) → length (checks site rs) ≡ check_count rs
length-checks site [] = refl
length-checks site (r ∷ []) = refl
length-checks site (r ∷ s ∷ rs) = ap suc (length-checks site (s ∷ rs))

some_checks : (rs : List ℕ) → (1 ≤ check_count rs) × (check_count rs ≤ suc (length rs))
some_checks [] = (lit≤ tt, lit≤ tt)
some_checks (r ∷ rs) = (omega arith, omega arith)

few_args : (args : Registers) → length (registers_list args) ≤ 16
few_args args = omega (arith, length-registers_list args, args.within)

leading_exact : (behind : ℕ) (site : Site) (mid : Mid) → length (leading_exchange behind site mid) ≡ leading_exchange_size mid
leading_exact behind site (CallPtr target callee ty args) = refl
leading_exact behind site _ = refl

leading_some : (mid : Mid) → 1 ≤ leading_exchange_size mid
leading_some (CallPtr target callee ty args) = lit≤ tt
leading_some _ = lit≤ tt

leading_few : (mid : Mid) → leading_exchange_size mid ≤ 20
leading_few (CallPtr target callee ty args) = lit≤ tt
leading_few _ = lit≤ tt

pub leading_sized : IsSized leading
leading_sized = record { exact = leading_exact; some = leading_some; few = leading_few }

answered : (target : ℕ) (site : Site) (rs : List ℕ) (ack take : VersionOp) → length ((checks site rs ++ ack ∷ []) ++ take ∷ []) ≡ check_count rs + 2
answered target site rs ack take =
    omega (arith, length-append (checks site rs ++ ack ∷ []) (take ∷ []), length-append (checks site rs) (ack ∷ []), length-checks site rs)

trailing_exact : (behind : ℕ) (site : Site) (mid : Mid) → length (trailing_exchange behind site mid) ≡ trailing_exchange_size mid
trailing_exact behind site (Call target function args) = answered target site (registers_list args) (Ack site (Passed args)) (Take site (Some target))
trailing_exact behind site (CallPtr target callee ty args) =
    let rest = answered target site (callee ∷ registers_list args) (Ack site (Called callee args)) (Take site (Some target)) in
    omega (arith, rest)
trailing_exact behind site _ = refl

trailing_some : (mid : Mid) → 1 ≤ trailing_exchange_size mid
trailing_some (Call target function args) = omega arith
trailing_some (CallPtr target callee ty args) = omega arith
trailing_some _ = lit≤ tt

trailing_few : (mid : Mid) → trailing_exchange_size mid ≤ 20
trailing_few (Call target function args) = omega (arith, (some_checks (registers_list args)).1, few_args args)
trailing_few (CallPtr target callee ty args) = omega (arith, few_args args)
trailing_few _ = lit≤ tt

pub trailing_sized : IsSized trailing
trailing_sized = record { exact = trailing_exact; some = trailing_some; few = trailing_few }

pub some_size : (table : Table) (c : Class) (mid : Mid) → IsSized table → 1 ≤ size_of table c mid
some_size table Repeatable mid sized = lit≤ tt
some_size table (NonRepeatable site) mid sized = sized.some mid
some_size table (FailStop site) mid sized = sized.some mid

pub few_size : (table : Table) (c : Class) (mid : Mid) → IsSized table → size_of table c mid ≤ 20
few_size table Repeatable mid sized = lit≤ tt
few_size table (NonRepeatable site) mid sized = sized.few mid
few_size table (FailStop site) mid sized = sized.few mid

-- the instructions of a group, without their line
pub length-with_line : (line : ℕ) (ops : List VersionOp) → length (with_line line ops) ≡ length ops
length-with_line line [] = refl
length-with_line line (op ∷ ops) = ap suc (length-with_line line ops)

pub get-with_line : (line : ℕ) (ops : List VersionOp) (k : ℕ) (l : VersionLine) → slice_get (with_line line ops) k ≡ Some l → slice_get ops k ≡ Some l.op
get-with_line line [] k l at = absurd (cc)
get-with_line line (op ∷ ops) zero l at = let same : record { line = line; op = op } ≡ l = cc in ap (λ x. Some x.op) same
get-with_line line (op ∷ ops) (suc k) l at = get-with_line line ops k l at

pub length-group_of : (table : Table) (moved : ℕ → ℕ) (place : ℕ) (c : Class) (mid : Mid) → IsSized table → length (group_of table moved place c mid) ≡ size_of table c mid
length-group_of table moved place Repeatable mid sized = refl
length-group_of table moved place (NonRepeatable site) mid sized = sized.exact (moved (place + 1)) site mid
length-group_of table moved place (FailStop site) mid sized = sized.exact (moved (place + 1)) site mid

-- the group of the instruction at a place, with its line
abbrev pub lines_at : Table → (ℕ → ℕ) → ℕ → Class → MidLine → List VersionLine
lines_at table moved place c l = with_line l.line (group_of table moved place c l.mid)

pub length-lines_at : (table : Table) (moved : ℕ → ℕ) (place : ℕ) (c : Class) (l : MidLine) → IsSized table → length (lines_at table moved place c l) ≡ size_of table c l.mid
length-lines_at table moved place c l sized = length-with_line l.line (group_of table moved place c l.mid) ∙ length-group_of table moved place c l.mid sized

none_more : (n : ℕ) → 0 + n ≡ n
none_more n = omega arith

one_less : (n : ℕ) → suc n - 1 ≡ n
one_less n = omega arith

-- an instruction of a version is found from the place at which its group begins
pub fetch_from : (table : Table) (moved : ℕ → ℕ) (from : ℕ) (cs : List Class) (code : List MidLine) (place : ℕ) (c : Class) (l : MidLine) (k : ℕ) → IsSized table →
    slice_get cs place ≡ Some c → slice_get code place ≡ Some l → k < size_of table c l.mid →
    slice_get (groups_from table moved from cs code) (place_in table cs code place + k) ≡ slice_get (lines_at table moved (from + place) c l) k
fetch_from table moved from [] code place c l k sized at_class at within = absurd (cc)
fetch_from table moved from (d ∷ cs) [] place c l k sized at_class at within = absurd (cc)
fetch_from table moved from (d ∷ cs) (x ∷ xs) zero c l k sized at_class at within =
    let same : x ≡ l = cc in
    let same_class : d ≡ c = cc in
    let none : zero + k ≡ k = omega arith in
    let here : from ≡ from + 0 = omega arith in
    let within' : k < length (lines_at table moved from d x) = rw (length-lines_at table moved from d x sized) (rw same (rw same_class within)) in
    ap (slice_get (groups_from table moved from (d ∷ cs) (x ∷ xs))) none ∙ get_front (lines_at table moved from d x) (groups_from table moved (from + 1) cs xs) k within'
    ∙ ap (λ y. slice_get (lines_at table moved from d y) k) same ∙ ap (λ e. slice_get (lines_at table moved from e l) k) same_class ∙ ap (λ n. slice_get (lines_at table moved n c l) k) here
fetch_from table moved from (d ∷ cs) (x ∷ xs) (suc p) c l k sized at_class at within =
    let front = lines_at table moved from d x in
    let rest = groups_from table moved (from + 1) cs xs in
    let long : size_of table d x.mid + place_in table cs xs p + k ≡ length front + (place_in table cs xs p + k) = omega (arith, length-lines_at table moved from d x sized) in
    let order : from + 1 + p ≡ from + suc p = omega arith in
    ap (slice_get (front ++ rest)) long ∙ get_behind front rest (place_in table cs xs p + k)
    ∙ fetch_from table moved (from + 1) cs xs p c l k sized at_class at within ∙ ap (λ n. slice_get (lines_at table moved n c l) k) order

-- the next group begins where this one ends
pub place_in-next : (table : Table) (cs : List Class) (code : List MidLine) (place : ℕ) (c : Class) (l : MidLine) → slice_get cs place ≡ Some c → slice_get code place ≡ Some l →
    place_in table cs code (place + 1) ≡ place_in table cs code place + size_of table c l.mid
place_in-next table [] code place c l at_class at = absurd (cc)
place_in-next table (d ∷ cs) [] place c l at_class at = absurd (cc)
place_in-next table (d ∷ cs) (x ∷ xs) zero c l at_class at =
    let same : x ≡ l = cc in
    let same_class : d ≡ c = cc in
    let one : zero + 1 ≡ suc zero = omega arith in
    ap (place_in table (d ∷ cs) (x ∷ xs)) one ∙ omega (arith, ap (λ e. size_of table e x.mid) same_class, ap (λ (y : MidLine). size_of table c y.mid) same)
place_in-next table (d ∷ cs) (x ∷ xs) (suc p) c l at_class at =
    let next : suc p + 1 ≡ suc (p + 1) = omega arith in
    ap (place_in table (d ∷ cs) (x ∷ xs)) next ∙ omega (arith, place_in-next table cs xs p c l at_class at)

-- a version is as long as the sizes of all groups
pub length-groups_from : (table : Table) (moved : ℕ → ℕ) (from : ℕ) (cs : List Class) (code : List MidLine) → IsSized table → length cs ≡ length code →
    length (groups_from table moved from cs code) ≡ place_in table cs code (length code)
length-groups_from table moved from [] [] sized same = refl
length-groups_from table moved from [] (x ∷ xs) sized same = absurd (omega (arith, same))
length-groups_from table moved from (d ∷ cs) [] sized same = absurd (omega (arith, same))
length-groups_from table moved from (d ∷ cs) (x ∷ xs) sized same =
    omega (arith, length-append (lines_at table moved from d x) (groups_from table moved (from + 1) cs xs), length-lines_at table moved from d x sized, length-groups_from table moved (from + 1) cs xs sized (omega (arith, same)))

-- no version is long
pub place_in-few : (table : Table) (cs : List Class) (code : List MidLine) (place : ℕ) → IsSized table → place_in table cs code place ≤ 20 * place
place_in-few table cs code zero sized = omega arith
place_in-few table [] code (suc p) sized = omega arith
place_in-few table (d ∷ cs) [] (suc p) sized = omega arith
place_in-few table (d ∷ cs) (x ∷ xs) (suc p) sized = omega (arith, few_size table d x.mid sized, place_in-few table cs xs p sized)

-- each place of a version stands in a group
record Found (table : Table) (cs : List Class) (code : List MidLine) (i : ℕ) : Type 0 where
  place : ℕ
  class : Class
  line : MidLine
  k : ℕ
  at_class : slice_get cs place ≡ Some class
  at : slice_get code place ≡ Some line
  within : k < size_of table class line.mid
  is : i ≡ place_in table cs code place + k

found_in : (table : Table) (cs : List Class) (code : List MidLine) (i : ℕ) → length cs ≡ length code → i < place_in table cs code (length code) → Found table cs code i
found_in table [] [] i same below = absurd (omega (arith, below))
found_in table [] (x ∷ xs) i same below = absurd (omega (arith, same))
found_in table (d ∷ cs) [] i same below = absurd (omega (arith, same))
found_in table (d ∷ cs) (x ∷ xs) i same below =
    elim (cases_lt i (size_of table d x.mid)) as (λ _. Found table (d ∷ cs) (x ∷ xs) i) [
      | inl here ↦ record { place = 0; class = d; line = x; k = i; at_class = refl; at = refl; within = here; is = omega arith }
      | inr past ↦
          let further = found_in table cs xs (i - size_of table d x.mid) (omega (arith, same)) (omega (arith, below)) in
          record {
            place = suc further.place;
            class = further.class;
            line = further.line;
            k = further.k;
            at_class = further.at_class;
            at = further.at;
            within = further.within;
            is = omega (arith, further.is);
          }
    ]

pub stands_in : (table : Table) (cs : List Class) (f : MidFunction) (i : ℕ) → IsSized table → length cs ≡ length f.code → i < length (version_of table cs f).code → StandsIn table cs f i
stands_in table cs f i sized same below =
    let moved = place_in table cs f.code in
    let found = found_in table cs f.code i same (omega (arith, below, length-groups_from table moved 0 cs f.code sized same)) in
    record {
      place = found.place;
      class = found.class;
      line = found.line;
      k = found.k;
      at_class = found.at_class;
      at = found.at;
      within = found.within;
      is = found.is;
      instruction =
          ap (slice_get (groups_from table moved 0 cs f.code)) found.is
          ∙ fetch_from table moved 0 cs f.code found.place found.class found.line found.k sized found.at_class found.at found.within
          ∙ ap (λ n. slice_get (lines_at table moved n found.class found.line) found.k) (none_more found.place);
    }

-- and in one alone
place_in-rises : (table : Table) (cs : List Class) (code : List MidLine) (place further : ℕ) (c : Class) (l : MidLine) → slice_get cs place ≡ Some c → slice_get code place ≡ Some l → place < further →
    place_in table cs code place + size_of table c l.mid ≤ place_in table cs code further
place_in-rises table [] code place further c l at_class at more = absurd (cc)
place_in-rises table (d ∷ cs) [] place further c l at_class at more = absurd (cc)
place_in-rises table (d ∷ cs) (x ∷ xs) place zero c l at_class at more = absurd (omega arith)
place_in-rises table (d ∷ cs) (x ∷ xs) zero (suc q) c l at_class at more =
    let same : x ≡ l = cc in
    let same_class : d ≡ c = cc in
    omega (arith, ap (λ e. size_of table e x.mid) same_class, ap (λ (y : MidLine). size_of table c y.mid) same)
place_in-rises table (d ∷ cs) (x ∷ xs) (suc p) (suc q) c l at_class at more =
    omega (arith, place_in-rises table cs xs p q c l at_class at (omega arith))

pub one_group : (table : Table) (cs : List Class) (f : MidFunction) (i : ℕ) (first second : StandsIn table cs f i) → (first.place ≡ second.place) × (first.k ≡ second.k)
one_group table cs f i first second =
    elim (cases_lt first.place second.place) as (λ _. (first.place ≡ second.place) × (first.k ≡ second.k)) [
      | inl less ↦ absurd (omega (arith, place_in-rises table cs f.code first.place second.place first.class first.line first.at_class first.at less, first.is, second.is, first.within))
      | inr most ↦
          elim (cases_lt second.place first.place) as (λ _. (first.place ≡ second.place) × (first.k ≡ second.k)) [
            | inl less ↦ absurd (omega (arith, place_in-rises table cs f.code second.place first.place second.class second.line second.at_class second.at less, first.is, second.is, second.within))
            | inr least ↦
                let same : first.place ≡ second.place = omega arith in
                (same, omega (arith, first.is, second.is, ap (place_in table cs f.code) same))
          ]
    ]

pub groups : (table : Table) → IsSized table → HasGroups table
groups table sized = record {
  some = λ class mid. some_size table class mid sized;
  few = λ class mid. few_size table class mid sized;
  sized = λ moved place class mid. length-group_of table moved place class mid sized;
  stands = λ cs f i same below. stands_in table cs f i sized same below;
  alone = one_group table;
}

-- the rows of a program by their functions and places
pub sharing_found : (mains : ℕ) (shared : Shared) (from : ℕ) (code : List MidLine) (place : ℕ) (l : MidLine) → slice_get code place ≡ Some l →
    slice_get (sharings mains shared from code) place ≡ Some (sharing_of mains shared (from + place) l.mid)
sharing_found mains shared from [] place l at = absurd (cc)
sharing_found mains shared from (x ∷ xs) zero l at =
    let same : x ≡ l = cc in
    let here : from ≡ from + 0 = omega arith in
    ap (λ (y : MidLine). Some (sharing_of mains shared from y.mid)) same ∙ ap (λ n. Some (sharing_of mains shared n l.mid)) here
sharing_found mains shared from (x ∷ xs) (suc p) l at =
    let order : from + 1 + p ≡ from + suc p = omega arith in
    sharing_found mains shared (from + 1) xs p l at ∙ ap (λ n. Some (sharing_of mains shared n l.mid)) order

pub class_found : (site : ℕ) (ss : List Sharing) (place : ℕ) (s : Sharing) → slice_get ss place ≡ Some s →
    slice_get (classes_from site ss) place ≡ Some (class_of (site + site_count (take place ss)) s)
class_found site [] place s at = absurd (cc)
class_found site (t ∷ ts) zero s at =
    let same : t ≡ s = cc in
    let here : site ≡ site + 0 = omega arith in
    ap (λ u. Some (class_of site u)) same ∙ ap (λ n. Some (class_of n s)) here
class_found site (t ∷ ts) (suc p) s at =
    let order : site + sites_of t + site_count (take p ts) ≡ site + (sites_of t + site_count (take p ts)) = omega arith in
    class_found (site + sites_of t) ts p s at ∙ ap (λ n. Some (class_of n s)) order

pub classes_found : (site : ℕ) (rows : List (List Sharing)) (index : ℕ) (ss : List Sharing) → slice_get rows index ≡ Some ss →
    slice_get (all_classes_from site rows) index ≡ Some (classes_from (site + sum_by site_count (take index rows)) ss)
classes_found site [] index ss at = absurd (cc)
classes_found site (t ∷ ts) zero ss at =
    let same : t ≡ ss = cc in
    let here : site ≡ site + 0 = omega arith in
    ap (λ u. Some (classes_from site u)) same ∙ ap (λ n. Some (classes_from n ss)) here
classes_found site (t ∷ ts) (suc index) ss at =
    let both : sum_by site_count (t ∷ take index ts) ≡ site_count t + sum_by site_count (take index ts) = sum_by-cons site_count t (take index ts) in
    let order : site + site_count t + sum_by site_count (take index ts) ≡ site + sum_by site_count (t ∷ take index ts) = omega (arith, both) in
    classes_found (site + site_count t) ts index ss at ∙ ap (λ n. Some (classes_from n ss)) order

pub sharings_found : (mains : ℕ) (shared : List Shared) (fs : List MidFunction) (index : ℕ) (s : Shared) (f : MidFunction) → slice_get shared index ≡ Some s → slice_get fs index ≡ Some f →
    slice_get (sharings_of mains shared fs) index ≡ Some (sharings mains s 0 f.code)
sharings_found mains [] fs index s f at_shared at = absurd (cc)
sharings_found mains (t ∷ ts) [] index s f at_shared at = absurd (cc)
sharings_found mains (t ∷ ts) (g ∷ gs) zero s f at_shared at =
    let same : g ≡ f = cc in
    let same_shared : t ≡ s = cc in
    ap (λ (h : MidFunction). Some (sharings mains t 0 h.code)) same ∙ ap (λ u. Some (sharings mains u 0 f.code)) same_shared
sharings_found mains (t ∷ ts) (g ∷ gs) (suc index) s f at_shared at = sharings_found mains ts gs index s f at_shared at

pub version_found : (table : Table) (rows : List (List Class)) (fs : List MidFunction) (index : ℕ) (cs : List Class) (f : MidFunction) → slice_get rows index ≡ Some cs → slice_get fs index ≡ Some f →
    slice_get (versions_from table rows fs) index ≡ Some (version_of table cs f)
version_found table [] fs index cs f at_class at = absurd (cc)
version_found table (ds ∷ rest) [] index cs f at_class at = absurd (cc)
version_found table (ds ∷ rest) (g ∷ gs) zero cs f at_class at =
    let same : g ≡ f = cc in
    let same_class : ds ≡ cs = cc in
    ap (λ h. Some (version_of table ds h)) same ∙ ap (λ es. Some (version_of table es f)) same_class
version_found table (ds ∷ rest) (g ∷ gs) (suc index) cs f at_class at = version_found table rest gs index cs f at_class at

pub get_taken : {X : Type 0} (xs : List X) (k n : ℕ) → k < n → slice_get (take n xs) k ≡ slice_get xs k
get_taken xs k zero within = absurd (omega arith)
get_taken [] k (suc n) within = refl
get_taken (x ∷ xs) zero (suc n) within = refl
get_taken (x ∷ xs) (suc k) (suc n) within = get_taken xs k n (omega arith)

-- a function of the main file, with what is shared of it
pub record IsProtected (p : SharedProgram) (function : ℕ) (f : MidFunction) (s : Shared) : Type 0 where
  pub some : 1 ≤ function
  pub protected : function ≤ p.program.main_functions
  pub found : function_at p.program function ≡ Some f
  pub shared : slice_get p.shared (function - 1) ≡ Some s

-- the first site of a function: one past those of the functions before it
abbrev pub first_site : SharedProgram → ℕ → ℕ
first_site p zero = 1
first_site p (suc before) = 1 + sum_by site_count (take before (all_sharings p))

-- how its instructions are shared, and their classes
abbrev pub sharings_in : SharedProgram → MidFunction → Shared → List Sharing
sharings_in p f s = sharings p.program.main_functions s 0 f.code

abbrev pub classes_in : SharedProgram → ℕ → MidFunction → Shared → List Class
classes_in p function f s = classes_from (first_site p function) (sharings_in p f s)

-- the class of the instruction at a place
abbrev pub class_at : SharedProgram → ℕ → MidFunction → Shared → ℕ → Mid → Class
class_at p function f s place mid = class_of (first_site p function + site_count (take place (sharings_in p f s))) (sharing_of p.program.main_functions s place mid)

pub class_at-found : (p : SharedProgram) (function : ℕ) (f : MidFunction) (s : Shared) (place : ℕ) (l : MidLine) → slice_get f.code place ≡ Some l →
    slice_get (classes_in p function f s) place ≡ Some (class_at p function f s place l.mid)
class_at-found p function f s place l at =
    class_found (first_site p function) (sharings_in p f s) place (sharing_of p.program.main_functions s place l.mid)
    (sharing_found p.program.main_functions s 0 f.code place l at ∙ ap (λ n. Some (sharing_of p.program.main_functions s n l.mid)) (none_more place))

-- the place at which a group begins in a function's version
abbrev pub version_place : Table → SharedProgram → ℕ → MidFunction → Shared → ℕ → ℕ
version_place table p function f s = place_in table (classes_in p function f s) f.code

pub sharings_at : (p : SharedProgram) (function : ℕ) (f : MidFunction) (s : Shared) → IsProtected p function f s → slice_get (all_sharings p) (function - 1) ≡ Some (sharings_in p f s)
sharings_at p zero f s is = absurd (omega (arith, is.some))
sharings_at p (suc before) f s is =
    ap (slice_get (all_sharings p)) (one_less before)
    ∙ sharings_found p.program.main_functions p.shared (protected_functions p.program) before s f (sym (ap (slice_get p.shared) (one_less before)) ∙ is.shared) (get_taken p.program.functions before p.program.main_functions (omega (arith, is.protected)) ∙ is.found)

pub version_of-found : (table : Table) (p : SharedProgram) (function : ℕ) (f : MidFunction) (s : Shared) → IsProtected p function f s →
    slice_get (versions_of table p) (function - 1) ≡ Some (version_of table (classes_in p function f s) f)
version_of-found table p zero f s is = absurd (omega (arith, is.some))
version_of-found table p (suc before) f s is =
    let here : slice_get (protected_functions p.program) before ≡ Some f = get_taken p.program.functions before p.program.main_functions (omega (arith, is.protected)) ∙ is.found in
    ap (slice_get (versions_of table p)) (one_less before)
    ∙ version_found table (classes_of p) (protected_functions p.program) before (classes_in p (suc before) f s) f
    (classes_found 1 (all_sharings p) before (sharings_in p f s) (sym (ap (slice_get (all_sharings p)) (one_less before)) ∙ sharings_at p (suc before) f s is)) here

-- the instruction at a place of a version
pub fetch : (table : Table) (p : SharedProgram) (function : ℕ) (f : MidFunction) (s : Shared) (place : ℕ) (l : MidLine) (k : ℕ) → IsSized table → IsProtected p function f s →
    slice_get f.code place ≡ Some l → k < size_of table (class_at p function f s place l.mid) l.mid →
    version_at (versions_of table p) function (version_place table p function f s place + k) ≡ slice_get (lines_at table (version_place table p function f s) place (class_at p function f s place l.mid) l) k
fetch table p zero f s place l k sized is at within = absurd (omega (arith, is.some))
fetch table p (suc before) f s place l k sized is at within =
    ap (option_and_then (λ v. slice_get v.code (version_place table p (suc before) f s place + k))) (sym (ap (slice_get (versions_of table p)) (one_less before)) ∙ version_of-found table p (suc before) f s is)
    ∙ fetch_from table (version_place table p (suc before) f s) 0 (classes_in p (suc before) f s) f.code place (class_at p (suc before) f s place l.mid) l k sized (class_at-found p (suc before) f s place l at) at within
    ∙ ap (λ n. slice_get (lines_at table (version_place table p (suc before) f s) n (class_at p (suc before) f s place l.mid) l) k) (none_more place)
