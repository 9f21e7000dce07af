-- Classes and versions, grown instruction by instruction and function by function.
use Rattle.std.proofs.Common.{◌≡◌, ℕ, ◌+◌, List, [], ◌∷◌, ◌++◌, sym, ap, ap₂, ◌∙◌, arith, append_assoc}
use Rattle.std.specs.Prelude.{sum_by}
use Rattle.mid_code.specs.declared.class.Class.{Class}
use Rattle.mid_code.specs.declared.program.MidFunction.{MidFunction}
use Rattle.mid_code.specs.declared.version.Version.{Version}
use Rattle.mid_code.specs.declared.class.Shared.{Shared}
use Rattle.mid_code.specs.declared.program.MidLine.{MidLine}
use Rattle.mid_code.specs.Classes.{sharing_of, sharings, sharings_of, sites_of, site_count, class_of, classes_from, all_classes_from}
use Rattle.mid_code.specs.Versions.{leading, trailing, with_line, group_of, groups_from, versions_from}
use Rattle.first_form.specs.declared.pairing.FunctionParts.{FunctionParts}

-- the parts of a function so far, with those of the instructions that are left, are all
pub record Grows (mains first : ℕ) (shared : Shared) (code left : List MidLine) (place : ℕ) (parts : FunctionParts) : Type 0 where
  pub classes : classes_from first (sharings mains shared 0 code) ≡ parts.classes.items ++ classes_from parts.next (sharings mains shared place left)
  pub leads : (moved : ℕ → ℕ) → groups_from leading moved 0 (classes_from first (sharings mains shared 0 code)) code
      ≡ parts.leading.items ++ groups_from leading moved place (classes_from parts.next (sharings mains shared place left)) left
  pub trails : (moved : ℕ → ℕ) → groups_from trailing moved 0 (classes_from first (sharings mains shared 0 code)) code
      ≡ parts.trailing.items ++ groups_from trailing moved place (classes_from parts.next (sharings mains shared place left)) left
  pub sites : first + site_count (sharings mains shared 0 code) ≡ parts.next + site_count (sharings mains shared place left)

-- one instruction more
module _ (mains first : ℕ) (shared : Shared) (code left : List MidLine) (l : MidLine) (rest : List MidLine) (place : ℕ) (parts more : FunctionParts) (e : left ≡ l ∷ rest) (g : Grows mains first shared code left place parts) where
  pub grows_more :
      more.classes.items ≡ parts.classes.items ++ class_of parts.next (sharing_of mains shared place l.mid) ∷ [] →
      ((moved : ℕ → ℕ) → more.leading.items ≡ parts.leading.items ++ with_line l.line (group_of leading moved place (class_of parts.next (sharing_of mains shared place l.mid)) l.mid)) →
      ((moved : ℕ → ℕ) → more.trailing.items ≡ parts.trailing.items ++ with_line l.line (group_of trailing moved place (class_of parts.next (sharing_of mains shared place l.mid)) l.mid)) →
      more.next ≡ parts.next + sites_of (sharing_of mains shared place l.mid) →
      Grows mains first shared code rest (place + 1) more
  grows_more classes leads trails next = record {
    classes =
        g.classes ∙ ap (λ xs. parts.classes.items ++ classes_from parts.next (sharings mains shared place xs)) e
        ∙ sym (append_assoc parts.classes.items (class_of parts.next (sharing_of mains shared place l.mid) ∷ []) (classes_from (parts.next + sites_of (sharing_of mains shared place l.mid)) (sharings mains shared (place + 1) rest)))
        ∙ ap₂ (λ cs n. cs ++ classes_from n (sharings mains shared (place + 1) rest)) (sym classes) (sym next);
    leads = λ moved.
        g.leads moved ∙ ap (λ xs. parts.leading.items ++ groups_from leading moved place (classes_from parts.next (sharings mains shared place xs)) xs) e
        ∙ sym (append_assoc parts.leading.items (with_line l.line (group_of leading moved place (class_of parts.next (sharing_of mains shared place l.mid)) l.mid)) (groups_from leading moved (place + 1) (classes_from (parts.next + sites_of (sharing_of mains shared place l.mid)) (sharings mains shared (place + 1) rest)) rest))
        ∙ ap₂ (λ ls n. ls ++ groups_from leading moved (place + 1) (classes_from n (sharings mains shared (place + 1) rest)) rest) (sym (leads moved)) (sym next);
    trails = λ moved.
        g.trails moved ∙ ap (λ xs. parts.trailing.items ++ groups_from trailing moved place (classes_from parts.next (sharings mains shared place xs)) xs) e
        ∙ sym (append_assoc parts.trailing.items (with_line l.line (group_of trailing moved place (class_of parts.next (sharing_of mains shared place l.mid)) l.mid)) (groups_from trailing moved (place + 1) (classes_from (parts.next + sites_of (sharing_of mains shared place l.mid)) (sharings mains shared (place + 1) rest)) rest))
        ∙ ap₂ (λ ls n. ls ++ groups_from trailing moved (place + 1) (classes_from n (sharings mains shared (place + 1) rest)) rest) (sym (trails moved)) (sym next);
    sites = g.sites ∙ ap (λ xs. parts.next + site_count (sharings mains shared place xs)) e ∙ omega (arith, next);
  }

-- the classes of a program's functions
abbrev pub classes_behind : ℕ → ℕ → List Shared → List MidFunction → List (List Class)
classes_behind mains site shared functions = all_classes_from site (sharings_of mains shared functions)

-- the classes and versions of the functions so far, with those of the functions that are left, are all; the next
-- function's first site is this one
pub record GrowsAll (mains : ℕ) (shared ss : List Shared) (functions fs : List MidFunction) (classes : List (List Class)) (leads trails : List Version) (site : ℕ) : Type 0 where
  pub all_classes : classes_behind mains 1 shared functions ≡ classes ++ classes_behind mains site ss fs
  pub all_leading : versions_from leading (classes_behind mains 1 shared functions) functions ≡ leads ++ versions_from leading (classes_behind mains site ss fs) fs
  pub all_trailing : versions_from trailing (classes_behind mains 1 shared functions) functions ≡ trails ++ versions_from trailing (classes_behind mains site ss fs) fs
  pub all_sites : 1 + sum_by site_count (sharings_of mains shared functions) ≡ site + sum_by site_count (sharings_of mains ss fs)
