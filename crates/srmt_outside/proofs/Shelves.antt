-- A map of the program answers as the shelf that it is seen as.
use Rattle.std.proofs.Common.{◌≡◌, ℕ, List, [], ◌∷◌, cond, map, String, string_bytes, Vec, Option, Some, option_map, refl, sym, ap, ◌∙◌, true, false, Bool}
use Rattle.std.specs.Ordering.{nat_cmp, is_eq, eq_by_cmp}
use Rattle.std.specs.Str.{bytes_eq}
use Rattle.std.specs.Cmp.{eq_by_cmp_equiv}
use Rattle.std.specs.Cmp.Lexicographic.{slice_cmp, nat_list_cmp_total}
use Rattle.std.specs.BTreeMap.{BTreeMap, get_by_text, is_at}
use Rattle.std.specs.Map.{lookup, update}
use Rattle.std.specs.FinMap.{find, get-from_entries, get-insert, same_map, slice_cmp-IsAntisymmetric, nat_cmp-IsAntisymmetric}
use Rattle.std.proofs.lemmas.Map.Text.{is_eq-slice_cmp}
use Rattle.std.specs.declared.alloc.Global.{Global}
use Rattle.srmt_outside.specs.Shelf.{shelf_of, file_of, with_file}

found : (name : List ℕ) (entries : List (String Global × Vec ℕ Global)) →
    find (slice_cmp nat_cmp) name (map (λ e. (string_bytes e.0, e.1.items)) entries)
    ≡ option_map (λ v. v.items) (lookup (is_at (λ k. slice_cmp nat_cmp name (string_bytes k))) entries)
found name [] = refl
found name (e ∷ entries) =
    elim (is_eq (slice_cmp nat_cmp name (string_bytes e.0)))
    as (λ b. cond b (Some e.1.items) (find (slice_cmp nat_cmp) name (map (λ e. (string_bytes e.0, e.1.items)) entries))
    ≡ option_map (λ v. v.items) (cond b (Some e.1) (lookup (is_at (λ k. slice_cmp nat_cmp name (string_bytes k))) entries)))
    [ true ↦ refl | false ↦ found name entries ]

-- a name has on the shelf what it has in the map
pub file_of-shelf_of : (files : BTreeMap (String Global) (Vec ℕ Global)) (name : List ℕ) →
    file_of (shelf_of files) name ≡ option_map (λ v. v.items) (get_by_text files name)
file_of-shelf_of files name = get-from_entries nat_list_cmp_total _ name ∙ found name files.entries

mapped : (b : Bool) (v : Vec ℕ Global) (o : Option (Vec ℕ Global)) →
    option_map (λ v. v.items) (cond b (Some v) o) ≡ cond b (Some v.items) (option_map (λ v. v.items) o)
mapped true v o = refl
mapped false v o = refl

same_test : (name q : List ℕ) → bytes_eq name q ≡ eq_by_cmp (slice_cmp nat_cmp) q name
same_test name q = sym (is_eq-slice_cmp name q) ∙ (eq_by_cmp_equiv nat_list_cmp_total).symm name q

-- the map with a value at a name is seen as the shelf with its bytes there
pub shelf_of-update : (m n : BTreeMap (String Global) (Vec ℕ Global)) (name : List ℕ) (v : Vec ℕ Global) →
    ((q : List ℕ) → get_by_text n q ≡ update bytes_eq (get_by_text m) name (Some v) q) →
    shelf_of n ≡ with_file (shelf_of m) name v.items
shelf_of-update m n name v updates =
    same_map nat_list_cmp_total (slice_cmp-IsAntisymmetric nat_cmp-IsAntisymmetric) _ _ (λ q.
    file_of-shelf_of n q
    ∙ ap (option_map (λ v. v.items)) (updates q)
    ∙ mapped (bytes_eq name q) v (get_by_text m q)
    ∙ ap (λ b. cond b (Some v.items) (option_map (λ v. v.items) (get_by_text m q))) (same_test name q)
    ∙ ap (cond (eq_by_cmp (slice_cmp nat_cmp) q name) (Some v.items)) (sym (file_of-shelf_of m q))
    ∙ sym (get-insert nat_list_cmp_total (shelf_of m) name v.items q))
