-- Classes and sites, instruction by instruction and function by function.
use Rattle.std.proofs.Common.{◌≡◌, ℕ, suc, ◌+◌, ◌<◌, List, [], ◌∷◌, ◌++◌, length, drop, refl, sym, ap, ◌∙◌, arith, get_or, append_assoc}
use Rattle.std.specs.Prelude.{sum_by}
use Rattle.std.proofs.Math.Seq.{drop-cons}
use Rattle.std.proofs.lemmas.List.Sums.{sum_by-cons}
use Rattle.mid_code.specs.declared.class.Class.{Class}
use Rattle.mid_code.specs.declared.class.Shared.{Shared}
use Rattle.mid_code.specs.declared.program.MidLine.{MidLine}
use Rattle.mid_code.specs.declared.program.MidFunction.{MidFunction}
use Rattle.mid_code.specs.Classes.{Sharing, Both, Alone, Echoed, sharing_of, sharings, sharings_of, sites_of, site_count, class_of, classes_from, all_classes_from}
use Rattle.classify.specs.Sites.{sites_in}

-- an instruction takes as many sites as its class says
pub sites_by_class : (site : ℕ) (s : Sharing) → sites_in (class_of site s) ≡ sites_of s
sites_by_class site Both = refl
sites_by_class site Alone = refl
sites_by_class site Echoed = refl

-- what is left begins with the item at its place
pub left_from : {X : Type 0} (xs : List X) (i : ℕ) (x : X) → i < length xs → x ≡ get_or xs i x → drop i xs ≡ x ∷ drop (i + 1) xs
left_from xs i x within is =
    let next : suc i ≡ i + 1 = omega arith in
    drop-cons xs i x within ∙ ap (λ y. y ∷ drop (suc i) xs) (sym is) ∙ ap (λ n. x ∷ drop n xs) next

module _ (mains : ℕ) (shared : Shared) (code : List MidLine) (i : ℕ) (l : MidLine) (within : i < length code) (is : l ≡ get_or code i l) where
  pub sharings_left : sharings mains shared i (drop i code) ≡ sharing_of mains shared i l.mid ∷ sharings mains shared (i + 1) (drop (i + 1) code)
  sharings_left = ap (sharings mains shared i) (left_from code i l within is)

  pub sites_left : site_count (sharings mains shared i (drop i code)) ≡ sites_of (sharing_of mains shared i l.mid) + site_count (sharings mains shared (i + 1) (drop (i + 1) code))
  sites_left = ap site_count sharings_left

  pub classes_left : (row : List Class) (given : ℕ) →
      row ++ classes_from (given + 1) (sharings mains shared i (drop i code))
      ≡ (row ++ class_of (given + 1) (sharing_of mains shared i l.mid) ∷ []) ++ classes_from (given + sites_of (sharing_of mains shared i l.mid) + 1) (sharings mains shared (i + 1) (drop (i + 1) code))
  classes_left row given =
      let s = sharing_of mains shared i l.mid in
      let rest = sharings mains shared (i + 1) (drop (i + 1) code) in
      let order : given + 1 + sites_of s ≡ given + sites_of s + 1 = omega arith in
      ap (λ ss. row ++ classes_from (given + 1) ss) sharings_left
      ∙ ap (λ n. row ++ class_of (given + 1) s ∷ classes_from n rest) order
      ∙ sym (append_assoc row (class_of (given + 1) s ∷ []) (classes_from (given + sites_of s + 1) rest))

module _ (mains : ℕ) (shared : List Shared) (fs : List MidFunction) (i : ℕ) (s : Shared) (f : MidFunction) (within_shared : i < length shared) (is_shared : s ≡ get_or shared i s)
    (within : i < length fs) (is : f ≡ get_or fs i f) where
  pub rows_left : sharings_of mains (drop i shared) (drop i fs) ≡ sharings mains s 0 f.code ∷ sharings_of mains (drop (i + 1) shared) (drop (i + 1) fs)
  rows_left =
      ap (λ ss. sharings_of mains ss (drop i fs)) (left_from shared i s within_shared is_shared)
      ∙ ap (sharings_of mains (s ∷ drop (i + 1) shared)) (left_from fs i f within is)

  pub all_sites_left : sum_by site_count (sharings_of mains (drop i shared) (drop i fs))
      ≡ site_count (sharings mains s 0 f.code) + sum_by site_count (sharings_of mains (drop (i + 1) shared) (drop (i + 1) fs))
  all_sites_left =
      ap (sum_by site_count) rows_left ∙ sum_by-cons site_count (sharings mains s 0 f.code) (sharings_of mains (drop (i + 1) shared) (drop (i + 1) fs))

  pub all_classes_left : (rows : List (List Class)) (given : ℕ) →
      rows ++ all_classes_from (given + 1) (sharings_of mains (drop i shared) (drop i fs))
      ≡ (rows ++ classes_from (given + 1) (sharings mains s 0 f.code) ∷ [])
      ++ all_classes_from (given + site_count (sharings mains s 0 f.code) + 1) (sharings_of mains (drop (i + 1) shared) (drop (i + 1) fs))
  all_classes_left rows given =
      let first = sharings mains s 0 f.code in
      let rest = sharings_of mains (drop (i + 1) shared) (drop (i + 1) fs) in
      let order : given + 1 + site_count first ≡ given + site_count first + 1 = omega arith in
      ap (λ ss. rows ++ all_classes_from (given + 1) ss) rows_left
      ∙ ap (λ n. rows ++ classes_from (given + 1) first ∷ all_classes_from n rest) order
      ∙ sym (append_assoc rows (classes_from (given + 1) first ∷ []) (all_classes_from (given + site_count first + 1) rest))
