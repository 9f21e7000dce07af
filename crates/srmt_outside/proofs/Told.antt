-- What is told after several calls in turn.
use Rattle.std.proofs.Common.{◌≡◌, ℕ, ◌+◌, List, [], ◌++◌, length, take, Option, Some, None, refl, sym, ap, ◌∙◌, append_assoc, append-nil, drop, subst}
use Rattle.std.proofs.Math.Seq.{take-length, take-append-add, take-append_seam}
use Rattle.std.proofs.lemmas.List.{take-append-drop}
use Rattle.srmt_outside.specs.Told.{Appends, AppendsPrefix}

module _ {A : Type 0} where
  -- a call that changes nothing appends nothing
  pub Appends-nothing : (before : Option (List A)) → Appends before before []
  Appends-nothing None = refl
  Appends-nothing (Some told) = ap Some (sym (append-nil told))

  -- two calls append one after the other
  pub Appends-both : (before between after : Option (List A)) (first second : List A) →
      Appends before between first → Appends between after second → Appends before after (first ++ second)
  Appends-both None between after first second one two = rw (two, one) refl
  Appends-both (Some told) between after first second one two = rw (two, one) (ap Some (append_assoc told first second))

  -- the whole is a first part
  pub AppendsPrefix-whole : (before after : Option (List A)) (more : List A) →
      Appends before after more → AppendsPrefix before after more
  AppendsPrefix-whole before after more all = (length more, rw take-length all)

  part_of_both : (n : ℕ) (first second : List A) → take (length (take n first)) (first ++ second) ≡ take n first
  part_of_both n first second =
      ap (λ xs. take (length (take n first)) (xs ++ second)) (sym (take-append-drop n first))
      ∙ ap (take (length (take n first))) (append_assoc (take n first) (drop n first) second)
      ∙ take-append_seam (take n first) (drop n first ++ second)

  -- a first part of what comes first is one of both
  pub AppendsPrefix-first : (before after : Option (List A)) (first second : List A) →
      AppendsPrefix before after first → AppendsPrefix before after (first ++ second)
  AppendsPrefix-first before after first second part =
      (length (take part.0 first), subst (Appends before after) (sym (part_of_both part.0 first second)) part.1)

  -- all of what comes first, and a first part of the second
  pub AppendsPrefix-both : (before between after : Option (List A)) (first second : List A) →
      Appends before between first → AppendsPrefix between after second → AppendsPrefix before after (first ++ second)
  AppendsPrefix-both before between after first second one part =
      (length first + part.0, rw take-append-add (Appends-both before between after first (take part.0 second) one part.1))
