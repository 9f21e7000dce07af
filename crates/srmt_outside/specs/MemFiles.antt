-- Files in memory that fail where they are told to, as their clauses see them.
use Rattle.std.specs.Prelude.{ℕ, List, [], ◌∷◌, ◌++◌, Result, Ok, Err, refl}
use Rattle.std.specs.Coded.{Coded, code_by, coded×, coded_list, coded_ℕ}
use Rattle.srmt_outside.specs.Count.{next_count}
use Rattle.srmt_outside.specs.Shelf.{Shelf, shelf_code}
use Rattle.srmt_outside.specs.declared.file_fault.FileFault.{FileFault}
use Rattle.srmt_outside.specs.declared.file_fault.FileFault.TheVariants.{Failed, TooLong, Memory}

pub record Stored : Type 0 where
  -- the files that were given
  pub files : Shelf
  -- the names that calls asked for, in order
  pub asked : List (List ℕ)
  -- how many calls of the trait there were
  pub calls : ℕ
  -- how many of these failed
  pub faults : ℕ
  -- the numbers, from 1, of the calls that are to fail
  pub fails : List ℕ

abbrev pub stored_code : Coded Stored
stored_code =
    code_by (Shelf × (List (List ℕ) × (ℕ × (ℕ × List ℕ))))
    (coded× shelf_code (coded× (coded_list (coded_list coded_ℕ)) (coded× coded_ℕ (coded× coded_ℕ (coded_list coded_ℕ)))))
    (λ s. (s.files, (s.asked, (s.calls, (s.faults, s.fails)))))
    (λ p. record { files = p.0; asked = p.1.0; calls = p.1.1.0; faults = p.1.1.1.0; fails = p.1.1.1.1 })
    (λ _. refl)

-- what a read of a name leaves, by its answer
abbrev pub after_read : {T : Type 0} → Stored → List ℕ → Result T FileFault → Stored
after_read old name (Ok _) = record old { asked = old.asked ++ name ∷ []; calls = next_count old.calls }
after_read old name (Err TooLong) = record old { asked = old.asked ++ name ∷ []; calls = next_count old.calls }
after_read old name (Err Failed) = record old {
  asked = old.asked ++ name ∷ [];
  calls = next_count old.calls;
  faults = next_count old.faults;
}
after_read old name (Err Memory) = record old { calls = next_count old.calls }
