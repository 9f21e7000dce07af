-- Files in memory that never fail, as their clauses see them.
use Rattle.std.specs.Prelude.{ℕ, List, [], ◌∷◌, ◌++◌, Result, Ok, Err, unwrap_or, refl}
use Rattle.std.specs.Coded.{Coded, code_by, coded×, coded_list, coded_ℕ}
use Rattle.srmt_outside.specs.Shelf.{Shelf, shelf_code, file_of}
use Rattle.srmt_outside.specs.declared.file_fault.FileFault.{FileFault}
use Rattle.srmt_outside.specs.declared.file_fault.FileFault.TheVariants.{Failed, TooLong, Memory}

pub record Given : Type 0 where
  -- the files that were given
  pub files : Shelf
  -- the names that calls asked for, in order
  pub asked : List (List ℕ)

abbrev pub given_code : Coded Given
given_code =
    code_by (Shelf × List (List ℕ)) (coded× shelf_code (coded_list (coded_list coded_ℕ)))
    (λ g. (g.files, g.asked))
    (λ p. record { files = p.0; asked = p.1 })
    (λ _. refl)

-- the bytes of a name, of which there are none where it was not given
abbrev pub bytes_of : Shelf → List ℕ → List ℕ
bytes_of files name = unwrap_or (file_of files name) []

-- what a read of a name leaves, by its answer
abbrev pub after_read : {T : Type 0} → Given → List ℕ → Result T FileFault → Given
after_read old name (Ok _) = record old { asked = old.asked ++ name ∷ [] }
after_read old name (Err Failed) = record old { asked = old.asked ++ name ∷ [] }
after_read old name (Err TooLong) = record old { asked = old.asked ++ name ∷ [] }
after_read old name (Err Memory) = old
