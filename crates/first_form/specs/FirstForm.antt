-- The first form of a source: `main` writes constant bytes and returns a constant.
use Rattle.std.specs.Prelude.{◌≡◌, ℕ, ◌+◌, ◌≤◌, Bool, ◌||◌, ◌==◌, List, [], ◌∷◌, ◌++◌, length, count_by, codes, IsTrue}
use Rattle.std.specs.List.{list_all, AllByRecursion, flat_map}
use Rattle.std.specs.Fmt.{decimal}
use Rattle.first_form.specs.declared.source.Constant.{Constant}
use Rattle.first_form.specs.declared.source.PutConstant.{PutConstant}
use Rattle.first_form.specs.declared.source.FirstForm.{FirstForm}

-- space, tab, line feed, carriage return
abbrev pub is_blank : ℕ → Bool
is_blank c = c == 32 || c == 9 || c == 10 || c == 13

-- a piece of a source
pub data Piece : Type 0 where
  -- these bytes
  word : List ℕ → Piece
  -- these bytes, and they stand on this line
  word_at : ℕ → List ℕ → Piece
  -- blanks, at least so many
  gap : ℕ → Piece

-- The bytes are these pieces one behind the other, and the first byte stands on this line.
abbrev pub Spells : ℕ → List Piece → List ℕ → Type 0
Spells line [] bytes = bytes ≡ []
Spells line (word w ∷ ps) bytes = (rest : List ℕ) × (bytes ≡ w ++ rest) × Spells line ps rest
Spells line (word_at l w ∷ ps) bytes = (l ≡ line) × (rest : List ℕ) × (bytes ≡ w ++ rest) × Spells line ps rest
Spells line (gap least ∷ ps) bytes =
    (blanks : List ℕ) × (rest : List ℕ) × (bytes ≡ blanks ++ rest) × IsTrue (list_all is_blank blanks) × (least ≤ length blanks)
    × Spells (line + count_by (λ c. c == 10) blanks) ps rest

-- int main(void) {
abbrev pub head_pieces : ℕ → List Piece
head_pieces main_line =
    gap 0 ∷ word (codes "int") ∷ gap 1 ∷ word_at main_line (codes "main") ∷ gap 0 ∷ word (codes "(") ∷ gap 0
    ∷ word (codes "void") ∷ gap 0 ∷ word (codes ")") ∷ gap 0 ∷ word (codes "{") ∷ []

-- putchar(D);
abbrev pub put_pieces : PutConstant → List Piece
put_pieces p =
    gap 0 ∷ word_at p.name_line (codes "putchar") ∷ gap 0 ∷ word_at p.paren_line (codes "(") ∷ gap 0
    ∷ word_at p.constant.line (decimal p.constant.value) ∷ gap 0 ∷ word (codes ")") ∷ gap 0 ∷ word (codes ";") ∷ []

-- return D; }
abbrev pub tail_pieces : ℕ → Constant → ℕ → List Piece
tail_pieces return_line status end_line =
    gap 0 ∷ word_at return_line (codes "return") ∷ gap 1 ∷ word_at status.line (decimal status.value) ∷ gap 0
    ∷ word (codes ";") ∷ gap 0 ∷ word_at end_line (codes "}") ∷ gap 0 ∷ []

abbrev pub pieces : FirstForm → List Piece
pieces f = head_pieces f.main_line ++ flat_map put_pieces f.puts ++ tail_pieces f.return_line f.status f.end_line

-- The bytes are this form: they spell it, it writes at most 20,000 bytes, and each constant is of type `int`.
pub record IsFirstForm (bytes : List ℕ) (form : FirstForm) : Type 0 where
  pub spelled : Spells 1 (pieces form) bytes
  pub puts : length form.puts ≤ 20000
  pub constants : AllByRecursion (λ p. p.constant.value ≤ 2147483647) form.puts
  pub status : form.status.value ≤ 2147483647
