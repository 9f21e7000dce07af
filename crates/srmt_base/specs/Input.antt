-- The input of a program, byte by byte.
use Rattle.std.specs.Prelude.{ℕ, List, [], ◌∷◌}

-- the number of EOF, which is -1 (C11 7.21.1p3)
abbrev pub end_of_file : ℕ
end_of_file = 4294967295

-- what the next read gives, and what is left to be read
pub record NextByte : Type 0 where
  pub value : ℕ
  pub rest : List ℕ

-- the next byte, or EOF at the end, any number of times (C11 7.21.7.6)
abbrev pub next_byte : List ℕ → NextByte
next_byte [] = record { value = end_of_file; rest = [] }
next_byte (byte ∷ rest) = record { value = byte; rest = rest }
