-- Words of the exchange, as the sum of three parts.
use Rattle.std.specs.Prelude.{ℕ, ◌+◌, ◌*◌, ◌/◌, ◌%◌, ◌^◌, ◌≤◌}
use Rattle.srmt_base.specs.declared.word.Kind.{Kind}
use Rattle.srmt_base.specs.declared.word.Kind.TheVariants.{Check, Value, Trap, Callback, Ack, Exit}

-- the code of a kind, 1 to 6
abbrev pub kind_code : Kind → ℕ
kind_code Check = 1
kind_code Value = 2
kind_code Trap = 3
kind_code Callback = 4
kind_code Ack = 5
kind_code Exit = 6

-- the word of a kind, a site and a value
abbrev pub word_of : Kind → ℕ → ℕ → ℕ
word_of kind site value = kind_code kind * 2 ^ 60 + site * 2 ^ 44 + value

-- the three parts of a number of 64 bits
abbrev pub kind_part : ℕ → ℕ
kind_part bits = bits / 2 ^ 60

abbrev pub site_part : ℕ → ℕ
site_part bits = bits / 2 ^ 44 % 2 ^ 16

abbrev pub value_part : ℕ → ℕ
value_part bits = bits % 2 ^ 44

-- a number of 64 bits is a word exactly where its kind is one of the six
abbrev pub IsWord : ℕ → Type 0
IsWord bits = (1 ≤ kind_part bits) × (kind_part bits ≤ 6)
