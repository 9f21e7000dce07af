-- What the parts of the reader give, as functions on what is left of a source: what was read, and what is left then.
use Rattle.std.specs.Prelude.{ℕ, zero, suc, ◌+◌, Bool, false, ◌==◌, ◌&&◌, nat_le, nat_lt, nat_eq, slice_index, if◌then◌else◌, List, [], ◌∷◌, length, drop, take, codes, Option, Some, None, option_and_then}
use Rattle.std.specs.Option.{option_map}
use Rattle.std.specs.List.{prefix_len}
use Rattle.std.specs.Cmp.Lexicographic.{pointwise}
use Rattle.std.specs.Char.{is_ascii_digit}
use Rattle.std.specs.Str.Parse.{digits_value}
use Rattle.first_form.specs.declared.source.Constant.{Constant}
use Rattle.first_form.specs.declared.source.PutConstant.{PutConstant}
use Rattle.first_form.specs.declared.source.FirstForm.{FirstForm}
use Rattle.first_form.specs.declared.rest.Rest.{Rest}
use Rattle.first_form.specs.FirstForm.{is_blank}
use Rattle.first_form.specs.Place.{Place, place_of}

infixl 10 ◌>>=◌
abbrev pub ◌>>=◌ : {A B : Type 0} → Option A → (A → Option B) → Option B
o >>= f = option_and_then f o

-- what a part of the reader returned, seen by place_of
abbrev pub seen : {X : Type 0} → Option (X × Rest) → Option (X × Place)
seen o = option_map (λ x. (x.0, place_of x.1)) o

abbrev pub after_blanks : ℕ → List ℕ → Place
after_blanks line [] = record { line = line; bytes = [] }
after_blanks line (c ∷ cs) =
    if is_blank c then after_blanks (if c == 10 then line + 1 else line) cs else record { line = line; bytes = c ∷ cs }

-- what follows the blanks at the front
unfoldable pub skip_blanks : Place → Place
skip_blanks at = after_blanks at.line at.bytes

-- whether the first byte passes the test
abbrev pub begins : (ℕ → Bool) → List ℕ → Bool
begins test [] = false
begins test (c ∷ cs) = test c

-- the same place, where a blank stands there
unfoldable pub space : Place → Option Place
space at = if begins is_blank at.bytes then Some at else None

-- behind the blanks the word, and its line
unfoldable pub token : List ℕ → Place → Option (ℕ × Place)
token word at =
    let there = skip_blanks at in
    if pointwise nat_eq (take (length word) there.bytes) word then Some (there.line, record { line = there.line; bytes = drop (length word) there.bytes }) else None

-- the value of a constant with these digits, where they are one: no 0 stands before another digit, and an `int` holds it
unfoldable pub value_of : List ℕ → Option ℕ
value_of digits =
    if nat_lt 1 (length digits) && slice_index digits 0 == 48 then None
    else (if nat_lt 0 (length digits) && nat_le (digits_value 10 digits) 2147483647 then Some (digits_value 10 digits) else None)

-- behind the blanks a constant of all digits that stand there
unfoldable pub constant : Place → Option (Constant × Place)
constant at =
    let there = skip_blanks at in
    let count = prefix_len is_ascii_digit there.bytes in
    value_of (take count there.bytes) >>= λ value. Some (record { value = value; line = there.line }, record { line = there.line; bytes = drop count there.bytes })

-- int main(void) {
unfoldable pub head : Place → Option (ℕ × Place)
head at = do
  int ← token (codes "int") at
  spaced ← space int.1
  main ← token (codes "main") spaced
  open_paren ← token (codes "(") main.1
  void ← token (codes "void") open_paren.1
  close_paren ← token (codes ")") void.1
  brace ← token (codes "{") close_paren.1
  Some (main.0, brace.1)

-- putchar(D);
unfoldable pub put : Place → Option (PutConstant × Place)
put at = do
  name ← token (codes "putchar") at
  open_paren ← token (codes "(") name.1
  value ← constant open_paren.1
  close_paren ← token (codes ")") value.1
  semicolon ← token (codes ";") close_paren.1
  Some (record { name_line = name.0; paren_line = open_paren.0; constant = value.0 }, semicolon.1)

-- as many of them as stand there, up to a limit
unfoldable pub puts : ℕ → Place → List PutConstant × Place
puts zero at = ([], at)
puts (suc limit) at =
    elim (put at) [ None ↦ ([], at) | Some first ↦ let others = puts limit first.1 in (first.0 ∷ others.0, others.1) ]

-- return D; }
unfoldable pub tail : Place → Option (ℕ × Constant × ℕ)
tail at = do
  word ← token (codes "return") at
  spaced ← space word.1
  status ← constant spaced
  semicolon ← token (codes ";") status.1
  brace ← token (codes "}") semicolon.1
  if length (skip_blanks brace.1).bytes == 0 then Some (word.0, status.0, brace.0) else None

-- the whole source
unfoldable pub first_form : List ℕ → Option FirstForm
first_form bytes = do
  main ← head (record { line = 1; bytes = bytes })
  let body = puts 20000 main.1
  end ← tail body.1
  Some (record { main_line = main.0; puts = body.0; return_line = end.0; status = end.1; end_line = end.2 })
