-- Steps of checking on the texts of a file.
use Rattle.std.specs.Prelude.{ℕ, List, [], length}
use Rattle.c_typed.specs.declared.program.TextObject.{TextObject}
use Rattle.c_typed.specs.Typed.{place, text}
use Rattle.typing_rules.specs.Source.{Bytes}
use Rattle.typing_rules.specs.Known as known
use Rattle.typing_rules.specs.Terms.{Term, object, text_type}
use Rattle.typing_rules.specs.Checking.{Checking, ◌>>=◌, ◌>>◌, pure, asks, makes}

-- a new text with its number
abbrev pub new_text : ℕ → Bytes → Checking Term
new_text line bytes = do
  number ← asks (λ k. length k.texts)
  makes (known.with_text line bytes)
  pure (object (place line (text_type (length bytes)) (text number)))

-- the texts of a file at its end
abbrev pub texts_taken : Checking (List TextObject)
texts_taken = do
  texts ← asks (λ k. k.texts)
  makes (λ k. record k { texts = [] })
  pure texts
