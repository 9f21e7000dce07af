-- The texts of the tables from the texts of their parts.
use Rattle.std.proofs.Common.{◌≡◌, ℕ, ◌-◌, ◌<◌, ◌≤◌, List, ◌++◌, codes, refl, sym, ap, ◌∙◌}
use Rattle.std.specs.Prelude.{decimal, Bool, if◌then◌else◌}
use Rattle.std.proofs.lemmas.Bool.{le-leb, lt-leb}
use Rattle.srmt_base.specs.declared.word.Kind.{Kind}
use Rattle.srmt_base.specs.declared.word.Kind.TheVariants.{Check, Value, Trap, Callback, Ack, Exit}
use Rattle.srmt_base.specs.Word.{kind_code, kind_part, site_part, value_part}
use Rattle.answers.specs.Texts.{kind_name, kind_of, word_text, place_text}

named_again : (k : Kind) → kind_name (kind_of (kind_code k)) ≡ kind_name k
named_again Check = refl
named_again Value = refl
named_again Trap = refl
named_again Callback = refl
named_again Ack = refl
named_again Exit = refl

pub word_from : (word site value : ℕ) (kind : Kind) (name : List ℕ) → name ≡ kind_name kind → kind_code kind ≡ kind_part word → site ≡ site_part word → value ≡ value_part word →
    name ++ codes " " ++ decimal site ++ codes " " ++ decimal value ≡ word_text word
word_from word site value kind name named of_kind of_site of_value =
    let first : name ≡ kind_name (kind_of (kind_part word)) = named ∙ sym (named_again kind) ∙ ap (λ n. kind_name (kind_of n)) of_kind in
    ap (λ (n : List ℕ). n ++ codes " " ++ decimal site ++ codes " " ++ decimal value) first ∙ ap (λ n. kind_name (kind_of (kind_part word)) ++ codes " " ++ decimal n ++ codes " " ++ decimal value) of_site ∙ ap (λ n. kind_name (kind_of (kind_part word)) ++ codes " " ++ decimal (site_part word) ++ codes " " ++ decimal n) of_value

chosen : Bool → ℕ → List ℕ
chosen main line = if main then codes "line " ++ decimal line else codes "binary line " ++ decimal (line - 2000000)

pub main_place : (line number : ℕ) → line ≤ 2000000 → number ≡ line → codes "line " ++ decimal number ≡ place_text line
unfolding chosen
main_place line number within same = ap (λ n. codes "line " ++ decimal n) same ∙ sym (ap (λ b. chosen b line) (le-leb line 2000000 within))

pub binary_place : (line number : ℕ) → 2000000 < line → number ≡ line - 2000000 → codes "binary line " ++ decimal number ≡ place_text line
unfolding chosen
binary_place line number past same = ap (λ n. codes "binary line " ++ decimal n) same ∙ sym (ap (λ b. chosen b line) (lt-leb line 2000000 past))
