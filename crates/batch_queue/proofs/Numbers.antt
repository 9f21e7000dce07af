-- An index word and what it says; places of the ring.
use Rattle.std.proofs.Common.{◌≡◌, ◌≢◌, ℕ, ◌+◌, ◌*◌, ◌/◌, ◌%◌, ◌<◌, eqb, Bool, true, false, refl, ap, ◌∙◌, arith}
use Rattle.std.proofs.lemmas.Nat.{div-mul-add, mod-mul-add}
use Rattle.atomic_table.proofs.Lists.{one_turn}
use Rattle.batch_queue.specs.Rule.{bit_of, index_word, place}

bit_below : (b : Bool) → bit_of b < 2
bit_below false = omega arith
bit_below true = omega arith

odd_bit : (b : Bool) → eqb (bit_of b) 1 ≡ b
odd_bit false = refl
odd_bit true = refl

turned : (count : ℕ) (mark : Bool) → index_word count mark ≡ count * 2 + bit_of mark
turned count mark = omega arith

-- the count and the mark of an index word
pub count_read : (n count : ℕ) (mark : Bool) → n ≡ index_word count mark → n / 2 ≡ count
count_read n count mark e = ap (λ (k : ℕ). k / 2) (e ∙ turned count mark) ∙ div-mul-add count 2 (bit_of mark) (bit_below mark)

pub mark_read : (n count : ℕ) (mark : Bool) → n ≡ index_word count mark → eqb (n % 2) 1 ≡ mark
mark_read n count mark e = ap (λ (k : ℕ). eqb (k % 2) 1) (e ∙ turned count mark)
    ∙ (ap (λ (k : ℕ). eqb k 1) (mod-mul-add count 2 (bit_of mark) (bit_below mark)) ∙ odd_bit mark)

-- an index word with no mark
pub unmarked : (count : ℕ) → 2 * count ≡ index_word count false
unmarked count = omega arith

-- two positions of one turn lie in two places
pub apart : (cap k n : ℕ) → k < n → n < k + cap → place cap k ≢ place cap n
apart cap k n below near e = let same : k % cap ≡ n % cap = omega arith in let one : k ≡ n = one_turn k n cap (omega arith) near same in omega arith
