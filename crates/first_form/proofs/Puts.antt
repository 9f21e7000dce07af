-- The statements `putchar(D);` that were read, one after another.
use Rattle.std.proofs.Common.{◌≡◌, ℕ, zero, suc, ◌+◌, ◌-◌, ◌<◌, List, [], ◌∷◌, ◌++◌, Some, None, refl, sym, ap, ◌∙◌, arith, append_assoc}
use Rattle.first_form.specs.declared.source.PutConstant.{PutConstant}
use Rattle.first_form.specs.Place.{Place}
use Rattle.first_form.specs.Reading.{put, puts}

-- what was read so far, and what the others give
abbrev pub joined : List PutConstant → List PutConstant × Place → List PutConstant × Place
joined read others = (read ++ others.0, others.1)

pub puts_zero : (at : Place) → puts 0 at ≡ ([], at)
unfolding puts
puts_zero at = refl

pub puts_none : (limit : ℕ) (at : Place) → put at ≡ None → puts limit at ≡ ([], at)
unfolding puts
puts_none zero at e = refl
puts_none (suc limit) at e = rw (e, puts) refl

pub puts_first : (limit : ℕ) (at after : Place) (first : PutConstant) → put at ≡ Some (first, after) → puts (suc limit) at ≡ joined (first ∷ []) (puts limit after)
unfolding puts
puts_first limit at after first e = rw (e, puts) refl

pub puts_more : (limit k : ℕ) (all : List PutConstant × Place) (read : List PutConstant) (at after : Place) (first : PutConstant) → k < limit → put at ≡ Some (first, after) → all ≡ joined read (puts (limit - k) at) → all ≡ joined (read ++ first ∷ []) (puts (limit - (k + 1)) after)
puts_more limit k all read at after first h e was =
    let one : limit - k ≡ suc (limit - (k + 1)) = omega arith in
    let more = ap (λ n. puts n at) one ∙ puts_first (limit - (k + 1)) at after first e in
    was ∙ ap (joined read) more ∙ ap (λ r. (r, (puts (limit - (k + 1)) after).1)) (sym (append_assoc read (first ∷ []) (puts (limit - (k + 1)) after).0))
