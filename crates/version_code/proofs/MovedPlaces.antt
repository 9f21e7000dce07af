-- A row of places moves each place of the code to where its group begins.
use Rattle.std.proofs.Common.{◌≡◌, ℕ, zero, suc, ◌+◌, ◌-◌, ◌<◌, ◌≤◌, List, [], ◌∷◌, length, refl, sym, ap, ◌∙◌, arith, inl, inr}
use Rattle.std.specs.Prelude.{slice_index, if◌then◌else◌}
use Rattle.std.proofs.Math.Path.{fun_ext}
use Rattle.std.proofs.lemmas.Bool.{cases_lt, lt-ltb, le-ltb}
use Rattle.mid_code.specs.declared.class.Class.{Class}
use Rattle.mid_code.specs.declared.program.MidLine.{MidLine}
use Rattle.mid_code.specs.Versions.{Table, place_in, size_of}
use Rattle.version_code.specs.Places.{ArePlaces, moved_by}

-- all places past the last are at the end of the version
pub place_in-past : (table : Table) (cs : List Class) (code : List MidLine) (place : ℕ) → length cs ≡ length code → length code ≤ place →
    place_in table cs code place ≡ place_in table cs code (length code)
place_in-past table [] [] zero same past = refl
place_in-past table [] [] (suc p) same past = refl
place_in-past table [] (x ∷ xs) place same past = absurd (omega (arith, same))
place_in-past table (d ∷ cs) [] place same past = absurd (omega (arith, same))
place_in-past table (d ∷ cs) (x ∷ xs) zero same past = absurd (omega (arith, past))
place_in-past table (d ∷ cs) (x ∷ xs) (suc p) same past =
    ap (λ n. size_of table d x.mid + n) (place_in-past table cs xs p (omega (arith, same)) (omega (arith, past)))

below_moved : (starts : List ℕ) (place : ℕ) → place < length starts → moved_by starts place ≡ slice_index starts place
below_moved starts place within =
    ap (λ b. if b then slice_index starts place else slice_index starts (length starts - 1)) (lt-ltb place (length starts) within)

past_moved : (starts : List ℕ) (place : ℕ) → length starts ≤ place → moved_by starts place ≡ slice_index starts (length starts - 1)
past_moved starts place past =
    ap (λ b. if b then slice_index starts place else slice_index starts (length starts - 1)) (le-ltb place (length starts) past)

moved_as : (table : Table) (cs : List Class) (code : List MidLine) (starts : List ℕ) → length cs ≡ length code → ArePlaces table cs code starts →
    (place : ℕ) → moved_by starts place ≡ place_in table cs code place
moved_as table cs code starts same are place =
    elim (cases_lt place (length starts)) as (λ _. moved_by starts place ≡ place_in table cs code place) [
      | inl within ↦ below_moved starts place within ∙ are.each place (omega (arith, are.count))
      | inr past ↦
          let last : length starts - 1 ≡ length code = omega (arith, are.count) in
          past_moved starts place past ∙ ap (slice_index starts) last ∙ are.each (length code) (omega arith)
          ∙ sym (place_in-past table cs code place same (omega (arith, are.count)))
    ]

pub moves : (table : Table) (cs : List Class) (code : List MidLine) (starts : List ℕ) → length cs ≡ length code → ArePlaces table cs code starts →
    moved_by starts ≡ place_in table cs code
moves table cs code starts same are = fun_ext (moved_as table cs code starts same are)
