-- What the emitter's own steps make: an instruction stands behind the code, or something is allotted and no code is made.
use Rattle.std.proofs.Common.{◌≡◌, ℕ, List, [], ◌∷◌, map, Some, None, Result, Ok, Err, refl, sym, ap, subst, ◌∙◌}
use Rattle.std.specs.Prelude.{slice_index, slice_set}
use Rattle.mid_code.specs.declared.mid.Mid.{Mid}
use Rattle.c_types.specs.declared.type_ref.Row.{Row}
use Rattle.c_types.specs.Table.{type_at}
use Rattle.lower.specs.declared.allotted.Allotted.{Allotted as CodeAllotted}
use Rattle.lower.specs.declared.emitter.Emitter.{Emitter}
use Rattle.lower.specs.declared.refusal.LowerRefusal.{LowerRefusal}
use Rattle.lower.specs.declared.refusal.LowerRefusal.TheVariants.{TooManyRegisters, TooLong, Memory}
use Rattle.lower.specs.Emitting.{Line, Code, Around, Made, Making, home_of, settles}
use Rattle.lower.specs.Instructions.{told}
use Rattle.lower.specs.SoFar.{Leads, Lines, with_line, grown, added}
use Rattle.lower.specs.Drafts.{Held, code_of}
use Rattle.lower.specs.Emits.{AllStand, Settles, Makes, AllotsAs, Allots, EmitsAs, Emits, itself, nothing, emits_mid}
use Rattle.lower.proofs.Growing.{grown-none}

grown-one : (around : Around) (l : Line) (s : Lines) → with_line l s ≡ grown around (λ a start. l ∷ []) s
unfolding with_line
grown-one around l None = refl
grown-one around l (Some ls) = refl

-- an instruction is emitted
pub told-one : {rows : List Row} {old : Emitter} {code : Held} {line : ℕ} (m : Mid)
    → ((leads : List Leads) → code_of code leads ≡ with_line (told line m) (code_of old.code leads))
    → Emits nothing rows old (record { allotted = old.allotted; code = code }) (Ok tt) (emits_mid line m)
told-one {rows} {old} {code} {line} m h =
    record { is = λ stand. (refl, refl, (λ leads around. h leads ∙ grown-one around (told line m) (code_of old.code leads)), stand) }

grown-empty : (around : Around) (c : Code) (s : Lines) → ((a : Around) (start : ℕ) → c a start ≡ []) → s ≡ grown around c s
grown-empty around c None h = refl
grown-empty around c (Some ls) h = sym (ap (λ xs. added xs (Some ls)) (h around _))

-- something is allotted, and no code is made
pub no-code : {A B : Type 0} {view : B → A} {rows : List Row} {old : Emitter} {new : CodeAllotted} {r : Result B LowerRefusal} {m : Making A}
    → Allots view rows old.allotted new r m → Emits view rows old (record { allotted = new; code = old.code }) r m
no-code {A} {B} {view} {rows} {old} {new} {r} {m} h = record { is = by r h.is }
  where
    after : Emitter
    after = record { allotted = new; code = old.code }

    settled : (c : Result (Made A) ℕ) (a : A) → Settles rows c a new → Makes rows c a old after
    settled (Ok made) a h = (h.0, h.1, (λ leads around. grown-empty around made.code (code_of old.code leads) h.2), h.3)
    settled (Err line) a h = absurd h

    by : (r : Result B LowerRefusal) → AllotsAs view rows old.allotted new r m → EmitsAs view rows old after r m
    by (Ok x) h = λ stand. settled (m _) (view x) (h stand)
    by (Err (TooManyRegisters line)) h = h
    by (Err (TooLong line)) h = h
    by (Err Memory) h = h

-- the register of a local is asked for
pub home-known : {rows : List Row} {s : Emitter} {n r : ℕ} → r ≡ slice_index s.allotted.homes.items n → Emits itself rows s s (Ok r) (home_of n)
home-known {rows} {s} {n} {r} h =
    record { is = λ stand. (sym h, refl, (λ leads around. grown-none around (code_of s.code leads)), stand) }

-- a local gets its register
pub settled : {rows : List Row} {old : Emitter} {new : CodeAllotted} {n r : ℕ}
    → new.homes.items ≡ slice_set old.allotted.homes.items n r → new.kinds.items ≡ old.allotted.kinds.items
    → new.temporaries.items ≡ old.allotted.temporaries.items → new.types.keys ≡ old.allotted.types.keys
    → Emits nothing rows old (record { allotted = new; code = old.code }) (Ok tt) (settles n r)
settled {rows} {old} {new} {n} {r} h k t y =
    record {
      is =
          λ stand. (
            refl,
            (λ i. record { kinds = sym k i; temporaries = sym t i; homes = sym h i; types = map (type_at rows) (sym y i) }),
            (λ leads around. grown-none around (code_of old.code leads)),
            subst (AllStand rows) (sym y) stand,
          );
    }
