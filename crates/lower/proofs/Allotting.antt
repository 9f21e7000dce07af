-- What is allotted: a temporary when it is first used, and the number of a type of functions.
use Rattle.std.proofs.Common.{◌≡◌, ℕ, List, [], ◌∷◌, ◌++◌, map, Some, None, Result, Ok, Err, refl, sym, ap, subst, ◌∙◌}
use Rattle.std.specs.Prelude.{slice_get}
use Rattle.std.specs.List.{position_or_len}
use Rattle.std.specs.declared.alloc.Global.{Global}
use Rattle.std.specs.declared.vec.Vec.{Vec}
use Rattle.indexmap.specs.IndexSet.{insert_key}
use Rattle.mid_code.specs.declared.program.RegisterKind.TheVariants.{Number}
use Rattle.c_types.specs.declared.type_ref.TypeRef.{TypeRef}
use Rattle.c_types.specs.declared.type_ref.Row.{Row}
use Rattle.c_types.specs.Types.{CType}
use Rattle.c_types.specs.Table.{type_at, Stands}
use Rattle.lower.specs.declared.allotted.Allotted.{Allotted as CodeAllotted}
use Rattle.lower.specs.declared.refusal.LowerRefusal.{LowerRefusal}
use Rattle.lower.specs.declared.refusal.LowerRefusal.TheVariants.{TooManyRegisters, TooLong, Memory}
use Rattle.lower.specs.Emitting.{◌⨟◌, no_code, Allotted, Made, Making, made, behind, and_then, ◌>>=◌, ◌>>◌, pure, becomes, new, temporary, with_type, type_number}
use Rattle.lower.specs.Emits.{AllStand, allotted_view, Settles, AllotsAs, Allots, itself}
use Rattle.lower.proofs.FunctionTypes.{same_reference, inserted-types, inserted-stand, inserted-place}

-- ---- temporaries

abbrev with_temporary : ℕ → Making ℕ
with_temporary r = becomes (λ a. record a { temporaries = a.temporaries ++ r ∷ [] }) >> pure r

temporary-found : (k line r : ℕ) (a : Allotted) → slice_get a.temporaries k ≡ Some r → temporary k line a ≡ made r (no_code ⨟ no_code) a
unfolding ◌>>=◌
temporary-found k line r a h = rw h refl

temporary-new : (k line : ℕ) (a : Allotted) → slice_get a.temporaries k ≡ None
    → temporary k line a ≡ behind no_code (and_then (new Number line a) with_temporary)
unfolding ◌>>=◌
temporary-new k line a h = rw h refl

-- one that is allotted already
pub used-again : {rows : List Row} {old : CodeAllotted} (k line r : ℕ) → slice_get old.temporaries.items k ≡ Some r
    → Allots itself rows old old (Ok r) (temporary k line)
used-again {rows} {old} k line r h =
    record {
      is =
          λ stand. subst (λ (c : Result (Made ℕ) ℕ). Settles rows c r old) (sym (temporary-found k line r (allotted_view rows old) h))
          (refl, refl, (λ around start. refl), stand);
    }

-- there is no register for it
pub none-left : {rows : List Row} {old after : CodeAllotted} (k line : ℕ) {r : Result ℕ LowerRefusal} {e : LowerRefusal}
    → slice_get old.temporaries.items k ≡ None → r ≡ Err e → Allots itself rows old after (Err e) (new Number line)
    → Allots itself rows old after r (temporary k line)
none-left {rows} {old} {after} k line {r} {e} h is refused =
    subst (λ s. Allots itself rows old after s (temporary k line)) (sym is) (record { is = by e refused.is })
  where
    by : (e : LowerRefusal) → AllotsAs itself rows old after (Err e) (new Number line) → AllotsAs itself rows old after (Err e) (temporary k line)
    by (TooManyRegisters l) given =
        λ stand. temporary-new k line (allotted_view rows old) h ∙ ap (λ (c : Result (Made ℕ) ℕ). behind no_code (and_then c with_temporary)) (given stand)
    by (TooLong l) given = given
    by Memory given = given

-- it gets a register
pub first-used : {rows : List Row} {old mid : CodeAllotted} {temporaries : Vec ℕ Global} (k line r : ℕ)
    → slice_get old.temporaries.items k ≡ None → Allots itself rows old mid (Ok r) (new Number line)
    → temporaries.items ≡ mid.temporaries.items ++ r ∷ []
    → Allots itself rows old (record { kinds = mid.kinds; temporaries = temporaries; homes = mid.homes; types = mid.types }) (Ok r) (temporary k line)
unfolding ◌>>=◌
first-used {rows} {old} {mid} {temporaries} k line r h register pushed =
    record {
      is =
          λ stand. subst (λ (c : Result (Made ℕ) ℕ). Settles rows c r after) (sym (temporary-new k line (allotted_view rows old) h))
          (by (new Number line (allotted_view rows old)) (register.is stand));
    }
  where
    after : CodeAllotted
    after = record { kinds = mid.kinds; temporaries = temporaries; homes = mid.homes; types = mid.types }

    by : (c : Result (Made ℕ) ℕ) → Settles rows c r mid → Settles rows (behind no_code (and_then c with_temporary)) r after
    by (Ok m) s = (
      s.0,
      (λ i. record (s.1 i) { temporaries = (s.1 i).temporaries ++ s.0 i ∷ [] })
          ∙ (λ i. record (allotted_view rows mid) { temporaries = sym pushed i }),
      (λ around start. ap (λ xs. xs ++ []) (s.2 around _)),
      s.3,
    )
    by (Err l) s = absurd s

-- ---- types of functions

pub numbered : (rows : List Row) (r : TypeRef) (t : CType) → Stands rows r t → ((other : TypeRef) → Stands rows other t → other ≡ r)
    → {old after : CodeAllotted} {n : ℕ} → after.kinds.items ≡ old.kinds.items → after.temporaries.items ≡ old.temporaries.items
    → after.homes.items ≡ old.homes.items → after.types.keys ≡ insert_key same_reference old.types.keys r
    → n ≡ position_or_len (same_reference r) old.types.keys → Allots itself rows old after (Ok n) (type_number t)
unfolding ◌>>=◌
numbered rows r t stands one {old} {after} {n} kinds temporaries homes keys at =
    record {
      is =
          λ stand. (
            sym (at ∙ inserted-place rows r t stands one old.types.keys stand),
            (λ i. record { kinds = sym kinds i; temporaries = sym temporaries i; homes = sym homes i; types = sym (are stand) i }),
            (λ around start. refl),
            subst (AllStand rows) (sym keys) (inserted-stand rows r t stands one old.types.keys stand),
          );
    }
  where
    are : AllStand rows old.types.keys → map (type_at rows) after.types.keys ≡ with_type t (map (type_at rows) old.types.keys)
    are stand = ap (map (type_at rows)) keys ∙ inserted-types rows r t stands one old.types.keys stand
