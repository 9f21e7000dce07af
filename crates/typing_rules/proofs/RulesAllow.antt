-- The rules on types allow exactly what the constraints say.
use Rattle.std.proofs.Common.{◌≡◌, ℕ, Bool as Test, true, false, refl, Ok, Err, ◌↔◌, arith}
use Rattle.std.specs.Prelude.{if◌then◌else◌, nat_le, IsTrue}
use Rattle.srmt_base.specs.declared.ty.Ty.{Ty}
use Rattle.srmt_base.specs.declared.op.Op.{Op}
use Rattle.srmt_base.specs.declared.op.Op.TheVariants as o
use Rattle.c_types.specs.declared.form.BinaryForm.{BinaryForm}
use Rattle.c_types.specs.declared.form.ChoiceForm.{ChoiceForm}
use Rattle.c_types.specs.declared.form.Conversion.{Conversion}
use Rattle.c_types.specs.Types.{CType, Qualified, is_integer, is_scalar}
use Rattle.c_types.specs.Rules.{Ruled, Operand, beside, unary_type, tested_type, arithmetic_form, shift_form, step_form, sum_form, difference_form, relation_form, equality_form, binary_form, compound_form, update_form, conversion_form, assignment_form, branches_form, choice_form, indirection_type, index_form, callee_type, cast_type, sizeof_type}
use Rattle.typing_rules.specs.Constraints.{Promotes, IsTested, Combines, Shifts, Steps, Adds, Subtracts, Relates, Equates, Operates, Changes, Updates, Converts, Assigns, Branches, Chooses, PointsTo, Indexes, Calls, CastsTo, HasSize}

-- a null pointer constant is an integer
abbrev pub NullIsInteger : Operand → Type 0
NullIsInteger a = IsTrue a.is_null → IsTrue (is_integer a.type)

-- a rule beside others: the test holds, and the others allow it
beside_refuses : {A : Type 0} (rule : ℕ) (r : Ruled A) (a : A) → beside false rule r ≡ Ok a → ⊥
beside_refuses rule (Ok b) a e = absurd cc
beside_refuses rule (Err other) a e = go (nat_le other rule) e
  where
    go : (test : Test) → Path (Ruled _) (if test then Err other else Err rule) (Ok a) → ⊥
    go true p = absurd cc
    go false p = absurd cc

beside_allows : {A : Type 0} (test : Test) (rule : ℕ) (r : Ruled A) (P : A → Type 0) (a : A) → ((r ≡ Ok a) ↔ P a) → (beside test rule r ≡ Ok a) ↔
    (IsTrue test × P a)
beside_allows true rule r P a h = ((λ e. (refl, h.0 e)), (λ q. h.1 q.1))
beside_allows false rule r P a h = ((λ e. absurd (beside_refuses rule r a e)), (λ q. absurd (let p : IsTrue false = q.0 in cc)))

pub unary_allows : (t : CType) (ty : Ty) → (unary_type t ≡ Ok ty) ↔ Promotes t ty
unary_allows t ty = grind arith

pub tested_allows : (t u : CType) → (tested_type t ≡ Ok u) ↔ IsTested t u
tested_allows t u = grind arith

pub arithmetic_allows : (a b : CType) (f : BinaryForm) → (arithmetic_form a b ≡ Ok f) ↔ Combines a b f
arithmetic_allows a b f = grind arith

pub shift_allows : (a b : CType) (f : BinaryForm) → (shift_form a b ≡ Ok f) ↔ Shifts a b f
shift_allows a b f = grind arith

pub step_allows : (a b : CType) (f : BinaryForm) → (step_form a b ≡ Ok f) ↔ Steps a b f
step_allows a b f = grind arith

pub sum_allows : (a b : CType) (f : BinaryForm) → (sum_form a b ≡ Ok f) ↔ Adds a b f
sum_allows a b f = grind arith

pub difference_allows : (a b : CType) (f : BinaryForm) → (difference_form a b ≡ Ok f) ↔ Subtracts a b f
difference_allows a b f = grind arith

pub relation_allows : (a b : CType) (f : BinaryForm) → (relation_form a b ≡ Ok f) ↔ Relates a b f
relation_allows a b f = grind arith

pub equality_allows : (a b : Operand) (f : BinaryForm) → NullIsInteger a → NullIsInteger b → (equality_form a b ≡ Ok f) ↔ Equates a b f
equality_allows a b f na nb = grind arith

pub binary_allows : (op : Op) (a b : Operand) (f : BinaryForm) → NullIsInteger a → NullIsInteger b → (binary_form op a b ≡ Ok f) ↔ Operates op a b f
binary_allows o.Add a b f na nb = sum_allows a.type b.type f
binary_allows o.Sub a b f na nb = difference_allows a.type b.type f
binary_allows o.Mul a b f na nb = arithmetic_allows a.type b.type f
binary_allows o.Div a b f na nb = arithmetic_allows a.type b.type f
binary_allows o.Rem a b f na nb = arithmetic_allows a.type b.type f
binary_allows o.Shl a b f na nb = shift_allows a.type b.type f
binary_allows o.Shr a b f na nb = shift_allows a.type b.type f
binary_allows o.And a b f na nb = arithmetic_allows a.type b.type f
binary_allows o.Or a b f na nb = arithmetic_allows a.type b.type f
binary_allows o.Xor a b f na nb = arithmetic_allows a.type b.type f
binary_allows o.Lt a b f na nb = relation_allows a.type b.type f
binary_allows o.Gt a b f na nb = relation_allows a.type b.type f
binary_allows o.Le a b f na nb = relation_allows a.type b.type f
binary_allows o.Ge a b f na nb = relation_allows a.type b.type f
binary_allows o.Eq a b f na nb = equality_allows a b f na nb
binary_allows o.Ne a b f na nb = equality_allows a b f na nb

pub never_allows : (n : ℕ) (f : BinaryForm) → (Path (Ruled BinaryForm) (Err n) (Ok f)) ↔ ⊥
never_allows n f = ((λ e. cc), (λ h. absurd h))

pub compound_allows : (op : Op) (a b : CType) (f : BinaryForm) → (compound_form op a b ≡ Ok f) ↔ Changes op a b f
compound_allows o.Add a b f = step_allows a b f
compound_allows o.Sub a b f = step_allows a b f
compound_allows o.Mul a b f = arithmetic_allows a b f
compound_allows o.Div a b f = arithmetic_allows a b f
compound_allows o.Rem a b f = arithmetic_allows a b f
compound_allows o.Shl a b f = shift_allows a b f
compound_allows o.Shr a b f = shift_allows a b f
compound_allows o.And a b f = arithmetic_allows a b f
compound_allows o.Or a b f = arithmetic_allows a b f
compound_allows o.Xor a b f = arithmetic_allows a b f
compound_allows o.Lt a b f = never_allows 1 f
compound_allows o.Gt a b f = never_allows 1 f
compound_allows o.Le a b f = never_allows 1 f
compound_allows o.Ge a b f = never_allows 1 f
compound_allows o.Eq a b f = never_allows 1 f
compound_allows o.Ne a b f = never_allows 1 f

pub update_allows : (op : Op) (may_change : Test) (a b : CType) (f : BinaryForm) → (update_form op may_change a b ≡ Ok f) ↔ Updates op may_change a b f
update_allows op may_change a b f = beside_allows may_change 7 (compound_form op a b) (Changes op a b) f (compound_allows op a b f)

pub conversion_allows : (target : CType) (from : Operand) (f : Conversion) → NullIsInteger from → (conversion_form target from ≡ Ok f) ↔ Converts target from f
conversion_allows target from f n = grind arith

pub assignment_allows : (may_change : Test) (target : CType) (from : Operand) (f : Conversion) → NullIsInteger from →
    (assignment_form may_change target from ≡ Ok f) ↔ Assigns may_change target from f
assignment_allows may_change target from f n = beside_allows may_change 7 (conversion_form target from) (Converts target from) f
    (conversion_allows target from f n)

pub branches_allow : (a b : Operand) (f : ChoiceForm) → NullIsInteger a → NullIsInteger b → (branches_form a b ≡ Ok f) ↔ Branches a b f
branches_allow a b f na nb = grind arith

pub choice_allows : (test : CType) (a b : Operand) (f : ChoiceForm) → NullIsInteger a → NullIsInteger b → (choice_form test a b ≡ Ok f) ↔ Chooses test a b f
choice_allows test a b f na nb = beside_allows (is_scalar test) 5 (branches_form a b) (Branches a b) f (branches_allow a b f na nb)

pub indirection_allows : (t : CType) (of : Qualified) → (indirection_type t ≡ Ok of) ↔ PointsTo t of
indirection_allows t of = grind arith

pub index_allows : (a b : CType) (f : BinaryForm) → (index_form a b ≡ Ok f) ↔ Indexes a b f
index_allows a b f = grind arith

pub callee_allows : (t of : CType) → (callee_type t ≡ Ok of) ↔ Calls t of
callee_allows t of = grind arith

pub cast_allows : (target from t : CType) → (cast_type target from ≡ Ok t) ↔ CastsTo target from t
cast_allows target from t = grind arith

pub sizeof_allows : (t u : CType) → (sizeof_type t ≡ Ok u) ↔ HasSize t u
sizeof_allows t u = grind arith
