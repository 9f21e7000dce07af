-- The set of all is closed.
use Rattle.std.proofs.Common.{◌≡◌, ℕ, zero, suc, ◌<◌, List, [], ◌∷◌, length, get_or, map, take, Option, Some, None, Bool, true, false, sym, ap, ◌∙◌, subst}
use Rattle.std.specs.Prelude.{slice_get, unwrap_or, option_map}
use Rattle.std.proofs.lemmas.List.{length-map}
use Rattle.std.proofs.lemmas.Option.{slice_get-map, slice_get-get_or}
use Rattle.mid_code.specs.declared.class.Shared.{Shared}
use Rattle.mid_code.specs.declared.mid.Mid.{Mid}
use Rattle.mid_code.specs.declared.mid.Mid.TheVariants.{Const, Move, Arith, Conv, PtrAdd, PtrDiff, PtrCmp, GlobAddr, FunAddr, Load, Store, VLoad, VStore, Open, Close, Jump, JumpZ, JumpN, Turn, Call, CallPtr, Return, Put, Get, Exit}
use Rattle.mid_code.specs.declared.program.RegisterKind.{RegisterKind}
use Rattle.mid_code.specs.declared.program.RegisterKind.TheVariants.{Number, Address}
use Rattle.mid_code.specs.declared.program.MidLine.{MidLine}
use Rattle.mid_code.specs.declared.program.MidFunction.{MidFunction}
use Rattle.mid_code.specs.declared.program.MidProgram.{MidProgram}
use Rattle.mid_code.specs.Registers.{registers_list}
use Rattle.mid_code.specs.Rules.{same_kind}
use Rattle.mid_code.specs.Ways.{begins_object}
use Rattle.mid_code.specs.Valid.{IsValid}
use Rattle.mid_code.specs.Classes.{is_marked, protected_functions}
use Rattle.mid_code.specs.Closed.{IsShared, AreShared, AreAlike, KeepsShared, IsClosed, AreClosed, all_of, everything_shared}
use Rattle.mid_code.proofs.Keeping.{KeepsRules, keeps, same_kinds}

-- what is marked of a row is what its test says
marked : {X : Type 0} (test : X → Bool) (xs : List X) (k : ℕ) → is_marked (map test xs) k ≡ unwrap_or (option_map test (slice_get xs k)) false
marked test xs k = ap (λ o. unwrap_or o false) (slice_get-map test xs k)

marked_at : {X : Type 0} (test : X → Bool) (xs : List X) (k : ℕ) (x : X) → slice_get xs k ≡ Some x → is_marked (map test xs) k ≡ test x
marked_at test xs k x at = marked test xs k ∙ ap (λ o. unwrap_or (option_map test o) false) at

address_by : (found : Option RegisterKind) → unwrap_or (option_map (same_kind Address) found) false ≡ true → found ≡ Some Address
address_by None h = absurd (cc)
address_by (Some kind) h = ap (λ k. Some k) (sym (same_kinds Address kind h))

all_shared : (f : MidFunction) (register : ℕ) → IsShared f (all_of f) register
all_shared f register is = marked_at (same_kind Address) f.kinds register Address is

all_are : (f : MidFunction) (registers : List ℕ) → AreShared f (all_of f) registers
all_are f [] = tt
all_are f (r ∷ rs) = (all_shared f r, all_are f rs)

two_alike : (f : MidFunction) (left right : ℕ) → slice_get f.kinds left ≡ Some Address → slice_get f.kinds right ≡ Some Address → AreAlike f (all_of f) left right
two_alike f left right is_left is_right = all_shared f left is_left ∙ sym (all_shared f right is_right)

-- registers of one kind
kind_alike : (f : MidFunction) (target source : ℕ) → target < length f.kinds → ((kind : RegisterKind) → slice_get f.kinds target ≡ Some kind → slice_get f.kinds source ≡ Some kind) → AreAlike f (all_of f) target source
kind_alike f target source there same =
    let kind = get_or f.kinds target Number in
    let is : slice_get f.kinds target ≡ Some kind = slice_get-get_or f.kinds target Number there in
    marked_at (same_kind Address) f.kinds target kind is ∙ sym (marked_at (same_kind Address) f.kinds source kind (same kind is))

keeps_all : (program : MidProgram) (number : ℕ) (f : MidFunction) (place line : ℕ) (mid : Mid) → slice_get f.code place ≡ Some (record { line = line; mid = mid }) → KeepsRules program number f place mid → KeepsShared f (all_of f) place mid
keeps_all program number f place line (Const target value) at k = tt
keeps_all program number f place line (Move target source) at k = kind_alike f target source k.fields.0.there k.fields.1.0.kind
keeps_all program number f place line (Arith op ty target left right) at k = tt
keeps_all program number f place line (Conv from to target source) at k = tt
keeps_all program number f place line (PtrAdd target pointer index ty negated scale) at k = two_alike f target pointer k.fields.0.kind k.fields.1.0.kind
keeps_all program number f place line (PtrDiff target left right scale) at k = two_alike f left right k.fields.1.0.kind k.fields.1.1.0.kind
keeps_all program number f place line (PtrCmp op target left right) at k = two_alike f left right k.fields.1.1.0.kind k.fields.1.1.1.0.kind
keeps_all program number f place line (GlobAddr target object) at k = all_shared f target
keeps_all program number f place line (FunAddr target callee) at k = tt
keeps_all program number f place line (Load target pointer) at k = all_shared f target
keeps_all program number f place line (Store pointer source) at k = all_shared f source
keeps_all program number f place line (VLoad target pointer) at k = (all_shared f target, all_shared f pointer)
keeps_all program number f place line (VStore pointer source) at k = (all_shared f pointer, all_shared f source)
keeps_all program number f place line (Open target cells) at k =
    marked_at (λ l. begins_object l.mid) f.code place (record { line = line; mid = Open target cells }) at ∙ sym (all_shared f target k.fields.0.kind)
keeps_all program number f place line (Close begun) at k = tt
keeps_all program number f place line (Jump target) at k = tt
keeps_all program number f place line (JumpZ source target) at k = tt
keeps_all program number f place line (JumpN source target) at k = tt
keeps_all program number f place line Turn at k = tt
keeps_all program number f place line (Call target callee args) at k = (all_shared f target, all_are f (registers_list args))
keeps_all program number f place line (CallPtr target callee ty args) at k = (all_shared f target, all_are f (registers_list args))
keeps_all program number f place line (Return source) at k = all_shared f source
keeps_all program number f place line (Put source) at k = tt
keeps_all program number f place line (Get target) at k = tt
keeps_all program number f place line (Exit source) at k = tt

closed_of : (program : MidProgram) (number : ℕ) (f : MidFunction) (parameters : ℕ) → ((place : ℕ) (l : MidLine) → slice_get f.code place ≡ Some l → KeepsRules program number f place l.mid) → IsClosed f (all_of f) parameters
closed_of program number f parameters rules = record {
  registers = length-map f.kinds (same_kind Address);
  places = length-map f.code (λ l. begins_object l.mid);
  addresses = λ register is. address_by (slice_get f.kinds register) (sym (marked (same_kind Address) f.kinds register) ∙ is);
  opens = λ place l at is. sym (marked_at (λ m. begins_object m.mid) f.code place l at) ∙ is;
  params = λ register below. all_shared f register;
  each = λ place l at. keeps_all program number f place l.line l.mid at (rules place l at);
}

-- what stands among the first of a list stands in the list, at the same index
pub taken_get : {X : Type 0} (n : ℕ) (xs : List X) (k : ℕ) (x : X) → slice_get (take n xs) k ≡ Some x → slice_get xs k ≡ Some x
taken_get zero xs k x at = absurd (cc)
taken_get (suc n) [] k x at = absurd (cc)
taken_get (suc n) (y ∷ ys) zero x at = at
taken_get (suc n) (y ∷ ys) (suc k) x at = taken_get n ys k x at

one_of : (fs : List MidFunction) (index : ℕ) (f : MidFunction) (s : Shared) → slice_get fs index ≡ Some f → slice_get (map all_of fs) index ≡ Some s → all_of f ≡ s
one_of fs index f s at at_shared =
    let same : Some (all_of f) ≡ Some s = sym (ap (option_map all_of) at) ∙ sym (slice_get-map all_of fs index) ∙ at_shared in
    cc

pub everything_closed : (program : MidProgram) → IsValid program → AreClosed (everything_shared program)
everything_closed program valid = record {
  count = length-map (protected_functions program) all_of;
  each = λ index f s type at at_shared typed.
      subst (λ t. IsClosed f t (length type.params)) (one_of (protected_functions program) index f s at at_shared)
      (closed_of program (suc index) f (length type.params) (λ place l here. keeps program (suc index) place f l valid (taken_get program.main_functions program.functions index f at) here));
}
