-- An activation that stands within a valid program can perform its instruction.
use Rattle.std.proofs.Common.{◌≡◌, ℕ, ◌<◌, List, [], ◌∷◌, length, Option, Some, None, Bool, true, false, refl, sym, ap, ◌∙◌, subst, arith}
use Rattle.std.specs.Prelude.{All, not, ◌==◌, slice_get, if◌then◌else◌}
use Rattle.std.proofs.lemmas.Bool.{and_parts, eqb-true}
use Rattle.srmt_base.specs.declared.ty.Ty.{Ty}
use Rattle.srmt_base.specs.declared.ty.Ty.TheVariants.{Bool as BoolTy, Char, SChar, UChar, Short, UShort, Int, UInt}
use Rattle.srmt_base.specs.Types.{IsPromoted}
use Rattle.mid_code.specs.declared.program.RegisterKind.{RegisterKind}
use Rattle.mid_code.specs.declared.program.MidFunction.{MidFunction}
use Rattle.mid_code.specs.declared.program.MidLine.{MidLine}
use Rattle.mid_code.specs.declared.program.MidProgram.{MidProgram}
use Rattle.mid_code.specs.declared.mid.Mid.{Mid}
use Rattle.mid_code.specs.declared.mid.Mid.TheVariants.{Const, Move, Arith, Conv, PtrAdd, PtrDiff, PtrCmp, GlobAddr, FunAddr, Load, Store, VLoad, VStore, Open, Close, Jump, JumpZ, JumpN, Turn, Call, CallPtr, Return, Put, Get, Exit}
use Rattle.mid_code.specs.declared.access.Access.TheVariants.{Closes}
use Rattle.mid_code.specs.Registers.{registers_list}
use Rattle.mid_code.specs.Program.{function_at, line_at}
use Rattle.mid_code.specs.Rules.{is_callable, has_arithmetic, misfits_type, type_of}
use Rattle.mid_code.specs.Valid.{IsValid}
use Rattle.mid_code.specs.Machine.{Opened, Activation, Local, Reaches, Lost, register, is_of_type, is_callee, closes}
use Rattle.mid_code.specs.Fits.{IsWithin}
use Rattle.mid_code.proofs.Keeping.{keeps}
use Rattle.mid_code.proofs.Naming.{whole, static_small, callee_of, function_kept, args_room}
use Rattle.mid_code.proofs.InstructionsFit.{DoesFit, Stands, act_fits, next_found}
use Rattle.frames.specs.Acts.{IsThere, CanEnter, IsNewest, CanAct, IsReady}

promoted : (ty : Ty) → has_arithmetic ty ≡ true → IsPromoted ty
promoted Int h = tt
promoted UInt h = tt
promoted BoolTy h = absurd (cc)
promoted Char h = absurd (cc)
promoted SChar h = absurd (cc)
promoted UChar h = absurd (cc)
promoted Short h = absurd (cc)
promoted UShort h = absurd (cc)

-- a function that is called is there
enter_callable : (program : MidProgram) (kinds : List RegisterKind) (target function : ℕ) (args : List ℕ) → IsValid program →
    is_callable program function ≡ true → misfits_type kinds target args (type_of program (function_at program function)) ≡ false →
    CanEnter program function (length args)
enter_callable program kinds target function args valid names fits =
    let callee = callee_of program function names in
    let kept = function_kept program function callee.code valid callee.found in
    let typed : misfits_type kinds target args (slice_get program.types callee.code.ty) ≡ false =
    ap (λ f. misfits_type kinds target args (type_of program f)) (sym callee.found) ∙ fits in
    record { code = callee.code; found = callee.found; few = kept.registers; room = args_room program kinds target args function callee.code kept typed }

of_type : (ty : ℕ) (f : Option MidFunction) → is_of_type ty f ≡ true → (g : MidFunction) × (f ≡ Some g) × (g.ty ≡ ty)
of_type ty None h = absurd (cc)
of_type ty (Some g) h = (g, refl, eqb-true g.ty ty h)

enter_callee : (program : MidProgram) (kinds : List RegisterKind) (target ty value : ℕ) (args : List ℕ) → IsValid program →
    misfits_type kinds target args (slice_get program.types ty) ≡ false → is_callee program ty value ≡ true → CanEnter program value (length args)
enter_callee program kinds target ty value args valid fits callable =
    let both = and_parts (is_of_type ty (function_at program value)) (not (value == program.main)) callable in
    let f = of_type ty (function_at program value) both.0 in
    let kept = function_kept program value f.0 valid f.1 in
    let typed : misfits_type kinds target args (slice_get program.types f.0.ty) ≡ false =
    ap (λ t. misfits_type kinds target args (slice_get program.types t)) f.2 ∙ fits in
    record { code = f.0; found = f.1; few = kept.registers; room = args_room program kinds target args value f.0 kept typed }

-- a `Close` names the newest open object
newest_named : (program : MidProgram) (l : Local) (place line : ℕ) (opened : List Opened) → DoesFit program l (closes place line opened) → IsNewest place opened
newest_named program l place line [] fits = fits
newest_named program l place line (newest ∷ older) fits = by_test (newest.place == place) refl fits
  where
    by_test : (b : Bool) → (newest.place == place) ≡ b → DoesFit program l (if b then Reaches (Closes newest.number) line else Lost) → newest.place ≡ place
    by_test true e fits = eqb-true newest.place place e
    by_test false e fits = absurd fits

module _ (program : MidProgram) (a : Activation) (w : IsWithin program a) (line : ℕ) where
  there : (r : ℕ) → r < length w.code.kinds → IsThere a r
  there r within = omega (arith, within, w.registers)

  all_there : (rs : List ℕ) → All (λ r. r < length w.code.kinds) rs → All (IsThere a) rs
  all_there rs within k d h = omega (arith, within k d h, w.registers)

  abbrev alone : Local
  alone = record { at = a; budget = record { turns = 0; depth = 0 } }

  -- one case for each instruction
  can_act : (mid : Mid) → IsValid program → Stands program a w line mid → CanAct program mid a
  can_act (Const target value) valid s = (there target s.rules.fields.0.there, s.rules.fields.1.0.small)
  can_act (Move target source) valid s = (there target s.rules.fields.0.there, there source s.rules.fields.1.0.there)
  can_act (Arith op ty target left right) valid s =
      let f = s.rules.fields in
      (there target f.1.1.0.there, there left f.1.1.1.0.there, there right f.1.1.1.1.0.there, promoted ty f.1.0)
  can_act (Conv from to target source) valid s =
      let f = s.rules.fields in
      (there target f.1.1.0.there, there source f.1.1.1.0.there)
  can_act (PtrAdd target pointer index ty negated scale) valid s =
      let f = s.rules.fields in
      (there target f.0.there, there pointer f.1.0.there, there index f.1.1.0.there)
  can_act (PtrDiff target left right scale) valid s =
      let f = s.rules.fields in
      (there target f.0.there, there left f.1.0.there, there right f.1.1.0.there, f.1.1.1.0)
  can_act (PtrCmp op target left right) valid s =
      let f = s.rules.fields in
      (there target f.1.0.there, there left f.1.1.0.there, there right f.1.1.1.0.there, f.0)
  can_act (GlobAddr target object) valid s = (there target s.rules.fields.0.there, static_small program object valid s.rules.fields.1.0)
  can_act (FunAddr target function) valid s = there target s.rules.fields.0.there
  can_act (Load target pointer) valid s = (there target s.rules.fields.0.there, there pointer s.rules.fields.1.0.there)
  can_act (Store pointer source) valid s = (there pointer s.rules.fields.0.there, there source s.rules.fields.1.0.there)
  can_act (VLoad target pointer) valid s = (there target s.rules.fields.0.there, there pointer s.rules.fields.1.0.there)
  can_act (VStore pointer source) valid s = (there pointer s.rules.fields.0.there, there source s.rules.fields.1.0.there)
  can_act (Open target cells) valid s = (there target s.rules.fields.0.there, s.rules.fields.1.0)
  can_act (Close place) valid s = newest_named program alone place line a.opened (act_fits program alone w line (Close place) valid s).0
  can_act (Jump place) valid s = tt
  can_act (JumpZ source place) valid s = there source s.rules.fields.0.there
  can_act (JumpN source place) valid s = there source s.rules.fields.0.there
  can_act Turn valid s = tt
  can_act (Call target function args) valid s =
      let f = s.rules.fields in (
        there target f.0.there,
        all_there (registers_list args) f.1.1.0,
        enter_callable program w.code.kinds target function (registers_list args) valid f.1.0 s.rules.fits,
      )
  can_act (CallPtr target callee ty args) valid s =
      let f = s.rules.fields in (
        there target f.0.there,
        there callee f.1.0.there,
        all_there (registers_list args) f.1.1.1.0,
        λ callable. enter_callee program w.code.kinds target ty (register a callee) (registers_list args) valid s.rules.fits callable,
      )
  can_act (Return source) valid s = there source s.rules.fields.0.there
  can_act (Put source) valid s = there source s.rules.fields.0.there
  can_act (Get target) valid s = there target s.rules.fields.0.there
  can_act (Exit source) valid s = there source s.rules.fields.0.there

-- what performing an instruction needs
pub ready_at : (program : MidProgram) (a : Activation) (line : MidLine) → IsValid program → IsWithin program a →
    line_at program a.function a.place ≡ Some line → IsReady program a line.mid
ready_at program a line valid w at =
    let next = next_found program a w in
    let same : next.0 ≡ line = cc in
    let stands : Stands program a w next.0.line next.0.mid =
    record { rules = keeps program a.function a.place w.code next.0 valid w.found next.1; here = next.1 } in
    let kept = function_kept program a.function w.code valid w.found in
    record {
      place = omega (arith, w.place, kept.limit);
      few = omega (arith, (whole program valid).few_functions);
      can = subst (λ (x : MidLine). CanAct program x.mid a) same (can_act program a w next.0.line next.0.mid valid stands);
    }
