-- Programs that two threads can run together.
use Rattle.std.specs.Prelude.{◌≤◌, All}
use Rattle.mid_code.specs.declared.mid.Mid.{Mid}
use Rattle.mid_code.specs.declared.mid.Mid.TheVariants.{Const, Move, Arith, Conv, PtrAdd, PtrDiff, PtrCmp, GlobAddr, FunAddr, Load, Store, VLoad, VStore, Open, Close, Jump, JumpZ, JumpN, Turn, Call, CallPtr, Return, Put, Get, Exit}
use Rattle.mid_code.specs.Valid.{IsValid}
use Rattle.mid_code.specs.Classes.{SharedProgram, all_sites, protected_functions}
use Rattle.mid_code.specs.Closed.{AreClosed}

-- an instruction of the first form of a source, as far as the two threads run programs yet
abbrev pub IsOfFirstForm : Mid → Type 0
IsOfFirstForm (Const target value) = Unit {0}
IsOfFirstForm (Move target source) = ⊥
IsOfFirstForm (Arith op ty target left right) = ⊥
IsOfFirstForm (Conv from to target source) = Unit {0}
IsOfFirstForm (PtrAdd target pointer index ty negated scale) = ⊥
IsOfFirstForm (PtrDiff target left right scale) = ⊥
IsOfFirstForm (PtrCmp op target left right) = ⊥
IsOfFirstForm (GlobAddr target object) = ⊥
IsOfFirstForm (FunAddr target function) = ⊥
IsOfFirstForm (Load target pointer) = ⊥
IsOfFirstForm (Store pointer source) = ⊥
IsOfFirstForm (VLoad target pointer) = ⊥
IsOfFirstForm (VStore pointer source) = ⊥
IsOfFirstForm (Open target cells) = ⊥
IsOfFirstForm (Close place) = ⊥
IsOfFirstForm (Jump place) = ⊥
IsOfFirstForm (JumpZ source place) = ⊥
IsOfFirstForm (JumpN source place) = ⊥
IsOfFirstForm Turn = ⊥
IsOfFirstForm (Call target function args) = ⊥
IsOfFirstForm (CallPtr target callee ty args) = ⊥
IsOfFirstForm (Return source) = ⊥
IsOfFirstForm (Put source) = Unit {0}
IsOfFirstForm (Get target) = ⊥
IsOfFirstForm (Exit source) = Unit {0}

-- a valid program whose shared sets are closed, whose sites are numbers of 16 bits, and which is of the first form
pub record HasSites (p : SharedProgram) : Type 0 where
  pub valid : IsValid p.program
  pub closed : AreClosed p
  pub limit : all_sites p ≤ 65535
  pub first_form : All (λ f. All (λ l. IsOfFirstForm l.mid) f.code) (protected_functions p.program)
