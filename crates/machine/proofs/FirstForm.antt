-- What the instructions of a pair's program are like, those of its versions, and the requests that they make: they are
-- of the first form, and keep the rules. Each table of the proofs by instruction or by request stands here.
use Rattle.std.proofs.Common.{◌≡◌, ℕ, ◌<◌, ◌≤◌, ◌^◌, List, length, Some, ◌+◌, refl, arith, lit≤, zero, suc, ◌-◌, true, [], ◌∷◌, subst}
use Rattle.std.specs.Prelude.{IsTrue, slice_get, All, None}
use Rattle.std.proofs.lemmas.List.{length-set}
use Rattle.std.proofs.lemmas.List.Elements.{All-set, All-cons, All-nil}
use Rattle.srmt_base.specs.Convert.{convert_of}
use Rattle.srmt_base.proofs.Ranges.{convert_of-lt}
use Rattle.srmt_base.specs.declared.request_kind.RequestKind.{RequestKind}
use Rattle.srmt_base.specs.declared.request_kind.RequestKind.TheVariants.{Put as AsksPut, Exit as AsksExit}
use Rattle.srmt_base.specs.declared.side.Side.{Side}
use Rattle.srmt_base.specs.declared.side.Side.TheVariants.{Lead, Trail}
use Rattle.mid_code.specs.declared.mid.Mid.{Mid}
use Rattle.mid_code.specs.declared.mid.Mid.TheVariants.{Const, Conv, Put as PutMid, Exit as ExitMid}
use Rattle.mid_code.specs.declared.program.RegisterKind.{RegisterKind}
use Rattle.mid_code.specs.declared.program.MidLine.{MidLine}
use Rattle.mid_code.specs.declared.program.MidFunction.{MidFunction}
use Rattle.mid_code.specs.declared.program.MidProgram.{MidProgram}
use Rattle.mid_code.specs.Program.{function_at}
use Rattle.mid_code.specs.Classes.{SharedProgram, site_of, sharing_of, class_of}
use Rattle.mid_code.specs.Pairs.{IsOfFirstForm, HasSites}
use Rattle.mid_code.proofs.Keeping.{KeepsRules, keeps}
use Rattle.mid_code.specs.Machine.{Activation, Local, Does, Goes, Calls, Leaves, Traps, Reaches, Lost, register, act}
use Rattle.mid_code.specs.declared.class.Shared.{Shared}
use Rattle.mid_code.specs.declared.version.Operands.TheVariants.{One}
use Rattle.mid_code.specs.declared.version.VersionOp.{VersionOp}
use Rattle.mid_code.specs.declared.version.VersionOp.TheVariants.{Copied, Ask, Await, Act, Check, Ack, End}
use Rattle.mid_code.specs.Ways.{is_final}
use Rattle.mid_code.specs.Versions.{Table, leading, trailing, operands_list, group_of}
use Rattle.mid_code.proofs.VersionGroups.{IsSized, leading_sized, trailing_sized}
use Rattle.world.proofs.Plain.{plain_line}
use Rattle.frames.specs.Acts.{CanAct}
use Rattle.machine.specs.Fits.{IsAlone}
use Rattle.srmt_base.specs.declared.word.Site.{Site}
use Rattle.word_stream.specs.declared.request.Request.{Request}
use Rattle.word_stream.specs.declared.request.Request.TheVariants.{Put, Exit}
use Rattle.word_stream.specs.declared.request.Response.{Response}
use Rattle.word_stream.specs.Reading.{request_of}
use Rattle.world.specs.World.{Inside, is_live, ask_living}
use Rattle.machine.specs.Side.{SideState, Went}
use Rattle.machine.specs.Steps.{passed_on}
use Rattle.machine.specs.Leading.{answered}

-- an instruction of the first form whose registers are there and whose value is small
abbrev pub AreFit : List RegisterKind → Mid → Type 0
AreFit kinds (Const target value) = (target < length kinds) × (value < 2 ^ 44)
AreFit kinds (Conv from to target source) = (target < length kinds) × (source < length kinds)
AreFit kinds (PutMid source) = source < length kinds
AreFit kinds (ExitMid source) = source < length kinds
AreFit kinds _ = ⊥

kept_fit : (program : MidProgram) (n : ℕ) (f : MidFunction) (place : ℕ) (mid : Mid) → KeepsRules program n f place mid → IsOfFirstForm mid → AreFit f.kinds mid
kept_fit program n f place (Const target value) k form = (k.fields.0.there, k.fields.1.0.small)
kept_fit program n f place (Conv from to target source) k form = (k.fields.1.1.0.there, k.fields.1.1.1.0.there)
kept_fit program n f place (PutMid source) k form = k.fields.0.there
kept_fit program n f place (ExitMid source) k form = k.fields.0.there
kept_fit program n f place _ k form = absurd form

pub line_fits : (program : SharedProgram) (function : ℕ) (f : MidFunction) (place : ℕ) (l : MidLine) → HasSites program → function_at program.program function ≡ Some f → function ≤ program.program.main_functions →
    slice_get f.code place ≡ Some l → AreFit f.kinds l.mid
line_fits program function f place l sites found within at =
    kept_fit program.program function f place l.mid (keeps program.program function place f l sites.valid found at) (plain_line program sites function f place l found within at)

-- an activation has gone on to the next place, with registers that are as many and small
pub record GoesOn (a next : Activation) : Type 0 where
  pub function : next.function ≡ a.function
  pub place : next.place ≡ a.place + 1
  pub count : length next.registers ≡ length a.registers
  pub each : All (λ v. v < 2 ^ 44) next.registers

-- it goes on so, or stops the run
abbrev pub GoesAlone : Activation → Does → Type 0
GoesAlone a (Goes local) = GoesOn a local.at
GoesAlone a (Calls function args target) = ⊥
GoesAlone a (Leaves value) = ⊥
GoesAlone a (Traps trap line) = Unit {0}
GoesAlone a (Reaches access line) = ⊥
GoesAlone a Lost = ⊥

pub is_alone : (a : Activation) (d : Does) → GoesAlone a d → IsAlone d
is_alone a (Goes local) goes = tt
is_alone a (Calls function args target) goes = goes
is_alone a (Leaves value) goes = goes
is_alone a (Traps trap line) goes = tt
is_alone a (Reaches access line) goes = goes
is_alone a Lost goes = goes

-- an activation with all registers of its function can perform it, and it goes on by itself where they are small
pub record CopiedFits (kinds : List RegisterKind) (mid : Mid) : Type 0 where
  pub can : (program : MidProgram) (a : Activation) → length a.registers ≡ length kinds → CanAct program mid a
  pub goes : (program : MidProgram) (line : ℕ) (l : Local) → length l.at.registers ≡ length kinds → All (λ v. v < 2 ^ 44) l.at.registers → GoesAlone l.at (act program mid line l)

-- the instructions that both sides perform yet
abbrev pub IsCopiedYet : Mid → Type 0
IsCopiedYet (Const target value) = Unit {0}
IsCopiedYet (Conv from to target source) = Unit {0}
IsCopiedYet _ = ⊥

pub copied_fits : (kinds : List RegisterKind) (mid : Mid) → AreFit kinds mid → IsCopiedYet mid → CopiedFits kinds mid
copied_fits kinds (Const target value) fit yet = record {
  can = λ program a count. (omega (arith, count, fit.0), fit.1);
  goes = λ program line l count each. record {
    function = refl;
    place = refl;
    count = length-set l.at.registers target value;
    each = All-set (λ v. v < 2 ^ 44) l.at.registers target value fit.1 each;
  };
}
copied_fits kinds (Conv from to target source) fit yet = record {
  can = λ program a count. (omega (arith, count, fit.0), omega (arith, count, fit.1));
  goes = λ program line l count each. (
      let value = convert_of from to (register l.at source) in
      let small : convert_of from to (register l.at source) < 2 ^ 44 = omega (arith, convert_of-lt from to (register l.at source)) in
      record {
        function = refl;
        place = refl;
        count = length-set l.at.registers target value;
        each = All-set (λ v. v < 2 ^ 44) l.at.registers target value small each;
      }
      );
}
copied_fits kinds _ fit yet = absurd yet

-- the table by which a side's version is made
abbrev pub table_of : Side → Table
table_of Lead = leading
table_of Trail = trailing

pub table_sized : (side : Side) → IsSized (table_of side)
table_sized Lead = leading_sized
table_sized Trail = trailing_sized

-- the kinds of requests that are asked yet
abbrev pub IsServed : RequestKind → Type 0
IsServed AsksPut = Unit {0}
IsServed AsksExit = Unit {0}
IsServed _ = ⊥

-- the side ends with such a request, unless it ends before
abbrev pub acts_last : RequestKind → Type 0
acts_last AsksExit = Unit {0}
acts_last _ = ⊥

-- a side that goes on once a request was answered has passed its instruction
pub record PassesOn (kind : RequestKind) (s s' : SideState) : Type 0 where
  pub passed : passed_on s ≡ s'
  pub not_last : acts_last kind → ⊥

-- the request of such a kind
pub record Served (kind : RequestKind) (site : Site) (value : ℕ) : Type 0 where
  pub request : Request
  pub is : request_of kind site value ≡ Some request
  pub goes : (response : Response) (s s' : SideState) → answered request response s ≡ Went s' → PassesOn kind s s'

pub served : (kind : RequestKind) (site : Site) (value : ℕ) → IsServed kind → Served kind site value
served AsksPut site value is = record {
  request = Put site value;
  is = refl;
  goes = λ response s s' h. record { passed = (let e : Went (passed_on s) ≡ Went s' = h in cc); not_last = λ none. none };
}
served AsksExit site value is = record { request = Exit site value; is = refl; goes = λ response s s' h. absurd (cc) }
served _ site value is = absurd is

-- and its world lives on
pub lives_on : (request : Request) (response : Response) (s s' : SideState) (inside : Inside) → answered request response s ≡ Went s' → IsTrue (is_live (ask_living inside request).world)
lives_on (Put site value) response s s' inside h = refl
lives_on (Exit site value) response s s' inside h = absurd (cc)

-- the side ends with this instruction, unless it ends before
abbrev pub IsLast : VersionOp → Type 0
IsLast (Act site request target function args) = acts_last request
IsLast (End source) = Unit {0}
IsLast _ = ⊥

-- the operands of an exchange: there are some, no more than a call has, and their registers are there
pub record ArgsFit (kinds : List RegisterKind) (args : List ℕ) : Type 0 where
  pub some : 1 ≤ length args
  pub few : length args ≤ 17
  pub each : All (λ a. a < length kinds) args

pub record ActFits (kinds : List RegisterKind) (request : RequestKind) (args : List ℕ) : Type 0 where
  pub args_fit : ArgsFit kinds args
  pub served : IsServed request

-- an instruction of a side's version; those of the other side never stand there
abbrev pub OpFits : Side → List RegisterKind → VersionOp → Type 0
OpFits side kinds (Copied mid) = CopiedFits kinds mid
OpFits Lead kinds (Ask site args) = ArgsFit kinds (operands_list args)
OpFits Lead kinds (Await site args) = ArgsFit kinds (operands_list args)
OpFits Lead kinds (Act site request target function args) = ActFits kinds request (operands_list args)
OpFits Lead kinds _ = ⊥
OpFits Trail kinds (Check site source) = source < length kinds
OpFits Trail kinds (Ack site args) = ArgsFit kinds (operands_list args)
OpFits Trail kinds (End source) = source < length kinds
OpFits Trail kinds _ = ⊥

-- all of a list, by recursion
abbrev pub Each : (VersionOp → Type 0) → List VersionOp → Type 0
Each P [] = Unit {0}
Each P (op ∷ ops) = P op × Each P ops

pub each_at : (P : VersionOp → Type 0) (ops : List VersionOp) (k : ℕ) (op : VersionOp) → Each P ops → slice_get ops k ≡ Some op → P op
each_at P [] k op all at = absurd (cc)
each_at P (x ∷ xs) zero op all at = let same : x ≡ op = cc in subst P same all.0
each_at P (x ∷ xs) (suc k) op all at = each_at P xs k op all.1 at

-- the group of an instruction: each of it fits; that of a final one ends with one after which the side ends
pub record GroupFits (side : Side) (kinds : List RegisterKind) (mid : Mid) (group : List VersionOp) : Type 0 where
  pub each : Each (OpFits side kinds) group
  pub last : is_final mid ≡ true → (op : VersionOp) → slice_get group (length group - 1) ≡ Some op → IsLast op

one_arg : (kinds : List RegisterKind) (source : ℕ) → source < length kinds → ArgsFit kinds (source ∷ [])
one_arg kinds source fit = record {
  some = lit≤ tt;
  few = lit≤ tt;
  each = All-cons (λ a. a < length kinds) source [] fit (All-nil (λ a. a < length kinds));
}

module _ (mains n place : ℕ) (shared : Shared) (moved : ℕ → ℕ) where
  -- the group that stands for an instruction
  abbrev pub group_for : Side → Mid → List VersionOp
  group_for side mid = group_of (table_of side) moved place (class_of n (sharing_of mains shared place mid)) mid

  copied_group : (side : Side) (kinds : List RegisterKind) (mid : Mid) → AreFit kinds mid → (is_final mid ≡ true → ⊥) → IsCopiedYet mid → GroupFits side kinds mid (Copied mid ∷ [])
  copied_group side kinds mid fit not_final yet = record {
    each = (copied_fits kinds mid fit yet, tt);
    last = λ final op at. absurd (not_final final);
  }

  pub group_fits : (side : Side) (kinds : List RegisterKind) (mid : Mid) → AreFit kinds mid → GroupFits side kinds mid (group_for side mid)
  group_fits Lead kinds (Const target value) fit = copied_group Lead kinds (Const target value) fit (λ h. cc) tt
  group_fits Lead kinds (Conv from to target source) fit = copied_group Lead kinds (Conv from to target source) fit (λ h. cc) tt
  group_fits Lead kinds (PutMid source) fit =
      let args = one_arg kinds source fit in
      record { each = (args, (args, (record { args_fit = args; served = tt }, tt))); last = λ final op at. absurd (cc) }
  group_fits Lead kinds (ExitMid source) fit =
      let args = one_arg kinds source fit in
      record {
        each = (args, (args, (record { args_fit = args; served = tt }, tt)));
        last = λ final op at. let same : Act (site_of n) AsksExit None None (One source) ≡ op = cc in subst IsLast same tt;
      }
  group_fits Lead kinds _ fit = absurd fit
  group_fits Trail kinds (Const target value) fit = copied_group Trail kinds (Const target value) fit (λ h. cc) tt
  group_fits Trail kinds (Conv from to target source) fit = copied_group Trail kinds (Conv from to target source) fit (λ h. cc) tt
  group_fits Trail kinds (PutMid source) fit = record { each = (fit, (one_arg kinds source fit, tt)); last = λ final op at. absurd (cc) }
  group_fits Trail kinds (ExitMid source) fit =
      record { each = (fit, (one_arg kinds source fit, (fit, tt))); last = λ final op at. let same : End source ≡ op = cc in subst IsLast same tt }
  group_fits Trail kinds _ fit = absurd fit
