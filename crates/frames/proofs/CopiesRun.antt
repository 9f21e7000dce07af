-- Copied instructions that an activation performs by itself are performed by its machine.
use Rattle.std.proofs.Common.{◌≡◌, ℕ, zero, suc, List, [], length, Option, Some, None, refl, sym, ap, ap₂, ◌∙◌, subst}
use Rattle.std.specs.Prelude.{All}
use Rattle.srmt_base.specs.declared.budgets.Budget.{Budget}
use Rattle.srmt_base.specs.declared.budgets.Budgets.{Budgets}
use Rattle.srmt_base.specs.declared.part.Part.{Part}
use Rattle.srmt_base.specs.declared.side.Side.{Side}
use Rattle.srmt_base.specs.Budgets.{budget_of, with_budget}
use Rattle.mid_code.specs.declared.mid.Mid.{Mid}
use Rattle.mid_code.specs.declared.version.VersionLine.{VersionLine}
use Rattle.mid_code.specs.declared.version.VersionOp.TheVariants.{Copied}
use Rattle.mid_code.specs.Classes.{SharedProgram}
use Rattle.mid_code.specs.Versions.{version_at}
use Rattle.mid_code.specs.Fits.{IsValue}
use Rattle.mid_code.specs.Machine.{Local, Machine, part_of_function, local_of, with_local, act}
use Rattle.frames.specs.declared.alone.Stand.{Stand}
use Rattle.frames.specs.Alone.{local_at, IsHeld, HasStepped}
use Rattle.frames.specs.Copied.{versions_of, IsKept, CanCopy, Copies, HasCopied, CopiesNone, CopiesMany, CopiesOn, IsHeldOn, CopiesManyOn}
use Rattle.frames.proofs.Gone.{same_budget}
use Rattle.frames.proofs.AloneRuns.{alone_at, budget_back, budget_again}

-- an instruction that the code has tried
pub copied_by : (side : Side) (program : SharedProgram) (function : ℕ) (before : List ℕ) (from : Stand) (after : List ℕ) (line : VersionLine) (mid : Mid) →
    version_at (versions_of side program) function from.place ≡ Some line → line.op ≡ Copied mid → CanCopy mid (length before) → All IsValue before →
    (result : Option Stand) → HasStepped mid before from after result → HasCopied side program function before from after result
copied_by side program function before from after line mid at copied can small (Some to) goes =
    let l = alone_at function [] before from in (
      record { line = line; mid = mid; at = at; copied = copied; goes = goes },
      can.keeps program.program line.line (local_at l before from) (local_at l after to) refl small (goes program.program line.line l),
    )
copied_by side program function before from after line mid at copied can small None held = (
  held.0,
  λ l m at' copied'. (
      let both : Some line ≡ Some l = sym at ∙ at' in
      let same : line ≡ l = cc in
      let ops : Copied mid ≡ Copied m = sym copied ∙ ap (λ (x : VersionLine). x.op) same ∙ copied' in
      let mids : mid ≡ m = cc in
      subst (λ x. IsHeld x before from) mids held.1
      ),
)

-- one more than so many, which keeps what they kept
pub kept_more : (first before after : List ℕ) → IsKept first before → IsKept before after → IsKept first after
kept_more first before after so_far more = record { count = more.count ∙ so_far.count; each = more.each }

module _ (side : Side) (program : SharedProgram) (m : Machine) where
  -- the machine, whose newest activation has these registers and stands there
  abbrev pub machine_at : List ℕ → Stand → Machine
  machine_at registers stand = with_local program.program (local_at (local_of program.program m) registers stand) m

  on_machine : (before after : List ℕ) (from to : Stand) → Copies side program m.top.function before from after to → CopiesOn side program (machine_at before from) (machine_at after to)
  on_machine before after from to c =
      let p = program.program in
      let l : Local = local_at (local_of p m) before from in
      let next : Local = local_at (local_of p m) after to in
      let part = part_of_function p m.top.function in
      let same : local_of p (with_local p l m) ≡ l = ap (λ (b : Budget). record { at = l.at; budget = b }) (budget_back part l.budget m.budgets) in
      record {
        line = c.line;
        mid = c.mid;
        local = next;
        at = c.at;
        copied = c.copied;
        goes = ap (act p c.mid c.line.line) same ∙ c.goes p c.line.line (local_of p m);
        leads = ap (λ (b : Budgets). record m { top = next.at; budgets = b }) (sym (budget_again part l.budget next.budget m.budgets));
      }

  many_on : (n : ℕ) (before after : List ℕ) (from to : Stand) → CopiesMany side program m.top.function n before from after to → CopiesManyOn side program n (machine_at before from) (machine_at after to)
  many_on zero before after from to c = ap₂ machine_at c.0 c.1
  many_on (suc n) before after from to c = (machine_at c.0 c.1, many_on n before c.0 from c.1 c.2, on_machine c.0 after c.1 to c.3)

  -- where none can be performed, the machine is held
  held_on : (own : List ℕ) (end : Stand) → CopiesNone side program m.top.function own end → IsHeldOn side program (machine_at own end)
  held_on own end none line mid local at copied goes =
      let p = program.program in
      let l : Local = local_at (local_of p m) own end in
      let part = part_of_function p m.top.function in
      let same : local_of p (with_local p l m) ≡ l = ap (λ (b : Budget). record { at = l.at; budget = b }) (budget_back part l.budget m.budgets) in
      none line mid at copied p line.line (local_of p m) local (ap (act p mid line.line) (sym same) ∙ goes)

  -- the machine after its newest activation has performed so many
  pub copies_whole : (n : ℕ) (registers own : List ℕ) (end : Stand) (part : Part) (left : Budget) (budgets : Budgets) (after : Machine) →
      part ≡ part_of_function program.program m.top.function → left ≡ budget_of part m.budgets → m.top.registers ≡ registers →
      budgets ≡ with_budget part (record { turns = end.turns; depth = left.depth }) m.budgets →
      after ≡ record m { top = record m.top { place = end.place; registers = own }; budgets = budgets } →
      CopiesMany side program m.top.function n registers (record { place = m.top.place; turns = left.turns }) own end →
      CopiesManyOn side program n m after × (CopiesNone side program m.top.function own end → IsHeldOn side program after)
  copies_whole n registers own end part left budgets after part_is left_is own_is budgets_is after_is copies =
      let p = part_of_function program.program m.top.function in
      let budget : left ≡ budget_of p m.budgets = left_is ∙ ap (λ q. budget_of q m.budgets) part_is in
      let first : machine_at registers (record { place = m.top.place; turns = left.turns }) ≡ m =
      ap₂ (λ rs (b : Budget). machine_at rs (record { place = m.top.place; turns = b.turns })) (sym own_is) budget ∙ ap (λ (b : Budgets). record m { budgets = b }) (same_budget p m.budgets) in
      let spent_so : with_budget p (record { turns = end.turns; depth = (budget_of p m.budgets).depth }) m.budgets ≡ budgets =
      ap (λ (b : Budget). with_budget p (record { turns = end.turns; depth = b.depth }) m.budgets) (sym budget)
      ∙ ap (λ q. with_budget q (record { turns = end.turns; depth = left.depth }) m.budgets) (sym part_is) ∙ sym budgets_is in
      let last : machine_at own end ≡ after =
      ap (λ (b : Budgets). record m { top = record m.top { place = end.place; registers = own }; budgets = b }) spent_so ∙ sym after_is in
      let all = many_on n registers own (record { place = m.top.place; turns = left.turns }) end copies in (
        subst (λ (x : Machine). CopiesManyOn side program n m x) last (subst (λ (x : Machine). CopiesManyOn side program n x (machine_at own end)) first all),
        λ none. subst (IsHeldOn side program) last (held_on own end none),
      )
