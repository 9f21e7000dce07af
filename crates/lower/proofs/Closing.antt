-- Objects that end, the newest first.
use Rattle.std.proofs.Common.{◌≡◌, ℕ, List, [], ◌∷◌, ◌++◌, length, reverse, Bool, true, false, Some, None, Ok, refl, sym, ◌∙◌, ap, subst, arith}
use Rattle.std.specs.Prelude.{⊤, if◌then◌else◌}
use Rattle.std.proofs.lemmas.List.{reverse-append}
use Rattle.mid_code.specs.declared.mid.Mid.TheVariants as mid
use Rattle.c_types.specs.declared.type_ref.Row.{Row}
use Rattle.lower.specs.declared.body.Body.{Body}
use Rattle.lower.specs.declared.emitter.Emitter.{Emitter}
use Rattle.lower.specs.declared.allotted.Allotted.{Allotted as CodeAllotted}
use Rattle.lower.specs.Emitting.{Line, at_line, Code, Around, ◌>>=◌, emits_code}
use Rattle.lower.specs.SoFar.{Leads, leads_of, Lines, added, with_line, grown}
use Rattle.lower.specs.Drafts.{code_of}
use Rattle.lower.specs.Emits.{AllStand, allotted_view, nothing, emits_mid}
use Rattle.lower.specs.Statements.{closes, returns}
use Rattle.lower.specs.Expressions.{Inside}
use Rattle.lower.specs.Runs.{around_of, SameObjects, GrowsAround, Runs}
use Rattle.lower.specs.Bodies.{Closing}
use Rattle.lower.proofs.Growing.{added-none, added-append}

pub close-last : (line : ℕ) (before rest : List ℕ) (x : ℕ) (old new : Lines) → before ≡ rest ++ x ∷ [] → new ≡ with_line (at_line line (mid.Close x)) old
    → added (closes line (reverse rest)) new ≡ added (closes line (reverse before)) old
close-last line before rest x old new is h =
    ap (added (closes line (reverse rest))) h
    ∙ ap (λ (opened : List ℕ). added (closes line opened) old) (sym (ap reverse is ∙ reverse-append rest (x ∷ [])))

pub close-done : (line : ℕ) (rest : List ℕ) (s : Lines) → length rest ≡ 0 → s ≡ added (closes line (reverse rest)) s
close-done line [] s none = refl
close-done line (x ∷ rest) s none = absurd (omega (arith, none))

pub closes-append : (line : ℕ) (xs ys : List ℕ) → closes line (xs ++ ys) ≡ closes line xs ++ closes line ys
closes-append line [] ys = refl
closes-append line (x ∷ xs) ys = ap (λ ls. at_line line (mid.Close x) ∷ ls) (closes-append line xs ys)

-- code that does not depend on its place
pub added-grown : (around : Around) (c : Code) (ls : List Line) (s : Lines) → ((start : ℕ) → c around start ≡ ls) → added ls s ≡ grown around c s
added-grown around c ls None is = added-none ls
added-grown around c ls (Some xs) is = ap (λ z. added z (Some xs)) (sym (is (length xs)))

pub closed-both : (line : ℕ) (xs ys : List ℕ) (old mid new : Emitter) → Closing line xs old mid → Closing line ys mid new → Closing line (xs ++ ys) old new
closed-both line xs ys old mid new first next = record {
  allotted = next.allotted ∙ first.allotted;
  grown = λ leads.
      next.grown leads ∙ ap (added (closes line ys)) (first.grown leads) ∙ sym (added-append (closes line xs) (closes line ys) (code_of old.code leads))
      ∙ ap (λ (ls : List Line). added ls (code_of old.code leads)) (sym (closes-append line xs ys));
}

-- code that depends on what stands around is emitted
pub emitted-around : (rows : List Row) (old new : Body) (c : Code) (x : ⊤) → new.out.allotted ≡ old.out.allotted → SameObjects old new
    → GrowsAround c old new → Runs nothing rows old new (Ok x) (emits_code c)
emitted-around rows old new c x allotted same grows = record {
  is = λ stand. (refl, ap (allotted_view rows) (sym allotted), same, grows, subst (λ (a : CodeAllotted). AllStand rows a.types.keys) (sym allotted) stand);
}

-- a jump of a loop behind the objects that end
pub left : (rows : List Row) (line : ℕ) (old new : Body) (out : Emitter) (c : Code) (l : Leads → Line) (x : ⊤)
    → Closing line (reverse old.objects.items) old.out out
    → new.out.allotted ≡ out.allotted → SameObjects old new
    → ((leads : List Leads) → code_of new.out.code leads ≡ with_line (l (leads_of leads)) (code_of out.code leads))
    → ((leads : List Leads) (start : ℕ) → c (around_of old leads) start ≡ closes line (reverse old.objects.items) ++ l (leads_of leads) ∷ [])
    → Runs nothing rows old new (Ok x) (emits_code c)
left rows line old new out c l x closed allotted same jumped is =
    emitted-around rows old new c x (allotted ∙ closed.allotted) same (λ leads.
    jumped leads ∙ ap (with_line (l (leads_of leads))) (closed.grown leads)
    ∙ sym (added-append (closes line (reverse old.objects.items)) (l (leads_of leads) ∷ []) (code_of old.out.code leads))
    ∙ added-grown (around_of old leads) c (closes line (reverse old.objects.items) ++ l (leads_of leads) ∷ []) (code_of old.out.code leads) (is leads))

-- all objects end
pub all-closed : (rows : List Row) (line : ℕ) (old new : Body) (out : Emitter) (x : ⊤) → Closing line (reverse old.objects.items) old.out out
    → Closing line (reverse old.outside.items) out new.out → SameObjects old new
    → Runs nothing rows old new (Ok x) (emits_code (λ around start. closes line around.in_function))
all-closed rows line old new out x first next same =
    let both = closed-both line (reverse old.objects.items) (reverse old.outside.items) old.out out new.out first next in
    emitted-around rows old new (λ around start. closes line around.in_function) x both.allotted same (λ leads.
    both.grown leads ∙ added-grown (around_of old leads) (λ around start. closes line around.in_function)
    (closes line (reverse old.objects.items ++ reverse old.outside.items)) (code_of old.out.code leads) (λ start. refl))

-- `return` behind its value: `main` is left by `exit`
pub returns-by : (i : Inside) (line r : ℕ) (b : Bool) → i.is_main ≡ b
    → emits_code (returns i line r)
    ≡ emits_code (λ around start. if b then at_line line (mid.Exit r) ∷ [] else closes line around.in_function ++ at_line line (mid.Return r) ∷ [])
returns-by i line r b is =
    ap (λ (z : Bool). emits_code (λ around start. if z then at_line line (mid.Exit r) ∷ [] else closes line around.in_function ++ at_line line
    (mid.Return r) ∷ [])) is

pub returns-exit : (i : Inside) (line r : ℕ) → i.is_main ≡ true → emits_code (returns i line r) ≡ emits_mid line (mid.Exit r)
returns-exit i line r is = returns-by i line r true is

pub returns-return : (i : Inside) (line r : ℕ) → i.is_main ≡ false
    → emits_code (returns i line r) ≡ (emits_code (λ around start. closes line around.in_function) >>= (λ done. emits_mid line (mid.Return r)))
unfolding ◌>>=◌
returns-return i line r is = returns-by i line r false is
