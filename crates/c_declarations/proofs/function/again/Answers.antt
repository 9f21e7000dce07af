use Rattle.std.proofs.Common.{◌≡◌, ℕ, Bool as Test, true, false, List, Ok, Err, refl, sym, ◌∙◌, inl}
use Rattle.c_types.specs.declared.type_ref.Row.{Row}
use Rattle.c_types.specs.Types.{same_type}
use Rattle.c_types.proofs.Grown.{Extends-refl}
use Rattle.typing_rules.specs.declared.refusal.TypeRefusal.TheVariants.{Mismatch}
use Rattle.typing_rules.specs.Known as known
use Rattle.typing_rules.specs.Checking.{◌>>◌, needs, pure}
use Rattle.typing_rules.specs.OrderedDeclarations.{predeclared_again}
use Rattle.c_values.specs.declared.typed.Predeclared.{Predeclared}
use Rattle.c_values.specs.Answers.{Answers, predeclared_view}
use Rattle.c_known.specs.declared.local.Meaning.{Meaning}
use Rattle.c_known.specs.declared.local.Meaning.TheVariants as meaning
use Rattle.c_known.specs.Standing.{MeansMeaning}
use Rattle.c_known.proofs.Growing.{answers-grown}
use Rattle.c_declarations.proofs.function.again.Goals as goal

is-same : (rows : List Row) (line : ℕ) (of : Predeclared) (b : Test) → true ≡ b
    → Answers (MeansMeaning rows) (Ok (meaning.Predeclared of)) (needs b (Mismatch line 17) >> pure (known.predeclared (predeclared_view of)))
is-same rows line of true e k = (record { always = λ later more. refl }, refl)
is-same rows line of false e k = cc

is-other : (rows : List Row) (line : ℕ) (of : Predeclared) (b : Test) → false ≡ b
    → Answers {X = Meaning} (MeansMeaning rows) (Err (Mismatch line 17)) (needs b (Mismatch line 17) >> pure (known.predeclared (predeclared_view of)))
is-other rows line of true e k = cc
is-other rows line of false e k = inl refl

pub returns-then-is_one : goal.returns-then-is_one
returns-then-is_one c t h =
    let rows = c.predeclared_type.new.types in
    let same = sym c.if-is_one.true ∙ c.is_one.ensures ∙ (λ i. same_type (h.type.always rows c.in-Ok.ensures.kept i) (c.in-Ok.ensures.made.always rows (Extends-refl rows) i)) in
    answers-grown MeansMeaning c.args.known.now rows (Ok (meaning.Predeclared c.args.of)) (predeclared_again (record { line = c.args.line; bytes = c.args.name.now }) t (predeclared_view c.args.of)) c.in-Ok.ensures.kept
    (is-same rows c.args.line c.args.of (same_type t.type (known.type_of_predeclared (predeclared_view c.args.of))) same)

pub returns-else-is_one : goal.returns-else-is_one
returns-else-is_one c t h =
    let rows = c.predeclared_type.new.types in
    let other = sym c.if-is_one.false ∙ c.is_one.ensures ∙ (λ i. same_type (h.type.always rows c.in-Ok.ensures.kept i) (c.in-Ok.ensures.made.always rows (Extends-refl rows) i)) in
    answers-grown MeansMeaning c.args.known.now rows (Err (Mismatch c.args.line 17)) (predeclared_again (record { line = c.args.line; bytes = c.args.name.now }) t (predeclared_view c.args.of)) c.in-Ok.ensures.kept
    (is-other rows c.args.line c.args.of (same_type t.type (known.type_of_predeclared (predeclared_view c.args.of))) other)
