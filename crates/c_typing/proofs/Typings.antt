-- What is answered in the order of checking, by the relation of typing.
use Rattle.std.proofs.Common.{◌≡◌, Result, Ok, Err, Option, sym, ◌∙◌, inl, inr}
use Rattle.std.specs.Prelude.{IfOk}
use Rattle.c_typed.specs.declared.program.TypedProgram.{TypedProgram}
use Rattle.c_typed.specs.Statements.{Program}
use Rattle.c_typed.specs.StatementViews.{program_view}
use Rattle.typing_rules.specs.declared.refusal.TypeRefusal.{TypeRefusal}
use Rattle.typing_rules.specs.SourceUnits.{Unit as SourceUnit}
use Rattle.typing_rules.specs.OrderedUnits.{checked}
use Rattle.typing_rules.specs.TypingUnits.{Types}
use Rattle.typing_rules.proofs.Exactness.{allowed_same, refused_no_ok}
use Rattle.typing_rules.proofs.UnitsExact.{typing_is_exact_of}
use Rattle.c_typing.specs.Files.{Checks, Finds}

module _ (main : SourceUnit) (binary : Option SourceUnit) where
  pub is-typed : (r : Result TypedProgram TypeRefusal) → Checks r (checked main binary) → IfOk r (λ p. Types main binary (program_view p))
  is-typed (Ok p) is = (typing_is_exact_of main binary (program_view p)).0 is
  is-typed (Err refusal) is = tt

  pub is-found : (r : Result TypedProgram TypeRefusal) → Checks r (checked main binary) → (program : Program) → Types main binary program → Finds r program
  is-found (Ok p) is program has = allowed_same (program_view p) program (sym is ∙ (typing_is_exact_of main binary program).1 has)
  is-found (Err refusal) (inl is) program has = absurd (refused_no_ok refusal program (sym is ∙ (typing_is_exact_of main binary program).1 has))
  is-found (Err refusal) (inr memory) program has = memory
