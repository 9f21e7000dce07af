-- Each function of a program is within what bounds the bodies in its files.
use Rattle.std.proofs.Common.{◌≡◌, ℕ, zero, suc, ◌≤◌, false, List, [], ◌∷◌, ◌++◌, subst, Option, Some, None, arith}
use Rattle.std.specs.Prelude.{slice_get}
use Rattle.c_types.specs.Types.{result_of}
use Rattle.c_typed.specs.Statements.{Function, TypedFile, Program}
use Rattle.source_meaning.specs.Places.{function_at}
use Rattle.source_meaning.specs.EventLaws.{events_of_items}
use Rattle.typing_rules.specs.SourceUnits.{Definition, function, declaration_of, Unit as SourceUnit}
use Rattle.typing_rules.specs.UnitRules.{nothing_known}
use Rattle.typing_rules.specs.TypingUnits.{IsFunctionDefined, AreExternals, IsFile, IsBinary, IsProgram, Types}
use Rattle.typing_rules.specs.Laws.{Each}
use Rattle.typing_rules.proofs.Exactness.{some_same}
use Rattle.typing_rules.proofs.Keeping.{each_append}
use Rattle.typing_laws.specs.LanguagePrograms.{IfThere}
use Rattle.event_laws.specs.TokensOf.{tokens_of_items, AreShort, HaveShort}
use Rattle.event_laws.proofs.Giving.{Gives, gives_is, gives_asks, gives_bind, gives_after}
use Rattle.event_laws.proofs.StatementsFew.{parts_within}

each_got : {A : Type 0} (P : A → Type 0) (xs : List A) (n : ℕ) (x : A) → Each P xs → slice_get xs n ≡ Some x → P x
each_got P [] n x h e = absurd cc
each_got P (y ∷ ys) zero x h e = subst P (some_same y x e) h.0
each_got P (y ∷ ys) (suc n) x h e = each_got P ys n x h.1 e

module _ (bound : ℕ) where
  abbrev IsShort : Function → Type 0
  IsShort f = events_of_items f.body ≤ bound

  defined_is_short : (d : Definition) → tokens_of_items d.body ≤ bound → Gives IsShort (IsFunctionDefined d)
  defined_is_short d h =
      gives_after (λ base. gives_after (λ ds. gives_after (λ type. gives_after (λ ps. gives_after (λ n. gives_after (λ u.
      gives_bind (parts_within (result_of type.type) false d.body) (λ body p. gives_after (λ locals. gives_after (λ u'.
      gives_is (omega (arith, h, p)))))))))))

  externals_are_short : (unit : SourceUnit) → AreShort bound unit → Gives (Each IsShort) (AreExternals unit)
  externals_are_short [] h = gives_is tt
  externals_are_short (function d ∷ rest) h =
      gives_bind (defined_is_short d h.0) (λ first p. gives_bind (externals_are_short rest h.1) (λ others q. gives_is (p, q)))
  externals_are_short (declaration_of d ∷ rest) h = gives_after (λ base. gives_after (λ u. externals_are_short rest h.1))

  abbrev FileIsShort : TypedFile → Type 0
  FileIsShort file = Each IsShort file.functions

  file_is_short : (unit : SourceUnit) → AreShort bound unit → Gives FileIsShort (IsFile unit)
  file_is_short unit h = gives_bind (externals_are_short unit h) (λ functions p. gives_asks (λ k. p))

  binary_is_short : (unit : Option SourceUnit) → IfThere (AreShort bound) unit → Gives FileIsShort (IsBinary unit)
  binary_is_short None h = gives_is tt
  binary_is_short (Some unit) h = gives_after (λ u. file_is_short unit h)

  abbrev ProgramIsShort : Program → Type 0
  ProgramIsShort program = FileIsShort program.main_file × FileIsShort program.binary_file

  program_is_short : (main : SourceUnit) (binary : Option SourceUnit) → HaveShort bound main binary → Gives ProgramIsShort (IsProgram main binary)
  program_is_short main binary h =
      gives_bind (file_is_short main h.0) (λ first p. gives_bind (binary_is_short binary h.1) (λ second q.
      gives_after (λ begin. gives_after (λ n. gives_after (λ u. gives_after (λ all. gives_is (p, q)))))))

  function_is_short : (program : Program) → ProgramIsShort program → (number : ℕ) (f : Function) → function_at program number ≡ Some f → IsShort f
  function_is_short program h zero f e = absurd cc
  function_is_short program h (suc before) f e =
      each_got IsShort (program.main_file.functions ++ program.binary_file.functions) before f
      (each_append IsShort program.main_file.functions program.binary_file.functions h.0 h.1) e

  pub functions_are_short : (main : SourceUnit) (binary : Option SourceUnit) (program : Program) → HaveShort bound main binary
      → Types main binary program
      → (number : ℕ) (f : Function) → function_at program number ≡ Some f → IsShort f
  unfolding Types
  functions_are_short main binary program h types =
      function_is_short program ((program_is_short main binary h).given program nothing_known types.0 types.1)
