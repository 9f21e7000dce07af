-- Initializers keep an invariant.
use Rattle.std.proofs.Common.{ℕ, suc, ◌+◌, Bool as Test, Option, Some, None}
use Rattle.c_types.specs.Types.{CType, void, integer, pointer, array, returning, taking, Qualified, cells_of}
use Rattle.typing_rules.specs.Source.{Expr, line_of}
use Rattle.typing_rules.specs.SourceUnits.{Initial, single, braced, Initials, no_initials, first_initial}
use Rattle.typing_rules.specs.Known.{Known}
use Rattle.typing_rules.specs.DeclarationRules.{TextAt, text_for}
use Rattle.typing_rules.specs.TypingDeclarations.{IsValueOf, IsScalar, IsTextGiven, AreSingleCells, AreCellsGiven, AreItemsGiven, IsInitialized}
use Rattle.room_laws.proofs.Keeping.{Keeps, Stays, keeps_is, keeps_never, keeps_given, keeps_such, keeps_bind, keeps_either}
use Rattle.room_laws.proofs.PartsKeep.{keeps_written}
use Rattle.room_laws.proofs.TermsKeep.{keeps_term}

module _ {I : Known → Type 0} (stays : Stays I) where
  pub keeps_value : (e : Expr) → Keeps I (IsValueOf e)
  keeps_value e = keeps_written stays (line_of e) (keeps_term stays e)

  keeps_scalar : (is_static : Test) (type : CType) (index : ℕ) (e : Expr) → Keeps I (IsScalar is_static type index e)
  keeps_scalar is_static type index e = keeps_bind (keeps_value e) (λ a. keeps_bind keeps_such (λ form. keeps_bind keeps_given (λ u. keeps_is)))

  keeps_text_given : (element : CType) (n : Option ℕ) (index : ℕ) (t : Option TextAt) → Keeps I (IsTextGiven element n index t)
  keeps_text_given element n index None = keeps_never
  keeps_text_given element n index (Some t) = keeps_bind keeps_given (λ u. keeps_is)

  keeps_single : (is_static : Test) (type : CType) (index : ℕ) (e : Expr) → Keeps I (AreSingleCells is_static type index e)
  keeps_single is_static (array q t n) index e = keeps_text_given t n index (text_for t e)
  keeps_single is_static (returning q t) index e = keeps_never
  keeps_single is_static (taking p t) index e = keeps_never
  keeps_single is_static void index e = keeps_scalar is_static void index e
  keeps_single is_static (integer ty) index e = keeps_scalar is_static (integer ty) index e
  keeps_single is_static (pointer q t) index e = keeps_scalar is_static (pointer q t) index e

  mutual
    unfolding AreCellsGiven

    pub keeps_cells : (is_static : Test) (type : CType) (index : ℕ) (x : Initial) → Keeps I (AreCellsGiven is_static type index x)
    keeps_cells is_static type index (single e) = keeps_single is_static type index e
    keeps_cells is_static (array q t n) index (braced line items) = keeps_items is_static t n 0 index items
    keeps_cells is_static (returning q t) index (braced line items) = keeps_never
    keeps_cells is_static (taking p t) index (braced line items) = keeps_never
    keeps_cells is_static void index (braced line items) = keeps_never
    keeps_cells is_static (integer ty) index (braced line items) = keeps_never
    keeps_cells is_static (pointer q t) index (braced line items) = keeps_never

    keeps_items : (is_static : Test) (t : CType) (n : Option ℕ) (i index : ℕ) (xs : Initials) → Keeps I (AreItemsGiven is_static t n i index xs)
    keeps_items is_static t n i index no_initials = keeps_is
    keeps_items is_static t n i index (first_initial x rest) =
        keeps_either keeps_never (keeps_bind (keeps_cells is_static t index x) (λ first.
        keeps_bind (keeps_items is_static t n (suc i) (index + cells_of t) rest) (λ others. keeps_is)))

  pub keeps_initialized : (is_static : Test) (type : Qualified) (x : Initial) → Keeps I (IsInitialized is_static type x)
  keeps_initialized is_static type x = keeps_bind (keeps_cells is_static type.type 0 x) (λ given. keeps_bind keeps_given (λ u. keeps_is))
