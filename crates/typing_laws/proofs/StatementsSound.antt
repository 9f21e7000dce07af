-- What statements are has types of the language.
use Rattle.std.proofs.Common.{Bool as Test, true, Option, Some, None}
use Rattle.c_types.specs.Types.{CType}
use Rattle.typing_rules.specs.Source.{Expr}
use Rattle.typing_rules.specs.SourceUnits.{ForStart, starts, declares, Stmt, block, empty, expression, if_only, if_else, while, do_while, for, continue, break, return, Items, no_items, declaration, statement}
use Rattle.typing_rules.specs.TypingStatements.{IsCondition, IsConditionIf, IsValueIf, IsReturned, IsForStart, IsForEnd, IsStmt, AreItems}
use Rattle.typing_rules.specs.LanguageTypes.{IsOfLanguage, HasTypes}
use Rattle.typing_rules.proofs.Sound.{Sound, Any, sound_is, sound_such_as, sound_given, sound_bind}
use Rattle.typing_rules.proofs.LanguageNodesMade.{converted_by_has}
use Rattle.typing_laws.specs.LanguagePrograms.{IfThere, ForStartHasTypes, StmtHasTypes, ItemsHaveTypes}
use Rattle.typing_laws.specs.HasItems.{ForStartHasItems, StmtHasItems, BlockHasItems}
use Rattle.typing_laws.proofs.BlocksSound.{Block, sound_value_of, sound_opened, sound_closed}
use Rattle.typing_laws.proofs.DeclarationsSound.{sound_declared_in_block}

sound_condition : (e : Expr) → Sound Block HasTypes (IsCondition e)
sound_condition e = sound_bind (sound_value_of e) (λ a p. sound_bind sound_such_as (λ u q. sound_is p))

sound_condition_if : (e : Option Expr) → Sound Block (IfThere HasTypes) (IsConditionIf e)
sound_condition_if None = sound_is tt
sound_condition_if (Some e) = sound_bind (sound_condition e) (λ v p. sound_is p)

sound_value_if : (e : Option Expr) → Sound Block (IfThere HasTypes) (IsValueIf e)
sound_value_if None = sound_is tt
sound_value_if (Some e) = sound_bind (sound_value_of e) (λ a p. sound_is p)

sound_returned : (result : CType) (e : Option Expr) → IsOfLanguage result → Sound Block (IfThere HasTypes) (IsReturned result e)
sound_returned result None l = sound_bind sound_given (λ u p. sound_is tt)
sound_returned result (Some e) l =
    sound_bind (sound_value_of e) (λ a p. sound_bind sound_given (λ u q. sound_bind sound_such_as (λ form r.
    sound_is (converted_by_has form result a l p))))

sound_for_start : (start : ForStart) → ForStartHasItems start → Sound Block ForStartHasTypes (IsForStart start)
sound_for_start (starts e) h = sound_bind (sound_value_if e) (λ first p. sound_is p)
sound_for_start (declares d) h = sound_bind sound_opened (λ u p. sound_bind (sound_declared_in_block d h) (λ locals q. sound_is q))

sound_for_end : (start : ForStart) → Sound Block Any (IsForEnd start)
sound_for_end (starts e) = sound_is tt
sound_for_end (declares d) = sound_closed

mutual
  unfolding IsStmt StmtHasItems StmtHasTypes

  pub sound_stmt : (result : CType) (in_loop : Test) (s : Stmt) → IsOfLanguage result → StmtHasItems s
      → Sound Block StmtHasTypes (IsStmt result in_loop s)
  sound_stmt result in_loop (block line items end) l h =
      sound_bind sound_opened (λ u p. sound_bind (sound_parts result in_loop items l h) (λ parts q.
      sound_bind sound_closed (λ u' p'. sound_is q)))
  sound_stmt result in_loop (empty line) l h = sound_is tt
  sound_stmt result in_loop (expression line e) l h = sound_bind (sound_value_of e) (λ a p. sound_is p)
  sound_stmt result in_loop (if_only line e s) l h =
      sound_bind (sound_condition e) (λ test p. sound_bind (sound_stmt result in_loop s l h) (λ first q. sound_is (p, q)))
  sound_stmt result in_loop (if_else line e s u) l h =
      sound_bind (sound_condition e) (λ test p. sound_bind (sound_stmt result in_loop s l h.0) (λ first q.
      sound_bind (sound_stmt result in_loop u l h.1) (λ second r. sound_is (p, q, r))))
  sound_stmt result in_loop (while line e s) l h =
      sound_bind (sound_condition e) (λ test p. sound_bind (sound_stmt result true s l h) (λ body q. sound_is (p, q)))
  sound_stmt result in_loop (do_while line s e) l h =
      sound_bind (sound_stmt result true s l h) (λ body p. sound_bind (sound_condition e) (λ test q. sound_is (p, q)))
  sound_stmt result in_loop (for line start e u s) l h =
      sound_bind (sound_for_start start h.0) (λ first p. sound_bind (sound_condition_if e) (λ test q. sound_bind (sound_value_if u) (λ step r.
      sound_bind (sound_stmt result true s l h.1) (λ body b. sound_bind (sound_for_end start) (λ v w. sound_is (p, q, r, b))))))
  sound_stmt result in_loop (continue line) l h = sound_bind sound_given (λ u p. sound_is tt)
  sound_stmt result in_loop (break line) l h = sound_bind sound_given (λ u p. sound_is tt)
  sound_stmt result in_loop (return line e) l h = sound_bind (sound_returned result e l) (λ v p. sound_is p)

  pub sound_parts : (result : CType) (in_loop : Test) (items : Items) → IsOfLanguage result → BlockHasItems items
      → Sound Block ItemsHaveTypes (AreItems result in_loop items)
  sound_parts result in_loop no_items l h = sound_is tt
  sound_parts result in_loop (declaration d rest) l h =
      sound_bind (sound_declared_in_block d h.0) (λ locals p. sound_bind (sound_parts result in_loop rest l h.1) (λ others q. sound_is (p, q)))
  sound_parts result in_loop (statement s rest) l h =
      sound_bind (sound_stmt result in_loop s l h.0) (λ first p. sound_bind (sound_parts result in_loop rest l h.1) (λ others q. sound_is (p, q)))
