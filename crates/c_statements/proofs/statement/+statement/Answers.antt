use Rattle.std.proofs.Common.{arith, suc, true, Ok, Err, Some, [], ◌∷◌, ◌++◌, map, take, drop, ap, sym, ◌∙◌, subst}
use Rattle.std.specs.Prelude.{option_map}
use Rattle.std.proofs.lemmas.Result.{err_from_is_err_and}
use Rattle.c_types.proofs.Grown.{Extends-trans}
use Rattle.c_typed.specs.Statements as t
use Rattle.c_typed.specs.declared.statement.Block as code_block
use Rattle.c_typed.specs.declared.statement.Stmt as code_stmt
use Rattle.c_typed.specs.declared.statement.StmtNode.TheVariants as sn
use Rattle.c_typed.specs.StatementViews.{all_items, if_from}
use Rattle.c_typed.specs.declared.statement.BlockItem.TheVariants as bi
use Rattle.typing_rules.specs.SourceUnits as source
use Rattle.typing_rules.specs.SourceViews.{expr_view, stmt_view, stmt_node_view, declaration_view, for_start_view, block_item_view, BlockView, block_view, block_from}
use Rattle.typing_rules.specs.Known.{opened, closed}
use Rattle.typing_rules.specs.Checking.{◌>>=◌, pure, makes}
use Rattle.typing_rules.specs.OrderedDeclarations.{value_of, declared_in_block}
use Rattle.typing_rules.specs.OrderedStatements.{condition, for_end, stmt_of, items_of}
use Rattle.c_values.specs.Stand.{MeansValue, MeansWritten}
use Rattle.c_declarations.specs.Parts.{AreLocalItems}
use Rattle.c_values.proofs.Means.{later-stands, later-value}
use Rattle.c_known.specs.Views.{line_in}
use Rattle.c_known.specs.Gives.{Gives, IsDone}
use Rattle.c_known.proofs.Binding.{bind, told, pure-gives}
use Rattle.c_statements.specs.Steps.{for_head, part_of, parts_of, stmt_if}
use Rattle.c_statements.specs.Parts.{IsBlock, IsStmt, IsStmtIf, IsNode, IsHead, IsPart, AreParts}
use Rattle.c_statements.proofs.Giving.{exits, one, two, as-is, as-refusal}
use Rattle.c_statements.proofs.Views.{stmt-later, head-later, block-later, some-stmt, is-empty, is-value, is-if, is-while, is-do, is-for, is-block, is-stmt, is-whole, is-declaration, is-statement, parts-later, parts-snoc}
use Rattle.typing_rules.proofs.SourceStatementViewLaws as law
use Rattle.c_statements.proofs.PartLaws.{behind_head, for-split, if-is, part-declaration, part-statement, block-law, block-view, parts-next, parts-at}
use Rattle.c_statements.proofs.statement.+statement.Goals as goal

-- ---- `do`

pub do_node-returns-in_err-body : goal.do_node-returns-in_err-body
unfolding stmt_of
do_node-returns-in_err-body size c type stands =
    let f = line_in c.args.at.file in
    let p = err_from_is_err_and c.from_residual.result c.from_residual.ensures.1 in
    exits IsStmt (IsNode c.args.line) c.args.known.now c.inner.new.known c.inner.new.known c.in_err-body.field-0.0 c.from_residual.result (stmt_of type true (stmt_view f c.args.s.now))
    (λ body. condition c.args.line (expr_view f c.args.e.now) >>= (λ test. pure (t.do_while c.args.line body test))) (p.1 ∙ ap Err p.2) (c.in_err-body.ensures type stands)

pub do_node-returns-in_err-test : goal.do_node-returns-in_err-test
unfolding stmt_of
do_node-returns-in_err-test size c type stands =
    let f = line_in c.args.at.file in
    let new = c.condition.new.known in
    let p = err_from_is_err_and c.from_residual-in_err-test.result c.from_residual-in_err-test.ensures.1 in
    bind IsStmt (IsNode c.args.line) c.args.known.now c.inner.new.known new c.in_ok-body.body c.from_residual-in_err-test.result (stmt_of type true (stmt_view f c.args.s.now))
    (λ body. condition c.args.line (expr_view f c.args.e.now) >>= (λ test. pure (t.do_while c.args.line body test))) (c.in_ok-body.ensures type stands)
    (λ body _ _. exits MeansValue (IsNode c.args.line) c.inner.new.known new new c.in_err-test.field-0.0 c.from_residual-in_err-test.result (condition c.args.line (expr_view f c.args.e.now))
    (λ test. pure (t.do_while c.args.line body test)) (p.1 ∙ ap Err p.2) c.in_err-test.ensures)

pub do_node-returns : goal.do_node-returns
unfolding stmt_of
do_node-returns size c type stands =
    let f = line_in c.args.at.file in
    let new = c.condition.new.known in
    two IsStmt MeansValue (IsNode c.args.line) c.args.known.now c.inner.new.known new c.in_ok-body.body c.in_ok-test.test (sn.Do c.in_ok-body.body c.into_inner.result)
    (stmt_of type true (stmt_view f c.args.s.now)) (condition c.args.line (expr_view f c.args.e.now)) (λ body test. t.do_while c.args.line body test)
    (c.in_ok-body.ensures type stands) (λ _. c.in_ok-test.ensures)
    (λ body test grown stood means. subst (λ x. IsNode c.args.line new.types (sn.Do c.in_ok-body.body x) (t.do_while c.args.line body test)) (sym c.into_inner.ensures)
    (is-do c.args.line new.types c.in_ok-body.body c.in_ok-test.test body test (stmt-later c.in_ok-body.body body grown stood) means))

-- ---- `while`

pub while_node-returns-in_err-test : goal.while_node-returns-in_err-test
unfolding stmt_of
while_node-returns-in_err-test size c type stands =
    let f = line_in c.args.at.file in
    let p = err_from_is_err_and c.from_residual.result c.from_residual.ensures.1 in
    exits MeansValue (IsNode c.args.line) c.args.known.now c.condition.new.known c.condition.new.known c.in_err-test.field-0.0 c.from_residual.result (condition c.args.line (expr_view f c.args.e.now))
    (λ test. stmt_of type true (stmt_view f c.args.s.now) >>= (λ body. pure (t.while c.args.line test body))) (p.1 ∙ ap Err p.2) c.in_err-test.ensures

pub while_node-returns-in_err-body : goal.while_node-returns-in_err-body
unfolding stmt_of
while_node-returns-in_err-body size c type stands =
    let f = line_in c.args.at.file in
    let new = c.inner.new.known in
    let p = err_from_is_err_and c.from_residual-in_err-body.result c.from_residual-in_err-body.ensures.1 in
    bind MeansValue (IsNode c.args.line) c.args.known.now c.condition.new.known new c.in_ok-test.test c.from_residual-in_err-body.result (condition c.args.line (expr_view f c.args.e.now))
    (λ test. stmt_of type true (stmt_view f c.args.s.now) >>= (λ body. pure (t.while c.args.line test body))) c.in_ok-test.ensures
    (λ test grown _. exits IsStmt (IsNode c.args.line) c.condition.new.known new new c.in_err-body.field-0.0 c.from_residual-in_err-body.result (stmt_of type true (stmt_view f c.args.s.now))
    (λ body. pure (t.while c.args.line test body)) (p.1 ∙ ap Err p.2) (c.in_err-body.ensures type (later-stands _ _ c.args.at.returns type grown stands)))

pub while_node-returns : goal.while_node-returns
unfolding stmt_of
while_node-returns size c type stands =
    let f = line_in c.args.at.file in
    let new = c.inner.new.known in
    two MeansValue IsStmt (IsNode c.args.line) c.args.known.now c.condition.new.known new c.in_ok-test.test c.in_ok-body.body (sn.While c.into_inner.result c.in_ok-body.body)
    (condition c.args.line (expr_view f c.args.e.now)) (stmt_of type true (stmt_view f c.args.s.now)) (λ test body. t.while c.args.line test body)
    c.in_ok-test.ensures (λ grown. c.in_ok-body.ensures type (later-stands _ _ c.args.at.returns type grown stands))
    (λ test body grown means stood. subst (λ x. IsNode c.args.line new.types (sn.While x c.in_ok-body.body) (t.while c.args.line test body)) (sym c.into_inner.ensures)
    (is-while c.args.line new.types c.in_ok-test.test c.in_ok-body.body test body (later-value _ _ c.in_ok-test.test test grown means) stood))

-- ---- `for`

pub for_node-returns-in_err-parentheses : goal.for_node-returns-in_err-parentheses
unfolding stmt_of
for_node-returns-in_err-parentheses size c type stands =
    let f = line_in c.args.at.file in
    let h = c.args.head.now in
    let new = c.for_head.new.known in
    let p = err_from_is_err_and c.from_residual.result c.from_residual.ensures.1 in
    subst (λ m. Gives (IsNode c.args.line) c.args.known.now new c.from_residual.result m)
    (for-split c.args.line (for_start_view f h.start) (option_map (expr_view f) h.condition) (option_map (expr_view f) h.step) (behind_head type c.args.line (for_start_view f h.start) (stmt_view f c.args.s.now)))
    (exits IsHead (IsNode c.args.line) c.args.known.now new new c.in_err-parentheses.field-0.0 c.from_residual.result
    (for_head c.args.line (for_start_view f h.start) (option_map (expr_view f) h.condition) (option_map (expr_view f) h.step)) (behind_head type c.args.line (for_start_view f h.start) (stmt_view f c.args.s.now))
    (p.1 ∙ ap Err p.2) c.in_err-parentheses.ensures)

pub for_node-returns-in_err-body : goal.for_node-returns-in_err-body
unfolding stmt_of
for_node-returns-in_err-body size c type stands =
    let f = line_in c.args.at.file in
    let h = c.args.head.now in
    let new = c.inner.new.known in
    let r = c.from_residual-in_err-body.result in
    let p = err_from_is_err_and r c.from_residual-in_err-body.ensures.1 in
    subst (λ m. Gives (IsNode c.args.line) c.args.known.now new r m)
    (for-split c.args.line (for_start_view f h.start) (option_map (expr_view f) h.condition) (option_map (expr_view f) h.step) (behind_head type c.args.line (for_start_view f h.start) (stmt_view f c.args.s.now)))
    (bind IsHead (IsNode c.args.line) c.args.known.now c.for_head.new.known new c.in_ok-parentheses.parentheses r
    (for_head c.args.line (for_start_view f h.start) (option_map (expr_view f) h.condition) (option_map (expr_view f) h.step)) (behind_head type c.args.line (for_start_view f h.start) (stmt_view f c.args.s.now))
    c.in_ok-parentheses.ensures
    (λ head more _. exits IsStmt (IsNode c.args.line) c.for_head.new.known new new c.in_err-body.field-0.0 r (stmt_of type true (stmt_view f c.args.s.now))
    (λ body. for_end (for_start_view f h.start) >>= (λ _. pure (t.for c.args.line head.start head.test head.step body))) (p.1 ∙ ap Err p.2)
    (c.in_err-body.ensures type (later-stands _ _ c.args.at.returns type more stands))))

pub for_node-returns : goal.for_node-returns
unfolding stmt_of
for_node-returns size c type stands =
    let f = line_in c.args.at.file in
    let h = c.args.head.now in
    let new = c.for_end.new.known in
    let x = c.in_ok-parentheses.parentheses in
    let y = c.in_ok-body.body in
    subst (λ m. Gives (IsNode c.args.line) c.args.known.now new (Ok (sn.For x y)) m)
    (for-split c.args.line (for_start_view f h.start) (option_map (expr_view f) h.condition) (option_map (expr_view f) h.step) (behind_head type c.args.line (for_start_view f h.start) (stmt_view f c.args.s.now)))
    (bind IsHead (IsNode c.args.line) c.args.known.now c.for_head.new.known new x (Ok (sn.For x y))
    (for_head c.args.line (for_start_view f h.start) (option_map (expr_view f) h.condition) (option_map (expr_view f) h.step)) (behind_head type c.args.line (for_start_view f h.start) (stmt_view f c.args.s.now))
    c.in_ok-parentheses.ensures
    (λ head more headed. bind IsStmt (IsNode c.args.line) c.for_head.new.known c.inner.new.known new y (Ok (sn.For x y)) (stmt_of type true (stmt_view f c.args.s.now))
    (λ body. for_end (for_start_view f h.start) >>= (λ _. pure (t.for c.args.line head.start head.test head.step body))) (c.in_ok-body.ensures type (later-stands _ _ c.args.at.returns type more stands))
    (λ body grown stood. bind IsDone (IsNode c.args.line) c.inner.new.known new new c.for_end.result (Ok (sn.For x y)) (for_end (for_start_view f h.start))
    (λ _. pure (t.for c.args.line head.start head.test head.step body)) c.for_end.ensures
    (λ _ last _. pure-gives (IsNode c.args.line) new (sn.For x y) (t.for c.args.line head.start head.test head.step body)
    (is-for c.args.line new.types x y head body (head-later x head (Extends-trans grown last) headed) (stmt-later y body last stood))))))

-- ---- parts of blocks

pub part-returns-in_err-declared_in_block-in-Declaration : goal.part-returns-in_err-declared_in_block-in-Declaration
part-returns-in_err-declared_in_block-in-Declaration size c type stands =
    let f = line_in c.args.at.file in
    let new = c.declared_in_block.new.known in
    let p = err_from_is_err_and c.from_residual.result c.from_residual.ensures.1 in
    subst (λ m. Gives IsPart c.args.known.now new c.from_residual.result m) (sym (part-declaration type c.args.at.in_loop f c.args.x.now c.in-Declaration.d c.in-Declaration.is))
    (exits AreLocalItems IsPart c.args.known.now new new c.in_err-declared_in_block-in-Declaration.field-0.0 c.from_residual.result (declared_in_block (declaration_view f c.in-Declaration.d)) (λ l. pure (t.declaration l))
    (p.1 ∙ ap Err p.2) c.in_err-declared_in_block-in-Declaration.ensures)

pub part-returns-in_err-stmt-in-Statement : goal.part-returns-in_err-stmt-in-Statement
part-returns-in_err-stmt-in-Statement size c type stands =
    let f = line_in c.args.at.file in
    let new = c.stmt.new.known in
    let r = c.from_residual-in_err-stmt-in-Statement.result in
    let p = err_from_is_err_and r c.from_residual-in_err-stmt-in-Statement.ensures.1 in
    subst (λ m. Gives IsPart c.args.known.now new r m) (sym (part-statement type c.args.at.in_loop f c.args.x.now c.in-Statement.s c.in-Statement.is))
    (exits IsStmt IsPart c.args.known.now new new c.in_err-stmt-in-Statement.field-0.0 r (stmt_of type c.args.at.in_loop (stmt_view f c.in-Statement.s)) (λ l. pure (t.statement l))
    (p.1 ∙ ap Err p.2) (c.in_err-stmt-in-Statement.ensures type stands))

pub part-returns-in_ok-declared_in_block-in-Declaration : goal.part-returns-in_ok-declared_in_block-in-Declaration
part-returns-in_ok-declared_in_block-in-Declaration size c type stands =
    let f = line_in c.args.at.file in
    let new = c.declared_in_block.new.known in
    let x = c.in_ok-declared_in_block-in-Declaration.field-0 in
    subst (λ m. Gives IsPart c.args.known.now new (Ok (bi.Declaration x)) m) (sym (part-declaration type c.args.at.in_loop f c.args.x.now c.in-Declaration.d c.in-Declaration.is))
    (one AreLocalItems IsPart c.args.known.now new x (bi.Declaration x) (declared_in_block (declaration_view f c.in-Declaration.d)) (λ l. t.declaration l)
    c.in_ok-declared_in_block-in-Declaration.ensures (λ l means. is-declaration new.types x l means))

pub part-returns-in_ok-stmt-in-Statement : goal.part-returns-in_ok-stmt-in-Statement
part-returns-in_ok-stmt-in-Statement size c type stands =
    let f = line_in c.args.at.file in
    let new = c.stmt.new.known in
    let x = c.in_ok-stmt-in-Statement.field-0 in
    subst (λ m. Gives IsPart c.args.known.now new (Ok (bi.Statement x)) m) (sym (part-statement type c.args.at.in_loop f c.args.x.now c.in-Statement.s c.in-Statement.is))
    (one IsStmt IsPart c.args.known.now new x (bi.Statement x) (stmt_of type c.args.at.in_loop (stmt_view f c.in-Statement.s)) (λ l. t.statement l)
    (c.in_ok-stmt-in-Statement.ensures type stands) (λ l means. is-statement new.types x l means))

-- ---- the branch behind `else`

pub second-returns-in_ok-inner-in-Some : goal.second-returns-in_ok-inner-in-Some
second-returns-in_ok-inner-in-Some size c type stands =
    let f = line_in c.args.at.file in
    let new = c.inner.new.known in
    let x = c.in_ok-inner-in-Some.field-0 in
    let gives = subst (λ s. Gives IsStmt c.args.known.now new (Ok x) (stmt_of type c.args.at.in_loop (stmt_view f s))) c.get.ensures (c.in_ok-inner-in-Some.ensures type stands) in
    subst (λ o. Gives IsStmtIf c.args.known.now new (Ok (Some x)) (stmt_if type c.args.at.in_loop (option_map (stmt_view f) o))) (sym c.in-Some.is)
    (one IsStmt IsStmtIf c.args.known.now new x (Some x) (stmt_of type c.args.at.in_loop (stmt_view f c.in-Some.s)) (λ s. Some s) gives (λ s m. some-stmt new.types x s m))

-- ---- what a statement is

pub node-returns-in-Block : goal.node-returns-in-Block
node-returns-in-Block size c type stands =
    let f = line_in c.args.at.file in
    let r = c.block_node.result in
    let is = ap (λ n. stmt_node_view f n c.args.line) c.in-Block.is ∙ law.view_block f c.in-Block.b c.args.line in
    subst (λ s. Gives (IsNode c.args.line) c.args.known.now c.block_node.new.known r (stmt_of type c.args.at.in_loop s)) (sym is)
    (subst (λ s. Gives (IsNode c.args.line) c.args.known.now c.block_node.new.known r (stmt_of type c.args.at.in_loop (block_from (block_view f s)))) c.get.ensures (c.block_node.ensures type stands))

pub node-returns-in-Empty : goal.node-returns-in-Empty
unfolding stmt_of
node-returns-in-Empty size c type stands =
    let f = line_in c.args.at.file in
    let old = c.args.known.now in
    let is = ap (λ n. stmt_node_view f n c.args.line) c.in-Empty.is ∙ law.view_empty f c.args.line in
    subst (λ s. Gives (IsNode c.args.line) old old (Ok sn.Empty) (stmt_of type c.args.at.in_loop s)) (sym is)
    (pure-gives (IsNode c.args.line) old sn.Empty (t.empty c.args.line) (is-empty c.args.line old.types))

pub node-returns-in_err-value_of-in-Expr : goal.node-returns-in_err-value_of-in-Expr
unfolding stmt_of
node-returns-in_err-value_of-in-Expr size c type stands =
    let f = line_in c.args.at.file in
    let new = c.value_of.new.known in
    let p = err_from_is_err_and c.from_residual.result c.from_residual.ensures.1 in
    let is = ap (λ n. stmt_node_view f n c.args.line) c.in-Expr.is ∙ law.view_expr f c.in-Expr.e c.args.line in
    subst (λ s. Gives (IsNode c.args.line) c.args.known.now new c.from_residual.result (stmt_of type c.args.at.in_loop s)) (sym is)
    (exits MeansWritten (IsNode c.args.line) c.args.known.now new new c.in_err-value_of-in-Expr.field-0.0 c.from_residual.result (value_of (expr_view f c.in-Expr.e))
    (λ a. pure (t.expression c.args.line a.value)) (p.1 ∙ ap Err p.2) c.in_err-value_of-in-Expr.ensures)

pub node-returns-in_ok-value_of-in-Expr : goal.node-returns-in_ok-value_of-in-Expr
unfolding stmt_of
node-returns-in_ok-value_of-in-Expr size c type stands =
    let f = line_in c.args.at.file in
    let new = c.value_of.new.known in
    let x = c.in_ok-value_of-in-Expr.field-0 in
    let is = ap (λ n. stmt_node_view f n c.args.line) c.in-Expr.is ∙ law.view_expr f c.in-Expr.e c.args.line in
    subst (λ s. Gives (IsNode c.args.line) c.args.known.now new (Ok (sn.Value c.into_inner.result)) (stmt_of type c.args.at.in_loop s)) (sym is)
    (one MeansWritten (IsNode c.args.line) c.args.known.now new x (sn.Value c.into_inner.result) (value_of (expr_view f c.in-Expr.e)) (λ a. t.expression c.args.line a.value)
    c.in_ok-value_of-in-Expr.ensures
    (λ a means. subst (λ y. IsNode c.args.line new.types (sn.Value y) (t.expression c.args.line a.value)) (sym c.into_inner.ensures)
    (is-value c.args.line new.types x.typed.value a.value means.typed.value)))

pub node-returns-in-While : goal.node-returns-in-While
node-returns-in-While size c type stands =
    let f = line_in c.args.at.file in
    let r = c.while_node.result in
    let is = ap (λ n. stmt_node_view f n c.args.line) c.in-While.is ∙ law.view_while f c.in-While.e c.in-While.s c.args.line in
    subst (λ s. Gives (IsNode c.args.line) c.args.known.now c.while_node.new.known r (stmt_of type c.args.at.in_loop s)) (sym is)
    (subst (λ s. Gives (IsNode c.args.line) c.args.known.now c.while_node.new.known r (stmt_of type c.args.at.in_loop (source.while c.args.line (expr_view f c.in-While.e) (stmt_view f s)))) c.get-in-While.ensures (c.while_node.ensures type stands))

pub node-returns-in-Do : goal.node-returns-in-Do
node-returns-in-Do size c type stands =
    let f = line_in c.args.at.file in
    let r = c.do_node.result in
    let is = ap (λ n. stmt_node_view f n c.args.line) c.in-Do.is ∙ law.view_do f c.in-Do.s c.in-Do.e c.args.line in
    subst (λ s. Gives (IsNode c.args.line) c.args.known.now c.do_node.new.known r (stmt_of type c.args.at.in_loop s)) (sym is)
    (subst (λ s. Gives (IsNode c.args.line) c.args.known.now c.do_node.new.known r (stmt_of type c.args.at.in_loop (source.do_while c.args.line (stmt_view f s) (expr_view f c.in-Do.e)))) c.get-in-Do.ensures (c.do_node.ensures type stands))

pub node-returns-in-For : goal.node-returns-in-For
node-returns-in-For size c type stands =
    let f = line_in c.args.at.file in
    let r = c.for_node.result in
    let is = ap (λ n. stmt_node_view f n c.args.line) c.in-For.is ∙ law.view_for f c.in-For.head c.in-For.s c.args.line in
    subst (λ s. Gives (IsNode c.args.line) c.args.known.now c.for_node.new.known r (stmt_of type c.args.at.in_loop s)) (sym is)
    (subst (λ s. Gives (IsNode c.args.line) c.args.known.now c.for_node.new.known r (stmt_of type c.args.at.in_loop (source.for c.args.line (for_start_view f c.in-For.head.start) (option_map (expr_view f) c.in-For.head.condition)
    (option_map (expr_view f) c.in-For.head.step) (stmt_view f s)))) c.get-in-For.ensures (c.for_node.ensures type stands))

pub node-returns-in-Continue : goal.node-returns-in-Continue
node-returns-in-Continue size c type stands =
    let f = line_in c.args.at.file in
    let old = c.args.known.now in
    let is = ap (λ n. stmt_node_view f n c.args.line) c.in-Continue.is ∙ law.view_continue f c.args.line in
    subst (λ s. Gives (IsNode c.args.line) old old c.continue_node.result (stmt_of type c.args.at.in_loop s)) (sym is) (c.continue_node.ensures old type)

pub node-returns-in-Break : goal.node-returns-in-Break
node-returns-in-Break size c type stands =
    let f = line_in c.args.at.file in
    let old = c.args.known.now in
    let is = ap (λ n. stmt_node_view f n c.args.line) c.in-Break.is ∙ law.view_break f c.args.line in
    subst (λ s. Gives (IsNode c.args.line) old old c.break_node.result (stmt_of type c.args.at.in_loop s)) (sym is) (c.break_node.ensures old type)

pub node-returns-in-Return : goal.node-returns-in-Return
node-returns-in-Return size c type stands =
    let f = line_in c.args.at.file in
    let r = c.return_node.result in
    let is = ap (λ n. stmt_node_view f n c.args.line) c.in-Return.is ∙ law.view_return f c.in-Return.e c.args.line in
    subst (λ s. Gives (IsNode c.args.line) c.args.known.now c.return_node.new.known r (stmt_of type c.args.at.in_loop s)) (sym is)
    (c.return_node.ensures type stands)

pub node-returns-in_err-test-in-If : goal.node-returns-in_err-test-in-If
node-returns-in_err-test-in-If size c type stands =
    let f = line_in c.args.at.file in
    let new = c.condition.new.known in
    let r = c.from_residual-in_err-test-in-If.result in
    let p = err_from_is_err_and r c.from_residual-in_err-test-in-If.ensures.1 in
    subst (λ m. Gives (IsNode c.args.line) c.args.known.now new r m) (sym (if-is type c.args.at.in_loop f c.args.line c.args.n.now c.in-If.e c.in-If.s c.in-If.u c.in-If.is))
    (exits MeansValue (IsNode c.args.line) c.args.known.now new new c.in_err-test-in-If.field-0.0 r (condition c.args.line (expr_view f c.in-If.e))
    (λ test. stmt_of type c.args.at.in_loop (stmt_view f c.in-If.s) >>= (λ first. stmt_if type c.args.at.in_loop (option_map (stmt_view f) c.in-If.u) >>= (λ second. pure (if_from c.args.line test first second)))) (p.1 ∙ ap Err p.2) c.in_err-test-in-If.ensures)

pub node-returns-in_err-first-in-If : goal.node-returns-in_err-first-in-If
node-returns-in_err-first-in-If size c type stands =
    let f = line_in c.args.at.file in
    let mid = c.condition.new.known in
    let new = c.inner.new.known in
    let r = c.from_residual-in_err-first-in-If.result in
    let e = c.in_err-first-in-If.field-0.0 in
    let p = err_from_is_err_and r c.from_residual-in_err-first-in-If.ensures.1 in
    subst (λ m. Gives (IsNode c.args.line) c.args.known.now new r m) (sym (if-is type c.args.at.in_loop f c.args.line c.args.n.now c.in-If.e c.in-If.s c.in-If.u c.in-If.is))
    (bind MeansValue (IsNode c.args.line) c.args.known.now mid new c.in_ok-test-in-If.test r (condition c.args.line (expr_view f c.in-If.e))
    (λ test. stmt_of type c.args.at.in_loop (stmt_view f c.in-If.s) >>= (λ first. stmt_if type c.args.at.in_loop (option_map (stmt_view f) c.in-If.u) >>= (λ second. pure (if_from c.args.line test first second)))) c.in_ok-test-in-If.ensures
    (λ test grown _. exits IsStmt (IsNode c.args.line) mid new new e r (stmt_of type c.args.at.in_loop (stmt_view f c.in-If.s)) (λ first. stmt_if type c.args.at.in_loop (option_map (stmt_view f) c.in-If.u) >>= (λ second. pure (if_from c.args.line test first second))) (p.1 ∙ ap Err p.2)
    (subst (λ s. Gives IsStmt mid new (Err e) (stmt_of type c.args.at.in_loop (stmt_view f s))) c.get-in-If.ensures (c.in_err-first-in-If.ensures type (later-stands _ _ c.args.at.returns type grown stands)))))

pub node-returns-in_err-other-in-If : goal.node-returns-in_err-other-in-If
node-returns-in_err-other-in-If size c type stands =
    let f = line_in c.args.at.file in
    let mid = c.condition.new.known in
    let next = c.inner.new.known in
    let new = c.second.new.known in
    let x = c.in_ok-first-in-If.first in
    let r = c.from_residual-in_err-other-in-If.result in
    let p = err_from_is_err_and r c.from_residual-in_err-other-in-If.ensures.1 in
    subst (λ m. Gives (IsNode c.args.line) c.args.known.now new r m) (sym (if-is type c.args.at.in_loop f c.args.line c.args.n.now c.in-If.e c.in-If.s c.in-If.u c.in-If.is))
    (bind MeansValue (IsNode c.args.line) c.args.known.now mid new c.in_ok-test-in-If.test r (condition c.args.line (expr_view f c.in-If.e))
    (λ test. stmt_of type c.args.at.in_loop (stmt_view f c.in-If.s) >>= (λ first. stmt_if type c.args.at.in_loop (option_map (stmt_view f) c.in-If.u) >>= (λ second. pure (if_from c.args.line test first second)))) c.in_ok-test-in-If.ensures
    (λ test more _. bind IsStmt (IsNode c.args.line) mid next new x r (stmt_of type c.args.at.in_loop (stmt_view f c.in-If.s)) (λ first. stmt_if type c.args.at.in_loop (option_map (stmt_view f) c.in-If.u) >>= (λ second. pure (if_from c.args.line test first second)))
    (subst (λ s. Gives IsStmt mid next (Ok x) (stmt_of type c.args.at.in_loop (stmt_view f s))) c.get-in-If.ensures (c.in_ok-first-in-If.ensures type (later-stands _ _ c.args.at.returns type more stands)))
    (λ first grown _. exits IsStmtIf (IsNode c.args.line) next new new c.in_err-other-in-If.field-0.0 r (stmt_if type c.args.at.in_loop (option_map (stmt_view f) c.in-If.u)) (λ second. pure (if_from c.args.line test first second)) (p.1 ∙ ap Err p.2)
    (c.in_err-other-in-If.ensures type (later-stands _ _ c.args.at.returns type (Extends-trans more grown) stands)))))

pub node-returns-in_ok-other-in-If : goal.node-returns-in_ok-other-in-If
node-returns-in_ok-other-in-If size c type stands =
    let f = line_in c.args.at.file in
    let mid = c.condition.new.known in
    let next = c.inner.new.known in
    let new = c.second.new.known in
    let x = c.in_ok-first-in-If.first in
    let y = c.in_ok-other-in-If.other in
    let made = sn.If c.into_inner-in-If.result x y in
    subst (λ m. Gives (IsNode c.args.line) c.args.known.now new (Ok made) m) (sym (if-is type c.args.at.in_loop f c.args.line c.args.n.now c.in-If.e c.in-If.s c.in-If.u c.in-If.is))
    (bind MeansValue (IsNode c.args.line) c.args.known.now mid new c.in_ok-test-in-If.test (Ok made) (condition c.args.line (expr_view f c.in-If.e))
    (λ test. stmt_of type c.args.at.in_loop (stmt_view f c.in-If.s) >>= (λ first. stmt_if type c.args.at.in_loop (option_map (stmt_view f) c.in-If.u) >>= (λ second. pure (if_from c.args.line test first second)))) c.in_ok-test-in-If.ensures
    (λ test more tested. bind IsStmt (IsNode c.args.line) mid next new x (Ok made) (stmt_of type c.args.at.in_loop (stmt_view f c.in-If.s)) (λ first. stmt_if type c.args.at.in_loop (option_map (stmt_view f) c.in-If.u) >>= (λ second. pure (if_from c.args.line test first second)))
    (subst (λ s. Gives IsStmt mid next (Ok x) (stmt_of type c.args.at.in_loop (stmt_view f s))) c.get-in-If.ensures (c.in_ok-first-in-If.ensures type (later-stands _ _ c.args.at.returns type more stands)))
    (λ first grown stood. bind IsStmtIf (IsNode c.args.line) next new new y (Ok made) (stmt_if type c.args.at.in_loop (option_map (stmt_view f) c.in-If.u)) (λ second. pure (if_from c.args.line test first second))
    (c.in_ok-other-in-If.ensures type (later-stands _ _ c.args.at.returns type (Extends-trans more grown) stands))
    (λ second last means. pure-gives (IsNode c.args.line) new made (if_from c.args.line test first second)
    (subst (λ v. IsNode c.args.line new.types (sn.If v x y) (if_from c.args.line test first second)) (sym c.into_inner-in-If.ensures)
    (is-if c.args.line new.types c.in_ok-test-in-If.test x y test first second (later-value _ _ c.in_ok-test-in-If.test test (Extends-trans grown last) tested) (stmt-later x first last stood) means))))))

-- ---- whole statements and blocks

pub stmt-returns-in_err-node : goal.stmt-returns-in_err-node
stmt-returns-in_err-node size c type stands =
    let f = line_in c.args.at.file in
    let new = c.node.new.known in
    let line = c.line_in-line.result in
    let p = err_from_is_err_and c.from_residual.result c.from_residual.ensures.1 in
    let is = law.view_stmt f c.args.s.now ∙ ap (stmt_node_view f c.args.s.now.node) (sym c.line_in-line.ensures) in
    subst (λ s. Gives IsStmt c.args.known.now new c.from_residual.result (stmt_of type c.args.at.in_loop s)) (sym is)
    (as-refusal (IsNode line) IsStmt c.args.known.now new c.in_err-node.field-0.0 c.from_residual.result (stmt_of type c.args.at.in_loop (stmt_node_view f c.args.s.now.node line))
    (p.1 ∙ ap Err p.2) (c.in_err-node.ensures type stands))

pub stmt-returns : goal.stmt-returns
stmt-returns size c type stands =
    let f = line_in c.args.at.file in
    let new = c.node.new.known in
    let line = c.line_in-line.result in
    let whole : code_stmt.Stmt = record { line = c.line_in-line.result; node = c.in_ok-node.node } in
    let is = law.view_stmt f c.args.s.now ∙ ap (stmt_node_view f c.args.s.now.node) (sym c.line_in-line.ensures) in
    subst (λ s. Gives IsStmt c.args.known.now new (Ok whole) (stmt_of type c.args.at.in_loop s)) (sym is)
    (as-is (IsNode line) IsStmt c.args.known.now new c.in_ok-node.node whole (stmt_of type c.args.at.in_loop (stmt_node_view f c.args.s.now.node line))
    (c.in_ok-node.ensures type stands) (λ s means. is-stmt new.types whole s means))

pub block-returns-in_err-items : goal.block-returns-in_err-items
block-returns-in_err-items size c type stands =
    let f = line_in c.args.at.file in
    let b = c.args.b.now in
    let new = c.parts.new.known in
    let e = c.in_err-items.field-0.0 in
    let p = err_from_is_err_and c.from_residual.result c.from_residual.ensures.1 in
    let gives = subst (λ xs. Gives AreParts c.args.known.now new (Err e) (parts_of type c.args.at.in_loop (map (block_item_view f) xs))) c.as_slice.ensures (c.in_err-items.ensures type stands) in
    subst (λ m. Gives (IsBlock (block_view f b).line (block_view f b).end) c.args.known.now new c.from_residual.result m) (sym (block-law type c.args.at.in_loop f b))
    (exits AreParts (IsBlock (block_view f b).line (block_view f b).end) c.args.known.now new new e c.from_residual.result (parts_of type c.args.at.in_loop (map (block_item_view f) b.items))
    (λ fs. pure (all_items fs)) (p.1 ∙ ap Err p.2) gives)

pub block-returns : goal.block-returns
block-returns size c type stands =
    let f = line_in c.args.at.file in
    let b = c.args.b.now in
    let new = c.parts.new.known in
    let xs = c.in_ok-items.items in
    let line = (block_view f b).line in
    let end = (block_view f b).end in
    let whole : code_block.Block = record { line = c.line_in.result; items = xs; end = c.line_in-2.result } in
    let gives = subst (λ ys. Gives AreParts c.args.known.now new (Ok xs) (parts_of type c.args.at.in_loop (map (block_item_view f) ys))) c.as_slice.ensures (c.in_ok-items.ensures type stands) in
    let begin = c.line_in.ensures ∙ sym (ap (λ (v : BlockView). v.line) (block-view f b)) in
    let stop = c.line_in-2.ensures ∙ sym (ap (λ (v : BlockView). v.end) (block-view f b)) in
    subst (λ m. Gives (IsBlock line end) c.args.known.now new (Ok whole) m) (sym (block-law type c.args.at.in_loop f b))
    (one AreParts (IsBlock line end) c.args.known.now new xs whole (parts_of type c.args.at.in_loop (map (block_item_view f) b.items)) (λ fs. all_items fs) gives
    (λ fs means. is-whole new.types whole line end fs means begin stop))

pub block_node-returns-in_err-open : goal.block_node-returns-in_err-open
unfolding stmt_of
block_node-returns-in_err-open size c type stands =
    let f = line_in c.args.at.file in
    let v = block_view f c.args.b.now in
    let new = c.open.new.self in
    let p = err_from_is_err_and c.from_residual.result c.from_residual.ensures.1 in
    exits IsDone (IsNode c.args.line) c.args.known.now new new c.in_err-open.field-0.0 c.from_residual.result (makes opened)
    (λ _. items_of type c.args.at.in_loop v.items >>= (λ parts. makes closed >>= (λ _. pure (t.block v.line parts v.end)))) (p.1 ∙ ap Err p.2) c.in_err-open.ensures

pub block_node-returns-in_err-inside : goal.block_node-returns-in_err-inside
unfolding stmt_of
block_node-returns-in_err-inside size c type stands =
    let f = line_in c.args.at.file in
    let v = block_view f c.args.b.now in
    let new = c.block.new.known in
    let r = c.from_residual-in_err-inside.result in
    let p = err_from_is_err_and r c.from_residual-in_err-inside.ensures.1 in
    bind IsDone (IsNode c.args.line) c.args.known.now c.open.new.self new c.in_ok-open.field-0 r (makes opened)
    (λ _. items_of type c.args.at.in_loop v.items >>= (λ parts. makes closed >>= (λ _. pure (t.block v.line parts v.end)))) c.in_ok-open.ensures
    (λ _ grown _. exits (IsBlock v.line v.end) (IsNode c.args.line) c.open.new.self new new c.in_err-inside.field-0.0 r (items_of type c.args.at.in_loop v.items)
    (λ parts. makes closed >>= (λ _. pure (t.block v.line parts v.end))) (p.1 ∙ ap Err p.2) (c.in_err-inside.ensures type (later-stands _ _ c.args.at.returns type grown stands)))

pub block_node-returns : goal.block_node-returns
unfolding stmt_of
block_node-returns size c type stands =
    let f = line_in c.args.at.file in
    let v = block_view f c.args.b.now in
    let new = c.close.new.self in
    let x = c.in_ok-inside.inside in
    let made = sn.Block c.in_ok-boxed.field-0 in
    bind IsDone (IsNode c.args.line) c.args.known.now c.open.new.self new c.in_ok-open.field-0 (Ok made) (makes opened)
    (λ _. items_of type c.args.at.in_loop v.items >>= (λ parts. makes closed >>= (λ _. pure (t.block v.line parts v.end)))) c.in_ok-open.ensures
    (λ _ grown _. bind (IsBlock v.line v.end) (IsNode c.args.line) c.open.new.self c.block.new.known new x (Ok made) (items_of type c.args.at.in_loop v.items)
    (λ parts. makes closed >>= (λ _. pure (t.block v.line parts v.end))) (c.in_ok-inside.ensures type (later-stands _ _ c.args.at.returns type grown stands))
    (λ parts _ means. bind IsDone (IsNode c.args.line) c.block.new.known new new c.close.result (Ok made) (makes closed) (λ _. pure (t.block v.line parts v.end)) c.close.ensures
    (λ _ last _. pure-gives (IsNode c.args.line) new made (t.block v.line parts v.end)
    (subst (λ b. IsNode c.args.line new.types (sn.Block b) (t.block v.line parts v.end)) (sym c.in_ok-boxed.ensures.made)
    (is-block c.args.line new.types x v.line v.end parts (block-later v.line v.end x parts last means))))))

-- ---- the parts of a block

pub parts-loop-x-preserved : goal.parts-loop-x-preserved
parts-loop-x-preserved size c = λ type stands.
    let f = line_in c.args.at.file in
    let mid = c.loop-x.known in
    let new = c.part.new.known in
    let made = c.loop-x.made in
    let x = c.in_ok-next.next in
    let is = parts-next type c.args.at.in_loop (block_item_view f) c.args.xs.now c.loop-x.x-index c.x-item.result (omega (arith, c.loop-x-test.true)) c.x-item.is in
    subst (λ m. Gives AreParts c.args.known.now new (Ok c.push.new.items) m) (sym is)
    (two AreParts IsPart AreParts c.args.known.now mid new made x c.push.new.items (parts_of type c.args.at.in_loop (map (block_item_view f) (take c.loop-x.x-index c.args.xs.now)))
    (part_of type c.args.at.in_loop (block_item_view f c.x-item.result source.no_items)) (λ fs g. fs ++ g ∷ []) (c.loop-x.invariant type stands)
    (λ grown. c.in_ok-next.ensures type (later-stands _ _ c.args.at.returns type grown stands))
    (λ fs g grown stood means. subst (λ ys. AreParts new.types ys (fs ++ g ∷ [])) (sym c.in_ok-push.ensures.pushed) (parts-snoc new.types made x fs g (parts-later made fs grown stood) means)))

pub parts-returns-in_err-next : goal.parts-returns-in_err-next
parts-returns-in_err-next size c type stands =
    let f = line_in c.args.at.file in
    let mid = c.loop-x.known in
    let new = c.part.new.known in
    let e = c.in_err-next.field-0.0 in
    let r = c.from_residual.result in
    let p = err_from_is_err_and r c.from_residual.ensures.1 in
    let rest = parts_of type c.args.at.in_loop (map (block_item_view f) (drop (suc c.loop-x.x-index) c.args.xs.now)) in
    let is = parts-at type c.args.at.in_loop (block_item_view f) c.args.xs.now c.loop-x.x-index c.x-item.result (omega (arith, c.loop-x-test.true)) c.x-item.is in
    subst (λ m. Gives AreParts c.args.known.now new r m) (sym is)
    (bind AreParts AreParts c.args.known.now mid new c.loop-x.made r (parts_of type c.args.at.in_loop (map (block_item_view f) (take c.loop-x.x-index c.args.xs.now)))
    (λ fs. (part_of type c.args.at.in_loop (block_item_view f c.x-item.result source.no_items) >>= (λ g. rest >>= (λ gs. pure (g ∷ gs)))) >>= (λ gs. pure (fs ++ gs))) (c.loop-x.invariant type stands)
    (λ fs grown _. exits AreParts AreParts mid new new e r (part_of type c.args.at.in_loop (block_item_view f c.x-item.result source.no_items) >>= (λ g. rest >>= (λ gs. pure (g ∷ gs)))) (λ gs. pure (fs ++ gs)) (p.1 ∙ ap Err p.2)
    (told IsPart AreParts mid new new e (part_of type c.args.at.in_loop (block_item_view f c.x-item.result source.no_items)) (λ g. rest >>= (λ gs. pure (g ∷ gs)))
    (c.in_err-next.ensures type (later-stands _ _ c.args.at.returns type grown stands)))))
