use Rattle.std.proofs.Common.{List, ℕ, sym, ap, ◌∙◌, subst}
use Rattle.c_typed.specs.declared.statement.Block as code_block
use Rattle.source_meaning.specs.Places.{all_begin}
use Rattle.c_meaning.specs.Runs.{types_of, setting_of, Changes}
use Rattle.c_meaning.proofs.TakingBegins.{block_begun, for_begun, value_begun, empty-row, while-row, jump-row, nothing_begins}
use Rattle.c_meaning.proofs.run.Run.begin_first.Goals as goal

pub returns-in-Block-clause-changes : goal.returns-in-Block-clause-changes
returns-in-Block-clause-changes c = λ bound.
    subst (λ (ns : List ℕ). Changes (all_begin (setting_of bound c.args.at) ns) c.args.self.now.world c.begin_block.new.self c.begin_block.result)
    (sym (block_begun (types_of c.args.at.program.now) c.args.stmt.now c.in-Block.block c.as_slice.result.now c.in-Block.is
    (c.as_slice.ensures ∙ ap (λ (b : code_block.Block). b.items) c.get.ensures)))
    (c.begin_block.ensures.changes bound)

pub returns-in-Locals-clause-changes : goal.returns-in-Locals-clause-changes
returns-in-Locals-clause-changes c = λ bound.
    subst (λ (ns : List ℕ). Changes (all_begin (setting_of bound c.args.at) ns) c.args.self.now.world c.begin_locals.new.self c.begin_locals.result)
    (sym (for_begun (types_of c.args.at.program.now) c.args.stmt.now c.in-For.head c.in-For.field-1 c.in-Locals.locals c.as_slice-in-Locals.result.now
    c.in-For.is c.in-Locals.is c.as_slice-in-Locals.ensures))
    (c.begin_locals.ensures.changes bound)

pub returns-in-Value-clause-changes : goal.returns-in-Value-clause-changes
returns-in-Value-clause-changes c =
    nothing_begins c.args.at c.args.stmt.now c.args.self.now.world
    (value_begun (types_of c.args.at.program.now) c.args.stmt.now c.in-For.head c.in-For.field-1 c.in-Value.field-0 c.in-For.is c.in-Value.is)

pub returns-in-Continue-clause-changes : goal.returns-in-Continue-clause-changes
returns-in-Continue-clause-changes c =
    nothing_begins c.args.at c.args.stmt.now c.args.self.now.world (jump-row (types_of c.args.at.program.now) c.args.stmt.now c.in-Continue.is)

pub returns-in-Continue-2-clause-changes : goal.returns-in-Continue-2-clause-changes
returns-in-Continue-2-clause-changes c =
    nothing_begins c.args.at c.args.stmt.now c.args.self.now.world (jump-row (types_of c.args.at.program.now) c.args.stmt.now c.in-Continue.is)

pub returns-in-Continue-3-clause-changes : goal.returns-in-Continue-3-clause-changes
returns-in-Continue-3-clause-changes c =
    nothing_begins c.args.at c.args.stmt.now c.args.self.now.world (jump-row (types_of c.args.at.program.now) c.args.stmt.now c.in-Continue.is)

pub returns-in-While-clause-changes : goal.returns-in-While-clause-changes
returns-in-While-clause-changes c =
    nothing_begins c.args.at c.args.stmt.now c.args.self.now.world (while-row (types_of c.args.at.program.now) c.args.stmt.now c.in-While.is)

pub returns-in-While-2-clause-changes : goal.returns-in-While-2-clause-changes
returns-in-While-2-clause-changes c =
    nothing_begins c.args.at c.args.stmt.now c.args.self.now.world (while-row (types_of c.args.at.program.now) c.args.stmt.now c.in-While.is)

pub returns-in-Empty-clause-changes : goal.returns-in-Empty-clause-changes
returns-in-Empty-clause-changes c =
    nothing_begins c.args.at c.args.stmt.now c.args.self.now.world (empty-row (types_of c.args.at.program.now) c.args.stmt.now c.in-Empty.is)

pub returns-in-Empty-2-clause-changes : goal.returns-in-Empty-2-clause-changes
returns-in-Empty-2-clause-changes c =
    nothing_begins c.args.at c.args.stmt.now c.args.self.now.world (empty-row (types_of c.args.at.program.now) c.args.stmt.now c.in-Empty.is)

pub returns-in-Empty-3-clause-changes : goal.returns-in-Empty-3-clause-changes
returns-in-Empty-3-clause-changes c =
    nothing_begins c.args.at c.args.stmt.now c.args.self.now.world (empty-row (types_of c.args.at.program.now) c.args.stmt.now c.in-Empty.is)
