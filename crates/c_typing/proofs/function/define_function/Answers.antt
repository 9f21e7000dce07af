use Rattle.c_known.specs.Views.{line_in}
use Rattle.c_typing.specs.Files.{IsFunction}
use Rattle.c_typing.proofs.Definitions.{defined-by, defined-told}
use Rattle.c_typing.proofs.function.define_function.Goals as goal

pub returns-in_err-base : goal.returns-in_err-base
returns-in_err-base c =
    let s = c.args.known.now in
    defined-told IsFunction s _ c.from_residual.result (line_in c.args.file) c.args.d.now _ c.as_slice.ensures c.in_err-base.field-0.0 (c.in_err-base.ensures s.types) c.from_residual.ensures.1

pub returns : goal.returns
returns c =
    let s = c.args.known.now in
    defined-by IsFunction s _ c.define_specified.result (line_in c.args.file) c.args.d.now _ c.as_slice.ensures c.in_ok-base.base c.storage_of.result c.storage_of.ensures
    (c.in_ok-base.ensures s.types) c.define_specified.ensures
