use Rattle.c_known.specs.Views.{line_in}
use Rattle.c_typing.proofs.Spine.{file-by, file-told}
use Rattle.c_typing.proofs.file.check_file.Goals as goal

pub returns-in_err-functions : goal.returns-in_err-functions
returns-in_err-functions c =
    file-told c.args.known.now _ _ c.in_err-functions.field-0.0 c.from_residual.result (line_in c.args.file) c.args.unit.now _ c.as_slice.ensures
    c.in_err-functions.ensures c.from_residual.ensures.1

pub returns : goal.returns
returns c =
    file-by c.args.known.now _ _ c.in_ok-functions.functions c.end_file.result (line_in c.args.file) c.args.unit.now _ c.as_slice.ensures
    c.in_ok-functions.ensures c.end_file.ensures
