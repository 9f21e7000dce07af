use Rattle.std.proofs.Common.{◌≤◌, length, sym, ap, arith}
use Rattle.std.proofs.lemmas.List.{length-take-le}
use Rattle.mid_code.proofs.Naming.{whole}
use Rattle.first_form.proofs.pairing.program_parts.Goals as goal

pub slice_bounds-functions-end : goal.slice_bounds-functions-end
slice_bounds-functions-end c =
    let kept = (whole c.args.program.now c.requires.valid).main_functions in
    let within : c.from.result ≤ length c.as_slice.result.now = omega (arith, c.from.ensures, ap length c.as_slice.ensures, kept) in
    sym (length-take-le c.from.result c.as_slice.result.now within)
