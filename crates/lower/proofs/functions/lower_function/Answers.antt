use Rattle.std.proofs.Common.{refl, sym, ◌∙◌, ap, subst, map, [], Some}
use Rattle.lower.specs.Instructions.{line_view}
use Rattle.lower.specs.Drafts.{code_of, TakesLines}
use Rattle.lower.specs.Functions.{Starts}
use Rattle.lower.proofs.Steps.{exits}
use Rattle.lower.proofs.WholeFunctions.{refused-function, long-function, given-function}
use Rattle.lower.proofs.functions.lower_function.Goals as goal

pub returns-in_err-ty : goal.returns-in_err-ty
returns-in_err-ty c = λ known are.
    refused-function c.args.at c.args.types.keys known c.in_ok-body.body c.lower_all.new.body
    (subst (λ n. Starts n c.args.types.keys c.in_ok-body.body) c.len.ensures c.in_ok-body.ensures.begun) are
    _ _ (exits c.from_residual-in_err-ty.result _ c.from_residual-in_err-ty.ensures.1) c.in_err-ty.ensures

pub returns-in_default : goal.returns-in_default
returns-in_default c = λ known are.
    long-function c.args.at c.args.types.keys known c.in_ok-body.body c.lower_all.new.body
    (subst (λ n. Starts n c.args.types.keys c.in_ok-body.body) c.len.ensures c.in_ok-body.ensures.begun) are
    _ c.in_ok-ty.ensures (subst (TakesLines (code_of c.lower_all.new.body.out.code [])) c.in_default.is c.in_ok-lines.ensures)

pub returns : goal.returns
returns c = λ known are.
    given-function c.args.at c.args.types.keys known c.in_ok-body.body c.lower_all.new.body
    (subst (λ n. Starts n c.args.types.keys c.in_ok-body.body) c.len.ensures c.in_ok-body.ensures.begun) are
    _ _ c.in_ok-ty.ensures
    (subst (TakesLines (code_of c.lower_all.new.body.out.code [])) c.in-Some.is c.in_ok-lines.ensures
    ∙ ap (λ l. Some (map line_view l)) (sym c.from_vec-2.ensures)) refl c.from_vec.ensures refl refl
