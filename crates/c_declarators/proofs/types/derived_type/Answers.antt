use Rattle.std.proofs.Common.{◌≡◌, ◌+◌, ◌-◌, ◌≤◌, drop_of_length-le, length, drop, false, Ok, Err, refl, sym, subst, arith}
use Rattle.std.proofs.lemmas.Result.{err_from_is_err_and}
use Rattle.c_types.proofs.Grown.{Extends-refl, Extends-trans}
use Rattle.typing_rules.specs.DeclaratorRules as rule
use Rattle.c_declarators.specs.Derivations.{lines_view, Derives}
use Rattle.c_declarators.proofs.Outward.{same-length, outward, refused-whole}
use Rattle.c_declarators.proofs.types.derived_type.Goals as goal

pub loop-k-init : goal.loop-k-init
loop-k-init c = record {
  grown = Extends-refl c.args.types.now;
  so_far = λ es u means h.
      let same = same-length c.args.types.now c.args.ds.now es means in
      let past : length es ≤ length c.args.ds.now - 0 = omega arith in
      subst (λ ds. Derives c.args.types.now (Ok c.args.base) (rule.derived (lines_view c.args.at) false u ds)) (sym (drop_of_length-le es past)) h;
}

pub loop-k-preserved : goal.loop-k-preserved
loop-k-preserved c = record {
  grown = Extends-trans c.loop-k.invariant.grown c.derived_by.ensures.kept;
  so_far = λ es u means h.
      let i = length c.args.ds.now - 1 - c.loop-k.k in
      outward c.args.types.now c.loop-k.types c.derived_by.new.types (lines_view c.args.at) c.args.ds.now es i (length c.args.ds.now - c.loop-k.k) (length c.args.ds.now - (c.loop-k.k + 1)) c.index-ds-ds.result u c.loop-k.t (Ok c.in_ok-t.t)
      (omega arith) (omega arith) (omega arith) c.index-ds-ds.is means c.loop-k.invariant.grown (c.loop-k.invariant.so_far es u means h) c.in_ok-t.ensures.made;
}

pub returns-in_err-t-clause-kept : goal.returns-in_err-t-clause-kept
returns-in_err-t-clause-kept c = Extends-trans c.loop-k.invariant.grown c.derived_by.ensures.kept

pub returns-in_err-t-clause-made : goal.returns-in_err-t-clause-made
returns-in_err-t-clause-made c es means u h =
    let i = length c.args.ds.now - 1 - c.loop-k.k in
    let p = err_from_is_err_and c.from_residual.result c.from_residual.ensures.1 in
    let refused = outward c.args.types.now c.loop-k.types c.derived_by.new.types (lines_view c.args.at) c.args.ds.now es i (length c.args.ds.now - c.loop-k.k) i c.index-ds-ds.result u c.loop-k.t (Err c.in_err-t.field-0.0)
    (omega arith) (omega arith) refl c.index-ds-ds.is means c.loop-k.invariant.grown (c.loop-k.invariant.so_far es u means h) c.in_err-t.ensures.made in
    let same = p.2 in
    subst (λ r. Derives c.derived_by.new.types r (rule.derived (lines_view c.args.at) false u es)) (sym p.1)
    (subst (λ y. Derives c.derived_by.new.types (Err y) (rule.derived (lines_view c.args.at) false u es)) (sym p.2)
    (refused-whole c.derived_by.new.types c.in_err-t.field-0.0 (lines_view c.args.at) u es i refused))

pub returns-clause-made : goal.returns-clause-made
returns-clause-made c es means u h =
    let none : length c.args.ds.now - c.loop-k.k ≡ 0 = omega arith in
    subst (λ n. Derives c.loop-k.types (Ok c.loop-k.t) (rule.derived (lines_view c.args.at) false u (drop n es))) none (c.loop-k.invariant.so_far es u means h)
