use Rattle.std.proofs.Common.{◌∙◌, ◌+◌, map, drop, sym, ap, subst}
use Rattle.std.proofs.lemmas.List.{at_drop_all}
use Rattle.c_types.specs.Table.{type_at}
use Rattle.c_typed.specs.StatementViews.{function_view}
use Rattle.lower.specs.Emits.{AllStand}
use Rattle.lower.specs.Programs.{all_types}
use Rattle.lower.proofs.FunctionTypes.{inserted-types, inserted-stand, next-type}
use Rattle.lower.proofs.types.add_types.Goals as goal

pub loop-function-preserved : goal.loop-function-preserved
loop-function-preserved c = λ before are.
    let rows = c.args.types.now in
    let fs = c.args.functions.now in
    let i = c.loop-function.function-index in
    let f = c.function-item.result in
    let r = c.reference.result in
    let old = c.loop-function.known.keys in
    let h = c.loop-function.invariant before are in
    record {
      stand = subst (AllStand rows) (sym c.in_ok-insert_full.ensures.keys)
          (inserted-stand rows r (type_at rows f.ty) c.reference.ensures.same c.reference.ensures.one old h.stand);
      rest =
          ap (λ ks. all_types (map (type_at rows) ks) (map (function_view (type_at rows)) (drop (i + 1) fs))) c.in_ok-insert_full.ensures.keys
          ∙ ap (λ ts. all_types ts (map (function_view (type_at rows)) (drop (i + 1) fs)))
          (inserted-types rows r (type_at rows f.ty) c.reference.ensures.same c.reference.ensures.one old h.stand)
          ∙ next-type rows fs i f c.loop-function-test.true c.function-item.is (map (type_at rows) old) ∙ h.rest;
    }

pub returns : goal.returns
returns c = λ before are.
    let rows = c.args.types.now in
    let ts = map (type_at rows) c.loop-function.known.keys in
    let h = c.loop-function.invariant before are in
    record {
      stand = h.stand;
      are = sym (at_drop_all (λ l. all_types ts (map (function_view (type_at rows)) l)) c.args.functions.now c.loop-function.function-index
          c.loop-function-test.false) ∙ h.rest;
    }
