use Rattle.std.proofs.Common.{◌≡◌, ◌+◌, List, [], ◌++◌, append_assoc, append-nil, Ok, Err, refl, sym, subst, arith}
use Rattle.std.proofs.lemmas.Result.{err_from_is_err_and}
use Rattle.c_typed.specs.declared.statement.LocalItem.{LocalItem}
use Rattle.typing_rules.specs.declared.refusal.TypeRefusal.TheVariants.{Memory}
use Rattle.typing_rules.specs.SourceViews.{item_view}
use Rattle.typing_rules.specs.OrderedDeclarations.{item_in_block}
use Rattle.c_known.specs.Views.{line_in}
use Rattle.c_known.specs.Gives.{Gives}
use Rattle.c_known.proofs.Binding.{pure-gives, memory}
use Rattle.c_known.proofs.Growing.{stands-for-later}
use Rattle.c_declarations.specs.Parts.{AreLocalItems, one_or_none}
use Rattle.c_declarations.proofs.LocalItems.{items_from, one-on, none-on, front-done, front-refused-behind, front-refused}
use Rattle.c_declarations.proofs.block.items_in_block.Goals as goal

pub returns-in_err-found : goal.returns-in_err-found
returns-in_err-found c t h =
    let shift = line_in c.args.file in
    let line = shift c.args.specifiers in
    let e = err_from_is_err_and c.from_residual.result c.from_residual.ensures.1 in
    rw (e.1, e.2) (c.loop-x.invariant.refused t h c.item_in_block.new.known c.in_err-found.field-0.0
    (λ stands. subst (Gives {X = List LocalItem} AreLocalItems c.loop-x.known c.item_in_block.new.known (Err c.in_err-found.field-0.0)) (sym (one-on shift t line c.args.xs.now c.loop-x.x-index c.x-item.result (omega arith) c.x-item.is))
    (front-refused c.loop-x.known c.item_in_block.new.known c.in_err-found.field-0.0 (item_in_block t line (item_view shift c.x-item.result)) (items_from shift t line c.args.xs.now (c.loop-x.x-index + 1)) (c.in_err-found.ensures t stands))))

pub loop-x-preserved : goal.loop-x-preserved
loop-x-preserved c =
    let shift = line_in c.args.file in
    let line = shift c.args.specifiers in
    let i = c.loop-x.x-index in
    record {
      done = λ t h new ys k.
          let front = c.loop-x.invariant.done t h new (one_or_none c.in_ok-found.found ++ ys)
          (λ stands. subst (Gives AreLocalItems c.loop-x.known new (Ok (one_or_none c.in_ok-found.found ++ ys))) (sym (one-on shift t line c.args.xs.now i c.x-item.result (omega arith) c.x-item.is))
          (front-done c.loop-x.known c.item_in_block.new.known new c.in_ok-found.found ys (item_in_block t line (item_view shift c.x-item.result)) (items_from shift t line c.args.xs.now (i + 1)) (c.in_ok-found.ensures t stands)
          (λ more. k (stands-for-later more stands)))) in
          subst (λ zs. Gives AreLocalItems c.args.known.now new (Ok zs) (items_from shift t line c.args.xs.now 0)) (let e = c.in_ok-add.ensures.added in rw (e, append_assoc)) front;
      refused = λ t h new e k.
          c.loop-x.invariant.refused t h new e
          (λ stands. subst (Gives {X = List LocalItem} AreLocalItems c.loop-x.known new (Err e)) (sym (one-on shift t line c.args.xs.now i c.x-item.result (omega arith) c.x-item.is))
          (front-refused-behind c.loop-x.known c.item_in_block.new.known new c.in_ok-found.found e (item_in_block t line (item_view shift c.x-item.result)) (items_from shift t line c.args.xs.now (i + 1)) (c.in_ok-found.ensures t stands)
          (λ more. k (stands-for-later more stands))));
    }

pub returns-in_err-add : goal.returns-in_err-add
returns-in_err-add c t h =
    let shift = line_in c.args.file in
    let e = err_from_is_err_and c.from_residual-in_err-add.result c.from_residual-in_err-add.ensures.1 in
    let k = c.in_err-add.ensures.memory in
    let same : c.in_err-add.field-0.0 ≡ Memory = cc in
    rw (e.1, e.2, same) (memory AreLocalItems c.args.known.now c.item_in_block.new.known (items_from shift t (shift c.args.specifiers) c.args.xs.now 0))

pub returns : goal.returns
returns c t h =
    let shift = line_in c.args.file in
    let line = shift c.args.specifiers in
    let all = c.loop-x.invariant.done t h c.loop-x.known []
    (λ stands. subst (Gives AreLocalItems c.loop-x.known c.loop-x.known (Ok [])) (sym (none-on shift t line c.args.xs.now c.loop-x.x-index (omega arith))) (pure-gives AreLocalItems c.loop-x.known [] [] (record { always = λ later more. refl }))) in
    subst (λ zs. Gives AreLocalItems c.args.known.now c.loop-x.known (Ok zs) (items_from shift t line c.args.xs.now 0)) (append-nil c.loop-x.items) all
