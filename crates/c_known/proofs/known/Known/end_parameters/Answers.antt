use Rattle.std.proofs.Common.{map, drop, take, ap, sym, ◌∙◌, length, min}
use Rattle.std.proofs.lemmas.List.{drop-map, take-map}
use Rattle.c_types.specs.Table.{type_at}
use Rattle.c_types.proofs.Grown.{Extends-refl}
use Rattle.typing_rules.specs.Known as known
use Rattle.c_known.specs.Views.{meaning_view, scope_view, local_view}
use Rattle.c_known.proofs.Lookups.{outer-by}
use Rattle.c_known.proofs.Changes.{scopes-known, locals-known}
use Rattle.c_known.proofs.LocalChanges.{drop-least, take-least}
use Rattle.c_known.proofs.known.Known.end_parameters.Goals as goal

pub returns-in-Ok : goal.returns-in-Ok
returns-in-Ok c =
    let until = c.min-before.ensures ∙ ap (λ n. min n c.args.before) (ap length c.as_slice-len.ensures.value) in
    record {
      at = λ k h. record {
        grown = Extends-refl _;
        means = record {
          always = λ later e.
              ap (map (local_view (type_at later))) (c.in-Ok.ensures.tail ∙ ap (λ n. drop n c.args.self.now.locals.items) until ∙ drop-least c.args.before c.args.self.now.locals.items)
              ∙ sym (drop-map (local_view (type_at later)) c.args.before c.args.self.now.locals.items) ∙ ap (drop c.args.before) (h.locals later e);
        };
        knows =
            let shorter = locals-known c.args.self.now k h c.split_off.new.self (take c.args.before k.locals) (λ later e.
            ap (map (local_view (type_at later))) (c.in-Ok.ensures.items ∙ ap (λ n. take n c.args.self.now.locals.items) until ∙ take-least c.args.before c.args.self.now.locals.items)
            ∙ sym (take-map (local_view (type_at later)) c.args.before c.args.self.now.locals.items) ∙ ap (take c.args.before) (h.locals later e)) in
            scopes-known _ (known.with_locals (take c.args.before k.locals) k) shorter c.close.new.self (known.outer_scopes k.scopes) (λ later e.
            ap (map (scope_view (type_at later))) c.close.ensures
            ∙ outer-by (meaning_view (type_at later)) c.args.self.now.blocks ∙ ap known.outer_scopes (h.scopes later e));
      };
    }
