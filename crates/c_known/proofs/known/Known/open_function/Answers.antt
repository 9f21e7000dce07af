use Rattle.std.proofs.Common.{◌+◌, [], ◌∷◌, map, ap, ◌∙◌}
use Rattle.c_types.specs.Table.{type_at}
use Rattle.c_types.proofs.Grown.{Extends-refl}
use Rattle.typing_rules.specs.UnitRules.{scope_of, function_opened}
use Rattle.c_known.specs.Views.{scope_view}
use Rattle.c_known.specs.Locals.{names_from}
use Rattle.c_known.proofs.Binding.{makes-gives}
use Rattle.c_known.proofs.Changes.{scopes-known, locals-known, functions-known}
use Rattle.c_known.proofs.LocalChanges.{names-view}
use Rattle.c_known.proofs.known.Known.open_function.Goals as goal

pub returns-in-Ok : goal.returns-in-Ok
returns-in-Ok c = λ ps means. makes-gives c.args.self.now _ (function_opened ps) (Extends-refl _) (λ k h.
    scopes-known _ _ (locals-known _ _ (functions-known c.args.self.now k h (c.args.self.now.functions + 1) (k.functions + 1) (ap (λ n. n + 1) h.functions)) c.args.parameters ps means.always)
    c.in-Ok.scope (scope_of 0 ps ∷ []) (λ later e.
    ap (map (scope_view (type_at later))) c.in-Ok.ensures
    ∙ ap (λ scope. scope ∷ []) (ap (λ xs. scope_view (type_at later) (names_from 0 xs)) c.as_slice.ensures.value ∙ names-view (type_at later) 0 c.args.parameters.items ∙ ap (scope_of 0) (means.always later e))))
