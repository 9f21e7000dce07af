use Rattle.std.proofs.Common.{map, ap, refl}
use Rattle.c_types.specs.Table.{type_at}
use Rattle.c_types.proofs.Grown.{Extends-refl}
use Rattle.typing_rules.specs.UnitRules.{binary_begun}
use Rattle.c_known.specs.Views.{scope_view, file_scope_view, local_view}
use Rattle.c_known.proofs.Binding.{makes-gives}
use Rattle.c_known.proofs.known.Known.begin.Goals as goal

pub returns : goal.returns
returns c = λ none. makes-gives c.args.self.now _ binary_begun (Extends-refl _) (λ k h. record {
  file = refl;
  scopes = λ later e. ap (map (scope_view (type_at later))) c.new.ensures;
  file_scope = λ later e. ap (map (file_scope_view (type_at later))) none;
  entities = c.begin_file.ensures c.args.self.now.types k h.entities;
  locals = λ later e. ap (map (local_view (type_at later))) c.clear.ensures.items;
  texts = c.clear-2.ensures.items;
  static_cells = refl;
  functions = refl;
  types = h.types;
  uses = h.uses;
})
