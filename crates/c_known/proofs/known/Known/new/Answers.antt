use Rattle.std.proofs.Common.{map, ap, refl}
use Rattle.c_types.specs.Table.{type_at}
use Rattle.c_known.specs.Views.{scope_view, file_scope_view, local_view, use_view}
use Rattle.c_known.proofs.known.Known.new.Goals as goal

pub returns-in-Ok-clause-known : goal.returns-in-Ok-clause-known
returns-in-Ok-clause-known c = record {
  file = refl;
  scopes = λ later e. ap (map (scope_view (type_at later))) c.new-in-Ok.ensures;
  file_scope = λ later e. ap (map (file_scope_view (type_at later))) c.in-Ok.ensures;
  entities = c.new-in-Ok-2.ensures c.new.result;
  locals = λ later e. ap (map (local_view (type_at later))) c.new-in-Ok-3.ensures.items;
  texts = c.new-in-Ok-4.ensures.items;
  static_cells = refl;
  functions = refl;
  types = λ later e. ap (map (type_at later)) c.new-in-Ok-5.ensures.empty;
  uses = ap (map use_view) c.new-in-Ok-6.ensures.items;
}
