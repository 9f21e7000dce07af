-- What is known after one part of it has changed: the rest stays known.
use Rattle.std.proofs.Common.{◌≡◌, ℕ, List, [], ◌∷◌, map, refl}
use Rattle.std.specs.declared.vec.Vec.{Vec}
use Rattle.std.specs.declared.alloc.Global.{Global}
use Rattle.c_types.specs.declared.type_ref.Row.{Row}
use Rattle.c_types.specs.Table.{type_at, Extends}
use Rattle.c_types.proofs.Grown.{Extends-trans}
use Rattle.typing_rules.specs.Known as known
use Rattle.c_entities.proofs.Rows.{are-later}
use Rattle.c_entities.specs.declared.entity.Linked.{Linked}
use Rattle.c_known.specs.declared.local.Meaning.{Meaning}
use Rattle.c_known.specs.declared.local.Local.{Local}
use Rattle.c_known.specs.declared.known.Known.{Known}
use Rattle.c_known.specs.Views.{Knows, scope_view, file_scope_view, local_view}

-- in a table of types that has grown
pub grown-known : (s : Known) (rows : List Row) (k : known.Known) → Extends s.types rows → Knows s k → Knows (record s { types = rows }) k
grown-known s rows k more h = record {
  file = h.file;
  scopes = λ later e. h.scopes later (Extends-trans more e);
  file_scope = λ later e. h.file_scope later (Extends-trans more e);
  entities = are-later s.types s.entities k.entities k.declared h.entities rows more;
  locals = λ later e. h.locals later (Extends-trans more e);
  texts = h.texts;
  static_cells = h.static_cells;
  functions = h.functions;
  types = λ later e. h.types later (Extends-trans more e);
  uses = h.uses;
}

module _ (s : Known) (k : known.Known) (h : Knows s k) where
  pub scopes-known : (blocks : List (List (List ℕ × Meaning))) (scopes : List known.Scope)
      → ((later : List Row) → Extends s.types later → map (scope_view (type_at later)) blocks ≡ scopes)
      → Knows (record s { blocks = blocks }) (known.with_scopes scopes k)
  scopes-known blocks scopes e = record {
    file = h.file;
    scopes = e;
    file_scope = h.file_scope;
    entities = h.entities;
    locals = h.locals;
    texts = h.texts;
    static_cells = h.static_cells;
    functions = h.functions;
    types = h.types;
    uses = h.uses;
  }

  pub file_scope-known : (names : List (List (List ℕ × Linked))) (scope : known.Scope)
      → ((later : List Row) → Extends s.types later → map (file_scope_view (type_at later)) names ≡ scope ∷ [])
      → Knows (record s { names = names }) (record k { file_scope = scope })
  file_scope-known names scope e = record {
    file = h.file;
    scopes = h.scopes;
    file_scope = e;
    entities = h.entities;
    locals = h.locals;
    texts = h.texts;
    static_cells = h.static_cells;
    functions = h.functions;
    types = h.types;
    uses = h.uses;
  }

  pub functions-known : (n m : ℕ) → n ≡ m → Knows (record s { functions = n }) (record k { functions = m })
  functions-known n m e = record {
    file = h.file;
    scopes = h.scopes;
    file_scope = h.file_scope;
    entities = h.entities;
    locals = h.locals;
    texts = h.texts;
    static_cells = h.static_cells;
    functions = e;
    types = h.types;
    uses = h.uses;
  }

  pub cells-known : (n : ℕ) → Knows (record s { static_cells = n }) (record k { static_cells = n })
  cells-known n = record {
    file = h.file;
    scopes = h.scopes;
    file_scope = h.file_scope;
    entities = h.entities;
    locals = h.locals;
    texts = h.texts;
    static_cells = refl;
    functions = h.functions;
    types = h.types;
    uses = h.uses;
  }

  pub locals-known : (locals : Vec Local Global) (ls : List known.Local)
      → ((later : List Row) → Extends s.types later → map (local_view (type_at later)) locals.items ≡ ls)
      → Knows (record s { locals = locals }) (known.with_locals ls k)
  locals-known locals ls e = record {
    file = h.file;
    scopes = h.scopes;
    file_scope = h.file_scope;
    entities = h.entities;
    locals = e;
    texts = h.texts;
    static_cells = h.static_cells;
    functions = h.functions;
    types = h.types;
    uses = h.uses;
  }
