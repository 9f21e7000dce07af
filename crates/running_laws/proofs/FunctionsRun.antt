-- Functions run: each of their locals has its cells, and a file has few of them.
use Rattle.std.proofs.Common.{ℕ, suc, ◌+◌, ◌<◌, Bool as Test, true, false, List, [], ◌∷◌, map, refl, ap, sym, subst, ◌∙◌, Option, Some, None}
use Rattle.std.specs.Prelude.{◌&&◌, not, IsTrue}
use Rattle.c_types.specs.Types.{CType, void, integer, pointer, array, returning, taking, Qualified, is_function, is_complete, is_scalar, result_of}
use Rattle.c_typed.specs.Statements as t
use Rattle.source_meaning.specs.Sound.{EachLocalHasCells}
use Rattle.typing_rules.specs.Source.{Bytes, Named}
use Rattle.typing_rules.specs.SourceUnits.{Definition}
use Rattle.typing_rules.specs.Known as known
use Rattle.typing_rules.specs.Known.{Known, File, Entity, Linked, Local, Meaning, entity_at, is_among}
use Rattle.typing_rules.specs.Limits.{most_functions}
use Rattle.typing_rules.specs.SpecifierRules.{Storage}
use Rattle.typing_rules.specs.DeclaratorRules.{name_of, or_no_name, parameter_type}
use Rattle.typing_rules.specs.DeclarationRules.{fully, defined_by, with_definition}
use Rattle.typing_rules.specs.UnitRules.{is_defined_in, with_name, scope_of, function_opened, function_closed, row_of}
use Rattle.typing_rules.specs.TypingParts.{IsCounted}
use Rattle.typing_rules.specs.TypingDeclarations.{IsLinked}
use Rattle.typing_rules.specs.TypingUnits.{IsFunctionBegun, IsFunctionDefined}
use Rattle.typing_rules.specs.Laws.{Each}
use Rattle.typing_rules.specs.LanguageTypes.{IsOfLanguage}
use Rattle.typing_rules.proofs.Sound.{Sound, Any, sound_holds, sound_makes, sound_bind}
use Rattle.typing_rules.proofs.LanguageNodesMade.{if_has}
use Rattle.typing_rules.proofs.DerivedTypes.{derived_is}
use Rattle.typing_laws.specs.HasItems.{BlockHasItems}
use Rattle.typing_laws.proofs.BlocksSound.{IsThere, Block}
use Rattle.typing_laws.proofs.LinkageSound.{LinkedIs, sound_linked, sound_definition}
use Rattle.typing_laws.proofs.DeclarationsSound.{function_is_there}
use Rattle.typing_laws.proofs.FunctionsSound.{IsOwn, own_are, own_is_function, sound_function_opened, sound_function_closed}
use Rattle.running_laws.specs.HasNumbers.{DeclaratorHasNumbers, BlockHasNumbers}
use Rattle.running_laws.proofs.Tests.{not_both}
use Rattle.running_laws.proofs.NodesRun.{complete_has_cells}
use Rattle.running_laws.proofs.Ready.{AreSmall, ready_type}
use Rattle.running_laws.proofs.Linkage.{frame, linkage_set, linkage_named}
use Rattle.running_laws.proofs.LinkedRuns.{IsWell, linked_ready, linked_well, starts_at, main_at}
use Rattle.running_laws.proofs.RunningStatements.{ItemsRun}
use Rattle.running_laws.proofs.InsideRuns.{Inside, in_base, in_derives}
use Rattle.running_laws.proofs.DeclarationsRun.{Locals}
use Rattle.running_laws.proofs.StatementsRun.{in_parts}
use Rattle.running_laws.proofs.ObjectsRun.{AtFile, DefinedSo, defined_so, main_defined}

-- ---- names of file scope

pub record LinkedAt (which : File) (functions : ℕ) (type : Qualified) (x : Linked) (k : Known) : Type 0 where
  pub at : AtFile which functions k
  pub there : LinkedIs x
  pub well : IsWell type x k

pub linked_at : (which : File) (functions : ℕ) (name : Named) (word : Storage) (type : Qualified) → IsThere type.type → (x : Linked) (k l : Known)
    → IsLinked name word type x k l → AtFile which functions k → LinkedAt which functions type x l
linked_at which functions name word type t x k l h at =
    let b = (sound_linked name word type t).sound x k l h at.inside.block in
    record {
      at = record {
        counted = at.counted;
        inside = record {
          block = b.1;
          ready = linked_ready which functions at.counted name word type x k l h at.inside.ready;
          locals = tt;
        };
      };
      there = b.0;
      well = linked_well which functions at.counted name word type x k l h at.inside.ready;
    }

-- the name means the entity from now on
pub named_at : (which : File) (functions : ℕ) (bytes : Bytes) (type : Qualified) (x : Linked) (k : Known) → LinkedAt which functions type x k
    → LinkedAt which functions type x (known.with_file_meaning bytes (known.linked x.entity x.type) k)
named_at which functions bytes type x k h =
    let block = h.at.inside.block in
    let ready = h.at.inside.ready in
    record {
      at = record {
        counted = h.at.counted;
        inside = record {
          block = record {
            scopes = block.scopes;
            file_scope = ((h.there.is_there, h.there.of_language), block.file_scope);
            locals = block.locals;
            entities = block.entities;
          };
          ready = record {
            scopes = ready.scopes;
            room = record {
              functions = ready.room.functions;
              texts = ready.room.texts;
              room = ready.room.room;
              most = ready.room.most;
              small = (tt, ready.room.small);
            };
            linkage = linkage_named which h.at.counted k.file k.entities k.declared k.file_scope bytes (known.linked x.entity x.type) ready.linkage
                h.well.complete;
          };
          locals = tt;
        };
      };
      there = h.there;
      well = record { among = h.well.among; complete = h.well.complete; function = h.well.function };
    }

-- ---- a function is defined

never_static : (a b c : Test) → IsTrue a → IsTrue (not a && b) → IsTrue (not a && c)
never_static true b c f h = absurd cc
never_static false b c f h = absurd (not_both false f refl)

function_at_file : (which : File) (functions n : ℕ) (first : Test) (k l : Known) → DefinedSo fully n first k l → IsTrue (known.is_declared_among n k.declared)
    → IsTrue (is_function (entity_at k.entities n).type.type) → AtFile which functions k → AtFile which functions l
function_at_file which functions n first k l so among function at =
    let e = entity_at k.entities n in
    let e' : Entity = record e { definition = defined_by fully e.definition k.file } in
    let made = with_definition fully n k in
    let ready = at.inside.ready in
    let result : AtFile which functions made = record {
      counted = at.counted;
      inside = record {
        block = ((sound_definition fully n).sound tt k made refl at.inside.block).1;
        ready = record {
          scopes = ready.scopes;
          room = ready.room;
          linkage = linkage_set which at.counted k.file k.entities k.declared k.file_scope n e' ready.linkage
              (never_static (is_function e.type.type) (is_defined_in k.file e'.definition) (is_defined_in k.file e.definition) function)
              (λ s. among) (record { function = λ f. f; complete = λ c. c }) (λ u f. absurd (not_both (is_function e.type.type) function f))
              (starts_at k.entities n ready.linkage.starts)
              (λ m. main_defined fully e.definition k.file (ready.linkage.file_is ∙ m) (main_at k.entities n (ready.linkage.here m)));
        };
        locals = tt;
      };
    } in
    subst (AtFile which functions) (sym so.after) result

counted_at_file : (which : File) (functions : ℕ) (type : CType) → Sound (AtFile which functions) Any (IsCounted type)
counted_at_file which functions type = sound_bind (sound_makes (λ k at. record {
  counted = at.counted;
  inside = record {
    block = if_has Block (is_among type k.types) k _ at.inside.block (record {
      scopes = at.inside.block.scopes;
      file_scope = at.inside.block.file_scope;
      locals = at.inside.block.locals;
      entities = at.inside.block.entities;
    });
    ready = ((ready_type (frame which functions at.counted) type).sound tt k (known.with_type type k) refl at.inside.ready).1;
    locals = tt;
  };
})) (λ u p. sound_holds)

function_begun : (which : File) (functions : ℕ) (name : Named) (word : Storage) (type : Qualified) → IsThere type.type → IsTrue (is_function type.type)
    → (n : ℕ) (k m : Known) → IsFunctionBegun name word type n k m → AtFile which functions k → AtFile which functions m × (functions < most_functions)
function_begun which functions name word type there function n k m h at =
    let linking = h.second in
    let linked = linked_at which functions name word type there linking.of h.between linking.between linking.first
    (subst (AtFile which functions) (sym h.first.1) at) in
    let naming = linking.second in
    let named : LinkedAt which functions type linking.of naming.between =
    subst (LinkedAt which functions type linking.of) (sym naming.first) (named_at which functions name.bytes type linking.of linking.between linked) in
    let defining = naming.second in
    let so = defined_so fully linking.of.entity defining.of naming.between defining.between defining.first in
    let defined : AtFile which functions defining.between =
    function_at_file which functions linking.of.entity defining.of naming.between defining.between so named.well.among
    (named.well.function function) named.at in
    let holding = defining.second in
    let counting = holding.second in
    let held : AtFile which functions holding.between = subst (AtFile which functions) (sym holding.first.1) defined in
    let counted = (counted_at_file which functions type.type).sound counting.of holding.between counting.between counting.first held in
    let few : functions < most_functions = subst (λ i. i < most_functions) {y = functions} defined.inside.ready.room.functions holding.first.0 in
    (subst (AtFile which functions) (sym counting.second.1) counted.1, few)

-- ---- its parameters

scalar_is_complete : (t : CType) → IsTrue (is_scalar t) → IsTrue (is_complete t)
scalar_is_complete void h = absurd cc
scalar_is_complete (integer ty) h = refl
scalar_is_complete (pointer q t) h = refl
scalar_is_complete (array q t n) h = absurd cc
scalar_is_complete (returning q t) h = absurd cc
scalar_is_complete (taking p t) h = absurd cc

own_have_cells : (ps : List Local) → Each IsOwn ps → Locals (map parameter_type ps)
own_have_cells [] h = tt
own_have_cells (p ∷ ps) h =
    (complete_has_cells (parameter_type p) (scalar_is_complete (parameter_type p) h.0.is_scalar) h.0.of_language, own_have_cells ps h.1)

with_name_small : (name : Option Bytes) (n : ℕ) (scope : known.Scope) → AreSmall scope → AreSmall (with_name name n scope)
with_name_small None n scope h = h
with_name_small (Some bytes) n scope h = (tt, h)

scope_small : (n : ℕ) (ps : List Local) → AreSmall (scope_of n ps)
scope_small n [] = tt
scope_small n (p ∷ ps) = with_name_small p.name n (scope_of (suc n) ps) (scope_small (suc n) ps)

function_opens : (which : File) (functions : ℕ) (ps : List Local) → Each IsOwn ps → (k : Known) (at : AtFile which functions k)
    → Inside (frame which (functions + 1) at.counted) Locals (function_opened ps k)
function_opens which functions ps h k at = record {
  block = ((sound_function_opened ps h).sound tt k (function_opened ps k) refl at.inside.block).1;
  ready = record {
    scopes = (scope_small 0 ps, tt);
    room = record {
      functions = ap (λ n. n + 1) at.inside.ready.room.functions;
      texts = at.inside.ready.room.texts;
      room = at.inside.ready.room.room;
      most = at.inside.ready.room.most;
      small = at.inside.ready.room.small;
    };
    linkage = at.inside.ready.linkage;
  };
  locals = own_have_cells ps h;
}

function_closes : (which : File) (functions counted : ℕ) (k : Known) → Inside (frame which functions counted) Locals k
    → AtFile which functions (function_closed k)
function_closes which functions counted k i = record {
  counted = counted;
  inside = record {
    block = (sound_function_closed.sound tt k (function_closed k) refl i.block).1;
    ready = record { scopes = tt; room = i.ready.room; linkage = i.ready.linkage };
    locals = tt;
  };
}

rows_have : (ls : List Local) → Locals (map parameter_type ls) → EachLocalHasCells (map row_of ls)
rows_have [] h = tt
rows_have (l ∷ rest) h = (h.0, rows_have rest h.1)

-- ---- the whole function

pub record FunctionRuns (f : t.Function) : Type 0 where
  pub locals : EachLocalHasCells f.locals
  pub body : ItemsRun f.body

pub record FunctionAt (which : File) (functions : ℕ) (f : t.Function) (l : Known) : Type 0 where
  pub at : AtFile which (functions + 1) l
  pub runs : FunctionRuns f
  pub few : functions < most_functions

pub function_so : (which : File) (functions : ℕ) (d : Definition) → BlockHasItems d.body → DeclaratorHasNumbers d.declarator → BlockHasNumbers d.body
    → (f : t.Function) (k m : Known) → IsFunctionDefined d f k m → AtFile which functions k → FunctionAt which functions f m
function_so which functions d items numbers body_numbers f k m h at =
    let base = (in_base true d.specifiers).sound h.of k h.between h.first at.inside in
    let a = h.second in
    let derived = (in_derives d.declarator numbers).sound a.of h.between a.between a.first base.1 in
    let b = a.second in
    let c = b.second in
    let begins = c.second in
    let type = b.of in
    let ps = c.of in
    let l : IsOfLanguage type.type = derived_is h.of.type a.of type b.first.0 derived.0 base.0.of_language in
    let is_one : IsTrue (is_function type.type) = own_is_function h.of.type a.of type ps c.first.0 b.first.0 in
    let own : Each IsOwn ps = own_are a.of ps c.first.0 derived.0 in
    let before : AtFile which functions a.between = record { counted = at.counted; inside = derived.1 } in
    let here : AtFile which functions c.between = subst (AtFile which functions) (sym (c.first.1 ∙ b.first.1)) before in
    let begun = function_begun which functions (or_no_name (name_of d.declarator)) h.of.storage type (function_is_there type.type is_one l) is_one begins.of
    c.between begins.between begins.first here in
    let opening = begins.second in
    let opened : Inside (frame which (functions + 1) begun.0.counted) Locals opening.between =
    subst (Inside (frame which (functions + 1) begun.0.counted) Locals) (sym opening.first) (function_opens which functions ps own begins.between begun.0) in
    let running = opening.second in
    let body = (in_parts which (functions + 1) begun.0.counted (result_of type.type) false d.body items body_numbers).sound running.of opening.between
    running.between running.first opened in
    let asking = running.second in
    let closing = asking.second in
    let ended : Inside (frame which (functions + 1) begun.0.counted) Locals asking.between =
    subst (Inside (frame which (functions + 1) begun.0.counted) Locals) (sym asking.first.1) body.1 in
    let locals : Locals (map parameter_type asking.of) = subst (λ ls. Locals (map parameter_type ls)) (sym asking.first.0) body.1.locals in
    record {
      at = subst (AtFile which (functions + 1)) (sym (closing.second.1 ∙ closing.first))
          (function_closes which (functions + 1) begun.0.counted asking.between ended);
      runs = subst FunctionRuns (sym closing.second.0) (record { locals = rows_have asking.of locals; body = body.0 });
      few = begun.1;
    }
