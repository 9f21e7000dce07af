-- How a function's body makes its definition.
use Rattle.std.proofs.Common.{◌≡◌, ℕ, false, List, map, Result, Ok, Err, refl, sym, ◌∙◌, ap, subst}
use Rattle.std.specs.Prelude.{⊤}
use Rattle.std.specs.Result.{IsErrAnd}
use Rattle.c_types.specs.declared.type_ref.Row.{Row}
use Rattle.c_types.specs.declared.type_ref.TypeRef.{TypeRef}
use Rattle.c_types.specs.Types.{CType, result_of}
use Rattle.c_types.specs.Table.{type_at, Extends, Stands}
use Rattle.c_types.proofs.Grown.{Extends-refl, Extends-trans}
use Rattle.c_typed.specs.declared.program.LocalRow.{LocalRow}
use Rattle.c_typed.specs.declared.program.Function as code_function
use Rattle.c_typed.specs.declared.statement.Block as code_block
use Rattle.c_typed.specs.Statements as t
use Rattle.c_typed.specs.StatementViews.{function_view}
use Rattle.c_tree.specs.declared.unit.FunctionDefinition.{FunctionDefinition}
use Rattle.typing_rules.specs.declared.refusal.TypeRefusal.{TypeRefusal}
use Rattle.typing_rules.specs.Known as known
use Rattle.typing_rules.specs.SourceViews.{block_view, definition_view}
use Rattle.typing_rules.specs.UnitRules.{row_of, function_closed}
use Rattle.typing_rules.specs.Checking.{Checking, ◌>>=◌, ◌>>◌, pure, asks, makes}
use Rattle.typing_rules.specs.OrderedStatements.{items_of}
use Rattle.c_known.specs.declared.known.Known.{Known}
use Rattle.c_known.specs.Gives.{Gives, IsDone}
use Rattle.c_known.specs.Standing.{AreRows}
use Rattle.c_known.proofs.Binding.{bind, pure-gives}
use Rattle.c_statements.specs.Parts.{IsBlock}
use Rattle.c_typing.specs.Files.{IsFunction}
use Rattle.c_typing.specs.Functions.{function_ended, function_bodied}
use Rattle.c_typing.proofs.Spine.{told-on}

pub type-later : (old rows : List Row) → Extends old rows → (r : TypeRef) (u : CType) → Stands old r u → Stands rows r u
type-later old rows grown r u stands = record { always = λ later more. stands.always later (Extends-trans grown more) }

pub result-stands : (rows : List Row) (r f : TypeRef) (u : CType) → Stands rows r u → Stands rows f (result_of (type_at rows r)) → Stands rows f (result_of u)
result-stands rows r f u stands result = subst (λ v. Stands rows f (result_of v)) (stands.always rows (Extends-refl rows)) result

-- what a function is after its body
abbrev pub function_of_locals : ℕ → ℕ → CType → ℕ → ℕ → ℕ → t.Items → List known.Local → t.Function
function_of_locals n line u parameters begin end is locals =
    record { entity = n; line = line; type = u; parameters = parameters; locals = map row_of locals; begin = begin; body = is; end = end }

abbrev pub ended_with : ℕ → ℕ → CType → ℕ → ℕ → ℕ → t.Items → List known.Local → Checking t.Function
ended_with n line u parameters begin end is locals = makes function_closed >> pure (function_of_locals n line u parameters begin end is locals)

abbrev pub locals_asked : Checking (List known.Local)
locals_asked = asks (λ k. k.locals)

function-is : (rows : List Row) (n line : ℕ) (ty : TypeRef) (u : CType) (parameters begin end : ℕ) (locals : List LocalRow) (body : code_block.Block) (is : t.Items) (ls : List known.Local)
    → Stands rows ty u → IsBlock begin end rows body is → AreRows rows locals ls
    → IsFunction rows (record { entity = n; line = line; ty = ty; parameters = parameters; locals = locals; body = body }) (function_of_locals n line u parameters begin end is ls)
unfolding function_view
function-is rows n line ty u parameters begin end locals body is ls stands block rowed = record {
  always = λ later more i. record {
    entity = n;
    line = line;
    type = stands.always later more i;
    parameters = parameters;
    locals = rowed.always later more i;
    begin = (block.always later more i).line;
    body = (block.always later more i).items;
    end = (block.always later more i).end;
  };
}

pub ended : (s new : Known) (n line : ℕ) (ty : TypeRef) (u : CType) (parameters begin end : ℕ) (locals : List LocalRow) (body : code_block.Block) (is : t.Items)
    → Stands s.types ty u → IsBlock begin end s.types body is → Gives AreRows s s (Ok locals) locals_asked → Gives {X = ⊤} {A = Unit {0}} IsDone s new (Ok tt) (makes function_closed)
    → Gives IsFunction s new (Ok (record { entity = n; line = line; ty = ty; parameters = parameters; locals = locals; body = body })) (function_ended n line u parameters begin end is)
ended s new n line ty u parameters begin end locals body is stands block rowed closed =
    let fn : code_function.Function = record { entity = n; line = line; ty = ty; parameters = parameters; locals = locals; body = body } in
    bind AreRows IsFunction s s new locals (Ok fn) locals_asked (ended_with n line u parameters begin end is) rowed
    (λ ls grown are. bind IsDone IsFunction s new new tt (Ok fn) (makes function_closed) (λ done. pure (function_of_locals n line u parameters begin end is ls)) closed
    (λ done more unit. pure-gives IsFunction new fn (function_of_locals n line u parameters begin end is ls)
    (later-function s.types new.types more fn _ (function-is s.types n line ty u parameters begin end locals body is ls stands block are))))
  where
    later-function : (old rows : List Row) → Extends old rows → (x : code_function.Function) (f : t.Function) → IsFunction old x f → IsFunction rows x f
    later-function old rows grown x f is = record { always = λ later more. is.always later (Extends-trans grown more) }

pub ended-told : (s new : Known) (e : TypeRefusal) (r : Result code_function.Function TypeRefusal) (n line : ℕ) (u : CType) (parameters begin end : ℕ) (is : t.Items)
    → Gives {X = List LocalRow} {A = List known.Local} AreRows s s (Err e) locals_asked → IsErrAnd r (λ y. y ≡ e) → Gives IsFunction s new r (function_ended n line u parameters begin end is)
ended-told s new e r n line u parameters begin end is refused h =
    told-on AreRows IsFunction s s new e locals_asked (ended_with n line u parameters begin end is) r refused h

module _ (s mid new : Known) where
  pub body-by : (body : code_block.Block) (r : Result code_function.Function TypeRefusal) (shift : ℕ → ℕ) (d : FunctionDefinition) (n line : ℕ) (u : CType) (parameters : ℕ)
      → {returns : TypeRef} → Stands s.types returns (result_of u)
      → ((v : CType) → Stands s.types returns v → Gives (IsBlock (block_view shift d.body).line (block_view shift d.body).end) s mid (Ok body) (items_of v false (block_view shift d.body).items))
      → ((is : t.Items) → Extends s.types mid.types → IsBlock (block_view shift d.body).line (block_view shift d.body).end mid.types body is
      → Gives IsFunction mid new r (function_ended n line u parameters (block_view shift d.body).line (block_view shift d.body).end is))
      → Gives IsFunction s new r (function_bodied n line u parameters (definition_view shift d))
  body-by body r shift d n line u parameters result checked rest =
      bind (IsBlock (block_view shift d.body).line (block_view shift d.body).end) IsFunction s mid new body r (items_of (result_of u) false (block_view shift d.body).items)
      (function_ended n line u parameters (block_view shift d.body).line (block_view shift d.body).end) (checked (result_of u) result) rest

  pub body-told : (e : TypeRefusal) (r : Result code_function.Function TypeRefusal) (shift : ℕ → ℕ) (d : FunctionDefinition) (n line : ℕ) (u : CType) (parameters : ℕ)
      → {returns : TypeRef} → Stands s.types returns (result_of u)
      → ((v : CType) → Stands s.types returns v → Gives {X = code_block.Block} {A = t.Items} (IsBlock (block_view shift d.body).line (block_view shift d.body).end) s mid (Err e) (items_of v false (block_view shift d.body).items))
      → IsErrAnd r (λ y. y ≡ e) → Gives IsFunction s new r (function_bodied n line u parameters (definition_view shift d))
  body-told e r shift d n line u parameters result checked h =
      told-on (IsBlock (block_view shift d.body).line (block_view shift d.body).end) IsFunction s mid new e (items_of (result_of u) false (block_view shift d.body).items)
      (function_ended n line u parameters (block_view shift d.body).line (block_view shift d.body).end) r (checked (result_of u) result) h
