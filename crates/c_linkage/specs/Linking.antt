-- The steps of a declaration with linkage, after what was declared before is found.
use Rattle.std.specs.Prelude.{ℕ, Bool as Test, Option, Ok}
use Rattle.c_types.specs.Types.{Qualified, is_function}
use Rattle.typing_rules.specs.declared.refusal.TypeRefusal.TheVariants.{Twice, Mismatch}
use Rattle.typing_rules.specs.Source.{Bytes, Named}
use Rattle.typing_rules.specs.Known as known
use Rattle.typing_rules.specs.Known.{Linked}
use Rattle.typing_rules.specs.DeclarationRules.{tentatively, linkage, entity_of, agrees_before, agrees_with, has_linkage, number_of, type_known, declared_entity}
use Rattle.typing_rules.specs.SpecifierRules.{Storage}
use Rattle.typing_rules.specs.OrderedUnits.{defines, counted_if}
use Rattle.typing_rules.specs.Checking.{Checking, ◌>>=◌, ◌>>◌, pure, asks, makes, needs, tests}

-- an entity is declared: its number
abbrev pub entity_declared : Option ℕ → Bytes → Qualified → Test → Checking ℕ
entity_declared old bytes type external = λ k. Ok (number_of old k.entities, declared_entity old bytes type external k)

-- with the line of its name
abbrev pub entity_named : Option Linked → Named → Qualified → ℕ → Checking Linked
entity_named before name type n = makes (known.declared_first n name.line) >> pure (record { entity = n; type = type_known before type })

abbrev pub linked_anew : Option Linked → Test → Option ℕ → Named → Qualified → Checking Linked
linked_anew before external old name type = entity_declared old name.bytes type external >>= entity_named before name type

-- where the declarations agree in linkage
abbrev pub linked_same : Option Linked → Test → Option ℕ → Named → Qualified → Checking Linked
linked_same before external old name type =
    tests (λ k. has_linkage old external k.entities) (Twice name.line) >> linked_anew before external old name type

-- and in type with those in other scopes and files
abbrev pub linked_agreeing : Option Linked → Test → Option ℕ → Named → Qualified → Checking Linked
linked_agreeing before external old name type =
    tests (λ k. agrees_with old type k.entities) (Mismatch name.line 17) >> linked_same before external old name type

-- and with those at file scope
abbrev pub linked_found : Option Linked → Test → Option ℕ → Named → Qualified → Checking Linked
linked_found before external old name type = needs (agrees_before before type) (Mismatch name.line 17) >> linked_agreeing before external old name type

-- and the entity that is declared again is found
abbrev pub linked_where : Named → Qualified → Option Linked → Test → Checking Linked
linked_where name type before external =
    asks (λ k. entity_of before external name.bytes k.entities) >>= (λ old. linked_found before external old name type)

-- after what the name means at file scope is found
abbrev pub linked_after : Named → Storage → Qualified → Option Linked → Checking Linked
linked_after name storage type before =
    asks (λ k. linkage storage (is_function type.type) before k.entities) >>= linked_where name type before

-- an object of a complete type is defined without an initializer
abbrev pub tentatively_complete : ℕ → Linked → Checking (Unit {0})
tentatively_complete line l = defines tentatively line l.entity >>= (λ first. counted_if first line l.type)
