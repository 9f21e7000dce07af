-- The parts of a function, as the code of the function names them.
use Rattle.std.proofs.Common.{◌≡◌, ◌∙◌, ℕ, true, false, List, map, refl, sym, ap}
use Rattle.mid_code.specs.declared.mid.Mid.TheVariants as mid
use Rattle.c_types.specs.declared.type_ref.TypeRef.{TypeRef}
use Rattle.c_types.specs.Types.{CType, result_of}
use Rattle.c_typed.specs.declared.program.Function.{Function as CodeFunction}
use Rattle.c_typed.specs.declared.statement.BlockItem as code_block_item
use Rattle.c_typed.specs.Statements.{Items}
use Rattle.c_typed.specs.StatementViews.{BlockView, all_items, block_item_view, function_view}
use Rattle.source_meaning.specs.Calls.{numbers_below}
use Rattle.source_meaning.specs.Statements.{locals_of}
use Rattle.lower.specs.Emitting.{◌>>=◌, ◌>>◌, pure, emits, emits_code, wrapped, type_number}
use Rattle.lower.specs.Expressions.{Inside, zero_for}
use Rattle.lower.specs.Statements.{closes, living, all_begin, in_block, lowers_items}
use Rattle.lower.specs.Programs.{with_parameters, leaves_at, exits_at, arguments_stand, parameters_begin, main_body, body_of, with_body, typed_code}
use Rattle.lower.proofs.Steps.{first-of, second-of}
use Rattle.lower.proofs.LocalSteps.{making-assoc}
use Rattle.lower.proofs.StatementRows.{block_parts}

-- the end of a function whose result is of this type
pub leaves-row : (line : ℕ) (result t : CType) → result ≡ result_of t
    → leaves_at line (result_of t)
    ≡ (emits_code (λ around start. closes line around.in_function) >>= (λ done. zero_for result 0 line >>= (λ r. emits line (mid.Return r))))
leaves-row line result t is =
    ap (λ (u : CType). emits_code (λ around start. closes line around.in_function) >>= (λ done. zero_for u 0 line >>= (λ r. emits line (mid.Return r))))
    (sym is)

module _ (types : TypeRef → CType) (f : CodeFunction) where
  body-is : (function_view types f).body ≡ all_items (map (block_item_view types) f.body.items)
  unfolding function_view
  body-is = ap (λ (w : BlockView). w.items) (block_parts types f.body)

  end-is : (function_view types f).end ≡ f.body.end
  unfolding function_view
  end-is = ap (λ (w : BlockView). w.end) (block_parts types f.body)

  type-is : (function_view types f).type ≡ types f.ty
  unfolding function_view
  type-is = refl

  count-is : (function_view types f).parameters ≡ f.parameters
  unfolding function_view
  count-is = refl

  abbrev pub items_of : List code_block_item.BlockItem → Items
  items_of items = all_items (map (block_item_view types) items)

  body-of-items : (items : List code_block_item.BlockItem) → items ≡ f.body.items → (function_view types f).body ≡ items_of items
  body-of-items items is = body-is ∙ ap items_of (sym is)

  module _ (i : Inside) where
    pub main-row : (items : List code_block_item.BlockItem) → items ≡ f.body.items
        → main_body i (function_view types f)
        ≡ (wrapped (living i.rows (locals_of (items_of items))) (all_begin i (locals_of (items_of items)) >> lowers_items i (items_of items))
        >>= (λ done. exits_at f.body.end))
    main-row items is =
        (λ k. wrapped (living i.rows (locals_of (body-of-items items is k)))
        (all_begin i (locals_of (body-of-items items is k)) >> lowers_items i (body-of-items items is k))
        >>= (λ done. exits_at (end-is k)))

    pub main-body : i.is_main ≡ true → body_of i (function_view types f) ≡ main_body i (function_view types f)
    main-body is = first-of _ _ is

    pub other-body : (items : List code_block_item.BlockItem) → items ≡ f.body.items → i.is_main ≡ false
        → body_of i (function_view types f)
        ≡ (in_block i (locals_of (items_of items)) f.body.end (lowers_items i (items_of items)) >>= (λ done. leaves_at f.body.end (result_of (types f.ty))))
    other-body items is other =
        second-of _ _ other
        ∙ (λ k. in_block i (locals_of (body-of-items items is k)) (end-is k) (lowers_items i (body-of-items items is k))
        >>= (λ done. leaves_at (end-is k) (result_of (type-is k))))

    pub with-row : with_body i (function_view types f)
        ≡ wrapped (with_parameters i.rows (numbers_below f.parameters)) (parameters_begin i (numbers_below f.parameters) >> body_of i (function_view types f))
    with-row =
        ap (λ n. wrapped (with_parameters i.rows (numbers_below n)) (parameters_begin i (numbers_below n) >> body_of i (function_view types f))) count-is

    pub typed-row : typed_code i (function_view types f)
        ≡ (type_number (types f.ty)
        >>= (λ n. arguments_stand i (numbers_below f.parameters) >>= (λ done. with_body i (function_view types f) >>= (λ done. pure n))))
    typed-row =
        (λ k. type_number (type-is k) >>= (λ n. (arguments_stand i (numbers_below (count-is k)) >> with_body i (function_view types f)) >>= (λ done. pure n)))
        ∙ (λ k. type_number (types f.ty) >>= (λ n. making-assoc (arguments_stand i (numbers_below f.parameters))
        (λ done. with_body i (function_view types f)) (λ done. pure n) k))
