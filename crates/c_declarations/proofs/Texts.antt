-- Texts, and the cells that they give.
use Rattle.std.proofs.Common.{◌≡◌, ℕ, suc, ◌+◌, ◌<◌, ◌^◌, ◌-◌, min, Bool as Test, true, false, if◌then◌else◌, List, [], ◌∷◌, ◌++◌, length, take, get_or, Option, Some, None, Result, Ok, Err, IfOk, OnOk, OnErr, refl, sym, ap, subst, ◌∙◌, inl, add-one, arith}
use Rattle.std.specs.Bool.{⊤}
use Rattle.std.proofs.Math.Seq.{take-suc}
use Rattle.std.proofs.lemmas.List.{length-append}
use Rattle.srmt_base.specs.declared.ty.Ty.{Ty}
use Rattle.c_tree.specs.declared.expression.Expr as tree_expr
use Rattle.c_tree.specs.declared.expression.ExprNode as tree_node
use Rattle.c_tree.specs.declared.expression.ExprNode.TheVariants as tn
use Rattle.c_tree.specs.declared.operator.BinaryOp.{BinaryOp}
use Rattle.c_tree.specs.declared.operator.BinaryOp.TheVariants.{Arithmetic, And, Or}
use Rattle.c_tree.specs.declared.operator.CompoundOp.{CompoundOp}
use Rattle.c_types.specs.declared.type_ref.Row.{Row}
use Rattle.c_types.proofs.Grown.{Extends-refl}
use Rattle.c_typed.specs.declared.statement.Cell as code_cell
use Rattle.c_typed.specs.Statements.{Cell}
use Rattle.typing_rules.specs.declared.refusal.TypeRefusal.{TypeRefusal}
use Rattle.typing_rules.specs.declared.refusal.TypeRefusal.TheVariants.{Memory}
use Rattle.typing_rules.specs.Source.{Bytes, Expr, at, Node}
use Rattle.typing_rules.specs.SourceViews.{expr_view, node_view, binary_from, assignment_from}
use Rattle.typing_rules.specs.DeclarationRules.{text_of, text_cells, byte_cells, byte_value}
use Rattle.typing_rules.specs.Checking.{◌>>◌, pure, needs}
use Rattle.typing_rules.proofs.SourceViewLaws.{view_text, view_expr}
use Rattle.c_known.specs.declared.known.Known.{Known}
use Rattle.c_known.proofs.Binding.{pure-gives, memory}
use Rattle.c_declarations.specs.Cells.{counted, Added, Adds}
use Rattle.c_declarations.proofs.Counted.{counted-on, added-none, added-both}

-- ---- which expression is a text

pub is-text : (shift : ℕ → ℕ) (x : tree_expr.Expr) (bytes given : Bytes) → x.node ≡ tn.Text bytes → given ≡ bytes
    → Some (record { line = shift x.line; bytes = given }) ≡ text_of (expr_view shift x)
is-text shift x bytes given is same =
    (λ i. Some (record { line = shift x.line; bytes = same i }))
    ∙ sym (ap text_of (view_expr shift x) ∙ ap (λ y. text_of (at (shift x.line) y)) (ap (node_view shift) is ∙ view_text shift bytes))

pub no-text : (shift : ℕ → ℕ) (x : tree_expr.Expr) (n : tree_node.ExprNode) (m : Node) → x.node ≡ n → node_view shift n ≡ m
    → text_of (at (shift x.line) m) ≡ None → None ≡ text_of (expr_view shift x)
no-text shift x n m is view none =
    sym (ap text_of (view_expr shift x) ∙ ap (λ y. text_of (at (shift x.line) y)) (ap (node_view shift) is ∙ view) ∙ none)

pub binary-no-text : (op : BinaryOp) (line first : ℕ) (x y : Expr) → text_of (at first (binary_from op line x y)) ≡ None
binary-no-text (Arithmetic op) line first x y = refl
binary-no-text And line first x y = refl
binary-no-text Or line first x y = refl

pub assignment-no-text : (op : Option CompoundOp) (line first : ℕ) (x y : Expr) → text_of (at first (assignment_from op line x y)) ≡ None
assignment-no-text None line first x y = refl
assignment-no-text (Some op) line first x y = refl

-- ---- the cells of bytes

pub cells-append : (line : ℕ) (ty : Ty) (n : ℕ) (xs ys : List ℕ) → byte_cells line ty n (xs ++ ys) ≡ byte_cells line ty n xs ++ byte_cells line ty (n + length xs) ys
cells-append line ty n [] ys = ap (λ m. byte_cells line ty m ys) (omega arith)
cells-append line ty n (x ∷ xs) ys =
    ap (λ cs. record { index = n; value = byte_value line ty x } ∷ cs)
    (cells-append line ty (suc n) xs ys ∙ ap (λ m. byte_cells line ty (suc n) xs ++ byte_cells line ty m ys) (omega arith))

module _ (line : ℕ) (ty : Ty) (rows : List Row) (before : List code_cell.Cell) where
  -- some bytes of a text were added, with the number of the next cell
  abbrev pub AddedBytes : List code_cell.Cell → ℕ → ℕ → List ℕ → Type 0
  AddedBytes after next i bytes = (next ≡ counted (i + length bytes)) × Added before after rows tt (byte_cells line ty i bytes)

  pub no-bytes : (next i : ℕ) → next ≡ counted i → AddedBytes before next i []
  no-bytes next i e = (e ∙ ap counted (omega arith), added-none before rows tt)

  pub bytes-both : (middle after : List code_cell.Cell) (next i : ℕ) (xs ys : List ℕ) → AddedBytes middle next i xs
      → Added middle after rows tt (byte_cells line ty (i + length xs) ys) → Added before after rows tt (byte_cells line ty i (xs ++ ys))
  bytes-both middle after next i xs ys h k =
      subst (Added before after rows tt) (sym (cells-append line ty i xs ys))
      (added-both before middle after rows rows tt tt (byte_cells line ty i xs) (byte_cells line ty (i + length xs) ys) (Extends-refl rows) h.1 k)

  pub one-byte-on : (middle after : List code_cell.Cell) (next i : ℕ) (bytes : List ℕ) (k byte : ℕ) → k < length bytes → byte ≡ get_or bytes k 0
      → AddedBytes middle next i (take k bytes) → (((j : ℕ) → next ≡ counted j → Added middle after rows tt (byte_cells line ty j (byte ∷ []))))
      → AddedBytes after (min (next + 1) (2 ^ 32 - 1)) i (take (k + 1) bytes)
  one-byte-on middle after next i bytes k byte below is h one =
      subst (AddedBytes after (min (next + 1) (2 ^ 32 - 1)) i) (sym whole) (
        counted-on next (i + length (take k bytes)) 1 h.0 ∙ ap counted more,
        bytes-both middle after next i (take k bytes) (byte ∷ []) h (one (i + length (take k bytes)) h.0),
      )
    where
      whole : take (k + 1) bytes ≡ take k bytes ++ byte ∷ []
      whole = ap (λ j. take j bytes) (add-one k) ∙ take-suc bytes k 0 below ∙ ap (λ b. take k bytes ++ b ∷ []) (sym is)

      more : i + length (take k bytes) + 1 ≡ i + length (take k bytes ++ byte ∷ [])
      more = omega (arith, length-append (take k bytes) (byte ∷ []))

pub on-ok : {T E : Type 0} (r : Result T E) (P : Type 0) (Q : T → Type 0) → OnOk r P → (P → (x : T) → Q x) → IfOk r Q
on-ok (Ok x) P Q h f = f h x
on-ok (Err e) P Q h f = tt

-- ---- what was added with what is known as it is

pub adds-pure : (s : Known) (before after : List code_cell.Cell) (r : Result ⊤ TypeRefusal) (cs : List Cell)
    → IfOk r (λ x. Added before after s.types x cs) → OnErr r (r ≡ Err Memory) → Adds before after s s r (pure cs)
adds-pure s before after (Ok x) cs added wants = pure-gives (Added before after) s x cs added
adds-pure s before after (Err e) cs added wants =
    subst (λ r. Adds before after s s r (pure cs)) (sym wants) (memory (Added before after) s s (pure cs))

-- a test that has to hold before cells are given
pub needed-pure : (s : Known) (before after : List code_cell.Cell) (r : Result ⊤ TypeRefusal) (b : Test) (e : TypeRefusal) (cs : List Cell) → true ≡ b
    → IfOk r (λ x. Added before after s.types x cs) → OnErr r (r ≡ Err Memory) → Adds before after s s r (needs b e >> pure cs)
needed-pure s before after r b e cs is added wants = subst (λ c. Adds before after s s r (needs c e >> pure cs)) is (adds-pure s before after r cs added wants)

pub needed-not : (s : Known) (before after : List code_cell.Cell) (b : Test) (e : TypeRefusal) (cs : List Cell) → false ≡ b
    → Adds before after s s (Err e) (needs b e >> pure cs)
needed-not s before after b e cs is = subst (λ c. Adds before after s s (Err e) (needs c e >> pure cs)) is (record { at = λ k knows. inl refl })

-- ---- the final 0

module _ (line : ℕ) (ty : Ty) (rows : List Row) (before : List code_cell.Cell) where
  pub full-text : (middle : List code_cell.Cell) (next i : ℕ) (bytes : List ℕ) (n : Option ℕ) (b : Test) → text_cells n bytes ≡ (if b then bytes else bytes ++ 0 ∷ []) → b ≡ true
      → AddedBytes line ty rows before middle next i bytes → Added before middle rows tt (byte_cells line ty i (text_cells n bytes))
  full-text middle next i bytes n b e is h =
      subst (λ bs. Added before middle rows tt (byte_cells line ty i bs)) (sym (e ∙ ap (λ c. if c then bytes else bytes ++ 0 ∷ []) is)) h.1

  pub ended-text : (middle after : List code_cell.Cell) (next i : ℕ) (bytes : List ℕ) (n : Option ℕ) (b : Test) → text_cells n bytes ≡ (if b then bytes else bytes ++ 0 ∷ []) → b ≡ false
      → AddedBytes line ty rows before middle next i bytes → Added middle after rows tt (byte_cells line ty (i + length bytes) (0 ∷ []))
      → Added before after rows tt (byte_cells line ty i (text_cells n bytes))
  ended-text middle after next i bytes n b e is h k =
      subst (λ bs. Added before after rows tt (byte_cells line ty i bs)) (sym (e ∙ ap (λ c. if c then bytes else bytes ++ 0 ∷ []) is))
      (bytes-both line ty rows before middle after next i bytes (0 ∷ []) h k)
