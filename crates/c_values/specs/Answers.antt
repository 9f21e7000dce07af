-- What the terms of the code stand for, and how what a function of the code answers is what checking answers in order.
use Rattle.std.specs.Prelude.{◌≡◌, ◌⊎◌, ℕ, List, [], ◌∷◌, map, Option, Some, None, Result, Ok, Err, ⊤}
use Rattle.c_types.specs.declared.type_ref.Row.{Row}
use Rattle.c_types.specs.declared.type_ref.TypeRef.{TypeRef}
use Rattle.c_types.specs.declared.type_ref.QualifiedRef.{QualifiedRef}
use Rattle.srmt_base.specs.declared.ty.Ty.{Ty}
use Rattle.c_types.specs.Types.{CType, Qualified, pointer_to}
use Rattle.c_types.specs.Rules.{conversion_form, tested_type}
use Rattle.c_types.specs.Table.{type_at, Extends, Stands, StandsFor}
use Rattle.c_typed.specs.declared.value.Value as v
use Rattle.c_typed.specs.declared.value.Place as p
use Rattle.c_typed.specs.declared.value.PlaceNode as node
use Rattle.c_typed.specs.Typed as tree
use Rattle.c_typed.specs.Typed.{Place, PlaceNode, Value, Values, type_of, place_type}
use Rattle.c_typed.specs.Views.{value_view, values_from, place_node_view}
use Rattle.typing_rules.specs.declared.refusal.TypeRefusal.{TypeRefusal}
use Rattle.typing_rules.specs.declared.refusal.TypeRefusal.TheVariants.{Memory, Mismatch}
use Rattle.typing_rules.specs.Known as known
use Rattle.typing_rules.specs.Known.{Known}
use Rattle.typing_rules.specs.Terms as terms
use Rattle.typing_rules.specs.Checking.{Checked, Checking, ◌>>=◌, ◌>>◌, pure, refuse, ruled_by}
use Rattle.typing_rules.specs.OrderedParts.{designated, valued}
use Rattle.c_values.specs.declared.typed.Predeclared.{Predeclared}
use Rattle.c_values.specs.declared.typed.Predeclared.TheVariants.{Putchar, Getchar, Exit}
use Rattle.c_values.specs.declared.typed.Designated.{Designated}
use Rattle.c_values.specs.declared.typed.Designated.TheVariants.{Entity, Predeclared as Outside, Through}
use Rattle.c_values.specs.declared.typed.Term.{Term}
use Rattle.c_values.specs.declared.typed.Term.TheVariants.{Object, Result as Known', Designator}
use Rattle.c_values.specs.declared.typed.Target.{Target}
use Rattle.c_values.specs.declared.typed.Change.{Change}
use Rattle.c_values.specs.declared.typed.Typed.{Typed}
use Rattle.c_values.specs.declared.typed.Written.{Written}
use Rattle.c_values.specs.Stand.{MeansPlace, MeansTyped, MeansWritten}

-- ---- what terms stand for

abbrev pub predeclared_view : Predeclared → known.Predeclared
predeclared_view Putchar = known.the_putchar
predeclared_view Getchar = known.the_getchar
predeclared_view Exit = known.the_exit

abbrev pub MeansDesignated : List Row → Designated → terms.Designated → Type 0
MeansDesignated rows (Entity n m) (terms.entity number is_main) = (n ≡ number) × (m ≡ is_main)
MeansDesignated rows (Entity n m) (terms.predeclared q) = ⊥
MeansDesignated rows (Entity n m) (terms.through pointer) = ⊥
MeansDesignated rows (Outside p) (terms.entity number is_main) = ⊥
MeansDesignated rows (Outside p) (terms.predeclared q) = predeclared_view p ≡ q
MeansDesignated rows (Outside p) (terms.through pointer) = ⊥
MeansDesignated rows (Through x) (terms.entity number is_main) = ⊥
MeansDesignated rows (Through x) (terms.predeclared q) = ⊥
MeansDesignated rows (Through x) (terms.through pointer) = MeansTyped rows x pointer

abbrev pub MeansTerm : List Row → Term → terms.Term → Type 0
MeansTerm rows (Object x) (terms.object q) = MeansPlace rows x q
MeansTerm rows (Object x) (terms.result w) = ⊥
MeansTerm rows (Object x) (terms.designator line of type) = ⊥
MeansTerm rows (Known' x) (terms.object q) = ⊥
MeansTerm rows (Known' x) (terms.result w) = MeansTyped rows x w
MeansTerm rows (Known' x) (terms.designator line of type) = ⊥
MeansTerm rows (Designator at x ty) (terms.object q) = ⊥
MeansTerm rows (Designator at x ty) (terms.result w) = ⊥
MeansTerm rows (Designator at x ty) (terms.designator line of type) = (at ≡ line) × MeansDesignated rows x of × Stands rows ty type

abbrev pub MeansPlaceIf : List Row → Option p.Place → Option Place → Type 0
MeansPlaceIf rows None None = Unit {0}
MeansPlaceIf rows None (Some q) = ⊥
MeansPlaceIf rows (Some x) None = ⊥
MeansPlaceIf rows (Some x) (Some q) = MeansPlace rows x q

pub record MeansTarget (rows : List Row) (x : Target) (t : terms.Target) : Type 0 where
  pub type : Stands rows x.ty (type_of t.old)
  pub place : MeansPlaceIf rows x.place t.lvalue

abbrev pub AreWritten : List Row → List Written → List terms.Written → Type 0
AreWritten rows [] [] = Unit {0}
AreWritten rows [] (w ∷ ws) = ⊥
AreWritten rows (x ∷ xs) [] = ⊥
AreWritten rows (x ∷ xs) (w ∷ ws) = MeansWritten rows x w × AreWritten rows xs ws

pub record MeanValues (rows : List Row) (xs : List v.Value) (vs : Values) : Type 0 where
  pub always : (later : List Row) → Extends rows later → values_from (map (value_view (type_at later)) xs) ≡ vs

abbrev pub change_view : Change → terms.Change
change_view c = record { is_after = c.is_after; first = c.first; op = c.op; at = c.at }

-- ---- what is answered

-- what is answered is what checking answers in order, with nothing else known by it; want of memory may come instead
abbrev pub AnswersAt : {X A : Type 0} → (X → A → Type 0) → Known → Result X TypeRefusal → Checked A → Type 0
AnswersAt M k (Ok x) (Ok found) = M x found.0 × (found.1 ≡ k)
AnswersAt M k (Ok x) (Err refusal) = ⊥
AnswersAt M k (Err told) (Ok found) = told ≡ Memory
AnswersAt M k (Err told) (Err refusal) = (told ≡ refusal) ⊎ (told ≡ Memory)

abbrev pub Answers : {X A : Type 0} → (X → A → Type 0) → Result X TypeRefusal → Checking A → Type 0
Answers M result m = (k : Known) → AnswersAt M k result (m k)

-- a rule allows it
abbrev pub IsAllowed : {A : Type 0} → ⊤ → A → Type 0
IsAllowed x a = ⊤

-- both operands of `&&` or `||`
abbrev pub both_tested : ℕ → Value → Value → Checking (Unit {0})
both_tested at v w = ruled_by at (tested_type (type_of v)) >> (ruled_by at (tested_type (type_of w)) >> pure tt)

-- ---- whatever the parts mean

abbrev pub OverTerm : List Row → Term → (terms.Term → Type 0) → Type 0
OverTerm rows x P = (t : terms.Term) → MeansTerm rows x t → P t

abbrev pub OverPlace : List Row → p.Place → (Place → Type 0) → Type 0
OverPlace rows x P = (q : Place) → MeansPlace rows x q → P q

abbrev pub OverTyped : List Row → Typed → (Value → Type 0) → Type 0
OverTyped rows x P = (w : Value) → MeansTyped rows x w → P w

abbrev pub OverWritten : List Row → Written → (terms.Written → Type 0) → Type 0
OverWritten rows x P = (w : terms.Written) → MeansWritten rows x w → P w

abbrev pub OverThree : List Row → Written → Written → Written → (terms.Written → terms.Written → terms.Written → Type 0) → Type 0
OverThree rows x y z P = (u w s : terms.Written) → MeansWritten rows x u → MeansWritten rows y w → MeansWritten rows z s → P u w s

abbrev pub OverBranches : List Row → Typed → Written → Written → (Value → terms.Written → terms.Written → Type 0) → Type 0
OverBranches rows x y z P = (u : Value) (w s : terms.Written) → MeansTyped rows x u → MeansWritten rows y w → MeansWritten rows z s → P u w s

abbrev pub OverTarget : List Row → Target → Written → (terms.Target → terms.Written → Type 0) → Type 0
OverTarget rows x a P = (t : terms.Target) (w : terms.Written) → MeansTarget rows x t → MeansWritten rows a w → P t w

abbrev pub OverType : List Row → TypeRef → (CType → Type 0) → Type 0
OverType rows ty P = (t : CType) → Stands rows ty t → P t

abbrev pub OverDesignator : List Row → Designated → TypeRef → (terms.Designated → CType → Type 0) → Type 0
OverDesignator rows x ty P = (d : terms.Designated) (t : CType) → MeansDesignated rows x d → Stands rows ty t → P d t

abbrev pub OverQualified : List Row → QualifiedRef → (Qualified → Type 0) → Type 0
OverQualified rows ty P = (q : Qualified) → StandsFor rows ty q → P q

-- a function's type and arguments
abbrev pub OverCall : List Row → TypeRef → List Written → (CType → List terms.Written → Type 0) → Type 0
OverCall rows ty xs P = (t : CType) (ws : List terms.Written) → Stands rows ty t → AreWritten rows xs ws → P t ws

-- ---- `&`, apart from what is known of a local

-- C11 6.5.3.2
abbrev pub address_term : ℕ → terms.Term → Checking terms.Term
address_term line (terms.object (tree.place first type node)) =
    pure (terms.result (tree.value line (pointer_to type) (tree.address (tree.place first type node))))
address_term line (terms.result v) = refuse (Mismatch line 9)
address_term line (terms.designator first d type) =
    designated first d type >>= (λ v. pure (terms.result (tree.value line (type_of v) (tree.requalified v))))

-- ---- values

-- the value of an operand, with the line of its first token as it is written
abbrev pub written_value : ℕ → terms.Term → Checking terms.Written
written_value first t = valued t >>= (λ v. pure (record { first = first; value = v }))

-- an operand converted to a type as by assignment (C11 6.5.16.1)
abbrev pub value_for : ℕ → CType → terms.Written → Checking Value
value_for at t w = ruled_by at (conversion_form t (terms.operand_of w.value)) >>= (λ f. pure (terms.converted_by f t w))

-- what an lvalue is, in a table of types and in all that have more
pub record MeansNode (rows : List Row) (x : node.PlaceNode) (n : PlaceNode) : Type 0 where
  pub always : (later : List Row) → Extends rows later → place_node_view (type_at later) x ≡ n

-- an integer or a pointer that changes by a value
abbrev pub updated_value : ℕ → terms.Change → Ty → Place → Value → Value
updated_value line c ty q w = tree.value line (place_type q).type (tree.update c.is_after q c.first c.op c.at ty w)

abbrev pub moved_value : ℕ → terms.Change → Place → Value → Value
moved_value line c q w = tree.value line (place_type q).type (terms.move_node c q w)
