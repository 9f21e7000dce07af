-- Checking in order of a list that is checked from its front: what is known after its first items, and what they give in
-- front of what the rest gives.
use Rattle.std.specs.Prelude.{◌≡◌, List, [], ◌∷◌, ◌++◌, Result, Ok, Err, ⊤}
use Rattle.std.specs.declared.vec.Vec.{Vec}
use Rattle.std.specs.declared.alloc.Global.{Global}
use Rattle.c_types.specs.declared.type_ref.Row.{Row}
use Rattle.c_types.specs.Table.{Extends}
use Rattle.typing_rules.specs.declared.refusal.TypeRefusal.{TypeRefusal}
use Rattle.typing_rules.specs.Known as known
use Rattle.typing_rules.specs.Checking.{Checked, Checking, and_then, pure}
use Rattle.typing_rules.specs.Terms as terms
use Rattle.typing_rules.specs.Source.{Expr, Exprs, first_expr, Parts, Parameters, first_parameter}
use Rattle.typing_rules.specs.SourceViews.{ParameterView}
use Rattle.typing_rules.specs.Ordered.{all_of, parts_of, parameters_of}
use Rattle.c_values.specs.declared.typed.Written.{Written}
use Rattle.c_values.specs.Answers.{AreWritten}
use Rattle.c_known.specs.declared.known.Known.{Known}
use Rattle.c_known.specs.Views.{Knows}
use Rattle.c_known.specs.Gives.{GivesAt}
use Rattle.c_declarators.specs.declared.derivation.Derivation.{Derivation}
use Rattle.c_declarators.specs.Derivations.{AreDerivations, lines_view}
use Rattle.c_declarators.specs.declared.derivation.Lines.{Lines}

-- what the first items give, by a table of types, in front of what the rest gives
abbrev pub Front : Type 0 → Type 1
Front B = List Row → (B → B) → Type 0

pub record Fronted {P B : Type 0} (M : Front B) (old new : Known) (whole : P → Checking B) (found : P → Checked B) : Type 0 where
  pub grown : Extends old.types new.types
  pub front : B → B
  pub means : M new.types front
  pub now : known.Known
  pub knows : Knows new now
  pub is : (rest : P) → found rest ≡ and_then (whole rest now) (λ b. pure (front b))

-- a refusal stands for nothing
abbrev pub IsNothing : {B : Type 0} → List Row → ⊤ → B → Type 0
IsNothing rows x b = Unit {0}

abbrev pub FrontsAt : {P B : Type 0} → Front B → Known → Known → Result ⊤ TypeRefusal → (P → Checking B) → (P → Checked B) → Type 0
FrontsAt M old new (Ok x) whole found = Fronted M old new whole found
FrontsAt {P} {B} M old new (Err told) whole found = (rest : P) → GivesAt {X = ⊤} {A = B} IsNothing old new (Err told) (found rest)

-- the first items are checked, or the first refusal is theirs, or want of memory
pub record Fronts {P B : Type 0} (M : Front B) (old new : Known) (result : Result ⊤ TypeRefusal) (whole : P → Checking B) (f : P → P) : Type 0 where
  pub at : (k : known.Known) → Knows old k → FrontsAt M old new result whole (λ rest. whole (f rest) k)

-- items were added behind others, and stand in front of what the rest gives
pub record More {X A : Type 0} (Are : List Row → List X → List A → Type 0) (before after : List X) (rows : List Row) (front : List A → List A) : Type 0 where
  pub more : List X
  pub is : after ≡ before ++ more
  pub added : List A
  pub means : Are rows more added
  pub puts : (rest : List A) → front rest ≡ added ++ rest

-- ---- values

abbrev pub before_exprs : List Expr → Exprs → Exprs
before_exprs [] rest = rest
before_exprs (e ∷ es) rest = first_expr e (before_exprs es rest)

abbrev pub AreAll : List Row → Vec Written Global → List terms.Written → Type 0
AreAll rows xs ws = AreWritten rows xs.items ws

-- the values of expressions were added to others
abbrev pub AddsValues : Known → Known → List Written → List Written → Result ⊤ TypeRefusal → List Expr → Type 0
AddsValues old new before after result es = Fronts (More AreWritten before after) old new result all_of (before_exprs es)

-- ---- parts of declarators

-- parts of a declarator were added to others
abbrev pub AddsParts : Known → Known → Lines → List Derivation → List Derivation → Result ⊤ TypeRefusal → (Parts → Parts) → Type 0
AddsParts old new lines before after result f = Fronts (More AreDerivations before after) old new result (parts_of (lines_view lines)) f

-- ---- parameters

abbrev pub MoreParameters : List Row → (Unit {0} → Unit {0}) → Type 0
MoreParameters rows front = Unit {0}

abbrev pub before_parameters : List ParameterView → Parameters → Parameters
before_parameters [] rest = rest
before_parameters (p ∷ ps) rest = first_parameter p.specifiers p.declarator (before_parameters ps rest)

-- parameters became known
abbrev pub AddsParameters : Known → Known → Result ⊤ TypeRefusal → List ParameterView → Type 0
AddsParameters old new result ps = Fronts MoreParameters old new result parameters_of (before_parameters ps)
