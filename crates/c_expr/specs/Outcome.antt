-- What the code answers, beside what a reader of lists answers.
use Rattle.std.specs.Prelude.{◌≡◌, ℕ, Result, Ok, Err, List}
use Rattle.std.specs.Fn.{Shared}
use Rattle.std.specs.Borrow.{Bor}
use Rattle.c_lexer.specs.declared.token.Token.{Token}
use Rattle.c_tree.specs.declared.expression.Expr.{Expr}
use Rattle.c_tree.specs.declared.expression.Declarator.{Declarator}
use Rattle.c_expr.specs.declared.fault.Fault.{Fault}
use Rattle.c_expr.specs.declared.fault.Fault.TheVariants as faults
use Rattle.c_expr.specs.declared.start.Start.{Start}
use Rattle.c_expr.specs.declared.start.Naming.{Naming}
use Rattle.c_expr.specs.Nodes.{Bytes}
use Rattle.c_expr.specs.Reading.{Reader, expr_at, declarator_at}

-- What the code returned, seen by a view, is what reading gives, unless memory ran out.
abbrev pub Fails : {Y : Type 0} → Fault → Result Y ℕ → Type 0
Fails faults.Memory read = Unit {0}
Fails (faults.Refused n) read = read ≡ Err n

abbrev pub Gives : {X Y : Type 0} → (X → Y) → Result X Fault → Result Y ℕ → Type 0
Gives view (Ok x) read = read ≡ Ok (view x)
Gives view (Err e) read = Fails e read

-- a tree, and the tokens behind it
abbrev pub seen : {A : Type 0} → A × Bor (List Token) → A × List Token
seen x = (x.0, x.1.now)

-- a line of the grammar, whose parts that lead back to it are read at a depth
abbrev pub at_depth : {A : Type 0} → (Bytes → (Start → Reader Expr) → (Naming → Reader Declarator) → A) → Bytes → ℕ → A
at_depth line src depth = line src (expr_at src depth) (declarator_at src depth)

-- Two functions of the code read expressions and declarators at a depth.
pub record Leads {E D : Type 0} (e : Shared E (Start × (Bor (List Token) × Unit {0})) (Result (Expr × Bor (List Token)) Fault)) (d : Shared D (Naming × (Bor (List Token) × Unit {0})) (Result (Declarator × Bor (List Token)) Fault)) (expr : E) (declarator : D) (src : Bytes) (depth : ℕ) : Type 0 where
  pub expr_callable : (start : Start) (t : Bor (List Token)) → e.pre expr (start, (t, tt))
  pub expr_gives : (start : Start) (t : Bor (List Token)) (r : Result (Expr × Bor (List Token)) Fault) → e.post expr (start, (t, tt)) r → Gives seen r (expr_at src depth start t.now)
  pub declarator_callable : (naming : Naming) (t : Bor (List Token)) → d.pre declarator (naming, (t, tt))
  pub declarator_gives : (naming : Naming) (t : Bor (List Token)) (r : Result (Declarator × Bor (List Token)) Fault) → d.post declarator (naming, (t, tt)) r → Gives seen r (declarator_at src depth naming t.now)
