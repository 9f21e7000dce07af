-- The syntax trees as plain data: initializers, declarations, statements and files.
use Rattle.std.specs.Prelude.{ℕ, List, Option}
use Rattle.typing_rules.specs.Source.{Expr, Specifiers, Declarator}

-- C11 6.7.9
mutual
  pub data Initial : Type 0 where
    single : (value : Expr) → Initial
    braced : (line : ℕ) (items : Initials) → Initial

  pub data Initials : Type 0 where
    no_initials : Initials
    first_initial : (first : Initial) (rest : Initials) → Initials

-- C11 6.7
pub record Item : Type 0 where
  pub declarator : Declarator
  pub initial : Option Initial

pub record Declaration : Type 0 where
  pub specifiers : Specifiers
  pub items : List Item

-- C11 6.8.5.3
pub data ForStart : Type 0 where
  starts : (first : Option Expr) → ForStart
  declares : (declaration : Declaration) → ForStart

-- C11 6.8: each with the line of its first token
mutual
  pub data Stmt : Type 0 where
    block : (line : ℕ) (items : Items) (end : ℕ) → Stmt
    empty : (line : ℕ) → Stmt
    expression : (line : ℕ) (value : Expr) → Stmt
    if_only : (line : ℕ) (test : Expr) (first : Stmt) → Stmt
    if_else : (line : ℕ) (test : Expr) (first second : Stmt) → Stmt
    while : (line : ℕ) (test : Expr) (body : Stmt) → Stmt
    do_while : (line : ℕ) (body : Stmt) (test : Expr) → Stmt
    for : (line : ℕ) (start : ForStart) (test step : Option Expr) (body : Stmt) → Stmt
    continue : (line : ℕ) → Stmt
    break : (line : ℕ) → Stmt
    return : (line : ℕ) (value : Option Expr) → Stmt

  pub data Items : Type 0 where
    no_items : Items
    declaration : (declared : Declaration) (rest : Items) → Items
    statement : (first : Stmt) (rest : Items) → Items

-- C11 6.9.1
pub record Definition : Type 0 where
  pub specifiers : Specifiers
  pub declarator : Declarator
  pub begin : ℕ
  pub body : Items
  pub end : ℕ

-- C11 6.9
pub data External : Type 0 where
  function : (definition : Definition) → External
  declaration_of : (declaration : Declaration) → External

abbrev pub Unit : Type 0
Unit = List External
