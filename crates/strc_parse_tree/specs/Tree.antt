-- The syntax tree of a program, without where it lies in memory.
use Rattle.std.specs.Prelude.{ℕ, ℤ, Bool, List, [], ◌∷◌, Option, Some, None}
use Rattle.strc_parse_tree.specs.declared.tree.ItemType.{ItemType}
use Rattle.strc_parse_tree.specs.declared.tree.StreamType.{StreamType}
use Rattle.strc_parse_tree.specs.declared.tree.CompositeKind.{CompositeKind}
use Rattle.strc_parse_tree.specs.declared.tree.Role.{Role}
use Rattle.strc_parse_tree.specs.declared.tree.Brackets.{Brackets}
use Rattle.strc_parse_tree.specs.declared.tree.RateKind.{RateKind}
use Rattle.strc_parse_tree.specs.declared.tree.HelperType.{HelperType}
use Rattle.strc_parse_tree.specs.declared.tree.AssignOperator.{AssignOperator}
use Rattle.strc_parse_tree.specs.declared.tree.UnaryOperator.{UnaryOperator}
use Rattle.strc_parse_tree.specs.declared.tree.StepOperator.{StepOperator}
use Rattle.strc_parse_tree.specs.declared.tree.BinaryOperator.{BinaryOperator}

-- an expression, and the arguments of a call in a row; a name is the list of its bytes
mutual
  pub data Expr : Type 0 where
    Number : (value : ℤ) → Expr
    Truth : (value : Bool) → Expr
    Read : (name : List ℕ) → Expr
    Element : (name : List ℕ) (index : Expr) → Expr
    Pop : Expr
    Peek : (index : Expr) → Expr
    Call : (name : List ℕ) (arguments : Arguments) → Expr
    Group : (inner : Expr) → Expr
    Unary : (operator : UnaryOperator) (operand : Expr) → Expr
    Step : (operator : StepOperator) (name : List ℕ) → Expr
    StepElement : (operator : StepOperator) (name : List ℕ) (index : Expr) → Expr
    Binary : (operator : BinaryOperator) (left right : Expr) → Expr
    Conditional : (condition chosen other : Expr) → Expr

  pub data Arguments : Type 0 where
    NoArgument : Arguments
    Argument : (first : Expr) (rest : Arguments) → Arguments

-- the type of variables, as it is written
pub data VariableType : Type 0 where
  Boolean : VariableType
  Int : VariableType
  Array : (length : Expr) → VariableType

-- a variable in a declaration
pub record Variable : Type 0 where
  pub name : List ℕ
  pub initial : Option Expr

-- a rate as it is written
pub record Rate : Type 0 where
  pub kind : RateKind
  pub rate : Expr

-- how items are split
pub data Splitter : Type 0 where
  Duplicate : (brackets : Brackets) → Splitter
  Roundrobin : (weights : Option (List Expr)) → Splitter

-- a statement, and statements in a row; a child of a composite stream; a part of a filter, and
-- parts in a row
mutual
  pub data Stmt : Type 0 where
    Empty : Stmt
    Block : (body : Stmts) → Stmt
    Declare : (kind : VariableType) (variables : List Variable) → Stmt
    Evaluate : (value : Expr) → Stmt
    Assign : (name : List ℕ) (operator : AssignOperator) (value : Expr) → Stmt
    AssignElement : (name : List ℕ) (index : Expr) (operator : AssignOperator) (value : Expr) → Stmt
    If : (condition : Expr) (chosen : Stmt) → Stmt
    IfElse : (condition : Expr) (chosen other : Stmt) → Stmt
    While : (condition : Expr) (body : Stmt) → Stmt
    For : (first : Stmt) (condition : Option Expr) (step body : Stmt) → Stmt
    Push : (value : Expr) → Stmt
    Print : (value : Expr) → Stmt
    Println : (value : Expr) → Stmt
    Return : (value : Option Expr) → Stmt
    Compose : (statement : Composition) → Stmt

  pub data Stmts : Type 0 where
    Done : Stmts
    Then : (first : Stmt) (rest : Stmts) → Stmts

  pub data Composition : Type 0 where
    ChildOf : (role : Role) (child : Child) → Composition
    Split : (splitter : Splitter) → Composition
    Join : (weights : Option (List Expr)) → Composition
    Enqueue : (value : Expr) → Composition

  pub data Child : Type 0 where
    Named : (name : List ℕ) (arguments : Option (List Expr)) → Child
    Identity : (brackets : Brackets) → Child
    FileReader : (text : List ℕ) → Child
    FileWriter : (text : List ℕ) → Child
    AnonymousFilter : (types : StreamType) (members : Members) → Child
    AnonymousComposite : (types : Option StreamType) (kind : CompositeKind) (block : Stmts) → Child

  pub data Member : Type 0 where
    Fields : (kind : VariableType) (variables : List Variable) → Member
    Init : (block : Stmts) → Member
    Prework : (rates : List Rate) (block : Stmts) → Member
    Work : (rates : List Rate) (block : Stmts) → Member
    Helper : (kind : HelperType) (name : List ℕ) (parameters : List (List ℕ)) (block : Stmts)
        → Member

  pub data Members : Type 0 where
    NoMember : Members
    And : (first : Member) (rest : Members) → Members

-- a stream without its name
pub data Stream : Type 0 where
  Filter : (input output : ItemType) (members : List Member) → Stream
  Composite : (types : StreamType) (kind : CompositeKind) (block : Stmts) → Stream

-- a named stream; a program is a list of them
pub record Declaration : Type 0 where
  pub name : List ℕ
  pub parameters : Option (List (List ℕ))
  pub stream : Stream

-- arguments in a row, from a list of them
abbrev pub arguments_of : List Expr → Arguments
arguments_of [] = NoArgument
arguments_of (e ∷ others) = Argument e (arguments_of others)

-- statements in a row, from a list of them
abbrev pub row : List Stmt → Stmts
row [] = Done
row (s ∷ others) = Then s (row others)

-- members in a row, from a list of them
abbrev pub chain : List Member → Members
chain [] = NoMember
chain (m ∷ others) = And m (chain others)

-- the variable of this name, or its element
abbrev pub read_of : List ℕ → Option Expr → Expr
read_of name None = Read name
read_of name (Some index) = Element name index

-- one more or one less in the variable of this name, or in its element
abbrev pub step_of_place : StepOperator → List ℕ → Option Expr → Expr
step_of_place operator name None = Step operator name
step_of_place operator name (Some index) = StepElement operator name index
