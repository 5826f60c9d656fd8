-- Small programs, and what they mean.
use Rattle.std.specs.Prelude.{◌≡◌, ℕ, ℤ, pos, true, List, [], ◌∷◌, Option, Some, None, Ok, Err}
use Rattle.strc_parse_tree.specs.Tree as tree
use Rattle.strc_parse_tree.specs.Tree.{Declaration}
use Rattle.strc_parse_tree.specs.declared.tree.ItemType.{ItemType}
use Rattle.strc_parse_tree.specs.declared.tree.ItemType.TheVariants.{Int, Void}
use Rattle.strc_parse_tree.specs.declared.tree.CompositeKind.TheVariants as composite
use Rattle.strc_parse_tree.specs.declared.tree.RateKind.TheVariants as rate
use Rattle.strc_parse_tree.specs.declared.tree.Role.TheVariants.{Add}
use Rattle.strc_parse_tree.specs.declared.tree.BinaryOperator.TheVariants as binary
use Rattle.strc_parse_tree.specs.declared.tree.StepOperator.TheVariants as step
use Rattle.strc_work_meaning.specs.declared.fault.Cause.TheVariants.{Turns}
use Rattle.strc_elab.specs.Elaboration.{elaborated}
use Rattle.strc_elab_stream.specs.Instances as instance
use Rattle.strc_elab_stream.specs.Instances.{Stream, in_a_row}
use Rattle.strc_elab_statements.specs.declared.error.ElabErrorKind.TheVariants.{DepthLimit}
use Rattle.strc_elab_statements.specs.declared.error.ElabErrorKind.TheVariants.{ConstFault}

-- names of a letter: S, P, A, R, M, i, n and x
abbrev letter_s : List ℕ
letter_s = 83 ∷ []

abbrev letter_p : List ℕ
letter_p = 80 ∷ []

abbrev letter_a : List ℕ
letter_a = 65 ∷ []

abbrev letter_r : List ℕ
letter_r = 82 ∷ []

abbrev letter_m : List ℕ
letter_m = 77 ∷ []

abbrev letter_i : List ℕ
letter_i = 105 ∷ []

abbrev letter_n : List ℕ
letter_n = 110 ∷ []

abbrev letter_x : List ℕ
letter_x = 120 ∷ []

-- statements in a row
abbrev pub block : List tree.Stmt → tree.Stmts
block [] = tree.Done
block (first ∷ rest) = tree.Then first (block rest)

-- `push 1`, and `pop 1`
abbrev push_one : tree.Rate
push_one = record { kind = rate.Push; rate = tree.Number (pos 1) }

abbrev pop_one : tree.Rate
pop_one = record { kind = rate.Pop; rate = tree.Number (pos 1) }

-- `int x; work push 1 { push(x++); }`
abbrev counting : List tree.Member
counting =
    tree.Fields tree.Int (record { name = letter_x; initial = None } ∷ [])
    ∷ tree.Work (push_one ∷ []) (block (tree.Push (tree.Step step.IncrementAfter letter_x) ∷ []))
    ∷ []

-- `work pop 1 { println(pop()); }`
abbrev printing : List tree.Member
printing = tree.Work (pop_one ∷ []) (block (tree.Println tree.Pop ∷ [])) ∷ []

-- `work push 1 pop 1 { push(pop() + 1); }`
abbrev adding : List tree.Member
adding = tree.Work (push_one ∷ pop_one ∷ [])
    (block (tree.Push (tree.Binary binary.Add tree.Pop (tree.Number (pos 1))) ∷ [])) ∷ []

-- `add A;`, and `add A(e);`
abbrev add : List ℕ → tree.Stmt
add name = tree.Compose (tree.ChildOf Add (tree.Named name None))

abbrev add_with : List ℕ → tree.Expr → tree.Stmt
add_with name argument = tree.Compose (tree.ChildOf Add (tree.Named name (Some (argument ∷ []))))

-- a declaration
abbrev declared : List ℕ → Option (List (List ℕ)) → tree.Stream → Declaration
declared name parameters stream = record { name = name; parameters = parameters; stream = stream }

abbrev pipeline : (input output : ItemType) → List tree.Stmt → tree.Stream
pipeline input output statements = tree.Composite
    (record { input = input; output = output }) composite.Pipeline (block statements)

-- `n - 1`, and `n > 1`
abbrev one_less : tree.Expr
one_less = tree.Binary binary.Subtract (tree.Read letter_n) (tree.Number (pos 1))

abbrev above_one : tree.Expr
above_one = tree.Binary binary.Greater (tree.Read letter_n) (tree.Number (pos 1))

-- void->int filter S { int x; work push 1 { push(x++); } }
-- int->void filter P { work pop 1 { println(pop()); } }
-- int->int filter A { work push 1 pop 1 { push(pop() + 1); } }
-- int->int pipeline R(int n) { .. }
-- void->void pipeline M { .. }
abbrev program : (repeated main : List tree.Stmt) → List Declaration
program repeated main =
    declared letter_s None (tree.Filter Void Int counting)
    ∷ declared letter_p None (tree.Filter Int Void printing)
    ∷ declared letter_a None (tree.Filter Int Int adding)
    ∷ declared letter_r (Some (letter_n ∷ [])) (pipeline Int Int repeated)
    ∷ declared letter_m None (pipeline Void Void main)
    ∷ []

-- add S; add R(3); add P;
abbrev three_times : List tree.Stmt
three_times = add letter_s ∷ add_with letter_r (tree.Number (pos 3)) ∷ add letter_p ∷ []

-- int->int pipeline R(int n) { add A; if (n > 1) add R(n - 1); }
abbrev pub recursion : List Declaration
recursion = program (add letter_a ∷ tree.If above_one (add_with letter_r one_less) ∷ []) three_times

-- int->int pipeline R(int n) { add A; add R(n - 1); }
abbrev pub endless_recursion : List Declaration
endless_recursion = program (add letter_a ∷ add_with letter_r one_less ∷ []) three_times

-- `work push 1 pop 1 { push(pop() * e); }`
abbrev multiplying : tree.Expr → tree.Member
multiplying factor = tree.Work (push_one ∷ pop_one ∷ [])
    (block (tree.Push (tree.Binary binary.Multiply tree.Pop factor) ∷ []))

-- add int->int filter { work push 1 pop 1 { push(pop() * i); } };
abbrev add_multiplier : tree.Stmt
add_multiplier =
    tree.Compose (tree.ChildOf Add (tree.AnonymousFilter (record { input = Int; output = Int })
    (tree.And (multiplying (tree.Read letter_i)) tree.NoMember)))

-- for (int i = 1; i <= 3; i++) ..
abbrev for_three : tree.Stmt → tree.Stmt
for_three body =
    tree.For (tree.Declare tree.Int (record
    { name = letter_i; initial = Some (tree.Number (pos 1)) } ∷ []))
    (Some (tree.Binary binary.LessOrEqual (tree.Read letter_i) (tree.Number (pos 3))))
    (tree.Evaluate (tree.Step step.IncrementAfter letter_i)) body

-- add S; for (int i = 1; i <= 3; i++) add int->int filter { work push 1 pop 1 { push(pop() * i); }
-- }; add P;
abbrev pub loop : List Declaration
loop = program [] (add letter_s ∷ for_three add_multiplier ∷ add letter_p ∷ [])

-- add S; add P;
abbrev pub both_added : List tree.Stmt
both_added = add letter_s ∷ add letter_p ∷ []

-- while (true) ; add S; add P;
abbrev pub endless_loop : List Declaration
endless_loop = program [] (tree.While (tree.Truth true) tree.Empty ∷ both_added)

-- a filter of a name
abbrev filter : List ℕ → (input output : ItemType) → List tree.Member → Stream
filter name input output members = instance.Filter (Some name)
    (record { input = input; output = output; members = members })

abbrev row : List Stream → Stream
row streams = instance.Pipeline (in_a_row streams)

-- the filter A
abbrev adder : Stream
adder = filter letter_a Int Int adding

-- a stream whose text adds itself is nested in itself as often as its argument says
abbrev pub RecursionRow : Type 0
RecursionRow =
    elaborated recursion None
    ≡ Ok (row (filter letter_s Void Int counting
    ∷ row (adder ∷ row (adder ∷ row (adder ∷ []) ∷ []) ∷ []) ∷ filter letter_p Int Void printing
    ∷ []))

-- one that never ends is too deep
abbrev pub EndlessRow : Type 0
EndlessRow = elaborated endless_recursion None ≡ Err DepthLimit

-- a filter without a name, which multiplies by this number
abbrev multiplier : ℤ → Stream
multiplier factor = instance.Filter None (record
    { input = Int; output = Int; members = multiplying (tree.Number factor) ∷ [] })

-- an anonymous stream in a loop sees the loop's variable at that moment
abbrev pub LoopRow : Type 0
LoopRow =
    elaborated loop None
    ≡ Ok (row (filter letter_s Void Int counting ∷ multiplier (pos 1) ∷ multiplier (pos 2)
    ∷ multiplier (pos 3) ∷ filter letter_p Int Void printing ∷ []))

-- a loop that never ends makes too many iterations
abbrev pub EndlessLoopRow : Type 0
EndlessLoopRow = elaborated endless_loop None ≡ Err (ConstFault Turns)
