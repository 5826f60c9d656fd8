-- Worked rows: firings that fault, in range and out of it.
use Rattle.std.specs.Prelude.{◌≡◌, pos, true, List, [], ◌∷◌, Some, None, Ok, Err}
use Rattle.strc_parse_tree.specs.Tree as tree
use Rattle.strc_parse_tree.specs.declared.tree.ItemType.TheVariants as item
use Rattle.strc_parse_tree.specs.declared.tree.HelperType.TheVariants as gives
use Rattle.strc_parse_tree.specs.declared.tree.RateKind.TheVariants as kind
use Rattle.strc_parse_tree.specs.declared.tree.BinaryOperator.TheVariants as binary
use Rattle.strc_work_meaning.specs.declared.body.Body.TheVariants as body
use Rattle.strc_work_meaning.specs.declared.fault.Cause.TheVariants.{DivZero, PeekRange}
use Rattle.strc_work_meaning.specs.Filters.{Filter}
use Rattle.strc_work_meaning.specs.Firing.{fired}
use Rattle.strc_rate.specs.Rates.{checked}
use Rattle.strc_rate.specs.Rows.{f, x, one}

-- `work push 1 pop 1` with these statements, before this member
abbrev pub one_for_one : List tree.Stmt → List tree.Member → Filter
one_for_one statements rest = record {
  input = item.Int;
  output = item.Int;
  members = tree.Work (record { kind = kind.Push; rate = one }
      ∷ record { kind = kind.Pop; rate = one } ∷ []) (tree.row statements) ∷ rest;
}

-- `push(peek(0) / 0); pop();`
abbrev pub dividing : Filter
dividing = one_for_one (tree.Push (tree.Binary binary.Divide (tree.Peek (tree.Number (pos 0)))
    (tree.Number (pos 0))) ∷ tree.Evaluate tree.Pop ∷ []) []

-- `pop(); push(f(1));` with `int f(int x) { return pop(); }`
abbrev pub popping : Filter
popping = one_for_one (tree.Evaluate tree.Pop
    ∷ tree.Push (tree.Call f (tree.Argument one tree.NoArgument)) ∷ [])
    (tree.Helper gives.Int f (x ∷ []) (tree.row (tree.Return (Some tree.Pop) ∷ [])) ∷ [])

-- which rates are accepted, and how firings end
pub record RangeRows : Type 0 where
  -- a division by 0 is in range, where the peek is closed
  pub divides : checked dividing ≡ Ok (record {
    prework = None;
    work = record { push = 1; pop = 1; window = 1; closed = true ∷ [] };
  })
  pub divided : fired dividing body.Work [] (pos 5 ∷ []) ≡ Err DivZero
  -- a helper function that pops isn't: counts don't look into it, and a filter of known names has
  -- none
  pub pops : checked popping ≡ Ok (record {
    prework = None;
    work = record { push = 1; pop = 1; window = 1; closed = [] };
  })
  pub popped : fired popping body.Work [] (pos 5 ∷ []) ≡ Err PeekRange
