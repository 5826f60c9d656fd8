-- Local variables that are added to others.
use Rattle.std.proofs.Common.{◌≡◌, ◌-◌, List, [], ◌∷◌, ◌++◌, length, drop, refl, ap, ◌∙◌, arith}
use Rattle.std.proofs.Common.{length-append}
use Rattle.std.proofs.Math.Seq.{drop-append_seam}
use Rattle.strc_parse_tree.specs.Tree as tree
use Rattle.strc_work_writes.specs.LocalWrites.{Locals, with_locals, locals_after}

-- the names are others, with some inside them
pub record StandsOn (base names : Locals) : Type 0 where
  pub inner : Locals
  pub is : names ≡ inner ++ base

pub stands_on_itself : (base : Locals) → StandsOn base base
stands_on_itself base = record { inner = []; is = refl }

-- a declaration adds names
pub stands_on_declared : (base names : Locals) (variables : List tree.Variable)
    → StandsOn base names → StandsOn base (with_locals names variables)
stands_on_declared base names [] h = h
stands_on_declared base names (first ∷ rest) h =
    stands_on_declared base (first.name ∷ names) rest
    (record {
      inner = first.name ∷ h.inner;
      is =
          ap (λ l. first.name ∷ l) h.is;
    })

-- no other statement adds a name
pub stands_on_after : (base names : Locals) (s : tree.Stmt) → StandsOn base names
    → StandsOn base (locals_after names s)
stands_on_after base names (tree.Declare kind variables) h =
    stands_on_declared base names variables h
stands_on_after base names tree.Empty h = h
stands_on_after base names (tree.Compose statement) h = h
stands_on_after base names (tree.Block body) h = h
stands_on_after base names (tree.Evaluate value) h = h
stands_on_after base names (tree.Assign name operator value) h = h
stands_on_after base names (tree.AssignElement name index operator value) h = h
stands_on_after base names (tree.If condition chosen) h = h
stands_on_after base names (tree.IfElse condition chosen other) h = h
stands_on_after base names (tree.While condition body) h = h
stands_on_after base names (tree.For first condition step body) h = h
stands_on_after base names (tree.Push value) h = h
stands_on_after base names (tree.Print value) h = h
stands_on_after base names (tree.Println value) h = h
stands_on_after base names (tree.Return value) h = h

-- without the inner ones the names are as before
pub drop_inner : (base names : Locals) → StandsOn base names
    → drop (length names - length base) names ≡ base
drop_inner base names h =
    let e : length (h.inner ++ base) - length base ≡ length h.inner =
    omega (arith, length-append h.inner base) in
    ap (λ l. drop (length l - length base) l) h.is ∙ ap (λ n. drop n (h.inner ++ base)) e
    ∙ drop-append_seam h.inner base

-- a statement's own variables are forgotten
pub drop_own : (names : Locals) (s : tree.Stmt)
    → drop (length (locals_after names s) - length names) (locals_after names s) ≡ names
drop_own names s = drop_inner names (locals_after names s)
    (stands_on_after names names s (stands_on_itself names))
