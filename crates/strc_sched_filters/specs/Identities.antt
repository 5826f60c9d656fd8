-- Filters that do what an identity does.
use Rattle.std.specs.Prelude.{◌≡◌, ℕ, ℤ, List, [], ◌∷◌, Ok}
use Rattle.strc_parse_tree.specs.Tree as tree
use Rattle.strc_work_meaning.specs.Filters.{Filter, sized_fields}
use Rattle.strc_work_meaning.specs.Firing.{fired}
use Rattle.strc_work_meaning.specs.Scoping.{total}
use Rattle.strc_elab_graph.specs.Graphs as graphs
use Rattle.strc_elab_graph.specs.Graphs.{NodeCode}
use Rattle.strc_elab_graph.specs.Rates.{body_at, filter_pops}
use Rattle.strc_sched_laws.specs.Steps.{filter_looks}

-- a filter keeps nothing, and each firing looks at one item, takes it and gives it
pub record IsIdentity (filter : Filter) : Type 0 where
  pub fields : total (sized_fields filter.members) ≡ 0
  pub looks : (firing : ℕ) → filter_looks filter firing ≡ 1
  pub pops : (firing : ℕ) → filter_pops filter firing ≡ 1
  pub gives : (firing : ℕ) (item : ℤ) (items : List ℤ)
      → fired filter (body_at firing) [] (item ∷ items)
      ≡ Ok (record { fields = []; pushes = item ∷ []; words = [] })

-- a node gives each item that it takes
abbrev pub PassesItems : NodeCode → Type 0
PassesItems graphs.Identity = Unit {0}
PassesItems (graphs.Filter name filter) = IsIdentity filter
PassesItems code = ⊥

-- a node has no fields
abbrev pub KeepsNothing : NodeCode → Type 0
KeepsNothing (graphs.Filter name filter) = total (sized_fields filter.members) ≡ 0
KeepsNothing (graphs.Copy (graphs.OfFilter name filter) fission) =
    total (sized_fields filter.members) ≡ 0
KeepsNothing code = Unit {0}

-- a work is all that a filter has
abbrev pub IsOnlyWork : List tree.Member → Type 0
IsOnlyWork (tree.Work rates block ∷ []) = Unit {0}
IsOnlyWork members = ⊥

-- `push(pop());`
abbrev pub pushes_popped : tree.Stmts
pushes_popped = tree.Then (tree.Push tree.Pop) tree.Done
