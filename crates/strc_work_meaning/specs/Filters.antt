-- A filter's text, without where it lies in memory.
use Rattle.std.specs.Prelude.{ℕ, ◌+◌, max, ℤ, pos, negsuc, Bool, true, false, ◌||◌, List, [], ◌∷◌}
use Rattle.std.specs.Prelude.{◌++◌, map, Option, Some, None, unwrap_or, if◌then◌else◌, bytes_eq}
use Rattle.strc_parse_tree.specs.Tree as tree
use Rattle.strc_parse_tree.specs.View.{member_view}
use Rattle.strc_parse_tree.specs.declared.tree.FilterTree.{FilterTree}
use Rattle.strc_parse_tree.specs.declared.tree.Member.{Member}
use Rattle.strc_parse_tree.specs.declared.tree.ItemType.{ItemType}
use Rattle.strc_parse_tree.specs.declared.tree.HelperType.{HelperType}
use Rattle.strc_parse_tree.specs.declared.tree.RateKind.{RateKind}
use Rattle.strc_parse_tree.specs.declared.tree.RateKind.TheVariants as kind
use Rattle.strc_work_meaning.specs.declared.body.Body.{Body}
use Rattle.strc_work_meaning.specs.Scoping.{Scope, cells_of}
use Rattle.strc_work_meaning.specs.declared.body.Body.TheVariants as body

-- a filter: its types and its members
pub record Filter : Type 0 where
  pub input : ItemType
  pub output : ItemType
  pub members : List tree.Member

-- the members of a syntax tree
abbrev pub members_of : List Member → List tree.Member
members_of members = map member_view members

-- a filter of these types and members
abbrev pub filter_parts : (input output : ItemType) → List Member → Filter
filter_parts input output members = record
    { input = input; output = output; members = members_of members }

-- the filter of a syntax tree
abbrev pub filter_of : FilterTree → Filter
filter_of filter = filter_parts filter.input filter.output filter.members.items

-- the names that a declaration adds, in order
abbrev pub declared_names : List tree.Variable → List (List ℕ)
declared_names variables = map (λ variable. variable.name) variables

-- the fields with their cells, in order
abbrev pub sized_all : (cells : ℕ) → List tree.Variable → Scope
sized_all cells variables = map (λ variable. record { 0 = variable.name; 1 = cells }) variables

abbrev pub sized_fields : List tree.Member → Scope
sized_fields [] = []
sized_fields (tree.Fields kind variables ∷ rest) =
    sized_all (cells_of kind) variables ++ sized_fields rest
sized_fields (tree.Init block ∷ rest) = sized_fields rest
sized_fields (tree.Prework rates block ∷ rest) = sized_fields rest
sized_fields (tree.Work rates block ∷ rest) = sized_fields rest
sized_fields (tree.Helper kind name parameters block ∷ rest) = sized_fields rest

-- the names of the fields, in order
abbrev pub field_names : List tree.Member → List (List ℕ)
field_names [] = []
field_names (tree.Fields kind variables ∷ rest) = declared_names variables ++ field_names rest
field_names (tree.Init block ∷ rest) = field_names rest
field_names (tree.Prework rates block ∷ rest) = field_names rest
field_names (tree.Work rates block ∷ rest) = field_names rest
field_names (tree.Helper kind name parameters block ∷ rest) = field_names rest

-- how many works there are
abbrev pub work_count : List tree.Member → ℕ
work_count [] = 0
work_count (tree.Fields kind variables ∷ rest) = work_count rest
work_count (tree.Init block ∷ rest) = work_count rest
work_count (tree.Prework rates block ∷ rest) = work_count rest
work_count (tree.Work rates block ∷ rest) = 1 + work_count rest
work_count (tree.Helper kind name parameters block ∷ rest) = work_count rest

-- the block of the first work
abbrev pub work_block : List tree.Member → tree.Stmts
work_block [] = tree.Done
work_block (tree.Fields kind variables ∷ rest) = work_block rest
work_block (tree.Init block ∷ rest) = work_block rest
work_block (tree.Prework rates block ∷ rest) = work_block rest
work_block (tree.Work rates block ∷ rest) = block
work_block (tree.Helper kind name parameters block ∷ rest) = work_block rest

-- the rates of the first work
abbrev pub work_rates : List tree.Member → List tree.Rate
work_rates [] = []
work_rates (tree.Fields kind variables ∷ rest) = work_rates rest
work_rates (tree.Init block ∷ rest) = work_rates rest
work_rates (tree.Prework rates block ∷ rest) = work_rates rest
work_rates (tree.Work rates block ∷ rest) = rates
work_rates (tree.Helper kind name parameters block ∷ rest) = work_rates rest

-- the block of the first prework, where there is one
abbrev pub prework_block : List tree.Member → Option tree.Stmts
prework_block [] = None
prework_block (tree.Fields kind variables ∷ rest) = prework_block rest
prework_block (tree.Init block ∷ rest) = prework_block rest
prework_block (tree.Prework rates block ∷ rest) = Some block
prework_block (tree.Work rates block ∷ rest) = prework_block rest
prework_block (tree.Helper kind name parameters block ∷ rest) = prework_block rest

-- the rates of the first prework, where there is one
abbrev pub prework_rates : List tree.Member → Option (List tree.Rate)
prework_rates [] = None
prework_rates (tree.Fields kind variables ∷ rest) = prework_rates rest
prework_rates (tree.Init block ∷ rest) = prework_rates rest
prework_rates (tree.Prework rates block ∷ rest) = Some rates
prework_rates (tree.Work rates block ∷ rest) = prework_rates rest
prework_rates (tree.Helper kind name parameters block ∷ rest) = prework_rates rest

-- a helper function: what it gives, the names of its parameters, and its block
pub record Helper : Type 0 where
  pub kind : HelperType
  pub parameters : List (List ℕ)
  pub block : tree.Stmts

-- the first helper function of a name, where there is one
abbrev pub helper_named : List tree.Member → List ℕ → Option Helper
helper_named [] name = None
helper_named (tree.Fields kind variables ∷ rest) name = helper_named rest name
helper_named (tree.Init block ∷ rest) name = helper_named rest name
helper_named (tree.Prework rates block ∷ rest) name = helper_named rest name
helper_named (tree.Work rates block ∷ rest) name = helper_named rest name
helper_named (tree.Helper kind own parameters block ∷ rest) name =
    if bytes_eq own name then Some
    (record { kind = kind; parameters = parameters; block = block }) else helper_named rest name

-- the block of a body, and its rates: without a prework each body is the work
abbrev pub body_block : Body → List tree.Member → tree.Stmts
body_block body.Prework members = unwrap_or (prework_block members) (work_block members)
body_block body.Work members = work_block members

abbrev pub body_rates : Body → List tree.Member → List tree.Rate
body_rates body.Prework members = unwrap_or (prework_rates members) (work_rates members)
body_rates body.Work members = work_rates members

-- the number of a rate: constants are substituted
abbrev pub rate_number : tree.Expr → ℤ
rate_number (tree.Number value) = value
rate_number _ = pos 0

-- whether two rates are of one kind
abbrev pub same_kind : RateKind → RateKind → Bool
same_kind kind.Push kind.Push = true
same_kind kind.Pop kind.Pop = true
same_kind kind.Peek kind.Peek = true
same_kind _ _ = false

-- the declared rate of a kind; a missing one is 0
abbrev pub rate_of : RateKind → List tree.Rate → ℤ
rate_of sought [] = pos 0
rate_of sought (first ∷ rest) = if same_kind sought first.kind then rate_number first.rate
    else rate_of sought rest

-- the declared push rate
abbrev pub push_rate : List tree.Rate → ℤ
push_rate rates = rate_of kind.Push rates

-- the declared pop rate
abbrev pub pop_rate : List tree.Rate → ℤ
pop_rate rates = rate_of kind.Pop rates

-- whether a rate of this kind is written
abbrev pub has_rate : RateKind → List tree.Rate → Bool
has_rate sought [] = false
has_rate sought (first ∷ rest) = same_kind sought first.kind || has_rate sought rest

-- the declared peek rate; a missing one is the pop rate
abbrev pub peek_rate : List tree.Rate → ℤ
peek_rate rates = if has_rate kind.Peek rates then rate_of kind.Peek rates else pop_rate rates

-- a rate as a number of items: none where it is below 0
abbrev pub item_count : ℤ → ℕ
item_count (pos n) = n
item_count (negsuc n) = 0

-- how many items a firing may look at: those that it pops, and more where it peeks further
abbrev pub window_size : List tree.Rate → ℕ
window_size rates = max (item_count (pop_rate rates)) (item_count (peek_rate rates))

abbrev mutual
  -- whether a statement prints
  pub stmt_prints : tree.Stmt → Bool
  stmt_prints tree.Empty = false
  stmt_prints (tree.Compose statement) = false
  stmt_prints (tree.Block body) = stmts_print body
  stmt_prints (tree.Declare kind variables) = false
  stmt_prints (tree.Evaluate value) = false
  stmt_prints (tree.Assign name operator value) = false
  stmt_prints (tree.AssignElement name index operator value) = false
  stmt_prints (tree.If condition chosen) = stmt_prints chosen
  stmt_prints (tree.IfElse condition chosen other) = stmt_prints chosen || stmt_prints other
  stmt_prints (tree.While condition body) = stmt_prints body
  stmt_prints (tree.For first condition step body) =
      stmt_prints first || (stmt_prints step || stmt_prints body)
  stmt_prints (tree.Push value) = false
  stmt_prints (tree.Print value) = true
  stmt_prints (tree.Println value) = true
  stmt_prints (tree.Return value) = false

  -- whether one of the statements prints
  pub stmts_print : tree.Stmts → Bool
  stmts_print tree.Done = false
  stmts_print (tree.Then first rest) = stmt_prints first || stmts_print rest

-- whether a firing of this body of the filter can print
abbrev pub body_prints : Body → Filter → Bool
body_prints body filter = stmts_print (body_block body filter.members)

-- whether a firing of the filter can print
abbrev pub filter_prints : Filter → Bool
filter_prints filter = stmts_print (work_block filter.members)
    || stmts_print (body_block body.Prework filter.members)
