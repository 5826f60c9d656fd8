-- Chains of helper functions that call each other: those of as many as there are tell of all.
use Rattle.std.proofs.Common.{◌≡◌, refl, sym, ◌∙◌, ap, ℕ, zero, suc, ◌≤◌, Bool, true, false}
use Rattle.std.proofs.Common.{List, [], ◌∷◌, Option, Some, None, cond, arith, ◌⊎◌, inl, inr, ⊎_elim}
use Rattle.std.specs.Prelude.{bytes_eq, is_some}
use Rattle.strc_parse_tree.specs.Tree as tree
use Rattle.strc_work_meaning.specs.Filters.{Helper, helper_named}
use Rattle.strc_work_writes.specs.Calls.{stmts_call_one}
use Rattle.strc_work_writes.specs.Stateless.{helper_writes_field, writes_or_calls, named_writes}
use Rattle.strc_work_writes.specs.Stateless.{helper_count, writes_within, can_write}
use Rattle.strc_work_writes.specs.Stateless.{block_calls_writer, Reaches, Called, Through}
use Rattle.strc_work_writes.specs.Stateless.{ReachesWriter}
use Rattle.strc_work_writes.proofs.CalledNames.{or_true, or_left, or_right, same_name}
use Rattle.strc_work_writes.proofs.CalledNames.{calls_named, named_calls}

-- ---- longer chains

-- each such function is one of the others
abbrev Below : (a b : List ℕ → Bool) → Type 0
Below a b = (name : List ℕ) → a name ≡ true → b name ≡ true

named_more : (members : List tree.Member) (a b : List ℕ → Bool) → Below a b
    → (found : Option Helper) → named_writes members a found ≡ true
    → named_writes members b found ≡ true
named_more members a b below None e = e
named_more members a b below (Some helper) e =
    ⊎_elim
    (λ itself. or_left (helper_writes_field members helper) (stmts_call_one b helper.block) itself)
    (λ calls. let one = calls_named a helper.block calls in
    or_right (helper_writes_field members helper) (stmts_call_one b helper.block)
    (named_calls b helper.block one.name one.among (below one.name one.is)))
    (or_true (helper_writes_field members helper) (stmts_call_one a helper.block) e)

-- a longer chain tells no less
grows : (members : List tree.Member) (length : ℕ)
    → Below (writes_within members length) (writes_within members (suc length))
grows members zero name e = absurd (cc)
grows members (suc length) name e =
    named_more members (writes_within members length) (writes_within members (suc length))
    (grows members length) (helper_named members name) e

-- whether a longer chain tells no more
abbrev IsSettled : List tree.Member → (length : ℕ) → Type 0
IsSettled members length =
    Below (writes_within members (suc length)) (writes_within members length)

settled_next : (members : List tree.Member) (length : ℕ) → IsSettled members length
    → IsSettled members (suc length)
settled_next members length settled name e =
    named_more members (writes_within members (suc length)) (writes_within members length) settled
    (helper_named members name) e

-- ---- how many helper functions are such ones

abbrev one_more : Bool → ℕ → ℕ
one_more true n = suc n
one_more false n = n

abbrev such_count : (such : List ℕ → Bool) → List tree.Member → ℕ
such_count such [] = 0
such_count such (tree.Fields kind variables ∷ rest) = such_count such rest
such_count such (tree.Init block ∷ rest) = such_count such rest
such_count such (tree.Prework rates block ∷ rest) = such_count such rest
such_count such (tree.Work rates block ∷ rest) = such_count such rest
such_count such (tree.Helper kind name parameters block ∷ rest) =
    one_more (such name) (such_count such rest)

one_at_most : (is : Bool) (n m : ℕ) → n ≤ m → one_more is n ≤ suc m
one_at_most true n m h = omega (arith, h)
one_at_most false n m h = omega (arith, h)

such_at_most : (such : List ℕ → Bool) (members : List tree.Member)
    → such_count such members ≤ helper_count members
such_at_most such [] = omega arith
such_at_most such (tree.Fields kind variables ∷ rest) = such_at_most such rest
such_at_most such (tree.Init block ∷ rest) = such_at_most such rest
such_at_most such (tree.Prework rates block ∷ rest) = such_at_most such rest
such_at_most such (tree.Work rates block ∷ rest) = such_at_most such rest
such_at_most such (tree.Helper kind name parameters block ∷ rest) =
    one_at_most (such name) (such_count such rest) (helper_count rest) (such_at_most such rest)

one_below : (a b : Bool) (n m : ℕ) → (a ≡ true → b ≡ true) → n ≤ m → one_more a n ≤ one_more b m
one_below true true n m is h = omega (arith, h)
one_below true false n m is h = let no : false ≡ true = is refl in absurd (cc)
one_below false true n m is h = omega (arith, h)
one_below false false n m is h = h

count_below : (a b : List ℕ → Bool) → Below a b → (members : List tree.Member)
    → such_count a members ≤ such_count b members
count_below a b below [] = omega arith
count_below a b below (tree.Fields kind variables ∷ rest) = count_below a b below rest
count_below a b below (tree.Init block ∷ rest) = count_below a b below rest
count_below a b below (tree.Prework rates block ∷ rest) = count_below a b below rest
count_below a b below (tree.Work rates block ∷ rest) = count_below a b below rest
count_below a b below (tree.Helper kind name parameters block ∷ rest) =
    one_below (a name) (b name) (such_count a rest) (such_count b rest) (below name)
    (count_below a b below rest)

-- no helper function is newly such a one
abbrev NoneNew : (a b : List ℕ → Bool) → List tree.Member → Type 0
NoneNew a b members =
    (name : List ℕ) → is_some (helper_named members name) ≡ true → b name ≡ true → a name ≡ true

-- one more member that is a helper function
one_member : (a b : List ℕ → Bool) (rest : List tree.Member) (own : List ℕ) (helper : Helper)
    → (here there : Bool) → a own ≡ here → b own ≡ there → (here ≡ true → there ≡ true)
    → such_count a rest ≤ such_count b rest
    → NoneNew a b rest ⊎ (suc (such_count a rest) ≤ such_count b rest)
    → ((name : List ℕ) → is_some (cond (bytes_eq own name) (Some helper) (helper_named rest name))
    ≡ true → b name ≡ true → a name ≡ true)
    ⊎ (suc (one_more here (such_count a rest)) ≤ one_more there (such_count b rest))
one_member a b rest own helper here there at_a at_b is less later =
    by_tests here there at_a at_b is
  where
    none_new : (b own ≡ true → a own ≡ true) → NoneNew a b rest → (name : List ℕ)
        → is_some (cond (bytes_eq own name) (Some helper) (helper_named rest name)) ≡ true
        → b name ≡ true → a name ≡ true
    none_new first none name = by_name (bytes_eq own name) (same_name own name)
      where
        by_name : (t : Bool) → (t ≡ true → own ≡ name)
            → is_some (cond t (Some helper) (helper_named rest name)) ≡ true
            → b name ≡ true → a name ≡ true
        by_name true same found new =
            sym (ap a (same refl)) ∙ first (ap b (same refl) ∙ new)
        by_name false same found new = none name found new

    by_tests : (here there : Bool) → a own ≡ here → b own ≡ there → (here ≡ true → there ≡ true)
        → ((name : List ℕ)
        → is_some (cond (bytes_eq own name) (Some helper) (helper_named rest name)) ≡ true
        → b name ≡ true → a name ≡ true)
        ⊎ (suc (one_more here (such_count a rest)) ≤ one_more there (such_count b rest))
    by_tests true true e f is =
        ⊎_elim (λ none. inl (none_new (λ new. e) none)) (λ more. inr (omega (arith, more))) later
    by_tests true false e f is = let no : false ≡ true = is refl in absurd (cc)
    by_tests false true e f is = inr (omega (arith, less))
    by_tests false false e f is =
        ⊎_elim (λ none. inl (none_new (λ new. absurd (cc)) none)) (λ more. inr more) later

none_or_more : (a b : List ℕ → Bool) → Below a b → (members : List tree.Member)
    → NoneNew a b members ⊎ (suc (such_count a members) ≤ such_count b members)
none_or_more a b below [] = inl (λ name found new. absurd (cc))
none_or_more a b below (tree.Fields kind variables ∷ rest) = none_or_more a b below rest
none_or_more a b below (tree.Init block ∷ rest) = none_or_more a b below rest
none_or_more a b below (tree.Prework rates block ∷ rest) = none_or_more a b below rest
none_or_more a b below (tree.Work rates block ∷ rest) = none_or_more a b below rest
none_or_more a b below (tree.Helper kind own parameters block ∷ rest) =
    one_member a b rest own
    (record { kind = kind; parameters = parameters; block = block }) (a own) (b own) refl refl
    (below own) (count_below a b below rest) (none_or_more a b below rest)

-- ---- chains of as many functions as there are

settled_by : (members : List tree.Member) (length : ℕ)
    → NoneNew (writes_within members length) (writes_within members (suc length)) members
    → IsSettled members length
settled_by members length none name e = by_helper (helper_named members name) refl
  where
    by_helper : (found : Option Helper) → helper_named members name ≡ found
        → writes_within members length name ≡ true
    by_helper None at =
        let no : false ≡ true =
        sym (ap (named_writes members (writes_within members length)) at) ∙ e in
        absurd (cc)
    by_helper (Some helper) at = none name (ap is_some at) e

one_step : (members : List tree.Member) (length : ℕ)
    → IsSettled members length
    ⊎ (suc (such_count (writes_within members length) members)
    ≤ such_count (writes_within members (suc length)) members)
one_step members length =
    ⊎_elim (λ none. inl (settled_by members length none)) (λ more. inr more)
    (none_or_more (writes_within members length) (writes_within members (suc length))
    (grows members length) members)

-- each longer chain tells of one more helper function, up to where it tells no more
progress : (members : List tree.Member) (length : ℕ)
    → IsSettled members length ⊎ (length ≤ such_count (writes_within members length) members)
progress members zero = inr (omega arith)
progress members (suc length) =
    ⊎_elim (λ settled. inl (settled_next members length settled))
    (λ many. ⊎_elim (λ settled. inl (settled_next members length settled))
    (λ more. inr (omega (arith, many, more))) (one_step members length))
    (progress members length)

settles : (members : List tree.Member) → IsSettled members (helper_count members)
settles members =
    ⊎_elim (λ settled. settled)
    (λ many. ⊎_elim (λ settled. settled)
    (λ more.
    let most = such_at_most (writes_within members (suc (helper_count members))) members in
    absurd (omega (arith, many, more, most)))
    (one_step members (helper_count members)))
    (progress members (helper_count members))

-- a helper function that writes a field, or calls one that can, can write one
pub can_write_by : (members : List tree.Member) (name : List ℕ) (helper : Helper)
    → helper_named members name ≡ Some helper
    → writes_or_calls members (can_write members) helper ≡ true → can_write members name ≡ true
can_write_by members name helper named writes =
    settles members name (ap (named_writes members (can_write members)) named ∙ writes)

-- ---- what a block reaches

chain_reaches : (members : List tree.Member) (block : tree.Stmts) (length : ℕ) (name : List ℕ)
    → Reaches members block name → writes_within members length name ≡ true
    → ReachesWriter members block
chain_reaches members block zero name reached writes = absurd (cc)
chain_reaches members block (suc length) name reached writes =
    by_helper (helper_named members name) refl
    (λ other further can. chain_reaches members block length other further can)
  where
    by_helper : (found : Option Helper) → helper_named members name ≡ found
        → ((other : List ℕ) → Reaches members block other
        → writes_within members length other ≡ true → ReachesWriter members block)
        → ReachesWriter members block
    by_helper None at later =
        let no : false ≡ true =
        sym (ap (named_writes members (writes_within members length)) at) ∙ writes in
        absurd (cc)
    by_helper (Some helper) at later =
        ⊎_elim
        (λ itself. record {
          name = name;
          helper = helper;
          reached = reached;
          named = at;
          writes = itself;
        })
        (λ calls. let one = calls_named (writes_within members length) helper.block calls in
        later one.name (Through name helper reached at one.among) one.is)
        (or_true (helper_writes_field members helper)
        (stmts_call_one (writes_within members length) helper.block)
        (sym (ap (named_writes members (writes_within members length)) at) ∙ writes))

-- a block that calls a writer reaches one that writes a field itself
pub calls_reach : (members : List tree.Member) (block : tree.Stmts)
    → block_calls_writer members block ≡ true → ReachesWriter members block
calls_reach members block calls =
    let one = calls_named (can_write members) block calls in
    chain_reaches members block (helper_count members) one.name (Called one.among) one.is

reached_calls : (members : List tree.Member) (block : tree.Stmts) (name : List ℕ)
    → Reaches members block name → can_write members name ≡ true
    → block_calls_writer members block ≡ true
reached_calls members block name (Called among) can =
    named_calls (can_write members) block name among can
reached_calls members block name (Through caller helper reached named among) can =
    reached_calls members block caller reached
    (can_write_by members caller helper named
    (or_right (helper_writes_field members helper) (stmts_call_one (can_write members) helper.block)
    (named_calls (can_write members) helper.block name among can)))

-- and the other way round
pub reach_calls : (members : List tree.Member) (block : tree.Stmts)
    → ReachesWriter members block → block_calls_writer members block ≡ true
reach_calls members block writer =
    reached_calls members block writer.name writer.reached
    (can_write_by members writer.name writer.helper writer.named
    (or_left (helper_writes_field members writer.helper)
    (stmts_call_one (can_write members) writer.helper.block) writer.writes))

pub no_calls : (members : List tree.Member) (block : tree.Stmts)
    → (ReachesWriter members block → ⊥) → block_calls_writer members block ≡ false
no_calls members block none = by_test (block_calls_writer members block) refl
  where
    by_test : (t : Bool) → block_calls_writer members block ≡ t → t ≡ false
    by_test false e = refl
    by_test true e = absurd (none (calls_reach members block e))
