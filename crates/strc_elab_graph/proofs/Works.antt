-- A filter without a prework: each of its firings is one of its work.
use Rattle.std.proofs.Common.{◌≡◌, refl, ap, ◌∙◌, ℕ, ℤ, false, List, [], ◌∷◌, None, Result, Ok}
use Rattle.std.specs.Prelude.{is_some, unwrap_or}
use Rattle.strc_lex_names.specs.Results.{result_and_then}
use Rattle.strc_parse_tree.specs.Tree as tree
use Rattle.strc_work_meaning.specs.declared.body.Body.{Body}
use Rattle.strc_work_meaning.specs.declared.body.Body.TheVariants as body
use Rattle.strc_work_meaning.specs.Filters.{Filter, work_block, work_rates, prework_block}
use Rattle.strc_work_meaning.specs.Filters.{prework_rates, body_block, body_rates}
use Rattle.strc_work_meaning.specs.Firing.{Fired, fired, stmts_done, port_at_rates, store_at}
use Rattle.strc_work_meaning.specs.Firing.{setting_at}
use Rattle.strc_work_meaning.specs.Firing.{block_left, field_values}
use Rattle.strc_work_meaning.specs.declared.fault.Cause.{Cause}
use Rattle.strc_elab_graph.specs.Rates.{firing_rates, body_at}

no_block : (members : List tree.Member) → is_some (prework_block members) ≡ false
    → prework_block members ≡ None
no_block [] none = refl
no_block (tree.Fields kind variables ∷ rest) none = no_block rest none
no_block (tree.Init block ∷ rest) none = no_block rest none
no_block (tree.Prework rates block ∷ rest) none = absurd (cc)
no_block (tree.Work rates block ∷ rest) none = no_block rest none
no_block (tree.Helper kind name parameters block ∷ rest) none = no_block rest none

pub no_rates : (members : List tree.Member) → is_some (prework_block members) ≡ false
    → prework_rates members ≡ None
no_rates [] none = refl
no_rates (tree.Fields kind variables ∷ rest) none = no_rates rest none
no_rates (tree.Init block ∷ rest) none = no_rates rest none
no_rates (tree.Prework rates block ∷ rest) none = absurd (cc)
no_rates (tree.Work rates block ∷ rest) none = no_rates rest none
no_rates (tree.Helper kind name parameters block ∷ rest) none = no_rates rest none

work_rates_alone : (fires : Body) (members : List tree.Member)
    → is_some (prework_block members) ≡ false → body_rates fires members ≡ work_rates members
work_rates_alone body.Prework members none =
    ap (λ rates. unwrap_or rates (work_rates members)) (no_rates members none)
work_rates_alone body.Work members none = refl

work_block_alone : (fires : Body) (members : List tree.Member)
    → is_some (prework_block members) ≡ false → body_block fires members ≡ work_block members
work_block_alone body.Prework members none =
    ap (λ block. unwrap_or block (work_block members)) (no_block members none)
work_block_alone body.Work members none = refl

-- the rates of each firing are the work's
pub rates_of_work : (filter : Filter) → is_some (prework_block filter.members) ≡ false
    → (firing : ℕ) → firing_rates filter firing ≡ work_rates filter.members
rates_of_work filter none firing = work_rates_alone (body_at firing) filter.members none

-- a firing of statements with these rates
abbrev firing_of : Filter → List tree.Rate → tree.Stmts → (fields items : List ℤ)
    → Result Fired Cause
firing_of filter rates block fields items =
    result_and_then (stmts_done (setting_at filter.members (port_at_rates rates items)) block
    (store_at filter fields))
    (λ store.
    let left = block_left (store_at filter fields) store in
    Ok (record {
      fields = field_values left;
      pushes = left.traffic.pushes;
      words = left.traffic.words;
    }))

-- and each firing gives what the work does
pub fired_as_work : (filter : Filter) → is_some (prework_block filter.members) ≡ false
    → (fires : Body) (fields items : List ℤ)
    → fired filter fires fields items ≡ fired filter body.Work fields items
fired_as_work filter none fires fields items =
    let members = filter.members in
    ap (λ rates. firing_of filter rates (body_block fires members) fields items)
    (work_rates_alone fires members none)
    ∙ ap (λ block. firing_of filter (work_rates members) block fields items)
    (work_block_alone fires members none)
