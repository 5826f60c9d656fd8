-- An instance of a filter starts.
use Rattle.std.proofs.Common.{◌≡◌, refl, sym, ap, ◌∙◌, ℕ, ℤ, List, Result, Ok, Err}
use Rattle.std.specs.Prelude.{Option}
use Rattle.strc_lex_names.specs.Results.{result_and_then}
use Rattle.strc_work_meaning.specs.Filters as filters
use Rattle.strc_work_meaning.specs.Firing.{started}
use Rattle.strc_work_meaning.specs.declared.fault.Cause.{Cause}
use Rattle.strc_work_rules.specs.Resolution.{filter_resolved}
use Rattle.strc_work_rules.specs.declared.error.LowerError.{LowerError}
use Rattle.strc_elab_statements.specs.Statements.{ruled}
use Rattle.strc_elab.specs.Elaboration.{started_as}
use Rattle.strc_elab.specs.Sound.{IsInstance}
use Rattle.strc_elab_graph.specs.Graphs as graphs

-- the values that a filter's fields start from
abbrev pub Starts : filters.Filter → Type 0
Starts filter = (fields : List ℤ) × (started filter ≡ Ok fields)

starts_by : (resolved filter : filters.Filter) (starts : Result (List ℤ) Cause)
    → started resolved ≡ starts → started_as resolved starts ≡ Ok filter → Starts filter
starts_by resolved filter (Ok fields) starts e =
    let same : resolved ≡ filter = cc in (fields, ap started (sym same) ∙ starts)
starts_by resolved filter (Err cause) starts e = absurd (cc)

ruled_by : (declaration : ℕ) (resolved : Result filters.Filter LowerError) (filter : filters.Filter)
    → result_and_then (ruled declaration resolved) (λ f. started_as f (started f)) ≡ Ok filter
    → Starts filter
ruled_by declaration (Ok resolved) filter e = starts_by resolved filter (started resolved) refl e
ruled_by declaration (Err broken) filter e = absurd (cc)

pub instance_starts : (name : Option (List ℕ)) (filter : filters.Filter)
    → IsInstance (graphs.Filter name filter) → Starts filter
instance_starts name filter is =
    ruled_by is.0.declaration (filter_resolved is.0.constants is.1) filter is.2
