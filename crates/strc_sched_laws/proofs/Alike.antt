-- The firings of a filter without state, and those of an identity.
use Rattle.std.proofs.Common.{◌≡◌, refl, sym, ◌∙◌, ap, subst, ℕ, zero, suc, ℤ, true, false, List}
use Rattle.std.proofs.Common.{[], length, Option, Some, None, Result, Ok, Err}
use Rattle.std.specs.Prelude.{is_some, unwrap_or, IfOk}
use Rattle.strc_lex_names.specs.Results.{result_and_then}
use Rattle.strc_parse_tree.specs.Tree as tree
use Rattle.strc_elab_dataflow.specs.Node.{Fired.Fires, Fired.Faults, at_port_0}
use Rattle.strc_elab_dataflow.specs.Node as generic
use Rattle.strc_work_meaning.specs.declared.fault.Cause.{Cause}
use Rattle.strc_work_meaning.specs.declared.word.Word.{Word}
use Rattle.strc_work_meaning.specs.declared.body.Body.TheVariants as body
use Rattle.strc_work_meaning.specs.Filters.{Filter, sized_fields, work_block, prework_block}
use Rattle.strc_work_meaning.specs.Filters.{work_rates, body_block, body_rates}
use Rattle.strc_work_meaning.specs.Filters.{push_rate, pop_rate, item_count, window_size}
use Rattle.strc_work_meaning.specs.Scoping.{total}
use Rattle.strc_work_meaning.specs.Firing.{Fired, fired, started, stmts_done, store_at, block_left}
use Rattle.strc_work_meaning.specs.Firing.{field_values, port_at_rates, setting_at}
use Rattle.strc_rate.proofs.Results.{then_ok, both_ok}
use Rattle.strc_rate.specs.Kept.{run_of, KeepsRates}
use Rattle.strc_rate.proofs.KeptRates.{rates_kept}
use Rattle.strc_elab_graph.specs.Graphs.{ports_of}
use Rattle.strc_elab_graph.specs.Rates.{body_at}
use Rattle.strc_elab_graph.specs.Meaning.{first_fields, as_fired}
use Rattle.strc_elab_graph.proofs.Quiet.{firing_quiet}
use Rattle.strc_elab_graph.proofs.Works.{no_rates}
use Rattle.strc_work_writes.specs.Stateless.{is_stateless}
use Rattle.strc_rate.proofs.Kept.{keeps_fields, no_prework, no_print}
use Rattle.strc_rate.proofs.Started.{fields_fit}
use Rattle.strc_sched_laws.specs.PartsLaws.{StatelessFiltersFireAlike, IdentitiesFireAlike}

-- ---- outcomes

-- an outcome that leaves this state, writes nothing, and pushes so many items at port 0
abbrev Stays : (start : List ℤ) (push : ℕ) → generic.Fired (List ℤ) Cause Word → Type 0
Stays start push (Fires next pushes words) =
    (next ≡ start) × (words ≡ []) × (length (pushes 0) ≡ push) × (pushes ≡ at_port_0 (pushes 0))
Stays start push (Faults cause) = Unit {0}

at_0 : (items : List ℤ) → at_port_0 items 0 ≡ items
unfolding at_port_0
at_0 items = refl

stays_by : (start : List ℤ) (push : ℕ) (result : Result Fired Cause)
    → IfOk result (λ done. (done.fields ≡ start) × ((done.words ≡ [])
    × (length done.pushes ≡ push)))
    → Stays start push (as_fired result)
stays_by start push (Ok done) h = (
  h.0,
  h.1.0,
  ap length (at_0 done.pushes) ∙ h.1.1,
  ap at_port_0 (sym (at_0 done.pushes)),
)
stays_by start push (Err cause) h = tt

-- ---- each firing of a filter without a prework is one of the work

no_block : (block : Option tree.Stmts) → is_some block ≡ false → block ≡ None
no_block None none = refl
no_block (Some block) none = absurd (cc)

module _ (filter : Filter) (stateless : is_stateless filter ≡ true) where
  work_rates_at : (n : ℕ) → body_rates (body_at n) filter.members ≡ work_rates filter.members
  work_rates_at zero = ap (λ r. unwrap_or r (work_rates filter.members))
      (no_rates filter.members (no_prework filter stateless))
  work_rates_at (suc n) = refl

  work_block_at : (n : ℕ) → body_block (body_at n) filter.members ≡ work_block filter.members
  work_block_at zero = ap (λ b. unwrap_or b (work_block filter.members))
      (no_block (prework_block filter.members) (no_prework filter stateless))
  work_block_at (suc n) = refl

  -- a firing by its rates and its block
  abbrev fired_by : List tree.Rate → tree.Stmts → (fields window : List ℤ) → Result Fired Cause
  fired_by rates block fields window =
      result_and_then (stmts_done (setting_at filter.members (port_at_rates rates window)) block
      (store_at filter fields))
      (λ store.
      let left = block_left (store_at filter fields) store in
      Ok (record {
        fields = field_values left;
        pushes = left.traffic.pushes;
        words = left.traffic.words;
      }))

  fired_as_work : (n : ℕ) (fields window : List ℤ)
      → fired filter (body_at n) fields window ≡ fired filter body.Work fields window
  fired_as_work n fields window =
      ap (λ rates. fired_by rates (body_block (body_at n) filter.members) fields window)
      (work_rates_at n)
      ∙ ap (λ block. fired_by (work_rates filter.members) block fields window) (work_block_at n)

-- a filter that keeps its rates pushes as many items as they say
pushes_kept : (filter : Filter) → KeepsRates filter → (fields window : List ℤ)
    → IfOk (fired filter body.Work fields window)
    (λ done. length done.pushes ≡ item_count (push_rate (work_rates filter.members)))
pushes_kept filter keeps fields window =
    let rates = work_rates filter.members in
    then_ok (run_of filter body.Work fields window) _
    (λ store. (store.traffic.popped ≡ item_count (pop_rate rates))
    × (length store.traffic.pushes ≡ item_count (push_rate rates)))
    (λ done. length done.pushes ≡ item_count (push_rate rates))
    (keeps body.Work fields window) (λ store held. held.1)

pub filters_alike : StatelessFiltersFireAlike
filters_alike name filter share fields rates stateless closed takes starts known shared =
    let keeps : KeepsRates filter =
    subst (λ result. IfOk result (λ found. KeepsRates filter)) known (rates_kept filter closed) in
    let fit : length fields ≡ total (sized_fields filter.members) =
    subst (λ result. IfOk result (λ values. length values ≡ total (sized_fields filter.members)))
    starts (fields_fit filter closed) in
    let first : first_fields (started filter) ≡ fields = ap first_fields starts in
    let alike : (n m : ℕ) (now window : List ℤ)
    → fired filter (body_at n) now window ≡ fired filter (body_at m) now window =
    λ n m now window. fired_as_work filter stateless n now window
    ∙ sym (fired_as_work filter stateless m now window) in
    let stays : (n : ℕ) (window : List ℤ) → Stays (first_fields (started filter)) share.push
    (as_fired (fired filter (body_at n) (first_fields (started filter)) window)) =
    λ n window. subst (λ now. Stays now share.push
    (as_fired (fired filter (body_at n) now window))) (sym first)
    (subst (λ result. Stays fields share.push (as_fired result))
    (sym (fired_as_work filter stateless n fields window))
    (subst (λ push. Stays fields push (as_fired (fired filter body.Work fields window)))
    (sym shared.pushes)
    (stays_by fields (item_count (push_rate (work_rates filter.members)))
    (fired filter body.Work fields window)
    (both_ok (fired filter body.Work fields window) (λ done. done.fields ≡ fields)
    (λ done. (done.words ≡ [])
    × (length done.pushes ≡ item_count (push_rate (work_rates filter.members))))
    (keeps_fields filter fields window stateless closed fit)
    (both_ok (fired filter body.Work fields window) (λ done. done.words ≡ [])
    (λ done. length done.pushes ≡ item_count (push_rate (work_rates filter.members)))
    (firing_quiet filter body.Work fields window (no_print filter stateless))
    (pushes_kept filter keeps fields window)))))) in
    record {
      one_port = ap ports_of takes;
      windows = λ n. ap window_size (work_rates_at filter stateless n) ∙ sym shared.looks_at;
      pops = λ n. ap (λ r. item_count (pop_rate r)) (work_rates_at filter stateless n)
          ∙ sym shared.pops;
      same = λ n m inputs. ap as_fired (alike n m (first_fields (started filter)) (inputs 0));
      stays = λ n inputs next pushes words whole e.
          subst (Stays (first_fields (started filter)) share.push) e (stays n (inputs 0));
    }

pub identities_alike : IdentitiesFireAlike
identities_alike share shared = record {
  one_port = refl;
  windows = λ n. sym shared.looks_at;
  pops = λ n. sym shared.pops;
  same = λ n m inputs. refl;
  stays = λ n inputs next pushes words whole e.
      subst (Stays [] share.push) e (
        refl,
        refl,
        ap length (at_0 (inputs 0)) ∙ (whole ∙ (shared.looks_at ∙ sym shared.pushes)),
        ap at_port_0 (sym (at_0 (inputs 0))),
      );
}
