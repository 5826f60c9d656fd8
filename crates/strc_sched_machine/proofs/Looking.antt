-- A firing that finds what it looks at.
use Rattle.std.proofs.Common.{◌≡◌, sym, ap, ◌∙◌, ℕ, ◌≤◌, ℤ, List, length, Bool, true}
use Rattle.std.proofs.Common.{Ok, Err}
use Rattle.std.specs.Prelude.{Option}
use Rattle.std.proofs.lemmas.Bool.{le-leb}
use Rattle.strc_work_meaning.specs.Filters as filters
use Rattle.strc_work_meaning.specs.Firing.{fired}
use Rattle.strc_work_meaning.specs.declared.body.Body.{Body}
use Rattle.strc_work_meaning.specs.declared.fault.Halt.{Halt}
use Rattle.strc_work_meaning.specs.declared.fault.Halt.TheVariants as halt
use Rattle.strc_work_meaning.specs.declared.word.Word.{Word}
use Rattle.strc_work_instructions.specs.Running.{MoreWords}
use Rattle.strc_work.specs.Answers.{Fires, HasGiven}
use Rattle.strc_elab_graph.specs.Rates.{body_at}
use Rattle.strc_sched_laws.specs.Rings.{Ring, given, items_at, taken}
use Rattle.strc_sched_laws.specs.Steps.{Goes, filter_after, if_found, looking_step}
use Rattle.strc_sched_rings.specs.Answers.{HasStepped}

module _ (filter : filters.Filter) (firing looks pops : ℕ) (fields : List ℤ)
    (input output : Option ℕ) (rings : List Ring) (fires : Body) (window : List ℤ)
    (found : looks ≤ length (items_at rings input)) (fires_is : fires ≡ body_at firing)
    (window_is : window ≡ items_at rings input) where
  fires_so : looking_step filter firing looks pops fields input output rings
      ≡ filter_after pops input output rings (fired filter fires fields window)
  fires_so =
      ap (λ (b : Bool). if_found b (filter_after pops input output rings
      (fired filter (body_at firing) fields (items_at rings input))))
      (le-leb looks (length (items_at rings input)) found)
      ∙ ap (λ (l : List ℤ). filter_after pops input output rings
      (fired filter (body_at firing) fields l)) (sym window_is)
      ∙ ap (λ (b : Body). filter_after pops input output rings (fired filter b fields window))
      (sym fires_is)

  -- it takes its items, and gives those that it pushes
  pub goes_so : (new pushes named : List ℤ) (left after : List Ring) (words more : List Word)
      → HasGiven (fired filter fires fields window) new pushes words more → named ≡ pushes
      → left ≡ taken input pops rings → after ≡ given output named left
      → HasStepped (looking_step filter firing looks pops fields input output rings) (Ok true)
      fields new rings after words more
  goes_so new pushes named left after words more gives same is_left is_after = (
    gives.words,
    fires_so
        ∙ ap (filter_after pops input output rings) gives.is
        ∙ ap (λ (l : List Ring). Goes new (given output pushes l) gives.words) (sym is_left)
        ∙ ap (λ (l : List Ring). Goes new l gives.words)
        (ap (λ (l : List ℤ). given output l left) (sym same) ∙ sym is_after),
    gives.printed,
  )

  -- or it halts
  pub halts_so : (why : Halt) (new pushes : List ℤ) (before after : List Ring)
      (words more : List Word)
      → Fires (fired filter fires fields window) (Err why) new pushes words more
      → MoreWords words more
      → HasStepped (looking_step filter firing looks pops fields input output rings) (Err why)
      fields new before after words more
  halts_so (halt.Fault cause) new pushes before after words more gives printed =
      (fires_so ∙ ap (filter_after pops input output rings) gives, printed)
  halts_so halt.NoMemory new pushes before after words more gives printed = printed
