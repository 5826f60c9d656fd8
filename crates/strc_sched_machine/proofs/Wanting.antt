-- A filter's firing that wants memory, and a step of the machine that does.
use Rattle.std.proofs.Common.{◌≡◌, ◌≢◌, sym, ◌∙◌, subst, ℕ, suc, ◌≤◌, ℤ}
use Rattle.std.proofs.Common.{All, Bool, true, false, List, [], ◌∷◌, ◌++◌, length, Result, Ok, Err}
use Rattle.std.proofs.Common.{arith, slice_index}
use Rattle.std.specs.Prelude.{Option}
use Rattle.std.proofs.lemmas.Bool.{le-leb}
use Rattle.strc_work_meaning.specs.Filters as filters
use Rattle.strc_work_meaning.specs.Filters.{body_prints}
use Rattle.strc_work_meaning.specs.Firing.{Fired, fired}
use Rattle.strc_work_meaning.specs.declared.fault.Cause.{Cause}
use Rattle.strc_work_meaning.specs.declared.fault.Halt.{Halt}
use Rattle.strc_work_meaning.specs.declared.fault.Halt.TheVariants as halt
use Rattle.strc_work_meaning.specs.declared.word.Word.{Word}
use Rattle.strc_work_instructions.specs.Running.{WantsOnlyWords}
use Rattle.strc_work.specs.Answers.{WantsGivenWords}
use Rattle.strc_elab_graph.specs.Rates.{body_at}
use Rattle.strc_sched_laws.specs.Rings.{Ring, items_at}
use Rattle.strc_sched_laws.specs.Steps.{Step, filter_after, looking_step}
use Rattle.strc_sched_laws.specs.Steps.{if_found}
use Rattle.strc_sched_rings.specs.Words.{GivesWords, WantsWordOfStep}
use Rattle.strc_sched_machine.specs.Memory.{QuietOrdersWantNoMemory}
use Rattle.strc_sched_machine.specs.Memory.{prints_at}
use Rattle.strc_sched_outcome.specs.declared.stop.Stop.{Stop}
use Rattle.strc_sched_outcome.specs.declared.stop.Stop.TheVariants as stop

-- a list with a word in it
has_word : (words given : List Word) (next : Word) (rest : List Word) → words ≡ given ++ next ∷ rest
    → words ≢ []
has_word words [] next rest is none = let e : next ∷ rest ≡ [] = sym is ∙ none in cc
has_word words (first ∷ given) next rest is none =
    let e : first ∷ (given ++ next ∷ rest) ≡ [] = sym is ∙ none in cc

-- only a word that a filter gives wants memory
pub filter_wants : (filter : filters.Filter) (firing looks pops : ℕ) (fields : List ℤ)
    (input output : Option ℕ) (rings : List Ring) (why : Halt) (before after : List Word)
    → looks ≤ length (items_at rings input)
    → WantsOnlyWords (body_prints (body_at firing) filter) (Err why)
    → WantsGivenWords (fired filter (body_at firing) fields (items_at rings input)) (Err why)
    before after
    → WantsWordOfStep (body_prints (body_at firing) filter)
    (looking_step filter firing looks pops fields input output rings) (Err why)
filter_wants filter firing looks pops fields input output rings (halt.Fault cause) before after
    found prints gives = tt
filter_wants filter firing looks pops fields input output rings halt.NoMemory before after found
    prints gives = record {
      prints = prints;
      gives = subst (λ test. GivesWords (if_found test
          (filter_after pops input output rings
          (fired filter (body_at firing) fields (items_at rings input)))))
          (sym (le-leb looks (length (items_at rings input)) found))
          (by_outcome (fired filter (body_at firing) fields (items_at rings input)) gives);
    }
  where
    by_outcome : (outcome : Result Fired Cause)
        → WantsGivenWords outcome (Err halt.NoMemory) before after
        → GivesWords (filter_after pops input output rings outcome)
    by_outcome (Ok done) gives = has_word done.words gives.given gives.next gives.rest gives.is
    by_outcome (Err cause) gives = tt

-- a step that is named otherwise
pub step_wants : (prints other : Bool) (step same : Step) (result : Result Bool Halt)
    → prints ≡ other → step ≡ same → WantsWordOfStep prints step result
    → WantsWordOfStep other same result
step_wants prints other step same result prints_is is h =
    subst (λ p. WantsWordOfStep p same result) prints_is
    (subst (λ s. WantsWordOfStep prints s result) is h)

-- ---- orders without words

in_middle : (holds : ℕ → Type 0) (done : List ℕ) (node : ℕ) (rest : List ℕ)
    → All holds (done ++ node ∷ rest) → holds node
in_middle holds [] node rest h = h 0 0 (omega arith)
in_middle holds (first ∷ done) node rest h =
    in_middle holds done node rest (λ place d less. h (suc place) d (omega (arith, less)))

pub quiet_order : QuietOrdersWantNoMemory
quiet_order circuit order before (Ok done) quiet wants same =
    let e : ◌≡◌ {A = Result (Unit {0}) Stop} (Ok done) (Err stop.NoMemory) = same in cc
quiet_order circuit order before (Err (stop.Fault node firing cause)) quiet wants same =
    let e : ◌≡◌ {A = Result (Unit {0}) Stop} (Err (stop.Fault node firing cause))
    (Err stop.NoMemory) = same in cc
quiet_order circuit order before (Err stop.NoMemory) quiet wants same =
    let firing = slice_index wants.now.fired wants.node in
    let none = in_middle (λ node. (firing : ℕ) → prints_at circuit node firing ≡ false) wants.done
    wants.node wants.rest
    (subst (All (λ node. (firing : ℕ) → prints_at circuit node firing ≡ false)) (sym wants.is)
    quiet) in
    let e : true ≡ false = sym wants.next.prints ∙ none firing in cc
