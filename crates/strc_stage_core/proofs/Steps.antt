-- What is known of one step without a look at what it computes.
use Rattle.std.proofs.Common.{◌≡◌, refl, sym, ◌∙◌, suc, Bool, true, false, cond, ◌||◌, eqb, Option}
use Rattle.std.proofs.Common.{Some, None, is_some, IsSome, true≢false}
use mathlib.Core.Logic.{◌⊎◌, inl, inr}
use Rattle.strc_stage_core.specs.Actors.{Plain, Stage, Collector, Work, or_else, is_passing}
use Rattle.strc_stage_core.specs.Actors.{stop_of}
use Rattle.strc_stage_core.specs.Actors.{is_marked, next, made, MayStop, Step, collected, returned}
use Rattle.strc_stage_core.specs.Actors.{Collects}
use Rattle.strc_stage_core.proofs.Runs.{some_is, none_not_some}

module _ {State Load Stop Total : Type 0} (work : Work State Load Stop Total) where
  -- A step, without its work.
  pub record IsStepped (stage : Stage State Stop) (parcel : Plain Load Stop)
      (later : Stage State Stop) (result : Plain Load Stop) : Type 0 where
    pub goes : stage.finished ≡ false
    pub taken : later.taken ≡ suc stage.taken
    pub rounds : later.rounds ≡ stage.rounds
    pub first : later.first ≡ stage.first
    pub finished : later.finished ≡ result.last
    -- the first stage marks anew, the others keep the mark
    pub marks : stage.first ≡ true
        → result.last ≡ (eqb (suc stage.taken) stage.rounds || is_some parcel.stop)
    pub mark : stage.first ≡ false → result.last ≡ parcel.last
    pub stopped : IsSome parcel.stop → IsSome result.stop
    -- after a stopped parcel all are stopped
    pub halted : IsSome stage.stop → IsSome result.stop
    pub halts : later.stop ≡ result.stop

  pub record IsCollected (collector : Collector Total Stop) (parcel : Plain Load Stop)
      (later : Collector Total Stop) (result : Plain Load Stop) : Type 0 where
    pub goes : collector.finished ≡ false
    pub taken : later.taken ≡ suc collector.taken
    pub rounds : later.rounds ≡ collector.rounds
    pub finished : later.finished ≡ parcel.last
    pub mark : result.last ≡ parcel.last
    pub running : later.stop ≡ None → (collector.stop ≡ None) × (parcel.stop ≡ None)
        × (later.total ≡ work.gathered collector.total parcel.load)
    pub decided : (stop : Stop) → later.stop ≡ Some stop → collector.stop ≡ None
        → (later.total ≡ collector.total)
        × ((parcel.stop ≡ Some stop) ⊎ ((parcel.stop ≡ None) × (stop ≡ work.no_memory)))
    pub stays : (stop : Stop) → collector.stop ≡ Some stop
        → (later.stop ≡ Some stop) × (later.total ≡ collector.total)
    pub stopped : IsSome parcel.stop → IsSome result.stop

  -- Nothing takes a stop away.
  may_stop : (passing : Bool) (due stop : Option Stop) → MayStop work passing due stop
      → IsSome due → IsSome stop
  may_stop passing due stop (inl e) is = rw e is
  may_stop passing due stop (inr (e, f)) is = rw f refl

  none_of : (stop : Option Stop) → is_some stop ≡ false → stop ≡ None
  none_of None e = refl
  none_of (Some x) e = absurd (true≢false e)

  unstopped : (before due stop : Option Stop) (old new : Total)
      → MayStop work (is_some due) due stop → or_else before stop ≡ None
      → (before ≡ None) × (due ≡ None)
      × (cond (is_some (or_else before stop)) old new ≡ new)
  unstopped (Some x) due stop old new may none = absurd (none_not_some x (sym none))
  unstopped None due stop old new (inl e) none = (refl, sym e ∙ none, rw none refl)
  unstopped None due stop old new (inr (e, f)) none = absurd (none_not_some work.no_memory
      (sym none ∙ f))

  first_stopped : (before due stop : Option Stop) (x : Stop) (old new : Total)
      → MayStop work (is_some due) due stop → or_else before stop ≡ Some x → before ≡ None
      → (cond (is_some (or_else before stop)) old new ≡ old)
      × ((due ≡ Some x) ⊎ ((due ≡ None) × (x ≡ work.no_memory)))
  first_stopped (Some y) due stop x old new may is none = absurd (none_not_some y (sym none))
  first_stopped None due stop x old new (inl e) is none = (rw is refl, inl (sym e ∙ is))
  first_stopped None due stop x old new (inr (e, f)) is none =
      (rw is refl, inr (none_of due e, some_is x work.no_memory (sym is ∙ f)))

  stop_stays : (stage : Stage State Stop) (parcel : Plain Load Stop) → IsSome parcel.stop
      → IsSome (stop_of work stage parcel)
  unfolding stop_of
  stop_stays stage parcel is = stays parcel.stop (or_else stage.stop
      (work.due_stop stage.inner parcel.load)) is
    where
      stays : (a b : Option Stop) → IsSome a → IsSome (or_else a b)
      stays (Some x) b is = refl
      stays None b is = absurd (true≢false (sym is))

  halt_stays : (stage : Stage State Stop) (parcel : Plain Load Stop) → IsSome stage.stop
      → IsSome (stop_of work stage parcel)
  unfolding stop_of
  halt_stays stage parcel is = stays parcel.stop stage.stop
      (work.due_stop stage.inner parcel.load) is
    where
      stays : (a b d : Option Stop) → IsSome b → IsSome (or_else a (or_else b d))
      stays (Some x) b d is = refl
      stays None (Some y) d is = refl
      stays None None d is = absurd (true≢false (sym is))

  pub stepped : (stage : Stage State Stop) (parcel : Plain Load Stop) (later : Stage State Stop)
      (result : Plain Load Stop) → Step work stage parcel later result
      → IsStepped stage parcel later result
  unfolding Step next made is_marked
  stepped stage parcel later result (stop, goes, may, later_is, result_is) =
      rw (later_is, result_is) (record {
        goes = goes;
        taken = refl;
        rounds = refl;
        first = refl;
        finished = refl;
        marks = λ first. rw first refl;
        mark = λ first. rw first refl;
        stopped = λ is. may_stop (is_passing stage parcel)
            (stop_of work stage parcel) stop may (stop_stays stage parcel is);
        halted = λ is. may_stop (is_passing stage parcel)
            (stop_of work stage parcel) stop may (halt_stays stage parcel is);
        halts = refl;
      })

  pub gathers : (collector : Collector Total Stop) (parcel : Plain Load Stop)
      (later : Collector Total Stop) (result : Plain Load Stop)
      → Collects work collector parcel later result → IsCollected collector parcel later result
  unfolding Collects collected returned
  gathers collector parcel later result (stop, goes, may, later_is, result_is) =
      rw (later_is, result_is) (record {
        goes = goes;
        taken = refl;
        rounds = refl;
        finished = refl;
        mark = refl;
        running = λ none. unstopped collector.stop parcel.stop stop collector.total
            (work.gathered collector.total parcel.load) may none;
        decided = λ x is none. first_stopped collector.stop parcel.stop stop x collector.total
            (work.gathered collector.total parcel.load) may is none;
        stays = λ x is. rw is (refl, refl);
        stopped = λ is. may_stop (is_some parcel.stop) parcel.stop stop may is;
      })
