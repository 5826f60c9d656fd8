-- The parts of a collector's step.
use Rattle.std.proofs.Common.{◌≡◌, refl, sym, ap, suc, Bool, true, false, true≢false, cond, Option}
use Rattle.std.proofs.Common.{Some, None}
use Rattle.std.proofs.Common.{is_some, inl, inr}
use Rattle.strc_stage_core.specs.Actors.{Collector, MayStop, collected, returned, or_else}
use Rattle.strc_sched_outcome.specs.declared.stop.Stop.{Stop}
use Rattle.strc_stage_core.specs.Parcels.{Load, ParcelView, parcel, emptied}
use Rattle.strc_stage_steps.specs.Steps.{Gathered, stage_work, with_round}

-- A stopped parcel goes back as it is.
pub stopped_back : (load : Load) (own : Option Stop) (last : Bool) (stop : Option Stop)
    → is_some own ≡ true → MayStop stage_work (is_some own) own stop
    → parcel load own last ≡ returned stage_work (parcel load own last) stop
unfolding returned
stopped_back load None last stop e may = absurd (true≢false (sym e))
stopped_back load (Some own) last stop e (inl same) = ap (λ o. parcel load o last) (sym same)
stopped_back load (Some own) last stop e (inr more) = absurd (true≢false more.0)

-- Another one goes back empty.
pub open_back : (load : Load) (own : Option Stop) (last : Bool) (stop : Option Stop)
    (back : ParcelView) → is_some own ≡ false → back ≡ parcel (emptied load) (or_else own stop) last
    → back ≡ returned stage_work (parcel load own last) stop
unfolding returned
open_back load None last stop back e is = is
open_back load (Some own) last stop back e is = absurd (true≢false e)

pub no_other : (own : Option Stop) → is_some own ≡ false → own ≡ or_else own None
no_other None e = refl
no_other (Some own) e = absurd (true≢false e)

-- A collector after a parcel, part by part.
pub collected_is : (collector later : Collector Gathered Stop) (own : ParcelView)
    (stop : Option Stop)
    → later.total ≡ cond (is_some (or_else collector.stop stop)) collector.total
    (with_round collector.total own.load)
    → later.rounds ≡ collector.rounds → later.taken ≡ suc collector.taken
    → later.stop ≡ or_else collector.stop stop → later.finished ≡ own.last
    → later ≡ collected stage_work collector own stop
unfolding collected
collected_is collector later own stop total rounds taken stops finished = λ i. record {
  total = total i;
  rounds = rounds i;
  taken = taken i;
  stop = stops i;
  finished = finished i;
}
