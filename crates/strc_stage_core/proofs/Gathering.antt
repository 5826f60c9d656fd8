-- What a collector makes of what it took.
use Rattle.std.proofs.Common.{◌≡◌, refl, sym, ap, ◌∙◌, List, [], ◌∷◌, Option, Some, None}
use Rattle.strc_stage_core.specs.Actors.{Plain, Collector, Work, Collects}
use Rattle.strc_stage_core.specs.States.{Runs}
use Rattle.strc_stage_core.specs.Endings.{AreRunning, gathered_of, IsDecided, Gathers}
use Rattle.strc_stage_core.proofs.Runs.{some_is, none_not_some}
use Rattle.strc_stage_core.proofs.Steps.{gathers}

module _ {State Load Stop Total : Type 0} (work : Work State Load Stop Total) where
  gathers_running : (a : Collector Total Stop) (taken made : List (Plain Load Stop))
      (b : Collector Total Stop) → Runs (Collects work) a taken made b → b.stop ≡ None
      → (a.stop ≡ None) × (AreRunning taken × (b.total ≡ gathered_of work a.total taken))
  gathers_running a [] [] b runs none =
      (ap (λ c. c.stop) runs ∙ none, (tt, ap (λ c. c.total) (sym runs)))
  gathers_running a (p ∷ taken) (q ∷ made) b (m, step, runs) none =
      let (before, (running, total)) = gathers_running m taken made b runs none in
      let (start, here, gathered) = (gathers work a p m q step).running before in
      (start, ((here, running), total ∙ ap (λ t. gathered_of work t taken) gathered))
  gathers_running a _ _ b runs none = absurd runs

  gathers_stays : (a : Collector Total Stop) (taken made : List (Plain Load Stop))
      (b : Collector Total Stop) (stop : Stop) → Runs (Collects work) a taken made b
      → a.stop ≡ Some stop → (b.stop ≡ Some stop) × (b.total ≡ a.total)
  gathers_stays a [] [] b stop runs is =
      (ap (λ c. c.stop) (sym runs) ∙ is, ap (λ c. c.total) (sym runs))
  gathers_stays a (p ∷ taken) (q ∷ made) b stop (m, step, runs) is =
      let (stays, same) = (gathers work a p m q step).stays stop is in
      let (later, total) = gathers_stays m taken made b stop runs stays in
      (later, total ∙ same)
  gathers_stays a _ _ b stop runs is = absurd runs

  gathers_decided : (a : Collector Total Stop) (taken made : List (Plain Load Stop))
      (b : Collector Total Stop) (stop : Stop) → Runs (Collects work) a taken made b
      → a.stop ≡ None → b.stop ≡ Some stop → IsDecided work a taken stop b.total
  gathers_decided a [] [] b stop runs none is =
      absurd (none_not_some stop (sym none ∙ ap (λ c. c.stop) runs ∙ is))
  gathers_decided a (p ∷ taken) (q ∷ made) b stop (m, step, runs) none is =
      by_stop (λ e. gathers_decided m taken made b stop runs e is) m.stop refl
    where
      by_stop : (m.stop ≡ None → IsDecided work m taken stop b.total) → (now : Option Stop)
          → m.stop ≡ now → IsDecided work a (p ∷ taken) stop b.total
      by_stop further None e =
          let later = further e in
          let (start, here, gathered) = (gathers work a p m q step).running e in record {
            front = p ∷ later.front;
            parcel = later.parcel;
            rest = later.rest;
            is = ap (λ l. p ∷ l) later.is;
            running = (here, later.running);
            total_is = later.total_is ∙ ap (λ t. gathered_of work t later.front) gathered;
            why = later.why;
          }
      by_stop further (Some x) e =
          let (stays, total) = gathers_stays m taken made b x runs e in
          let same : x ≡ stop = some_is x stop (sym stays ∙ is) in
          let (before, why) = (gathers work a p m q step).decided stop (e ∙ ap Some same) none in
          record {
            front = [];
            parcel = p;
            rest = taken;
            is = refl;
            running = tt;
            total_is = total ∙ before;
            why = why;
          }
  gathers_decided a _ _ b stop runs none is = absurd runs

  pub gathers_all : (a : Collector Total Stop) (taken made : List (Plain Load Stop))
      (b : Collector Total Stop) → Runs (Collects work) a taken made b → a.stop ≡ None
      → Gathers work a taken b.stop b.total
  gathers_all a taken made b runs none = by_stop b.stop refl
    where
      by_stop : (now : Option Stop) → b.stop ≡ now → Gathers work a taken now b.total
      by_stop None e =
          let (before, (running, total)) = gathers_running a taken made b runs e in record {
            running = running;
            total_is = total;
          }
      by_stop (Some x) e = gathers_decided a taken made b x runs none e
