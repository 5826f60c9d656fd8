-- A schedule after fission whose round is fused.
use Rattle.std.proofs.Common.{◌≡◌, ◌∙◌, sym, ap, subst, ℕ, ◌≤◌, All, length, Ok, Err}
use Rattle.std.specs.Prelude.{Result, OnOk, OnErr}
use Rattle.strc_elab_graph.specs.Graphs.{Graph}
use Rattle.strc_sched_orders.specs.Buffers.{size_limit}
use Rattle.strc_sched_orders.specs.Firings.{none_fired}
use Rattle.strc_sched_orders.specs.Greedy.{firings_of}
use Rattle.strc_sched_orders.specs.Peaks.{AreRaised, HasNodes}
use Rattle.strc_sched_orders.specs.Schedules.{ScheduleParts}
use Rattle.strc_sched_orders.specs.Sizing.{round_rates_on}
use Rattle.strc_elab_dataflow.specs.FusedUnits.{AreFused}
use Rattle.strc_fuse.specs.Fusion.{IsFusion}
use Rattle.strc_fuse.specs.Laws.{CanBeFused}
use Rattle.strc_fuse.specs.Units.{is_free, round_units}
use Rattle.strc_fuse.specs.declared.error.FuseError.{FuseError}

module _ (graph : Graph) (threshold : ℕ) (old new : ScheduleParts) where
  abbrev Kept : Type 0
  Kept = new ≡ record old { round = new.round; sizes = new.sizes }

  -- it can be fused again
  pub still_fusible : (result : Result (Unit {0}) FuseError) → CanBeFused graph old
      → OnOk result Kept → OnOk result (All (HasNodes (length graph.nodes)) new.round)
      → OnErr result (new ≡ old) → CanBeFused graph new
  still_fusible (Ok done) can kept nodes error = record {
    before = ap (λ (s : ScheduleParts). length s.greatest) kept ∙ can.before;
    fill = ap (λ (s : ScheduleParts). length s.last) kept ∙ can.fill;
    nodes = nodes;
  }
  still_fusible (Err why) can kept nodes error = subst (CanBeFused graph) (sym error) can

  -- and is a fusion of the one before
  pub is_fusion : (result : Result (Unit {0}) FuseError) → OnOk result Kept
      → OnOk result (AreFused (is_free graph) threshold (round_units old.round)
      (round_units new.round))
      → OnOk result (length new.sizes ≡ length graph.channels)
      → OnOk result (All (λ size. size ≤ size_limit) new.sizes)
      → OnOk result (AreRaised (round_rates_on graph old.last) none_fired (firings_of new.round)
      old.greatest new.sizes)
      → OnOk result (IsFusion graph threshold old new)
  is_fusion (Ok done) kept units each within sizes = record {
    startup = ap (λ (s : ScheduleParts). round_units s.startup) kept;
    round = units;
    greatest = ap (λ (s : ScheduleParts). s.greatest) kept;
    last = ap (λ (s : ScheduleParts). s.last) kept;
    each = each;
    sizes = sizes;
    within = within;
  }
  is_fusion (Err why) kept units each within sizes = tt
