-- Where numbers that are between groups after fission are: at the first part of a node, or within
-- the parts of one.
use Rattle.std.proofs.Common.{◌≡◌, refl, sym, ap, subst, ℕ, zero, suc, ◌+◌, ◌<◌, ◌≤◌, arith}
use Rattle.std.proofs.Common.{Bool, true, false, cond, List, length}
use Rattle.std.proofs.Common.{Option, Some, None, slice_get, not, ◌&&◌, ◌⊎◌, inl, inr}
use Rattle.std.proofs.lemmas.Bool.{and_parts, true≢false}
use Rattle.strc_elab_graph.specs.FlatGraphs.{IsProgram}
use Rattle.strc_elab_graph.specs.Graphs.{Graph}
use Rattle.strc_elab_graph.specs.declared.graph.Fission.{Fission}
use Rattle.strc_elab_stream.specs.Flattening.{tree_of, outer_loops}
use Rattle.strc_elab_stream.specs.Instances.{Stream}
use Rattle.strc_elab_stream.specs.Types.{IsWellTyped}
use Rattle.strc_startup.specs.Rates.{rates_of}
use Rattle.strc_sched_orders.specs.Ranges.{IsClosedBelow, IsOuter}
use Rattle.strc_fuse.specs.Units.{is_outside}
use Rattle.strc_fuse.proofs.Forward.{node_is_outer}
use Rattle.strc_fiss.specs.Numbers.{is_dealt, last_of, last_part, base}
use Rattle.strc_fiss.specs.Ways.{is_alike, feeds_itself, fission_of}
use Rattle.strc_fiss.proofs.Planned.{is_possible}
use Rattle.strc_stage_plan.specs.Cuts.{IsBetweenGroups}
use Rattle.strc_stage_plan.proofs.Beginnings.{loops_numbered}
use Rattle.strc_stage_plan.proofs.Forward.{loops_many, closed_below}
use Rattle.strc_stage_steps.proofs.NewLoops.{part_of, node_upto, new_loops, between_old}

-- a node that is in several parts is split
parted_dealt : (fission : Fission) (part : ℕ) → 0 < part → part ≤ last_of fission
    → is_dealt fission ≡ true
parted_dealt fission part some within = by_test (is_dealt fission) refl
  where
    by_test : (t : Bool) → is_dealt fission ≡ t → is_dealt fission ≡ true
    by_test true e = e
    by_test false e = absurd (omega (
      arith,
      some,
      within,
      ap (λ (t : Bool). cond t (suc fission.ways) 0) e,
    ))

outside_is : (loop : Option (Option ℕ)) → is_outside loop ≡ true → loop ≡ Some None
outside_is (Some None) is = refl
outside_is (Some (Some loop)) is = absurd (true≢false (sym is))
outside_is None is = absurd (true≢false (sym is))

module _ (stream : Stream) (old : Graph) (typed : IsWellTyped stream)
    (program : IsProgram (tree_of stream) old)
    (loops : old.outer_loops ≡ outer_loops 0 stream) (round : List ℕ) (ways : ℕ) where
  abbrev share : ℕ → Fission
  share = fission_of old round ways

  pub dealt_outer : (v : ℕ) → is_dealt (share v) ≡ true → IsOuter (rates_of old) v
  dealt_outer v dealt =
      let both = and_parts (is_alike (slice_get old.nodes v))
      (is_outside (slice_get old.outer_loops v) && not (feeds_itself old.channels v))
      (is_possible old round ways v dealt) in
      let outside = and_parts (is_outside (slice_get old.outer_loops v))
      (not (feeds_itself old.channels v)) both.1 in
      node_is_outer old stream typed program loops v
      (outside_is (slice_get old.outer_loops v) outside.0)

  -- at the first part of a node to which nothing leads from it on
  pub record IsAtNode (bound : ℕ) : Type 0 where
    pub node : ℕ
    pub is : base share node ≡ bound
    pub closed : IsClosedBelow (rates_of old) node

  -- within the parts of a node that is split
  pub record IsWithinNode (bound : ℕ) : Type 0 where
    pub node : ℕ
    pub part : ℕ
    pub some : 0 < part
    pub within : part ≤ last_part share node
    pub is : base share node + part ≡ bound
    pub dealt : is_dealt (share node) ≡ true

  module _ (bound : ℕ) (less : bound ≤ base share (length old.nodes))
      (between : IsBetweenGroups (new_loops share old.outer_loops (length old.nodes)) bound) where
    place_by : (v part : ℕ) → part ≤ last_part share v → base share v + part ≡ bound
        → IsAtNode bound ⊎ IsWithinNode bound
    place_by v zero within is =
        let first : base share v ≡ bound = omega (arith, is) in
        inl (record {
          node = v;
          is = first;
          closed = closed_below stream old typed program loops v
              (node_upto share v 0 (length old.nodes) 0 (omega (arith, less, first))
              (omega arith))
              (between_old share old.outer_loops (length old.nodes)
              (loops_numbered stream old.outer_loops loops)
              (loops_many stream old typed program loops) v
              (subst (IsBetweenGroups (new_loops share old.outer_loops (length old.nodes)))
              (sym first) between));
        })
    place_by v (suc part) within is = inr (record {
      node = v;
      part = suc part;
      some = omega arith;
      within = within;
      is = is;
      dealt = parted_dealt (share v) (suc part) (omega arith) within;
    })

    pub place_of : IsAtNode bound ⊎ IsWithinNode bound
    place_of = let own = part_of share bound in place_by own.node own.part own.within own.is
