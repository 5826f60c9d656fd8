-- Fusion of the round after fission.
use Rattle.std.proofs.Common.{◌≡◌, refl, sym, ap, ap₂, ◌∙◌, subst, ℕ, zero, suc, ◌+◌, ◌*◌, ◌<◌}
use Rattle.std.proofs.Common.{◌≤◌, arith, List, [], ◌∷◌, length, slice_get, Bool, true, false}
use Rattle.std.proofs.Common.{cond, eqb, not, ◌&&◌, inl, inr, Option, Some, None, option_map}
use Rattle.std.proofs.lemmas.Bool.{cases_lt, and_from, and_left, and_right, and_parts, eq-eqb}
use Rattle.std.proofs.lemmas.Bool.{not_from_true, true≢false}
use Rattle.std.proofs.lemmas.Option.{slice_get-get_or, slice_get_past}
use Rattle.strc_elab_graph.specs.Graphs.{Graph, NodeCode, IsGraph, Joiner, Copy, Gather}
use Rattle.strc_elab_graph.specs.declared.graph.Fission.{Fission}
use Rattle.strc_elab_dataflow.specs.FusedUnits.{RoundUnit, AreFree, AreFused}
use Rattle.strc_elab_dataflow.specs.Pieces.{Piece, Piece.Plain, Piece.Whole, ArePieces, AreKept}
use Rattle.strc_elab_dataflow.specs.Pieces.{units_before, units_after}
use Rattle.strc_elab_dataflow.proofs.Pieces.{pieces_kept}
use Rattle.strc_startup.specs.declared.channel_rates.ChannelRates.{ChannelRates}
use Rattle.strc_sched_orders.specs.Firings.{Firings}
use Rattle.strc_fuse.specs.Units.{is_free, is_outside, is_whole_node, ArePlaced}
use Rattle.strc_fiss.specs.Laws.{piece_of, pieces_of, IsOwn, AreOwn}
use Rattle.strc_fiss.specs.Numbers.{is_dealt, last_part, base, parts_after}
use Rattle.strc_fiss.specs.Splitting.{copied, part_of, code_at, new_code, loop_at}
use Rattle.strc_fiss.specs.Splitting.{new_joiner, new_loop, split_graph}
use Rattle.strc_fiss.specs.Units.{is_whole, split_units}
use Rattle.strc_fiss.specs.Ways.{is_alike, feeds_itself, fission_of}
use Rattle.strc_fiss.proofs.Bases.{base_up}
use Rattle.strc_fiss.proofs.Joining.{dealt_code}
use Rattle.strc_fiss.proofs.Lookup.{part_there, part_many}
use Rattle.strc_fiss.proofs.Pieced.{pieces_before, pieces_after, pieces_own}
use Rattle.strc_fiss.proofs.Planned.{is_possible}
use Rattle.strc_stage_plan.specs.Fusions.{stays_whole, IsFissionOfFused, FusionFollowsFission}

-- ---- pieces and their units

module _ (share : ℕ → Fission) where
  kept_piece : (turns : ℕ) (nodes : List ℕ) → AreKept (parts_after share (λ v. 0)) nodes
      → piece_of share turns nodes ≡ Plain (record { turns = turns; nodes = nodes })
  kept_piece turns [] kept = refl
  kept_piece turns (node ∷ []) kept =
      ap (λ (t : Bool). cond t (Whole node) (Plain (record { turns = turns; nodes = node ∷ [] })))
      (and_left (is_dealt (share node)) (eqb turns ((share node).ways * (share node).firings))
      kept.0)
  kept_piece turns (first ∷ (second ∷ rest)) kept = refl

  whole_is : (v : ℕ) → is_dealt (share v) ≡ true
      → is_whole share ((share v).ways * (share v).firings) v ≡ true
  whole_is v dealt =
      let all = (share v).ways * (share v).firings in
      and_from (is_dealt (share v)) (eqb all all) dealt (eq-eqb all all refl)

  whole_piece : (v : ℕ) → is_dealt (share v) ≡ true
      → piece_of share ((share v).ways * (share v).firings) (v ∷ []) ≡ Whole v
  whole_piece v dealt =
      ap (λ (t : Bool). cond t (Whole v)
      (Plain (record { turns = (share v).ways * (share v).firings; nodes = v ∷ [] })))
      (whole_is v dealt)

  -- pieces are those of the units before fission
  same_pieces : (pieces : List Piece) → ArePieces (parts_after share (λ v. 0)) pieces
      → pieces_of share (units_before (parts_after share (λ v. 0)) pieces) ≡ pieces
  same_pieces [] are = refl
  same_pieces (Plain unit ∷ rest) are =
      ap₂ (λ (p : Piece) (l : List Piece). p ∷ l) (kept_piece unit.turns unit.nodes are.0)
      (same_pieces rest are.1)
  same_pieces (Whole v ∷ rest) are =
      ap₂ (λ (p : Piece) (l : List Piece). p ∷ l) (whole_piece v are.0)
      (same_pieces rest are.1)

  kept_own : (turns : ℕ) (nodes : List ℕ) → AreKept (parts_after share (λ v. 0)) nodes
      → IsOwn share turns nodes
  kept_own turns [] kept = tt
  kept_own turns (node ∷ []) kept = inr kept
  kept_own turns (first ∷ (second ∷ rest)) kept = kept

  own_pieces : (pieces : List Piece) → ArePieces (parts_after share (λ v. 0)) pieces
      → AreOwn share (units_before (parts_after share (λ v. 0)) pieces)
  own_pieces [] are = tt
  own_pieces (Plain unit ∷ rest) are =
      (kept_own unit.turns unit.nodes are.0, own_pieces rest are.1)
  own_pieces (Whole v ∷ rest) are = (inl (whole_is v are.0), own_pieces rest are.1)

-- ---- which nodes may be fused

outside_renamed : (f : ℕ → ℕ) (loop : Option ℕ)
    → is_outside (Some (option_map f loop)) ≡ is_outside (Some loop)
outside_renamed f None = refl
outside_renamed f (Some loop) = refl

part_fires_by_rounds : (code : NodeCode) (fission : Fission) (part : ℕ)
    → is_whole_node (Some (part_of code fission part)) ≡ false
part_fires_by_rounds code fission zero = refl
part_fires_by_rounds code fission (suc copy) = by_test _
  where
    by_test : (t : Bool)
        → is_whole_node (Some (cond t (Copy (copied code) fission) (Gather fission))) ≡ false
    by_test true = refl
    by_test false = refl

module _ (share : ℕ → Fission) (graph : Graph) (greatest last : List ℕ) (is : IsGraph graph)
    (inside : (v : ℕ) → is_dealt (share v) ≡ true → v < length graph.nodes) where
  abbrev new : Graph
  new = split_graph share graph greatest last

  loop_there : (u : ℕ) → u < length graph.nodes
      → is_outside (slice_get new.outer_loops (base share u + 0))
      ≡ is_outside (slice_get graph.outer_loops u)
  loop_there u less =
      ap is_outside (part_there share
      (new_loop share (length graph.nodes) graph.outer_loops) (length graph.nodes) u 0 less
      (omega arith))
      ∙ outside_renamed (new_joiner share (length graph.nodes)) (loop_at graph.outer_loops u)
      ∙ sym (ap is_outside (slice_get-get_or graph.outer_loops u None
      (omega (arith, less, is.outer_loops))))

  node_same : (u : ℕ) → u < length graph.nodes → is_dealt (share u) ≡ false
      → slice_get new.nodes (base share u + 0) ≡ slice_get graph.nodes u
  node_same u less whole =
      part_there share (new_code share graph.nodes) (length graph.nodes) u 0 less (omega arith)
      ∙ ap (λ (t : Bool). Some (cond t (part_of (code_at graph.nodes u) (share u) 0)
      (code_at graph.nodes u))) whole
      ∙ sym (slice_get-get_or graph.nodes u (Joiner []) less)

  -- a node that isn't split may be fused as before
  kept_free : (u : ℕ) → is_dealt (share u) ≡ false
      → is_free new (base share u + 0) ≡ stays_whole graph share u
  kept_free u whole = elim (cases_lt u (length graph.nodes)) [
    | inl less ↦
        ap₂ (λ (a : Bool) (b : Option NodeCode). a && is_whole_node b) (loop_there u less)
        (node_same u less whole)
        ∙ sym (ap (λ (t : Bool). is_free graph u && not t) whole
        ∙ and_true (is_free graph u))
    | inr past ↦
        and_right (is_outside (slice_get new.outer_loops (base share u + 0)))
        (is_whole_node (slice_get new.nodes (base share u + 0)))
        (ap is_whole_node (slice_get_past new.nodes (base share u + 0) (omega (
          arith,
          part_many share (new_code share graph.nodes) (length graph.nodes),
          base_up share (length graph.nodes) u past,
        ))))
        ∙ sym (and_left (is_free graph u) (not (is_dealt (share u)))
        (and_right (is_outside (slice_get graph.outer_loops u))
        (is_whole_node (slice_get graph.nodes u))
        (ap is_whole_node (slice_get_past graph.nodes u past))))
  ]
    where
      and_true : (t : Bool) → (t && true) ≡ t
      and_true true = refl
      and_true false = refl

  split_fixed : (v : ℕ) → is_dealt (share v) ≡ true → stays_whole graph share v ≡ false
  split_fixed v dealt = and_right (is_free graph v) (not (is_dealt (share v)))
      (not_from_true (is_dealt (share v)) dealt)

  parts_fixed : (v k : ℕ) → is_dealt (share v) ≡ true → k ≤ last_part share v
      → is_free new (base share v + k) ≡ false
  parts_fixed v k dealt within =
      and_right (is_outside (slice_get new.outer_loops (base share v + k)))
      (is_whole_node (slice_get new.nodes (base share v + k)))
      (ap is_whole_node (part_there share (new_code share graph.nodes) (length graph.nodes) v k
      (inside v dealt) within
      ∙ ap Some (dealt_code (code_at graph.nodes v) (share v) k dealt))
      ∙ part_fires_by_rounds (code_at graph.nodes v) (share v) k)

  pub fused_pieces : (limit : ℕ) (units fused : List RoundUnit) → AreOwn share units
      → AreFused (is_free new) limit (split_units share units) fused
      → IsFissionOfFused graph share limit units fused
  fused_pieces limit units fused own are_fused =
      let parts = parts_after share (λ v. 0) in
      let kept = pieces_kept parts (stays_whole graph share) (is_free new) limit kept_free
      split_fixed parts_fixed (pieces_of share units) fused (pieces_own share (λ v. 0) units own)
      (subst (λ (l : List RoundUnit). AreFused (is_free new) limit l fused)
      (sym (pieces_after share (λ v. 0) units)) are_fused) in
      record {
        before = units_before parts kept.pieces;
        is_fused = subst (λ (l : List RoundUnit). AreFused (stays_whole graph share) limit l
            (units_before parts kept.pieces)) (pieces_before share (λ v. 0) units) kept.before;
        own = own_pieces share kept.pieces kept.are;
        after = kept.after
            ∙ ap (units_after parts) (sym (same_pieces share kept.pieces kept.are))
            ∙ pieces_after share (λ v. 0) (units_before parts kept.pieces);
      }

pub fusion_follows : FusionFollowsFission
fusion_follows old schedule round ways limit units fused is own are_fused =
    fused_pieces (fission_of old round ways) old schedule.greatest schedule.last is
    (λ v dealt. inside v dealt) limit units fused own are_fused
  where
    inside : (v : ℕ) → is_dealt (fission_of old round ways v) ≡ true → v < length old.nodes
    inside v dealt = elim (cases_lt v (length old.nodes)) [
      | inl less ↦ less
      | inr past ↦ absurd (true≢false (sym (and_parts (is_alike (slice_get old.nodes v))
          (is_outside (slice_get old.outer_loops v) && not (feeds_itself old.channels v))
          (is_possible old round ways v dealt)).0
          ∙ ap is_alike (slice_get_past old.nodes v past)))
    ]

-- ---- units that are placed are so where fewer nodes may be fused

fewer_free : (free fewer : ℕ → Bool) → ((node : ℕ) → fewer node ≡ true → free node ≡ true)
    → (nodes : List ℕ) → AreFree fewer nodes → AreFree free nodes
fewer_free free fewer less [] are = tt
fewer_free free fewer less (node ∷ nodes) are =
    (less node are.0, fewer_free free fewer less nodes are.1)

pub fewer_placed : (channels : List ChannelRates) (round : Firings) (free fewer : ℕ → Bool)
    → ((node : ℕ) → fewer node ≡ true → free node ≡ true) → (units : List RoundUnit)
    → ArePlaced channels round free units → ArePlaced channels round fewer units
fewer_placed channels round free fewer less [] placed = tt
fewer_placed channels round free fewer less (unit ∷ rest) placed = (
  λ are. placed.0 (fewer_free free fewer less unit.nodes are),
  fewer_placed channels round free fewer less rest placed.1,
)
