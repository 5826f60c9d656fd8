-- The rounds before and after fission by blocks, where nodes that are split have own units.
use Rattle.std.proofs.Common.{◌≡◌, refl, sym, ap, ◌∙◌, ℕ, List}
use Rattle.strc_elab_graph.specs.declared.graph.Fission.{Fission}
use Rattle.strc_elab_dataflow.specs.Blocks.{Block, AreBlocks, old_order, new_order}
use Rattle.strc_elab_dataflow.specs.FusedUnits.{RoundUnit, firings_of}
use Rattle.strc_elab_dataflow.specs.PieceBlocks.{blocks_of}
use Rattle.strc_elab_dataflow.specs.Split.{Parts}
use Rattle.strc_elab_dataflow.specs.Starting.{AreNumbered}
use Rattle.strc_elab_dataflow.proofs.PieceBlocks.{blocks_are, before_same, after_same}
use Rattle.strc_fiss.specs.Laws.{AreOwn, pieces_of}
use Rattle.strc_fiss.specs.Numbers.{base, parts_after}
use Rattle.strc_fiss.specs.Units.{split_units}
use Rattle.strc_fiss.proofs.Pieced.{pieces_before, pieces_after, pieces_own}

module _ (share : ℕ → Fission) where
  abbrev pub split_parts : Parts
  split_parts = parts_after share (λ v. 0)

  pub numbered : AreNumbered (parts_after share (λ v. 0)) (base share)
  numbered = record { first = refl; next = λ v. refl; names = λ v k. refl }

  module _ (units : List RoundUnit) where
    abbrev pub blocks : List Block
    blocks = blocks_of (pieces_of share units)

    pub are_blocks : AreOwn share units
        → AreBlocks (parts_after share (λ v. 0)) (blocks_of (pieces_of share units))
    are_blocks own = blocks_are split_parts (pieces_of share units)
        (pieces_own share (λ v. 0) units own)

    pub before_is : firings_of units
        ≡ old_order (parts_after share (λ v. 0)) (blocks_of (pieces_of share units))
    before_is = ap firings_of (sym (pieces_before share (λ v. 0) units))
        ∙ before_same split_parts (pieces_of share units)

    pub after_is : firings_of (split_units share units)
        ≡ new_order (parts_after share (λ v. 0)) (blocks_of (pieces_of share units))
    after_is = ap firings_of (sym (pieces_after share (λ v. 0) units))
        ∙ after_same split_parts (pieces_of share units)
