-- Fusion of two neighbours leaves a valid order with the same counts.
use Rattle.std.proofs.Common.{◌≡◌, sym, ap, ◌∙◌, subst, ℕ, ◌+◌, ◌*◌}
use Rattle.std.proofs.Common.{ℤ, List, ◌++◌, arith, append_assoc}
use mathlib.Core.Logic.{inl, inr, ◌⊎◌}
use Rattle.strc_elab_dataflow.specs.Node.{Meaning}
use Rattle.strc_elab_dataflow.specs.Flat.{Graph}
use Rattle.strc_elab_dataflow.specs.Order.{firing_count, IsOrder}
use Rattle.strc_elab_dataflow.specs.Rounds.{RepeatsRates}
use Rattle.strc_elab_dataflow.specs.Fused.{repeated, taken_by, IsAway, IsPassedOn, Merges}
use Rattle.strc_elab_dataflow.proofs.Counts.{count_append}
use Rattle.strc_elab_dataflow.proofs.Links.{Link, takes, sum_of, sum_takes, count_repeated}
use Rattle.strc_elab_dataflow.proofs.Links.{Passes, easier, join, passes_front, passes_back}
use Rattle.strc_elab_dataflow.proofs.Passing.{IsClear, IsForward, merged, same_sum}
use Rattle.strc_elab_dataflow.proofs.Channels.{channel, each_passes, from_each}
use Rattle.strc_elab_dataflow.proofs.Channels.{sum_gives, gives_none}

module _ (before first second after : List ℕ) (h m n : ℕ) where
  abbrev pub apart : List ℕ
  apart = before ++ (repeated (h * m) first ++ (repeated (h * n) second ++ after))

  abbrev pub fused : List ℕ
  fused = before ++ (repeated h (repeated m first ++ repeated n second) ++ after)

  pub fused_counts : (node : ℕ) → firing_count fused node ≡ firing_count apart node
  fused_counts node = omega (
    arith,
    count_append before (repeated h (repeated m first ++ repeated n second) ++ after) node,
    count_append (repeated h (repeated m first ++ repeated n second)) after node,
    count_append before (repeated (h * m) first ++ (repeated (h * n) second ++ after)) node,
    count_append (repeated (h * m) first) (repeated (h * n) second ++ after) node,
    count_append (repeated (h * n) second) after node,
    count_repeated h (repeated m first ++ repeated n second) node,
    count_repeated (h * m) first node,
    count_repeated (h * n) second node,
    ap (λ (c : ℕ). h * c) (count_append (repeated m first) (repeated n second) node),
    ap (λ (c : ℕ). h * c) (count_repeated m first node),
    ap (λ (c : ℕ). h * c) (count_repeated n second node),
  )

  -- On one channel.
  pub fused_passes : (link : Link)
      → IsClear link first second m n second
      ⊎ (IsClear link first second m n first ⊎ IsForward link first second m n)
      → (g t : ℕ) → Passes link g t apart → Passes link g t fused
  fused_passes link merges g t passes =
      join link before (block ++ after) g t
      (passes_front link before _ g t passes)
      (join link block after _ _
      (merged link first second m n merges h _ _
      (passes_front link both after _ _ middle))
      (easier link after _ _ _ _ (omega (
        arith,
        same_sum link first second m n link.gives h,
        same_sum link first second m n (takes link) h,
      )) (passes_back link both after _ _ middle)))
    where
      block : List ℕ
      block = repeated h (repeated m first ++ repeated n second)

      both : List ℕ
      both = repeated (h * m) first ++ repeated (h * n) second

      middle : Passes link (g + sum_of link.gives before) (t + sum_of (takes link) before)
          (both ++ after)
      middle = subst (Passes link _ _)
          (sym (append_assoc (repeated (h * m) first) (repeated (h * n) second) after))
          (passes_back link before _ g t passes)

  module _ {Code State Cause Word : Type 0} (meaning : Meaning Code State Cause Word)
      (graph : Graph Code) (input : List ℤ) (counts : ℕ → ℕ)
      (repeats : RepeatsRates meaning graph counts)
      (merges : Merges meaning graph counts first m second n) where
    the_channel : ℕ → ℕ → Link
    the_channel = channel meaning graph input counts repeats

    channel_merges : (node port : ℕ)
        → IsAway meaning graph counts second node port
        ⊎ (IsAway meaning graph counts first node port
        ⊎ IsPassedOn meaning graph counts first m second n node port)
        → IsClear (the_channel node port) first second m n second
        ⊎ (IsClear (the_channel node port) first second m n first
        ⊎ IsForward (the_channel node port) first second m n)
    unfolding the_channel taken_by
    channel_merges node port (inl away) = inl (record {
      no_target = away.0;
      no_gift = gives_none meaning graph input counts repeats second
          (graph.source node port).origin away.1;
    })
    channel_merges node port (inr (inl away)) = inr (inl (record {
      no_target = away.0;
      no_gift = gives_none meaning graph input counts repeats first
          (graph.source node port).origin away.1;
    }))
    channel_merges node port (inr (inr passed)) = inr (inr (record {
      no_target = passed.no_target;
      no_gift = gives_none meaning graph input counts repeats second
          (graph.source node port).origin passed.no_source;
      balance = ap (λ (c : ℕ). m * c) (sum_gives meaning graph input counts repeats first
          (graph.source node port).origin)
          ∙ passed.balance
          ∙ sym (ap (λ (c : ℕ). n * c) (sum_takes (the_channel node port) second));
    }))

    pub fused_is_order : IsOrder meaning graph input counts apart
        → IsOrder meaning graph input counts fused
    unfolding the_channel
    fused_is_order valid =
        from_each meaning graph input counts repeats fused counts (λ v. omega arith)
        (λ node port less. fused_passes (the_channel node port)
        (channel_merges node port (merges node port less)) _ _
        (each_passes meaning graph input counts repeats apart counts (λ v. omega arith) valid
        node port less))
