-- A round after fission follows the round before it, firing by firing.
use Rattle.std.proofs.Common.{◌≡◌, refl, sym, ap, ◌∙◌, subst, ℕ, zero, suc, ◌+◌, ◌*◌, ◌<◌, ◌≤◌}
use Rattle.std.proofs.Common.{Bool, true, false, cond, eqb, List, [], ◌∷◌, length, arith}
use mathlib.Core.Logic.{inl, inr}
use Rattle.std.proofs.lemmas.Bool.{cases_lt, ne_eqb}
use Rattle.strc_elab_dataflow.specs.Node.{Fired, Fired.Fires, Fired.Faults, Meaning}
use Rattle.strc_elab_dataflow.specs.Flat.{Graph}
use Rattle.strc_elab_dataflow.specs.Machine.{Stop}
use Rattle.strc_elab_dataflow.specs.Order.{raised}
use Rattle.strc_elab_dataflow.specs.Queues.{Fifo, FifoProgress, FifoProgress.FifoWent, fifo_go}
use Rattle.strc_elab_dataflow.specs.Queues.{fifo_then}
use Rattle.strc_elab_dataflow.specs.Queues.{FifoProgress.FifoStopped, fifo_fire}
use Rattle.strc_elab_dataflow.proofs.Invariant.{raised_here}
use Rattle.strc_elab_dataflow.specs.Same.{IsValid}
use Rattle.strc_elab_dataflow.specs.Split.{all_firings, reach, Parts, IsSplitGraph, Agree}
use Rattle.strc_elab_dataflow.specs.Blocks.{Block, Block.One, Block.All, times, old_order, copies}
use Rattle.strc_elab_dataflow.specs.Blocks.{new_order}
use Rattle.strc_elab_dataflow.specs.Blocks.{AreBlocks, rounds_after, IsOldStop, AreFed, BothCome}
use Rattle.strc_elab_dataflow.proofs.Diamond.{IsReadyNow, outcome}
use Rattle.strc_elab_dataflow.proofs.RoundsSteps.{goes, faults}
use Rattle.strc_elab_dataflow.proofs.Outputs.{place_fits}
use Rattle.strc_elab_dataflow.proofs.Firings.{none_fired, old_ready, old_outcome, fires_more}
use Rattle.strc_elab_dataflow.proofs.Copies.{result, Fired', AreBusy, scatter_ready}
use Rattle.strc_elab_dataflow.proofs.Copies.{scatters, scattered, copy_ready, copy_outcome}
use Rattle.strc_elab_dataflow.proofs.Copies.{copied, gather_ready, gathers, gathered}
use Rattle.strc_elab_dataflow.proofs.Kept.{kept_ready, kept_outcome, kept_agree}

times_add : (a b v : ℕ) (later : List ℕ)
    → times (a + b) v later ≡ times a v (times b v later)
times_add zero b v later =
    ap (λ (n : ℕ). times n v later) (let e : 0 + b ≡ b = omega arith in e)
times_add (suc a) b v later =
    ap (λ (n : ℕ). times n v later) (let e : suc a + b ≡ suc (a + b) = omega arith in e)
    ∙ ap (λ (l : List ℕ). v ∷ l) (times_add a b v later)

raised_other : (turns : ℕ → ℕ) (i l : ℕ) → eqb l i ≡ false → raised turns i l ≡ turns l
unfolding raised
raised_other turns i l e = ap (λ (t : Bool). cond t (suc (turns l)) (turns l)) e

module _ {Code State Cause Word : Type 0} (meaning : Meaning Code State Cause Word)
    (graph new : Graph Code) (parts : Parts) (is : IsSplitGraph parts meaning graph new)
    (final : ℕ → ℕ) where
  abbrev Here : Type 0
  Here = Fifo State Cause Word

  -- What is left of both rounds.
  abbrev pub Follows : (xs ys : List ℕ) → (o s : Here) → Type 0
  Follows xs ys o s =
      BothCome parts meaning graph final (fifo_go meaning graph xs o) (fifo_go meaning new ys s)
      × IsValid meaning new ys s

  went_is : (a b : Here) → ◌≡◌ {A = FifoProgress State Cause Word} (FifoWent a) (FifoWent b)
      → a ≡ b
  went_is a b e = cc

  valid_on : (b : ℕ) (ys : List ℕ) (s next_state : Here) → IsReadyNow meaning new s b
      → fifo_fire meaning new s b ≡ FifoWent next_state → IsValid meaning new ys next_state
      → IsValid meaning new (b ∷ ys) s
  valid_on b ys s next_state ready went valid = (
    ready,
    λ n f. subst (IsValid meaning new ys) (went_is next_state n (sym went ∙ f)) valid,
  )

  follow_new : (xs : List ℕ) (b : ℕ) (ys : List ℕ) (o s s' : Here) → IsReadyNow meaning new s b
      → fifo_fire meaning new s b ≡ FifoWent s' → Follows xs ys o s' → Follows xs (b ∷ ys) o s
  unfolding fifo_go fifo_then
  follow_new xs b ys o s s' ready went rest = (
    subst (λ (q : FifoProgress State Cause Word). BothCome parts meaning graph final
        (fifo_go meaning graph xs o) (fifo_then (fifo_go meaning new ys) q)) (sym went) rest.0,
    valid_on b ys s s' ready went rest.1,
  )

  follow_both : (a : ℕ) (xs : List ℕ) (b : ℕ) (ys : List ℕ) (o o' s s' : Here)
      → fifo_fire meaning graph o a ≡ FifoWent o' → IsReadyNow meaning new s b
      → fifo_fire meaning new s b ≡ FifoWent s' → Follows xs ys o' s'
      → Follows (a ∷ xs) (b ∷ ys) o s
  unfolding fifo_go fifo_then
  follow_both a xs b ys o o' s s' old_went ready went rest = (
    subst (λ (q : FifoProgress State Cause Word). BothCome parts meaning graph final
        (fifo_then (fifo_go meaning graph xs) q)
        (fifo_then (fifo_go meaning new ys) (fifo_fire meaning new s b))) (sym old_went)
        (subst (λ (q : FifoProgress State Cause Word). BothCome parts meaning graph final
        (fifo_go meaning graph xs o') (fifo_then (fifo_go meaning new ys) q)) (sym went) rest.0),
    valid_on b ys s s' ready went rest.1,
  )

  stop_both : (a : ℕ) (xs : List ℕ) (b : ℕ) (ys : List ℕ) (o s : Here) (old_stop stop : Stop Cause)
      → fifo_fire meaning graph o a ≡ FifoStopped old_stop → IsReadyNow meaning new s b
      → fifo_fire meaning new s b ≡ FifoStopped stop → IsOldStop parts old_stop stop
      → Follows (a ∷ xs) (b ∷ ys) o s
  unfolding fifo_go fifo_then
  stop_both a xs b ys o s old_stop stop old_stopped ready stopped same = (
    subst (λ (q : FifoProgress State Cause Word). BothCome parts meaning graph final
        (fifo_then (fifo_go meaning graph xs) q)
        (fifo_then (fifo_go meaning new ys) (fifo_fire meaning new s b))) (sym old_stopped)
        (subst (λ (q : FifoProgress State Cause Word). BothCome parts meaning graph final
        (FifoStopped old_stop) (fifo_then (fifo_go meaning new ys) q)) (sym stopped) same),
    (ready, λ n f. absurd (no_step stop n (sym stopped ∙ f))),
  )
    where
      no_step : (stop : Stop Cause) (n : Here)
          → ◌≡◌ {A = FifoProgress State Cause Word} (FifoStopped stop) (FifoWent n) → ⊥
      no_step stop n e = cc

  -- A node that isn't split.
  one_by : (rounds : ℕ → ℕ) (old now : Here) (agree : Agree parts meaning graph rounds old now)
      (u : ℕ) (kept : parts.is_split u ≡ false) (xs ys : List ℕ)
      → IsReadyNow meaning graph old u
      → ((next_old next_new : Here) → fifo_fire meaning graph old u ≡ FifoWent next_old
      → Agree parts meaning graph rounds next_old next_new → Follows xs ys next_old next_new)
      → (gives : Fired State Cause Word) → outcome meaning graph old u ≡ gives
      → Follows (u ∷ xs) (parts.name u 0 ∷ ys) old now
  one_by rounds old now agree u kept xs ys ready rest (Faults cause) e =
      let new_ready = kept_ready meaning graph new parts is rounds old now agree u kept ready in
      stop_both u xs (parts.name u 0) ys old now _ _
      (faults meaning graph old u ready cause e) new_ready
      (faults meaning new now (parts.name u 0) new_ready cause
      (kept_outcome meaning graph new parts is rounds old now agree u kept ∙ e))
      (inl (record {
        not_split = kept;
        node = refl;
        firing = ap (λ r. r.fired) (agree.kept u kept);
        cause = refl;
      }))
  one_by rounds old now agree u kept xs ys ready rest (Fires state pushes words) e =
      let new_ready = kept_ready meaning graph new parts is rounds old now agree u kept ready in
      let old_went = goes meaning graph old u state pushes words ready e in
      follow_both u xs (parts.name u 0) ys old _ now _ old_went new_ready
      (goes meaning new now (parts.name u 0) state pushes words new_ready
      (kept_outcome meaning graph new parts is rounds old now agree u kept ∙ e))
      (rest _ _ old_went
      (kept_agree meaning graph new parts is rounds old now agree u kept state pushes words))

  -- A node that is split.
  module _ (v : ℕ) (split : parts.is_split v ≡ true) (rounds : ℕ → ℕ) (old now : Here)
      (agree : Agree parts meaning graph rounds old now)
      (enough : reach (parts.share v) (all_firings (parts.share v)) ≤ length (old.queues v 0))
    where
      abbrev ways : ℕ
      ways = (parts.share v).ways

      abbrev firings : ℕ
      firings = (parts.share v).firings

      abbrev OldFired : ℕ → Here → Type 0
      OldFired = Fired' meaning graph new parts is v split rounds old now agree enough

      abbrev Busy : (ℕ → ℕ) → Here → Type 0
      Busy = AreBusy meaning graph new parts is v split rounds old now agree enough

      abbrev gives : ℕ → Fired State Cause Word
      gives = result meaning graph new parts is v split rounds old now agree enough

      copy_step : (i j : ℕ) (turns : ℕ → ℕ) (o s : Here) (xs ys : List ℕ) → i < ways
          → j < firings → turns i ≡ j → OldFired (i * firings + j) o → Busy turns s
          → ((o' s' : Here) → OldFired (suc (i * firings + j)) o' → Busy (raised turns i) s'
          → Follows xs ys o' s')
          → (outcome_is : Fired State Cause Word) → gives (i * firings + j) ≡ outcome_is
          → Follows (v ∷ xs) (parts.name v (suc i) ∷ ys) o s
      copy_step i j turns o s xs ys less inside turn done busy rest (Faults cause) e =
          let within = place_fits (parts.share v) i j less inside in
          let ready = copy_ready meaning graph new parts is v split rounds old now agree enough
          turns
          s busy i j less turn inside in
          let filter = (is.split v split).filter in
          let turned = busy.copy i less in
          stop_both v xs (parts.name v (suc i)) ys o s _ _
          (faults meaning graph o v
          (old_ready meaning graph (parts.share v) v filter (is.split v split).no_loop
          (is.split v split).narrow old (agree.idle v split).state
          (agree.idle v split).silent enough
          (i * firings + j) o done within) cause
          (old_outcome meaning graph (parts.share v) v filter (is.split v split).no_loop
          (is.split v split).narrow old (agree.idle v split).state
          (agree.idle v split).silent enough
          (i * firings + j) o done ∙ e)) ready
          (faults meaning new s (parts.name v (suc i)) ready cause
          (copy_outcome meaning graph new parts is v split rounds old now agree enough turns s busy
          i
          j less turn inside ∙ e))
          (inr (record {
            split = split;
            copy = i;
            in_round = j;
            round = rounds v;
            copy_less = less;
            in_round_less = inside;
            node = refl;
            firing = turned.fired ∙ ap (λ (k : ℕ). rounds v * firings + k) turn;
            old_firing = done.fired
                ∙ ap (λ (k : ℕ). k + (i * firings + j)) (agree.idle v split).fired;
            cause = refl;
          }))
      copy_step i j turns o s xs ys less inside turn done busy rest (Fires state pushes words) e =
          let within = place_fits (parts.share v) i j less inside in
          let ready = copy_ready meaning graph new parts is v split rounds old now agree enough
          turns
          s busy i j less turn inside in
          let filter = (is.split v split).filter in
          follow_both v xs (parts.name v (suc i)) ys o _ s _
          (goes meaning graph o v state pushes words
          (old_ready meaning graph (parts.share v) v filter (is.split v split).no_loop
          (is.split v split).narrow old (agree.idle v split).state
          (agree.idle v split).silent enough
          (i * firings + j) o done within)
          (old_outcome meaning graph (parts.share v) v filter (is.split v split).no_loop
          (is.split v split).narrow old (agree.idle v split).state
          (agree.idle v split).silent enough
          (i * firings + j) o done ∙ e)) ready
          (goes meaning new s (parts.name v (suc i)) state pushes words ready
          (copy_outcome meaning graph new parts is v split rounds old now agree enough turns s busy
          i
          j less turn inside ∙ e))
          (rest _ _
          (fires_more meaning graph (parts.share v) v filter (is.split v split).no_loop
          (is.split v split).narrow old (agree.idle v split).state
          (agree.idle v split).silent enough
          (i * firings + j) o done within state pushes words e)
          (copied meaning graph new parts is v split rounds old now agree enough turns s busy i j
          less turn inside state pushes words e))

      -- The copies before this one have done their firings, those after it none.
      pub record AreBefore (i : ℕ) (turns : ℕ → ℕ) : Type 0 where
        pub earlier : (l : ℕ) → l < i → turns l ≡ firings
        pub later : (l : ℕ) → i < l → turns l ≡ 0

      before_next : (i : ℕ) (turns : ℕ → ℕ) → AreBefore i turns → AreBefore i (raised turns i)
      before_next i turns before = record {
        earlier = λ l less. raised_other turns i l (ne_eqb l i (λ e. absurd (omega (arith, e))))
            ∙ before.earlier l less;
        later = λ l less. raised_other turns i l (ne_eqb l i (λ e. absurd (omega (arith, e))))
            ∙ before.later l less;
      }

      copy_loop : (left i j : ℕ) (turns : ℕ → ℕ) (o s : Here) (xs ys : List ℕ) → i < ways
          → left + j ≡ firings → turns i ≡ j → AreBefore i turns → OldFired (i * firings + j) o
          → Busy turns s
          → ((turns' : ℕ → ℕ) (o' s' : Here) → turns' i ≡ firings → AreBefore i turns'
          → OldFired (suc i * firings) o' → Busy turns' s' → Follows xs ys o' s')
          → Follows (times left v xs) (times left (parts.name v (suc i)) ys) o s
      copy_loop zero i j turns o s xs ys less sum turn before done busy rest =
          rest turns o s (omega (arith, turn, sum)) before
          (subst (λ (n : ℕ). OldFired n o) (let e : i * firings + j ≡ suc i * firings =
          omega (arith, sum) in e) done) busy
      copy_loop (suc left) i j turns o s xs ys less sum turn before done busy rest =
          copy_step i j turns o s (times left v xs) (times left (parts.name v (suc i)) ys) less
          (omega (arith, sum)) turn done busy
          (λ o' s' done' busy'. copy_loop left i (suc j) (raised turns i) o' s' xs ys less
          (omega (arith, sum)) (raised_here turns i ∙ ap suc turn) (before_next i turns before)
          (subst (λ (n : ℕ). OldFired n o') (let e : suc (i * firings + j) ≡ i * firings + suc j =
          omega arith in e) done') busy' rest)
          (gives (i * firings + j)) refl

      copies_loop : (left i : ℕ) (turns : ℕ → ℕ) (o s : Here) (xs ys : List ℕ)
          → left + i ≡ ways → ((l : ℕ) → l < i → turns l ≡ firings)
          → ((l : ℕ) → i ≤ l → turns l ≡ 0) → OldFired (i * firings) o → Busy turns s
          → ((turns' : ℕ → ℕ) (o' s' : Here) → ((l : ℕ) → l < ways → turns' l ≡ firings)
          → OldFired (all_firings (parts.share v)) o' → Busy turns' s' → Follows xs ys o' s')
          → Follows (times (left * firings) v xs) (copies parts v i left ys) o s
      copies_loop zero i turns o s xs ys sum earlier later done busy rest =
          subst (λ (n : ℕ). Follows (times n v xs) ys o s)
          (let e : 0 ≡ 0 * firings = omega arith in e)
          (rest turns o s (λ l less. earlier l (omega (arith, sum, less)))
          (subst (λ (n : ℕ). OldFired (n * firings) o) (let e : i ≡ ways = omega (arith, sum) in e)
          done) busy)
      copies_loop (suc left) i turns o s xs ys sum earlier later done busy rest =
          subst (λ (l : List ℕ). Follows l (copies parts v i (suc left) ys) o s)
          (sym (times_add firings (left * firings) v xs)
          ∙ ap (λ (n : ℕ). times n v xs)
          (let e : firings + left * firings ≡ suc left * firings = omega arith in e))
          (copy_loop firings i 0 turns o s (times (left * firings) v xs)
          (copies parts v (suc i) left ys) (omega (arith, sum)) (omega arith)
          (later i (omega arith))
          (record { earlier = earlier; later = λ l less. later l (omega (arith, less)) })
          (subst (λ (n : ℕ). OldFired n o) (let e : i * firings ≡ i * firings + 0 =
          omega arith in e) done) busy
          (λ turns' o' s' full before done' busy'.
          copies_loop left (suc i) turns' o' s' xs ys (omega (arith, sum))
          (λ l less. up_to i turns' full before.earlier l less)
          (λ l less. before.later l (omega (arith, less))) done' busy' rest))
        where
          up_to : (i : ℕ) (turns' : ℕ → ℕ) → turns' i ≡ firings
              → ((l : ℕ) → l < i → turns' l ≡ firings) → (l : ℕ) → l < suc i → turns' l ≡ firings
          up_to i turns' full below l less = elim (cases_lt l i) [
            | inl lower ↦ below l lower
            | inr other ↦ ap turns' (let e : l ≡ i = omega (arith, less, other) in e) ∙ full
          ]

      -- The whole block.
      all_block : (xs ys : List ℕ)
          → ((o s : Here) → fifo_go meaning graph (times (all_firings (parts.share v)) v []) old
          ≡ FifoWent o → Agree parts meaning graph (raised rounds v) o s → Follows xs ys o s)
          → Follows (times (all_firings (parts.share v)) v xs)
          (parts.name v 0 ∷ copies parts v 0 ways (parts.name v (suc ways) ∷ ys)) old now
      unfolding fifo_go
      all_block xs ys rest =
          let ready = scatter_ready meaning graph new parts is v split rounds old now agree enough
          in
          let scatter = scatters meaning graph new parts is v split rounds old now agree enough in
          follow_new (times (all_firings (parts.share v)) v xs) (parts.name v 0)
          (copies parts v 0 ways (parts.name v (suc ways) ∷ ys)) old now _ ready
          (goes meaning new now (parts.name v 0) scatter.state scatter.pushes [] ready
          scatter.gives)
          (copies_loop ways 0 (λ i. 0) old _ xs (parts.name v (suc ways) ∷ ys) (omega arith)
          (λ l less. absurd (omega arith)) (λ l less. refl)
          (subst (λ (n : ℕ). OldFired n old) (let e : 0 ≡ 0 * firings = omega arith in e)
          (none_fired meaning graph (parts.share v) v (is.split v split).filter
          (is.split v split).no_loop (is.split v split).narrow old (agree.idle v split).state
          (agree.idle v split).silent enough))
          (scattered meaning graph new parts is v split rounds old now agree enough scatter)
          (λ turns o s full done busy.
          let gather_is_ready = gather_ready meaning graph new parts is v split rounds old now agree
          enough turns s busy full o done in
          let gather = gathers meaning graph new parts is v split rounds old now agree enough turns
          s
          busy full o done in
          follow_new xs (parts.name v (suc ways)) ys o s _ gather_is_ready
          (goes meaning new s (parts.name v (suc ways)) gather.state _ [] gather_is_ready
          gather.gives)
          (rest o _ (done.went []) (gathered meaning graph new parts is v split rounds old now agree
          enough turns s busy full o done gather))))

module _ {Code State Cause Word : Type 0} (meaning : Meaning Code State Cause Word)
    (graph new : Graph Code) (parts : Parts) (is : IsSplitGraph parts meaning graph new) where
  -- A whole round.
  pub round_follows : (blocks : List Block) (rounds : ℕ → ℕ) (old now : Fifo State Cause Word)
      → AreBlocks parts blocks → AreFed parts meaning graph blocks old
      → Agree parts meaning graph rounds old now
      → Follows meaning graph new parts is (rounds_after parts rounds blocks)
      (old_order parts blocks) (new_order parts blocks) old now
  unfolding fifo_go
  round_follows [] rounds old now are fed agree = (agree, tt)
  round_follows (One u ∷ rest) rounds old now are fed agree =
      one_by meaning graph new parts is (rounds_after parts rounds rest) rounds old now agree u
      are.0 (old_order parts rest) (new_order parts rest) fed.0
      (λ o s went agrees. round_follows rest rounds o s are.1 (fed.1 o went) agrees)
      (outcome meaning graph old u) refl
  round_follows (All v ∷ rest) rounds old now are fed agree =
      all_block meaning graph new parts is (rounds_after parts (raised rounds v) rest) v are.0
      rounds old now agree fed.0 (old_order parts rest) (new_order parts rest)
      (λ o s went agrees. round_follows rest (raised rounds v) o s are.1 (fed.1 o went) agrees)
