-- A firing that can be done at once moves to the front of a valid order; so two valid orders of the
-- same firings come to the same.
use Rattle.std.proofs.Common.{◌≡◌, refl, sym, ap, ◌∙◌, subst, ℕ}
use Rattle.std.proofs.Common.{false, eqb, List, [], ◌∷◌, ◌++◌, arith}
use Rattle.std.proofs.Common.{Option}
use Rattle.std.proofs.lemmas.Bool.{ne_eqb}
use Rattle.strc_elab_dataflow.specs.Node.{ByPort, Fired, Fired.Fires, Fired.Faults, Meaning}
use Rattle.strc_elab_dataflow.specs.Flat.{Graph}
use Rattle.strc_elab_dataflow.specs.Order.{firing_count}
use Rattle.strc_elab_dataflow.specs.Queues.{Fifo, FifoProgress, FifoProgress.FifoWent}
use Rattle.strc_elab_dataflow.specs.Queues.{FifoProgress.FifoStopped, fifo_fire, fifo_go}
use Rattle.strc_elab_dataflow.specs.Queues.{fifo_after, fifo_then, TakesWithinWindow}
use Rattle.strc_elab_dataflow.specs.Same.{gone, IsValid, IsWired}
use Rattle.strc_elab_dataflow.proofs.Counts.{count_here, count_front, count_append, count_none}
use Rattle.strc_elab_dataflow.proofs.Counts.{IsCutAt, cut_at}
use Rattle.strc_elab_dataflow.proofs.Diamond.{IsReadyNow, outcome, next_of, fires, then}
use Rattle.strc_elab_dataflow.proofs.Diamond.{holds_kept, fires_still, states_swap, apart_other}

module _ {Code State Cause Word : Type 0} (meaning : Meaning Code State Cause Word)
    (graph : Graph Code) (within : TakesWithinWindow meaning graph)
    (wired : IsWired meaning graph) where
  abbrev Now : Type 0
  Now = Fifo State Cause Word

  went_is : (a b : Now) → ◌≡◌ {A = FifoProgress State Cause Word} (FifoWent a) (FifoWent b)
      → a ≡ b
  went_is a b e = cc

  stops : (now : Now) (b : ℕ) (cause : Cause) (next : Now)
      → fifo_after meaning graph now b (Faults cause) ≡ FifoWent next → ⊥
  unfolding fifo_after
  stops now b cause next e = grind arith

  -- What is left to do after a firing.
  abbrev on : List ℕ → FifoProgress State Cause Word → Option Now
  on order progress = gone (fifo_then (fifo_go meaning graph order) progress)

  -- The node's firing may come first: what follows is then still valid, and comes to the same.
  record IsFront (node : ℕ) (whole rest : List ℕ) (now : Now) : Type 0 where
    same : gone (fifo_go meaning graph whole now) ≡ on rest (fifo_fire meaning graph now node)
    valid : (next : Now) → fifo_fire meaning graph now node ≡ FifoWent next
        → IsValid meaning graph rest next

  -- The first node of an order, and one that goes before it.
  module _ (now : Now) (a b : ℕ) (apart : eqb a b ≡ false)
      (ready_a : IsReadyNow meaning graph now a) (ready_b : IsReadyNow meaning graph now b)
      (before after : List ℕ) where
    abbrev order : List ℕ
    order = before ++ (a ∷ after)

    abbrev rest : List ℕ
    rest = before ++ after

    Later : Type 0
    Later = (next : Now) → fifo_fire meaning graph now b ≡ FifoWent next
        → IsReadyNow meaning graph next a → IsFront a order rest next

    -- After a's firing, b's is as it was.
    b_after : (s : State) (p : ByPort) (w : List Word)
        → fifo_fire meaning graph (next_of meaning graph now a s p w) b
        ≡ fifo_after meaning graph (next_of meaning graph now a s p w) b
        (outcome meaning graph now b)
    unfolding then
    b_after s p w = fires_still meaning graph now b a (apart_other a b apart) s p w ready_b

    b_ready : (s : State) (p : ByPort) (w : List Word)
        → IsReadyNow meaning graph (next_of meaning graph now a s p w) b
    unfolding then
    b_ready s p w = holds_kept meaning graph now b a (apart_other a b apart) s p w ready_b

    a_after : (s : State) (p : ByPort) (w : List Word)
        → fifo_fire meaning graph (next_of meaning graph now b s p w) a
        ≡ fifo_after meaning graph (next_of meaning graph now b s p w) a
        (outcome meaning graph now a)
    unfolding then
    a_after s p w = fires_still meaning graph now a b apart s p w ready_a

    a_ready : (s : State) (p : ByPort) (w : List Word)
        → IsReadyNow meaning graph (next_of meaning graph now b s p w) a
    unfolding then
    a_ready s p w = holds_kept meaning graph now a b apart s p w ready_a

    -- By what a and b give.
    abbrev Fire : ℕ → Fired State Cause Word → FifoProgress State Cause Word
    Fire node gives = fifo_after meaning graph now node gives

    front_by : (gives_a gives_b : Fired State Cause Word)
        → outcome meaning graph now a ≡ gives_a → outcome meaning graph now b ≡ gives_b
        → ((next : Now) → Fire b gives_b ≡ FifoWent next
        → IsReadyNow meaning graph next a → IsFront a order rest next)
        → (on order (Fire b gives_b) ≡ on (b ∷ rest) (Fire a gives_a))
        × ((next : Now) → Fire a gives_a ≡ FifoWent next
        → IsValid meaning graph (b ∷ rest) next)
    unfolding fifo_after fifo_then fifo_go gone next_of
    front_by (Faults ca) (Faults cb) is_a is_b later =
        (refl, λ next e. absurd (grind arith))
    front_by (Faults ca) (Fires sb pb wb) is_a is_b later =
        let front = later (next_of meaning graph now b sb pb wb) refl (a_ready sb pb wb) in (
          front.same ∙ ap (on rest) (a_after sb pb wb)
              ∙ ap (λ g. on rest (fifo_after meaning graph
              (next_of meaning graph now b sb pb wb) a g)) is_a,
          λ next e. absurd (grind arith),
        )
    front_by (Fires sa pa wa) (Faults cb) is_a is_b later = (
      sym (ap (on rest) (b_after sa pa wa)
          ∙ ap (λ g. on rest (fifo_after meaning graph
          (next_of meaning graph now a sa pa wa) b g)) is_b),
      λ next e. subst (IsValid meaning graph (b ∷ rest)) (went_is _ next e) (
        b_ready sa pa wa,
        λ n f. absurd (stops (next_of meaning graph now a sa pa wa) b cb n (sym (b_after sa pa wa
            ∙ ap (fifo_after meaning graph (next_of meaning graph now a sa pa wa) b) is_b)
            ∙ f)),
      ),
    )
    front_by (Fires sa pa wa) (Fires sb pb wb) is_a is_b later =
        let front = later (next_of meaning graph now b sb pb wb) refl (a_ready sb pb wb) in
        let ba : fifo_fire meaning graph (next_of meaning graph now b sb pb wb) a
        ≡ FifoWent (next_of meaning graph (next_of meaning graph now b sb pb wb) a sa pa wa) =
        a_after sb pb wb
        ∙ ap (fifo_after meaning graph (next_of meaning graph now b sb pb wb) a) is_a in
        let ab : fifo_fire meaning graph (next_of meaning graph now a sa pa wa) b
        ≡ FifoWent (next_of meaning graph (next_of meaning graph now a sa pa wa) b sb pb wb) =
        b_after sa pa wa
        ∙ ap (fifo_after meaning graph (next_of meaning graph now a sa pa wa) b) is_b in
        let swap : next_of meaning graph (next_of meaning graph now b sb pb wb) a sa pa wa
        ≡ next_of meaning graph (next_of meaning graph now a sa pa wa) b sb pb wb =
        states_swap meaning graph within wired now a b apart ready_a ready_b sa sb pa pb wa
        wb in (
          front.same ∙ ap (on rest) (ba ∙ ap FifoWent swap ∙ sym ab),
          λ next e. subst (IsValid meaning graph (b ∷ rest)) (went_is _ next e)
              (b_ready sa pa wa, λ n f. front.valid n (ba ∙ ap FifoWent swap ∙ sym ab ∙ f)),
        )

  -- A node that can fire at once, and isn't in what comes before, moves to the front.
  bubble : (a : ℕ) (before after : List ℕ) (now : Now) → firing_count before a ≡ 0
      → IsReadyNow meaning graph now a → IsValid meaning graph (before ++ (a ∷ after)) now
      → IsFront a (before ++ (a ∷ after)) (before ++ after) now
  unfolding fifo_go
  bubble a [] after now away ready valid = record { same = refl; valid = valid.1 }
  bubble a (b ∷ before) after now away ready valid =
      let apart : eqb a b ≡ false = ne_eqb a b (λ e. omega (
        arith,
        subst (λ (v : ℕ). firing_count (v ∷ before) a ≡ 0) (sym e) away,
        count_here a before,
      )) in
      let rest_away : firing_count before a ≡ 0 = omega (arith, count_front b a before, away) in
      let front = front_by now a b apart ready valid.0 before after
      (outcome meaning graph now a) (outcome meaning graph now b) refl refl
      (λ next e still. bubble a before after next rest_away still
      (valid.1 next (fires meaning graph now b valid.0 ∙ e))) in
      record {
        same = ap (on (before ++ (a ∷ after))) (fires meaning graph now b valid.0) ∙ front.0
            ∙ ap (on (b ∷ (before ++ after))) (sym (fires meaning graph now a ready));
        valid = λ next e. front.1 next (sym (fires meaning graph now a ready) ∙ e);
      }

  same_counts : (a : ℕ) (order before after : List ℕ)
      → ((v : ℕ) → firing_count (a ∷ order) v ≡ firing_count (before ++ (a ∷ after)) v)
      → (v : ℕ) → firing_count order v ≡ firing_count (before ++ after) v
  same_counts a order before after same v = omega (
    arith,
    same v,
    count_front a v order,
    count_append before (a ∷ after) v,
    count_append before after v,
    count_front a v after,
  )

  after_same : (first other : List ℕ) (progress : FifoProgress State Cause Word)
      → ((next : Now) → progress ≡ FifoWent next
      → gone (fifo_go meaning graph first next) ≡ gone (fifo_go meaning graph other next))
      → on first progress ≡ on other progress
  unfolding fifo_then gone
  after_same first other (FifoWent next) same = same next refl
  after_same first other (FifoStopped stop) same = refl

  pub same_round : (order other : List ℕ) (now : Now)
      → ((v : ℕ) → firing_count order v ≡ firing_count other v)
      → IsValid meaning graph order now → IsValid meaning graph other now
      → gone (fifo_go meaning graph order now) ≡ gone (fifo_go meaning graph other now)
  unfolding fifo_go
  same_round [] [] now same valid other_valid = refl
  same_round [] (b ∷ other) now same valid other_valid =
      absurd (omega (arith, same b, count_none b, count_here b other))
  same_round (a ∷ order) other now same valid other_valid =
      let cut : IsCutAt a other =
      cut_at a other (omega (arith, same a, count_here a order)) in
      let front = bubble a cut.before cut.after now cut.away valid.0
      (subst (λ (l : List ℕ). IsValid meaning graph l now) cut.is other_valid) in
      after_same order (cut.before ++ cut.after) (fifo_fire meaning graph now a)
      (λ next e. same_round order (cut.before ++ cut.after) next
      (same_counts a order cut.before cut.after (λ v. same v
      ∙ ap (λ (l : List ℕ). firing_count l v) cut.is))
      (valid.1 next e) (front.valid next e))
      ∙ sym front.same
      ∙ ap (λ (l : List ℕ). gone (fifo_go meaning graph l now)) (sym cut.is)
