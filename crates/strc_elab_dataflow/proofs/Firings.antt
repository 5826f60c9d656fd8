-- A stateless node's firings of one round, one after another.
use Rattle.std.proofs.Common.{◌≡◌, refl, sym, ap, ◌∙◌, ℕ, zero, suc, ◌+◌, ◌*◌, ◌<◌, ◌≤◌}
use Rattle.std.proofs.Common.{Bool, true, false, cond, eqb, ℤ, List, [], ◌∷◌, ◌++◌, length, take}
use Rattle.std.proofs.Common.{drop, arith, append_assoc, append-nil, length-drop, drop-drop}
use Rattle.std.proofs.lemmas.List.{length-take-le}
use Rattle.std.proofs.lemmas.Bool.{ne_eqb, eqb-true, eqb-false, cases_lt}
use mathlib.Core.Logic.{inl, inr}
use Rattle.strc_elab_dataflow.specs.Node.{ByPort, Fired, Fired.Fires, Meaning, at_port_0}
use Rattle.strc_elab_dataflow.specs.Flat.{Origin, Origin.Nowhere, Origin.Input, Origin.Port, Graph}
use Rattle.strc_elab_dataflow.specs.Queues.{Fifo, added, fifo_go, fifo_then}
use Rattle.strc_elab_dataflow.specs.Split.{Share, all_firings, reach, IsStateless}
use Rattle.strc_elab_dataflow.specs.Blocks.{times}
use Rattle.strc_elab_dataflow.proofs.Diamond.{IsReadyNow, outcome}
use Rattle.strc_elab_dataflow.proofs.RoundsSteps.{one_ready, one_front, added_other, next, goes}
use Rattle.strc_elab_dataflow.proofs.RoundsSteps.{run_other, queue_other, queue_here, fired_here}
use Rattle.strc_elab_dataflow.proofs.RoundsSteps.{state_here}
use Rattle.strc_elab_dataflow.proofs.RoundsSteps.{words_here}
use Rattle.strc_elab_dataflow.proofs.Outputs.{fits, pushed_of, outs}

-- Lists at port 0, one after the other, on a channel.
added_twice : (v : ℕ) (xs : List ℤ) (pushes : ByPort) (origin : Origin)
    → pushes ≡ at_port_0 (pushes 0)
    → added v (at_port_0 xs) origin ++ added v pushes origin
    ≡ added v (at_port_0 (xs ++ pushes 0)) origin
unfolding added at_port_0
added_twice v xs pushes Nowhere e = refl
added_twice v xs pushes Input e = refl
added_twice v xs pushes (Port s q) e =
    ap (λ (p : ByPort). cond (eqb s v) (at_port_0 xs q) [] ++ cond (eqb s v) (p q) []) e
    ∙ by_test (eqb s v) q
  where
    by_test : (t : Bool) (port : ℕ)
        → cond t (at_port_0 xs port) [] ++ cond t (at_port_0 (pushes 0) port) []
        ≡ cond t (at_port_0 (xs ++ pushes 0) port) []
    by_test true zero = refl
    by_test true (suc port) = refl
    by_test false port = refl

added_none : (v : ℕ) (origin : Origin) → added v (at_port_0 []) origin ≡ []
unfolding added at_port_0
added_none v Nowhere = refl
added_none v Input = refl
added_none v (Port s q) = by_test (eqb s v) q
  where
    by_test : (t : Bool) (port : ℕ) → cond t (at_port_0 [] port) [] ≡ []
    by_test true zero = refl
    by_test true (suc port) = refl
    by_test false port = refl

-- A node that doesn't feed itself.
pub own_added : (v : ℕ) (pushes : ByPort) (origin : Origin)
    → ((port : ℕ) → origin ≡ Port v port → ⊥) → added v pushes origin ≡ []
unfolding added
own_added v pushes Nowhere no_loop = refl
own_added v pushes Input no_loop = refl
own_added v pushes (Port s q) no_loop = added_other v s q pushes
    (ne_eqb s v (λ e. no_loop q (ap (λ (x : ℕ). Port x q) e)))

times_snoc : (n node : ℕ) (later : List ℕ) → times n node (node ∷ later) ≡ times (suc n) node later
times_snoc zero node later = refl
times_snoc (suc n) node later = ap (λ (l : List ℕ). node ∷ l) (times_snoc n node later)

module _ {Code State Cause Word : Type 0} (meaning : Meaning Code State Cause Word)
    (graph : Graph Code) (share : Share) (v : ℕ)
    (filter : IsStateless meaning share (graph.code v))
    (no_loop : (port : ℕ) → (graph.source v 0).origin ≡ Port v port → ⊥)
    (narrow : share.pop ≤ share.window) (old : Fifo State Cause Word)
    (still : (old.runs v).state ≡ meaning.start (graph.code v))
    (wrote_none : (old.runs v).words ≡ [])
    (enough : reach share (all_firings share) ≤ length (old.queues v 0)) where
  -- What firing t of the round sees and gives.
  abbrev pub sees : ℕ → ByPort
  sees t = at_port_0 (take share.window (drop (t * share.pop) (old.queues v 0)))

  unfoldable pub gives : ℕ → Fired State Cause Word
  gives t = meaning.fire (graph.code v) 0 (meaning.start (graph.code v)) (sees t)

  -- After t firings, none of which faulted.
  pub record HasFired (t : ℕ) (now : Fifo State Cause Word) : Type 0 where
    pub others : (w : ℕ) → eqb w v ≡ false → now.runs w ≡ old.runs w
    pub fired : (now.runs v).fired ≡ (old.runs v).fired + t
    pub state : (now.runs v).state ≡ meaning.start (graph.code v)
    pub silent : (now.runs v).words ≡ []
    pub queue : now.queues v 0 ≡ drop (t * share.pop) (old.queues v 0)
    pub other_queues : (w port : ℕ) → eqb w v ≡ false → now.queues w port ≡ old.queues w port
        ++ added v (at_port_0 (outs gives 0 t)) (graph.source w port).origin
    pub sizes : (n : ℕ) → n < t → length (pushed_of (gives n)) ≡ share.push
    pub went : (later : List ℕ) → fifo_go meaning graph (times t v later) old
        ≡ fifo_go meaning graph later now

  pub none_fired : HasFired 0 old
  unfolding outs
  none_fired = record {
    others = λ w apart. refl;
    fired = omega arith;
    state = still;
    silent = wrote_none;
    queue = ap (λ (k : ℕ). drop k (old.queues v 0))
        (let e : 0 ≡ 0 * share.pop = omega arith in e);
    other_queues = λ w port apart. sym (
        ap (λ (l : List ℤ). old.queues w port ++ l) (added_none v (graph.source w port).origin)
        ∙ append-nil (old.queues w port));
    sizes = λ n less. absurd (omega arith);
    went = λ later. refl;
  }

  window_length : (t : ℕ) → t < all_firings share
      → length (take share.window (drop (t * share.pop) (old.queues v 0))) ≡ share.window
  window_length t less = length-take-le share.window (drop (t * share.pop) (old.queues v 0))
      (omega (
        arith,
        fits share narrow t (all_firings share) less,
        enough,
        length-drop (t * share.pop) (old.queues v 0),
      ))

  pub old_ready : (t : ℕ) (now : Fifo State Cause Word) → HasFired t now
      → t < all_firings share → IsReadyNow meaning graph now v
  old_ready t now so_far less = one_ready meaning graph now v filter.one_port (omega (
    arith,
    filter.windows (now.runs v).fired,
    fits share narrow t (all_firings share) less,
    enough,
    ap length so_far.queue,
    length-drop (t * share.pop) (old.queues v 0),
  ))

  pub old_outcome : (t : ℕ) (now : Fifo State Cause Word) → HasFired t now
      → outcome meaning graph now v ≡ gives t
  unfolding outcome gives
  old_outcome t now so_far =
      ap (meaning.fire (graph.code v) (now.runs v).fired (now.runs v).state)
      (one_front meaning graph now v filter.one_port share.window
      (filter.windows (now.runs v).fired)
      ∙ ap (λ (l : List ℤ). at_port_0 (take share.window l)) so_far.queue)
      ∙ ap (λ (s : State). meaning.fire (graph.code v) (now.runs v).fired s (sees t)) so_far.state
      ∙ filter.same (now.runs v).fired 0 (sees t)

  -- What a firing that doesn't fault leaves.
  pub given : (t : ℕ) → t < all_firings share → (s : State) (p : ByPort) (w : List Word)
      → gives t ≡ Fires s p w
      → (s ≡ meaning.start (graph.code v)) × (w ≡ []) × (length (p 0) ≡ share.push)
      × (p ≡ at_port_0 (p 0))
  unfolding gives at_port_0
  given t less s p w e = filter.stays 0 (sees t) s p w (window_length t less) e

  pub pushed_is : (t : ℕ) (s : State) (p : ByPort) (w : List Word) → gives t ≡ Fires s p w
      → pushed_of (gives t) ≡ p 0
  unfolding pushed_of
  pushed_is t s p w e = ap pushed_of e

  pub fires_more : (t : ℕ) (now : Fifo State Cause Word) → HasFired t now
      → t < all_firings share → (s : State) (p : ByPort) (w : List Word) → gives t ≡ Fires s p w
      → HasFired (suc t) (next meaning graph now v s p w)
  unfolding outs fifo_go fifo_then
  fires_more t now so_far less s p w e =
      let is = given t less s p w e in record {
        others = λ u apart. run_other meaning graph now v s p w u apart ∙ so_far.others u apart;
        fired = omega (arith, fired_here meaning graph now v s p w, so_far.fired);
        state = state_here meaning graph now v s p w ∙ is.0;
        silent = words_here meaning graph now v s p w
            ∙ ap (λ (l : List Word). l ++ w) so_far.silent ∙ is.1;
        queue = queue_here meaning graph now v s p w 0
            ∙ ap (λ (k : ℕ). drop k (now.queues v 0) ++ added v p (graph.source v 0).origin)
            (filter.pops (now.runs v).fired)
            ∙ ap (λ (l : List ℤ). drop share.pop (now.queues v 0) ++ l)
            (own_added v p (graph.source v 0).origin no_loop)
            ∙ append-nil (drop share.pop (now.queues v 0))
            ∙ ap (drop share.pop) so_far.queue
            ∙ drop-drop share.pop (t * share.pop) (old.queues v 0)
            ∙ ap (λ (k : ℕ). drop k (old.queues v 0))
            (let f : t * share.pop + share.pop ≡ suc t * share.pop = omega arith in f);
        other_queues = λ u port apart.
            queue_other meaning graph now v s p w u port apart
            ∙ ap (λ (l : List ℤ). l ++ added v p (graph.source u port).origin)
            (so_far.other_queues u port apart)
            ∙ append_assoc (old.queues u port)
            (added v (at_port_0 (outs gives 0 t)) (graph.source u port).origin)
            (added v p (graph.source u port).origin)
            ∙ ap (λ (l : List ℤ). old.queues u port ++ l)
            (added_twice v (outs gives 0 t) p (graph.source u port).origin is.3)
            ∙ ap (λ (l : List ℤ). old.queues u port
            ++ added v (at_port_0 (outs gives 0 t ++ l)) (graph.source u port).origin)
            (sym (pushed_is t s p w e)
            ∙ ap (λ (k : ℕ). pushed_of (gives k)) (let f : t ≡ 0 + t = omega arith in f));
        sizes = λ n below. size_by n below (eqb n t) refl;
        went = λ later. ap (λ (l : List ℕ). fifo_go meaning graph l old)
            (sym (times_snoc t v later))
            ∙ so_far.went (v ∷ later)
            ∙ ap (fifo_then (fifo_go meaning graph later))
            (goes meaning graph now v s p w (old_ready t now so_far less)
            (old_outcome t now so_far ∙ e));
      }
    where
      le_lt : (n : ℕ) → n < suc t → (n ≡ t → ⊥) → n < t
      le_lt n below differ = elim (cases_lt n t) [
        | inl lower ↦ lower
        | inr not_lower ↦ absurd (differ (omega arith))
      ]

      size_by : (n : ℕ) → n < suc t → (same : Bool) → eqb n t ≡ same
          → length (pushed_of (gives n)) ≡ share.push
      size_by n below true same =
          ap (λ (k : ℕ). length (pushed_of (gives k))) (eqb-true n t same)
          ∙ ap length (pushed_is t s p w e) ∙ (given t less s p w e).2
      size_by n below false same = so_far.sizes n (le_lt n below (eqb-false n t same))
