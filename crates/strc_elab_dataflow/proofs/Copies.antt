-- A round of a node's scatter, copies and gather, firing by firing.
use Rattle.std.proofs.Common.{◌≡◌, refl, sym, ap, ◌∙◌, subst, ℕ, zero, suc, ◌+◌, ◌-◌, ◌*◌, ◌<◌, ◌≤◌}
use Rattle.std.proofs.Common.{Bool, true, false, cond, eqb, leb, ltb, ℤ, List, [], ◌++◌, length}
use Rattle.std.proofs.Common.{take, drop, arith, append-nil, length-drop, drop-drop, eqb-true}
use Rattle.std.proofs.Common.{le-leb}
use mathlib.Core.Logic.{inl, inr}
use Rattle.std.proofs.lemmas.List.{length-take-le, take_all, drop_all}
use Rattle.std.proofs.lemmas.Bool.{eqb-false, cases_lt, lt-ltb, le-ltb}
use Rattle.strc_elab_dataflow.specs.Node.{ByPort, Fired, Fired.Fires, Meaning, at_port_0}
use Rattle.strc_elab_dataflow.specs.Histories.{Run}
use Rattle.strc_elab_dataflow.specs.Flat.{Origin, Origin.Port, Graph}
use Rattle.strc_elab_dataflow.specs.Order.{raised}
use Rattle.strc_elab_dataflow.specs.Queues.{Fifo, added, fronts, holds}
use Rattle.strc_elab_dataflow.proofs.Runs.{all_from_each}
use Rattle.strc_elab_dataflow.specs.Split.{Share, all_firings, reach}
use Rattle.strc_elab_dataflow.specs.Split.{Parts, outlet, renamed, AreParts, IsSplitGraph}
use Rattle.strc_elab_dataflow.specs.Split.{IsIdleCopy, AreIdle, Agree}
use Rattle.strc_elab_dataflow.proofs.Diamond.{IsReadyNow, outcome}
use Rattle.strc_elab_dataflow.proofs.RoundsSteps.{window_inside, added_other, added_here, one_ready}
use Rattle.strc_elab_dataflow.proofs.RoundsSteps.{one_front}
use Rattle.strc_elab_dataflow.proofs.RoundsSteps.{next, run_other, queue_other, queue_here}
use Rattle.strc_elab_dataflow.proofs.RoundsSteps.{fired_here}
use Rattle.strc_elab_dataflow.proofs.RoundsSteps.{state_here, words_here}
use Rattle.strc_elab_dataflow.proofs.RoundsParts.{outlet_split, not_same, names_apart, nodes_apart}
use Rattle.strc_elab_dataflow.proofs.RoundsParts.{quiet, renamed_added, idle_frame, idle_same}
use Rattle.strc_elab_dataflow.proofs.Outputs.{fits, part_fits, place_fits, outs, outs_length}
use Rattle.strc_elab_dataflow.proofs.Outputs.{joined_outs}
use Rattle.strc_elab_dataflow.proofs.Firings.{gives, HasFired, own_added, given, pushed_is}

module _ {Code State Cause Word : Type 0} (meaning : Meaning Code State Cause Word)
    (graph new : Graph Code) (parts : Parts) (is : IsSplitGraph parts meaning graph new)
    (v : ℕ) (split : parts.is_split v ≡ true) (rounds : ℕ → ℕ) (old now : Fifo State Cause Word)
    (agree : Agree parts meaning graph rounds old now)
    (enough : reach (parts.share v) (all_firings (parts.share v)) ≤ length (old.queues v 0)) where
  abbrev Here : Type 0
  Here = Fifo State Cause Word

  abbrev pub share : Share
  share = parts.share v

  abbrev pub here : AreParts parts meaning graph new v (parts.share v)
  here = is.split v split

  abbrev pub idle : AreIdle parts meaning graph old now (rounds v) v
  idle = agree.idle v split

  abbrev pub part : ℕ → ℕ
  part = parts.name v

  abbrev pub result : ℕ → Fired State Cause Word
  result = gives meaning graph (parts.share v) v here.filter here.no_loop here.narrow old idle.state
      idle.silent enough

  abbrev pub Fired' : ℕ → Here → Type 0
  Fired' = HasFired meaning graph (parts.share v) v here.filter here.no_loop here.narrow old
      idle.state idle.silent enough

  -- The items dealt to copy i, and what is left of them after j firings; the last drops the rest.
  unfoldable pub dealt_to : ℕ → List ℤ
  dealt_to i = take (reach share share.firings)
      (drop (i * share.firings * share.pop) (old.queues v 0))

  unfoldable pub left_of : ℕ → ℕ → List ℤ
  left_of i j = cond (ltb j share.firings) (drop (j * share.pop) (dealt_to i)) []

  -- Copy i has done so many firings of this round.
  pub record HasTurned (s : Here) (i j : ℕ) : Type 0 where
    pub fired : (s.runs (part (suc i))).fired ≡ rounds v * share.firings + j
    pub state : (s.runs (part (suc i))).state ≡ meaning.start (graph.code v)
    pub silent : (s.runs (part (suc i))).words ≡ []
    pub left : s.queues (part (suc i)) 0 ≡ left_of i j
    pub held : s.queues (part (suc share.ways)) i ≡ outs result (i * share.firings) j

  -- The other nodes are as they were, and the copies have done these numbers of firings.
  pub record AreBusy (turns : ℕ → ℕ) (s : Here) : Type 0 where
    pub queues : (w port : ℕ) → eqb w v ≡ false → port < meaning.ports (graph.code w)
        → s.queues (parts.name w 0) port ≡ old.queues w port
    pub kept : (w : ℕ) → parts.is_split w ≡ false → s.runs (parts.name w 0) ≡ old.runs w
    pub others : (w : ℕ) → eqb w v ≡ false → parts.is_split w ≡ true
        → AreIdle parts meaning graph old s (rounds w) w
    pub scatter_queue : s.queues (part 0) 0
        ≡ drop (all_firings share * share.pop) (old.queues v 0)
    pub scatter_silent : (s.runs (part 0)).words ≡ []
    pub gather_silent : (s.runs (part (suc share.ways))).words ≡ []
    pub copy : (i : ℕ) → i < share.ways → HasTurned s i (turns i)

  last : outlet parts v ≡ suc share.ways
  last = outlet_split parts v split

  -- Parts of this node, and those of others.
  parts_apart : (k l : ℕ) → k ≤ suc share.ways → l ≤ suc share.ways → (k ≡ l → ⊥)
      → eqb (part k) (part l) ≡ false
  parts_apart k l k_less l_less differ = names_apart parts meaning graph new is v k v l
      (omega (arith, last, k_less)) (omega (arith, last, l_less)) (λ e f. differ f)

  others_apart : (w k l : ℕ) → k ≤ outlet parts w → l ≤ suc share.ways → eqb w v ≡ false
      → eqb (parts.name w k) (part l) ≡ false
  others_apart w k l k_less l_less apart = nodes_apart parts meaning graph new is w k v l
      k_less (omega (arith, last, l_less)) apart

  -- What a firing of one of its parts leaves as it was: the other nodes, if it isn't the gather.
  module _ (s : Here) (k : ℕ) (within : k ≤ suc share.ways) (state : State) (pushes : ByPort)
      (words : List Word) where
    abbrev after : Here
    after = next meaning new s (part k) state pushes words

    quiet_here : k < suc share.ways → (origin : Origin)
        → added (part k) pushes (renamed parts origin) ≡ []
    quiet_here inner origin = quiet parts meaning graph new is v k (omega
        (arith, last, inner)) pushes
        origin

    frame_queue : k < suc share.ways → (w port : ℕ) → eqb (parts.name w 0) (part k) ≡ false
        → port < meaning.ports (graph.code w)
        → after.queues (parts.name w 0) port ≡ s.queues (parts.name w 0) port
    frame_queue inner w port apart less =
        queue_other meaning new s (part k) state pushes words (parts.name w 0) port apart
        ∙ ap (λ (o : Origin). s.queues (parts.name w 0) port ++ added (part k) pushes o)
        (is.inputs w port less)
        ∙ ap (λ (l : List ℤ). s.queues (parts.name w 0) port ++ l)
        (quiet_here inner (graph.source w port).origin)
        ∙ append-nil (s.queues (parts.name w 0) port)

    frame_kept : (w : ℕ) → parts.is_split w ≡ false
        → after.runs (parts.name w 0) ≡ s.runs (parts.name w 0)
    frame_kept w kept = run_other meaning new s (part k) state pushes words (parts.name w 0)
        (others_apart w 0 k (omega arith) (omega arith) (not_same parts w v kept split))

    frame_idle : (w : ℕ) → eqb w v ≡ false → parts.is_split w ≡ true
        → AreIdle parts meaning graph old s (rounds w) w
        → AreIdle parts meaning graph old after (rounds w) w
    frame_idle w apart w_split is_idle = idle_frame parts meaning graph new is old s (rounds w) w
        w_split (part k) (λ l less. others_apart w l k less (omega arith) apart) state pushes words
        is_idle

    -- What comes to a part of its own.
    inner_queue : (l port m q : ℕ) → l ≤ suc share.ways → m ≤ suc share.ways → (l ≡ k → ⊥)
        → (m ≡ k → ⊥) → (new.source (part l) port).origin ≡ Port (part m) q
        → after.queues (part l) port ≡ s.queues (part l) port
    inner_queue l port m q l_less m_less l_differs m_differs e =
        queue_other meaning new s (part k) state pushes words (part l) port
        (parts_apart l k l_less (omega arith) l_differs)
        ∙ ap (λ (o : Origin). s.queues (part l) port ++ added (part k) pushes o) e
        ∙ ap (λ (more : List ℤ). s.queues (part l) port ++ more)
        (added_other (part k) (part m) q pushes
        (parts_apart m k m_less (omega arith) m_differs))
        ∙ append-nil (s.queues (part l) port)

    -- What comes from the part that fires.
    fed_queue : (l port q : ℕ) → l ≤ suc share.ways → (l ≡ k → ⊥)
        → (new.source (part l) port).origin ≡ Port (part k) q
        → after.queues (part l) port ≡ s.queues (part l) port ++ pushes q
    fed_queue l port q l_less l_differs e =
        queue_other meaning new s (part k) state pushes words (part l) port
        (parts_apart l k l_less (omega arith) l_differs)
        ∙ ap (λ (o : Origin). s.queues (part l) port ++ added (part k) pushes o) e
        ∙ ap (λ (more : List ℤ). s.queues (part l) port ++ more)
        (added_here (part k) q pushes)

    inner_run : (l : ℕ) → l ≤ suc share.ways → (l ≡ k → ⊥)
        → after.runs (part l) ≡ s.runs (part l)
    inner_run l l_less differs = run_other meaning new s (part k) state pushes words (part l)
        (parts_apart l k l_less (omega arith) differs)

  -- The scatter.
  scatter_queue_now : now.queues (part 0) 0 ≡ old.queues v 0
  scatter_queue_now = agree.queues v 0 (omega (arith, here.filter.one_port))

  pub scatter_ready : IsReadyNow meaning new now (part 0)
  scatter_ready = one_ready meaning new now (part 0) here.scatter.one_port (omega (
    arith,
    here.scatter.windows (now.runs (part 0)).fired,
    enough,
    ap length scatter_queue_now,
  ))

  scatter_sees : fronts meaning new (part 0) (now.runs (part 0)).fired (now.queues (part 0))
      ≡ at_port_0 (take (reach share (all_firings share)) (old.queues v 0))
  scatter_sees = one_front meaning new now (part 0) here.scatter.one_port
      (reach share (all_firings share)) (here.scatter.windows (now.runs (part 0)).fired)
      ∙ ap (λ (l : List ℤ). at_port_0 (take (reach share (all_firings share)) l)) scatter_queue_now

  -- What a firing of the scatter comes to.
  pub record HasScattered : Type 0 where
    pub state : State
    pub pushes : ByPort
    pub gives : outcome meaning new now (part 0) ≡ Fires state pushes []
    pub deals : (i : ℕ) → i < share.ways → pushes i ≡ dealt_to i

  pub scatters : HasScattered
  unfolding outcome dealt_to at_port_0
  scatters =
      let fired = here.scatter.deals (now.runs (part 0)).fired (now.runs (part 0)).state
      (fronts meaning new (part 0) (now.runs (part 0)).fired (now.queues (part 0))) in
      record {
        state = fired.0;
        pushes = fired.1;
        gives = fired.2;
        deals = λ i less. fired.3 i less
            ∙ ap (λ (inputs : ByPort). take (reach share share.firings)
            (drop (i * share.firings * share.pop) (inputs 0))) scatter_sees
            ∙ window_inside (reach share share.firings) (i * share.firings * share.pop)
            (reach share (all_firings share)) (old.queues v 0) (part_fits share i less);
      }

  pub scattered : (done : HasScattered)
      → AreBusy (λ i. 0) (next meaning new now (part 0) done.state done.pushes [])
  unfolding left_of outs
  scattered done = record {
    queues = λ w port apart less. frame_queue now 0 (omega arith) done.state done.pushes []
        (omega arith) w port (others_apart w 0 0 (omega arith) (omega arith) apart) less
        ∙ agree.queues w port less;
    kept = λ w kept. frame_kept now 0 (omega arith) done.state done.pushes [] w kept
        ∙ agree.kept w kept;
    others = λ w apart w_split. frame_idle now 0 (omega arith) done.state done.pushes [] w apart
        w_split (agree.idle w w_split);
    scatter_queue =
        queue_here meaning new now (part 0) done.state done.pushes [] 0
        ∙ ap (λ (o : Origin). drop (meaning.popped (new.code (part 0))
        (now.runs (part 0)).fired 0) (now.queues (part 0) 0) ++ added (part 0) done.pushes o)
        (is.inputs v 0 (omega (arith, here.filter.one_port)))
        ∙ ap (λ (l : List ℤ). drop (meaning.popped (new.code (part 0))
        (now.runs (part 0)).fired 0) (now.queues (part 0) 0) ++ l)
        (quiet_here now 0 (omega arith) done.state done.pushes [] (omega arith)
        (graph.source v 0).origin)
        ∙ append-nil (drop (meaning.popped (new.code (part 0))
        (now.runs (part 0)).fired 0) (now.queues (part 0) 0))
        ∙ ap (λ (k : ℕ). drop k (now.queues (part 0) 0))
        (here.scatter.pops (now.runs (part 0)).fired)
        ∙ ap (drop (all_firings share * share.pop)) scatter_queue_now;
    scatter_silent = words_here meaning new now (part 0) done.state done.pushes []
        ∙ append-nil (now.runs (part 0)).words ∙ idle.scatter_silent;
    gather_silent = ap (λ (r : Run State Cause Word). r.words)
        (inner_run now 0 (omega arith) done.state done.pushes [] (suc share.ways) (omega arith)
        (λ e. absurd (omega arith))) ∙ idle.gather_silent;
    copy = λ i less.
        let run = inner_run now 0 (omega arith) done.state done.pushes [] (suc i) (omega arith)
        (λ e. absurd (omega arith)) in
        record {
          fired = omega (
            arith,
            ap (λ (r : Run State Cause Word). r.fired) run,
            (idle.copy i less).fired,
          );
          state = ap (λ (r : Run State Cause Word). r.state) run ∙ (idle.copy i less).state;
          silent = ap (λ (r : Run State Cause Word). r.words) run ∙ (idle.copy i less).silent;
          left = fed_queue now 0 (omega arith) done.state done.pushes [] (suc i) 0 i (omega arith)
              (λ e. absurd (omega arith)) (here.to_copy i less)
              ∙ ap (λ (l : List ℤ). l ++ done.pushes i) (idle.copy i less).empty
              ∙ done.deals i less
              ∙ ap (λ (k : ℕ). drop k (dealt_to i))
              (let e : 0 ≡ 0 * share.pop = omega arith in e)
              ∙ sym (ap (λ (t : Bool). cond t (drop (0 * share.pop) (dealt_to i)) [])
              (lt-ltb 0 share.firings here.some_firings));
          held = inner_queue now 0 (omega arith) done.state done.pushes [] (suc share.ways) i
              (suc i) 0 (omega arith) (omega arith) (λ e. absurd (omega arith))
              (λ e. absurd (omega arith)) (here.from_copy i less)
              ∙ (idle.copy i less).passed_on;
        };
  }

  -- Firing j of copy i is the node's firing at that place.
  module _ (turns : ℕ → ℕ) (s : Here) (busy : AreBusy turns s) (i j : ℕ) (less : i < share.ways)
      (turn : turns i ≡ j) (inside : j < share.firings) where
    place : ℕ
    place = i * share.firings + j

    turned : HasTurned s i j
    turned = subst (HasTurned s i) turn (busy.copy i less)

    dealt_length : length (dealt_to i) ≡ reach share share.firings
    unfolding dealt_to
    dealt_length = length-take-le (reach share share.firings)
        (drop (i * share.firings * share.pop) (old.queues v 0)) (omega (
          arith,
          part_fits share i less,
          enough,
          length-drop (i * share.firings * share.pop) (old.queues v 0),
        ))

    left_here : left_of i j ≡ drop (j * share.pop) (dealt_to i)
    unfolding left_of
    left_here = ap (λ (t : Bool). cond t (drop (j * share.pop) (dealt_to i)) [])
        (lt-ltb j share.firings inside)

    pub copy_ready : IsReadyNow meaning new s (part (suc i))
    copy_ready = one_ready meaning new s (part (suc i)) (here.copy i less).one_port (omega (
      arith,
      (here.copy i less).windows (s.runs (part (suc i))).fired,
      ap length (turned.left ∙ left_here),
      length-drop (j * share.pop) (dealt_to i),
      dealt_length,
      fits share here.narrow j share.firings inside,
    ))

    window_same : take share.window (drop (j * share.pop) (dealt_to i))
        ≡ take share.window (drop (place * share.pop) (old.queues v 0))
    unfolding dealt_to place
    window_same =
        window_inside share.window (j * share.pop) (reach share share.firings)
        (drop (i * share.firings * share.pop) (old.queues v 0))
        (fits share here.narrow j share.firings inside)
        ∙ ap (take share.window)
        (drop-drop (j * share.pop) (i * share.firings * share.pop) (old.queues v 0))
        ∙ ap (λ (k : ℕ). take share.window (drop k (old.queues v 0)))
        (let e : i * share.firings * share.pop + j * share.pop
        ≡ (i * share.firings + j) * share.pop = omega arith in e)

    pub copy_outcome : outcome meaning new s (part (suc i)) ≡ result (i * share.firings + j)
    unfolding outcome gives place
    copy_outcome =
        ap (meaning.fire (new.code (part (suc i))) (s.runs (part (suc i))).fired
        (s.runs (part (suc i))).state)
        (one_front meaning new s (part (suc i)) (here.copy i less).one_port share.window
        ((here.copy i less).windows (s.runs (part (suc i))).fired)
        ∙ ap (λ (l : List ℤ). at_port_0 (take share.window l)) (turned.left ∙ left_here)
        ∙ ap at_port_0 window_same)
        ∙ ap (λ (state : State). meaning.fire (new.code (part (suc i)))
        (s.runs (part (suc i))).fired state
        (at_port_0 (take share.window (drop (place * share.pop) (old.queues v 0))))) turned.state
        ∙ (here.copy i less).same (s.runs (part (suc i))).fired
        (at_port_0 (take share.window (drop (place * share.pop) (old.queues v 0))))
        ∙ here.filter.same (s.runs (part (suc i))).fired 0
        (at_port_0 (take share.window (drop (place * share.pop) (old.queues v 0))))

    module _ (state : State) (p : ByPort) (w : List Word)
        (e : result (i * share.firings + j) ≡ Fires state p w) where
      abbrev more : Here
      more = next meaning new s (part (suc i)) state p w

      gives_here : (state ≡ meaning.start (graph.code v)) × (w ≡ []) × (length (p 0) ≡ share.push)
          × (p ≡ at_port_0 (p 0))
      gives_here = given meaning graph share v here.filter here.no_loop here.narrow old idle.state
          idle.silent enough (i * share.firings + j) (place_fits share i j less inside) state p w e

      -- The last firing drops what is left.
      dropped : drop (meaning.popped (new.code (part (suc i))) (rounds v * share.firings + j) 0)
          (drop (j * share.pop) (dealt_to i)) ≡ left_of i (suc j)
      unfolding left_of
      dropped = elim (cases_lt (suc j) share.firings) [
        | inl later ↦
            ap (λ (k : ℕ). drop k (drop (j * share.pop) (dealt_to i)))
            ((here.copy i less).pops (rounds v) j later)
            ∙ drop-drop share.pop (j * share.pop) (dealt_to i)
            ∙ ap (λ (k : ℕ). drop k (dealt_to i))
            (let f : j * share.pop + share.pop ≡ suc j * share.pop = omega arith in f)
            ∙ sym (ap (λ (t : Bool). cond t (drop (suc j * share.pop) (dealt_to i)) [])
            (lt-ltb (suc j) share.firings later))
        | inr at_end ↦
            let f : suc j ≡ share.firings = omega (arith, at_end, inside) in
            ap (λ (k : ℕ). drop k (drop (j * share.pop) (dealt_to i)))
            ((here.copy i less).last_pops (rounds v) j f)
            ∙ drop_all share.window (drop (j * share.pop) (dealt_to i)) (omega (
              arith,
              length-drop (j * share.pop) (dealt_to i),
              dealt_length,
              here.narrow,
              ap (λ (k : ℕ). k * share.pop) f,
            ))
            ∙ sym (ap (λ (t : Bool). cond t (drop (suc j * share.pop) (dealt_to i)) [])
            (le-ltb (suc j) share.firings at_end))
      ]

      own_turn : HasTurned more i (suc j)
      unfolding outs
      own_turn = record {
        fired = omega (arith, fired_here meaning new s (part (suc i)) state p w, turned.fired);
        state = state_here meaning new s (part (suc i)) state p w ∙ gives_here.0;
        silent = words_here meaning new s (part (suc i)) state p w
            ∙ ap (λ (l : List Word). l ++ w) turned.silent ∙ gives_here.1;
        left = queue_here meaning new s (part (suc i)) state p w 0
            ∙ ap (λ (l : List ℤ). drop (meaning.popped (new.code (part (suc i)))
            (s.runs (part (suc i))).fired 0) (s.queues (part (suc i)) 0) ++ l)
            (ap (added (part (suc i)) p) (here.to_copy i less)
            ∙ added_other (part (suc i)) (part 0) i p
            (parts_apart 0 (suc i) (omega arith) (omega (arith, less)) (λ f. absurd (omega arith))))
            ∙ append-nil (drop (meaning.popped (new.code (part (suc i)))
            (s.runs (part (suc i))).fired 0) (s.queues (part (suc i)) 0))
            ∙ ap (drop (meaning.popped (new.code (part (suc i))) (s.runs (part (suc i))).fired 0))
            (turned.left ∙ left_here)
            ∙ ap (λ (n : ℕ). drop (meaning.popped (new.code (part (suc i))) n 0)
            (drop (j * share.pop) (dealt_to i))) turned.fired
            ∙ dropped;
        held = fed_queue s (suc i) (omega (arith, less)) state p w (suc share.ways) i 0
            (omega arith)
            (λ f. absurd (omega (arith, less))) (here.from_copy i less)
            ∙ ap (λ (l : List ℤ). l ++ p 0) turned.held
            ∙ ap (λ (l : List ℤ). outs result (i * share.firings) j ++ l)
            (sym (pushed_is meaning graph share v here.filter here.no_loop here.narrow old
            idle.state idle.silent enough (i * share.firings + j) state p w e));
      }

      other_turn : (l : ℕ) → l < share.ways → (l ≡ i → ⊥) → HasTurned more l (turns l)
      other_turn l l_less differs =
          let run = inner_run s (suc i) (omega (arith, less)) state p w (suc l)
          (omega (arith, l_less)) (λ f. differs (omega arith)) in
          record {
            fired = ap (λ (r : Run State Cause Word). r.fired) run ∙ (busy.copy l l_less).fired;
            state = ap (λ (r : Run State Cause Word). r.state) run ∙ (busy.copy l l_less).state;
            silent = ap (λ (r : Run State Cause Word). r.words) run ∙ (busy.copy l l_less).silent;
            left = inner_queue s (suc i) (omega (arith, less)) state p w (suc l) 0 0 l
                (omega (arith, l_less)) (omega arith) (λ f. differs (omega arith))
                (λ f. absurd (omega arith)) (here.to_copy l l_less)
                ∙ (busy.copy l l_less).left;
            held = inner_queue s (suc i) (omega (arith, less)) state p w (suc share.ways) l
                (suc l) 0 (omega arith) (omega (arith, l_less)) (λ f. absurd (omega (arith, less)))
                (λ f. differs (omega arith)) (here.from_copy l l_less)
                ∙ (busy.copy l l_less).held;
          }

      pub copied : AreBusy (raised turns i) more
      unfolding raised
      copied = record {
        queues = λ u port apart less_ports. frame_queue s (suc i) (omega (arith, less)) state p w
            (omega (arith, less)) u port
            (others_apart u 0 (suc i) (omega arith) (omega (arith, less)) apart) less_ports
            ∙ busy.queues u port apart less_ports;
        kept = λ u kept. frame_kept s (suc i) (omega (arith, less)) state p w u kept
            ∙ busy.kept u kept;
        others = λ u apart u_split. frame_idle s (suc i) (omega (arith, less)) state p w u apart
            u_split (busy.others u apart u_split);
        scatter_queue = frame_queue s (suc i) (omega (arith, less)) state p w
            (omega (arith, less)) v 0
            (parts_apart 0 (suc i) (omega arith) (omega (arith, less)) (λ f. absurd (omega arith)))
            (omega (arith, here.filter.one_port))
            ∙ busy.scatter_queue;
        scatter_silent = ap (λ (r : Run State Cause Word). r.words)
            (inner_run s (suc i) (omega (arith, less)) state p w 0 (omega arith)
            (λ f. absurd (omega arith))) ∙ busy.scatter_silent;
        gather_silent = ap (λ (r : Run State Cause Word). r.words)
            (inner_run s (suc i) (omega (arith, less)) state p w (suc share.ways) (omega arith)
            (λ f. absurd (omega (arith, less)))) ∙ busy.gather_silent;
        copy = λ l l_less. by_copy l l_less (eqb l i) refl;
      }
        where
          by_copy : (l : ℕ) → l < share.ways → (t : Bool) → eqb l i ≡ t
              → HasTurned more l (cond t (suc (turns l)) (turns l))
          by_copy l l_less false f = other_turn l l_less (eqb-false l i f)
          by_copy l l_less true f = subst (λ (x : ℕ). HasTurned more x (suc (turns x)))
              (sym (eqb-true l i f))
              (subst (λ (n : ℕ). HasTurned more i (suc n)) (sym turn) own_turn)

  -- The gather, when each copy has done its firings and the node has done all of its own.
  module _ (turns : ℕ → ℕ) (s : Here) (busy : AreBusy turns s)
      (full : (l : ℕ) → l < share.ways → turns l ≡ share.firings)
      (o : Here) (done : Fired' (all_firings share) o) where
    abbrev gather : ℕ
    gather = part (suc share.ways)

    abbrev whole : List ℤ
    whole = outs result 0 (all_firings share)

    turned_full : (l : ℕ) → l < share.ways → HasTurned s l share.firings
    turned_full l less = subst (HasTurned s l) (full l less) (busy.copy l less)

    outputs_fit : (l : ℕ) → l < share.ways
        → l * share.firings + share.firings ≤ all_firings share
    outputs_fit l less =
        let e : share.ways ≡ suc l + (share.ways - suc l) = omega arith in
        omega (arith, ap (λ (k : ℕ). k * share.firings) e)

    held_length : (l : ℕ) → l < share.ways
        → length (s.queues gather l) ≡ share.firings * share.push
    held_length l less = ap length (turned_full l less).held
        ∙ outs_length result share.push (all_firings share) done.sizes (l * share.firings)
        share.firings (outputs_fit l less)

    pub gather_ready : IsReadyNow meaning new s gather
    unfolding holds
    gather_ready = all_from_each (meaning.ports (new.code gather))
        (λ port. leb (meaning.window (new.code gather) (s.runs gather).fired port)
        (length (s.queues gather port)))
        (λ port below. le-leb _ _ (ready port (omega (arith, here.gather.ports, below))))
      where
        ready : (port : ℕ) → port < share.ways
            → meaning.window (new.code gather) (s.runs gather).fired port
            ≤ length (s.queues gather port)
        ready port less = omega (
          arith,
          here.gather.windows (s.runs gather).fired port less,
          held_length port less,
        )

    gather_sees : (l : ℕ) → l < share.ways
        → fronts meaning new gather (s.runs gather).fired (s.queues gather) l
        ≡ outs result (l * share.firings) share.firings
    unfolding fronts
    gather_sees l less =
        ap (λ (t : Bool). cond t (take (meaning.window (new.code gather)
        (s.runs gather).fired l) (s.queues gather l)) [])
        (lt-ltb l (meaning.ports (new.code gather)) (omega (arith, here.gather.ports, less)))
        ∙ take_all (meaning.window (new.code gather) (s.runs gather).fired l) (s.queues gather l)
        (omega (
          arith,
          here.gather.windows (s.runs gather).fired l less,
          held_length l less,
        ))
        ∙ (turned_full l less).held

    -- What its firing comes to.
    pub record HasGathered : Type 0 where
      pub state : State
      pub gives : outcome meaning new s gather ≡ Fires state (at_port_0 whole) []

    pub gathers : HasGathered
    unfolding outcome
    gathers =
        let fired = here.gather.joins (s.runs gather).fired (s.runs gather).state
        (fronts meaning new gather (s.runs gather).fired (s.queues gather)) in
        record {
          state = fired.0;
          gives = fired.1 ∙ ap (λ (l : List ℤ). Fires fired.0 (at_port_0 l) [])
              (joined_outs result (fronts meaning new gather (s.runs gather).fired
              (s.queues gather)) share.firings share.ways gather_sees);
        }

    module _ (fired : HasGathered) where
      abbrev final : Here
      final = next meaning new s gather fired.state (at_port_0 whole) []

      gives_node : (origin : Origin) → added gather (at_port_0 whole) (renamed parts origin)
          ≡ added v (at_port_0 whole) origin
      gives_node origin =
          ap (λ (k : ℕ). added (part k) (at_port_0 whole) (renamed parts origin)) (sym last)
          ∙ renamed_added parts meaning graph new is v (at_port_0 whole) origin

      -- A queue of an old channel.
      final_queue : (u port : ℕ) → eqb (parts.name u 0) gather ≡ false
          → port < meaning.ports (graph.code u)
          → final.queues (parts.name u 0) port ≡ s.queues (parts.name u 0) port
          ++ added v (at_port_0 whole) (graph.source u port).origin
      final_queue u port apart less =
          queue_other meaning new s gather fired.state (at_port_0 whole) [] (parts.name u 0) port
          apart
          ∙ ap (λ (r : Origin). s.queues (parts.name u 0) port
          ++ added gather (at_port_0 whole) r) (is.inputs u port less)
          ∙ ap (λ (l : List ℤ). s.queues (parts.name u 0) port ++ l)
          (gives_node (graph.source u port).origin)

      scatter_apart : eqb (part 0) gather ≡ false
      scatter_apart = parts_apart 0 (suc share.ways) (omega arith) (omega arith)
          (λ f. absurd (omega arith))

      own_queue : (port : ℕ) → port < 1 → final.queues (part 0) port ≡ o.queues v port
      own_queue zero less =
          final_queue v 0 scatter_apart (omega (arith, here.filter.one_port))
          ∙ ap (λ (l : List ℤ). s.queues (part 0) 0 ++ l)
          (own_added v (at_port_0 whole) (graph.source v 0).origin here.no_loop)
          ∙ append-nil (s.queues (part 0) 0)
          ∙ busy.scatter_queue ∙ sym done.queue
      own_queue (suc port) less = absurd (omega arith)

      final_copy : (i : ℕ) → i < share.ways
          → IsIdleCopy parts meaning graph final (suc (rounds v)) v i
      unfolding left_of
      final_copy i less =
          let turn = turned_full i less in
          let run = inner_run s (suc share.ways) (omega arith) fired.state (at_port_0 whole) []
          (suc i) (omega (arith, less)) (λ f. absurd (omega (arith, less))) in
          record {
            fired = omega (
              arith,
              ap (λ (r : Run State Cause Word). r.fired) run,
              turn.fired,
            );
            state = ap (λ (r : Run State Cause Word). r.state) run ∙ turn.state;
            silent = ap (λ (r : Run State Cause Word). r.words) run ∙ turn.silent;
            empty = inner_queue s (suc share.ways) (omega arith) fired.state (at_port_0 whole) []
                (suc i) 0 0 i (omega (arith, less)) (omega arith)
                (λ f. absurd (omega (arith, less))) (λ f. absurd (omega arith))
                (here.to_copy i less)
                ∙ turn.left
                ∙ ap (λ (t : Bool). cond t (drop (share.firings * share.pop) (dealt_to i)) [])
                (le-ltb share.firings share.firings (omega arith));
            passed_on = queue_here meaning new s gather fired.state (at_port_0 whole) [] i
                ∙ ap (λ (l : List ℤ). drop (meaning.popped (new.code gather)
                (s.runs gather).fired i) (s.queues gather i) ++ l)
                (ap (added gather (at_port_0 whole)) (here.from_copy i less)
                ∙ added_other gather (part (suc i)) 0 (at_port_0 whole)
                (parts_apart (suc i) (suc share.ways) (omega (arith, less)) (omega arith)
                (λ f. absurd (omega (arith, less)))))
                ∙ append-nil (drop (meaning.popped (new.code gather)
                (s.runs gather).fired i) (s.queues gather i))
                ∙ drop_all (meaning.popped (new.code gather) (s.runs gather).fired i)
                (s.queues gather i) (omega (
                  arith,
                  here.gather.pops (s.runs gather).fired i less,
                  held_length i less,
                ));
          }

      final_idle : AreIdle parts meaning graph o final (suc (rounds v)) v
      final_idle = record {
        fired = omega (arith, done.fired, idle.fired);
        state = done.state;
        silent = done.silent;
        scatter_silent = ap (λ (r : Run State Cause Word). r.words)
            (inner_run s (suc share.ways) (omega arith) fired.state (at_port_0 whole) [] 0
            (omega arith) (λ f. absurd (omega arith))) ∙ busy.scatter_silent;
        gather_silent = words_here meaning new s gather fired.state (at_port_0 whole) []
            ∙ append-nil (s.runs gather).words ∙ busy.gather_silent;
        copy = final_copy;
      }

      pub gathered : Agree parts meaning graph (raised rounds v) o final
      unfolding raised
      gathered = record {
        queues = λ u port less. queue_by u port less (eqb u v) refl;
        kept = λ u kept.
            let apart = not_same parts u v kept split in
            frame_kept s (suc share.ways) (omega arith) fired.state (at_port_0 whole) [] u kept
            ∙ busy.kept u kept ∙ sym (done.others u apart);
        idle = λ w w_split. idle_by w w_split (eqb w v) refl;
      }
        where
          queue_by : (u port : ℕ) → port < meaning.ports (graph.code u) → (t : Bool)
              → eqb u v ≡ t → final.queues (parts.name u 0) port ≡ o.queues u port
          queue_by u port less false f =
              final_queue u port (others_apart u 0 (suc share.ways) (omega arith) (omega arith) f)
              less
              ∙ ap (λ (l : List ℤ). l ++ added v (at_port_0 whole) (graph.source u port).origin)
              (busy.queues u port f less)
              ∙ sym (done.other_queues u port f)
          queue_by u port less true f =
              subst (λ (x : ℕ). port < meaning.ports (graph.code x)
              → final.queues (parts.name x 0) port ≡ o.queues x port) (sym (eqb-true u v f))
              (λ here_less. own_queue port (omega (arith, here.filter.one_port, here_less))) less

          idle_by : (w : ℕ) → parts.is_split w ≡ true → (t : Bool) → eqb w v ≡ t
              → AreIdle parts meaning graph o final (cond t (suc (rounds w)) (rounds w)) w
          idle_by w w_split false f =
              idle_same parts meaning graph new is old o final (rounds w) w (done.others w f)
              (frame_idle s (suc share.ways) (omega arith) fired.state (at_port_0 whole) [] w f
              w_split (busy.others w f w_split))
          idle_by w w_split true f =
              subst (λ (x : ℕ). AreIdle parts meaning graph o final (suc (rounds x)) x)
              (sym (eqb-true w v f)) final_idle
