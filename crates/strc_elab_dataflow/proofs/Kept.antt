-- A firing of a node that isn't split, in both graphs.
use Rattle.std.proofs.Common.{◌≡◌, refl, sym, ap, ◌∙◌, subst, ℕ, ◌<◌}
use Rattle.std.proofs.Common.{Bool, true, false, cond, eqb, leb, ltb, ℤ, List, [], ◌++◌, length}
use Rattle.std.proofs.Common.{take}
use Rattle.std.proofs.Common.{drop, arith, eqb-true, ltb-true, le-leb}
use mathlib.Core.Path.{fun_ext}
use Rattle.std.proofs.lemmas.Bool.{ne_eqb, eqb-false}
use Rattle.strc_elab_dataflow.specs.Node.{ByPort, Fired.Fires, Meaning}
use Rattle.strc_elab_dataflow.specs.Histories.{Run, all_below, after_firing}
use Rattle.strc_elab_dataflow.specs.Flat.{Origin, Graph}
use Rattle.strc_elab_dataflow.specs.Queues.{Fifo, added, holds, fronts}
use Rattle.strc_elab_dataflow.proofs.Runs.{all_from_each}
use Rattle.strc_elab_dataflow.specs.Split.{Parts, renamed, IsSplitGraph, Agree}
use Rattle.strc_elab_dataflow.proofs.Diamond.{IsReadyNow, outcome, window_here}
use Rattle.strc_elab_dataflow.proofs.RoundsSteps.{next, run_other, run_here, queue_other}
use Rattle.strc_elab_dataflow.proofs.RoundsSteps.{queue_here}
use Rattle.strc_elab_dataflow.proofs.RoundsParts.{outlet_kept, not_same, nodes_apart, renamed_added}
use Rattle.strc_elab_dataflow.proofs.RoundsParts.{idle_frame}
use Rattle.strc_elab_dataflow.proofs.RoundsParts.{idle_same}

module _ {Code State Cause Word : Type 0} (meaning : Meaning Code State Cause Word)
    (graph new : Graph Code) (parts : Parts) (is : IsSplitGraph parts meaning graph new)
    (rounds : ℕ → ℕ) (old now : Fifo State Cause Word)
    (agree : Agree parts meaning graph rounds old now) (u : ℕ)
    (kept : parts.is_split u ≡ false) where
  abbrev pub same : ℕ
  same = parts.name u 0

  code_is : new.code same ≡ graph.code u
  code_is = is.kept u kept

  run_is : now.runs same ≡ old.runs u
  run_is = agree.kept u kept

  pub kept_ready : IsReadyNow meaning graph old u → IsReadyNow meaning new now same
  unfolding holds
  kept_ready ready =
      subst (λ (c : Code). all_below (meaning.ports c)
      (λ port. leb (meaning.window c (now.runs same).fired port) (length (now.queues same port)))
      ≡ true) (sym code_is)
      (subst (λ (r : Run State Cause Word). all_below (meaning.ports (graph.code u))
      (λ port. leb (meaning.window (graph.code u) r.fired port) (length (now.queues same port)))
      ≡ true) (sym run_is)
      (all_from_each (meaning.ports (graph.code u))
      (λ port. leb (meaning.window (graph.code u) (old.runs u).fired port)
      (length (now.queues same port)))
      (λ port less. le-leb _ _ (omega (
        arith,
        window_here meaning graph old u ready port less,
        ap length (agree.queues u port less),
      )))))

  front_by : (w : ℕ) (queue other : List ℤ) (test : Bool) → (test ≡ true → queue ≡ other)
      → cond test (take w queue) [] ≡ cond test (take w other) []
  front_by w queue other true h = ap (take w) (h refl)
  front_by w queue other false h = refl

  pub kept_outcome : outcome meaning new now same ≡ outcome meaning graph old u
  unfolding outcome fronts
  kept_outcome =
      ap (λ (c : Code). meaning.fire c (now.runs same).fired (now.runs same).state
      (λ port. cond (ltb port (meaning.ports c))
      (take (meaning.window c (now.runs same).fired port) (now.queues same port)) [])) code_is
      ∙ ap (λ (r : Run State Cause Word). meaning.fire (graph.code u) r.fired r.state
      (λ port. cond (ltb port (meaning.ports (graph.code u)))
      (take (meaning.window (graph.code u) r.fired port) (now.queues same port)) [])) run_is
      ∙ ap (meaning.fire (graph.code u) (old.runs u).fired (old.runs u).state)
      (fun_ext (λ port. front_by (meaning.window (graph.code u) (old.runs u).fired port)
      (now.queues same port) (old.queues u port) (ltb port (meaning.ports (graph.code u)))
      (λ e. agree.queues u port (ltb-true port (meaning.ports (graph.code u)) e))))

  module _ (state : State) (pushes : ByPort) (words : List Word) where
    abbrev old_next : Fifo State Cause Word
    old_next = next meaning graph old u state pushes words

    abbrev new_next : Fifo State Cause Word
    new_next = next meaning new now same state pushes words

    same_added : (origin : Origin)
        → added same pushes (renamed parts origin) ≡ added u pushes origin
    same_added origin =
        ap (λ (k : ℕ). added (parts.name u k) pushes (renamed parts origin))
        (sym (outlet_kept parts u kept))
        ∙ renamed_added parts meaning graph new is u pushes origin

    apart_from : (a : ℕ) → eqb a u ≡ false → eqb (parts.name a 0) same ≡ false
    apart_from a apart =
        nodes_apart parts meaning graph new is a 0 u 0 (omega arith) (omega arith) apart

    own_queue : (port : ℕ) → port < meaning.ports (graph.code u)
        → new_next.queues same port ≡ old_next.queues u port
    own_queue port less =
        queue_here meaning new now same state pushes words port
        ∙ ap (λ (c : Code). drop (meaning.popped c (now.runs same).fired port)
        (now.queues same port) ++ added same pushes (new.source same port).origin) code_is
        ∙ ap (λ (r : Run State Cause Word). drop (meaning.popped (graph.code u) r.fired port)
        (now.queues same port) ++ added same pushes (new.source same port).origin) run_is
        ∙ ap (λ (l : List ℤ). drop (meaning.popped (graph.code u) (old.runs u).fired port) l
        ++ added same pushes (new.source same port).origin) (agree.queues u port less)
        ∙ ap (λ (l : List ℤ). drop (meaning.popped (graph.code u) (old.runs u).fired port)
        (old.queues u port) ++ l)
        (ap (added same pushes) (is.inputs u port less)
        ∙ same_added (graph.source u port).origin)
        ∙ sym (queue_here meaning graph old u state pushes words port)

    other_queue : (a port : ℕ) → eqb a u ≡ false → port < meaning.ports (graph.code a)
        → new_next.queues (parts.name a 0) port ≡ old_next.queues a port
    other_queue a port apart less =
        queue_other meaning new now same state pushes words (parts.name a 0) port
        (apart_from a apart)
        ∙ ap (λ (l : List ℤ). l ++ added same pushes (new.source (parts.name a 0) port).origin)
        (agree.queues a port less)
        ∙ ap (λ (l : List ℤ). old.queues a port ++ l)
        (ap (added same pushes) (is.inputs a port less)
        ∙ same_added (graph.source a port).origin)
        ∙ sym (queue_other meaning graph old u state pushes words a port apart)

    own_run : new_next.runs same ≡ old_next.runs u
    own_run =
        run_here meaning new now same state pushes words
        ∙ ap (λ (c : Code). after_firing meaning c (now.runs same)
        (Fires state pushes words)) code_is
        ∙ ap (λ (r : Run State Cause Word). after_firing meaning (graph.code u) r
        (Fires state pushes words)) run_is
        ∙ sym (run_here meaning graph old u state pushes words)

    pub kept_agree : Agree parts meaning graph rounds old_next new_next
    kept_agree = record {
      queues = λ a port less. queue_by a port less (eqb a u) refl;
      kept = λ a a_kept. run_by a a_kept (eqb a u) refl;
      idle = λ v split.
          let apart = ne_eqb v u (λ e. eqb-false u v (not_same parts u v kept split) (sym e)) in
          idle_same parts meaning graph new is old old_next new_next (rounds v) v
          (run_other meaning graph old u state pushes words v apart)
          (idle_frame parts meaning graph new is old now (rounds v) v split same
          (λ k less. nodes_apart parts meaning graph new is v k u 0 less (omega arith) apart)
          state pushes words (agree.idle v split));
    }
      where
        queue_by : (a port : ℕ) → port < meaning.ports (graph.code a) → (t : Bool)
            → eqb a u ≡ t → new_next.queues (parts.name a 0) port ≡ old_next.queues a port
        queue_by a port less false e = other_queue a port e less
        queue_by a port less true e =
            subst (λ (x : ℕ). port < meaning.ports (graph.code x)
            → new_next.queues (parts.name x 0) port ≡ old_next.queues x port)
            (sym (eqb-true a u e)) (own_queue port) less

        run_by : (a : ℕ) → parts.is_split a ≡ false → (t : Bool) → eqb a u ≡ t
            → new_next.runs (parts.name a 0) ≡ old_next.runs a
        run_by a a_kept false e =
            run_other meaning new now same state pushes words (parts.name a 0) (apart_from a e)
            ∙ agree.kept a a_kept
            ∙ sym (run_other meaning graph old u state pushes words a e)
        run_by a a_kept true e =
            subst (λ (x : ℕ). new_next.runs (parts.name x 0) ≡ old_next.runs x)
            (sym (eqb-true a u e)) own_run
