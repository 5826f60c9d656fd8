-- A ring as the core sees it is a state of the core.
use Rattle.std.proofs.Common.{◌≡◌, refl, sym, ap, subst, ◌∙◌, List, [], ◌∷◌, ◌++◌, map}
use Rattle.std.proofs.Common.{Option, option_to_list}
use Rattle.strc_stage_core.specs.Actors.{Stage, Collector, Work, Step, Collects}
use Rattle.strc_stage_core.specs.Moves.{queues}
use Rattle.strc_stage_core.specs.Seeing.{start_of, core_of_parts}
use Rattle.strc_stage_core.specs.States.{Core, Runs, Chained, IsStart, IsState}
use Rattle.strc_sched_outcome.specs.declared.stop.Stop.{Stop}
use Rattle.strc_stage_core.specs.Parcels.{ParcelView, Load}
use Rattle.strc_stage_core.specs.declared.ring.Start.{Start}
use Rattle.strc_stage_core.specs.declared.ring.Parts.{Parts}
use Rattle.strc_run_links.specs.States.{Chain, IsRing, Part, turned}

-- Steps, each of them seen as another.
seen_runs : {A B : Type 0} (Acts : A → ParcelView → A → ParcelView → Type 0)
    (Seen : B → ParcelView → B → ParcelView → Type 0) (view : A → B)
    → ((a : A) (p : ParcelView) (b : A) (q : ParcelView) → Acts a p b q
    → Seen (view a) p (view b) q)
    → (a : A) (taken made : List ParcelView) (b : A) → Runs Acts a taken made b
    → Runs Seen (view a) taken made (view b)
seen_runs Acts Seen view one a [] [] b runs = ap view runs
seen_runs Acts Seen view one a (p ∷ ps) (q ∷ qs) b runs =
    (view runs.0, one a p runs.0 q runs.1, seen_runs Acts Seen view one runs.0 ps qs b runs.2)
seen_runs Acts Seen view one a [] (q ∷ qs) b runs = absurd runs
seen_runs Acts Seen view one a (p ∷ ps) [] b runs = absurd runs

twice : {A B D : Type 0} (g : B → D) (f : A → B) (l : List A)
    → map g (map f l) ≡ map (λ x. g (f x)) l
twice g f [] = refl
twice g f (x ∷ xs) = ap (λ l. g (f x) ∷ l) (twice g f xs)

module _ {S : Type 0} where
  -- The link before these parts, `link` being the one past them, and those after it, up to `last`.
  link_before : List (Part S) → List ParcelView → List ParcelView
  link_before [] link = link
  link_before (p ∷ ps) link = p.queue

  links_after : List (Part S) → List ParcelView → List ParcelView → List (List ParcelView)
  links_after [] link last = last ∷ []
  links_after (p ∷ ps) link last = link_before ps link ∷ links_after ps link last

  all_links : (ps : List (Part S)) (link last : List ParcelView)
      → ◌≡◌ {A = List (List ParcelView)} (link_before ps link ∷ links_after ps link last)
      ((map (λ part. part.queue) ps ++ (link ∷ [])) ++ (last ∷ []))
  unfolding link_before links_after
  all_links [] link last = refl
  all_links (p ∷ ps) link last = ap (λ l. p.queue ∷ l) (all_links ps link last)

  are_turned : (ps : List (Part S)) (link : List ParcelView)
      → ◌≡◌ {A = List (List ParcelView)} (links_after ps link (link_before ps link))
      (turned (map (λ part. part.queue) ps ++ (link ∷ [])))
  unfolding link_before links_after
  are_turned [] link = refl
  are_turned (p ∷ ps) link = all_links ps link p.queue

module _ {S State Total : Type 0} (work : Work State Load Stop Total)
    (Does : S → ParcelView → S → ParcelView → Type 0) (see : S → Stage State Stop)
    (steps : (s : S) (p : ParcelView) (t : S) (q : ParcelView) → Does s p t q
    → Step work (see s) p (see t) q) where
  module _ (first collector : Collector Total Stop) (hand : Option ParcelView)
      (free taken given link : List ParcelView)
      (runs : Runs (Collects work) first taken (given ++ option_to_list hand) collector) where
    -- From some stage on, whatever was taken from the last link.
    ChainedFrom : List S → List (Part S) → List ParcelView → Type 0
    ChainedFrom stages parts received =
        (back last : List ParcelView) → free ++ given ≡ back ++ last
        → Chained work first free (map see stages) (map (λ part. see part.stage) parts)
        (links_after parts link last) (map (λ part. part.held) parts ++ (hand ∷ [])) collector
        received back

    chained : (stages : List S) (parts : List (Part S)) (sent out : List ParcelView)
        → Chain Does stages parts sent out → out ≡ taken ++ link
        → (received : List ParcelView) × (sent ≡ received ++ link_before parts link)
        × ChainedFrom stages parts received
    unfolding ChainedFrom link_before links_after
    chained [] [] sent out chain is =
        (taken, sym chain ∙ is, λ back last closed. (given, runs, closed))
    chained (s ∷ ss) (p ∷ ps) sent out chain is =
        let rest = chained ss ps chain.1 out chain.4 is in (
          chain.0,
          chain.2,
          λ back last closed. (
            chain.1,
            rest.0,
            seen_runs Does (Step work) see steps s chain.0 (chain.1 ++ option_to_list p.held)
                p.stage chain.3,
            rest.1,
            rest.2 back last closed,
          ),
        )
    chained [] (p ∷ ps) sent out chain is = absurd chain
    chained (s ∷ ss) [] sent out chain is = absurd chain

    -- All round: what was taken from the last link is what the first stage took.
    all_round : (stages : List S) (parts : List (Part S)) (out : List ParcelView)
        → Chain Does stages parts (free ++ given) out → out ≡ taken ++ link
        → (received : List ParcelView)
        × Chained work first free (map see stages) (map (λ part. see part.stage) parts)
        (turned (map (λ part. part.queue) parts ++ (link ∷ [])))
        (map (λ part. part.held) parts ++ (hand ∷ [])) collector received received
    unfolding ChainedFrom
    all_round stages parts out chain is =
        let c = chained stages parts (free ++ given) out chain is in (
          c.0,
          subst (λ (links : List (List ParcelView)). Chained work first free (map see stages)
              (map (λ part. see part.stage) parts) links
              (map (λ part. part.held) parts ++ (hand ∷ [])) collector c.0 c.0)
              (are_turned parts link) (c.2 c.0 (link_before parts link) c.1),
        )

  abbrev core : List (Stage State Stop) → List (List ParcelView)
      → List (Option ParcelView) → Collector Total Stop → Core State Load Stop Total
  core stages links hands collector = record {
    stages = stages;
    links = links;
    hands = hands;
    collector = collector;
  }

  pub ring_state : {C : Type 0} (Gathers : C → ParcelView → C → ParcelView → Type 0)
      (sees : C → Collector Total Stop)
      → ((c : C) (p : ParcelView) (d : C) (q : ParcelView) → Gathers c p d q
      → Collects work (sees c) p (sees d) q)
      → (start : Start S C) (parts : Parts S C) → IsRing Does Gathers start parts
      → IsStart (start_of see sees start)
      → IsState work (start_of see sees start) (core_of_parts see sees parts)
  ring_state Gathers sees gathers start parts ring begun =
      let stages = map (λ (part : Part S). see part.stage) ring.chain in
      let links = turned (map (λ (part : Part S). part.queue) ring.chain ++ (ring.queue ∷ [])) in
      let hands = map (λ (part : Part S). part.held) ring.chain ++ (ring.hand ∷ []) in
      let round = all_round (sees start.collector) (sees parts.collector) ring.hand
      start.free.items ring.taken ring.given ring.queue
      (seen_runs Gathers (Collects work) sees gathers start.collector ring.taken
      (ring.given ++ option_to_list ring.hand) parts.collector ring.gathers)
      start.stages.items ring.chain (ring.taken ++ ring.queue) ring.chained refl in
      let state : IsState work (start_of see sees start)
      (core stages links hands (sees parts.collector)) = record {
        begun = begun;
        taken = round.0;
        chain = round.1;
      } in
      let same : core_of_parts see sees parts ≡ core stages links hands (sees parts.collector) =
      ap (λ l. core l (queues parts.links.items) parts.held.items (sees parts.collector))
      (ap (map see) ring.stages_are ∙ twice see (λ (part : Part S). part.stage) ring.chain)
      ∙ ap (λ l. core stages l parts.held.items (sees parts.collector)) ring.links_are
      ∙ ap (λ l. core stages links l (sees parts.collector)) ring.hands_are in
      subst (IsState work (start_of see sees start)) (sym same) state
