-- Workers that have ended become the parts of a ring, one after another.
use Rattle.std.proofs.Common.{◌≡◌, ◌++◌, List, [], ◌∷◌, refl, sym, ap, subst, ◌∙◌}
use Rattle.std.proofs.Common.{append_assoc, append-nil, drop, take, Option, option_to_list}
use Rattle.std.proofs.Common.{Vec, vec_items}
use Rattle.std.proofs.lemmas.List.{map-append}
use Rattle.strc_stage_core.specs.Moves.{queues}
use Rattle.strc_stage_core.specs.States.{Runs}
use Rattle.strc_stage_core.specs.Parcels.{ParcelView}
use Rattle.strc_run_links.specs.declared.tx.Tx.{Tx}
use Rattle.strc_run_links.specs.declared.rx.Rx.{Rx}
use Rattle.strc_run_links.specs.Ends.{sent_by, got_by, IsLink}
use Rattle.strc_run_links.specs.declared.worker_end.Worked.{Worked}
use Rattle.strc_run_links.specs.Working.{put_back, stepped}
use Rattle.strc_stage_core.specs.declared.ring.Start.{Start}
use Rattle.strc_stage_core.specs.declared.ring.Parts.{Parts}
use Rattle.strc_run_links.specs.States.{AreParts, Chain, IsRing, Part, turned}
use Rattle.strc_run_links.specs.Seats.{From, AreDone, AreSettled, Settling}

-- What was sent is what was taken, a misfit laid back, and what was left.
laid : (sent got taken back left queue : List ParcelView) → sent ≡ got ++ left
    → got ≡ taken ++ back → queue ≡ back ++ left → sent ≡ taken ++ queue
laid sent got taken back left queue closed is laid_back =
    closed ∙ ap (λ l. l ++ left) is ∙ append_assoc taken back left
    ∙ ap (λ l. taken ++ l) (sym laid_back)

-- The first link comes behind all others.
pub turned_queues : {Parcel Alloc : Type 0} (links : List (Vec Parcel Alloc))
    → queues (drop 1 links ++ take 1 links) ≡ turned (queues links)
turned_queues [] = refl
turned_queues (link ∷ links) = map-append vec_items links (link ∷ [])

-- A link behind some links.
pub pushed_queue : {Parcel Alloc : Type 0} (links more : List (Vec Parcel Alloc))
    (link : Vec Parcel Alloc) → more ≡ links ++ link ∷ []
    → queues more ≡ queues links ++ link.items ∷ []
pushed_queue links more link is = ap queues is ∙ map-append vec_items links (link ∷ [])

-- No part has no stages, links and hands; with one part more they are one more.
pub no_parts : {S : Type 0} (stages : List S) (links : List (List ParcelView))
    (hands : List (Option ParcelView)) → stages ≡ [] → links ≡ [] → hands ≡ []
    → AreParts [] stages links hands
no_parts stages links hands no_stage no_link no_hand =
    record { stages_are = no_stage; links_are = no_link; hands_are = no_hand }

pub more_parts : {S : Type 0} (parts : List (Part S)) (p : Part S) (stages stages' : List S)
    (links links' : List (List ParcelView)) (hands hands' : List (Option ParcelView))
    → AreParts parts stages links hands → stages' ≡ stages ++ p.stage ∷ []
    → links' ≡ links ++ p.queue ∷ [] → hands' ≡ hands ++ p.held ∷ []
    → AreParts (parts ++ p ∷ []) stages' links' hands'
more_parts parts p stages stages' links links' hands hands' are stage link hand = record {
  stages_are = stage ∙ ap (λ l. l ++ p.stage ∷ []) are.stages_are
      ∙ sym (map-append (λ part. part.stage) parts (p ∷ []));
  links_are = link ∙ ap (λ l. l ++ p.queue ∷ []) are.links_are
      ∙ sym (map-append (λ part. part.queue) parts (p ∷ []));
  hands_are = hand ∙ ap (λ l. l ++ p.held ∷ []) are.hands_are
      ∙ sym (map-append (λ part. part.held) parts (p ∷ []));
}

module _ {S : Type 0} (Does : S → ParcelView → S → ParcelView → Type 0) where
  -- One part more.
  chain_snoc : (done : List S) (parts : List (Part S)) (sent between out : List ParcelView) (s : S)
      (p : Part S) → Chain Does done parts sent between → Chain Does (s ∷ []) (p ∷ []) between out
      → Chain Does (done ++ s ∷ []) (parts ++ p ∷ []) sent out
  chain_snoc [] [] sent between out s p so one =
      subst (λ (l : List ParcelView). Chain Does (s ∷ []) (p ∷ []) l out) so one
  chain_snoc (d ∷ ds) (q ∷ qs) sent between out s p so one =
      (so.0, so.1, so.2, so.3, chain_snoc ds qs so.1 between out s p so.4 one)
  chain_snoc [] (q ∷ qs) sent between out s p so one = absurd so
  chain_snoc (d ∷ ds) [] sent between out s p so one = absurd so

  -- Nothing is settled yet.
  pub begins : (stages : List S) (before : Tx) (last : Rx) (parts : List (Part S))
      (items workers : List (Worked S)) → parts ≡ [] → items ≡ workers
      → AreDone Does before stages workers last
      → Settling Does stages parts (sent_by before) before items last
  begins stages before last parts items workers no_part same are = (
    [],
    stages,
    refl,
    subst (λ (l : List (Part S)). Chain Does [] l (sent_by before) (sent_by before)) (sym no_part)
        refl,
    subst (λ (l : List (Worked S)). AreDone Does before stages l last) (sym same) are,
  )

  module _ (stages : List S) (parts : List (Part S)) (sent : List ParcelView) (before : Tx)
      (last : Rx) where
    -- The next worker is at the link's other end.
    there : (rest : List S) (w : Worked S) (ws : List (Worked S))
        → AreDone Does before rest (w ∷ ws) last → IsLink before w.rx
    there (s ∷ ss) w ws are = are.0
    there [] w ws are = absurd are

    pub link_there : (w : Worked S) (ws all : List (Worked S)) → all ≡ w ∷ ws
        → Settling Does stages parts sent before all last → IsLink before w.rx
    link_there w ws all is so =
        there so.1 w ws (subst (λ (l : List (Worked S)). AreDone Does before so.1 l last) is so.4)

    -- The next worker becomes a part.
    next : (done rest : List S) (w : Worked S) (ws : List (Worked S)) (p : Part S)
        (left : List ParcelView) → stages ≡ done ++ rest
        → Chain Does done parts sent (sent_by before) → AreDone Does before rest (w ∷ ws) last
        → sent_by before ≡ got_by w.rx ++ left → p.queue ≡ put_back w ++ left
        → option_to_list p.held ≡ stepped w → p.stage ≡ w.actor
        → Settling Does stages (parts ++ p ∷ []) sent w.tx ws last
    next done [] w ws p left split chain are closed laid_back held stage = absurd are
    next done (s ∷ ss) w ws p left split chain are closed laid_back held stage =
        let f = are.1 in (
          done ++ s ∷ [],
          ss,
          split ∙ sym (append_assoc done (s ∷ []) ss),
          chain_snoc done parts sent (sent_by before) (sent_by w.tx) s p chain (
            f.0,
            f.1,
            laid (sent_by before) (got_by w.rx) f.0 (put_back w) left p.queue closed f.2
                laid_back,
            subst (λ (t : S). Runs Does s f.0 (f.1 ++ option_to_list p.held) t) (sym stage)
                (subst (λ (l : List ParcelView). Runs Does s f.0 (f.1 ++ l) w.actor) (sym held)
                f.4),
            f.3,
          ),
          are.2,
        )

    pub next_settling : (w : Worked S) (ws all : List (Worked S)) (p : Part S)
        (left : List ParcelView) (more : List (Part S)) → more ≡ parts ++ p ∷ [] → all ≡ w ∷ ws
        → Settling Does stages parts sent before all last
        → sent_by before ≡ got_by w.rx ++ left → p.queue ≡ put_back w ++ left
        → option_to_list p.held ≡ stepped w → p.stage ≡ w.actor
        → Settling Does stages more sent w.tx ws last
    next_settling w ws all p left more pushed is so closed laid_back held stage =
        subst (λ (l : List (Part S)). Settling Does stages l sent w.tx ws last) (sym pushed)
        (next so.0 so.1 w ws p left so.2 so.3
        (subst (λ (l : List (Worked S)). AreDone Does before so.1 l last) is so.4)
        closed laid_back held stage)

    -- No worker is left.
    none_left : (done rest : List S) → stages ≡ done ++ rest
        → Chain Does done parts sent (sent_by before) → AreDone Does before rest [] last
        → Chain Does stages parts sent (sent_by before) × IsLink before last
    none_left done [] split chain are = (
      subst (λ (l : List S). Chain Does l parts sent (sent_by before))
          (sym (append-nil done) ∙ sym split) chain,
      are,
    )
    none_left done (s ∷ ss) split chain are = absurd are

    pub settled : (all : List (Worked S)) → all ≡ []
        → Settling Does stages parts sent before all last
        → Chain Does stages parts sent (sent_by before) × IsLink before last
    settled all is so =
        none_left so.0 so.1 so.2 so.3
        (subst (λ (l : List (Worked S)). AreDone Does before so.1 l last) is so.4)

  -- The parts, and behind them what the collector left, are a ring.
  pub ring : {C : Type 0} (Collects : C → ParcelView → C → ParcelView → Type 0)
      (start : Start S C) (settled parts : Parts S C) (w : Worked C) (tx : Tx)
      (left queue : List ParcelView) (hand : Option ParcelView)
      → From Collects start.collector start.free.items w
      → AreSettled Does start.stages.items settled (sent_by w.tx) (sent_by tx)
      → sent_by tx ≡ got_by w.rx ++ left → queue ≡ put_back w ++ left
      → option_to_list hand ≡ stepped w → parts.collector ≡ w.actor
      → parts.stages.items ≡ settled.stages.items
      → queues parts.links.items ≡ turned (queues settled.links.items ++ queue ∷ [])
      → parts.held.items ≡ settled.held.items ++ hand ∷ [] → IsRing Does Collects start parts
  ring Collects start settled parts w tx left queue hand f are closed laid_back held collector
      stages links hands = record {
        chain = are.chain;
        queue = queue;
        hand = hand;
        stages_are = stages ∙ are.are_parts.stages_are;
        links_are = links ∙ ap (λ l. turned (l ++ queue ∷ [])) are.are_parts.links_are;
        hands_are = hands ∙ ap (λ l. l ++ hand ∷ []) are.are_parts.hands_are;
        taken = f.0;
        given = f.1;
        chained =
            let out = laid (sent_by tx) (got_by w.rx) f.0 (put_back w) left queue closed f.2
            laid_back in
            let all = start.stages.items in
            subst (λ (l : List ParcelView). Chain Does all are.chain l (f.0 ++ queue)) f.3
            (subst (λ (l : List ParcelView). Chain Does all are.chain (sent_by w.tx) l) out
            are.chained);
        gathers = subst (λ (t : _). Runs Collects start.collector f.0
            (f.1 ++ option_to_list hand) t) (sym collector)
            (subst (λ (l : List ParcelView). Runs Collects start.collector f.0 (f.1 ++ l) w.actor)
            (sym held) f.4);
      }
