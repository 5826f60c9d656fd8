-- Seats are linked, one after another, and workers on them are done.
use Rattle.std.proofs.Common.{◌≡◌, ◌++◌, List, [], ◌∷◌, refl, sym, ap, subst, ◌∙◌, append_assoc}
use Rattle.strc_stage_core.specs.Parcels.{ParcelView}
use Rattle.strc_run_links.specs.declared.tx.Tx.{Tx}
use Rattle.strc_run_links.specs.declared.rx.Rx.{Rx}
use Rattle.strc_run_links.specs.Ends.{sent_by, got_by, IsLink, SameTx, SameRx}
use Rattle.strc_run_links.specs.declared.worker_end.Worked.{Worked}
use Rattle.strc_run_links.specs.Working.{put_back, Did}
use Rattle.strc_stage_core.specs.declared.ring.Start.{Start}
use Rattle.strc_run_links.specs.declared.shapes.Seat.{Seat}
use Rattle.strc_run_links.specs.declared.shapes.Ready.{Ready}
use Rattle.strc_run_links.specs.declared.shapes.Ended.{Ended}
use Rattle.strc_run_links.specs.Seats.{Linked, stages_of, IsReady, From, AllDid, AreDone, IsEnded}

module _ {S : Type 0} where
  -- One seat more.
  linked_snoc : (before : Tx) (seats : List (Seat S)) (s : Seat S) (next : Rx)
      → Linked before seats s.rx → got_by s.rx ≡ [] → IsLink s.tx next → sent_by s.tx ≡ []
      → Linked before (seats ++ s ∷ []) next
  linked_snoc before [] s next so none link empty = (so, none, empty, link)
  linked_snoc before (x ∷ xs) s next so none link empty =
      (so.0, so.1, so.2, linked_snoc x.tx xs s next so.3 none link empty)

  pub linked_more : (before : Tx) (seats more : List (Seat S)) (s : Seat S) (next : Rx)
      → more ≡ seats ++ s ∷ [] → Linked before seats s.rx → got_by s.rx ≡ [] → IsLink s.tx next
      → sent_by s.tx ≡ [] → Linked before more next
  linked_more before seats more s next pushed so none link empty =
      subst (λ (l : List (Seat S)). Linked before l next) (sym pushed)
      (linked_snoc before seats s next so none link empty)

  -- The stages of the seats so far, and then those that are left, are all.
  stages_snoc : (seats : List (Seat S)) (s : Seat S)
      → stages_of (seats ++ s ∷ []) ≡ stages_of seats ++ s.stage ∷ []
  stages_snoc [] s = refl
  stages_snoc (x ∷ xs) s = ap (λ l. x.stage ∷ l) (stages_snoc xs s)

  pub placed : (seats more : List (Seat S)) (s : Seat S) (rest items all : List S)
      → more ≡ seats ++ s ∷ [] → items ≡ s.stage ∷ rest → stages_of seats ++ items ≡ all
      → stages_of more ++ rest ≡ all
  placed seats more s rest items all pushed is so =
      ap (λ l. stages_of l ++ rest) pushed
      ∙ ap (λ l. l ++ rest) (stages_snoc seats s)
      ∙ append_assoc (stages_of seats) (s.stage ∷ []) rest
      ∙ ap (λ l. stages_of seats ++ l) (sym is) ∙ so

module _ {S : Type 0} (Does : S → ParcelView → S → ParcelView → Type 0) where
  -- An actor that began with new ends.
  from : {A : Type 0} (Acts : A → ParcelView → A → ParcelView → Type 0) (s : A) (rx : Rx) (tx : Tx)
      (w : Worked A) (before : List ParcelView) → Did Acts s rx tx w → got_by rx ≡ []
      → sent_by tx ≡ before → From Acts s before w
  from Acts s rx tx w before did none sent = (
    did.taken,
    did.given,
    did.got ∙ ap (λ l. l ++ (did.taken ++ put_back w)) none,
    did.sent ∙ ap (λ l. l ++ did.given) sent,
    did.runs,
  )

  all_done : (before before' : Tx) (seats : List (Seat S)) (workers : List (Worked S))
      (last last' : Rx) → SameTx before before' → SameRx last last' → Linked before seats last
      → AllDid Does seats workers → AreDone Does before' (stages_of seats) workers last'
  all_done before before' [] [] last last' same_tx same_rx linked did =
      same_rx ∙ linked ∙ sym same_tx.0
  all_done before before' (s ∷ ss) (w ∷ ws) last last' same_tx same_rx linked did = (
    did.0.same_rx ∙ linked.0 ∙ sym same_tx.0,
    from Does s.stage s.rx s.tx w [] did.0 linked.1 linked.2,
    all_done s.tx w.tx ss ws last last' did.0.same_tx same_rx linked.3 did.1,
  )
  all_done before before' [] (w ∷ ws) last last' same_tx same_rx linked did = absurd did
  all_done before before' (s ∷ ss) [] last last' same_tx same_rx linked did = absurd did

  -- All that began are done, with the collector.
  pub ended : {C : Type 0} (Collects : C → ParcelView → C → ParcelView → Type 0)
      (start : Start S C) (ready : Ready S C) (e : Ended S C) → IsReady start ready
      → AllDid Does ready.seats.items e.workers.items
      → Did Collects ready.collector ready.rx ready.tx e.collected
      → IsEnded Does Collects start e
  ended {C} Collects start ready e is workers did = (
    subst (λ (l : List S). AreDone Does e.collected.tx l e.workers.items e.collected.rx) is.0
        (all_done ready.tx e.collected.tx ready.seats.items e.workers.items ready.rx
        e.collected.rx did.same_tx did.same_rx is.1 workers),
    subst (λ (s : C). From Collects s start.free.items e.collected) is.4
        (from Collects ready.collector ready.rx ready.tx e.collected start.free.items did is.3
        is.2),
  )
