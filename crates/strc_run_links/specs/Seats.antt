-- Workers on their seats, and after their work.
use Rattle.std.specs.Prelude.{◌≡◌, ◌++◌, ℕ, zero, suc, List, [], ◌∷◌, All, map}
use Rattle.strc_stage_core.specs.Moves.{queues}
use Rattle.strc_stage_core.specs.States.{Runs}
use Rattle.strc_stage_core.specs.Parcels.{ParcelView}
use Rattle.strc_run_links.specs.declared.tx.Tx.{Tx}
use Rattle.strc_run_links.specs.declared.rx.Rx.{Rx}
use Rattle.strc_run_links.specs.Ends.{sent_by, got_by, room_of, IsLink}
use Rattle.strc_run_links.specs.declared.worker_end.Worked.{Worked}
use Rattle.strc_run_links.specs.Working.{put_back, stepped, Did}
use Rattle.strc_stage_core.specs.declared.ring.Parts.{Parts}
use Rattle.strc_stage_core.specs.declared.ring.Start.{Start}
use Rattle.strc_run_links.specs.declared.shapes.Seat.{Seat}
use Rattle.strc_run_links.specs.declared.shapes.Ready.{Ready}
use Rattle.strc_run_links.specs.declared.shapes.Ended.{Ended}
use Rattle.strc_run_links.specs.States.{AreParts, Chain, Part}

-- From the giver's end of the link before the first seat to the taker's end of that after the last:
-- nothing has come over the links yet.
abbrev pub Linked : {S : Type 0} → Tx → List (Seat S) → Rx → Type 0
Linked before [] last = IsLink before last
Linked before (s ∷ ss) last =
    IsLink before s.rx × (got_by s.rx ≡ []) × (sent_by s.tx ≡ []) × Linked s.tx ss last

abbrev pub stages_of : {S : Type 0} → List (Seat S) → List S
stages_of seats = map (λ seat. seat.stage) seats

-- All sit in their places, and the free parcels lie on the link from the collector.
abbrev pub IsReady : {S C : Type 0} → Start S C → Ready S C → Type 0
IsReady start ready =
    (stages_of ready.seats.items ≡ start.stages.items)
    × Linked ready.tx ready.seats.items ready.rx
    × (sent_by ready.tx ≡ start.free.items)
    × (got_by ready.rx ≡ [])
    × (ready.collector ≡ start.collector)

-- The room of a link for so many parcels: a link has room for one at least.
abbrev pub room_for : (parcels : ℕ) → ℕ
room_for zero = 1
room_for (suc less) = suc less

-- The link after a seat has this room.
abbrev pub HasRoom : {S : Type 0} → (room : ℕ) → Seat S → Type 0
HasRoom room seat = room_of seat.tx ≡ room

-- Each link of a ring has room for all its parcels.
abbrev pub HaveRoom : {S C : Type 0} → (parcels : ℕ) → Ready S C → Type 0
HaveRoom parcels ready =
    (room_of ready.tx ≡ room_for parcels) × All (HasRoom (room_for parcels)) ready.seats.items

-- What an actor took is what was received, but for a misfit. After `before` was sent, what it gave,
-- and then what it holds, are its steps over what it took.
abbrev pub From : {A : Type 0} → (A → ParcelView → A → ParcelView → Type 0) → A
    → List ParcelView → Worked A → Type 0
From Does s before w =
    (taken : List ParcelView) × (given : List ParcelView)
    × (got_by w.rx ≡ taken ++ put_back w)
    × (sent_by w.tx ≡ before ++ given)
    × Runs Does s taken (given ++ stepped w) w.actor

module _ {S : Type 0} (Does : S → ParcelView → S → ParcelView → Type 0) where
  -- Each worker did its work on its seat.
  abbrev pub DidSeat : Seat S → Worked S → Type 0
  DidSeat seat w = Did Does seat.stage seat.rx seat.tx w

  abbrev pub AllDid : List (Seat S) → List (Worked S) → Type 0
  AllDid [] [] = Unit {0}
  AllDid (s ∷ ss) (w ∷ ws) = DidSeat s w × AllDid ss ws
  AllDid _ _ = ⊥

  -- From the giver's end of the link before the first to the taker's end of that after the last.
  abbrev pub AreDone : Tx → List S → List (Worked S) → Rx → Type 0
  AreDone before [] [] last = IsLink before last
  AreDone before (s ∷ ss) (w ∷ ws) last =
      IsLink before w.rx × From Does s [] w × AreDone w.tx ss ws last
  AreDone before _ _ last = ⊥

  -- The free parcels were sent before all that the collector gave.
  abbrev pub IsEnded : {C : Type 0} → (C → ParcelView → C → ParcelView → Type 0) → Start S C
      → Ended S C → Type 0
  IsEnded Collects start ended =
      AreDone ended.collected.tx start.stages.items ended.workers.items ended.collected.rx
      × From Collects start.collector start.free.items ended.collected

  -- The workers that are done became parts, the others have yet to.
  abbrev pub Settling : List S → List (Part S) → List ParcelView → Tx → List (Worked S) → Rx
      → Type 0
  Settling stages parts sent before workers last =
      (done : List S) × (rest : List S)
      × (stages ≡ done ++ rest)
      × Chain Does done parts sent (sent_by before)
      × AreDone before rest workers last

  -- All workers became parts.
  pub record AreSettled {C : Type 0} (stages : List S) (parts : Parts S C)
      (sent out : List ParcelView) : Type 0 where
    pub chain : List (Part S)
    pub are_parts : AreParts chain parts.stages.items (queues parts.links.items) parts.held.items
    pub chained : Chain Does stages chain sent out
