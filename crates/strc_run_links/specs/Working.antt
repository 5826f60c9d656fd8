-- What a worker did.
use Rattle.std.specs.Prelude.{◌≡◌, ◌++◌, Bool, true, false, cond, List, [], Option, Some}
use Rattle.std.specs.Prelude.{option_to_list}
use Rattle.strc_stage_core.specs.States.{Runs}
use Rattle.strc_stage_core.specs.Parcels.{ParcelView}
use Rattle.strc_run_links.specs.declared.tx.Tx.{Tx}
use Rattle.strc_run_links.specs.declared.rx.Rx.{Rx}
use Rattle.strc_run_links.specs.Ends.{sent_by, got_by, SameTx, SameRx}
use Rattle.strc_run_links.specs.declared.worker_end.Worked.{Worked}

module _ {A : Type 0} where
  abbrev pub worked : A → Rx → Tx → Option ParcelView → Bool → Worked A
  worked actor rx tx held misfit =
      record { actor = actor; rx = rx; tx = tx; held = held; misfit = misfit }

  -- A parcel that is held and didn't fit is as it was taken; else it is what a step made.
  abbrev pub put_back : Worked A → List ParcelView
  put_back w = cond w.misfit (option_to_list w.held) []

  abbrev pub stepped : Worked A → List ParcelView
  stepped w = cond w.misfit [] (option_to_list w.held)

  module _ (Does : A → ParcelView → A → ParcelView → Type 0) where
    -- Between an actor with its ends and the same later: its ends are those that it had; what it
    -- gave, and then what it holds, are its steps over what it took, in order. `back` was received
    -- and not taken.
    pub record Work (actor : A) (rx : Rx) (tx : Tx) (later : A) (rx' : Rx) (tx' : Tx)
        (back held : List ParcelView) : Type 0 where
      pub taken : List ParcelView
      pub given : List ParcelView
      pub same_tx : SameTx tx tx'
      pub same_rx : SameRx rx rx'
      pub got : got_by rx' ≡ got_by rx ++ (taken ++ back)
      pub sent : sent_by tx' ≡ sent_by tx ++ given
      pub runs : Runs Does actor taken (given ++ held) later

    abbrev pub Did : A → Rx → Tx → Worked A → Type 0
    Did actor rx tx w = Work actor rx tx w.actor w.rx w.tx (put_back w) (stepped w)

  -- A misfit is a parcel that doesn't fit.
  abbrev pub Unfit : (A → ParcelView → Bool) → Worked A → Type 0
  Unfit takes w = w.misfit ≡ true
      → (parcel : ParcelView) × (w.held ≡ Some parcel) × (takes w.actor parcel ≡ false)
