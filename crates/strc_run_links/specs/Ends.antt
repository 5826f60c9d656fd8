-- What the two ends of a link know of it.
use Rattle.std.specs.Prelude.{◌≡◌, ℕ, List}
use Rattle.crossbeam_channel.specs.Claims.{view}
use Rattle.crossbeam_channel.specs.Ends.{sends_on, receives_on}
use Rattle.strc_stage_core.specs.Parcels.{ParcelView}
use Rattle.strc_run_links.specs.declared.tx.Tx.{Tx}
use Rattle.strc_run_links.specs.declared.rx.Rx.{Rx}

-- What was sent at this end, in order, and what was received at that one.
abbrev pub sent_by : Tx → List ParcelView
sent_by t = (view t.pass).sent

abbrev pub got_by : Rx → List ParcelView
got_by r = (view r.pass).got

-- How many parcels the link has room for.
abbrev pub room_of : Tx → ℕ
room_of t = (view t.pass).room

-- The two ends of one link.
abbrev pub IsLink : Tx → Rx → Type 0
IsLink t r = receives_on r.end ≡ sends_on t.end

-- The same end, of which one may know more.
abbrev pub SameTx : Tx → Tx → Type 0
SameTx t u = (sends_on u.end ≡ sends_on t.end) × (room_of u ≡ room_of t)

abbrev pub SameRx : Rx → Rx → Type 0
SameRx r q = receives_on q.end ≡ receives_on r.end
