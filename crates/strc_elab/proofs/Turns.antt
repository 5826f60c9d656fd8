-- The iterations of loops.
use Rattle.std.proofs.Common.{◌≡◌, ◌<◌, ◌≤◌, ◌+◌, true, false, Ok, Err, refl, arith, nat_lt}
use Rattle.std.proofs.lemmas.Bool.{lt-ltb, le-ltb}
use Rattle.strc_work_meaning.specs.declared.fault.Cause.TheVariants.{Turns}
use Rattle.strc_work_meaning.specs.declared.fault.TheConstants.{TURN_LIMIT}
use Rattle.strc_work_meaning.specs.Firing.{Store, turned, turn_limit}

pub turn_limit_is : turn_limit ≡ TURN_LIMIT
unfolding turn_limit
turn_limit_is = refl

-- an iteration within the limit is counted
pub turned_under : (store : Store) → store.traffic.turns < TURN_LIMIT
    → turned store ≡ Ok (record store {
      traffic =
          record store.traffic { turns = store.traffic.turns + 1 };
    })
turned_under store below =
    let lt : store.traffic.turns < turn_limit = omega (arith, turn_limit_is) in
    let e : nat_lt store.traffic.turns turn_limit ≡ true =
    lt-ltb store.traffic.turns turn_limit lt in
    rw e refl

-- an iteration past the limit is a fault
pub turned_over : (store : Store) → TURN_LIMIT ≤ store.traffic.turns → turned store ≡ Err Turns
turned_over store above =
    let ge : turn_limit ≤ store.traffic.turns = omega (arith, turn_limit_is) in
    let e : nat_lt store.traffic.turns turn_limit ≡ false =
    le-ltb store.traffic.turns turn_limit ge in
    rw e refl
