-- What a person reads where a graph has no counts.
use Rattle.std.specs.Prelude.{ℕ, List, ◌++◌, codes, decimal}
use Rattle.strc_balance.specs.declared.error.BalanceError.{BalanceError}
use Rattle.strc_balance.specs.declared.error.BalanceError.TheVariants.{CountsTooLarge, Inconsistent}
use Rattle.strc_balance.specs.declared.error.BalanceError.TheVariants.{NoMemory}

abbrev pub balance_sentence : BalanceError → List ℕ
balance_sentence CountsTooLarge = codes "a node would fire too often in a round"
balance_sentence (Inconsistent channel) = codes "no counts balance channel " ++ decimal channel
balance_sentence NoMemory = codes "out of memory"
