-- The sentences of messages: which words a fault and each refusal have.
use Rattle.std.specs.Prelude.{◌≡◌, ℕ, ◌-◌, ◌==◌, if◌then◌else◌, List, ◌++◌, codes, decimal}
use Rattle.std.specs.Prelude.{Option, ℤ, pos, negsuc}
use Rattle.std.specs.Fmt.{signed_decimal}
use Rattle.strc_work_meaning.specs.declared.fault.Cause.{Cause}
use Rattle.strc_work_meaning.specs.declared.fault.Cause.TheVariants as cause
use Rattle.strc_work_meaning.specs.declared.fault.Trapped.{Trapped}
use Rattle.strc_sched_outcome.specs.declared.outcome.Round.{Round}
use Rattle.strc_sched_outcome.specs.declared.outcome.Round.TheVariants as round
use Rattle.strc_elab_graph.specs.declared.graph.Node.{Node}
use Rattle.strc_cli_source.specs.NodeWords.{node_words}

-- an index outside of an array, where there is a number of elements, and where there is none
abbrev pub found_index_words : Trapped → List ℕ
found_index_words trapped = codes " uses index " ++ signed_decimal trapped.index
    ++ codes " of an array of " ++ decimal trapped.count

abbrev pub index_words : Trapped → List ℕ
index_words trapped = if trapped.count == 0 then codes " uses an index outside of its array"
    else found_index_words trapped

-- a look at an item before its window, and past its last item
abbrev pub before_words : (place : ℤ) → List ℕ
before_words place =
    codes " looks at peek(" ++ signed_decimal place ++ codes "), before its window,"

abbrev pub past_words : (place : ℤ) → (last : ℕ) → List ℕ
past_words place last = codes " looks at peek(" ++ signed_decimal place ++ codes "), past peek("
    ++ decimal last ++ codes "), the last of its window,"

abbrev pub beyond_words : (place : ℤ) → (last : ℕ) → List ℕ
beyond_words (pos place) last = past_words (pos place) last
beyond_words (negsuc place) last = before_words (negsuc place)

-- a look at an item outside of its window, where there is a number of items, and where there is
-- none
abbrev pub look_words : Trapped → List ℕ
look_words trapped = if trapped.count == 0 then codes " looks at an item outside of its window"
    else beyond_words trapped.index (trapped.count - 1)

-- what a firing did that ended so
abbrev pub cause_words : Cause → Trapped → List ℕ
cause_words cause.DivZero trapped = codes " divides by zero"
cause_words cause.Index trapped = index_words trapped
cause_words cause.PeekRange trapped = look_words trapped
cause_words cause.Turns trapped = codes " makes more than 1,000,000 turns of loops and calls"
cause_words cause.Calls trapped = codes " has more than 64 calls running at once"

abbrev pub AreCauseWords : Cause → (words : List ℕ) → Type 0
AreCauseWords faulted words = (trapped : Trapped) × (words ≡ cause_words faulted trapped)

-- when it was
abbrev pub round_words : Round → List ℕ
round_words round.Startup = codes ", before the first round"
round_words (round.At number) =
    codes ", in round " ++ decimal number ++ codes " (both count from 0)"

-- a fault in a firing: the node as a person knows it, what it did, in which firing, and when; what
-- is known of what trapped is shown and not proved, so it is that of some index and count
pub record IsFaultSentence (nodes : List Node) (path : Option (List ℕ)) (node firing : ℕ)
    (when : Round) (faulted : Cause) (sentence : List ℕ) : Type 0 where
  pub trapped : Trapped
  pub whole : sentence ≡ node_words nodes path node ++ cause_words faulted trapped
      ++ codes " in its firing " ++ decimal firing ++ round_words when
