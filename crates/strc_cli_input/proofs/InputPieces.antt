-- The input read piece by piece.
use Rattle.std.proofs.Common.{◌≡◌, ℕ, ℤ, List, [], ◌++◌, take, Option, Some, None, Result, Ok, Err}
use Rattle.std.proofs.Common.{refl, sym, ap, ◌∙◌, subst, append-nil, append_assoc, Vec, Global}
use Rattle.std.specs.Io.KnownBytes.{Consumes, IsAtEnd}
use Rattle.strc_cli_input.specs.Numbers.{ints}
use Rattle.strc_cli_input.specs.Reading.{Reading, Fails, unread, bytes_read, ended}
use Rattle.strc_cli_input.specs.Reading.{ReadsInts, FailsForGood, ReadsInPieces}
use Rattle.strc_cli_input.specs.ReadAnswers.{IsRead}
use Rattle.strc_cli_input.specs.declared.numbers.InputError.{InputError}
use Rattle.strc_cli_input.specs.declared.numbers.InputError.TheVariants as error
use Rattle.strc_cli_input.specs.ReadInput.{WritesNumbers}
use Rattle.strc_cli_input.specs.ReadInput.{ReadsNumbers, IsEnded, stop_of}
use Rattle.strc_cli_input.specs.declared.input.ReadStop.{ReadStop}
use Rattle.strc_cli_input.specs.declared.input.ReadStop.TheVariants as stop

-- so far the input, from what it had at first to what it has left, was read to here
pub record HasRead (first left : Option (List ℕ)) (reading : Reading) : Type 0 where
  pub taken : List ℕ
  pub consumed : Consumes first left taken
  pub read : bytes_read unread taken ≡ reading

pub consumes_none : (bytes : Option (List ℕ)) → Consumes bytes bytes []
consumes_none None = tt
consumes_none (Some bytes) = refl

pub consumes_more : (first middle last : Option (List ℕ)) (one two : List ℕ)
    → Consumes first middle one → Consumes middle last two → Consumes first last (one ++ two)
consumes_more None middle last one two h k = tt
consumes_more (Some bytes) None last one two h k = absurd h
consumes_more (Some bytes) (Some rest) None one two h k = absurd k
consumes_more (Some bytes) (Some rest) (Some others) one two h k =
    h ∙ ap (λ l. one ++ l) k ∙ sym (append_assoc one two others)

pub read_none : (bytes : Option (List ℕ)) → HasRead bytes bytes unread
read_none bytes = record { taken = []; consumed = consumes_none bytes; read = refl }

pub read_more : ReadsInPieces → (first middle last : Option (List ℕ)) (reading after : Reading)
    (piece : List ℕ)
    → HasRead first middle reading → Consumes middle last piece
    → bytes_read reading piece ≡ after → HasRead first last after
read_more pieces first middle last reading after piece has consumed is = record {
  taken = has.taken ++ piece;
  consumed = consumes_more first middle last has.taken piece has.consumed consumed;
  read = pieces unread has.taken piece ∙ ap (λ r. bytes_read r piece) has.read ∙ is;
}

-- at the end the numbers of all bytes are known
pub all_read : ReadsInts → (first left : Option (List ℕ)) (reading : Reading)
    (result : Result (List ℤ) ℕ)
    → HasRead first left reading → IsAtEnd left → ended reading ≡ result
    → WritesNumbers first result
all_read reads None left reading result has end is = tt
all_read reads (Some bytes) None reading result has end is = absurd has.consumed
all_read reads (Some bytes) (Some rest) reading result has end is =
    sym (reads bytes)
    ∙ ap (λ l. ended (bytes_read unread l))
    (has.consumed ∙ ap (λ l. has.taken ++ l) end ∙ append-nil has.taken)
    ∙ ap ended has.read ∙ is

-- a word that writes no number is reported at once
pub word_found : FailsForGood → (first left : Option (List ℕ)) (word : ℕ)
    → HasRead first left (Fails word)
    → WritesNumbers first (Err word)
word_found fails None left word has = tt
word_found fails (Some bytes) None word has = absurd has.consumed
word_found fails (Some bytes) (Some rest) word has =
    ap ints has.consumed ∙ fails has.taken rest word has.read

-- nothing more was read
pub read_no_more : ReadsInPieces → (first middle last : Option (List ℕ)) (reading : Reading)
    (n : ℕ) (piece : List ℕ) → HasRead first middle reading → Consumes middle last (take n piece)
    → n ≡ 0
    → HasRead first last reading
read_no_more pieces first middle last reading n piece has consumed none =
    read_more pieces first middle last reading reading (take n piece) has consumed
    (ap (λ m. bytes_read reading (take m piece)) none)

pub ended_reads : ReadsInts → (first left : Option (List ℕ)) (reading : Reading)
    (result : Result (Vec ℤ Global) ReadStop) → HasRead first left reading → IsAtEnd left
    → IsEnded (ended reading) result → ReadsNumbers first result
ended_reads reads first left reading (Ok numbers) has end is =
    all_read reads first left reading (Ok numbers.items) has end is
ended_reads reads first left reading (Err (stop.BadInput word)) has end is =
    all_read reads first left reading (Err word) has end is
ended_reads reads first left reading (Err stop.Failed) has end is = absurd is
ended_reads reads first left reading (Err stop.NoMemory) has end is = tt

pub never_failed : {A : Type 0} (expected : Result (List ℤ) ℕ)
    (result : Result (Vec ℤ Global) ReadStop) → IsEnded expected result → result ≡ Err stop.Failed
    → A
never_failed expected result is failed = absurd (subst (IsEnded expected) failed is)

-- a piece with a word that writes no number
pub word_stops : ReadsInPieces → FailsForGood → (first middle last : Option (List ℕ))
    (reading after : Reading) (piece : List ℕ) (e : InputError) (why : ReadStop)
    → HasRead first middle reading
    → Consumes middle last piece → IsRead (bytes_read reading piece) (Err e) after
    → why ≡ stop_of e → ReadsNumbers first (Err why)
word_stops pieces fails first middle last reading after piece (error.BadInput word) why has consumed
    is reported =
    subst (λ (w : ReadStop). ReadsNumbers first (Err w)) (sym reported)
    (word_found fails first last word
    (read_more pieces first middle last reading (Fails word) piece has consumed is))
word_stops pieces fails first middle last reading after piece error.NoMemory why has consumed is
    reported =
    subst (λ (w : ReadStop). ReadsNumbers first (Err w)) (sym reported) tt
