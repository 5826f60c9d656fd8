-- Numbers that are pulled from the input.
use Rattle.std.proofs.Common.{◌≡◌, ℕ, ◌<◌, ℤ, Bool, true, false, List, [], ◌∷◌, ◌++◌, length}
use Rattle.std.proofs.Common.{Option, Some, None, Result, Ok, Err, refl, sym, ap, ◌∙◌, arith}
use Rattle.std.proofs.Common.{append_assoc, append-nil, length-append, subst}
use Rattle.std.specs.Io.KnownBytes.{Consumes, IsAtEnd, Keeps}
use Rattle.strc_cli_input.specs.Numbers.{error_of, given, ints}
use Rattle.strc_cli_input.specs.Reading.{Begins, Reads, Fails, bytes_read, ended, reported, unread}
use Rattle.strc_cli_input.specs.Reading.{word_ended}
use Rattle.strc_cli_input.specs.NumberReading.{HasPulled, HasPulledAll, IsFilled, IsPulled}
use Rattle.strc_cli_input.specs.NumberReading.{IsReadOn, IsScanned, ScansTo, WritesUpTo, rest_of}
use Rattle.strc_cli_input.specs.declared.input.ReadStop.{ReadStop}
use Rattle.strc_cli_input.specs.declared.input.ReadStop.TheVariants as stop
use Rattle.strc_cli_input.specs.declared.number_reader.NumberReader.{NumberReader}
use Rattle.strc_cli_input.specs.declared.numbers.Word.{Word}
use Rattle.strc_cli_input.proofs.Bytes.{read_append}
use Rattle.strc_cli_input.proofs.Given.{given_begins_so, given_is_so}
use Rattle.strc_cli_input.proofs.InputPieces.{consumes_more}
use Rattle.strc_cli_input.proofs.Inputs.{fails_for_good, reads_ints}

both : {A : Type 0} (b : Bool) → b ≡ true → b ≡ false → A
both b ended_so not_so = let wrong : true ≡ false = sym ended_so ∙ not_so in absurd (cc)

-- bytes at hand are read
pub pulled_more : (first left : Option (List ℕ)) (numbers more : List ℤ)
    (before after : NumberReader) → HasPulled first left numbers before → before.ended ≡ false
    → ScansTo numbers more before after → HasPulled first left more after
pulled_more first left numbers more before after has unended so = record {
  taken = has.taken;
  consumed = has.consumed;
  parsed = has.parsed ++ so.done;
  split = has.split ∙ ap (λ l. has.parsed ++ l) so.split
      ∙ sym (append_assoc has.parsed so.done (rest_of after));
  read = λ _. read_append unread has.parsed so.done
      ∙ ap (λ r. bytes_read r so.done) (has.read unended) ∙ so.read;
  whole = λ ended_so. both after.ended ended_so (so.ended ∙ unended);
  count = so.count;
}

-- ---- a word that writes no number

begins_just : (numbers all : List ℤ) → Begins numbers all → length all ≡ length numbers
    → all ≡ numbers
begins_just numbers all begins same =
    begins.is ∙ ap (λ l. numbers ++ l) (none begins.later
    (let many = length-append numbers begins.later in
    let e = ap length begins.is in omega (arith, many, e, same)))
    ∙ append-nil numbers
  where
    none : (later : List ℤ) → length later ≡ 0 → later ≡ []
    none [] is = refl
    none (value ∷ later) is = absurd (omega arith)

wrong_given : (all parsed more : List ℕ) (numbers : List ℤ) (last : Word) (word : ℕ)
    → all ≡ parsed ++ more → bytes_read unread parsed ≡ Reads numbers last
    → ints all ≡ Err word → word ≡ length numbers → given all ≡ numbers
wrong_given all parsed more numbers last word is read wrong many =
    begins_just numbers (given all)
    (subst (λ l. Begins numbers (given l)) (sym is)
    (given_begins_so parsed more numbers last read))
    ((given_is_so all).1 word wrong ∙ many)

pub pulled_wrong : (first left : Option (List ℕ)) (numbers : List ℤ) (before : NumberReader)
    (word : ℕ) → HasPulled first left numbers before → before.ended ≡ false
    → bytes_read (Reads numbers before.last) (rest_of before) ≡ Fails word
    → word ≡ length numbers → WritesUpTo first numbers (Some word)
pulled_wrong None left numbers before word has unended fails many = tt
pulled_wrong (Some all) None numbers before word has unended fails many = absurd has.consumed
pulled_wrong (Some all) (Some rest) numbers before word has unended fails many =
    let read = has.read unended in
    let taken_fails : bytes_read unread has.taken ≡ Fails word = ap (bytes_read unread) has.split
    ∙ read_append unread has.parsed (rest_of before)
    ∙ ap (λ r. bytes_read r (rest_of before)) read ∙ fails in
    let wrong : ints all ≡ Err word = ap ints has.consumed
    ∙ fails_for_good has.taken rest word taken_fails in (
      wrong_given all has.parsed (rest_of before ++ rest) numbers before.last word
          (has.consumed ∙ ap (λ l. l ++ rest) has.split
          ∙ append_assoc has.parsed (rest_of before) rest)
          read wrong many,
      ap error_of wrong,
    )

pub pull_fails : (first left : Option (List ℕ)) (numbers : List ℤ) (before after : NumberReader)
    (why : ReadStop) → HasPulled first left numbers before → before.ended ≡ false
    → IsScanned numbers before (Err why) after → IsPulled first left numbers (Err why) after
pull_fails first left numbers before after (stop.BadInput word) has unended so =
    (pulled_wrong first left numbers before word has unended so.0 so.1, so.1)
pull_fails first left numbers before after stop.Failed has unended so = absurd so
pull_fails first left numbers before after stop.NoMemory has unended so = absurd so

-- ---- more bytes

all_parsed : (first left : Option (List ℕ)) (numbers : List ℤ) (reader : NumberReader)
    (has : HasPulled first left numbers reader) → rest_of reader ≡ [] → has.taken ≡ has.parsed
all_parsed first left numbers reader has none =
    has.split ∙ ap (λ l. has.parsed ++ l) none ∙ append-nil has.parsed

pub pulled_piece : (first middle last : Option (List ℕ)) (numbers : List ℤ)
    (before after : NumberReader) (piece : List ℕ) → HasPulled first middle numbers before
    → rest_of before ≡ [] → before.ended ≡ false → Consumes middle last piece
    → rest_of after ≡ piece → after.last ≡ before.last → after.count ≡ before.count
    → after.ended ≡ before.ended → HasPulled first last numbers after
pulled_piece first middle last numbers before after piece has none unended consumed at same_last
    same_count same_ended = record {
      taken = has.taken ++ piece;
      consumed = consumes_more first middle last has.taken piece has.consumed consumed;
      parsed = has.parsed;
      split = ap (λ l. l ++ piece) (all_parsed first middle numbers before has none)
          ∙ ap (λ l. has.parsed ++ l) (sym at);
      read = λ _. has.read unended ∙ ap (Reads numbers) (sym same_last);
      whole = λ ended_so. both after.ended ended_so (same_ended ∙ unended);
      count = same_count ∙ has.count;
    }

keeps_consumed : (first middle last : Option (List ℕ)) (taken : List ℕ)
    → Consumes first middle taken → Keeps middle last → Consumes first last taken
keeps_consumed None middle last taken consumed keeps = tt
keeps_consumed (Some bytes) None last taken consumed keeps = absurd consumed
keeps_consumed (Some bytes) (Some rest) None taken consumed keeps = absurd keeps
keeps_consumed (Some bytes) (Some rest) (Some others) taken consumed keeps =
    consumed ∙ ap (λ l. taken ++ l) (sym keeps)

-- a read that failed gave none
pub pulled_failed : (first middle last : Option (List ℕ)) (numbers : List ℤ)
    (before after : NumberReader) → HasPulled first middle numbers before
    → rest_of before ≡ [] → before.ended ≡ false → Keeps middle last
    → rest_of after ≡ [] → after.last ≡ before.last → after.count ≡ before.count
    → after.ended ≡ before.ended → HasPulledAll first last numbers after
pulled_failed first middle last numbers before after has none unended keeps at same_last same_count
    same_ended = record {
      pulled = record {
        taken = has.taken;
        consumed = keeps_consumed first middle last has.taken has.consumed keeps;
        parsed = has.parsed;
        split = has.split ∙ ap (λ l. has.parsed ++ l) (none ∙ sym at);
        read = λ _. has.read unended ∙ ap (Reads numbers) (sym same_last);
        whole = λ ended_so. both after.ended ended_so (same_ended ∙ unended);
        count = same_count ∙ has.count;
      };
      all = at;
      unended = same_ended ∙ unended;
    }

-- ---- the end

ints_at_end : (first last : Option (List ℕ)) (taken : List ℕ) (numbers : List ℤ) (end : Word)
    → Consumes first last taken → IsAtEnd last → bytes_read unread taken ≡ Reads numbers end
    → (all : List ℕ) → first ≡ Some all → ints all ≡ reported (word_ended numbers end)
ints_at_end None last taken numbers end consumed over read all is = absurd (cc)
ints_at_end (Some bytes) None taken numbers end consumed over read all is = absurd consumed
ints_at_end (Some bytes) (Some rest) taken numbers end consumed over read all is =
    let same : all ≡ bytes = cc in
    ap ints (same ∙ consumed ∙ ap (λ l. taken ++ l) over ∙ append-nil taken)
    ∙ sym (reads_ints taken) ∙ ap ended read

writes_all : (first : Option (List ℕ)) (numbers : List ℤ)
    → ((all : List ℕ) → first ≡ Some all → ints all ≡ Ok numbers)
    → WritesUpTo first numbers None
writes_all None numbers so = tt
writes_all (Some all) numbers so =
    ((given_is_so all).0 numbers (so all refl), ap error_of (so all refl))

writes_wrong : (first left : Option (List ℕ)) (numbers : List ℤ) (before : NumberReader)
    (word : ℕ) (has : HasPulled first left numbers before) → before.ended ≡ false
    → ((all : List ℕ) → first ≡ Some all → ints all ≡ Err word) → word ≡ length numbers
    → WritesUpTo first numbers (Some word)
writes_wrong None left numbers before word has unended so many = tt
writes_wrong (Some all) None numbers before word has unended so many = absurd has.consumed
writes_wrong (Some all) (Some rest) numbers before word has unended so many = (
  wrong_given all has.parsed (rest_of before ++ rest) numbers before.last word
      (has.consumed ∙ ap (λ l. l ++ rest) has.split
      ∙ append_assoc has.parsed (rest_of before) rest)
      (has.read unended) (so all refl) many,
  ap error_of (so all refl),
)

module _ (first last : Option (List ℕ)) (numbers : List ℤ) (before after : NumberReader)
    (has : HasPulled first last numbers before) (none : rest_of before ≡ [])
    (unended : before.ended ≡ false) (over : IsAtEnd last) where
  ints_are : (all : List ℕ) → first ≡ Some all
      → ints all ≡ reported (word_ended numbers before.last)
  ints_are = ints_at_end first last has.taken numbers before.last has.consumed over
      (ap (bytes_read unread) (all_parsed first last numbers before has none)
      ∙ has.read unended)

  pub pulled_end : (result : Result (Option ℤ) ReadStop)
      → IsReadOn (word_ended numbers before.last) numbers result after
      → after.ended ≡ true → rest_of after ≡ [] → IsPulled first last numbers result after
  pulled_end (Ok (Some number)) to ended_so at = record {
    taken = has.taken;
    consumed = has.consumed;
    parsed = has.parsed;
    split = has.split ∙ ap (λ l. has.parsed ++ l) (none ∙ sym at);
    read = λ not_so. both after.ended ended_so not_so;
    whole = λ _. writes_all first (numbers ++ number ∷ [])
        (λ all is. ints_are all is ∙ ap reported to.read);
    count = to.count;
  }
  pulled_end (Ok None) to ended_so at =
      writes_all first numbers (λ all is. ints_are all is ∙ ap reported to.read)
  pulled_end (Err (stop.BadInput word)) to ended_so at = (
    writes_wrong first last numbers before word has unended
        (λ all is. ints_are all is ∙ ap reported to.0) to.1,
    to.1,
  )
  pulled_end (Err stop.Failed) to ended_so at = absurd to
  pulled_end (Err stop.NoMemory) to ended_so at = absurd to

-- ---- a window of them

pub fill_fails : (first left : Option (List ℕ)) (numbers window : List ℤ) (need : ℕ)
    (why : ReadStop) (after : NumberReader) → length window < need
    → IsPulled first left (numbers ++ window) (Err why) after
    → IsFilled first left numbers need (Err why) window after
fill_fails first left numbers window need (stop.BadInput word) after few so = (few, so.0, so.1)
fill_fails first left numbers window need stop.Failed after few so = (few, so)
fill_fails first left numbers window need stop.NoMemory after few so = tt
