-- Bytes at hand that are read one after another.
use Rattle.std.proofs.Common.{◌≡◌, ℕ, suc, ◌+◌, ◌<◌, ◌≤◌, ℤ, List, [], ◌∷◌, ◌++◌, length, take}
use Rattle.std.proofs.Common.{drop, get_or, refl, sym, ap, ◌∙◌, add-one, append_assoc, arith}
use Rattle.std.proofs.lemmas.List.{get_or-take, length-take-le, drop_all, length-take}
use Rattle.std.proofs.Math.Seq.{drop-cons}
use Rattle.strc_cli_input.specs.Reading.{Reads, Fails, byte_read, bytes_read}
use Rattle.std.specs.Prelude.{Err}
use Rattle.strc_cli_input.specs.NumberReading.{HasSameBytes, IsReadOn, IsScanned, IsWithin}
use Rattle.strc_cli_input.specs.NumberReading.{ReadsTo, ScansTo, rest_of}
use Rattle.strc_cli_input.specs.declared.input.ReadStop.{ReadStop}
use Rattle.strc_cli_input.specs.declared.input.ReadStop.TheVariants as stop
use Rattle.strc_cli_input.specs.declared.number_reader.NumberReader.{NumberReader}
use Rattle.strc_cli_input.proofs.Bytes.{fails_stay, read_append}

drop_one : (piece : List ℕ) (next filled d : ℕ) → next < filled → filled ≤ length piece
    → drop next (take filled piece)
    ≡ get_or piece next d ∷ drop (next + 1) (take filled piece)
drop_one piece next filled d less within =
    let long = length-take-le filled piece within in
    drop-cons (take filled piece) next d (omega (arith, long))
    ∙ ap (λ b. b ∷ drop (suc next) (take filled piece)) (get_or-take filled piece next d less)
    ∙ ap (λ n. get_or piece next d ∷ drop n (take filled piece)) (sym (add-one next))

-- the next byte at hand, and those after it
pub rest_after : (before bumped after : NumberReader) (d : ℕ) → IsWithin before
    → before.next < before.filled
    → bumped.piece ≡ before.piece → bumped.next ≡ before.next + 1
    → bumped.filled ≡ before.filled → HasSameBytes bumped after
    → rest_of before ≡ get_or before.piece.items before.next d ∷ rest_of after
rest_after before bumped after d within less piece next filled to =
    drop_one before.piece.items before.next before.filled d less within.filled
    ∙ ap (λ p. get_or before.piece.items before.next d
    ∷ drop (before.next + 1) (take before.filled p))
    (sym (ap (λ v. v.items) (to.piece ∙ piece)))
    ∙ ap (λ n. get_or before.piece.items before.next d
    ∷ drop n (take before.filled after.piece.items))
    (sym (to.next ∙ next))
    ∙ ap (λ n. get_or before.piece.items before.next d ∷ drop after.next (take n after.piece.items))
    (sym (to.filled ∙ filled))

pub within_after : (before bumped after : NumberReader)
    → IsWithin before → before.next < before.filled
    → bumped.piece ≡ before.piece → bumped.next ≡ before.next + 1
    → bumped.filled ≡ before.filled → HasSameBytes bumped after → IsWithin after
within_after before bumped after within less piece next filled to =
    let same = ap (λ v. length v.items) (to.piece ∙ piece) in
    let at = to.next ∙ next in
    let to_here = to.filled ∙ filled in
    let long = within.filled in
    let some = within.room in record {
      next = omega arith;
      filled = omega arith;
      room = omega arith;
    }

pub scans_none : (numbers : List ℤ) (reader : NumberReader) → reader.count ≡ length numbers
    → ScansTo numbers numbers reader reader
scans_none numbers reader count = record {
  done = [];
  split = refl;
  read = refl;
  count = count;
  ended = refl;
}

module _ (numbers : List ℤ) (start before after : NumberReader) (byte : ℕ)
    (so : ScansTo numbers numbers start before)
    (first : rest_of before ≡ byte ∷ rest_of after) where
  pub scans_more : (more : List ℤ)
      → ReadsTo (byte_read (Reads numbers before.last) byte) more after
      → after.ended ≡ before.ended → ScansTo numbers more start after
  scans_more more to ended = record {
    done = so.done ++ byte ∷ [];
    split = so.split ∙ ap (λ l. so.done ++ l) first
        ∙ sym (append_assoc so.done (byte ∷ []) (rest_of after));
    read = read_append (Reads numbers start.last) so.done (byte ∷ [])
        ∙ ap (λ r. byte_read r byte) so.read ∙ to.read;
    count = to.count;
    ended = ended ∙ so.ended;
  }

-- a word that writes no number
pub scan_fails : (numbers : List ℤ) (start before : NumberReader) (byte : ℕ) (later : List ℕ)
    (word : ℕ) → ScansTo numbers numbers start before → rest_of before ≡ byte ∷ later
    → byte_read (Reads numbers before.last) byte ≡ Fails word
    → bytes_read (Reads numbers start.last) (rest_of start) ≡ Fails word
scan_fails numbers start before byte later word so first fails =
    ap (bytes_read (Reads numbers start.last)) (so.split ∙ ap (λ l. so.done ++ l) first)
    ∙ read_append (Reads numbers start.last) so.done (byte ∷ later)
    ∙ ap (λ r. bytes_read (byte_read r byte) later) so.read
    ∙ ap (λ r. bytes_read r later) fails
    ∙ fails_stay word later

pub failed_scan : (numbers : List ℤ) (start before after : NumberReader) (byte : ℕ)
    (why : ReadStop) → ScansTo numbers numbers start before
    → rest_of before ≡ byte ∷ rest_of after
    → IsReadOn (byte_read (Reads numbers before.last) byte) numbers (Err why) after
    → IsScanned numbers start (Err why) after
failed_scan numbers start before after byte (stop.BadInput word) so first is = (
  scan_fails numbers start before byte (rest_of after) word so first is.0,
  is.1,
)
failed_scan numbers start before after byte stop.Failed so first is = absurd is
failed_scan numbers start before after byte stop.NoMemory so first is = absurd is

-- no byte is left at hand
pub none_left : (reader : NumberReader) → reader.filled ≤ reader.next → rest_of reader ≡ []
none_left reader over =
    let many = length-take reader.filled reader.piece.items in
    drop_all reader.next (take reader.filled reader.piece.items) (omega (arith, many))
