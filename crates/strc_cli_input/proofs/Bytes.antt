-- Bytes that are read one after another.
use Rattle.std.proofs.Common.{◌≡◌, ℕ, suc, ◌<◌, List, [], ◌∷◌, ◌++◌, length, drop, get_or, refl}
use Rattle.std.proofs.Common.{sym, ap, ◌∙◌}
use Rattle.std.proofs.Math.Seq.{drop-cons}
use Rattle.std.specs.Prelude.{Err}
use Rattle.strc_cli_input.specs.ReadAnswers.{IsRead}
use Rattle.strc_cli_input.specs.declared.numbers.InputError.{InputError}
use Rattle.strc_cli_input.specs.declared.numbers.InputError.TheVariants as error
use Rattle.strc_cli_input.specs.Reading.{Reading, Fails, byte_read, bytes_read}

-- where a word writes no number, nothing is read any more
pub fails_stay : (number : ℕ) (rest : List ℕ) → bytes_read (Fails number) rest ≡ Fails number
fails_stay number [] = refl
fails_stay number (byte ∷ rest) = fails_stay number rest

pub read_append : (reading : Reading) (first rest : List ℕ)
    → bytes_read reading (first ++ rest) ≡ bytes_read (bytes_read reading first) rest
read_append reading [] rest = refl
read_append reading (byte ∷ first) rest = read_append (byte_read reading byte) first rest

-- a byte that is refused refuses all that are left
pub refused_on : (reading whole after : Reading) (bytes : List ℕ) (i d : ℕ) (e : InputError)
    → i < length bytes → bytes_read reading (drop i bytes) ≡ whole
    → IsRead (byte_read reading (get_or bytes i d)) (Err e) after → IsRead whole (Err e) after
refused_on reading whole after bytes i d (error.BadInput word) within left refused =
    sym left
    ∙ ap (bytes_read reading) (drop-cons bytes i d within)
    ∙ ap (λ r. bytes_read r (drop (suc i) bytes)) refused
    ∙ fails_stay word (drop (suc i) bytes)
refused_on reading whole after bytes i d error.NoMemory within left refused = tt
