-- How a firing over rings answers.
use Rattle.std.specs.Prelude.{◌≡◌, ℕ, ◌<◌, ℤ, List, [], ◌++◌, Bool, true, false, Option, Some}
use Rattle.std.specs.Prelude.{Result, Ok, Err}
use Rattle.strc_work_meaning.specs.declared.fault.Halt.{Halt}
use Rattle.strc_work_meaning.specs.declared.fault.Halt.TheVariants as halt
use Rattle.strc_work_meaning.specs.declared.word.Word.{Word}
use Rattle.strc_work_instructions.specs.Running.{MoreWords}
use Rattle.strc_sched_laws.specs.Rings.{Ring, at_port}
use Rattle.strc_sched_laws.specs.Steps.{Step, Stays, Goes, Faults}

-- each ring at a port is one of so many
abbrev pub AreRings : (count : ℕ) → List (Option ℕ) → Type 0
AreRings count ports = (port number : ℕ) → at_port ports port ≡ Some number → number < count

-- whether a node without fields fired, and what it left
abbrev pub MovesBy : Step → Bool → (before rings : List Ring) → Type 0
MovesBy step true before rings = step ≡ Goes [] rings []
MovesBy step false before rings = (step ≡ Stays) × (rings ≡ before)

-- an answer tells whether a node fired, what it left, and that its words are after those before
-- it; or its fault; out of memory tells nothing
abbrev pub HasStepped : Step → Result Bool Halt → (fields_before fields : List ℤ)
    → (rings_before rings : List Ring) → (words_before words : List Word) → Type 0
HasStepped step (Ok true) fields_before fields rings_before rings words_before words =
    (more : List Word) × (step ≡ Goes fields rings more) × (words ≡ words_before ++ more)
HasStepped step (Ok false) fields_before fields rings_before rings words_before words =
    (step ≡ Stays) × (fields ≡ fields_before) × (rings ≡ rings_before) × (words ≡ words_before)
HasStepped step (Err (halt.Fault cause)) fields_before fields rings_before rings words_before
    words = (step ≡ Faults cause) × MoreWords words_before words
HasStepped step (Err halt.NoMemory) fields_before fields rings_before rings words_before words =
    MoreWords words_before words
