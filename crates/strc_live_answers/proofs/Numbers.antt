-- The numbers that a live run has read, and the rounds that they serve.
use Rattle.std.proofs.Common.{◌≡◌, ◌∙◌, ℕ, zero, suc, ◌+◌, ◌<◌, ◌≤◌, Bool, true, false, ℤ}
use Rattle.std.proofs.Common.{List, [], ◌++◌, Option, Some, None, refl, sym, ap, inl, inr}
use Rattle.std.proofs.Common.{append_assoc, append-nil, cond, arith}
use Rattle.std.proofs.lemmas.Bool.{cases_lt, ne_eqb}
use Rattle.strc_sched.specs.Serving.{Serves, round_limit}
use Rattle.strc_cli_input.specs.NumberReading.{HasPulled, WritesUpTo, rest_of}
use Rattle.strc_cli_input.specs.Numbers.{given, wrong_word}
use Rattle.strc_cli_input.specs.Reading.{GivenBeginsSo}
use Rattle.strc_cli_input.specs.declared.number_reader.NumberReader.{NumberReader}
use Rattle.strc_live_texts.specs.Live.{last_word}

-- ---- what the input writes

-- the input writes these numbers, and then more, up to its first wrong word
pub record WritesOn (first : Option (List ℕ)) (read : List ℤ) : Type 0 where
  pub more : List ℤ
  pub wrong : Option ℕ
  pub input : WritesUpTo first (read ++ more) wrong

pub pulled_first : GivenBeginsSo → (first left : Option (List ℕ)) (read : List ℤ)
    (reader : NumberReader) → HasPulled first left read reader → WritesOn first read
pulled_first law None left read reader has = record { more = []; wrong = None; input = tt }
pulled_first law (Some all) None read reader has = absurd has.consumed
pulled_first law (Some all) (Some rest) read reader has = by_end reader.ended refl
  where
    by_end : (ended : Bool) → reader.ended ≡ ended → WritesOn (Some all) read
    by_end true ended =
        let whole = has.whole ended in record {
          more = [];
          wrong = None;
          input = (whole.0 ∙ sym (append-nil read), whole.1);
        }
    by_end false unended =
        let later = rest_of reader ++ rest in
        let so = law has.parsed later read reader.last (has.read unended) in
        let whole : all ≡ has.parsed ++ later =
        has.consumed ∙ ap (λ l. l ++ rest) has.split
        ∙ append_assoc has.parsed (rest_of reader) rest in record {
          more = so.later;
          wrong = wrong_word all;
          input = (ap given whole ∙ so.is, refl);
        }

-- ---- rounds

-- so many rounds are served, and these among them
pub record ServesSo (need : ℕ → ℕ) (got from : ℕ) : Type 0 where
  pub rounds : ℕ
  pub serves : Serves need got rounds
  pub among : from ≤ rounds

pub served_from : (need : ℕ → ℕ) (got : ℕ) → need 0 ≤ got → (left from : ℕ)
    → left + from ≡ round_limit → need from ≤ got → ServesSo need got from
served_from need got start zero from all enough = record {
  rounds = from;
  serves = record {
    start = start;
    enough = enough;
    within = omega (arith, all);
    most = inl (omega (arith, all));
  };
  among = omega arith;
}
served_from need got start (suc left) from all enough =
    elim (cases_lt got (need (from + 1))) [
      | inl short ↦ record {
        rounds = from;
        serves = record {
          start = start;
          enough = enough;
          within = omega (arith, all);
          most = inr short;
        };
        among = omega arith;
      }
      | inr more ↦
          let later = served_from need got start left (from + 1) (omega (arith, all)) more in
          record {
            rounds = later.rounds;
            serves = later.serves;
            among = let among = later.among in omega (arith, among);
          }
    ]

-- ---- the word that ends them

-- a wrong word does where more rounds could be done
pub last_before : (rounds : ℕ) (wrong : Option ℕ) → rounds < round_limit
    → last_word rounds wrong ≡ wrong
last_before rounds wrong fewer =
    ap (λ b. cond b none wrong) (ne_eqb rounds round_limit (λ same. omega (arith, same, fewer)))
  where
    none : Option ℕ
    none = None

-- none does where they couldn't
pub last_at : (rounds : ℕ) (wrong : Option ℕ) → rounds ≡ round_limit
    → last_word rounds wrong ≡ None
last_at rounds wrong all = ap (λ n. last_word n wrong) all
