-- Writing bytes until none are left.
use Rattle.std.proofs.Common.{◌≡◌, ℕ, ◌-◌, ◌≤◌, List, [], ◌++◌, length, take, drop, true, refl, sym}
use Rattle.std.proofs.Common.{ap, ◌∙◌, subst, append_assoc, append-nil, take-append-drop}
use Rattle.std.proofs.Common.{drop_of_length-le}
use Rattle.std.proofs.KnownBytes.{Appends-trans, Appends-nil, Appends-kept}
use Rattle.std.proofs.lemmas.List.{take_rest}
use Rattle.std.specs.Io.KnownBytes.{Appends, Keeps}
use Rattle.strc_cli.specs.Executes.{Device, Wrote, FailedIn}

-- some of these bytes are written, and the rest is left
pub record Gone (all rest : List ℕ) (before after : Device) : Type 0 where
  pub done : List ℕ
  pub split : all ≡ done ++ rest
  pub taken : Appends before.taken after.taken done
  pub steady : after.has_failed ≡ before.has_failed

pub gone_start : (all : List ℕ) (before : Device) → Gone all all before before
gone_start all before = record {
  done = [];
  split = refl;
  taken = Appends-nil before.taken;
  steady =
      refl;
}

pub gone_more : (all rest : List ℕ) (n : ℕ) (before mid after : Device) → Gone all rest before mid
    → Appends mid.taken after.taken (take n rest) → after.has_failed ≡ mid.has_failed
    → Gone all (take (length rest - n) (drop n rest)) before after
gone_more all rest n before mid after gone taken steady = record {
  done = gone.done ++ take n rest;
  split = gone.split ∙ ap (λ l. gone.done ++ l) (sym (take-append-drop n rest))
      ∙ sym (append_assoc gone.done (take n rest) (drop n rest))
      ∙ ap (λ l. (gone.done ++ take n rest) ++ l) (sym (take_rest rest n));
  taken = Appends-trans before.taken mid.taken after.taken gone.done (take n rest) gone.taken taken;
  steady = steady ∙ gone.steady;
}

pub gone_all : (all rest : List ℕ) (before after : Device) → Gone all rest before after
    → length rest ≤ 0 → Wrote all before after
gone_all all rest before after gone none = record {
  taken = subst (Appends before.taken after.taken)
      (sym (gone.split ∙ ap (λ l. gone.done ++ l) (drop_of_length-le rest {i = 0} none)
      ∙ append-nil gone.done)) gone.taken;
  steady = gone.steady;
}

pub gone_failed : (all rest : List ℕ) (before mid after : Device) → Gone all rest before mid
    → Keeps mid.taken after.taken → after.has_failed ≡ true → FailedIn all before after
gone_failed all rest before mid after gone kept failed = record {
  beginning = gone.done;
  rest = rest;
  is = gone.split;
  taken = Appends-kept before.taken mid.taken after.taken gone.done gone.taken kept;
  failed = failed;
}
