use Rattle.std.proofs.Common.{◌≡◌, ◌∙◌, ℕ, ◌+◌, List, [], ◌++◌, Option, Some, None, IfSome, take}
use Rattle.std.proofs.Common.{ap, subst}
use Rattle.std.specs.Prelude.{option_map}
use Rattle.strc_lex.specs.Text.{text_limit}
use Rattle.strc_lex.proofs.program_text.read_text.Goals as goal

-- what is read up to a limit, where the text was empty before
read_up_to : (bytes : Option (List ℕ)) (limit : ℕ) (before after : List ℕ) → before ≡ []
    → IfSome (option_map (take limit) bytes) (λ front. after ≡ before ++ front)
    → IfSome bytes (λ all. after ≡ take limit all)
read_up_to None limit before after empty read = tt
read_up_to (Some all) limit before after empty read =
    read ∙ ap (λ (text : List ℕ). text ++ take limit all) empty

pub returns-in-Ok-clause-read : goal.returns-in-Ok-clause-read
returns-in-Ok-clause-read g c =
    let read = read_up_to (g.R.Read.remaining c.take.result.inner.now) c.take.result.limit
    c.new-text.result.items c.read_to_end.new.buf.items
    c.new-text.ensures.items c.in-Ok.ensures.bytes in
    let limit : c.take.result.limit ≡ text_limit + 1 = c.take.ensures.limit in
    let limited =
    subst (λ (limit : ℕ). IfSome (g.R.Read.remaining c.take.result.inner.now)
    (λ all. c.read_to_end.new.buf.items ≡ take limit all)) limit read in
    subst (λ (bytes : Option (List ℕ)). IfSome bytes
    (λ all. c.read_to_end.new.buf.items ≡ take (text_limit + 1) all))
    (ap (λ reader. g.R.Read.remaining reader.now) c.take.ensures.inner) limited
