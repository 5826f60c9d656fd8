use Rattle.std.proofs.Common.{◌≡◌, ◌∷◌, ◌∙◌, refl, sym, ap, arith, subst, ◌++◌}
use Rattle.std.proofs.Common.{[], of_z, to_z, to_z-of_z, w32}
use Rattle.strc_cli_input.specs.NumberReading.{ScansTo, rest_of}
use Rattle.strc_cli_input.proofs.NumberScans.{failed_scan, rest_after, scans_more, within_after}
use Rattle.strc_cli_input.proofs.number_reader.NumberReader.scan.Goals as goal

pub loop-self-preserved : goal.loop-self-preserved
loop-self-preserved c =
    let before = c.loop-self.self in
    let after = c.read_byte.new.self in
    let byte = c.index-byte.result.now in
    let within = c.loop-self.invariant.within in
    let same = c.read_byte.ensures.same in
    let first = rest_after before _ after byte within c.loop-self-test.true refl refl refl same
    ∙ ap (λ b. b ∷ rest_of after) (sym c.index-byte.ensures) in record {
      within = within_after before _ after within c.loop-self-test.true refl refl refl same;
      count = (rw c.in-Ok-None.field-0-is at c.in-Ok-None.ensures.count)
          ∙ c.loop-self.invariant.count;
      ended = same.ended ∙ c.loop-self.invariant.ended;
      scanned = λ numbers many.
          scans_more numbers c.args.self.now before after byte
          (c.loop-self.invariant.scanned numbers many) first numbers
          (rw c.in-Ok-None.field-0-is at
          (c.in-Ok-None.ensures.read numbers (c.loop-self.invariant.count ∙ many)))
          same.ended;
    }

pub returns-in-Ok-Some-clause-scanned : goal.returns-in-Ok-Some-clause-scanned
returns-in-Ok-Some-clause-scanned c numbers many =
    let before = c.loop-self.self in
    let after = c.read_byte.new.self in
    let byte = c.index-byte.result.now in
    let same = c.read_byte.ensures.same in
    let first = rest_after before _ after byte c.loop-self.invariant.within c.loop-self-test.true
    refl refl refl same ∙ ap (λ b. b ∷ rest_of after) (sym c.index-byte.ensures) in
    let number_is : to_z w32 (of_z w32 c.in-Ok-Some.number) ≡ c.in-Ok-Some.number =
    grind (arith, to_z-of_z) in
    subst (λ n. ScansTo numbers (numbers ++ n ∷ []) c.args.self.now after) (sym number_is)
    (scans_more numbers c.args.self.now before after byte
    (c.loop-self.invariant.scanned numbers many) first _
    (rw c.in-Ok-Some.field-0-is at
    (c.in-Ok-Some.ensures.read numbers (c.loop-self.invariant.count ∙ many)))
    same.ended)

pub returns-in-Err-clause-scanned : goal.returns-in-Err-clause-scanned
returns-in-Err-clause-scanned c numbers many =
    let before = c.loop-self.self in
    let after = c.read_byte.new.self in
    let byte = c.index-byte.result.now in
    let same = c.read_byte.ensures.same in
    let first = rest_after before _ after byte c.loop-self.invariant.within c.loop-self-test.true
    refl refl refl same ∙ ap (λ b. b ∷ rest_of after) (sym c.index-byte.ensures) in
    failed_scan numbers c.args.self.now before after byte c.in-Err.stop
    (c.loop-self.invariant.scanned numbers many) first
    (c.in-Err.ensures.read numbers (c.loop-self.invariant.count ∙ many))
