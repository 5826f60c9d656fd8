use Rattle.std.proofs.Common.{◌≡◌, ◌∷◌, ◌++◌, ◌∙◌, refl, sym, ap, subst, arith, to_z-of_z, to_z}
use Rattle.std.proofs.Common.{of_z, w32, rules, [], take, length, ◌<◌}
use Rattle.std.proofs.lemmas.List.{with_items_is}
use Rattle.strc_cli_input.proofs.NumberScans.{none_left}
use Rattle.strc_cli_input.specs.NumberReading.{HasPulled}
use Rattle.strc_cli_input.proofs.Pulls.{pull_fails, pulled_end, pulled_failed, pulled_more}
use Rattle.strc_cli_input.proofs.Pulls.{pulled_piece}
use Rattle.strc_cli_input.proofs.number_reader.NumberReader.pull.Goals as goal

pub returns-in-Ok-Some-clause-pulled : goal.returns-in-Ok-Some-clause-pulled
returns-in-Ok-Some-clause-pulled g c first numbers has =
    let so = c.loop-self.invariant.pulled first numbers has in
    let same : to_z w32 (of_z w32 c.in-Ok-Some.number) ≡ c.in-Ok-Some.number =
    grind (arith, to_z-of_z) in
    subst (λ n. HasPulled first (g.I.Source.remaining c.loop-self.input) (numbers ++ n ∷ [])
    c.scan.new.self) (sym same)
    (pulled_more first _ numbers _ c.loop-self.self c.scan.new.self so c.loop-self-test.true
    (rw c.in-Ok-Some.field-0-is at (c.in-Ok-Some.ensures.scanned numbers so.count)))

pub returns-in-Err-clause-pulled : goal.returns-in-Err-clause-pulled
returns-in-Err-clause-pulled g c first numbers has =
    let so = c.loop-self.invariant.pulled first numbers has in
    pull_fails first _ numbers c.loop-self.self c.scan.new.self c.in-Err.stop so
    c.loop-self-test.true (c.in-Err.ensures.scanned numbers so.count)

pub returns-in-Ok-eq0-clause-pulled : goal.returns-in-Ok-eq0-clause-pulled
returns-in-Ok-eq0-clause-pulled g c first numbers has =
    let so = c.loop-self.invariant.pulled first numbers has in
    let scanned = rw c.in-Ok-None.field-0-is at (c.in-Ok-None.ensures.scanned numbers so.count) in
    let now = pulled_more first _ numbers numbers c.loop-self.self c.scan.new.self so
    c.loop-self-test.true scanned.0 in
    let none : c.in-Ok-eq0.field-0 ≡ 0 = search rules in
    let bytes = c.in-Ok-eq0.ensures.bytes in
    let same_buffer = c.read.auto.buffer in
    let of_piece = ap length c.deref_mut.ensures.value in
    let some = c.scan.ensures.within.room in
    let room : 0 < length c.read.new.buffer = omega arith in
    let same = c.end_word.ensures.same in
    pulled_end first _ numbers c.scan.new.self c.end_word.new.self
    (pulled_piece first _ (g.I.Source.remaining c.read.new.self) numbers c.scan.new.self
    c.scan.new.self _ now scanned.1 (c.scan.ensures.ended ∙ c.loop-self-test.true) bytes.0
    (scanned.1 ∙ sym (ap (λ n. take n c.read.new.buffer) none)) refl refl refl)
    scanned.1 (c.scan.ensures.ended ∙ c.loop-self-test.true) (bytes.1 none room)
    c.end_word.result (c.end_word.ensures.read numbers now.count) same.ended
    (none_left c.end_word.new.self
    (let none_next = same.next in let none_filled = same.filled in omega arith))

pub loop-self-preserved : goal.loop-self-preserved
loop-self-preserved g c = record {
  within =
      let same_buffer = c.read.auto.buffer in
      let of_piece = ap length c.deref_mut.ensures.value in
      let some = c.scan.ensures.within.room in
      let bound = c.in-Ok.ensures.bound.0 in
      let now = ap length (with_items_is c.scan.new.self.piece c.read.new.buffer
      (c.read.auto.buffer ∙ c.deref_mut.ensures.len)) in record {
        next = omega arith;
        filled = omega arith;
        room = omega arith;
      };
  count = (rw c.in-Ok-None.field-0-is at c.in-Ok-None.ensures.count)
      ∙ c.loop-self.invariant.count;
  pulled = λ first numbers has.
      let so = c.loop-self.invariant.pulled first numbers has in
      let scanned = rw c.in-Ok-None.field-0-is at
      (c.in-Ok-None.ensures.scanned numbers so.count) in
      let now = pulled_more first _ numbers numbers c.loop-self.self c.scan.new.self so
      c.loop-self-test.true scanned.0 in
      pulled_piece first _ _ numbers c.scan.new.self _ _ now scanned.1
      (c.scan.ensures.ended ∙ c.loop-self-test.true) c.in-Ok.ensures.bytes.0
      (ap (take c.in-Ok.count) (with_items_is c.scan.new.self.piece c.read.new.buffer
      (c.read.auto.buffer ∙ c.deref_mut.ensures.len)))
      refl refl refl;
  steady = c.in-Ok.ensures.ok.0 ∙ c.loop-self.invariant.steady;
}

pub returns-in-Err-read-clause-pulled : goal.returns-in-Err-read-clause-pulled
returns-in-Err-read-clause-pulled g c first numbers has =
    let so = c.loop-self.invariant.pulled first numbers has in
    let scanned = rw c.in-Ok-None.field-0-is at (c.in-Ok-None.ensures.scanned numbers so.count) in
    let now = pulled_more first _ numbers numbers c.loop-self.self c.scan.new.self so
    c.loop-self-test.true scanned.0 in
    pulled_failed first _ _ numbers c.scan.new.self _ now scanned.1
    (c.scan.ensures.ended ∙ c.loop-self-test.true) c.in-Err-read.ensures.bytes refl refl refl refl

pub returns-clause-pulled : goal.returns-clause-pulled
returns-clause-pulled g c first numbers has =
    (c.loop-self.invariant.pulled first numbers has).whole c.loop-self-test.false
