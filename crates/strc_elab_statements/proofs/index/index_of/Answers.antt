use Rattle.std.proofs.Common.{ℕ, List, take, map, None, Some, Bor, ap, ◌∙◌, sym, nat_eq, cond}
use Rattle.std.proofs.Common.{is_some}
use Rattle.std.specs.Map.{lookup}
use Rattle.std.specs.Cmp.Lexicographic.{pointwise}
use Rattle.indexmap.proofs.CallerLemmas.{insert_entry-new}
use Rattle.strc_parse_tree.specs.declared.tree.Decl.{Decl}
use Rattle.strc_elab_statements.specs.Names.{place_from}
use Rattle.strc_elab_statements.specs.MainStreams.{not_doubled}
use Rattle.strc_elab_statements.proofs.NameTables.{first_found, lookup-append, named_push}
use Rattle.strc_elab_statements.proofs.NameTables.{doubled_later, doubled_here}
use Rattle.strc_elab_statements.proofs.index.index_of.Goals as goal

pub loop-number-preserved : goal.loop-number-preserved
loop-number-preserved c =
    let all = c.args.declarations.now in
    let i = c.loop-number.number in
    let x = c.index-declarations-number.result in
    let key = c.as_bytes.result in
    let none = c.in_default.is in
    record {
      places = λ name.
          let test : Bor (List ℕ) → _ = λ k. pointwise nat_eq name k.now in
          ap (lookup test) c.in_ok-first.ensures.entries
          ∙ ap (lookup test) (insert_entry-new _ c.loop-number.numbers key i
          (sym c.in_ok-first.ensures.old ∙ none))
          ∙ lookup-append test c.loop-number.numbers.entries key i
          ∙ ap (λ (n : List ℕ). first_found (lookup test c.loop-number.numbers.entries)
          (cond (pointwise nat_eq name n) (Some i) None)) c.as_bytes.ensures
          ∙ named_push all i x c.loop-number-test.true c.index-declarations-number.is name
          (lookup test c.loop-number.numbers.entries) (c.loop-number.invariant.places name);
      doubles = doubled_later all i x c.loop-number-test.true c.index-declarations-number.is
          c.in_ok-first.field-0 (c.in_ok-first.ensures.old
          ∙ c.loop-number.invariant.places key.now
          ∙ ap (place_from 0 (map (λ (d : Decl). d.name) (take i all))) c.as_bytes.ensures) none
          ∙ c.loop-number.invariant.doubles;
    }

pub returns-in-Some-clause-distinct : goal.returns-in-Some-clause-distinct
returns-in-Some-clause-distinct c =
    let all = c.args.declarations.now in
    let i = c.loop-number.number in
    let x = c.index-declarations-number.result in
    rw c.declared_twice.ensures (ap not_doubled (sym c.loop-number.invariant.doubles
    ∙ doubled_here all i x c.loop-number-test.true c.index-declarations-number.is
    c.in_ok-first.field-0 (c.in_ok-first.ensures.old
    ∙ c.loop-number.invariant.places c.as_bytes.result.now
    ∙ ap (place_from 0 (map (λ (d : Decl). d.name) (take i all))) c.as_bytes.ensures)
    (ap is_some c.in-Some.is)))
