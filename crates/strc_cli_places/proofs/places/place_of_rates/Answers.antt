use Rattle.strc_work_meaning.specs.Filters.{filter_of}
use Rattle.strc_cli_places.specs.Refused as refused
use Rattle.strc_cli_places.proofs.Marking.{found_marked}
use Rattle.strc_cli_places.proofs.places.place_of_rates.Goals as goal

pub returns-in-Some-2-clause-mismatch : goal.returns-in-Some-2-clause-mismatch
returns-in-Some-2-clause-mismatch c = λ node declared counted is.
    found_marked c.args.known.source.text.now c.args.known.source.tokens.now _
    (filter_of c.in-Some.code.now) refused.is_wrong c.in_ok-moved.field-0 c.in-Some-2.moved
    c.place_of_rate.result c.in-Some.ensures.filter
    (c.in_ok-moved.ensures.mismatch node declared counted is) c.in-Some-2.is
    c.place_of_rate.ensures

pub returns-in-Some-2-clause-limit : goal.returns-in-Some-2-clause-limit
returns-in-Some-2-clause-limit c = λ node is.
    found_marked c.args.known.source.text.now c.args.known.source.tokens.now _
    (filter_of c.in-Some.code.now) refused.is_beyond c.in_ok-moved.field-0 c.in-Some-2.moved
    c.place_of_rate.result c.in-Some.ensures.filter (c.in_ok-moved.ensures.limit node is)
    c.in-Some-2.is c.place_of_rate.ensures
