use Rattle.strc_parse.proofs.Placed.{fields_closed}
use Rattle.strc_parse.proofs.member.fields.Goals as goal

pub returns-clause-placed : goal.returns-clause-placed
returns-clause-placed c =
    rw c.new.ensures (fields_closed c.args.limit c.args.all.now c.args.tokens.now
    c.in_ok-declared.declared c.in_ok-declared-2.declared c.place_between-place.result
    c.in_ok-declared.ensures c.place_between-place.ensures c.in_ok-declared-2.ensures)
