-- Places as contracts speak of them.
use Rattle.strc_elab_statements.specs.Texts as texts
use Rattle.strc_elab_statements.specs.declared.steps.Place.{Place}

abbrev pub place_of : Place → texts.Place
place_of place = record { declaration = place.declaration; constants = place.constants.now }
