-- What is known of a refusal.
use Rattle.std.specs.Prelude.{pos, None}
use Rattle.strc_work_rules.specs.declared.site.Site.{Site}
use Rattle.strc_run_refusal.specs.declared.placed_refusal.PlacedRefusal.{PlacedRefusal}
use Rattle.strc_run_refusal.specs.declared.refusal.Refusal.{Refusal}

-- a site of which nothing is known
abbrev pub nowhere : Site
nowhere = record {
  place = None;
  mismatch = None;
  trapped = record { mark = 0; index = pos 0; count = 0 };
}

-- a refusal at a site, of which nothing else is known
abbrev pub placed_at : Refusal → Site → PlacedRefusal
placed_at refused site = record {
  refusal = refused;
  site = site;
  within = tt;
  statement = None;
  stream = None;
  graph = None;
}

-- a refusal of which nothing is known
abbrev pub unplaced : Refusal → PlacedRefusal
unplaced refused = placed_at refused nowhere
