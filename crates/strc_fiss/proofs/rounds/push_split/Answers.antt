use Rattle.std.proofs.Common.{◌≡◌, ◌∙◌, ap, ap₂, sym, ℕ, List, length, get_or, arith, ◌++◌, ◌∷◌, []}
use Rattle.std.proofs.lemmas.List.{map-append}
use Rattle.strc_fuse.specs.Units.{round_unit, round_units}
use Rattle.strc_elab_graph.specs.declared.graph.Fission.{Fission}
use Rattle.strc_elab_dataflow.specs.FusedUnits.{RoundUnit}
use Rattle.strc_fiss.specs.Numbers.{share_at}
use Rattle.strc_fiss.specs.Units.{part_units, split_unit}
use Rattle.strc_fiss.proofs.Bases.{bases_many, base_read, share_read}
use Rattle.strc_fiss.proofs.Outcomes.{on_ok}
use Rattle.strc_fiss.proofs.Renaming.{map_bases, dealt_within}
use Rattle.strc_fiss.proofs.rounds.push_split.Goals as goal

zeros : Fission
zeros = record { ways = 0; firings = 0; pop = 0; window = 0; push = 0 }

pub bounds-bases-node : goal.bounds-bases-node
bounds-bases-node c =
    let less = c.in-Some.ensures.there in
    omega (
      arith,
      less,
      bases_many (share_at c.args.shares.now) c.args.bases.now (length c.args.shares.now)
          c.requires.bases,
    )

pub push_parts-requires : goal.push_parts-requires
unfolding zeros
push_parts-requires c =
    dealt_within c.args.shares.now c.args.bases.now c.in-Some.node 0 4294967296 zeros
    c.requires.bases
    c.in-Some.ensures.there c.in-Some.ensures.split c.requires.within

pub renamed_unit-requires : goal.renamed_unit-requires
renamed_unit-requires c k d less =
    let within = c.requires.nodes k d less in
    omega (
      arith,
      within,
      bases_many (share_at c.args.shares.now) c.args.bases.now (length c.args.shares.now)
          c.requires.bases,
    )

pub returns-in-Some : goal.returns-in-Some
unfolding zeros
returns-in-Some c =
    let shares = c.args.shares.now in
    let share = share_at shares in
    let bases = c.args.bases.now in
    let node = c.in-Some.node in
    let old = round_units c.args.units.now.items in
    let new = round_units c.push_parts.new.units.items in
    let there = c.in-Some.ensures.there in
    on_ok c.push_parts.result (new ≡ old
    ++ part_units (get_or bases node 0) (get_or shares node zeros))
    (new ≡ old ++ split_unit share (round_unit c.args.unit.now))
    (λ e. e
    ∙ ap (λ l. old ++ l)
    (ap₂ part_units
    (base_read share bases (length shares) node 0 c.requires.bases (omega (arith, there)))
    (share_read shares node zeros there)
    ∙ sym c.in-Some.ensures.parts))
    c.push_parts.ensures

pub returns-in_ok-push-in-None : goal.returns-in_ok-push-in-None
returns-in_ok-push-in-None c =
    let shares = c.args.shares.now in
    let share = share_at shares in
    let unit = c.args.unit.now in
    let old = c.args.units.now.items in
    let made = c.in_ok-renamed_unit-in-None.field-0 in
    let with : List ℕ → RoundUnit = λ nodes. record { turns = unit.turns; nodes = nodes } in
    ap round_units c.in_ok-push-in-None.ensures.items
    ∙ map-append round_unit old (made ∷ [])
    ∙ ap (λ (u : RoundUnit). round_units old ++ u ∷ [])
    (c.in_ok-renamed_unit-in-None.ensures
    ∙ ap with (map_bases share c.args.bases.now (length shares) unit.nodes.items c.requires.bases
    c.requires.nodes))
    ∙ ap (λ l. round_units old ++ l) (sym c.in-None.ensures.none)
