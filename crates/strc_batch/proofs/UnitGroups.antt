-- Units in groups, and one more of them.
use Rattle.std.proofs.Common.{◌≡◌, sym, ap, ◌∙◌, ℕ, ◌<◌, List, [], ◌∷◌, ◌++◌, length, map, get_or}
use Rattle.std.proofs.Common.{set, subst, Vec}
use Rattle.std.specs.Global.{Global}
use Rattle.std.proofs.lemmas.List.{get_or-map, length-map, map-append, map-set}
use Rattle.strc_sched_orders.specs.declared.unit as unit_type
use Rattle.strc_fuse.specs.Units.{round_unit}
use Rattle.strc_batch.specs.Batches.{HasManyTurns, HaveManyTurns, IsManyTurns}
use Rattle.strc_batch.specs.Listed.{group_view, units_in}
use Rattle.strc_batch.specs.declared.error.BatchError.{BatchError}
use Rattle.strc_batch.specs.declared.error.BatchError.TheVariants as refused

-- one unit more in a group
pub added : (groups : List (Vec unit_type.Unit.Unit Global)) (group : ℕ)
    (unit : unit_type.Unit.Unit) (old new : Vec unit_type.Unit.Unit Global)
    → group < length groups → old ≡ get_or groups group old → new.items ≡ old.items ++ unit ∷ []
    → units_in (set groups group new)
    ≡ set (units_in groups) group (get_or (units_in groups) group [] ++ round_unit unit ∷ [])
added groups group unit old new within was pushed =
    let own = units_in groups in
    let same : get_or own group [] ≡ group_view old =
    get_or-map group_view groups group old [] within ∙ ap group_view (sym was) in
    map-set group_view groups group new
    ∙ ap (set own group)
    (ap (map round_unit) pushed ∙ map-append round_unit old.items (unit ∷ [])
    ∙ ap (λ l. l ++ round_unit unit ∷ []) (sym same))

many_so : (A B : Type 0) (error : BatchError) → (A → B) → IsManyTurns A error
    → IsManyTurns B error
many_so A B refused.Long so is = so is
many_so A B refused.NoMemory so is = tt
many_so A B (refused.BufferLimit channel) so is = absurd is

-- a group with many turns is one of all
pub group_many : (groups : List (Vec unit_type.Unit.Unit Global)) (place : ℕ)
    (group : Vec unit_type.Unit.Unit Global) (rounds : ℕ) (error : BatchError)
    → place < length groups → group ≡ get_or groups place group
    → IsManyTurns (HasManyTurns (group_view group) rounds) error
    → IsManyTurns (HaveManyTurns (units_in groups) rounds) error
group_many groups place group rounds error less is =
    many_so (HasManyTurns (group_view group) rounds) (HaveManyTurns (units_in groups) rounds) error
    (λ many. record {
      group = group_view group;
      there = (
        place,
        subst (λ n. place < n) (sym (length-map groups group_view)) less,
        get_or-map group_view groups place group (group_view group) less
            ∙ ap group_view (sym is),
      );
      many = many;
    })
