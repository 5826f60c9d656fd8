-- Firings of a node in a row that pass items on, at once.
use Rattle.std.specs.Prelude.{◌≡◌, ℕ, ◌+◌, ◌-◌, ◌^◌, ◌<◌, ℤ, List, [], ◌∷◌}
use Rattle.std.specs.Prelude.{length, min, Bool, true, false, Some}
use Rattle.std.specs.Prelude.{slice_get, slice_set, slice_index, slice_index_or}
use Rattle.strc_work_meaning.specs.declared.word.Word.{Word}
use Rattle.strc_elab_graph.specs.Graphs.{NodeCode}
use Rattle.strc_sched_orders.specs.Order.{repeated}
use Rattle.strc_sched_laws.specs.Machine.{CircuitView, Went, order_run}
use Rattle.strc_sched_laws.specs.Rings.{Ring}
use Rattle.strc_sched_filters.specs.Identities.{KeepsNothing}

-- so many firings of a node that keeps no fields leave these rings, and count themselves
abbrev pub PassesOn : CircuitView → (node turns : ℕ) → (before after : List Ring) → Type 0
PassesOn circuit node turns before after =
    (fields : List (List ℤ)) (fired : List ℕ) (words : List (List Word))
    → slice_index_or fields node [] ≡ [] → node < length fired → slice_index fired node < 2 ^ 64
    → order_run circuit (repeated turns (node ∷ []))
    (record { fields = fields; fired = fired; rings = before; words = words })
    ≡ Went (record {
      fields = fields;
      fired = slice_set fired node (min (slice_index fired node + turns) (2 ^ 64 - 1));
      rings = after;
      words = words;
    })

-- an answer tells whether a node that keeps nothing has fired so often, and what it left
abbrev pub HasPassed : CircuitView → (node turns : ℕ) → Bool → (before after : List Ring) → Type 0
HasPassed circuit node turns true before after =
    ((code : NodeCode) → slice_get circuit.codes node ≡ Some code → KeepsNothing code)
    × PassesOn circuit node turns before after
HasPassed circuit node turns false before after = after ≡ before
