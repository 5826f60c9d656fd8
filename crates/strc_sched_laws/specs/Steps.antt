-- One firing of a node over the rings at its ports (Lee and Messerschmitt 1987: static buffers).
use Rattle.std.specs.Prelude.{ℕ, suc, ◌*◌, ℤ, List, [], ◌∷◌, length, map, take, drop, sum}
use Rattle.std.specs.Prelude.{replicate}
use Rattle.std.specs.Prelude.{Bool, true, false, ◌&&◌, nat_le, nat_lt, Option, Some, None}
use Rattle.std.specs.Prelude.{Result, Ok, Err}
use Rattle.strc_parse_tree.specs.declared.tree.ItemType.{ItemType}
use Rattle.strc_parse_tree.specs.declared.tree.ItemType.TheVariants as item
use Rattle.strc_work_meaning.specs.Firing as firing
use Rattle.strc_work_meaning.specs.Filters as filters
use Rattle.strc_work_meaning.specs.declared.fault.Cause.{Cause}
use Rattle.strc_work_meaning.specs.declared.word.Word.{Word}
use Rattle.strc_elab_graph.specs.declared.graph.Fission.{Fission}
use Rattle.strc_elab_graph.specs.Graphs as graphs
use Rattle.strc_elab_graph.specs.Graphs.{NodeCode, SplitterCode, Duplicate, Roundrobin, CopiedCode}
use Rattle.strc_elab_graph.specs.Graphs.{OfFilter, OfIdentity}
use Rattle.strc_elab_graph.specs.Meaning.{line_of}
use Rattle.strc_elab_graph.specs.Rates.{body_at, filter_window, filter_pops, reach, round_pops}
use Rattle.strc_elab_graph.specs.Rates.{copy_pops}
use Rattle.strc_sched_laws.specs.Rings.{Ring, at_port, items_at, taken, given, moved, dealt_out}
use Rattle.strc_sched_laws.specs.Rings.{copied_out, gathered_in, scattered_out}

-- what a firing came to: it didn't find its windows; or it left these fields and rings, and wrote
-- words; or it faulted
pub data Step : Type 0 where
  Stays : Step
  Goes : (fields : List ℤ) → (rings : List Ring) → (words : List Word) → Step
  Faults : Cause → Step

-- a firing that finds its windows, or doesn't
abbrev pub if_found : Bool → Step → Step
if_found true step = step
if_found false step = Stays

-- a firing of a filter, by what its text does
abbrev pub filter_after : (pops : ℕ) → (input output : Option ℕ) → List Ring
    → Result firing.Fired Cause → Step
filter_after pops input output rings (Ok done) =
    Goes done.fields (given output done.pushes (taken input pops rings)) done.words
filter_after pops input output rings (Err cause) = Faults cause

-- how many items a filter looks at where it takes any at all
abbrev pub look_by : ItemType → (window : ℕ) → ℕ
look_by item.Int window = window
look_by item.Void window = 0

abbrev pub filter_looks : filters.Filter → (firing : ℕ) → ℕ
filter_looks filter number = look_by filter.input (filter_window filter number)

-- a firing of a filter that looks at so many items and takes so many of them
abbrev pub looking_step : filters.Filter → (firing looks pops : ℕ) → (fields : List ℤ)
    → (input output : Option ℕ) → List Ring → Step
looking_step filter number looks pops fields input output rings =
    if_found (nat_le looks (length (items_at rings input)))
    (filter_after pops input output rings
    (firing.fired filter (body_at number) fields (items_at rings input)))

abbrev pub filter_step : filters.Filter → (firing : ℕ) → (fields : List ℤ)
    → (input output : Option ℕ) → List Ring → Step
filter_step filter number fields input output rings =
    looking_step filter number (filter_looks filter number) (filter_pops filter number) fields input
    output rings

-- whether each port holds as many items as its weight; ports are numbered from one on
abbrev pub finds_weights : (weights : List ℕ) → (inputs : List (Option ℕ)) → (port : ℕ)
    → List Ring → Bool
finds_weights [] inputs port rings = true
finds_weights (weight ∷ weights) inputs port rings =
    nat_le weight (length (items_at rings (at_port inputs port)))
    && finds_weights weights inputs (suc port) rings

abbrev pub duplicate_step : (carried : List Bool) → (input : Option ℕ)
    → (outputs : List (Option ℕ)) → List Ring → Step
duplicate_step carried input outputs rings =
    if_found (nat_le 1 (length (items_at rings input)))
    (Goes []
    (copied_out carried outputs (take 1 (items_at rings input)) 0 (taken input 1 rings)) [])

abbrev pub roundrobin_step : (weights : List ℕ) → (input : Option ℕ)
    → (outputs : List (Option ℕ)) → List Ring → Step
roundrobin_step weights input outputs rings =
    if_found (nat_le (sum weights) (length (items_at rings input)))
    (Goes [] (dealt_out weights input outputs 0 rings) [])

abbrev pub splitter_step : SplitterCode → (input : Option ℕ) → (outputs : List (Option ℕ))
    → List Ring → Step
splitter_step (Duplicate carried) input outputs rings =
    duplicate_step carried input outputs rings
splitter_step (Roundrobin weights) input outputs rings =
    roundrobin_step weights input outputs rings

abbrev pub identity_step : (input output : Option ℕ) → List Ring → Step
identity_step input output rings =
    if_found (nat_le 1 (length (items_at rings input))) (Goes [] (moved input output 1 rings) [])

-- a reader's firing gives the item of its number
abbrev pub reader_step : (firing : ℕ) → (output : Option ℕ) → (input : List ℤ) → List Ring → Step
reader_step firing output input rings =
    if_found (nat_lt firing (length input))
    (Goes [] (given output (take 1 (drop firing input)) rings) [])

abbrev pub writer_step : (input : Option ℕ) → List Ring → Step
writer_step input rings =
    if_found (nat_le 1 (length (items_at rings input)))
    (Goes [] (taken input 1 rings) (map line_of (take 1 (items_at rings input))))

abbrev pub joiner_step : (weights : List ℕ) → (inputs : List (Option ℕ)) → (output : Option ℕ)
    → List Ring → Step
joiner_step weights inputs output rings =
    if_found (finds_weights weights inputs 0 rings)
    (Goes [] (gathered_in weights inputs output 0 rings) [])

-- a scatter finds all windows of a round; each copy is given those of its firings, and then what
-- the round pops is taken
abbrev pub scatter_step : Fission → (input : Option ℕ) → (outputs : List (Option ℕ)) → List Ring
    → Step
scatter_step fission input outputs rings =
    if_found
    (nat_le (reach fission (fission.ways * fission.firings)) (length (items_at rings input)))
    (Goes [] (taken input (round_pops fission)
    (scattered_out fission input outputs fission.ways rings)) [])

-- a copy fires as what it copies, but takes with its last firing of a round what is left of its
-- list
abbrev pub copy_step : CopiedCode → Fission → (firing : ℕ) → (fields : List ℤ)
    → (input output : Option ℕ) → List Ring → Step
copy_step (OfFilter name filter) fission number fields input output rings =
    looking_step filter number (look_by filter.input fission.window) (copy_pops fission number)
    fields input output rings
copy_step OfIdentity fission number fields input output rings =
    if_found (nat_le 1 (length (items_at rings input)))
    (Goes [] (given output (take 1 (items_at rings input))
    (taken input (copy_pops fission number) rings)) [])

-- a gather joins what the copies push in a round, of each as much
abbrev pub gather_step : Fission → (inputs : List (Option ℕ)) → (output : Option ℕ) → List Ring
    → Step
gather_step fission inputs output rings =
    joiner_step (replicate fission.ways (fission.firings * fission.push)) inputs output rings

-- a firing of a node by its number since the beginning, from these values of its fields, over the
-- rings at its ports, and over the program's input
abbrev pub node_step : NodeCode → (firing : ℕ) → (fields : List ℤ)
    → (inputs outputs : List (Option ℕ)) → (input : List ℤ) → List Ring → Step
node_step (graphs.Filter name filter) number fields inputs outputs input rings =
    filter_step filter number fields (at_port inputs 0) (at_port outputs 0) rings
node_step graphs.Identity number fields inputs outputs input rings =
    identity_step (at_port inputs 0) (at_port outputs 0) rings
node_step (graphs.FileReader text) number fields inputs outputs input rings =
    reader_step number (at_port outputs 0) input rings
node_step (graphs.FileWriter text) number fields inputs outputs input rings =
    writer_step (at_port inputs 0) rings
node_step (graphs.Splitter splitter) number fields inputs outputs input rings =
    splitter_step splitter (at_port inputs 0) outputs rings
node_step (graphs.Joiner weights) number fields inputs outputs input rings =
    joiner_step weights inputs (at_port outputs 0) rings
node_step (graphs.Scatter fission) number fields inputs outputs input rings =
    scatter_step fission (at_port inputs 0) outputs rings
node_step (graphs.Copy copied fission) number fields inputs outputs input rings =
    copy_step copied fission number fields (at_port inputs 0) (at_port outputs 0) rings
node_step (graphs.Gather fission) number fields inputs outputs input rings =
    gather_step fission inputs (at_port outputs 0) rings

-- a firing of a node that may not be there: then it finds no windows
abbrev pub maybe_step : Option NodeCode → (firing : ℕ) → (fields : List ℤ)
    → (inputs outputs : List (Option ℕ)) → (input : List ℤ) → List Ring → Step
maybe_step None number fields inputs outputs input rings = Stays
maybe_step (Some code) number fields inputs outputs input rings =
    node_step code number fields inputs outputs input rings
