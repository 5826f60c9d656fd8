-- Which ports of splitters and joiners carry items, by their numbers and as lists.
use Rattle.std.proofs.Common.{◌≡◌, ℕ, zero, suc, false, List, [], ◌∷◌, nat_lt}
use Rattle.std.proofs.Common.{slice_index, slice_index_or, refl}
use Rattle.strc_elab_graph.specs.Graphs.{SplitterCode, Duplicate, Roundrobin}
use Rattle.strc_elab_graph.specs.Carriers.{splitter_carries}
use Rattle.strc_elab_stream.specs.Types.{splitter_carried, joiner_carried}

pub joiner_carries_is : (weights : List ℕ) (port : ℕ)
    → nat_lt 0 (slice_index weights port) ≡ slice_index_or (joiner_carried weights) port false
joiner_carries_is [] port = refl
joiner_carries_is (weight ∷ weights) zero = refl
joiner_carries_is (weight ∷ weights) (suc port) = joiner_carries_is weights port

pub splitter_carries_is : (splitter : SplitterCode) (port : ℕ)
    → splitter_carries splitter port ≡ slice_index_or (splitter_carried splitter) port false
splitter_carries_is (Duplicate carried) port = refl
splitter_carries_is (Roundrobin weights) port = joiner_carries_is weights port
