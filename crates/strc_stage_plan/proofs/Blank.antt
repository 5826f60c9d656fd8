-- Nodes by their rates alone: no firing faults, each gives zeros; but scatters and gathers pass on
-- what they see.
use Rattle.std.proofs.Common.{◌≡◌, refl, sym, ap, ◌∙◌, subst, ℕ, zero, suc, Bool, true, false}
use Rattle.std.proofs.Common.{ℤ, pos, List, [], ◌∷◌, length, replicate}
use mathlib.Core.Path.{fun_ext}
use Rattle.std.proofs.lemmas.List.{length-replicate}
use Rattle.strc_elab_dataflow.specs.Flat as flat
use Rattle.strc_elab_dataflow.specs.Node.{ByPort, Fired, Fired.Fires, Meaning, at_port_0}
use Rattle.strc_elab_dataflow.specs.Queues.{Fifo, FifoProgress.FifoWent, fifo_after, fifo_if}
use Rattle.strc_elab_dataflow.specs.Queues.{fifo_fire}
use Rattle.strc_elab_dataflow.specs.Queues.{fifo_then, fifo_go, fronts, holds}
use Rattle.strc_work_meaning.specs.declared.fault.Cause.{Cause}
use Rattle.strc_work_meaning.specs.declared.word.Word.{Word}
use Rattle.strc_elab_graph.specs.Graphs.{NodeCode, Filter, Identity, FileReader, FileWriter}
use Rattle.strc_elab_graph.specs.Graphs.{Splitter}
use Rattle.strc_elab_graph.specs.Graphs.{Joiner, Scatter, Copy, Gather, CopiedCode, OfFilter}
use Rattle.strc_elab_graph.specs.Graphs.{OfIdentity}
use Rattle.strc_elab_graph.specs.Graphs.{original}
use Rattle.strc_elab_graph.specs.Meaning.{node_meaning, node_fired, node_fields, ports_in}
use Rattle.strc_elab_graph.specs.Rates.{window_at, pops_at, pushes_at, rate_at_0}
use Rattle.strc_elab_graph.specs.declared.graph.Fission.{Fission}
use Rattle.strc_elab_dataflow.specs.Rates.{PushesRates}
use Rattle.strc_sched_laws.specs.Nodes.{HasItsRates}
use Rattle.strc_sched_laws.proofs.Nodes.{nodes_push_rates}
use Rattle.strc_elab_dataflow.specs.Split.{IsStateless, IsScatter, IsCopy, IsGather}
use Rattle.strc_sched_laws.specs.Dealing.{share_of}

abbrev zeros : ℕ → List ℤ
zeros n = replicate n (pos 0)

-- zeros at each port, by the rates
abbrev gives_zeros : NodeCode → (firing : ℕ) → (fields : List ℤ) → Fired (List ℤ) Cause Word
gives_zeros code firing fields = Fires fields (λ port. zeros (pushes_at code firing port)) []

abbrev pub blank_fired : NodeCode → (firing : ℕ) → (fields : List ℤ) → (seen : ByPort)
    → Fired (List ℤ) Cause Word
blank_fired (Filter name filter) firing fields seen =
    gives_zeros (Filter name filter) firing fields
blank_fired Identity firing fields seen = gives_zeros Identity firing fields
blank_fired (FileReader text) firing fields seen = gives_zeros (FileReader text) firing fields
blank_fired (FileWriter text) firing fields seen = gives_zeros (FileWriter text) firing fields
blank_fired (Splitter splitter) firing fields seen = gives_zeros (Splitter splitter) firing fields
blank_fired (Joiner weights) firing fields seen = gives_zeros (Joiner weights) firing fields
blank_fired (Scatter fission) firing fields seen = node_fired (Scatter fission) firing fields seen
blank_fired (Copy copied fission) firing fields seen =
    gives_zeros (Copy copied fission) firing fields
blank_fired (Gather fission) firing fields seen = node_fired (Gather fission) firing fields seen

abbrev pub blank : Meaning NodeCode (List ℤ) Cause Word
blank = record {
  start = node_fields;
  ports = ports_in;
  window = window_at;
  popped = pops_at;
  pushed = pushes_at;
  fire = blank_fired;
}

-- ---- each firing goes through, and pushes at its rates

record Goes (outcome : Fired (List ℤ) Cause Word) : Type 0 where
  state : List ℤ
  pushes : ByPort
  words : List Word
  fires : outcome ≡ Fires state pushes words

goes : (code : NodeCode) (firing : ℕ) (fields : List ℤ) (seen : ByPort)
    → Goes (blank_fired code firing fields seen)
goes (Filter name filter) n f seen =
    record { state = _; pushes = _; words = _; fires = refl }
goes Identity n f seen = record { state = _; pushes = _; words = _; fires = refl }
goes (FileReader text) n f seen = record { state = _; pushes = _; words = _; fires = refl }
goes (FileWriter text) n f seen = record { state = _; pushes = _; words = _; fires = refl }
goes (Splitter splitter) n f seen = record { state = _; pushes = _; words = _; fires = refl }
goes (Joiner weights) n f seen = record { state = _; pushes = _; words = _; fires = refl }
goes (Scatter fission) n f seen = record { state = _; pushes = _; words = _; fires = refl }
goes (Copy copied fission) n f seen = record { state = _; pushes = _; words = _; fires = refl }
goes (Gather fission) n f seen = record { state = _; pushes = _; words = _; fires = refl }

fires_same : (a b : List ℤ) (p q : ByPort) (v w : List Word)
    → ◌≡◌ {A = Fired (List ℤ) Cause Word} (Fires a p v) (Fires b q w)
    → (a ≡ b) × (p ≡ q) × (v ≡ w)
fires_same a b p q v w e = (cc, cc, cc)

zeros_pushed : (code : NodeCode) (firing : ℕ) (fields next : List ℤ) (pushes : ByPort)
    (words : List Word) → gives_zeros code firing fields ≡ Fires next pushes words
    → (port : ℕ) → length (pushes port) ≡ pushes_at code firing port
zeros_pushed code firing fields next pushes words e port =
    ap (λ (p : ByPort). length (p port)) (sym (fires_same _ _ _ _ _ _ e).1)
    ∙ length-replicate (pushes_at code firing port) (pos 0)

pub blank_pushes : (code : NodeCode) → PushesRates blank code (λ fields. true)
blank_pushes (Filter name filter) = record {
  each = λ n fields next seen pushes words kept whole e.
      (refl, zeros_pushed (Filter name filter) n fields next pushes words e);
}
blank_pushes Identity = record {
  each = λ n fields next seen pushes words kept whole e.
      (refl, zeros_pushed Identity n fields next pushes words e);
}
blank_pushes (FileReader text) = record {
  each = λ n fields next seen pushes words kept whole e.
      (refl, zeros_pushed (FileReader text) n fields next pushes words e);
}
blank_pushes (FileWriter text) = record {
  each = λ n fields next seen pushes words kept whole e.
      (refl, zeros_pushed (FileWriter text) n fields next pushes words e);
}
blank_pushes (Splitter splitter) = record {
  each = λ n fields next seen pushes words kept whole e.
      (refl, zeros_pushed (Splitter splitter) n fields next pushes words e);
}
blank_pushes (Joiner weights) = record {
  each = λ n fields next seen pushes words kept whole e.
      (refl, zeros_pushed (Joiner weights) n fields next pushes words e);
}
blank_pushes (Scatter fission) =
    record { each = (nodes_push_rates (Scatter fission) tt).each }
blank_pushes (Copy copied fission) = record {
  each = λ n fields next seen pushes words kept whole e.
      (refl, zeros_pushed (Copy copied fission) n fields next pushes words e);
}
blank_pushes (Gather fission) =
    record { each = (nodes_push_rates (Gather fission) tt).each }

module _ (graph : flat.Graph NodeCode) where
  abbrev Here : Type 0
  Here = Fifo (List ℤ) Cause Word

  pub fire_goes : (now : Here) (node : ℕ)
      → (next : Here) × (fifo_fire blank graph now node ≡ FifoWent next)
  unfolding fifo_fire fifo_if fifo_after
  fire_goes now node = by_test (holds blank graph node (now.runs node).fired (now.queues node))
    where
      by_test : (found : Bool)
          → (next : Here) × (fifo_if blank graph now node found ≡ FifoWent next)
      by_test true =
          let went = goes (graph.code node) (now.runs node).fired (now.runs node).state
          (fronts blank graph node (now.runs node).fired (now.queues node)) in
          (_, ap (fifo_after blank graph now node) went.fires)
      by_test false = (now, refl)

  pub order_goes : (order : List ℕ) (now : Here)
      → (next : Here) × (fifo_go blank graph order now ≡ FifoWent next)
  unfolding fifo_go fifo_then
  order_goes [] now = (now, refl)
  order_goes (node ∷ order) now =
      let (middle, first) = fire_goes now node in
      let (next, rest) = order_goes order middle in
      (next, ap (fifo_then (fifo_go blank graph order)) first ∙ rest)

-- ---- the parts of a node that is split

-- what is copied pushes as each copy does
rate_same : (copied : CopiedCode) (fission : Fission) → HasItsRates (Copy copied fission)
    → (firing port : ℕ) → pushes_at (original copied) firing port ≡ rate_at_0 fission.push port
rate_same (OfFilter name filter) fission rates firing port =
    ap (λ (r : ℕ). rate_at_0 r port) (rates.1 firing)
rate_same OfIdentity fission rates firing port = ap (λ (r : ℕ). rate_at_0 r port) (sym rates.1)

copied_gives : (copied : CopiedCode) (firing : ℕ) (fields : List ℤ) (seen : ByPort)
    → blank_fired (original copied) firing fields seen
    ≡ gives_zeros (original copied) firing fields
copied_gives (OfFilter name filter) firing fields seen = refl
copied_gives OfIdentity firing fields seen = refl

module _ (copied : CopiedCode) (fission : Fission) (rates : HasItsRates (Copy copied fission)) where
  abbrev given : ByPort
  given port = zeros (rate_at_0 fission.push port)

  gives : (firing : ℕ) (fields : List ℤ) (seen : ByPort)
      → blank_fired (original copied) firing fields seen ≡ Fires fields given []
  gives firing fields seen =
      copied_gives copied firing fields seen
      ∙ ap {A = ByPort} {B = Fired (List ℤ) Cause Word} (λ p. Fires fields p [])
      (fun_ext (λ port. ap zeros (rate_same copied fission rates firing port)))

  at_one_port : (port : ℕ) → given port ≡ at_port_0 (given 0) port
  unfolding at_port_0
  at_one_port zero = refl
  at_one_port (suc port) = refl

  pub blank_filter : IsStateless node_meaning (share_of fission) (original copied)
      → IsStateless blank (share_of fission) (original copied)
  blank_filter is = record {
    one_port = is.one_port;
    windows = is.windows;
    pops = is.pops;
    same = λ n m inputs. gives n _ inputs ∙ sym (gives m _ inputs);
    stays = λ n inputs next pushes words whole e.
        let same = fires_same _ _ _ _ _ _ (sym (gives n _ inputs) ∙ e) in (
          sym same.0,
          sym same.2,
          ap (λ (p : ByPort). length (p 0)) (sym same.1) ∙ length-replicate fission.push (pos 0),
          subst (λ (p : ByPort). p ≡ at_port_0 (p 0)) same.1 (fun_ext at_one_port),
        );
  }

  pub blank_copy : IsCopy node_meaning (share_of fission) (original copied) (Copy copied fission)
      → IsCopy blank (share_of fission) (original copied) (Copy copied fission)
  blank_copy is = record {
    one_port = is.one_port;
    windows = is.windows;
    pops = is.pops;
    last_pops = is.last_pops;
    same = λ n inputs. sym (gives n _ inputs);
  }

pub blank_scatter : (fission : Fission)
    → IsScatter node_meaning (share_of fission) (Scatter fission)
    → IsScatter blank (share_of fission) (Scatter fission)
blank_scatter fission is = record {
  one_port = is.one_port;
  windows = is.windows;
  pops = is.pops;
  deals = is.deals;
}

pub blank_gather : (fission : Fission) → IsGather node_meaning (share_of fission) (Gather fission)
    → IsGather blank (share_of fission) (Gather fission)
blank_gather fission is = record {
  ports = is.ports;
  windows = is.windows;
  pops = is.pops;
  joins = is.joins;
}
