-- The nodes of fission are a scatter, copies and a gather.
use Rattle.std.proofs.Common.{◌≡◌, refl, sym, ap, ◌∙◌, subst, ℕ, zero, suc, ◌+◌, ◌*◌, ◌<◌, ◌==◌}
use Rattle.std.proofs.Common.{Bool, ℤ, List, [], ◌++◌, length, take, drop, arith}
use Rattle.std.specs.Prelude.{◌%◌, if◌then◌else◌}
use Rattle.std.proofs.lemmas.Bool.{lt-ltb, ne_eqb, eq-eqb}
use Rattle.std.proofs.lemmas.Nat.{mod-mul-add}
use Rattle.strc_elab_dataflow.specs.Node.{ByPort, Fired.Fires, at_port_0}
use Rattle.strc_elab_dataflow.specs.Split.{IsStateless, IsScatter, IsCopy, IsGather, joined}
use Rattle.strc_work_meaning.specs.declared.word.Word.{Word}
use Rattle.strc_elab_graph.specs.Graphs.{CopiedCode, OfFilter, OfIdentity, Identity, Scatter, Copy}
use Rattle.strc_elab_graph.specs.Graphs.{Gather, original, input_ports, copied_inputs}
use Rattle.strc_elab_graph.specs.Rates.{copy_pops, reach, at_ports}
use Rattle.strc_elab_graph.specs.Meaning.{node_meaning, node_fired, node_fields, scattered}
use Rattle.strc_elab_graph.specs.Meaning.{gathered}
use Rattle.strc_elab_graph.specs.Meaning.{passes}
use Rattle.strc_elab_graph.specs.declared.graph.Fission.{Fission}
use Rattle.strc_sched_laws.specs.Dealing.{share_of, identity_share}

-- ---- scatter

pub is_scatter : (fission : Fission) → IsScatter node_meaning (share_of fission) (Scatter fission)
is_scatter fission = record {
  one_port = refl;
  windows = λ n. refl;
  pops = λ n. refl;
  deals = λ n fields seen. (
    [],
    scattered fission (seen 0),
    refl,
    λ i less. ap (λ (test : Bool). if test
        then take (reach fission fission.firings)
        (drop (i * fission.firings * fission.pop) (seen 0))
        else []) (lt-ltb i fission.ways less),
  );
}

-- ---- copies

one_input : (copied : CopiedCode) → input_ports (original copied) ≡ 1 → copied_inputs copied ≡ 1
one_input (OfFilter name filter) one = one
one_input OfIdentity one = refl

-- which firing of a round this is
place_in_round : (firings k j : ℕ) → j < firings → (k * firings + j) % firings ≡ j
place_in_round firings k j less = mod-mul-add k firings j less

fired_alike : (copied : CopiedCode) (fission : Fission) (n : ℕ) (seen : ByPort)
    → node_fired (Copy copied fission) n (node_fields (original copied)) seen
    ≡ node_fired (original copied) n (node_fields (original copied)) seen
fired_alike (OfFilter name filter) fission n seen = refl
fired_alike OfIdentity fission n seen = refl

inner_pops : (fission : Fission) (k j : ℕ) → suc j < fission.firings
    → copy_pops fission (k * fission.firings + j) ≡ fission.pop
inner_pops fission k j less =
    ap (λ (place : ℕ). if place + 1 == fission.firings then fission.window else fission.pop)
    (place_in_round fission.firings k j (omega arith))
    ∙ ap (λ (test : Bool). if test then fission.window else fission.pop)
    (ne_eqb (j + 1) fission.firings (λ e. absurd (omega (arith, e, less))))

last_pops : (fission : Fission) (k j : ℕ) → suc j ≡ fission.firings
    → copy_pops fission (k * fission.firings + j) ≡ fission.window
last_pops fission k j e =
    ap (λ (place : ℕ). if place + 1 == fission.firings then fission.window else fission.pop)
    (place_in_round fission.firings k j (omega (arith, e)))
    ∙ ap (λ (test : Bool). if test then fission.window else fission.pop)
    (eq-eqb (j + 1) fission.firings (omega (arith, e)))

pub is_copy : (copied : CopiedCode) (fission : Fission) → input_ports (original copied) ≡ 1
    → IsCopy node_meaning (share_of fission) (original copied) (Copy copied fission)
is_copy copied fission one = record {
  one_port = one_input copied one;
  windows = λ n. refl;
  pops = inner_pops fission;
  last_pops = last_pops fission;
  same = fired_alike copied fission;
}

-- ---- gather

below : (count rate port : ℕ) → port < count → at_ports count rate port ≡ rate
below count rate port less = ap (λ (test : Bool). if test then rate else 0) (lt-ltb port count less)

gathered_joined : (seen : ByPort) (ports : ℕ) → gathered seen ports ≡ joined seen ports
unfolding joined
gathered_joined seen zero = refl
gathered_joined seen (suc port) =
    ap (λ (items : List ℤ). items ++ seen port) (gathered_joined seen port)

pub is_gather : (fission : Fission) → IsGather node_meaning (share_of fission) (Gather fission)
is_gather fission = record {
  ports = refl;
  windows = λ n i less. below fission.ways (fission.firings * fission.push) i less;
  pops = λ n i less. below fission.ways (fission.firings * fission.push) i less;
  joins = λ n fields seen. (
    [],
    ap (λ (items : List ℤ). passes (at_port_0 items)) (gathered_joined seen fission.ways),
  );
}

-- ---- Identity

one_item : (items : List ℤ) → length items ≡ 1 → length (at_port_0 items 0) ≡ 1
unfolding at_port_0
one_item items e = e

pub identity : (ways firings : ℕ)
    → IsStateless node_meaning (identity_share ways firings) Identity
unfolding at_port_0
identity ways firings = record {
  one_port = refl;
  windows = λ n. refl;
  pops = λ n. refl;
  same = λ n m seen. refl;
  stays = stays_by;
}
  where
    stays_by : (n : ℕ) (seen : ByPort) (next : List ℤ) (pushes : ByPort) (words : List Word)
        → length (seen 0) ≡ 1
        → passes (at_port_0 (seen 0)) ≡ Fires next pushes words
        → (next ≡ []) × (words ≡ []) × (length (pushes 0) ≡ 1) × (pushes ≡ at_port_0 (pushes 0))
    stays_by n seen next pushes words long e =
        let same : at_port_0 (seen 0) ≡ pushes = cc in (
          cc,
          cc,
          ap (λ (p : ByPort). length (p 0)) (sym same) ∙ one_item (seen 0) long,
          subst (λ (p : ByPort). p ≡ at_port_0 (p 0)) same refl,
        )
