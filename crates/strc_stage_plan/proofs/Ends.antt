-- The source that channels give a port.
use Rattle.std.proofs.Common.{◌≡◌, refl, sym, ap, ◌∙◌, ℕ, Bool, true, false, cond, eqb}
use Rattle.std.proofs.Common.{List, [], ◌∷◌, ◌⊎◌, inl, inr}
use Rattle.std.proofs.lemmas.Bool.{true≢false, eqb-true, eq-eqb, and_parts, and_from}
use Rattle.strc_elab_dataflow.specs.Streams.{nothing}
use Rattle.strc_elab_graph.specs.Graphs.{Channel, source_of, source_in, ends_at}
use Rattle.strc_fiss.proofs.Each.{Each}
use Rattle.strc_stage_plan.proofs.Members.{In}

module _ (node port : ℕ) where
  -- a channel ends at the port
  abbrev pub Ends : Channel → Type 0
  Ends channel = ends_at node port channel ≡ true

  pub ends_there : (channel : Channel) → Ends channel
      → (channel.target.node ≡ node) × (channel.target.port ≡ port)
  ends_there channel ends =
      let both = and_parts (eqb channel.target.node node) (eqb channel.target.port port) ends in
      (eqb-true channel.target.node node both.0, eqb-true channel.target.port port both.1)

  pub ends_by : (channel : Channel) → channel.target.node ≡ node → channel.target.port ≡ port
      → Ends channel
  ends_by channel at_node at_port =
      and_from (eqb channel.target.node node) (eqb channel.target.port port)
      (eq-eqb channel.target.node node at_node) (eq-eqb channel.target.port port at_port)

  -- by the first channel
  source_by : (test : Bool) (first : Channel) (rest : List Channel)
      → ends_at node port first ≡ test
      → source_in (first ∷ rest) node port
      ≡ cond test (source_of first) (source_in rest node port)
  source_by test first rest e =
      ap (λ (t : Bool). cond t (source_of first) (source_in rest node port)) e

  -- a channel that ends there gives it, where the others that do have its source
  pub source_is : (channels : List Channel) (own : Channel) → In own channels → Ends own
      → Each (λ channel. Ends channel → source_of channel ≡ source_of own) channels
      → source_in channels node port ≡ source_of own
  source_is [] own there ends each = absurd there
  source_is (first ∷ rest) own there ends each =
      by_test (ends_at node port first) refl there (λ later. source_is rest own later ends each.1)
    where
      by_test : (t : Bool) → ends_at node port first ≡ t → In own (first ∷ rest)
          → (In own rest → source_in rest node port ≡ source_of own)
          → source_in (first ∷ rest) node port ≡ source_of own
      by_test true e member next = source_by true first rest e ∙ each.0 e
      by_test false e (inl here) next =
          absurd (true≢false (sym ends ∙ ap (ends_at node port) here ∙ e))
      by_test false e (inr later) next = source_by false first rest e ∙ next later

  -- where none does there is nothing
  pub source_none : (channels : List Channel) → Each (λ channel. Ends channel → ⊥) channels
      → source_in channels node port ≡ nothing
  source_none [] none = refl
  source_none (first ∷ rest) none =
      by_test (ends_at node port first) refl (source_none rest none.1)
    where
      by_test : (t : Bool) → ends_at node port first ≡ t → source_in rest node port ≡ nothing
          → source_in (first ∷ rest) node port ≡ nothing
      by_test true e later = absurd (none.0 e)
      by_test false e later = source_by false first rest e ∙ later

  -- a channel that ends there, or none
  pub one_or_none : (channels : List Channel)
      → ((own : Channel) × In own channels × Ends own)
      ⊎ Each (λ channel. Ends channel → ⊥) channels
  one_or_none [] = inr tt
  one_or_none (first ∷ rest) =
      by_test (ends_at node port first) refl (one_or_none rest)
    where
      by_test : (t : Bool) → ends_at node port first ≡ t
          → ((own : Channel) × In own rest × Ends own)
          ⊎ Each (λ channel. Ends channel → ⊥) rest
          → ((own : Channel) × In own (first ∷ rest) × Ends own)
          ⊎ Each (λ channel. Ends channel → ⊥) (first ∷ rest)
      by_test true e later = inl (first, inl refl, e)
      by_test false e (inl found) = inl (found.0, inr found.1, found.2)
      by_test false e (inr none) = inr (λ ends. true≢false (sym ends ∙ e), none)
