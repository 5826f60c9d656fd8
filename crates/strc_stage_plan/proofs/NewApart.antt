-- The channels after fission end at ports of their own.
use Rattle.std.proofs.Common.{◌≡◌, refl, sym, ap, ◌∙◌, ℕ, ◌+◌, arith}
use Rattle.std.proofs.Common.{List, length, true, slice_get}
use Rattle.strc_elab_graph.specs.Graphs.{Channel, Graph, IsGraph, source_in, source_of}
use Rattle.strc_elab_graph.specs.declared.graph.Fission.{Fission}
use Rattle.strc_fiss.specs.Numbers.{is_dealt, base}
use Rattle.strc_fiss.specs.Splitting.{split_graph, renamed_channel}
use Rattle.strc_fiss.specs.Ways.{is_alike}
use Rattle.strc_fiss.proofs.Each.{each_all}
use Rattle.strc_stage_plan.specs.Sources.{EndApart}
use Rattle.strc_stage_plan.proofs.Ends.{ends_by}
use Rattle.strc_stage_plan.proofs.Members.{In, each_from}
use Rattle.strc_stage_plan.proofs.NewChannels.{each_new, renamed_source}
use Rattle.strc_stage_plan.proofs.NewChannels.{renamed_comes}
use Rattle.strc_stage_plan.proofs.Splits as splits
use Rattle.strc_stage_plan.proofs.SplitParts as parts

module _ (share : ℕ → Fission) (graph : Graph) (greatest last : List ℕ)
    (is : IsGraph graph) (ends : EndApart graph)
    (first : length greatest ≡ length graph.channels)
    (second : length last ≡ length graph.channels)
    (alike : (v : ℕ) → is_dealt (share v) ≡ true → is_alike (slice_get graph.nodes v) ≡ true)
  where
    abbrev new : Graph
    new = split_graph share graph greatest last

    abbrev none : ℕ → ℕ
    none = λ v. 0

    renamed_ends : (channel : Channel) → In channel graph.channels
        → source_in new.channels (base share channel.target.node) channel.target.port
        ≡ source_of (renamed_channel share channel)
    renamed_ends channel there =
        let u = channel.target.node in
        let number : base share channel.target.node ≡ base share channel.target.node + 0 =
        omega arith in
        ap (λ (n : ℕ). source_in new.channels n channel.target.port) number
        ∙ splits.port_comes share graph greatest last is ends first second alike none u
        channel.target.port
        ∙ ap (renamed_source share none)
        (sym (splits.one_source graph ends u channel.target.port channel there
        (ends_by u channel.target.port channel refl refl)))
        ∙ sym (renamed_comes share none channel)

    pub new_apart : EndApart (split_graph share graph greatest last)
    new_apart =
        each_all (λ channel. source_in new.channels channel.target.node channel.target.port
        ≡ source_of channel) new.channels
        (each_new share graph greatest last
        (λ channel. source_in new.channels channel.target.node channel.target.port
        ≡ source_of channel)
        (each_from (λ channel. source_in new.channels (base share channel.target.node)
        channel.target.port ≡ source_of (renamed_channel share channel)) graph.channels
        renamed_ends)
        (λ v i there dealt less. parts.to_source share graph greatest last v dealt there i less)
        (λ v i there dealt less. parts.from_source share graph greatest last v dealt there i less))
