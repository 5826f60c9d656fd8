-- A stream that takes items does so at port 0 of its first node.
use Rattle.std.proofs.Common.{◌≡◌, ℕ, Bool, true, false, List, nat_lt}
use Rattle.std.proofs.Common.{slice_get, Some, None, Option, refl, ap, ◌∙◌}
use Rattle.std.specs.Option.{option_map_or}
use Rattle.strc_elab_dataflow.specs.Flat.{Source}
use Rattle.strc_parse_tree.specs.declared.tree.ItemType.{ItemType}
use Rattle.strc_parse_tree.specs.declared.tree.ItemType.TheVariants as item
use Rattle.strc_elab_graph.specs.Graphs as graphs
use Rattle.strc_elab_graph.specs.Graphs.{NodeCode, ports_of}
use Rattle.strc_elab_graph.specs.Carriers.{carries_in, carries_out, takes_at, gives_at}
use Rattle.strc_elab_stream.specs.Instances.{Stream, Streams, Filter, Identity, FileReader}
use Rattle.strc_elab_stream.specs.Instances.{FileWriter}
use Rattle.strc_elab_stream.specs.Instances.{Pipeline, SplitJoin, FeedbackLoop, Done, More}
use Rattle.strc_elab_stream.specs.Types.{input_of, first_input, side, is_int}
use Rattle.strc_elab_stream.proofs.Placed.{Placed, PlacedRow}

pub no_items : item.Void ≡ item.Int → ⊥
no_items e = cc

pub side_is_int : (carries : Bool) → side carries ≡ item.Int → carries ≡ true
side_is_int true e = refl
side_is_int false e = absurd (no_items e)

pub int_is : (type : ItemType) → is_int type ≡ true → type ≡ item.Int
int_is item.Int e = refl
int_is item.Void e = absurd (cc)

pub takes : (nodes : List NodeCode) (number port : ℕ) (code : NodeCode)
    → slice_get nodes number ≡ Some code → takes_at nodes number port ≡ carries_in code port
takes nodes number port code at =
    ap (λ (o : Option NodeCode). option_map_or (λ c. carries_in c port) o false) at

pub gives : (nodes : List NodeCode) (number port : ℕ) (code : NodeCode)
    → slice_get nodes number ≡ Some code → gives_at nodes number port ≡ carries_out code port
gives nodes number port code at =
    ap (λ (o : Option NodeCode). option_map_or (λ c. carries_out c port) o false) at

module _ (nodes : List NodeCode) (source : ℕ → ℕ → Source) where
  -- a port takes items, and this comes to it
  pub record Takes (node port : ℕ) (given : Source) : Type 0 where
    pub taken : takes_at nodes node port ≡ true
    pub comes : source node port ≡ given

  mutual
    pub inlet : (stream : Stream) (first : ℕ) (before : Source)
        → Placed nodes source first before stream → input_of stream ≡ item.Int
        → Takes first 0 before
    inlet (Filter name filter) first before at is = record {
      taken = takes nodes first 0 (graphs.Filter name filter) at.0
          ∙ ap (λ s. nat_lt 0 (ports_of s)) is;
      comes = at.1;
    }
    inlet Identity first before at is =
        record { taken = takes nodes first 0 graphs.Identity at.0; comes = at.1 }
    inlet (FileReader text) first before at is = absurd (no_items is)
    inlet (FileWriter text) first before at is =
        record { taken = takes nodes first 0 (graphs.FileWriter text) at.0; comes = at.1 }
    inlet (Pipeline children) first before at is = row_inlet children first before at is
    inlet (SplitJoin None children joiner) first before at is = absurd (no_items is)
    inlet (SplitJoin (Some splitter) children joiner) first before at is = record {
      taken = takes nodes first 0 (graphs.Splitter splitter) at.0.0;
      comes = at.0.1;
    }
    inlet (FeedbackLoop joiner body splitter loop enqueued) first before at is = record {
      taken = takes nodes first 0 (graphs.Joiner joiner) at.0.0
          ∙ side_is_int (carries_in (graphs.Joiner joiner) 0) is;
      comes = at.0.1;
    }

    row_inlet : (children : Streams) (first : ℕ) (before : Source)
        → PlacedRow nodes source first before children → first_input children ≡ item.Int
        → Takes first 0 before
    row_inlet Done first before at is = absurd (no_items is)
    row_inlet (More next rest) first before at is = inlet next first before at.0 is
