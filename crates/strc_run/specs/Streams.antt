-- Which stream a text means.
use Rattle.std.specs.Prelude.{◌≡◌, ℕ, List, Option, Ok}
use Rattle.strc_parse_tree.specs.Tree.{Declaration}
use Rattle.strc_parse.specs.Texts.{Spells}
use Rattle.strc_elab.specs.Elaboration.{elaborated}
use Rattle.strc_elab_stream.specs.Instances.{Stream}

-- the text spells a program, and its main stream is this one
pub record IsStreamOf (text : List ℕ) (main : Option (List ℕ)) (stream : Stream) : Type 0
  where
    pub program : List Declaration
    pub spells : Spells text program
    pub elaborates : elaborated program main ≡ Ok stream
