-- Streams as trees (StreamIt specification 2.1, "Pipelines", "Split-joins", "Feedback loops"), the
-- flat graph that a tree means, and the solution of its equations by recursion over the tree, on
-- whole lists, with no order of firings and no buffers.
use Rattle.std.specs.Prelude.{ℕ, zero, suc, ◌+◌, ℤ, List, [], ◌∷◌, ◌++◌, length, get_or, Option}
use Rattle.std.specs.Prelude.{Some, None}
use Rattle.strc_elab_dataflow.specs.Node.{ByPort, Meaning, total, at_port_0}
use Rattle.strc_elab_dataflow.specs.Histories.{runs}
use Rattle.strc_elab_dataflow.specs.Flat.{Origin.Nowhere, Origin.Input, Origin.Port, Source, Graph}

mutual
  -- A stream; a split-join whose input (output) is void has no splitter (joiner).
  pub data Stream (Code : Type 0) : Type 0 where
    -- a filter
    One : Code → Stream Code
    -- a filter that takes the program's input
    Reader : Code → Stream Code
    Pipeline : Streams Code → Stream Code
    -- splitter, children, joiner
    SplitJoin : Option Code → Streams Code → Option Code → Stream Code
    -- joiner, body, splitter, loop, and the items enqueued on the channel from the loop to the
    -- joiner
    FeedbackLoop : Code → Stream Code → Code → Stream Code → List ℤ → Stream Code

  -- One stream or more, in order.
  pub data Streams (Code : Type 0) : Type 0 where
    Last : Stream Code → Streams Code
    More : Stream Code → Streams Code → Streams Code

-- The flat graph

-- Nodes in preorder, each with its code; from the number of the first node and the sources of what
-- comes in, the sources of each node's input ports; from that number, the sources of what goes out.
pub record Layout (Code : Type 0) : Type 0 where
  pub codes : List Code
  pub sources : ℕ → (ℕ → Source) → List (ℕ → Source)
  pub outlet : ℕ → ℕ → Source

-- The source that gives nothing.
abbrev pub nothing : Source
nothing = record { enqueued = []; origin = Nowhere }

-- One source, at port 0 alone.
unfoldable pub source_at_0 : Source → ℕ → Source
source_at_0 source zero = source
source_at_0 source (suc port) = nothing

-- A source after enqueued items.
unfoldable pub delayed : List ℤ → Source → Source
delayed enqueued source = record { enqueued = enqueued ++ source.enqueued; origin = source.origin }

-- Port 0 of the first, and then the ports of the second from 0 on.
unfoldable pub prepend {ℓ} : {A : Type ℓ} → A → (ℕ → A) → ℕ → A
prepend first others zero = first
prepend first others (suc port) = others port

module _ {Code : Type 0} where
  unfoldable pub node_layout : Code → Layout Code
  node_layout code = record {
    codes = code ∷ [];
    sources = λ first before. before ∷ [];
    outlet = λ first port. record { enqueued = []; origin = Port first port };
  }

  -- A splitter or joiner that isn't there: nothing passes.
  unfoldable pub maybe_layout : Option Code → Layout Code
  maybe_layout (Some code) = node_layout code
  maybe_layout None = record {
    codes = [];
    sources = λ first before. [];
    outlet =
        λ first port. nothing;
  }

  -- What the first gives is what the second takes.
  unfoldable pub chained_layout : Layout Code → Layout Code → Layout Code
  chained_layout a b = record {
    codes = a.codes ++ b.codes;
    sources = λ first before. a.sources first before
        ++ b.sources (first + length a.codes) (a.outlet first);
    outlet = λ first. b.outlet (first + length a.codes);
  }

  -- Side by side: the first at port 0, the others from port 1 on.
  unfoldable pub beside_layout : Layout Code → Layout Code → Layout Code
  beside_layout a b = record {
    codes = a.codes ++ b.codes;
    sources = λ first before. a.sources first (source_at_0 (before 0))
        ++ b.sources (first + length a.codes) (λ port. before (suc port));
    outlet = λ first. prepend (a.outlet first 0) (b.outlet (first + length a.codes));
  }

  -- What leaves the body at port 1 comes back, through the loop and after the enqueued items, at
  -- the body's port 1.
  unfoldable pub fed_back_layout : Layout Code → Layout Code → List ℤ → Layout Code
  fed_back_layout body loop enqueued = record {
    codes = body.codes ++ loop.codes;
    sources = λ first before.
        let second = first + length body.codes in
        body.sources first (prepend (before 0)
        (source_at_0 (delayed enqueued (loop.outlet second 0))))
        ++ loop.sources second (source_at_0 (body.outlet first 1));
    outlet = λ first. source_at_0 (body.outlet first 0);
  }

unfoldable mutual
  pub layout : {Code : Type 0} → Stream Code → Layout Code
  layout (One code) = node_layout code
  layout (Reader code) = record (node_layout code)
      { sources = λ first before. source_at_0 (record { enqueued = []; origin = Input }) ∷ [] }
  layout (Pipeline streams) = pipeline_layout streams
  layout (SplitJoin splitter streams joiner) =
      chained_layout (maybe_layout splitter)
      (chained_layout (branch_layout streams) (maybe_layout joiner))
  layout (FeedbackLoop joiner body splitter loop enqueued) =
      fed_back_layout (chained_layout (node_layout joiner)
      (chained_layout (layout body) (node_layout splitter))) (layout loop) enqueued

  pub pipeline_layout : {Code : Type 0} → Streams Code → Layout Code
  pipeline_layout (Last stream) = layout stream
  pipeline_layout (More stream streams) = chained_layout (layout stream) (pipeline_layout streams)

  pub branch_layout : {Code : Type 0} → Streams Code → Layout Code
  branch_layout (Last stream) = beside_layout (layout stream) (maybe_layout None)
  branch_layout (More stream streams) = beside_layout (layout stream) (branch_layout streams)

-- A code of the stream, which stands for the code past its last node.
unfoldable mutual
  pub any_code : {Code : Type 0} → Stream Code → Code
  any_code (One code) = code
  any_code (Reader code) = code
  any_code (Pipeline streams) = any_code_of streams
  any_code (SplitJoin splitter streams joiner) = any_code_of streams
  any_code (FeedbackLoop joiner body splitter loop enqueued) = joiner

  pub any_code_of : {Code : Type 0} → Streams Code → Code
  any_code_of (Last stream) = any_code stream
  any_code_of (More stream streams) = any_code stream

-- The flat graph of a stream that takes nothing from outside: its nodes in preorder, in a
-- split-join the splitter, the children, the joiner, in a feedback loop the joiner, body, splitter,
-- loop.
unfoldable pub flat : {Code : Type 0} → Stream Code → Graph Code
flat stream = record {
  size = length (layout stream).codes;
  code = λ node. get_or (layout stream).codes node (any_code stream);
  source = λ node. get_or ((layout stream).sources 0 (λ port. nothing)) node (λ port. nothing);
}

-- The solution

-- What the nodes of a part take, in preorder, and what the part gives at its output ports.
pub record Solution : Type 0 where
  pub taken : List ByPort
  pub given : ByPort

-- A part of a stream: the number of its nodes; from the number of its first node, how many items
-- its firings push at an output port by their rates, and its solution where these lists come in.
pub record Part : Type 0 where
  pub size : ℕ
  pub most : ℕ → ℕ → ℕ
  pub solve : ℕ → ByPort → Solution

-- Composition: what the first gives is what the second takes.
unfoldable pub chained : Part → Part → Part
chained a b = record {
  size = a.size + b.size;
  most = λ first. b.most (first + a.size);
  solve = λ first lists.
      let x = a.solve first lists in
      let y = b.solve (first + a.size) x.given in
      record { taken = x.taken ++ y.taken; given = y.given };
}

-- Side by side: the first at port 0, the others from port 1 on.
unfoldable pub beside : Part → Part → Part
beside a b = record {
  size = a.size + b.size;
  most = λ first. prepend (a.most first 0) (b.most (first + a.size));
  solve = λ first lists.
      let x = a.solve first (at_port_0 (lists 0)) in
      let y = b.solve (first + a.size) (λ port. lists (suc port)) in
      record { taken = x.taken ++ y.taken; given = prepend (x.given 0) y.given };
}

-- f done n times.
unfoldable pub iterate {ℓ} : {A : Type ℓ} → ℕ → (A → A) → A → A
iterate zero f x = x
iterate (suc n) f x = f (iterate n f x)

module _ (body loop : Part) (enqueued : List ℤ) (first : ℕ) (lists : ByPort) where
  -- What the body makes of the outer input at port 0 and the list that comes back at port 1.
  unfoldable pub around : List ℤ → Solution
  around back = body.solve first (prepend (lists 0) (at_port_0 back))

  -- What the loop makes of what leaves the body at port 1.
  unfoldable pub back_of : List ℤ → Solution
  back_of back = loop.solve (first + body.size) (at_port_0 ((around back).given 1))

  -- One turn: the list that comes back, put anew.
  unfoldable pub turn : List ℤ → List ℤ
  turn back = enqueued ++ (back_of back).given 0

  -- The list that comes back begins as the enqueued items and is put anew once more than it can
  -- have items, so that it grows no longer.
  unfoldable pub loop_solution : List ℤ
  loop_solution = iterate (suc (length enqueued + loop.most (first + body.size) 0)) turn enqueued

unfoldable pub fed_back : Part → Part → List ℤ → Part
fed_back body loop enqueued = record {
  size = body.size + loop.size;
  most = λ first. prepend (body.most first 0) (λ port. 0);
  solve = λ first lists.
      let x = around body loop enqueued first lists
      (loop_solution body loop enqueued first lists) in
      let y = back_of body loop enqueued first lists
      (loop_solution body loop enqueued first lists) in
      record { taken = x.taken ++ y.taken; given = at_port_0 (x.given 0) };
}

-- A splitter or joiner that isn't there: nothing passes.
unfoldable pub no_part : Part
no_part = record {
  size = 0;
  most = λ first port. 0;
  solve =
      λ first lists. record { taken = []; given = λ port. [] };
}

module _ {Code State Cause Word : Type 0} (meaning : Meaning Code State Cause Word) (counts : ℕ → ℕ)
    (input : List ℤ) where
  unfoldable pub node_part : Code → Part
  node_part code = record {
    size = 1;
    most = λ first. total (meaning.pushed code) (counts first);
    solve = λ first lists. record {
      taken = lists ∷ [];
      given =
          (runs meaning code (counts first) lists).pushes;
    };
  }

  -- A node that takes the program's input, whatever comes in.
  unfoldable pub reader_part : Code → Part
  reader_part code = record (node_part code)
      { solve = λ first lists. (node_part code).solve first (at_port_0 input) }

  unfoldable pub maybe_part : Option Code → Part
  maybe_part (Some code) = node_part code
  maybe_part None = no_part

  unfoldable mutual
    pub part : Stream Code → Part
    part (One code) = node_part code
    part (Reader code) = reader_part code
    part (Pipeline streams) = pipeline_part streams
    part (SplitJoin splitter streams joiner) =
        chained (maybe_part splitter) (chained (branch_part streams) (maybe_part joiner))
    part (FeedbackLoop joiner body splitter loop enqueued) =
        fed_back (chained (node_part joiner) (chained (part body) (node_part splitter)))
        (part loop) enqueued

    pub pipeline_part : Streams Code → Part
    pipeline_part (Last stream) = part stream
    pipeline_part (More stream streams) = chained (part stream) (pipeline_part streams)

    pub branch_part : Streams Code → Part
    branch_part (Last stream) = beside (part stream) no_part
    branch_part (More stream streams) = beside (part stream) (branch_part streams)

  -- The solution of a stream that takes nothing from outside: each node's inputs, by the node's
  -- number of firings.
  unfoldable pub solution : Stream Code → ℕ → ByPort
  solution stream node = get_or ((part stream).solve 0 (λ port. [])).taken node (λ port. [])
