-- The solution that the recursion over a stream gives solves the equations of the stream's flat
-- graph.
use Rattle.std.proofs.Common.{◌≡◌, refl, sym, ap, ◌∙◌, subst, ℕ, zero, suc, ◌+◌, ◌<◌, ◌≤◌, List, []}
use Rattle.std.proofs.Common.{◌∷◌, ◌++◌, length, get_or, Option, Some, None, ℤ, arith, append_assoc}
use Rattle.std.proofs.Common.{length-append, get_or-append-add, add_assoc, add-zero, zero-add}
use mathlib.Core.Logic.{inl, inr}
use Rattle.std.proofs.Math.ListN.{get_or-append, get_or-eq_default}
use Rattle.std.proofs.lemmas.Bool.{cases_lt}
use Rattle.std.proofs.lemmas.List.{get_or_default}
use Rattle.strc_elab_dataflow.specs.Node.{ByPort, Meaning, at_port_0}
use Rattle.strc_elab_dataflow.specs.Histories.{Run, runs, KeepsRates}
use Rattle.strc_elab_dataflow.specs.Flat.{Origin.Input, Origin.Port, Source, Graph, items_of}
use Rattle.strc_elab_dataflow.specs.Flat.{arrived}
use Rattle.strc_elab_dataflow.specs.Flat.{runs_at, Solves}
use Rattle.strc_elab_dataflow.specs.Streams.{Stream, Stream.One, Stream.Reader, Stream.Pipeline}
use Rattle.strc_elab_dataflow.specs.Streams.{Stream.SplitJoin, Stream.FeedbackLoop, Streams}
use Rattle.strc_elab_dataflow.specs.Streams.{Streams.Last, Streams.More, Layout, nothing}
use Rattle.strc_elab_dataflow.specs.Streams.{source_at_0}
use Rattle.strc_elab_dataflow.specs.Streams.{delayed, prepend, node_layout, maybe_layout}
use Rattle.strc_elab_dataflow.specs.Streams.{chained_layout}
use Rattle.strc_elab_dataflow.specs.Streams.{beside_layout, fed_back_layout, layout}
use Rattle.strc_elab_dataflow.specs.Streams.{pipeline_layout}
use Rattle.strc_elab_dataflow.specs.Streams.{branch_layout, any_code, flat, Solution, Part, chained}
use Rattle.strc_elab_dataflow.specs.Streams.{beside, around, back_of, turn, loop_solution, fed_back}
use Rattle.strc_elab_dataflow.specs.Streams.{no_part, node_part, reader_part, maybe_part, part}
use Rattle.strc_elab_dataflow.specs.Streams.{pipeline_part, branch_part, solution}
use Rattle.strc_elab_dataflow.proofs.Growth.{IsSteady, no_part_steady, chained_steady}
use Rattle.strc_elab_dataflow.proofs.Growth.{beside_steady}
use Rattle.strc_elab_dataflow.proofs.Growth.{node_steady, reader_steady, turn-loop_solution}
use Rattle.strc_elab_dataflow.proofs.Growth.{fed_back_steady}

-- The list that no port gives.
abbrev pub none : ByPort
none = λ port. []

abbrev pub nowhere : ℕ → Source
nowhere = λ port. nothing

module _ {Code State Cause Word : Type 0} (meaning : Meaning Code State Cause Word) (counts : ℕ → ℕ)
    (input : List ℤ) (graph : Graph Code) (inputs : ℕ → ByPort) where
  -- From a place on, the graph has these codes and its nodes take these lists.
  pub record IsEmbedded (first : ℕ) (codes : List Code) (taken : List ByPort) : Type 0 where
    pub code_at : (i : ℕ) (d : Code) → i < length codes → graph.code (first + i) ≡ get_or codes i d
    pub taken_at : (i : ℕ) → i < length taken → inputs (first + i) ≡ get_or taken i none

  embedded_first : (first : ℕ) (a b : List Code) (x y : List ByPort)
      → IsEmbedded first (a ++ b) (x ++ y)
      → IsEmbedded first a x
  embedded_first first a b x y s = record {
    code_at = λ i d h. s.code_at i d (omega (arith, length-append a b)) ∙ get_or-append a b d i h;
    taken_at = λ i h. s.taken_at i (omega (arith, length-append x y)) ∙ get_or-append x y none i h;
  }

  embedded_second : (first : ℕ) (a b : List Code) (x y : List ByPort) → length x ≡ length a
      → IsEmbedded first (a ++ b) (x ++ y) → IsEmbedded (first + length a) b y
  embedded_second first a b x y e s = record {
    code_at = λ i d h. ap graph.code (add_assoc first (length a) i)
        ∙ s.code_at (length a + i) d (omega (arith, length-append a b)) ∙ get_or-append-add a b i d;
    taken_at = λ i h. ap (λ (n : ℕ). inputs n) (add_assoc first (length a) i)
        ∙ ap (λ (n : ℕ). inputs (first + (n + i))) (sym e)
        ∙ s.taken_at (length x + i) (omega (arith, length-append x y))
        ∙ get_or-append-add x y i none;
  }

  abbrev now : ℕ → Run State Cause Word
  now = runs_at meaning graph counts inputs

  -- What is at each node of a part has come from the node's sources.
  abbrev pub Fed : List ByPort → List (ℕ → Source) → Type 0
  Fed taken sources = (i : ℕ) → i < length taken → (port : ℕ)
      → get_or taken i none port ≡ arrived input now (get_or sources i nowhere port)

  fed_append : (x y : List ByPort) (s t : List (ℕ → Source)) → length x ≡ length s → Fed x s
      → Fed y t → Fed (x ++ y) (s ++ t)
  fed_append [] y [] t e f g i h port = g i h port
  fed_append [] y (q ∷ s) t e f g i h port = absurd (omega arith)
  fed_append (p ∷ x) y [] t e f g i h port = absurd (omega arith)
  fed_append (p ∷ x) y (q ∷ s) t e f g zero h port = f 0 (omega arith) port
  fed_append (p ∷ x) y (q ∷ s) t e f g (suc i) h port =
      fed_append x y s t (omega arith) (λ j k. f (suc j) (omega arith)) g i (omega arith) port

  -- A part of the solution that fits its part of the graph: as many nodes; where it is in the
  -- graph, it gives what comes from its outlets, and where it takes what comes from some sources,
  -- so do its nodes.
  pub record IsSound (l : Layout Code) (p : Part) : Type 0 where
    pub size : p.size ≡ length l.codes
    pub taken_size : (first : ℕ) (lists : ByPort)
        → length (p.solve first lists).taken ≡ length l.codes
    pub sources_size : (first : ℕ) (before : ℕ → Source)
        → length (l.sources first before) ≡ length l.codes
    pub outlet : (first : ℕ) (lists : ByPort) → IsEmbedded first l.codes (p.solve first lists).taken
        → (port : ℕ) → (p.solve first lists).given port ≡ arrived input now (l.outlet first port)
    pub fed :
        (first : ℕ) (lists : ByPort) (before : ℕ → Source)
        → IsEmbedded first l.codes (p.solve first lists).taken
        → ((port : ℕ) → lists port ≡ arrived input now (before port))
        → Fed (p.solve first lists).taken (l.sources first before)

  node_outlet : (code : Code) (first : ℕ) (lists : ByPort)
      → IsEmbedded first (code ∷ []) (lists ∷ [])
      → (port : ℕ) → (runs meaning code (counts first) lists).pushes port
      ≡ arrived input now (record { enqueued = []; origin = Port first port })
  unfolding arrived items_of runs_at
  node_outlet code first lists s port =
      let same_code : graph.code first ≡ code =
      ap graph.code (sym (add-zero first)) ∙ s.code_at 0 code (omega arith) in
      let same_lists : inputs first ≡ lists =
      ap (λ (n : ℕ). inputs n) (sym (add-zero first)) ∙ s.taken_at 0 (omega arith) in
      ap (λ (c : Code). (runs meaning c (counts first) lists).pushes port) (sym same_code)
      ∙ ap (λ (l : ByPort). (runs meaning (graph.code first) (counts first) l).pushes port)
      (sym same_lists)

  one_fed : (lists : ByPort) (sources : ℕ → Source)
      → ((port : ℕ) → lists port ≡ arrived input now (sources port))
      → Fed (lists ∷ []) (sources ∷ [])
  one_fed lists sources h zero less port = h port
  one_fed lists sources h (suc i) less port = absurd (omega arith)

  node_sound : (code : Code) → IsSound (node_layout code) (node_part meaning counts input code)
  unfolding node_layout node_part
  node_sound code = record {
    size = refl;
    taken_size = λ first lists. refl;
    sources_size = λ first before. refl;
    outlet = node_outlet code;
    fed = λ first lists before s h. one_fed lists before h;
  }

  input_comes : (port : ℕ) → at_port_0 input port
      ≡ arrived input now (source_at_0 (record { enqueued = []; origin = Input }) port)
  unfolding at_port_0 source_at_0 arrived items_of
  input_comes zero = refl
  input_comes (suc port) = refl

  reader_sound : (code : Code) → IsSound (layout (Reader code))
      (reader_part meaning counts input code)
  unfolding layout node_layout node_part reader_part
  reader_sound code = record {
    size = refl;
    taken_size = λ first lists. refl;
    sources_size = λ first before. refl;
    outlet = λ first lists. node_outlet code first (at_port_0 input);
    fed = λ first lists before s h. one_fed (at_port_0 input)
        (source_at_0 (record { enqueued = []; origin = Input })) input_comes;
  }

  none_sound : IsSound (maybe_layout None) no_part
  unfolding maybe_layout no_part arrived items_of
  none_sound = record {
    size = refl;
    taken_size = λ first lists. refl;
    sources_size = λ first before. refl;
    outlet = λ first lists s port. refl;
    fed = λ first lists before s h i less. absurd (omega arith);
  }

  chained_sound : (l m : Layout Code) (a b : Part) → IsSound l a → IsSound m b
      → IsSound (chained_layout l m) (chained a b)
  unfolding chained_layout chained
  chained_sound l m a b s t = record {
    size = size;
    taken_size = λ first lists. length-append (a.solve first lists).taken
        (b.solve (first + a.size) (a.solve first lists).given).taken
        ∙ sizes (s.taken_size first lists)
        (t.taken_size (first + a.size) (a.solve first lists).given);
    sources_size = λ first before. length-append (l.sources first before)
        (m.sources (first + length l.codes) (l.outlet first))
        ∙ sizes (s.sources_size first before)
        (t.sources_size (first + length l.codes) (l.outlet first));
    outlet = λ first lists h port. t.outlet (first + a.size) (a.solve first lists).given
        (second first lists h) port ∙ ap (λ (n : ℕ). arrived input now (m.outlet (first + n) port))
        s.size;
    fed = λ first lists before h come.
        fed_append (a.solve first lists).taken
        (b.solve (first + a.size) (a.solve first lists).given).taken (l.sources first before)
        (m.sources (first + length l.codes) (l.outlet first))
        (s.taken_size first lists ∙ sym (s.sources_size first before))
        (s.fed first lists before (the_first first lists h) come)
        (subst (λ (n : ℕ). Fed (b.solve (first + a.size) (a.solve first lists).given).taken
        (m.sources (first + n) (l.outlet first))) s.size
        (t.fed (first + a.size) (a.solve first lists).given (l.outlet first) (second first lists h)
        (s.outlet first lists (the_first first lists h))));
  }
    where
      size : a.size + b.size ≡ length (l.codes ++ m.codes)
      size = omega (arith, s.size, t.size, length-append l.codes m.codes)

      sizes : {x y : ℕ} → x ≡ length l.codes → y ≡ length m.codes
          → x + y ≡ length (l.codes ++ m.codes)
      sizes e f = omega (arith, e, f, length-append l.codes m.codes)

      the_first : (first : ℕ) (lists : ByPort)
          → IsEmbedded first (l.codes ++ m.codes)
          ((a.solve first lists).taken ++ (b.solve (first + a.size)
          (a.solve first lists).given).taken) → IsEmbedded first l.codes (a.solve first lists).taken
      the_first first lists h = embedded_first first l.codes m.codes (a.solve first lists).taken
          (b.solve (first + a.size) (a.solve first lists).given).taken h

      second : (first : ℕ) (lists : ByPort)
          → IsEmbedded first (l.codes ++ m.codes)
          ((a.solve first lists).taken ++ (b.solve (first + a.size)
          (a.solve first lists).given).taken)
          → IsEmbedded (first + a.size) m.codes
          (b.solve (first + a.size) (a.solve first lists).given).taken
      second first lists h =
          subst (λ (n : ℕ). IsEmbedded (first + n) m.codes
          (b.solve (first + a.size) (a.solve first lists).given).taken) (sym s.size)
          (embedded_second first l.codes m.codes (a.solve first lists).taken
          (b.solve (first + a.size) (a.solve first lists).given).taken
          (s.taken_size first lists) h)

  at_port_0_comes : (items : List ℤ) (source : Source) → items ≡ arrived input now source
      → (port : ℕ) → at_port_0 items port ≡ arrived input now (source_at_0 source port)
  unfolding at_port_0 source_at_0 arrived items_of
  at_port_0_comes items source e zero = e
  at_port_0_comes items source e (suc port) = refl

  prepend_comes : (items : List ℤ) (lists : ByPort) (source : Source) (sources : ℕ → Source)
      → items ≡ arrived input now source → ((port : ℕ)
      → lists port ≡ arrived input now (sources port)) → (port : ℕ)
      → prepend items lists port ≡ arrived input now (prepend source sources port)
  unfolding prepend
  prepend_comes items lists source sources e f zero = e
  prepend_comes items lists source sources e f (suc port) = f port

  delayed_comes : (enqueued items : List ℤ) (source : Source) → items ≡ arrived input now source
      → enqueued ++ items ≡ arrived input now (delayed enqueued source)
  unfolding arrived delayed
  delayed_comes enqueued items source e =
      ap (λ (l : List ℤ). enqueued ++ l) e
      ∙ sym (append_assoc enqueued source.enqueued (items_of input now source.origin))

  beside_sound : (l m : Layout Code) (a b : Part) → IsSound l a → IsSound m b
      → IsSound (beside_layout l m) (beside a b)
  unfolding beside_layout beside
  beside_sound l m a b s t = record {
    size = size;
    taken_size = λ first lists. length-append (a.solve first (at_port_0 (lists 0))).taken
        (b.solve (first + a.size) (λ port. lists (suc port))).taken
        ∙ sizes (s.taken_size first (at_port_0 (lists 0)))
        (t.taken_size (first + a.size) (λ port. lists (suc port)));
    sources_size = λ first before. length-append (l.sources first (source_at_0 (before 0)))
        (m.sources (first + length l.codes) (λ port. before (suc port)))
        ∙ sizes (s.sources_size first (source_at_0 (before 0)))
        (t.sources_size (first + length l.codes) (λ port. before (suc port)));
    outlet = λ first lists h.
        prepend_comes ((a.solve first (at_port_0 (lists 0))).given 0)
        (b.solve (first + a.size) (λ port. lists (suc port))).given (l.outlet first 0)
        (m.outlet (first + length l.codes))
        (s.outlet first (at_port_0 (lists 0)) (the_first first lists h) 0)
        (λ port. t.outlet (first + a.size) (λ p. lists (suc p)) (second first lists h) port
        ∙ ap (λ (n : ℕ). arrived input now (m.outlet (first + n) port)) s.size);
    fed = λ first lists before h come.
        fed_append (a.solve first (at_port_0 (lists 0))).taken
        (b.solve (first + a.size) (λ port. lists (suc port))).taken
        (l.sources first (source_at_0 (before 0)))
        (m.sources (first + length l.codes) (λ port. before (suc port)))
        (s.taken_size first (at_port_0 (lists 0))
        ∙ sym (s.sources_size first (source_at_0 (before 0))))
        (s.fed first (at_port_0 (lists 0)) (source_at_0 (before 0)) (the_first first lists h)
        (at_port_0_comes (lists 0) (before 0) (come 0)))
        (subst (λ (n : ℕ). Fed (b.solve (first + a.size) (λ port. lists (suc port))).taken
        (m.sources (first + n) (λ port. before (suc port)))) s.size
        (t.fed (first + a.size) (λ port. lists (suc port)) (λ port. before (suc port))
        (second first lists h) (λ port. come (suc port))));
  }
    where
      size : a.size + b.size ≡ length (l.codes ++ m.codes)
      size = omega (arith, s.size, t.size, length-append l.codes m.codes)

      sizes : {x y : ℕ} → x ≡ length l.codes → y ≡ length m.codes
          → x + y ≡ length (l.codes ++ m.codes)
      sizes e f = omega (arith, e, f, length-append l.codes m.codes)

      the_first : (first : ℕ) (lists : ByPort)
          → IsEmbedded first (l.codes ++ m.codes)
          ((a.solve first (at_port_0 (lists 0))).taken
          ++ (b.solve (first + a.size) (λ port. lists (suc port))).taken)
          → IsEmbedded first l.codes (a.solve first (at_port_0 (lists 0))).taken
      the_first first lists h = embedded_first first l.codes m.codes
          (a.solve first (at_port_0 (lists 0))).taken
          (b.solve (first + a.size) (λ port. lists (suc port))).taken h

      second : (first : ℕ) (lists : ByPort)
          → IsEmbedded first (l.codes ++ m.codes)
          ((a.solve first (at_port_0 (lists 0))).taken
          ++ (b.solve (first + a.size) (λ port. lists (suc port))).taken)
          → IsEmbedded (first + a.size) m.codes
          (b.solve (first + a.size) (λ port. lists (suc port))).taken
      second first lists h =
          subst (λ (n : ℕ). IsEmbedded (first + n) m.codes
          (b.solve (first + a.size) (λ port. lists (suc port))).taken) (sym s.size)
          (embedded_second first l.codes m.codes (a.solve first (at_port_0 (lists 0))).taken
          (b.solve (first + a.size) (λ port. lists (suc port))).taken
          (s.taken_size first (at_port_0 (lists 0))) h)

  fed_back_sound : (l m : Layout Code) (a b : Part) (enqueued : List ℤ) → IsSteady a → IsSteady b
      → IsSound l a → IsSound m b → IsSound (fed_back_layout l m enqueued) (fed_back a b enqueued)
  unfolding fed_back_layout fed_back around back_of turn
  fed_back_sound l m a b enqueued steady_a steady_b s t = record {
    size = omega (arith, s.size, t.size, length-append l.codes m.codes);
    taken_size = λ first lists.
        length-append (x first lists).taken (y first lists).taken
        ∙ sizes (x_size first lists) (y_size first lists);
    sources_size = λ first before.
        length-append (l.sources first (sources_in first before))
        (m.sources (first + length l.codes) (source_at_0 (l.outlet first 1)))
        ∙ sizes (s.sources_size first (sources_in first before))
        (t.sources_size (first + length l.codes) (source_at_0 (l.outlet first 1)));
    outlet = λ first lists h. at_port_0_comes ((x first lists).given 0) (l.outlet first 0)
        (x_gives first lists h 0);
    fed = λ first lists before h come.
        fed_append (x first lists).taken (y first lists).taken
        (l.sources first (sources_in first before))
        (m.sources (first + length l.codes) (source_at_0 (l.outlet first 1)))
        (x_size first lists ∙ sym (s.sources_size first (sources_in first before)))
        (x_fed first lists before h (prepend_comes (lists 0) (at_port_0 (back first lists))
        (before 0) (source_at_0 (delayed enqueued (m.outlet (first + length l.codes) 0))) (come 0)
        (at_port_0_comes (back first lists)
        (delayed enqueued (m.outlet (first + length l.codes) 0)) (back_comes first lists h))))
        (y_fed first lists h (at_port_0_comes ((x first lists).given 1) (l.outlet first 1)
        (x_gives first lists h 1)));
  }
    where
      back : ℕ → ByPort → List ℤ
      back first lists = loop_solution a b enqueued first lists

      x : ℕ → ByPort → Solution
      x first lists = around a b enqueued first lists (loop_solution a b enqueued first lists)

      y : ℕ → ByPort → Solution
      y first lists = back_of a b enqueued first lists (loop_solution a b enqueued first lists)

      sources_in : ℕ → (ℕ → Source) → ℕ → Source
      sources_in first before = prepend (before 0)
          (source_at_0 (delayed enqueued (m.outlet (first + length l.codes) 0)))

      sizes : {n k : ℕ} → n ≡ length l.codes → k ≡ length m.codes
          → n + k ≡ length (l.codes ++ m.codes)
      sizes e f = omega (arith, e, f, length-append l.codes m.codes)

      x_in : ℕ → ByPort → ByPort
      x_in first lists = prepend (lists 0) (at_port_0 (loop_solution a b enqueued first lists))

      y_in : ℕ → ByPort → ByPort
      y_in first lists = at_port_0 ((x first lists).given 1)

      x_size : (first : ℕ) (lists : ByPort) → length (x first lists).taken ≡ length l.codes
      x_size first lists = s.taken_size first (x_in first lists)

      y_size : (first : ℕ) (lists : ByPort) → length (y first lists).taken ≡ length m.codes
      y_size first lists = t.taken_size (first + a.size) (y_in first lists)

      x_embedded : (first : ℕ) (lists : ByPort)
          → IsEmbedded first (l.codes ++ m.codes) ((x first lists).taken ++ (y first lists).taken)
          → IsEmbedded first l.codes (x first lists).taken
      x_embedded first lists h = embedded_first first l.codes m.codes (x first lists).taken
          (y first lists).taken h

      y_embedded : (first : ℕ) (lists : ByPort)
          → IsEmbedded first (l.codes ++ m.codes) ((x first lists).taken ++ (y first lists).taken)
          → IsEmbedded (first + a.size) m.codes (y first lists).taken
      y_embedded first lists h =
          subst (λ (n : ℕ). IsEmbedded (first + n) m.codes (y first lists).taken) (sym s.size)
          (embedded_second first l.codes m.codes (x first lists).taken (y first lists).taken
          (x_size first lists) h)

      x_gives : (first : ℕ) (lists : ByPort)
          → IsEmbedded first (l.codes ++ m.codes) ((x first lists).taken ++ (y first lists).taken)
          → (port : ℕ) → (x first lists).given port ≡ arrived input now (l.outlet first port)
      x_gives first lists h = s.outlet first (x_in first lists) (x_embedded first lists h)

      back_comes : (first : ℕ) (lists : ByPort)
          → IsEmbedded first (l.codes ++ m.codes) ((x first lists).taken ++ (y first lists).taken)
          → back first lists ≡ arrived input now
          (delayed enqueued (m.outlet (first + length l.codes) 0))
      back_comes first lists h =
          sym (turn-loop_solution a b steady_a steady_b enqueued first lists)
          ∙ delayed_comes enqueued ((y first lists).given 0) (m.outlet (first + a.size) 0)
          (t.outlet (first + a.size) (y_in first lists) (y_embedded first lists h) 0)
          ∙ ap (λ (n : ℕ). arrived input now (delayed enqueued (m.outlet (first + n) 0))) s.size

      x_fed : (first : ℕ) (lists : ByPort) (before : ℕ → Source)
          → IsEmbedded first (l.codes ++ m.codes) ((x first lists).taken ++ (y first lists).taken)
          → ((port : ℕ) → prepend (lists 0) (at_port_0 (back first lists)) port
          ≡ arrived input now (sources_in first before port))
          → Fed (x first lists).taken (l.sources first (sources_in first before))
      x_fed first lists before h come = s.fed first (x_in first lists) (sources_in first before)
          (x_embedded first lists h) come

      y_fed : (first : ℕ) (lists : ByPort)
          → IsEmbedded first (l.codes ++ m.codes) ((x first lists).taken ++ (y first lists).taken)
          → ((port : ℕ) → at_port_0 ((x first lists).given 1) port
          ≡ arrived input now (source_at_0 (l.outlet first 1) port))
          → Fed (y first lists).taken (m.sources (first + length l.codes)
          (source_at_0 (l.outlet first 1)))
      y_fed first lists h come =
          subst (λ (n : ℕ). Fed (y first lists).taken
          (m.sources (first + n) (source_at_0 (l.outlet first 1)))) s.size
          (t.fed (first + a.size) (y_in first lists) (source_at_0 (l.outlet first 1))
          (y_embedded first lists h) come)

  -- The codes' rates are kept.
  abbrev pub AllKeepRates : List Code → Type 0
  AllKeepRates codes = (i : ℕ) (d : Code) → i < length codes → KeepsRates meaning (get_or codes i d)

  keep_first : (a b : List Code) → AllKeepRates (a ++ b) → AllKeepRates a
  keep_first a b k i d h = subst (λ (c : Code). KeepsRates meaning c) (get_or-append a b d i h)
      (k i d (omega (arith, length-append a b)))

  keep_second : (a b : List Code) → AllKeepRates (a ++ b) → AllKeepRates b
  keep_second a b k i d h = subst (λ (c : Code). KeepsRates meaning c) (get_or-append-add a b i d)
      (k (length a + i) d (omega (arith, length-append a b)))

  abbrev Both : Layout Code → Part → Type 0
  Both l p = IsSound l p × IsSteady p

  node_both : (code : Code) → AllKeepRates (node_layout code).codes
      → Both (node_layout code) (node_part meaning counts input code)
  unfolding node_layout
  node_both code k = (
    node_sound code,
    node_steady meaning counts input code
        (k 0 code (omega arith)),
  )

  reader_both : (code : Code) → AllKeepRates (layout (Reader code)).codes
      → Both (layout (Reader code)) (reader_part meaning counts input code)
  unfolding layout node_layout
  reader_both code k = (
    reader_sound code,
    reader_steady meaning counts input code (k 0 code (omega arith)),
  )

  maybe_both : (code : Option Code) → AllKeepRates (maybe_layout code).codes
      → Both (maybe_layout code) (maybe_part meaning counts input code)
  unfolding maybe_layout maybe_part
  maybe_both (Some code) k = node_both code k
  maybe_both None k = (none_sound, no_part_steady)

  chained_both : (l m : Layout Code) (a b : Part) → (AllKeepRates l.codes → Both l a)
      → (AllKeepRates m.codes → Both m b) → AllKeepRates (l.codes ++ m.codes)
      → Both (chained_layout l m) (chained a b)
  chained_both l m a b s t k =
      let x = s (keep_first l.codes m.codes k) in
      let y = t (keep_second l.codes m.codes k) in
      (chained_sound l m a b x.0 y.0, chained_steady a b x.1 y.1)

  beside_both : (l m : Layout Code) (a b : Part) → (AllKeepRates l.codes → Both l a)
      → (AllKeepRates m.codes → Both m b) → AllKeepRates (l.codes ++ m.codes)
      → Both (beside_layout l m) (beside a b)
  beside_both l m a b s t k =
      let x = s (keep_first l.codes m.codes k) in
      let y = t (keep_second l.codes m.codes k) in
      (beside_sound l m a b x.0 y.0, beside_steady a b x.1 y.1)

  fed_back_both : (l m : Layout Code) (a b : Part) (enqueued : List ℤ)
      → (AllKeepRates l.codes → Both l a) → (AllKeepRates m.codes → Both m b)
      → AllKeepRates (l.codes ++ m.codes)
      → Both (fed_back_layout l m enqueued) (fed_back a b enqueued)
  fed_back_both l m a b enqueued s t k =
      let x = s (keep_first l.codes m.codes k) in
      let y = t (keep_second l.codes m.codes k) in
      (fed_back_sound l m a b enqueued x.1 y.1 x.0 y.0, fed_back_steady a b x.1 y.1 enqueued)

  mutual
    unfolding layout part chained_layout beside_layout fed_back_layout

    pub part_both : (stream : Stream Code) → AllKeepRates (layout stream).codes
        → Both (layout stream) (part meaning counts input stream)
    part_both (One code) k = node_both code k
    part_both (Reader code) k = reader_both code k
    part_both (Pipeline streams) k = pipeline_both streams k
    part_both (SplitJoin splitter streams joiner) k =
        chained_both (maybe_layout splitter)
        (chained_layout (branch_layout streams) (maybe_layout joiner))
        (maybe_part meaning counts input splitter)
        (chained (branch_part meaning counts input streams)
        (maybe_part meaning counts input joiner))
        (maybe_both splitter)
        (chained_both (branch_layout streams) (maybe_layout joiner)
        (branch_part meaning counts input streams) (maybe_part meaning counts input joiner)
        (λ j. branches_both streams j) (maybe_both joiner))
        k
    part_both (FeedbackLoop joiner body splitter loop enqueued) k =
        fed_back_both (chained_layout (node_layout joiner)
        (chained_layout (layout body) (node_layout splitter))) (layout loop)
        (chained (node_part meaning counts input joiner)
        (chained (part meaning counts input body) (node_part meaning counts input splitter)))
        (part meaning counts input loop) enqueued
        (chained_both (node_layout joiner) (chained_layout (layout body) (node_layout splitter))
        (node_part meaning counts input joiner)
        (chained (part meaning counts input body) (node_part meaning counts input splitter))
        (node_both joiner)
        (chained_both (layout body) (node_layout splitter) (part meaning counts input body)
        (node_part meaning counts input splitter) (λ j. part_both body j) (node_both splitter)))
        (λ j. part_both loop j)
        k

    pipeline_both : (streams : Streams Code) → AllKeepRates (pipeline_layout streams).codes
        → Both (pipeline_layout streams) (pipeline_part meaning counts input streams)
    pipeline_both (Last stream) k = part_both stream k
    pipeline_both (More stream streams) k =
        chained_both (layout stream) (pipeline_layout streams) (part meaning counts input stream)
        (pipeline_part meaning counts input streams) (λ j. part_both stream j)
        (λ j. pipeline_both streams j) k

    branches_both : (streams : Streams Code) → AllKeepRates (branch_layout streams).codes
        → Both (branch_layout streams) (branch_part meaning counts input streams)
    branches_both (Last stream) k =
        beside_both (layout stream) (maybe_layout None) (part meaning counts input stream) no_part
        (λ j. part_both stream j) (λ j. (none_sound, no_part_steady)) k
    branches_both (More stream streams) k =
        beside_both (layout stream) (branch_layout streams) (part meaning counts input stream)
        (branch_part meaning counts input streams) (λ j. part_both stream j)
        (λ j. branches_both streams j) k

nothing_comes : {State Cause Word : Type 0} (input : List ℤ) (all : ℕ → Run State Cause Word)
    → [] ≡ arrived input all nothing
unfolding arrived items_of
nothing_comes input all = refl

module _ {Code State Cause Word : Type 0} (meaning : Meaning Code State Cause Word) (counts : ℕ → ℕ)
    (input : List ℤ) (stream : Stream Code) where
  flat_embedded : IsEmbedded meaning counts input (flat stream)
      (solution meaning counts input stream) 0
      (layout stream).codes ((part meaning counts input stream).solve 0 none).taken
  unfolding flat solution
  flat_embedded = record {
    code_at = λ i d h. ap (λ (n : ℕ). get_or (layout stream).codes n (any_code stream)) (zero-add i)
        ∙ get_or_default (layout stream).codes i (any_code stream) d h;
    taken_at = λ i h. ap (λ (n : ℕ). get_or
        ((part meaning counts input stream).solve 0 none).taken n none) (zero-add i);
  }

  -- The solution that the recursion gives solves the flat equations.
  pub stream_solves : ((node : ℕ) → KeepsRates meaning ((flat stream).code node))
      → Solves meaning (flat stream) counts input (solution meaning counts input stream)
  unfolding flat solution
  stream_solves keeps node port =
      elim (cases_lt node (length (layout stream).codes)) [
        | inl less ↦ sound.fed 0 none nowhere flat_embedded (λ p. none_comes p) node
            (omega (arith, sound.taken_size 0 none)) port
        | inr more ↦ past more
      ]
    where
      sound : IsSound meaning counts input (flat stream) (solution meaning counts input stream)
          (layout stream) (part meaning counts input stream)
      sound = (part_both meaning counts input (flat stream)
          (solution meaning counts input stream) stream
          (λ i d h. subst (λ (c : Code). KeepsRates meaning c)
          (get_or_default (layout stream).codes i (any_code stream) d h) (keeps i))).0

      none_comes : (p : ℕ) → none p ≡ arrived input
          (runs_at meaning (flat stream) counts (solution meaning counts input stream)) (nowhere p)
      none_comes p = nothing_comes input (runs_at meaning (flat stream) counts
          (solution meaning counts input stream))

      past : length (layout stream).codes ≤ node
          → solution meaning counts input stream node port
          ≡ arrived input (runs_at meaning (flat stream) counts
          (solution meaning counts input stream)) ((flat stream).source node port)
      past more =
          ap (λ (lists : ByPort). lists port)
          (get_or-eq_default ((part meaning counts input stream).solve 0 none).taken none
          {n = node} (omega (arith, sound.taken_size 0 none)))
          ∙ nothing_comes input (runs_at meaning (flat stream) counts
          (solution meaning counts input stream))
          ∙ ap (λ (sources : ℕ → Source). arrived input
          (runs_at meaning (flat stream) counts (solution meaning counts input stream))
          (sources port))
          (sym (get_or-eq_default ((layout stream).sources 0 nowhere) nowhere {n = node}
          (omega (arith, sound.sources_size 0 nowhere))))
