-- The round after fission is valid by counts: channel by channel.
use Rattle.std.proofs.Common.{◌≡◌, refl, sym, ap, ◌∙◌, subst, ℕ, zero, suc, ◌+◌, ◌-◌, ◌*◌, ◌<◌, ◌≤◌}
use Rattle.std.proofs.Common.{Bool, true, false, cond, eqb, ℤ, List, [], ◌∷◌, ◌++◌, arith, eqb-true}
use mathlib.Core.Logic.{inl, inr}
use Rattle.std.proofs.lemmas.Bool.{ne_eqb, eq-eqb, eqb-false, cases_lt}
use Rattle.strc_elab_dataflow.specs.Node.{Meaning, total}
use Rattle.strc_elab_dataflow.specs.Flat.{Origin, Origin.Nowhere, Origin.Input, Origin.Port, Graph}
use Rattle.strc_elab_dataflow.specs.Order.{firing_count, supply, IsOrder}
use Rattle.strc_elab_dataflow.specs.Rounds.{RepeatsRates}
use Rattle.strc_elab_dataflow.specs.Split.{all_firings, reach, Parts, outlet, renamed}
use Rattle.strc_elab_dataflow.specs.Blocks.{Block, Block.One, Block.All, times, copies, AreBlocks}
use Rattle.strc_elab_dataflow.specs.Blocks.{old_order, new_order}
use Rattle.strc_elab_dataflow.specs.SplitOrder.{window_of, pop_of, push_of, IsSplitByCounts}
use Rattle.strc_elab_dataflow.specs.SplitOrder.{HaveSplitRates}
use Rattle.strc_elab_dataflow.proofs.RoundsParts.{outlet_split, outlet_kept}
use Rattle.strc_elab_dataflow.proofs.Links.{Link, takes, sum_of, sum_append, Passes, easier, join}
use Rattle.strc_elab_dataflow.proofs.Links.{passes_front, passes_back, untouched}
use Rattle.strc_elab_dataflow.proofs.Channels.{gives_to, channel, each_passes, from_each}
use Rattle.strc_elab_dataflow.proofs.RoundsSegments.{times_append, sum_times, copies_append}
use Rattle.strc_elab_dataflow.proofs.RoundsSegments.{count_copies, sum_copies, copies_around}

takes_other : (link : Link) (node : ℕ) → eqb node link.target ≡ false → takes link node ≡ 0
unfolding takes
takes_other link node e = ap (λ (t : Bool). cond t link.pop 0) e

takes_here : (link : Link) → takes link link.target ≡ link.pop
unfolding takes
takes_here link = ap (λ (t : Bool). cond t link.pop 0) (eq-eqb link.target link.target refl)

-- What the last of some firings of the target finds, where it doesn't feed itself.
pub last_window : (link : Link) → link.gives link.target ≡ 0 → (n g t : ℕ)
    → Passes link g t (times (suc n) link.target [])
    → t + n * link.pop + link.window ≤ g
last_window link none zero g t passes = omega (arith, passes.0 refl)
last_window link none (suc n) g t passes = omega (
  arith,
  last_window link none n _ _ passes.1,
  takes_here link,
  none,
)

-- So many firings of the target pass where the items reach.
times_pass : (link : Link) → link.pop ≤ link.window → (n g t : ℕ)
    → t + n * link.pop + (link.window - link.pop) ≤ g
    → Passes link g t (times n link.target [])
times_pass link narrow zero g t enough = tt
times_pass link narrow (suc n) g t enough = (
  λ e. omega (arith, enough, narrow),
  times_pass link narrow n _ _ (omega (arith, enough, takes_here link)),
)

-- A firing of another node.
passes_other : (link : Link) (node : ℕ) (rest : List ℕ) (g t : ℕ) → eqb node link.target ≡ false
    → Passes link (g + link.gives node) t rest → Passes link g t (node ∷ rest)
passes_other link node rest g t apart passes = (
  λ e. absurd (eqb-false node link.target apart e),
  easier link rest _ _ _ _ (omega (arith, takes_other link node apart)) passes,
)

-- A segment without the target.
passes_over : (link : Link) (xs rest : List ℕ) (g t : ℕ) → firing_count xs link.target ≡ 0
    → sum_of (takes link) xs ≡ 0 → Passes link (g + sum_of link.gives xs) t rest
    → Passes link g t (xs ++ rest)
passes_over link xs rest g t none takes_none passes =
    join link xs rest g t (untouched link xs g t none)
    (easier link rest _ _ _ _ (omega (arith, takes_none)) passes)

module _ {Code State Cause Word : Type 0} (meaning : Meaning Code State Cause Word)
    (graph new : Graph Code) (input : List ℤ) (parts : Parts) (counts new_counts : ℕ → ℕ)
    (repeats : RepeatsRates meaning graph counts)
    (new_repeats : RepeatsRates meaning new new_counts)
    (is : IsSplitByCounts meaning graph new input parts counts new_counts) where
  abbrev old_link : ℕ → ℕ → Link
  old_link = channel meaning graph input counts repeats

  abbrev new_link : ℕ → ℕ → Link
  new_link = channel meaning new input new_counts new_repeats

  names_apart : (a k b l : ℕ) → k ≤ outlet parts a → l ≤ outlet parts b
      → (a ≡ b → k ≡ l → ⊥) → eqb (parts.name a k) (parts.name b l) ≡ false
  names_apart a k b l k_less l_less differ = ne_eqb (parts.name a k) (parts.name b l)
      (λ e. let same = is.apart a k b l k_less l_less e in differ same.0 same.1)

  nodes_apart : (a k b l : ℕ) → k ≤ outlet parts a → l ≤ outlet parts b → eqb a b ≡ false
      → eqb (parts.name a k) (parts.name b l) ≡ false
  nodes_apart a k b l k_less l_less apart =
      names_apart a k b l k_less l_less (λ e f. eqb-false a b apart e)

  -- What the parts give to an old channel.
  abbrev gives : Origin → ℕ → ℕ
  gives = gives_to meaning graph input counts repeats

  abbrev new_gives : Origin → ℕ → ℕ
  new_gives origin = gives_to meaning new input new_counts new_repeats (renamed parts origin)

  gives_kept : (origin : Origin) (w : ℕ) → parts.is_split w ≡ false
      → new_gives origin (parts.name w 0) ≡ gives origin w
  unfolding gives_to renamed push_of
  gives_kept Nowhere w kept = refl
  gives_kept Input w kept = refl
  gives_kept (Port s q) w kept = by_test (eqb w s) refl
    where
      by_test : (t : Bool) → eqb w s ≡ t
          → cond (eqb (parts.name w 0) (parts.name s (outlet parts s)))
          (meaning.pushed (new.code (parts.name s (outlet parts s)))
          (new_counts (parts.name s (outlet parts s))) q) 0
          ≡ cond t (meaning.pushed (graph.code s) (counts s) q) 0
      by_test false e =
          ap (λ (b : Bool). cond b (meaning.pushed (new.code (parts.name s (outlet parts s)))
          (new_counts (parts.name s (outlet parts s))) q) 0)
          (nodes_apart w 0 s (outlet parts s) (omega arith) (omega arith) e)
      by_test true e =
          let same : w ≡ s = eqb-true w s e in
          subst (λ (x : ℕ). cond (eqb (parts.name w 0) (parts.name x (outlet parts x)))
          (meaning.pushed (new.code (parts.name x (outlet parts x)))
          (new_counts (parts.name x (outlet parts x))) q) 0
          ≡ meaning.pushed (graph.code x) (counts x) q) same
          (subst (λ (k : ℕ). cond (eqb (parts.name w 0) (parts.name w k))
          (meaning.pushed (new.code (parts.name w k)) (new_counts (parts.name w k)) q) 0
          ≡ meaning.pushed (graph.code w) (counts w) q) (sym (outlet_kept parts w kept))
          (ap (λ (b : Bool). cond b (meaning.pushed (new.code (parts.name w 0))
          (new_counts (parts.name w 0)) q) 0) (eq-eqb (parts.name w 0) (parts.name w 0) refl)
          ∙ is.push w q kept))

  gives_inner : (origin : Origin) (w k : ℕ) → k < outlet parts w
      → new_gives origin (parts.name w k) ≡ 0
  unfolding gives_to renamed
  gives_inner Nowhere w k less = refl
  gives_inner Input w k less = refl
  gives_inner (Port s q) w k less =
      ap (λ (b : Bool). cond b (meaning.pushed (new.code (parts.name s (outlet parts s)))
      (new_counts (parts.name s (outlet parts s))) q) 0)
      (names_apart w k s (outlet parts s) (omega (arith, less)) (omega arith)
      (λ e f. absurd (omega (arith, ap (outlet parts) e, f, less))))

  gives_gather : (origin : Origin) (w : ℕ) → parts.is_split w ≡ true
      → new_gives origin (parts.name w (suc (parts.share w).ways))
      ≡ all_firings (parts.share w) * gives origin w
  unfolding gives_to renamed push_of
  gives_gather Nowhere w split = omega arith
  gives_gather Input w split = omega arith
  gives_gather (Port s q) w split =
      subst (λ (k : ℕ). new_gives (Port s q) (parts.name w k)
      ≡ all_firings (parts.share w) * gives (Port s q) w) (outlet_split parts w split)
      (by_test (eqb w s) refl)
    where
      by_test : (t : Bool) → eqb w s ≡ t
          → cond (eqb (parts.name w (outlet parts w)) (parts.name s (outlet parts s)))
          (meaning.pushed (new.code (parts.name s (outlet parts s)))
          (new_counts (parts.name s (outlet parts s))) q) 0
          ≡ all_firings (parts.share w)
          * cond t (meaning.pushed (graph.code s) (counts s) q) 0
      by_test false e =
          ap (λ (b : Bool). cond b (meaning.pushed (new.code (parts.name s (outlet parts s)))
          (new_counts (parts.name s (outlet parts s))) q) 0)
          (nodes_apart w (outlet parts w) s (outlet parts s) (omega arith) (omega arith) e)
          ∙ (let z : 0 ≡ all_firings (parts.share w) * 0 = omega arith in z)
      by_test true e =
          let same : w ≡ s = eqb-true w s e in
          subst (λ (x : ℕ). cond (eqb (parts.name w (outlet parts w))
          (parts.name x (outlet parts x)))
          (meaning.pushed (new.code (parts.name x (outlet parts x)))
          (new_counts (parts.name x (outlet parts x))) q) 0
          ≡ all_firings (parts.share w) * meaning.pushed (graph.code x) (counts x) q) same
          (subst (λ (k : ℕ). cond (eqb (parts.name w k) (parts.name w k))
          (meaning.pushed (new.code (parts.name w k)) (new_counts (parts.name w k)) q) 0
          ≡ all_firings (parts.share w) * meaning.pushed (graph.code w) (counts w) q)
          (sym (outlet_split parts w split))
          (ap (λ (b : Bool). cond b (meaning.pushed
          (new.code (parts.name w (suc (parts.share w).ways)))
          (new_counts (parts.name w (suc (parts.share w).ways))) q) 0)
          (eq-eqb (parts.name w (suc (parts.share w).ways))
          (parts.name w (suc (parts.share w).ways)) refl)
          ∙ (is.split w split).gather_push q))

  feeds_none_by : (o : Origin) (u : ℕ) → ((q : ℕ) → o ≡ Port u q → ⊥) → gives o u ≡ 0
  unfolding gives_to
  feeds_none_by Nowhere u no_loop = refl
  feeds_none_by Input u no_loop = refl
  feeds_none_by (Port s q) u no_loop =
      ap (λ (b : Bool). cond b (meaning.pushed (graph.code s) (counts s) q) 0)
      (ne_eqb u s (λ e. no_loop q (ap (λ (x : ℕ). Port x q) (sym e))))

  -- An old channel.
  module _ (u port : ℕ) (less : port < meaning.ports (graph.code u)) where
    abbrev origin : Origin
    origin = (graph.source u port).origin

    abbrev before : Link
    before = old_link u port

    -- The channel after fission, whose origin is the old one renamed.
    abbrev behind : Link
    behind = record {
      target = parts.name u 0;
      pop = meaning.popped (new.code (parts.name u 0)) (new_counts (parts.name u 0)) port;
      window = meaning.window (new.code (parts.name u 0)) (new_counts (parts.name u 0)) port;
      gives = new_gives origin;
    }

    takes_kept : (w : ℕ) → parts.is_split w ≡ false
        → takes behind (parts.name w 0) ≡ takes before w
    unfolding takes pop_of
    takes_kept w kept = by_test (eqb w u) refl
      where
        by_test : (t : Bool) → eqb w u ≡ t
            → cond (eqb (parts.name w 0) (parts.name u 0)) (meaning.popped
            (new.code (parts.name u 0)) (new_counts (parts.name u 0)) port) 0
            ≡ cond t (meaning.popped (graph.code u) (counts u) port) 0
        by_test false e = ap (λ (b : Bool). cond b (meaning.popped
            (new.code (parts.name u 0)) (new_counts (parts.name u 0)) port) 0)
            (nodes_apart w 0 u 0 (omega arith) (omega arith) e)
        by_test true e =
            let same : w ≡ u = eqb-true w u e in
            ap (λ (b : Bool). cond b (meaning.popped
            (new.code (parts.name u 0)) (new_counts (parts.name u 0)) port) 0)
            (eq-eqb (parts.name w 0) (parts.name u 0) (ap (λ (x : ℕ). parts.name x 0) same))
            ∙ is.pop u port (sym (ap parts.is_split same) ∙ kept)

    takes_inner : (w l : ℕ) → suc l ≤ outlet parts w → takes behind (parts.name w (suc l)) ≡ 0
    takes_inner w l l_less = takes_other behind (parts.name w (suc l))
        (names_apart w (suc l) u 0 l_less (omega arith) (λ e f. absurd (omega (arith, f))))

    -- Its only port.
    only_port : parts.is_split u ≡ true → 0 ≡ port
    only_port split = omega (arith, less, (is.split u split).one_port)

    takes_scatter : (w : ℕ) → parts.is_split w ≡ true
        → takes behind (parts.name w 0) ≡ all_firings (parts.share w) * takes before w
    unfolding takes pop_of
    takes_scatter w split = by_test (eqb w u) refl
      where
        by_test : (t : Bool) → eqb w u ≡ t
            → cond (eqb (parts.name w 0) (parts.name u 0)) (meaning.popped
            (new.code (parts.name u 0)) (new_counts (parts.name u 0)) port) 0
            ≡ all_firings (parts.share w)
            * cond t (meaning.popped (graph.code u) (counts u) port) 0
        by_test false e = ap (λ (b : Bool). cond b (meaning.popped
            (new.code (parts.name u 0)) (new_counts (parts.name u 0)) port) 0)
            (nodes_apart w 0 u 0 (omega arith) (omega arith) e)
            ∙ (let z : 0 ≡ all_firings (parts.share w) * 0 = omega arith in z)
        by_test true e =
            let same : w ≡ u = eqb-true w u e in
            let u_split : parts.is_split u ≡ true = sym (ap parts.is_split same) ∙ split in
            ap (λ (b : Bool). cond b (meaning.popped
            (new.code (parts.name u 0)) (new_counts (parts.name u 0)) port) 0)
            (eq-eqb (parts.name w 0) (parts.name u 0) (ap (λ (x : ℕ). parts.name x 0) same))
            ∙ subst (λ (p : ℕ). meaning.popped (new.code (parts.name u 0))
            (new_counts (parts.name u 0)) p ≡ all_firings (parts.share w)
            * meaning.popped (graph.code u) (counts u) p) (only_port u_split)
            ((is.split u u_split).scatter_pop
            ∙ ap (λ (k : ℕ). all_firings (parts.share u) * k) (sym (is.split u u_split).pop)
            ∙ ap (λ (x : ℕ). all_firings (parts.share x)
            * meaning.popped (graph.code u) (counts u) 0) (sym same))

    -- The scatter finds the items of a round.
    scatter_finds : (split : parts.is_split u ≡ true) (rest : List ℕ) (g t more taken : ℕ)
        → g + taken ≤ more + t
        → Passes before g t (times (all_firings (parts.share u)) u rest)
        → taken + behind.window ≤ more
    unfolding window_of pop_of
    scatter_finds split rest g t more taken at_least passes =
        subst (λ (p : ℕ). taken + meaning.window (new.code (parts.name u 0))
        (new_counts (parts.name u 0)) p ≤ more) (only_port split) (omega (
          arith,
          at_least,
          last_window before feeds_none (all_firings (parts.share u) - 1) g t
              (subst (λ (k : ℕ). Passes before g t (times k u [])) some (passes_front before
              (times (all_firings (parts.share u)) u []) rest g t
              (subst (Passes before g t) (times_append (all_firings (parts.share u)) u rest)
              passes))),
          rates.scatter_window,
          rates.narrow,
          at_port (only_port split),
          ap (λ (k : ℕ). k * (parts.share u).pop) some,
          ap (λ (k : ℕ). (all_firings (parts.share u) - 1) * k) (pop_at (only_port split)),
        ))
      where
        rates : HaveSplitRates meaning graph new input parts counts new_counts u (parts.share u)
        rates = is.split u split

        some : all_firings (parts.share u) ≡ suc (all_firings (parts.share u) - 1)
        some = omega (arith, rates.some)

        at_port : 0 ≡ port → before.window ≡ (parts.share u).window
        at_port e = ap (λ (p : ℕ). meaning.window (graph.code u) (counts u) p) (sym e)
            ∙ rates.window

        pop_at : 0 ≡ port → before.pop ≡ (parts.share u).pop
        pop_at e = ap (λ (p : ℕ). meaning.popped (graph.code u) (counts u) p) (sym e) ∙ rates.pop

        feeds_none : before.gives u ≡ 0
        feeds_none = subst (λ (p : ℕ). gives (graph.source u p).origin u ≡ 0) (only_port split)
            (feeds_none_by (graph.source u 0).origin u rates.no_loop)

    -- Each block.
    split_less : (w : ℕ) → parts.is_split w ≡ true → (l : ℕ) → l < (parts.share w).ways
        → suc l ≤ outlet parts w
    split_less w split l l_less = omega (arith, outlet_split parts w split, l_less)

    pub old_channel : (blocks : List Block) → AreBlocks parts blocks → (g t more taken : ℕ)
        → g + taken ≤ more + t → Passes before g t (old_order parts blocks)
        → Passes behind more taken (new_order parts blocks)
    unfolding window_of
    old_channel [] are g t more taken at_least passes = tt
    old_channel (One w ∷ rest) are g t more taken at_least passes = (
      λ e.
          let same : w ≡ u = (is.apart w 0 u 0 (omega arith) (omega arith) e).0 in
          omega (
            arith,
            at_least,
            passes.0 same,
            is.window u port (sym (ap parts.is_split same) ∙ are.0),
          ),
      old_channel rest are.1 (g + before.gives w) (t + takes before w) _ _ (omega (
        arith,
        at_least,
        gives_kept origin w are.0,
        takes_kept w are.0,
      )) passes.1,
    )
    old_channel (All w ∷ rest) are g t more taken at_least passes =
        let ways = (parts.share w).ways in
        let gather = parts.name w (suc ways) in
        let last = outlet_split parts w are.0 in (
          λ e.
              let same : w ≡ u = (is.apart w 0 u 0 (omega arith) (omega arith) e).0 in
              scatter_finds (sym (ap parts.is_split same) ∙ are.0) (old_order parts rest) g t more
              taken at_least
              (ap_order w u same (old_order parts rest) g t passes),
          subst (Passes behind (more + behind.gives (parts.name w 0))
              (taken + takes behind (parts.name w 0)))
              (sym (copies_append parts w ways 0 (gather ∷ new_order parts rest)))
              (passes_over behind (copies parts w 0 ways []) (gather ∷ new_order parts rest) _ _
              (count_copies parts w ways 0 behind.target (λ l lower l_less.
              names_apart u 0 w (suc l) (omega arith)
              (split_less w are.0 l (omega (arith, l_less)))
              (λ e f. absurd (omega (arith, f)))))
              (sum_copies parts w (takes behind) ways 0 (λ l lower l_less.
              takes_inner w l (split_less w are.0 l (omega (arith, l_less)))))
              (passes_other behind gather (new_order parts rest) _ _
              (names_apart w (suc ways) u 0 (omega (arith, last)) (omega arith)
              (λ e f. absurd (omega (arith, f))))
              (old_channel rest are.1 _ _ _ _ (omega (
                arith,
                at_least,
                gives_inner origin w 0 (omega (arith, last)),
                sum_copies parts w behind.gives ways 0 (λ l lower l_less.
                    gives_inner origin w (suc l) (omega (arith, last, l_less))),
                gives_gather origin w are.0,
                takes_scatter w are.0,
                sum_times before.gives (all_firings (parts.share w)) w,
                sum_times (takes before) (all_firings (parts.share w)) w,
              )) (passes_back before (times (all_firings (parts.share w)) w [])
              (old_order parts rest) g t (subst (Passes before g t)
              (times_append (all_firings (parts.share w)) w (old_order parts rest)) passes))))),
        )
      where
        ap_order : (w x : ℕ) → w ≡ x → (later : List ℕ) (g t : ℕ)
            → Passes before g t (times (all_firings (parts.share w)) w later)
            → Passes before g t (times (all_firings (parts.share x)) x later)
        ap_order w x same later g t p =
            subst (λ (y : ℕ). Passes before g t (times (all_firings (parts.share y)) y later)) same
            p

  -- A channel between the parts of one node: from part k to part j, both inner or the gather.
  module _ (v : ℕ) (split : parts.is_split v ≡ true) where
    abbrev ways : ℕ
    ways = (parts.share v).ways

    abbrev firings : ℕ
    firings = (parts.share v).firings

    abbrev rates : HaveSplitRates meaning graph new input parts counts new_counts v (parts.share v)
    rates = is.split v split

    last : outlet parts v ≡ suc (parts.share v).ways
    last = outlet_split parts v split

    -- A link at a part of this node other than its first.
    abbrev IsInner : Link → Type 0
    IsInner link = (k : ℕ) × (suc k ≤ outlet parts v) × (link.target ≡ parts.name v (suc k))

    first_apart : (link : Link) → IsInner link → (w : ℕ) → eqb (parts.name w 0) link.target ≡ false
    first_apart link (k, less, e) w = subst (λ (x : ℕ). eqb (parts.name w 0) x ≡ false) (sym e)
        (names_apart w 0 v (suc k) (omega arith) less (λ same f. absurd (omega (arith, f))))

    part_apart : (link : Link) → IsInner link → (w l : ℕ) → eqb w v ≡ false
        → l ≤ outlet parts w → eqb (parts.name w l) link.target ≡ false
    part_apart link (k, less, e) w l apart l_less =
        subst (λ (x : ℕ). eqb (parts.name w l) x ≡ false) (sym e)
        (nodes_apart w l v (suc k) l_less less apart)

    turned : (x y : ℕ) → eqb x y ≡ false → eqb y x ≡ false
    turned x y e = ne_eqb y x (λ f. eqb-false x y e (sym f))

    -- Where a round's own block passes, the round does.
    inner_channel : (link : Link) → IsInner link
        → ((g t : ℕ) (rest : List ℕ) → t ≤ g
        → ((g' t' : ℕ) → t' ≤ g' → Passes link g' t' rest)
        → Passes link g t (parts.name v 0 ∷ copies parts v 0 ways
        (parts.name v (suc ways) ∷ rest)))
        → (blocks : List Block) → AreBlocks parts blocks → (g t : ℕ) → t ≤ g
        → Passes link g t (new_order parts blocks)
    inner_channel link inner own [] are g t covered = tt
    inner_channel link inner own (One w ∷ rest) are g t covered =
        passes_other link (parts.name w 0) (new_order parts rest) g t (first_apart link inner w)
        (inner_channel link inner own rest are.1 _ _ (omega (arith, covered)))
    inner_channel link inner own (All w ∷ rest) are g t covered =
        by_test (λ g' t' less. inner_channel link inner own rest are.1 g' t' less) (eqb w v) refl
      where
        by_test : ((g' t' : ℕ) → t' ≤ g' → Passes link g' t' (new_order parts rest)) → (b : Bool)
            → eqb w v ≡ b → Passes link g t (new_order parts (All w ∷ rest))
        by_test ih true e =
            subst (λ (x : ℕ). Passes link g t (parts.name x 0 ∷ copies parts x 0
            (parts.share x).ways (parts.name x (suc (parts.share x).ways) ∷ new_order parts rest)))
            (sym (eqb-true w v e)) (own g t (new_order parts rest) covered ih)
        by_test ih false e =
            let w_last = outlet_split parts w are.0 in
            passes_other link (parts.name w 0) _ g t (first_apart link inner w)
            (subst (Passes link _ _) (sym (copies_append parts w (parts.share w).ways 0
            (parts.name w (suc (parts.share w).ways) ∷ new_order parts rest)))
            (passes_over link (copies parts w 0 (parts.share w).ways []) _ _ _
            (count_copies parts w (parts.share w).ways 0 link.target (λ l lower l_less.
            turned (parts.name w (suc l)) link.target (part_apart link inner w (suc l) e
            (omega (arith, w_last, l_less)))))
            (sum_copies parts w (takes link) (parts.share w).ways 0 (λ l lower l_less.
            takes_other link (parts.name w (suc l)) (part_apart link inner w (suc l) e
            (omega (arith, w_last, l_less)))))
            (passes_other link (parts.name w (suc (parts.share w).ways)) (new_order parts rest) _ _
            (part_apart link inner w (suc (parts.share w).ways) e (omega (arith, w_last)))
            (ih _ _ (omega (arith, covered))))))

    -- From the scatter to a copy.
    module _ (i : ℕ) (less : i < (parts.share v).ways) where
      abbrev copy : ℕ
      copy = parts.name v (suc i)

      abbrev to_copy : Link
      to_copy = record {
        target = parts.name v (suc i);
        pop = meaning.popped (new.code (parts.name v (suc i))) (new_counts (parts.name v
            (suc i))) 0;
        window = meaning.window (new.code (parts.name v (suc i)))
            (new_counts (parts.name v (suc i))) 0;
        gives = gives_to meaning new input new_counts new_repeats (Port (parts.name v 0) i);
      }

      scatter_gives : to_copy.gives (parts.name v 0) ≡ reach (parts.share v) firings
      unfolding gives_to push_of
      scatter_gives = ap (λ (b : Bool). cond b (meaning.pushed (new.code (parts.name v 0))
          (new_counts (parts.name v 0)) i) 0) (eq-eqb (parts.name v 0) (parts.name v 0) refl)
          ∙ rates.scatter_push i less

      copy_pops : to_copy.pop ≡ (parts.share v).pop
      unfolding pop_of
      copy_pops = rates.copy_pop i less

      copy_looks : to_copy.window ≡ (parts.share v).window
      unfolding window_of
      copy_looks = rates.copy_window i less

      others_apart : (l : ℕ) → l < ways → (l ≡ i → ⊥)
          → eqb (parts.name v (suc i)) (parts.name v (suc l)) ≡ false
      others_apart l l_less differ = names_apart v (suc i) v (suc l)
          (omega (arith, last, less)) (omega (arith, last, l_less))
          (λ e f. differ (omega (arith, f)))

      abbrev earlier : List ℕ
      earlier = copies parts v 0 i []

      abbrev later : List ℕ
      later = copies parts v (suc i) (ways - suc i) []

      earlier_none : firing_count earlier copy ≡ 0
      earlier_none = count_copies parts v i 0 copy (λ l lower l_less.
          others_apart l (omega (arith, less, l_less)) (λ e. absurd (omega (arith, e, l_less))))

      later_none : firing_count later copy ≡ 0
      later_none = count_copies parts v (ways - suc i) (suc i) copy (λ l lower l_less.
          others_apart l (omega (arith, less, l_less)) (λ e. absurd (omega (arith, e, lower))))

      takes_apart : (l : ℕ) → l < ways → (l ≡ i → ⊥)
          → takes to_copy (parts.name v (suc l)) ≡ 0
      takes_apart l l_less differ = takes_other to_copy (parts.name v (suc l))
          (turned copy (parts.name v (suc l)) (others_apart l l_less differ))

      earlier_takes : sum_of (takes to_copy) earlier ≡ 0
      earlier_takes = sum_copies parts v (takes to_copy) i 0 (λ l lower l_less.
          takes_apart l (omega (arith, less, l_less)) (λ e. absurd (omega (arith, e, l_less))))

      later_takes : sum_of (takes to_copy) later ≡ 0
      later_takes = sum_copies parts v (takes to_copy) (ways - suc i) (suc i) (λ l lower l_less.
          takes_apart l (omega (arith, less, l_less)) (λ e. absurd (omega (arith, e, lower))))

      -- All copies' firings.
      abbrev all : List ℕ
      all = copies parts v 0 ways []

      all_takes : sum_of (takes to_copy) all ≡ firings * (parts.share v).pop
      all_takes = omega (
        arith,
        ap (sum_of (takes to_copy)) (copies_around parts v i less),
        sum_append (takes to_copy) earlier (times firings copy [] ++ later),
        sum_append (takes to_copy) (times firings copy []) later,
        earlier_takes,
        later_takes,
        sum_times (takes to_copy) firings copy,
        ap (λ (k : ℕ). firings * k) (takes_here to_copy ∙ copy_pops),
      )

      all_pass : (g t : ℕ) → t + reach (parts.share v) firings ≤ g → Passes to_copy g t all
      all_pass g t enough = subst (Passes to_copy g t) (sym (copies_around parts v i less))
          (join to_copy earlier (times firings copy [] ++ later) g t
          (untouched to_copy earlier g t earlier_none)
          (join to_copy (times firings copy []) later _ _
          (times_pass to_copy (omega (arith, copy_pops, copy_looks, rates.narrow)) firings _ _
          (omega (
            arith,
            enough,
            earlier_takes,
            copy_pops,
            copy_looks,
            ap (λ (k : ℕ). firings * k) copy_pops,
          )))
          (untouched to_copy later _ _ later_none)))

      to_copy_own : (g t : ℕ) (rest : List ℕ) → t ≤ g
          → ((g' t' : ℕ) → t' ≤ g' → Passes to_copy g' t' rest)
          → Passes to_copy g t (parts.name v 0 ∷ copies parts v 0 ways
          (parts.name v (suc ways) ∷ rest))
      to_copy_own g t rest covered ih =
          passes_other to_copy (parts.name v 0) _ g t
          (names_apart v 0 v (suc i) (omega arith) (omega (arith, last, less))
          (λ e f. absurd (omega (arith, f))))
          (subst (Passes to_copy _ _) (sym (copies_append parts v ways 0
          (parts.name v (suc ways) ∷ rest)))
          (join to_copy all (parts.name v (suc ways) ∷ rest) _ _
          (all_pass _ _ (omega (arith, covered, scatter_gives)))
          (passes_other to_copy (parts.name v (suc ways)) rest _ _
          (names_apart v (suc ways) v (suc i) (omega (arith, last)) (omega (arith, last, less))
          (λ e f. absurd (omega (arith, f, less))))
          (ih _ _ (omega (arith, covered, scatter_gives, all_takes))))))

      pub to_copy_passes : (blocks : List Block) → AreBlocks parts blocks → (g t : ℕ) → t ≤ g
          → Passes to_copy g t (new_order parts blocks)
      to_copy_passes blocks are g t covered =
          inner_channel to_copy (i, omega (arith, last, less), refl)
          (λ g' t' rest less' ih. to_copy_own g' t' rest less' ih) blocks are g t covered

      -- From a copy to the gather.
      abbrev gather : ℕ
      gather = parts.name v (suc ways)

      abbrev from_copy : Link
      from_copy = record {
        target = parts.name v (suc ways);
        pop = meaning.popped (new.code gather) (new_counts gather) i;
        window = meaning.window (new.code gather) (new_counts gather) i;
        gives = gives_to meaning new input new_counts new_repeats (Port (parts.name v (suc i)) 0);
      }

      copy_gives : from_copy.gives copy ≡ (parts.share v).push
      unfolding gives_to push_of
      copy_gives = ap (λ (b : Bool). cond b (meaning.pushed (new.code copy)
          (new_counts copy) 0) 0) (eq-eqb copy copy refl) ∙ rates.copy_push i less

      gather_pops : from_copy.pop ≡ firings * (parts.share v).push
      unfolding pop_of
      gather_pops = rates.gather_pop i less

      gather_looks : from_copy.window ≡ firings * (parts.share v).push
      unfolding window_of
      gather_looks = rates.gather_window i less

      all_give : firings * (parts.share v).push ≤ sum_of from_copy.gives all
      all_give = omega (
        arith,
        ap (sum_of from_copy.gives) (copies_around parts v i less),
        sum_append from_copy.gives earlier (times firings copy [] ++ later),
        sum_append from_copy.gives (times firings copy []) later,
        sum_times from_copy.gives firings copy,
        ap (λ (k : ℕ). firings * k) copy_gives,
      )

      gather_apart : (l : ℕ) → l < ways → eqb gather (parts.name v (suc l)) ≡ false
      gather_apart l l_less = names_apart v (suc ways) v (suc l) (omega (arith, last))
          (omega (arith, last, l_less)) (λ e f. absurd (omega (arith, f, l_less)))

      from_copy_own : (g t : ℕ) (rest : List ℕ) → t ≤ g
          → ((g' t' : ℕ) → t' ≤ g' → Passes from_copy g' t' rest)
          → Passes from_copy g t (parts.name v 0 ∷ copies parts v 0 ways
          (parts.name v (suc ways) ∷ rest))
      from_copy_own g t rest covered ih =
          passes_other from_copy (parts.name v 0) _ g t
          (names_apart v 0 v (suc ways) (omega arith) (omega (arith, last))
          (λ e f. absurd (omega (arith, f))))
          (subst (Passes from_copy _ _) (sym (copies_append parts v ways 0 (gather ∷ rest)))
          (passes_over from_copy all (gather ∷ rest) _ _
          (count_copies parts v ways 0 gather (λ l lower l_less.
          gather_apart l (omega (arith, l_less))))
          (sum_copies parts v (takes from_copy) ways 0 (λ l lower l_less.
          takes_other from_copy (parts.name v (suc l)) (turned gather (parts.name v (suc l))
          (gather_apart l (omega (arith, l_less)))))) (
            λ e. omega (arith, covered, all_give, gather_looks),
            ih _ _ (omega (arith, covered, all_give, takes_here from_copy, gather_pops)),
          )))

      pub from_copy_passes : (blocks : List Block) → AreBlocks parts blocks → (g t : ℕ) → t ≤ g
          → Passes from_copy g t (new_order parts blocks)
      from_copy_passes blocks are g t covered =
          inner_channel from_copy (ways, omega (arith, last), refl)
          (λ g' t' rest less' ih. from_copy_own g' t' rest less' ih) blocks are g t covered

  -- All channels.
  module _ (blocks : List Block) (are : AreBlocks parts blocks)
      (valid : IsOrder meaning graph input counts (old_order parts blocks)) where
    abbrev NewPasses : ℕ → ℕ → Type 0
    NewPasses node port = Passes (new_link node port)
        (supply meaning new input new_counts (new.source node port))
        (total (meaning.popped (new.code node)) (new_counts node) port) (new_order parts blocks)

    -- A link with this origin.
    abbrev link_from : (node port : ℕ) → Origin → Link
    link_from node port o = record {
      target = node;
      pop = meaning.popped (new.code node) (new_counts node) port;
      window = meaning.window (new.code node) (new_counts node) port;
      gives = gives_to meaning new input new_counts new_repeats o;
    }

    at_origin : (node port : ℕ) (o : Origin) → (new.source node port).origin ≡ o
        → Passes (link_from node port o)
        (supply meaning new input new_counts (new.source node port))
        (total (meaning.popped (new.code node)) (new_counts node) port) (new_order parts blocks)
        → NewPasses node port
    at_origin node port o e passes = subst (λ (x : Origin). Passes (link_from node port x)
        (supply meaning new input new_counts (new.source node port))
        (total (meaning.popped (new.code node)) (new_counts node) port) (new_order parts blocks))
        (sym e) passes

    first_part : (u port : ℕ) → port < meaning.ports (new.code (parts.name u 0))
        → NewPasses (parts.name u 0) port
    first_part u port less =
        let old_less : port < meaning.ports (graph.code u) = omega (arith, is.ports u, less) in
        at_origin (parts.name u 0) port (renamed parts (graph.source u port).origin)
        (is.inputs u port old_less)
        (old_channel u port old_less blocks are _ _ _ _ (is.full u port old_less).fuller
        (each_passes meaning graph input counts repeats (old_order parts blocks) counts
        (λ v. omega arith) valid u port old_less))

    copy_part : (v i port : ℕ) → (split : parts.is_split v ≡ true) → i < (parts.share v).ways
        → port < 1 → NewPasses (parts.name v (suc i)) port
    copy_part v i zero split less below =
        let rates = is.split v split in
        at_origin (parts.name v (suc i)) 0 (Port (parts.name v 0) i) (rates.to_copy i less)
        (to_copy_passes v split i less blocks are _ _ (rates.copy_covered i less))
    copy_part v i (suc port) split less below = absurd (omega arith)

    gather_part : (v i : ℕ) → (split : parts.is_split v ≡ true) → i < (parts.share v).ways
        → NewPasses (parts.name v (suc (parts.share v).ways)) i
    gather_part v i split less =
        let rates = is.split v split in
        at_origin (parts.name v (suc (parts.share v).ways)) i (Port (parts.name v (suc i)) 0)
        (rates.from_copy i less)
        (from_copy_passes v split i less blocks are _ _ (rates.gather_covered i less))

    later_part : (v i port : ℕ) → (split : parts.is_split v ≡ true)
        → suc i ≤ outlet parts v → port < meaning.ports (new.code (parts.name v (suc i)))
        → NewPasses (parts.name v (suc i)) port
    later_part v i port split within less =
        let rates = is.split v split in
        elim (cases_lt i (parts.share v).ways) [
          | inl lower ↦ copy_part v i port split lower (omega
              (arith, rates.copy_port i lower, less))
          | inr at_end ↦
              let e : i ≡ (parts.share v).ways =
              omega (arith, at_end, within, outlet_split parts v split) in
              subst (λ (x : ℕ). port < meaning.ports (new.code (parts.name v (suc x)))
              → NewPasses (parts.name v (suc x)) port) (sym e)
              (λ here. gather_part v port split (omega (arith, rates.gather_ports, here))) less
        ]

    part_passes : (v k port : ℕ) → k ≤ outlet parts v → (b : Bool) → parts.is_split v ≡ b
        → port < meaning.ports (new.code (parts.name v k)) → NewPasses (parts.name v k) port
    part_passes v zero port within b split less = first_part v port less
    part_passes v (suc i) port within true split less = later_part v i port split within less
    part_passes v (suc i) port within false split less =
        absurd (omega (arith, within, outlet_kept parts v split))

    pub split_is_order : IsOrder meaning new input new_counts (new_order parts blocks)
    split_is_order = from_each meaning new input new_counts new_repeats (new_order parts blocks)
        new_counts (λ v. omega arith) (λ node port less.
        let owns = is.owner node in
        subst (λ (x : ℕ). port < meaning.ports (new.code x) → NewPasses x port) owns.2.is
        (λ here. part_passes owns.0 owns.1 port owns.2.within (parts.is_split owns.0) refl here)
        less)
