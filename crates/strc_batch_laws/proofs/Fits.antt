-- Room for a batch: within a stage its firings go on as in a round; from a stage to a later one all
-- that a batch gives can wait.
use Rattle.std.proofs.Common.{◌≡◌, refl, sym, ap, ◌∙◌, subst, ℕ, zero, suc, ◌+◌, ◌-◌, ◌*◌, ◌<◌, ◌≤◌}
use Rattle.std.proofs.Common.{List, [], ◌++◌, length, arith, append_assoc}
use mathlib.Core.Logic.{inl, inr, ◌⊎◌}
use Rattle.std.proofs.lemmas.Bool.{cases_order, cases_lt}
use Rattle.strc_elab_dataflow.specs.Flat.{Origin.Port, Graph}
use Rattle.strc_elab_dataflow.specs.Node.{Meaning, total}
use Rattle.strc_elab_dataflow.specs.Order.{counted, firing_count, fill}
use Rattle.strc_elab_dataflow.specs.Queues.{Fifo}
use Rattle.strc_elab_dataflow.specs.Restart.{restarted_meaning, restarted}
use Rattle.strc_elab_dataflow.specs.RestartRounds.{total_from, RepeatsByRounds, IsBalancedByRounds}
use Rattle.strc_elab_dataflow.specs.Schedules.{fired_in}
use Rattle.strc_elab_dataflow.specs.Staging.{joined, repeated, IsFromUpTo, IsStaged}
use Rattle.strc_elab_dataflow.proofs.Counts.{count_append, count_none}
use Rattle.strc_elab_dataflow.proofs.WholeRun.{counted-firing_count}
use Rattle.strc_batch_laws.specs.Batches.{batched, batch_order}
use Rattle.strc_batch_laws.specs.Fits.{IsRoom, round_gives, BatchesFit}
use Rattle.strc_batch_laws.proofs.Batch.{count_repeated, count_batched, total_grows, batch_count}
use Rattle.strc_batch_laws.proofs.Batch.{earlier_count, later_count, own_count, other_count}
use Rattle.strc_batch_laws.proofs.Fills.{total_later, later_by, pops, pushes, pushes_later}
use Rattle.strc_batch_laws.proofs.Fills.{fill_is, fill_later}
use Rattle.strc_batch_laws.proofs.Fronts.{IsFrontOf, front_of, IsFrontOfJoined, joined_front}
use Rattle.strc_batch_laws.proofs.Fronts.{has_rest}

-- The total of a rate that repeats, over so many rounds.
total_rounds : (rate : ℕ → ℕ → ℕ) (port round : ℕ)
    → ((firing : ℕ) → rate (firing + round) port ≡ rate firing port) → (b : ℕ)
    → total rate (b * round) port ≡ b * total rate round port
unfolding total
total_rounds rate port round repeats zero =
    ap (λ (n : ℕ). total rate n port) (let e : 0 * round ≡ 0 = omega arith in e)
    ∙ (let f : 0 ≡ 0 * total rate round port = omega arith in f)
total_rounds rate port round repeats (suc b) =
    ap (λ (n : ℕ). total rate n port)
    (let e : suc b * round ≡ b * round + round = omega arith in e)
    ∙ total_later rate port round repeats (b * round)
    ∙ (let f : total rate (b * round) port + total rate round port ≡ suc b * total rate round port
    = omega (arith, total_rounds rate port round repeats b) in f)

counted_none : (done : List ℕ) (v : ℕ) → counted (λ u. 0) done v ≡ firing_count done v
counted_none done v = omega (arith, counted-firing_count done (λ u. 0) v)

module _ {Code State Cause Word : Type 0} (meaning : Meaning Code State Cause Word)
    (graph : Graph Code) (from : Fifo State Cause Word) (stage_of : ℕ → ℕ) (segment : ℕ → List ℕ)
    (stages : ℕ) (round : ℕ → ℕ) (round_order : List ℕ) (b : ℕ)
    (node port source source_port size : ℕ)
    (staged : IsStaged graph stage_of segment stages round_order)
    (round_counts : (v : ℕ) → firing_count round_order v ≡ round v)
    (repeats : RepeatsByRounds meaning graph (fired_in meaning graph from) round)
    (balanced : IsBalancedByRounds meaning graph (fired_in meaning graph from) round)
    (inside : port < meaning.ports (graph.code node))
    (origin : (graph.source node port).origin ≡ Port source source_port)
    (room : IsRoom meaning graph from round_order node port size) where
  abbrev fills : (ℕ → ℕ) → ℕ
  fills counts = fill (restarted_meaning meaning) (restarted from graph) [] counts node port

  abbrev gives : ℕ → ℕ → ℕ
  gives = pushes meaning graph from round repeats balanced node port source source_port inside
      origin

  abbrev takes : ℕ → ℕ → ℕ
  takes = pops meaning graph from round repeats balanced node port source source_port inside origin

  fill_of : (counts : ℕ → ℕ) → fills counts
      ≡ (length (from.queues node port) + total gives (counts source) source_port)
      - total takes (counts node) port
  fill_of = fill_is meaning graph from round repeats balanced node port source source_port inside
      origin

  -- What waits depends on the counts of both ends alone.
  same_fills : (c d : ℕ → ℕ) → c source ≡ d source → c node ≡ d node → fills c ≡ fills d
  same_fills c d at_source at_node =
      fill_of c
      ∙ ap (λ (k : ℕ). (length (from.queues node port) + total gives k source_port)
      - total takes (c node) port) at_source
      ∙ ap (λ (k : ℕ). (length (from.queues node port) + total gives (d source) source_port)
      - total takes k port) at_node
      ∙ sym (fill_of d)

  goes_forward : stage_of source ≤ stage_of node
  goes_forward = subst (IsFromUpTo stage_of (stage_of node)) origin (staged.backward node port)

  -- ---- within a stage

  -- For the nodes of a stage, so many rounds and a front of another.
  record IsInRounds (s : ℕ) (done : List ℕ) : Type 0 where
    whole : ℕ
    front : List ℕ
    back : List ℕ
    round_is : front ++ back ≡ round_order
    same : (v : ℕ) → stage_of v ≡ s
        → firing_count done v ≡ whole * round v + firing_count front v

  in_rounds_fit : (s : ℕ) (done : List ℕ) → IsInRounds s done → stage_of source ≡ s
      → stage_of node ≡ s → fills (counted (λ v. 0) done) ≤ size
  in_rounds_fit s done is here there =
      let moved : fills (counted (λ v. 0) done)
      ≡ fills (later_by round (counted (λ v. 0) is.front) is.whole)
      = same_fills (counted (λ v. 0) done) (later_by round (counted (λ v. 0) is.front) is.whole)
      (at source here) (at node there) in
      let same_fill : fills (later_by round (counted (λ v. 0) is.front) is.whole)
      ≡ fills (counted (λ v. 0) is.front)
      = fill_later meaning graph from round repeats balanced node port source source_port inside
      origin (counted (λ v. 0) is.front) is.whole in
      omega (arith, moved, same_fill, room is.front is.back is.round_is)
    where
      at : (v : ℕ) → stage_of v ≡ s
          → counted (λ u. 0) done v ≡ is.whole * round v + counted (λ u. 0) is.front v
      at v own = omega (arith, counted_none done v, counted_none is.front v, is.same v own)

  no_rounds : (s : ℕ) (done : List ℕ) (whole : ℕ)
      → ((v : ℕ) → stage_of v ≡ s → firing_count done v ≡ whole * round v) → IsInRounds s done
  no_rounds s done whole is = record {
    whole = whole;
    front = [];
    back = round_order;
    round_is = refl;
    same = λ v own. omega (arith, is v own, count_none v);
  }

  -- the firings of a stage in the middle of its turns
  within_turns : (a b' : ℕ) (done front : List ℕ) → a < stages
      → IsFrontOf (segment a) b' front
      → done ≡ joined (batched b segment) a ++ front → IsInRounds a done
  unfolding joined
  within_turns a b' done front less its is =
      let rest = has_rest segment (suc a) stages less in
      record {
        whole = its.whole;
        front = joined segment a ++ its.front;
        back = its.back ++ rest.rest;
        round_is = sym (append_assoc (joined segment a ++ its.front) its.back rest.rest)
            ∙ ap (λ (l : List ℕ). l ++ rest.rest)
            (append_assoc (joined segment a) its.front its.back
            ∙ ap (λ (l : List ℕ). joined segment a ++ l) its.round)
            ∙ sym rest.is ∙ sym staged.order;
        same = same_at;
      }
    where
      same_at : (v : ℕ) → stage_of v ≡ a → firing_count done v
          ≡ its.whole * round v + firing_count (joined segment a ++ its.front) v
      same_at v own =
          let none : firing_count (joined segment a) v ≡ 0
          = later_count graph stage_of segment stages round_order round b staged round_counts a v
          (omega arith) (omega (arith, own)) in
          let turns : firing_count front v
          ≡ its.whole * round v + firing_count its.front v
          = ap (λ (l : List ℕ). firing_count l v) its.is
          ∙ count_append (repeated its.whole (segment a)) its.front v
          ∙ ap (λ (k : ℕ). k + firing_count its.front v)
          (count_repeated its.whole (segment a) v
          ∙ ap (λ (k : ℕ). its.whole * k)
          (own_count graph stage_of segment stages round_order round b staged round_counts a v less
          own)) in
          omega (
            arith,
            ap (λ (l : List ℕ). firing_count l v) is,
            count_append (joined (batched b segment) a) front v,
            count_batched b segment a v,
            ap (λ (k : ℕ). b * k) none,
            none,
            turns,
            count_append (joined segment a) its.front v,
          )

  -- before its turns, and behind them
  around_turns : (a s : ℕ) (done front : List ℕ) → a < stages
      → ((v : ℕ) → stage_of v ≡ s → firing_count front v ≡ 0)
      → (s < a) ⊎ (a < s)
      → done ≡ joined (batched b segment) a ++ front → IsInRounds s done
  around_turns a s done front less none (inl before) is = no_rounds s done b (λ v own. omega (
    arith,
    ap (λ (l : List ℕ). firing_count l v) is,
    count_append (joined (batched b segment) a) front v,
    count_batched b segment a v,
    ap (λ (k : ℕ). b * k) (earlier_count graph stage_of segment stages round_order round b staged
        round_counts a v (omega arith) (omega (arith, own))),
    none v own,
  ))
  around_turns a s done front less none (inr past) is = no_rounds s done 0 (λ v own. omega (
    arith,
    ap (λ (l : List ℕ). firing_count l v) is,
    count_append (joined (batched b segment) a) front v,
    count_batched b segment a v,
    ap (λ (k : ℕ). b * k) (later_count graph stage_of segment stages round_order round b staged
        round_counts a v (omega arith) (omega (arith, own))),
    none v own,
  ))

  front_none : (a s : ℕ) (front back : List ℕ) → a < stages → (s ≡ a → ⊥)
      → front ++ back ≡ batched b segment a → (v : ℕ) → stage_of v ≡ s → firing_count front v ≡ 0
  front_none a s front back less differ is v own = omega (
    arith,
    ap (λ (l : List ℕ). firing_count l v) is,
    count_append front back v,
    count_repeated b (segment a) v,
    ap (λ (k : ℕ). b * k) (other_count graph stage_of segment stages round_order round b staged
        round_counts a v less (λ e. differ (sym own ∙ e))),
  )

  turns_by : (turns a : ℕ) (done front back : List ℕ) → a < stages
      → front ++ back ≡ repeated turns (segment a)
      → done ≡ joined (batched b segment) a ++ front → IsInRounds a done
  unfolding repeated
  turns_by zero a done front back less e is = no_rounds a done 0 (λ v own. omega (
    arith,
    ap (λ (l : List ℕ). firing_count l v) is,
    count_append (joined (batched b segment) a) front v,
    count_batched b segment a v,
    ap (λ (k : ℕ). b * k) (later_count graph stage_of segment stages round_order round b staged
        round_counts a v (omega arith) (omega (arith, own))),
    ap (λ (l : List ℕ). firing_count l v) e,
    count_append front back v,
    count_none v,
  ))
  turns_by (suc turns) a done front back less e is =
      within_turns a (suc turns) done front less (front_of (segment a) turns front back e) is

  in_rounds : (s : ℕ) (done left : List ℕ) → done ++ left ≡ batch_order b segment stages
      → IsInRounds s done
  in_rounds s done left e = elim (joined_front (batched b segment) stages done left e) [
    | inl none ↦ no_rounds s done 0 (λ v own. omega (
      arith,
      ap (λ (l : List ℕ). firing_count l v) none,
      count_none v,
    ))
    | inr its ↦ by_order its (cases_order s its.at)
  ]
    where
      by_order : (its : IsFrontOfJoined (batched b segment) stages done)
          → (s ≡ its.at) ⊎ ((s < its.at) ⊎ (its.at < s)) → IsInRounds s done
      by_order its (inl same) = subst (λ (k : ℕ). IsInRounds k done) (sym same)
          (turns_by b its.at done its.front its.back its.before its.segment_is its.is)
      by_order its (inr other) = around_turns its.at s done its.front its.before
          (front_none its.at s its.front its.back its.before (apart other) its.segment_is) other
          its.is
        where
          apart : (s < its.at) ⊎ (its.at < s) → s ≡ its.at → ⊥
          apart (inl before) same = omega arith
          apart (inr past) same = omega arith

  pub within_stage : stage_of source ≡ stage_of node
      → IsRoom meaning graph from (batch_order b segment stages) node port size
  within_stage same done left e =
      in_rounds_fit (stage_of node) done (in_rounds (stage_of node) done left e) same refl

  -- ---- from a stage to a later one

  each_round : ℕ
  each_round = round_gives meaning graph from round source source_port

  all_given : total gives (round source) source_port ≡ each_round
  unfolding each_round total_from
  all_given = refl

  none_taken : total takes 0 port ≡ 0
  unfolding total
  none_taken = refl

  -- where the source's stage has fired in a round and the target's has not
  first_round : stage_of source < stage_of node
      → length (from.queues node port) + each_round ≤ size
  first_round less =
      let here : stage_of source < stages = staged.within source in
      let rest = has_rest segment (suc (stage_of source)) stages here in
      let front : List ℕ = joined segment (suc (stage_of source)) in
      let at_source : counted (λ v. 0) front source ≡ round source
      = counted_none front source
      ∙ earlier_count graph stage_of segment stages round_order round b staged round_counts
      (suc (stage_of source)) source here (omega arith) in
      let at_node : counted (λ v. 0) front node ≡ 0
      = counted_none front node
      ∙ later_count graph stage_of segment stages round_order round b staged round_counts
      (suc (stage_of source)) node here less in
      let waits : fills (counted (λ v. 0) front)
      ≡ (length (from.queues node port) + total gives (round source) source_port)
      - total takes 0 port
      = fill_of (counted (λ v. 0) front)
      ∙ ap (λ (k : ℕ). (length (from.queues node port) + total gives k source_port)
      - total takes (counted (λ v. 0) front node) port) at_source
      ∙ ap (λ (k : ℕ). (length (from.queues node port)
      + total gives (round source) source_port) - total takes k port) at_node in
      omega (
        arith,
        waits,
        none_taken,
        all_given,
        room front rest.rest (sym rest.is ∙ sym staged.order),
      )

  given_rounds : (k : ℕ) → total gives (k * round source) source_port ≡ k * each_round
  given_rounds k =
      total_rounds gives source_port (round source)
      (pushes_later meaning graph from round repeats balanced node port source source_port inside
      origin) k
      ∙ ap (λ (n : ℕ). k * n) all_given

  fired_few : (done left : List ℕ) → done ++ left ≡ batch_order b segment stages
      → counted (λ v. 0) done source ≤ b * round source
  fired_few done left e = omega (
    arith,
    counted_none done source,
    ap (λ (l : List ℕ). firing_count l source) e,
    count_append done left source,
    batch_count graph stage_of segment stages round_order round b staged round_counts source,
  )

  waits_few : (done left : List ℕ) → done ++ left ≡ batch_order b segment stages
      → fills (counted (λ v. 0) done) ≤ length (from.queues node port) + b * each_round
  waits_few done left e = omega (
    arith,
    fill_of (counted (λ v. 0) done),
    total_grows gives source_port (counted (λ v. 0) done source) (b * round source)
        (fired_few done left e),
    given_rounds b,
  )

  more_room : (k each long : ℕ) → long + each ≤ size
      → long + k * each ≤ size + (k - 1) * each
  more_room zero each long fits = omega (arith, fits)
  more_room (suc k) each long fits =
      let e : suc k - 1 ≡ k = omega arith in
      let f : (suc k - 1) * each ≡ k * each = ap (λ (n : ℕ). n * each) e in
      omega (arith, fits, f)

  pub across_stages : IsRoom meaning graph from (batch_order b segment stages) node port
      (size + (b - 1) * round_gives meaning graph from round source source_port)
  unfolding each_round
  across_stages done left e = elim (cases_lt (stage_of source) (stage_of node)) [
    | inl less ↦ omega (
      arith,
      waits_few done left e,
      more_room b each_round (length (from.queues node port)) (first_round less),
    )
    | inr more ↦ omega (
      arith,
      within_stage (let same : stage_of source ≡ stage_of node
          = omega (arith, goes_forward, more) in same) done left e,
    )
  ]

pub fit_law : {Code State Cause Word : Type 0} → BatchesFit Code State Cause Word
fit_law meaning graph from stage_of segment stages round round_order b node port source source_port
    size staged round_counts repeats balanced inside origin room = (
      within_stage meaning graph from stage_of segment stages round round_order b node port source
          source_port size staged round_counts repeats balanced inside origin room,
      across_stages meaning graph from stage_of segment stages round round_order b node port source
          source_port size staged round_counts repeats balanced inside origin room,
    )
