-- Parts of a stream give more where more comes in, and no more than their rates allow; so the list
-- that a feedback loop brings back settles.
use Rattle.std.proofs.Common.{◌≡◌, refl, sym, ap, ◌∙◌, subst, ℕ, zero, suc, ◌+◌, ◌≤◌, Bool, true}
use Rattle.std.proofs.Common.{false, List, [], ◌∷◌, ◌++◌, length, Option, Some, None, ℤ, arith}
use Rattle.std.proofs.Common.{append_assoc, append-nil, length-append}
use mathlib.Core.Logic.{inl, inr, ◌⊎◌}
use Rattle.strc_elab_dataflow.specs.Node.{ByPort, Meaning, total, at_port_0}
use Rattle.strc_elab_dataflow.specs.Histories.{Run, finds, initial_run, advance, runs, KeepsRates}
use Rattle.strc_elab_dataflow.specs.Streams.{prepend, Part, chained, beside, iterate, around}
use Rattle.strc_elab_dataflow.specs.Streams.{back_of}
use Rattle.strc_elab_dataflow.specs.Streams.{turn, loop_solution, fed_back, no_part, node_part}
use Rattle.strc_elab_dataflow.specs.Streams.{reader_part}
use Rattle.strc_elab_dataflow.proofs.Runs.{at_or_below, not_found, Begins, begins_itself}
use Rattle.strc_elab_dataflow.proofs.Runs.{advance_longer}
use Rattle.strc_elab_dataflow.proofs.Runs.{stays_faulted, pushes_grow, advance_counts}
use Rattle.strc_elab_dataflow.proofs.Runs.{fault_pushes_nothing}

total_grows : (rate : ℕ → ℕ → ℕ) (port n later : ℕ) → n ≤ later
    → total rate n port ≤ total rate later port
unfolding total
total_grows rate port n zero h = let e : n ≡ 0 = omega arith in rw e (omega arith)
total_grows rate port n (suc later) h =
    elim (at_or_below n later h) [
      | inl e ↦ rw e (omega arith)
      | inr less ↦
          omega (arith, total_grows rate port n later less)
    ]

module _ {Code State Cause Word : Type 0} (meaning : Meaning Code State Cause Word) (code : Code)
  where
    -- The runs over inputs that begin longer ones are runs of the longer ones, of fewer firings.
    pub record IsEarlier (n : ℕ) (ys : ByPort) (run : Run State Cause Word) : Type 0 where
      pub firings : ℕ
      pub fewer : firings ≤ n
      pub same : run ≡ runs meaning code firings ys

    earlier_by : (n : ℕ) (xs ys : ByPort) → ((port : ℕ) → Begins (xs port) (ys port))
        → (run : Run State Cause Word) → IsEarlier n ys run → (found : Bool)
        → finds meaning code run.fired xs ≡ found → IsEarlier (suc n) ys
        (advance meaning code xs run)
    unfolding runs
    earlier_by n xs ys b run earlier true e =
        record {
          firings = suc earlier.firings;
          fewer = omega (arith, earlier.fewer);
          same =
              sym (advance_longer meaning code xs ys run b e)
              ∙ ap (advance meaning code ys) earlier.same;
        }
    earlier_by n xs ys b run earlier false e =
        record {
          firings = earlier.firings;
          fewer = omega (arith, earlier.fewer);
          same =
              not_found meaning code xs run e ∙ earlier.same;
        }

    pub runs_of_beginning : (n : ℕ) (xs ys : ByPort) → ((port : ℕ) → Begins (xs port) (ys port))
        → IsEarlier n ys (runs meaning code n xs)
    unfolding runs
    runs_of_beginning zero xs ys b = record { firings = 0; fewer = omega arith; same = refl }
    runs_of_beginning (suc n) xs ys b =
        earlier_by n xs ys b (runs meaning code n xs) (runs_of_beginning n xs ys b)
        (finds meaning code (runs meaning code n xs).fired xs) refl

    -- More input, more output.
    pub runs_grow : (n : ℕ) (xs ys : ByPort) → ((port : ℕ) → Begins (xs port) (ys port)) →
        (port : ℕ)
        → Begins ((runs meaning code n xs).pushes port) ((runs meaning code n ys).pushes port)
    runs_grow n xs ys b port =
        let earlier = runs_of_beginning n xs ys b in
        subst (λ (r : Run State Cause Word). Begins (r.pushes port)
        ((runs meaning code n ys).pushes port)) (sym earlier.same)
        (pushes_grow meaning code ys port earlier.firings n earlier.fewer)

    -- The firings that were done before a run stopped, if it did.
    record IsDone (inputs : ByPort) (n : ℕ) : Type 0 where
      firings : ℕ
      fewer : firings ≤ n
      fired : (runs meaning code firings inputs).fired ≡ firings
      faultless : (runs meaning code firings inputs).fault ≡ None
      same : (port : ℕ) → (runs meaning code n inputs).pushes port
          ≡ (runs meaning code firings inputs).pushes port
      stopped : (n ≡ firings) ⊎ (advance meaning code inputs (runs meaning code n inputs)
          ≡ runs meaning code n inputs)

    runs_done : (inputs : ByPort) (n : ℕ) → IsDone inputs n
    unfolding runs initial_run
    runs_done inputs zero = record {
      firings = 0;
      fewer = omega arith;
      fired = refl;
      faultless =
          refl;
      same = λ port. refl;
      stopped = inl refl;
    }
    runs_done inputs (suc n) = next (runs_done inputs n)
      where
        stuck : IsDone inputs n → advance meaning code inputs (runs meaning code n inputs)
            ≡ runs meaning code n inputs → IsDone inputs (suc n)
        stuck done e = record {
          firings = done.firings;
          fewer = omega (arith, done.fewer);
          fired = done.fired;
          faultless = done.faultless;
          same = λ port. ap (λ (r : Run State Cause Word). r.pushes port) e ∙ done.same port;
          stopped = inr (ap (advance meaning code inputs) e);
        }

        by_fault : (done : IsDone inputs n) → n ≡ done.firings
            → finds meaning code (runs meaning code n inputs).fired inputs ≡ true
            → (fault : Option Cause) → (advance meaning code inputs
            (runs meaning code n inputs)).fault ≡ fault → IsDone inputs (suc n)
        by_fault done e found None f = record {
          firings = suc n;
          fewer = omega arith;
          fired = (advance_counts meaning code inputs (runs meaning code n inputs)
              (rw e done.faultless) found).0 f
              ∙ ap suc (subst (λ (m : ℕ). (runs meaning code m inputs).fired ≡ m) (sym e)
              done.fired);
          faultless = f;
          same = λ port. refl;
          stopped = inl refl;
        }
        by_fault done e found (Some cause) f = record {
          firings = done.firings;
          fewer = omega (arith, done.fewer);
          fired = done.fired;
          faultless = done.faultless;
          same = λ port. fault_pushes_nothing meaning code inputs
              (runs meaning code n inputs) cause port f ∙ done.same port;
          stopped = inr (stays_faulted meaning code inputs
              (advance meaning code inputs (runs meaning code n inputs)) cause f);
        }

        by_found : (done : IsDone inputs n) → n ≡ done.firings → (found : Bool)
            → finds meaning code (runs meaning code n inputs).fired inputs ≡ found
            → IsDone inputs (suc n)
        by_found done e true f = by_fault done e f
            (advance meaning code inputs (runs meaning code n inputs)).fault refl
        by_found done e false f = stuck done
            (not_found meaning code inputs (runs meaning code n inputs) f)

        next : IsDone inputs n → IsDone inputs (suc n)
        next done = elim done.stopped [
          | inl e ↦
              by_found done e (finds meaning code (runs meaning code n inputs).fired inputs) refl
          | inr
              e ↦ stuck done e
        ]

    -- No more output than the rates allow.
    pub runs_bounded : KeepsRates meaning code → (inputs : ByPort) (n port : ℕ)
        → length ((runs meaning code n inputs).pushes port) ≤ total (meaning.pushed code) n port
    runs_bounded keeps inputs n port =
        let done = runs_done inputs n in
        omega (
          arith,
          ap length (done.same port),
          keeps.kept done.firings inputs done.fired done.faultless port,
          total_grows (meaning.pushed code) port done.firings n done.fewer,
        )

-- What each part of a stream keeps: more input gives more output, and no more than the rates allow.
pub record IsSteady (p : Part) : Type 0 where
  pub grows : (first : ℕ) (xs ys : ByPort) → ((port : ℕ) → Begins (xs port) (ys port)) → (port : ℕ)
      → Begins ((p.solve first xs).given port) ((p.solve first ys).given port)
  pub bounded : (first : ℕ) (lists : ByPort) (port : ℕ)
      → length ((p.solve first lists).given port) ≤ p.most first port

at_port_0_grows : (xs ys : List ℤ) → Begins xs ys → (port : ℕ)
    → Begins (at_port_0 xs port) (at_port_0 ys port)
unfolding at_port_0
at_port_0_grows xs ys b zero = b
at_port_0_grows xs ys b (suc port) = begins_itself []

prepend_grows : (xs ys : List ℤ) (xss yss : ByPort) → Begins xs ys
    → ((port : ℕ) → Begins (xss port) (yss port)) → (port : ℕ)
    → Begins (prepend xs xss port) (prepend ys yss port)
unfolding prepend
prepend_grows xs ys xss yss b c zero = b
prepend_grows xs ys xss yss b c (suc port) = c port

prepend_bounded : (xs : List ℤ) (xss : ByPort) (n : ℕ) (ns : ℕ → ℕ) → length xs ≤ n
    → ((port : ℕ) → length (xss port) ≤ ns port) → (port : ℕ)
    → length (prepend xs xss port) ≤ prepend n ns port
unfolding prepend
prepend_bounded xs xss n ns b c zero = b
prepend_bounded xs xss n ns b c (suc port) = c port

at_port_0_bounded : (xs : List ℤ) (n : ℕ) → length xs ≤ n → (port : ℕ)
    → length (at_port_0 xs port) ≤ prepend n (λ p. 0) port
unfolding prepend at_port_0
at_port_0_bounded xs n b zero = b
at_port_0_bounded xs n b (suc port) = omega arith

pub no_part_steady : IsSteady no_part
unfolding no_part
no_part_steady = record {
  grows = λ first xs ys b port. begins_itself [];
  bounded =
      λ first lists port. omega arith;
}

pub chained_steady : (a b : Part) → IsSteady a → IsSteady b → IsSteady (chained a b)
unfolding chained
chained_steady a b s t = record {
  grows = λ first xs ys h. t.grows (first + a.size) (a.solve first xs).given
      (a.solve first ys).given (s.grows first xs ys h);
  bounded = λ first lists. t.bounded (first + a.size) (a.solve first lists).given;
}

pub beside_steady : (a b : Part) → IsSteady a → IsSteady b → IsSteady (beside a b)
unfolding beside
beside_steady a b s t = record {
  grows = λ first xs ys h.
      prepend_grows ((a.solve first (at_port_0 (xs 0))).given 0)
      ((a.solve first (at_port_0 (ys 0))).given 0)
      (b.solve (first + a.size) (λ port. xs (suc port))).given
      (b.solve (first + a.size) (λ port. ys (suc port))).given
      (s.grows first (at_port_0 (xs 0)) (at_port_0 (ys 0)) (at_port_0_grows (xs 0) (ys 0) (h 0)) 0)
      (t.grows (first + a.size) (λ port. xs (suc port)) (λ port. ys (suc port))
      (λ port. h (suc port)));
  bounded = λ first lists.
      prepend_bounded ((a.solve first (at_port_0 (lists 0))).given 0)
      (b.solve (first + a.size) (λ port. lists (suc port))).given (a.most first 0)
      (b.most (first + a.size))
      (s.bounded first (at_port_0 (lists 0)) 0)
      (t.bounded (first + a.size) (λ port. lists (suc port)));
}

module _ {Code State Cause Word : Type 0} (meaning : Meaning Code State Cause Word) (counts : ℕ → ℕ)
    (input : List ℤ) where
  pub node_steady : (code : Code) → KeepsRates meaning code
      → IsSteady (node_part meaning counts input code)
  unfolding node_part
  node_steady code keeps = record {
    grows = λ first xs ys h port. runs_grow meaning code (counts first) xs ys h port;
    bounded = λ first lists port. runs_bounded meaning code keeps lists (counts first) port;
  }

  pub reader_steady : (code : Code) → KeepsRates meaning code
      → IsSteady (reader_part meaning counts input code)
  unfolding node_part reader_part
  reader_steady code keeps = record {
    grows = λ first xs ys h port. begins_itself
        ((runs meaning code (counts first) (at_port_0 input)).pushes port);
    bounded = λ first lists port. runs_bounded meaning code keeps (at_port_0 input)
        (counts first) port;
  }

-- Feedback loops

module _ (f : List ℤ → List ℤ) (grows : (xs ys : List ℤ) → Begins xs ys → Begins (f xs) (f ys))
    (most : ℕ) (bounded : (xs : List ℤ) → length (f xs) ≤ most) (start : List ℤ)
    (begins : Begins start (f start)) where
  each_begins : (n : ℕ) → Begins (iterate n f start) (f (iterate n f start))
  unfolding iterate
  each_begins zero = begins
  each_begins (suc n) = grows (iterate n f start) (f (iterate n f start)) (each_begins n)

  by_rest : (xs : List ℤ) (n : ℕ) → n ≤ length xs → (rest : List ℤ) → f xs ≡ xs ++ rest
      → (f (f xs) ≡ f xs) ⊎ (suc n ≤ length (f xs))
  by_rest xs n long [] e = inl (ap f (e ∙ append-nil xs))
  by_rest xs n long (y ∷ rest) e = inr (omega (arith, ap length e, length-append xs (y ∷ rest)))

  fixed_or_long : (n : ℕ) → (f (iterate n f start) ≡ iterate n f start)
      ⊎ (n ≤ length (iterate n f start))
  unfolding iterate
  fixed_or_long zero = inr (omega arith)
  fixed_or_long (suc n) =
      elim (fixed_or_long n) [
        | inl fixed ↦ inl (ap f fixed)
        | inr long ↦ by_rest (iterate n f start) n long (each_begins n).rest (each_begins n).whole
      ]

  -- Once more than it can have items, and the list is fixed.
  pub iterate_fixed : f (iterate (suc most) f start) ≡ iterate (suc most) f start
  unfolding iterate
  iterate_fixed = elim (fixed_or_long (suc most)) [
    | inl fixed ↦ fixed
    | inr long ↦ absurd
        (omega (arith, bounded (iterate most f start), long))
  ]

iterate_grows : (f g : List ℤ → List ℤ) → ((xs ys : List ℤ) → Begins xs ys → Begins (f xs) (g ys))
    → (n : ℕ) (xs ys : List ℤ) → Begins xs ys → Begins (iterate n f xs) (iterate n g ys)
unfolding iterate
iterate_grows f g h zero xs ys b = b
iterate_grows f g h (suc n) xs ys b = h (iterate n f xs) (iterate n g ys)
    (iterate_grows f g h n xs ys b)

behind_grows : (front xs ys : List ℤ) → Begins xs ys → Begins (front ++ xs) (front ++ ys)
behind_grows front xs ys b = record {
  rest = b.rest;
  whole =
      ap (λ (l : List ℤ). front ++ l) b.whole ∙ sym (append_assoc front xs b.rest);
}

module _ (body loop : Part) (s : IsSteady body) (t : IsSteady loop) (enqueued : List ℤ) where
  around_grows : (first : ℕ) (xs ys : ByPort) → ((port : ℕ) → Begins (xs port) (ys port))
      → (x y : List ℤ) → Begins x y → (port : ℕ)
      → Begins ((around body loop enqueued first xs x).given port)
      ((around body loop enqueued first ys y).given port)
  unfolding around
  around_grows first xs ys h x y b =
      s.grows first (prepend (xs 0) (at_port_0 x)) (prepend (ys 0) (at_port_0 y))
      (prepend_grows (xs 0) (ys 0) (at_port_0 x) (at_port_0 y) (h 0) (at_port_0_grows x y b))

  turn_grows : (first : ℕ) (xs ys : ByPort) → ((port : ℕ) → Begins (xs port) (ys port))
      → (x y : List ℤ) → Begins x y → Begins (turn body loop enqueued first xs x)
      (turn body loop enqueued first ys y)
  unfolding turn back_of
  turn_grows first xs ys h x y b =
      behind_grows enqueued ((back_of body loop enqueued first xs x).given 0)
      ((back_of body loop enqueued first ys y).given 0)
      (t.grows (first + body.size) (at_port_0 ((around body loop enqueued first xs x).given 1))
      (at_port_0 ((around body loop enqueued first ys y).given 1))
      (at_port_0_grows ((around body loop enqueued first xs x).given 1)
      ((around body loop enqueued first ys y).given 1) (around_grows first xs ys h x y b 1))
      0)

  loop_solution_grows : (first : ℕ) (xs ys : ByPort) → ((port : ℕ) → Begins (xs port) (ys port))
      → Begins (loop_solution body loop enqueued first xs)
      (loop_solution body loop enqueued first ys)
  unfolding loop_solution
  loop_solution_grows first xs ys h =
      iterate_grows (turn body loop enqueued first xs) (turn body loop enqueued first ys)
      (turn_grows first xs ys h) (suc (length enqueued + loop.most (first + body.size) 0))
      enqueued enqueued (begins_itself enqueued)

  turn_bounded : (first : ℕ) (lists : ByPort) (x : List ℤ)
      → length (turn body loop enqueued first lists x) ≤ length enqueued
      + loop.most (first + body.size) 0
  unfolding turn back_of
  turn_bounded first lists x =
      omega (
        arith,
        length-append enqueued ((back_of body loop enqueued first lists x).given 0),
        t.bounded (first + body.size) (at_port_0
            ((around body loop enqueued first lists x).given 1)) 0,
      )

  turn_begins : (first : ℕ) (lists : ByPort) (x : List ℤ)
      → Begins enqueued (turn body loop enqueued first lists x)
  unfolding turn
  turn_begins first lists x = record {
    rest =
        (back_of body loop enqueued first lists x).given 0;
    whole = refl;
  }

  around_bounded : (first : ℕ) (lists : ByPort) (x : List ℤ)
      → length ((around body loop enqueued first lists x).given 0) ≤ body.most first 0
  unfolding around
  around_bounded first lists x = s.bounded first (prepend (lists 0) (at_port_0 x)) 0

  -- A turn gives back the list that it is given.
  pub turn-loop_solution : (first : ℕ) (lists : ByPort)
      → turn body loop enqueued first lists (loop_solution body loop enqueued first lists)
      ≡ loop_solution body loop enqueued first lists
  unfolding loop_solution
  turn-loop_solution first lists =
      iterate_fixed (turn body loop enqueued first lists)
      (turn_grows first lists lists (λ port. begins_itself (lists port)))
      (length enqueued + loop.most (first + body.size) 0) (turn_bounded first lists) enqueued
      (turn_begins first lists enqueued)

  pub fed_back_steady : IsSteady (fed_back body loop enqueued)
  unfolding fed_back
  fed_back_steady = record {
    grows = λ first xs ys h.
        at_port_0_grows ((around body loop enqueued first xs
        (loop_solution body loop enqueued first xs)).given 0)
        ((around body loop enqueued first ys (loop_solution body loop enqueued first ys)).given
        0)
        (around_grows first xs ys h (loop_solution body loop enqueued first xs)
        (loop_solution body loop enqueued first ys) (loop_solution_grows first xs ys h) 0);
    bounded = λ first lists.
        at_port_0_bounded ((around body loop enqueued first lists
        (loop_solution body loop enqueued first lists)).given 0) (body.most first 0)
        (around_bounded first lists (loop_solution body loop enqueued first lists));
  }
