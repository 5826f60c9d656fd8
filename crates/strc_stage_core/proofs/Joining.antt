-- Joined parts are a state, and each state has such parts.
use Rattle.std.proofs.Common.{◌≡◌, refl, sym, ap, ◌∙◌, List, [], ◌∷◌, ◌++◌, map, Option}
use Rattle.std.proofs.Common.{option_to_list}
use Rattle.strc_stage_core.specs.Actors.{Plain, Stage, Collector, Work, Collects}
use Rattle.strc_stage_core.specs.States.{Runs, Start, Core, Chained, IsState}
use Rattle.strc_stage_core.specs.Parts.{Part, received_by, AreLinked, core_of, AreSteps, AreJoined}

module _ {State Load Stop Total : Type 0} (work : Work State Load Stop Total) where
  module _ (first : Collector Total Stop) (free back : List (Plain Load Stop))
      (end : Part (Collector Total Stop) (Plain Load Stop))
      (collects : Runs (Collects work) first end.received (end.sent ++ option_to_list end.held)
      end.actor) (last_link : free ++ end.sent ≡ back ++ end.left) where
    chained_parts : (stages₀ : List (Stage State Stop))
        (parts : List (Part (Stage State Stop) (Plain Load Stop)))
        → AreSteps work stages₀ parts → AreLinked parts end.received
        → Chained work first free stages₀ (map (λ part. part.actor) parts)
        (map (λ part. part.left) parts ++ (end.left ∷ []))
        (map (λ part. part.held) parts ++ (end.held ∷ [])) end.actor
        (received_by parts end.received) back
    chained_parts [] [] steps links = (end.sent, collects, last_link)
    chained_parts (stage₀ ∷ stages₀) (part ∷ parts) (here, steps) (link, links) = (
      part.sent,
      received_by parts end.received,
      here,
      link,
      chained_parts stages₀ parts steps links,
    )
    chained_parts _ _ steps links = absurd steps

  pub joined_state : (start : Start State Load Stop Total)
      (parts : List (Part (Stage State Stop) (Plain Load Stop)))
      (end : Part (Collector Total Stop) (Plain Load Stop)) → AreJoined work start parts end
      → IsState work start (core_of parts end)
  unfolding core_of
  joined_state start parts end joined = record {
    begun = joined.begun;
    taken = received_by parts end.received;
    chain = chained_parts start.collector start.free (received_by parts end.received) end
        joined.collects joined.last_link start.stages parts joined.steps joined.links;
  }

  -- The parts of a chain.
  record ChainParts (first : Collector Total Stop) (free : List (Plain Load Stop))
      (stages₀ stages : List (Stage State Stop)) (links : List (List (Plain Load Stop)))
      (hands : List (Option (Plain Load Stop))) (c : Collector Total Stop)
      (taken back : List (Plain Load Stop)) : Type 0 where
    parts : List (Part (Stage State Stop) (Plain Load Stop))
    end : Part (Collector Total Stop) (Plain Load Stop)
    steps : AreSteps work stages₀ parts
    collects : Runs (Collects work) first end.received (end.sent ++ option_to_list end.held)
        end.actor
    linked : AreLinked parts end.received
    last_link : free ++ end.sent ≡ back ++ end.left
    taken_is : received_by parts end.received ≡ taken
    stages_are : map (λ part. part.actor) parts ≡ stages
    links_are : map (λ part. part.left) parts ++ (end.left ∷ []) ≡ links
    hands_are : map (λ part. part.held) parts ++ (end.held ∷ []) ≡ hands
    collector_is : end.actor ≡ c

  split : (first : Collector Total Stop) (free : List (Plain Load Stop))
      (stages₀ stages : List (Stage State Stop)) (links : List (List (Plain Load Stop)))
      (hands : List (Option (Plain Load Stop))) (c : Collector Total Stop)
      (taken back : List (Plain Load Stop))
      → Chained work first free stages₀ stages links hands c taken back
      → ChainParts first free stages₀ stages links hands c taken back
  split first free (stage₀ ∷ stages₀) (stage ∷ stages) (link ∷ links) (hand ∷ hands) c taken back
      (given, received, runs, e, chain) =
      let rest = split first free stages₀ stages links hands c received back chain in record {
        parts = record {
          actor = stage;
          received = taken;
          sent = given;
          held = hand;
          left = link;
        } ∷ rest.parts;
        end = rest.end;
        steps = (runs, rest.steps);
        collects = rest.collects;
        linked = (e ∙ ap (λ l. l ++ link) (sym rest.taken_is), rest.linked);
        last_link = rest.last_link;
        taken_is = refl;
        stages_are = ap (λ l. stage ∷ l) rest.stages_are;
        links_are = ap (λ l. link ∷ l) rest.links_are;
        hands_are = ap (λ l. hand ∷ l) rest.hands_are;
        collector_is = rest.collector_is;
      }
  split first free [] [] (link ∷ []) (hand ∷ []) c taken back (given, runs, e) = record {
    parts = [];
    end = record {
      actor = c;
      received = taken;
      sent = given;
      held = hand;
      left = link;
    };
    steps = tt;
    collects = runs;
    linked = tt;
    last_link = e;
    taken_is = refl;
    stages_are = refl;
    links_are = refl;
    hands_are = refl;
    collector_is = refl;
  }
  split first free _ _ _ _ c taken back chain = absurd chain

  core_by : (a b : List (Stage State Stop)) (c d : List (List (Plain Load Stop)))
      (e f : List (Option (Plain Load Stop))) (g h : Collector Total Stop)
      → a ≡ b → c ≡ d → e ≡ f → g ≡ h
      → ◌≡◌ {A = Core State Load Stop Total}
      (record { stages = a; links = c; hands = e; collector = g })
      (record { stages = b; links = d; hands = f; collector = h })
  core_by a b c d e f g h p q r s = rw (p, q, r, s)

  pub state_parts : (start : Start State Load Stop Total) (core : Core State Load Stop Total)
      → IsState work start core
      → (parts : List (Part (Stage State Stop) (Plain Load Stop)))
      × (end : Part (Collector Total Stop) (Plain Load Stop))
      × AreJoined work start parts end
      × (core_of parts end ≡ core)
  unfolding core_of
  state_parts start core state =
      let s = split start.collector start.free start.stages core.stages core.links core.hands
      core.collector state.taken state.taken state.chain in (
        s.parts,
        s.end,
        record {
          begun = state.begun;
          steps = s.steps;
          collects = s.collects;
          links = s.linked;
          last_link = s.last_link ∙ ap (λ l. l ++ s.end.left) (sym s.taken_is);
        },
        core_by (map (λ part. part.actor) s.parts) core.stages
            (map (λ part. part.left) s.parts ++ (s.end.left ∷ [])) core.links
            (map (λ part. part.held) s.parts ++ (s.end.held ∷ [])) core.hands s.end.actor
            core.collector s.stages_are s.links_are s.hands_are s.collector_is,
      )
