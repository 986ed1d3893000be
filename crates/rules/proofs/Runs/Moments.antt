-- Moments of a history of a newly opened search: the end of a piece, of a round, of the budget, and every trial. Assumes nothing.
use mathlib.Core.Path.{◌≡◌, refl, sym, ap, ◌∙◌, subst}
use mathlib.Core.Bool.{true, false≢true}
use mathlib.Core.Logic.{◌↔◌, ⊎_elim}
use mathlib.Core.List.{List, [], ◌∷◌, ◌++◌, map, append-nil}
use Prim.Native.Nat.{ℕ, ◌+◌, ◌*◌, ◌≤◌, ◌<◌}
use native.Mathlib.Omega.{arith}
use lib.ListN.{length, take, length-append}
use lib.Seq.{append_snoc}
use Rattle.std.proofs.lemmas.Bool.{true_from_ne_false}
use Rattle.rules.specs.View.{is_ended}
use Rattle.rules.specs.Trial.{target, trial}
use Rattle.rules.specs.Simplex.{place}
use Rattle.rules.specs.Opening.{first_phase}
use Rattle.rules.specs.Calls.{standing_of}
use Rattle.rules.specs.History.{Event, told, run, costs_in, before_cost, reading}
use Rattle.rules.specs.Tally.{made, others, Ends}
use Rattle.rules.specs.Claims.{IsBest, Within, StopsOf, standing_total, FullRound}
use Rattle.rules.specs.declared.Method.{Method}
use Rattle.rules.specs.declared.Method.TheVariants.{NelderMead, Multidirectional}
use Rattle.rules.specs.declared.Vertex.{Vertex}
use Rattle.rules.specs.declared.Setup.{Setup}
use Rattle.rules.specs.declared.Search.{Search}
use Rattle.rules.specs.declared.Phase.{Phase}
use Rattle.rules.specs.declared.Phase.TheVariants.{Checking, Ended}
use Rattle.rules.specs.declared.Cause.TheVariants.{Settled, Budget}
use Rattle.rules.specs.declared.Piece.{Piece}
use Rattle.rules.specs.declared.Piece.TheVariants.{Build, Shrink}
use Rattle.rules.proofs.Laws.Openings.{trial_within, trial_stops}
use Rattle.rules.proofs.Laws.Histories.{readings_of, mem_readings_of, Joins, Joined, run_append, run_snoc, costs_in_append, made_append, joined_left, joined_right, joined_before, ended_last}
use Rattle.rules.proofs.Steps.Invariant.{Leads}
use Rattle.rules.proofs.Steps.Accepting.{event_step}
use Rattle.rules.proofs.Runs.Running.{ran}
use Rattle.rules.proofs.Runs.Companions.{Inside}
use Rattle.rules.proofs.Runs.Begun.{Begun, begun_any, whole_run, run_noted, run_readings, run_best}
use Rattle.rules.proofs.Runs.Settling.{EndsFull, Rounds, rounds, settles}

-- a search that has ended without settling has ended by its budget
by_budget : (p : Phase) → is_ended p ≡ true → (p ≡ Ended Settled → ⊥) → p ≡ Ended Budget
by_budget (Ended Settled) e d = absurd (d refl)
by_budget (Ended Budget) e d = refl
by_budget p e d = absurd (false≢true e)

-- an event that ends a piece is a cost
some_cost : (o : Search) (p : List Event) (e : Event) → Ends o p e → 0 < length (costs_in (p ++ e ∷ []))
unfolding costs_in
some_cost o p (told c) ends = rw (costs_in_append p (told c ∷ []), length-append (costs_in p) (c ∷ [])) (omega arith)

module _ (o : Search) (begun : Begun o) where
  -- ---- a history and what came after it

  module _ (before : List Event) (e : Event) (since : List Event) (t : Joined o (before ++ e ∷ since)) where
    -- the history up to e and the rest after it are the whole history
    split : (before ++ e ∷ []) ++ since ≡ before ++ e ∷ since
    split = append_snoc before e since

    joined_both : Joined o ((before ++ e ∷ []) ++ since)
    joined_both = rw split t

    joined_here : Joined o (before ++ e ∷ [])
    joined_here = joined_left o (before ++ e ∷ []) since joined_both

    joined_since : Joined (run o (before ++ e ∷ [])) since
    joined_since = joined_right o (before ++ e ∷ []) since joined_both

    -- what e rests on holds there
    joins_here : Joins (run o before) e
    unfolding Joined
    joins_here = (joined_right o before (e ∷ since) t).0

    -- the first vertex at the end of a piece is the earliest least of the readings till then
    pub run_first : o.method ≡ NelderMead → Ends o before e → let till = before ++ e ∷ [] in (v : Vertex) × IsBest o till v × (take 1 (standing_of (run o till)) ≡ v ∷ [])
    run_first nm ends =
        let r = whole_run o begun before (joined_left o before (e ∷ since) t) in
        let g = event_step (readings_of o before) (run o before) r.inv r.below e joins_here in
        let leads : Leads (standing_of (run o (before ++ e ∷ []))) (run o (before ++ e ∷ [])).best = rw (run_snoc o before e) (g.first (r.method ∙ nm) ends) in
        ((run o (before ++ e ∷ [])).best, run_best o begun (before ++ e ∷ []) joined_here (some_cost o before e ends), leads)

    -- so is the base at the end of an iteration
    pub run_base : o.method ≡ Multidirectional → Ends o before e → let till = before ++ e ∷ [] in (v : Vertex) × IsBest o till v × (place (run o till).standing 0 ≡ v)
    run_base md ends =
        let r = whole_run o begun before (joined_left o before (e ∷ since) t) in
        let g = event_step (readings_of o before) (run o before) r.inv r.below e joins_here in
        let is : place (run o (before ++ e ∷ [])).standing 0 ≡ (run o (before ++ e ∷ [])).best = rw (run_snoc o before e) (g.base (r.method ∙ md) ends) in
        ((run o (before ++ e ∷ [])).best, run_best o begun (before ++ e ∷ []) joined_here (some_cost o before e ends), is)

    -- the pieces of the whole history are those up to e and those since
    pub made_since : (p : Piece) → made p o (before ++ e ∷ since) ≡ made p o (before ++ e ∷ []) + made p (run o (before ++ e ∷ [])) since
    made_since p = rw (← split) (made_append p o (before ++ e ∷ []) since)

    -- while no build and no shrink ends, the sum of the standing costs falls with each other iteration
    pub falls_since : made Build (run o (before ++ e ∷ [])) since ≡ 0 → made Shrink (run o (before ++ e ∷ [])) since ≡ 0 → others (run o (before ++ e ∷ [])) since ≤ standing_total o (before ++ e ∷ [])
    falls_since builds shrinks =
        let here = before ++ e ∷ [] in
        let r = whole_run o begun here joined_here in
        omega (arith, (ran (readings_of o here) (run o here) r.inv r.below since joined_since).falls builds shrinks)

  -- ---- settled exactly when a probe round has been told in full and none was lower

  -- no round has begun before the first reading
  no_round_yet : (m : Method) → Rounds o [] o.best.cost (first_phase m)
  no_round_yet NelderMead = tt
  no_round_yet Multidirectional = tt

  pub run_settled_only : (h : List Event) → Joined o h → (run o h).phase ≡ Ended Settled → EndsFull o h
  unfolding run
  run_settled_only h t e = rw e at (rounds o [] o refl [] (begun_any o begun) begun.below refl (subst (λ (p : Phase). Rounds o [] o.best.cost p) (sym begun.phase) (no_round_yet o.method)) h t)

  round_settles : (before : List Event) (round : List ℕ) → Joined o (before ++ map told round) → FullRound o before round → (run o (before ++ map told round)).phase ≡ Ended Settled
  round_settles before round t f =
      let r = whole_run o begun before (joined_left o before (map told round) t) in
      let s = run o before in
      let many : 0 + length round ≡ 2 * s.setup.n = rw r.kept (omega (arith, f.full)) in
      rw (run_append o before (map told round))
      (settles (readings_of o before) s r.inv r.below round 0 f.begins many (omega (arith, (run_noted o begun before (joined_left o before (map told round) t)).sane.at_least)) f.none_lower (joined_right o before (map told round) t))

  -- nothing follows a full round
  pub run_settled_when : (before : List Event) (round : List ℕ) (since : List Event) → Joined o (before ++ map told round ++ since) → FullRound o before round
      → (since ≡ []) × ((run o (before ++ map told round ++ since)).phase ≡ Ended Settled)
  run_settled_when before round since t f =
      let here = before ++ map told round in
      let settled = round_settles before round (joined_left o here since t) f in
      let none : since ≡ [] = ended_last (run o here) since (rw settled) (joined_right o here since t) in
      (none, rw (none, append-nil) settled)

  -- ---- the budget

  module _ (h : List Event) (t : Joined o h) where
    -- a search that has ended by its budget has that many readings
    spent_readings : (run o h).phase ≡ Ended Budget → (run o h).readings ≡ (run o h).setup.budget
    spent_readings e = ⊎_elim (λ i. rw e at i.phase) (λ i. rw e at i.phase) (whole_run o begun h t).inv

    same_budget : (run o h).setup.budget ≡ o.setup.budget
    same_budget = ap (λ (t : Setup). t.budget) (whole_run o begun h t).kept

    -- a search with as many readings as its budget has ended
    full_ends : length (costs_in h) ≡ o.setup.budget → is_ended (run o h).phase ≡ true
    full_ends l = true_from_ne_false _ (λ e. omega (arith, (whole_run o begun h t).below e, run_readings o begun h t, same_budget))

    pub run_spent : ((run o h).phase ≡ Ended Budget) ↔ ((length (costs_in h) ≡ o.setup.budget) × ((run o h).phase ≡ Ended Settled → ⊥))
    run_spent = (
      λ e. (omega (arith, spent_readings e, run_readings o begun h t, same_budget), λ d. cc),
      λ g. by_budget (run o h).phase (full_ends g.0) g.1,
    )

  -- ---- within the limits

  pub run_within : (h : List Event) → Joined o h → Within o.setup (trial (run o h)).point
  run_within h t =
      let r = whole_run o begun h t in
      subst (λ (t : Setup). Within t (trial (run o h)).point) r.kept (trial_within (run o h) (run_noted o begun h t).sane)

  pub run_within_told : (h : List Event) → Joined o h → (k : ℕ) → Within o.setup (reading o h k).point
  run_within_told h t k = run_within (before_cost k h) (joined_before o h k t)

  -- so every reading lies within the limits
  pub run_inside : (h : List Event) → Joined o h → Inside (run o h).setup (readings_of o h)
  run_inside h t v m =
      let r = mem_readings_of o h v m in
      let kept = (whole_run o begun h t).kept in
      subst (λ (u : Setup). Within u v.point) (sym kept) (subst (λ (w : Vertex). Within o.setup w.point) (sym r.2) (run_within_told h t r.0))

  -- ---- the stops

  pub run_stops : (h : List Event) → Joined o h → ((i : ℕ) → (run o h).phase ≡ Checking i → ⊥) → StopsOf o.setup (target (run o h) (run o h).phase) (trial (run o h))
  run_stops h t new =
      let r = whole_run o begun h t in
      subst (λ (t : Setup). StopsOf t (target (run o h) (run o h).phase) (trial (run o h))) r.kept (trial_stops (run o h) (run_noted o begun h t).sane new)
