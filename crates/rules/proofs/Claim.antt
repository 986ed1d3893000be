-- Demand 3: the claim about every list of calls on a newly opened search. Assumes nothing.
use Rattle.std.specs.Prelude.{Option, Ok}
use mathlib.Core.Path.{◌≡◌, refl, sym, ap, ◌∙◌, subst}
use mathlib.Core.Logic.{◌⊎◌, inl, inr, ⊎_elim}
use mathlib.Core.List.{List, [], ◌∷◌, ◌++◌, map}
use Prim.Native.Nat.{ℕ, ◌+◌, ◌*◌, ◌≤◌, ◌<◌}
use native.Mathlib.Omega.{arith}
use lib.ListN.{length, take}
use lib.Ieee.{Float}
use Rattle.rules.specs.Opening.{opening}
use Rattle.rules.specs.Simplex.{blank, place, cost_of, number_in}
use Rattle.rules.specs.Trial.{target, trial}
use Rattle.rules.specs.Calls.{standing_of, asking}
use Rattle.rules.specs.History.{Event, told, Call, after, run, costs_in, history}
use Rattle.rules.specs.Tally.{readings_by, Ends}
use Rattle.rules.specs.Claims.{IsRead, IsBest, Within, StopsOf, BoundAfter, FullRound, MadeAt, OfNelderMead, OfMultidirectional, Claims}
use Rattle.rules.specs.declared.Method.{Method}
use Rattle.rules.specs.declared.Method.TheVariants.{NelderMead, Multidirectional}
use Rattle.rules.specs.declared.Rule.{Rule}
use Rattle.rules.specs.declared.Axis.{Axis}
use Rattle.rules.specs.declared.Coefficients.{Coefficients}
use Rattle.rules.specs.declared.Vertex.{Vertex}
use Rattle.rules.specs.declared.Setup.{Setup}
use Rattle.rules.specs.declared.Search.{Search}
use Rattle.rules.specs.declared.Asked.{Asked}
use Rattle.rules.specs.declared.Piece.{Piece}
use Rattle.rules.specs.declared.Piece.TheVariants.{Build, Reflection, Expansion, Contraction, Shrink}
use Rattle.rules.specs.declared.Phase.TheVariants.{Checking, Ended}
use Rattle.rules.specs.declared.Cause.TheVariants.{Settled}
use Rattle.rules.proofs.Laws.Openings.{opened_verdict, opened_fresh, opened_suits, opened_sane}
use Rattle.rules.proofs.Laws.Histories.{Joined, readings_of}
use Rattle.rules.proofs.Steps.Grouped.{Directed, AtCheck, MultiOf}
use Rattle.rules.proofs.Steps.Standing.{none_stands, base_at, companion_at}
use Rattle.rules.proofs.Runs.Companions.{companion_inside, companion_stops, past_companions}
use Rattle.rules.proofs.Runs.Begun.{Begun, fresh_begun, whole_run, run_inv, run_multi, is_read, are_read, run_best, run_readings, run_counts, run_probes, run_directed, run_unfinished, run_standing, run_places, run_vertices, run_gathered, run_read}
use Rattle.rules.proofs.Runs.Moments.{run_first, run_base, made_since, falls_since, run_settled_only, run_settled_when, run_spent, run_within, run_within_told, run_inside, run_stops}
use Rattle.rules.proofs.Runs.Calling.{telling_joins, asking_answers, asked_trial, showing_best, all_follow}

-- ---- what holds of either method, of the rules over an accepted history

module _ (o : Search) (begun : Begun o) where
  settled_of : (h : List Event) → Joined o h → (before : List Event) (round : List ℕ) (since : List Event) → h ≡ before ++ map told round ++ since → FullRound o before round
      → (since ≡ []) × ((run o h).phase ≡ Ended Settled)
  settled_of h t before round since is f = rw is (run_settled_when o begun before round since (rw is at t) f)

  within_asked_lem : (h : List Event) (t : Joined o h) (a : Asked) → asking (run o h) ≡ Ok a → Within o.setup a.trial.point
  within_asked_lem h t a e = rw (asked_trial o begun h t a e).1 (run_within o begun h t)

  -- the stops of a trial that is no companion's
  stops_lem : (h : List Event) (t : Joined o h) (a : Asked) → asking (run o h) ≡ Ok a → ((i : ℕ) → (run o h).phase ≡ Checking i → ⊥)
      → StopsOf o.setup (target (run o h) (run o h).phase) a.trial
  stops_lem h t a e new = rw (asked_trial o begun h t a e).1 (run_stops o begun h t new)

  -- ---- Nelder-Mead

  module _ (nm : o.method ≡ NelderMead) where
    first_of : (h : List Event) → Joined o h → (before : List Event) (e : Event) (since : List Event) → h ≡ before ++ e ∷ since → Ends o before e
        → let till = before ++ e ∷ [] in (v : Vertex) × IsBest o till v × (take 1 (standing_of (run o till)) ≡ v ∷ [])
    first_of h t before e since is ends = run_first o begun before e since (rw is at t) nm ends

    bound_of : (p : Piece) (h : List Event) → Joined o h → BoundAfter p o h
    bound_of p h t before e since is ends builds shrinks =
        let here : Joined o (before ++ e ∷ since) = rw is at t in
        let more = made_since o begun before e since here in
        let falls = falls_since o begun before e since here (omega (arith, more Build, rw is at builds)) (omega (arith, more Shrink, rw is at shrinks)) in
        rw is (omega (arith, more Reflection, more Expansion, more Contraction))

    equation_of : (h : List Event) (t : Joined o h) → 0 < length (costs_in h) → (run o h).readings ≡ readings_by o.setup.n (run o h).counts
    equation_of h t l =
        let same = ap (λ (s : Setup). s.n) (whole_run o begun h t).kept in
        subst (λ (n : ℕ). (run o h).readings ≡ readings_by n (run o h).counts) same (omega (arith, (run_inv o begun h t nm).equation, run_readings o begun h t))

    of_simplex : (h : List Event) → Joined o h → OfNelderMead o h (run o h)
    of_simplex h t =
        record {
          sorted = rw (run_standing o begun h t nm) (run_inv o begun h t nm).stands.sorted;
          places = run_places o begun h t nm;
          all_read = run_read o begun h t nm;
          first = first_of h t;
          equation = equation_of h t;
          none_directed = ((run_inv o begun h t nm).undirected.patterns, (run_inv o begun h t nm).undirected.directed);
          bound_after_build = bound_of Build h t;
          bound_after_shrink = bound_of Shrink h t;
          stops_asked = λ a e. stops_lem h t a e (λ i now. rw now at (run_inv o begun h t nm).phase);
        }

  -- ---- the multidirectional method

  module _ (md : o.method ≡ Multidirectional) where
    base_of : (h : List Event) → Joined o h → (before : List Event) (e : Event) (since : List Event) → h ≡ before ++ e ∷ since → Ends o before e
        → let till = before ++ e ∷ [] in (v : Vertex) × IsBest o till v × (place (run o till).standing 0 ≡ v)
    base_of h t before e since is ends = run_base o begun before e since (rw is at t) md ends

    module _ (h : List Event) (t : Joined o h) where
      inv : MultiOf (MadeAt o h) (readings_of o h) (run o h)
      inv = run_multi o begun h t md

      same_n : (run o h).setup.n ≡ o.setup.n
      same_n = ap (λ (s : Setup). s.n) (whole_run o begun h t).kept

      some_told : 0 < length (costs_in h) → 1 ≤ (run o h).readings
      some_told l = omega (arith, run_readings o begun h t)

      -- each companion is unread or read, and lies within the limits
      companion_of : 0 < length (costs_in h) → (i : ℕ) → 1 ≤ i → i ≤ o.setup.n
          → let c = place (run o h).standing i in (((c.number ≡ 0) × (c.cost ≡ 0)) ⊎ IsRead o h c) × Within o.setup c.point
      companion_of l i low high =
          let some = some_told l in
          let g = inv.grouped some in
          let m : i ≤ (run o h).setup.n = omega (arith, same_n) in
          let at = companion_at inv.noted some g i low m in (
            subst (λ (c : Vertex). ((c.number ≡ 0) × (c.cost ≡ 0)) ⊎ IsRead o h c) (sym at)
                (⊎_elim (λ r. inr (is_read o begun h t (g.f i) r)) (λ u. inl (ap number_in u.are, ap cost_of u.are)) (g.each i low m)),
            subst (λ (s : Setup). Within s (place (run o h).standing i).point) (whole_run o begun h t).kept
                (companion_inside (readings_of o h) (run o h) inv some (run_inside o begun h t) i low m),
          )

      -- the base is the best, once it is told
      base_by : 0 < length (costs_in h) → IsBest o h (place (run o h).standing 0)
      base_by l = let some = some_told l in subst (λ (v : Vertex). IsBest o h v) (sym (base_at inv.noted some (inv.grouped some))) (run_best o begun h t l)

      -- no place past the companions holds a vertex
      past_by : (i : ℕ) → o.setup.n < i → i < 9 → place (run o h).standing i ≡ blank
      past_by i l m = past_companions (readings_of o h) (run o h) inv i (omega (arith, same_n)) m

      -- the bound, and the equation that it comes from
      counted_by_method : Directed o.setup.n (run o h).readings (run o h).counts
      counted_by_method = subst (λ (n : ℕ). Directed n (run o h).readings (run o h).counts) same_n inv.counts

      bound_by : (run o h).readings ≤ 1 + 2 * o.setup.n * ((run o h).counts.patterns + 1) + (run o h).counts.probes
      bound_by = omega (arith, counted_by_method.equation, counted_by_method.few)

      equation_by : 0 < length (costs_in h) → (run o h).readings ≡ 1 + (run o h).counts.directed + (run o h).counts.probes
      equation_by l = omega (arith, counted_by_method.equation, some_told l)

      stops_made_by : (a : Asked) → asking (run o h) ≡ Ok a → (i : ℕ) → (run o h).phase ≡ Checking i → (f : ℕ → Float) × MadeAt o h i f × StopsOf o.setup f a.trial
      stops_made_by a e i now =
          let here : AtCheck i (run o h).setup.n (run o h).standing.numbers (run o h).readings (run o h).counts = rw now at inv.phase in
          let r = companion_stops (readings_of o h) (run o h) inv here.some i now in
          (r.0, r.1, rw (asked_trial o begun h t a e).1 (subst (λ (s : Setup). StopsOf s r.0 (trial (run o h))) (whole_run o begun h t).kept r.2))

      of_base : OfMultidirectional o h (run o h)
      of_base =
          record {
            none_stands = none_stands (run o h) inv.method;
            none_counts = inv.counts.none;
            none_open = inv.counts.none_open;
            base = base_of h t;
            base_now = base_by;
            none_past = past_by;
            none_before = λ e. inv.blank (run_readings o begun h t ∙ e);
            companions = companion_of;
            reflections = are_read o begun h t inv.gs (run o h).gathered inv.gathers.are inv.gathers.known;
            bound = bound_by;
            equation = equation_by;
            stops_asked = stops_lem h t;
            stops_made = stops_made_by;
          }

  -- ---- every claim

  claims : (h : List Event) → Joined o h → Claims o h (run o h)
  claims h t =
      record {
        carried = refl;
        kept = (whole_run o begun h t).kept;
        method = (whole_run o begun h t).method;
        accepts = telling_joins o begun h t;
        asks = asking_answers o begun h t;
        vertices = run_vertices o begun h t;
        gathered = run_gathered o begun h t;
        best = showing_best o begun h t;
        readings = run_readings o begun h t;
        finished = run_counts o begun h t;
        probes = run_probes o begun h t;
        directed = run_directed o begun h t;
        unfinished = run_unfinished o begun h t;
        settled_only = run_settled_only o begun h t;
        settled_when = settled_of h t;
        spent = run_spent o begun h t;
        within_told = λ k l. run_within_told o begun h t k;
        within_asked = within_asked_lem h t;
        nelder_mead = λ nm. of_simplex nm h t;
        multidirectional = λ md. of_base md h t;
      }

  pub claim_begun : (cs : List Call) → Claims o (history o cs) (after o cs)
  unfolding run Joined
  claim_begun cs = let f = all_follow o begun cs [] tt in rw f.1 (claims (history o cs) f.0)

-- an opening that is not refused begins a search
pub opened_begun : (m : Method) (n : ℕ) (axes : List Axis) (rule : Option Rule) (c : Coefficients) (budget : ℕ) → (opening m n axes rule c budget).verdict ≡ Ok tt
    → Begun (opening m n axes rule c budget).search
opened_begun m n axes rule c budget h =
    let passed = opened_verdict m n axes rule c budget h in
    rw (opened_fresh m n axes rule c budget h) (fresh_begun m n axes rule c budget (opened_sane m n axes rule c budget passed) (opened_suits m n axes rule c budget passed))

-- for every opening that is not refused and every list of calls, the whole record of claims
pub claim : (m : Method) (n : ℕ) (axes : List Axis) (rule : Option Rule) (c : Coefficients) (budget : ℕ) → (opening m n axes rule c budget).verdict ≡ Ok tt → (cs : List Call)
    → let o = (opening m n axes rule c budget).search in Claims o (history o cs) (after o cs)
claim m n axes rule c budget h cs = claim_begun (opening m n axes rule c budget).search (opened_begun m n axes rule c budget h) cs
