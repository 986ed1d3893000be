-- The search that the steps carry is one that an accepted opening and calls have made: the rules' claim holds of it, and few refusals
-- are ever printed. Assumes nothing.
use Rattle.std.specs.Prelude.{Some, Result, Ok, Err}
use mathlib.Core.Path.{◌≡◌, refl, sym, ap, ◌∙◌}
use mathlib.Core.Bool.{Bool, true, false, true≢false, ◌&&◌}
use mathlib.Core.List.{List, [], ◌∷◌, ◌++◌}
use Prim.Native.Nat.{ℕ, zero, suc, ◌+◌, ◌≤◌}
use native.Mathlib.Omega.{arith}
use lib.ListN.{length, get_or, set}
use Rattle.std.proofs.lemmas.List.{places}
use lib.Dec.{leb, ltb}
use borrow.Author.Tests.{eq-eqb}
use Rattle.rules.specs.Numbers.{max_cost, usual}
use Rattle.rules.specs.Refusals.{Verdict, number_of, check}
use Rattle.rules.specs.Opening.{all_in_range, in_limits, in_ring, in_step, axes_checks, in_coefficients, in_threshold, open_verdict, opening}
use Rattle.rules.specs.Trial.{no_axis, trial}
use Rattle.rules.specs.View.{is_ended}
use Rattle.rules.specs.Calls.{undamaged, tell_verdict, asking, telling, showing}
use Rattle.rules.specs.History.{Event, tell, after1, after, run, costs_in, history}
use Rattle.rules.specs.Claims.{IsBest, Claims}
use Rattle.rules.specs.declared.Axis.{Axis}
use Rattle.rules.specs.declared.Asked.{Asked}
use Rattle.rules.specs.declared.Vertex.{Vertex}
use Rattle.rules.specs.declared.Method.TheVariants.{NelderMead}
use Rattle.rules.specs.declared.Rule.TheVariants.{Spread}
use Rattle.rules.specs.declared.Search.{Search}
use Rattle.rules.specs.declared.Refusal.{Refusal}
use Rattle.rules.specs.declared.Refusal.TheVariants.{AxisCount, OutOfRange, BadLimits, BadStep, BadCoefficient, BadThreshold, BadBudget, RingAtHi, CostTooHigh}
use Rattle.rules.proofs.Examples.{floats}
use Rattle.rules.proofs.Laws.Openings.{opened_by_verdict}
use Rattle.std.proofs.lemmas.Bool.{cond_both}
use Rattle.rules.proofs.Runs.Calling.{told_verdict}
use Rattle.rules.proofs.Claim.{claim}
use Rattle.rules.proofs.Callers.{after_snoc, check_elim, sound_always}
use Rattle.tune_text.specs.Fields.{whole_number, hexadecimal, is_line, values}
use Rattle.tune_text.specs.Lines.{best_line, end_line}
use Rattle.tune_text.specs.Reading.{Turned, nothing_read, opening_of, turn_opened, opening_turn, axis_lines, axes_read, request_of, axis_from, with_axis, turn_told, turn_asked, cost_told, line_read, ending_of, search_end}
use Rattle.tune_text.specs.Steps.{Stepped, first_state, stepping, state_after}
use Rattle.tune_text.specs.Carried.{Carried}
use Rattle.tune_text.specs.declared.Progress.{Progress}
use Rattle.tune_text.specs.declared.Request.{Request}
use Rattle.tune_text.specs.declared.Stage.{Stage}
use Rattle.tune_text.specs.declared.Stage.TheVariants.{Head, Axes, Costs, Done}
use Rattle.tune_text.specs.declared.State.{State}
use Rattle.tune_text.proofs.Laws.Ending.{end_unread, end_shown}
use Rattle.tune_text.proofs.Laws.Running.{step_cases}

-- ---- the steps

-- none of these axes is a ring
abbrev pub NoRing : List Axis → Type 0
NoRing xs = (a : ℕ) → (get_or xs a no_axis).ring ≡ false

-- what is read so far: no ring; and where costs are read, the search is one that an accepted opening and calls have made
record Kept (p : Progress) : Type 0 where
  no_ring : NoRing p.request.axes
  made : p.stage ≡ Costs → Carried p

-- no costs are read once all is done
done_kept : (q : Request) (s : Search) → NoRing q.axes → Kept (record { stage = Done; request = q; search = s })
done_kept q s n = record { no_ring = n; made = λ e. let none : ⊥ = cc in absurd none }

-- no costs are read where an axis line follows
axes_kept : (k : ℕ) (q : Request) (s : Search) → NoRing q.axes → Kept (record { stage = Axes k; request = q; search = s })
axes_kept k q s n = record { no_ring = n; made = λ e. let none : ⊥ = cc in absurd none }

-- the opening makes its search by no call
opening_turn_kept : (q : Request) → NoRing q.axes → Kept (opening_turn q).progress
unfolding after
opening_turn_kept q n = go (opening_of q).verdict refl
  where
    go : (v : Verdict) → (opening_of q).verdict ≡ v → Kept (turn_opened v q (opening_of q).search).progress
    go (Ok _) e = record { no_ring = n; made = λ c. record { accepted = e; calls = []; made = refl } }
    go (Err r) e = done_kept q (opening_of q).search n

-- `Kept` holds after k axis lines, where the next axis line follows or the opening
axes_read_kept : (k : ℕ) (q : Request) (s : Search) → NoRing q.axes → Kept (axes_read k q s).progress
unfolding axes_read
axes_read_kept k q s n =
    cond_both (ltb k (axis_lines q.n)) _ _ (λ (t : Turned). Kept t.progress) (λ e. axes_kept k q s n) (λ e. opening_turn_kept q n)

-- the first line names no ring
head_no_ring : (vs : List ℕ) → NoRing (request_of vs).axes
head_no_ring vs a = grind (arith, places)

-- one axis that is no ring, put among such
set_no_ring : (xs : List Axis) (k : ℕ) (x : Axis) → x.ring ≡ false → NoRing xs → NoRing (set xs k x)
set_no_ring [] k x e n a = refl
set_no_ring (y ∷ ys) zero x e n zero = e
set_no_ring (y ∷ ys) zero x e n (suc a) = n (suc a)
set_no_ring (y ∷ ys) (suc k) x e n zero = n 0
set_no_ring (y ∷ ys) (suc k) x e n (suc a) = set_no_ring ys k x e (λ b. n (suc b)) a

-- an axis line adds none
axis_no_ring : (k : ℕ) (vs : List ℕ) (q : Request) → NoRing q.axes → NoRing (with_axis k (axis_from vs) q).axes
axis_no_ring k vs q n = set_no_ring q.axes k (axis_from vs) refl n

-- a cost line is one call more
told_kept : (p : Progress) (cost : ℕ) → NoRing p.request.axes → Carried p → Kept (cost_told p cost).progress
unfolding cost_told
told_kept p cost n c = go (asking p.search)
  where
    told : (a : Asked) (v : Verdict) → (telling p.search a.number cost).verdict ≡ v → Kept (turn_told v p a (telling p.search a.number cost).search cost).progress
    told a (Ok _) d =
        let call = tell a.number cost in
        record {
          no_ring = n;
          made = λ e. record {
            accepted = c.accepted;
            calls = c.calls ++ call ∷ [];
            made = ap (λ (s : Search). after1 s call) c.made ∙ sym (after_snoc (opening_of p.request).search c.calls call);
          };
        }
    told a (Err r) d = done_kept p.request p.search n

    go : (r : Result Asked Refusal) → Kept (turn_asked r p cost).progress
    go (Ok a) = told a (telling p.search a.number cost).verdict refl
    go (Err r) = done_kept p.request p.search n

-- `Kept` holds after a line where it held before, by the stage
line_kept : (stage : Stage) (p : Progress) (i : ℕ) (line : List ℕ) → p.stage ≡ stage → Kept p → Kept (line_read stage p i line).progress
unfolding line_read
line_kept Head p i line e h =
    cond_both (is_line whole_number 3 line) _ _ (λ (t : Turned). Kept t.progress)
    (λ w. axes_read_kept 0 (request_of (values whole_number line)) p.search (head_no_ring (values whole_number line))) (λ w. done_kept p.request p.search h.no_ring)
line_kept (Axes k) p i line e h =
    cond_both (is_line hexadecimal 4 line) _ _ (λ (t : Turned). Kept t.progress)
    (λ w. axes_read_kept (suc k) (with_axis k (axis_from (values hexadecimal line)) p.request) p.search (axis_no_ring k (values hexadecimal line) p.request h.no_ring))
    (λ w. done_kept p.request p.search h.no_ring)
line_kept Costs p i line e h =
    cond_both (is_line whole_number 1 line) _ _ (λ (t : Turned). Kept t.progress)
    (λ w. told_kept p (get_or (values whole_number line) 0 0) h.no_ring (h.made e)) (λ w. done_kept p.request p.search h.no_ring)
line_kept Done p i line e h = h

-- `Kept` holds after a step where it held before
step_kept : (bytes : List ℕ) (s : State) → Kept s.progress → Kept (stepping bytes s).state.progress
step_kept bytes s h =
    let last = done_kept s.progress.request s.progress.search h.no_ring in
    step_cases bytes s (λ (r : Stepped). Kept r.state.progress)
    (λ d. h) (λ d l. last) (λ d l o. last) (λ d l o e. line_kept s.progress.stage s.progress s.line _ refl h) (λ d l o e. last)

-- `Kept` holds after a run of steps where it held before
run_kept : (k : ℕ) (bytes : List ℕ) (s : State) → Kept s.progress → Kept (state_after k bytes s).progress
unfolding state_after
run_kept zero bytes s h = h
run_kept (suc k) bytes s h = run_kept k bytes (stepping bytes s).state (step_kept bytes s h)

-- `Kept` holds after any number of steps
always_kept : (bytes : List ℕ) (k : ℕ) → Kept (state_after k bytes first_state).progress
unfolding first_state nothing_read
always_kept bytes k = run_kept k bytes first_state (record { no_ring = head_no_ring []; made = λ e. let none : ⊥ = cc in absurd none })

-- where costs are read, an accepted opening and calls have made the search
pub carried : (bytes : List ℕ) (k : ℕ) → (state_after k bytes first_state).progress.stage ≡ Costs → Carried (state_after k bytes first_state).progress
carried bytes k = (always_kept bytes k).made

-- ---- the search

-- on a search neither damaged nor ended, a tell with the next number is refused only for a cost above the largest
tell_next : (s : Search) → undamaged s ≡ true → is_ended s.phase ≡ false → (cost : ℕ)
    → (telling s (s.readings + 1) cost).verdict ≡ check (leb cost max_cost) CostTooHigh (Ok tt)
unfolding telling tell_verdict
tell_next s h live cost = rw (h, live, eq-eqb (s.readings + 1) (s.readings + 1) refl) (told_verdict (check (leb cost max_cost) CostTooHigh (Ok tt)) s cost)

module _ (p : Progress) (c : Carried p) where
  -- the search as opened
  abbrev pub begun : Search
  begun = (opening_of p.request).search

  -- the history of the calls
  abbrev pub told_so_far : List Event
  told_so_far = history begun c.calls

  -- the costs that were told
  abbrev pub costs : List ℕ
  costs = costs_in told_so_far

  -- the rules' claim holds of the search that is carried
  pub claimed : Claims begun told_so_far p.search
  claimed =
      rw c.made (claim NelderMead p.request.n p.request.axes (Some (Spread p.request.spread)) usual p.request.budget c.accepted c.calls)

  -- the search that is carried is not damaged
  sound : undamaged p.search ≡ true
  sound =
      rw c.made
      (sound_always NelderMead p.request.n p.request.axes (Some (Spread p.request.spread)) usual p.request.budget c.accepted c.calls)

  -- a cost line is refused only as 9, for a cost above the largest
  pub only_too_high : is_ended p.search.phase ≡ false
      → (a : Asked) × (asking p.search ≡ Ok a) × ((cost : ℕ) → (telling p.search a.number cost).verdict ≡ check (leb cost max_cost) CostTooHigh (Ok tt))
  only_too_high live =
      let a : Asked = record { number = length costs + 1; trial = trial (run begun told_so_far) } in
      let due : length costs + 1 ≡ p.search.readings + 1 = ap (λ (m : ℕ). m + 1) (sym claimed.readings) in
      (a, claimed.asks live, λ cost. rw due (tell_next p.search sound live cost))

  -- the last line of a search is never a refusal: without a reading it has no point, else the best that is shown, the earliest least reading
  pub best_shown :
      (p.search.readings ≡ 0 → search_end p.search ≡ end_line (ending_of p.search.phase))
      × ((p.search.readings ≡ 0 → ⊥)
      → (v : Vertex) × IsBest begun told_so_far v × (showing p.search ≡ Ok v) × (search_end p.search ≡ best_line (ending_of p.search.phase) p.search.setup.n v))
  best_shown = (
    end_unread p.search,
    λ h.
        let b = claimed.best (omega (arith, claimed.readings)) in
        (b.0, b.1, b.2, end_shown p.search b.0 h b.2),
  )

-- ---- the opening

-- a refusal's number is from 1 to 7 and not 5
abbrev pub OfOpening : Refusal → Type 0
OfOpening r = (1 ≤ number_of r) × (number_of r ≤ 7) × (number_of r ≡ 5 → ⊥)

-- where a verdict is a refusal, its number is from 1 to 7 and not 5
abbrev AtOpening : Verdict → Type 0
AtOpening v = (r : Refusal) → v ≡ Err r → OfOpening r

-- a check whose refusal is `OfOpening`, before checks whose verdict is `AtOpening`, gives a verdict that is `AtOpening`
check_so : (b : Bool) (r : Refusal) {v : Verdict} → OfOpening r → AtOpening v → AtOpening (check b r v)
check_so b r o h = check_elim AtOpening b (λ e. h) (λ e x q. let d : r ≡ x = cc in rw (← d) o)

-- an axis that is no ring passes check 13
passes_13 : (x : Axis) → x.ring ≡ false → in_ring x ≡ true
passes_13 x e = rw e refl

-- the checks of k axes, none of them a ring, before checks whose verdict is `AtOpening`, give a verdict that is `AtOpening`
axes_so : (k i : ℕ) (xs : List Axis) (v : Verdict) → NoRing xs → AtOpening v → AtOpening (axes_checks k i xs v)
unfolding axes_checks
axes_so zero i xs v n h = h
axes_so (suc k) i xs v n h =
    check_so (all_in_range (get_or xs i no_axis)) (OutOfRange (i + 1)) (omega arith, omega arith, λ e. omega arith)
    (check_so (in_limits (get_or xs i no_axis)) (BadLimits (i + 1)) (omega arith, omega arith, λ e. omega arith)
    (check_elim AtOpening (in_ring (get_or xs i no_axis)) {r = RingAtHi (i + 1)}
    (λ e. check_so (in_step (get_or xs i no_axis)) (BadStep (i + 1)) (omega arith, omega arith, λ e. omega arith) (axes_so k (suc i) xs v n h))
    (λ e. absurd (true≢false (sym (passes_13 (get_or xs i no_axis) (n i)) ∙ e)))))

-- the usual coefficients pass
usual_pass : in_coefficients usual ≡ true
unfolding floats
usual_pass = refl

-- a request without rings is refused only as 1, 2, 3, 4, 6 or 7
opening_so : (q : Request) → NoRing q.axes → (r : Refusal) → (opening_of q).verdict ≡ Err r → OfOpening r
unfolding opening open_verdict
opening_so q n =
    let last : AtOpening (Ok tt) = λ r e. let none : ⊥ = cc in absurd none in
    let budget = check_so (leb (q.n + 1) q.budget && leb q.budget 1000000) BadBudget (omega arith, omega arith, λ e. omega arith) last in
    let threshold = check_so (in_threshold (Spread q.spread)) BadThreshold (omega arith, omega arith, λ e. omega arith) budget in
    let coefficients = check_elim AtOpening (in_coefficients usual) {r = BadCoefficient} (λ e. threshold) (λ e. absurd (true≢false (sym usual_pass ∙ e))) in
    let axes = axes_so q.n 0 q.axes _ n coefficients in
    rw opened_by_verdict (check_so (leb 1 q.n && leb q.n 8) AxisCount (omega arith, omega arith, λ e. omega arith) axes)

-- so is what any number of steps have read of any input
pub opening_refusals : (bytes : List ℕ) (k : ℕ) (r : Refusal) → (opening_of (state_after k bytes first_state).progress.request).verdict ≡ Err r → OfOpening r
opening_refusals bytes k = opening_so (state_after k bytes first_state).progress.request (always_kept bytes k).no_ring
