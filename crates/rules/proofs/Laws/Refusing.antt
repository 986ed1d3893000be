-- What a refused call gives: the closed search of an opening; and that a call is refused exactly with what `Precedence` says. Assumes nothing.
use Rattle.std.specs.Prelude.{Option, Ok, Err}
use mathlib.Core.Path.{◌≡◌, refl, sym, ap, subst, ◌∙◌}
use mathlib.Core.Bool.{Bool, true, false, not}
use mathlib.Core.List.{List}
use mathlib.Core.Logic.{◌↔◌, ⊎_elim}
use native.Mathlib.Nat.{eq-or-lt_of_le}
use native.Mathlib.Omega.{arith}
use mathlib.Core.Bool.{◌&&◌}
use Prim.Native.Nat.{◌≤◌, ℕ, zero, suc, ◌+◌, ◌<◌}
use Rattle.std.specs.Prelude.{leb, eqb}
use Rattle.std.proofs.lemmas.Bool.Decides.{nat_tests}
use Rattle.rules.specs.View.{is_ended}
use lib.ListN.{get_or}
use borrow.Author.Tests.{not-true}
use Rattle.rules.specs.Trial.{no_axis}
use Rattle.rules.specs.Refusals.{Verdict, check}
use Rattle.rules.specs.Stop.{suits}
use Rattle.rules.specs.Opening.{all_in_range, in_limits, in_ring, in_step, in_coefficients, in_threshold, rule_of, axis_checks, axes_checks, open_verdict, closed, opening}
use Rattle.rules.specs.Calls.{undamaged, ask_verdict, tell_verdict, best_verdict}
use Rattle.rules.specs.Precedence.{Fits, Fit, AxisRefused, OpeningRefused, AskRefused, TellRefused, BestRefused}
use Rattle.rules.specs.declared.Method.{Method}
use Rattle.rules.specs.declared.Axis.{Axis}
use Rattle.rules.specs.declared.Coefficients.{Coefficients}
use Rattle.rules.specs.declared.Rule.{Rule}
use Rattle.rules.specs.declared.Search.{Search}
use Rattle.rules.specs.declared.Refusal.{Refusal}
use Rattle.rules.specs.declared.Refusal.TheVariants.{AxisCount, OutOfRange, BadLimits, BadStep, BadCoefficient, BadThreshold, BadBudget, SearchEnded, CostTooHigh, WrongNumber, NoReading, Damaged, RingAtHi, RuleOfMethod}

-- the refusal of a verdict, r where it accepts
refusal_in : Refusal → Verdict → Refusal
refusal_in r (Ok _) = r
refusal_in r (Err q) = q

-- two verdicts that refuse alike refuse with one refusal
same_refusal : (q r : Refusal) (v : Verdict) → v ≡ Err q → v ≡ Err r → q ≡ r
unfolding refusal_in
same_refusal q r v g h = ap (refusal_in q) (sym g ∙ h)

-- where a check refuses, it fails and the refusal is its own, or it passes and those after it refuse
pub check_refuses : (P : Refusal → Type 0) (b : Bool) (q : Refusal) (v : Verdict) (r : Refusal) → check b q v ≡ Err r
    → (b ≡ false → P q) → (b ≡ true → v ≡ Err r → P r) → P r
check_refuses P true q v r h f g = g refl h
check_refuses P false q v r h f g = subst P (same_refusal q r (Err q) refl h) (f refl)

-- ---- an opening

-- what P has to hold of where the axis i of record x refuses
record AxisCases (P : Refusal → Type 0) (i : ℕ) (x : Axis) : Type 0 where
  range : all_in_range x ≡ false → P (OutOfRange i)
  limits : all_in_range x ≡ true → in_limits x ≡ false → P (BadLimits i)
  ring : all_in_range x ≡ true → in_limits x ≡ true → in_ring x ≡ false → P (RingAtHi i)
  step : all_in_range x ≡ true → in_limits x ≡ true → in_ring x ≡ true → in_step x ≡ false → P (BadStep i)

-- where the checks of an axis refuse, one of the four fails, or they pass and those after them refuse
axis_refuses : (P : Refusal → Type 0) (i : ℕ) (x : Axis) (v : Verdict) (r : Refusal) → axis_checks i x v ≡ Err r
    → AxisCases P i x → (Fits x → v ≡ Err r → P r) → P r
axis_refuses P i x v r h c g =
    check_refuses P (all_in_range x) (OutOfRange i) _ r h c.range
    (λ p k. check_refuses P (in_limits x) (BadLimits i) _ r k (c.limits p)
    (λ q l. check_refuses P (in_ring x) (RingAtHi i) _ r l (c.ring p q)
    (λ o l2. check_refuses P (in_step x) (BadStep i) v r l2 (c.step p q o) (λ s m. g (record { range = p; limits = q; ring = o; step = s }) m))))

-- where the checks of k axes from the i-th on refuse, one of an axis fails after all before it have passed, or they pass and those after refuse
axes_refuse : (P : Refusal → Type 0) (k i : ℕ) (xs : List Axis) (v : Verdict) (r : Refusal) → axes_checks k i xs v ≡ Err r
    → ((a : ℕ) → a < i → Fits (get_or xs a no_axis))
    → ((a : ℕ) → a < i + k → ((j : ℕ) → j < a → Fits (get_or xs j no_axis)) → AxisCases P (a + 1) (get_or xs a no_axis))
    → (((a : ℕ) → a < i + k → Fits (get_or xs a no_axis)) → v ≡ Err r → P r) → P r
unfolding axes_checks
axes_refuse P zero i xs v r h before c g = g (λ a l. before a (omega arith)) h
axes_refuse P (suc k) i xs v r h before c g =
    axis_refuses P (i + 1) (get_or xs i no_axis) (axes_checks k (suc i) xs v) r h (c i (omega arith) before)
    (λ f m. axes_refuse P k (suc i) xs v r m (λ a l. ⊎_elim (λ e. rw e f) (λ b. before a b) (eq-or-lt_of_le (omega arith)))
    (λ a l. c a (omega arith)) (λ d. g (λ a l. d a (omega arith))))

-- an axis that fits lets the checks after it decide
axis_lets : (i : ℕ) (x : Axis) (v : Verdict) → Fits x → axis_checks i x v ≡ v
axis_lets i x v f = rw (f.range, f.limits, f.ring, f.step) refl

-- so do k axes from the i-th on
axes_let : (k i : ℕ) (xs : List Axis) (v : Verdict) → ((a : ℕ) → a < i + k → Fits (get_or xs a no_axis)) → axes_checks k i xs v ≡ v
unfolding axes_checks
axes_let zero i xs v f = refl
axes_let (suc k) i xs v f =
    axis_lets (i + 1) (get_or xs i no_axis) (axes_checks k (suc i) xs v) (f i (omega arith)) ∙ axes_let k (suc i) xs v (λ a l. f a (omega arith))

-- where axis a, from 0, refuses whatever follows it, and the axes before it fit, all refuse so
axes_fail : (k i : ℕ) (xs : List Axis) (v : Verdict) (r : Refusal) (a : ℕ) → i ≤ a → a < i + k → ((j : ℕ) → j < a → Fits (get_or xs j no_axis))
    → ((w : Verdict) → axis_checks (a + 1) (get_or xs a no_axis) w ≡ Err r) → axes_checks k i xs v ≡ Err r
unfolding axes_checks
axes_fail zero i xs v r a l u before own = absurd (omega arith)
axes_fail (suc k) i xs v r a l u before own =
    ⊎_elim (λ e. rw (← e) at own (axes_checks k (suc i) xs v))
    (λ m. axis_lets (i + 1) (get_or xs i no_axis) (axes_checks k (suc i) xs v) (before i m) ∙ axes_fail k (suc i) xs v r a m (omega arith) before own)
    (eq-or-lt_of_le l)

module _ (m : Method) (n : ℕ) (axes : List Axis) (rule : Option Rule) (c : Coefficients) (budget : ℕ) where
  -- "A refused opening returns a closed search"
  pub refused_closed : (r : Refusal) → open_verdict m n axes rule c budget ≡ Err r → (opening m n axes rule c budget).search ≡ closed
  unfolding opening
  refused_closed r h = rw h refl

  -- one axis's part in the opening's refusals, where the axes before it fit
  axis_cases : (leb 1 n && leb n 8) ≡ true → (a : ℕ) → a < n → ((j : ℕ) → j < a → Fits (get_or axes j no_axis))
      → AxisCases (OpeningRefused m n axes rule c budget) (a + 1) (get_or axes a no_axis)
  axis_cases p a l before =
      let fit : Fit n a axes = record { count = p; each = before } in
      record {
        range = λ e. record { axis = a; from_1 = refl; one_of = l; before = fit; own = e };
        limits = λ d e. record { axis = a; from_1 = refl; one_of = l; before = fit; own = (d, e) };
        ring = λ d e f. record { axis = a; from_1 = refl; one_of = l; before = fit; own = (d, e, f) };
        step = λ d e f g. record { axis = a; from_1 = refl; one_of = l; before = fit; own = (d, e, f, g) };
      }

  -- a refused opening has failed the check of its refusal and passed those before
  opening_fails : (r : Refusal) → open_verdict m n axes rule c budget ≡ Err r → OpeningRefused m n axes rule c budget r
  unfolding open_verdict
  opening_fails r h =
      let P = OpeningRefused m n axes rule c budget in
      check_refuses P (leb 1 n && leb n 8) AxisCount _ r h (λ f. f)
      (λ p k. axes_refuse P n 0 axes _ r k (λ a l. absurd (omega arith)) (λ a l. axis_cases p a (omega arith))
      (λ fits w.
      let fit : Fit n n axes = record { count = p; each = λ a l. fits a (omega arith) } in
      check_refuses P (in_coefficients c) BadCoefficient _ r w (λ f. (fit, f))
      (λ q w2. check_refuses P (in_threshold (rule_of rule)) BadThreshold _ r w2 (λ f. (fit, q, f))
      (λ t w3. check_refuses P (suits m (rule_of rule)) RuleOfMethod _ r w3 (λ f. (fit, q, t, f))
      (λ u w4. check_refuses P (leb (n + 1) budget && leb budget 1000000) BadBudget (Ok tt) r w4 (λ f. (fit, q, t, u, f)) (λ b k2. absurd cc))))))

  -- where an axis refuses after all that stands before it, so does the opening
  axis_given : (r : Refusal) (i : ℕ) (Own : Axis → Type 0) → AxisRefused n axes i Own → ((x : Axis) (w : Verdict) → Own x → axis_checks i x w ≡ Err r)
      → open_verdict m n axes rule c budget ≡ Err r
  unfolding open_verdict
  axis_given r i Own h own =
      rw h.before.count
      (axes_fail n 0 axes _ r h.axis (omega arith) (omega arith) h.before.each (λ w. rw (← h.from_1) (own (get_or axes h.axis no_axis) w h.own)))

  -- where the count and the axes are good, the checks after them decide
  later_given : Fit n n axes
      → open_verdict m n axes rule c budget
      ≡ check (in_coefficients c) BadCoefficient
      (check (in_threshold (rule_of rule)) BadThreshold (check (suits m (rule_of rule)) RuleOfMethod (check (leb (n + 1) budget && leb budget 1000000) BadBudget (Ok tt))))
  unfolding open_verdict
  later_given fit = rw fit.count (axes_let n 0 axes _ (λ a l. fit.each a (omega arith)))

  -- and where it has, it is refused so
  opening_given : (r : Refusal) → OpeningRefused m n axes rule c budget r → open_verdict m n axes rule c budget ≡ Err r
  unfolding open_verdict
  opening_given AxisCount f = rw f refl
  opening_given (OutOfRange i) h = axis_given (OutOfRange i) i _ h (λ x w o. rw o refl)
  opening_given (BadLimits i) h = axis_given (BadLimits i) i _ h (λ x w o. rw (o.0, o.1) refl)
  opening_given (RingAtHi i) h = axis_given (RingAtHi i) i _ h (λ x w o. rw (o.0, o.1, o.2) refl)
  opening_given (BadStep i) h = axis_given (BadStep i) i _ h (λ x w o. rw (o.0, o.1, o.2, o.3) refl)
  opening_given BadCoefficient h = later_given h.0 ∙ rw h.1 refl
  opening_given BadThreshold h = later_given h.0 ∙ rw (h.1, h.2) refl
  opening_given RuleOfMethod h = later_given h.0 ∙ rw (h.1, h.2, h.3) refl
  opening_given BadBudget h = later_given h.0 ∙ rw (h.1, h.2, h.3, h.4) refl
  opening_given r h = absurd h

  -- the opening's checks run in their order
  pub opening_checks : (r : Refusal) → (open_verdict m n axes rule c budget ≡ Err r) ↔ OpeningRefused m n axes rule c budget r
  opening_checks r = (opening_fails r, opening_given r)

module _ (s : Search) where
  -- a refused ask has failed the check of its refusal and passed those before
  ask_fails : (r : Refusal) → ask_verdict s ≡ Err r → AskRefused s r
  unfolding ask_verdict
  ask_fails r h =
      let P = AskRefused s in
      check_refuses P (undamaged s) Damaged _ r h (λ f. f)
      (λ p k. check_refuses P (not (is_ended s.phase)) SearchEnded (Ok tt) r k (λ f. (p, grind (arith, nat_tests))) (λ q m. absurd cc))

  -- and where it has, it is refused so
  ask_given : (r : Refusal) → AskRefused s r → ask_verdict s ≡ Err r
  unfolding ask_verdict
  ask_given Damaged h = rw h refl
  ask_given SearchEnded h = rw (h.0, h.1) refl
  ask_given r h = absurd h

  -- an ask's checks run in table order
  pub ask_checks : (r : Refusal) → (ask_verdict s ≡ Err r) ↔ AskRefused s r
  ask_checks r = (ask_fails r, ask_given r)

  module _ (number cost : ℕ) where
    -- so with a tell
    tell_fails : (r : Refusal) → tell_verdict s number cost ≡ Err r → TellRefused s number cost r
    unfolding tell_verdict
    tell_fails r h =
        let P = TellRefused s number cost in
        check_refuses P (undamaged s) Damaged _ r h (λ f. f)
        (λ p k. check_refuses P (not (is_ended s.phase)) SearchEnded _ r k (λ f. (p, grind (arith, nat_tests)))
        (λ q m. check_refuses P (eqb number (s.readings + 1)) WrongNumber _ r m (λ f. (p, not-true _ q, f))
        (λ e m2. check_refuses P (leb cost 16777215) CostTooHigh (Ok tt) r m2 (λ f. (p, not-true _ q, e, f)) (λ l m3. absurd cc))))

    -- and the other way round
    tell_given : (r : Refusal) → TellRefused s number cost r → tell_verdict s number cost ≡ Err r
    unfolding tell_verdict
    tell_given Damaged h = rw h refl
    tell_given SearchEnded h = rw (h.0, h.1) refl
    tell_given WrongNumber h = rw (h.0, h.1, h.2) refl
    tell_given CostTooHigh h = rw (h.0, h.1, h.2, h.3) refl
    tell_given r h = absurd h

    -- a tell's checks run in table order
    pub tell_checks : (r : Refusal) → (tell_verdict s number cost ≡ Err r) ↔ TellRefused s number cost r
    tell_checks r = (tell_fails r, tell_given r)

  -- and so with a best query
  best_fails : (r : Refusal) → best_verdict s ≡ Err r → BestRefused s r
  unfolding best_verdict
  best_fails r h =
      let P = BestRefused s in
      check_refuses P (undamaged s) Damaged _ r h (λ f. f)
      (λ p k. check_refuses P (not (eqb s.readings 0)) NoReading (Ok tt) r k (λ f. (p, grind (arith, nat_tests))) (λ q m. absurd cc))

  -- and the other way round
  best_given : (r : Refusal) → BestRefused s r → best_verdict s ≡ Err r
  unfolding best_verdict
  best_given Damaged h = rw h refl
  best_given NoReading h = rw (h.0, h.1) refl
  best_given r h = absurd h

  -- a best query's checks run in table order
  pub best_checks : (r : Refusal) → (best_verdict s ≡ Err r) ↔ BestRefused s r
  best_checks r = (best_fails r, best_given r)
