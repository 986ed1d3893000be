-- Laws on the checks of an opening. Assumes nothing.
use Rattle.std.proofs.Common.{◌≡◌, refl, List, ℕ, zero, suc, ◌+◌, ◌-◌, ◌≤◌, ◌<◌, get_or, ◌&&◌, Option, Ok, Err, leb, le-leb, arith}
use mathlib.Core.Logic.{◌⊎◌, ⊎_elim}
use Rattle.std.proofs.lemmas.Bool.{lt-leb}
use Rattle.rules.specs.Trial.{no_axis}
use Rattle.rules.specs.Numbers.{max_budget}
use Rattle.rules.specs.Refusals.{Verdict, check}
use Rattle.rules.specs.Opening.{axis_checks, axes_checks, in_coefficients, in_threshold, rule_of, open_verdict}
use Rattle.rules.specs.Stop.{suits}
use Rattle.rules.specs.declared.Axis.{Axis}
use Rattle.rules.specs.declared.Coefficients.{Coefficients}
use Rattle.rules.specs.declared.Method.{Method}
use Rattle.rules.specs.declared.Rule.{Rule}
use Rattle.rules.specs.declared.Refusal.TheVariants.{AxisCount, BadCoefficient, BadThreshold, BadBudget, RuleOfMethod}
use Rattle.engine.proofs.Laws.Checking.{and_then, check_then}

-- ---- the checks of the axes

-- the checks of an axis and those after it
axis_then : (i : ℕ) (x : Axis) (u v : Verdict) → and_then (axis_checks i x u) v ≡ axis_checks i x (and_then u v)
axis_then i x u v = simp check_then

-- the checks of the axes and those after them
axes_then : (k i : ℕ) (xs : List Axis) (u v : Verdict) → and_then (axes_checks k i xs u) v ≡ axes_checks k i xs (and_then u v)
unfolding axes_checks
axes_then zero i xs u v = refl
axes_then (suc k) i xs u v = rw (axis_then, axes_then k (suc i) xs u v)

-- the checks of the axes, which without more give the verdict u, and those after them
axes_with : (k i : ℕ) (xs : List Axis) (u v : Verdict) → u ≡ axes_checks k i xs (Ok tt) → axes_checks k i xs v ≡ and_then u v
axes_with k i xs u v e = rw (e, axes_then)

-- of n axes, those from the i-th on, counted from 0: its verdict, and the others after it
pub axes_first : (n i : ℕ) (xs : List Axis) → i < n
    → axes_checks (n - i) i xs (Ok tt) ≡ and_then (axis_checks (i + 1) (get_or xs i no_axis) (Ok tt)) (axes_checks (n - (i + 1)) (i + 1) xs (Ok tt))
unfolding axes_checks
axes_first n i xs l =
    let more : n - i ≡ suc (n - (i + 1)) = omega arith in
    let next : suc i ≡ i + 1 = omega arith in
    rw (axis_then, more, next)

-- where check 1 passes, the verdict is that of the checks of the axes, and of checks 5, 6, 14 and 7 after them
pub open_after_axes : (m : Method) (n : ℕ) (axes : List Axis) (rule : Option Rule) (c : Coefficients) (budget : ℕ) → 1 ≤ n → n ≤ 8
    → open_verdict m n axes rule c budget
    ≡ and_then (axes_checks n 0 axes (Ok tt)) (check (in_coefficients c) BadCoefficient (check (in_threshold (rule_of rule)) BadThreshold (check (suits m (rule_of rule)) RuleOfMethod (check (leb (n + 1) budget && leb budget max_budget) BadBudget (Ok tt)))))
unfolding open_verdict
open_after_axes m n axes rule c budget low high = rw (le-leb 1 n low, le-leb n 8 high, axes_with n 0 axes (axes_checks n 0 axes (Ok tt)) _ refl)

-- fewer axes than one, or more than eight
pub open_bad : (m : Method) (n : ℕ) (axes : List Axis) (rule : Option Rule) (c : Coefficients) (budget : ℕ) → (n < 1) ⊎ (8 < n) → open_verdict m n axes rule c budget ≡ Err AxisCount
unfolding open_verdict
open_bad m n axes rule c budget h = ⊎_elim (λ l. rw (lt-leb 1 n l)) (λ m. rw (le-leb 1 n (omega arith), lt-leb n 8 m)) h

-- what an opening's checks take
pub ruleset opens = (open_after_axes, open_bad)
