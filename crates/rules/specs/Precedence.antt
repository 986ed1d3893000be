-- "Checks run in table order", said of each refusal by itself: its own check fails, and every check that stands before it passes. `check` says
-- the same by the order in which it tries them; that a call is refused exactly so is proved.
use Rattle.std.specs.Prelude.{◌≡◌, true, false, ◌&&◌, List, ℕ, ◌+◌, ◌<◌, get_or, leb, eqb, Option}
use Rattle.rules.specs.View.{is_ended}
use Rattle.rules.specs.Trial.{no_axis}
use Rattle.rules.specs.Opening.{all_in_range, in_limits, in_ring, in_step, in_coefficients, in_threshold, rule_of}
use Rattle.rules.specs.Calls.{undamaged}
use Rattle.rules.specs.Stop.{suits}
use Rattle.rules.specs.declared.Method.{Method}
use Rattle.rules.specs.declared.Axis.{Axis}
use Rattle.rules.specs.declared.Coefficients.{Coefficients}
use Rattle.rules.specs.declared.Rule.{Rule}
use Rattle.rules.specs.declared.Search.{Search}
use Rattle.rules.specs.declared.Refusal.{Refusal}
use Rattle.rules.specs.declared.Refusal.TheVariants.{AxisCount, OutOfRange, BadLimits, BadStep, BadCoefficient, BadThreshold, BadBudget, SearchEnded, CostTooHigh, WrongNumber, NoReading, Damaged, RingAtHi, RuleOfMethod}

-- an axis that passes 2, 3, 13 and 4
pub record Fits (x : Axis) : Type 0 where
  pub range : all_in_range x ≡ true
  pub limits : in_limits x ≡ true
  pub ring : in_ring x ≡ true
  pub step : in_step x ≡ true

-- 1 is passed, and so are 2, 3, 13 and 4 on the first k axes
pub record Fit (n k : ℕ) (axes : List Axis) : Type 0 where
  pub count : (leb 1 n && leb n 8) ≡ true
  pub each : (a : ℕ) → a < k → Fits (get_or axes a no_axis)

-- an opening refused with 2, 3, 13 or 4 on axis i: the axes before it pass all four, and it passes those before
pub record AxisRefused (n : ℕ) (axes : List Axis) (i : ℕ) (Own : Axis → Type 0) : Type 0 where
  pub axis : ℕ
  pub from_1 : i ≡ axis + 1
  pub one_of : axis < n
  pub before : Fit n axis axes
  pub own : Own (get_or axes axis no_axis)

-- what an opening that is refused has passed and failed
abbrev pub OpeningRefused : Method → ℕ → List Axis → Option Rule → Coefficients → ℕ → Refusal → Type 0
OpeningRefused m n axes rule c budget AxisCount = (leb 1 n && leb n 8) ≡ false
OpeningRefused m n axes rule c budget (OutOfRange i) = AxisRefused n axes i (λ x. all_in_range x ≡ false)
OpeningRefused m n axes rule c budget (BadLimits i) = AxisRefused n axes i (λ x. (all_in_range x ≡ true) × (in_limits x ≡ false))
OpeningRefused m n axes rule c budget (RingAtHi i) = AxisRefused n axes i (λ x. (all_in_range x ≡ true) × (in_limits x ≡ true) × (in_ring x ≡ false))
OpeningRefused m n axes rule c budget (BadStep i) = AxisRefused n axes i (λ x. (all_in_range x ≡ true) × (in_limits x ≡ true) × (in_ring x ≡ true) × (in_step x ≡ false))
OpeningRefused m n axes rule c budget BadCoefficient = Fit n n axes × (in_coefficients c ≡ false)
OpeningRefused m n axes rule c budget BadThreshold = Fit n n axes × (in_coefficients c ≡ true) × (in_threshold (rule_of rule) ≡ false)
OpeningRefused m n axes rule c budget RuleOfMethod =
    Fit n n axes × (in_coefficients c ≡ true) × (in_threshold (rule_of rule) ≡ true) × (suits m (rule_of rule) ≡ false)
OpeningRefused m n axes rule c budget BadBudget =
    Fit n n axes × (in_coefficients c ≡ true) × (in_threshold (rule_of rule) ≡ true) × (suits m (rule_of rule) ≡ true) × ((leb (n + 1) budget && leb budget 1000000) ≡ false)
OpeningRefused m n axes rule c budget _ = ⊥

-- what an ask that is refused has passed and failed: 12, 8
abbrev pub AskRefused : Search → Refusal → Type 0
AskRefused s Damaged = undamaged s ≡ false
AskRefused s SearchEnded = (undamaged s ≡ true) × (is_ended s.phase ≡ true)
AskRefused s _ = ⊥

-- a tell: 12, 8, 10, 9
abbrev pub TellRefused : Search → ℕ → ℕ → Refusal → Type 0
TellRefused s number cost Damaged = undamaged s ≡ false
TellRefused s number cost SearchEnded = (undamaged s ≡ true) × (is_ended s.phase ≡ true)
TellRefused s number cost WrongNumber = (undamaged s ≡ true) × (is_ended s.phase ≡ false) × (eqb number (s.readings + 1) ≡ false)
TellRefused s number cost CostTooHigh =
    (undamaged s ≡ true) × (is_ended s.phase ≡ false) × (eqb number (s.readings + 1) ≡ true) × (leb cost 16777215 ≡ false)
TellRefused s number cost _ = ⊥

-- a best query: 12, 11
abbrev pub BestRefused : Search → Refusal → Type 0
BestRefused s Damaged = undamaged s ≡ false
BestRefused s NoReading = (undamaged s ≡ true) × (eqb s.readings 0 ≡ true)
BestRefused s _ = ⊥
