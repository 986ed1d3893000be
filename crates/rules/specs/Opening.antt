-- "Refused calls", the rows of the opening: its checks in their order, and the search that it gives.
use Rattle.std.specs.Prelude.{Bool, false, not, ◌&&◌, List, [], map, ℕ, zero, suc, ◌+◌, get_or, replicate, leb, Float, Option, Some, None, Ok, Err}
use Rattle.std.specs.Float.Ieee.{neg, eq}
use Rattle.rules.specs.Binary64.{0ᶠ, 1ᶠ, 2ᶠ, 4ᶠ, 8ᶠ, farthest, ◌⊕◌, ◌⊖◌, ◌⊘◌, ◌≤ᶠ◌, ◌<ᶠ◌}
use Rattle.rules.specs.Simplex.{first_of, pack, blank}
use Rattle.rules.specs.Numbers.{max_budget, max_spread}
use Rattle.rules.specs.Trial.{no_axis}
use Rattle.rules.specs.Count.{no_counts}
use Rattle.rules.specs.Stop.{suits}
use Rattle.rules.specs.Refusals.{Verdict, check}
use Rattle.rules.specs.declared.Method.{Method}
use Rattle.rules.specs.declared.Method.TheVariants.{NelderMead, Multidirectional}
use Rattle.rules.specs.declared.Axis.{Axis}
use Rattle.rules.specs.declared.Coefficients.{Coefficients}
use Rattle.rules.specs.declared.Rule.{Rule}
use Rattle.rules.specs.declared.Rule.TheVariants.{Spread, Moved, Size}
use Rattle.rules.specs.declared.Setup.{Setup}
use Rattle.rules.specs.declared.Phase.{Phase}
use Rattle.rules.specs.declared.Phase.TheVariants.{Building, Basing, Ended}
use Rattle.rules.specs.declared.Cause.TheVariants.{Budget}
use Rattle.rules.specs.declared.Search.{Search}
use Rattle.rules.specs.declared.Opened.{Opened}
use Rattle.rules.specs.declared.Refusal.TheVariants.{AxisCount, OutOfRange, BadLimits, BadStep, BadCoefficient, BadThreshold, BadBudget, RingAtHi, RuleOfMethod}

-- refusal 2: "fails −1,048,576 ≤ v ≤ 1,048,576 (so NaN too)"
abbrev pub in_range : Float → Bool
in_range v = (neg farthest ≤ᶠ v) && (v ≤ᶠ farthest)

-- not refusal 2: "one of the four numbers fails"
abbrev pub all_in_range : Axis → Bool
all_in_range x = in_range x.lo && in_range x.hi && in_range x.start && in_range x.step

-- not refusal 3: "not lo < hi, or not lo ≤ start ≤ hi, or not step > 0"
abbrev pub in_limits : Axis → Bool
in_limits x = (x.lo <ᶠ x.hi) && (x.lo ≤ᶠ x.start) && (x.start ≤ᶠ x.hi) && (0ᶠ <ᶠ x.step)

-- not refusal 13: a "ring axis starts at hi"
abbrev pub in_ring : Axis → Bool
in_ring x = not (x.ring && eq x.start x.hi)

-- not refusal 4: "start + step equals start, or step > (hi − lo)/2"
abbrev pub in_step : Axis → Bool
in_step x = not (eq (x.start ⊕ x.step) x.start) && not ((x.hi ⊖ x.lo) ⊘ 2ᶠ <ᶠ x.step)

-- refusals 2, 3, 13, "tried just after 3", and 4 "tried on each" axis; i counts the axes from 1
abbrev pub axis_checks : ℕ → Axis → Verdict → Verdict
axis_checks i x v = check (all_in_range x) (OutOfRange i) (check (in_limits x) (BadLimits i) (check (in_ring x) (RingAtHi i) (check (in_step x) (BadStep i) v)))

-- "lowest axis first": k axes, from the i-th, counted from 0, on
unfoldable pub axes_checks : ℕ → ℕ → List Axis → Verdict → Verdict
axes_checks zero i xs v = v
axes_checks (suc k) i xs v = axis_checks (i + 1) (get_or xs i no_axis) (axes_checks k (suc i) xs v)

-- refusal 5: "α > 0 and at most 4; χ > 1, χ > α, at most 8; β and σ strictly between 0 and 1"
abbrev pub in_coefficients : Coefficients → Bool
in_coefficients c =
    (0ᶠ <ᶠ c.alpha) && (c.alpha ≤ᶠ 4ᶠ)
    && (1ᶠ <ᶠ c.chi) && (c.alpha <ᶠ c.chi) && (c.chi ≤ᶠ 8ᶠ)
    && (0ᶠ <ᶠ c.beta) && (c.beta <ᶠ 1ᶠ) && (0ᶠ <ᶠ c.sigma) && (c.sigma <ᶠ 1ᶠ)

-- refusal 6: "for spread, E not 1 to 4,294,967,295; for moved and size, not 0 < E ≤ 1,048,576"
abbrev pub in_threshold : Rule → Bool
in_threshold (Spread e) = leb 1 e && leb e max_spread
in_threshold (Moved e) = (0ᶠ <ᶠ e) && (e ≤ᶠ farthest)
in_threshold (Size e) = (0ᶠ <ᶠ e) && (e ≤ᶠ farthest)

-- "An opening that names none gets spread 4"
abbrev pub rule_of : Option Rule → Rule
rule_of None = Spread 4
rule_of (Some r) = r

-- the opening's refusals, 1 to 7, 13 and 14, in the order of the checks: "Naming another rule, or none, with this method is refused as 14, after 6"
unfoldable pub open_verdict : Method → ℕ → List Axis → Option Rule → Coefficients → ℕ → Verdict
open_verdict m n axes rule c budget =
    check (leb 1 n && leb n 8) AxisCount
    (axes_checks n 0 axes
    (check (in_coefficients c) BadCoefficient
    (check (in_threshold (rule_of rule)) BadThreshold
    (check (suits m (rule_of rule)) RuleOfMethod
    (check (leb (n + 1) budget && leb budget max_budget) BadBudget (Ok tt))))))

-- an axis record of zeros, no ring
abbrev pub zero_axis : Axis
zero_axis = record { lo = 0ᶠ; hi = 0ᶠ; start = 0ᶠ; step = 0ᶠ; ring = false }

-- a search with no reading, whose build goes around x
abbrev pub unread : Setup → Method → Phase → List Float → Search
unread t m p x = record {
  setup = t;
  method = m;
  phase = p;
  standing = pack [];
  gathered = pack [];
  stops = replicate 9 0;
  center = x;
  readings = 0;
  best = blank;
  counts = no_counts;
}

-- "A refused opening returns a closed search: ended with cause budget, all zero, its rule spread 0"
unfoldable pub closed : Search
closed = unread (record { n = 0; axes = replicate 8 zero_axis; coefficients = record { alpha = 0ᶠ; chi = 0ᶠ; beta = 0ᶠ; sigma = 0ᶠ }; rule = Spread 0; budget = 0 }) NelderMead (Ended Budget) (replicate 8 0ᶠ)

-- an axis's start
abbrev pub start_of : Axis → Float
start_of x = x.start

-- "those past n are not read": zero records stand there
abbrev pub keep : ℕ → List Axis → List Axis
keep n axes = first_of n zero_axis axes

-- the phase of a first trial
abbrev pub first_phase : Method → Phase
first_phase NelderMead = Building 0
first_phase Multidirectional = Basing

-- the search of an opening that is not refused: its first trial is the start point
unfoldable pub fresh : Method → ℕ → List Axis → Option Rule → Coefficients → ℕ → Search
fresh m n axes rule c budget = unread (record { n = n; axes = keep n axes; coefficients = c; rule = rule_of rule; budget = budget }) m (first_phase m) (map start_of (keep n axes))

-- the answer by the verdict
abbrev pub opened_by : Verdict → Search → Opened
opened_by (Ok _) s = record { verdict = Ok tt; search = s }
opened_by (Err r) s = record { verdict = Err r; search = closed }

-- the opening: "An opening gives n and eight records"
unfoldable pub opening : Method → ℕ → List Axis → Option Rule → Coefficients → ℕ → Opened
opening m n axes rule c budget = opened_by (open_verdict m n axes rule c budget) (fresh m n axes rule c budget)
