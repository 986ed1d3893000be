-- "Build", "Iteration", the probes of "Stopping, probe, restart" and the multidirectional search: the trial that a search asks for next, its point
-- and its stops, by its phase.
use Rattle.std.specs.Prelude.{Bool, false, cond, ◌||◌, List, ℕ, zero, suc, ◌+◌, ◌-◌, ◌*◌, ◌/◌, ◌%◌, ◌&&◌, get_or, eqb, Float}
use Rattle.std.specs.Float.{nan}
use Rattle.rules.specs.Binary64.{probe_factor, float, clamp, clamp_changes, brought_round, ◌⊕◌, ◌⊖◌, ◌⊗◌, ◌⊘◌, ◌≤ᶠ◌, ◌<ᶠ◌}
use Rattle.rules.specs.Simplex.{point}
use Rattle.rules.specs.declared.Axis.{Axis}
use Rattle.rules.specs.declared.Setup.{Setup}
use Rattle.rules.specs.declared.Trial.{Trial}
use Rattle.rules.specs.declared.Search.{Search}
use Rattle.rules.specs.declared.Phase.{Phase}
use Rattle.rules.specs.declared.Phase.TheVariants.{Building, Reflecting, Expanding, Contracting, Shrinking, Basing, Mirroring, Checking, Probing, Ended}
use Rattle.rules.specs.declared.Side.TheVariants.{Outside, Inside}

-- what a read past the eighth record would give; no rule reads there
abbrev pub no_axis : Axis
no_axis = record { lo = nan; hi = nan; start = nan; step = nan; ring = false }

-- the record of axis a, counted from 0
abbrev pub axis : Setup → ℕ → Axis
axis t a = get_or t.axes a no_axis

-- the one way of a number into an axis: it is clamped; "On a ring" it is brought round
abbrev pub brought_in : Axis → Float → Float
brought_in x v = cond x.ring (brought_round x.lo x.hi v) (clamp x.lo x.hi v)

-- whether the clamp changes it there: "Being brought round never counts as standing at a stop"
abbrev pub at_stop : Axis → Float → Bool
at_stop x v = cond x.ring false (clamp_changes x.lo x.hi v)

-- v is a position of the axis x, by the clamp's own comparisons: lo ≤ v ≤ hi; on a ring "lo ≤ v < hi"
abbrev pub within : Axis → Float → Bool
within x v = (x.lo ≤ᶠ v) && cond x.ring (v <ᶠ x.hi) (v ≤ᶠ x.hi)

-- v brought into axis a: "Every trial is clamped axis by axis"
abbrev pub brought : Setup → ℕ → Float → Float
brought t a v = brought_in (axis t a) v

-- whether v is stopped on axis a
abbrev pub stopped : Setup → ℕ → Float → Bool
stopped t a v = at_stop (axis t a) v

-- coordinate a of the point at place i, both from 0: "vertex and axis giving the index"
abbrev pub entry : List Float → ℕ → ℕ → Float
entry ps a i = get_or ps (8 * i + a) nan

-- f 0 + .. + f k, "taken in place order starting with place 1"
unfoldable pub sum_to : (ℕ → Float) → ℕ → Float
sum_to f zero = f 0
sum_to f (suc k) = sum_to f k ⊕ f (suc k)

-- "c is, per axis, the sum of places 1 to n .. divided by n"
unfoldable pub centroid : ℕ → List Float → ℕ → Float
centroid n ps a = sum_to (entry ps a) (n - 1) ⊘ float n

-- from + k · (to − back), the form of every move of "Iteration"
abbrev pub move : Float → Float → Float → Float → Float
move from k to back = from ⊕ k ⊗ (to ⊖ back)

-- "c + α·(c − w)"
abbrev pub away : Setup → List Float → ℕ → Float
away t ps a = let c = centroid t.n ps a in move c t.coefficients.alpha c (entry ps a t.n)

-- "Reflected r", of which "r is the clamped point"
abbrev pub reflected : Setup → List Float → ℕ → Float
reflected t ps a = brought t a (away t ps a)

-- "c + χ·(r − c)" of e and "c + β·(r − c)" of the outside point, k being χ or β
abbrev pub toward_reflected : Setup → List Float → Float → ℕ → Float
toward_reflected t ps k a = let c = centroid t.n ps a in move c k (reflected t ps a) c

-- "c + β·(w − c)", the inside point
abbrev pub toward_worst : Setup → List Float → ℕ → Float
toward_worst t ps a = let c = centroid t.n ps a in move c t.coefficients.beta (entry ps a t.n) c

-- "x1 + σ·(xi − x1)", for the point at place j from 0
abbrev pub shrunk : Setup → List Float → ℕ → ℕ → Float
shrunk t ps j a = move (entry ps a 0) t.coefficients.sigma (entry ps a j) (entry ps a 0)

-- "x0 + (x0 − xi)", reflection i
abbrev pub mirrored : List Float → ℕ → ℕ → Float
mirrored ps i a = entry ps a 0 ⊕ (entry ps a 0 ⊖ entry ps a i)

-- "u = start + step; take u if u ≤ hi, else .. start − step", around the coordinate v; on a ring "always .. start + step"
abbrev pub stepped : Axis → Float → Float
stepped x v = cond (x.ring || (v ⊕ x.step ≤ᶠ x.hi)) (v ⊕ x.step) (v ⊖ x.step)

-- trial i of a build around a point with the coordinate v on axis a: "the start point, then for i = 1 to n that point with axis i changed"
abbrev pub build_step : Axis → Float → ℕ → ℕ → Float
build_step x v i a = cond (eqb i (suc a)) (stepped x v) v

-- "b + d, then .. b − d, with d = step·0.0009765625" on the axis of probe p, the coordinate v itself on every other axis a
abbrev pub probe_step : Axis → Float → ℕ → ℕ → Float
probe_step x v p a = let d = x.step ⊗ probe_factor in cond (eqb (p / 2) a) (cond (eqb (p % 2) 0) (v ⊕ d) (v ⊖ d)) v

-- coordinate a of the point that the search s is after in each phase, before it is brought in; an ended search is after none
abbrev pub target : Search → Phase → ℕ → Float
target s (Building i) a = build_step (axis s.setup a) (get_or s.center a nan) i a
target s Reflecting a = away s.setup s.standing.points a
target s Expanding a = toward_reflected s.setup s.standing.points s.setup.coefficients.chi a
target s (Contracting Outside) a = toward_reflected s.setup s.standing.points s.setup.coefficients.beta a
target s (Contracting Inside) a = toward_worst s.setup s.standing.points a
target s (Shrinking j) a = shrunk s.setup s.standing.points j a
-- "only the base is read first"
target s Basing a = get_or s.center a nan
target s (Mirroring i) a = mirrored s.standing.points i a
-- "it reads the unread companions"
target s (Checking i) a = entry s.standing.points a i
target s (Probing p) a = probe_step (axis s.setup a) (get_or s.best.point a nan) p a
target s (Ended cause) a = nan

-- how many of the first k axes "were so changed", f being the numbers before they are brought in
unfoldable pub stops_to : Setup → (ℕ → Float) → ℕ → ℕ
stops_to t f zero = 0
stops_to t f (suc k) = stops_to t f k + cond (stopped t k (f k)) 1 0

-- the numbers f of the first n axes as a trial: "Every trial is clamped axis by axis", and "carries how many axes were so changed"
abbrev pub made : Setup → ℕ → (ℕ → Float) → Trial
made t n f = record { point = point n (λ a. brought t a (f a)); stops = stops_to t f n }

-- its stops in each phase: "Each companion is clamped when made; its trial carries that count", which stands beside it
abbrev pub stops_in : Phase → Search → ℕ
stops_in (Checking i) s = get_or s.stops i 0
stops_in p s = stops_to s.setup (target s p) s.setup.n

-- the trial that the search s would ask in each phase
abbrev pub trial_in : Phase → Search → Trial
trial_in p s = record { point = (made s.setup s.setup.n (target s p)).point; stops = stops_in p s }

-- its point
abbrev pub point_in : Phase → Search → List Float
point_in p s = (trial_in p s).point

-- the trial: "the point that the rules ask", with its stops
unfoldable pub trial : Search → Trial
trial s = trial_in s.phase s
