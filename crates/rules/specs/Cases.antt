-- Further worked cases, each by hand from sentences of document 01 that P1 to P12 do not reach: what the rules give beside what
-- the sentence says.
use Rattle.std.specs.Prelude.{false, List, [], ◌∷◌, ℕ, replicate, Float, Option, Some, None, Ok}
use Rattle.std.specs.Float.{binary64}
use Rattle.std.specs.Float.Ieee.{of_bits, neg}
use Rattle.rules.specs.Refusals.{Verdict}
use Rattle.rules.specs.Binary64.{0ᶠ, 1ᶠ, 2ᶠ, 8ᶠ, farthest}
use Rattle.rules.specs.Numbers.{usual}
use Rattle.rules.specs.Opening.{zero_axis, open_verdict, fresh}
use Rattle.rules.specs.Examples.{½, 𝟏, 1¼, 1½, ¼, example_axis, Shows, asks, after_costs, next}
use Rattle.rules.specs.declared.Method.TheVariants.{NelderMead}
use Rattle.rules.specs.declared.Rule.{Rule}
use Rattle.rules.specs.declared.Axis.{Axis}
use Rattle.rules.specs.declared.Search.{Search}
use Rattle.rules.specs.declared.Rule.TheVariants.{Spread, Moved, Size}

-- a float by its bits
abbrev pub bits : ℕ → Float
bits = of_bits binary64

-- an axis from −8 to hi with step 1
abbrev pub case_axis : Float → Float → Axis
case_axis start hi = record { lo = neg 8ᶠ; hi = hi; start = start; step = 1ᶠ; ring = false }

-- two axis records, and zeros after them
abbrev pub two_axes : Axis → Axis → List Axis
two_axes x y = x ∷ y ∷ replicate 6 zero_axis

-- a search over two axes from −8 to hi with step 1, the usual coefficients, budget 100
abbrev pub case_search : Float → Float → Option Rule → Search
case_search start hi rule = fresh NelderMead 2 (two_axes (case_axis start hi) (case_axis start hi)) rule usual 100

-- the trial that `case_search` asks after the costs cs
abbrev pub trial_after : Float → Float → Option Rule → List ℕ → Shows
trial_after start hi rule cs = next (after_costs (case_search start hi rule) cs)

-- one axis record, and zeros after it
abbrev pub one_axis : List Axis
one_axis = case_axis 0ᶠ 8ᶠ ∷ replicate 7 zero_axis

-- the input that document 01 gives the program: one axis, budget 4, spread 1
abbrev pub program_search : Search
program_search = fresh NelderMead 1 one_axis (Some (Spread 1)) usual 4

-- 0.1, of which three add up to more than three times itself
abbrev pub tenth : Float
tenth = bits 0x3fb9_9999_9999_999a

-- three axes, the first with hi and start 0.1
abbrev pub three_axes : List Axis
three_axes = case_axis tenth tenth ∷ case_axis 0ᶠ 8ᶠ ∷ case_axis 0ᶠ 8ᶠ ∷ replicate 5 zero_axis

-- a search over three axes whose centroid rounds past hi
abbrev pub rounded_search : Search
rounded_search = fresh NelderMead 3 three_axes None usual 100

-- the trials that the rules give, case by case
unfoldable pub cases_given : List Shows
cases_given =
    -- the worst vertex (2,2) is left out of c: r is (3,3)
    trial_after 2ᶠ 8ᶠ None (30 ∷ 20 ∷ 10 ∷ [])
    -- u = 3 is past hi 2.5, so the build steps back
    ∷ trial_after 2ᶠ (bits 0x4004_0000_0000_0000) None (30 ∷ [])
    -- r is clamped to (0,1.75), and the outside point goes by the clamped r
    ∷ trial_after 1ᶠ (bits 0x3ffc_0000_0000_0000) None (10 ∷ 20 ∷ 30 ∷ [])
    ∷ trial_after 1ᶠ (bits 0x3ffc_0000_0000_0000) None (10 ∷ 20 ∷ 30 ∷ 25 ∷ [])
    -- c is above hi by rounding, r is clamped to hi, and e, twice as far from c, lies below: it goes by the clamped r
    ∷ next (after_costs rounded_search (10 ∷ 40 ∷ 20 ∷ 30 ∷ [])) ∷ next (after_costs rounded_search (10 ∷ 40 ∷ 20 ∷ 30 ∷ 5 ∷ []))
    -- no rule named, spread 4: three equal costs meet it, and a round probes around the first reading: forward, back, next axis
    ∷ trial_after 2ᶠ 8ᶠ None (10 ∷ 10 ∷ 10 ∷ [])
    ∷ trial_after 2ᶠ 8ᶠ None (10 ∷ 10 ∷ 10 ∷ 10 ∷ [])
    ∷ trial_after 2ᶠ 8ᶠ None (10 ∷ 10 ∷ 10 ∷ 10 ∷ 10 ∷ [])
    -- a lower probe restarts around itself, its own cost known
    ∷ trial_after 2ᶠ 8ᶠ None (10 ∷ 10 ∷ 10 ∷ 10 ∷ 10 ∷ 9 ∷ [])
    ∷ trial_after 2ᶠ 8ᶠ None (10 ∷ 10 ∷ 10 ∷ 10 ∷ 10 ∷ 9 ∷ 12 ∷ [])
    -- moved is never met at a build; (2,2) replaced by (3,3) moves 2, which is < E·2 for E just above 1 only
    ∷ trial_after 2ᶠ 8ᶠ (Some (Moved farthest)) (30 ∷ 20 ∷ 10 ∷ [])
    ∷ trial_after 2ᶠ 8ᶠ (Some (Moved 1ᶠ)) (30 ∷ 20 ∷ 10 ∷ 15 ∷ [])
    ∷ trial_after 2ᶠ 8ᶠ (Some (Moved (bits 0x3ff0_0000_0000_0001))) (30 ∷ 20 ∷ 10 ∷ 15 ∷ [])
    -- P11 by the opening: with spread 100 the next trial is r, with 101 a probe
    ∷ trial_after 0ᶠ 8ᶠ (Some (Spread 100)) (30 ∷ 20 ∷ 10 ∷ []) ∷ trial_after 0ᶠ 8ᶠ (Some (Spread 101)) (30 ∷ 20 ∷ 10 ∷ [])
    -- size: x1 is (2,3), D is 13, and the farthest vertex is 2 away: 0.25² · 13 is less, 0.5² · 13 is not
    ∷ trial_after 2ᶠ 8ᶠ (Some (Size (bits ¼))) (30 ∷ 20 ∷ 10 ∷ [])
    ∷ trial_after 2ᶠ 8ᶠ (Some (Size (bits ½))) (30 ∷ 20 ∷ 10 ∷ [])
    -- x1 is (0,1), q is 1, so D is 1: 1.25² is less than 2, 1.5² is not
    ∷ trial_after 0ᶠ 8ᶠ (Some (Size (bits 1¼))) (30 ∷ 20 ∷ 10 ∷ [])
    ∷ trial_after 0ᶠ 8ᶠ (Some (Size (bits 1½))) (30 ∷ 20 ∷ 10 ∷ [])
    -- the program's example: with n = 1 the second row is never met
    ∷ next program_search ∷ next (after_costs program_search (4 ∷ [])) ∷ next (after_costs program_search (4 ∷ 6 ∷ [])) ∷ next (after_costs program_search (4 ∷ 6 ∷ 4 ∷ []))
    ∷ []

-- what document 01 says of each case of `cases_given`, in its order
unfoldable pub cases_stated : List Shows
cases_stated =
    asks 0x4008_0000_0000_0000 0x4008_0000_0000_0000
    ∷ asks 𝟏 0x4000_0000_0000_0000
    ∷ asks 0 0x3ffc_0000_0000_0000
    ∷ asks ¼ 0x3ff6_0000_0000_0000
    ∷ asks 0x3fb9_9999_9999_999a 0x3fe5_5555_5555_5555 ∷ asks 0x3fb9_9999_9999_9999 0x3ff0_0000_0000_0000
    ∷ asks 0x4000_0200_0000_0000 0x4000_0000_0000_0000
    ∷ asks 0x3fff_fc00_0000_0000 0x4000_0000_0000_0000
    ∷ asks 0x4000_0000_0000_0000 0x4000_0200_0000_0000
    ∷ asks 0x4008_0000_0000_0000 0x4000_0200_0000_0000
    ∷ asks 0x4000_0000_0000_0000 0x4008_0200_0000_0000
    ∷ asks 0x4008_0000_0000_0000 0x4008_0000_0000_0000
    ∷ asks 0x4000_0000_0000_0000 0x4010_0000_0000_0000
    ∷ asks 0x4000_0200_0000_0000 0x4008_0000_0000_0000
    ∷ asks 𝟏 𝟏 ∷ asks 0x3f50_0000_0000_0000 𝟏
    ∷ asks 0x4008_0000_0000_0000 0x4008_0000_0000_0000
    ∷ asks 0x4000_0200_0000_0000 0x4008_0000_0000_0000
    ∷ asks 𝟏 𝟏
    ∷ asks 0x3f50_0000_0000_0000 𝟏
    ∷ asks 0 0 ∷ asks 𝟏 0 ∷ asks 0xbff0_0000_0000_0000 0 ∷ asks 0xbfe0_0000_0000_0000 0
    ∷ []

-- ---- openings

-- the verdict on two axis records with the usual coefficients and budget 100
abbrev pub verdict_on : Axis → Axis → Option Rule → Verdict
verdict_on x y rule = open_verdict NelderMead 2 (two_axes x y) rule usual 100

-- the verdict on the opening of `case_search`, with budget 100
abbrev pub case_verdict : Float → Float → Option Rule → Verdict
case_verdict start hi rule = verdict_on (case_axis start hi) (case_axis start hi) rule

-- the verdicts that the rules give on the openings of the worked cases
unfoldable pub openings_given : List Verdict
openings_given =
    -- P1 and P12, and the cases above
    open_verdict NelderMead 2 (two_axes (example_axis 8ᶠ) (example_axis 8ᶠ)) (Some (Spread 4)) usual 100
    ∷ open_verdict NelderMead 2 (two_axes (example_axis (bits 1¼)) (example_axis (bits 1¼))) (Some (Spread 4)) usual 100
    ∷ case_verdict 2ᶠ 8ᶠ None ∷ case_verdict 2ᶠ (bits 0x4004_0000_0000_0000) None ∷ case_verdict 1ᶠ (bits 0x3ffc_0000_0000_0000) None
    ∷ open_verdict NelderMead 3 three_axes None usual 100
    ∷ case_verdict 2ᶠ 8ᶠ (Some (Moved farthest)) ∷ case_verdict 2ᶠ 8ᶠ (Some (Moved 1ᶠ)) ∷ case_verdict 2ᶠ 8ᶠ (Some (Moved (bits 0x3ff0_0000_0000_0001)))
    ∷ case_verdict 2ᶠ 8ᶠ (Some (Size (bits ¼))) ∷ case_verdict 2ᶠ 8ᶠ (Some (Size (bits ½)))
    ∷ case_verdict 0ᶠ 8ᶠ (Some (Size (bits 1¼))) ∷ case_verdict 0ᶠ 8ᶠ (Some (Size (bits 1½)))
    ∷ open_verdict NelderMead 1 one_axis (Some (Spread 1)) usual 4
    ∷ []

-- they are not refused
unfoldable pub openings_stated : List Verdict
openings_stated = replicate 14 (Ok tt)
