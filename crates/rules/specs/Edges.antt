-- The opening's refusals, edge by edge, and the clamp: each number at the edge that the table gives it and at the next float or whole number, by
-- bits and not by the names that the definitions use; and openings that are bad in two ways.
use Rattle.std.specs.Prelude.{false, cond, List, [], ◌∷◌, ◌++◌, ℕ, replicate, Some, None, Ok, Err}
use Rattle.std.specs.Float.{binary64, nan}
use Rattle.std.specs.Float.Ieee.{to_bits}
use Rattle.rules.specs.Binary64.{clamp, clamp_changes, clamp_changes}
use Rattle.rules.specs.Numbers.{usual}
use Rattle.rules.specs.Refusals.{Verdict}
use Rattle.rules.specs.Opening.{open_verdict}
use Rattle.rules.specs.Cases.{bits, two_axes, verdict_on}
use Rattle.rules.specs.Walks.{axis_at, coefficients_at, judged, odd, wide, zeros, rounds}
use Rattle.rules.specs.Thresholds.{even, three, from_2, inexact, uneven, far, near, nearest}
use Rattle.rules.specs.declared.Method.TheVariants.{NelderMead}
use Rattle.rules.specs.declared.Axis.{Axis}
use Rattle.rules.specs.declared.Coefficients.{Coefficients}
use Rattle.rules.specs.declared.Rule.{Rule}
use Rattle.rules.specs.declared.Rule.TheVariants.{Spread, Moved, Size}
use Rattle.rules.specs.declared.Refusal.TheVariants.{AxisCount, OutOfRange, BadLimits, BadStep, BadCoefficient, BadThreshold, BadBudget}

-- an axis from −8 to 8 that starts at 0 with step 1
abbrev pub good_axis : Axis
good_axis = axis_at 0xc020_0000_0000_0000 0x4020_0000_0000_0000 0 0x3ff0_0000_0000_0000

-- one whose step is too large
abbrev pub leaping_axis : Axis
leaping_axis = axis_at 0xc020_0000_0000_0000 0x4020_0000_0000_0000 0 0x4130_0000_0000_0000

-- the usual coefficients but for χ, which is 1
abbrev pub bad_coefficients : Coefficients
bad_coefficients = coefficients_at 0x3ff0_0000_0000_0000 0x3ff0_0000_0000_0000 0x3fe0_0000_0000_0000 0x3fe0_0000_0000_0000

-- an axis record of NaNs
abbrev pub nan_axis : Axis
nan_axis = record { lo = nan; hi = nan; start = nan; step = nan; ring = false }

-- eight good records
abbrev pub good : List Axis
good = replicate 8 good_axis

-- seven good ones, and one whose limits are equal
abbrev pub eighth_bad : List Axis
eighth_bad = replicate 7 good_axis ++ axis_at 0 0 0 0 ∷ []

-- the verdict on n axes with these records
abbrev pub by_n : ℕ → List Axis → Verdict
by_n n axes = open_verdict NelderMead n axes None usual 100

-- the verdict on a good axis and a second one of these numbers, by their bits
abbrev pub second : ℕ → ℕ → ℕ → ℕ → Verdict
second lo hi start step = verdict_on good_axis (axis_at lo hi start step) None

-- the verdict on a first axis of these numbers and a good one
abbrev pub first : ℕ → ℕ → ℕ → ℕ → Verdict
first lo hi start step = verdict_on (axis_at lo hi start step) good_axis None

-- the verdict on two good axes with α, χ, β and σ of these bits
abbrev pub by_coefficients : ℕ → ℕ → ℕ → ℕ → Verdict
by_coefficients alpha chi beta sigma = open_verdict NelderMead 2 good None (coefficients_at alpha chi beta sigma) 100

-- the verdict on two good axes with this rule
abbrev pub by_rule : Rule → Verdict
by_rule rule = open_verdict NelderMead 2 good (Some rule) usual 100

-- the verdict on n good axes with this budget
abbrev pub by_budget : ℕ → ℕ → Verdict
by_budget n budget = open_verdict NelderMead n good None usual budget

-- the verdicts that the rules give
unfoldable pub edges_given : List Verdict
edges_given =
    -- n: 0, 1, 8 and 9, all eight records being good; with the eighth bad it is refused where n is 8, and not read where n is 7
    by_n 0 good ∷ by_n 1 good ∷ by_n 8 good ∷ by_n 9 good ∷ by_n 8 eighth_bad ∷ by_n 7 eighth_bad
    -- 2, lo: −1,048,576 and the float below; 1,048,576, which only 3 refuses, and the float above; a NaN
    ∷ second 0xc130_0000_0000_0000 0x4020_0000_0000_0000 0 0x3ff0_0000_0000_0000
    ∷ second 0xc130_0000_0000_0001 0x4020_0000_0000_0000 0 0x3ff0_0000_0000_0000
    ∷ second 0x4130_0000_0000_0000 0x4020_0000_0000_0000 0 0x3ff0_0000_0000_0000
    ∷ second 0x4130_0000_0000_0001 0x4020_0000_0000_0000 0 0x3ff0_0000_0000_0000
    ∷ second 0x7ff8_0000_0000_0000 0x4020_0000_0000_0000 0 0x3ff0_0000_0000_0000
    -- 2, hi: the same, and infinity
    ∷ second 0xc020_0000_0000_0000 0x4130_0000_0000_0000 0 0x3ff0_0000_0000_0000
    ∷ second 0xc020_0000_0000_0000 0x4130_0000_0000_0001 0 0x3ff0_0000_0000_0000
    ∷ second 0xc020_0000_0000_0000 0xc130_0000_0000_0000 0 0x3ff0_0000_0000_0000
    ∷ second 0xc020_0000_0000_0000 0xc130_0000_0000_0001 0 0x3ff0_0000_0000_0000
    ∷ second 0xc020_0000_0000_0000 0x7ff8_0000_0000_0000 0 0x3ff0_0000_0000_0000
    ∷ second 0xc020_0000_0000_0000 0x7ff0_0000_0000_0000 0 0x3ff0_0000_0000_0000
    -- 2, start: the same at both ends
    ∷ second 0xc130_0000_0000_0000 0x4130_0000_0000_0000 0xc130_0000_0000_0000 0x3ff0_0000_0000_0000
    ∷ second 0xc130_0000_0000_0000 0x4130_0000_0000_0000 0xc130_0000_0000_0001 0x3ff0_0000_0000_0000
    ∷ second 0xc130_0000_0000_0000 0x4130_0000_0000_0000 0x4130_0000_0000_0000 0x3ff0_0000_0000_0000
    ∷ second 0xc130_0000_0000_0000 0x4130_0000_0000_0000 0x4130_0000_0000_0001 0x3ff0_0000_0000_0000
    ∷ second 0xc130_0000_0000_0000 0x4130_0000_0000_0000 0x7ff8_0000_0000_0000 0x3ff0_0000_0000_0000
    -- 2, step: 1,048,576 is half of the widest range
    ∷ second 0xc130_0000_0000_0000 0x4130_0000_0000_0000 0 0x4130_0000_0000_0000
    ∷ second 0xc130_0000_0000_0000 0x4130_0000_0000_0000 0 0x4130_0000_0000_0001
    ∷ second 0xc130_0000_0000_0000 0x4130_0000_0000_0000 0 0xc130_0000_0000_0000
    ∷ second 0xc130_0000_0000_0000 0x4130_0000_0000_0000 0 0xc130_0000_0000_0001
    ∷ second 0xc130_0000_0000_0000 0x4130_0000_0000_0000 0 0x7ff8_0000_0000_0000
    -- 3: lo is hi; −0.0 is not below 0.0; hi is the float after lo, which only 4 refuses
    ∷ second 0x3ff0_0000_0000_0000 0x3ff0_0000_0000_0000 0x3ff0_0000_0000_0000 0x3ff0_0000_0000_0000
    ∷ second 0x8000_0000_0000_0000 0 0 0x3ff0_0000_0000_0000
    ∷ second 0x3ff0_0000_0000_0000 0x3ff0_0000_0000_0001 0x3ff0_0000_0000_0000 0x3ca0_0000_0000_0000
    -- 3: start at lo and at hi, and the float past each
    ∷ second 0xc020_0000_0000_0000 0x4020_0000_0000_0000 0xc020_0000_0000_0000 0x3ff0_0000_0000_0000
    ∷ second 0xc020_0000_0000_0000 0x4020_0000_0000_0000 0xc020_0000_0000_0001 0x3ff0_0000_0000_0000
    ∷ second 0xc020_0000_0000_0000 0x4020_0000_0000_0000 0x4020_0000_0000_0000 0x3ff0_0000_0000_0000
    ∷ second 0xc020_0000_0000_0000 0x4020_0000_0000_0000 0x4020_0000_0000_0001 0x3ff0_0000_0000_0000
    -- 3: step 0, −0.0 and the least float above
    ∷ second 0xc020_0000_0000_0000 0x4020_0000_0000_0000 0 0 ∷ second 0xc020_0000_0000_0000 0x4020_0000_0000_0000 0 0x8000_0000_0000_0000
    ∷ second 0xc020_0000_0000_0000 0x4020_0000_0000_0000 0 1
    -- 4: half of hi − lo, and the float after it
    ∷ second 0xc020_0000_0000_0000 0x4020_0000_0000_0000 0 0x4020_0000_0000_0000
    ∷ second 0xc020_0000_0000_0000 0x4020_0000_0000_0000 0 0x4020_0000_0000_0001
    -- 4: the difference is divided and the step is not doubled: half of three least floats is rounded to two
    ∷ second 0 3 0 2 ∷ second 0 3 0 3
    -- 4: 4 + 2⁻⁵¹ is rounded to 4, where 4 − 2⁻⁵¹ is not, and the next step moves it; 0 + 2⁻⁶⁰ is another number, where −8 + 2⁻⁶⁰ is −8
    ∷ second 0xc020_0000_0000_0000 0x4020_0000_0000_0000 0x4010_0000_0000_0000 0x3cc0_0000_0000_0000
    ∷ second 0xc020_0000_0000_0000 0x4020_0000_0000_0000 0x4010_0000_0000_0000 0x3cc0_0000_0000_0001
    ∷ second 0xc020_0000_0000_0000 0x4020_0000_0000_0000 0 0x3c30_0000_0000_0000
    -- 5, α: 0, −0.0 and the least float above; 4 and the float after it; a NaN
    ∷ by_coefficients 0 0x4020_0000_0000_0000 0x3fe0_0000_0000_0000 0x3fe0_0000_0000_0000
    ∷ by_coefficients 0x8000_0000_0000_0000 0x4020_0000_0000_0000 0x3fe0_0000_0000_0000 0x3fe0_0000_0000_0000
    ∷ by_coefficients 1 0x4020_0000_0000_0000 0x3fe0_0000_0000_0000 0x3fe0_0000_0000_0000
    ∷ by_coefficients 0x4010_0000_0000_0000 0x4020_0000_0000_0000 0x3fe0_0000_0000_0000 0x3fe0_0000_0000_0000
    ∷ by_coefficients 0x4010_0000_0000_0001 0x4020_0000_0000_0000 0x3fe0_0000_0000_0000 0x3fe0_0000_0000_0000
    ∷ by_coefficients 0x7ff8_0000_0000_0000 0x4020_0000_0000_0000 0x3fe0_0000_0000_0000 0x3fe0_0000_0000_0000
    -- 5, χ: 1 and the float after it, α being 1/2; 2 and the float after it, α being 2; 1.5 below α; 8 and the float after it; a NaN
    ∷ by_coefficients 0x3fe0_0000_0000_0000 0x3ff0_0000_0000_0000 0x3fe0_0000_0000_0000 0x3fe0_0000_0000_0000
    ∷ by_coefficients 0x3fe0_0000_0000_0000 0x3ff0_0000_0000_0001 0x3fe0_0000_0000_0000 0x3fe0_0000_0000_0000
    ∷ by_coefficients 0x4000_0000_0000_0000 0x4000_0000_0000_0000 0x3fe0_0000_0000_0000 0x3fe0_0000_0000_0000
    ∷ by_coefficients 0x4000_0000_0000_0000 0x4000_0000_0000_0001 0x3fe0_0000_0000_0000 0x3fe0_0000_0000_0000
    ∷ by_coefficients 0x4000_0000_0000_0000 0x3ff8_0000_0000_0000 0x3fe0_0000_0000_0000 0x3fe0_0000_0000_0000
    ∷ by_coefficients 0x3fe0_0000_0000_0000 0x4020_0000_0000_0000 0x3fe0_0000_0000_0000 0x3fe0_0000_0000_0000
    ∷ by_coefficients 0x3fe0_0000_0000_0000 0x4020_0000_0000_0001 0x3fe0_0000_0000_0000 0x3fe0_0000_0000_0000
    ∷ by_coefficients 0x3fe0_0000_0000_0000 0x7ff8_0000_0000_0000 0x3fe0_0000_0000_0000 0x3fe0_0000_0000_0000
    -- 5, β: 0 and the least float above; 1 and the float before it; a NaN
    ∷ by_coefficients 0x3fe0_0000_0000_0000 0x4000_0000_0000_0000 0 0x3fe0_0000_0000_0000
    ∷ by_coefficients 0x3fe0_0000_0000_0000 0x4000_0000_0000_0000 1 0x3fe0_0000_0000_0000
    ∷ by_coefficients 0x3fe0_0000_0000_0000 0x4000_0000_0000_0000 0x3ff0_0000_0000_0000 0x3fe0_0000_0000_0000
    ∷ by_coefficients 0x3fe0_0000_0000_0000 0x4000_0000_0000_0000 0x3fef_ffff_ffff_ffff 0x3fe0_0000_0000_0000
    ∷ by_coefficients 0x3fe0_0000_0000_0000 0x4000_0000_0000_0000 0x7ff8_0000_0000_0000 0x3fe0_0000_0000_0000
    -- 5, σ: the same
    ∷ by_coefficients 0x3fe0_0000_0000_0000 0x4000_0000_0000_0000 0x3fe0_0000_0000_0000 0
    ∷ by_coefficients 0x3fe0_0000_0000_0000 0x4000_0000_0000_0000 0x3fe0_0000_0000_0000 1
    ∷ by_coefficients 0x3fe0_0000_0000_0000 0x4000_0000_0000_0000 0x3fe0_0000_0000_0000 0x3ff0_0000_0000_0000
    ∷ by_coefficients 0x3fe0_0000_0000_0000 0x4000_0000_0000_0000 0x3fe0_0000_0000_0000 0x3fef_ffff_ffff_ffff
    ∷ by_coefficients 0x3fe0_0000_0000_0000 0x4000_0000_0000_0000 0x3fe0_0000_0000_0000 0x7ff8_0000_0000_0000
    -- 6, spread: 0, 1, the largest E and one more
    ∷ by_rule (Spread 0) ∷ by_rule (Spread 1) ∷ by_rule (Spread 4294967295) ∷ by_rule (Spread 4294967296)
    -- 6, moved: 0, −0.0 and the least float above; 1,048,576 and the float after it; a NaN
    ∷ by_rule (Moved (bits 0)) ∷ by_rule (Moved (bits 0x8000_0000_0000_0000)) ∷ by_rule (Moved (bits 1))
    ∷ by_rule (Moved (bits 0x4130_0000_0000_0000)) ∷ by_rule (Moved (bits 0x4130_0000_0000_0001)) ∷ by_rule (Moved (bits 0x7ff8_0000_0000_0000))
    -- 6, size: the same
    ∷ by_rule (Size (bits 0)) ∷ by_rule (Size (bits 0x8000_0000_0000_0000)) ∷ by_rule (Size (bits 1)) ∷ by_rule (Size (bits 0x4130_0000_0000_0000))
    ∷ by_rule (Size (bits 0x4130_0000_0000_0001)) ∷ by_rule (Size (bits 0x7ff8_0000_0000_0000))
    -- 7: n and n + 1, with two axes and with eight; 1,000,000 and one more
    ∷ by_budget 2 2 ∷ by_budget 2 3 ∷ by_budget 8 8 ∷ by_budget 8 9 ∷ by_budget 2 1000000 ∷ by_budget 2 1000001
    -- bad in two ways: 1 and 2; 2 and 3, at one axis; 3 and 4, at one axis; 4 on axis 1 and 2 on axis 2; 3 on axis 1 and 2 on axis 2
    ∷ by_n 9 (replicate 8 nan_axis) ∷ first 0xc020_0000_0000_0000 0x4020_0000_0000_0000 0x7ff8_0000_0000_0000 0
    ∷ first 0xc020_0000_0000_0000 0x4020_0000_0000_0000 0x3ff0_0000_0000_0000 0
    ∷ verdict_on leaping_axis nan_axis None
    ∷ verdict_on (axis_at 0xc020_0000_0000_0000 0xc020_0000_0000_0000 0xc020_0000_0000_0000 0x3ff0_0000_0000_0000) nan_axis None
    -- 4 on the last axis and 5; 5 and 6; 6 and 7
    ∷ open_verdict NelderMead 2 (two_axes good_axis leaping_axis) None bad_coefficients 100
    ∷ open_verdict NelderMead 2 good (Some (Spread 0)) bad_coefficients 100
    ∷ open_verdict NelderMead 2 good (Some (Spread 0)) usual 2
    ∷ []

-- what document 01 says of each, in this order
unfoldable pub edges_stated : List Verdict
edges_stated =
    Err AxisCount ∷ Ok tt ∷ Ok tt ∷ Err AxisCount ∷ Err (BadLimits 8) ∷ Ok tt
    ∷ Ok tt ∷ Err (OutOfRange 2) ∷ Err (BadLimits 2) ∷ Err (OutOfRange 2) ∷ Err (OutOfRange 2)
    ∷ Ok tt ∷ Err (OutOfRange 2) ∷ Err (BadLimits 2) ∷ Err (OutOfRange 2) ∷ Err (OutOfRange 2) ∷ Err (OutOfRange 2)
    ∷ Ok tt ∷ Err (OutOfRange 2) ∷ Ok tt ∷ Err (OutOfRange 2) ∷ Err (OutOfRange 2)
    ∷ Ok tt ∷ Err (OutOfRange 2) ∷ Err (BadLimits 2) ∷ Err (OutOfRange 2) ∷ Err (OutOfRange 2)
    ∷ Err (BadLimits 2) ∷ Err (BadLimits 2) ∷ Err (BadStep 2)
    ∷ Ok tt ∷ Err (BadLimits 2) ∷ Ok tt ∷ Err (BadLimits 2)
    ∷ Err (BadLimits 2) ∷ Err (BadLimits 2) ∷ Ok tt
    ∷ Ok tt ∷ Err (BadStep 2)
    ∷ Ok tt ∷ Err (BadStep 2)
    ∷ Err (BadStep 2) ∷ Ok tt ∷ Ok tt
    ∷ Err BadCoefficient ∷ Err BadCoefficient ∷ Ok tt ∷ Ok tt ∷ Err BadCoefficient ∷ Err BadCoefficient
    ∷ Err BadCoefficient ∷ Ok tt ∷ Err BadCoefficient ∷ Ok tt ∷ Err BadCoefficient ∷ Ok tt ∷ Err BadCoefficient ∷ Err BadCoefficient
    ∷ Err BadCoefficient ∷ Ok tt ∷ Err BadCoefficient ∷ Ok tt ∷ Err BadCoefficient
    ∷ Err BadCoefficient ∷ Ok tt ∷ Err BadCoefficient ∷ Ok tt ∷ Err BadCoefficient
    ∷ Err BadThreshold ∷ Ok tt ∷ Ok tt ∷ Err BadThreshold
    ∷ Err BadThreshold ∷ Err BadThreshold ∷ Ok tt ∷ Ok tt ∷ Err BadThreshold ∷ Err BadThreshold
    ∷ Err BadThreshold ∷ Err BadThreshold ∷ Ok tt ∷ Ok tt ∷ Err BadThreshold ∷ Err BadThreshold
    ∷ Err BadBudget ∷ Ok tt ∷ Err BadBudget ∷ Ok tt ∷ Ok tt ∷ Err BadBudget
    ∷ Err AxisCount ∷ Err (OutOfRange 1) ∷ Err (BadLimits 1) ∷ Err (BadStep 1) ∷ Err (BadLimits 1)
    ∷ Err (BadStep 2) ∷ Err BadCoefficient ∷ Err BadThreshold
    ∷ []

-- the openings of the worked searches of `Walks` and `Thresholds`
unfoldable pub opened_given : List Verdict
opened_given =
    judged odd ∷ judged wide ∷ judged zeros ∷ judged rounds ∷ judged (even None) ∷ judged (even (Some (Spread 2))) ∷ judged (three 36)
    ∷ judged (from_2 0x3fe2_0000_0000_0000) ∷ judged (inexact 0x3fd6_9ccd_645f_4446) ∷ judged (uneven 0x3fd2_0000_0000_0000)
    ∷ judged (far 0x3fdc_1290_d24c_fd96) ∷ judged (near 0x3fdc_0000_0000_0000) ∷ judged (nearest 0x3fdf_ffff_ffff_ffff)
    ∷ []

-- they are not refused
unfoldable pub opened_stated : List Verdict
opened_stated = replicate 13 (Ok tt)

-- the clamp of v to lo and hi, all by their bits, and 1 where it changes v
abbrev pub clamp_at : ℕ → ℕ → ℕ → List ℕ
clamp_at lo hi v = to_bits binary64 (clamp (bits lo) (bits hi) (bits v)) ∷ cond (clamp_changes (bits lo) (bits hi) (bits v)) 1 0 ∷ []

-- clamps by the rules
unfoldable pub clamps_given : List (List ℕ)
clamps_given =
    -- between 1 and 2: 1 and 2 themselves, the floats past each, and a NaN, which is lo
    clamp_at 0x3ff0_0000_0000_0000 0x4000_0000_0000_0000 0x3ff0_0000_0000_0000
    ∷ clamp_at 0x3ff0_0000_0000_0000 0x4000_0000_0000_0000 0x4000_0000_0000_0000
    ∷ clamp_at 0x3ff0_0000_0000_0000 0x4000_0000_0000_0000 0x3fef_ffff_ffff_ffff
    ∷ clamp_at 0x3ff0_0000_0000_0000 0x4000_0000_0000_0000 0x4000_0000_0000_0001
    ∷ clamp_at 0x3ff0_0000_0000_0000 0x4000_0000_0000_0000 0x7ff8_0000_0000_0000
    -- a zero keeps its sign at either limit, though −0.0 equals 0.0
    ∷ clamp_at 0 0x3ff0_0000_0000_0000 0x8000_0000_0000_0000 ∷ clamp_at 0x8000_0000_0000_0000 0x3ff0_0000_0000_0000 0
    ∷ clamp_at 0xc020_0000_0000_0000 0 0x8000_0000_0000_0000 ∷ clamp_at 0xc020_0000_0000_0000 0x8000_0000_0000_0000 0
    -- 2 and 1, the wrong way round: lo comes first, a v on lo is above hi; and a NaN at either end, which no v meets
    ∷ clamp_at 0x4000_0000_0000_0000 0x3ff0_0000_0000_0000 0x3ff8_0000_0000_0000
    ∷ clamp_at 0x4000_0000_0000_0000 0x3ff0_0000_0000_0000 0x4000_0000_0000_0000
    ∷ clamp_at 0x7ff8_0000_0000_0000 0x4000_0000_0000_0000 0x3ff0_0000_0000_0000
    ∷ clamp_at 0x3ff0_0000_0000_0000 0x7ff8_0000_0000_0000 0x3ff0_0000_0000_0000
    ∷ clamp_at 0x7ff8_0000_0000_0000 0x7ff8_0000_0000_0000 0x7ff8_0000_0000_0000
    ∷ []

-- what document 01 says of each, in this order
unfoldable pub clamps_stated : List (List ℕ)
clamps_stated =
    (0x3ff0_0000_0000_0000 ∷ 0 ∷ []) ∷ (0x4000_0000_0000_0000 ∷ 0 ∷ []) ∷ (0x3ff0_0000_0000_0000 ∷ 1 ∷ []) ∷ (0x4000_0000_0000_0000 ∷ 1 ∷ [])
    ∷ (0x3ff0_0000_0000_0000 ∷ 1 ∷ [])
    ∷ (0x8000_0000_0000_0000 ∷ 0 ∷ []) ∷ (0 ∷ 0 ∷ []) ∷ (0x8000_0000_0000_0000 ∷ 0 ∷ []) ∷ (0 ∷ 0 ∷ [])
    ∷ (0x4000_0000_0000_0000 ∷ 1 ∷ []) ∷ (0x3ff0_0000_0000_0000 ∷ 1 ∷ []) ∷ (0x7ff8_0000_0000_0000 ∷ 1 ∷ []) ∷ (0x7ff8_0000_0000_0000 ∷ 1 ∷ [])
    ∷ (0x7ff8_0000_0000_0000 ∷ 1 ∷ [])
    ∷ []
