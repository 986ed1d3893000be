-- Worked cases of the stopping rules: each kind of piece at which a rule is met, and each rule at its edge and beside it. The next trial shows
-- whether a probe round began.
use Rattle.std.specs.Prelude.{List, [], ◌∷◌, ℕ, replicate, Option, Some, None}
use Rattle.rules.specs.Binary64.{2ᶠ, 8ᶠ}
use Rattle.rules.specs.Numbers.{usual}
use Rattle.rules.specs.Opening.{zero_axis}
use Rattle.rules.specs.Examples.{example_axis, Shows, asks, after_costs, next}
use Rattle.rules.specs.Cases.{bits, case_axis, two_axes}
use Rattle.rules.specs.Walks.{axis_at, odd_coefficients, begun}
use Rattle.rules.specs.declared.Method.TheVariants.{NelderMead}
use Rattle.rules.specs.declared.Axis.{Axis}
use Rattle.rules.specs.declared.Opening.{Opening}
use Rattle.rules.specs.declared.Rule.{Rule}
use Rattle.rules.specs.declared.Rule.TheVariants.{Spread, Moved, Size}

-- two axes like those of document 01's examples, and another rule
abbrev pub even : Option Rule → Opening
even rule = record { method = NelderMead; n = 2; axes = two_axes (example_axis 8ᶠ) (example_axis 8ᶠ); rule = rule; coefficients = usual; budget = 100 }

-- three of them, and spread e
abbrev pub three : ℕ → Opening
three e = record { method = NelderMead; n = 3; axes = replicate 8 (example_axis 8ᶠ); rule = Some (Spread e); coefficients = usual; budget = 100 }

-- two axes from −8 to 8, started at 2, and moved with the E of these bits
abbrev pub from_2 : ℕ → Opening
from_2 e = record { method = NelderMead; n = 2; axes = two_axes (case_axis 2ᶠ 8ᶠ) (case_axis 2ᶠ 8ᶠ); rule = Some (Moved (bits e)); coefficients = usual; budget = 100 }

-- three axes started at (0, 2, 0.8) with the steps 1.7, 0.1 and 0.9, σ 0.6, and moved with the E of these bits
abbrev pub inexact : ℕ → Opening
inexact e =
    record {
      method = NelderMead;
      n = 3;
      axes = axis_at 0xc020_0000_0000_0000 0x4020_0000_0000_0000 0 0x3ffb_3333_3333_3333
          ∷ axis_at 0xc020_0000_0000_0000 0x4020_0000_0000_0000 0x4000_0000_0000_0000 0x3fb9_9999_9999_999a
          ∷ axis_at 0xc020_0000_0000_0000 0x4020_0000_0000_0000 0x3fe9_9999_9999_999a 0x3fec_cccc_cccc_cccd ∷ replicate 5 zero_axis;
      rule = Some (Moved (bits e));
      coefficients = odd_coefficients;
      budget = 100;
    }

-- two axes and size with the E of these bits
abbrev pub sized : Axis → Axis → ℕ → Opening
sized x y e = record { method = NelderMead; n = 2; axes = two_axes x y; rule = Some (Size (bits e)); coefficients = usual; budget = 100 }

-- started at (2, 1) with the steps 1 and 0.75
abbrev pub uneven : ℕ → Opening
uneven = sized (axis_at 0xc020_0000_0000_0000 0x4020_0000_0000_0000 0x4000_0000_0000_0000 0x3ff0_0000_0000_0000)
    (axis_at 0xc020_0000_0000_0000 0x4020_0000_0000_0000 0x3ff0_0000_0000_0000 0x3fe8_0000_0000_0000)

-- started at (−2.8, −3) with the steps 0.9 and 1.8
abbrev pub far : ℕ → Opening
far = sized (axis_at 0xc020_0000_0000_0000 0x4020_0000_0000_0000 0xc006_6666_6666_6666 0x3fec_cccc_cccc_cccd)
    (axis_at 0xc020_0000_0000_0000 0x4020_0000_0000_0000 0xc008_0000_0000_0000 0x3ffc_cccc_cccc_cccd)

-- started at (1, 0.5) with the steps 0.5 and 0.25
abbrev pub near : ℕ → Opening
near = sized (axis_at 0xc020_0000_0000_0000 0x4020_0000_0000_0000 0x3ff0_0000_0000_0000 0x3fe0_0000_0000_0000)
    (axis_at 0xc020_0000_0000_0000 0x4020_0000_0000_0000 0x3fe0_0000_0000_0000 0x3fd0_0000_0000_0000)

-- started at (0.5, 0.5) with the steps 0.5 and 0.25
abbrev pub nearest : ℕ → Opening
nearest = sized (axis_at 0xc020_0000_0000_0000 0x4020_0000_0000_0000 0x3fe0_0000_0000_0000 0x3fe0_0000_0000_0000)
    (axis_at 0xc020_0000_0000_0000 0x4020_0000_0000_0000 0x3fe0_0000_0000_0000 0x3fd0_0000_0000_0000)

-- what the search of an opening asks for after these costs
abbrev pub then : Opening → List ℕ → Shows
then o cs = next (after_costs (begun o) cs)

-- the trials that the rules give
unfoldable pub thresholds_given : List Shows
thresholds_given =
    -- spread: three costs 10, 20, 15 come to 150 = 25·n·m after r is taken by the second row
    then (even (Some (Spread 25))) (30 ∷ 20 ∷ 10 ∷ 15 ∷ []) ∷ then (even (Some (Spread 26))) (30 ∷ 20 ∷ 10 ∷ 15 ∷ [])
    -- it is met at an expansion, at a contraction and at a shrink, and was not at the build before
    ∷ then (even (Some (Spread 59))) (30 ∷ 20 ∷ 10 ∷ 5 ∷ 5 ∷ []) ∷ then (even (Some (Spread 34))) (30 ∷ 20 ∷ 10 ∷ 20 ∷ 20 ∷ [])
    ∷ then (even (Some (Spread 2))) (30 ∷ 20 ∷ 10 ∷ 30 ∷ 30 ∷ 11 ∷ 12 ∷ [])
    -- no rule named: 10, 10, 13 come to 18, which is below 4·n·m = 24 and not below 3·n·m; 10, 12, 14 come to 24
    ∷ then (even None) (10 ∷ 10 ∷ 13 ∷ []) ∷ then (even None) (10 ∷ 12 ∷ 14 ∷ [])
    -- spread with n = 3, where n·m is 12: 10, 10, 10, 22 come to 432 = 36·n·m
    ∷ then (three 36) (10 ∷ 22 ∷ 10 ∷ 10 ∷ []) ∷ then (three 37) (10 ∷ 22 ∷ 10 ∷ 10 ∷ [])
    -- moved: e at (3.5,3.5) takes the place of (2,2), which is 4.5 = 2.25·n
    ∷ then (from_2 0x4002_0000_0000_0000) (30 ∷ 20 ∷ 10 ∷ 5 ∷ 4 ∷ []) ∷ then (from_2 0x4002_0000_0000_0001) (30 ∷ 20 ∷ 10 ∷ 5 ∷ 4 ∷ [])
    -- the outside point (2.75,2.75) takes the place of (2,2), which is 1.125 = 0.5625·n
    ∷ then (from_2 0x3fe2_0000_0000_0000) (30 ∷ 20 ∷ 10 ∷ 20 ∷ 20 ∷ []) ∷ then (from_2 0x3fe2_0000_0000_0001) (30 ∷ 20 ∷ 10 ∷ 20 ∷ 20 ∷ [])
    -- a shrink with n = 3, its vertices told highest first: the sum is E·n for the first E, and less for the next
    ∷ then (inexact 0x3fd6_9ccd_645f_4446) (10 ∷ 20 ∷ 30 ∷ 40 ∷ 15 ∷ 12 ∷ 50 ∷ 50 ∷ 35 ∷ 25 ∷ 15 ∷ [])
    ∷ then (inexact 0x3fd6_9ccd_645f_4447) (10 ∷ 20 ∷ 30 ∷ 40 ∷ 15 ∷ 12 ∷ 50 ∷ 50 ∷ 35 ∷ 25 ∷ 15 ∷ [])
    -- size, met where r is taken by the second row, at an expansion, at a contraction and at a shrink, and not before
    ∷ then (uneven 0x3fdc_0000_0000_0000) (20 ∷ 25 ∷ 5 ∷ 15 ∷ []) ∷ then (uneven 0x3fde_0000_0000_0000) (40 ∷ 15 ∷ 5 ∷ 4 ∷ 5 ∷ [])
    ∷ then (uneven 0x3fd2_0000_0000_0000) (20 ∷ 25 ∷ 15 ∷ 30 ∷ 4 ∷ []) ∷ then (uneven 0x3fd2_0000_0000_0000) (5 ∷ 5 ∷ 4 ∷ 15 ∷ 20 ∷ 4 ∷ 5 ∷ [])
    -- x1 is (−2.8,−3), D is 16.84, and place 3 is at the edge: (E·E)·D is its sum for the second E and less for the first, and place 2 is nearer
    ∷ then (far 0x3fdc_1290_d24c_fd96) (10 ∷ 20 ∷ 30 ∷ []) ∷ then (far 0x3fdc_1290_d24c_fd97) (10 ∷ 20 ∷ 30 ∷ [])
    -- the same with places 2 and 3 exchanged
    ∷ then (far 0x3fdc_1290_d24c_fd96) (10 ∷ 30 ∷ 20 ∷ [])
    -- D between 1 and 2: q is 1.25, and the farthest sum 0.25 lies between 0.4375²·1.25 and 0.46875²·1.25
    ∷ then (near 0x3fdc_0000_0000_0000) (10 ∷ 20 ∷ 30 ∷ []) ∷ then (near 0x3fde_0000_0000_0000) (10 ∷ 20 ∷ 30 ∷ [])
    -- q is 0.5, so D is 1: E just below 0.5 and 0.5 itself, whose square is the farthest sum
    ∷ then (nearest 0x3fdf_ffff_ffff_ffff) (10 ∷ 20 ∷ 30 ∷ []) ∷ then (nearest 0x3fe0_0000_0000_0000) (10 ∷ 20 ∷ 30 ∷ [])
    ∷ []

-- what document 01 says of each trial of `thresholds_given`, in its order
unfoldable pub thresholds_stated : List Shows
thresholds_stated =
    asks 0 0x4000_0000_0000_0000 ∷ asks 0x3f50_0000_0000_0000 0x3ff0_0000_0000_0000
    ∷ asks 0x3ff0_0400_0000_0000 0x3ff0_0000_0000_0000 ∷ asks 0x3f50_0000_0000_0000 0x3ff0_0000_0000_0000
    ∷ asks 0x3f50_0000_0000_0000 0x3ff0_0000_0000_0000
    ∷ asks 0x3f50_0000_0000_0000 0 ∷ asks 0x3ff0_0000_0000_0000 0xbff0_0000_0000_0000
    ∷ asks 0xbff0_0000_0000_0000 0x3fe5_5555_5555_5555 ∷ asks 0x3f50_0000_0000_0000 0
    ∷ asks 0x4004_0000_0000_0000 0x4012_0000_0000_0000 ∷ asks 0x400c_0200_0000_0000 0x400c_0000_0000_0000
    ∷ asks 0x4002_0000_0000_0000 0x4002_0000_0000_0000 ∷ asks 0x4000_0200_0000_0000 0x4008_0000_0000_0000
    ∷ asks 0x3fd1_62e0_9fe8_6834 0x4000_480c_73ab_c948 ∷ asks 0x3f5b_3333_3333_3333 0x4000_0000_0000_0000
    ∷ asks 0x4000_0200_0000_0000 0x3ffc_0000_0000_0000 ∷ asks 0x4008_0200_0000_0000 0x3ffc_0000_0000_0000
    ∷ asks 0x4004_0200_0000_0000 0x3ff3_0000_0000_0000 ∷ asks 0x4000_0200_0000_0000 0x3ffc_0000_0000_0000
    ∷ asks 0xbffe_6666_6666_6664 0xc013_3333_3333_3333 ∷ asks 0xc006_6499_9999_9999 0xc008_0000_0000_0000
    ∷ asks 0xc00d_9999_9999_9999 0xbff3_3333_3333_3334
    ∷ asks 0x3ff8_0000_0000_0000 0x3fd0_0000_0000_0000 ∷ asks 0x3ff0_0200_0000_0000 0x3fe0_0000_0000_0000
    ∷ asks 0x3ff0_0000_0000_0000 0x3fd0_0000_0000_0000 ∷ asks 0x3fe0_0400_0000_0000 0x3fe0_0000_0000_0000
    ∷ []
