-- Worked searches over rings, trial by trial, with their stops; and over rings of limits that no opening accepts.
use Rattle.std.specs.Prelude.{true, List, [], ◌∷◌, ℕ, replicate, Some, Ok}
use Rattle.rules.specs.Refusals.{Verdict}
use Rattle.rules.specs.Opening.{zero_axis}
use Rattle.rules.specs.Numbers.{usual}
use Rattle.rules.specs.Examples.{after_costs}
use Rattle.rules.specs.Cases.{bits, two_axes}
use Rattle.rules.specs.Walks.{axis_at, coefficients_at, judged, begun, walk_by, odd_coefficients}
use Rattle.rules.specs.Causes.{with_phase}
use Rattle.rules.specs.Stops.{asked_counted, limits, over}
use Rattle.rules.specs.declared.Method.TheVariants.{NelderMead}
use Rattle.rules.specs.declared.Axis.{Axis}
use Rattle.rules.specs.declared.Opening.{Opening}
use Rattle.rules.specs.declared.Rule.{Rule}
use Rattle.rules.specs.declared.Rule.TheVariants.{Spread, Moved, Size}
use Rattle.rules.specs.declared.Phase.TheVariants.{Probing}
use Rattle.rules.specs.Rings.{ring_at}

-- axis 1 is a ring from −0.6 to 1.8, start 1.7, step 1.1; axis 2 goes from −1 to 0.6, start 0.3, step 0.8
abbrev pub rotator : Opening
rotator =
    record {
      method = NelderMead;
      n = 2;
      axes = two_axes (ring_at 0xbfe3_3333_3333_3333 0x3ffc_cccc_cccc_cccd 0x3ffb_3333_3333_3333 0x3ff1_9999_9999_999a)
          (axis_at 0xbff0_0000_0000_0000 0x3fe3_3333_3333_3333 0x3fd3_3333_3333_3333 0x3fe9_9999_9999_999a);
      rule = Some (Spread 1);
      coefficients = odd_coefficients;
      budget = 100;
    }

-- the costs told to it
abbrev pub rotator_costs : List ℕ
rotator_costs = 37 ∷ 17 ∷ 38 ∷ 19 ∷ 3 ∷ 10 ∷ 3 ∷ 14 ∷ 9 ∷ 1 ∷ 36 ∷ 38 ∷ 2 ∷ 6 ∷ []

-- its trials, each with its stops
abbrev pub rotator_trials : List (List ℕ)
rotator_trials =
    -- the build (37, 17, 38)
    (0x3ffb_3333_3333_3333 ∷ 0x3fd3_3333_3333_3333 ∷ 0 ∷ [])
    -- past hi on axis 1
    ∷ (0x3fd9_9999_9999_9998 ∷ 0x3fd3_3333_3333_3333 ∷ 0 ∷ [])
    ∷ (0x3ffb_3333_3333_3333 ∷ 0xbfe0_0000_0000_0000 ∷ 0 ∷ [])
    -- fr 19 is not below f1 17, and below fn 37: r is taken; stopped on axis 2
    ∷ (0x3fe3_0a3d_70a3_d708 ∷ 0x3fe3_3333_3333_3333 ∷ 1 ∷ [])
    -- fr 3 is below f1 17: e
    ∷ (0xbfd6_0831_26e9_78d8 ∷ 0x3fe1_c28f_5c28_f5c2 ∷ 0 ∷ [])
    -- fe 10 is not below fr: r is taken; below lo on axis 1; stopped on axis 2
    ∷ (0x3ff4_c553_2617_c1bd ∷ 0x3fe3_3333_3333_3333 ∷ 1 ∷ [])
    -- fr 3 is not below f1 3, and below fn 17: r is taken
    ∷ (0xbfd7_9f8a_0902_de01 ∷ 0x3fd3_a1ca_c083_126f ∷ 0 ∷ [])
    -- fr 14 is not below fn 3, and below fw 17: the outside point; below lo on axis 1
    ∷ (0x3ff8_37e0_8aef_b2aa ∷ 0x3fe0_b837_b4a2_339c ∷ 0 ∷ [])
    -- fc 9 is not above fr: it is taken; from an r that was brought round on axis 1
    ∷ (0x3fca_2a4b_124d_0998 ∷ 0x3fdd_55bf_f045_77d9 ∷ 0 ∷ [])
    -- fr 1 is below f1 3: e; below lo on axis 1
    ∷ (0x3ffa_68a8_0dd0_a31b ∷ 0x3fda_5840_181e_03f8 ∷ 0 ∷ [])
    -- fe 36 is not below fr: r is taken; from an r that was brought round on axis 1; past hi on axis 1
    ∷ (0x3ff0_e9b7_8fa3_cc76 ∷ 0x3fd9_3c90_b772_c876 ∷ 0 ∷ [])
    -- fr 38 is not below fw 3: the inside point; stopped on axis 2
    ∷ (0x3ff5_e656_2840_3b03 ∷ 0x3fe3_3333_3333_3333 ∷ 1 ∷ [])
    -- fc 2 is below fw: it is taken
    ∷ (0x3fd6_2c97_0fd1_8440 ∷ 0x3fdb_8ad1_35e8_195a ∷ 0 ∷ [])
    -- fr 6 is not below fw 3: the inside point; past hi on axis 1
    ∷ (0xbfdd_8a21_cebe_b6d4 ∷ 0x3fd4_f09f_9ae5_7410 ∷ 0 ∷ [])
    ∷ (0x3fe3_0fd5_8033_b0ca ∷ 0x3fdd_8435_ac34_50eb ∷ 0 ∷ [])
    ∷ []

-- axis 2 is a ring from −0.6 to 1.8 that starts at lo, step 0.7; axis 1 goes from −1 to 0.6, start 0.3, step 0.8
abbrev pub from_lo : Opening
from_lo =
    record {
      method = NelderMead;
      n = 2;
      axes = two_axes (axis_at 0xbff0_0000_0000_0000 0x3fe3_3333_3333_3333 0x3fd3_3333_3333_3333 0x3fe9_9999_9999_999a)
          (ring_at 0xbfe3_3333_3333_3333 0x3ffc_cccc_cccc_cccd 0xbfe3_3333_3333_3333 0x3fe6_6666_6666_6666);
      rule = Some (Spread 4);
      coefficients = odd_coefficients;
      budget = 100;
    }

-- the costs told to it
abbrev pub from_lo_costs : List ℕ
from_lo_costs = 30 ∷ 30 ∷ 30 ∷ 29 ∷ 28 ∷ 34 ∷ 35 ∷ 30 ∷ 33 ∷ 34 ∷ 31 ∷ 27 ∷ 34 ∷ 32 ∷ 30 ∷ 26 ∷ 33 ∷ 25 ∷ []

-- its trials, each with its stops
abbrev pub from_lo_trials : List (List ℕ)
from_lo_trials =
    -- the build (30, 30, 30)
    (0x3fd3_3333_3333_3333 ∷ 0xbfe3_3333_3333_3333 ∷ 0 ∷ [])
    ∷ (0xbfe0_0000_0000_0000 ∷ 0xbfe3_3333_3333_3333 ∷ 0 ∷ [])
    ∷ (0x3fd3_3333_3333_3333 ∷ 0x3fb9_9999_9999_9998 ∷ 0 ∷ [])
    -- the rule is met: probes (29)
    ∷ (0x3fd3_4000_0000_0000 ∷ 0xbfe3_3333_3333_3333 ∷ 0 ∷ [])
    -- a lower probe: a build around it (28, 34)
    ∷ (0xbfdf_f333_3333_3334 ∷ 0xbfe3_3333_3333_3333 ∷ 0 ∷ [])
    ∷ (0x3fd3_4000_0000_0000 ∷ 0x3fb9_9999_9999_9998 ∷ 0 ∷ [])
    -- fr 35 is not below fw 34: the inside point; below lo on axis 2
    ∷ (0xbfd8_451e_b851_eb85 ∷ 0x3ff4_f5c2_8f5c_28f6 ∷ 0 ∷ [])
    -- fc 30 is below fw: it is taken
    ∷ (0x3f95_47ae_147a_e140 ∷ 0xbfd8_f5c2_8f5c_28f6 ∷ 0 ∷ [])
    -- the rule is met: probes (33, 34, 31, 27)
    ∷ (0xbfdf_e666_6666_6667 ∷ 0xbfe3_3333_3333_3333 ∷ 0 ∷ [])
    ∷ (0xbfe0_0000_0000_0000 ∷ 0xbfe3_3333_3333_3333 ∷ 0 ∷ [])
    ∷ (0xbfdf_f333_3333_3334 ∷ 0xbfe3_2d99_9999_9999 ∷ 0 ∷ [])
    -- below lo on axis 2
    ∷ (0xbfdf_f333_3333_3334 ∷ 0x3ffc_ca00_0000_0000 ∷ 0 ∷ [])
    -- a lower probe: a build around it (34, 32)
    ∷ (0x3fd3_4000_0000_0000 ∷ 0x3ffc_ca00_0000_0000 ∷ 0 ∷ [])
    -- past hi on axis 2
    ∷ (0xbfdf_f333_3333_3334 ∷ 0x3fb9_6ccc_cccc_cce0 ∷ 0 ∷ [])
    -- fr 30 is not below f1 27, and below fn 32: r is taken; stopped on axis 1
    ∷ (0xbff0_0000_0000_0000 ∷ 0x3fd6_ad1e_b851_eb8a ∷ 1 ∷ [])
    -- fr 26 is below f1 27: e
    ∷ (0xbfed_98a3_d70a_3d70 ∷ 0x3ffc_2d53_f7ce_d916 ∷ 0 ∷ [])
    -- fe 33 is not below fr: r is taken; past hi on axis 2; stopped on axis 1
    ∷ (0xbff0_0000_0000_0000 ∷ 0xbf97_a9c7_79a6_b580 ∷ 1 ∷ [])
    -- fr 25 is below f1 26: e; past hi on axis 2
    ∷ (0xbfe0_55e7_6c8b_4396 ∷ 0x3fd8_3621_9652_bd38 ∷ 0 ∷ [])
    -- from an r that was brought round on axis 2; below lo on axis 2
    ∷ (0xbfd5_0f9e_83e4_25b1 ∷ 0x3ff8_4403_c4b0_9e97 ∷ 0 ∷ [])
    ∷ []

-- two rings: axis 1 from 0.1 to 0.7, start 0.5, step 0.25; axis 2 from −0.3 to 1.1, start 1, step 0.6; α 3.7, χ 7.9, β 0.7, σ 0.2
abbrev pub two_rings : Opening
two_rings =
    record {
      method = NelderMead;
      n = 2;
      axes = two_axes (ring_at 0x3fb9_9999_9999_999a 0x3fe6_6666_6666_6666 0x3fe0_0000_0000_0000 0x3fd0_0000_0000_0000)
          (ring_at 0xbfd3_3333_3333_3333 0x3ff1_9999_9999_999a 0x3ff0_0000_0000_0000 0x3fe3_3333_3333_3333);
      rule = Some (Spread 1);
      coefficients = coefficients_at 0x400d_9999_9999_999a 0x401f_9999_9999_999a 0x3fe6_6666_6666_6666 0x3fc9_9999_9999_999a;
      budget = 100;
    }

-- the costs told to it
abbrev pub two_rings_costs : List ℕ
two_rings_costs = 32 ∷ 38 ∷ 32 ∷ 30 ∷ 26 ∷ 30 ∷ 17 ∷ 23 ∷ 2 ∷ 17 ∷ 17 ∷ []

-- its trials, each with its stops
abbrev pub two_rings_trials : List (List ℕ)
two_rings_trials =
    -- the build (32, 38, 32)
    (0x3fe0_0000_0000_0000 ∷ 0x3ff0_0000_0000_0000 ∷ 0 ∷ [])
    -- past hi on axis 1
    ∷ (0x3fc3_3333_3333_3334 ∷ 0x3ff0_0000_0000_0000 ∷ 0 ∷ [])
    -- past hi on axis 2
    ∷ (0x3fe0_0000_0000_0000 ∷ 0x3fc9_9999_9999_9998 ∷ 0 ∷ [])
    -- fr 30 is below f1 32: e; below lo on axis 2; farther than a turn past hi on axis 1
    ∷ (0x3fb9_9999_9999_999a ∷ 0x3fe0_a3d7_0a3d_70a3 ∷ 0 ∷ [])
    -- fe 26 is below fr: e is taken; from an r that was brought round on both axes; farther than a turn below lo on axis 1
    ∷ (0x3fb9_9999_9999_999a ∷ 0xbfa0_624d_d2f1_aa50 ∷ 0 ∷ [])
    -- fr 30 is not below f1 26, and below fn 32: r is taken; below lo on axis 1; past hi on axis 2
    ∷ (0x3fc4_7ae1_47ae_1476 ∷ 0x3fc1_4120_5bc0_1a08 ∷ 0 ∷ [])
    -- fr 17 is below f1 26: e; farther than a turn below lo on both axes
    ∷ (0x3fb9_9999_9999_999a ∷ 0xbfd3_3333_3333_3333 ∷ 0 ∷ [])
    -- fe 23 is not below fr: r is taken; from an r that was brought round on both axes; below lo on axis 1; farther than a turn below lo on axis 2
    ∷ (0x3fdf_8d4f_df3b_6460 ∷ 0xbfd3_3333_3333_3333 ∷ 0 ∷ [])
    -- fr 2 is below f1 17: e; below lo on both axes
    ∷ (0x3fde_978d_4fdf_3b6e ∷ 0x3fbe_fc7a_3982_02d0 ∷ 0 ∷ [])
    -- fe 17 is not below fr: r is taken; from an r that was brought round on both axes; past hi on axis 2; farther than a turn past hi on axis 1
    ∷ (0x3fb9_9999_9999_999a ∷ 0x3fe6_73a3_65cb_3702 ∷ 0 ∷ [])
    -- fr 17 is not below fn 17, and below fw 26: the outside point; below lo on axis 2; past hi on axis 1
    ∷ (0x3fd8_d9e8_3e42_5b04 ∷ 0x3ff1_90c4_dec1_c207 ∷ 0 ∷ [])
    -- from an r that was brought round on both axes
    ∷ (0x3fd6_f1d3_ed52_7e62 ∷ 0x3fe7_bb92_11e5_dbd9 ∷ 0 ∷ [])
    ∷ []

-- one ring from 0.6 to 1.8 that starts at 1.7999, step 0.5, under spread e
abbrev pub near_hi : ℕ → Opening
near_hi e =
    record {
      method = NelderMead;
      n = 1;
      axes = ring_at 0x3fe3_3333_3333_3333 0x3ffc_cccc_cccc_cccd 0x3ffc_cc63_f141_205c 0x3fe0_0000_0000_0000 ∷ replicate 7 zero_axis;
      rule = Some (Spread e);
      coefficients = odd_coefficients;
      budget = 100;
    }

-- the costs told to it under spread 100: a probe steps over hi
abbrev pub probed_costs : List ℕ
probed_costs = 5 ∷ 6 ∷ 4 ∷ 7 ∷ []

-- its trials, each with its stops
abbrev pub probed_trials : List (List ℕ)
probed_trials =
    -- the build (5, 6)
    (0x3ffc_cc63_f141_205c ∷ 0 ∷ [])
    -- past hi
    ∷ (0x3ff1_9930_be0d_ed28 ∷ 0 ∷ [])
    -- the rule is met: probes (4); past hi
    ∷ (0x3fe3_3661_7c1b_da50 ∷ 0 ∷ [])
    -- a lower probe: a build around it (7)
    ∷ (0x3ff1_9b30_be0d_ed28 ∷ 0 ∷ [])
    -- the rule is met: a probe
    ∷ (0x3fe3_3a61_7c1b_da50 ∷ 0 ∷ [])
    ∷ []

-- those under spread 1: a shrink, x2 being more than half a turn from x1
abbrev pub drawn_costs : List ℕ
drawn_costs = 5 ∷ 9 ∷ 9 ∷ 9 ∷ 6 ∷ []

-- its trials, each with its stops
abbrev pub drawn_trials : List (List ℕ)
drawn_trials =
    -- the build (5, 9)
    (0x3ffc_cc63_f141_205c ∷ 0 ∷ [])
    -- past hi
    ∷ (0x3ff1_9930_be0d_ed28 ∷ 0 ∷ [])
    -- fr 9 is not below fw 9: the inside point; past hi
    ∷ (0x3ff1_703a_fb7e_9100 ∷ 0 ∷ [])
    -- fc 9 is not below fw: a shrink
    ∷ (0x3ff9_703a_fb7e_9100 ∷ 0 ∷ [])
    ∷ (0x3ff6_1412_05bc_01a3 ∷ 0 ∷ [])
    -- the rule is met: a probe; past hi
    ∷ (0x3fe3_3661_7c1b_da50 ∷ 0 ∷ [])
    ∷ []

-- all vertices but one stand at the float before hi on axis 1, a ring from −8 to 0.8, start there, step 2.8, and c rounds to hi; axes 2 and 3 go
-- from −8 to 8, start 0, step 1
abbrev pub high : Opening
high =
    record {
      method = NelderMead;
      n = 3;
      axes = ring_at 0xc020_0000_0000_0000 0x3fe9_9999_9999_999b 0x3fe9_9999_9999_999a 0x4006_6666_6666_6666
          ∷ axis_at 0xc020_0000_0000_0000 0x4020_0000_0000_0000 0 0x3ff0_0000_0000_0000
          ∷ axis_at 0xc020_0000_0000_0000 0x4020_0000_0000_0000 0 0x3ff0_0000_0000_0000 ∷ replicate 5 zero_axis;
      rule = Some (Spread 1);
      coefficients = odd_coefficients;
      budget = 100;
    }

-- the costs told to it
abbrev pub high_costs : List ℕ
high_costs = 5 ∷ 25 ∷ 14 ∷ 7 ∷ 4 ∷ []

-- its trials, each with its stops
abbrev pub high_trials : List (List ℕ)
high_trials =
    -- the build (5, 25, 14, 7)
    (0x3fe9_9999_9999_999a ∷ 0 ∷ 0 ∷ 0 ∷ [])
    -- past hi on axis 1
    ∷ (0xc014_cccc_cccc_ccce ∷ 0 ∷ 0 ∷ 0 ∷ [])
    ∷ (0x3fe9_9999_9999_999a ∷ 0x3ff0_0000_0000_0000 ∷ 0 ∷ 0 ∷ [])
    ∷ (0x3fe9_9999_9999_999a ∷ 0 ∷ 0x3ff0_0000_0000_0000 ∷ 0 ∷ [])
    -- fr 4 is below f1 5: e; past hi on axis 1
    ∷ (0xc00e_6666_6666_6668 ∷ 0x3fe2_2222_2222_2222 ∷ 0x3fe2_2222_2222_2222 ∷ 0 ∷ [])
    -- from an r that was brought round on axis 1
    ∷ (0xc01f_c28f_5c28_f5c3 ∷ 0x3fe8_da74_0da7_40da ∷ 0x3fe8_da74_0da7_40da ∷ 0 ∷ [])
    ∷ []

-- what the rules give, search by search
unfoldable pub ring_walks_given : List (List (List ℕ))
ring_walks_given =
    walk_by asked_counted (begun rotator) rotator_costs
    ∷ walk_by asked_counted (begun from_lo) from_lo_costs
    ∷ walk_by asked_counted (begun two_rings) two_rings_costs
    ∷ walk_by asked_counted (begun (near_hi 100)) probed_costs
    ∷ walk_by asked_counted (begun (near_hi 1)) drawn_costs
    ∷ walk_by asked_counted (begun high) high_costs
    ∷ []

-- what document 02 says of each, in this order
unfoldable pub ring_walks_stated : List (List (List ℕ))
ring_walks_stated = rotator_trials ∷ from_lo_trials ∷ two_rings_trials ∷ probed_trials ∷ drawn_trials ∷ high_trials ∷ []

-- ---- plain numbers

-- one ring from −8 to 8 that starts at 7.5, step 1, under this rule, with the usual coefficients: the build asks 7.5 and −7.5
abbrev pub across : Rule → Opening
across rule =
    record {
      method = NelderMead;
      n = 1;
      axes = ring_at 0xc020_0000_0000_0000 0x4020_0000_0000_0000 0x401e_0000_0000_0000 0x3ff0_0000_0000_0000 ∷ replicate 7 zero_axis;
      rule = Some rule;
      coefficients = usual;
      budget = 100;
    }

-- the trial that a search asks after these costs
abbrev pub asked_after : Opening → List ℕ → List ℕ
asked_after o cs = asked_counted (after_costs (begun o) cs)

-- what the rules give of c, of moved and of size, which know of no ring
unfoldable pub plain_given : List (List ℕ)
plain_given =
    -- c is hi of the ring: the outside point (fr 20 is below fw 25), and the inside point (fr 30 is not)
    asked_after high (5 ∷ 25 ∷ 14 ∷ 7 ∷ 20 ∷ []) ∷ asked_after high (5 ∷ 25 ∷ 14 ∷ 7 ∷ 30 ∷ [])
    -- moved: the outside point at −7 takes the place of 7.5, and goes 14.5, not 1.5: 210.25 is < E·1 for E just above it only
    ∷ asked_after (across (Moved (bits 0x406a_4800_0000_0000))) (10 ∷ 5 ∷ 7 ∷ 6 ∷ [])
    ∷ asked_after (across (Moved (bits 0x406a_4800_0000_0001))) (10 ∷ 5 ∷ 7 ∷ 6 ∷ [])
    -- size: 7.5 is 15 from −7.5, not 1: 225 is ≤ E²·56.25 from E 2 on
    ∷ asked_after (across (Size (bits 0x4000_0000_0000_0000))) (10 ∷ 5 ∷ []) ∷ asked_after (across (Size (bits 0x3fff_ffff_ffff_ffff))) (10 ∷ 5 ∷ [])
    ∷ []

-- what document 02 says of each, in this order: a probe where the rule is met, else r
unfoldable pub plain_stated : List (List ℕ)
plain_stated =
    (0xbfe2_8f5c_28f5_c28f ∷ 0x3fd9_d036_9d03_69d0 ∷ 0x3fd9_d036_9d03_69d0 ∷ 0 ∷ [])
    ∷ (0xbff0_0000_0000_0000 ∷ 0x3fcd_dddd_dddd_ddde ∷ 0x3fcd_dddd_dddd_ddde ∷ 0 ∷ [])
    ∷ (0xc020_0000_0000_0000 ∷ 0 ∷ [])
    ∷ (0xc01d_ff00_0000_0000 ∷ 0 ∷ [])
    ∷ (0xc01d_ff00_0000_0000 ∷ 0 ∷ []) ∷ (0xc01a_0000_0000_0000 ∷ 0 ∷ [])
    ∷ []

-- the openings of these searches
unfoldable pub ring_judged_given : List Verdict
ring_judged_given =
    judged rotator ∷ judged from_lo ∷ judged two_rings ∷ judged (near_hi 100) ∷ judged (near_hi 1) ∷ judged high
    ∷ judged (across (Moved (bits 0x406a_4800_0000_0000))) ∷ judged (across (Size (bits 0x4000_0000_0000_0000))) ∷ []

-- are not refused
unfoldable pub ring_judged_stated : List Verdict
ring_judged_stated = replicate 8 (Ok tt)

-- ---- searches that no calls make

-- a ring of these limits, with start 0 and step 1.1
abbrev pub ring_limits : ℕ → ℕ → Axis
ring_limits lo hi = record (limits lo hi) { ring = true }

-- what the rules give: the coordinates, and then the stops
unfoldable pub ring_limited_given : List (List ℕ)
ring_limited_given =
    -- a shrink outside both: the ring turns, the other stops; and the other way round
    asked_counted (over 9 (ring_limits 0 0x3ff0_0000_0000_0000) (limits 0xbfe0_0000_0000_0000 0x3fe0_0000_0000_0000))
    ∷ asked_counted (over 9 (limits 0 0x3ff0_0000_0000_0000) (ring_limits 0xbfe0_0000_0000_0000 0x3fe0_0000_0000_0000))
    -- a build along axis 1, and a probe along it, while axis 2, a ring that they leave alone, is turned
    ∷ asked_counted (over 1 (limits 0 0x4010_0000_0000_0000) (ring_limits 0x3fe0_0000_0000_0000 0x3fe3_3333_3333_3333))
    ∷ asked_counted (with_phase (Probing 0) (over 3 (ring_limits 0xc020_0000_0000_0000 0x4020_0000_0000_0000) (ring_limits 0 0x3fe0_0000_0000_0000)))
    -- a build steps over hi of the ring, and is brought round; along the other axis it steps back, and is clamped to lo
    ∷ asked_counted (over 1 (ring_limits 0 0x3ff8_0000_0000_0000) (limits 0 0x3ff0_0000_0000_0000))
    ∷ asked_counted (over 2 (ring_limits 0 0x3ff8_0000_0000_0000) (limits 0 0x3ff0_0000_0000_0000))
    -- lo above hi on both; a NaN at either end
    ∷ asked_counted (over 3 (ring_limits 0x3ff0_0000_0000_0000 0xbff0_0000_0000_0000) (ring_limits 0xbfd8_51eb_851e_b852 0xbfe0_0000_0000_0000))
    ∷ asked_counted (over 3 (ring_limits 0x7ff8_0000_0000_0000 0x4020_0000_0000_0000) (ring_limits 0xc020_0000_0000_0000 0x7ff8_0000_0000_0000))
    ∷ []

-- what docs/REPLAY.md says of each, in this order
unfoldable pub ring_limited_stated : List (List ℕ)
ring_limited_stated =
    (0x3fd9_9999_9999_999a ∷ 0xbfe0_0000_0000_0000 ∷ 1 ∷ [])
    ∷ (0 ∷ 0x3fcc_432c_a57a_786c ∷ 1 ∷ [])
    ∷ (0x3ffc_cccc_cccc_cccd ∷ 0x3fe0_0000_0000_0000 ∷ 0 ∷ [])
    ∷ (0x3fe6_6f33_3333_3333 ∷ 0 ∷ 0 ∷ [])
    ∷ (0x3fd3_3333_3333_3334 ∷ 0x3fd3_3333_3333_3333 ∷ 0 ∷ [])
    ∷ (0x3fe6_6666_6666_6666 ∷ 0 ∷ 1 ∷ [])
    ∷ (0x3ff0_0000_0000_0000 ∷ 0xbfd8_51eb_851e_b852 ∷ 0 ∷ [])
    ∷ (0x7ff8_0000_0000_0000 ∷ 0xc020_0000_0000_0000 ∷ 0 ∷ [])
    ∷ []
