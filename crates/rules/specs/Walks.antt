-- Worked searches, trial by trial: no coefficient is the usual one and no two are equal, steps differ, and most numbers are inexact. Each is
-- worked out from document 01's sentences alone; a slip in a move, a row, a build or a round gives other bits.
use Rattle.std.specs.Prelude.{false, cond, List, [], ◌∷◌, map, ℕ, take, replicate, Some, None}
use Rattle.std.specs.Float.{binary64}
use Rattle.std.specs.Float.Ieee.{to_bits}
use Rattle.rules.specs.View.{is_ended}
use Rattle.rules.specs.Trial.{trial}
use Rattle.rules.specs.Accept.{accept}
use Rattle.rules.specs.Refusals.{Verdict}
use Rattle.rules.specs.Opening.{zero_axis, open_verdict, fresh}
use Rattle.rules.specs.Cases.{bits, two_axes}
use Rattle.rules.specs.declared.Method.TheVariants.{NelderMead}
use Rattle.rules.specs.declared.Axis.{Axis}
use Rattle.rules.specs.declared.Coefficients.{Coefficients}
use Rattle.rules.specs.declared.Opening.{Opening}
use Rattle.rules.specs.declared.Rule.TheVariants.{Spread}
use Rattle.rules.specs.declared.Search.{Search}

-- an axis record by the bits of its numbers
abbrev pub axis_at : ℕ → ℕ → ℕ → ℕ → Axis
axis_at lo hi start step = record { lo = bits lo; hi = bits hi; start = bits start; step = bits step; ring = false }

-- coefficients by their bits
abbrev pub coefficients_at : ℕ → ℕ → ℕ → ℕ → Coefficients
coefficients_at alpha chi beta sigma = record { alpha = bits alpha; chi = bits chi; beta = bits beta; sigma = bits sigma }

-- the verdict on an opening
abbrev pub judged : Opening → Verdict
judged o = open_verdict o.method o.n o.axes o.rule o.coefficients o.budget

-- the search of an opening that is not refused
abbrev pub begun : Opening → Search
begun o = fresh o.method o.n o.axes o.rule o.coefficients o.budget

-- the coordinates that a search asks for, by their bits; none where it has ended
abbrev pub asked_bits : Search → List ℕ
asked_bits s = cond (is_ended s.phase) [] (map (to_bits binary64) (take s.setup.n (trial s).point))

-- what a search shows before each of these costs, and after the last
unfoldable pub walk_by : (Search → List ℕ) → Search → List ℕ → List (List ℕ)
walk_by shows s [] = shows s ∷ []
walk_by shows s (c ∷ cs) = shows s ∷ walk_by shows (accept s c) cs

-- what it asks for
abbrev pub walk : Search → List ℕ → List (List ℕ)
walk s cs = walk_by asked_bits s cs

-- α 0.7, χ 1.9, β 0.3, σ 0.6
abbrev pub odd_coefficients : Coefficients
odd_coefficients = coefficients_at 0x3fe6_6666_6666_6666 0x3ffe_6666_6666_6666 0x3fd3_3333_3333_3333 0x3fe3_3333_3333_3333

-- no coefficient is the usual one, and no two are equal; the steps differ; the numbers are inexact: axis 1 from −8 to 8, start 0.1, step 0.7; axis
-- 2 from −4 to 4, start −0.3, step 1.1
abbrev pub odd : Opening
odd =
    record {
      method = NelderMead;
      n = 2;
      axes = two_axes (axis_at 0xc020_0000_0000_0000 0x4020_0000_0000_0000 0x3fb9_9999_9999_999a 0x3fe6_6666_6666_6666)
          (axis_at 0xc010_0000_0000_0000 0x4010_0000_0000_0000 0xbfd3_3333_3333_3333 0x3ff1_9999_9999_999a);
      rule = Some (Spread 1);
      coefficients = odd_coefficients;
      budget = 100;
    }

-- the costs told to it
abbrev pub odd_costs : List ℕ
odd_costs = 40 ∷ 60 ∷ 80 ∷ 30 ∷ 20 ∷ 15 ∷ 17 ∷ 18 ∷ 19 ∷ 19 ∷ 25 ∷ 18 ∷ 20 ∷ 18 ∷ 17 ∷ 12 ∷ 15 ∷ 16 ∷ 20 ∷ 22 ∷ 12 ∷ 20 ∷ 19 ∷ 11 ∷ 11 ∷ []

-- its trials
abbrev pub odd_trials : List (List ℕ)
odd_trials =
    -- the build (40, 60, 80)
    (0x3fb9_9999_9999_999a ∷ 0xbfd3_3333_3333_3333 ∷ []) ∷ (0x3fe9_9999_9999_9999 ∷ 0xbfd3_3333_3333_3333 ∷ [])
    ∷ (0x3fb9_9999_9999_999a ∷ 0x3fe9_9999_9999_999a ∷ [])
    -- fr 30 is below f1 40: e; fe 20 is below fr: e is taken
    ∷ (0x3fe6_3d70_a3d7_0a3d ∷ 0xbff1_1eb8_51eb_851f ∷ []) ∷ (0x3fed_4bc6_a7ef_9db2 ∷ 0xbffc_353f_7ced_9168 ∷ [])
    -- fr 15 is below f1 20: e; fe 17 is not below fr: r is taken
    ∷ (0x3fd3_6738_1d7d_bf4a ∷ 0xbff8_b261_7c1b_da50 ∷ []) ∷ (0x3fbe_7a8d_64d7_f0f8 ∷ 0xc000_0900_3eea_209a ∷ [])
    -- fr 18 is not below f1 15, and below fn 20: r is taken
    ∷ (0x3fee_e870_110a_1380 ∷ 0xc004_cdf6_555c_52e6 ∷ [])
    -- fr 19 is not below fn 18, and below fw 20: the outside point; fc 19 is not above fr: it is taken
    ∷ (0x3fdc_0598_17b9_5a2a ∷ 0xc002_4ea4_97fa_5d28 ∷ []) ∷ (0x3fe2_6aa7_db7b_bc39 ∷ 0xc001_187f_0dfd_18c4 ∷ [])
    -- fr 25 is not below fw 19: the inside point; fc 18 is below fw: it is taken
    ∷ (0x3fe5_a061_9afa_97b7 ∷ 0xc000_3688_46b5_f1e9 ∷ []) ∷ (0x3fe3_bd03_6691_da5e ∷ 0xc000_bb73_cafd_eaa6 ∷ [])
    -- fr 20 is not below fw 18: the inside point; fc 18 is not below fw: a shrink (17, 12)
    ∷ (0x3fe4_b387_ecd1_829d ∷ 0xc000_77a9_c268_9231 ∷ []) ∷ (0x3fe4_2285_437e_e369 ∷ 0xc000_9f8a_03b1_5cd0 ∷ [])
    ∷ (0x3fe6_6ce8_101f_31f5 ∷ 0xc001_6c0d_b270_2a34 ∷ []) ∷ (0x3fdf_7280_ed47_b8f4 ∷ 0xbffd_f518_586f_0a81 ∷ [])
    -- fr 15 is not below fn 15, and below fw 17: the outside point; fc 16 is above fr: a shrink (20, 22)
    ∷ (0x3fc7_a797_31f8_5a22 ∷ 0xbff6_10ad_fad9_0768 ∷ []) ∷ (0x3fd5_588a_a4dd_9134 ∷ 0xbff9_bf9e_d5a4_ebe8 ∷ [])
    ∷ (0x3fd8_3888_709b_565b ∷ 0xbffa_cd11_0770_53fd ∷ []) ∷ (0x3fe3_bea5_05ed_dc90 ∷ 0xc000_71d9_e326_4e9f ∷ [])
    -- fr 12 is not below f1 12, and below fn 20: r is taken
    ∷ (0x3fd3_ace0_ede7_31d4 ∷ 0xbff9_38d8_86ae_a240 ∷ [])
    -- fr 20 is not below fw 20: the inside point; fc 19 is below fw: it is taken
    ∷ (0x3fda_7fe6_deae_57ea ∷ 0xbffc_244d_9ed7_64d8 ∷ []) ∷ (0x3fd9_28be_61b2_38e1 ∷ 0xbffb_5a66_36b8_e276 ∷ [])
    -- fr 11 is below f1 12: e; fe 11 is not below fr: r is taken
    ∷ (0x3fd9_d7c1_1c51_8626 ∷ 0xbffb_c15e_ca8b_011d ∷ []) ∷ (0x3fda_189c_7992_953b ∷ 0xbffb_e787_b607_8dfa ∷ [])
    -- and then
    ∷ (0x3fd9_e2f4_4f84_b959 ∷ 0xbffb_c15e_ca8b_011d ∷ [])
    ∷ []

-- α 0.9, χ 1.3, β 0.7, σ 0.2
abbrev pub wide_coefficients : Coefficients
wide_coefficients = coefficients_at 0x3fec_cccc_cccc_cccd 0x3ff4_cccc_cccc_cccd 0x3fe6_6666_6666_6666 0x3fc9_9999_9999_999a

-- three axes: the order of a sum over places shows: axis 1 from −8 to 8, start 0.1, step 0.7; axis 2 from −4 to 4, start −0.3, step 1.1; axis 3
-- from −2 to 6, start 0.7, step 0.3
abbrev pub wide : Opening
wide =
    record {
      method = NelderMead;
      n = 3;
      axes = axis_at 0xc020_0000_0000_0000 0x4020_0000_0000_0000 0x3fb9_9999_9999_999a 0x3fe6_6666_6666_6666
          ∷ axis_at 0xc010_0000_0000_0000 0x4010_0000_0000_0000 0xbfd3_3333_3333_3333 0x3ff1_9999_9999_999a
          ∷ axis_at 0xc000_0000_0000_0000 0x4018_0000_0000_0000 0x3fe6_6666_6666_6666 0x3fd3_3333_3333_3333 ∷ replicate 5 zero_axis;
      rule = Some (Spread 1);
      coefficients = wide_coefficients;
      budget = 100;
    }

-- the costs told to it
abbrev pub wide_costs : List ℕ
wide_costs = 40 ∷ 30 ∷ 20 ∷ 70 ∷ 10 ∷ 12 ∷ 25 ∷ 28 ∷ 24 ∷ 50 ∷ 26 ∷ 29 ∷ 30 ∷ 22 ∷ 21 ∷ 23 ∷ []

-- its trials
abbrev pub wide_trials : List (List ℕ)
wide_trials =
    -- the build (40, 30, 20, 70)
    (0x3fb9_9999_9999_999a ∷ 0xbfd3_3333_3333_3333 ∷ 0x3fe6_6666_6666_6666 ∷ [])
    ∷ (0x3fe9_9999_9999_9999 ∷ 0xbfd3_3333_3333_3333 ∷ 0x3fe6_6666_6666_6666 ∷ [])
    ∷ (0x3fb9_9999_9999_999a ∷ 0x3fe9_9999_9999_999a ∷ 0x3fe6_6666_6666_6666 ∷ [])
    ∷ (0x3fb9_9999_9999_999a ∷ 0xbfd3_3333_3333_3333 ∷ 0x3ff0_0000_0000_0000 ∷ [])
    -- fr 10 is below f1 20: e; fe 12 is not below fr: r is taken
    ∷ (0x3fe1_62fc_962f_c963 ∷ 0x3fd9_62fc_962f_c962 ∷ 0x3fdb_851e_b851_eb80 ∷ [])
    ∷ (0x3fe3_6715_29a4_85ce ∷ 0x3fdf_b900_aec3_3e1e ∷ 0x3fd6_5604_1893_74b6 ∷ [])
    -- fr 25 is not below f1 10, and below fn 30: r is taken
    ∷ (0x3fea_5f1e_43cf_c21a ∷ 0x3fea_cffc_5bee_b4ae ∷ 0x3fe0_ed91_6872_b01f ∷ [])
    -- fr 28 is not below fn 25, and below fw 30: the outside point; fc 24 is not above fr: it is taken
    ∷ (0x3fca_cd03_2bac_ed52 ∷ 0x3ff8_efd4_110d_2edc ∷ 0x3fda_ecbf_b15b_573a ∷ [])
    ∷ (0x3fd2_c59d_8520_4600 ∷ 0x3ff4_b608_a8c4_7026 ∷ 0x3fdd_7707_9e59_f2b6 ∷ [])
    -- fr 50 is not below fw 25: the inside point; fc 26 is not below fw: a shrink (29, 30, 22)
    ∷ (0xbfc3_01c5_f7fb_7bd4 ∷ 0x3fea_5af2_b601_5507 ∷ 0x3fe0_ff27_fe4b_cad7 ∷ [])
    ∷ (0x3fe5_7515_0a43_57d4 ∷ 0x3fea_bd81_9293_54bc ∷ 0x3fe0_f058_57af_ea3c ∷ [])
    ∷ (0x3fdd_1942_37fa_89e6 ∷ 0x3fde_8ca1_1bfd_44f2 ∷ 0x3fde_f9db_22d0_e55c ∷ [])
    ∷ (0x3fdf_92b3_a486_1d05 ∷ 0x3fe2_7068_7f94_e3d0 ∷ 0x3fdb_e8b3_b320_5358 ∷ [])
    ∷ (0x3fe3_2f03_5282_fb21 ∷ 0x3fdf_08c8_9cec_1c94 ∷ 0x3fdc_c985_f06f_6940 ∷ [])
    -- fr 21 is not below f1 10, and below fn 29: r is taken
    ∷ (0x3fe2_2afb_89ff_f068 ∷ 0x3fd5_e40d_3b61_cde9 ∷ 0x3fde_2948_cea5_eadc ∷ [])
    -- fr 23 is not below fn 22, and below fw 29: the outside point
    ∷ (0x3fe5_92b8_eb2f_5f32 ∷ 0x3fd6_1a63_3552_11bc ∷ 0x3fda_e28c_e805_6265 ∷ [])
    -- and then
    ∷ (0x3fe4_9334_3019_6e54 ∷ 0x3fd7_4da7_49f9_3800 ∷ 0x3fdb_7760_c7f4_7e70 ∷ [])
    ∷ []

-- axis 2 begins at −0.0, and its lo is 0.0: axis 1 from −8 to 8, start 0.1, step 0.7; axis 2 from 0 to 1, start −0.0, step 0.5
abbrev pub zeros : Opening
zeros =
    record {
      method = NelderMead;
      n = 2;
      axes = two_axes (axis_at 0xc020_0000_0000_0000 0x4020_0000_0000_0000 0x3fb9_9999_9999_999a 0x3fe6_6666_6666_6666)
          (axis_at 0 0x3ff0_0000_0000_0000 0x8000_0000_0000_0000 0x3fe0_0000_0000_0000);
      rule = Some (Spread 1);
      coefficients = odd_coefficients;
      budget = 100;
    }

-- the costs told to it
abbrev pub zeros_costs : List ℕ
zeros_costs = 10 ∷ 20 ∷ 40 ∷ 30 ∷ 25 ∷ 15 ∷ []

-- its trials
abbrev pub zeros_trials : List (List ℕ)
zeros_trials =
    -- the build (10, 20, 40)
    (0x3fb9_9999_9999_999a ∷ 0x8000_0000_0000_0000 ∷ []) ∷ (0x3fe9_9999_9999_9999 ∷ 0x8000_0000_0000_0000 ∷ [])
    ∷ (0x3fb9_9999_9999_999a ∷ 0x3fe0_0000_0000_0000 ∷ [])
    -- fr 30 is not below fn 20, and below fw 40: the outside point; fc 25 is not above fr: it is taken
    ∷ (0x3fe6_3d70_a3d7_0a3d ∷ 0 ∷ []) ∷ (0x3fe0_c083_126e_978d ∷ 0 ∷ [])
    -- fr 15 is not below f1 10, and below fn 20: r is taken
    ∷ (0x3fd9_81d7_dbf4_87fc ∷ 0x8000_0000_0000_0000 ∷ [])
    -- and then
    ∷ (0xbfc1_7011_0a13_7f36 ∷ 0 ∷ [])
    ∷ []

-- axis 1: start + step is hi; axis 2: it is past hi. No rule is named: axis 1 from −1 to 2.5, start 1.7, step 0.8; axis 2 from −3 to 1, start 0.6,
-- step 0.7
abbrev pub rounds : Opening
rounds =
    record {
      method = NelderMead;
      n = 2;
      axes = two_axes (axis_at 0xbff0_0000_0000_0000 0x4004_0000_0000_0000 0x3ffb_3333_3333_3333 0x3fe9_9999_9999_999a)
          (axis_at 0xc008_0000_0000_0000 0x3ff0_0000_0000_0000 0x3fe3_3333_3333_3333 0x3fe6_6666_6666_6666);
      rule = None;
      coefficients = odd_coefficients;
      budget = 100;
    }

-- the costs told to it
abbrev pub rounds_costs : List ℕ
rounds_costs = 11 ∷ 10 ∷ 11 ∷ 12 ∷ 11 ∷ 10 ∷ 9 ∷ 10 ∷ 10 ∷ 9 ∷ 8 ∷ 20 ∷ 30 ∷ []

-- its trials
abbrev pub rounds_trials : List (List ℕ)
rounds_trials =
    -- the build (11, 10, 11)
    (0x3ffb_3333_3333_3333 ∷ 0x3fe3_3333_3333_3333 ∷ []) ∷ (0x4004_0000_0000_0000 ∷ 0x3fe3_3333_3333_3333 ∷ [])
    ∷ (0x3ffb_3333_3333_3333 ∷ 0xbfb9_9999_9999_9998 ∷ [])
    -- the rule is met: probes around the best, 10 (12, 11, 10, 9); lower
    ∷ (0x4004_0000_0000_0000 ∷ 0x3fe3_3333_3333_3333 ∷ []) ∷ (0x4003_fe66_6666_6666 ∷ 0x3fe3_3333_3333_3333 ∷ [])
    ∷ (0x4004_0000_0000_0000 ∷ 0x3fe3_38cc_cccc_cccd ∷ []) ∷ (0x4004_0000_0000_0000 ∷ 0x3fe3_2d99_9999_9999 ∷ [])
    -- a build (10, 10)
    ∷ (0x3ffb_3333_3333_3333 ∷ 0x3fe3_2d99_9999_9999 ∷ []) ∷ (0x4004_0000_0000_0000 ∷ 0xbfb9_c666_6666_6668 ∷ [])
    -- the rule is met: probes around the best, 9 (9, 8); lower
    ∷ (0x4004_0000_0000_0000 ∷ 0x3fe3_2d99_9999_9999 ∷ []) ∷ (0x4003_fe66_6666_6666 ∷ 0x3fe3_2d99_9999_9999 ∷ [])
    -- a build (20, 30)
    ∷ (0x3ffb_2fff_ffff_ffff ∷ 0x3fe3_2d99_9999_9999 ∷ []) ∷ (0x4003_fe66_6666_6666 ∷ 0xbfb9_c666_6666_6668 ∷ [])
    -- and then
    ∷ (0x3ffd_1b85_1eb8_51ec ∷ 0x3ff0_0000_0000_0000 ∷ [])
    ∷ []

-- the trials that the rules give, search by search
unfoldable pub walks_given : List (List (List ℕ))
walks_given = walk (begun odd) odd_costs ∷ walk (begun wide) wide_costs ∷ walk (begun zeros) zeros_costs ∷ walk (begun rounds) rounds_costs ∷ []

-- the trials that document 01 gives
unfoldable pub walks_stated : List (List (List ℕ))
walks_stated = odd_trials ∷ wide_trials ∷ zeros_trials ∷ rounds_trials ∷ []
