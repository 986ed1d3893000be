-- Worked multidirectional searches, trial by trial, each with its stops; size at its edge; and how such a search ends. Each is worked out from
-- document 02 and source document 002, 2.3: a slip in a reflection, a companion, a swap or a halving gives other bits.
use Rattle.std.specs.Prelude.{List, [], ◌∷◌, ℕ, Some}
use Rattle.rules.specs.Examples.{after_costs}
use Rattle.rules.specs.Cases.{bits, two_axes}
use Rattle.rules.specs.Walks.{axis_at, begun, walk_by, odd_coefficients, odd, wide}
use Rattle.rules.specs.Stops.{asked_counted, between}
use Rattle.rules.specs.RingWalks.{rotator}
use Rattle.rules.specs.declared.Method.TheVariants.{Multidirectional}
use Rattle.rules.specs.declared.Axis.{Axis}
use Rattle.rules.specs.declared.Opening.{Opening}
use Rattle.rules.specs.declared.Rule.TheVariants.{Size}
use Rattle.rules.specs.declared.Phase.{Phase}
use Rattle.rules.specs.declared.Phase.TheVariants.{Mirroring, Checking, Probing, Ended}
use Rattle.rules.specs.declared.Cause.TheVariants.{Settled, Budget}

-- an opening in this method over n axes, with size E of these bits; no coefficient is the usual one, and none is used
abbrev pub turning : ℕ → List Axis → ℕ → ℕ → Opening
turning n axes e budget =
    record { method = Multidirectional; n = n; axes = axes; rule = Some (Size (bits e)); coefficients = odd_coefficients; budget = budget }

-- 2⁻²⁰, an E that no search here meets
abbrev pub least : ℕ
least = 0x3eb0_0000_0000_0000

-- the three axes of `wide`: each reading that can be the first lower one, and companions of which all, some and none are unread
abbrev pub trio : Opening
trio = turning 3 wide.axes least 100

-- the costs told to it
abbrev pub trio_costs : List ℕ
trio_costs =
    90 ∷ 90 ∷ 95 ∷ 97 ∷ 90 ∷ 80 ∷ 70 ∷ 70 ∷ 60 ∷ 66 ∷ 60 ∷ 50 ∷ 55 ∷ 50 ∷ 53 ∷ 51 ∷ 52 ∷ 53 ∷ 54 ∷ 50 ∷ 55 ∷ 57 ∷ 50 ∷ 56 ∷ 40 ∷ 41 ∷ 42 ∷ 43 ∷ 44
    ∷ 30 ∷ 33 ∷ 30 ∷ 32 ∷ 31 ∷ 20 ∷ []

-- its trials, each with its stops
abbrev pub trio_trials : List (List ℕ)
trio_trials =
    -- the base (90)
    (0x3fb9_9999_9999_999a ∷ 0xbfd3_3333_3333_3333 ∷ 0x3fe6_6666_6666_6666 ∷ 0 ∷ [])
    -- reflections 1 to 3 (90, 95, 97): none is below the base, 90
    ∷ (0xbfe3_3333_3333_3333 ∷ 0xbfd3_3333_3333_3333 ∷ 0x3fe6_6666_6666_6666 ∷ 0 ∷ [])
    ∷ (0x3fb9_9999_9999_999a ∷ 0xbff6_6666_6666_6667 ∷ 0x3fe6_6666_6666_6666 ∷ 0 ∷ [])
    ∷ (0x3fb9_9999_9999_999a ∷ 0xbfd3_3333_3333_3333 ∷ 0x3fd9_9999_9999_9998 ∷ 0 ∷ [])
    -- companions 1 and 2 (90, 80): 80 is below the base, 90: they change places
    ∷ (0x3fe9_9999_9999_9999 ∷ 0xbfd3_3333_3333_3333 ∷ 0x3fe6_6666_6666_6666 ∷ 0 ∷ [])
    ∷ (0x3fb9_9999_9999_999a ∷ 0x3fe9_9999_9999_999a ∷ 0x3fe6_6666_6666_6666 ∷ 0 ∷ [])
    -- reflection 1 (70): 70 is below the base, 80: the reflections are the companions
    ∷ (0xbfe3_3333_3333_3333 ∷ 0x3ffe_6666_6666_6667 ∷ 0x3fe6_6666_6666_6666 ∷ 0 ∷ [])
    -- reflections 1 and 2 (70, 60): 60 is below the base, 70: the reflections are the companions
    ∷ (0xbff4_cccc_cccc_cccc ∷ 0x4008_0000_0000_0000 ∷ 0x3fe6_6666_6666_6666 ∷ 0 ∷ [])
    ∷ (0xbff4_cccc_cccc_cccc ∷ 0x3ffe_6666_6666_6667 ∷ 0x3fe6_6666_6666_6666 ∷ 0 ∷ [])
    -- reflections 1 to 3 (66, 60, 50): 50 is below the base, 60: the reflections are the companions
    ∷ (0xbff4_cccc_cccc_cccc ∷ 0x3fe9_9999_9999_999c ∷ 0x3fe6_6666_6666_6666 ∷ 0 ∷ [])
    ∷ (0xbfff_ffff_ffff_fffe ∷ 0x3ffe_6666_6666_6667 ∷ 0x3fe6_6666_6666_6666 ∷ 0 ∷ [])
    ∷ (0xbff4_cccc_cccc_cccc ∷ 0x3ffe_6666_6666_6667 ∷ 0x3fd9_9999_9999_9998 ∷ 0 ∷ [])
    -- reflections 1 to 3 (55, 50, 53): none is below the base, 50, and no companion is unread: they are halved
    ∷ (0xbff4_cccc_cccc_cccc ∷ 0x4008_0000_0000_0000 ∷ 0x3fb9_9999_9999_9990 ∷ 0 ∷ [])
    ∷ (0xbfe3_3333_3333_3334 ∷ 0x3ffe_6666_6666_6667 ∷ 0x3fb9_9999_9999_9990 ∷ 0 ∷ [])
    ∷ (0xbff4_cccc_cccc_cccc ∷ 0x3ffe_6666_6666_6667 ∷ 0x3fb9_9999_9999_9990 ∷ 0 ∷ [])
    -- reflections 1 to 3 (51, 52, 53): none is below the base, 50
    ∷ (0xbff4_cccc_cccc_cccc ∷ 0x4003_9999_9999_999a ∷ 0x3fcf_ffff_ffff_fffc ∷ 0 ∷ [])
    ∷ (0xbfee_6666_6666_6666 ∷ 0x3ffe_6666_6666_6667 ∷ 0x3fcf_ffff_ffff_fffc ∷ 0 ∷ [])
    ∷ (0xbff4_cccc_cccc_cccc ∷ 0x3ffe_6666_6666_6667 ∷ 0x3fcf_ffff_ffff_fffc ∷ 0 ∷ [])
    -- companions 1 to 3 (54, 50, 55): none is below the base, 50: they are halved
    ∷ (0xbff4_cccc_cccc_cccc ∷ 0x3ff5_9999_9999_999a ∷ 0x3fe1_9999_9999_9999 ∷ 0 ∷ [])
    ∷ (0xbffa_6666_6666_6665 ∷ 0x3ffe_6666_6666_6667 ∷ 0x3fe1_9999_9999_9999 ∷ 0 ∷ [])
    ∷ (0xbff4_cccc_cccc_cccc ∷ 0x3ffe_6666_6666_6667 ∷ 0x3fe1_9999_9999_9999 ∷ 0 ∷ [])
    -- reflections 1 to 3 (57, 50, 56): none is below the base, 50
    ∷ (0xbff4_cccc_cccc_cccc ∷ 0x4001_6666_6666_6667 ∷ 0x3fd4_cccc_cccc_cccb ∷ 0 ∷ [])
    ∷ (0xbff2_0000_0000_0000 ∷ 0x3ffe_6666_6666_6667 ∷ 0x3fd4_cccc_cccc_cccb ∷ 0 ∷ [])
    ∷ (0xbff4_cccc_cccc_cccc ∷ 0x3ffe_6666_6666_6667 ∷ 0x3fd4_cccc_cccc_cccb ∷ 0 ∷ [])
    -- companion 1 (40): 40 is below the base, 50: they change places
    ∷ (0xbff4_cccc_cccc_cccc ∷ 0x3ffa_0000_0000_0000 ∷ 0x3fde_6666_6666_6665 ∷ 0 ∷ [])
    -- reflections 1 to 3 (41, 42, 43): none is below the base, 40
    ∷ (0xbff4_cccc_cccc_cccc ∷ 0x3ff5_9999_9999_9999 ∷ 0x3fe1_9999_9999_9999 ∷ 0 ∷ [])
    ∷ (0xbff2_0000_0000_0000 ∷ 0x3ff5_9999_9999_9999 ∷ 0x3fde_6666_6666_6665 ∷ 0 ∷ [])
    ∷ (0xbff4_cccc_cccc_cccc ∷ 0x3ff5_9999_9999_9999 ∷ 0x3fde_6666_6666_6665 ∷ 0 ∷ [])
    -- companions 2 and 3 (44, 30): 30 is below the base, 40: they change places
    ∷ (0xbff7_9999_9999_9998 ∷ 0x3ffe_6666_6666_6667 ∷ 0x3fde_6666_6666_6665 ∷ 0 ∷ [])
    ∷ (0xbff4_cccc_cccc_cccc ∷ 0x3ffe_6666_6666_6667 ∷ 0x3fde_6666_6666_6665 ∷ 0 ∷ [])
    -- reflections 1 to 3 (33, 30, 32): none is below the base, 30, and no companion is unread: they are halved
    ∷ (0xbff4_cccc_cccc_cccc ∷ 0x3ffe_6666_6666_6667 ∷ 0x3fe1_9999_9999_9999 ∷ 0 ∷ [])
    ∷ (0xbff2_0000_0000_0000 ∷ 0x3ffe_6666_6666_6667 ∷ 0x3fde_6666_6666_6665 ∷ 0 ∷ [])
    ∷ (0xbff4_cccc_cccc_cccc ∷ 0x4001_6666_6666_6667 ∷ 0x3fde_6666_6666_6665 ∷ 0 ∷ [])
    -- reflections 1 and 2 (31, 20): 20 is below the base, 30: the reflections are the companions
    ∷ (0xbff4_cccc_cccc_cccc ∷ 0x3ffe_6666_6666_6667 ∷ 0x3fe0_6666_6666_6666 ∷ 0 ∷ [])
    ∷ (0xbff3_6666_6666_6666 ∷ 0x3ffe_6666_6666_6667 ∷ 0x3fde_6666_6666_6665 ∷ 0 ∷ [])
    -- and then
    ∷ (0xbff2_0000_0000_0000 ∷ 0x3ffe_6666_6666_6667 ∷ 0x3fdb_ffff_ffff_fffe ∷ 0 ∷ [])
    ∷ []

-- axis 1 goes from −1 to 0.6, start 0.3, step 0.8; axis 2 is that of `between`, on which the step back is clamped
abbrev pub pinched : Opening
pinched = turning 2 (two_axes (axis_at 0xbff0_0000_0000_0000 0x3fe3_3333_3333_3333 0x3fd3_3333_3333_3333 0x3fe9_9999_9999_999a)
    (axis_at 0xbfec_efed_cc22_af58 0x3ff7_af02_08d6_af57 0x3fd2_6e16_458a_af56 0x3ff3_137c_7774_0382)) least 100

-- the costs told to it
abbrev pub pinched_costs : List ℕ
pinched_costs = 47 ∷ 50 ∷ 47 ∷ 40 ∷ 44 ∷ 43 ∷ 45 ∷ 41 ∷ 30 ∷ 35 ∷ 33 ∷ 32 ∷ 31 ∷ 20 ∷ 21 ∷ 22 ∷ 23 ∷ []

-- its trials, each with its stops
abbrev pub pinched_trials : List (List ℕ)
pinched_trials =
    -- the base (47)
    (0x3fd3_3333_3333_3333 ∷ 0x3fd2_6e16_458a_af56 ∷ 0 ∷ [])
    -- reflections 1 and 2 (50, 47): none is below the base, 47
    ∷ (0x3fe3_3333_3333_3333 ∷ 0x3fd2_6e16_458a_af56 ∷ 1 ∷ []) ∷ (0x3fd3_3333_3333_3333 ∷ 0x3ff7_af02_08d6_af57 ∷ 1 ∷ [])
    -- companion 1 (40): 40 is below the base, 47: they change places
    ∷ (0xbfe0_0000_0000_0000 ∷ 0x3fd2_6e16_458a_af56 ∷ 0 ∷ [])
    -- reflections 1 and 2 (44, 43): none is below the base, 40
    ∷ (0xbff0_0000_0000_0000 ∷ 0x3fd2_6e16_458a_af56 ∷ 1 ∷ []) ∷ (0xbff0_0000_0000_0000 ∷ 0x3ff7_af02_08d6_af57 ∷ 2 ∷ [])
    -- companion 2 (45): none is below the base, 40: they are halved
    ∷ (0x3fd3_3333_3333_3333 ∷ 0xbfec_efed_cc22_af58 ∷ 1 ∷ [])
    -- reflections 1 and 2 (41, 30): 30 is below the base, 40: the reflections are the companions
    ∷ (0xbfec_cccc_cccc_cccc ∷ 0x3fd2_6e16_458a_af56 ∷ 0 ∷ []) ∷ (0xbfec_cccc_cccc_cccc ∷ 0x3fec_4a87_9a39_5b2c ∷ 0 ∷ [])
    -- reflections 1 and 2 (35, 33): none is below the base, 30, and no companion is unread: they are halved
    ∷ (0xbfec_cccc_cccc_cccc ∷ 0x3ff7_af02_08d6_af56 ∷ 0 ∷ []) ∷ (0xbff0_0000_0000_0000 ∷ 0x3ff7_af02_08d6_af56 ∷ 1 ∷ [])
    -- reflections 1 and 2 (32, 31): none is below the base, 30
    ∷ (0xbfec_cccc_cccc_cccc ∷ 0x3ff2_ea22_eaf9_ae76 ∷ 0 ∷ []) ∷ (0xbff0_0000_0000_0000 ∷ 0x3ff2_ea22_eaf9_ae76 ∷ 1 ∷ [])
    -- companion 1 (20): 20 is below the base, 30: they change places
    ∷ (0xbfec_cccc_cccc_cccc ∷ 0x3fe2_c0c9_5e7f_596c ∷ 0 ∷ [])
    -- reflections 1 and 2 (21, 22): none is below the base, 20
    ∷ (0xbfec_cccc_cccc_cccc ∷ 0x3fd2_6e16_458a_af58 ∷ 0 ∷ []) ∷ (0xbff0_0000_0000_0000 ∷ 0x3fe2_c0c9_5e7f_596c ∷ 1 ∷ [])
    -- companion 2 (23): none is below the base, 20: they are halved
    ∷ (0xbfe6_6666_6666_6666 ∷ 0x3fe2_c0c9_5e7f_596c ∷ 0 ∷ [])
    -- and then
    ∷ (0xbfec_cccc_cccc_cccc ∷ 0x3fdb_f7d4_8144_b118 ∷ 0 ∷ [])
    ∷ []

-- other costs told to it
abbrev pub other_costs : List ℕ
other_costs = 47 ∷ 40 ∷ 44 ∷ 43 ∷ 45 ∷ 46 ∷ []

-- its trials then: a companion that was a clamped reflection has that reflection's stops
abbrev pub other_trials : List (List ℕ)
other_trials =
    -- the base (47)
    (0x3fd3_3333_3333_3333 ∷ 0x3fd2_6e16_458a_af56 ∷ 0 ∷ [])
    -- reflection 1 (40): 40 is below the base, 47: the reflections are the companions
    ∷ (0x3fe3_3333_3333_3333 ∷ 0x3fd2_6e16_458a_af56 ∷ 1 ∷ [])
    -- reflections 1 and 2 (44, 43): none is below the base, 40
    ∷ (0x3fe3_3333_3333_3333 ∷ 0x3fd2_6e16_458a_af56 ∷ 1 ∷ []) ∷ (0x3fe3_3333_3333_3333 ∷ 0xbfec_efed_cc22_af58 ∷ 2 ∷ [])
    -- companion 2 (45): none is below the base, 40: they are halved
    ∷ (0x3fd3_3333_3333_3333 ∷ 0x3ff7_af02_08d6_af57 ∷ 1 ∷ [])
    -- reflection 1 (46): none is below the base, 40
    ∷ (0x3fe3_3333_3333_3333 ∷ 0x3fd2_6e16_458a_af56 ∷ 1 ∷ [])
    -- and then
    ∷ (0x3fe3_3333_3333_3333 ∷ 0xbfd3_b8e2_a95d_57ac ∷ 1 ∷ [])
    ∷ []

-- the axes of `rotator`, of which the first is a ring
abbrev pub rotating : Opening
rotating = turning 2 rotator.axes least 100

-- the costs told to it
abbrev pub rotating_costs : List ℕ
rotating_costs = 30 ∷ 31 ∷ 32 ∷ 33 ∷ 20 ∷ 22 ∷ 23 ∷ 10 ∷ 11 ∷ 12 ∷ 13 ∷ 14 ∷ 15 ∷ 16 ∷ 17 ∷ []

-- its trials, each with its stops
abbrev pub rotating_trials : List (List ℕ)
rotating_trials =
    -- the base (30)
    (0x3ffb_3333_3333_3333 ∷ 0x3fd3_3333_3333_3333 ∷ 0 ∷ [])
    -- reflections 1 and 2 (31, 32): none is below the base, 30
    ∷ (0x3fe3_3333_3333_3334 ∷ 0x3fd3_3333_3333_3333 ∷ 0 ∷ []) ∷ (0x3ffb_3333_3333_3333 ∷ 0x3fe3_3333_3333_3333 ∷ 1 ∷ [])
    -- companions 1 and 2 (33, 20): 20 is below the base, 30: they change places
    ∷ (0x3fd9_9999_9999_9998 ∷ 0x3fd3_3333_3333_3333 ∷ 0 ∷ []) ∷ (0x3ffb_3333_3333_3333 ∷ 0xbfe0_0000_0000_0000 ∷ 0 ∷ [])
    -- reflections 1 and 2 (22, 23): none is below the base, 20, and no companion is unread: they are halved
    ∷ (0x3fe3_3333_3333_3334 ∷ 0xbff0_0000_0000_0000 ∷ 1 ∷ []) ∷ (0x3ffb_3333_3333_3333 ∷ 0xbff0_0000_0000_0000 ∷ 1 ∷ [])
    -- reflection 1 (10): 10 is below the base, 20: the reflections are the companions
    ∷ (0xbfa9_9999_9999_9980 ∷ 0xbfec_cccc_cccc_cccc ∷ 0 ∷ [])
    -- reflections 1 and 2 (11, 12): none is below the base, 10
    ∷ (0x3fe3_3333_3333_3336 ∷ 0xbff0_0000_0000_0000 ∷ 1 ∷ []) ∷ (0x3fe3_3333_3333_3336 ∷ 0xbfec_cccc_cccc_cccc ∷ 0 ∷ [])
    -- companion 2 (13): none is below the base, 10: they are halved
    ∷ (0x3ffb_3333_3333_3333 ∷ 0xbfec_cccc_cccc_cccc ∷ 0 ∷ [])
    -- reflections 1 and 2 (14, 15): none is below the base, 10
    ∷ (0x3ff7_9999_9999_999a ∷ 0xbff0_0000_0000_0000 ∷ 1 ∷ []) ∷ (0x3ff7_9999_9999_999a ∷ 0xbfec_cccc_cccc_cccc ∷ 0 ∷ [])
    -- companions 1 and 2 (16, 17): none is below the base, 10: they are halved
    ∷ (0x3fea_6666_6666_6667 ∷ 0xbfe6_6666_6666_6666 ∷ 0 ∷ []) ∷ (0x3fea_6666_6666_6667 ∷ 0xbfec_cccc_cccc_cccc ∷ 0 ∷ [])
    -- and then
    ∷ (0xbfdf_3333_3333_332f ∷ 0xbfef_ffff_ffff_ffff ∷ 0 ∷ [])
    ∷ []

-- the one axis of `between`
abbrev pub lone : Opening
lone = turning 1 between.axes least 100

-- the costs told to it
abbrev pub lone_costs : List ℕ
lone_costs = 9 ∷ 9 ∷ 9 ∷ 12 ∷ 11 ∷ 10 ∷ 5 ∷ 6 ∷ 4 ∷ 3 ∷ []

-- its trials, each with its stops
abbrev pub lone_trials : List (List ℕ)
lone_trials =
    -- the base (9)
    (0x3fd2_6e16_458a_af56 ∷ 0 ∷ [])
    -- reflection 1 (9): none is below the base, 9
    ∷ (0x3ff7_af02_08d6_af57 ∷ 1 ∷ [])
    -- companion 1 (9): none is below the base, 9: they are halved
    ∷ (0xbfec_efed_cc22_af58 ∷ 1 ∷ [])
    -- reflection 1 (12): none is below the base, 9
    ∷ (0x3fec_4a87_9a39_5b2c ∷ 0 ∷ [])
    -- companion 1 (11): none is below the base, 9: they are halved
    ∷ (0xbfd3_b8e2_a95d_57ac ∷ 0 ∷ [])
    -- reflection 1 (10): none is below the base, 9
    ∷ (0x3fe2_c0c9_5e7f_596c ∷ 0 ∷ [])
    -- companion 1 (5): 5 is below the base, 9: they change places
    ∷ (0xbf84_acc6_3d2a_8560 ∷ 0 ∷ [])
    -- reflection 1 (6): none is below the base, 5, and no companion is unread: they are halved
    ∷ (0xbfd3_b8e2_a95d_57ac ∷ 0 ∷ [])
    -- reflection 1 (4): 4 is below the base, 5: the reflections are the companions
    ∷ (0xbfc4_5e48_db46_abd7 ∷ 0 ∷ [])
    -- reflection 1 (3): 3 is below the base, 4: the reflections are the companions
    ∷ (0xbfd3_b8e2_a95d_57ac ∷ 0 ∷ [])
    -- and then
    ∷ (0xbfdd_42a0_e517_596c ∷ 0 ∷ [])
    ∷ []

-- the axes of `odd`, and E 0.6
abbrev pub round : Opening
round = turning 2 odd.axes 0x3fe3_3333_3333_3333 100

-- the costs told to it
abbrev pub round_costs : List ℕ
round_costs = 40 ∷ 41 ∷ 42 ∷ 43 ∷ 44 ∷ 45 ∷ 40 ∷ 30 ∷ 25 ∷ 25 ∷ 26 ∷ 27 ∷ 28 ∷ 25 ∷ 29 ∷ 31 ∷ 26 ∷ 25 ∷ 27 ∷ 28 ∷ []

-- its trials, each with its stops
abbrev pub round_trials : List (List ℕ)
round_trials =
    -- the base (40)
    (0x3fb9_9999_9999_999a ∷ 0xbfd3_3333_3333_3333 ∷ 0 ∷ [])
    -- reflections 1 and 2 (41, 42): none is below the base, 40
    ∷ (0xbfe3_3333_3333_3333 ∷ 0xbfd3_3333_3333_3333 ∷ 0 ∷ []) ∷ (0x3fb9_9999_9999_999a ∷ 0xbff6_6666_6666_6667 ∷ 0 ∷ [])
    -- companions 1 and 2 (43, 44): none is below the base, 40: they are halved
    ∷ (0x3fe9_9999_9999_9999 ∷ 0xbfd3_3333_3333_3333 ∷ 0 ∷ []) ∷ (0x3fb9_9999_9999_999a ∷ 0x3fe9_9999_9999_999a ∷ 0 ∷ [])
    -- the rule is met: probes around 40 (45, 40, 30): a lower one, the base from here on
    ∷ (0x3fb9_c666_6666_6667 ∷ 0xbfd3_3333_3333_3333 ∷ 0 ∷ []) ∷ (0x3fb9_6ccc_cccc_cccd ∷ 0xbfd3_3333_3333_3333 ∷ 0 ∷ [])
    ∷ (0x3fb9_9999_9999_999a ∷ 0xbfd3_2199_9999_9999 ∷ 0 ∷ [])
    -- reflection 1 (25): 25 is below the base, 30: the reflections are the companions
    ∷ (0xbfe3_3333_3333_3333 ∷ 0xbfd3_2199_9999_9999 ∷ 0 ∷ [])
    -- reflections 1 and 2 (25, 26): none is below the base, 25
    ∷ (0xbff4_cccc_cccc_cccc ∷ 0xbfd3_2199_9999_9999 ∷ 0 ∷ []) ∷ (0xbff4_cccc_cccc_cccc ∷ 0x3fe9_a266_6666_6668 ∷ 0 ∷ [])
    -- companion 2 (27): none is below the base, 25: they are halved
    ∷ (0x3fb9_9999_9999_999a ∷ 0xbff6_6200_0000_0000 ∷ 0 ∷ [])
    -- reflections 1 and 2 (28, 25): none is below the base, 25
    ∷ (0xbfee_6666_6666_6666 ∷ 0xbfd3_2199_9999_9999 ∷ 0 ∷ []) ∷ (0xbfee_6666_6666_6666 ∷ 0x3fd0_1199_9999_999b ∷ 0 ∷ [])
    -- companions 1 and 2 (29, 31): none is below the base, 25: they are halved
    ∷ (0xbfcf_ffff_ffff_ffff ∷ 0xbfd3_2199_9999_9999 ∷ 0 ∷ []) ∷ (0xbfcf_ffff_ffff_ffff ∷ 0xbfeb_2a66_6666_6666 ∷ 0 ∷ [])
    -- the rule is met: probes around 25 (26, 25, 27, 28)
    ∷ (0xbfe3_2d99_9999_9999 ∷ 0xbfd3_2199_9999_9999 ∷ 0 ∷ []) ∷ (0xbfe3_38cc_cccc_cccd ∷ 0xbfd3_2199_9999_9999 ∷ 0 ∷ [])
    ∷ (0xbfe3_3333_3333_3333 ∷ 0xbfd3_0fff_ffff_ffff ∷ 0 ∷ []) ∷ (0xbfe3_3333_3333_3333 ∷ 0xbfd3_3333_3333_3333 ∷ 0 ∷ [])
    -- the search has ended
    ∷ []
    ∷ []

-- the trials that the rules give, search by search
unfoldable pub turns_given : List (List (List ℕ))
turns_given =
    walk_by asked_counted (begun trio) trio_costs ∷ walk_by asked_counted (begun pinched) pinched_costs
    ∷ walk_by asked_counted (begun pinched) other_costs ∷ walk_by asked_counted (begun rotating) rotating_costs
    ∷ walk_by asked_counted (begun lone) lone_costs ∷ walk_by asked_counted (begun round) round_costs
    ∷ []

-- the trials that the documents give
unfoldable pub turns_stated : List (List (List ℕ))
turns_stated = trio_trials ∷ pinched_trials ∷ other_trials ∷ rotating_trials ∷ lone_trials ∷ round_trials ∷ []

-- the phase of a search over axis 1 from −8 to 8, start 5.1, step 0.7, and axis 2 of `odd`, with size E of these bits, after these costs
abbrev pub turns_then : ℕ → ℕ → List ℕ → Phase
turns_then e budget cs =
    (after_costs (begun (turning 2
    (two_axes (axis_at 0xc020_0000_0000_0000 0x4020_0000_0000_0000 0x4014_6666_6666_6666 0x3fe6_6666_6666_6666)
    (axis_at 0xc010_0000_0000_0000 0x4010_0000_0000_0000 0xbfd3_3333_3333_3333 0x3ff1_9999_9999_999a))
    e budget)) cs).phase

-- how searches stand by the rules
unfoldable pub turn_ends_given : List Phase
turn_ends_given =
    -- E at the edge and the float below it, where a reflection is lower, so that the base is another one
    turns_then 0x3fd2_ebc8_371f_3cc1 100 (40 ∷ 30 ∷ []) ∷ turns_then 0x3fd2_ebc8_371f_3cc0 100 (40 ∷ 30 ∷ [])
    -- E at the edge and the float below it, where a companion is lower
    ∷ turns_then 0x3fd0_2a0c_f1df_3085 100 (40 ∷ 41 ∷ 42 ∷ 43 ∷ 30 ∷ []) ∷ turns_then 0x3fd0_2a0c_f1df_3084 100 (40 ∷ 41 ∷ 42 ∷ 43 ∷ 30 ∷ [])
    -- E at the edge and the float below it, where the companions are halved, with a companion's reading
    ∷ turns_then 0x3fbb_8f69_6b08_a00a 100 (40 ∷ 41 ∷ 42 ∷ 43 ∷ 44 ∷ []) ∷ turns_then 0x3fbb_8f69_6b08_a009 100 (40 ∷ 41 ∷ 42 ∷ 43 ∷ 44 ∷ [])
    -- and with the last reflection's
    ∷ turns_then 0x3fbf_8e73_c6da_b77f 100 (40 ∷ 41 ∷ 30 ∷ 31 ∷ 32 ∷ []) ∷ turns_then 0x3fbf_8e73_c6da_b77e 100 (40 ∷ 41 ∷ 30 ∷ 31 ∷ 32 ∷ [])
    -- E 8, which every simplex here meets: not when the base is told, and not amid an iteration; at its end; not where a probe is lower, and at the
    -- end of the next
    ∷ turns_then 0x4020_0000_0000_0000 100 (40 ∷ []) ∷ turns_then 0x4020_0000_0000_0000 100 (40 ∷ 41 ∷ [])
    ∷ turns_then 0x4020_0000_0000_0000 100 (40 ∷ 41 ∷ 42 ∷ 43 ∷ []) ∷ turns_then 0x4020_0000_0000_0000 100 (40 ∷ 30 ∷ [])
    ∷ turns_then 0x4020_0000_0000_0000 100 (40 ∷ 30 ∷ 31 ∷ 32 ∷ 29 ∷ []) ∷ turns_then 0x4020_0000_0000_0000 100 (40 ∷ 30 ∷ 31 ∷ 32 ∷ 29 ∷ 28 ∷ [])
    -- the budget ends it: one reading before it the search goes on; with the n-th reflection, with a lower one, with one before the n-th, with a
    -- companion, with a lower one, and where they are halved
    ∷ turns_then least 4 (40 ∷ 41 ∷ 42 ∷ []) ∷ turns_then least 3 (40 ∷ 41 ∷ 42 ∷ []) ∷ turns_then least 3 (40 ∷ 41 ∷ 30 ∷ [])
    ∷ turns_then least 4 (40 ∷ 41 ∷ 30 ∷ 31 ∷ [])
    ∷ turns_then least 4 (40 ∷ 41 ∷ 42 ∷ 43 ∷ []) ∷ turns_then least 5 (40 ∷ 41 ∷ 42 ∷ 43 ∷ 30 ∷ [])
    ∷ turns_then least 5 (40 ∷ 41 ∷ 42 ∷ 43 ∷ 44 ∷ [])
    -- where the rule is met, amid a probe round, and at a lower probe; the last probe of a round settles it, at the budget too
    ∷ turns_then 0x4020_0000_0000_0000 3 (40 ∷ 41 ∷ 30 ∷ []) ∷ turns_then 0x4020_0000_0000_0000 4 (40 ∷ 41 ∷ 30 ∷ 31 ∷ [])
    ∷ turns_then 0x4020_0000_0000_0000 4 (40 ∷ 41 ∷ 30 ∷ 29 ∷ []) ∷ turns_then 0x4020_0000_0000_0000 7 (40 ∷ 41 ∷ 30 ∷ 31 ∷ 32 ∷ 33 ∷ 30 ∷ [])
    ∷ turns_then 0x4020_0000_0000_0000 100 (40 ∷ 41 ∷ 30 ∷ 31 ∷ 32 ∷ 33 ∷ 30 ∷ [])
    ∷ []

-- what the documents say of each, in this order
unfoldable pub turn_ends_stated : List Phase
turn_ends_stated =
    Probing 0 ∷ Mirroring 1
    ∷ Probing 0 ∷ Mirroring 1
    ∷ Probing 0 ∷ Mirroring 1
    ∷ Probing 0 ∷ Mirroring 1
    ∷ Mirroring 1 ∷ Mirroring 2 ∷ Checking 2 ∷ Probing 0 ∷ Mirroring 1 ∷ Probing 0
    ∷ Checking 1 ∷ Ended Budget ∷ Ended Budget ∷ Ended Budget ∷ Ended Budget ∷ Ended Budget ∷ Ended Budget
    ∷ Ended Budget ∷ Ended Budget ∷ Ended Budget ∷ Ended Settled ∷ Ended Settled
    ∷ []
