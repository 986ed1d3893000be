-- What a multidirectional search holds, part by part, at moments of the worked searches.
use Rattle.std.specs.Prelude.{List, [], ◌∷◌, ◌++◌, map, ℕ, take, replicate}
use Rattle.std.specs.Float.{binary64}
use Rattle.std.specs.Float.Ieee.{to_bits}
use Rattle.rules.specs.Accept.{accept}
use Rattle.rules.specs.Opening.{zero_axis}
use Rattle.rules.specs.History.{told}
use Rattle.rules.specs.Tally.{made, directed_in, probes_in, open_in}
use Rattle.rules.specs.Examples.{after_costs}
use Rattle.rules.specs.Walks.{axis_at, begun}
use Rattle.rules.specs.Parts.{at, run_of}
use Rattle.rules.specs.Causes.{with_phase, with_numbers}
use Rattle.rules.specs.Bases.{turning, least, trio, trio_costs, pinched, pinched_costs, rotating, round, round_costs}
use Rattle.rules.specs.declared.Method.TheVariants.{NelderMead}
use Rattle.rules.specs.declared.Opening.{Opening}
use Rattle.rules.specs.declared.Piece.TheVariants.{Build, Reflection, Shrink, Pattern}
use Rattle.rules.specs.declared.Phase.{Phase}
use Rattle.rules.specs.declared.Phase.TheVariants.{Building, Reflecting, Expanding, Contracting, Shrinking, Basing, Mirroring, Checking, Probing, Ended}
use Rattle.rules.specs.declared.Side.TheVariants.{Outside, Inside}
use Rattle.rules.specs.declared.Cause.TheVariants.{Settled, Budget}
use Rattle.rules.specs.declared.Search.{Search}

-- the phase and its detail, as docs/REPLAY.md numbers them
abbrev pub stage : Phase → List ℕ
stage (Building i) = 0 ∷ i ∷ []
stage Reflecting = 1 ∷ 0 ∷ []
stage Expanding = 2 ∷ 0 ∷ []
stage (Contracting Outside) = 3 ∷ 0 ∷ []
stage (Contracting Inside) = 4 ∷ 0 ∷ []
stage (Shrinking j) = 5 ∷ j ∷ []
stage (Probing p) = 6 ∷ p ∷ []
stage (Ended Settled) = 7 ∷ 0 ∷ []
stage (Ended Budget) = 8 ∷ 0 ∷ []
stage Basing = 9 ∷ 0 ∷ []
stage (Mirroring i) = 10 ∷ i ∷ []
stage (Checking i) = 11 ∷ i ∷ []

-- the phase; the costs and the numbers at the nine places of base and companions, and the stops there; the gathered costs and numbers; readings,
-- finished iterations, the readings in them, probes, open, the best's cost and number
abbrev pub holds : Search → List (List ℕ)
holds s =
    stage s.phase ∷ s.standing.costs ∷ s.standing.numbers ∷ s.stops ∷ s.gathered.costs ∷ s.gathered.numbers
    ∷ (s.readings ∷ s.counts.patterns ∷ s.counts.directed ∷ s.counts.probes ∷ s.counts.unfinished ∷ s.best.cost ∷ s.best.number ∷ [])
    ∷ []

-- three axes of which two clamp the step back or a reflection: that of `between`; from −1 to 0.6, start 0.3, step 0.8; axis 3 of `wide`
abbrev pub thick : Opening
thick =
    turning 3
    (axis_at 0xbfec_efed_cc22_af58 0x3ff7_af02_08d6_af57 0x3fd2_6e16_458a_af56 0x3ff3_137c_7774_0382
    ∷ axis_at 0xbff0_0000_0000_0000 0x3fe3_3333_3333_3333 0x3fd3_3333_3333_3333 0x3fe9_9999_9999_999a
    ∷ axis_at 0xc000_0000_0000_0000 0x4018_0000_0000_0000 0x3fe6_6666_6666_6666 0x3fd3_3333_3333_3333 ∷ replicate 5 zero_axis) least 100

-- eight axes, all that of `between`
abbrev pub eight : Opening
eight = turning 8 (replicate 8 (axis_at 0xbfec_efed_cc22_af58 0x3ff7_af02_08d6_af57 0x3fd2_6e16_458a_af56 0x3ff3_137c_7774_0382)) least 100

-- what a search holds by the rules
unfoldable pub moments_given : List (List (List ℕ))
moments_given =
    -- as opened; after the base: companion 2 is clamped when it is built; a reflection that is not lower; the n-th
    holds (at pinched pinched_costs 0) ∷ holds (at pinched pinched_costs 1) ∷ holds (at pinched pinched_costs 2)
    ∷ holds (at pinched pinched_costs 3)
    -- companion 1 is lower: the reflections are forgotten, and companion 2 keeps its stops; with the n-th reflection again; companion 2 is not
    -- lower, and is halved with the other
    ∷ holds (at pinched pinched_costs 4) ∷ holds (at pinched pinched_costs 6) ∷ holds (at pinched pinched_costs 7)
    -- a lower reflection 1: companion 2 is a clamped reflection; a lower reflection 2: companion 1 is a reflection that was told; a lower companion
    -- 2: its place has no stops
    ∷ holds (after_costs (begun pinched) (47 ∷ 40 ∷ [])) ∷ holds (after_costs (begun pinched) (47 ∷ 50 ∷ 40 ∷ []))
    ∷ holds (after_costs (begun pinched) (47 ∷ 50 ∷ 47 ∷ 48 ∷ 40 ∷ []))
    -- companion 1 is read; companion 2 is lower; then reflection 1; then reflection 2; then reflection 3
    ∷ holds (at trio trio_costs 5) ∷ holds (at trio trio_costs 6) ∷ holds (at trio trio_costs 7) ∷ holds (at trio trio_costs 9)
    ∷ holds (at trio trio_costs 12)
    -- amid the next iteration; halved with the third reflection; amid the companions; halved with the third
    ∷ holds (at trio trio_costs 14) ∷ holds (at trio trio_costs 15) ∷ holds (at trio trio_costs 19) ∷ holds (at trio trio_costs 21)
    -- three axes that clamp: a lower reflection 2; companion 1 is read, and keeps its stops; companion 2 is lower, and the others keep theirs
    ∷ holds (after_costs (begun thick) (40 ∷ 41 ∷ 30 ∷ [])) ∷ holds (after_costs (begun thick) (40 ∷ 41 ∷ 42 ∷ 43 ∷ 44 ∷ []))
    ∷ holds (after_costs (begun thick) (40 ∷ 41 ∷ 42 ∷ 43 ∷ 44 ∷ 30 ∷ []))
    -- eight axes, each with a stop
    ∷ holds (after_costs (begun eight) (40 ∷ []))
    -- amid a probe round; a lower probe: the companions are built around it; amid the round that settles the search; after it
    ∷ holds (at round round_costs 7) ∷ holds (at round round_costs 8) ∷ holds (at round round_costs 18) ∷ holds (at round round_costs 20)
    ∷ []

-- what the documents say of each, in this order
unfoldable pub moments_stated : List (List (List ℕ))
moments_stated =
    ((9 ∷ 0 ∷ []) ∷ (replicate 9 0) ∷ (replicate 9 0) ∷ (replicate 9 0) ∷ (replicate 9 0) ∷ (replicate 9 0) ∷ (replicate 7 0) ∷ [])
    ∷ ((10 ∷ 1 ∷ []) ∷ (47 ∷ replicate 8 0) ∷ (1 ∷ replicate 8 0) ∷ (0 ∷ 0 ∷ 1 ∷ replicate 6 0) ∷ (replicate 9 0) ∷ (replicate 9 0)
    ∷ (1 ∷ replicate 4 0 ++ 47 ∷ 1 ∷ []) ∷ [])
    ∷ ((10 ∷ 2 ∷ []) ∷ (47 ∷ replicate 8 0) ∷ (1 ∷ replicate 8 0) ∷ (0 ∷ 0 ∷ 1 ∷ replicate 6 0) ∷ (50 ∷ replicate 8 0) ∷ (2 ∷ replicate 8 0)
    ∷ (2 ∷ 0 ∷ 1 ∷ 0 ∷ 0 ∷ 47 ∷ 1 ∷ []) ∷ [])
    ∷ ((11 ∷ 1 ∷ []) ∷ (47 ∷ replicate 8 0) ∷ (1 ∷ replicate 8 0) ∷ (0 ∷ 0 ∷ 1 ∷ replicate 6 0) ∷ (50 ∷ 47 ∷ replicate 7 0)
    ∷ (2 ∷ 3 ∷ replicate 7 0) ∷ (3 ∷ 0 ∷ 2 ∷ 0 ∷ 0 ∷ 47 ∷ 1 ∷ []) ∷ [])
    ∷ ((10 ∷ 1 ∷ []) ∷ (40 ∷ 47 ∷ replicate 7 0) ∷ (4 ∷ 1 ∷ replicate 7 0) ∷ (0 ∷ 0 ∷ 1 ∷ replicate 6 0) ∷ (replicate 9 0) ∷ (replicate 9 0)
    ∷ (4 ∷ 1 ∷ 3 ∷ 0 ∷ 0 ∷ 40 ∷ 4 ∷ []) ∷ [])
    ∷ ((11 ∷ 2 ∷ []) ∷ (40 ∷ 47 ∷ replicate 7 0) ∷ (4 ∷ 1 ∷ replicate 7 0) ∷ (0 ∷ 0 ∷ 1 ∷ replicate 6 0) ∷ (44 ∷ 43 ∷ replicate 7 0)
    ∷ (5 ∷ 6 ∷ replicate 7 0) ∷ (6 ∷ 1 ∷ 5 ∷ 0 ∷ 0 ∷ 40 ∷ 4 ∷ []) ∷ [])
    ∷ ((10 ∷ 1 ∷ []) ∷ (40 ∷ replicate 8 0) ∷ (4 ∷ replicate 8 0) ∷ (replicate 9 0) ∷ (replicate 9 0) ∷ (replicate 9 0)
    ∷ (7 ∷ 2 ∷ 6 ∷ 0 ∷ 0 ∷ 40 ∷ 4 ∷ []) ∷ [])
    ∷ ((10 ∷ 1 ∷ []) ∷ (40 ∷ 47 ∷ replicate 7 0) ∷ (2 ∷ 1 ∷ replicate 7 0) ∷ (0 ∷ 0 ∷ 1 ∷ replicate 6 0) ∷ (replicate 9 0) ∷ (replicate 9 0)
    ∷ (2 ∷ 1 ∷ 1 ∷ 0 ∷ 0 ∷ 40 ∷ 2 ∷ []) ∷ [])
    ∷ ((10 ∷ 1 ∷ []) ∷ (40 ∷ 50 ∷ 47 ∷ replicate 6 0) ∷ (3 ∷ 2 ∷ 1 ∷ replicate 6 0) ∷ (replicate 9 0) ∷ (replicate 9 0) ∷ (replicate 9 0)
    ∷ (3 ∷ 1 ∷ 2 ∷ 0 ∷ 0 ∷ 40 ∷ 3 ∷ []) ∷ [])
    ∷ ((10 ∷ 1 ∷ []) ∷ (40 ∷ 48 ∷ 47 ∷ replicate 6 0) ∷ (5 ∷ 4 ∷ 1 ∷ replicate 6 0) ∷ (replicate 9 0) ∷ (replicate 9 0) ∷ (replicate 9 0)
    ∷ (5 ∷ 1 ∷ 4 ∷ 0 ∷ 0 ∷ 40 ∷ 5 ∷ []) ∷ [])
    ∷ ((11 ∷ 2 ∷ []) ∷ (90 ∷ 90 ∷ replicate 7 0) ∷ (1 ∷ 5 ∷ replicate 7 0) ∷ (replicate 9 0) ∷ (90 ∷ 95 ∷ 97 ∷ replicate 6 0)
    ∷ (2 ∷ 3 ∷ 4 ∷ replicate 6 0) ∷ (5 ∷ 0 ∷ 4 ∷ 0 ∷ 0 ∷ 90 ∷ 1 ∷ []) ∷ [])
    ∷ ((10 ∷ 1 ∷ []) ∷ (80 ∷ 90 ∷ 90 ∷ replicate 6 0) ∷ (6 ∷ 5 ∷ 1 ∷ replicate 6 0) ∷ (replicate 9 0) ∷ (replicate 9 0) ∷ (replicate 9 0)
    ∷ (6 ∷ 1 ∷ 5 ∷ 0 ∷ 0 ∷ 80 ∷ 6 ∷ []) ∷ [])
    ∷ ((10 ∷ 1 ∷ []) ∷ (70 ∷ 80 ∷ replicate 7 0) ∷ (7 ∷ 6 ∷ replicate 7 0) ∷ (replicate 9 0) ∷ (replicate 9 0) ∷ (replicate 9 0)
    ∷ (7 ∷ 2 ∷ 6 ∷ 0 ∷ 0 ∷ 70 ∷ 7 ∷ []) ∷ [])
    ∷ ((10 ∷ 1 ∷ []) ∷ (60 ∷ 70 ∷ 70 ∷ replicate 6 0) ∷ (9 ∷ 8 ∷ 7 ∷ replicate 6 0) ∷ (replicate 9 0) ∷ (replicate 9 0) ∷ (replicate 9 0)
    ∷ (9 ∷ 3 ∷ 8 ∷ 0 ∷ 0 ∷ 60 ∷ 9 ∷ []) ∷ [])
    ∷ ((10 ∷ 1 ∷ []) ∷ (50 ∷ 66 ∷ 60 ∷ 60 ∷ replicate 5 0) ∷ (12 ∷ 10 ∷ 11 ∷ 9 ∷ replicate 5 0) ∷ (replicate 9 0) ∷ (replicate 9 0)
    ∷ (replicate 9 0) ∷ (12 ∷ 4 ∷ 11 ∷ 0 ∷ 0 ∷ 50 ∷ 12 ∷ []) ∷ [])
    ∷ ((10 ∷ 3 ∷ []) ∷ (50 ∷ 66 ∷ 60 ∷ 60 ∷ replicate 5 0) ∷ (12 ∷ 10 ∷ 11 ∷ 9 ∷ replicate 5 0) ∷ (replicate 9 0) ∷ (55 ∷ 50 ∷ replicate 7 0)
    ∷ (13 ∷ 14 ∷ replicate 7 0) ∷ (14 ∷ 4 ∷ 13 ∷ 0 ∷ 0 ∷ 50 ∷ 12 ∷ []) ∷ [])
    ∷ ((10 ∷ 1 ∷ []) ∷ (50 ∷ replicate 8 0) ∷ (12 ∷ replicate 8 0) ∷ (replicate 9 0) ∷ (replicate 9 0) ∷ (replicate 9 0)
    ∷ (15 ∷ 5 ∷ 14 ∷ 0 ∷ 0 ∷ 50 ∷ 12 ∷ []) ∷ [])
    ∷ ((11 ∷ 2 ∷ []) ∷ (50 ∷ 54 ∷ replicate 7 0) ∷ (12 ∷ 19 ∷ replicate 7 0) ∷ (replicate 9 0) ∷ (51 ∷ 52 ∷ 53 ∷ replicate 6 0)
    ∷ (16 ∷ 17 ∷ 18 ∷ replicate 6 0) ∷ (19 ∷ 5 ∷ 18 ∷ 0 ∷ 0 ∷ 50 ∷ 12 ∷ []) ∷ [])
    ∷ ((10 ∷ 1 ∷ []) ∷ (50 ∷ replicate 8 0) ∷ (12 ∷ replicate 8 0) ∷ (replicate 9 0) ∷ (replicate 9 0) ∷ (replicate 9 0)
    ∷ (21 ∷ 6 ∷ 20 ∷ 0 ∷ 0 ∷ 50 ∷ 12 ∷ []) ∷ [])
    ∷ ((10 ∷ 1 ∷ []) ∷ (30 ∷ 41 ∷ 40 ∷ replicate 6 0) ∷ (3 ∷ 2 ∷ 1 ∷ replicate 6 0) ∷ (replicate 9 0) ∷ (replicate 9 0) ∷ (replicate 9 0)
    ∷ (3 ∷ 1 ∷ 2 ∷ 0 ∷ 0 ∷ 30 ∷ 3 ∷ []) ∷ [])
    ∷ ((11 ∷ 2 ∷ []) ∷ (40 ∷ 44 ∷ replicate 7 0) ∷ (1 ∷ 5 ∷ replicate 7 0) ∷ (0 ∷ 1 ∷ replicate 7 0) ∷ (41 ∷ 42 ∷ 43 ∷ replicate 6 0)
    ∷ (2 ∷ 3 ∷ 4 ∷ replicate 6 0) ∷ (5 ∷ 0 ∷ 4 ∷ 0 ∷ 0 ∷ 40 ∷ 1 ∷ []) ∷ [])
    ∷ ((10 ∷ 1 ∷ []) ∷ (30 ∷ 44 ∷ 40 ∷ replicate 6 0) ∷ (6 ∷ 5 ∷ 1 ∷ replicate 6 0) ∷ (0 ∷ 1 ∷ replicate 7 0) ∷ (replicate 9 0) ∷ (replicate 9 0)
    ∷ (6 ∷ 1 ∷ 5 ∷ 0 ∷ 0 ∷ 30 ∷ 6 ∷ []) ∷ [])
    ∷ ((10 ∷ 1 ∷ []) ∷ (40 ∷ replicate 8 0) ∷ (1 ∷ replicate 8 0) ∷ (0 ∷ replicate 8 1) ∷ (replicate 9 0) ∷ (replicate 9 0)
    ∷ (1 ∷ replicate 4 0 ++ 40 ∷ 1 ∷ []) ∷ [])
    ∷ ((6 ∷ 2 ∷ []) ∷ (40 ∷ replicate 8 0) ∷ (1 ∷ replicate 8 0) ∷ (replicate 9 0) ∷ (replicate 9 0) ∷ (replicate 9 0)
    ∷ (7 ∷ 1 ∷ 4 ∷ 2 ∷ 0 ∷ 40 ∷ 1 ∷ []) ∷ [])
    ∷ ((10 ∷ 1 ∷ []) ∷ (30 ∷ replicate 8 0) ∷ (8 ∷ replicate 8 0) ∷ (replicate 9 0) ∷ (replicate 9 0) ∷ (replicate 9 0)
    ∷ (8 ∷ 1 ∷ 4 ∷ 3 ∷ 0 ∷ 30 ∷ 8 ∷ []) ∷ [])
    ∷ ((6 ∷ 2 ∷ []) ∷ (25 ∷ replicate 8 0) ∷ (9 ∷ replicate 8 0) ∷ (replicate 9 0) ∷ (replicate 9 0) ∷ (replicate 9 0)
    ∷ (18 ∷ 4 ∷ 12 ∷ 5 ∷ 0 ∷ 25 ∷ 9 ∷ []) ∷ [])
    ∷ ((7 ∷ 0 ∷ []) ∷ (25 ∷ replicate 8 0) ∷ (9 ∷ replicate 8 0) ∷ (replicate 9 0) ∷ (replicate 9 0) ∷ (replicate 9 0)
    ∷ (20 ∷ 4 ∷ 12 ∷ 7 ∷ 0 ∷ 25 ∷ 9 ∷ []) ∷ [])
    ∷ []

-- the standing and the gathered run by the rules
unfoldable pub turn_runs_given : List (List ℕ)
turn_runs_given =
    -- a lower reflection 2 of three: the base, the reflection told before it, the old base, and the reflection that is unread
    run_of (at trio trio_costs 9).standing
    -- two reflections are told
    ∷ run_of (at trio trio_costs 11).gathered
    -- companion 1 of two is read, and companion 2 is not
    ∷ run_of (after_costs (begun rotating) (30 ∷ 31 ∷ 32 ∷ 33 ∷ [])).standing
    ∷ []

-- what the documents say of each, in this order
unfoldable pub turn_runs_stated : List (List ℕ)
turn_runs_stated =
    ((0xbff4_cccc_cccc_cccc ∷ 0x3ffe_6666_6666_6667 ∷ 0x3fe6_6666_6666_6666 ∷ replicate 5 0)
    ++ (0xbff4_cccc_cccc_cccc ∷ 0x4008_0000_0000_0000 ∷ 0x3fe6_6666_6666_6666 ∷ replicate 5 0)
    ++ (0xbfe3_3333_3333_3333 ∷ 0x3ffe_6666_6666_6667 ∷ 0x3fe6_6666_6666_6666 ∷ replicate 5 0)
    ++ (0xbff4_cccc_cccc_cccc ∷ 0x3ffe_6666_6666_6667 ∷ 0x3ff0_0000_0000_0000 ∷ replicate 5 0)
    ++ replicate 40 0)
    ∷ ((0xbff4_cccc_cccc_cccc ∷ 0x3fe9_9999_9999_999c ∷ 0x3fe6_6666_6666_6666 ∷ replicate 5 0)
    ++ (0xbfff_ffff_ffff_fffe ∷ 0x3ffe_6666_6666_6667 ∷ 0x3fe6_6666_6666_6666 ∷ replicate 5 0)
    ++ replicate 56 0)
    ∷ ((0x3ffb_3333_3333_3333 ∷ 0x3fd3_3333_3333_3333 ∷ replicate 6 0)
    ++ (0x3fd9_9999_9999_9998 ∷ 0x3fd3_3333_3333_3333 ∷ replicate 6 0)
    ++ (0x3ffb_3333_3333_3333 ∷ 0xbfe0_0000_0000_0000 ∷ replicate 6 0)
    ++ replicate 48 0)
    ∷ []

-- the point that a build goes around, by the bits of its eight coordinates
abbrev pub center_bits : Search → List ℕ
center_bits s = map (to_bits binary64) s.center

-- the search s in the other method, which no call makes
abbrev pub as_nm : Search → Search
as_nm s = record s { method = NelderMead }

-- such points by the rules
unfoldable pub centers_given : List (List ℕ)
centers_given =
    -- as opened; after the base; after a lower reflection, a lower companion and a halving
    center_bits (at round round_costs 0) ∷ center_bits (at round round_costs 1) ∷ center_bits (after_costs (begun round) (40 ∷ 30 ∷ []))
    ∷ center_bits (after_costs (begun round) (40 ∷ 41 ∷ 42 ∷ 30 ∷ []))
    ∷ center_bits (at round round_costs 5)
    -- after a probe that is not lower; after a lower one; after a swap then
    ∷ center_bits (at round round_costs 7) ∷ center_bits (at round round_costs 8) ∷ center_bits (at round round_costs 9)
    -- with Nelder-Mead: a base, and a lower probe; in this method a base at another point than the start
    ∷ center_bits (accept (as_nm (at round round_costs 0)) 40) ∷ center_bits (accept (as_nm (at round round_costs 5)) 39)
    ∷ center_bits (accept (with_phase Basing (at round round_costs 8)) 50)
    ∷ []

-- what the documents say of each, in this order
unfoldable pub centers_stated : List (List ℕ)
centers_stated =
    (0x3fb9_9999_9999_999a ∷ 0xbfd3_3333_3333_3333 ∷ replicate 6 0)
    ∷ (0x3fb9_9999_9999_999a ∷ 0xbfd3_3333_3333_3333 ∷ replicate 6 0) ∷ (0x3fb9_9999_9999_999a ∷ 0xbfd3_3333_3333_3333 ∷ replicate 6 0)
    ∷ (0x3fb9_9999_9999_999a ∷ 0xbfd3_3333_3333_3333 ∷ replicate 6 0) ∷ (0x3fb9_9999_9999_999a ∷ 0xbfd3_3333_3333_3333 ∷ replicate 6 0)
    ∷ (0x3fb9_9999_9999_999a ∷ 0xbfd3_3333_3333_3333 ∷ replicate 6 0) ∷ (0x3fb9_9999_9999_999a ∷ 0xbfd3_2199_9999_9999 ∷ replicate 6 0)
    ∷ (0x3fb9_9999_9999_999a ∷ 0xbfd3_2199_9999_9999 ∷ replicate 6 0)
    ∷ (0x3fb9_9999_9999_999a ∷ 0xbfd3_3333_3333_3333 ∷ replicate 6 0) ∷ (0x3fb9_c666_6666_6667 ∷ 0xbfd3_3333_3333_3333 ∷ replicate 6 0)
    ∷ (0x3fb9_9999_9999_999a ∷ 0xbfd3_2199_9999_9999 ∷ replicate 6 0)
    ∷ []

-- the tally of the history that these costs are, told to the search s: finished iterations, builds, reflections and shrinks; readings in iterations;
-- probe readings; open ones
abbrev pub tally_of : Search → List ℕ → List ℕ
tally_of s cs =
    let h = map told cs in
    made Pattern s h ∷ made Build s h ∷ made Reflection s h ∷ made Shrink s h ∷ directed_in s h ∷ probes_in s h ∷ open_in 0 s h ∷ []

-- that of the first k costs of a worked search
abbrev pub turn_tallied : Opening → List ℕ → ℕ → List ℕ
turn_tallied o cs k = tally_of (begun o) (take k cs)

-- tallies by the rules
unfoldable pub turn_tallies_given : List (List ℕ)
turn_tallies_given =
    turn_tallied trio trio_costs 1 ∷ turn_tallied trio trio_costs 4 ∷ turn_tallied trio trio_costs 6 ∷ turn_tallied trio trio_costs 15
    ∷ turn_tallied trio trio_costs 20
    ∷ turn_tallied trio trio_costs 21 ∷ turn_tallied round round_costs 6 ∷ turn_tallied round round_costs 8 ∷ turn_tallied round round_costs 20
    -- of three companions the second is read: the first ends no iteration; the last two are read: it does, and so does reflection 3 where all are
    ∷ tally_of (with_phase (Checking 1) (with_numbers (1 ∷ 0 ∷ 5 ∷ 0 ∷ []) (at trio trio_costs 1))) (90 ∷ [])
    ∷ tally_of (with_phase (Checking 1) (with_numbers (1 ∷ 0 ∷ 5 ∷ 6 ∷ []) (at trio trio_costs 1))) (90 ∷ [])
    ∷ tally_of (with_phase (Mirroring 3) (with_numbers (0 ∷ 5 ∷ 6 ∷ 7 ∷ []) (at trio trio_costs 1))) (90 ∷ [])
    ∷ []

-- what the documents say of each, in this order
unfoldable pub turn_tallies_stated : List (List ℕ)
turn_tallies_stated =
    (0 ∷ 0 ∷ 0 ∷ 0 ∷ 0 ∷ 0 ∷ 0 ∷ []) ∷ (0 ∷ 0 ∷ 0 ∷ 0 ∷ 3 ∷ 0 ∷ 0 ∷ []) ∷ (1 ∷ 0 ∷ 0 ∷ 0 ∷ 5 ∷ 0 ∷ 0 ∷ [])
    ∷ (5 ∷ 0 ∷ 0 ∷ 0 ∷ 14 ∷ 0 ∷ 0 ∷ []) ∷ (5 ∷ 0 ∷ 0 ∷ 0 ∷ 19 ∷ 0 ∷ 0 ∷ []) ∷ (6 ∷ 0 ∷ 0 ∷ 0 ∷ 20 ∷ 0 ∷ 0 ∷ [])
    ∷ (1 ∷ 0 ∷ 0 ∷ 0 ∷ 4 ∷ 1 ∷ 0 ∷ []) ∷ (1 ∷ 0 ∷ 0 ∷ 0 ∷ 4 ∷ 3 ∷ 0 ∷ []) ∷ (4 ∷ 0 ∷ 0 ∷ 0 ∷ 12 ∷ 7 ∷ 0 ∷ [])
    ∷ (0 ∷ 0 ∷ 0 ∷ 0 ∷ 1 ∷ 0 ∷ 0 ∷ []) ∷ (1 ∷ 0 ∷ 0 ∷ 0 ∷ 1 ∷ 0 ∷ 0 ∷ []) ∷ (1 ∷ 0 ∷ 0 ∷ 0 ∷ 1 ∷ 0 ∷ 0 ∷ [])
    ∷ []
