-- Worked cases of a trial's stops: its count beside its coordinates, where an axis counts, and where it stands on a limit and does not.
use Rattle.std.specs.Prelude.{cond, List, [], ◌∷◌, ◌++◌, map, ℕ, replicate, Some, Result, Ok, Err}
use Rattle.std.specs.Float.{binary64}
use Rattle.std.specs.Float.Ieee.{to_bits}
use Rattle.rules.specs.View.{is_ended}
use Rattle.rules.specs.Trial.{trial}
use Rattle.rules.specs.Opening.{zero_axis}
use Rattle.rules.specs.Numbers.{usual}
use Rattle.rules.specs.Calls.{asking}
use Rattle.rules.specs.Cases.{two_axes}
use Rattle.rules.specs.Walks.{axis_at, coefficients_at, odd_coefficients, begun, asked_bits, walk_by, odd, odd_costs, wide, wide_costs, zeros, zeros_costs, rounds, rounds_costs}
use Rattle.rules.specs.Parts.{at}
use Rattle.rules.specs.Causes.{with_phase}
use Rattle.rules.specs.declared.Method.TheVariants.{NelderMead}
use Rattle.rules.specs.declared.Axis.{Axis}
use Rattle.rules.specs.declared.Opening.{Opening}
use Rattle.rules.specs.declared.Rule.TheVariants.{Spread}
use Rattle.rules.specs.declared.Phase.TheVariants.{Probing, Ended}
use Rattle.rules.specs.declared.Cause.TheVariants.{Settled}
use Rattle.rules.specs.declared.Search.{Search}
use Rattle.rules.specs.declared.Asked.{Asked}
use Rattle.rules.specs.declared.Refusal.{Refusal}

-- the stops of the trial that a search asks for; none where it has ended
abbrev pub asked_stops : Search → List ℕ
asked_stops s = cond (is_ended s.phase) [] ((trial s).stops ∷ [])

-- its coordinates by their bits, and then its stops
abbrev pub asked_counted : Search → List ℕ
asked_counted s = asked_bits s ++ asked_stops s

-- two narrow axes: axis 1 from −0.6 to 1.8, start 0.7, step 1.1, so start + step is hi; axis 2 from −1 to 0.6, start 0.3, step 0.8, so it is past hi
abbrev pub narrow : Opening
narrow =
    record {
      method = NelderMead;
      n = 2;
      axes = two_axes (axis_at 0xbfe3_3333_3333_3333 0x3ffc_cccc_cccc_cccd 0x3fe6_6666_6666_6666 0x3ff1_9999_9999_999a)
          (axis_at 0xbff0_0000_0000_0000 0x3fe3_3333_3333_3333 0x3fd3_3333_3333_3333 0x3fe9_9999_9999_999a);
      rule = Some (Spread 1);
      coefficients = odd_coefficients;
      budget = 100;
    }

-- the costs told to it
abbrev pub narrow_costs : List ℕ
narrow_costs = 47 ∷ 59 ∷ 36 ∷ 33 ∷ 19 ∷ 16 ∷ 8 ∷ 31 ∷ 33 ∷ 26 ∷ 37 ∷ 4 ∷ 35 ∷ 9 ∷ 24 ∷ 38 ∷ 44 ∷ 3 ∷ 32 ∷ 57 ∷ []

-- its trials, each with its stops
abbrev pub narrow_trials : List (List ℕ)
narrow_trials =
    -- the build (47, 59, 36): axis 1 stands on hi unclamped; axis 2 steps back, which is no stop
    (0x3fe6_6666_6666_6666 ∷ 0x3fd3_3333_3333_3333 ∷ 0 ∷ []) ∷ (0x3ffc_cccc_cccc_cccd ∷ 0x3fd3_3333_3333_3333 ∷ 0 ∷ [])
    ∷ (0x3fe6_6666_6666_6666 ∷ 0xbfe0_0000_0000_0000 ∷ 0 ∷ [])
    -- r is within, e is not on axis 1
    ∷ (0xbfb1_eb85_1eb8_51f0 ∷ 0xbfd8_51eb_851e_b852 ∷ 0 ∷ []) ∷ (0xbfe3_3333_3333_3333 ∷ 0xbfe4_3958_1062_4dd3 ∷ 1 ∷ [])
    -- r is not on axis 2, e on neither
    ∷ (0xbfd9_eb85_1eb8_51ea ∷ 0xbff0_0000_0000_0000 ∷ 1 ∷ []) ∷ (0xbfe3_3333_3333_3333 ∷ 0xbff0_0000_0000_0000 ∷ 2 ∷ [])
    -- r is on neither, the outside point, which goes from the clamped r, is on both; a shrink
    ∷ (0xbfe3_3333_3333_3333 ∷ 0xbff0_0000_0000_0000 ∷ 2 ∷ []) ∷ (0xbfe3_3333_3333_3333 ∷ 0xbfeb_e0de_d288_ce71 ∷ 0 ∷ [])
    ∷ (0xbfe3_3333_3333_3333 ∷ 0xbfe8_ef34_d6a1_61e5 ∷ 0 ∷ []) ∷ (0x3fc7_0a3d_70a3_d708 ∷ 0xbfe6_6666_6666_6666 ∷ 0 ∷ [])
    -- r is on neither; c stands on lo on axis 1, as r does, and so does e, unclamped there
    ∷ (0xbfe3_3333_3333_3333 ∷ 0xbff0_0000_0000_0000 ∷ 2 ∷ []) ∷ (0xbfe3_3333_3333_3333 ∷ 0xbff0_0000_0000_0000 ∷ 1 ∷ [])
    -- r is not on axis 2; the outside point stands on lo on both axes, unclamped; a shrink
    ∷ (0xbfe3_3333_3333_3333 ∷ 0xbff0_0000_0000_0000 ∷ 1 ∷ []) ∷ (0xbfe3_3333_3333_3333 ∷ 0xbff0_0000_0000_0000 ∷ 0 ∷ [])
    ∷ (0xbfe3_3333_3333_3333 ∷ 0xbff0_0000_0000_0000 ∷ 0 ∷ []) ∷ (0xbfe3_3333_3333_3333 ∷ 0xbfeb_c2b9_4d94_078a ∷ 0 ∷ [])
    -- r is not on axis 2; e, from the clamped r, is on both
    ∷ (0xbfe3_3333_3333_3333 ∷ 0xbff0_0000_0000_0000 ∷ 1 ∷ []) ∷ (0xbfe3_3333_3333_3333 ∷ 0xbff0_0000_0000_0000 ∷ 0 ∷ [])
    -- r and the inside point stand on both lo, unclamped
    ∷ (0xbfe3_3333_3333_3333 ∷ 0xbff0_0000_0000_0000 ∷ 0 ∷ []) ∷ (0xbfe3_3333_3333_3333 ∷ 0xbff0_0000_0000_0000 ∷ 0 ∷ [])
    ∷ []

-- start + step is above hi, and start − step below lo, since (hi − lo)/2 rounds up: docs/DECISIONS.md, 2
abbrev pub between : Opening
between =
    record {
      method = NelderMead;
      n = 1;
      axes = axis_at 0xbfec_efed_cc22_af58 0x3ff7_af02_08d6_af57 0x3fd2_6e16_458a_af56 0x3ff3_137c_7774_0382 ∷ replicate 7 zero_axis;
      rule = Some (Spread 1);
      coefficients = usual;
      budget = 100;
    }

-- the build (5, 9): the step back is clamped to lo, a stop; r is past hi
abbrev pub between_trials : List (List ℕ)
between_trials = (0x3fd2_6e16_458a_af56 ∷ 0 ∷ []) ∷ (0xbfec_efed_cc22_af58 ∷ 1 ∷ []) ∷ (0x3ff7_af02_08d6_af57 ∷ 1 ∷ []) ∷ []

-- all vertices but one stand on hi on axis 1, and the centroid rounds past it: axis 1 from −8 to 0.8, start 0.8, step 2.8; axes 2 and 3 from −8
-- to 8, start 0, step 1; α 4, χ 1.9, β 0.4, σ 0.6
abbrev pub level : Opening
level =
    record {
      method = NelderMead;
      n = 3;
      axes = axis_at 0xc020_0000_0000_0000 0x3fe9_9999_9999_999a 0x3fe9_9999_9999_999a 0x4006_6666_6666_6666
          ∷ axis_at 0xc020_0000_0000_0000 0x4020_0000_0000_0000 0 0x3ff0_0000_0000_0000
          ∷ axis_at 0xc020_0000_0000_0000 0x4020_0000_0000_0000 0 0x3ff0_0000_0000_0000 ∷ replicate 5 zero_axis;
      rule = Some (Spread 1);
      coefficients = coefficients_at 0x4010_0000_0000_0000 0x3ffe_6666_6666_6666 0x3fd9_9999_9999_999a 0x3fe3_3333_3333_3333;
      budget = 100;
    }

-- its trials, each with its stops
abbrev pub level_trials : List (List ℕ)
level_trials =
    -- the build (25, 25, 14, 5): the start stands on hi, and axis 1 steps back
    (0x3fe9_9999_9999_999a ∷ 0 ∷ 0 ∷ 0 ∷ []) ∷ (0xbfff_ffff_ffff_ffff ∷ 0 ∷ 0 ∷ 0 ∷ [])
    ∷ (0x3fe9_9999_9999_999a ∷ 0x3ff0_0000_0000_0000 ∷ 0 ∷ 0 ∷ []) ∷ (0x3fe9_9999_9999_999a ∷ 0 ∷ 0x3ff0_0000_0000_0000 ∷ 0 ∷ [])
    -- fr 24 is not below f1 5, and below fn 25: r is taken, clamped to hi on axis 1
    ∷ (0x3fe9_9999_9999_999a ∷ 0x3ffa_aaaa_aaaa_aaaa ∷ 0x3ffa_aaaa_aaaa_aaaa ∷ 1 ∷ [])
    -- now all four stand on hi: r and the inside point go from a c past it, and both are clamped
    ∷ (0x3fe9_9999_9999_999a ∷ 0x4011_c71c_71c7_1c72 ∷ 0x4011_c71c_71c7_1c72 ∷ 1 ∷ [])
    ∷ (0x3fe9_9999_9999_999a ∷ 0x3fe1_1111_1111_1110 ∷ 0x3fe1_1111_1111_1110 ∷ 1 ∷ [])
    ∷ []

-- the stops of this many trials, one a row
abbrev pub counts : List ℕ → List (List ℕ)
counts ks = map (λ (k : ℕ). k ∷ []) ks

-- what the rules give, search by search
unfoldable pub stops_given : List (List (List ℕ))
stops_given =
    walk_by asked_counted (begun narrow) narrow_costs
    ∷ walk_by asked_counted (begun between) (5 ∷ 9 ∷ [])
    ∷ walk_by asked_counted (begun level) (25 ∷ 25 ∷ 14 ∷ 5 ∷ 24 ∷ 33 ∷ [])
    ∷ walk_by asked_stops (begun odd) odd_costs
    ∷ walk_by asked_stops (begun wide) wide_costs
    ∷ walk_by asked_stops (begun zeros) zeros_costs
    ∷ walk_by asked_stops (begun rounds) rounds_costs
    ∷ []

-- what document 02 says of each, in this order
unfoldable pub stops_stated : List (List (List ℕ))
stops_stated =
    narrow_trials
    ∷ between_trials
    ∷ level_trials
    -- no trial of the first two comes near a limit
    ∷ counts (replicate 26 0)
    ∷ counts (replicate 17 0)
    -- r is below lo, 0.0; later a −0.0 is not
    ∷ counts (0 ∷ 0 ∷ 0 ∷ 1 ∷ 0 ∷ 0 ∷ 0 ∷ [])
    -- the best stands on hi of axis 1: the first probe of both rounds is clamped onto it; a step back of a build is no stop; the last r is past hi
    ∷ counts (0 ∷ 0 ∷ 0 ∷ 1 ∷ 0 ∷ 0 ∷ 0 ∷ 0 ∷ 0 ∷ 1 ∷ 0 ∷ 0 ∷ 0 ∷ 1 ∷ [])
    ∷ []

-- the search s with other limits, which no call makes: those of axes 1, 2 and 3
abbrev pub with_limits : Axis → Axis → Axis → Search → Search
with_limits x y z s = record s { setup = record s.setup { axes = x ∷ y ∷ z ∷ replicate 5 zero_axis } }

-- a record of these limits with start 0 and step 1.1
abbrev pub limits : ℕ → ℕ → Axis
limits lo hi = axis_at lo hi 0 0x3ff1_9999_9999_999a

-- limits past the axis count that its 0 would not meet: 1 and 2
abbrev pub past : Axis
past = limits 0x3ff0_0000_0000_0000 0x4000_0000_0000_0000

-- the search `narrow` after the first k costs, with these limits on its two axes
abbrev pub over : ℕ → Axis → Axis → Search
over k x y = with_limits x y past (at narrow narrow_costs k)

-- what the rules give of searches with other limits: the coordinates, and then the stops
unfoldable pub limited_given : List (List ℕ)
limited_given =
    -- a shrink, both of whose coordinates lie outside
    asked_counted (over 9 (limits 0 0x3ff0_0000_0000_0000) (limits 0xbfe0_0000_0000_0000 0x3fe0_0000_0000_0000))
    -- a build and a probe along axis 1, while axis 2, which they leave alone, lies outside
    ∷ asked_counted (over 1 (limits 0 0x4010_0000_0000_0000) (limits 0x3fe0_0000_0000_0000 0x3fe3_3333_3333_3333))
    ∷ asked_counted (with_phase (Probing 0) (over 3 (limits 0xc020_0000_0000_0000 0x4020_0000_0000_0000) (limits 0 0x3fe0_0000_0000_0000)))
    -- r stands on both limits of axis 1, and on lo of axis 2; one float inside of it they stop it
    ∷ asked_counted (over 3 (limits 0xbfb1_eb85_1eb8_51f0 0xbfb1_eb85_1eb8_51f0) (limits 0xbfd8_51eb_851e_b852 0xbfd8_51eb_851e_b851))
    ∷ asked_counted (over 3 (limits 0xbfb1_eb85_1eb8_51ef 0x3ff0_0000_0000_0000) (limits 0xc000_0000_0000_0000 0xbfd8_51eb_851e_b853))
    -- lo above hi: r is below lo on axis 1; not below it on axis 2, and above hi. A NaN stops whatever comes, at either end
    ∷ asked_counted (over 3 (limits 0x3ff0_0000_0000_0000 0xbff0_0000_0000_0000) (limits 0xbfd8_51eb_851e_b852 0xbfe0_0000_0000_0000))
    ∷ asked_counted (over 3 (limits 0x7ff8_0000_0000_0000 0x4020_0000_0000_0000) (limits 0xc020_0000_0000_0000 0x7ff8_0000_0000_0000))
    ∷ []

-- what docs/REPLAY.md says of each, in this order
unfoldable pub limited_stated : List (List ℕ)
limited_stated =
    (0 ∷ 0xbfe0_0000_0000_0000 ∷ 2 ∷ [])
    ∷ (0x3ffc_cccc_cccc_cccd ∷ 0x3fe0_0000_0000_0000 ∷ 1 ∷ []) ∷ (0x3fe6_6f33_3333_3333 ∷ 0 ∷ 1 ∷ [])
    ∷ (0xbfb1_eb85_1eb8_51f0 ∷ 0xbfd8_51eb_851e_b852 ∷ 0 ∷ []) ∷ (0xbfb1_eb85_1eb8_51ef ∷ 0xbfd8_51eb_851e_b853 ∷ 2 ∷ [])
    ∷ (0x3ff0_0000_0000_0000 ∷ 0xbfe0_0000_0000_0000 ∷ 2 ∷ []) ∷ (0x7ff8_0000_0000_0000 ∷ 0x7ff8_0000_0000_0000 ∷ 2 ∷ [])
    ∷ []

-- what ask answers: the reading number, all eight coordinates by their bits, and the stops; none where it refuses
abbrev pub answer : Result Asked Refusal → List ℕ
answer (Ok a) = a.number ∷ map (to_bits binary64) a.trial.point ++ a.trial.stops ∷ []
answer (Err r) = []

-- answers by the rules
unfoldable pub asks_given : List (List ℕ)
asks_given =
    -- an e that one axis stops, and a shrink that two do; past n nothing shows, and nothing counts
    answer (asking (at narrow narrow_costs 4))
    ∷ answer (asking (over 9 (limits 0 0x3ff0_0000_0000_0000) (limits 0xbfe0_0000_0000_0000 0x3fe0_0000_0000_0000)))
    -- an ended search
    ∷ answer (asking (with_phase (Ended Settled) (at narrow narrow_costs 4)))
    ∷ []

-- what the documents say of each, in this order
unfoldable pub asks_stated : List (List ℕ)
asks_stated =
    (5 ∷ 0xbfe3_3333_3333_3333 ∷ 0xbfe4_3958_1062_4dd3 ∷ replicate 6 0 ++ 1 ∷ [])
    ∷ (10 ∷ 0 ∷ 0xbfe0_0000_0000_0000 ∷ replicate 6 0 ++ 2 ∷ [])
    ∷ []
    ∷ []
