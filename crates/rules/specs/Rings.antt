-- Worked cases of document 02's "Rotators that go round": numbers brought round, by their bits, and openings whose ring axis starts at hi.
use Rattle.std.specs.Prelude.{Bool, true, cond, List, [], ◌∷◌, ◌++◌, map, ℕ, replicate, None, Ok, Err}
use Rattle.std.specs.Float.{binary64}
use Rattle.std.specs.Float.Ieee.{to_bits}
use Rattle.rules.specs.Trial.{brought_in, at_stop, within}
use Rattle.rules.specs.Numbers.{usual}
use Rattle.rules.specs.Refusals.{Verdict}
use Rattle.rules.specs.Opening.{open_verdict, fresh}
use Rattle.rules.specs.Cases.{bits, two_axes, verdict_on}
use Rattle.rules.specs.Walks.{axis_at}
use Rattle.rules.specs.Edges.{good_axis, leaping_axis, bad_coefficients, nan_axis}
use Rattle.rules.specs.declared.Method.TheVariants.{NelderMead}
use Rattle.rules.specs.declared.Axis.{Axis}
use Rattle.rules.specs.declared.Search.{Search}
use Rattle.rules.specs.declared.Refusal.TheVariants.{OutOfRange, BadLimits, BadStep, RingAtHi}

-- a ring by the bits of its numbers
abbrev pub ring_at : ℕ → ℕ → ℕ → ℕ → Axis
ring_at lo hi start step = record (axis_at lo hi start step) { ring = true }

-- ---- a number brought in

-- 1 for true
abbrev pub digit : Bool → ℕ
digit b = cond b 1 0

-- the number of these bits brought into the axis x, by its bits; whether that is a stop; whether the number lay within
abbrev pub brought_at : Axis → ℕ → List ℕ
brought_at x v = to_bits binary64 (brought_in x (bits v)) ∷ digit (at_stop x (bits v)) ∷ digit (within x (bits v)) ∷ []

-- a number brought into the ring of these limits
abbrev pub round_at : ℕ → ℕ → ℕ → List ℕ
round_at lo hi v = brought_at (ring_at lo hi 0 0) v

-- a number brought into the axis of these limits that is no ring
abbrev pub plain_at : ℕ → ℕ → ℕ → List ℕ
plain_at lo hi v = brought_at (axis_at lo hi 0 0) v

-- what the rules give
unfoldable pub brought_given : List (List ℕ)
brought_given =
    -- a ring from −0.6 to 1.8: lo, and the float before hi, keep their bits
    round_at 0xbfe3_3333_3333_3333 0x3ffc_cccc_cccc_cccd 0xbfe3_3333_3333_3333
    ∷ round_at 0xbfe3_3333_3333_3333 0x3ffc_cccc_cccc_cccd 0x3ffc_cccc_cccc_cccc
    -- the float below lo, by a turn; hi, and the float after it, by a turn down
    ∷ round_at 0xbfe3_3333_3333_3333 0x3ffc_cccc_cccc_cccd 0xbfe3_3333_3333_3334
    ∷ round_at 0xbfe3_3333_3333_3333 0x3ffc_cccc_cccc_cccd 0x3ffc_cccc_cccc_cccd
    ∷ round_at 0xbfe3_3333_3333_3333 0x3ffc_cccc_cccc_cccd 0x3ffc_cccc_cccc_ccce
    -- −2.68 and 2.41: hi − lo is rounded first, and the sum then; the other order gives other bits
    ∷ round_at 0xbfe3_3333_3333_3333 0x3ffc_cccc_cccc_cccd 0xc005_70a3_d70a_3d71
    ∷ round_at 0xbfe3_3333_3333_3333 0x3ffc_cccc_cccc_cccd 0x4003_47ae_147a_e148
    -- more than a turn away on either side, and a turn away but for the rounding: lo
    ∷ round_at 0xbfe3_3333_3333_3333 0x3ffc_cccc_cccc_cccd 0xc008_cccc_cccc_cccd
    ∷ round_at 0xbfe3_3333_3333_3333 0x3ffc_cccc_cccc_cccd 0x4011_3333_3333_3333
    ∷ round_at 0xbfe3_3333_3333_3333 0x3ffc_cccc_cccc_cccd 0xc008_0000_0000_0000
    ∷ round_at 0xbfe3_3333_3333_3333 0x3ffc_cccc_cccc_cccd 0x4010_cccc_cccc_cccd
    -- 0.1 to 0.7: the turn down from hi rounds below lo
    ∷ round_at 0x3fb9_9999_9999_999a 0x3fe6_6666_6666_6666 0x3fe6_6666_6666_6666
    -- 0 to 10: −1e−30 turned is 10, which is hi; −0.0 is not below lo, and keeps its sign
    ∷ round_at 0 0x4024_0000_0000_0000 0xb9b4_484b_feeb_c2a0 ∷ round_at 0 0x4024_0000_0000_0000 0x8000_0000_0000_0000
    -- −8 to 0 and to −0.0: either zero is hi
    ∷ round_at 0xc020_0000_0000_0000 0 0x8000_0000_0000_0000 ∷ round_at 0xc020_0000_0000_0000 0 0
    ∷ round_at 0xc020_0000_0000_0000 0x8000_0000_0000_0000 0
    -- a NaN and the infinities
    ∷ round_at 0xbfe3_3333_3333_3333 0x3ffc_cccc_cccc_cccd 0x7ff8_0000_0000_0000
    ∷ round_at 0xbfe3_3333_3333_3333 0x3ffc_cccc_cccc_cccd 0x7ff0_0000_0000_0000
    ∷ round_at 0xbfe3_3333_3333_3333 0x3ffc_cccc_cccc_cccd 0xfff0_0000_0000_0000
    -- infinite limits: a number between them; infinity itself, whose turn is a NaN; 0 to infinity, and −infinity to 0, each from outside
    ∷ round_at 0xfff0_0000_0000_0000 0x7ff0_0000_0000_0000 0x4008_0000_0000_0000
    ∷ round_at 0xfff0_0000_0000_0000 0x7ff0_0000_0000_0000 0x7ff0_0000_0000_0000 ∷ round_at 0 0x7ff0_0000_0000_0000 0xbff0_0000_0000_0000
    ∷ round_at 0xfff0_0000_0000_0000 0 0x3ff0_0000_0000_0000
    -- 2 to 1, the wrong way round, and 1 to 1: lo, whatever comes
    ∷ round_at 0x4000_0000_0000_0000 0x3ff0_0000_0000_0000 0x3ff8_0000_0000_0000
    ∷ round_at 0x4000_0000_0000_0000 0x3ff0_0000_0000_0000 0x4000_0000_0000_0000
    ∷ round_at 0x3ff0_0000_0000_0000 0x3ff0_0000_0000_0000 0x3ff0_0000_0000_0000
    -- a NaN at either end: lo, a NaN too
    ∷ round_at 0x7ff8_0000_0000_0000 0x4000_0000_0000_0000 0x3ff0_0000_0000_0000
    ∷ round_at 0x3ff0_0000_0000_0000 0x7ff8_0000_0000_0000 0x3ff0_0000_0000_0000
    -- no ring: hi is a position; what is past a limit stops at it; a NaN becomes lo
    ∷ plain_at 0xbfe3_3333_3333_3333 0x3ffc_cccc_cccc_cccd 0x3ffc_cccc_cccc_cccd
    ∷ plain_at 0xbfe3_3333_3333_3333 0x3ffc_cccc_cccc_cccd 0x3ffc_cccc_cccc_ccce
    ∷ plain_at 0xbfe3_3333_3333_3333 0x3ffc_cccc_cccc_cccd 0xbfe3_3333_3333_3334
    ∷ plain_at 0xbfe3_3333_3333_3333 0x3ffc_cccc_cccc_cccd 0x7ff8_0000_0000_0000
    ∷ []

-- what document 02 says of each, in this order
unfoldable pub brought_stated : List (List ℕ)
brought_stated =
    (0xbfe3_3333_3333_3333 ∷ 0 ∷ 1 ∷ []) ∷ (0x3ffc_cccc_cccc_cccc ∷ 0 ∷ 1 ∷ [])
    ∷ (0x3ffc_cccc_cccc_cccc ∷ 0 ∷ 0 ∷ []) ∷ (0xbfe3_3333_3333_3332 ∷ 0 ∷ 0 ∷ []) ∷ (0xbfe3_3333_3333_3330 ∷ 0 ∷ 0 ∷ [])
    ∷ (0xbfd1_eb85_1eb8_51f0 ∷ 0 ∷ 0 ∷ []) ∷ (0x3f84_7ae1_47ae_1500 ∷ 0 ∷ 0 ∷ [])
    ∷ (0xbfe3_3333_3333_3333 ∷ 0 ∷ 0 ∷ []) ∷ (0xbfe3_3333_3333_3333 ∷ 0 ∷ 0 ∷ []) ∷ (0xbfe3_3333_3333_3333 ∷ 0 ∷ 0 ∷ [])
    ∷ (0xbfe3_3333_3333_3333 ∷ 0 ∷ 0 ∷ [])
    ∷ (0x3fb9_9999_9999_999a ∷ 0 ∷ 0 ∷ [])
    ∷ (0 ∷ 0 ∷ 0 ∷ []) ∷ (0x8000_0000_0000_0000 ∷ 0 ∷ 1 ∷ [])
    ∷ (0xc020_0000_0000_0000 ∷ 0 ∷ 0 ∷ []) ∷ (0xc020_0000_0000_0000 ∷ 0 ∷ 0 ∷ []) ∷ (0xc020_0000_0000_0000 ∷ 0 ∷ 0 ∷ [])
    ∷ (0xbfe3_3333_3333_3333 ∷ 0 ∷ 0 ∷ []) ∷ (0xbfe3_3333_3333_3333 ∷ 0 ∷ 0 ∷ []) ∷ (0xbfe3_3333_3333_3333 ∷ 0 ∷ 0 ∷ [])
    ∷ (0x4008_0000_0000_0000 ∷ 0 ∷ 1 ∷ []) ∷ (0xfff0_0000_0000_0000 ∷ 0 ∷ 0 ∷ []) ∷ (0 ∷ 0 ∷ 0 ∷ []) ∷ (0xfff0_0000_0000_0000 ∷ 0 ∷ 0 ∷ [])
    ∷ (0x4000_0000_0000_0000 ∷ 0 ∷ 0 ∷ []) ∷ (0x4000_0000_0000_0000 ∷ 0 ∷ 0 ∷ []) ∷ (0x3ff0_0000_0000_0000 ∷ 0 ∷ 0 ∷ [])
    ∷ (0x7ff8_0000_0000_0000 ∷ 0 ∷ 0 ∷ []) ∷ (0x3ff0_0000_0000_0000 ∷ 0 ∷ 0 ∷ [])
    ∷ (0x3ffc_cccc_cccc_cccd ∷ 0 ∷ 1 ∷ []) ∷ (0x3ffc_cccc_cccc_cccd ∷ 1 ∷ 0 ∷ []) ∷ (0xbfe3_3333_3333_3333 ∷ 1 ∷ 0 ∷ [])
    ∷ (0xbfe3_3333_3333_3333 ∷ 1 ∷ 0 ∷ [])
    ∷ []

-- ---- openings

-- a ring from −8 to 8 with step 1 that starts there
abbrev pub good_ring : ℕ → Axis
good_ring start = ring_at 0xc020_0000_0000_0000 0x4020_0000_0000_0000 start 0x3ff0_0000_0000_0000

-- one that starts at hi
abbrev pub ring_at_hi : Axis
ring_at_hi = good_ring 0x4020_0000_0000_0000

-- the verdicts that the rules give
unfoldable pub ring_openings_given : List Verdict
ring_openings_given =
    -- start at hi, at the float before it, at lo
    verdict_on good_axis ring_at_hi None ∷ verdict_on good_axis (good_ring 0x401f_ffff_ffff_ffff) None
    ∷ verdict_on good_axis (good_ring 0xc020_0000_0000_0000) None
    -- either zero equals the other, as hi
    ∷ verdict_on good_axis (ring_at 0xc020_0000_0000_0000 0 0x8000_0000_0000_0000 0x3ff0_0000_0000_0000) None
    ∷ verdict_on good_axis (ring_at 0xc020_0000_0000_0000 0x8000_0000_0000_0000 0 0x3ff0_0000_0000_0000) None
    -- an axis that is no ring may start at hi
    ∷ verdict_on good_axis (axis_at 0xc020_0000_0000_0000 0x4020_0000_0000_0000 0x4020_0000_0000_0000 0x3ff0_0000_0000_0000) None
    -- 13 before 4: a step that is too large, and one that moves nothing
    ∷ verdict_on good_axis (ring_at 0xc020_0000_0000_0000 0x4020_0000_0000_0000 0x4020_0000_0000_0000 0x4020_0000_0000_0001) None
    ∷ verdict_on good_axis (ring_at 0xc020_0000_0000_0000 0x4020_0000_0000_0000 0x4020_0000_0000_0000 1) None
    -- 13 after 3: step 0; lo, start and hi equal; after 2: a NaN step
    ∷ verdict_on good_axis (ring_at 0xc020_0000_0000_0000 0x4020_0000_0000_0000 0x4020_0000_0000_0000 0) None
    ∷ verdict_on good_axis (ring_at 0x3ff0_0000_0000_0000 0x3ff0_0000_0000_0000 0x3ff0_0000_0000_0000 0x3ff0_0000_0000_0000) None
    ∷ verdict_on good_axis (ring_at 0xc020_0000_0000_0000 0x4020_0000_0000_0000 0x4020_0000_0000_0000 0x7ff8_0000_0000_0000) None
    -- lowest axis first: 13 before a NaN record, and after 4; before 5
    ∷ verdict_on ring_at_hi nan_axis None ∷ verdict_on leaping_axis ring_at_hi None ∷ open_verdict NelderMead 2 (two_axes good_axis ring_at_hi) None bad_coefficients 100
    -- 4 on a ring is as on any axis: half of hi − lo, and the float after it
    ∷ verdict_on good_axis (ring_at 0xc020_0000_0000_0000 0x4020_0000_0000_0000 0 0x4020_0000_0000_0000) None
    ∷ verdict_on good_axis (ring_at 0xc020_0000_0000_0000 0x4020_0000_0000_0000 0 0x4020_0000_0000_0001) None
    -- the eighth of eight, and past n, where it is not read
    ∷ open_verdict NelderMead 8 (replicate 7 good_axis ++ ring_at_hi ∷ []) None usual 100 ∷ open_verdict NelderMead 7 (replicate 7 good_axis ++ ring_at_hi ∷ []) None usual 100
    ∷ []

-- what document 02 says of each, in this order
unfoldable pub ring_openings_stated : List Verdict
ring_openings_stated =
    Err (RingAtHi 2) ∷ Ok tt
    ∷ Ok tt
    ∷ Err (RingAtHi 2)
    ∷ Err (RingAtHi 2)
    ∷ Ok tt
    ∷ Err (RingAtHi 2)
    ∷ Err (RingAtHi 2)
    ∷ Err (BadLimits 2)
    ∷ Err (BadLimits 2)
    ∷ Err (OutOfRange 2)
    ∷ Err (RingAtHi 1) ∷ Err (BadStep 1) ∷ Err (RingAtHi 2)
    ∷ Ok tt
    ∷ Err (BadStep 2)
    ∷ Err (RingAtHi 8) ∷ Ok tt
    ∷ []

-- which axes of a search are rings
abbrev pub rings_of : Search → List ℕ
rings_of s = map (λ (x : Axis). digit x.ring) s.setup.axes

-- of eight rings, those past n are not read
unfoldable pub rings_given : List (List ℕ)
rings_given = rings_of (fresh NelderMead 8 (replicate 8 (good_ring 0)) None usual 100) ∷ rings_of (fresh NelderMead 3 (replicate 8 (good_ring 0)) None usual 100) ∷ []

-- and no rings
unfoldable pub rings_stated : List (List ℕ)
rings_stated = replicate 8 1 ∷ (1 ∷ 1 ∷ 1 ∷ replicate 5 0) ∷ []
