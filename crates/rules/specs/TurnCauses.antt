-- The openings of the multidirectional search, refusal 14 among them; refusal 12 in it; and readings told to searches of it that no calls make.
use Rattle.std.specs.Prelude.{List, [], ◌∷◌, ◌++◌, ℕ, length, replicate, Option, Some, None, Ok, Err}
use Rattle.std.specs.Float.{nan}
use Rattle.rules.specs.Numbers.{usual}
use Rattle.rules.specs.Accept.{accept, gathered_of}
use Rattle.rules.specs.Refusals.{Verdict}
use Rattle.rules.specs.Opening.{open_verdict}
use Rattle.rules.specs.Calls.{standing_of, tell_verdict, best_verdict, asking}
use Rattle.rules.specs.Cases.{bits, two_axes}
use Rattle.rules.specs.Answers.{refused_as}
use Rattle.rules.specs.Further.{with_best, with_standing, with_gathered, built_search}
use Rattle.rules.specs.Edges.{good, good_axis, leaping_axis, bad_coefficients}
use Rattle.rules.specs.Parts.{at}
use Rattle.rules.specs.Causes.{with_n, with_rule, with_counts, with_phase, with_numbers, by_ask}
use Rattle.rules.specs.Stops.{limits, past, with_limits, answer}
use Rattle.rules.specs.Rings.{ring_at}
use Rattle.rules.specs.Bases.{trio, trio_costs, pinched, pinched_costs}
use Rattle.rules.specs.declared.Method.{Method}
use Rattle.rules.specs.declared.Method.TheVariants.{NelderMead, Multidirectional}
use Rattle.rules.specs.declared.Axis.{Axis}
use Rattle.rules.specs.declared.Coefficients.{Coefficients}
use Rattle.rules.specs.declared.Rule.{Rule}
use Rattle.rules.specs.declared.Rule.TheVariants.{Spread, Moved, Size}
use Rattle.rules.specs.declared.Phase.TheVariants.{Building, Reflecting, Shrinking, Basing, Mirroring, Checking, Probing, Ended}
use Rattle.rules.specs.declared.Cause.TheVariants.{Settled}
use Rattle.rules.specs.declared.Refusal.TheVariants.{AxisCount, BadStep, BadCoefficient, BadThreshold, BadBudget, RuleOfMethod}
use Rattle.rules.specs.declared.Search.{Search}
use Rattle.rules.specs.Turns.{stage, holds, as_nm}

-- the verdict on two good axes in the method m with this rule, or none
abbrev pub by_method : Method → Option Rule → Coefficients → ℕ → Verdict
by_method m rule c budget = open_verdict m 2 good rule c budget

-- the verdicts that the rules give
unfoldable pub turn_openings_given : List Verdict
turn_openings_given =
    -- 14: no rule, spread, moved; not size, with any E that 6 lets pass
    by_method Multidirectional None usual 100 ∷ by_method Multidirectional (Some (Spread 4)) usual 100
    ∷ by_method Multidirectional (Some (Moved (bits 0x3ff0_0000_0000_0000))) usual 100 ∷ by_method Multidirectional (Some (Size (bits 1))) usual 100
    -- never with Nelder-Mead
    ∷ by_method NelderMead None usual 100 ∷ by_method NelderMead (Some (Moved (bits 1))) usual 100
    ∷ by_method NelderMead (Some (Size (bits 1))) usual 100
    -- 6 before it: an E outside its range, of each rule; 5 before it; 4 before it, on axis 2; 1 before it
    ∷ by_method Multidirectional (Some (Spread 0)) usual 100 ∷ by_method Multidirectional (Some (Moved nan)) usual 100
    ∷ by_method Multidirectional (Some (Size (bits 0))) usual 100 ∷ by_method Multidirectional None bad_coefficients 100
    ∷ open_verdict Multidirectional 2 (two_axes good_axis leaping_axis) None usual 100 ∷ open_verdict Multidirectional 0 good None usual 100
    -- 7 after it, and as with Nelder-Mead: n and n + 1
    ∷ by_method Multidirectional None usual 2 ∷ by_method Multidirectional (Some (Size (bits 1))) usual 2
    ∷ by_method Multidirectional (Some (Size (bits 1))) usual 3
    -- 5 as with Nelder-Mead, though no coefficient is used
    ∷ by_method Multidirectional (Some (Size (bits 1))) bad_coefficients 100
    ∷ []

-- what the documents say of each, in this order
unfoldable pub turn_openings_stated : List Verdict
turn_openings_stated =
    Err RuleOfMethod ∷ Err RuleOfMethod ∷ Err RuleOfMethod ∷ Ok tt
    ∷ Ok tt ∷ Ok tt ∷ Ok tt
    ∷ Err BadThreshold ∷ Err BadThreshold ∷ Err BadThreshold ∷ Err BadCoefficient ∷ Err (BadStep 2) ∷ Err AxisCount
    ∷ Err RuleOfMethod ∷ Err BadBudget ∷ Ok tt
    ∷ Err BadCoefficient
    ∷ []

-- `pinched` after this many costs; after the first the base stands at (0.3, 0.288), companion 1 at (−0.5, 0.288), companion 2 at (0.3, −0.904), where
-- it is clamped to lo
abbrev pub pinched_at : ℕ → Search
pinched_at k = at pinched pinched_costs k

-- the same with these limits on axes 1 and 2
abbrev pub held : Axis → Axis → ℕ → Search
held x y k = with_limits x y past (pinched_at k)

-- limits of axis 1 at its companions, −0.5 and 0.3
abbrev pub at_edges : Axis
at_edges = limits 0xbfe0_0000_0000_0000 0x3fd3_3333_3333_3333

-- lo is the float above
abbrev pub above_lo : Axis
above_lo = limits 0xbfdf_ffff_ffff_ffff 0x3fd3_3333_3333_3333

-- hi is the float below
abbrev pub below_hi : Axis
below_hi = limits 0xbfe0_0000_0000_0000 0x3fd3_3333_3333_3332

-- limits far from all coordinates
abbrev pub at_large : Axis
at_large = limits 0xc020_0000_0000_0000 0x4020_0000_0000_0000

-- the refusals that the rules give
unfoldable pub turn_causes_given : List ℕ
turn_causes_given =
    -- the rule: spread and moved, with any E; not size; with Nelder-Mead none of them
    by_ask (with_rule (Spread 4) (pinched_at 1)) ∷ by_ask (with_rule (Moved (bits 0x3ff0_0000_0000_0000)) (pinched_at 1))
    ∷ by_ask (with_rule (Size nan) (pinched_at 1))
    ∷ by_ask (with_rule (Spread 4) (pinched_at 0)) ∷ by_ask (as_nm (with_standing [] (with_rule (Spread 4) (pinched_at 1))))
    -- companions: at both limits of axis 1; companion 1 a float below lo, companion 2 a float above hi
    ∷ by_ask (held at_edges at_large 1) ∷ by_ask (held above_lo at_large 1) ∷ by_ask (held below_hi at_large 1)
    -- on axis 2, companion 2 at lo and a float below it; companion 1 at hi and a float above it
    ∷ by_ask (held at_large (limits 0xbfec_efed_cc22_af58 0x3fd2_6e16_458a_af56) 1)
    ∷ by_ask (held at_large (limits 0xbfec_efed_cc22_af57 0x3fd2_6e16_458a_af56) 1)
    ∷ by_ask (held at_large (limits 0xbfec_efed_cc22_af58 0x3fd2_6e16_458a_af55) 1)
    -- a ring: at lo, and a float below it; at hi, and a float below it
    ∷ by_ask (held (ring_at 0xbfe0_0000_0000_0000 0x3fd3_3333_3333_3334 0 1) at_large 1)
    ∷ by_ask (held (ring_at 0xbfdf_ffff_ffff_ffff 0x3fd3_3333_3333_3334 0 1) at_large 1)
    ∷ by_ask (held (ring_at 0xbfe0_0000_0000_0000 0x3fd3_3333_3333_3333 0 1) at_large 1)
    -- a read companion too: companion 1, which was the base; the base, at −0.5, is not looked at
    ∷ by_ask (held (limits 0xbfdf_ffff_ffff_ffff 0x3fd3_3333_3333_3333) at_large 4)
    ∷ by_ask (held (limits 0xbfdf_ffff_ffff_ffff 0x3fd3_3333_3333_3332) at_large 4)
    -- companion 2, at 0.1, is not looked at where n is 1, and is where n is 2
    ∷ by_ask (with_n 1 (with_limits (limits 0x3fe0_0000_0000_0000 0x4020_0000_0000_0000) at_large past (at trio trio_costs 1)))
    ∷ by_ask (with_n 2 (with_limits (limits 0x3fe0_0000_0000_0000 0x4020_0000_0000_0000) at_large past (at trio trio_costs 1)))
    -- in every phase but that of the base; not in an ended search, which ask refuses with 8
    ∷ by_ask (with_phase (Checking 1) (held above_lo at_large 1)) ∷ by_ask (with_phase (Probing 0) (held above_lo at_large 1))
    ∷ by_ask (with_phase Reflecting (held above_lo at_large 1)) ∷ by_ask (with_phase (Building 1) (held above_lo at_large 1))
    ∷ by_ask (with_phase (Shrinking 1) (held above_lo at_large 1)) ∷ by_ask (with_phase Basing (held above_lo at_large 1))
    ∷ by_ask (with_phase (Ended Settled) (held above_lo at_large 1))
    -- with Nelder-Mead none is, in any phase
    ∷ by_ask (as_nm (with_standing [] (held above_lo at_large 1)))
    ∷ by_ask (as_nm (with_phase (Checking 1) (with_standing [] (held above_lo at_large 1))))
    ∷ by_ask (as_nm (with_phase Reflecting (with_standing [] (held above_lo at_large 1))))
    -- a reflection's number: 0, 1, n and n + 1
    ∷ by_ask (with_phase (Mirroring 0) (pinched_at 1)) ∷ by_ask (with_phase (Mirroring 1) (pinched_at 1))
    ∷ by_ask (with_phase (Mirroring 2) (pinched_at 1)) ∷ by_ask (with_phase (Mirroring 3) (pinched_at 1))
    -- a companion's: 0, 1, n and n + 1, no place having a number; a read one, and the next; with Nelder-Mead as well
    ∷ by_ask (with_phase (Checking 0) (with_numbers [] (pinched_at 1))) ∷ by_ask (with_phase (Checking 1) (with_numbers [] (pinched_at 1)))
    ∷ by_ask (with_phase (Checking 2) (with_numbers [] (pinched_at 1))) ∷ by_ask (with_phase (Checking 3) (with_numbers [] (pinched_at 1)))
    ∷ by_ask (with_phase (Checking 1) (pinched_at 4)) ∷ by_ask (with_phase (Checking 2) (pinched_at 4))
    ∷ by_ask (as_nm (with_phase (Checking 1) (pinched_at 4)))
    -- each count: at the budget, and one more
    ∷ by_ask (with_counts (record (pinched_at 1).counts { patterns = 100 }) (pinched_at 1))
    ∷ by_ask (with_counts (record (pinched_at 1).counts { patterns = 101 }) (pinched_at 1))
    ∷ by_ask (with_counts (record (pinched_at 1).counts { directed = 100 }) (pinched_at 1))
    ∷ by_ask (with_counts (record (pinched_at 1).counts { directed = 101 }) (pinched_at 1))
    ∷ by_ask (with_counts (record built_search.counts { patterns = 101 }) built_search)
    ∷ by_ask (with_counts (record built_search.counts { directed = 101 }) built_search)
    -- no order is looked at, in either run: the base is above a companion; a shrink's two; with Nelder-Mead it is; a multidirectional iteration
    -- gathers none that are held to order
    ∷ by_ask (with_standing (20 ∷ 19 ∷ []) (pinched_at 1)) ∷ by_ask (with_gathered (20 ∷ 19 ∷ []) (with_phase (Shrinking 2) (pinched_at 1)))
    ∷ by_ask (as_nm (with_standing (20 ∷ 19 ∷ []) (pinched_at 1)))
    ∷ by_ask (as_nm (with_standing (20 ∷ 20 ∷ 20 ∷ []) (with_gathered (20 ∷ 19 ∷ []) (with_phase (Shrinking 2) (pinched_at 1)))))
    ∷ by_ask (as_nm (with_standing (20 ∷ 20 ∷ 20 ∷ []) (with_gathered (20 ∷ 19 ∷ []) (with_phase (Mirroring 2) (pinched_at 1)))))
    -- the largest cost and one above it, at any place
    ∷ by_ask (with_standing (20 ∷ 16777215 ∷ []) (pinched_at 1)) ∷ by_ask (with_standing (20 ∷ 16777216 ∷ []) (pinched_at 1))
    ∷ by_ask (with_gathered (16777216 ∷ []) (pinched_at 1))
    -- tell and best alike, before 10 and 9
    ∷ refused_as (tell_verdict (held above_lo at_large 1) 9 16777216) ∷ refused_as (best_verdict (held above_lo at_large 1))
    ∷ refused_as (tell_verdict (held at_edges at_large 1) 2 16777216) ∷ refused_as (best_verdict (held at_edges at_large 1))
    ∷ []

-- what the documents say of each, in this order
unfoldable pub turn_causes_stated : List ℕ
turn_causes_stated =
    12 ∷ 12 ∷ 0
    ∷ 12 ∷ 0
    ∷ 0 ∷ 12 ∷ 12
    ∷ 0 ∷ 12 ∷ 12
    ∷ 0 ∷ 12 ∷ 12
    ∷ 0 ∷ 12
    ∷ 0 ∷ 12
    ∷ 12 ∷ 12 ∷ 12 ∷ 12 ∷ 12 ∷ 0 ∷ 8
    ∷ 0 ∷ 0 ∷ 0
    ∷ 12 ∷ 0 ∷ 0 ∷ 12
    ∷ 12 ∷ 0 ∷ 0 ∷ 12 ∷ 12 ∷ 0 ∷ 12
    ∷ 0 ∷ 12 ∷ 0 ∷ 12 ∷ 12 ∷ 12
    ∷ 0 ∷ 0 ∷ 12 ∷ 12 ∷ 0
    ∷ 0 ∷ 12 ∷ 12
    ∷ 12 ∷ 12 ∷ 9 ∷ 0
    ∷ []

-- the search s with seven readings open, stops of 5 at all nine places, and gathered costs of 7, 8 and 9
abbrev pub with_junk : Search → Search
with_junk s = with_gathered (7 ∷ 8 ∷ 9 ∷ []) (with_counts (record s.counts { unfinished = 7 }) (record s { stops = replicate 9 5 }))

-- what the search s holds after a reading of cost c
abbrev pub told_to : Search → ℕ → List (List ℕ)
told_to s c = holds (accept s c)

-- what the rules give
unfoldable pub turn_strays_given : List (List (List ℕ))
turn_strays_given =
    -- with Nelder-Mead: the base leads to reflecting, and what is open stays; a lower reflection ends an iteration, and reflecting follows; one
    -- that is not lower goes on; a lower companion; a lower probe restarts a build, and what stands stays
    told_to (as_nm (with_junk (at pinched pinched_costs 0))) 40 ∷ told_to (as_nm (with_junk (at pinched pinched_costs 1))) 40
    ∷ told_to (as_nm (with_junk (at pinched pinched_costs 1))) 47
    ∷ told_to (as_nm (with_phase (Checking 1) (with_junk (at pinched pinched_costs 1)))) 40
    ∷ told_to (as_nm (with_phase (Probing 0) (with_junk (at pinched pinched_costs 1)))) 40
    -- the same in this method, where a lower probe is a base
    ∷ told_to (with_phase (Probing 0) (with_junk (at pinched pinched_costs 1))) 40
    -- reflection 2: place 1 of the gathered run stays, whatever stands there, and goes to companion 1 where the reading is lower
    ∷ told_to (with_phase (Mirroring 2) (with_junk (at pinched pinched_costs 1))) 50
    ∷ told_to (with_phase (Mirroring 2) (with_junk (at pinched pinched_costs 1))) 40
    -- companion 2 while companion 1 is unread: none above it is, so that both are halved; or it is lower
    ∷ told_to (with_phase (Checking 2) (with_junk (at pinched pinched_costs 1))) 50
    ∷ told_to (with_phase (Checking 2) (with_junk (at pinched pinched_costs 1))) 40
    -- of three companions the second is read: after the last reflection the first is asked, after it the third; with the first two read the third;
    -- with all read they are halved; zeros stand after place n + 1 where one is read, and what stands there stays while reflections are told
    ∷ told_to (with_phase (Mirroring 3) (with_numbers (1 ∷ 0 ∷ 5 ∷ 0 ∷ 6 ∷ []) (with_junk (at trio trio_costs 1)))) 90
    ∷ told_to (with_phase (Checking 1) (with_numbers (1 ∷ 0 ∷ 5 ∷ 0 ∷ 6 ∷ []) (with_junk (at trio trio_costs 1)))) 90
    ∷ told_to (with_phase (Mirroring 3) (with_numbers (1 ∷ 5 ∷ 6 ∷ 0 ∷ []) (with_junk (at trio trio_costs 1)))) 90
    ∷ told_to (with_phase (Mirroring 3) (with_numbers (0 ∷ 5 ∷ 6 ∷ 7 ∷ 0 ∷ []) (with_junk (at trio trio_costs 1)))) 90
    -- the base, at −0.5, lies below lo, 0, and is not looked at: the companions are halved to it, and clamped
    ∷ told_to (with_phase (Checking 2) (held (limits 0 0x4020_0000_0000_0000) at_large 4)) 50
    -- the base is another vertex than the best: a reading is held against the base, and a probe against the best
    ∷ told_to (with_best 5 (at pinched pinched_costs 1)) 40 ∷ told_to (with_phase (Probing 0) (with_best 5 (at pinched pinched_costs 1))) 40
    ∷ told_to (with_phase (Probing 3) (with_best 50 (at pinched pinched_costs 1))) 48
    ∷ []

-- what docs/REPLAY.md says of each, in this order
unfoldable pub turn_strays_stated : List (List (List ℕ))
turn_strays_stated =
    ((1 ∷ 0 ∷ []) ∷ (40 ∷ replicate 8 0) ∷ (1 ∷ replicate 8 0) ∷ (0 ∷ 0 ∷ 1 ∷ replicate 6 0) ∷ (replicate 9 0) ∷ (replicate 9 0)
    ∷ (1 ∷ replicate 3 0 ++ 7 ∷ 40 ∷ 1 ∷ []) ∷ [])
    ∷ ((1 ∷ 0 ∷ []) ∷ (40 ∷ 47 ∷ replicate 7 0) ∷ (2 ∷ 1 ∷ replicate 7 0) ∷ (0 ∷ 0 ∷ 1 ∷ replicate 6 0) ∷ (replicate 9 0) ∷ (replicate 9 0)
    ∷ (2 ∷ 1 ∷ 1 ∷ 0 ∷ 0 ∷ 40 ∷ 2 ∷ []) ∷ [])
    ∷ ((10 ∷ 2 ∷ []) ∷ (47 ∷ replicate 8 0) ∷ (1 ∷ replicate 8 0) ∷ (replicate 9 5) ∷ (47 ∷ replicate 8 0) ∷ (2 ∷ replicate 8 0)
    ∷ (2 ∷ 0 ∷ 1 ∷ 0 ∷ 7 ∷ 47 ∷ 1 ∷ []) ∷ [])
    ∷ ((1 ∷ 0 ∷ []) ∷ (40 ∷ 47 ∷ replicate 7 0) ∷ (2 ∷ 1 ∷ replicate 7 0) ∷ (0 ∷ 0 ∷ 5 ∷ replicate 6 0) ∷ (replicate 9 0) ∷ (replicate 9 0)
    ∷ (2 ∷ 1 ∷ 1 ∷ 0 ∷ 0 ∷ 40 ∷ 2 ∷ []) ∷ [])
    ∷ ((0 ∷ 1 ∷ []) ∷ (47 ∷ replicate 8 0) ∷ (1 ∷ replicate 8 0) ∷ (replicate 9 5) ∷ (40 ∷ replicate 8 0) ∷ (2 ∷ replicate 8 0)
    ∷ (2 ∷ 0 ∷ 0 ∷ 1 ∷ 7 ∷ 40 ∷ 2 ∷ []) ∷ [])
    ∷ ((10 ∷ 1 ∷ []) ∷ (40 ∷ replicate 8 0) ∷ (2 ∷ replicate 8 0) ∷ (0 ∷ 0 ∷ 1 ∷ replicate 6 0) ∷ (replicate 9 0) ∷ (replicate 9 0)
    ∷ (2 ∷ 0 ∷ 0 ∷ 1 ∷ 7 ∷ 40 ∷ 2 ∷ []) ∷ [])
    ∷ ((11 ∷ 1 ∷ []) ∷ (47 ∷ replicate 8 0) ∷ (1 ∷ replicate 8 0) ∷ (replicate 9 5) ∷ (7 ∷ 50 ∷ replicate 7 0) ∷ (0 ∷ 2 ∷ replicate 7 0)
    ∷ (2 ∷ 0 ∷ 1 ∷ 0 ∷ 7 ∷ 47 ∷ 1 ∷ []) ∷ [])
    ∷ ((10 ∷ 1 ∷ []) ∷ (40 ∷ 7 ∷ 47 ∷ replicate 6 0) ∷ (2 ∷ 0 ∷ 1 ∷ replicate 6 0) ∷ (replicate 9 0) ∷ (replicate 9 0) ∷ (replicate 9 0)
    ∷ (2 ∷ 1 ∷ 1 ∷ 0 ∷ 0 ∷ 40 ∷ 2 ∷ []) ∷ [])
    ∷ ((10 ∷ 1 ∷ []) ∷ (47 ∷ replicate 8 0) ∷ (1 ∷ replicate 8 0) ∷ (replicate 9 0) ∷ (replicate 9 0) ∷ (replicate 9 0)
    ∷ (2 ∷ 1 ∷ 1 ∷ 0 ∷ 0 ∷ 47 ∷ 1 ∷ []) ∷ [])
    ∷ ((10 ∷ 1 ∷ []) ∷ (40 ∷ 0 ∷ 47 ∷ replicate 6 0) ∷ (2 ∷ 0 ∷ 1 ∷ replicate 6 0) ∷ (0 ∷ 5 ∷ replicate 7 0) ∷ (replicate 9 0) ∷ (replicate 9 0)
    ∷ (2 ∷ 1 ∷ 1 ∷ 0 ∷ 0 ∷ 40 ∷ 2 ∷ []) ∷ [])
    ∷ ((11 ∷ 1 ∷ []) ∷ (90 ∷ replicate 8 0) ∷ (1 ∷ 0 ∷ 5 ∷ 0 ∷ 6 ∷ replicate 4 0) ∷ (replicate 9 5) ∷ (7 ∷ 8 ∷ 90 ∷ replicate 6 0)
    ∷ (0 ∷ 0 ∷ 2 ∷ replicate 6 0) ∷ (2 ∷ 0 ∷ 1 ∷ 0 ∷ 7 ∷ 90 ∷ 1 ∷ []) ∷ [])
    ∷ ((11 ∷ 3 ∷ []) ∷ (90 ∷ 90 ∷ replicate 7 0) ∷ (1 ∷ 2 ∷ 5 ∷ replicate 6 0) ∷ (replicate 9 5) ∷ (7 ∷ 8 ∷ 9 ∷ replicate 6 0) ∷ (replicate 9 0)
    ∷ (2 ∷ 0 ∷ 1 ∷ 0 ∷ 7 ∷ 90 ∷ 1 ∷ []) ∷ [])
    ∷ ((11 ∷ 3 ∷ []) ∷ (90 ∷ replicate 8 0) ∷ (1 ∷ 5 ∷ 6 ∷ replicate 6 0) ∷ (replicate 9 5) ∷ (7 ∷ 8 ∷ 90 ∷ replicate 6 0)
    ∷ (0 ∷ 0 ∷ 2 ∷ replicate 6 0) ∷ (2 ∷ 0 ∷ 1 ∷ 0 ∷ 7 ∷ 90 ∷ 1 ∷ []) ∷ [])
    ∷ ((10 ∷ 1 ∷ []) ∷ (90 ∷ replicate 8 0) ∷ (replicate 9 0) ∷ (replicate 9 0) ∷ (replicate 9 0) ∷ (replicate 9 0)
    ∷ (2 ∷ 1 ∷ 1 ∷ 0 ∷ 0 ∷ 90 ∷ 1 ∷ []) ∷ [])
    ∷ ((10 ∷ 1 ∷ []) ∷ (40 ∷ replicate 8 0) ∷ (4 ∷ replicate 8 0) ∷ (0 ∷ 1 ∷ 1 ∷ replicate 6 0) ∷ (replicate 9 0) ∷ (replicate 9 0)
    ∷ (5 ∷ 2 ∷ 4 ∷ 0 ∷ 0 ∷ 40 ∷ 4 ∷ []) ∷ [])
    ∷ ((10 ∷ 1 ∷ []) ∷ (40 ∷ 47 ∷ replicate 7 0) ∷ (2 ∷ 1 ∷ replicate 7 0) ∷ (0 ∷ 0 ∷ 1 ∷ replicate 6 0) ∷ (replicate 9 0) ∷ (replicate 9 0)
    ∷ (2 ∷ 1 ∷ 1 ∷ 0 ∷ 0 ∷ 5 ∷ 1 ∷ []) ∷ [])
    ∷ ((6 ∷ 1 ∷ []) ∷ (47 ∷ replicate 8 0) ∷ (1 ∷ replicate 8 0) ∷ (0 ∷ 0 ∷ 1 ∷ replicate 6 0) ∷ (replicate 9 0) ∷ (replicate 9 0)
    ∷ (2 ∷ 0 ∷ 0 ∷ 1 ∷ 0 ∷ 5 ∷ 1 ∷ []) ∷ [])
    ∷ ((10 ∷ 1 ∷ []) ∷ (48 ∷ replicate 8 0) ∷ (2 ∷ replicate 8 0) ∷ (replicate 9 0) ∷ (replicate 9 0) ∷ (replicate 9 0)
    ∷ (2 ∷ 0 ∷ 0 ∷ 1 ∷ 0 ∷ 48 ∷ 2 ∷ []) ∷ [])
    ∷ []

-- the stops at the nine places after a reading of cost c, by the rules
unfoldable pub turn_stops_given : List (List ℕ)
turn_stops_given =
    -- no reading of Nelder-Mead changes them: r that goes on to e, r that is taken, the end of a build
    (accept (with_junk built_search) 5).stops ∷ (accept (with_junk built_search) 15).stops
    ∷ (accept (with_phase (Building 2) (with_junk built_search)) 40).stops
    ∷ []

-- what docs/REPLAY.md says of each
unfoldable pub turn_stops_stated : List (List ℕ)
turn_stops_stated = (replicate 9 5) ∷ (replicate 9 5) ∷ (replicate 9 5) ∷ []

-- the phase of the search s after a reading of cost c
abbrev pub leads : Search → ℕ → List ℕ
leads s c = stage (accept s c).phase

-- where readings lead by the rules
unfoldable pub leads_given : List (List ℕ)
leads_given =
    -- in this method reflection 1 follows an r that is taken, and a build that ends
    leads (record built_search { method = Multidirectional }) 15
    ∷ leads (record (with_phase (Building 2) built_search) { method = Multidirectional }) 40
    -- with Nelder-Mead the rule tested at the end of an iteration is any: moved finds that nothing moved, and 0 is below E·2 for the least E only
    ∷ leads (as_nm (with_rule (Moved (bits 0)) (pinched_at 1))) 40 ∷ leads (as_nm (with_rule (Moved (bits 1)) (pinched_at 1))) 40
    -- spread goes by places 1 to n + 1: a base of cost 2 and two halved companions of cost 0, so that 8 is below 2·6, and not below 1·6; it is not
    -- tested where the base is told, or a probe is lower
    ∷ leads (as_nm (with_rule (Spread 2) (with_phase (Checking 2) (with_standing (2 ∷ []) (pinched_at 1))))) 2
    ∷ leads (as_nm (with_rule (Spread 1) (with_phase (Checking 2) (with_standing (2 ∷ []) (pinched_at 1))))) 2
    ∷ leads (as_nm (with_rule (Spread 1) (pinched_at 0))) 0 ∷ leads (with_rule (Spread 1) (with_phase (Probing 0) (pinched_at 1))) 0
    ∷ []

-- what docs/REPLAY.md says of each, in this order
unfoldable pub leads_stated : List (List ℕ)
leads_stated =
    (10 ∷ 1 ∷ []) ∷ (10 ∷ 1 ∷ [])
    ∷ (1 ∷ 0 ∷ []) ∷ (6 ∷ 0 ∷ [])
    ∷ (6 ∷ 0 ∷ []) ∷ (1 ∷ 0 ∷ [])
    ∷ (1 ∷ 0 ∷ []) ∷ (10 ∷ 1 ∷ [])
    ∷ []

-- what ask answers, and how many vertices stand, by the rules
unfoldable pub turn_asks_given : List (List ℕ)
turn_asks_given =
    -- the base; a reflection that is clamped; an unread companion, with the stops of its build
    answer (asking (pinched_at 0)) ∷ answer (asking (pinched_at 1)) ∷ answer (asking (pinched_at 6))
    -- with Nelder-Mead a companion outside the limits is clamped when it is asked, and its stops are those that stand at its place
    ∷ answer (asking (as_nm (with_phase (Checking 1) (with_standing [] (held above_lo at_large 1)))))
    ∷ answer (asking (as_nm (with_phase (Checking 1) (with_standing [] (with_junk (held above_lo at_large 1))))))
    -- vertices stand with Nelder-Mead alone, and the reflections that are told count as gathered in neither
    ∷ (length (standing_of (pinched_at 3)) ∷ length (standing_of (as_nm (pinched_at 3))) ∷ length (gathered_of (pinched_at 3))
    ∷ length (gathered_of (as_nm (pinched_at 3))) ∷ [])
    ∷ []

-- what the documents say of each, in this order
unfoldable pub turn_asks_stated : List (List ℕ)
turn_asks_stated =
    (1 ∷ 0x3fd3_3333_3333_3333 ∷ 0x3fd2_6e16_458a_af56 ∷ replicate 7 0)
    ∷ (2 ∷ 0x3fe3_3333_3333_3333 ∷ 0x3fd2_6e16_458a_af56 ∷ replicate 6 0 ++ 1 ∷ [])
    ∷ (7 ∷ 0x3fd3_3333_3333_3333 ∷ 0xbfec_efed_cc22_af58 ∷ replicate 6 0 ++ 1 ∷ [])
    ∷ (2 ∷ 0xbfdf_ffff_ffff_ffff ∷ 0x3fd2_6e16_458a_af56 ∷ replicate 7 0)
    ∷ (2 ∷ 0xbfdf_ffff_ffff_ffff ∷ 0x3fd2_6e16_458a_af56 ∷ replicate 6 0 ++ 5 ∷ [])
    ∷ (0 ∷ 3 ∷ 0 ∷ 0 ∷ [])
    ∷ []
