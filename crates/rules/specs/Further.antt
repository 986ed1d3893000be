-- Worked cases of what a search carries and no trial shows at once: the movement where r is taken after e and at a shrink, the counts
-- after each kind of piece, the point that a build goes around, the held costs that refusal 12 tests.
use Rattle.std.specs.Prelude.{List, [], ◌∷◌, ◌++◌, ℕ, ◌-◌, length, replicate, Some, None}
use Rattle.rules.specs.Binary64.{2ᶠ, 8ᶠ}
use Rattle.rules.specs.Calls.{ask_verdict}
use Rattle.rules.specs.Examples.{Shows, asks, bits_at, after_costs, after_p1}
use Rattle.rules.specs.Cases.{bits, case_search, trial_after}
use Rattle.rules.specs.Answers.{unread_search, refused_as}
use Rattle.rules.specs.declared.Search.{Search}
use Rattle.rules.specs.declared.Rule.TheVariants.{Moved}

-- the trial that two axes from −8 to 8, started at 2, ask after the costs cs under moved with the E of these bits
abbrev pub moved_after : ℕ → List ℕ → Shows
moved_after e cs = trial_after 2ᶠ 8ᶠ (Some (Moved (bits e))) cs

-- the pieces that a search has finished: builds, reflections, expansions, contractions, shrinks
abbrev pub pieces_of : Search → List ℕ
pieces_of s = s.counts.builds ∷ s.counts.reflections ∷ s.counts.expansions ∷ s.counts.contractions ∷ s.counts.shrinks ∷ []

-- the point that the search of two axes, started at 2, builds around after the costs cs
abbrev pub center_after : List ℕ → Shows
center_after cs = let x = (after_costs (case_search 2ᶠ 8ᶠ None) cs).center in asks (bits_at x 0) (bits_at x 1)

-- the search s with another best cost, which no call gives it
abbrev pub with_best : ℕ → Search → Search
with_best c s = record s { best = record s.best { cost = c } }

-- the trials by the rules
unfoldable pub trials_given : List Shows
trials_given =
    -- e at (3.5,3.5) does not beat r at (3,3), which takes the place of (2,2): moved goes by r and is 2
    moved_after 0x3ff0_0000_0000_0000 (30 ∷ 20 ∷ 10 ∷ 5 ∷ 5 ∷ [])
    ∷ moved_after 0x3ff0_0000_0000_0001 (30 ∷ 20 ∷ 10 ∷ 5 ∷ 5 ∷ [])
    -- a shrink moves (3,2) to (2.5,2.5) and (2,2) to (2,2.5), 0.75 in all: that is < E·2 for E just above 0.375 only
    ∷ moved_after 0x3fd8_0000_0000_0000 (30 ∷ 20 ∷ 10 ∷ 30 ∷ 30 ∷ 25 ∷ 25 ∷ [])
    ∷ moved_after 0x3fd8_0000_0000_0001 (30 ∷ 20 ∷ 10 ∷ 30 ∷ 30 ∷ 25 ∷ 25 ∷ [])
    -- the point that the build went around, after the build, after r is taken, and after a lower probe restarts
    ∷ center_after (30 ∷ 20 ∷ 10 ∷ []) ∷ center_after (30 ∷ 20 ∷ 10 ∷ 15 ∷ []) ∷ center_after (10 ∷ 10 ∷ 10 ∷ 10 ∷ 10 ∷ 9 ∷ [])
    ∷ []

-- what document 01 says of each trial of `trials_given`, in its order
unfoldable pub trials_stated : List Shows
trials_stated =
    asks 0x4000_0000_0000_0000 0x4010_0000_0000_0000
    ∷ asks 0x4008_0200_0000_0000 0x4008_0000_0000_0000
    ∷ asks 0x4004_0000_0000_0000 0x4008_0000_0000_0000
    ∷ asks 0x4000_0200_0000_0000 0x4008_0000_0000_0000
    ∷ asks 0x4000_0000_0000_0000 0x4000_0000_0000_0000 ∷ asks 0x4000_0000_0000_0000 0x4000_0000_0000_0000 ∷ asks 0x4000_0000_0000_0000 0x4000_0200_0000_0000
    ∷ []

-- the finished pieces by the rules
unfoldable pub pieces_given : List (List ℕ)
pieces_given =
    -- after P1, P4 (either point of the first row), P5 (the second row), P7 and P9 (taken), and P8's shrink
    pieces_of (after_p1 []) ∷ pieces_of (after_p1 (5 ∷ 5 ∷ [])) ∷ pieces_of (after_p1 (5 ∷ 4 ∷ [])) ∷ pieces_of (after_p1 (10 ∷ []))
    ∷ pieces_of (after_p1 (20 ∷ 20 ∷ [])) ∷ pieces_of (after_p1 (30 ∷ 29 ∷ [])) ∷ pieces_of (after_p1 (20 ∷ 21 ∷ 9 ∷ 9 ∷ []))
    ∷ []

-- what document 01 says of each search of `pieces_given`, in its order
unfoldable pub pieces_stated : List (List ℕ)
pieces_stated =
    (1 ∷ 0 ∷ 0 ∷ 0 ∷ 0 ∷ []) ∷ (1 ∷ 0 ∷ 1 ∷ 0 ∷ 0 ∷ []) ∷ (1 ∷ 0 ∷ 1 ∷ 0 ∷ 0 ∷ []) ∷ (1 ∷ 1 ∷ 0 ∷ 0 ∷ 0 ∷ [])
    ∷ (1 ∷ 0 ∷ 0 ∷ 1 ∷ 0 ∷ []) ∷ (1 ∷ 0 ∷ 0 ∷ 1 ∷ 0 ∷ []) ∷ (1 ∷ 0 ∷ 0 ∷ 0 ∷ 1 ∷ [])
    ∷ []

-- the search s with other costs at its first standing places, which no call gives it; blank places follow
abbrev pub with_standing : List ℕ → Search → Search
with_standing cs s = record s { standing = record s.standing { costs = cs ++ replicate (9 - length cs) 0 } }

-- the same at its first gathered places
abbrev pub with_gathered : List ℕ → Search → Search
with_gathered cs s = record s { gathered = record s.gathered { costs = cs ++ replicate (9 - length cs) 0 } }

-- the search of two axes after a build, and amid one, two trials being told
abbrev pub built_search : Search
built_search = after_p1 []

-- two trials of a first build are told
abbrev pub half_built_search : Search
half_built_search = after_costs unread_search (30 ∷ 20 ∷ [])

-- the refusals of ask on searches that no call gives, by the rules
unfoldable pub held_given : List ℕ
held_given =
    -- the largest best cost, and one above it
    refused_as (ask_verdict (with_best 16777215 unread_search)) ∷ refused_as (ask_verdict (with_best 16777216 unread_search))
    -- equal costs stand in order; places 1 and 2 do not, nor places 2 and 3; place 4 is none of the n + 1
    ∷ refused_as (ask_verdict (with_standing (10 ∷ 10 ∷ 10 ∷ []) built_search)) ∷ refused_as (ask_verdict (with_standing (11 ∷ 10 ∷ 30 ∷ []) built_search))
    ∷ refused_as (ask_verdict (with_standing (10 ∷ 20 ∷ 19 ∷ []) built_search)) ∷ refused_as (ask_verdict (with_standing (10 ∷ 20 ∷ 30 ∷ 29 ∷ []) built_search))
    -- before the first build ends none stand; the two that are gathered are in order, and not the third place
    ∷ refused_as (ask_verdict (with_standing (11 ∷ 10 ∷ []) unread_search))
    ∷ refused_as (ask_verdict (with_gathered (20 ∷ 20 ∷ 19 ∷ []) half_built_search)) ∷ refused_as (ask_verdict (with_gathered (20 ∷ 19 ∷ []) half_built_search))
    -- place 9 of both runs holds the largest cost, and one above it
    ∷ refused_as (ask_verdict (with_standing (replicate 8 10 ++ 16777215 ∷ []) built_search)) ∷ refused_as (ask_verdict (with_standing (replicate 8 10 ++ 16777216 ∷ []) built_search))
    ∷ refused_as (ask_verdict (with_gathered (replicate 8 20 ++ 16777215 ∷ []) built_search)) ∷ refused_as (ask_verdict (with_gathered (replicate 8 20 ++ 16777216 ∷ []) built_search))
    ∷ []

-- what the table says of each
unfoldable pub held_stated : List ℕ
held_stated =
    0 ∷ 12
    ∷ 0 ∷ 12
    ∷ 12 ∷ 0
    ∷ 0
    ∷ 0 ∷ 12
    ∷ 0 ∷ 12
    ∷ 0 ∷ 12
    ∷ []
