-- Refusal 12, cause by cause, each at its edge and one past it, on searches that no calls make: what its row of the table says. And a few readings
-- told to such searches, where no other shows what is carried.
use Rattle.std.specs.Prelude.{List, [], ◌∷◌, ◌++◌, map, ℕ, ◌-◌, length, take, replicate, Result, Ok, Err}
use Rattle.std.specs.Float.{binary64, nan}
use Rattle.std.specs.Float.Ieee.{to_bits}
use Rattle.rules.specs.Binary64.{1ᶠ, 2ᶠ}
use Rattle.rules.specs.Simplex.{place, pack}
use Rattle.rules.specs.Count.{no_counts}
use Rattle.rules.specs.Accept.{accept}
use Rattle.rules.specs.Calls.{ask_verdict, tell_verdict, best_verdict, showing}
use Rattle.rules.specs.History.{told, reading}
use Rattle.rules.specs.Examples.{after_costs}
use Rattle.rules.specs.Answers.{refused_as, unread_search}
use Rattle.rules.specs.Further.{with_standing, with_gathered, built_search}
use Rattle.rules.specs.Walks.{asked_bits}
use Rattle.rules.specs.declared.Rule.{Rule}
use Rattle.rules.specs.declared.Rule.TheVariants.{Spread, Moved, Size}
use Rattle.rules.specs.declared.Phase.{Phase}
use Rattle.rules.specs.declared.Phase.TheVariants.{Building, Reflecting, Expanding, Contracting, Shrinking, Probing, Ended}
use Rattle.rules.specs.declared.Side.TheVariants.{Outside, Inside}
use Rattle.rules.specs.declared.Cause.TheVariants.{Settled}
use Rattle.rules.specs.declared.Counts.{Counts}
use Rattle.rules.specs.declared.Vertex.{Vertex}
use Rattle.rules.specs.declared.Refusal.{Refusal}
use Rattle.rules.specs.declared.Search.{Search}

-- the search s with another axis count
abbrev pub with_n : ℕ → Search → Search
with_n n s = record s { setup = record s.setup { n = n } }

-- with another budget
abbrev pub with_budget : ℕ → Search → Search
with_budget b s = record s { setup = record s.setup { budget = b } }

-- with another number of readings
abbrev pub with_readings : ℕ → Search → Search
with_readings k s = record s { readings = k }

-- with another stopping rule
abbrev pub with_rule : Rule → Search → Search
with_rule r s = record s { setup = record s.setup { rule = r } }

-- with other counts
abbrev pub with_counts : Counts → Search → Search
with_counts c s = record s { counts = c }

-- in another phase
abbrev pub with_phase : Phase → Search → Search
with_phase p s = record s { phase = p }

-- with other numbers at its first standing places; zeros follow
abbrev pub with_numbers : List ℕ → Search → Search
with_numbers ks s = record s { standing = record s.standing { numbers = ks ++ replicate (9 - length ks) 0 } }

-- the number that ask refuses it with, 0 where it answers
abbrev pub by_ask : Search → ℕ
by_ask s = refused_as (ask_verdict s)

-- the refusals that the rules give
unfoldable pub causes_given : List ℕ
causes_given =
    -- n: 1 and 0 after a build; 8 and 9 before the first
    by_ask (with_n 1 built_search) ∷ by_ask (with_n 0 built_search) ∷ by_ask (with_n 8 unread_search) ∷ by_ask (with_n 9 unread_search)
    -- the budget: 1,000,000 and one more
    ∷ by_ask (with_budget 1000000 built_search) ∷ by_ask (with_budget 1000001 built_search)
    -- readings: below the budget of 100, and at it
    ∷ by_ask (with_readings 99 built_search) ∷ by_ask (with_readings 100 built_search)
    -- each count: at the budget, and one more
    ∷ by_ask (with_counts (record built_search.counts { builds = 100 }) built_search)
    ∷ by_ask (with_counts (record built_search.counts { builds = 101 }) built_search)
    ∷ by_ask (with_counts (record built_search.counts { reflections = 100 }) built_search)
    ∷ by_ask (with_counts (record built_search.counts { reflections = 101 }) built_search)
    ∷ by_ask (with_counts (record built_search.counts { expansions = 100 }) built_search)
    ∷ by_ask (with_counts (record built_search.counts { expansions = 101 }) built_search)
    ∷ by_ask (with_counts (record built_search.counts { contractions = 100 }) built_search)
    ∷ by_ask (with_counts (record built_search.counts { contractions = 101 }) built_search)
    ∷ by_ask (with_counts (record built_search.counts { shrinks = 100 }) built_search)
    ∷ by_ask (with_counts (record built_search.counts { shrinks = 101 }) built_search)
    ∷ by_ask (with_counts (record built_search.counts { probes = 100 }) built_search)
    ∷ by_ask (with_counts (record built_search.counts { probes = 101 }) built_search)
    ∷ by_ask (with_counts (record built_search.counts { unfinished = 100 }) built_search)
    ∷ by_ask (with_counts (record built_search.counts { unfinished = 101 }) built_search)
    -- E of spread: 0, the largest and one more; any float of moved and of size
    ∷ by_ask (with_rule (Spread 0) built_search) ∷ by_ask (with_rule (Spread 4294967295) built_search)
    ∷ by_ask (with_rule (Spread 4294967296) built_search) ∷ by_ask (with_rule (Moved nan) built_search) ∷ by_ask (with_rule (Size nan) built_search)
    -- building: n and n + 1; 0 before the first reading and after it, whatever the builds are; 1 after it
    ∷ by_ask (with_phase (Building 2) unread_search) ∷ by_ask (with_phase (Building 3) unread_search) ∷ by_ask (with_phase (Building 0) unread_search)
    ∷ by_ask (with_counts (record no_counts { builds = 5 }) unread_search) ∷ by_ask (with_readings 1 unread_search)
    ∷ by_ask (with_phase (Building 0) built_search) ∷ by_ask (with_phase (Building 1) built_search)
    -- reflecting, expanding and contracting hold no number
    ∷ by_ask (with_phase Reflecting unread_search) ∷ by_ask (with_phase Expanding unread_search)
    ∷ by_ask (with_phase (Contracting Outside) unread_search) ∷ by_ask (with_phase (Contracting Inside) unread_search)
    -- r, which they hold: the largest cost and one more
    ∷ by_ask (with_gathered (16777215 ∷ []) (with_phase Expanding built_search)) ∷ by_ask (with_gathered (16777216 ∷ []) (with_phase Expanding built_search))
    ∷ by_ask (with_gathered (16777216 ∷ []) (with_phase (Contracting Outside) built_search))
    -- shrinking: 0, 1, n and n + 1; probing: 2n − 1 and 2n
    ∷ by_ask (with_phase (Shrinking 0) built_search) ∷ by_ask (with_phase (Shrinking 1) built_search) ∷ by_ask (with_phase (Shrinking 2) built_search)
    ∷ by_ask (with_phase (Shrinking 3) built_search) ∷ by_ask (with_phase (Probing 3) built_search) ∷ by_ask (with_phase (Probing 4) built_search)
    -- as many gathered places as the phase says are held to order: two of a shrink at place 3, one at place 2; r alone while e or a contraction
    -- is asked; none while reflecting or probing
    ∷ by_ask (with_gathered (20 ∷ 19 ∷ []) (with_phase (Shrinking 2) built_search))
    ∷ by_ask (with_gathered (20 ∷ 19 ∷ []) (with_phase (Shrinking 1) built_search)) ∷ by_ask (with_gathered (20 ∷ 19 ∷ []) built_search)
    ∷ by_ask (with_gathered (20 ∷ 19 ∷ []) (with_phase Expanding built_search))
    ∷ by_ask (with_gathered (20 ∷ 19 ∷ []) (with_phase (Contracting Inside) built_search))
    ∷ by_ask (with_gathered (20 ∷ 19 ∷ []) (with_phase (Probing 3) built_search))
    -- n + 1 standing places are held to order where place 1 has a number, whatever the builds are, and none where it has none
    ∷ by_ask (with_standing (20 ∷ 19 ∷ []) (with_numbers (1 ∷ []) unread_search)) ∷ by_ask (with_standing (20 ∷ 19 ∷ []) (with_numbers (0 ∷ 2 ∷ []) built_search))
    -- tell and best are refused alike, before 10, 9 and 11; an ended search never is: ask answers 8, tell 8, best its reading
    ∷ refused_as (tell_verdict (with_n 9 built_search) 9 16777216) ∷ refused_as (best_verdict (with_n 9 unread_search))
    ∷ refused_as (best_verdict (with_n 9 built_search)) ∷ by_ask (with_phase (Ended Settled) (with_n 9 built_search))
    ∷ refused_as (tell_verdict (with_phase (Ended Settled) (with_n 9 built_search)) 9 16777216)
    ∷ refused_as (best_verdict (with_phase (Ended Settled) (with_n 9 built_search)))
    ∷ []

-- what document 01 says of each, in this order
unfoldable pub causes_stated : List ℕ
causes_stated =
    0 ∷ 12 ∷ 0 ∷ 12
    ∷ 0 ∷ 12
    ∷ 0 ∷ 12
    ∷ 0 ∷ 12 ∷ 0 ∷ 12 ∷ 0 ∷ 12 ∷ 0 ∷ 12 ∷ 0 ∷ 12 ∷ 0 ∷ 12 ∷ 0 ∷ 12
    ∷ 0 ∷ 0 ∷ 12 ∷ 0 ∷ 0
    ∷ 0 ∷ 12 ∷ 0 ∷ 0 ∷ 12 ∷ 12 ∷ 0
    ∷ 0 ∷ 0 ∷ 0 ∷ 0
    ∷ 0 ∷ 12 ∷ 12
    ∷ 12 ∷ 0 ∷ 0 ∷ 12 ∷ 0 ∷ 12
    ∷ 12 ∷ 0 ∷ 0 ∷ 0 ∷ 0 ∷ 0
    ∷ 12 ∷ 0
    ∷ 12 ∷ 12 ∷ 12 ∷ 8 ∷ 8 ∷ 0
    ∷ []

-- the first two gathered costs after a reading of cost c, and their numbers
abbrev pub gathered_then : Search → ℕ → List ℕ
gathered_then s c = take 2 (accept s c).gathered.costs ++ take 2 (accept s c).gathered.numbers

-- the vertex at place i, from 0, of the standing simplex after a reading of cost c: its coordinates by their bits, its cost and its number
abbrev pub stands_then : Search → ℕ → ℕ → List ℕ
stands_then s c i = let v = place (accept s c).standing i in map (to_bits binary64) v.point ++ v.cost ∷ v.number ∷ []

-- the search of three vertices in the phase p, where not r, which is (1, 1), is gathered, but a vertex at (2, 2, ..) of cost 7 and number 9
abbrev pub with_r : Phase → Search
with_r p = record (with_phase p built_search) { gathered = pack (record { point = replicate 8 2ᶠ; cost = 7; number = 9 } ∷ []) }

-- the open readings after a reading of cost c
abbrev pub open_then : Search → ℕ → List ℕ
open_then s c = (accept s c).counts.unfinished ∷ []

-- what best shows: the coordinates by their bits, the cost and the number
abbrev pub shown : Result Vertex Refusal → List ℕ
shown (Ok v) = map (to_bits binary64) v.point ++ v.cost ∷ v.number ∷ []
shown (Err r) = []

-- the search s whose best point has eight ones
abbrev pub with_ones : Search → Search
with_ones s = record s { best = record { point = replicate 8 1ᶠ; cost = 5; number = 6 } }

-- the search s has read four times before: the number of reading k, from 0, of these costs, and the best's after them
abbrev pub numbered : Search → List ℕ → ℕ → List ℕ
numbered s cs k = let o = with_readings 4 s in (reading o (map told cs) k).number ∷ (after_costs o cs).best.number ∷ []

-- what is asked after a reading of cost c
abbrev pub probes_then : Search → ℕ → List ℕ
probes_then s c = asked_bits (accept s c)

-- what the rules give
unfoldable pub strays_given : List (List ℕ)
strays_given =
    -- costs that are gathered without a build or an iteration go where r is gathered, and where it is taken; they stay at a probe
    gathered_then (with_gathered (7 ∷ 8 ∷ []) built_search) 5 ∷ gathered_then (with_gathered (7 ∷ 8 ∷ []) built_search) 15
    ∷ gathered_then (with_gathered (7 ∷ 8 ∷ []) (with_phase (Probing 0) built_search)) 15
    -- r is what is gathered: e at the cost 6 is below it, and at 7 it is not, so r is taken as it is; the outside point at 7 is not above it, and
    -- at 8 it is, where a shrink begins; the inside point does not ask for it. e and the outside point go from the r of the standing places
    ∷ stands_then (with_r Expanding) 6 0 ∷ stands_then (with_r Expanding) 7 0
    ∷ stands_then (with_r (Contracting Outside)) 7 0 ∷ gathered_then (with_r (Contracting Outside)) 8
    ∷ stands_then (with_r (Contracting Inside)) 29 2 ∷ gathered_then (with_r (Contracting Inside)) 30
    -- a reading of an iteration is open, also before the first build ends; trial 0 of a build is not, whatever the counts are, and trial 1 is
    ∷ open_then (with_phase Reflecting unread_search) 5 ∷ open_then (with_counts (record no_counts { shrinks = 1 }) unread_search) 5
    ∷ open_then (with_counts (record no_counts { builds = 1 }) unread_search) 5 ∷ open_then (with_phase (Building 1) unread_search) 5
    -- readings are numbered after those before them
    ∷ numbered built_search (15 ∷ 16 ∷ 5 ∷ []) 1 ∷ numbered built_search (15 ∷ 16 ∷ 5 ∷ []) 2
    -- a probe goes around the best, and is held against its cost, where place 1 is another vertex
    ∷ asked_bits (with_phase (Probing 0) (with_ones built_search)) ∷ probes_then (with_phase (Probing 0) (with_ones built_search)) 7
    -- best shows n coordinates, the cost and the number
    ∷ shown (showing (with_ones built_search))
    ∷ []

-- what docs/REPLAY.md says of each, in this order: document 01 speaks of searches that calls have made
unfoldable pub strays_stated : List (List ℕ)
strays_stated =
    (5 ∷ 0 ∷ 4 ∷ 0 ∷ []) ∷ (0 ∷ 0 ∷ 0 ∷ 0 ∷ []) ∷ (7 ∷ 8 ∷ 0 ∷ 0 ∷ [])
    ∷ (0x3ff8_0000_0000_0000 ∷ 0x3ff8_0000_0000_0000 ∷ replicate 6 0 ++ 6 ∷ 4 ∷ []) ∷ (replicate 8 0x4000_0000_0000_0000 ++ 7 ∷ 9 ∷ [])
    ∷ (0x3fe8_0000_0000_0000 ∷ 0x3fe8_0000_0000_0000 ∷ replicate 6 0 ++ 7 ∷ 4 ∷ []) ∷ (10 ∷ 0 ∷ 3 ∷ 0 ∷ [])
    ∷ (0x3fd0_0000_0000_0000 ∷ 0x3fd0_0000_0000_0000 ∷ replicate 6 0 ++ 29 ∷ 4 ∷ []) ∷ (10 ∷ 0 ∷ 3 ∷ 0 ∷ [])
    ∷ (1 ∷ []) ∷ (0 ∷ [])
    ∷ (0 ∷ []) ∷ (1 ∷ [])
    ∷ (6 ∷ 7 ∷ []) ∷ (7 ∷ 7 ∷ [])
    ∷ (0x3ff0_0400_0000_0000 ∷ 0x3ff0_0000_0000_0000 ∷ []) ∷ (0x3fef_f800_0000_0000 ∷ 0x3ff0_0000_0000_0000 ∷ [])
    ∷ (0x3ff0_0000_0000_0000 ∷ 0x3ff0_0000_0000_0000 ∷ replicate 6 0 ++ 5 ∷ 6 ∷ [])
    ∷ []
