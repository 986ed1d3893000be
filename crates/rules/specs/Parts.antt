-- What a search carries, part by part, at moments of the worked searches: a number that is written in another's place shows.
use Rattle.std.specs.Prelude.{false, List, [], ◌∷◌, ◌++◌, map, ℕ, length, take, replicate}
use Rattle.std.specs.Float.{binary64}
use Rattle.std.specs.Float.Ieee.{to_bits}
use Rattle.rules.specs.Binary64.{0ᶠ}
use Rattle.rules.specs.Accept.{gathered_of}
use Rattle.rules.specs.Calls.{standing_of}
use Rattle.rules.specs.History.{told}
use Rattle.rules.specs.Tally.{made, others, probes_in, open_in, readings_by}
use Rattle.rules.specs.Examples.{after_costs}
use Rattle.rules.specs.Cases.{bits}
use Rattle.rules.specs.Answers.{fresh_with}
use Rattle.rules.specs.Walks.{begun, odd, odd_costs, rounds, rounds_costs}
use Rattle.rules.specs.declared.Method.TheVariants.{NelderMead}
use Rattle.rules.specs.declared.Opening.{Opening}
use Rattle.rules.specs.declared.Simplex.{Simplex}
use Rattle.rules.specs.declared.Search.{Search}
use Rattle.rules.specs.declared.Piece.TheVariants.{Build, Reflection, Expansion, Contraction, Shrink}
use Rattle.rules.specs.declared.Rule.TheVariants.{Spread}
use Rattle.rules.specs.declared.Phase.TheVariants.{Ended}
use Rattle.rules.specs.declared.Cause.TheVariants.{Budget}

-- the search of an opening after the first k of these costs
abbrev pub at : Opening → List ℕ → ℕ → Search
at o cs k = after_costs (begun o) (take k cs)

-- readings; builds, reflections, expansions, contractions, shrinks, probes, open; the best's cost; the costs at the nine standing places,
-- and at the nine gathered ones
abbrev pub carries : Search → List ℕ
carries s =
    s.readings ∷ s.counts.builds ∷ s.counts.reflections ∷ s.counts.expansions ∷ s.counts.contractions ∷ s.counts.shrinks ∷ s.counts.probes
    ∷ s.counts.unfinished ∷ s.best.cost ∷ s.standing.costs ++ s.gathered.costs

-- how many vertices stand, and how many are gathered; the best's number; the numbers at the nine standing places, and at the nine gathered ones
abbrev pub remembers : Search → List ℕ
remembers s = length (standing_of s) ∷ length (gathered_of s) ∷ s.best.number ∷ s.standing.numbers ++ s.gathered.numbers

-- the numbers that the rules give
unfoldable pub parts_given : List (List ℕ)
parts_given =
    -- as opened
    carries (at odd odd_costs 0)
    -- after the first reading, which is not open
    ∷ carries (at odd odd_costs 1)
    -- amid the first build
    ∷ carries (at odd odd_costs 2)
    -- after it
    ∷ carries (at odd odd_costs 3)
    -- while e is asked
    ∷ carries (at odd odd_costs 4)
    -- after pieces of four kinds
    ∷ carries (at odd odd_costs 10)
    -- amid a shrink
    ∷ carries (at odd odd_costs 15)
    -- after it
    ∷ carries (at odd odd_costs 16)
    -- amid a probe round
    ∷ carries (at rounds rounds_costs 5)
    -- a lower probe: its build goes on from there
    ∷ carries (at rounds rounds_costs 7)
    -- amid that build
    ∷ carries (at rounds rounds_costs 8)
    ∷ []

-- what document 01 says of each, in this order
unfoldable pub parts_stated : List (List ℕ)
parts_stated =
    (0 ∷ 0 ∷ 0 ∷ 0 ∷ 0 ∷ 0 ∷ 0 ∷ 0 ∷ 0 ∷ (replicate 9 0) ++ (replicate 9 0))
    ∷ (1 ∷ 0 ∷ 0 ∷ 0 ∷ 0 ∷ 0 ∷ 0 ∷ 0 ∷ 40 ∷ (replicate 9 0) ++ (40 ∷ replicate 8 0))
    ∷ (2 ∷ 0 ∷ 0 ∷ 0 ∷ 0 ∷ 0 ∷ 0 ∷ 1 ∷ 40 ∷ (replicate 9 0) ++ (40 ∷ 60 ∷ replicate 7 0))
    ∷ (3 ∷ 1 ∷ 0 ∷ 0 ∷ 0 ∷ 0 ∷ 0 ∷ 0 ∷ 40 ∷ (40 ∷ 60 ∷ 80 ∷ replicate 6 0) ++ (replicate 9 0))
    ∷ (4 ∷ 1 ∷ 0 ∷ 0 ∷ 0 ∷ 0 ∷ 0 ∷ 1 ∷ 30 ∷ (40 ∷ 60 ∷ 80 ∷ replicate 6 0) ++ (30 ∷ replicate 8 0))
    ∷ (10 ∷ 1 ∷ 1 ∷ 2 ∷ 1 ∷ 0 ∷ 0 ∷ 0 ∷ 15 ∷ (15 ∷ 18 ∷ 19 ∷ replicate 6 0) ++ (replicate 9 0))
    ∷ (15 ∷ 1 ∷ 1 ∷ 2 ∷ 2 ∷ 0 ∷ 0 ∷ 3 ∷ 15 ∷ (15 ∷ 18 ∷ 18 ∷ replicate 6 0) ++ (15 ∷ 17 ∷ replicate 7 0))
    ∷ (16 ∷ 1 ∷ 1 ∷ 2 ∷ 2 ∷ 1 ∷ 0 ∷ 0 ∷ 12 ∷ (12 ∷ 15 ∷ 17 ∷ replicate 6 0) ++ (replicate 9 0))
    ∷ (5 ∷ 1 ∷ 0 ∷ 0 ∷ 0 ∷ 0 ∷ 2 ∷ 0 ∷ 10 ∷ (10 ∷ 11 ∷ 11 ∷ replicate 6 0) ++ (replicate 9 0))
    ∷ (7 ∷ 1 ∷ 0 ∷ 0 ∷ 0 ∷ 0 ∷ 4 ∷ 0 ∷ 9 ∷ (10 ∷ 11 ∷ 11 ∷ replicate 6 0) ++ (9 ∷ replicate 8 0))
    ∷ (8 ∷ 1 ∷ 0 ∷ 0 ∷ 0 ∷ 0 ∷ 4 ∷ 1 ∷ 9 ∷ (10 ∷ 11 ∷ 11 ∷ replicate 6 0) ++ (9 ∷ 10 ∷ replicate 7 0))
    ∷ []

-- the numbers that the rules give
unfoldable pub numbers_given : List (List ℕ)
numbers_given =
    -- as opened; after the first reading; after the first build
    remembers (at odd odd_costs 0) ∷ remembers (at odd odd_costs 1) ∷ remembers (at odd odd_costs 3)
    -- while e is asked; e is taken; while the next e is asked; r is taken after it; the next r is taken at once
    ∷ remembers (at odd odd_costs 4) ∷ remembers (at odd odd_costs 5) ∷ remembers (at odd odd_costs 6) ∷ remembers (at odd odd_costs 7)
    ∷ remembers (at odd odd_costs 8)
    -- while an outside point is asked; it is taken; while an inside point is asked; it is taken, after its equal
    ∷ remembers (at odd odd_costs 9) ∷ remembers (at odd odd_costs 10) ∷ remembers (at odd odd_costs 11) ∷ remembers (at odd odd_costs 12)
    -- while an inside point is asked that is not taken; the shrink begins; amid it; after it
    ∷ remembers (at odd odd_costs 13) ∷ remembers (at odd odd_costs 14) ∷ remembers (at odd odd_costs 15) ∷ remembers (at odd odd_costs 16)
    -- after a build with two equal costs; a probe equal to the best; a lower one, around which a build begins; amid that build; after it
    ∷ remembers (at rounds rounds_costs 3) ∷ remembers (at rounds rounds_costs 6) ∷ remembers (at rounds rounds_costs 7)
    ∷ remembers (at rounds rounds_costs 8) ∷ remembers (at rounds rounds_costs 9)
    -- the budget ends the search with r, and amid a shrink: what is gathered stays, and counts no more
    ∷ remembers (after_costs (fresh_with 2 0ᶠ 4) (30 ∷ 20 ∷ 10 ∷ 5 ∷ [])) ∷ remembers (after_costs (fresh_with 2 0ᶠ 6) (30 ∷ 20 ∷ 10 ∷ 30 ∷ 30 ∷ 9 ∷ []))
    ∷ []

-- what document 02 says of each, in this order: each vertex has the place, from 1, of its own cost among those told
unfoldable pub numbers_stated : List (List ℕ)
numbers_stated =
    (0 ∷ 0 ∷ 0 ∷ (replicate 9 0) ++ (replicate 9 0))
    ∷ (0 ∷ 1 ∷ 1 ∷ (replicate 9 0) ++ (1 ∷ replicate 8 0))
    ∷ (3 ∷ 0 ∷ 1 ∷ (1 ∷ 2 ∷ 3 ∷ replicate 6 0) ++ (replicate 9 0))
    ∷ (3 ∷ 1 ∷ 4 ∷ (1 ∷ 2 ∷ 3 ∷ replicate 6 0) ++ (4 ∷ replicate 8 0))
    ∷ (3 ∷ 0 ∷ 5 ∷ (5 ∷ 1 ∷ 2 ∷ replicate 6 0) ++ (replicate 9 0))
    ∷ (3 ∷ 1 ∷ 6 ∷ (5 ∷ 1 ∷ 2 ∷ replicate 6 0) ++ (6 ∷ replicate 8 0))
    ∷ (3 ∷ 0 ∷ 6 ∷ (6 ∷ 5 ∷ 1 ∷ replicate 6 0) ++ (replicate 9 0))
    ∷ (3 ∷ 0 ∷ 6 ∷ (6 ∷ 8 ∷ 5 ∷ replicate 6 0) ++ (replicate 9 0))
    ∷ (3 ∷ 1 ∷ 6 ∷ (6 ∷ 8 ∷ 5 ∷ replicate 6 0) ++ (9 ∷ replicate 8 0))
    ∷ (3 ∷ 0 ∷ 6 ∷ (6 ∷ 8 ∷ 10 ∷ replicate 6 0) ++ (replicate 9 0))
    ∷ (3 ∷ 1 ∷ 6 ∷ (6 ∷ 8 ∷ 10 ∷ replicate 6 0) ++ (11 ∷ replicate 8 0))
    ∷ (3 ∷ 0 ∷ 6 ∷ (6 ∷ 8 ∷ 12 ∷ replicate 6 0) ++ (replicate 9 0))
    ∷ (3 ∷ 1 ∷ 6 ∷ (6 ∷ 8 ∷ 12 ∷ replicate 6 0) ++ (13 ∷ replicate 8 0))
    ∷ (3 ∷ 1 ∷ 6 ∷ (6 ∷ 8 ∷ 12 ∷ replicate 6 0) ++ (6 ∷ replicate 8 0))
    ∷ (3 ∷ 2 ∷ 6 ∷ (6 ∷ 8 ∷ 12 ∷ replicate 6 0) ++ (6 ∷ 15 ∷ replicate 7 0))
    ∷ (3 ∷ 0 ∷ 16 ∷ (16 ∷ 6 ∷ 15 ∷ replicate 6 0) ++ (replicate 9 0))
    ∷ (3 ∷ 0 ∷ 2 ∷ (2 ∷ 1 ∷ 3 ∷ replicate 6 0) ++ (replicate 9 0))
    ∷ (3 ∷ 0 ∷ 2 ∷ (2 ∷ 1 ∷ 3 ∷ replicate 6 0) ++ (replicate 9 0))
    ∷ (3 ∷ 1 ∷ 7 ∷ (2 ∷ 1 ∷ 3 ∷ replicate 6 0) ++ (7 ∷ replicate 8 0))
    ∷ (3 ∷ 2 ∷ 7 ∷ (2 ∷ 1 ∷ 3 ∷ replicate 6 0) ++ (7 ∷ 8 ∷ replicate 7 0))
    ∷ (3 ∷ 0 ∷ 7 ∷ (7 ∷ 8 ∷ 9 ∷ replicate 6 0) ++ (replicate 9 0))
    ∷ (3 ∷ 0 ∷ 4 ∷ (3 ∷ 2 ∷ 1 ∷ replicate 6 0) ++ (4 ∷ replicate 8 0))
    ∷ (3 ∷ 0 ∷ 6 ∷ (3 ∷ 2 ∷ 1 ∷ replicate 6 0) ++ (6 ∷ 3 ∷ replicate 7 0))
    ∷ []

-- the tally of the history that these costs are: finished builds, reflections, expansions, contractions and shrinks; the other iterations; probe
-- readings; open ones; and the right side of the readings equation
abbrev pub tallied : Opening → List ℕ → ℕ → List ℕ
tallied o cs k =
    let s = begun o in
    let h = map told (take k cs) in
    made Build s h ∷ made Reflection s h ∷ made Expansion s h ∷ made Contraction s h ∷ made Shrink s h ∷ others s h ∷ probes_in s h
    ∷ open_in 0 s h ∷ readings_by s.setup.n (at o cs k).counts ∷ []

-- tallies by the rules: amid a shrink, after it, and amid a restart's build
unfoldable pub tallies_given : List (List ℕ)
tallies_given = tallied odd odd_costs 15 ∷ tallied odd odd_costs 16 ∷ tallied rounds rounds_costs 8 ∷ []

-- what document 01 says of each, in this order
unfoldable pub tallies_stated : List (List ℕ)
tallies_stated =
    (1 ∷ 1 ∷ 2 ∷ 2 ∷ 0 ∷ 5 ∷ 0 ∷ 3 ∷ 15 ∷ [])
    ∷ (1 ∷ 1 ∷ 2 ∷ 2 ∷ 1 ∷ 5 ∷ 0 ∷ 0 ∷ 16 ∷ [])
    ∷ (1 ∷ 0 ∷ 0 ∷ 0 ∷ 0 ∷ 0 ∷ 4 ∷ 1 ∷ 8 ∷ [])
    ∷ []

-- a flat run, by the bits of its 72 numbers
abbrev pub run_of : Simplex → List ℕ
run_of s = map (to_bits binary64) s.points

-- the standing and the gathered run amid a shrink, and the gathered run while a contraction is asked, by the rules
unfoldable pub runs_given : List (List ℕ)
runs_given = run_of (at odd odd_costs 15).standing ∷ run_of (at odd odd_costs 15).gathered ∷ run_of (at odd odd_costs 9).gathered ∷ []

-- "one flat run of 72 numbers": the vertices in cost order, zeros after them; the gathered ones are x1 and the first shrunk point; r alone
unfoldable pub runs_stated : List (List ℕ)
runs_stated =
    ((0x3fd3_6738_1d7d_bf4a ∷ 0xbff8_b261_7c1b_da50 ∷ replicate 6 0)
    ++ (0x3fee_e870_110a_1380 ∷ 0xc004_cdf6_555c_52e6 ∷ replicate 6 0)
    ++ (0x3fe3_bd03_6691_da5e ∷ 0xc000_bb73_cafd_eaa6 ∷ replicate 6 0)
    ++ replicate 48 0)
    ∷ ((0x3fd3_6738_1d7d_bf4a ∷ 0xbff8_b261_7c1b_da50 ∷ replicate 6 0)
    ++ (0x3fe6_6ce8_101f_31f5 ∷ 0xc001_6c0d_b270_2a34 ∷ replicate 6 0)
    ++ replicate 56 0)
    ∷ ((0x3fdc_0598_17b9_5a2a ∷ 0xc002_4ea4_97fa_5d28 ∷ replicate 6 0) ++ replicate 64 0)
    ∷ []

-- a simplex with no vertex: 72 zeros, nine and nine
abbrev pub empty : Simplex
empty = record { points = replicate 72 (bits 0); costs = replicate 9 0; numbers = replicate 9 0 }

-- "a closed search: ended with cause budget, all zero, its rule spread 0", every part written out
unfoldable pub closed_stated : Search
closed_stated =
    record {
      setup =
          record {
            n = 0;
            axes = replicate 8 (record { lo = bits 0; hi = bits 0; start = bits 0; step = bits 0; ring = false });
            coefficients = record { alpha = bits 0; chi = bits 0; beta = bits 0; sigma = bits 0 };
            rule = Spread 0;
            budget = 0;
          };
      method = NelderMead;
      phase = Ended Budget;
      standing = empty;
      gathered = empty;
      stops = replicate 9 0;
      center = replicate 8 (bits 0);
      readings = 0;
      best = record { point = replicate 8 (bits 0); cost = 0; number = 0 };
      counts = record { builds = 0; reflections = 0; expansions = 0; contractions = 0; shrinks = 0; patterns = 0; probes = 0; unfinished = 0; directed = 0 };
    }
