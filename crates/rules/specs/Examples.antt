-- "Examples with two axes": P1 to P12 as one list, what the rules give beside what document 01 says.
use Rattle.std.specs.Prelude.{Bool, true, false, List, [], ◌∷◌, map, ℕ, replicate, get_or, Float, Some}
use Rattle.std.specs.Float.{binary64}
use Rattle.std.specs.Float.Ieee.{of_bits, to_bits, neg}
use Rattle.rules.specs.Binary64.{0ᶠ, 1ᶠ, 8ᶠ}
use Rattle.rules.specs.Numbers.{usual}
use Rattle.rules.specs.Simplex.{place, unpack}
use Rattle.rules.specs.Trial.{trial}
use Rattle.rules.specs.Stop.{spread_met}
use Rattle.rules.specs.History.{told, run}
use Rattle.rules.specs.Opening.{zero_axis, fresh}
use Rattle.rules.specs.declared.Method.TheVariants.{NelderMead}
use Rattle.rules.specs.declared.Axis.{Axis}
use Rattle.rules.specs.declared.Search.{Search}
use Rattle.rules.specs.declared.Vertex.{Vertex}
use Rattle.rules.specs.declared.Rule.TheVariants.{Spread}

-- the bits of 0.25
abbrev pub ¼ : ℕ
¼ = 0x3fd0_0000_0000_0000

-- the bits of 0.5
abbrev pub ½ : ℕ
½ = 0x3fe0_0000_0000_0000

-- the bits of 0.75
abbrev pub ¾ : ℕ
¾ = 0x3fe8_0000_0000_0000

-- the bits of 1
abbrev pub 𝟏 : ℕ
𝟏 = 0x3ff0_0000_0000_0000

-- the bits of 1.25
abbrev pub 1¼ : ℕ
1¼ = 0x3ff4_0000_0000_0000

-- the bits of 1.5
abbrev pub 1½ : ℕ
1½ = 0x3ff8_0000_0000_0000

-- "lo −8, hi 8, start 0, step 1", or another hi
abbrev pub example_axis : Float → Axis
example_axis hi = record { lo = neg 8ᶠ; hi = hi; start = 0ᶠ; step = 1ᶠ; ring = false }

-- the examples' search as opened, "spread 4, budget 100"
abbrev pub example_search : Float → Search
example_search hi = fresh NelderMead 2 (example_axis hi ∷ example_axis hi ∷ replicate 6 zero_axis) (Some (Spread 4)) usual 100

-- what an example shows: the two coordinates asked for, by their bits; the vertex at a place, with its cost; whether a rule is met
pub data Shows : Type 0 where
  asks : ℕ → ℕ → Shows
  stands : ℕ → ℕ → ℕ → Shows
  meets : Bool → Shows

-- the bits of coordinate a
abbrev pub bits_at : List Float → ℕ → ℕ
bits_at x a = to_bits binary64 (get_or x a 0ᶠ)

-- the search after these costs were told
abbrev pub after_costs : Search → List ℕ → Search
after_costs s cs = run s (map told cs)

-- the next trial
abbrev pub next : Search → Shows
next s = asks (bits_at (trial s).point 0) (bits_at (trial s).point 1)

-- the standing vertex at a place, from 1
abbrev pub stands_at : Vertex → Shows
stands_at v = stands (bits_at v.point 0) (bits_at v.point 1) v.cost

-- the search after 30, 20 and 10 were told, and then these
abbrev pub after_p1 : List ℕ → Search
after_p1 cs = after_costs (after_costs (example_search 8ᶠ) (30 ∷ 20 ∷ 10 ∷ [])) cs

-- place i, from 0, after 30, 20, 10 and then these
abbrev pub place_after : ℕ → List ℕ → Shows
place_after i cs = stands_at (place (after_p1 cs).standing i)

-- whether spread e is met by the costs 10, 20 and 30
abbrev pub spread_after : ℕ → Shows
spread_after e = meets (spread_met 2 e (unpack 3 (after_p1 []).standing))

-- what the rules give, example by example
unfoldable pub given : List Shows
given =
    -- P1: trials (0,0), (1,0), (0,1)
    next (example_search 8ᶠ) ∷ next (after_costs (example_search 8ᶠ) (30 ∷ [])) ∷ next (after_costs (example_search 8ᶠ) (30 ∷ 20 ∷ []))
    -- P2: next trial (1,1)
    ∷ next (after_p1 [])
    -- P3: after 5 is told, expansion at (1.5,1.5); P4: 5 again takes (1,1)
    ∷ next (after_p1 (5 ∷ [])) ∷ place_after 0 (5 ∷ 5 ∷ [])
    -- P5: told 10 instead of 5, (1,1) enters at place 2
    ∷ place_after 1 (10 ∷ [])
    -- P6: told 20, outside at (0.75,0.75); P7: 20 is taken at place 3
    ∷ next (after_p1 (20 ∷ [])) ∷ place_after 2 (20 ∷ 20 ∷ [])
    -- P8: 21 shrinks, asking (0.5,0.5) and (0,0.5)
    ∷ next (after_p1 (20 ∷ 21 ∷ [])) ∷ next (after_p1 (20 ∷ 21 ∷ 9 ∷ []))
    -- P9: told 30, inside at (0.25,0.25); 29 is taken; P10: 30 shrinks
    ∷ next (after_p1 (30 ∷ [])) ∷ place_after 2 (30 ∷ 29 ∷ []) ∷ next (after_p1 (30 ∷ 30 ∷ []))
    -- P11: costs 10, 20, 30: spread 100 isn't met, 101 is
    ∷ spread_after 100 ∷ spread_after 101
    -- P12: hi 1.25 on both axes: the P3 trial is (1.25,1.25)
    ∷ next (after_costs (example_search (of_bits binary64 1¼)) (30 ∷ 20 ∷ 10 ∷ 5 ∷ []))
    ∷ []

-- what document 01 says of each example of `given`, in its order
unfoldable pub paper : List Shows
paper =
    asks 0 0 ∷ asks 𝟏 0 ∷ asks 0 𝟏
    ∷ asks 𝟏 𝟏
    ∷ asks 1½ 1½ ∷ stands 𝟏 𝟏 5
    ∷ stands 𝟏 𝟏 10
    ∷ asks ¾ ¾ ∷ stands ¾ ¾ 20
    ∷ asks ½ ½ ∷ asks 0 ½
    ∷ asks ¼ ¼ ∷ stands ¼ ¼ 29 ∷ asks ½ ½
    ∷ meets false ∷ meets true
    ∷ asks 1¼ 1¼
    ∷ []
