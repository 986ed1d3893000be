-- The invariant of every Nelder-Mead search that an opening and calls have made: what it carries, by its phase. Assumes nothing.
use mathlib.Core.Path.{◌≡◌}
use mathlib.Core.List.{List, [], ◌∷◌, map, Memᴰ}
use Prim.Native.Nat.{ℕ, ◌+◌, ◌-◌, ◌*◌, ◌≤◌, ◌<◌}
use lib.ListN.{length, get_or, take}
use Rattle.rules.specs.Binary64.{0ᶠ}
use Rattle.rules.specs.Numbers.{max_cost}
use Rattle.rules.specs.Simplex.{first_of, blank, pack, cost_of, Ordered}
use Rattle.rules.specs.History.{EarliestLeast}
use Rattle.rules.specs.Tally.{readings_by}
use Rattle.rules.specs.declared.Method.TheVariants.{NelderMead}
use Rattle.rules.specs.declared.Vertex.{Vertex}
use Rattle.rules.specs.declared.Simplex.{Simplex}
use Rattle.rules.specs.declared.Counts.{Counts}
use Rattle.rules.specs.declared.Setup.{Setup}
use Rattle.rules.specs.declared.Search.{Search}
use Rattle.rules.specs.declared.Phase.{Phase}
use Rattle.rules.specs.declared.Phase.TheVariants.{Building, Reflecting, Expanding, Contracting, Shrinking, Basing, Mirroring, Checking, Probing, Ended}
use Rattle.rules.specs.declared.Cause.TheVariants.{Settled, Budget}
use Rattle.rules.specs.declared.Side.{Side}
use Rattle.rules.specs.declared.Side.TheVariants.{Outside, Inside}
use Rattle.rules.proofs.Laws.Openings.{Sane}

-- every vertex of the first list is one of the second
abbrev pub Known : List Vertex → List Vertex → Type 0
Known vs rs = (v : Vertex) → Memᴰ v vs → Memᴰ v rs

-- b is the first of the vertices
abbrev pub Leads : List Vertex → Vertex → Type 0
Leads vs b = take 1 vs ≡ b ∷ []

-- a reading is a point of n coordinates, zero after them, with a cost and a number
pub record ReadingShape (n : ℕ) (v : Vertex) : Type 0 where
  pub shape : first_of n 0ᶠ v.point ≡ v.point
  pub eight : length v.point ≡ 8
  pub low : v.cost ≤ max_cost
  pub numbered : 1 ≤ v.number

-- b is the earliest least of the readings rs
abbrev pub Best : List Vertex → Vertex → Type 0
Best rs b = (k : ℕ) × EarliestLeast (map cost_of rs) k × (get_or rs k blank ≡ b)

-- the readings rs are noted: their number, and the best of them
pub record Noted (rs : List Vertex) (t : Setup) (readings : ℕ) (best : Vertex) : Type 0 where
  pub sane : Sane t
  pub told : readings ≡ length rs
  pub below : readings ≤ t.budget
  pub shapes : (v : Vertex) → Memᴰ v rs → ReadingShape t.n v
  pub least : 1 ≤ readings → Best rs best
  pub low : best.cost ≤ max_cost

-- the vertices vs stand: none before the first build ends, n + 1 afterwards
pub record Stands (rs vs : List Vertex) (t : Setup) (builds : ℕ) (standing : Simplex) : Type 0 where
  pub are : standing ≡ pack vs
  pub none : builds ≡ 0 → vs ≡ []
  pub all : 1 ≤ builds → length vs ≡ t.n + 1
  pub sorted : Ordered vs
  pub known : Known vs rs

-- the vertices gs are gathered
pub record Gathers (rs gs : List Vertex) (gathered : Simplex) : Type 0 where
  pub are : gathered ≡ pack gs
  pub known : Known gs rs

-- the readings equation, read as 1 ≡ 1 while there is no reading
abbrev pub Equation : ℕ → ℕ → Counts → Type 0
Equation n readings c = readings + (1 - readings) ≡ readings_by n c

-- outside a build and a shrink: a simplex stands, k readings are open
pub record Idle (k : ℕ) (readings : ℕ) (c : Counts) : Type 0 where
  pub stood : 1 ≤ c.builds
  pub some : 1 ≤ readings
  pub unfinished : c.unfinished ≡ k

-- i vertices of a build are gathered, and the first is the best
pub record AtBuild (i : ℕ) (n : ℕ) (gs : List Vertex) (readings : ℕ) (c : Counts) (best : Vertex) : Type 0 where
  pub high : i ≤ n
  pub many : length gs ≡ i
  pub sorted : Ordered gs
  pub leads : 1 ≤ i → Leads gs best
  pub unfinished : c.unfinished ≡ i - 1
  pub none : i ≡ 0 → readings ≡ 0
  pub some : 1 ≤ i → 1 ≤ readings

-- j vertices of a shrink are gathered, and the first is the best
pub record AtShrink (j : ℕ) (n : ℕ) (gs : List Vertex) (readings : ℕ) (c : Counts) (best : Vertex) : Type 0 where
  pub low : 1 ≤ j
  pub high : j ≤ n
  pub many : length gs ≡ j
  pub sorted : Ordered gs
  pub leads : Leads gs best
  pub unfinished : c.unfinished ≡ j + 1
  pub stood : 1 ≤ c.builds
  pub some : 1 ≤ readings

-- r is gathered, is the best, and is lower than every standing vertex
pub record AtExpand (vs gs : List Vertex) (best : Vertex) : Type 0 where
  pub holds : gs ≡ best ∷ []
  pub lower : best.cost < (get_or vs 0 blank).cost

-- what the third and the fourth row know of fr
abbrev pub RowBound : Side → ℕ → ℕ → Type 0
RowBound Outside f w = f < w
RowBound Inside f w = Unit {0}

-- r is gathered; the first vertex is the best, and r is not lower
pub record AtContract (side : Side) (n : ℕ) (vs gs : List Vertex) (best : Vertex) : Type 0 where
  pub r : Vertex
  pub holds : gs ≡ r ∷ []
  pub leads : Leads vs best
  pub higher : best.cost ≤ r.cost
  pub row : RowBound side r.cost (get_or vs n blank).cost

-- what holds in each phase
abbrev pub At : Phase → Setup → List Vertex → List Vertex → ℕ → Counts → Vertex → Type 0
At (Building i) t vs gs readings c best = AtBuild i t.n gs readings c best
At Reflecting t vs gs readings c best = Idle 0 readings c × Leads vs best
At Expanding t vs gs readings c best = Idle 1 readings c × AtExpand vs gs best
At (Contracting side) t vs gs readings c best = Idle 1 readings c × AtContract side t.n vs gs best
At (Shrinking j) t vs gs readings c best = AtShrink j t.n gs readings c best
-- those of the other method never come
At Basing t vs gs readings c best = ⊥
At (Mirroring i) t vs gs readings c best = ⊥
At (Checking i) t vs gs readings c best = ⊥
At (Probing p) t vs gs readings c best = Idle 0 readings c × Leads vs best × (p < 2 * t.n)
At (Ended Settled) t vs gs readings c best = Unit {0}
At (Ended Budget) t vs gs readings c best = readings ≡ t.budget

-- nothing counts in multidirectional iterations
pub record Undirected (c : Counts) : Type 0 where
  pub patterns : c.patterns ≡ 0
  pub directed : c.directed ≡ 0

-- rs: the readings of s
pub record Inv (rs : List Vertex) (s : Search) : Type 0 where
  pub method : s.method ≡ NelderMead
  pub vs : List Vertex
  pub gs : List Vertex
  pub noted : Noted rs s.setup s.readings s.best
  pub stands : Stands rs vs s.setup s.counts.builds s.standing
  pub gathers : Gathers rs gs s.gathered
  pub equation : Equation s.setup.n s.readings s.counts
  pub undirected : Undirected s.counts
  pub phase : At s.phase s.setup vs gs s.readings s.counts s.best
