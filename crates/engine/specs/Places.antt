-- Places of a simplex as the code reads and writes them, and a trial before it is filled.
use Rattle.std.specs.Prelude.{◌≡◌, List, ℕ, ◌*◌, set, replicate}
use Rattle.std.proofs.Math.Seq.{paste}
use Rattle.rules.specs.Binary64.{0ᶠ}
use Rattle.rules.specs.Simplex.{pack, unpack}
use Rattle.rules.specs.declared.Simplex.{Simplex}
use Rattle.rules.specs.declared.Trial.{Trial}
use Rattle.rules.specs.declared.Vertex.{Vertex}
use Rattle.rules.proofs.Laws.Places.{Whole}

-- s with v at place i, counted from 0
abbrev pub put_at : Simplex → ℕ → Vertex → Simplex
put_at s i v = record { points = paste s.points (8 * i) v.point 8; costs = set s.costs i v.cost; numbers = set s.numbers i v.number }

-- s has blank places after its first i
abbrev pub Clean : ℕ → Simplex → Type 0
Clean i s = s ≡ pack (unpack i s)

-- the first m places of s hold the vertices vs, each with a point of eight numbers, and blank places follow
pub record Holds (m : ℕ) (s : Simplex) (vs : List Vertex) : Type 0 where
  pub packed : s ≡ pack vs
  pub read : unpack m s ≡ vs
  pub whole : Whole vs

-- a trial that has none of its axes yet
abbrev pub no_trial : Trial
no_trial = record { point = replicate 8 0ᶠ; stops = 0 }
