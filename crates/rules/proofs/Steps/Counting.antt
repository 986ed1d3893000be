-- What one accepted reading does to the counts. Assumes nothing.
use Rattle.std.specs.Prelude.{Option, Some, None}
use Rattle.std.specs.Option.{option_to_list}
use mathlib.Core.Path.{◌≡◌, refl, ◌∙◌}
use mathlib.Core.Bool.{false, true≢false, cond}
use mathlib.Core.List.{List, []}
use Prim.Native.Nat.{ℕ, ◌+◌, ◌-◌}
use native.Mathlib.Omega.{arith}
use Rattle.std.proofs.lemmas.Bool.Decides.{nat_tests}
use Rattle.rules.specs.View.{is_ended, is_probe, open_by, is_directed}
use Rattle.rules.specs.Count.{same, count_in, counts_by, told_in, counted, finished}
use Rattle.rules.specs.Tally.{count_of, is_open}
use Rattle.rules.specs.declared.Vertex.{Vertex}
use Rattle.rules.specs.declared.Counts.{Counts}
use Rattle.rules.specs.declared.Search.{Search}
use Rattle.rules.specs.declared.Phase.{Phase}
use Rattle.rules.specs.declared.Phase.TheVariants.{Building, Shrinking, Basing, Mirroring, Checking, Probing, Ended}
use Rattle.rules.specs.declared.Piece.{Piece}
use Rattle.rules.specs.declared.Piece.TheVariants.{Build, Reflection, Expansion, Contraction, Shrink, Pattern}
use Rattle.rules.proofs.Steps.Invariant.{Equation, Undirected, At, Inv}

-- ---- the pieces

-- the counts after the pieces of a list, and after so many probes and so many readings in multidirectional iterations
pub record Counted (ps : List Piece) (probe direct : ℕ) (c d : Counts) : Type 0 where
  pub pieces : (p : Piece) → count_in p d ≡ count_in p c + count_of p ps
  pub probes : d.probes ≡ c.probes + probe
  pub directed : d.directed ≡ c.directed + direct

-- each count is the one that was put there
pub count_by : (f : Piece → ℕ) (probes unfinished directed : ℕ) (p : Piece) → count_in p (counts_by f probes unfinished directed) ≡ f p
count_by f probes unfinished directed Build = refl
count_by f probes unfinished directed Reflection = refl
count_by f probes unfinished directed Expansion = refl
count_by f probes unfinished directed Contraction = refl
count_by f probes unfinished directed Shrink = refl
count_by f probes unfinished directed Pattern = refl

-- a reading that is told leaves the pieces as they were
pub told_count : (p : Phase) (c : Counts) (q : Piece) → count_in q (told_in p c) ≡ count_in q c
told_count p c q = count_by (λ r. count_in r c) _ _ _ q

-- with the piece that it finishes, if any, it counts that piece, and itself where it is a probe
pub counted_by : (o : Option Piece) (p : Phase) (c : Counts) → Counted (option_to_list o) (is_probe p) (is_directed p) c (finished o (told_in p c))
unfolding count_of
counted_by None p c = record { pieces = λ q. told_count p c q ∙ omega arith; probes = refl; directed = refl }
counted_by (Some x) p c =
    let d = told_in p c in
    record { pieces = λ q. count_by (λ r. cond (same r x) (count_in r d + 1) (count_in r d)) _ _ _ q ∙ grind (arith, nat_tests, told_count p c q); probes = refl; directed = refl }

-- how many readings a finished piece has taken
abbrev pub readings_in : ℕ → Piece → ℕ
readings_in n Build = n
readings_in n Reflection = 1
readings_in n Expansion = 2
readings_in n Contraction = 2
readings_in n Shrink = n + 2
readings_in n Pattern = 0

-- a piece whose readings are open is finished: that keeps the equation
pub closes : (p : Piece) (n k : ℕ) (c : Counts) → Equation n k c → c.unfinished ≡ readings_in n p → Equation n k (counted p c)
closes Build n k c h e = omega arith
closes Reflection n k c h e = omega arith
closes Expansion n k c h e = omega arith
closes Contraction n k c h e = omega arith
closes Shrink n k c h e = omega arith
closes Pattern n k c h e = omega arith

-- ---- a reading that finishes none

-- what a reading told in phase p adds: one to the probes or to the open ones, but the first of all nothing; where it opens none, none is open
pub record Adds (p : Phase) (readings : ℕ) (c : Counts) : Type 0 where
  pub one : is_probe p + open_by p + (1 - readings) ≡ 1
  pub closed : open_by p ≡ 0 → c.unfinished ≡ 0
  pub direct : is_directed p ≡ 0

module _ (rs : List Vertex) (s : Search) (inv : Inv rs s) where
  adds : (p : Phase) → is_ended p ≡ false → At p s.setup inv.vs inv.gs s.readings s.counts s.best → Adds p s.readings s.counts
  adds (Building i) live h = record { one = grind (arith, nat_tests, h.none, h.some); closed = λ e. grind (arith, nat_tests, h.unfinished); direct = refl }
  adds (Shrinking j) live h = record { one = omega (arith, h.some); closed = λ e. absurd (omega arith); direct = refl }
  adds (Probing p) live h = record { one = omega (arith, h.0.some); closed = λ e. h.0.unfinished; direct = refl }
  adds (Ended cause) live h = absurd (true≢false live)
  adds Basing live h = absurd h
  adds (Mirroring i) live h = absurd h
  adds (Checking i) live h = absurd h
  adds p live h = record { one = omega (arith, h.0.some); closed = λ e. absurd (omega arith); direct = refl }

  module _ (live : is_ended s.phase ≡ false) where
    -- what the reading that is told adds
    pub adds_now : Adds s.phase s.readings s.counts
    adds_now = adds s.phase live inv.phase

    -- the equation holds with it
    pub equation_told : Equation s.setup.n (s.readings + 1) (told_in s.phase s.counts)
    equation_told = omega (arith, inv.equation, adds_now.one)

    -- where it finishes no piece, as many readings are open as the tally says
    pub open_told : (told_in s.phase s.counts).unfinished ≡ cond (is_open [] (is_probe s.phase + is_directed s.phase) s.readings) (s.counts.unfinished + 1) 0
    open_told = grind (arith, nat_tests, adds_now.one, adds_now.closed, adds_now.direct)

    -- nothing counts in multidirectional iterations
    pub undirected_told : Undirected (told_in s.phase s.counts)
    undirected_told = record { patterns = inv.undirected.patterns; directed = omega (arith, adds_now.direct, inv.undirected.directed) }
