-- "Counts": the numbers that a search carries, each by the piece that it counts.
use Rattle.std.specs.Prelude.{Bool, cond, ℕ, ◌+◌, eqb, Option, Some, None}
use Rattle.rules.specs.View.{is_probe, open_by, is_directed}
use Rattle.rules.specs.declared.Phase.{Phase}
use Rattle.rules.specs.declared.Counts.{Counts}
use Rattle.rules.specs.declared.Piece.{Piece}
use Rattle.rules.specs.declared.Piece.TheVariants.{Build, Reflection, Expansion, Contraction, Shrink, Pattern}

-- a number for each kind of piece, to tell them apart by
abbrev pub kind : Piece → ℕ
kind Build = 0
kind Reflection = 1
kind Expansion = 2
kind Contraction = 3
kind Shrink = 4
kind Pattern = 5

-- two pieces are of one kind
abbrev pub same : Piece → Piece → Bool
same p q = eqb (kind p) (kind q)

-- "Builds, reflections .., expansions .., contractions .., shrinks: each counts finished ones", and "finished iterations"
abbrev pub count_in : Piece → Counts → ℕ
count_in Build c = c.builds
count_in Reflection c = c.reflections
count_in Expansion c = c.expansions
count_in Contraction c = c.contractions
count_in Shrink c = c.shrinks
count_in Pattern c = c.patterns

-- the counts in full: f gives those of the pieces
abbrev pub counts_by : (Piece → ℕ) → ℕ → ℕ → ℕ → Counts
counts_by f probes unfinished directed =
    record {
      builds = f Build;
      reflections = f Reflection;
      expansions = f Expansion;
      contractions = f Contraction;
      shrinks = f Shrink;
      patterns = f Pattern;
      probes = probes;
      unfinished = unfinished;
      directed = directed;
    }

-- all counts zero
abbrev pub no_counts : Counts
no_counts = counts_by (λ q. 0) 0 0 0

-- one reading told in phase p more, in Probes, in Open or in multidirectional iterations
abbrev pub told_in : Phase → Counts → Counts
told_in p c = counts_by (λ q. count_in q c) (c.probes + is_probe p) (c.unfinished + open_by p) (c.directed + is_directed p)

-- "each counts finished ones": one p more, and what was open is closed
abbrev pub counted : Piece → Counts → Counts
counted p c = counts_by (λ q. cond (same q p) (count_in q c + 1) (count_in q c)) c.probes 0 c.directed

-- the piece that a reading finishes, if any, is counted
abbrev pub finished : Option Piece → Counts → Counts
finished None c = c
finished (Some p) c = counted p c
