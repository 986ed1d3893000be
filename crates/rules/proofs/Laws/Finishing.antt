-- The tally agrees with the table on the piece that a reading finishes, and with `view` on what a probe is, though each says it on its own.
-- Assumes nothing.
use Rattle.std.specs.Option.{option_to_list}
use mathlib.Core.Path.{◌≡◌, refl}
use mathlib.Core.List.{List}
use mathlib.Core.Bool.{not}
use Prim.Native.Nat.{ℕ, zero, suc, ◌+◌, ◌-◌}
use native.Mathlib.Omega.{arith}
use Rattle.std.proofs.lemmas.Bool.Decides.{nat_tests}
use lib.Dec.{leb}
use Rattle.rules.specs.View.{is_probe, is_directed}
use Rattle.rules.specs.Companions.{unread_from, next_unread}
use Rattle.rules.specs.Decide.{decided, finished_by}
use Rattle.rules.specs.Tally.{all_read, ended_by, probe_in, direct_in}
use Rattle.rules.specs.declared.Search.{Search}
use Rattle.rules.specs.declared.Phase.{Phase}
use Rattle.rules.specs.declared.Phase.TheVariants.{Contracting, Mirroring, Checking, Probing}
use Rattle.rules.specs.declared.Side.TheVariants.{Outside}
use Rattle.rules.specs.declared.Piece.{Piece}
use Rattle.rules.specs.declared.Decision.{Decision}

-- the pieces that a decision finishes: one or none
abbrev pub pieces_by : Decision → List Piece
pieces_by d = option_to_list (finished_by d)

-- a companion is found unread exactly where not all are read
unread_tells : (k i n : ℕ) (ns : List ℕ) → k ≡ n + 1 - i → leb (unread_from k ns i) n ≡ not (all_read k i ns)
unfolding unread_from all_read
unread_tells zero i n ns e = grind (arith, nat_tests)
unread_tells (suc k) i n ns e = grind (arith, nat_tests, unread_tells k (suc i) n ns (omega arith))

-- of n companions, from the i-th on
unread_or_read : (n i : ℕ) (ns : List ℕ) → leb (next_unread n ns i) n ≡ not (all_read (n + 1 - i) i ns)
unread_or_read n i ns = unread_tells (n + 1 - i) i n ns refl

-- in every phase the tally has those that the decision finishes
pub ended_decided : (p : Phase) (s : Search) (c : ℕ) → ended_by p s c ≡ pieces_by (decided p s c)
unfolding decided
ended_decided (Contracting Outside) s c = grind (arith, nat_tests)
ended_decided (Mirroring i) s c = let many : s.setup.n + 1 - 1 ≡ s.setup.n = omega arith in grind (arith, nat_tests, unread_or_read s.setup.n 1 s.standing.numbers)
ended_decided (Checking i) s c = let many : s.setup.n + 1 - (i + 1) ≡ s.setup.n - i = omega arith in grind (arith, nat_tests, unread_or_read s.setup.n (i + 1) s.standing.numbers)
ended_decided p s c = grind (arith, nat_tests)

-- the tally and `view` tell the same phases as those of a probe
pub probe_viewed : (p : Phase) → probe_in p ≡ is_probe p
probe_viewed (Probing q) = refl
probe_viewed _ = refl

-- and as those of a multidirectional iteration
pub direct_viewed : (p : Phase) → direct_in p ≡ is_directed p
direct_viewed (Mirroring i) = refl
direct_viewed (Checking i) = refl
direct_viewed _ = refl
