-- Laws on the parts of a search after a reading: the code changes them one after the other. Assumes nothing.
use mathlib.Core.Path.{◌≡◌, refl}
use mathlib.Core.Bool.{Bool, true, cond}
use Prim.Native.Nat.{ℕ, ◌+◌, ◌≤◌}
use mathlib.Core.List.Memᴰ
use mathlib.Core.List.{List, [], ◌∷◌, ◌++◌}
use native.Mathlib.Omega.{arith}
use lib.Dec.{leb}
use lib.Ieee.{Float}
use Rattle.std.proofs.lemmas.Bool.{cond_both}
use Rattle.std.proofs.lemmas.Bool.Decides.{nat_tests}
use Rattle.rules.specs.Numbers.{max_cost}
use Rattle.rules.specs.Simplex.{pack, unpack, insert}
use Rattle.rules.specs.Accept.{entrant, standing_after, stops_after, gathered_after}
use Rattle.rules.specs.Companions.{next_unread}
use Rattle.rules.specs.Decide.{is_last, is_full, row1, row2, row3, wins, ends_round, lower, checks_from, restart, decided}
use Rattle.rules.specs.Calls.{sound_phase, all_costs}
use Rattle.rules.specs.declared.Vertex.{Vertex}
use Rattle.rules.specs.declared.Simplex.{Simplex}
use Rattle.rules.specs.declared.Search.{Search}
use Rattle.rules.specs.declared.Method.{Method}
use Rattle.rules.specs.declared.Method.TheVariants.{NelderMead, Multidirectional}
use Rattle.rules.specs.declared.Phase.{Phase}
use Rattle.rules.specs.declared.Phase.TheVariants.{Building, Reflecting, Expanding, Contracting, Shrinking, Basing, Mirroring, Checking, Probing, Ended}
use Rattle.rules.specs.declared.Side.TheVariants.{Outside, Inside}
use Rattle.rules.specs.declared.Cause.TheVariants.{Settled}
use Rattle.rules.specs.declared.Piece.TheVariants.{Build, Reflection, Contraction, Shrink}
use Rattle.rules.specs.declared.Change.TheVariants.{Mirrored, Swapped, Halved}
use Rattle.rules.specs.declared.Newcomer.TheVariants.{Latest, Reflected}
use Rattle.rules.specs.declared.Keeping.{Keeping}
use Rattle.rules.specs.declared.Keeping.TheVariants.{Nothing, Joined, First, Told, Read}
use Rattle.rules.specs.declared.Decision.{Decision}
use Rattle.rules.specs.declared.Decision.TheVariants.{Go, Take, Stand, Restart, Regroup}
use Rattle.rules.proofs.Laws.Places.{costs_pack}
use Rattle.engine.specs.Places.{Holds}
use Rattle.engine.specs.Ready.{Ready, Kept, Placed}
use Rattle.engine.proofs.Laws.Placing.{cost_low, low_inserted, low_appended, insert_none}

-- ---- the vertex that enters

-- the vertex u that the decision d lets in has a cost in range, where that of the reading is and the gathered ones are. The reading is written out:
-- `search` does not look for one
pub entrant_low : (s : Search) (d : Decision) (x : List Float) (c k : ℕ) (u : Vertex) → u ≡ entrant d (record { point = x; cost = c; number = k }) s
    → Ready s → c ≤ max_cost → u.cost ≤ max_cost
entrant_low s (Take piece Reflected) x c k u f h l = rw f (cost_low s.gathered.costs h.gathered 0)
entrant_low s (Take piece Latest) x c k u f h l = rw f l
entrant_low s (Go keeping next) x c k u f h l = rw f l
entrant_low s (Stand piece) x c k u f h l = rw f l
entrant_low s Restart x c k u f h l = rw f l
entrant_low s (Regroup change) x c k u f h l = rw f l

-- ---- where a reading is kept

-- of two decisions either keeps the reading at one of the companions' places
either : (n : ℕ) (b : Bool) (d e : Decision) → Placed n d → Placed n e → Placed n (cond b d e)
either n b d e h k = cond_both b d e (Placed n) (λ _. h) (λ _. k)

-- so do the unread companions that are asked
checks_placed : (i : ℕ) (keeping : Keeping) (s : Search) → Kept s.setup.n keeping → Placed s.setup.n (checks_from i keeping s)
checks_placed i keeping s h =
    let j = next_unread s.setup.n s.standing.numbers i in
    either s.setup.n (leb j s.setup.n) (Go keeping (Checking j)) (Regroup Halved) h tt

-- so does what a reading decides in each phase
phase_placed : (p : Phase) (s : Search) (c : ℕ) → sound_phase s.setup.n s.readings [] p ≡ true → Placed s.setup.n (decided p s c)
unfolding decided
phase_placed (Building i) s c h = either s.setup.n (is_last i s) (Stand Build) (Go Joined (Building (i + 1))) tt tt
phase_placed Reflecting s c h =
    let n = s.setup.n in
    either n (row1 c s) (Go Joined Expanding) _ tt
    (either n (row2 c s) (Take Reflection Latest) _ tt (either n (row3 c s) (Go Joined (Contracting Outside)) (Go Joined (Contracting Inside)) tt tt))
phase_placed Expanding s c h = tt
phase_placed (Contracting side) s c h = either s.setup.n (wins side c s) (Take Contraction Latest) (Go First (Shrinking 1)) tt tt
phase_placed (Shrinking j) s c h = either s.setup.n (is_last j s) (Stand Shrink) (Go Joined (Shrinking (j + 1))) tt tt
phase_placed Basing s c h = tt
phase_placed (Mirroring i) s c h =
    let n = s.setup.n in
    let k : Kept n (Told i) = (grind (arith, nat_tests), grind (arith, nat_tests)) in
    either n (lower c s) (Regroup (Mirrored i)) _ tt (either n (is_last i s) _ (Go (Told i) (Mirroring (i + 1))) (checks_placed 1 (Told i) s k) k)
phase_placed (Checking i) s c h =
    let n = s.setup.n in
    let k : Kept n (Read i) = (grind (arith, nat_tests), grind (arith, nat_tests)) in
    either n (lower c s) (Regroup (Swapped i)) _ tt (checks_placed (i + 1) (Read i) s k)
phase_placed (Probing p) s c h =
    let n = s.setup.n in
    either n (ends_round c s) (restart s.method) _ (restart_placed n s.method) (either n (is_full p s) (Go Nothing (Ended Settled)) (Go Nothing (Probing (p + 1))) tt tt)
  where
    restart_placed : (n : ℕ) (m : Method) → Placed n (restart m)
    restart_placed n NelderMead = tt
    restart_placed n Multidirectional = tt
phase_placed (Ended cause) s c h = tt

-- and in that of a search that is ready
pub placed : (s : Search) (c : ℕ) (d : Decision) → d ≡ decided s.phase s c → Ready s → Placed s.setup.n d
placed s c d e h = rw e (phase_placed s.phase s c h.phase)

-- ---- the places

-- w, which holds the first m vertices of g with the newcomer v among them, has costs in range where those of g and v are
pub low_with : (g w : Simplex) (m : ℕ) (v : Vertex) → Holds (m + 1) w (insert v (unpack m g)) → v.cost ≤ max_cost → all_costs g.costs ≡ true → all_costs w.costs ≡ true
low_with g w m v e h k = rw e.packed (low_inserted g m v h k)

-- w, which holds them with v after them, too
pub low_after_all : (g w : Simplex) (m : ℕ) (v : Vertex) → Holds (m + 1) w (unpack m g ++ v ∷ []) → v.cost ≤ max_cost → all_costs g.costs ≡ true → all_costs w.costs ≡ true
low_after_all g w m v e h k = rw e.packed (low_appended g m v h k)

-- blank places have costs in range
pub low_blank : all_costs (pack []).costs ≡ true
low_blank = costs_pack [] (λ v m. absurd (Memᴰ.not-nil m))

-- a search stays ready with other standing places whose costs are in range
pub ready_standing : (s : Search) (w : Simplex) → Ready s → all_costs w.costs ≡ true → Ready (record s { standing = w })
ready_standing s w h k = record { low = h.low; high = h.high; rule = h.rule; phase = h.phase; live = h.live; counts = h.counts; standing = k; gathered = h.gathered }

-- and with other gathered ones
pub ready_gathered : (s : Search) (w : Simplex) → Ready s → all_costs w.costs ≡ true → Ready (record s { gathered = w })
ready_gathered s w h k = record { low = h.low; high = h.high; rule = h.rule; phase = h.phase; live = h.live; counts = h.counts; standing = h.standing; gathered = k }

-- the gathered places after a decision do not ask for the standing ones that it leaves
pub gathered_then : (d : Decision) (u : Vertex) (s : Search) → gathered_after d u (record s { standing = standing_after d u s; stops = stops_after d u s }) ≡ gathered_after d u s
gathered_then (Go Nothing next) u s = refl
gathered_then (Go Joined next) u s = refl
gathered_then (Go First next) u s = refl
gathered_then (Go (Told i) next) u s = refl
gathered_then (Go (Read i) next) u s = refl
gathered_then (Take piece who) u s = refl
gathered_then (Stand piece) u s = refl
gathered_then Restart u s = refl
gathered_then (Regroup change) u s = refl

-- the laws that the changed places take
pub ruleset places = (low_with, low_after_all, low_blank, cost_low, ready_standing, ready_gathered, insert_none)
