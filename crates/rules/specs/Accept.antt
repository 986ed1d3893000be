-- What an accepted reading does to a search: `decided` first, then each part of the search by the decision.
use Rattle.std.specs.Prelude.{Bool, cond, not, ◌&&◌, ◌||◌, List, [], ◌∷◌, ◌++◌, map, ℕ, suc, ◌+◌, ◌-◌, drop, ltb, eqb, Float}
use Rattle.rules.specs.Binary64.{0ᶠ}
use Rattle.rules.specs.Simplex.{up_to, place, point_of, unpack, pack, insert}
use Rattle.rules.specs.View.{is_ended, gathered_in}
use Rattle.rules.specs.Trial.{point_in, trial}
use Rattle.rules.specs.Count.{same, told_in, finished}
use Rattle.rules.specs.Stop.{apart, movement, tested}
use Rattle.rules.specs.Companions.{group_after, group_read, stop_after, stops_by}
use Rattle.rules.specs.Decide.{decided, finished_by}
use Rattle.rules.specs.declared.Vertex.{Vertex}
use Rattle.rules.specs.declared.Simplex.{Simplex}
use Rattle.rules.specs.declared.Counts.{Counts}
use Rattle.rules.specs.declared.Search.{Search}
use Rattle.rules.specs.declared.Method.{Method}
use Rattle.rules.specs.declared.Method.TheVariants.{NelderMead, Multidirectional}
use Rattle.rules.specs.declared.Phase.{Phase}
use Rattle.rules.specs.declared.Phase.TheVariants.{Building, Reflecting, Shrinking, Mirroring, Probing, Ended}
use Rattle.rules.specs.declared.Cause.TheVariants.{Budget}
use Rattle.rules.specs.declared.Piece.TheVariants.{Shrink}
use Rattle.rules.specs.declared.Newcomer.{Newcomer}
use Rattle.rules.specs.declared.Newcomer.TheVariants.{Latest, Reflected}
use Rattle.rules.specs.declared.Keeping.{Keeping}
use Rattle.rules.specs.declared.Keeping.TheVariants.{Nothing, Joined, First, Told, Read}
use Rattle.rules.specs.declared.Change.{Change}
use Rattle.rules.specs.declared.Change.TheVariants.{Built, Mirrored, Swapped, Halved}
use Rattle.rules.specs.declared.Decision.{Decision}
use Rattle.rules.specs.declared.Decision.TheVariants.{Go, Take, Stand, Restart, Regroup}

-- ---- the vertices: v is the reading, and u the vertex that enters by the decision

-- "take e .., else r": the reading, or r as it was gathered
abbrev pub newcomer : Newcomer → Vertex → Search → Vertex
newcomer Latest v s = v
newcomer Reflected v s = place s.gathered 0

-- the vertex that a decision lets in
abbrev pub entrant : Decision → Vertex → Search → Vertex
entrant (Go keeping next) v s = v
entrant (Take piece who) v s = newcomer who v s
entrant (Stand piece) v s = v
entrant Restart v s = v
entrant (Regroup change) v s = v

-- the gathered vertices
abbrev pub gathered_of : Search → List Vertex
gathered_of s = unpack (gathered_in s.phase) s.gathered

-- "A taken point replaces w"
abbrev pub replaced : Vertex → Search → List Vertex
replaced u s = insert u (unpack s.setup.n s.standing)

-- "built and shrunk vertices enter in the order told"; r is gathered alone
abbrev pub joined : Vertex → Search → List Vertex
joined u s = insert u (gathered_of s)

-- the standing places where a piece or a probe round goes on: a companion is read
abbrev pub standing_with : Keeping → Vertex → Search → Simplex
standing_with Nothing u s = s.standing
standing_with Joined u s = s.standing
standing_with First u s = s.standing
standing_with (Told i) u s = s.standing
standing_with (Read i) u s = pack (group_read i u s)

-- the standing places: the simplex "of the last finished build or iteration", or the base and its companions
abbrev pub standing_after : Decision → Vertex → Search → Simplex
standing_after (Go keeping next) u s = standing_with keeping u s
standing_after (Take piece who) u s = pack (replaced u s)
standing_after (Stand piece) u s = pack (joined u s)
standing_after Restart u s = s.standing
standing_after (Regroup change) u s = pack (group_after change u s)

-- the gathered vertices where a piece or a probe round goes on: "A shrink keeps x1"; reflections in the order told
abbrev pub gathered_with : Keeping → Vertex → Search → Simplex
gathered_with Nothing u s = s.gathered
gathered_with Joined u s = pack (joined u s)
gathered_with First u s = pack (place s.standing 0 ∷ [])
gathered_with (Told i) u s = pack (unpack (i - 1) s.gathered ++ u ∷ [])
gathered_with (Read i) u s = s.gathered

-- the gathered vertices: none after the end of a piece; a restart has its own point, "whose cost is already known"
abbrev pub gathered_after : Decision → Vertex → Search → Simplex
gathered_after (Go keeping next) u s = gathered_with keeping u s
gathered_after (Take piece who) u s = pack []
gathered_after (Stand piece) u s = pack []
gathered_after Restart u s = pack (u ∷ [])
gathered_after (Regroup change) u s = pack []

-- the stops of the companions: "its trial carries that count"
abbrev pub stops_after : Decision → Vertex → Search → List ℕ
stops_after (Go keeping next) u s = s.stops
stops_after (Take piece who) u s = s.stops
stops_after (Stand piece) u s = s.stops
stops_after Restart u s = s.stops
stops_after (Regroup change) u s = stops_by (stop_after change u s) s.setup.n

-- the point that companions are built around, if they are: "A restart builds unread companions around the lower point"
abbrev pub center_with : Change → Vertex → Search → List Float
center_with Built u s = u.point
center_with (Mirrored j) u s = s.center
center_with (Swapped j) u s = s.center
center_with Halved u s = s.center

-- the point that a build goes around: "a restart builds around that point"
abbrev pub center_after : Decision → Vertex → Search → List Float
center_after (Go keeping next) u s = s.center
center_after (Take piece who) u s = s.center
center_after (Stand piece) u s = s.center
center_after Restart u s = u.point
center_after (Regroup change) u s = center_with change u s

-- ---- the phase

-- the points that a shrink asks for places 2 to n+1
abbrev pub shrunk_points : Search → List (List Float)
shrunk_points s = up_to (λ (k : ℕ). point_in (Shrinking (suc k)) s) s.setup.n

-- the movement, "the sum over replaced vertices, in old place order .. running from 0": u replaces w where it is taken, a shrink all
-- but x1, anything else none
abbrev pub moved : Decision → Vertex → Search → Float
moved (Go keeping next) u s = 0ᶠ
moved (Take piece who) u s = apart (place s.standing s.setup.n).point u.point 0ᶠ s.setup.n
moved (Stand piece) u s = cond (same piece Shrink) (movement s.setup.n (map point_of (drop 1 (unpack (s.setup.n + 1) s.standing))) (shrunk_points s) 0ᶠ) 0ᶠ
moved Restart u s = 0ᶠ
moved (Regroup change) u s = 0ᶠ

-- the rule tested on the vertices that stand then
abbrev pub is_met : Decision → Vertex → Search → Bool
is_met d u s = tested s.setup.rule s.setup.n (finished_by d) (moved d u s) (unpack (s.setup.n + 1) (standing_after d u s))

-- the phase that opens an iteration: r, or the first of "reflections x0 + (x0 − xi) for i = 1 to n"
abbrev pub opens : Method → Phase
opens NelderMead = Reflecting
opens Multidirectional = Mirroring 1

-- "When met, a probe round starts"; else the next iteration
abbrev pub tested_phase : Bool → Method → Phase
tested_phase met m = cond met (Probing 0) (opens m)

-- the phase that the decision leads to
abbrev pub next_phase : Decision → Bool → Method → Phase
next_phase (Go keeping next) met m = next
next_phase (Take piece who) met m = tested_phase met m
next_phase (Stand piece) met m = tested_phase met m
next_phase Restart met m = Building 1
next_phase (Regroup change) met m = tested_phase met m

-- "when the number of accepted readings reaches it", with this reading
abbrev pub is_spent : Search → Bool
is_spent s = eqb (s.readings + 1) s.setup.budget

-- "the search ends .., unless that reading settled it"
abbrev pub stops : Bool → Phase → Bool
stops spent p = spent && not (is_ended p)

-- it ends "with cause budget"
abbrev pub spent_phase : Bool → Phase → Phase
spent_phase spent p = cond (stops spent p) (Ended Budget) p

-- ---- the counts and the best

-- the reading by its phase, then the piece that it finishes
abbrev pub counts_after : Decision → Search → Counts
counts_after d s = finished (finished_by d) (told_in s.phase s.counts)

-- a reading replaces the best only where it is lower
abbrev pub replaces : Vertex → Vertex → Bool
replaces new old = ltb new.cost old.cost

-- "Best is the earliest reading of least cost": the first reading of all, k being those before it, and then one that replaces it
abbrev pub best_after : ℕ → Vertex → Vertex → Vertex
best_after k new old = cond (eqb k 0 || replaces new old) new old

-- ---- the search

-- the search after the reading v has decided d
abbrev pub acted : Decision → Vertex → Search → Search
acted d v s =
    let u = entrant d v s in
    record {
      setup = s.setup;
      method = s.method;
      phase = spent_phase (is_spent s) (next_phase d (is_met d u s) s.method);
      standing = standing_after d u s;
      gathered = gathered_after d u s;
      stops = stops_after d u s;
      center = center_after d u s;
      readings = s.readings + 1;
      best = best_after s.readings v s.best;
      counts = counts_after d s;
    }

-- the reading of cost c: the trial, its cost, and "the number of the reading that gave" it, by "accepted readings + 1"
abbrev pub reading_of : Search → ℕ → Vertex
reading_of s c = record { point = (trial s).point; cost = c; number = s.readings + 1 }

-- the search after an accepted reading of cost c
unfoldable pub accept : Search → ℕ → Search
accept s c = acted (decided s.phase s c) (reading_of s c) s
