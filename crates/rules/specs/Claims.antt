-- Demand 3: the claim about every list of calls on a newly opened search, stated whole.
use Rattle.std.specs.Prelude.{◌≡◌, ◌↔◌, true, false, cond, ℕ, ◌+◌, ◌-◌, ◌*◌, ◌<◌, ◌≤◌, length, get_or, take, eqb, Float, Ok}
use mathlib.Core.List.{List, [], ◌∷◌, ◌++◌, map, Memᴰ}
use mathlib.Core.Logic.{◌⊎◌}
use Rattle.std.specs.Float.{nan}
use Rattle.rules.specs.Binary64.{brought_round}
use Rattle.rules.specs.Simplex.{blank, cost_of, place, pack, Ordered}
use Rattle.rules.specs.Trial.{axis, within, mirrored, build_step, target, trial}
use Rattle.rules.specs.Stop.{total}
use Rattle.rules.specs.View.{is_ended}
use Rattle.rules.specs.Count.{same, count_in}
use Rattle.rules.specs.Companions.{halfway}
use Rattle.rules.specs.Decide.{decided}
use Rattle.rules.specs.Accept.{gathered_of, reading_of}
use Rattle.rules.specs.Calls.{standing_of, showing, asking, telling}
use Rattle.rules.specs.History.{Event, told, run, costs_in, joins, reading, EarliestLeast}
use Rattle.rules.specs.Tally.{made, others, probes_in, directed_in, open_in, readings_by, Ends, EndsIn}
use Rattle.rules.specs.declared.Piece.{Piece}
use Rattle.rules.specs.declared.Piece.TheVariants.{Build, Shrink, Pattern}
use Rattle.rules.specs.declared.Phase.TheVariants.{Checking, Probing, Ended}
use Rattle.rules.specs.declared.Cause.TheVariants.{Settled, Budget}
use Rattle.rules.specs.declared.Method.TheVariants.{NelderMead, Multidirectional}
use Rattle.rules.specs.declared.Change.{Change}
use Rattle.rules.specs.declared.Change.TheVariants.{Built, Mirrored, Swapped, Halved}
use Rattle.rules.specs.declared.Decision.{Decision}
use Rattle.rules.specs.declared.Decision.TheVariants.{Regroup}
use Rattle.rules.specs.declared.Vertex.{Vertex}
use Rattle.rules.specs.declared.Simplex.{Simplex}
use Rattle.rules.specs.declared.Trial.{Trial}
use Rattle.rules.specs.declared.Asked.{Asked}
use Rattle.rules.specs.declared.Setup.{Setup}
use Rattle.rules.specs.declared.Search.{Search}

-- v is the accepted reading of its number: "A vertex and the best each hold the number of the reading that gave their cost"
pub record IsRead (o : Search) (h : List Event) (v : Vertex) : Type 0 where
  pub from_1 : 1 ≤ v.number
  pub accepted : v.number ≤ length (costs_in h)
  pub very : v ≡ reading o h (v.number - 1)

-- every one of nine places is blank, with the number 0, or holds such a reading
abbrev pub AreRead : Search → List Event → Simplex → Type 0
AreRead o h places = (i : ℕ) → i < 9 → (place places i ≡ blank) ⊎ IsRead o h (place places i)

-- v is "the earliest least reading"
pub record IsBest (o : Search) (h : List Event) (v : Vertex) : Type 0 where
  pub read : IsRead o h v
  pub least : EarliestLeast (costs_in h) (v.number - 1)

-- the point x lies within the limits of each axis
abbrev pub Within : Setup → List Float → Type 0
Within t x = (a : ℕ) → a < t.n → within (axis t a) (get_or x a nan) ≡ true

-- the stops of the trial x count these axes, f being its numbers before they are brought in: "every trial carries how many axes were so changed"
pub record StopsOf (t : Setup) (f : ℕ → Float) (x : Trial) : Type 0 where
  -- as many as counted, each once, since each is higher than the one before it
  pub axes : List ℕ
  pub many : x.stops ≡ length axes
  pub rising : (i j : ℕ) → i < j → j < length axes → get_or axes i 0 < get_or axes j 0
  pub at_most_n : x.stops ≤ t.n
  -- an axis that is no ring counts exactly where its number fails lo ≤ v or v ≤ hi; a ring never does
  pub outside : (a : ℕ) → Memᴰ a axes ↔ ((a < t.n) × ((axis t a).ring ≡ false) × (within (axis t a) (f a) ≡ false))
  -- there its coordinate is another number, and stands on a limit
  pub moved : (a : ℕ) → Memᴰ a axes → get_or x.point a nan ≡ f a → ⊥
  pub on_limit : (a : ℕ) → Memᴰ a axes → (get_or x.point a nan ≡ (axis t a).lo) ⊎ (get_or x.point a nan ≡ (axis t a).hi)
  -- a number that lies within has its bits kept, on any axis
  pub kept : (a : ℕ) → a < t.n → within (axis t a) (f a) ≡ true → get_or x.point a nan ≡ f a
  -- on a ring the coordinate is the number brought round
  pub round : (a : ℕ) → a < t.n → (axis t a).ring ≡ true → get_or x.point a nan ≡ brought_round (axis t a).lo (axis t a).hi (f a)

-- S: "adds the costs standing at that end", after the history h
abbrev pub standing_total : Search → List Event → ℕ
standing_total o h = total (map cost_of (standing_of (run o h)))

-- the bound by S: wherever a piece of the kind p ended, the other iterations since then, while no further build and no further
-- shrink has ended, are at most S there
abbrev pub BoundAfter : Piece → Search → List Event → Type 0
BoundAfter p o h =
    (before : List Event) (e : Event) (since : List Event) → h ≡ before ++ e ∷ since → EndsIn p o before e
    → made Build o h ≡ made Build o (before ++ e ∷ []) → made Shrink o h ≡ made Shrink o (before ++ e ∷ [])
    → others o h ≤ others o (before ++ e ∷ []) + standing_total o (before ++ e ∷ [])

-- a probe round begins after the history before, and round tells it in full, none lower than the best at its start
pub record FullRound (o : Search) (before : List Event) (round : List ℕ) : Type 0 where
  pub begins : (run o before).phase ≡ Probing 0
  pub full : length round ≡ 2 * o.setup.n
  pub none_lower : (j : ℕ) → j < length round → (run o before).best.cost ≤ get_or round j 0

-- f are the numbers that a change makes companion i of, before they are brought in, v being the reading: "built as in document 01", the reflection
-- that becomes a companion, "xi + ½·(x0 − xi)"
abbrev pub Makes : Change → Vertex → Search → ℕ → (ℕ → Float) → Type 0
Makes Built v s i f = (a : ℕ) → f a ≡ build_step (axis s.setup a) (get_or v.point a nan) i a
Makes (Mirrored j) v s i f = (j < i) × ((a : ℕ) → f a ≡ mirrored s.standing.points i a)
Makes (Swapped j) v s i f = ⊥
Makes Halved v s i f = (a : ℕ) → f a ≡ halfway s.standing.points i a

-- and so with a decision
abbrev pub Renews : Decision → Vertex → Search → ℕ → (ℕ → Float) → Type 0
Renews (Regroup change) v s i f = Makes change v s i f
Renews _ v s i f = ⊥

-- the cost c, told to s, leaves companion i as it was made: it is not the one that is read, and is not made anew
pub record Untouched (s : Search) (c i : ℕ) : Type 0 where
  pub not_read : s.phase ≡ Checking i → ⊥
  pub not_made : (f : ℕ → Float) → Renews (decided s.phase s c) (reading_of s c) s i f → ⊥

-- a cost of the history h made companion i of the numbers f, and those since have left it so
pub record MadeAt (o : Search) (h : List Event) (i : ℕ) (f : ℕ → Float) : Type 0 where
  pub before : List Event
  pub cost : ℕ
  pub since : List Event
  pub splits : h ≡ before ++ told cost ∷ since
  pub renews : let s = run o before in Renews (decided s.phase s cost) (reading_of s cost) s i f
  pub untouched : (p : List Event) (c : ℕ) (q : List Event) → since ≡ p ++ told c ∷ q → Untouched (run o (before ++ told cost ∷ p)) c i

-- what holds of Nelder-Mead. o: the search as opened; h: the history; s: the search that the last call returned
pub record OfNelderMead (o : Search) (h : List Event) (s : Search) : Type 0 where
  -- order: "Vertices are ordered by cost, lowest first"
  pub sorted : Ordered (standing_of s)
  -- vertices: the simplex is empty before the first build ends, n + 1 vertices afterwards; whatever stands in a place of either run is the
  -- accepted reading of its number
  pub places : length (standing_of s) ≡ cond (eqb (made Build o h) 0) 0 (o.setup.n + 1)
  pub all_read : AreRead o h s.standing × AreRead o h s.gathered
  -- first vertex: at the end of every build and iteration it is the earliest least of the readings till then, with its number
  pub first : (before : List Event) (e : Event) (since : List Event) → h ≡ before ++ e ∷ since → Ends o before e
      → let till = before ++ e ∷ [] in (v : Vertex) × IsBest o till v × (take 1 (standing_of (run o till)) ≡ v ∷ [])
  -- "The equation's numbers are those that the search carries"
  pub equation : 0 < length (costs_in h) → s.readings ≡ readings_by o.setup.n s.counts
  -- no multidirectional iteration counts
  pub none_directed : (s.counts.patterns ≡ 0) × (s.counts.directed ≡ 0)
  -- the bound by S
  pub bound_after_build : BoundAfter Build o h
  pub bound_after_shrink : BoundAfter Shrink o h
  -- the stops that ask answers, against the numbers that the rules ask for
  pub stops_asked : (a : Asked) → asking s ≡ Ok a → StopsOf o.setup (target (run o h) (run o h).phase) a.trial

-- what holds of the multidirectional method
pub record OfMultidirectional (o : Search) (h : List Event) (s : Search) : Type 0 where
  -- "No simplex stands in this method", and no piece of Nelder-Mead counts
  pub none_stands : standing_of s ≡ []
  pub none_counts : (p : Piece) → same p Pattern ≡ false → count_in p s.counts ≡ 0
  pub none_open : s.counts.unfinished ≡ 0
  -- base: "the base is that reading at the end of every iteration", the earliest least of the readings till then, with its number
  pub base : (before : List Event) (e : Event) (since : List Event) → h ≡ before ++ e ∷ since → Ends o before e
      → let till = before ++ e ∷ [] in (v : Vertex) × IsBest o till v × (place (run o till).standing 0 ≡ v)
  -- it is at any other time too, once it is told
  pub base_now : 0 < length (costs_in h) → IsBest o h (place s.standing 0)
  -- companions: none stands before the base is told; then each is unread, or the accepted reading of its number, and lies within the limits;
  -- so with each reflection that the running iteration was told
  pub none_before : length (costs_in h) ≡ 0 → s.standing ≡ pack []
  pub companions : 0 < length (costs_in h) → (i : ℕ) → 1 ≤ i → i ≤ o.setup.n → let c = place s.standing i in (((c.number ≡ 0) × (c.cost ≡ 0)) ⊎ IsRead o h c) × Within o.setup c.point
  pub none_past : (i : ℕ) → o.setup.n < i → i < 9 → place s.standing i ≡ blank
  pub reflections : AreRead o h s.gathered
  -- "readings are at most 1 + 2n·(finished iterations + 1) + probes"
  pub bound : s.readings ≤ 1 + 2 * o.setup.n * (s.counts.patterns + 1) + s.counts.probes
  pub equation : 0 < length (costs_in h) → s.readings ≡ 1 + s.counts.directed + s.counts.probes
  -- the stops that ask answers, against the numbers that the rules ask for; those of a companion against the numbers that it was made of, when it
  -- was made
  pub stops_asked : (a : Asked) → asking s ≡ Ok a → ((i : ℕ) → s.phase ≡ Checking i → ⊥) → StopsOf o.setup (target (run o h) (run o h).phase) a.trial
  pub stops_made : (a : Asked) → asking s ≡ Ok a → (i : ℕ) → s.phase ≡ Checking i → (f : ℕ → Float) × MadeAt o h i f × StopsOf o.setup f a.trial

-- what holds of either method, and what of each
pub record Claims (o : Search) (h : List Event) (s : Search) : Type 0 where
  -- "equal bit for bit" to the search "of the rules over the history"; its setup and its method are the opening's
  pub carried : s ≡ run o h
  pub kept : s.setup ≡ o.setup
  pub method : s.method ≡ o.method
  -- "A tell is accepted .. exactly when", and "trial k is the point that the rules ask .., which ask then answers"
  pub accepts : (k c : ℕ) → ((telling s k c).verdict ≡ Ok tt) ↔ (joins o h k c ≡ true)
  pub asks : is_ended s.phase ≡ false → asking s ≡ Ok (record { number = length (costs_in h) + 1; trial = trial (run o h) })
  -- vertices: each that stands is the accepted reading of its number, and so is each that an unfinished build or iteration has gathered
  pub vertices : (v : Vertex) → Memᴰ v (standing_of s) → IsRead o h v
  pub gathered : (v : Vertex) → Memᴰ v (gathered_of s) → IsRead o h v
  -- best: "the earliest least reading", with its number
  pub best : 0 < length (costs_in h) → (v : Vertex) × IsBest o h v × (showing s ≡ Ok v)
  -- "The equation's numbers are those that the search carries, each equal to its count by the rules over the history; readings
  -- equals the number of costs there"
  pub readings : s.readings ≡ length (costs_in h)
  pub finished : (p : Piece) → count_in p s.counts ≡ made p o h
  pub probes : s.counts.probes ≡ probes_in o h
  pub directed : s.counts.directed ≡ directed_in o h
  pub unfinished : s.counts.unfinished ≡ open_in 0 o h
  -- settled exactly when a probe round has been told in full, anywhere in the history, and none was lower; then nothing follows it
  pub settled_only : s.phase ≡ Ended Settled → (before : List Event) × (round : List ℕ) × (h ≡ before ++ map told round) × FullRound o before round
  pub settled_when : (before : List Event) (round : List ℕ) (since : List Event) → h ≡ before ++ map told round ++ since → FullRound o before round → (since ≡ []) × (s.phase ≡ Ended Settled)
  -- "when the number of accepted readings reaches it, the search ends with cause budget, unless that reading settled it"
  pub spent : (s.phase ≡ Ended Budget) ↔ ((length (costs_in h) ≡ o.setup.budget) × (s.phase ≡ Ended Settled → ⊥))
  -- every trial lies within the axis limits: those told, and the one that is asked
  pub within_told : (k : ℕ) → k < length (costs_in h) → Within o.setup (reading o h k).point
  pub within_asked : (a : Asked) → asking s ≡ Ok a → Within o.setup a.trial.point
  pub nelder_mead : o.method ≡ NelderMead → OfNelderMead o h s
  pub multidirectional : o.method ≡ Multidirectional → OfMultidirectional o h s
