-- "Counts": the finished pieces of a history, its probes, its open readings and those in multidirectional iterations, counted by the rules and apart from what a search carries.
use Rattle.std.specs.Prelude.{◌≡◌, Bool, true, false, cond, not, ◌&&◌, ◌||◌, List, [], ◌∷◌, ◌++◌, ℕ, zero, suc, ◌+◌, ◌-◌, ◌*◌, get_or, leb, ltb, eqb}
use Rattle.rules.specs.Count.{same}
use Rattle.rules.specs.Decide.{f1, fn, fw, fr}
use Rattle.rules.specs.History.{Event, told, step, run}
use Rattle.rules.specs.declared.Phase.{Phase}
use Rattle.rules.specs.declared.Phase.TheVariants.{Building, Reflecting, Expanding, Contracting, Shrinking, Basing, Mirroring, Checking, Probing, Ended}
use Rattle.rules.specs.declared.Side.TheVariants.{Outside, Inside}
use Rattle.rules.specs.declared.Piece.{Piece}
use Rattle.rules.specs.declared.Piece.TheVariants.{Build, Reflection, Expansion, Contraction, Shrink, Pattern}
use Rattle.rules.specs.declared.Counts.{Counts}
use Rattle.rules.specs.declared.Search.{Search}

-- a piece where the test holds, else none
abbrev pub piece_if : Bool → Piece → List Piece
piece_if true p = p ∷ []
piece_if false p = []

-- none of k companions from the i-th on is unread, by the numbers of the places
unfoldable pub all_read : ℕ → ℕ → List ℕ → Bool
all_read zero i ns = true
all_read (suc k) i ns = not (eqb (get_or ns i 0) 0) && all_read k (suc i) ns

-- the piece that the cost c ends when it is told in each phase, said apart from `decided`: a build or a shrink by its last trial,
-- "reflections (r taken by the second row), expansions (first row, either point taken), contractions (taken)"; a multidirectional iteration by a
-- reading lower than the base, and by one after which none is left to read
abbrev pub ended_by : Phase → Search → ℕ → List Piece
ended_by (Building i) s c = piece_if (eqb i s.setup.n) Build
ended_by Reflecting s c = piece_if (not (ltb c (f1 s)) && ltb c (fn s)) Reflection
ended_by Expanding s c = Expansion ∷ []
ended_by (Contracting Outside) s c = piece_if (leb c (fr s)) Contraction
ended_by (Contracting Inside) s c = piece_if (ltb c (fw s)) Contraction
ended_by (Shrinking j) s c = piece_if (eqb j s.setup.n) Shrink
ended_by Basing s c = []
ended_by (Mirroring i) s c = piece_if (ltb c (f1 s) || eqb i s.setup.n && all_read s.setup.n 1 s.standing.numbers) Pattern
ended_by (Checking i) s c = piece_if (ltb c (f1 s) || all_read (s.setup.n - i) (i + 1) s.standing.numbers) Pattern
ended_by (Probing p) s c = []
ended_by (Ended cause) s c = []

-- the piece that an event finishes
abbrev pub finishes : Search → Event → List Piece
finishes s (told c) = ended_by s.phase s c

-- the pieces that the events of h finish, in order
unfoldable pub pieces : Search → List Event → List Piece
pieces s [] = []
pieces s (e ∷ es) = finishes s e ++ pieces (step s e) es

-- how many pieces of a list are of the kind of p
unfoldable pub count_of : Piece → List Piece → ℕ
count_of p [] = 0
count_of p (q ∷ qs) = cond (same p q) 1 0 + count_of p qs

-- "each counts finished ones": those of one kind that the events of h finish
abbrev pub made : Piece → Search → List Event → ℕ
made p o h = count_of p (pieces o h)

-- "the other iterations are reflections, expansions and contractions"
abbrev pub others : Search → List Event → ℕ
others o h = made Reflection o h + made Expansion o h + made Contraction o h

-- 1 for a probe's phase, else 0, said apart from `view`
abbrev pub probe_in : Phase → ℕ
probe_in (Probing p) = 1
probe_in _ = 0

-- 1 for an event that is a probe's reading, else 0
abbrev pub probe_by : Search → Event → ℕ
probe_by s (told c) = probe_in s.phase

-- "Probes counts probe readings"
unfoldable pub probes_in : Search → List Event → ℕ
probes_in s [] = 0
probes_in s (e ∷ es) = probe_by s e + probes_in (step s e) es

-- 1 for a phase of a multidirectional iteration, else 0, said apart from `view`
abbrev pub direct_in : Phase → ℕ
direct_in (Mirroring i) = 1
direct_in (Checking i) = 1
direct_in _ = 0

-- 1 for an event that is a reading in such an iteration, else 0
abbrev pub direct_by : Search → Event → ℕ
direct_by s (told c) = direct_in s.phase

-- the readings in multidirectional iterations, "finished" or not
unfoldable pub directed_in : Search → List Event → ℕ
directed_in s [] = 0
directed_in s (e ∷ es) = direct_by s e + directed_in (step s e) es

-- no piece is finished
abbrev pub is_none : List Piece → Bool
is_none [] = true
is_none (p ∷ ps) = false

-- a reading is open: it finishes none of the pieces ps, it is not counted apart, as a probe or in a multidirectional iteration, and it is not the
-- first reading of all, k being those before it
abbrev pub is_open : List Piece → ℕ → ℕ → Bool
is_open ps apart k = is_none ps && eqb apart 0 && not (eqb k 0)

-- "Open is the readings told in the unfinished iteration or restart build; in the first build it leaves out the first reading":
-- after the events of h, k being open before them
unfoldable pub open_in : ℕ → Search → List Event → ℕ
open_in k s [] = k
open_in k s (e ∷ es) = open_in (cond (is_open (finishes s e) (probe_by s e + direct_by s e) s.readings) (k + 1) 0) (step s e) es

-- the right side of Nelder-Mead's readings equation: the first reading, and those of each finished piece, of probes and still open
abbrev pub readings_by : ℕ → Counts → ℕ
readings_by n c = 1 + n * c.builds + c.reflections + 2 * (c.expansions + c.contractions) + (n + 2) * c.shrinks + c.probes + c.unfinished

-- the event e, after h, ends a build or an iteration
abbrev pub Ends : Search → List Event → Event → Type 0
Ends o h e = finishes (run o h) e ≡ [] → ⊥

-- the event e, after h, ends a piece of the kind p
abbrev pub EndsIn : Piece → Search → List Event → Event → Type 0
EndsIn p o h e = finishes (run o h) e ≡ p ∷ []
