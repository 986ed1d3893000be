-- Laws on histories: what the rules make of one list of events after another. Assumes nothing.
use mathlib.Core.Path.{◌≡◌, refl, sym, ap, ◌∙◌}
use mathlib.Core.Bool.{true, false, cond, true≢false}
use mathlib.Core.List.Memᴰ
use mathlib.Core.List.{List, [], ◌∷◌, ◌++◌, map, Memᴰ}
use mathlib.Core.Logic.{⊎_elim}
use Prim.Native.Nat.{ℕ, zero, suc, ◌+◌, ◌≤◌, ◌<◌, suc-le-suc}
use native.Mathlib.Omega.{arith}
use native.Mathlib.Nat.{not-suc-le-zero, le_of_suc-le-suc}
use lib.ListN.{length, get_or}
use Rattle.rules.specs.declared.Vertex.{Vertex}
use Rattle.rules.specs.declared.Piece.{Piece}
use Rattle.rules.specs.declared.Search.{Search}
use Rattle.rules.specs.Numbers.{max_cost}
use Rattle.rules.specs.Simplex.{blank, cost_of}
use Rattle.rules.specs.View.{is_ended}
use Rattle.rules.specs.Trial.{trial}
use Rattle.rules.specs.Accept.{reading_of, accept}
use Rattle.rules.specs.History.{Event, told, step, run, costs_in, before_cost, reading}
use Rattle.rules.specs.Tally.{finishes, pieces, count_of, made, probe_by, probes_in, direct_by, is_open, open_in}

-- the readings that an event is
abbrev pub read_by : Search → Event → List Vertex
read_by s (told c) = reading_of s c ∷ []

-- the readings of a history, in order
unfoldable pub readings_of : Search → List Event → List Vertex
readings_of s [] = []
readings_of s (e ∷ es) = read_by s e ++ readings_of (step s e) es

-- what an event of a history rests on: a cost is told to a search that has not ended, and is a cost
abbrev pub Joins : Search → Event → Type 0
Joins s (told c) = (is_ended s.phase ≡ false) × (c ≤ max_cost)

-- each event of the history rests on that
unfoldable pub Joined : Search → List Event → Type 0
Joined s [] = Unit {0}
Joined s (e ∷ es) = Joins s e × Joined (step s e) es

-- ---- one list after another

pub run_append : (s : Search) (p q : List Event) → run s (p ++ q) ≡ run (run s p) q
unfolding run
run_append s [] q = refl
run_append s (e ∷ p) q = run_append (step s e) p q

-- the last event of a history
pub run_snoc : (s : Search) (p : List Event) (e : Event) → run s (p ++ e ∷ []) ≡ step (run s p) e
unfolding run
run_snoc s p e = run_append s p (e ∷ [])

pub costs_in_append : (p q : List Event) → costs_in (p ++ q) ≡ costs_in p ++ costs_in q
unfolding costs_in
costs_in_append [] q = refl
costs_in_append (told c ∷ p) q = ap (λ (l : List ℕ). c ∷ l) (costs_in_append p q)

pub count_of_append : (x : Piece) (p q : List Piece) → count_of x (p ++ q) ≡ count_of x p + count_of x q
unfolding count_of
count_of_append x [] q = omega arith
count_of_append x (y ∷ p) q = rw (count_of_append x p q) (omega arith)

pub made_cons : (x : Piece) (s : Search) (e : Event) (q : List Event) → made x s (e ∷ q) ≡ count_of x (finishes s e) + made x (step s e) q
unfolding pieces
made_cons x s e q = count_of_append x (finishes s e) (pieces (step s e) q)

pub made_append : (x : Piece) (s : Search) (p q : List Event) → made x s (p ++ q) ≡ made x s p + made x (run s p) q
unfolding pieces run count_of
made_append x s [] q = omega arith
made_append x s (e ∷ p) q = rw (made_cons x s e (p ++ q), made_cons x s e p, made_append x (step s e) p q) (omega arith)

pub probes_in_append : (s : Search) (p q : List Event) → probes_in s (p ++ q) ≡ probes_in s p + probes_in (run s p) q
unfolding probes_in run
probes_in_append s [] q = omega arith
probes_in_append s (e ∷ p) q = rw (probes_in_append (step s e) p q) (omega arith)

pub open_in_append : (k : ℕ) (s : Search) (p q : List Event) → open_in k s (p ++ q) ≡ open_in (open_in k s p) (run s p) q
unfolding open_in run
open_in_append k s [] q = refl
open_in_append k s (e ∷ p) q =
    open_in_append (cond (is_open (finishes s e) (probe_by s e + direct_by s e) s.readings) (k + 1) 0) (step s e) p q

pub readings_of_append : (s : Search) (p q : List Event) → readings_of s (p ++ q) ≡ readings_of s p ++ readings_of (run s p) q
unfolding readings_of run
readings_of_append s [] q = refl
readings_of_append s (told c ∷ p) q = ap (λ (l : List Vertex). reading_of s c ∷ l) (readings_of_append (accept s c) p q)

-- ---- the readings

-- there is one for each cost
pub length_readings_of : (s : Search) (h : List Event) → length (readings_of s h) ≡ length (costs_in h)
unfolding readings_of costs_in
length_readings_of s [] = refl
length_readings_of s (told c ∷ h) = ap suc (length_readings_of (accept s c) h)

-- their costs are those of the history
pub costs_readings_of : (s : Search) (h : List Event) → map cost_of (readings_of s h) ≡ costs_in h
unfolding readings_of costs_in
costs_readings_of s [] = refl
costs_readings_of s (told c ∷ h) = ap (λ (l : List ℕ). c ∷ l) (costs_readings_of (accept s c) h)

-- the first reading
reading_first : (s : Search) (c : ℕ) (h : List Event) → reading_of s c ≡ reading s (told c ∷ h) 0
unfolding run costs_in before_cost
reading_first s c h = let number : s.readings + 1 ≡ s.readings + 0 + 1 = omega arith in λ i. record { point = (trial s).point; cost = c; number = number i }

-- a later one is a reading of what follows the first
reading_later : (s : Search) (c : ℕ) (h : List Event) (k : ℕ) → reading (accept s c) h k ≡ reading s (told c ∷ h) (suc k)
unfolding run costs_in before_cost accept
reading_later s c h k =
    let u = accept s c in
    let number : u.readings + k + 1 ≡ s.readings + suc k + 1 = omega arith in
    λ i. record { point = (trial (run u (before_cost k h))).point; cost = get_or (costs_in h) k 0; number = number i }

pub get_or_readings_of : (s : Search) (h : List Event) (k : ℕ) → k < length (costs_in h) → get_or (readings_of s h) k blank ≡ reading s h k
unfolding readings_of costs_in
get_or_readings_of s [] k l = absurd (not-suc-le-zero l)
get_or_readings_of s (told c ∷ h) zero l = reading_first s c h
get_or_readings_of s (told c ∷ h) (suc k) l = get_or_readings_of (accept s c) h k (le_of_suc-le-suc l) ∙ reading_later s c h k

pub mem_readings_of : (s : Search) (h : List Event) (v : Vertex) → Memᴰ v (readings_of s h) → (k : ℕ) × (k < length (costs_in h)) × (v ≡ reading s h k)
unfolding readings_of costs_in
mem_readings_of s [] v m = elim m [ ]
mem_readings_of s (told c ∷ h) v m =
    ⊎_elim
    (λ e. (0, omega arith, e ∙ reading_first s c h))
    (λ n. let r = mem_readings_of (accept s c) h v n in (suc r.0, suc-le-suc r.1, r.2 ∙ reading_later s c h r.0))
    (Memᴰ.cases_cons m)

-- ---- accepted histories

pub joined_left : (s : Search) (p q : List Event) → Joined s (p ++ q) → Joined s p
unfolding Joined
joined_left s [] q h = tt
joined_left s (e ∷ p) q h = (h.0, joined_left (step s e) p q h.1)

pub joined_right : (s : Search) (p q : List Event) → Joined s (p ++ q) → Joined (run s p) q
unfolding Joined run
joined_right s [] q h = h
joined_right s (e ∷ p) q h = joined_right (step s e) p q h.1

pub joined_snoc : (s : Search) (p : List Event) (e : Event) → Joined s p → Joins (run s p) e → Joined s (p ++ e ∷ [])
unfolding Joined run
joined_snoc s [] e h j = (j, tt)
joined_snoc s (d ∷ p) e h j = (h.0, joined_snoc (step s d) p e h.1 j)

-- what comes before a cost of an accepted history is accepted too
pub joined_before : (s : Search) (h : List Event) (k : ℕ) → Joined s h → Joined s (before_cost k h)
unfolding Joined before_cost
joined_before s [] k t = t
joined_before s (told c ∷ h) zero t = tt
joined_before s (told c ∷ h) (suc k) t = (t.0, joined_before (accept s c) h k t.1)

-- nothing joins the history of an ended search
pub ended_last : (s : Search) (h : List Event) → is_ended s.phase ≡ true → Joined s h → h ≡ []
unfolding Joined
ended_last s [] e t = refl
ended_last s (told c ∷ h) e t = absurd (true≢false (sym e ∙ t.0.0))
