-- "The multidirectional search": how a base and its companions come to stand. Companion i stands at place i + 1, so at index i from 0.
use Rattle.std.specs.Prelude.{cond, List, ◌∷◌, ◌++◌, ℕ, zero, suc, ◌+◌, ◌-◌, get_or, replicate, eqb, ltb, Float}
use Rattle.std.specs.Float.{nan}
use Rattle.rules.specs.Binary64.{½ᶠ}
use Rattle.rules.specs.Simplex.{up_to, place}
use Rattle.rules.specs.Trial.{axis, entry, move, build_step, made, trial_in}
use Rattle.rules.specs.declared.Trial.{Trial}
use Rattle.rules.specs.declared.Vertex.{Vertex}
use Rattle.rules.specs.declared.Phase.TheVariants.{Mirroring}
use Rattle.rules.specs.declared.Change.{Change}
use Rattle.rules.specs.declared.Change.TheVariants.{Built, Mirrored, Swapped, Halved}
use Rattle.rules.specs.declared.Search.{Search}

-- ---- the companions that are made

-- a companion as made, "unread": a trial with no cost and no number
abbrev pub unread_at : Trial → Vertex
unread_at x = record { point = x.point; cost = 0; number = 0 }

-- companion i of the base v, "built as in document 01"
abbrev pub built : Vertex → Search → ℕ → Trial
built v s i = made s.setup s.setup.n (λ a. build_step (axis s.setup a) (get_or v.point a nan) i a)

-- reflection i, "clamped", as a companion
abbrev pub reflection : Search → ℕ → Trial
reflection s i = trial_in (Mirroring i) s

-- "companions become xi + ½·(x0 − xi)"
abbrev pub halfway : List Float → ℕ → ℕ → Float
halfway ps i a = move (entry ps a i) ½ᶠ (entry ps a 0) (entry ps a i)

-- companion i so halved
abbrev pub halved : Search → ℕ → Trial
halved s i = made s.setup s.setup.n (halfway s.standing.points i)

-- ---- the base and the companions after a change; v is the reading

-- "A base x0", at place 1
abbrev pub base : Search → Vertex
base s = place s.standing 0

-- the base then: the reading, but "Otherwise companions become", around the same base
abbrev pub base_after : Change → Vertex → Search → Vertex
base_after Built v s = v
base_after (Mirrored j) v s = v
base_after (Swapped j) v s = v
base_after Halved v s = base s

-- companion i then: "the reflections then become the companions and that one swaps with the base", those told before it as read; "until one is
-- lower, which swaps"
abbrev pub companion_after : Change → Vertex → Search → ℕ → Vertex
companion_after Built v s i = unread_at (built v s i)
companion_after (Mirrored j) v s i = cond (eqb i j) (base s) (cond (ltb i j) (place s.gathered (i - 1)) (unread_at (reflection s i)))
companion_after (Swapped j) v s i = cond (eqb i j) (base s) (place s.standing i)
companion_after Halved v s i = unread_at (halved s i)

-- its stops then: "its trial carries that count", of the clamp when it was made; 0 where it is read then by a swap
abbrev pub stop_after : Change → Vertex → Search → ℕ → ℕ
stop_after Built v s i = (built v s i).stops
stop_after (Mirrored j) v s i = cond (ltb j i) (reflection s i).stops 0
stop_after (Swapped j) v s i = cond (eqb i j) 0 (get_or s.stops i 0)
stop_after Halved v s i = (halved s i).stops

-- ---- as they stand

-- "A base x0 has n companions xi": the base v with companions f 1 to f n
abbrev pub group : Vertex → (ℕ → Vertex) → ℕ → List Vertex
group v f n = v ∷ up_to (λ k. f (suc k)) n

-- "A base x0 has n companions xi": both after the change
abbrev pub group_after : Change → Vertex → Search → List Vertex
group_after c v s = group (base_after c v s) (companion_after c v s) s.setup.n

-- "it reads the unread companions in order": both with companion i as the reading v
abbrev pub group_read : ℕ → Vertex → Search → List Vertex
group_read i v s = group (base s) (λ k. cond (eqb k i) v (place s.standing k)) s.setup.n

-- "its trial carries that count": those of companions 1 to n, g 1 to g n, in nine places
abbrev pub stops_by : (ℕ → ℕ) → ℕ → List ℕ
stops_by g n = 0 ∷ (up_to (λ k. g (suc k)) n ++ replicate (8 - n) 0)

-- ---- the unread ones

-- "the unread companions in order": the first of k indices, from i on, whose number is 0; i + k where there is none
unfoldable pub unread_from : ℕ → List ℕ → ℕ → ℕ
unread_from zero ns i = i
unread_from (suc k) ns i = cond (eqb (get_or ns i 0) 0) i (unread_from k ns (suc i))

-- the first unread companion of n, from the i-th on, by the numbers of the places; n + 1 where there is none
abbrev pub next_unread : ℕ → List ℕ → ℕ → ℕ
next_unread n ns i = unread_from (n + 1 - i) ns i
