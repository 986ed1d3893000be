-- Laws on vertices in cost order, and on the newcomer among them. Assumes nothing.
use mathlib.Core.Path.{◌≡◌, refl, ap}
use mathlib.Core.Bool.{true, cond}
use mathlib.Core.List.Memᴰ
use mathlib.Core.List.{List, [], ◌∷◌, ◌++◌, map, Memᴰ}
use mathlib.Core.Logic.{◌⊎◌, inl, inr, ⊎_elim, ⊎_map, ◌↔◌}
use Prim.Native.Nat.{ℕ, zero, suc, ◌+◌, ◌≤◌, ◌<◌}
use native.Mathlib.Nat.{not-suc-le-zero, le_of_suc-le-suc}
use native.Mathlib.Omega.{arith}
use lib.ListN.{length, get_or, take, drop}
use lib.Dec.{leb}
use Rattle.std.proofs.lemmas.Bool.Decides.{nat_tests}
use Rattle.std.proofs.lemmas.Bool.{cases_lt}
use Rattle.rules.specs.declared.Vertex.{Vertex}
use Rattle.rules.specs.Simplex.{cost_of, blank, insert, at_most, Ordered}
use Rattle.rules.specs.Stop.{total}
use Rattle.rules.specs.Calls.{in_order}
use Rattle.rules.proofs.Laws.Lists.{mem_get_or}

-- ---- the newcomer, one vertex at a time

-- a newcomer goes past a vertex of equal or lower cost
pub insert_after : (v w : Vertex) (ws : List Vertex) → w.cost ≤ v.cost → insert v (w ∷ ws) ≡ w ∷ insert v ws
unfolding insert
insert_after v w ws h = grind (arith, nat_tests)

-- a newcomer stops before a vertex of higher cost
pub insert_before : (v w : Vertex) (ws : List Vertex) → v.cost < w.cost → insert v (w ∷ ws) ≡ v ∷ w ∷ ws
unfolding insert
insert_before v w ws h = grind (arith, nat_tests)

-- a newcomer makes the vertices one more
pub length_insert : (v : Vertex) (ws : List Vertex) → length (insert v ws) ≡ suc (length ws)
unfolding insert
length_insert v [] = refl
length_insert v (w ∷ ws) = grind (arith, nat_tests, length_insert v ws)

-- a number at most the first vertex's cost and the newcomer's is at most the first cost with the newcomer among them
at_most_insert : (c : ℕ) (v : Vertex) (vs : List Vertex) → c ≤ v.cost → at_most c vs → at_most c (insert v vs)
unfolding insert
at_most_insert c v [] h k = h
at_most_insert c v (x ∷ xs) h k = grind (arith, nat_tests)

-- vertices in order stay in order with a newcomer among them
pub ordered_insert : (v : Vertex) (vs : List Vertex) → Ordered vs → Ordered (insert v vs)
unfolding insert Ordered
ordered_insert v [] h = (tt, tt)
ordered_insert v (x ∷ xs) h = grind (arith, nat_tests, at_most_insert, ordered_insert v xs)

-- a newcomer that is lower than the first vertex is first
pub first_lower : (v b : Vertex) (vs : List Vertex) → take 1 vs ≡ b ∷ [] → v.cost < b.cost → take 1 (insert v vs) ≡ v ∷ []
unfolding insert
first_lower v b [] e h = cc
first_lower v b (x ∷ xs) e h = grind (arith, nat_tests)

-- a newcomer that is not lower than the first vertex leaves that vertex first
pub first_stays : (v b : Vertex) (vs : List Vertex) → take 1 vs ≡ b ∷ [] → b.cost ≤ v.cost → take 1 (insert v vs) ≡ b ∷ []
unfolding insert
first_stays v b [] e h = cc
first_stays v b (x ∷ xs) e h = grind (arith, nat_tests)

-- every measure of vertices with a newcomer among them is the newcomer's and that of the vertices before
pub total_insert : (f : Vertex → ℕ) (v : Vertex) (vs : List Vertex) → total (map f (insert v vs)) ≡ f v + total (map f vs)
unfolding insert total
total_insert f v [] = refl
total_insert f v (x ∷ xs) = grind (arith, nat_tests, total_insert f v xs)

-- with a newcomer among vertices, each is the newcomer or one of the vertices before
pub mem_insert : (v : Vertex) (vs : List Vertex) {w : Vertex} → Memᴰ w (insert v vs) → (w ≡ v) ⊎ Memᴰ w vs
unfolding insert
mem_insert v [] m = inl (Memᴰ.eq_of_singleton m)
mem_insert v (x ∷ xs) {w} m =
    ⊎_elim
    (λ h. Memᴰ.cases_cons (rw (insert_before v x xs h) at m))
    (λ h. ⊎_elim (λ e. inr (Memᴰ.head e)) (λ t. ⊎_map (λ e. e) (λ k. Memᴰ.tail k) (mem_insert v xs t)) (Memᴰ.cases_cons (rw (insert_after v x xs h) at m)))
    (cases_lt v.cost x.cost)

-- ---- the newcomer's place

-- how many vertices stand before the newcomer
unfoldable pub rank : Vertex → List Vertex → ℕ
rank v [] = 0
rank v (x ∷ xs) = cond (leb x.cost v.cost) (suc (rank v xs)) 0

-- past a vertex of equal or lower cost one vertex more stands before the newcomer
rank_past : (v x : Vertex) (xs : List Vertex) → x.cost ≤ v.cost → rank v (x ∷ xs) ≡ suc (rank v xs)
unfolding rank
rank_past v x xs h = grind (arith, nat_tests)

-- where the first vertex has a higher cost, no vertex stands before the newcomer
rank_here : (v x : Vertex) (xs : List Vertex) → v.cost < x.cost → rank v (x ∷ xs) ≡ 0
unfolding rank
rank_here v x xs h = grind (arith, nat_tests)

-- the newcomer stands at its `rank`, and the other vertices stay as they stood
pub insert_rank : (v : Vertex) (vs : List Vertex) → insert v vs ≡ take (rank v vs) vs ++ v ∷ drop (rank v vs) vs
unfolding insert rank
insert_rank v [] = refl
insert_rank v (x ∷ xs) = grind (arith, nat_tests, insert_rank v xs)

-- before the newcomer's place no cost is higher than the newcomer's
pub rank_before : (v : Vertex) (vs : List Vertex) (w : Vertex) → Memᴰ w (take (rank v vs) vs) → w.cost ≤ v.cost
unfolding rank
rank_before v [] w m = absurd (Memᴰ.not-nil m)
rank_before v (x ∷ xs) w m =
    ⊎_elim
    (λ h. absurd (Memᴰ.not-nil (rw (rank_here v x xs h) at m)))
    (λ h. ⊎_elim (λ e. rw e h) (λ t. rank_before v xs w t) (Memᴰ.cases_cons (rw (rank_past v x xs h) at m)))
    (cases_lt v.cost x.cost)

-- of ordered vertices none costs less than the first
lowest : (x : Vertex) (xs : List Vertex) → Ordered (x ∷ xs) → (w : Vertex) → Memᴰ w (x ∷ xs) → x.cost ≤ w.cost
unfolding Ordered
lowest x [] h w m = grind (arith, Memᴰ.eq_of_singleton m)
lowest x (y ∷ ys) h w m =
    ⊎_elim
    (λ e. omega (arith, ap (λ (u : Vertex). u.cost) e))
    (λ t. omega (arith, lowest y ys h.1 w t))
    (Memᴰ.cases_cons m)

-- after the newcomer's place among ordered vertices every cost is higher than the newcomer's
pub rank_after : (v : Vertex) (vs : List Vertex) → Ordered vs → (w : Vertex) → Memᴰ w (drop (rank v vs) vs) → v.cost < w.cost
unfolding rank Ordered
rank_after v [] o w m = absurd (Memᴰ.not-nil m)
rank_after v (x ∷ xs) o w m =
    ⊎_elim
    (λ h. omega (arith, lowest x xs o w (rw (rank_here v x xs h) at m)))
    (λ h. rank_after v xs o.1 w (rw (rank_past v x xs h) at m))
    (cases_lt v.cost x.cost)

-- the newcomer is first exactly if it is lower than the first vertex
pub rank_first : (v x : Vertex) (xs : List Vertex) → (rank v (x ∷ xs) ≡ 0) ↔ (v.cost < x.cost)
rank_first v x xs = (λ e. grind (arith, rank_past v x xs), rank_here v x xs)

-- ---- parts of ordered vertices

-- the first k of ordered vertices are ordered
pub ordered_take : (k : ℕ) (vs : List Vertex) → Ordered vs → Ordered (take k vs)
unfolding Ordered
ordered_take (suc (suc k)) (x ∷ y ∷ ys) h = (h.0, ordered_take (suc k) (y ∷ ys) h.1)
ordered_take (suc k) (x ∷ xs) h = (tt, tt)
ordered_take k vs h = tt

-- of ordered vertices a later one has no lower cost
pub ordered_at : (vs : List Vertex) (i j : ℕ) → Ordered vs → i ≤ j → j < length vs → (get_or vs i blank).cost ≤ (get_or vs j blank).cost
unfolding Ordered
ordered_at [] i j h l k = absurd (not-suc-le-zero k)
ordered_at (x ∷ xs) zero j h l k = lowest x xs h (get_or (x ∷ xs) j blank) (mem_get_or (x ∷ xs) j blank k)
ordered_at (x ∷ xs) (suc i) zero h l k = absurd (not-suc-le-zero l)
ordered_at (x ∷ xs) (suc i) (suc j) h l k = ordered_at xs i j h.1 (le_of_suc-le-suc l) (le_of_suc-le-suc k)

-- the test for the order of the costs holds where the order does
pub in_order_lem : (vs : List Vertex) → Ordered vs → in_order (map cost_of vs) ≡ true
unfolding Ordered in_order
in_order_lem [] h = refl
in_order_lem (x ∷ []) h = refl
in_order_lem (x ∷ (y ∷ ys)) h = grind (arith, nat_tests, in_order_lem (y ∷ ys))

-- a measure of n + 1 vertices is that of the first n and the last's
pub total_take : (f : Vertex → ℕ) (n : ℕ) (vs : List Vertex) → length vs ≡ n + 1 → total (map f vs) ≡ total (map f (take n vs)) + f (get_or vs n blank)
unfolding total
total_take f n [] e = omega arith
total_take f zero (x ∷ []) e = omega arith
total_take f zero (x ∷ y ∷ ys) e = omega arith
total_take f (suc n) (x ∷ xs) e = omega (arith, total_take f n xs)
