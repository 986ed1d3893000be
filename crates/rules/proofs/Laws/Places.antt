-- Laws on vertices in places: `unpack` finds again what `pack` has put there, and reads the runs of a simplex place by place. Assumes nothing.
use mathlib.Core.Path.{◌≡◌, refl, ap, ◌∙◌, subst⁻¹}
use mathlib.Core.Bool.{true}
use mathlib.Core.List.Memᴰ
use mathlib.Core.List.{List, [], ◌∷◌, ◌++◌, map, map-append, append_assoc, append-nil, Memᴰ}
use mathlib.Core.Logic.{◌⊎◌, inl, inr, ⊎_elim}
use Prim.Native.Nat.{ℕ, zero, suc, ◌+◌, ◌-◌, ◌*◌, ◌≤◌, ◌<◌}
use native.Mathlib.Omega.{arith}
use lib.ListN.{length, get_or, take, drop, replicate, get_or-map}
use lib.Seq.{drop-nil, take-suc, take-add, take_at, take-length, take-append-le, drop-append-add, drop-cons}
use Rattle.std.proofs.lemmas.Bool.Decides.{nat_tests}
use Rattle.std.proofs.lemmas.Bool.{cases_lt}
use Rattle.std.proofs.lemmas.List.{places}
use Rattle.rules.specs.declared.Simplex.{Simplex}
use Rattle.rules.specs.declared.Vertex.{Vertex}
use Rattle.rules.specs.Numbers.{max_cost}
use Rattle.rules.specs.Simplex.{up_to, blank, cost_of, number_in, flat, store, pack, place, unpack}
use Rattle.rules.specs.Calls.{all_costs}
use Rattle.rules.proofs.Laws.Lists.{mem_get_or}

-- each point has eight numbers
abbrev pub Whole : List Vertex → Type 0
Whole vs = (v : Vertex) → Memᴰ v vs → length v.point ≡ 8

-- ---- the nine places: vertices, and blank ones after them

-- a copy is what was copied
mem_replicate : {A : Type 0} (k : ℕ) {a x : A} → Memᴰ x (replicate k a) → x ≡ a
mem_replicate zero m = absurd (Memᴰ.not-nil m)
mem_replicate (suc k) m = ⊎_elim (λ e. e) (λ t. mem_replicate k t) (Memᴰ.cases_cons m)

-- what holds of the vertices and of a blank one holds at all places
at_padded : (P : Vertex → Type 0) (vs : List Vertex) (k : ℕ) → P blank → ((v : Vertex) → Memᴰ v vs → P v) → (v : Vertex) → Memᴰ v (vs ++ replicate k blank) → P v
at_padded P vs k b h v m = ⊎_elim (h v) (λ r. subst⁻¹ P (mem_replicate k r) b) (Memᴰ.append_cases vs m)

-- vertices with points of eight numbers, and blank ones after them, have points of eight numbers
pub whole_padded : (vs : List Vertex) (k : ℕ) → Whole vs → Whole (vs ++ replicate k blank)
whole_padded vs k = at_padded (λ (v : Vertex). length v.point ≡ 8) vs k refl

-- past the vertices the places read blank, as does a list past its end
get_or_padded : (vs : List Vertex) (k i : ℕ) → get_or (vs ++ replicate k blank) i blank ≡ get_or vs i blank
get_or_padded vs k i = grind (arith, places)

-- ---- the flat run

-- in the flat run eight numbers are passed over for each vertex
pub drop_flat : (vs : List Vertex) (i : ℕ) → Whole vs → drop (8 * i) (flat vs) ≡ flat (drop i vs)
unfolding flat
drop_flat vs zero h = refl
drop_flat [] (suc i) h = drop-nil (8 * suc i)
drop_flat (v ∷ vs) (suc i) h =
    let e : 8 * suc i ≡ length v.point + 8 * i = omega (arith, h v (Memᴰ.head refl)) in
    rw (e, drop-append-add, drop_flat vs i (λ w m. h w (Memᴰ.tail m)))

-- place i of stored vertices is vertex i
place_store : (vs : List Vertex) (i : ℕ) → Whole vs → i < length vs → place (store vs) i ≡ get_or vs i blank
unfolding store flat
place_store vs i h l =
    rw (
      drop_flat vs i h,
      drop-cons vs i blank l,
      take_at _ (flat (drop (suc i) vs)) 8 (h _ (mem_get_or vs i blank l)),
      get_or-map cost_of vs i blank,
      get_or-map number_in vs i blank,
    )

-- the first m places of stored vertices are the first m vertices
unpack_store : (m : ℕ) (vs : List Vertex) → Whole vs → m ≤ length vs → unpack m (store vs) ≡ take m vs
unfolding unpack up_to
unpack_store zero vs h l = refl
unpack_store (suc m) vs h l = rw (place_store vs m h l, unpack_store m vs h (omega arith), take-suc vs m blank l)

-- ---- unpack after pack

-- the first m places of packed vertices hold the first m vertices
pub unpack_take : (m : ℕ) (vs : List Vertex) → Whole vs → m ≤ length vs → unpack m (pack vs) ≡ take m vs
unpack_take m vs h l =
    let k = 9 - length vs in
    unpack_store m (vs ++ replicate k blank) (whole_padded vs k h) (grind (arith, places)) ∙ take-append-le m vs _ l

-- packed vertices are found again
pub unpack_pack : (vs : List Vertex) → Whole vs → unpack (length vs) (pack vs) ≡ vs
unpack_pack vs h = unpack_take (length vs) vs h (omega arith) ∙ take-length vs

-- place i of packed vertices, one of nine or more, holds vertex i, and is blank past the last vertex
place_padded : (vs : List Vertex) (i : ℕ) → Whole vs → i < length (vs ++ replicate (9 - length vs) blank) → place (pack vs) i ≡ get_or vs i blank
place_padded vs i h l = place_store (vs ++ replicate (9 - length vs) blank) i (whole_padded vs (9 - length vs) h) l ∙ get_or_padded vs (9 - length vs) i

-- so the place of a vertex holds it
pub place_pack : (vs : List Vertex) (i : ℕ) → Whole vs → i < length vs → place (pack vs) i ≡ get_or vs i blank
place_pack vs i h l = place_padded vs i h (grind (arith, places))

-- any place past them is blank
pub place_past : (vs : List Vertex) (i : ℕ) → Whole vs → length vs ≤ i → i < 9 → place (pack vs) i ≡ blank
place_past vs i h l m = place_padded vs i h (grind (arith, places)) ∙ grind (arith, places)

-- and each of the nine places is one of the vertices or blank
pub place_cases : (vs : List Vertex) (i : ℕ) → Whole vs → i < 9 → (place (pack vs) i ≡ blank) ⊎ Memᴰ (place (pack vs) i) vs
place_cases vs i h l =
    let e = place_padded vs i h (grind (arith, places)) in
    rw e (⊎_elim (λ m. inr (mem_get_or vs i blank m)) (λ m. inl (grind (arith, places))) (cases_lt i (length vs)))

-- a measure of the vertices at the places, the i-th, is that of vertex i, and a blank one's past the last vertex
measure_pack : (f : Vertex → ℕ) (vs : List Vertex) (i : ℕ) → get_or (map f (vs ++ replicate (9 - length vs) blank)) i (f blank) ≡ f (get_or vs i blank)
measure_pack f vs i =
    let k = 9 - length vs in
    get_or-map f (vs ++ replicate k blank) i blank ∙ ap f (get_or_padded vs k i)

-- their costs are those of the vertices
pub cost_pack : (vs : List Vertex) (i : ℕ) → get_or (pack vs).costs i 0 ≡ (get_or vs i blank).cost
unfolding store
cost_pack vs i = measure_pack cost_of vs i

-- and so are their numbers
pub number_pack : (vs : List Vertex) (i : ℕ) → get_or (pack vs).numbers i 0 ≡ (get_or vs i blank).number
unfolding store
number_pack vs i = measure_pack number_in vs i

-- ---- the runs of unpacked places

-- the points of two lists, one after the other
pub flat_append : (vs ws : List Vertex) → flat (vs ++ ws) ≡ flat vs ++ flat ws
unfolding flat
flat_append [] ws = refl
flat_append (v ∷ vs) ws = rw (flat_append vs ws, append_assoc)

-- the points of m places are the first 8 m numbers
pub flat_unpack : (m : ℕ) (s : Simplex) → flat (unpack m s) ≡ take (8 * m) s.points
unfolding flat unpack up_to
flat_unpack zero s = refl
flat_unpack (suc m) s =
    let e : 8 * suc m ≡ 8 * m + 8 = omega arith in
    rw (e, take-add (8 * m) 8 s.points, flat_append, flat_unpack m s, append-nil)

-- a measure of the vertices at m places, which stands in xs, is the first m of xs
measure_unpack : (f : Vertex → ℕ) (xs : List ℕ) (s : Simplex) → ((i : ℕ) → f (place s i) ≡ get_or xs i 0) → (m : ℕ) → m ≤ length xs → map f (unpack m s) ≡ take m xs
unfolding unpack up_to
measure_unpack f xs s e zero l = refl
measure_unpack f xs s e (suc m) l = rw (map-append f, measure_unpack f xs s e m (omega arith), e m, take-suc xs m 0 l)

-- the costs of m places are the first m costs
pub costs_unpack : (m : ℕ) (s : Simplex) → m ≤ length s.costs → map cost_of (unpack m s) ≡ take m s.costs
costs_unpack m s l = measure_unpack cost_of s.costs s (λ i. refl) m l

-- their numbers are the first m numbers
pub numbers_unpack : (m : ℕ) (s : Simplex) → m ≤ length s.numbers → map number_in (unpack m s) ≡ take m s.numbers
numbers_unpack m s l = measure_unpack number_in s.numbers s (λ i. refl) m l

-- ---- the costs in range

-- the test for the costs holds where each is in range
all_costs_map : (vs : List Vertex) → ((v : Vertex) → Memᴰ v vs → v.cost ≤ max_cost) → all_costs (map cost_of vs) ≡ true
unfolding all_costs
all_costs_map [] h = refl
all_costs_map (v ∷ vs) h = grind (arith, nat_tests, h v (Memᴰ.head refl), all_costs_map vs (λ w m. h w (Memᴰ.tail m)))

-- vertices of costs in range have places of costs in range
pub costs_pack : (vs : List Vertex) → ((v : Vertex) → Memᴰ v vs → v.cost ≤ max_cost) → all_costs (pack vs).costs ≡ true
unfolding store
costs_pack vs h = all_costs_map _ (at_padded (λ (v : Vertex). v.cost ≤ max_cost) vs (9 - length vs) (omega arith) h)
