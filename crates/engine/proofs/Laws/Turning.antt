-- Laws of the multidirectional search: the next unread companion, and a base with companions as the code puts them into places. Assumes nothing.
use mathlib.Core.Path.{◌≡◌, refl, sym, ap, ◌∙◌, subst}
use Rattle.std.specs.Prelude.{◌≢◌}
use mathlib.Core.List.Memᴰ
use mathlib.Core.List.{List, [], ◌∷◌, ◌++◌}
use mathlib.Core.Bool.{true, cond}
use Prim.Native.Nat.{ℕ, zero, suc, ◌+◌, ◌-◌, ◌≤◌, ◌<◌}
use native.Mathlib.Numerals.{add-one}
use native.Mathlib.Omega.{arith}
use lib.ListN.{length, length-set, get_or, set, replicate}
use lib.Seq.{set_at, append_snoc, get_or-set_other}
use lib.Dec.{eqb, ltb}
use Rattle.std.proofs.lemmas.Bool.{cond_both}
use Rattle.std.proofs.lemmas.Bool.Decides.{nat_tests}
use Rattle.std.proofs.lemmas.List.{ext_get_or}
use Rattle.std.proofs.lemmas.Grind.{get_or-set_at}
use Rattle.rules.specs.Numbers.{max_cost}
use Rattle.rules.specs.Simplex.{up_to, blank, pack, place, unpack}
use Rattle.rules.specs.Companions.{base, reflection, unread_at, base_after, companion_after, group, group_after, group_read, stops_by, unread_from, next_unread}
use Rattle.rules.specs.Calls.{all_costs}
use Rattle.rules.specs.declared.Vertex.{Vertex}
use Rattle.rules.specs.declared.Simplex.{Simplex}
use Rattle.rules.specs.declared.Search.{Search}
use Rattle.rules.specs.declared.Change.{Change}
use Rattle.rules.specs.declared.Change.TheVariants.{Built, Mirrored, Swapped, Halved}
use Rattle.rules.proofs.Laws.Lists.{length_up_to, get_or_up_to}
use Rattle.rules.proofs.Laws.Places.{Whole, costs_pack}
use Rattle.rules.proofs.Laws.Grouping.{length_group, get_or_group, mem_group}
use Rattle.engine.specs.Places.{put_at, Holds}
use Rattle.engine.specs.Ready.{Ready}
use Rattle.engine.proofs.Laws.Placing.{length_unpack, put_after, whole_append, cost_low}

-- ---- the next unread companion

-- one that has been read is passed by
pub next_past : (n : ℕ) (ns : List ℕ) (i : ℕ) → i ≤ n → 0 < get_or ns i 0 → next_unread n ns i ≡ next_unread n ns (i + 1)
unfolding unread_from
next_past n ns i l h =
    let more : n + 1 - i ≡ suc (n - i) = omega arith in
    let less : n + 1 - (i + 1) ≡ n - i = omega arith in
    let next : suc i ≡ i + 1 = omega arith in
    rw (more, less, ← next) (grind (arith, nat_tests))

-- an unread one is the next
pub next_here : (n : ℕ) (ns : List ℕ) (i : ℕ) → i ≤ n → get_or ns i 0 ≡ 0 → next_unread n ns i ≡ i
unfolding unread_from
next_here n ns i l h =
    let more : n + 1 - i ≡ suc (n - i) = omega arith in
    rw (more, h)

-- past the last there is none
pub next_none : (n : ℕ) (ns : List ℕ) (i : ℕ) → n < i → next_unread n ns i ≡ i
unfolding unread_from
next_none n ns i l =
    let none : n + 1 - i ≡ 0 = omega arith in
    rw none

-- what the search for the next one takes
pub ruleset nexts = (next_past, next_here, next_none)

-- ---- a base and companions, put into places one after the other

module _ (b : Vertex) (f : ℕ → Vertex) (k : ℕ) where
  -- one companion more stands after them
  group_more : group b f (k + 1) ≡ group b f k ++ f (k + 1) ∷ []
  unfolding up_to
  group_more = rw add-one refl

  -- the next companion is put at the first place after them
  pub group_put : (s : Simplex) (v : Vertex) → s ≡ pack (group b f k) → Whole (group b f k) → v ≡ f (k + 1) → length v.point ≡ 8 → k < 8
      → put_at s (k + 1) v ≡ pack (group b f (k + 1))
  group_put s v h w e l m =
      let more : group b f k ++ v ∷ [] ≡ group b f (k + 1) = ap (λ (u : Vertex). group b f k ++ u ∷ []) e ∙ sym group_more in
      ap (λ (t : Simplex). put_at t (k + 1) v) h ∙ put_after (group b f k) (k + 1) v w l (sym (length_group b f k)) (omega arith) ∙ ap pack more

  -- and so each has a point of eight numbers
  pub group_whole : (v : Vertex) → Whole (group b f k) → v ≡ f (k + 1) → length v.point ≡ 8 → Whole (group b f (k + 1))
  group_whole v w e l =
      let more : group b f k ++ v ∷ [] ≡ group b f (k + 1) = ap (λ (u : Vertex). group b f k ++ u ∷ []) e ∙ sym group_more in
      subst Whole more (whole_append (group b f k) (v ∷ []) w (λ u m. rw (Memᴰ.eq_of_singleton m) l))

  -- the stops of the next companion are stored at its place
  pub stops_more : (g : ℕ → ℕ) (xs : List ℕ) (x : ℕ) → xs ≡ stops_by g k → x ≡ g (k + 1) → k < 8 → set xs (k + 1) x ≡ stops_by g (k + 1)
  unfolding up_to
  stops_more g xs x h e l =
      let m : 8 - k ≡ suc (8 - suc k) = omega arith in
      let i : k + 1 ≡ suc k = omega arith in
      rw (h, e, i, m, set_at (up_to (λ j. g (suc j)) k) 0 (replicate (8 - suc k) 0) (g (suc k)) k (length_up_to _ k), append_snoc)

-- ---- a companion that is read

module _ (s : Search) (i : ℕ) (u : Vertex) (low : 1 ≤ i) (high : i ≤ s.setup.n) where
  -- the first n + 1 places with the reading u as companion i, place by place
  read_at : (k : ℕ) → k < s.setup.n + 1 → get_or (set (unpack (s.setup.n + 1) s.standing) i u) k blank ≡ get_or (group_read i u s) k blank
  unfolding unpack
  read_at zero l =
      let vs = unpack (s.setup.n + 1) s.standing in
      get_or-set_other vs i 0 u blank (omega arith) ∙ get_or_up_to (place s.standing) 0 (s.setup.n + 1) blank l
  read_at (suc k) l =
      let vs = unpack (s.setup.n + 1) s.standing in
      let f : ℕ → Vertex = λ j. cond (eqb j i) u (place s.standing j) in
      let there : suc k ≡ i → get_or (set vs i u) (suc k) blank ≡ u = λ e. get_or-set_at vs i (suc k) u blank e (omega (arith, length_unpack (s.setup.n + 1) s.standing)) in
      let else : suc k ≢ i → get_or (set vs i u) (suc k) blank ≡ place s.standing (suc k) =
      λ d. get_or-set_other vs i (suc k) u blank d ∙ get_or_up_to (place s.standing) (suc k) (s.setup.n + 1) blank l in
      let here : get_or (set vs i u) (suc k) blank ≡ f (suc k) =
      cond_both (eqb (suc k) i) u (place s.standing (suc k)) (λ x. get_or (set vs i u) (suc k) blank ≡ x)
      (λ e. there (grind (arith, nat_tests)))
      (λ e. else (grind (arith, nat_tests))) in
      here ∙ sym (get_or_group (base s) f s.setup.n (suc k) (omega arith) (omega arith))

  -- and so in all
  read_set : set (unpack (s.setup.n + 1) s.standing) i u ≡ group_read i u s
  read_set =
      let n = s.setup.n in
      let vs = unpack (n + 1) s.standing in
      let many : length (set vs i u) ≡ n + 1 = length-set vs i u ∙ length_unpack (n + 1) s.standing in
      let same : length (set vs i u) ≡ length (group_read i u s) = many ∙ sym (length_group (base s) (λ (k : ℕ). cond (eqb k i) u (place s.standing k)) n) in
      ext_get_or blank (set vs i u) (group_read i u s) same (λ k l. read_at k (omega (arith, many)))

-- where w holds them it holds the base and its companions with companion i read
pub read_then : (s : Search) (i : ℕ) (u : Vertex) (w : Simplex) → Holds (s.setup.n + 1) w (set (unpack (s.setup.n + 1) s.standing) i u) → (1 ≤ i) × (i ≤ s.setup.n) → w ≡ pack (group_read i u s)
read_then s i u w h k = h.packed ∙ ap pack (read_set s i u k.0 k.1)

-- ---- the costs in range

-- a base and companions of costs in range have places of costs in range
low_group : (b : Vertex) (f : ℕ → Vertex) (n : ℕ) → b.cost ≤ max_cost → ((i : ℕ) → (f i).cost ≤ max_cost) → all_costs (pack (group b f n)).costs ≡ true
low_group b f n h k =
    costs_pack (group b f n) (mem_group (λ (v : Vertex). v.cost ≤ max_cost) b f n h (λ i _ _. k i))

module _ (s : Search) (u : Vertex) (ready : Ready s) (low : u.cost ≤ max_cost) where
  -- the vertex at a place has a cost in range
  stood : (i : ℕ) → (place s.standing i).cost ≤ max_cost
  stood i = cost_low s.standing.costs ready.standing i

  -- so has each companion after a change
  low_companion : (c : Change) (i : ℕ) → (companion_after c u s i).cost ≤ max_cost
  low_companion Built i = omega arith
  low_companion (Mirrored j) i =
      let told = cost_low s.gathered.costs ready.gathered (i - 1) in
      let P : Vertex → Type 0 = λ v. v.cost ≤ max_cost in
      cond_both (eqb i j) (base s) _ P (λ _. stood 0)
      (λ _. cond_both (ltb i j) (place s.gathered (i - 1)) (unread_at (reflection s i)) P (λ _. told) (λ _. omega arith))
  low_companion (Swapped j) i = cond_both (eqb i j) (base s) (place s.standing i) (λ v. v.cost ≤ max_cost) (λ _. stood 0) (λ _. stood i)
  low_companion Halved i = omega arith

  -- and the base
  low_base : (c : Change) → (base_after c u s).cost ≤ max_cost
  low_base Built = low
  low_base (Mirrored j) = low
  low_base (Swapped j) = low
  low_base Halved = stood 0

  -- the costs stay in range where a base and its companions come to stand
  pub low_after : (c : Change) → all_costs (pack (group_after c u s)).costs ≡ true
  low_after c = low_group (base_after c u s) (companion_after c u s) s.setup.n (low_base c) (low_companion c)

  -- and where a companion is read
  pub low_read : (i : ℕ) → all_costs (pack (group_read i u s)).costs ≡ true
  low_read i =
      low_group (base s) (λ (k : ℕ). cond (eqb k i) u (place s.standing k)) s.setup.n (stood 0)
      (λ k. cond_both (eqb k i) u (place s.standing k) (λ v. v.cost ≤ max_cost) (λ _. low) (λ _. stood k))

  -- so w has, which holds the companions with one of them read
  pub low_then : (i : ℕ) (w : Simplex) → Holds (s.setup.n + 1) w (set (unpack (s.setup.n + 1) s.standing) i u) → (1 ≤ i) × (i ≤ s.setup.n) → all_costs w.costs ≡ true
  low_then i w h k = rw (read_then s i u w h k) (low_read i)

-- what the places take where a companion is read
pub ruleset reads = (read_then, low_then)
