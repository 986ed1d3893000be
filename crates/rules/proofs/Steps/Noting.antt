-- One reading more: its number, and the earliest least of all. Assumes nothing.
use mathlib.Core.Path.{◌≡◌, refl, sym, ap, ◌∙◌, subst}
use mathlib.Core.List.Memᴰ
use mathlib.Core.List.{List, [], ◌∷◌, ◌++◌, map, map-append, Memᴰ}
use mathlib.Core.Logic.{⊎_elim}
use Prim.Native.Nat.{ℕ, zero, suc, ◌+◌, ◌≤◌, ◌<◌}
use native.Mathlib.Omega.{arith}
use lib.ListN.{length, get_or, length-map, get_or-append, get_or-map}
use lib.Seq.{get_or-append_seam}
use Rattle.std.proofs.lemmas.Bool.Decides.{nat_tests}
use Rattle.std.proofs.lemmas.Bool.{cases_lt}
use Rattle.std.proofs.lemmas.List.{places, nil_from_length}
use Rattle.rules.specs.Numbers.{max_cost}
use Rattle.rules.specs.Simplex.{blank, cost_of, insert}
use Rattle.rules.specs.Accept.{best_after}
use Rattle.rules.specs.History.{EarliestLeast}
use Rattle.rules.specs.declared.Vertex.{Vertex}
use Rattle.rules.specs.declared.Setup.{Setup}
use Rattle.rules.specs.declared.Search.{Search}
use Rattle.rules.proofs.Laws.Lists.{mem_get_or}
use Rattle.rules.proofs.Laws.Order.{first_lower, first_stays}
use Rattle.rules.proofs.Steps.Invariant.{Known, Leads, ReadingShape, Best, Noted}

infixl 40 ◌▹◌
-- the readings, and a new one after them
abbrev pub ◌▹◌ : List Vertex → Vertex → List Vertex
◌▹◌ rs v = rs ++ v ∷ []

-- s has noted the readings rs and the reading v after them
abbrev pub NotedWith : Vertex → List Vertex → Search → Type 0
NotedWith v rs s = Noted (rs ▹ v) s.setup (s.readings + 1) (best_after s.readings v s.best)

pub known_more : (vs rs : List Vertex) (v : Vertex) → Known vs rs → Known vs (rs ▹ v)
known_more vs rs v h w m = Memᴰ.append_left (v ∷ []) (h w m)

pub known_new : (rs : List Vertex) (v : Vertex) → Memᴰ v (rs ▹ v)
known_new rs v = Memᴰ.append_right rs (Memᴰ.head refl)

-- one that is known is known by itself
pub known_one : (rs : List Vertex) (v : Vertex) → Memᴰ v rs → Known (v ∷ []) rs
known_one rs v m w n = Memᴰ.cast (Memᴰ.eq_of_singleton n) m

-- ---- the best of the readings before and the new one

-- a reading that is lower than the best before it is the best
pub best_falls : (k : ℕ) (v b : Vertex) → 1 ≤ k → v.cost < b.cost → best_after k v b ≡ v
best_falls k v b l h = grind (arith, nat_tests)

-- a reading that is not lower than the best before it leaves the best
pub best_stays : (k : ℕ) (v b : Vertex) → 1 ≤ k → b.cost ≤ v.cost → best_after k v b ≡ b
best_stays k v b l h = grind (arith, nat_tests)

-- where the best is first among vertices, the best after a reading is first with that reading among them
pub leads_on : (vs : List Vertex) (v b : Vertex) (k : ℕ) → 1 ≤ k → Leads vs b → Leads (insert v vs) (best_after k v b)
leads_on vs v b k l h =
    ⊎_elim
    (λ g. rw (best_falls k v b l g) (first_lower v b vs h g))
    (λ g. rw (best_stays k v b l g) (first_stays v b vs h g))
    (cases_lt v.cost b.cost)

-- ---- one cost more

pub earliest_first : (c : ℕ) → EarliestLeast (c ∷ []) 0
earliest_first c = record { told = omega arith; least = λ j l. grind (arith, places); earliest = λ j l. absurd (omega arith) }

-- a cost that is not lower leaves the earliest least where it was
pub earliest_keeps : (h : List ℕ) (k c : ℕ) → EarliestLeast h k → get_or h k 0 ≤ c → EarliestLeast (h ++ c ∷ []) k
earliest_keeps h k c e l =
    record {
      told = grind (arith, places, e.told);
      least = λ j m. grind (arith, places, e.told, e.least j);
      earliest = λ j m. grind (arith, places, e.told, e.earliest j);
    }

-- a lower cost is the earliest least itself
pub earliest_new : (h : List ℕ) (k c : ℕ) → EarliestLeast h k → c < get_or h k 0 → EarliestLeast (h ++ c ∷ []) (length h)
earliest_new h k c e l =
    record {
      told = grind (arith, places);
      least = λ j m. grind (arith, places, e.least j);
      earliest = λ j m. grind (arith, places, e.least j);
    }

-- ---- one reading more

cost_at : (rs : List Vertex) (k : ℕ) (b : Vertex) → get_or rs k blank ≡ b → get_or (map cost_of rs) k 0 ≡ b.cost
cost_at rs k b e = get_or-map cost_of rs k blank ∙ ap cost_of e

best_first : (rs : List Vertex) (v : Vertex) → length rs ≡ 0 → Best (rs ▹ v) v
best_first rs v e = rw (nil_from_length rs e) (0, earliest_first v.cost, refl)

best_new : (rs : List Vertex) (v b : Vertex) → Best rs b → v.cost < b.cost → Best (rs ▹ v) v
best_new rs v b h l =
    let q : v.cost < get_or (map cost_of rs) h.0 0 = rw (cost_at rs h.0 b h.2) l in (
      length (map cost_of rs),
      rw (map-append cost_of rs (v ∷ [])) (earliest_new (map cost_of rs) h.0 v.cost h.1 q),
      rw (length-map rs cost_of) (get_or-append_seam rs v [] blank),
    )

best_old : (rs : List Vertex) (v b : Vertex) → Best rs b → b.cost ≤ v.cost → Best (rs ▹ v) b
best_old rs v b h l =
    let q : get_or (map cost_of rs) h.0 0 ≤ v.cost = rw (cost_at rs h.0 b h.2) l in
    let k : h.0 < length rs = rw (length-map rs cost_of) at h.1.told in (
      h.0,
      rw (map-append cost_of rs (v ∷ [])) (earliest_keeps (map cost_of rs) h.0 v.cost h.1 q),
      get_or-append rs (v ∷ []) blank h.0 k ∙ h.2,
    )

best_after_lem : (rs : List Vertex) (v b : Vertex) (k : ℕ) → k ≡ length rs → (1 ≤ k → Best rs b) → Best (rs ▹ v) (best_after k v b)
best_after_lem rs v b zero e h = best_first rs v (sym e)
best_after_lem rs v b (suc k) e h =
    let was = h (omega arith) in
    ⊎_elim
    (λ g. rw (best_falls (suc k) v b (omega arith) g) (best_new rs v b was g))
    (λ g. rw (best_stays (suc k) v b (omega arith) g) (best_old rs v b was g))
    (cases_lt v.cost b.cost)

low_after : (k : ℕ) (v b : Vertex) → v.cost ≤ max_cost → b.cost ≤ max_cost → (best_after k v b).cost ≤ max_cost
low_after k v b h g = grind (arith, nat_tests)

-- the best is one of the readings
pub best_mem : (rs : List Vertex) (b : Vertex) → Best rs b → Memᴰ b rs
best_mem rs b h = Memᴰ.cast (sym h.2) (mem_get_or rs h.0 blank (rw (length-map rs cost_of) at h.1.told))

-- a reading of the right shape is noted, where the budget is not spent
pub note : (rs : List Vertex) (t : Setup) (k : ℕ) (b v : Vertex) → Noted rs t k b → ReadingShape t.n v → k < t.budget → Noted (rs ▹ v) t (k + 1) (best_after k v b)
note rs t k b v h f below =
    record {
      sane = h.sane;
      told = grind (arith, places, h.told);
      below = omega arith;
      shapes = λ w m. ⊎_elim (h.shapes w) (λ n. subst (ReadingShape t.n) (sym (Memᴰ.eq_of_singleton n)) f) (Memᴰ.append_cases rs m);
      least = λ l. best_after_lem rs v b k h.told h.least;
      low = low_after k v b f.low h.low;
    }
