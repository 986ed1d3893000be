-- Laws on a base with its companions: who stands where, their stops, and the first unread one. Assumes nothing.
use mathlib.Core.Path.{◌≡◌, refl, subst⁻¹}
use mathlib.Core.Bool.{Bool, true}
use mathlib.Core.List.Memᴰ
use mathlib.Core.List.{List, Memᴰ}
use mathlib.Core.Logic.{⊎_elim}
use Prim.Native.Nat.{ℕ, zero, suc, ◌+◌, ◌-◌, ◌≤◌, ◌<◌}
use native.Mathlib.Omega.{arith}
use native.Mathlib.Nat.{not-suc-le-zero}
use lib.ListN.{length, get_or}
use lib.Ieee.{nan}
use Rattle.std.proofs.lemmas.Bool.Decides.{nat_tests}
use Rattle.std.proofs.lemmas.Bool.{cond_both}
use Rattle.std.proofs.lemmas.List.{places}
use Rattle.rules.specs.Simplex.{up_to, blank, place}
use Rattle.rules.specs.Trial.{entry}
use Rattle.rules.specs.Calls.{every}
use Rattle.rules.specs.Companions.{group, stops_by, unread_from, next_unread}
use Rattle.rules.specs.declared.Vertex.{Vertex}
use Rattle.rules.specs.declared.Simplex.{Simplex}
use Rattle.rules.proofs.Laws.Lists.{length_up_to, get_or_up_to}
use Rattle.rules.proofs.Laws.Places.{Whole}

-- ---- who stands where

module _ (v : Vertex) (f : ℕ → Vertex) (n : ℕ) where
  -- a base and n companions are n + 1
  pub length_group : length (group v f n) ≡ n + 1
  length_group = grind (arith, places, length_up_to (λ (k : ℕ). f (suc k)) n)

  -- companion i stands at index i, from 0
  pub get_or_group : (i : ℕ) → 1 ≤ i → i ≤ n → get_or (group v f n) i blank ≡ f i
  get_or_group zero l h = absurd (not-suc-le-zero l)
  get_or_group (suc i) l h = get_or_up_to (λ (k : ℕ). f (suc k)) i n blank h

-- what is one of f 0 to f (k − 1) is one of them
mem_up_to : (P : Vertex → Type 0) (f : ℕ → Vertex) (k : ℕ) → ((i : ℕ) → i < k → P (f i)) → (w : Vertex) → Memᴰ w (up_to f k) → P w
unfolding up_to
mem_up_to P f zero h w m = absurd (Memᴰ.not-nil m)
mem_up_to P f (suc k) h w m =
    ⊎_elim
    (λ a. mem_up_to P f k (λ i l. h i (omega arith)) w a)
    (λ e. subst⁻¹ P (Memᴰ.eq_of_singleton e) (h k (omega arith)))
    (Memᴰ.append_cases (up_to f k) m)

-- what holds of the base and of each companion holds of all
pub mem_group : (P : Vertex → Type 0) (v : Vertex) (f : ℕ → Vertex) (n : ℕ) → P v → ((i : ℕ) → 1 ≤ i → i ≤ n → P (f i)) → (w : Vertex) → Memᴰ w (group v f n) → P w
mem_group P v f n h g w m =
    ⊎_elim
    (λ e. subst⁻¹ P e h)
    (λ t. mem_up_to P (λ (k : ℕ). f (suc k)) n (λ i l. g (suc i) (omega arith) l) w t)
    (Memᴰ.cases_cons m)

-- where they have points of eight numbers, all have
pub whole_group : (v : Vertex) (f : ℕ → Vertex) (n : ℕ) → length v.point ≡ 8 → ((i : ℕ) → 1 ≤ i → i ≤ n → length (f i).point ≡ 8) → Whole (group v f n)
whole_group v f n h g = mem_group (λ (x : Vertex). length x.point ≡ 8) v f n h g

-- coordinate a of the point at place i, from 0, in the flat run
pub entry_at : (s : Simplex) (i a : ℕ) → a < 8 → entry s.points a i ≡ get_or (place s i).point a nan
entry_at s i a l = grind (arith, places)

-- ---- what holds of each of the first k

pub every_one : (f : ℕ → Bool) (k : ℕ) → ((i : ℕ) → i < k → f i ≡ true) → every f k ≡ true
unfolding every
every_one f zero h = refl
every_one f (suc k) h = rw (every_one f k (λ i l. h i (omega arith)), h k (omega arith)) refl

-- ---- their stops

-- those of companion i stand at index i
pub get_or_stops : (g : ℕ → ℕ) (n i : ℕ) → 1 ≤ i → i ≤ n → get_or (stops_by g n) i 0 ≡ g i
get_or_stops g n zero l h = absurd (not-suc-le-zero l)
get_or_stops g n (suc i) l h = grind (arith, places, length_up_to (λ (k : ℕ). g (suc k)) n, get_or_up_to (λ (k : ℕ). g (suc k)) i n 0 h)

-- ---- the first unread one

-- it is one of the k from i on, unread, or the one after them
pub record Found (k i : ℕ) (ns : List ℕ) (j : ℕ) : Type 0 where
  pub from : i ≤ j
  pub till : j ≤ i + k
  pub unread : j < i + k → get_or ns j 0 ≡ 0

found : (k : ℕ) (ns : List ℕ) (i : ℕ) → Found k i ns (unread_from k ns i)
unfolding unread_from
found zero ns i = record { from = omega arith; till = omega arith; unread = λ l. absurd (omega arith) }
found (suc k) ns i =
    let r = found k ns (suc i) in
    cond_both _ i (unread_from k ns (suc i)) (λ (j : ℕ). Found (suc k) i ns j)
    (λ e. record { from = omega arith; till = omega arith; unread = λ l. grind (arith, nat_tests) })
    (λ e. record { from = omega (arith, r.from); till = omega (arith, r.till); unread = λ l. r.unread (omega arith) })

-- of n companions, from the i-th on
pub found_next : (n i : ℕ) (ns : List ℕ) → Found (n + 1 - i) i ns (next_unread n ns i)
found_next n i ns = found (n + 1 - i) ns i
