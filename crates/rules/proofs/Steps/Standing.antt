-- Base and companions as they stand, and the counts of a multidirectional search. Assumes nothing.
use mathlib.Core.Path.{◌≡◌, refl, ap, ◌∙◌}
use mathlib.Core.Bool.{cond}
use mathlib.Core.List.Memᴰ
use mathlib.Core.List.{List, [], ◌∷◌}
use mathlib.Core.Logic.{⊎_elim, ⊎_map}
use Prim.Native.Nat.{ℕ, ◌+◌, ◌*◌, ◌≤◌, ◌<◌}
use native.Mathlib.Omega.{arith}
use lib.ListN.{length, get_or}
use lib.Ieee.{Float}
use Rattle.rules.specs.Simplex.{up_to, place, unpack}
use Rattle.rules.specs.View.{gathered_in, is_probe, is_directed, open_by}
use Rattle.rules.specs.Trial.{brought}
use Rattle.rules.specs.Count.{same, count_in, told_in, counted}
use Rattle.rules.specs.Companions.{group}
use Rattle.rules.specs.Accept.{gathered_of}
use Rattle.rules.specs.Calls.{standing_of}
use Rattle.rules.specs.declared.Method.TheVariants.{Multidirectional}
use Rattle.rules.specs.declared.Vertex.{Vertex}
use Rattle.rules.specs.declared.Simplex.{Simplex}
use Rattle.rules.specs.declared.Counts.{Counts}
use Rattle.rules.specs.declared.Setup.{Setup}
use Rattle.rules.specs.declared.Search.{Search}
use Rattle.rules.specs.declared.Phase.{Phase}
use Rattle.rules.specs.declared.Phase.TheVariants.{Basing, Mirroring, Checking, Probing, Ended}
use Rattle.rules.specs.declared.Piece.TheVariants.{Pattern}
use Rattle.rules.proofs.Laws.Lists.{length_point}
use Rattle.rules.proofs.Laws.Places.{Whole, place_pack}
use Rattle.rules.proofs.Laws.Grouping.{length_group, get_or_group, whole_group}
use Rattle.rules.proofs.Steps.Invariant.{Noted}
use Rattle.rules.proofs.Steps.Grouped.{Companion, Grouped, Directed, AtMulti, MultiOf, unread_more}
use Rattle.rules.proofs.Steps.Noting.{◌▹◌, best_mem}
use Rattle.rules.proofs.Steps.Counting.{count_by, told_count}

-- ---- the counts

-- a reading of an iteration or a probe is told, m readings of the running iteration before it
pub directed_told : (p : Phase) (m n k : ℕ) (c : Counts) → Directed n k c → 1 ≤ k → is_probe p + is_directed p ≡ 1 → open_by p ≡ 0
    → c.directed ≤ 2 * n * c.patterns + m → m + is_directed p ≤ 2 * n → Directed n (k + 1) (told_in p c)
directed_told p m n k c h l one closed told fits =
    record {
      none = λ q e. told_count p c q ∙ h.none q e;
      none_open = omega (arith, h.none_open);
      equation = omega (arith, h.equation);
      some = omega (arith, h.some);
      few = omega arith;
    }

-- an iteration is finished, of which a reading was told
pub directed_counted : (n k : ℕ) (c : Counts) → Directed n k c → c.patterns < c.directed → Directed n k (counted Pattern c)
directed_counted n k c h l =
    record {
      none = λ q e. count_by (λ r. cond (same r Pattern) (count_in r c + 1) (count_in r c)) _ _ _ q ∙ rw e (h.none q e);
      none_open = refl;
      equation = omega (arith, h.equation);
      some = omega arith;
      few = omega (arith, h.few);
    }

-- ---- base and companions as they stand

-- a companion is one after a reading more
pub companion_more : {Q P : (ℕ → Float) → Type 0} (rs : List Vertex) (t : Setup) (c v : Vertex) (stops : ℕ) → ((f : ℕ → Float) → Q f → P f)
    → Companion Q rs t c stops → Companion P (rs ▹ v) t c stops
companion_more rs t c v stops more h = ⊎_map (λ m. Memᴰ.append_left (v ∷ []) m) (λ u. unread_more t c stops more u) h

-- its point has eight numbers
pub companion_eight : {Q : (ℕ → Float) → Type 0} (rs : List Vertex) (t : Setup) (k : ℕ) (b c : Vertex) (stops : ℕ) → Noted rs t k b → Companion Q rs t c stops → length c.point ≡ 8
companion_eight rs t k b c stops h g =
    ⊎_elim
    (λ m. (h.shapes c m).eight)
    (λ u. ap (λ (x : Vertex). length x.point) u.are ∙ length_point t.n (λ a. brought t a (u.f a)) h.sane.at_most8)
    g

-- no simplex stands in this method
pub none_stands : (s : Search) → s.method ≡ Multidirectional → standing_of s ≡ []
unfolding unpack up_to
none_stands s e = rw e refl

-- and no vertex is gathered
gathers_nothing : (p : Phase) (t : Setup) (gs : List Vertex) (ns : List ℕ) (k : ℕ) (c : Counts) → AtMulti p t gs ns k c → gathered_in p ≡ 0
gathers_nothing Basing t gs ns k c h = refl
gathers_nothing (Mirroring i) t gs ns k c h = refl
gathers_nothing (Checking i) t gs ns k c h = refl
gathers_nothing (Probing p) t gs ns k c h = refl
gathers_nothing (Ended cause) t gs ns k c h = refl
gathers_nothing p t gs ns k c h = absurd h

pub none_gathered_yet : {Q : ℕ → (ℕ → Float) → Type 0} (rs : List Vertex) (s : Search) → MultiOf Q rs s → gathered_of s ≡ []
unfolding unpack up_to
none_gathered_yet rs s inv = rw (gathers_nothing s.phase s.setup inv.gs s.standing.numbers s.readings s.counts inv.phase) refl

module _ {Q : ℕ → (ℕ → Float) → Type 0} {rs : List Vertex} {t : Setup} {k : ℕ} {b : Vertex} {stops : List ℕ} {standing : Simplex} (noted : Noted rs t k b) (some : 1 ≤ k)
    (g : Grouped Q rs t b stops standing) where
  abbrev all : List Vertex
  all = group b g.f t.n

  pub whole_all : Whole all
  whole_all =
      whole_group b g.f t.n
      ((noted.shapes b (best_mem rs b (noted.least some))).eight)
      (λ i l h. companion_eight rs t k b (g.f i) (get_or stops i 0) noted (g.each i l h))

  -- the base stands at place 1
  pub base_at : place standing 0 ≡ b
  base_at = ap (λ (x : Simplex). place x 0) g.are ∙ place_pack all 0 whole_all (omega (arith, length_group b g.f t.n))

  -- companion i stands at place i + 1
  pub companion_at : (i : ℕ) → 1 ≤ i → i ≤ t.n → place standing i ≡ g.f i
  companion_at i l h =
      ap (λ (x : Simplex). place x i) g.are ∙ place_pack all i whole_all (omega (arith, length_group b g.f t.n)) ∙ get_or_group b g.f t.n i l h
