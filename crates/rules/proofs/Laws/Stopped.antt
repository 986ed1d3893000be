-- A trial's stops: at most as many as axes, and the axes that they count. Assumes nothing.
use mathlib.Core.Path.{◌≡◌, refl, sym, ap, ◌∙◌, subst}
use mathlib.Core.Bool.{true, false, true≢false, cond}
use mathlib.Core.List.Memᴰ
use mathlib.Core.List.{List, [], ◌∷◌, ◌++◌, Memᴰ}
use mathlib.Core.Logic.{◌↔◌, ⊎_elim}
use Prim.Native.Nat.{ℕ, zero, suc, ◌+◌, ◌≤◌, ◌<◌}
use native.Mathlib.Nat.{eq-or-lt_of_le, le_of_suc-le-suc}
use native.Mathlib.Omega.{arith}
use lib.ListN.{length, get_or, length-append, get_or-append}
use lib.Seq.{get_or-append_seam}
use lib.Ieee.{Float, nan}
use Rattle.std.proofs.lemmas.Bool.{cases_Bool, cases_lt, cond_both}
use Rattle.rules.specs.Binary64.{◌<ᶠ◌}
use Rattle.rules.specs.Trial.{axis, brought, stopped, stops_to, made}
use Rattle.rules.specs.Claims.{StopsOf}
use Rattle.rules.specs.declared.Setup.{Setup}
use Rattle.rules.proofs.Laws.Lists.{get_or_point, mem_get_or}
use Rattle.rules.proofs.Laws.Axes.{brought_inside, brought_on_ring, stop_outside, stop_moves, stop_on_limit}

module _ (t : Setup) (f : ℕ → Float) where
  -- no axis counts twice
  pub stops_low : (k : ℕ) → stops_to t f k ≤ k
  unfolding stops_to
  stops_low zero = omega arith
  stops_low (suc k) = cond_both (stopped t k (f k)) 1 0 (λ (m : ℕ). stops_to t f k + m ≤ suc k) (λ e. omega (arith, stops_low k)) (λ e. omega (arith, stops_low k))

  -- the axes that count among the first k
  unfoldable pub counted_axes : ℕ → List ℕ
  counted_axes zero = []
  counted_axes (suc k) = cond (stopped t k (f k)) (counted_axes k ++ k ∷ []) (counted_axes k)

  -- a list of axes, lowest first, that has the counted ones among the first k, m of them
  pub record Lists (k m : ℕ) (xs : List ℕ) : Type 0 where
    pub many : length xs ≡ m
    pub rising : (i j : ℕ) → i < j → j < length xs → get_or xs i 0 < get_or xs j 0
    pub exactly : (a : ℕ) → Memᴰ a xs ↔ ((a < k) × (stopped t a (f a) ≡ true))

  module _ (k m : ℕ) (xs : List ℕ) (l : Lists k m xs) where
    -- axis k is the last of the longer list
    last_axis : (j : ℕ) → length xs ≤ j → j < length (xs ++ k ∷ []) → get_or (xs ++ k ∷ []) j 0 ≡ k
    last_axis j d h =
        let same : length xs ≡ j = omega (arith, rw (length-append xs (k ∷ [])) at h) in
        rw (← same) (get_or-append_seam xs k [] 0)

    -- and higher than all before it
    rising_last : (i j : ℕ) → i < j → j < length (xs ++ k ∷ []) → get_or (xs ++ k ∷ []) i 0 < get_or (xs ++ k ∷ []) j 0
    rising_last i j r h =
        let low : i < length xs = omega (arith, rw (length-append xs (k ∷ [])) at h) in
        let kept = get_or-append xs (k ∷ []) 0 i low in
        ⊎_elim
        (λ d. rw (kept, get_or-append xs (k ∷ []) 0 j d) (l.rising i j r d))
        (λ d. rw (kept, last_axis j d h) ((l.exactly (get_or xs i 0)).0 (mem_get_or xs i 0 low)).0)
        (cases_lt j (length xs))

    -- what is in that list counts
    among : (a : ℕ) → Memᴰ a (xs ++ k ∷ []) → stopped t k (f k) ≡ true → (a < suc k) × (stopped t a (f a) ≡ true)
    among a m e =
        ⊎_elim
        (λ u. let p = (l.exactly a).0 u in (omega (arith, p.0), p.1))
        (λ u. let q : a ≡ k = Memᴰ.eq_of_singleton u in (omega (arith, q), rw q e))
        (Memᴰ.append_cases xs m)

    -- what counts is in that list
    put_in : (a : ℕ) → (a < suc k) × (stopped t a (f a) ≡ true) → Memᴰ a (xs ++ k ∷ [])
    put_in a q =
        ⊎_elim
        (λ d. Memᴰ.append_right xs (Memᴰ.head d))
        (λ d. Memᴰ.append_left (k ∷ []) ((l.exactly a).1 (d, q.1)))
        (eq-or-lt_of_le (le_of_suc-le-suc q.0))

    -- axis k counts
    with_axis : stopped t k (f k) ≡ true → Lists (suc k) (m + 1) (xs ++ k ∷ [])
    with_axis e =
        record {
          many = length-append xs (k ∷ []) ∙ ap (λ (i : ℕ). i + 1) l.many;
          rising = rising_last;
          exactly = λ a. (λ q. among a q e, λ q. put_in a q);
        }

    -- where axis k does not count, whatever counts stands before it
    before_k : (a : ℕ) → (a < suc k) × (stopped t a (f a) ≡ true) → stopped t k (f k) ≡ false → a < k
    before_k a q e = ⊎_elim (λ d. absurd (true≢false (sym (subst (λ (i : ℕ). stopped t i (f i) ≡ true) d q.1) ∙ e))) (λ d. d) (eq-or-lt_of_le (le_of_suc-le-suc q.0))

    -- axis k does not count
    without_axis : stopped t k (f k) ≡ false → Lists (suc k) (m + 0) xs
    without_axis e =
        record {
          many = omega (arith, l.many);
          rising = l.rising;
          exactly = λ a. (λ q. let p = (l.exactly a).0 q in (omega (arith, p.0), p.1), λ q. (l.exactly a).1 (before_k a q e, q.1));
        }

  -- of any setup, and any numbers: the stops are as many as this list has axes, those whose number the clamp changes and no other
  pub lists : (k : ℕ) → Lists k (stops_to t f k) (counted_axes k)
  unfolding stops_to counted_axes
  lists zero =
      record {
        many = refl;
        rising = λ i j r h. absurd (omega (arith, h));
        exactly = λ a. (λ q. absurd (Memᴰ.not-nil q), λ q. absurd (omega (arith, q.0)));
      }
  lists (suc k) =
      let m = stops_to t f k in
      let xs = counted_axes k in
      ⊎_elim
      (λ e. rw e (with_axis k m xs (lists k) e))
      (λ e. rw e (without_axis k m xs (lists k) e))
      (cases_Bool (stopped t k (f k)))

  -- the stops of a trial whose limits are in order
  pub stops_of : ((a : ℕ) → a < t.n → ((axis t a).lo <ᶠ (axis t a).hi) ≡ true) → StopsOf t f (made t t.n f)
  stops_of ordered =
      let l = lists t.n in
      let point_at : (a : ℕ) → a < t.n → get_or (made t t.n f).point a nan ≡ brought t a (f a) = λ a m. get_or_point t.n (λ b. brought t b (f b)) a m in
      let tests = λ (a : ℕ). stop_outside (axis t a) (f a) in
      record {
        axes = counted_axes t.n;
        many = sym l.many;
        rising = l.rising;
        at_most_n = stops_low t.n;
        outside = λ a. (λ q. let p = (l.exactly a).0 q in let o = (tests a).0 p.1 in (p.0, o.0, o.1), λ q. (l.exactly a).1 (q.0, (tests a).1 (q.1, q.2)));
        moved = λ a q. let p = (l.exactly a).0 q in rw (point_at a p.0) (stop_moves (axis t a) (f a) p.1 (ordered a p.0));
        kept = λ a m w. rw (point_at a m) (brought_inside (axis t a) (f a) w);
        round = λ a m e. rw (point_at a m) (brought_on_ring (axis t a) (f a) e);
        on_limit = λ a q. let p = (l.exactly a).0 q in rw (point_at a p.0) (stop_on_limit (axis t a) (f a) p.1);
      }
