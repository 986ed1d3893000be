-- Laws on arrays that a loop fills place by place. Assumes nothing.
use mathlib.Core.Path.{◌≡◌, refl, ap}
use mathlib.Core.Bool.{cond}
use mathlib.Core.List.{List}
use Prim.Native.Nat.{ℕ, suc, ◌+◌, ◌-◌, ◌≤◌, ◌<◌}
use native.Mathlib.Numerals.{add-one}
use native.Mathlib.Omega.{arith}
use lib.ListN.{get_or, replicate, set}
use lib.Seq.{set_at, append_snoc}
use lib.Ieee.{Float, nan}
use Rattle.rules.specs.Binary64.{0ᶠ, ◌⊕◌}
use Rattle.rules.specs.Simplex.{up_to, point}
use Rattle.rules.specs.Trial.{brought, stopped, stops_to, made, entry, sum_to}
use Rattle.rules.specs.declared.Setup.{Setup}
use Rattle.rules.specs.declared.Trial.{Trial}
use Rattle.rules.proofs.Laws.Lists.{length_up_to, get_or_point}
use Rattle.rules.proofs.Laws.Stopped.{stops_low}

-- the next coordinate is stored over the first that is still 0
pub point_more : (f : ℕ → Float) (j : ℕ) (xs : List Float) (x : Float) → j < 8 → xs ≡ point j f → x ≡ f j → set xs j x ≡ point (j + 1) f
unfolding up_to
point_more f j xs x h p e =
    let m : 8 - j ≡ suc (8 - suc j) = omega arith in
    rw (p, e, add-one, m, set_at (up_to f j) 0ᶠ (replicate (8 - suc j) 0ᶠ) (f j) j (length_up_to f j), append_snoc)

-- the next axis is put to the trial of those before it
pub made_more : (t : Setup) (f : ℕ → Float) (j : ℕ) (x : Trial) (v : Float) → j < 8 → x ≡ made t j f → v ≡ f j
    → record { point = set x.point j (brought t j v); stops = x.stops + cond (stopped t j v) 1 0 } ≡ made t (j + 1) f
unfolding stops_to
made_more t f j x v h p e =
    let points : set x.point j (brought t j v) ≡ point (j + 1) (λ a. brought t a (f a)) =
    point_more (λ a. brought t a (f a)) j x.point (brought t j v) h (ap (λ (y : Trial). y.point) p) (ap (λ (u : Float). brought t j u) e) in
    let counts : x.stops + cond (stopped t j v) 1 0 ≡ stops_to t f (j + 1) = rw (p, e, add-one) refl in
    λ i. record { point = points i; stops = counts i }

-- where sum has the sums of places 1 to i, out with place i + 1 added to them has those of one place more
pub sum_more : (ps sum out : List Float) (i : ℕ) → out ≡ point 8 (λ k. get_or sum k nan ⊕ entry ps k i) → 1 ≤ i
    → ((a : ℕ) → a < 8 → get_or sum a nan ≡ sum_to (entry ps a) (i - 1)) → (a : ℕ) → a < 8 → get_or out a nan ≡ sum_to (entry ps a) (i + 1 - 1)
unfolding sum_to
sum_more ps sum out i p low e a l =
    let next : i + 1 - 1 ≡ suc (i - 1) = omega arith in
    let same : suc (i - 1) ≡ i = omega arith in
    rw (p, get_or_point 8 (λ k. get_or sum k nan ⊕ entry ps k i) a l, next, e a l, same) refl

-- the laws that the loop of a trial takes
pub ruleset trials = (made_more, stops_low)
