-- Laws of the stopping rules: the sums of costs, the places from one on, and the movement. Assumes nothing.
use mathlib.Core.Path.{◌≡◌, refl}
use mathlib.Core.Bool.{true, ◌&&◌}
use mathlib.Core.List.{List, [], ◌∷◌, ◌++◌, map, map-append}
use Prim.Native.Nat.{ℕ, zero, suc, ◌+◌, ◌≤◌, ◌<◌}
use native.Mathlib.Numerals.{add-one}
use native.Mathlib.Nat.{mul-le-mul}
use native.Mathlib.Omega.{arith}
use lib.ListN.{length, get_or, take, drop, length-take}
use lib.Seq.{take-suc, drop-append-le, length-take-le, get_or-take}
use lib.Ieee.{Float, nan}
use Rattle.rules.specs.Binary64.{0ᶠ, ◌⊗◌, ◌≤ᶠ◌}
use Rattle.rules.specs.Numbers.{max_cost}
use Rattle.rules.specs.Calls.{all_costs}
use Rattle.rules.specs.Simplex.{up_to, point_of, place, unpack}
use Rattle.rules.specs.Stop.{total, square, apart, movement, norm, scale, all_within, size_met}
use Rattle.rules.specs.declared.Simplex.{Simplex}
use Rattle.rules.proofs.Laws.Lists.{length_up_to}
use Rattle.engine.proofs.Laws.Placing.{cost_low, rest_more}

-- ---- the sums of costs

-- the total with one number more is the total before and that number
total_more : (xs : List ℕ) (x : ℕ) → total (xs ++ (x ∷ [])) ≡ total xs + x
unfolding total
total_more [] x = omega arith
total_more (y ∷ xs) x = omega (arith, total_more xs x)

-- the sum of one cost more is the sum before and that cost
pub total_next : (cs : List ℕ) (i : ℕ) → i < length cs → total (take (i + 1) cs) ≡ total (take i cs) + get_or cs i 0
total_next cs i h = rw (add-one, take-suc cs i 0 h, total_more)

-- the sum of the squares of one cost more is the sum before and that cost squared
pub squares_next : (cs : List ℕ) (i : ℕ) → i < length cs → total (map square (take (i + 1) cs)) ≡ total (map square (take i cs)) + square (get_or cs i 0)
squares_next cs i h = rw (add-one, take-suc cs i 0 h, map-append square, total_more)

-- a cost among the first m of costs in range is in range
pub low_take : (cs : List ℕ) (m i : ℕ) → all_costs cs ≡ true → i < length (take m cs) → get_or (take m cs) i 0 ≤ max_cost
low_take cs m i h l =
    let k : i < m = omega (arith, length-take m cs) in
    rw (get_or-take m cs i 0 k) (cost_low cs h i)

-- the square of a cost in range
pub square_low : (c : ℕ) → c ≤ max_cost → square c ≤ square max_cost
square_low c h = mul-le-mul h h

-- the laws that the sums of costs take
pub ruleset sums = (total_next, squares_next, low_take, square_low)

-- ---- points cut after n coordinates

-- how far two points lie apart over the first k axes is how far their first n coordinates do, k being at most n
apart_first : (x y : List Float) (t : Float) (n k : ℕ) → k ≤ n → apart (take n x) (take n y) t k ≡ apart x y t k
unfolding apart
apart_first x y t n zero h = refl
apart_first x y t n (suc k) h = rw (apart_first x y t n k (omega arith), get_or-take n x k nan h, get_or-take n y k nan h)

-- the sum of squared coordinates over the first k axes is that of the first n coordinates, k being at most n
norm_first : (x : List Float) (n k : ℕ) → k ≤ n → norm (take n x) k ≡ norm x k
unfolding norm
norm_first x n zero h = refl
norm_first x n (suc k) h = rw (norm_first x n k (omega arith), get_or-take n x k nan h)

-- how far two points' first n coordinates lie apart
pub apart_take : (x y : List Float) (t : Float) (n : ℕ) → n ≤ length x → apart (take n x) (take n y) t (length (take n x)) ≡ apart x y t n
apart_take x y t n h = rw (length-take-le n x h) (apart_first x y t n n (omega arith))

-- the sum of a point's first n squared coordinates
pub norm_take : (x : List Float) (n : ℕ) → n ≤ length x → norm (take n x) (length (take n x)) ≡ norm x n
norm_take x n h = rw (length-take-le n x h) (norm_first x n n (omega arith))

-- ---- the places from one on

-- the test of the places from i on begins with that of place i, whose point is y and lies apart from x1 by the square root of d
pub within_next : (n : ℕ) (limit : Float) (x1 : List Float) (s : Simplex) (i m : ℕ) (y : List Float) (d : Float) → i < m → n ≤ length y → y ≡ (place s i).point
    → d ≡ apart (take n y) (take n x1) 0ᶠ (length (take n y)) → all_within n limit x1 (drop i (unpack m s)) ≡ (d ≤ᶠ limit) && all_within n limit x1 (drop (i + 1) (unpack m s))
unfolding all_within
within_next n limit x1 s i m y d l k e h = rw (rest_more s i m l, ← e, h, apart_take y x1 0ᶠ n k)

-- the rule size at a simplex, q being the sum of squared coordinates of its first point
pub size_at : (n : ℕ) (e : Float) (s : Simplex) (q : Float) → q ≡ norm (place s 0).point n → size_met n e (unpack (n + 1) s) ≡ all_within n ((e ⊗ e) ⊗ scale q) (place s 0).point (drop 1 (unpack (n + 1) s))
unfolding size_met
size_at n e s q h = rw (h, rest_more s 0 (n + 1) (omega arith))

-- the points of the places from the second on
pub rest_points : (s : Simplex) (n : ℕ) → map point_of (drop 1 (unpack (n + 1) s)) ≡ up_to (λ (k : ℕ). (place s (suc k)).point) n
unfolding unpack up_to
rest_points s zero = refl
rest_points s (suc n) =
    let e : suc n + 1 ≡ suc (n + 1) = omega arith in
    let l : 1 ≤ length (up_to (place s) (n + 1)) = omega (arith, length_up_to (place s) (n + 1)) in
    rw (e, drop-append-le 1 (up_to (place s) (n + 1)) (place s (n + 1) ∷ []) l, map-append point_of, rest_points s n, add-one)

-- ---- the movement

-- the movement with one replaced vertex more runs on from the movement before
pub movement_more : (n : ℕ) (xs ys : List (List Float)) (x y : List Float) (t : Float) → length xs ≡ length ys → movement n (xs ++ (x ∷ [])) (ys ++ (y ∷ [])) t ≡ apart x y (movement n xs ys t) n
unfolding movement
movement_more n [] [] x y t h = refl
movement_more n [] (b ∷ ys) x y t h = absurd (omega arith)
movement_more n (a ∷ xs) [] x y t h = absurd (omega arith)
movement_more n (a ∷ xs) (b ∷ ys) x y t h = movement_more n xs ys x y (apart a b t n) (omega arith)
