-- Laws on what a line of the input does. Assumes nothing.
use Rattle.std.specs.Prelude.{Option, Ok, Err}
use mathlib.Core.Path.{◌≡◌, refl, sym, ◌∙◌}
use mathlib.Core.Bool.{false, ◌&&◌, and-eq-true_iff}
use mathlib.Core.List.{List}
use Prim.Native.Nat.{ℕ, suc, ◌≤◌, ◌<◌}
use native.Mathlib.Omega.{arith}
use borrow.Author.Tests.{le-ltb, leb-true}
use lib.ListN.{length, get_or, replicate}
use lib.Seq.{set_out}
use lib.Dec.{leb}
use Rattle.std.proofs.lemmas.List.{ext_get_or, get_or-replicate}
use Rattle.std.specs.Array.{AllOfLen}
use Rattle.rules.specs.Binary64.{0ᶠ}
use Rattle.rules.specs.Refusals.{Verdict}
use Rattle.rules.specs.Calls.{tell_verdict, told_by, telling}
use Rattle.rules.specs.declared.Refusal.{Refusal}
use Rattle.rules.specs.Opening.{zero_axis, closed, opening, open_verdict}
use Rattle.rules.specs.declared.Method.{Method}
use Rattle.rules.specs.declared.Rule.{Rule}
use Rattle.rules.specs.declared.Axis.{Axis}
use Rattle.rules.specs.declared.Coefficients.{Coefficients}
use Rattle.rules.specs.declared.Search.{Search}
use Rattle.std.proofs.lemmas.Bool.{cond_both}
use Rattle.tune_text.specs.Reading.{axis_lines, axes_read, with_axis}
use Rattle.tune_text.specs.declared.Request.{Request}

-- an axis record of zeros
abbrev IsZero : Axis → Type 0
IsZero x = (x.lo ≡ 0ᶠ) × ((x.hi ≡ 0ᶠ) × ((x.start ≡ 0ᶠ) × ((x.step ≡ 0ᶠ) × (x.ring ≡ false))))

is_zero : (x : Axis) → IsZero x → x ≡ zero_axis
is_zero x z =
    let e : ◌≡◌ {A = Axis} (record { lo = x.lo; hi = x.hi; start = x.start; step = x.step; ring = x.ring }) zero_axis = rw (z.0, z.1.0, z.1.1.0, z.1.1.1.0, z.1.1.1.1) in e

-- eight default axis records are zero records
pub default_axes : (axes : List Axis) → AllOfLen IsZero axes 8 → axes ≡ replicate 8 zero_axis
default_axes axes h =
    ext_get_or zero_axis axes (replicate 8 zero_axis) h.long
    (λ i l.
    let i<8 : i < 8 = omega (arith, h.long) in
    is_zero (get_or axes i zero_axis) (h.at i zero_axis i<8) ∙ sym (get_or-replicate 8 i zero_axis zero_axis i<8))

-- a default request asks for nothing
pub default_request :
    (q : Request) → (q.n ≡ 0) × ((q.budget ≡ 0) × ((q.spread ≡ 0) × AllOfLen IsZero q.axes 8))
    → q ≡ record { n = 0; budget = 0; spread = 0; axes = replicate 8 zero_axis }
default_request q h =
    let e :
    ◌≡◌ {A = Request} (record { n = q.n; budget = q.budget; spread = q.spread; axes = q.axes })
    (record { n = 0; budget = 0; spread = 0; axes = replicate 8 zero_axis }) = rw (h.0, h.1.0, h.1.1.0, default_axes q.axes h.1.1.1) in e

-- an opening with no axis gives the closed search
pub no_axis_closed : (m : Method) (axes : List Axis) (rule : Option Rule) (c : Coefficients) (budget : ℕ) → (opening m 0 axes rule c budget).search ≡ closed
unfolding opening open_verdict
no_axis_closed m axes rule c budget = refl

-- a refused tell leaves the search as it is
pub told_unchanged : (s : Search) (number cost : ℕ) (r : Refusal) → (telling s number cost).verdict ≡ Err r → (telling s number cost).search ≡ s
unfolding telling
told_unchanged s number cost r e = go (tell_verdict s number cost) e
  where
    go : (v : Verdict) → (told_by v s cost).verdict ≡ Err r → (told_by v s cost).search ≡ s
    go (Ok _) h = absurd (let none : ⊥ = cc in none)
    go (Err _) h = refl

-- no more than eight axis lines are read
lines_bound : (n : ℕ) → axis_lines n ≤ 8
lines_bound n =
    cond_both (leb 1 n && leb n 8) _ _ (λ (m : ℕ). m ≤ 8) (λ e. leb-true n 8 ((and-eq-true_iff (leb 1 n) (leb n 8)).0 e).1) (λ e. omega arith)

-- after eight axis lines one more changes nothing: the opening follows, and the request has no record for it
pub past_eight : (k : ℕ) (a : Axis) (q : Request) (s : Search) → 8 ≤ k → length q.axes ≡ 8 → axes_read (suc k) (with_axis k a q) s ≡ axes_read k q s
unfolding axes_read
past_eight k a q s h l =
    let few : axis_lines q.n ≤ 8 = lines_bound q.n in
    rw (set_out q.axes k a (omega arith), le-ltb (suc k) (axis_lines q.n) (omega arith), le-ltb k (axis_lines q.n) (omega arith))

-- the laws on what stands before the first line
pub ruleset nothings = (default_request, no_axis_closed)
