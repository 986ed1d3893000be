-- The companions of a multidirectional search that an opening and calls have made: their limits and their stops. Assumes nothing.
use mathlib.Core.Path.{◌≡◌, sym, ap, ◌∙◌, subst}
use mathlib.Core.List.Memᴰ
use mathlib.Core.List.{List, [], Memᴰ}
use mathlib.Core.Logic.{⊎_elim}
use Prim.Native.Nat.{ℕ, ◌≤◌, ◌<◌}
use native.Mathlib.Omega.{arith}
use lib.ListN.{get_or}
use lib.Ieee.{Float, nan}
use Rattle.std.proofs.lemmas.Bool.{cases_lt}
use Rattle.rules.specs.Simplex.{blank, place, number_in}
use Rattle.rules.specs.Trial.{axis, brought, entry, made, trial}
use Rattle.rules.specs.Companions.{group}
use Rattle.rules.specs.Claims.{Within, StopsOf}
use Rattle.rules.specs.declared.Vertex.{Vertex}
use Rattle.rules.specs.declared.Simplex.{Simplex}
use Rattle.rules.specs.declared.Trial.{Trial}
use Rattle.rules.specs.declared.Setup.{Setup}
use Rattle.rules.specs.declared.Search.{Search}
use Rattle.rules.specs.declared.Phase.TheVariants.{Checking}
use Rattle.rules.proofs.Laws.Lists.{get_or_point, point_same}
use Rattle.rules.proofs.Laws.Axes.{brought_within, brought_again}
use Rattle.rules.proofs.Laws.Stopped.{stops_of}
use Rattle.rules.proofs.Laws.Openings.{Sane}
use Rattle.rules.proofs.Laws.Grouping.{length_group, entry_at}
use Rattle.rules.proofs.Laws.Places.{place_past}
use Rattle.rules.proofs.Steps.Grouped.{Unread, AtCheck, MultiOf}
use Rattle.rules.proofs.Steps.Standing.{whole_all, companion_at}

-- the readings lie within the limits
abbrev pub Inside : Setup → List Vertex → Type 0
Inside t rs = (v : Vertex) → Memᴰ v rs → Within t v.point

-- a point that is made lies within them
made_within : (t : Setup) (f : ℕ → Float) → Sane t → Within t (made t t.n f).point
made_within t f h a l = rw (get_or_point t.n (λ b. brought t b (f b)) a l) (brought_within (axis t a) (f a) (h.limits a l))

module _ {Q : ℕ → (ℕ → Float) → Type 0} (rs : List Vertex) (s : Search) (inv : MultiOf Q rs s) (some : 1 ≤ s.readings) where
  -- each companion lies within the limits
  pub companion_inside : Inside s.setup rs → (i : ℕ) → 1 ≤ i → i ≤ s.setup.n → Within s.setup (place s.standing i).point
  companion_inside inside i l h =
      let g = inv.grouped some in
      let t = s.setup in
      subst (λ (c : Vertex). Within t c.point) (sym (companion_at inv.noted some g i l h))
      (⊎_elim
      (λ m. inside (g.f i) m)
      (λ u. subst (λ (c : Vertex). Within t c.point) (sym u.are) (made_within t u.f inv.noted.sane))
      (g.each i l h))

  -- an unread one is asked as it was made, with the stops of that moment
  pub companion_stops : (i : ℕ) → s.phase ≡ Checking i → (f : ℕ → Float) × Q i f × StopsOf s.setup f (trial s)
  unfolding trial
  companion_stops i now =
      let g = inv.grouped some in
      let t = s.setup in
      let here : AtCheck i t.n s.standing.numbers s.readings s.counts = rw now at inv.phase in
      let stands = companion_at inv.noted some g i here.low here.high in
      let unread : Unread (Q i) t (g.f i) (get_or s.stops i 0) =
      ⊎_elim
      (λ m. absurd (let numbered = (inv.noted.shapes (g.f i) m).numbered in let none : (g.f i).number ≡ 0 = sym (ap number_in stands) ∙ here.unread in omega arith))
      (λ u. u)
      (g.each i here.low here.high) in
      let f = unread.f in
      let same : (a : ℕ) → a < t.n → brought t a (entry s.standing.points a i) ≡ brought t a (f a) =
      λ a l.
      let at : entry s.standing.points a i ≡ brought t a (f a) =
      entry_at s.standing i a (omega (arith, inv.noted.sane.at_most8)) ∙ ap (λ (c : Vertex). get_or c.point a nan) (stands ∙ unread.are) ∙ get_or_point t.n (λ b. brought t b (f b)) a l in
      ap (λ (v : Float). brought t a v) at ∙ brought_again (axis t a) (f a) (inv.noted.sane.limits a l) in
      let points = point_same t.n (λ a. brought t a (entry s.standing.points a i)) (λ a. brought t a (f a)) same in
      (f, unread.origin, rw now (subst (λ (x : Trial). StopsOf t f x) (λ j. record { point = sym points j; stops = sym unread.count j }) (stops_of t f inv.noted.sane.limits)))

-- the places past the companions are blank
pub past_companions : {Q : ℕ → (ℕ → Float) → Type 0} (rs : List Vertex) (s : Search) → MultiOf Q rs s → (i : ℕ) → s.setup.n < i → i < 9 → place s.standing i ≡ blank
past_companions rs s inv i l m =
    ⊎_elim
    (λ some.
    let g = inv.grouped some in
    ap (λ (x : Simplex). place x i) g.are ∙ place_past (group s.best g.f s.setup.n) i (whole_all inv.noted some g) (omega (arith, length_group s.best g.f s.setup.n)) m)
    (λ e. ap (λ (x : Simplex). place x i) (inv.blank (omega arith)) ∙ place_past [] i (λ v q. absurd (Memᴰ.not-nil q)) (omega arith) m)
    (cases_lt 0 s.readings)
