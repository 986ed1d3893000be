-- Laws on the places of a simplex: blank ones after the first k, and a newcomer among the first k. Assumes nothing.
use mathlib.Core.Path.{◌≡◌, refl, sym, ap, ◌∙◌, subst, subst⁻¹}
use mathlib.Core.Bool.{true}
use mathlib.Core.List.Memᴰ
use mathlib.Core.List.{List, [], ◌∷◌, ◌++◌, map, map-append, append-nil, append_assoc, Memᴰ}
use mathlib.Core.Logic.{⊎_elim}
use Prim.Native.Nat.{ℕ, zero, suc, ◌+◌, ◌-◌, ◌*◌, ◌≤◌, ◌<◌}
use native.Mathlib.Numerals.{add-one}
use native.Mathlib.Omega.{arith}
use lib.ListN.{length, length-set, take, drop, set, replicate, length-append, length-drop, length-map, drop_of_length-le, get_or, take-append-drop, replicate-append-replicate}
use lib.Seq.{set_at, set-append_left, map-set, take-append-add, drop-append-add, paste, paste-zero, paste-suc, take_all, take_at, drop_at, take-suc, drop-cons, take-append-le, take-take, length-take-le}
use lib.Ieee.{Float}
use borrow.Rule.Slice.PartMut.{put_mid, mid_of}
use Rattle.std.specs.List.{copy_within}
use Rattle.rules.specs.Binary64.{0ᶠ}
use Rattle.rules.specs.declared.Simplex.{Simplex}
use Rattle.rules.specs.declared.Vertex.{Vertex}
use Rattle.rules.specs.Numbers.{max_cost}
use Rattle.rules.specs.Calls.{all_costs}
use Rattle.rules.specs.Simplex.{up_to, blank, cost_of, number_in, flat, store, pack, place, unpack, insert}
use Rattle.std.proofs.lemmas.Bool.Decides.{nat_tests}
use Rattle.rules.proofs.Laws.Lists.{length_up_to, get_or_up_to}
use Rattle.rules.proofs.Laws.Places.{Whole, whole_padded, flat_append, flat_unpack, costs_unpack, numbers_unpack, costs_pack, unpack_pack}
use Rattle.rules.proofs.Laws.Order.{insert_after, insert_before, mem_insert}
use Rattle.engine.specs.Places.{put_at, Clean, Holds}

-- ---- blank places

-- the points of blank places are zeros
flat_blank : (k : ℕ) → flat (replicate k blank) ≡ replicate (8 * k) 0ᶠ
unfolding flat
flat_blank zero = refl
flat_blank (suc k) =
    let e : 8 * suc k ≡ 8 + 8 * k = omega arith in
    rw (e, flat_blank k, ← replicate-append-replicate)

-- a measure of blank places is a blank one's, over and over
measure_blank : (f : Vertex → ℕ) (k : ℕ) → map f (replicate k blank) ≡ replicate k (f blank)
measure_blank f zero = refl
measure_blank f (suc k) = rw (measure_blank f k)

-- a run that is filled with z from place a on
pub filled : {A : Type 0} (a n : ℕ) (xs ys : List A) (z : A) → a ≤ n → length xs ≡ n → ys ≡ replicate (length (mid_of a (n - a) xs)) z
    → put_mid a (n - a) xs ys ≡ take a xs ++ replicate (n - a) z
filled a n xs ys z l e h =
    let long : length (drop a xs) ≡ n - a = simp length-drop (omega arith) in
    rw (h, take_all (n - a) (drop a xs) (omega arith), long, drop_of_length-le (drop a xs) {i = n - a} (omega arith), append-nil)

-- the first m places have m vertices
pub length_unpack : (m : ℕ) (s : Simplex) → length (unpack m s) ≡ m
unfolding unpack
length_unpack m s = length_up_to (place s) m

-- the first m places, and zeros after them, are the vertices of the first m places
pub pack_first : (s : Simplex) (m : ℕ) (ps : List Float) (cs ks : List ℕ) → m ≤ length s.costs → m ≤ length s.numbers
    → ps ≡ take (8 * m) s.points ++ replicate (72 - 8 * m) 0ᶠ → cs ≡ take m s.costs ++ replicate (9 - m) 0 → ks ≡ take m s.numbers ++ replicate (9 - m) 0
    → record { points = ps; costs = cs; numbers = ks } ≡ pack (unpack m s)
unfolding store
pack_first s m ps cs ks l k p c d =
    let e : 72 - 8 * m ≡ 8 * (9 - m) = omega arith in
    let points : ps ≡ flat (unpack m s ++ replicate (9 - m) blank) = rw (flat_append, flat_unpack m s, flat_blank, p, e) in
    let costs : cs ≡ map cost_of (unpack m s ++ replicate (9 - m) blank) = rw (map-append cost_of, costs_unpack m s l, measure_blank cost_of, c) in
    let numbers : ks ≡ map number_in (unpack m s ++ replicate (9 - m) blank) = rw (map-append number_in, numbers_unpack m s k, measure_blank number_in, d) in
    rw (length_unpack m s, points, costs, numbers)

-- what holds at each of the first m places holds of each vertex that `unpack` reads there
each_unpack : (P : Vertex → Type 0) (m : ℕ) (s : Simplex) → ((i : ℕ) → i < m → P (place s i)) → (v : Vertex) → Memᴰ v (unpack m s) → P v
unfolding unpack up_to
each_unpack P zero s h v m = absurd (Memᴰ.not-nil m)
each_unpack P (suc k) s h v m =
    ⊎_elim
    (each_unpack P k s (λ i l. h i (omega arith)) v)
    (λ t. subst⁻¹ P (Memᴰ.eq_of_singleton t) (h k (omega arith)))
    (Memᴰ.append_cases (unpack k s) m)

-- the points at the first m of nine places have eight numbers each
pub whole_unpack : (m : ℕ) (s : Simplex) → length s.points ≡ 72 → m ≤ 9 → Whole (unpack m s)
whole_unpack m s h l =
    each_unpack (λ (v : Vertex). length v.point ≡ 8) m s λ (i : ℕ) k.
    let e : 8 ≤ length (drop (8 * i) s.points) = simp length-drop (omega arith) in
    length-take-le 8 (drop (8 * i) s.points) e

-- the vertices of the first m places are found again once blank places follow them
pub unpack_first : (s : Simplex) (m : ℕ) → length s.points ≡ 72 → m ≤ 9 → unpack m (pack (unpack m s)) ≡ unpack m s
unpack_first s m h l = subst (λ (k : ℕ). unpack k (pack (unpack m s)) ≡ unpack m s) (length_unpack m s) (unpack_pack (unpack m s) (whole_unpack m s h l))

-- the vertices of the places from i on are that at place i and those from i + 1 on
pub rest_more : (s : Simplex) (i len : ℕ) → i < len → drop i (unpack len s) ≡ place s i ∷ drop (i + 1) (unpack len s)
unfolding unpack
rest_more s i len h = rw (add-one, drop-cons (unpack len s) i blank (omega (arith, length_unpack len s)), get_or_up_to (place s) i len blank h)

-- of the vertices of len places none is left from place len on
pub rest_none : (s : Simplex) (i len : ℕ) → len ≤ i → drop i (unpack len s) ≡ []
rest_none s i len h = drop_of_length-le (unpack len s) {i = i} (omega (arith, length_unpack len s))

-- the vertices of len places, with v between the first len of them and the others, are these and v after all
pub after_all : (s : Simplex) (len : ℕ) (v : Vertex) → take len (unpack len s) ++ v ∷ drop len (unpack len s) ≡ unpack len s ++ v ∷ []
after_all s len v = rw (rest_none s len len (omega arith), take_all len (unpack len s) (omega (arith, length_unpack len s)))

-- ---- a vertex put between others

module _ {A : Type 0} where
  -- a run of b elements put at the end of xs, where ys is moved on by b over the b elements zs
  pub opened : (xs ys zs ws new : List A) (i e b : ℕ) → length xs ≡ i → length xs + length ys ≡ e → length zs ≡ b → length new ≡ b
      → paste (copy_within (xs ++ ys ++ zs ++ ws) i e (i + b)) i new b ≡ xs ++ new ++ ys ++ ws
  opened xs ys zs ws new i e b p q r t =
      let whole = xs ++ (ys ++ (zs ++ ws)) in
      let flat : xs ++ ys ++ zs ++ ws ≡ whole = simp append_assoc in
      let long : length whole ≡ e + b + length ws = simp length-append (omega arith) in
      let rest : drop i whole ≡ ys ++ (zs ++ ws) = drop_at xs _ i p in
      let moved : take (e - i) (ys ++ (zs ++ ws)) ≡ ys = take_at ys _ (e - i) (omega arith) in
      let seam : whole ≡ (xs ++ ys ++ zs) ++ ws = simp append_assoc in
      let past : drop (i + b + (e - i)) whole ≡ ws = rw seam (drop_at (xs ++ ys ++ zs) ws (i + b + (e - i)) (simp length-append (omega arith))) in
      let head = take (i + b) whole in
      let inner : length head ≡ i + b = length-take-le (i + b) whole (omega arith) in
      let front : take i head ≡ xs = take-take i (i + b) whole (omega arith) ∙ take_at xs _ i p in
      let made : copy_within whole i e (i + b) ≡ head ++ (ys ++ ws) = rw (rest, moved, past) (append_assoc head ys ws) in
      let first : take i (head ++ (ys ++ ws)) ≡ xs = take-append-le i head (ys ++ ws) (omega arith) ∙ front in
      rw (flat, made, first, drop_at head (ys ++ ws) (i + b) inner, take_all b new (omega arith)) (simp append_assoc)

  -- an element stored is a run of one put there
  set_paste : (xs : List A) (i : ℕ) (x : A) → i < length xs → set xs i x ≡ paste xs i (x ∷ []) 1
  set_paste xs i x l =
      let h : i + 0 < length xs = omega arith in
      let e : i + 0 ≡ i = omega arith in
      subst (λ (k : ℕ). set xs k x ≡ paste xs i (x ∷ []) 1) e (ap (λ (l : List A). set l (i + 0) x) (paste-zero xs i (x ∷ [])) ∙ paste-suc xs i (x ∷ []) 0 x h (omega arith))

-- the flat run has eight numbers for each vertex
length_flat : (vs : List Vertex) → Whole vs → length (flat vs) ≡ 8 * length vs
unfolding flat
length_flat [] h = refl
length_flat (v ∷ vs) h = simp length-append (omega (arith, h v (Memᴰ.head refl), length_flat vs (λ w m. h w (Memᴰ.tail m))))

-- two lists of vertices, each with a point of eight numbers, make one such list
pub whole_append : (vs ws : List Vertex) → Whole vs → Whole ws → Whole (vs ++ ws)
whole_append vs ws a b v m = ⊎_elim (a v) (b v) (Memᴰ.append_cases vs m)

module _ (xs ys : List Vertex) (v : Vertex) (i len : ℕ) (h : length xs ≡ i) (k : length xs + length ys ≡ len) (small : len ≤ 8) where
  -- one blank place fewer follows
  blank_before : 9 - length (xs ++ ys) ≡ suc (8 - len)
  blank_before = simp length-append (omega arith)

  blank_after : 9 - length (xs ++ v ∷ ys) ≡ 8 - len
  blank_after = simp length-append (omega arith)

  -- a measure of v put where that of the vertices ys has moved on by one place stands between those of xs and ys
  measure_between : (f : Vertex → ℕ) (ks : List ℕ) → length ks ≡ 9 → ks ≡ copy_within (map f (xs ++ ys ++ replicate (9 - length (xs ++ ys)) blank)) i len (i + 1)
      → set ks i (f v) ≡ map f (xs ++ v ∷ ys ++ replicate (9 - length (xs ++ v ∷ ys)) blank)
  measure_between f ks nine c =
      let ws = replicate (8 - len) blank in
      let was : map f (xs ++ ys ++ replicate (suc (8 - len)) blank) ≡ map f xs ++ map f ys ++ (f blank ∷ []) ++ map f ws = simp (map-append, append_assoc) in
      let put = opened (map f xs) (map f ys) (f blank ∷ []) (map f ws) (f v ∷ []) i len 1 (simp length-map h) (simp length-map k) refl refl in
      let all : map f (xs ++ v ∷ ys ++ ws) ≡ map f xs ++ (f v ∷ []) ++ map f ys ++ map f ws = simp (map-append, append_assoc) in
      rw blank_after (set_paste ks i (f v) (omega arith) ∙ rw (c, blank_before, was) (put ∙ sym all))

  -- v put where the vertices ys have moved on by one place stands between xs and ys
  put_between : (s : Simplex) → Whole xs → Whole ys → length v.point ≡ 8 → length s.costs ≡ 9 → length s.numbers ≡ 9
      → s.points ≡ copy_within (pack (xs ++ ys)).points (8 * i) (8 * len) (8 * i + 8) → s.costs ≡ copy_within (pack (xs ++ ys)).costs i len (i + 1)
      → s.numbers ≡ copy_within (pack (xs ++ ys)).numbers i len (i + 1) → put_at s i v ≡ pack (xs ++ v ∷ ys)
  unfolding store flat
  put_between s a b eight costs numbers p c d =
      let ws = replicate (8 - len) blank in
      let was : flat (xs ++ ys ++ replicate (suc (8 - len)) blank) ≡ flat xs ++ flat ys ++ blank.point ++ flat ws = simp (flat_append, append_assoc) in
      let put = opened (flat xs) (flat ys) blank.point (flat ws) v.point (8 * i) (8 * len) 8 (omega (arith, length_flat xs a)) (omega (arith, length_flat xs a, length_flat ys b)) refl eight in
      let all : flat (xs ++ v ∷ ys ++ ws) ≡ flat xs ++ v.point ++ flat ys ++ flat ws = simp (flat_append, append_assoc) in
      let ps : paste s.points (8 * i) v.point 8 ≡ flat (xs ++ v ∷ ys ++ replicate (9 - length (xs ++ v ∷ ys)) blank) = rw (blank_after, p, blank_before, was) (put ∙ sym all) in
      rw (ps, measure_between cost_of s.costs costs c, measure_between number_in s.numbers numbers d)

-- v put where the first len vertices of old have moved on from place i stands among them
pub put_among : (old new : Simplex) (i len : ℕ) (v : Vertex) → Clean len old → length old.points ≡ 72 → length v.point ≡ 8 → i ≤ len → len ≤ 8 → length new.costs ≡ 9 → length new.numbers ≡ 9
    → new.points ≡ copy_within old.points (8 * i) (8 * len) (8 * i + 8) → new.costs ≡ copy_within old.costs i len (i + 1) → new.numbers ≡ copy_within old.numbers i len (i + 1)
    → Holds (len + 1) (put_at new i v) (take i (unpack len old) ++ v ∷ drop i (unpack len old))
put_among old new i len v clean long eight l small costs numbers p c d =
    let us = unpack len old in
    let n = length_unpack len old in
    let whole : Whole us = whole_unpack len old long (omega arith) in
    let parts : take i us ++ drop i us ≡ us = take-append-drop i us in
    let front : Whole (take i us) = λ w m. whole w (subst (λ (vs : List Vertex). Memᴰ w vs) parts (Memᴰ.append_left (drop i us) m)) in
    let back : Whole (drop i us) = λ w m. whole w (subst (λ (vs : List Vertex). Memᴰ w vs) parts (Memᴰ.append_right (take i us) m)) in
    let was : old ≡ pack (take i us ++ drop i us) = rw parts clean in
    let vs = take i us ++ v ∷ drop i us in
    let packed : put_at new i v ≡ pack vs =
    put_between (take i us) (drop i us) v i len (length-take-le i us (omega arith)) (simp length-append at (ap length parts) ∙ n) small new front back eight costs numbers
    (p ∙ ap (λ (s : Simplex). copy_within s.points (8 * i) (8 * len) (8 * i + 8)) was)
    (c ∙ ap (λ (s : Simplex). copy_within s.costs i len (i + 1)) was)
    (d ∙ ap (λ (s : Simplex). copy_within s.numbers i len (i + 1)) was) in
    let one : Whole (v ∷ []) = λ w m. rw (Memᴰ.eq_of_singleton m) eight in
    let all : Whole vs = whole_append (take i us) (v ∷ drop i us) front (whole_append (v ∷ []) (drop i us) one back) in
    let m : length vs ≡ len + 1 = simp length-append (omega (arith, length-take-le i us (omega arith), length-drop i us)) in
    record { packed = packed; read = rw packed (subst (λ (k : ℕ). unpack k (pack vs) ≡ vs) m (unpack_pack vs all)); whole = all }

-- ---- a vertex put over another, or after all

-- the flat run with the point of v over that of the i-th vertex
flat_set : (vs : List Vertex) (i : ℕ) (v : Vertex) → Whole vs → length v.point ≡ 8 → i < length vs → paste (flat vs) (8 * i) v.point 8 ≡ flat (set vs i v)
unfolding flat
flat_set [] i v h e l = absurd (omega arith)
flat_set (w ∷ vs) zero v h e l = rw (take_all 8 v.point (omega arith), drop_at w.point (flat vs) 8 (h w (Memᴰ.head refl)))
flat_set (w ∷ vs) (suc i) v h e l =
    let long = h w (Memᴰ.head refl) in
    let front : 8 * suc i ≡ length w.point + 8 * i = omega arith in
    let back : 8 * suc i + 8 ≡ length w.point + (8 * i + 8) = omega arith in
    let rest = flat_set vs i v (λ u m. h u (Memᴰ.tail m)) e (omega arith) in
    rw (back, front, take-append-add w.point, drop-append-add w.point, ← rest) (simp append_assoc)

-- vertices with v over the i-th
whole_set : (vs : List Vertex) (i : ℕ) (v : Vertex) → Whole vs → length v.point ≡ 8 → Whole (set vs i v)
whole_set [] i v h e u m = h u m
whole_set (w ∷ vs) zero v h e u m = ⊎_elim (λ d. let same : u ≡ v = d in rw same e) (λ t. h u (Memᴰ.tail t)) (Memᴰ.cases_cons m)
whole_set (w ∷ vs) (suc i) v h e u m = ⊎_elim (λ d. h u (Memᴰ.head d)) (λ t. whole_set vs i v (λ x k. h x (Memᴰ.tail k)) e u t) (Memᴰ.cases_cons m)

-- v put at the place of the i-th of stored vertices
put_store : (vs : List Vertex) (i : ℕ) (v : Vertex) → Whole vs → length v.point ≡ 8 → i < length vs → put_at (store vs) i v ≡ store (set vs i v)
unfolding store
put_store vs i v h e l = rw (flat_set vs i v h e l, map-set cost_of, map-set number_in)

-- v put at the place of the i-th of packed vertices
pub put_over : (vs : List Vertex) (i : ℕ) (v : Vertex) → Whole vs → length v.point ≡ 8 → i < length vs → put_at (pack vs) i v ≡ pack (set vs i v)
put_over vs i v h e l =
    let bs = replicate (9 - length vs) blank in
    let long : i < length (vs ++ bs) = simp length-append (omega arith) in
    rw (put_store (vs ++ bs) i v (whole_padded vs (9 - length vs) h) e long, length-set, set-append_left vs bs i v l)

-- where w holds the first len vertices of s, v put at place i is one of them
pub replaced_at : (s w : Simplex) (i len : ℕ) (v : Vertex) → Holds len w (unpack len s) → i < len → length v.point ≡ 8 → Holds len (put_at w i v) (set (unpack len s) i v)
replaced_at s w i len v h l e =
    let us = unpack len s in
    let n : length us ≡ len = length_unpack len s in
    let vs = set us i v in
    let packed : put_at w i v ≡ pack vs = ap (λ (t : Simplex). put_at t i v) h.packed ∙ put_over us i v h.whole e (omega (arith, n)) in
    let all : Whole vs = whole_set us i v h.whole e in
    let k : length vs ≡ len = length-set us i v ∙ n in
    record { packed = packed; read = rw packed (subst (λ (j : ℕ). unpack j (pack vs) ≡ vs) k (unpack_pack vs all)); whole = all }

-- v put at the first blank place after packed vertices
pub put_after : (vs : List Vertex) (i : ℕ) (v : Vertex) → Whole vs → length v.point ≡ 8 → i ≡ length vs → i < 9 → put_at (pack vs) i v ≡ pack (vs ++ v ∷ [])
put_after vs i v h e l k =
    let more : 9 - length vs ≡ suc (8 - length vs) = omega arith in
    let one : 9 - length (vs ++ v ∷ []) ≡ 8 - length vs = simp length-append (omega arith) in
    let bs = replicate (8 - length vs) blank in
    let long : i < length (vs ++ blank ∷ bs) = simp length-append (omega arith) in
    let was : put_at (pack vs) i v ≡ put_at (store (vs ++ blank ∷ bs)) i v = rw more in
    let put = put_store (vs ++ blank ∷ bs) i v (whole_padded vs (suc (8 - length vs)) h) e long in
    let all : set (vs ++ blank ∷ bs) i v ≡ vs ++ v ∷ bs = set_at vs blank bs v i (omega arith) in
    was ∙ put ∙ rw (one, all, append_assoc)

-- ---- the newcomer among the places from i on

module _ (v : Vertex) (s : Simplex) (i len : ℕ) where
  -- the newcomer goes past place i where the cost there is not above its own
  pub inserts_after : i < len → get_or s.costs i 0 ≤ v.cost → take i (unpack len s) ++ insert v (drop i (unpack len s)) ≡ take (i + 1) (unpack len s) ++ insert v (drop (i + 1) (unpack len s))
  unfolding unpack
  inserts_after l h =
      let us = unpack len s in
      let w : get_or us i blank ≡ place s i = get_or_up_to (place s) i len blank l in
      rw (rest_more s i len l, insert_after v (place s i) (drop (i + 1) us) h, add-one, take-suc us i blank (omega (arith, length_unpack len s)), w) (simp append_assoc)

  -- the newcomer stops before place i where the cost there is above its own
  pub inserts_before : i < len → v.cost < get_or s.costs i 0 → insert v (drop i (unpack len s)) ≡ v ∷ drop i (unpack len s)
  inserts_before l h = rw (rest_more s i len l) (insert_before v (place s i) (drop (i + 1) (unpack len s)) h)

  -- past the last place the newcomer is alone
  pub inserts_last : len ≤ i → insert v (drop i (unpack len s)) ≡ v ∷ drop i (unpack len s)
  unfolding insert
  inserts_last h = rw (rest_none s i len h)

-- the three ways of a newcomer at place i
pub ruleset inserts = (inserts_after, inserts_before, inserts_last)

-- ---- the newcomer among the first n places

-- the newcomer among none is alone
pub insert_none : (v : Vertex) (s : Simplex) → insert v (unpack 0 s) ≡ v ∷ []
unfolding insert unpack up_to
insert_none v s = refl

-- a cost of costs in range is in range, and so is what is read past their end
pub cost_low : (cs : List ℕ) → all_costs cs ≡ true → (i : ℕ) → get_or cs i 0 ≤ max_cost
unfolding all_costs
cost_low [] h i = omega arith
cost_low (c ∷ cs) h zero = grind (arith, nat_tests)
cost_low (c ∷ cs) h (suc i) = cost_low cs (grind (arith, nat_tests)) i

-- the costs stay in range when a newcomer with a cost in range is put among the first n vertices
pub low_inserted : (s : Simplex) (n : ℕ) (v : Vertex) → v.cost ≤ max_cost → all_costs s.costs ≡ true → all_costs (pack (insert v (unpack n s))).costs ≡ true
low_inserted s n v h c =
    costs_pack (insert v (unpack n s))
    (λ w m.
    ⊎_elim
    (λ e. rw e h)
    (each_unpack (λ (x : Vertex). x.cost ≤ max_cost) n s (λ (j : ℕ) k. cost_low s.costs c j) w)
    (mem_insert v (unpack n s) m))

-- and when it is put after them
pub low_appended : (s : Simplex) (n : ℕ) (v : Vertex) → v.cost ≤ max_cost → all_costs s.costs ≡ true → all_costs (pack (unpack n s ++ v ∷ [])).costs ≡ true
low_appended s n v h c =
    costs_pack (unpack n s ++ v ∷ [])
    (λ w m.
    ⊎_elim
    (each_unpack (λ (x : Vertex). x.cost ≤ max_cost) n s (λ (j : ℕ) k. cost_low s.costs c j) w)
    (λ t. let e : w ≡ v = Memᴰ.eq_of_singleton t in rw e h)
    (Memᴰ.append_cases (unpack n s) m))
