-- A reflection told. Assumes nothing.
use mathlib.Core.Path.{◌≡◌, refl, sym, ap, ◌∙◌, subst}
use mathlib.Core.Bool.{true, false}
use mathlib.Core.List.Memᴰ
use mathlib.Core.List.{List, [], ◌∷◌, ◌++◌, Memᴰ}
use mathlib.Core.Logic.{inl, inr, ⊎_elim}
use Prim.Native.Nat.{ℕ, ◌+◌, ◌-◌, ◌*◌, ◌≤◌, ◌<◌}
use native.Mathlib.Omega.{arith}
use lib.ListN.{length, get_or, length-append}
use lib.Dec.{eqb, ltb}
use lib.Ieee.{Float}
use Rattle.std.proofs.lemmas.Bool.Decides.{nat_tests}
use Rattle.std.proofs.lemmas.Bool.{cond_both}
use Rattle.rules.specs.Simplex.{blank, place, unpack}
use Rattle.rules.specs.View.{view, is_ended}
use Rattle.rules.specs.Trial.{target}
use Rattle.rules.specs.Companions.{unread_at, reflection, companion_after, stop_after}
use Rattle.rules.specs.Decide.{is_last, lower, decided}
use Rattle.rules.specs.Accept.{gathered_after}
use Rattle.rules.specs.declared.Vertex.{Vertex}
use Rattle.rules.specs.declared.Simplex.{Simplex}
use Rattle.rules.specs.declared.Search.{Search}
use Rattle.rules.specs.declared.View.TheVariants.{Turns}
use Rattle.rules.specs.declared.Phase.TheVariants.{Basing, Mirroring, Checking}
use Rattle.rules.specs.declared.Change.TheVariants.{Mirrored}
use Rattle.rules.specs.declared.Keeping.TheVariants.{Told}
use Rattle.rules.specs.declared.Decision.TheVariants.{Go, Regroup}
use Rattle.rules.proofs.Laws.Lists.{mem_get_or}
use Rattle.rules.proofs.Laws.Places.{place_pack}
use Rattle.rules.proofs.Steps.Invariant.{Gathers}
use Rattle.rules.proofs.Steps.Grouped.{Companion, AtMirror, MultiOf}
use Rattle.rules.proofs.Steps.Noting.{◌▹◌, NotedWith, known_more, best_falls}
use Rattle.rules.proofs.Steps.Stepping.{whole, places_are}
use Rattle.rules.proofs.Steps.Turning.{Then, Takes, is_unread, one, goes_on, ends, stand_on, checks, base_cost, base_read}

module _ (Q : ℕ → (ℕ → Float) → Type 0) (rs : List Vertex) (v : Vertex) (s : Search) (inv : MultiOf Q rs s) (after : NotedWith v rs s) (live : is_ended s.phase ≡ false) where
  -- ---- a reflection

  module _ (i : ℕ) (now : s.phase ≡ Mirroring i) (h : AtMirror i s.setup.n inv.gs s.readings s.counts) where
    turns_mirror : view s.phase ≡ Turns
    turns_mirror = rw now refl

    -- no companion is asked
    not_checking : (k : ℕ) → s.phase ≡ Checking k → ⊥
    not_checking k e = absurd (let other : Mirroring i ≡ Checking k = sym now ∙ e in cc)

    -- it is gathered after those told before it
    gathers_told : Gathers (rs ▹ v) (inv.gs ++ v ∷ []) (gathered_after (Go (Told i) Basing) v s)
    gathers_told =
        let before : unpack (i - 1) s.gathered ≡ inv.gs = places_are (i - 1) inv.noted inv.gathers.known inv.gathers.are h.many in
        record {
          are = rw before refl;
          known = λ w m. ⊎_elim (λ a. known_more inv.gs rs v inv.gathers.known w a) (λ e. Memᴰ.append_right rs e) (Memᴰ.append_cases inv.gs m);
        }

    -- a reflection told before it is one Q rs v s inv after live of the readings
    told_before : (k : ℕ) → 1 ≤ k → k < i → Memᴰ (place s.gathered (k - 1)) (rs ▹ v)
    told_before k l m =
        let low : k - 1 < length inv.gs = omega (arith, h.many) in
        let at : place s.gathered (k - 1) ≡ get_or inv.gs (k - 1) blank =
        ap (λ (x : Simplex). place x (k - 1)) inv.gathers.are ∙ place_pack inv.gs (k - 1) (whole inv.noted inv.gathers.known) low in
        Memᴰ.append_left (v ∷ []) (Memᴰ.cast at (inv.gathers.known (get_or inv.gs (k - 1) blank) (mem_get_or inv.gs (k - 1) blank low)))

    -- a lower one Q rs v s inv after live swaps with the base, and the reflections become the companions
    mirrored_each : (k : ℕ) → 1 ≤ k → k ≤ s.setup.n → Companion (Then Q v s (Regroup (Mirrored i)) k) (rs ▹ v) s.setup (companion_after (Mirrored i) v s k) (stop_after (Mirrored i) v s k)
    mirrored_each k l m =
        let stops = stop_after (Mirrored i) v s k in
        let C : Vertex → Type 0 = λ c. Companion (Then Q v s (Regroup (Mirrored i)) k) (rs ▹ v) s.setup c stops in
        cond_both (eqb k i) _ _ C
        (λ e. inl (base_read Q rs v s inv after live h.some))
        (λ e.
        cond_both (ltb k i) _ _ C
        (λ d. inl (told_before k l (grind (arith, nat_tests))))
        (λ d.
        let after_i : ltb i k ≡ true = grind (arith, nat_tests) in
        subst (λ (c : ℕ). Companion (Then Q v s (Regroup (Mirrored i)) k) (rs ▹ v) s.setup (unread_at (reflection s k)) c) (rw after_i refl)
        (is_unread Q rs v s inv after live (target s (Mirroring k)) (inr (grind (arith, nat_tests), λ a. refl)))))

    -- it is lower, or the next one, or a companion is asked
    pub mirror_step : Takes Q rs v s (decided (Mirroring i) s v.cost)
    unfolding decided
    mirror_step =
        let cost = base_cost Q rs v s inv after live h.some in
        let m = i - 1 in
        let fits : m < 2 * s.setup.n = omega (arith, h.low, h.high) in
        cond_both (lower v.cost s) _ _ (Takes Q rs v s)
        (λ e.
        let falls : v.cost < s.best.cost = grind (arith, nat_tests) in
        ends Q rs v s inv after live m turns_mirror h.some h.told fits (Mirrored i) refl (best_falls s.readings v s.best h.some falls) mirrored_each)
        (λ e.
        let higher : s.best.cost ≤ v.cost = grind (arith, nat_tests) in
        cond_both (is_last i s) _ _ (Takes Q rs v s)
        (λ d. checks Q rs v s inv after live m turns_mirror h.some h.told fits higher 1 (Told i) (inv.gs ++ v ∷ []) (omega arith) (grind (arith, nat_tests)) gathers_told (stand_on Q rs v s inv after live h.some higher (λ k f q. (q, not_checking k))) (λ j a b. refl))
        (λ d.
        let high : i < s.setup.n = grind (arith, nat_tests, h.high) in
        goes_on Q rs v s inv after live m turns_mirror h.some h.told fits (Told i) (Mirroring (i + 1)) (inv.gs ++ v ∷ []) gathers_told (stand_on Q rs v s inv after live h.some higher (λ k f q. inl (q, (not_checking k, λ u r. r))))
        (record {
          low = omega arith;
          high = omega arith;
          many = length-append inv.gs (v ∷ []) ∙ omega (arith, h.many, h.low);
          some = omega arith;
          told = omega (arith, h.told, h.low, one Q rs v s inv after live m turns_mirror h.some h.told fits);
        }) tt))
