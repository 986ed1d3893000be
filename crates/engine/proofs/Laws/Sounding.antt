-- Laws of the test for a sound search: how the code comes to its outcome, and what an accepted call may take for granted. Assumes nothing.
use mathlib.Core.Path.{◌≡◌, refl, sym}
use mathlib.Core.Bool.{true, false, not, and-eq-true_iff}
use mathlib.Core.List.{List, [], ◌∷◌}
use Prim.Native.Nat.{ℕ, zero, suc, suc-le-suc, ◌≤◌, ◌<◌}
use native.Mathlib.Numerals.{add-one}
use native.Mathlib.Omega.{arith}
use lib.ListN.{length, get_or}
use lib.Dec.{leb}
use borrow.Author.Tests.{leb-true, ltb-true}
use Rattle.std.specs.Prelude.{Some, Ok}
use Rattle.std.specs.List.{IsAllAdjacentAnswer}
use Rattle.std.specs.Ordering.{nat_cmp, is_le, is_some_and}
use Rattle.std.proofs.lemmas.Bool.{false_from_ne_true, not-true, le-leb}
use Rattle.std.proofs.lemmas.List.Sorted.{non_decreasing_from_is_sorted}
use Rattle.std.proofs.lemmas.Bool.Decides.{nat_tests}
use Rattle.rules.specs.Numbers.{max_cost, max_budget}
use Rattle.rules.specs.Refusals.{Verdict, check}
use Rattle.rules.specs.Calls.{sound_phase, sound_counts, in_order, sound, intact, undamaged, ask_verdict, tell_verdict}
use Rattle.rules.specs.View.{is_ended, gathered_in}
use Rattle.rules.specs.declared.Search.{Search}
use Rattle.rules.specs.declared.Phase.{Phase}
use Rattle.rules.specs.declared.Phase.TheVariants.{Building, Reflecting, Expanding, Contracting, Shrinking, Basing, Mirroring, Checking, Probing, Ended}
use Rattle.rules.specs.declared.Counts.{Counts}
use Rattle.rules.specs.declared.Refusal.TheVariants.{SearchEnded, Damaged}
use Rattle.rules.proofs.Laws.Openings.{check_iff}
use Rattle.engine.specs.Ready.{companion_in, Askable, Ready}

-- ---- costs in order

-- costs none of which is lower than the one before it pass the test for the order
stepwise : (cs : List ℕ) → ((k : ℕ) → suc k < length cs → get_or cs k 0 ≤ get_or cs (suc k) 0) → in_order cs ≡ true
unfolding in_order
stepwise [] h = refl
stepwise (c ∷ []) h = refl
stepwise (c ∷ d ∷ ds) h = rw (le-leb c d (h 0 (omega arith)), stepwise (d ∷ ds) (λ k l. h (suc k) (suc-le-suc l)))

-- of costs that pass it none is lower than the one before it
steps : (cs : List ℕ) → in_order cs ≡ true → (k : ℕ) → suc k < length cs → get_or cs k 0 ≤ get_or cs (suc k) 0
unfolding in_order
steps [] h k l = absurd (omega arith)
steps (c ∷ []) h k l = absurd (omega arith)
steps (c ∷ d ∷ ds) h zero l = grind (arith, nat_tests)
steps (c ∷ d ∷ ds) h (suc k) l = steps (d ∷ ds) (grind (arith, nat_tests)) k (omega arith)

-- where the library's test passes they are in order
pub in_order_if : (cs : List ℕ) → IsAllAdjacentAnswer (λ x y b. is_some_and is_le (Some (nat_cmp x y)) ≡ b) cs true → in_order cs ≡ true
in_order_if cs a = let rises = non_decreasing_from_is_sorted cs true a in stepwise cs (λ k l. rises k (suc k) 0 (omega arith) l)

-- else they are not
pub in_order_not : (cs : List ℕ) → IsAllAdjacentAnswer (λ x y b. is_some_and is_le (Some (nat_cmp x y)) ≡ b) cs false → in_order cs ≡ false
in_order_not cs a =
    let f = non_decreasing_from_is_sorted cs false a in
    false_from_ne_true (in_order cs) (λ e. let s = rw (← add-one f.0) at (steps cs e f.0 (omega (arith, f.1))) in omega (arith, s, f.2 0))

-- the two answers of the library's test
pub ruleset orders = (in_order_if, in_order_not)

-- ---- what the test for a sound search tells

-- counts that are sound by a budget are sound by the largest one
counts_most : (b : ℕ) (c : Counts) → sound_counts b c ≡ true → b ≤ max_budget → sound_counts max_budget c ≡ true
counts_most b c h l = grind (arith, nat_tests)

-- a phase that is sound by the companions that have been read is sound whichever have been
phase_whichever : (n readings : ℕ) (ns : List ℕ) (p : Phase) → sound_phase n readings ns p ≡ true → sound_phase n readings [] p ≡ true
phase_whichever n readings ns (Building i) h = h
phase_whichever n readings ns Reflecting h = h
phase_whichever n readings ns Expanding h = h
phase_whichever n readings ns (Contracting side) h = h
phase_whichever n readings ns (Shrinking j) h = h
phase_whichever n readings ns Basing h = h
phase_whichever n readings ns (Mirroring i) h = h
phase_whichever n readings ns (Checking i) h = grind (arith, nat_tests)
phase_whichever n readings ns (Probing p) h = h
phase_whichever n readings ns (Ended cause) h = h

-- a sound phase has gathered no more vertices than there are axes
gathered_most : (n readings : ℕ) (ns : List ℕ) (p : Phase) → 1 ≤ n → sound_phase n readings ns p ≡ true → gathered_in p ≤ n
gathered_most n readings ns (Building i) l h = leb-true i n ((and-eq-true_iff (leb i n) _).0 h).0
gathered_most n readings ns (Shrinking j) l h = leb-true j n ((and-eq-true_iff (leb 1 j) (leb j n)).0 h).1
gathered_most n readings ns _ l h = omega arith

-- and its companion is one of them
companion_most : (n readings : ℕ) (ns : List ℕ) (p : Phase) → sound_phase n readings ns p ≡ true → companion_in p ≤ n
companion_most n readings ns (Mirroring i) h = grind (arith, nat_tests)
companion_most n readings ns (Checking i) h = grind (arith, nat_tests)
companion_most n readings ns _ h = omega arith

module _ (s : Search) (h : (intact s ≡ true) × (is_ended s.phase ≡ false)) where
  -- an intact search that has not ended has what every step needs
  ready : Ready s
  unfolding sound
  ready =
      let k = simp and-eq-true_iff at h.0 in
      let fit : sound_counts s.setup.budget s.counts ≡ true = search in
      let much : s.setup.budget ≤ max_budget = omega (arith, leb-true) in
      record {
        low = omega (arith, leb-true);
        high = omega (arith, leb-true);
        rule = search;
        phase = phase_whichever s.setup.n s.readings s.standing.numbers s.phase search;
        live = h.1;
        counts = counts_most s.setup.budget s.counts fit much;
        standing = search;
        gathered = search;
      }

  -- it has fewer readings than the largest budget
  below : s.readings < max_budget
  unfolding sound
  below = let k = simp and-eq-true_iff at h.0 in omega (arith, leb-true, ltb-true)

-- a search that is ready can be asked for the trial of its own phase
askable_now : (s : Search) → Ready s → Askable s s.phase
askable_now s h = record { low = h.low; high = h.high; fits = gathered_most s.setup.n s.readings [] s.phase h.low h.phase; turns = companion_most s.setup.n s.readings [] s.phase h.phase; live = h.live }

-- a search that is refused neither as damaged nor as ended is intact and has not ended
unrefused : (s : Search) (v : Verdict) → check (undamaged s) Damaged (check (not (is_ended s.phase)) SearchEnded v) ≡ Ok tt → (intact s ≡ true) × (is_ended s.phase ≡ false)
unrefused s v h =
    let k = simp check_iff at h in
    let live = not-true (is_ended s.phase) k.1.0 in
    (rw live at k.0, live)

-- ---- what an accepted call takes

-- what an accepted ask takes; the verdict stands before it, since tactics find the call by it
pub ask_takes : (s : Search) → Ok tt ≡ ask_verdict s → (ask_verdict s ≡ Ok tt) × (Askable s s.phase) × (s.readings < max_budget)
unfolding ask_verdict
ask_takes s a =
    let h = unrefused s (Ok tt) (sym a) in
    (sym a, askable_now s (ready s h), below s h)

-- what an accepted tell takes, in the same form
pub tell_takes : (s : Search) (number cost : ℕ) → Ok tt ≡ tell_verdict s number cost
    → (tell_verdict s number cost ≡ Ok tt) × (Ready s) × (s.readings < max_budget) × (cost ≤ max_cost)
unfolding tell_verdict
tell_takes s number cost a =
    let h = unrefused s _ (sym a) in
    let k = simp check_iff at (sym a) in
    (sym a, ready s h, below s h, omega (arith, leb-true))
