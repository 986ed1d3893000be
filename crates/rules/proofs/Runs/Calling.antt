-- Calls on a search of the rules over an accepted history, and lists of them. Assumes nothing.
use Rattle.std.specs.Prelude.{Ok, Err}
use mathlib.Core.Path.{◌≡◌, refl, sym, ap, ◌∙◌}
use mathlib.Core.Bool.{true, false, true≢false, and-eq-true_iff}
use mathlib.Core.List.{List, [], ◌∷◌, ◌++◌}
use mathlib.Core.Logic.{◌↔◌}
use Prim.Native.Nat.{ℕ, ◌+◌, ◌<◌}
use native.Mathlib.Omega.{arith}
use lib.ListN.{length}
use borrow.Author.Tests.{ne_eqb, not-true}
use Rattle.std.proofs.lemmas.Bool.Decides.{nat_tests}
use Rattle.std.proofs.lemmas.Bool.{cond_both}
use Rattle.rules.specs.Refusals.{Verdict}
use Rattle.rules.specs.Binary64.{0ᶠ}
use Rattle.rules.specs.Simplex.{first_of}
use Rattle.rules.specs.Trial.{trial}
use Rattle.rules.specs.View.{is_ended}
use Rattle.rules.specs.Calls.{undamaged, ask_verdict, tell_verdict, best_verdict, told_by, asking, telling, showing}
use Rattle.rules.specs.History.{Call, ask, tell, best, Event, told, after1, after, run, costs_in, joins, history1, history_from}
use Rattle.rules.specs.Claims.{IsBest}
use Rattle.rules.specs.declared.Vertex.{Vertex}
use Rattle.rules.specs.declared.Search.{Search}
use Rattle.rules.specs.declared.Asked.{Asked}
use Rattle.rules.proofs.Laws.Openings.{check_iff, answered_ok}
use Rattle.rules.proofs.Laws.Histories.{Joined, joined_snoc, readings_of, run_snoc}
use Rattle.rules.proofs.Runs.Sound.{never_damaged}
use Rattle.rules.proofs.Runs.Moments.{run_inside}
use Rattle.rules.proofs.Runs.Begun.{Begun, whole_run, run_readings, run_best, best_shape}

-- ---- answers by their verdict

pub told_verdict : (v : Verdict) (s : Search) (c : ℕ) → (told_by v s c).verdict ≡ v
told_verdict (Ok _) s c = refl
told_verdict (Err r) s c = refl

-- a refused tell returns the search as given
pub told_refused : (v : Verdict) (s : Search) (c : ℕ) → (v ≡ Ok tt → ⊥) → (told_by v s c).search ≡ s
told_refused (Ok _) s c h = absurd (h refl)
told_refused (Err r) s c h = refl

module _ (o : Search) (begun : Begun o) (h : List Event) (t : Joined o h) where
  -- refusal 12 is not given
  pub run_undamaged : undamaged (run o h) ≡ true
  run_undamaged = let r = whole_run o begun h t in never_damaged (readings_of o h) (run o h) r.inv r.below (run_inside o begun h t)

  -- ---- tell

  -- a tell is accepted exactly when the history says so
  tell_then_joins : (k c : ℕ) → tell_verdict (run o h) k c ≡ Ok tt → joins o h k c ≡ true
  unfolding tell_verdict
  tell_then_joins k c e =
      let n = run_readings o begun h t in
      grind (arith, nat_tests)

  joins_then_tell : (k c : ℕ) → joins o h k c ≡ true → tell_verdict (run o h) k c ≡ Ok tt
  unfolding tell_verdict
  joins_then_tell k c e =
      let n = run_readings o begun h t in
      grind (arith, nat_tests, run_undamaged)

  pub tell_joins : (k c : ℕ) → (tell_verdict (run o h) k c ≡ Ok tt) ↔ (joins o h k c ≡ true)
  tell_joins k c = (tell_then_joins k c, joins_then_tell k c)

  pub telling_joins : (k c : ℕ) → ((telling (run o h) k c).verdict ≡ Ok tt) ↔ (joins o h k c ≡ true)
  unfolding telling
  telling_joins k c = rw (told_verdict (tell_verdict (run o h) k c) (run o h) c) (tell_joins k c)

  -- ---- ask

  pub asking_answers : is_ended (run o h).phase ≡ false → asking (run o h) ≡ Ok (record { number = length (costs_in h) + 1; trial = trial (run o h) })
  unfolding asking ask_verdict
  asking_answers e = rw (run_undamaged, e, run_readings o begun h t)

  -- ask answers only where the search has not ended, and its trial is that of the rules
  pub asked_trial : (a : Asked) → asking (run o h) ≡ Ok a → (is_ended (run o h).phase ≡ false) × (a.trial ≡ trial (run o h))
  unfolding asking ask_verdict
  asked_trial a e =
      let p = answered_ok (ask_verdict (run o h)) (record { number = (run o h).readings + 1; trial = trial (run o h) }) a e in
      let q = simp check_iff at p.0 in
      (not-true (is_ended (run o h).phase) q.1.0, ap (λ (b : Asked). b.trial) p.1)

  -- ---- best

  pub showing_best : 0 < length (costs_in h) → (v : Vertex) × IsBest o h v × (showing (run o h) ≡ Ok v)
  unfolding showing best_verdict
  showing_best l =
      let b = (run o h).best in
      let shape : ◌≡◌ {A = Vertex} (record { point = first_of (run o h).setup.n 0ᶠ b.point; cost = b.cost; number = b.number }) b =
      λ i. record { point = best_shape o begun h t l i; cost = b.cost; number = b.number } in
      (b, run_best o begun h t l, rw (run_undamaged, ne_eqb (run o h).readings 0 (λ e. omega (arith, run_readings o begun h t)), shape) refl)

  -- ---- one call

  tell_joined : (k c : ℕ) → joins o h k c ≡ true → Joined o (h ++ told c ∷ [])
  tell_joined k c e =
      let p = simp and-eq-true_iff at e in
      joined_snoc o h (told c) t (not-true (is_ended (run o h).phase) p.0.0, grind (arith, nat_tests))

  -- the history after a call is accepted, and the search that the call returns is that of the rules over it
  abbrev Follows : Call → Type 0
  Follows c = Joined o (history1 o h c) × (after1 (run o h) c ≡ run o (history1 o h c))

  pub follows : (c : Call) → Follows c
  unfolding telling
  follows ask = (t, refl)
  follows best = (t, refl)
  follows (tell k c) =
      cond_both (joins o h k c) _ _ (λ (p : List Event). Joined o p × ((telling (run o h) k c).search ≡ run o p))
      (λ e. (tell_joined k c e, rw ((tell_joins k c).1 e) (sym (run_snoc o h (told c)))))
      (λ e. (t, told_refused (tell_verdict (run o h) k c) (run o h) c (λ a. true≢false (sym ((tell_joins k c).0 a) ∙ e))))

-- ---- a list of calls

pub all_follow : (o : Search) (begun : Begun o) (cs : List Call) (h : List Event) → Joined o h → Joined o (history_from o h cs) × (after (run o h) cs ≡ run o (history_from o h cs))
unfolding after history_from
all_follow o begun [] h t = (t, refl)
all_follow o begun (c ∷ cs) h t =
    let f = follows o begun h t c in
    let r = all_follow o begun cs (history1 o h c) f.0 in
    (r.0, ap (λ (s : Search). after s cs) f.1 ∙ r.1)
