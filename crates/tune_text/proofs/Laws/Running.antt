-- Laws on steps: the cases of a step, what is left after it, and what a run of steps prints. Assumes nothing.
use mathlib.Core.Path.{◌≡◌, refl, sym, ◌∙◌}
use mathlib.Core.Bool.{Bool, true, false, cond, true≢false}
use mathlib.Core.List.{List, [], ◌++◌, append-nil, append_assoc}
use Prim.Native.Nat.{ℕ, zero, suc, ◌+◌, ◌-◌, ◌≤◌, ◌<◌}
use native.Mathlib.Nat.{zero-add, suc-add}
use native.Mathlib.Omega.{arith}
use lib.ListN.{length, take, drop, length-drop}
use lib.Dec.{leb, ltb}
use borrow.Author.Tests.{ltb-true, ltb-false, leb-true, leb-false}
use Rattle.tune_text.specs.Scan.{index_of}
use Rattle.std.proofs.lemmas.Bool.{cond_both}
use Rattle.tune_text.specs.Fields.{newline}
use Rattle.tune_text.specs.Lines.{bad_line}
use Rattle.tune_text.specs.Reading.{line_read, last_line, is_over, is_done}
use Rattle.tune_text.specs.Transcript.{longest, stopped}
use Rattle.tune_text.specs.Steps.{Stepped, last_step, passed, line_step, stepping, state_after, printed, steps_left}
use Rattle.tune_text.specs.declared.State.{State}

-- what is left of the input
abbrev left : List ℕ → State → List ℕ
left bytes s = drop s.position bytes

-- how many bytes of what is left of the input stand before its first newline
abbrev line_end : List ℕ → State → ℕ
line_end bytes s = index_of newline (left bytes s)

-- what holds in every case of a step holds of it
pub step_cases : (bytes : List ℕ) (s : State) (P : Stepped → Type 0)
    → (is_done s.progress.stage ≡ true → P (record { state = s; line = [] }))
    → (is_done s.progress.stage ≡ false → longest < length bytes → P (last_step s (bad_line 0)))
    → (is_done s.progress.stage ≡ false → length bytes ≤ longest → is_over s.progress.stage s.progress.search ≡ true
    → P (last_step s (last_line s.progress.stage s.progress.search)))
    → (is_done s.progress.stage ≡ false → length bytes ≤ longest → is_over s.progress.stage s.progress.search ≡ false
    → line_end bytes s < length (left bytes s)
    → P (passed s (line_end bytes s) (line_read s.progress.stage s.progress s.line (take (line_end bytes s) (left bytes s)))))
    → (is_done s.progress.stage ≡ false → length bytes ≤ longest → is_over s.progress.stage s.progress.search ≡ false
    → length (left bytes s) ≤ line_end bytes s
    → P (last_step s (stopped s.progress s.line (left bytes s))))
    → P (stepping bytes s)
unfolding stepping line_step
step_cases bytes s P done long over line last =
    cond_both (is_done s.progress.stage) _ _ P done
    (λ d. cond_both (leb (length bytes) longest) _ _ P
    (λ e. cond_both (is_over s.progress.stage s.progress.search) _ _ P (over d (leb-true _ _ e))
    (λ o. cond_both (ltb (line_end bytes s) (length (left bytes s))) _ _ P
    (λ l. line d (leb-true _ _ e) o (ltb-true _ _ l)) (λ l. last d (leb-true _ _ e) o (ltb-false _ _ l))))
    (λ e. long d (leb-false _ _ e)))

-- a step once all is done prints nothing and changes nothing
pub step_done : (bytes : List ℕ) (s : State) → is_done s.progress.stage ≡ true → stepping bytes s ≡ record { state = s; line = [] }
unfolding stepping
step_done bytes s d = rw d

-- ---- what is left to do

-- no step is left once all is done
none_left : (bytes : List ℕ) (s : State) → is_done s.progress.stage ≡ true → steps_left bytes s ≡ 0
none_left bytes s d = rw d

-- before all is done, `steps_left` is one more than the bytes that are left
pub some_left : (bytes : List ℕ) (s : State) → is_done s.progress.stage ≡ false → steps_left bytes s ≡ suc (length bytes - s.position)
some_left bytes s d = rw d

-- `steps_left` is at most one more than the bytes that are left
pub few_left : (bytes : List ℕ) (s : State) → steps_left bytes s ≤ suc (length bytes - s.position)
few_left bytes s = cond_both (is_done s.progress.stage) _ _ (λ (n : ℕ). n ≤ suc (length bytes - s.position)) (λ e. omega arith) (λ e. omega arith)

-- where no step is left, all is done
pub left_done : (bytes : List ℕ) (s : State) → steps_left bytes s ≤ 0 → is_done s.progress.stage ≡ true
left_done bytes s = done (is_done s.progress.stage)
  where
    done : (b : Bool) → cond b 0 (suc (length bytes - s.position)) ≤ 0 → b ≡ true
    done true h = refl
    done false h = absurd (omega arith)

-- each step before all is done makes `steps_left` less
pub falls : (bytes : List ℕ) (s : State) → is_done s.progress.stage ≡ false → steps_left bytes (stepping bytes s).state < steps_left bytes s
falls bytes s d =
    rw (some_left bytes s d)
    (step_cases bytes s (λ (r : Stepped). steps_left bytes r.state < suc (length bytes - s.position))
    (λ e. absurd (true≢false (sym e ∙ d)))
    (λ e l. omega arith)
    (λ e l o. omega arith)
    (λ e l o h.
    let fewer : line_end bytes s < length bytes - s.position = rw length-drop at h in
    let few = few_left bytes (passed s (line_end bytes s) (line_read s.progress.stage s.progress s.line (take (line_end bytes s) (left bytes s)))).state in
    omega arith)
    (λ e l o h. omega arith))

-- a step leaves one step less, or none
pub left_less : (bytes : List ℕ) (s : State) → steps_left bytes (stepping bytes s).state ≤ steps_left bytes s - 1
left_less bytes s = less (is_done s.progress.stage) refl
  where
    less : (b : Bool) → is_done s.progress.stage ≡ b → steps_left bytes (stepping bytes s).state ≤ steps_left bytes s - 1
    less true d = rw (step_done bytes s d) (omega (arith, none_left bytes s d))
    less false d = omega (arith, falls bytes s d)

-- ---- a run of steps

-- once all is done nothing is printed
pub printed_done : (k : ℕ) (bytes : List ℕ) (s : State) → is_done s.progress.stage ≡ true → printed k bytes s ≡ []
unfolding printed
printed_done zero bytes s d = refl
printed_done (suc k) bytes s d = rw (step_done bytes s d) (printed_done k bytes s d)

-- the state after k + 1 steps is that of one step from the state after k
pub state_after_more : (k : ℕ) (bytes : List ℕ) (s : State) → state_after (suc k) bytes s ≡ (stepping bytes (state_after k bytes s)).state
unfolding state_after
state_after_more zero bytes s = refl
state_after_more (suc k) bytes s = state_after_more k bytes (stepping bytes s).state

-- the lines of k + 1 steps are those of k steps and the line of the last
pub printed_more : (k : ℕ) (bytes : List ℕ) (s : State)
    → printed (suc k) bytes s ≡ printed k bytes s ++ (stepping bytes (state_after k bytes s)).line
unfolding state_after printed
printed_more zero bytes s = append-nil _
printed_more (suc k) bytes s = rw (printed_more k bytes (stepping bytes s).state) (simp append_assoc)

-- the lines of i + j steps are those of the first i steps and those of the j steps after them
pub printed_join : (i j : ℕ) (bytes : List ℕ) (s : State) → printed (i + j) bytes s ≡ printed i bytes s ++ printed j bytes (state_after i bytes s)
unfolding state_after printed
printed_join zero j bytes s = rw zero-add
printed_join (suc i) j bytes s = rw suc-add (rw (printed_join i j bytes (stepping bytes s).state) (simp append_assoc))
