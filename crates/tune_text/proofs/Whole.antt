-- The lines of the steps, put together, are the transcript of the input, and the steps end within its length and one. Assumes nothing.
use mathlib.Core.Path.{◌≡◌, refl, sym, ap, ◌∙◌}
use mathlib.Core.Bool.{true, false, true≢false}
use mathlib.Core.List.{List, [], ◌∷◌, ◌++◌, append-nil}
use Prim.Native.Nat.{ℕ, zero, suc, ◌+◌, ◌-◌, ◌≤◌, ◌<◌}
use native.Mathlib.Numerals.{add-one}
use native.Mathlib.Omega.{arith}
use lib.ListN.{length, take, drop, length-drop}
use lib.Seq.{drop-drop}
use lib.Dec.{leb}
use borrow.Author.Tests.{le-leb, leb-true, leb-false}
use Rattle.tune_text.specs.Scan.{index_of}
use Rattle.std.proofs.lemmas.Bool.{cond_both}
use Rattle.tune_text.specs.Fields.{newline, cut}
use Rattle.tune_text.specs.Lines.{bad_line}
use Rattle.tune_text.specs.Reading.{Turned, nothing_read, line_read, last_line, is_over, is_done}
use Rattle.tune_text.specs.Transcript.{longest, stopped, lines_from, transcript}
use Rattle.tune_text.specs.Steps.{Stepped, first_state, line_after, last_step, passed, stepping, state_after, printed, steps_left}
use Rattle.tune_text.specs.declared.Progress.{Progress}
use Rattle.tune_text.specs.declared.State.{State}
use Rattle.tune_text.proofs.Laws.Cutting.{cut_line, cut_last, cut_some}
use Rattle.tune_text.proofs.Laws.Running.{step_cases, some_left, few_left, left_done, left_less, printed_done, printed_join}

-- ---- the end

-- all is done after as many steps as are left
done_after : (k : ℕ) (bytes : List ℕ) (s : State) → steps_left bytes s ≤ k → is_done (state_after k bytes s).progress.stage ≡ true
unfolding state_after
done_after zero bytes s h = left_done bytes s h
done_after (suc k) bytes s h = done_after k bytes (stepping bytes s).state (omega (arith, left_less bytes s))

-- the steps end within the input's length and one
pub ends : (bytes : List ℕ) (k : ℕ) → length bytes < k → is_done (state_after k bytes first_state).progress.stage ≡ true
unfolding first_state nothing_read
ends bytes k h = done_after k bytes first_state (omega arith)

-- ---- the lines that are printed from a line on

-- nothing is printed once all is done
from_done : (p : Progress) (i : ℕ) (lines : List (List ℕ)) → is_done p.stage ≡ true → lines_from p i lines ≡ []
unfolding lines_from
from_done p i [] d = refl
from_done p i (x ∷ []) d = rw d
from_done p i (x ∷ (y ∷ ys)) d = rw d

-- once a search has ended, its last line alone is printed
from_over : (p : Progress) (i : ℕ) (lines : List (List ℕ)) → 0 < length lines → is_done p.stage ≡ false → is_over p.stage p.search ≡ true
    → lines_from p i lines ≡ last_line p.stage p.search
unfolding lines_from
from_over p i [] h d o = absurd (omega arith)
from_over p i (x ∷ []) h d o = rw (d, o)
from_over p i (x ∷ (y ∷ ys)) h d o = rw (d, o)

-- a whole line prints the line of its turn, and what follows prints after it
from_line : (p : Progress) (i : ℕ) (line : List ℕ) (rest : List (List ℕ)) → 0 < length rest → is_done p.stage ≡ false → is_over p.stage p.search ≡ false
    → lines_from p i (line ∷ rest) ≡ (line_read p.stage p i line).line ++ lines_from (line_read p.stage p i line).progress (suc i) rest
unfolding lines_from
from_line p i line [] h d o = absurd (omega arith)
from_line p i line (y ∷ ys) h d o = rw (d, o)

-- what stands after the last newline prints its `stopped` line
from_last : (p : Progress) (i : ℕ) (line : List ℕ) → is_done p.stage ≡ false → is_over p.stage p.search ≡ false
    → lines_from p i (line ∷ []) ≡ stopped p i line
unfolding lines_from
from_last p i line d o = rw (d, o)

-- ---- the steps from any state

-- a step that prints a last line is the last that prints
alone : (k : ℕ) (bytes : List ℕ) (s : State) (line : List ℕ) → line ++ printed k bytes (last_step s line).state ≡ line
alone k bytes s line = rw (printed_done k bytes (last_step s line).state refl, append-nil)

-- the line after a line of an input that is read
line_after_lem : (i : ℕ) → i ≤ longest → line_after i ≡ suc i
line_after_lem i h = rw (le-leb i longest h) (add-one i)

-- what is left after a line of j bytes
left_after : (n j : ℕ) (bytes : List ℕ) → drop (suc j) (drop n bytes) ≡ drop (n + j + 1) bytes
left_after n j bytes =
    let e : n + suc j ≡ n + j + 1 = omega arith in
    rw (drop-drop, e)

-- the steps that are left print the lines from the state's line on
rest : (k : ℕ) (bytes : List ℕ) (s : State) → length bytes ≤ longest → s.line ≤ s.position + 1 → steps_left bytes s ≤ k
    → printed k bytes s ≡ lines_from s.progress s.line (cut newline (drop s.position bytes))
unfolding printed
rest zero bytes s f g h = rw (from_done s.progress s.line (cut newline (drop s.position bytes)) (left_done bytes s h))
rest (suc k) bytes s f g h =
    let left : List ℕ = drop s.position bytes in
    let j : ℕ = index_of newline left in
    let line : List ℕ = take j left in
    let t : Turned = line_read s.progress.stage s.progress s.line line in
    let lines : List (List ℕ) = cut newline left in
    step_cases bytes s (λ (r : Stepped). r.line ++ printed k bytes r.state ≡ lines_from s.progress s.line lines)
    (λ d. rw (printed_done k bytes s d, from_done s.progress s.line lines d))
    (λ d l. absurd (omega arith))
    (λ d l o.
    rw (from_over s.progress s.line lines (cut_some newline left) d o) (alone k bytes s (last_line s.progress.stage s.progress.search)))
    (λ d l o e.
    let fewer : j < length bytes - s.position = rw length-drop at e in
    let more : line_after s.line ≡ suc s.line = line_after_lem s.line (omega arith) in
    let few = few_left bytes (passed s j t).state in
    rw (rest k bytes (passed s j t).state f (rw more (omega arith)) (omega (arith, some_left bytes s d)), more)
    (rw (cut_line newline left e, from_line s.progress s.line line (cut newline (drop (suc j) left)) (cut_some newline (drop (suc j) left)) d o, left_after s.position j bytes)))
    (λ d l o e. rw (cut_last newline left e, from_last s.progress s.line left d o) (alone k bytes s (stopped s.progress s.line left)))

-- a long input prints `bad 0` alone
long : (k : ℕ) (bytes : List ℕ) (s : State) → is_done s.progress.stage ≡ false → longest < length bytes → printed (suc k) bytes s ≡ bad_line 0
unfolding printed
long k bytes s d h =
    step_cases bytes s (λ (r : Stepped). r.line ++ printed k bytes r.state ≡ bad_line 0)
    (λ e. absurd (true≢false (sym e ∙ d)))
    (λ e l. alone k bytes s (bad_line 0))
    (λ e l. absurd (omega arith))
    (λ e l. absurd (omega arith))
    (λ e l. absurd (omega arith))

-- the lines of the steps, put together, are the transcript of the input
pub whole : (bytes : List ℕ) (k : ℕ) → length bytes < k → printed k bytes first_state ≡ transcript bytes
unfolding first_state nothing_read transcript
whole bytes zero h = absurd (omega arith)
whole bytes (suc k) h =
    cond_both (leb (length bytes) longest) _ _ (λ (lines : List ℕ). printed (suc k) bytes first_state ≡ lines)
    (λ e. rest (suc k) bytes first_state (leb-true (length bytes) longest e) (omega arith) (omega arith))
    (λ e. long k bytes first_state refl (leb-false (length bytes) longest e))

-- the lines of any run of steps after which all is done, put together, are the transcript of the input, however many steps they are
pub whole_at_end :
    (bytes : List ℕ) (k : ℕ) → is_done (state_after k bytes first_state).progress.stage ≡ true → printed k bytes first_state ≡ transcript bytes
whole_at_end bytes k d =
    let more : ℕ = suc (length bytes) in
    let all : printed (k + more) bytes first_state ≡ transcript bytes = whole bytes (k + more) (omega arith) in
    sym (append-nil (printed k bytes first_state))
    ∙ ap (λ (l : List ℕ). printed k bytes first_state ++ l) (sym (printed_done more bytes (state_after k bytes first_state) d))
    ∙ sym (printed_join k more bytes first_state)
    ∙ all
