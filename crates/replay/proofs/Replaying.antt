-- A recording's lines: their marks and numbers, the answers that are collected, and the comparison.
use Prim.Native.Nat.{ℕ, zero, suc, ◌+◌, ◌-◌, ◌≤◌, ◌<◌}
use native.Mathlib.Nat.{not-suc-le-zero}
use native.Mathlib.Omega.{arith}
use mathlib.Core.Bool.{Bool, true, false}
use mathlib.Core.List.{List, [], ◌∷◌, ◌++◌}
use mathlib.Core.Path.{◌≡◌, refl, ap, sym, ◌∙◌}
use lib.Dec.{eqb, ltb}
use lib.ListN.{length, take, drop, get_or, length-append, length-drop}
use lib.Seq.{take_all, take-append_seam}
use borrow.Author.Tests.{eq-eqb, eqb-false, eqb-true, le-leb, ltb-false, ltb-true, ne_eqb}
use Rattle.std.specs.Prelude.{Option, Some, None, cond}
use Rattle.head_count.specs.Counters.{up}
use Rattle.pending.proofs.LineFeeds.{through_some}
use Rattle.pending.specs.Kept.{Keeps, through_line_feed}
use Rattle.script.specs.Feeds.{Finishes, last_prints, lent, reading}
use Rattle.script.specs.Parts.{Prints, at_front}
use Rattle.text.specs.Places.{number_from, with_place}
use Rattle.text.specs.Rests.{Rest, word_here, number_got, read_number}
use Rattle.text.specs.Writes.{Wrote}
use Rattle.text.proofs.Writes.{sets_front, then}
use Rattle.head_driver.specs.declared.Driver.{Driver}
use Rattle.pending.specs.declared.Kept.{Kept}
use Rattle.script.specs.declared.Printed.{Printed}
use Rattle.replay.specs.Numbers.{struck}
use Rattle.replay.specs.Recordings.{Collects, Counts, TakesAnswer, TakesRecord, after_answer, after_call, at_run, begun, call_compared, compared, fresh, mark_of, number_of, recorded, run_begun, same_front}
use Rattle.replay.specs.declared.Replay.{Replay}
use Rattle.replay.specs.declared.Standing.{Standing}
use Rattle.replay.specs.declared.Tally.{Tally}

-- ---- the mark and the number

pub mark_none : (l : List ℕ) (held : ℕ) → held ≡ 0 → 0 ≡ mark_of l held
unfolding mark_of
mark_none [] held e = refl
mark_none (b ∷ l) held e = rw (eq-eqb held 0 e)

pub mark_empty : (l : List ℕ) (held : ℕ) → length l ≡ 0 → 0 ≡ mark_of l held
unfolding mark_of
mark_empty [] held e = refl
mark_empty (b ∷ l) held e = let z : 1 ≤ 0 = omega arith in absurd (not-suc-le-zero z)

pub mark_first : (l : List ℕ) (held : ℕ) → (held ≡ 0 → ⊥) → (length l ≡ 0 → ⊥) → get_or l 0 0 ≡ mark_of l held
unfolding mark_of
mark_first [] held ne nl = absurd (nl refl)
mark_first (b ∷ l) held ne nl = rw (ne_eqb held 0 ne)

-- a line that is marked has a byte
pub marked_line : (l : List ℕ) (held k : ℕ) → k ≡ mark_of l held → k ≡ 62 → 1 ≤ length l
unfolding mark_of
marked_line [] held k e is = let z : 1 ≤ 0 = omega arith in absurd (not-suc-le-zero z)
marked_line (b ∷ l) held k e is = omega arith

pub marked_held : (l : List ℕ) (held k : ℕ) → k ≡ mark_of l held → k ≡ 62 → 1 ≤ held
unfolding mark_of
marked_held [] held k e is = let z : 1 ≤ 0 = omega arith in absurd (not-suc-le-zero z)
marked_held (b ∷ l) zero k e is = let z : 1 ≤ 0 = omega arith in absurd (not-suc-le-zero z)
marked_held (b ∷ l) (suc held) k e is = omega arith

abbrev value_or_zero : Option (ℕ × ℕ) → ℕ
value_or_zero None = 0
value_or_zero (Some x) = x.0

number_value : (m : Option ℕ) (i : ℕ) (next : Rest) → value_or_zero (with_place m i) ≡ (number_got m next).value
unfolding with_place number_got
number_value (Some n) i next = refl
number_value None i next = refl

module _ (line : List ℕ) (held : ℕ) (q : Option (ℕ × ℕ)) (h : held ≤ length line) (e : q ≡ number_from (take held line) (Some 1)) where
  value_read : value_or_zero q ≡ number_of line held
  unfolding number_of number_from read_number word_here
  value_read = rw (e, le-leb held (length line) h) (number_value _ _ _)

  pub number_read : (n j : ℕ) → q ≡ Some (n, j) → n ≡ number_of line held
  number_read n j f = ap value_or_zero (sym f) ∙ value_read

  pub number_missing : q ≡ None → 0 ≡ number_of line held
  number_missing f = ap value_or_zero (sym f) ∙ value_read

-- ---- the answer that is collected

pub no_room : (wanted : ℕ) (line old : List ℕ) → length old ≤ wanted + length line → Collects wanted line old old wanted
no_room wanted line old h = record {
  put = λ k. let z : 1 ≤ 0 = omega arith in absurd (not-suc-le-zero z);
  full = λ k. refl;
  stays = λ k. refl;
}

pub with_room : (wanted : ℕ) (line old mid new : List ℕ) (at r : ℕ) → wanted + length line < length old
    → Wrote old mid wanted at line → Wrote mid new at r (10 ∷ []) → Collects wanted line old new r
with_room wanted line old mid new at r room p q = record {
  put = λ k. then p q;
  full = λ k. let z : 1 ≤ 0 = omega arith in absurd (not-suc-le-zero z);
  stays = λ k. let z : 1 ≤ 0 = omega arith in absurd (not-suc-le-zero z);
}

-- ---- the comparison

-- a text at the front of a buffer is compared as it is
front_compared : (want : List ℕ) (m : ℕ) (text rest : List ℕ) → same_front want m (text ++ rest) (length text) ≡ recorded want m text
unfolding same_front recorded
front_compared want m text rest =
    let l = length-append text rest in
    rw (le-leb (length text) (length (text ++ rest)) (omega arith), take-append_seam text rest)

-- so is one that is put at the front of it
put_compared : (want : List ℕ) (m : ℕ) (text old new : List ℕ) (n : ℕ) → Wrote old new 0 n text → n ≤ length old
    → same_front want m new n ≡ recorded want m text
put_compared want m text old new n w h =
    let a = w.after in
    let k : n ≡ length text = omega arith in
    rw (w.bytes, k, sets_front old text (omega arith)) (front_compared want m text (drop (length text) old))

module _ (text : List ℕ) (left : Driver) (old new : List ℕ) (p : Printed) (prints : Prints text left old new p) where
  -- what is printed stands at the front
  printed_text : take p.written new ≡ text
  unfolding at_front
  printed_text = rw (prints.bytes, prints.count) (take-append_seam text (drop (length text) old))

  pub printed_within : p.written ≤ length new
  unfolding at_front
  printed_within =
      let l = length-append text (drop (length text) old) in
      let b = ap length prints.bytes in
      let c = prints.count in
      omega arith

pub compares : (d : Driver) (s : Standing) (call : List ℕ) (held : ℕ) (want old new : List ℕ) (p : Printed) (bare bare' : List ℕ) (n : ℕ)
    (equal : Bool) (after : Standing) → Finishes (reading d call held) old new p → Wrote bare bare' 0 n (struck (take p.written new)) → n ≤ length bare
    → equal ≡ same_front want s.wanted bare' n
    → after ≡ after_call s equal → record { driver = p.driver; standing = after } ≡ call_compared d s call held want old
unfolding call_compared
compares d s call held want old new p bare bare' n equal after finishes w fits e is =
    let text = printed_text _ _ old new p finishes in
    let same : equal ≡ recorded want s.wanted (struck (cond (lent (reading d call held) old) (last_prints (reading d call held)) [])) =
    (e ∙ put_compared want s.wanted _ bare bare' n w fits ∙ ap (λ (t : List ℕ). recorded want s.wanted (struck t)) text) in
    rw (is, same, finishes.driver)

-- ---- one line

no : {A : Type 0} → 1 ≤ 0 → A
no z = absurd (not-suc-le-zero z)

module _ (mark wanted : ℕ) (line : List ℕ) (held : ℕ) (old : List ℕ) where
  pub not_answer : (mark ≡ 60 → ⊥) → TakesAnswer mark wanted line held old old wanted
  not_answer ne = record { collects = λ e. absurd (ne e); keeps = λ n. refl; stays = λ n. refl }

  pub none_held : mark ≡ 60 → held ≡ 0 → TakesAnswer mark wanted line held old old wanted
  none_held is z = record { collects = λ e h. no (omega arith); keeps = λ n. refl; stays = λ n. refl }

  pub not_there : length line < held → TakesAnswer mark wanted line held old old wanted
  not_there l = record { collects = λ e h k. no (omega arith); keeps = λ n. refl; stays = λ n. refl }

  pub is_answer : mark ≡ 60 → (new : List ℕ) (r : ℕ) → Collects wanted (take (held - 1) (drop 1 line)) old new r → TakesAnswer mark wanted line held old new r
  is_answer is new r c = record { collects = λ e h k. c; keeps = λ n. absurd (n is); stays = λ n. absurd (n is) }

module _ (d : Driver) (s : Standing) (line want out : List ℕ) (kind : ℕ) (e : kind ≡ mark_of line s.held) where
  -- what follows the mark is all that follows
  behind : 1 ≤ length line → take (length line - 1) (drop 1 line) ≡ drop 1 line
  behind h = take_all (length line - 1) (drop 1 line) (rw length-drop (omega arith))

  pub taken_call : kind ≡ 62 → 1 ≤ length line → (r : Replay) → r ≡ call_compared d s (take (length line - 1) (drop 1 line)) (s.held - 1) want out
      → TakesRecord d s line want want out r
  taken_call is h r told = record {
    call = λ k. rw (behind h) at told;
    run = λ k. no (omega arith);
    other = λ n m. absurd (n (omega arith));
    answer = λ k. no (omega arith);
  }

  pub taken_run : kind ≡ 35 → (n : ℕ) → n ≡ number_of line s.held → (r : Replay) → r ≡ run_begun s n → TakesRecord d s line want want out r
  taken_run is n is_n r told = record {
    call = λ k. no (omega arith);
    run = λ k. told ∙ ap (run_begun s) is_n;
    other = λ p q. absurd (q (omega arith));
    answer = λ k. no (omega arith);
  }

  pub taken_other : (kind ≡ 62 → ⊥) → (kind ≡ 35 → ⊥) → (want' : List ℕ) (wanted : ℕ) (after : Standing) → TakesAnswer kind s.wanted line s.held want want' wanted
      → after ≡ after_answer s wanted → TakesRecord d s line want want' out (record { driver = d; standing = after })
  unfolding after_answer
  taken_other n m want' wanted after takes is = rw is (record {
    call = λ k. absurd (n (omega arith));
    run = λ k. absurd (m (omega arith));
    other = λ p q. refl;
    answer = λ k. rw (e ∙ k) at takes;
  })

-- ---- how the counts move

up_more : (n : ℕ) → n ≤ up n
unfolding up
up_more n = go (ltb n 0xffff_ffff_ffff_ffff)
  where
    go : (b : Bool) → n ≤ cond b (n + 1) n
    go true = omega arith
    go false = omega arith

up_keeps : (m n : ℕ) → m ≤ n → up m ≤ up n
unfolding up
up_keeps m n h = go (ltb m 0xffff_ffff_ffff_ffff) (ltb n 0xffff_ffff_ffff_ffff) refl refl
  where
    go : (b c : Bool) → ltb m 0xffff_ffff_ffff_ffff ≡ b → ltb n 0xffff_ffff_ffff_ffff ≡ c → cond b (m + 1) m ≤ cond c (n + 1) n
    go true true p q = omega arith
    go true false p q = let x = ltb-true m 0xffff_ffff_ffff_ffff p in let y = ltb-false n 0xffff_ffff_ffff_ffff q in omega arith
    go false true p q = omega arith
    go false false p q = h

counts_begun : (t : Tally) → Counts t (begun t)
unfolding begun
counts_begun t = record { runs = up_more t.runs; answers = omega arith; differences = omega arith; fewer = λ h. h }

counts_compared : (t : Tally) (equal : Bool) → Counts t (compared t equal)
unfolding compared
counts_compared t true = let a = up_more t.answers in record { runs = omega arith; answers = a; differences = omega arith; fewer = λ h. omega arith }
counts_compared t false = record { runs = omega arith; answers = up_more t.answers; differences = up_more t.differences; fewer = up_keeps t.differences t.answers }

pub counts_none : (t : Tally) → Counts t t
counts_none t = record { runs = omega arith; answers = omega arith; differences = omega arith; fewer = λ h. h }

counts_then : (t u v : Tally) → Counts t u → Counts u v → Counts t v
counts_then t u v p q =
    let p1 = p.runs in let p2 = p.answers in let p3 = p.differences in
    let q1 = q.runs in let q2 = q.answers in let q3 = q.differences in
    record { runs = omega arith; answers = omega arith; differences = omega arith; fewer = λ h. q.fewer (p.fewer h) }

record_counts : (d : Driver) (s : Standing) (line want want' out : List ℕ) (r : Replay) → TakesRecord d s line want want' out r → Counts s.tally r.standing.tally
unfolding after_answer after_call at_run call_compared run_begun
record_counts d s line want want' out r takes = go (eqb (mark_of line s.held) 62) (eqb (mark_of line s.held) 35) refl refl
  where
    tallies : (x : Replay) → r ≡ x → Counts s.tally x.standing.tally → Counts s.tally r.standing.tally
    tallies x e c = rw e c

    go : (b c : Bool) → eqb (mark_of line s.held) 62 ≡ b → eqb (mark_of line s.held) 35 ≡ c → Counts s.tally r.standing.tally
    go true c p q = tallies _ (takes.call (eqb-true _ _ p)) (counts_compared _ _)
    go false true p q = tallies _ (takes.run (eqb-true _ _ q)) (counts_begun _)
    go false false p q = tallies _ (takes.other (eqb-false _ _ p) (eqb-false _ _ q)) (counts_none _)

-- the loop: a line's record follows what was counted before
pub record_follows : (t : Tally) (d : Driver) (s : Standing) (line want want' out : List ℕ) (r : Replay) → Counts t s.tally → TakesRecord d s line want want' out r
    → Counts t r.standing.tally
record_follows t d s line want want' out r p takes = counts_then _ _ _ p (record_counts d s line want want' out r takes)

-- each turn takes a byte at least
pub less_left : (old : List ℕ) (held : ℕ) (new input : List ℕ) (at : ℕ) (r : Kept) → Keeps old held new input at r → at < length input → length input - r.at < length input - at
less_left old held new input at r keeps h =
    let l = length-drop at input in
    let s : 0 < length (through_line_feed (drop at input)) = through_some (drop at input) (omega arith) in
    let p = keeps.place in
    omega arith

pub fresh_fewer : (r : Replay) → r ≡ fresh → r.standing.tally.differences ≤ r.standing.tally.answers
unfolding fresh
fresh_fewer r e = rw e (omega arith)
