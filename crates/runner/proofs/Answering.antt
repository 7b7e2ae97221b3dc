-- The loop over what a read brought.
use Prim.Native.Nat.{ℕ, zero, suc, ◌+◌, ◌-◌, ◌^◌, ◌≤◌, ◌<◌}
use native.Mathlib.Nat.{not-suc-le-zero}
use native.Mathlib.Omega.{arith}
use mathlib.Core.List.{List, [], ◌++◌, append_assoc, append-nil}
use mathlib.Core.Path.{◌≡◌, refl, ap, sym, subst, ◌∙◌}
use lib.ListN.{length, take, drop, length-drop}
use lib.Seq.{sets-eq, take-add, take_all}
use Rattle.std.proofs.lemmas.Bool.{le-leb}
use Rattle.runner.proofs.Wholes.{consumes_both}
use mathlib.Core.Bool.{true, false}
use mir.Syntax.{w64}
use mir.Val.{Fits}
use Rattle.script.proofs.Cuttings.{prints_append, sound_taken, taken_append, whole, whole_answered}
use Rattle.script.specs.Feeds.{Finishes, Reading, TakesSome, all_prints, all_taken, last_prints, lent, reading, usable}
use Rattle.script.specs.Scripts.{answered, lines}
use Rattle.pending.proofs.Held.{Sound}
use Rattle.script.specs.Parts.{Prints, at_front}
use Rattle.script.specs.declared.Printed.{Printed}
use Rattle.std.specs.Io.KnownBytes.{Appends, Consumes, IsAtEnd}
use Rattle.alike.proofs.Tests.{true_false}
use Rattle.std.specs.Prelude.{Option, None, Some, Ok, Err, OnOk}
use Rattle.std.specs.Result.{is_err, is_ok}
use Rattle.std.specs.declared.result.Result.{Result}
use Rattle.std.proofs.Math.Seq.{take-append_seam}
use Rattle.script.specs.declared.Fed.{Fed}
use Rattle.head_driver.specs.declared.Driver.{Driver}
use Rattle.runner.specs.Reads.{AnswersAll, AnswersInput, AnswersLast, AnswersSome}

no : {A : Type 0} → 1 ≤ 0 → A
no z = absurd (not-suc-le-zero z)

positive : (n : ℕ) → (n ≡ 0 → ⊥) → 0 < n
positive zero ne = absurd (ne refl)
positive (suc n) ne = omega arith

-- ---- what is written

appends_nothing : (c : Option (List ℕ)) → Appends c c []
appends_nothing None = tt
appends_nothing (Some xs) = sym (append-nil xs)

appends_both : (a b c : Option (List ℕ)) (xs ys : List ℕ) → Appends a b xs → Appends b c ys → Appends a c (xs ++ ys)
appends_both None b c xs ys p q = tt
appends_both (Some old) None c xs ys p q = absurd p
appends_both (Some old) (Some next) None xs ys p q = absurd q
appends_both (Some old) (Some next) (Some new) xs ys p q = q ∙ ap (λ t. t ++ ys) p ∙ append_assoc old xs ys

pub not_err : {T E : Type 0} (r : Result T E) (p : Type 0) → is_err r ≡ false → OnOk r p → p
not_err (Ok v) p e h = h
not_err (Err v) p e h = true_false refl e

pub ok : {T E : Type 0} (r : Result T E) (p : Type 0) → is_ok r ≡ true → OnOk r p → p
ok (Ok v) p e h = h
ok (Err v) p e h = true_false e refl

-- ---- one part of what a read brought

-- what stands at the front of the buffer is what the part prints
fed_text : (s t : Reading) (input old new : List ℕ) (r : Fed) → TakesSome s t input old new r
    → take r.written new ≡ all_prints s (take r.taken input)
fed_text s t input old new r takes =
    let w = takes.feeds.writes in
    let text = all_prints s (take r.taken input) in
    let n : r.written ≡ length text = omega (arith, w.after) in
    let h : 0 + length text ≤ length old = omega (arith, n, takes.fits) in
    ap (λ k. take k new) n ∙ ap (take (length text)) (w.bytes ∙ sets-eq text old 0 h) ∙ take-append_seam text (drop (0 + length text) old)

pub written : (s t : Reading) (input old new : List ℕ) (r : Fed) (c c' : Option (List ℕ))
    → TakesSome s t input old new r → Appends c c' (take r.written new) → AnswersSome s t input r.taken c c'
written s t input old new r c c' takes a = record {
  within = takes.within;
  stands = λ h. takes.feeds.stands;
  writes = λ h. subst (Appends c c') (fed_text s t input old new r takes) a;
}

pub not_written : (s t : Reading) (input : List ℕ) (c c' : Option (List ℕ)) → AnswersSome s t input 0 c c'
not_written s t input c c' = record {
  within = omega arith;
  stands = λ h. absurd (not-suc-le-zero h);
  writes = λ h. absurd (not-suc-le-zero h);
}

-- ---- all of what a read brought

module _ (d : Driver) (pending₀ : List ℕ) (held : ℕ) (input : List ℕ) (c₀ : Option (List ℕ)) where
  -- what holds after each part: the reading stands where the bytes before `at` have brought it
  pub record Going (pending : List ℕ) (fed : Fed) (at : ℕ) (c : Option (List ℕ)) : Type 0 where
    pub kept : length pending ≡ length pending₀
    pub within : at ≤ length input
    pub stands : reading fed.driver pending fed.held ≡ all_taken (reading d pending₀ held) (take at input)
    pub writes : Appends c₀ c (all_prints (reading d pending₀ held) (take at input))

  pub going_first : Going pending₀ (record { driver = d; held = held; taken = 0; written = 0 }) 0 c₀
  unfolding all_taken all_prints
  going_first = record { kept = refl; within = omega arith; stands = refl; writes = appends_nothing c₀ }

  pub stopped : (t : Reading) (at taken : ℕ) (c : Option (List ℕ)) → at < length input → taken ≡ 0
      → AnswersAll (reading d pending₀ held) t input taken c₀ c
  stopped t at taken c h z = record { whole = λ p. no (omega arith); stands = λ e. no (omega arith); writes = λ e. no (omega arith) }

  module _ (pending : List ℕ) (fed : Fed) (at : ℕ) (c : Option (List ℕ)) (g : Going pending fed at c) where
    pub all_answered : length input ≤ at → AnswersAll (reading d pending₀ held) (reading fed.driver pending fed.held) input at c₀ c
    all_answered h = let i = g.within in record {
      whole = λ p. omega arith;
      stands = λ e. g.stands ∙ ap (all_taken (reading d pending₀ held)) (take_all at input h);
      writes = λ e. subst (λ (x : List ℕ). Appends c₀ c (all_prints (reading d pending₀ held) x)) (take_all at input h) g.writes;
    }

    -- what is left of the input is all that follows
    rest_is : take (length input - at) (drop at input) ≡ drop at input
    rest_is = take_all (length input - at) (drop at input) (rw length-drop (omega arith))

    module _ (pending' : List ℕ) (r : Fed) (c' : Option (List ℕ))
        (some : AnswersSome (reading fed.driver pending fed.held) (reading r.driver pending' r.held)
        (take (length input - at) (drop at input)) r.taken c c') where
      pub place_within : at + r.taken ≤ length input
      place_within =
          let w : r.taken ≤ length (drop at input) = (rw rest_is at some.within) in
          let l = length-drop at input in
          let i = g.within in
          omega arith

      pub place_fits : length input < 2 ^ 64 → Fits w64 (at + r.taken)
      place_fits h = let p = place_within in record { fits = omega arith }

      pub less_left : (r.taken ≡ 0 → ⊥) → at < length input → length input - (at + r.taken) < length input - at
      less_left ne h = let p = place_within in let k : 0 < r.taken = positive r.taken ne in omega arith

      pub going_on : (r.taken ≡ 0 → ⊥) → length pending' ≡ length pending → Going pending' r (at + r.taken) c'
      going_on ne same = record {
        kept = same ∙ g.kept;
        within = place_within;
        stands =
            (rw rest_is at (some.stands (positive r.taken ne)))
            ∙ ap (λ (s : Reading). all_taken s (take r.taken (drop at input))) g.stands
            ∙ sym (taken_append (reading d pending₀ held) (take at input) (take r.taken (drop at input)))
            ∙ ap (all_taken (reading d pending₀ held)) (sym (take-add at r.taken input));
        writes =
            let w : Appends c c' (all_prints (reading fed.driver pending fed.held) (take r.taken (drop at input))) =
            rw rest_is at (some.writes (positive r.taken ne)) in
            let from = subst (λ (s : Reading). Appends c c' (all_prints s (take r.taken (drop at input)))) g.stands w in
            let both = appends_both c₀ c c' _ _ g.writes from in
            subst (Appends c₀ c')
            (sym (prints_append (reading d pending₀ held) (take at input) (take r.taken (drop at input)))
            ∙ ap (all_prints (reading d pending₀ held)) (sym (take-add at r.taken input)))
            both;
      }

-- ---- the end of the input

-- what stands at the front of the buffer is what the last line prints
last_text : (text : List ℕ) (left : Driver) (old new : List ℕ) (r : Printed) → Prints text left old new r → take r.written new ≡ text
unfolding at_front
last_text text left old new r p = rw (p.count, p.bytes) (take-append_seam text (drop (length text) old))

pub last_written : (s : Reading) (old new : List ℕ) (r : Printed) (c c' : Option (List ℕ))
    → 4096 ≤ length old → Finishes s old new r → Appends c c' (take r.written new) → AnswersLast s c c'
unfolding usable
last_written s old new r c c' room f a k h =
    let e : lent s old ≡ true = rw (le-leb 513 (length s.kept.buffer) k, le-leb s.kept.held 513 h, le-leb 4096 (length old) room) refl in
    subst (Appends c c') (rw e at (last_text _ _ old new r f)) a

-- ---- read after read

consumes_nothing : (known : Option (List ℕ)) → Consumes known known []
consumes_nothing None = tt
consumes_nothing (Some xs) = refl

module _ (d : Driver) (known c₀ : Option (List ℕ)) where
  -- what holds before each read: some bytes were read of those that the reader had, they brought the reading to where it stands, and their
  -- answers are written
  pub record Reads (pending : List ℕ) (fed : Fed) (left c : Option (List ℕ)) : Type 0 where
    pub first : List ℕ
    pub room : 513 ≤ length first
    pub bytes : List ℕ
    pub parted : Consumes known left bytes
    pub stands : reading fed.driver pending fed.held ≡ all_taken (reading d first 0) bytes
    pub writes : Appends c₀ c (all_prints (reading d first 0) bytes)

  pub no_read : (pending : List ℕ) → 513 ≤ length pending → Reads pending (record { driver = d; held = 0; taken = 0; written = 0 }) known c₀
  unfolding all_taken all_prints
  no_read pending room = record {
    first = pending;
    room = room;
    bytes = [];
    parted = consumes_nothing known;
    stands = refl;
    writes = appends_nothing c₀;
  }

  module _ (pending : List ℕ) (fed : Fed) (left left' c c' : Option (List ℕ)) (g : Reads pending fed left c) where
    -- one read, whose bytes are answered
    pub one_more : (pending' brought : List ℕ) (fed' : Fed)
        → Consumes left left' brought
        → AnswersAll (reading fed.driver pending fed.held) (reading fed'.driver pending' fed'.held) brought fed'.taken c c'
        → (fed'.taken ≡ 0 → ⊥)
        → Reads pending' fed' left' c'
    one_more pending' brought fed' e all ne =
        let w = all.whole (positive fed'.taken ne) in
        record {
          first = g.first;
          room = g.room;
          bytes = g.bytes ++ brought;
          parted = consumes_both known left left' g.bytes brought g.parted e;
          stands = all.stands w ∙ ap (λ (s : Reading). all_taken s brought) g.stands
              ∙ sym (taken_append (reading d g.first 0) g.bytes brought);
          writes =
              let t = subst (λ (s : Reading). Appends c c' (all_prints s brought)) g.stands (all.writes w) in
              subst (Appends c₀ c') (sym (prints_append (reading d g.first 0) g.bytes brought)) (appends_both c₀ c c' _ _ g.writes t);
        }

    -- a read that brings nothing is the end, where what is held is answered
    pub at_end : (buffer : List ℕ) (n : ℕ) → n ≡ 0 → Consumes left left' (take n buffer) → IsAtEnd left'
        → AnswersLast (reading fed.driver pending fed.held) c c' → AnswersInput d known c₀ c'
    unfolding whole
    at_end buffer n z e q a = go known left' (subst (λ m. Consumes known left' (g.bytes ++ take m buffer)) z p) q
      where
        p : Consumes known left' (g.bytes ++ take n buffer)
        p = consumes_both known left left' g.bytes (take n buffer) g.parted e

        sound : Sound (reading fed.driver pending fed.held).kept
        sound =
            subst (λ (s : Reading). Sound s.kept) (sym g.stands)
            (sound_taken (reading d g.first 0) g.bytes (record { room = g.room; few = omega arith }))

        all : Appends c₀ c' (whole (reading d g.first 0) g.bytes)
        all =
            appends_both c₀ c c' _ _ g.writes
            (subst (λ (s : Reading). Appends c c' (last_prints s)) g.stands (a sound.room sound.few))

        go : (k l : Option (List ℕ)) → Consumes k l (g.bytes ++ []) → IsAtEnd l → AnswersInput d k c₀ c'
        go None l p q = tt
        go (Some xs) None p q = absurd p
        go (Some xs) (Some ys) p q =
            let x : xs ≡ g.bytes = p ∙ ap (λ t. (g.bytes ++ []) ++ t) q ∙ append-nil (g.bytes ++ []) ∙ append-nil g.bytes in
            subst (Appends c₀ c') (whole_answered d g.first g.room g.bytes ∙ ap (λ t. answered d (lines t)) (sym x)) all
