-- The loop of `feed`: line after line.
use Prim.Native.Nat.{ℕ, ◌+◌, ◌-◌, ◌≤◌, ◌<◌}
use native.Mathlib.Nat.{le_of_lt}
use native.Mathlib.Omega.{arith}
use mathlib.Core.Bool.{Bool, true, false}
use mathlib.Core.List.{List, [], ◌++◌}
use mathlib.Core.Logic.{◌⊎◌, inl, inr}
use mathlib.Core.Path.{◌≡◌, refl, ap, sym, ◌∙◌}
use lib.ListN.{length, take, take-append-drop}
use lib.Seq.{slice, take-take}
use Rattle.std.proofs.lemmas.Bool.{true≢false}
use Rattle.text.proofs.Writes.{nothing, then}
use Rattle.pending.specs.Kept.{Keeps}
use Rattle.pending.specs.declared.Kept.{Kept}
use Rattle.head_driver.specs.declared.Driver.{Driver}
use Rattle.script.specs.Feeds.{AnswersHeld, Feeds, Reading, TakesSome, lent, reading, all_prints, all_taken, usable}
use Rattle.script.specs.declared.Fed.{Fed}
use Rattle.script.proofs.Cuttings.{taken_append, prints_append}
use Rattle.script.proofs.Ending.{lent_of}
use Rattle.script.proofs.Lines.{FeedsLine, held_within, line_ends_lem, line_goes_on, place_last}

feeds_none : (s : Reading) (out : List ℕ) → Feeds s [] s out out 0 0
unfolding all_taken all_prints
feeds_none s out = record { stands = refl; writes = nothing out 0 }

feeds_then : {s t u : Reading} {x y a b c : List ℕ} {i j k : ℕ} → Feeds s x t a b i j → Feeds t y u b c j k → Feeds s (x ++ y) u a c i k
feeds_then {s} {x = x} {y = y} p q = record {
  stands = q.stands ∙ ap (λ (z : Reading). all_taken z y) p.stands ∙ sym (taken_append s x y);
  writes = rw (prints_append s x y) (then p.writes (rw p.stands at q.writes));
}

-- what was taken before, and what is taken now
take_more : (f t : ℕ) (l : List ℕ) → f ≤ t → take f l ++ slice f t l ≡ take t l
take_more f t l h = rw (← take-take f t l h) (take-append-drop f (take t l))

module _ (d : Driver) (pending₀ : List ℕ) (held : ℕ) (input out₀ : List ℕ) where
  -- what holds after each line
  pub record Going (pending out : List ℕ) (fed : Fed) : Type 0 where
    pub kept : length pending ≡ length pending₀
    pub room : length out ≡ length out₀
    pub lends : lent (reading d pending₀ held) out₀ ≡ true
    pub enough : 513 ≤ length pending₀
    pub few : fed.held ≤ 513
    pub within : fed.taken ≤ length input
    pub fits : fed.written ≤ length out₀
    pub feeds : Feeds (reading d pending₀ held) (take fed.taken input) (reading fed.driver pending fed.held) out₀ out 0 fed.written

  abbrev first : Fed
  first = record { driver = d; held = held; taken = 0; written = 0 }

  module _ (t : Bool) (e : t ≡ usable (length pending₀) held (length out₀)) where
    pub not_usable : t ≡ false → TakesSome (reading d pending₀ held) (reading d pending₀ held) input out₀ out₀ first
    not_usable is = record {
      within = omega arith;
      feeds = feeds_none (reading d pending₀ held) out₀;
      fits = omega arith;
      unusable = λ no. record { stays = refl; bytes = refl; taken = refl; written = refl };
      stops = λ yes. absurd (true≢false (sym yes ∙ sym e ∙ is));
    }

    pub going_first : t ≡ true → Going pending₀ out₀ first
    going_first is = record {
      kept = refl;
      room = refl;
      lends = sym e ∙ is;
      enough = (lent_of (length pending₀) held (length out₀) t e is).room;
      few = (lent_of (length pending₀) held (length out₀) t e is).few;
      within = omega arith;
      fits = omega arith;
      feeds = feeds_none (reading d pending₀ held) out₀;
    }

  module _ (pending out : List ℕ) (fed : Fed) (g : Going pending out fed) where
    pub written_within : fed.written ≤ length out
    written_within = let m = g.room in let f = g.fits in omega arith

    pub line_room : 513 ≤ length pending
    line_room = let k = g.kept in let e = g.enough in omega arith

    pub answer_room : 4096 ≤ length out - fed.written → fed.written + 4096 ≤ length out
    answer_room h = let w = written_within in omega arith

    less_left : fed.taken < length input → (pending' out' : List ℕ) (r : Fed) → FeedsLine fed pending pending' input out out' r
        → length input - r.taken < length input - fed.taken
    less_left h pending' out' r f = let o = f.onward h in let w = f.within in omega arith

    going_on : fed.taken < length input → (pending' out' : List ℕ) (r : Fed) → length pending' ≡ length pending → length out' ≡ length out
        → FeedsLine fed pending pending' input out out' r → Going pending' out' r
    going_on h pending' out' r p o f =
        let k = g.kept in let m = g.room in
        let e = take_more fed.taken r.taken input (le_of_lt (f.onward h)) in
        record {
          kept = p ∙ k;
          room = o ∙ m;
          lends = g.lends;
          enough = g.enough;
          few = f.few;
          within = f.within;
          fits = rw m at f.fits;
          feeds = rw e at (feeds_then g.feeds f.feeds);
        }

    some : (fed.taken ≡ length input) ⊎ (length out₀ < fed.written + 4096)
        → TakesSome (reading d pending₀ held) (reading fed.driver pending fed.held) input out₀ out fed
    some e = record { within = g.within; feeds = g.feeds; fits = g.fits; unusable = λ no. absurd (true≢false (sym g.lends ∙ no)); stops = λ yes. e }

    pub all_taken_lem : length input ≤ fed.taken → TakesSome (reading d pending₀ held) (reading fed.driver pending fed.held) input out₀ out fed
    all_taken_lem h = some (inl (let w = g.within in omega arith))

    pub no_room : length out - fed.written < 4096 → TakesSome (reading d pending₀ held) (reading fed.driver pending fed.held) input out₀ out fed
    no_room h = some (inr (let m = g.room in let w = g.fits in omega arith))

  -- a turn of the loop: the bytes are kept up to a line feed, or to the input's end
  module _ (pending out : List ℕ) (fed : Fed) (g : Going pending out fed) (more : fed.taken < length input) (space : 4096 ≤ length out - fed.written)
      (pending' : List ℕ) (same : length pending' ≡ length pending) (k : Kept) (keeps : Keeps pending fed.held pending' input fed.taken k) where
    abbrev now : Fed
    now = record { driver = fed.driver; held = k.held; taken = k.at; written = fed.written }

    pub line_held : k.held ≤ length pending'
    line_held = held_within fed pending pending' input out k (line_room pending out fed g) g.few g.within (answer_room pending out fed g space) keeps same

    -- the input ends first, and all of it is taken
    pub cut_off : k.ended ≡ false → TakesSome (reading d pending₀ held) (reading fed.driver pending' k.held) input out₀ out now
    cut_off e =
        let f = line_goes_on fed pending pending' input out k (line_room pending out fed g) g.few g.within (answer_room pending out fed g space) keeps e in
        let l = place_last fed pending pending' input out k (line_room pending out fed g) g.few g.within (answer_room pending out fed g space) keeps e in
        all_taken_lem pending' out now (going_on pending out fed g more pending' out now same refl f) l

    -- the line is answered
    module _ (e : k.ended ≡ true) (out' : List ℕ) (r : Fed) (answers : AnswersHeld now pending' out out' r) where
      line : FeedsLine fed pending pending' input out out' r
      line = line_ends_lem fed pending pending' input out k (line_room pending out fed g) g.few g.within (answer_room pending out fed g space) keeps e out' r answers

      pub line_less : length input - r.taken < length input - fed.taken
      line_less = less_left pending out fed g more pending' out' r line

      pub line_going : length out' ≡ length out → Going pending' out' r
      line_going o = going_on pending out fed g more pending' out' r same o line
