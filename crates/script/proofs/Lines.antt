-- Up to a line feed bytes are kept and nothing is printed; at the line feed the line is answered.
use Rattle.std.specs.Prelude.{cond}
use Prim.Native.Nat.{ℕ, zero, suc, ◌+◌, ◌-◌, ◌≤◌, ◌<◌}
use native.Mathlib.Nat.{zero-add, suc-add, le_of_suc-le-suc, not-suc-le-zero}
use native.Mathlib.Omega.{arith}
use mathlib.Core.Bool.{Bool, true, false}
use mathlib.Core.List.{List, [], ◌∷◌, ◌++◌, append-nil}
use mathlib.Core.Path.{◌≡◌, refl, ap, sym, ◌∙◌}
use lib.Dec.{eqb}
use lib.ListN.{length, drop, length-append, length-drop}
use lib.Seq.{slice, take-append_seam}
use Rattle.pending.specs.Kept.{Keeps, Part, part, keep_all, keep_byte, line_so_far, through_line_feed, to_line_feed}
use Rattle.pending.proofs.LineFeeds.{no_feed, through_all, through_feed, through_front, through_some}
use Rattle.pending.proofs.Held.{sound_all}
use Rattle.script_call.specs.Calls.{call}
use Rattle.script.specs.Prints.{prints}
use Rattle.text.proofs.Writes.{nothing}
use Rattle.head_driver.specs.declared.Driver.{Driver}
use Rattle.pending.specs.declared.Kept.{Kept}
use Rattle.script.specs.Feeds.{AnswersHeld, Feeds, Reading, reading, line_ends, byte_taken, byte_prints, all_taken, all_prints}
use Rattle.script.specs.declared.Fed.{Fed}
use Rattle.script.proofs.Cuttings.{taken_append, prints_append}

-- the part of a list that starts with a given text
slice_front : (f : ℕ) (l x y : List ℕ) → f ≤ length l → drop f l ≡ x ++ y → slice f (f + length x) l ≡ x
slice_front zero l x y h e = rw (zero-add, e) (take-append_seam x y)
slice_front (suc f) [] x y h e = absurd (not-suc-le-zero h)
slice_front (suc f) (a ∷ l) x y h e = rw suc-add (slice_front f l x y (le_of_suc-le-suc h) e)

-- ---- no line feed among the bytes

other_taken : (b : ℕ) (d : Driver) (p : Part) → eqb b 10 ≡ false → byte_taken (record { driver = d; kept = p }) b ≡ record { driver = d; kept = keep_byte p b }
unfolding byte_taken
other_taken b d p e = rw e

other_prints : (b : ℕ) (d : Driver) (p : Part) → eqb b 10 ≡ false → byte_prints (record { driver = d; kept = p }) b ≡ []
unfolding byte_prints
other_prints b d p e = rw e

-- what the bytes before a line feed do
record Before (x : List ℕ) (d : Driver) (p : Part) : Type 0 where
  taken : all_taken (record { driver = d; kept = p }) x ≡ record { driver = d; kept = keep_all p x }
  prints : all_prints (record { driver = d; kept = p }) x ≡ []

before_none : (d : Driver) (p : Part) → Before [] d p
unfolding all_taken all_prints keep_all
before_none d p = record { taken = refl; prints = refl }

before_more : (b : ℕ) (x : List ℕ) (d : Driver) (p : Part) → eqb b 10 ≡ false → Before x d (keep_byte p b) → Before (b ∷ x) d p
unfolding all_taken all_prints keep_all
before_more b x d p e more = record {
  taken = ap (λ (s : Reading). all_taken s x) (other_taken b d p e) ∙ more.taken;
  prints = rw (other_prints b d p e, other_taken b d p e) more.prints;
}

before_feed : (x : List ℕ) (d : Driver) (p : Part) → Before (to_line_feed x) d p
unfolding to_line_feed
before_feed [] d p = before_none d p
before_feed (b ∷ x) d p = go (eqb b 10) refl (before_feed x d (keep_byte p b))
  where
    go : (t : Bool) → eqb b 10 ≡ t → Before (to_line_feed x) d (keep_byte p b) → Before (cond t [] (b ∷ to_line_feed x)) d p
    go true e more = before_none d p
    go false e more = before_more b (to_line_feed x) d p e more

-- and then one
-- what a line with its line feed does
record Ended (x : List ℕ) (d : Driver) (p : Part) : Type 0 where
  taken : all_taken (record { driver = d; kept = p }) (x ++ (10 ∷ [])) ≡ line_ends (record { driver = d; kept = keep_all p x })
  prints : all_prints (record { driver = d; kept = p }) (x ++ (10 ∷ [])) ≡ prints d (call (line_so_far (keep_all p x)))

at_feed : (x : List ℕ) (d : Driver) (p : Part) → Before x d p → Ended x d p
unfolding all_taken all_prints byte_taken byte_prints
at_feed x d p b = record {
  taken = taken_append (record { driver = d; kept = p }) x (10 ∷ []) ∙ ap line_ends b.taken;
  prints = prints_append (record { driver = d; kept = p }) x (10 ∷ []) ∙ rw (b.taken, b.prints, append-nil);
}

-- ---- a turn of `feed`

-- what a turn of the loop of `feed` does, which takes the input up to the end of a line, or to its end
pub record FeedsLine (fed : Fed) (pending pending' input out out' : List ℕ) (r : Fed) : Type 0 where
  pub onward : fed.taken < length input → fed.taken < r.taken
  pub within : r.taken ≤ length input
  pub feeds : Feeds (reading fed.driver pending fed.held) (slice fed.taken r.taken input) (reading r.driver pending' r.held) out out' fed.written r.written
  pub few : r.held ≤ 513
  pub fits : r.written ≤ length out

module _ (fed : Fed) (pending pending' input out : List ℕ) (k : Kept) (room : 513 ≤ length pending) (few : fed.held ≤ 513) (within : fed.taken ≤ length input)
    (space : fed.written + 4096 ≤ length out) (keeps : Keeps pending fed.held pending' input fed.taken k) where
  abbrev u : List ℕ
  u = to_line_feed (drop fed.taken input)

  abbrev old : Part
  old = part pending fed.held

  held_few : k.held ≤ 513
  held_few = rw (ap (λ (p : Part). p.held) keeps.kept) (sound_all old u (record { room = room; few = few })).few

  pub held_within : length pending' ≡ length pending → k.held ≤ length pending'
  held_within same = let f = held_few in omega arith

  abbrev now : Fed
  now = record { driver = fed.driver; held = k.held; taken = k.at; written = fed.written }

  left : length (drop fed.taken input) ≡ length input - fed.taken
  left = length-drop fed.taken input

  -- what is taken is the input from where it stands up to the new place
  taken_slice : slice fed.taken k.at input ≡ through_line_feed (drop fed.taken input)
  taken_slice = rw keeps.place (slice_front fed.taken input (through_line_feed (drop fed.taken input)) _ within (through_front (drop fed.taken input)))

  place_within : k.at ≤ length input
  place_within =
      let p = keeps.place in
      let f : length (drop fed.taken input) ≡ length (through_line_feed (drop fed.taken input)) + length (drop (length (through_line_feed (drop fed.taken input))) (drop fed.taken input))
      = (ap length (through_front (drop fed.taken input)) ∙ length-append (through_line_feed (drop fed.taken input)) _) in
      let l = left in
      omega arith

  place_onward : fed.taken < length input → fed.taken < k.at
  place_onward h = let p = keeps.place in let l = left in let q = through_some (drop fed.taken input) (omega arith) in omega arith

  -- where no line feed comes, all of the input is taken
  pub place_last : k.ended ≡ false → length input ≤ k.at
  place_last h =
      let p = keeps.place in
      let l = left in
      let t : length (through_line_feed (drop fed.taken input)) ≡ length (drop fed.taken input) = ap length (through_all (drop fed.taken input) (sym keeps.ended ∙ h)) in
      omega arith

  -- the input ends first
  pub line_goes_on : k.ended ≡ false → FeedsLine fed pending pending' input out out now
  line_goes_on h =
      let b = before_feed (drop fed.taken input) fed.driver old in
      let x : slice fed.taken k.at input ≡ u = (taken_slice ∙ no_feed (drop fed.taken input) (sym keeps.ended ∙ h)) in
      record {
        onward = place_onward;
        within = place_within;
        feeds = record { stands = rw (x, b.taken, ← keeps.kept); writes = rw (x, b.prints) (nothing out fed.written) };
        few = held_few;
        fits = omega arith;
      }

  -- a line feed comes first
  pub line_ends_lem : k.ended ≡ true → (out' : List ℕ) (r : Fed) → AnswersHeld now pending' out out' r → FeedsLine fed pending pending' input out out' r
  unfolding line_ends line_so_far
  line_ends_lem h out' r answers =
      let b = at_feed u fed.driver old (before_feed (drop fed.taken input) fed.driver old) in
      let x : slice fed.taken k.at input ≡ u ++ (10 ∷ []) = (taken_slice ∙ through_feed (drop fed.taken input) (sym keeps.ended ∙ h)) in
      rw answers.stands (record {
        onward = place_onward;
        within = place_within;
        feeds = record { stands = rw (x, b.taken, ← keeps.kept); writes = rw (x, b.prints, ← keeps.kept) answers.writes };
        few = omega arith;
        fits = answers.fits;
      })
