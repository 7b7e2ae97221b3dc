-- What is struck, and what is not: texts, and two laws, of every line of the four kinds and of every text without such a line.
use Prim.Native.Nat.{ℕ, suc, ◌+◌, ◌-◌}
use native.Mathlib.Omega.{arith}
use mathlib.Core.Bool.{Bool, true, false, not}
use mathlib.Core.List.{List, [], ◌∷◌, ◌++◌, append_assoc}
use mathlib.Core.Path.{◌≡◌, refl, ap, sym, ◌∙◌}
use lib.Dec.{eqb}
use lib.ListN.{length, take, drop, length-append}
use borrow.Author.Tests.{lt-ltb}
use Rattle.std.proofs.lemmas.List.{drop_at, length_push, take_at}
use Rattle.std.specs.Prelude.{None, Some, cond, map}
use Rattle.std.specs.List.{All, flat_map}
use Rattle.text.specs.Ascii.{ascii}
use Rattle.text.specs.Decimals.{digit, more, number}
use Rattle.text.specs.Digits.{read_on}
use Rattle.replay.specs.Numbers.{bytes_before, lines, put_first, spaced_number, spaced_word, strike_at, strike_number, struck, struck_line, words_before}

-- ---- texts, each beside the same without its settle numbers

abbrev examples : List (List ℕ × List ℕ)
examples =
    -- of each kind of line that shows a number one that is ready and one that is cold
    (ascii "(view installed 7 60 ready)\n", ascii "(view installed 7 ready)\n")
    ∷ ((ascii "(view installed 7 60 (cold no-parent (rpc 5)))\n", ascii "(view installed 7 (cold no-parent (rpc 5)))\n")
    ∷ ((ascii "(view previous 7 0 ready)\n", ascii "(view previous 7 ready)\n")
    ∷ ((ascii "(view previous 7 60 abandoned)\n", ascii "(view previous 7 abandoned)\n")
    ∷ ((ascii "(installed (7 6d1c17) 60 18446744073709551615 ready)\n", ascii "(installed (7 6d1c17) 60 ready)\n")
    ∷ ((ascii "(installed (7 none) 60 3 (cold hash-unknown none))\n", ascii "(installed (7 none) 60 (cold hash-unknown none))\n")
    ∷ ((ascii "(previous (7 none) 60 3 ready)\n", ascii "(previous (7 none) 60 ready)\n")
    ∷ ((ascii "(previous (7 6d1c17) 60 3 (cold none no-hash))\n", ascii "(previous (7 6d1c17) 60 (cold none no-hash))\n")
    -- several lines, the last without its line feed
    ∷ ((
      ascii "(current none)\n(installed (7 none) 60 3 ready)\n(previous (6 none) 59 2 ready)\n(view installed 7 60 ready)",
      ascii "(current none)\n(installed (7 none) 60 ready)\n(previous (6 none) 59 ready)\n(view installed 7 ready)",
    )
    ∷ []))))))))

-- lines that show none, or no number in its place, as the Rust prints them, or too few words
abbrev unchanged : List (List ℕ)
unchanged =
    ascii "(view provisional 50 abandoned)\n"
    ∷ (ascii "(view spare 51 undelivered)\n"
    ∷ (ascii "(installed none)\n"
    ∷ (ascii "(previous none)\n"
    ∷ (ascii "(heads (7 none) (7 none) none)\n"
    ∷ (ascii "(settled (cold no-parent no-hash))\n"
    ∷ (ascii "(current settled (7 none) 60 none)\n"
    ∷ (ascii "(view installed 7 ready)\n"
    ∷ (ascii "(view previous 7 (cold no-parent none))\n"
    ∷ (ascii "(installed (7 none) 60 (cold no-parent none))\n"
    ∷ (ascii "(view installed 7 60)\n"
    ∷ (ascii "(installed (7 none) 60)\n"
    ∷ [])))))))))))

pub struck_examples : map (λ (e : List ℕ × List ℕ). struck e.0) examples ≡ map (λ (e : List ℕ × List ℕ). e.1) examples
unfolding lines spaced_number spaced_word strike_at strike_number struck struck_line words_before number digit more read_on
struck_examples = refl

pub struck_unchanged : map struck unchanged ≡ unchanged
unfolding lines spaced_number spaced_word strike_at strike_number struck struck_line words_before number digit more read_on
struck_unchanged = refl

-- ---- of a line of the four kinds, whatever its words and its readiness are, a number in its place goes with one space, and no
-- other byte; a word there that is no number stays

-- a text, a space, and what follows
abbrev on : List ℕ → List ℕ → List ℕ
on w s = w ++ (32 ∷ s)

-- no space stands in it
abbrev IsWord : List ℕ → Type 0
IsWord w = bytes_before 32 w ≡ length w

before_space : (w s : List ℕ) → IsWord w → bytes_before 32 (w ++ (32 ∷ s)) ≡ length w
before_space [] s h = refl
before_space (b ∷ w) s h = go (eqb b 32) h (before_space w s)
  where
    go : (t : Bool) → cond (not t) (1 + bytes_before 32 w) 0 ≡ suc (length w) → (IsWord w → bytes_before 32 (w ++ (32 ∷ s)) ≡ length w)
        → cond (not t) (1 + bytes_before 32 (w ++ (32 ∷ s))) 0 ≡ suc (length w)
    go true e more = e
    go false e more = let m = more (omega arith) in omega arith

module _ (w s : List ℕ) (h : IsWord w) where
  spaced : spaced_word (w ++ (32 ∷ s)) ≡ length w + 1
  unfolding spaced_word
  spaced =
      let l = length-append w (32 ∷ s) in
      rw (before_space w s h, lt-ltb (length w) (length (w ++ (32 ∷ s))) (omega arith)) refl

  parts : w ++ (32 ∷ s) ≡ (w ++ (32 ∷ [])) ++ s
  parts = sym (append_assoc w (32 ∷ []) s)

  taken : take (length w + 1) (w ++ (32 ∷ s)) ≡ w ++ (32 ∷ [])
  taken = ap (take (length w + 1)) parts ∙ take_at (w ++ (32 ∷ [])) s (length w + 1) (length_push w 32)

  left : drop (length w + 1) (w ++ (32 ∷ s)) ≡ s
  left = ap (drop (length w + 1)) parts ∙ drop_at (w ++ (32 ∷ [])) s (length w + 1) (length_push w 32)

  word_taken : take (length w + 1 - 1) (w ++ (32 ∷ s)) ≡ w
  word_taken = take_at w (32 ∷ s) (length w + 1 - 1) (omega arith)

  -- a number goes with its space, and any other word stays
  pub number_goes : (k : ℕ) → number w ≡ Some k → strike_number 0 (w ++ (32 ∷ s)) ≡ s
  unfolding strike_number spaced_number
  number_goes k e = rw (spaced, word_taken, e, left) refl

  pub other_stays : number w ≡ None → strike_number 0 (w ++ (32 ∷ s)) ≡ w ++ (32 ∷ s)
  unfolding strike_number spaced_number
  other_stays e = rw (spaced, word_taken, e) refl

  word_stays : (n : ℕ) → strike_number (suc n) (w ++ (32 ∷ s)) ≡ w ++ (32 ∷ strike_number n s)
  unfolding strike_number
  word_stays n = rw (spaced, taken, left) (append_assoc w (32 ∷ []) (strike_number n s))

-- the handle, the word in the number's place, and what follows it; t is what becomes of these two (`number_goes`, `other_stays`)
module _ (h n s t : List ℕ) (a : IsWord h) (e : strike_number 0 (on n s) ≡ t) where
  handle_stays : strike_number 1 (on h (on n s)) ≡ on h t
  handle_stays = word_stays h _ a 0 ∙ ap (on h) e

  pub view_installed : struck_line (ascii "(view installed " ++ on h (on n s)) ≡ ascii "(view installed " ++ on h t
  unfolding struck_line strike_at words_before
  view_installed = word_stays (ascii "(view") _ refl 2 ∙ ap (on (ascii "(view"))
      (word_stays (ascii "installed") _ refl 1 ∙ ap (on (ascii "installed")) handle_stays)

  pub view_previous : struck_line (ascii "(view previous " ++ on h (on n s)) ≡ ascii "(view previous " ++ on h t
  unfolding struck_line strike_at words_before
  view_previous = word_stays (ascii "(view") _ refl 2 ∙ ap (on (ascii "(view"))
      (word_stays (ascii "previous") _ refl 1 ∙ ap (on (ascii "previous")) handle_stays)

  -- the anchor's two words, the second with its bracket
  module _ (k p : List ℕ) (c : IsWord k) (d : IsWord p) where
    anchor_stays : strike_number 3 (ascii "(" ++ on k (on p (on h (on n s)))) ≡ ascii "(" ++ on k (on p (on h t))
    anchor_stays = word_stays (40 ∷ k) _ (omega (arith, c)) 2 ∙ ap (on (40 ∷ k)) (word_stays p _ d 1 ∙ ap (on p) handle_stays)

    pub installed : struck_line (ascii "(installed (" ++ on k (on p (on h (on n s)))) ≡ ascii "(installed (" ++ on k (on p (on h t))
    unfolding struck_line strike_at words_before
    installed = word_stays (ascii "(installed") _ refl 3 ∙ ap (on (ascii "(installed")) anchor_stays

    pub previous : struck_line (ascii "(previous (" ++ on k (on p (on h (on n s)))) ≡ ascii "(previous (" ++ on k (on p (on h t))
    unfolding struck_line strike_at words_before
    previous = word_stays (ascii "(previous") _ refl 3 ∙ ap (on (ascii "(previous")) anchor_stays

-- ---- a text none of whose lines begins as one of the four stays as it is

lines_joined : (text : List ℕ) → flat_map (λ line. line) (lines text) ≡ text
unfolding lines
lines_joined [] = refl
lines_joined (b ∷ text) = go (eqb b 10) (lines text) (lines_joined text)
  where
    go : (t : Bool) (ls : List (List ℕ)) → flat_map (λ line. line) ls ≡ text
        → flat_map (λ line. line) (cond t ((b ∷ []) ∷ ls) (put_first b ls)) ≡ b ∷ text
    go true ls e = ap (λ (r : List ℕ). b ∷ r) e
    go false [] e = ap (λ (r : List ℕ). b ∷ r) e
    go false (line ∷ ls) e = ap (λ (r : List ℕ). b ∷ r) e

none_shown : (ls : List (List ℕ)) → All (λ line. words_before line ≡ None) ls → flat_map struck_line ls ≡ flat_map (λ line. line) ls
unfolding struck_line strike_at
none_shown [] h = refl
none_shown (line ∷ ls) h =
    let first : words_before line ≡ None = h 0 line (omega arith) in
    rw (first, none_shown ls (λ k d b. h (suc k) d (omega arith))) refl

pub nothing_struck : (text : List ℕ) → All (λ line. words_before line ≡ None) (lines text) → struck text ≡ text
unfolding struck
nothing_struck text h = none_shown (lines text) h ∙ lines_joined text
