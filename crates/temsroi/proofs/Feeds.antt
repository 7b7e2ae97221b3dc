-- No line that is a call has a line feed: no call's text has one, and no digit of a hash is one.
use Prim.Native.Nat.{ℕ}
use native.Mathlib.Omega.{arith}
use mathlib.Core.List.{List, [], ◌∷◌, ◌++◌, map}
use mathlib.Core.Path.{◌≡◌, refl, ap, subst, sym}
use Rattle.std.specs.Char.{to_ascii_lowercase}
use Rattle.std.specs.Prelude.{None, Option, Some}
use Rattle.hash.specs.declared.Hash.{Hash}
use Rattle.hash_text.specs.Cases.{ButForCase, Cased, byte, end, hash}
use Rattle.hash_text.specs.Hex.{hex_text}
use Rattle.hash_text.specs.Texts.{hash_prefix, hash_text}
use Rattle.rules.proofs.Bytes.{one_line_call}
use Rattle.rules.specs.Runs.{OneLine}
use Rattle.script_call.proofs.Only.{call_exactly, sheet_exactly}
use Rattle.script_call.specs.Calls.{call}
use Rattle.script_call.specs.Texts.{call_text, sheet_call_text}
use Rattle.script_call.specs.declared.LineCall.{LineCall}
use Rattle.temsroi.specs.Statements.{LineFeedIsNoCall}

parts : (s t : List ℕ) → OneLine (s ++ t) → OneLine s × OneLine t
unfolding OneLine
parts [] t f = (tt, f)
parts (b ∷ s) t f = let p = parts s t f.1 in ((f.0, p.0), p.1)

both : (s t : List ℕ) → OneLine s → OneLine t → OneLine (s ++ t)
unfolding OneLine
both [] t f g = g
both (b ∷ s) t f g = (f.0, both s t f.1 g)

-- a line feed is its own lowercase
digits_one_line : (s : List ℕ) → OneLine (map to_ascii_lowercase s) → OneLine s
unfolding OneLine
digits_one_line [] f = tt
digits_one_line (b ∷ s) f = (λ e. f.0 (ap to_ascii_lowercase e), digits_one_line s f.1)

cased_one_line : (w : List ℕ) (h : Hash) → Cased w h → OneLine (hash_text h) → OneLine w
unfolding hash_text
cased_one_line w h c f =
    let p = parts hash_prefix (hex_text h) f in
    rw c.is (both hash_prefix c.digits p.0 (digits_one_line c.digits (rw c.same p.1)))

case_one_line : (l t : List ℕ) → ButForCase l t → OneLine t → OneLine l
unfolding OneLine
case_one_line _ _ end f = tt
case_one_line _ _ (byte b {l} {t} c) f = (f.0, case_one_line l t c f.1)
case_one_line _ _ (hash w h {l} {t} k c) f =
    let p = parts (hash_text h) t f in
    both w l (cased_one_line w h k p.0) (case_one_line l t c p.1)

sheet_one_line : OneLine sheet_call_text
unfolding OneLine sheet_call_text
sheet_one_line = (
  (λ e. omega arith),
  (
    (λ e. omega arith),
    (
      (λ e. omega arith),
      (
        (λ e. omega arith),
        ((λ e. omega arith), ((λ e. omega arith), ((λ e. omega arith), tt))),
      ),
    ),
  ),
)

pub line_feed_is_no_call : LineFeedIsNoCall
line_feed_is_no_call line n = go (call line) refl
  where
    go : (q : Option LineCall) → call line ≡ q → q ≡ None
    go None e = refl
    go (Some LineCall.Sheet) e = absurd (n (subst OneLine (sym ((sheet_exactly line).0 e)) sheet_one_line))
    go (Some (LineCall.Make c)) e = absurd (n (case_one_line line (call_text c) ((call_exactly line c).0 e).0 (one_line_call c)))
