-- What is left to read is a given text: on a line but for the case of hash digits, on a sheet byte for byte. One law for both pages.
use Prim.Native.Nat.{ℕ}
use mathlib.Core.Bool.{true}
use mathlib.Core.List.{List, [], ◌∷◌, ◌++◌}
use mathlib.Core.Path.{◌≡◌, refl, ap, ◌∙◌}
use lib.ListN.{length}
use borrow.Author.Tests.{eq-eqb}
use Rattle.std.specs.Prelude.{Some}
use Rattle.hash.specs.Ranges.{HashFits}
use Rattle.hash.specs.declared.Hash.{Hash}
use Rattle.hash_text.specs.Cases.{ButForCase, hash}
use Rattle.hash_text.specs.Texts.{hash_text}
use Rattle.hash_text.proofs.Back.{length_cased, length_hash, line_hash_said, run_cased, run_hash, sheet_hash_said}
use Rattle.hash_text.proofs.Cases.{BeginsNone, NoHashIn, after_text, before_byte, before_hash, before_word, same_end, same_line, same_start}
use Rattle.hash_text.proofs.Only.{line_hash_only, sheet_hash_only}
use Rattle.text.specs.Rests.{Rest, Took, after_byte, at, at_end, past_word, word_here}
use Rattle.text.specs.Words.{run}
use Rattle.text.proofs.Back.{past_back, word_back}
use Rattle.value_text.specs.Reads.{got, hash_said}
use Rattle.value_text.specs.declared.page.Page.{Page}

-- the text l says the text t, as the page tells it
unfoldable pub Says : Page → List ℕ → List ℕ → Type 0
Says Page.Line l t = ButForCase l t
Says Page.Sheet l t = l ≡ t

-- so does what is left to read
pub record Stands (p : Page) (r : Rest) (t : List ℕ) : Type 0 where
  pub line : List ℕ
  pub is : r ≡ at line
  pub says : Says p line t

-- a value was read, and the text t is left
pub record Gives {A : Type 0} (p : Page) (k : Took A) (x : A) (t : List ℕ) : Type 0 where
  pub value : k.value ≡ x
  pub next : Stands p k.next t

-- ---- where each of them holds

says_own : (p : Page) (t : List ℕ) → Says p t t
unfolding Says
says_own Page.Line t = same_line t
says_own Page.Sheet t = refl

pub stands : (p : Page) {r : Rest} {t : List ℕ} → r ≡ at t → Stands p r t
stands p {t} e = record { line = t; is = e; says = says_own p t }

-- on a line it is so but for the case of hash digits
pub from_line : {l t : List ℕ} → ButForCase l t → Stands Page.Line (at l) t
unfolding Says
from_line {l} c = record { line = l; is = refl; says = c }

pub to_line : {l t : List ℕ} → Stands Page.Line (at l) t → ButForCase l t
unfolding Says
to_line {l} s = let e : s.line ≡ l = cc s.is in rw e at s.says

-- on a sheet it is so byte for byte
pub exactly : {r : Rest} {t : List ℕ} → Stands Page.Sheet r t → r ≡ at t
unfolding Says
exactly s = s.is ∙ ap at s.says

pub gives : {A : Type 0} {k : Took A} {x : A} {t : List ℕ} → Gives Page.Sheet k x t → k ≡ got x (at t)
gives {A} {k} {x} {t} g = ap (λ (n : Rest). got k.value n) (exactly g.next) ∙ ap (λ (v : A). got v (at t)) g.value

-- ---- the text k in front

says_after : (p : Page) (k l t : List ℕ) → Says p l t → Says p (k ++ l) (k ++ t)
unfolding Says
says_after Page.Line k l t c = after_text k c
says_after Page.Sheet k l t c = ap (λ (s : List ℕ). k ++ s) c

-- what was read stood there, and the text t is left: then all of it stood there
pub stood : (p : Page) (k : List ℕ) {r next : Rest} {t : List ℕ}
    → ((s : List ℕ) → next ≡ at s → r ≡ at (k ++ s)) → Stands p next t → Stands p r (k ++ t)
stood p k {t} f s = record { line = k ++ s.line; is = f s.line s.is; says = says_after p k s.line t s.says }

record Front (p : Page) (k : List ℕ) (l t : List ℕ) : Type 0 where
  rest : List ℕ
  is : l ≡ k ++ rest
  later : Says p rest t

says_start : (p : Page) (l t : List ℕ) → Says p l t → run t ≡ 0 → run l ≡ 0
unfolding Says
says_start Page.Line l t c z = same_start c z
says_start Page.Sheet l t c z = ap run c ∙ z

front_byte : (p : Page) (b : ℕ) {l t : List ℕ} → BeginsNone b → Says p l (b ∷ t) → Front p (b ∷ []) l t
unfolding Says
front_byte Page.Line b {t} n c = let f = before_byte b t n c refl in record { rest = f.rest; is = f.is; later = f.later }
front_byte Page.Sheet b {t} n c = record { rest = t; is = c; later = refl }

front_word : (p : Page) (k : List ℕ) {l t : List ℕ} → NoHashIn k → run t ≡ 0 → Says p l (k ++ t) → Front p k l t
unfolding Says
front_word Page.Line k {t} e z c = let f = before_word t z k e c refl in record { rest = f.rest; is = f.is; later = f.later }
front_word Page.Sheet k {t} e z c = record { rest = t; is = c; later = refl }

-- a byte that no hash begins with
pub byte_back : (p : Page) (b : ℕ) {r : Rest} {t : List ℕ} → BeginsNone b → Stands p r (b ∷ t) → Stands p (after_byte b r) t
unfolding after_byte
byte_back p b n s =
    let f = front_byte p b n s.says in
    let e : after_byte b (at (b ∷ f.rest)) ≡ at f.rest = rw (eq-eqb b b refl) refl in
    record { line = f.rest; is = ap (after_byte b) (s.is ∙ ap at f.is) ∙ e; says = f.later }

-- a value that is read from its own text, with no hash in it
pub read_back : {A : Type 0} (p : Page) (read : Rest → Took A) (k : List ℕ) (x : A) {r : Rest} {t : List ℕ} → NoHashIn k
    → ((s : List ℕ) → run s ≡ 0 → read (at (k ++ s)) ≡ got x (at s)) → run t ≡ 0 → Stands p r (k ++ t) → Gives p (read r) x t
read_back {A} p read k x {t} n f z s =
    let g = front_word p k n z s.says in
    let e : read _ ≡ got x (at g.rest) = ap read (s.is ∙ ap at g.is) ∙ f g.rest (says_start p g.rest t g.later z) in
    record { value = ap (λ (v : Took A). v.value) e; next = record { line = g.rest; is = ap (λ (v : Took A). v.next) e; says = g.later } }

-- one word, with no hash in it
pub record OneWord (p : Page) (k : List ℕ) (r : Rest) (t : List ℕ) : Type 0 where
  pub here : word_here r ≡ k
  pub next : Stands p (past_word r) t

pub keyword_back : (p : Page) (k : List ℕ) {r : Rest} {t : List ℕ} → NoHashIn k → run k ≡ length k → run t ≡ 0 → Stands p r (k ++ t) → OneWord p k r t
keyword_back p k {t} n e z s =
    let g = front_word p k n z s.says in
    let w = says_start p g.rest t g.later z in
    let i = s.is ∙ ap at g.is in
    record {
      here = ap word_here i ∙ word_back k g.rest e w;
      next = record { line = g.rest; is = ap past_word i ∙ past_back k g.rest e w; says = g.later };
    }

-- ---- hashes

record FrontHash (p : Page) (h : Hash) (l t : List ℕ) : Type 0 where
  word : List ℕ
  said : hash_said p word ≡ Some h
  long : length word ≡ 66
  one : run word ≡ length word
  rest : List ℕ
  is : l ≡ word ++ rest
  later : Says p rest t

front_hash : (p : Page) (h : Hash) {l t : List ℕ} → HashFits h → run t ≡ 0 → Says p l (hash_text h ++ t) → FrontHash p h l t
unfolding hash_said Says
front_hash Page.Line h {t} f z c =
    let g = before_hash t z h c refl in
    record {
      word = g.word;
      said = line_hash_said g.word h g.cased f;
      long = length_cased g.word h g.cased;
      one = run_cased g.word h g.cased;
      rest = g.rest;
      is = g.is;
      later = g.later;
    }
front_hash Page.Sheet h {t} f z c =
    record { word = hash_text h; said = sheet_hash_said h f; long = length_hash h; one = run_hash h; rest = t; is = c; later = refl }

pub record OneHash (p : Page) (h : Hash) (r : Rest) (t : List ℕ) : Type 0 where
  pub said : hash_said p (word_here r) ≡ Some h
  pub long : length (word_here r) ≡ 66
  pub next : Stands p (past_word r) t

pub one_hash_back : (p : Page) (h : Hash) {r : Rest} {t : List ℕ} → HashFits h → run t ≡ 0 → Stands p r (hash_text h ++ t) → OneHash p h r t
one_hash_back p h {t} f z s =
    let g = front_hash p h f z s.says in
    let w = says_start p g.rest t g.later z in
    let i = s.is ∙ ap at g.is in
    let e = ap word_here i ∙ word_back g.word g.rest g.one w in
    record {
      said = ap (hash_said p) e ∙ g.said;
      long = ap length e ∙ g.long;
      next = record { line = g.rest; is = ap past_word i ∙ past_back g.word g.rest g.one w; says = g.later };
    }

says_hash : (p : Page) (w : List ℕ) (h : Hash) (l t : List ℕ) → hash_said p w ≡ Some h → Says p l t → Says p (w ++ l) (hash_text h ++ t)
unfolding hash_said Says
says_hash Page.Line w h l t e c = hash w h (line_hash_only w h e).0 c
says_hash Page.Sheet w h l t e c = ap (λ (v : List ℕ). v ++ l) (sheet_hash_only w h e).0 ∙ ap (λ (s : List ℕ). hash_text h ++ s) c

pub word_stood : (p : Page) (w : List ℕ) (h : Hash) {r next : Rest} {t : List ℕ} → hash_said p w ≡ Some h
    → ((s : List ℕ) → next ≡ at s → r ≡ at (w ++ s)) → Stands p next t → Stands p r (hash_text h ++ t)
word_stood p w h {t} e f s = record { line = w ++ s.line; is = f s.line s.is; says = says_hash p w h s.line t e s.says }

-- ---- the end

says_end : (p : Page) {l : List ℕ} → Says p l [] → l ≡ []
unfolding Says
says_end Page.Line c = same_end c refl
says_end Page.Sheet c = c

pub end_back : (p : Page) {r : Rest} → Stands p r [] → at_end r ≡ true
unfolding at_end
end_back p s = rw (s.is, says_end p s.says) refl
