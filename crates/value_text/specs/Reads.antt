-- Document 01, "Lines" and "The sheet": an anchor A is `(NUMBER HASH)` or `(NUMBER none)`; a skip X is `none`, `no-hash`, `(rpc N)` or
-- `(decode N)`; single spaces. Which words are hashes document 02, Job 3, says. Read from the front of a text, with a failure that stays.
use Rattle.std.specs.Prelude.{ℕ, List, Option, Some, None, cond}
use Rattle.hash.specs.declared.Hash.{Hash}
use Rattle.hash_text.specs.LineHashes.{line_hash}
use Rattle.hash_text.specs.SheetHashes.{sheet_hash}
use Rattle.head_values.specs.Words.{Word}
use Rattle.text.specs.Ascii.{ascii}
use Rattle.text.specs.Rests.{Rest, stopped, Took, after, word_here, says, past_word, read_number}
use Rattle.head_values.specs.declared.BalSkip.{BalSkip}
use Rattle.head_values.specs.declared.ReadAnchor.{ReadAnchor}
use Rattle.value_text.specs.Words.{word_text}
use Rattle.value_text.specs.declared.page.Page.{Page}

-- ---- how readers are joined

abbrev pub got : {A : Type 0} → A → Rest → Took A
got x r = record { value = x; next = r }

-- the word k says x; another word is left to the next reader
unfoldable pub or_word : {A : Type 0} → List ℕ → A → Rest → Took A → Took A
or_word k x r other = cond (says k r) (got x (past_word r)) other

unfoldable pub map : {A B : Type 0} → (A → B) → Took A → Took B
map f t = got (f t.value) t.next

-- and then the text k
unfoldable pub then : {A : Type 0} → List ℕ → Took A → Took A
then k t = got t.value (after k t.next)

-- ---- hashes

-- the hash that a word says, on a line and on a sheet
unfoldable pub hash_said : Page → List ℕ → Option Hash
hash_said Page.Line w = line_hash w
hash_said Page.Sheet w = sheet_hash w

unfoldable pub hash_got : Option Hash → Rest → Took Hash
hash_got (Some h) next = got h next
hash_got None next = got (record { w0 = 0; w1 = 0; w2 = 0; w3 = 0 }) stopped

-- HASH, one word
unfoldable pub read_hash : Page → Rest → Took Hash
read_hash p r = hash_got (hash_said p (word_here r)) (past_word r)

-- ---- anchors

-- HASH or `none`
unfoldable pub read_block_hash : Page → Rest → Took (Option Hash)
read_block_hash p r = or_word (word_text Word.none) None r (map Some (read_hash p r))

-- `(NUMBER HASH)` or `(NUMBER none)`
unfoldable pub read_anchor : Page → Rest → Took ReadAnchor
read_anchor p r =
    let n = read_number (after (ascii "(") r) in
    let h = read_block_hash p (after (ascii " ") n.next) in
    got (record { number = n.value; hash = h.value }) (after (ascii ")") h.next)

-- an anchor or `none`
unfoldable pub read_slot : Page → Rest → Took (Option ReadAnchor)
read_slot p r = or_word (word_text Word.none) None r (map Some (read_anchor p r))

-- ---- skips

-- ` NUMBER`
unfoldable pub spaced_number : Rest → Took ℕ
spaced_number r = read_number (after (ascii " ") r)

-- `rpc N)` or `decode N)`
unfoldable pub read_failure : Rest → Took BalSkip
read_failure r =
    let n = spaced_number (past_word r) in
    cond (says (word_text Word.rpc) r)
    (then (ascii ")") (map BalSkip.Rpc n))
    (cond (says (word_text Word.decode) r)
    (then (ascii ")") (map BalSkip.Decode n))
    (got BalSkip.Nothing stopped))

-- `none`, `no-hash`, `(rpc N)` or `(decode N)`
unfoldable pub read_skip : Rest → Took BalSkip
read_skip r =
    or_word (word_text Word.none) BalSkip.Nothing r
    (or_word (word_text Word.no_hash) BalSkip.NoHash r
    (read_failure (after (ascii "(") r)))
