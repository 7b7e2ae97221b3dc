-- Document 02, Job 3: "letter case varies by tool"; a hash on a line has digits "of either case". So several lines may be one call.
use Rattle.std.specs.Prelude.{ℕ, List, [], ◌∷◌, ◌++◌, ◌≡◌, map}
use Rattle.std.specs.Char.{to_ascii_lowercase}
use Rattle.hash.specs.declared.Hash.{Hash}
use Rattle.hash_text.specs.Hex.{hex_text}
use Rattle.hash_text.specs.Texts.{hash_prefix, hash_text}

-- the word is the hash's text but for the case of its digits
pub record Cased (word : List ℕ) (h : Hash) : Type 0 where
  pub digits : List ℕ
  pub is : word ≡ hash_prefix ++ digits
  pub same : map to_ascii_lowercase digits ≡ hex_text h

-- The line l is the text t but for the case of hash digits: they have the same bytes, but where t has the text of a hash, l has that text
-- but for the case of its digits.
pub data ButForCase : List ℕ → List ℕ → Type 0 where
  end : ButForCase [] []
  byte : (b : ℕ) {l t : List ℕ} → ButForCase l t → ButForCase (b ∷ l) (b ∷ t)
  hash : (word : List ℕ) (h : Hash) {l t : List ℕ} → Cased word h → ButForCase l t → ButForCase (word ++ l) (hash_text h ++ t)
