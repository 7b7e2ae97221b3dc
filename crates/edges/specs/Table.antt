-- Document 01, "Edges": E1 to E12, in the writing of document 02, Jobs 1 and 3. Each is a run from a new driver; beside each line stands
-- what it prints.
use Rattle.std.specs.Prelude.{ℕ, List, [], ◌∷◌, ◌++◌}
use Rattle.text.specs.Ascii.{ascii}
use Rattle.edges.specs.Runs.{Line}

-- Z is `0x` and 64 zeros
abbrev Z : List ℕ
Z = ascii "0x0000000000000000000000000000000000000000000000000000000000000000"

-- Y is another hash, as it is written; typed_Y the same hash, as a desk may type it
abbrev Y : List ℕ
Y = ascii "0x00000000000000000000000000000000000000000000000000000000000000a1"

abbrev typed_Y : List ℕ
typed_Y = ascii "0x00000000000000000000000000000000000000000000000000000000000000A1"

infix 1 ◌prints◌
abbrev ◌prints◌ : List ℕ → List ℕ → Line
line prints text = record { line = line; prints = text }

unfoldable pub table : List (List Line)
table =
    -- E1 parent 2^64 - 1, child 0, equal hash: not-consecutive
    ((ascii "(link (18446744073709551615 " ++ Z ++ ascii ") (0 none) " ++ Z ++ ascii ")" prints ascii "(link not-consecutive)\n")
    ∷ [])
    -- E2 9 then 10 without hash: hash-unknown
    ∷ ((ascii "(link (9 none) (10 none) " ++ Z ++ ascii ")" prints ascii "(link hash-unknown)\n")
    ∷ [])
    -- E3 other hash: hash-mismatch
    ∷ ((ascii "(link (9 " ++ Z ++ ascii ") (10 none) " ++ typed_Y ++ ascii ")" prints ascii "(link hash-mismatch)\n")
    ∷ [])
    -- E4 equal: linked
    ∷ ((ascii "(link (9 " ++ Z ++ ascii ") (10 none) " ++ Z ++ ascii ")" prints ascii "(link linked)\n")
    ∷ [])
    -- E5 new driver, claim `(7 none)` 1: 11 naming `(7 none)`, sheet unchanged
    ∷ ((ascii "(sheet)" prints ascii "(count 0 0 0 0 0 0 0 0 0)\n(current none)\n(superseded none)\n(installed none)\n(previous none)\n")
    ∷ (ascii "(claim (7 none) 1)" prints ascii "(refused 11 (7 none))\n")
    ∷ (ascii "(sheet)" prints ascii "(count 0 0 0 0 0 0 0 0 0)\n(current none)\n(superseded none)\n(installed none)\n(previous none)\n")
    ∷ [])
    -- E6 apply: the same, discarded 1
    ∷ ((ascii "(sheet)" prints ascii "(count 0 0 0 0 0 0 0 0 0)\n(current none)\n(superseded none)\n(installed none)\n(previous none)\n")
    ∷ (ascii "(apply (7 none) 1 (7 none) no-hash 60 0 90)" prints ascii "(refused 11 (7 none))\n")
    ∷ (ascii "(sheet)" prints ascii "(count 0 0 0 0 0 1 0 0 0)\n(current none)\n(superseded none)\n(installed none)\n(previous none)\n")
    ∷ [])
    -- E7 same anchor, other parent hash: ticket 2, superseded 1
    ∷ ((ascii "(deliver (7 none) " ++ Z ++ ascii " 50)" prints ascii "(ticket 1)\n")
    ∷ (ascii "(deliver (7 none) " ++ typed_Y ++ ascii " 51)" prints ascii "(ticket 2)\n")
    ∷ (ascii "(stats)" prints ascii "(stats 2 0 1 0 0 0 0 0)\n")
    ∷ [])
    -- E8 same parent: ticket 1, repeated 1
    ∷ ((ascii "(deliver (7 none) " ++ Z ++ ascii " 50)" prints ascii "(ticket 1)\n")
    ∷ (ascii "(deliver (7 none) " ++ Z ++ ascii " 51)" prints ascii "(ticket 1)\n")
    ∷ (ascii "(stats)" prints ascii "(stats 1 1 0 0 0 0 0 0)\n")
    ∷ [])
    -- E9 release with epoch 2 against 1: sheet unchanged
    ∷ ((ascii "(deliver (7 none) " ++ Z ++ ascii " 50)" prints ascii "(ticket 1)\n")
    ∷ (ascii "(claim (7 none) 1)" prints ascii "(claimed 1)\n")
    ∷ (ascii "(sheet)" prints ascii "(count 1 0 0 0 0 0 0 0 1)\n(current preparing (7 none) " ++ Z ++ ascii " 50)\n(superseded none)\n(installed none)\n(previous none)\n")
    ∷ (ascii "(release 1 2)" prints ascii "(done)\n")
    ∷ (ascii "(sheet)" prints ascii "(count 1 0 0 0 0 0 0 0 1)\n(current preparing (7 none) " ++ Z ++ ascii " 50)\n(superseded none)\n(installed none)\n(previous none)\n")
    ∷ [])
    -- E10 waiter 15 accepted, 16 refused 3
    ∷ ((ascii "(wait 15 (7 none) 51)" prints ascii "(view spare 51 undelivered)\n")
    ∷ (ascii "(wait 16 (7 none) 51)" prints ascii "(refused 3)\n")
    ∷ (ascii "(resume 16 51)" prints ascii "(refused 3)\n")
    ∷ (ascii "(deliver (7 none) " ++ Z ++ ascii " 50)" prints ascii "(ticket 1)\n")
    ∷ (ascii "(claim (7 none) 1)" prints ascii "(claimed 1)\n")
    ∷ (ascii "(wait 15 (7 none) 52)" prints ascii "(parked)\n")
    ∷ (ascii "(resume 15 53)" prints ascii "(parked)\n")
    ∷ [])
    -- E11 the worked run of document 01
    ∷ ((ascii "(deliver (7 none) " ++ Z ++ ascii " 50)" prints ascii "(ticket 1)\n")
    ∷ (ascii "(wait 0 (7 none) 51)" prints ascii "(view provisional 50 abandoned)\n")
    ∷ (ascii "(claim (7 none) 1)" prints ascii "(claimed 1)\n")
    ∷ (ascii "(wait 0 (7 none) 52)" prints ascii "(parked)\n")
    ∷ (ascii "(release 1 1)" prints ascii "(done)\n")
    ∷ (ascii "(resume 0 53)" prints ascii "(view provisional 50 abandoned)\n")
    ∷ (ascii "(apply (7 none) 1 (7 none) no-hash 60 0 90)" prints ascii "(settled (cold no-parent no-hash))\n")
    ∷ (ascii "(sheet)" prints ascii "(count 1 0 0 1 0 0 0 2 2)\n(current settled (7 none) " ++ Z ++ ascii " ((cold no-parent no-hash) 90))\n(superseded none)\n(installed (7 none) 60 1 (cold no-parent no-hash))\n(previous none)\n")
    ∷ [])
    -- E12 abandoned, then a carried retry, then resume: spare, `abandoned`, ready-views plus 1
    ∷ ((ascii "(deliver (9 " ++ Z ++ ascii ") " ++ typed_Y ++ ascii " 50)" prints ascii "(ticket 1)\n")
    ∷ (ascii "(apply (9 " ++ Z ++ ascii ") 1 (9 " ++ Z ++ ascii ") none 60 0 90)" prints ascii "(settled (cold no-parent none))\n")
    ∷ (ascii "(deliver (10 " ++ typed_Y ++ ascii ") " ++ Z ++ ascii " 51)" prints ascii "(ticket 2)\n")
    ∷ (ascii "(claim (10 " ++ Y ++ ascii ") 2)" prints ascii "(claimed 1)\n")
    ∷ (ascii "(wait 0 (10 " ++ Y ++ ascii ") 52)" prints ascii "(parked)\n")
    ∷ (ascii "(release 2 1)" prints ascii "(done)\n")
    ∷ (ascii "(claim (10 " ++ typed_Y ++ ascii ") 2)" prints ascii "(claimed 2)\n")
    ∷ (ascii "(apply (10 " ++ Y ++ ascii ") 2 (10 " ++ typed_Y ++ ascii ") none 61 1 91)" prints ascii "(settled (carried 1))\n")
    ∷ (ascii "(stats)" prints ascii "(stats 2 0 0 2 0 0 0 0)\n")
    ∷ (ascii "(resume 0 53)" prints ascii "(view spare 53 abandoned)\n")
    ∷ (ascii "(stats)" prints ascii "(stats 2 0 0 2 0 0 1 0)\n")
    ∷ [])
    ∷ []
