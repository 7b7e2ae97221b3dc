-- The eight counters, four and four.
use Prim.Native.Nat.{ℕ}
use mathlib.Core.List.{List, ◌++◌, append_assoc, append-nil}
use mathlib.Core.Path.{◌≡◌}
use Rattle.head_driver.specs.Answers.{stats_values}
use Rattle.text.specs.Decimals.{decimal}
use Rattle.head_count.specs.declared.HeadStats.{HeadStats}
use Rattle.script_value.specs.Texts.{four_text, spaced_text, stats_text}
use Rattle.value_text.specs.Values.{value_text, values_on}

four : (a b c d t : List ℕ) → (a ++ (b ++ (c ++ d))) ++ t ≡ a ++ (b ++ (c ++ (d ++ t)))
four a b c d t = simp append_assoc

pub stats_split : (s : HeadStats) → four_text s.delivered s.repeated s.superseded s.settled ++ four_text s.already_current s.discarded s.ready_views s.cold_views ≡ stats_text s
unfolding four_text spaced_text stats_text stats_values values_on value_text
stats_split s =
    rw (append-nil (decimal s.cold_views))
    (four (spaced_text s.delivered) (spaced_text s.repeated) (spaced_text s.superseded) (spaced_text s.settled)
    (four_text s.already_current s.discarded s.ready_views s.cold_views))
