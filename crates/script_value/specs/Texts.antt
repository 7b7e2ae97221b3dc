-- A name for the text of the counters, each after a space.
use Rattle.std.specs.Prelude.{ℕ, List, [], ◌++◌}
use Rattle.head_driver.specs.Answers.{stats_values}
use Rattle.text.specs.Ascii.{ascii}
use Rattle.text.specs.Decimals.{decimal}
use Rattle.value_text.specs.Values.{values_on}
use Rattle.head_count.specs.declared.HeadStats.{HeadStats}

unfoldable pub spaced_text : ℕ → List ℕ
spaced_text n = ascii " " ++ decimal n

unfoldable pub four_text : ℕ → ℕ → ℕ → ℕ → List ℕ
four_text a b c d = spaced_text a ++ (spaced_text b ++ (spaced_text c ++ spaced_text d))

unfoldable pub stats_text : HeadStats → List ℕ
stats_text s = values_on (stats_values s) []
