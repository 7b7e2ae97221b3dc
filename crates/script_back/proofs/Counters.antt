-- Counters are read back.
use Prim.Native.Nat.{ℕ}
use mathlib.Core.List.{List, ◌++◌, append_assoc}
use mathlib.Core.Path.{◌≡◌, refl}
use Rattle.hash.specs.Ranges.{Fits}
use Rattle.head_driver.specs.Answers.{stats_values}
use Rattle.script_value.specs.Texts.{spaced_text, stats_text}
use Rattle.value_text.proofs.Back.{spaced_number_back}
use Rattle.value_text.specs.Reads.{got, spaced_number}
use Rattle.value_text.specs.Values.{value_text, values_on}
use Rattle.text.specs.Rests.{at}
use Rattle.text.specs.Words.{in_word, run}
use Rattle.head_count.specs.declared.HeadStats.{HeadStats}
use Rattle.head_count.specs.Ranges.{StatsFit}
use Rattle.sheet_read.specs.Values.{read_stats}

pub spaced_back : (n : ℕ) (t : List ℕ) → Fits n → run t ≡ 0 → spaced_number (at (spaced_text n ++ t)) ≡ got n (at t)
unfolding spaced_text
spaced_back n t f z = spaced_number_back n t f z

-- a space ends a word
pub spaced_run : (n : ℕ) (t : List ℕ) → run (spaced_text n ++ t) ≡ 0
unfolding spaced_text run in_word
spaced_run n t = refl

pub stats_form : (s : HeadStats) (t : List ℕ)
    → stats_text s ++ t ≡ spaced_text s.delivered ++ (spaced_text s.repeated ++ (spaced_text s.superseded ++ (spaced_text s.settled
    ++ (spaced_text s.already_current ++ (spaced_text s.discarded ++ (spaced_text s.ready_views ++ (spaced_text s.cold_views ++ t)))))))
unfolding stats_text stats_values values_on value_text spaced_text
stats_form s t = simp (append_assoc)

pub stats_back : (s : HeadStats) (t : List ℕ) → StatsFit s → run t ≡ 0 → read_stats (at (stats_text s ++ t)) ≡ got s (at t)
unfolding read_stats
stats_back s t f z = rw (stats_form s t) (simp (spaced_back, spaced_run, f.0, f.1, f.2, f.3, f.4, f.5, f.6, f.7))
