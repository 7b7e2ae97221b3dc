-- How an answer's line is cut: a bracket, a word, and the rest.
use Prim.Native.Nat.{ℕ, zero, suc}
use mathlib.Core.List.{List, [], ◌∷◌, ◌++◌, append_assoc}
use mathlib.Core.Path.{◌≡◌, refl, ap, ◌∙◌}
use lib.ListN.{length}
use Rattle.head_values.specs.Values.{Value}
use Rattle.head_driver.specs.Answers.{said}
use Rattle.script_answer.specs.Answers.{answer_line}
use Rattle.script_value.specs.Lines.{answer_text, refusal_on, said_text}
use Rattle.value_text.specs.Reads.{then}
use Rattle.value_text.specs.Values.{value_text, values_on}
use Rattle.value_text.specs.Words.{word_text}
use Rattle.text.proofs.Back.{past_back, word_back}
use Rattle.text.specs.Ascii.{ascii}
use Rattle.text.specs.Decimals.{decimal}
use Rattle.text.specs.Rests.{after, at, after_byte}
use Rattle.text.specs.Words.{run}
use Rattle.head_driver.specs.declared.Answer.{Answer}
use Rattle.answer_back.specs.Reads.{answer_named, read_answer}

values_append : (vs : List Value) (s t : List ℕ) → values_on vs s ++ t ≡ values_on vs (s ++ t)
unfolding values_on
values_append [] s t = refl
values_append (v ∷ vs) s t =
    let e : value_text v ++ (values_on vs s ++ t) ≡ value_text v ++ values_on vs (s ++ t) = rw (values_append vs s t) in
    ap (λ (r : List ℕ). ascii " " ++ r) (append_assoc (value_text v) (values_on vs s) t ∙ e)

refusal_append : (n : ℕ) (s t : List ℕ) → refusal_on n s ++ t ≡ refusal_on n (s ++ t)
unfolding refusal_on
refusal_append zero s t = refl
refusal_append (suc n) s t = ap (λ (r : List ℕ). ascii " " ++ r) (append_assoc (decimal (suc n)) s t)

pub line_form : (a : Answer) → answer_line a ≡ ascii "(" ++ (word_text (said a).word ++ refusal_on (said a).number (values_on (said a).values (ascii ")\n")))
unfolding answer_line answer_text said_text
line_form a =
    let s = said a in
    let e : refusal_on s.number (values_on s.values (ascii ")")) ++ ascii "\n" ≡ refusal_on s.number (values_on s.values (ascii ")\n")) = refusal_append s.number _ _ ∙ ap (refusal_on s.number) (values_append s.values (ascii ")") (ascii "\n")) in
    ap (λ (r : List ℕ). ascii "(" ++ r) (append_assoc (word_text s.word) _ (ascii "\n") ∙ ap (λ (r : List ℕ). word_text s.word ++ r) e)

pub named : (w t : List ℕ) → run w ≡ length w → run t ≡ 0 → read_answer (at (ascii "(" ++ (w ++ t))) ≡ then (ascii ")\n") (answer_named w (at t))
unfolding read_answer after after_byte
named w t e z = rw (word_back w t e z, past_back w t e z)
