-- Nothing else is read: a line that writes a call is that call's own line, but for the case of hash digits. So two spaces, a missing bracket,
-- a leading zero, a capital in a keyword or a byte after the end make a line no call.
use Prim.Native.Nat.{ℕ}
use native.Mathlib.Omega.{arith}
use mathlib.Core.Path.{◌≡◌, refl, ap, ◌∙◌}
use mathlib.Core.Bool.{Bool, true, false}
use mathlib.Core.List.{List, [], ◌∷◌, ◌++◌}
use lib.ListN.{length}
use lib.Dec.{eqb, ltb}
use Rattle.std.specs.Prelude.{Option, Some, None, cond}
use Rattle.head_call.specs.declared.Call.{Call}
use Rattle.text.specs.Ascii.{ascii}
use Rattle.text.specs.Same.{same_text}
use Rattle.text.specs.Rests.{Rest, at, stopped, after, word_here, past_word, at_end}
use Rattle.text.proofs.Same.{same_eq}
use Rattle.value_text.proofs.Ranges.{chosen}
use Rattle.hash_text.specs.Cases.{ButForCase}
use Rattle.hash_text.proofs.Cases.{same_length, without_hash}
use Rattle.value_text.specs.declared.page.Page.{Page}
use Rattle.value_text.proofs.Only.{after_only, after_stood, past_only}
use Rattle.value_text.proofs.Stands.{stands, stood, to_line}
use Rattle.script_call.proofs.ValuesBack.{At}
use Rattle.script_call.proofs.ValuesOnly.{spaced_hash_stood, spaced_anchor_stood, spaced_number_stood, spaced_slot_stood, spaced_skip_stood}
use Rattle.script_call.specs.Calls.{ends, closed, spaced_ticket, spaced_list, deliver_call, claim_call, release_call, apply_call, snapshot_call, wait_call, resume_call, completion_call, link_call, report_call, stats_call, heads_call, sheet_call, call_named, later_named, call_here, call}
use Rattle.script_call.specs.Texts.{call_text, sheet_call_text}
use Rattle.script_call.specs.Statements.{CallExactly, CallLength, SheetExactly}
use Rattle.script_call.specs.declared.LineCall.{LineCall}
use Rattle.script_call.proofs.Back.{call_given, sheet_back}
use Rattle.script_call.proofs.Lengths.{length-call}
use Rattle.script_call.proofs.Ranges.{call_range}

-- ---- the end of a line

at_end_only : (r : Rest) → at_end r ≡ true → r ≡ at []
unfolding at_end
at_end_only (at []) e = refl
at_end_only (at (b ∷ s)) e = cc
at_end_only stopped e = cc

ends_only : (r : Rest) → ends r ≡ true → r ≡ at (ascii ")")
unfolding ends
ends_only r e = after_only (ascii ")") r [] (at_end_only _ e)

-- ---- a bracket, the word w and the rest r are the text s

record Stood (w : List ℕ) (r : Rest) (s : List ℕ) : Type 0 where
  rest : List ℕ
  is : At r rest
  text : ascii "(" ++ (w ++ rest) ≡ s

-- they are the own line of what was asked for
abbrev Own : List ℕ → Rest → Option LineCall → Type 0
Own w r None = Unit {0}
Own w r (Some LineCall.Sheet) = Stood w r sheet_call_text
Own w r (Some (LineCall.Make c)) = Stood w r (call_text c)

module _ (r : Rest) where
  closed_own : (w : List ℕ) (s : Rest) (c : Call) → (At s (ascii ")") → Stood w r (call_text c)) → Own w r (closed s c)
  unfolding closed
  closed_own w s c f = go (ends s) refl
    where
      go : (b : Bool) → ends s ≡ b → Own w r (cond b (Some (LineCall.Make c)) None)
      go true e = f (stands Page.Line (ends_only s e))
      go false e = tt

  -- ---- each call

  deliver_own : Own (ascii "deliver") r (deliver_call r)
  unfolding deliver_call call_text
  deliver_own = closed_own _ _ _ (λ e. record { rest = _; is = spaced_anchor_stood (spaced_hash_stood (spaced_number_stood e)); text = refl })

  claim_own : Own (ascii "claim") r (claim_call r)
  unfolding claim_call spaced_ticket call_text
  claim_own = closed_own _ _ _ (λ e. record { rest = _; is = spaced_anchor_stood (spaced_number_stood e); text = refl })

  release_own : Own (ascii "release") r (release_call r)
  unfolding release_call call_text
  release_own = closed_own _ _ _ (λ e. record { rest = _; is = spaced_number_stood (spaced_number_stood e); text = refl })

  apply_own : Own (ascii "apply") r (apply_call r)
  unfolding apply_call spaced_ticket spaced_list call_text
  apply_own =
      closed_own _ _ _ (λ e.
      let h = spaced_number_stood (spaced_number_stood (spaced_number_stood e)) in
      record { rest = _; is = spaced_anchor_stood (spaced_number_stood (spaced_anchor_stood (spaced_skip_stood h))); text = refl })

  snapshot_own : Own (ascii "snapshot") r (snapshot_call r)
  unfolding snapshot_call call_text
  snapshot_own = closed_own _ _ _ (λ e. record { rest = _; is = spaced_anchor_stood (spaced_number_stood e); text = refl })

  wait_own : Own (ascii "wait") r (wait_call r)
  unfolding wait_call call_text
  wait_own = closed_own _ _ _ (λ e. record { rest = _; is = spaced_number_stood (spaced_anchor_stood (spaced_number_stood e)); text = refl })

  resume_own : Own (ascii "resume") r (resume_call r)
  unfolding resume_call call_text
  resume_own = closed_own _ _ _ (λ e. record { rest = _; is = spaced_number_stood (spaced_number_stood e); text = refl })

  completion_own : Own (ascii "completion") r (completion_call r)
  unfolding completion_call call_text
  completion_own = closed_own _ _ _ (λ e. record { rest = _; is = spaced_anchor_stood e; text = refl })

  link_own : Own (ascii "link") r (link_call r)
  unfolding link_call call_text
  link_own = closed_own _ _ _ (λ e. record { rest = _; is = spaced_slot_stood (spaced_anchor_stood (spaced_hash_stood e)); text = refl })

  report_own : Own (ascii "report") r (report_call r)
  unfolding report_call call_text
  report_own = closed_own _ _ Call.Report (λ e. record { rest = _; is = e; text = refl })

  stats_own : Own (ascii "stats") r (stats_call r)
  unfolding stats_call call_text
  stats_own = closed_own _ _ Call.Stats (λ e. record { rest = _; is = e; text = refl })

  heads_own : Own (ascii "heads") r (heads_call r)
  unfolding heads_call call_text
  heads_own = closed_own _ _ Call.Heads (λ e. record { rest = _; is = e; text = refl })

  sheet_own : Own (ascii "sheet") r (sheet_call r)
  unfolding sheet_call sheet_call_text
  sheet_own = go (ends r) refl
    where
      go : (b : Bool) → ends r ≡ b → Own (ascii "sheet") r (cond b (Some LineCall.Sheet) None)
      go true e = record { rest = _; is = stands Page.Line (ends_only r e); text = refl }
      go false e = tt

  -- ---- the word that names the call

  module _ (w : List ℕ) where
    -- the word is k and names x, or it is not and names y
    by_name : (k : List ℕ) (x y : Option LineCall) → Own k r x → Own w r y → Own w r (cond (same_text w k) x y)
    by_name k x y f g = go (same_text w k) refl
      where
        go : (b : Bool) → same_text w k ≡ b → Own w r (cond b x y)
        go true e = rw (same_eq w k e) f
        go false e = g

    later_own : Own w r (later_named w r)
    unfolding later_named
    later_own =
        by_name (ascii "completion") _ _ completion_own
        (by_name (ascii "link") _ _ link_own
        (by_name (ascii "report") _ _ report_own
        (by_name (ascii "stats") _ _ stats_own
        (by_name (ascii "heads") _ _ heads_own
        (by_name (ascii "sheet") _ None sheet_own
        tt)))))

    named_own : Own w r (call_named w r)
    unfolding call_named
    named_own =
        by_name (ascii "deliver") _ _ deliver_own
        (by_name (ascii "claim") _ _ claim_own
        (by_name (ascii "release") _ _ release_own
        (by_name (ascii "apply") _ _ apply_own
        (by_name (ascii "snapshot") _ _ snapshot_own
        (by_name (ascii "wait") _ _ wait_own
        (by_name (ascii "resume") _ _ resume_own
        later_own))))))

-- ---- lines

-- the line is the own line of what it asks for
abbrev OwnLine : List ℕ → Option LineCall → Type 0
OwnLine l None = Unit {0}
OwnLine l (Some LineCall.Sheet) = l ≡ sheet_call_text
OwnLine l (Some (LineCall.Make c)) = ButForCase l (call_text c)

module _ (l : List ℕ) where
  abbrev word_of : List ℕ
  word_of = word_here (after (ascii "(") (at l))

  abbrev rest_of : Rest
  rest_of = past_word (after (ascii "(") (at l))

  whole : (s : List ℕ) → Stood word_of rest_of s → ButForCase l s
  whole s k = rw k.text at (to_line (after_stood Page.Line (ascii "(") (stood Page.Line word_of (past_only (after (ascii "(") (at l))) k.is)))

  line_own : (q : Option LineCall) → Own word_of rest_of q → OwnLine l q
  unfolding sheet_call_text
  line_own None k = tt
  line_own (Some LineCall.Sheet) k = without_hash (ascii "(sheet)") refl (whole (ascii "(sheet)") k)
  line_own (Some (LineCall.Make c)) k = whole (call_text c) k

  call_own : OwnLine l (call l)
  unfolding call call_here
  call_own =
      chosen (OwnLine l) (eqb (length l) 0) None _ tt
      (chosen (OwnLine l) (ltb 512 (length l)) None _ tt
      (line_own (call_here (after (ascii "(") (at l))) (named_own rest_of word_of)))

pub call_only : (l : List ℕ) (c : Call) → call l ≡ Some (LineCall.Make c) → ButForCase l (call_text c)
call_only l c e = rw e at (call_own l)

pub sheet_only : (l : List ℕ) → call l ≡ Some LineCall.Sheet → l ≡ sheet_call_text
sheet_only l e = rw e at (call_own l)

pub sheet_exactly : SheetExactly
sheet_exactly l = (λ e. sheet_only l e, λ e. ap call e ∙ sheet_back)

pub call_exactly : CallExactly
call_exactly l c = (λ e. (call_only l c e, rw e at (call_range l)), λ h. call_given l c h.1 h.0)

-- the case of a digit takes no byte
pub call_length : CallLength
unfolding sheet_call_text
call_length l (LineCall.Make c) e = omega (arith, same_length (call_only l c e), length-call c)
call_length l LineCall.Sheet e = omega (arith, ap length (sheet_only l e))
