-- A line that is a call's own text but for the case of hash digits is read as that call, for every call that a line can write.
use Prim.Native.Nat.{ℕ, ◌≤◌}
use native.Mathlib.Omega.{arith}
use mathlib.Core.Path.{◌≡◌, refl, ◌∙◌}
use mathlib.Core.Bool.{true}
use mathlib.Core.List.{List, ◌++◌}
use lib.ListN.{length}
use borrow.Author.Tests.{ne_eqb, le-ltb}
use Rattle.std.specs.Prelude.{Option, Some}
use Rattle.head_call.specs.declared.Call.{Call}
use Rattle.head_current.specs.declared.HeadTicket.{HeadTicket}
use Rattle.head_values.specs.declared.PreparedBal.{PreparedBal}
use Rattle.hash.specs.declared.Hash.{Hash}
use Rattle.head_current.specs.declared.PrepareClaim.{PrepareClaim}
use Rattle.head_values.specs.declared.ReadAnchor.{ReadAnchor}
use Rattle.text.specs.Ascii.{ascii}
use Rattle.text.specs.Decimals.{decimal}
use Rattle.hash_text.specs.Texts.{hash_text}
use Rattle.value_text.specs.Texts.{anchor_text, skip_text, slot_text}
use Rattle.text.specs.Words.{in_word, run}
use Rattle.text.specs.Same.{same_text}
use Rattle.text.specs.Rests.{Rest, after, at, past_word}
use Rattle.hash_text.specs.Cases.{ButForCase}
use Rattle.hash_text.proofs.Cases.{NoHashIn, same_length, same_line}
use Rattle.value_text.specs.declared.page.Page.{Page}
use Rattle.value_text.proofs.Stands.{byte_back, end_back, from_line, keyword_back}
use Rattle.script_call.proofs.ValuesBack.{At, anchor_given, hash_given, number_given, skip_given, slot_given}
use Rattle.script_call.specs.Calls.{ends, closed, spaced_ticket, spaced_list, deliver_call, claim_call, release_call, apply_call, snapshot_call, wait_call, resume_call, completion_call, link_call, report_call, stats_call, heads_call, sheet_call, call_named, later_named, call_here, call}
use Rattle.script_call.specs.Texts.{call_text, sheet_call_text}
use Rattle.head_call.specs.Ranges.{Writable}
use Rattle.script_call.specs.declared.LineCall.{LineCall}
use Rattle.script_call.proofs.Lengths.{length-call}

-- ---- the end of a line

end_given : (r : Rest) → At r (ascii ")") → ends r ≡ true
unfolding ends after
end_given r k = end_back Page.Line (byte_back Page.Line 41 (λ q. omega arith) k)

closed_given : (r : Rest) (c : Call) → At r (ascii ")") → closed r c ≡ Some (LineCall.Make c)
unfolding closed
closed_given r c k = rw (end_given r k) refl

-- ---- each call, after its keyword

module _ {r : Rest} where
  deliver_given : (a : ReadAnchor) (p : Hash) (h : ℕ) → Writable (Call.Deliver a p h)
      → At r (ascii " " ++ (anchor_text a ++ (ascii " " ++ (hash_text p ++ (ascii " " ++ (decimal h ++ ascii ")"))))))
      → deliver_call r ≡ Some (LineCall.Make (Call.Deliver a p h))
  unfolding deliver_call run in_word
  deliver_given a p h f k =
      let x = anchor_given a f.0 k in
      let y = hash_given p f.1 refl x.next in
      let z = number_given h f.2 refl y.next in
      rw (x.value, y.value, z.value) (closed_given _ (Call.Deliver a p h) z.next)

  claim_given : (ticket : HeadTicket) → Writable (Call.Claim ticket)
      → At r (ascii " " ++ (anchor_text ticket.anchor ++ (ascii " " ++ (decimal ticket.seq.0 ++ ascii ")"))))
      → claim_call r ≡ Some (LineCall.Make (Call.Claim ticket))
  unfolding claim_call spaced_ticket run in_word
  claim_given ticket f k =
      let x = anchor_given ticket.anchor f.0 k in
      let y = number_given ticket.seq.0 f.1 refl x.next in
      rw (x.value, y.value) (closed_given _ (Call.Claim ticket) y.next)

  release_given : (owner : PrepareClaim) → Writable (Call.Release owner)
      → At r (ascii " " ++ (decimal owner.seq.0 ++ (ascii " " ++ (decimal owner.epoch.0 ++ ascii ")"))))
      → release_call r ≡ Some (LineCall.Make (Call.Release owner))
  unfolding release_call run in_word
  release_given owner f k =
      let x = number_given owner.seq.0 f.0 refl k in
      let y = number_given owner.epoch.0 f.1 refl x.next in
      rw (x.value, y.value) (closed_given _ (Call.Release owner) y.next)

  apply_given : (ticket : HeadTicket) (list : PreparedBal) (h c report : ℕ) → Writable (Call.Apply ticket list h c report)
      → At r (ascii " "
      ++ (anchor_text ticket.anchor ++ (ascii " "
      ++ (decimal ticket.seq.0 ++ (ascii " "
      ++ (anchor_text list.anchor ++ (ascii " "
      ++ (skip_text list.skip ++ (ascii " "
      ++ (decimal h ++ (ascii " "
      ++ (decimal c ++ (ascii " "
      ++ (decimal report ++ ascii ")"))))))))))))))
      → apply_call r ≡ Some (LineCall.Make (Call.Apply ticket list h c report))
  unfolding apply_call spaced_ticket spaced_list run in_word
  apply_given ticket list h c report f k =
      let x₁ = anchor_given ticket.anchor f.0 k in
      let x₂ = number_given ticket.seq.0 f.1 refl x₁.next in
      let x₃ = anchor_given list.anchor f.2 x₂.next in
      let x₄ = skip_given list.skip f.3 refl x₃.next in
      let x₅ = number_given h f.4 refl x₄.next in
      let x₆ = number_given c f.5 refl x₅.next in
      let x₇ = number_given report f.6 refl x₆.next in
      rw (x₁.value, x₂.value, x₃.value, x₄.value, x₅.value, x₆.value, x₇.value)
      (closed_given _ (Call.Apply ticket list h c report) x₇.next)

  snapshot_given : (a : ReadAnchor) (h : ℕ) → Writable (Call.Snapshot a h)
      → At r (ascii " " ++ (anchor_text a ++ (ascii " " ++ (decimal h ++ ascii ")"))))
      → snapshot_call r ≡ Some (LineCall.Make (Call.Snapshot a h))
  unfolding snapshot_call run in_word
  snapshot_given a h f k =
      let x = anchor_given a f.0 k in
      let y = number_given h f.1 refl x.next in
      rw (x.value, y.value) (closed_given _ (Call.Snapshot a h) y.next)

  wait_given : (n : ℕ) (a : ReadAnchor) (h : ℕ) → Writable (Call.Wait n a h)
      → At r (ascii " " ++ (decimal n ++ (ascii " " ++ (anchor_text a ++ (ascii " " ++ (decimal h ++ ascii ")"))))))
      → wait_call r ≡ Some (LineCall.Make (Call.Wait n a h))
  unfolding wait_call run in_word
  wait_given n a h f k =
      let x = number_given n f.0 refl k in
      let y = anchor_given a f.1 x.next in
      let z = number_given h f.2 refl y.next in
      rw (x.value, y.value, z.value) (closed_given _ (Call.Wait n a h) z.next)

  resume_given : (n h : ℕ) → Writable (Call.Resume n h)
      → At r (ascii " " ++ (decimal n ++ (ascii " " ++ (decimal h ++ ascii ")"))))
      → resume_call r ≡ Some (LineCall.Make (Call.Resume n h))
  unfolding resume_call run in_word
  resume_given n h f k =
      let x = number_given n f.0 refl k in
      let y = number_given h f.1 refl x.next in
      rw (x.value, y.value) (closed_given _ (Call.Resume n h) y.next)

  completion_given : (a : ReadAnchor) → Writable (Call.Completion a) → At r (ascii " " ++ (anchor_text a ++ ascii ")"))
      → completion_call r ≡ Some (LineCall.Make (Call.Completion a))
  unfolding completion_call
  completion_given a f k = let x = anchor_given a f k in rw x.value (closed_given _ (Call.Completion a) x.next)

  link_given : (parent : Option ReadAnchor) (a : ReadAnchor) (p : Hash) → Writable (Call.Link parent a p)
      → At r (ascii " " ++ (slot_text parent ++ (ascii " " ++ (anchor_text a ++ (ascii " " ++ (hash_text p ++ ascii ")"))))))
      → link_call r ≡ Some (LineCall.Make (Call.Link parent a p))
  unfolding link_call run in_word
  link_given parent a p f k =
      let x = slot_given parent f.0 refl k in
      let y = anchor_given a f.1 x.next in
      let z = hash_given p f.2 refl y.next in
      rw (x.value, y.value, z.value) (closed_given _ (Call.Link parent a p) z.next)

-- ---- a line: a bracket, a keyword, and what follows it

record AfterWord (w : List ℕ) (l t : List ℕ) : Type 0 where
  rest : Rest
  later : At rest t
  named : call l ≡ call_named w rest

after_word : (l w t : List ℕ) → NoHashIn w → run w ≡ length w → run t ≡ 0 → ButForCase l (ascii "(" ++ (w ++ t))
    → length (ascii "(" ++ (w ++ t)) ≤ 512 → AfterWord w l t
unfolding call call_here after
after_word l w t x e z c h =
    let n = same_length c in
    let k = keyword_back Page.Line w x e z (byte_back Page.Line 40 (λ q. omega arith) (from_line c)) in
    record {
      rest = past_word (after (ascii "(") (at l));
      later = k.next;
      named = rw (ne_eqb (length l) 0 (λ q. omega (arith, n)), le-ltb 512 (length l) (omega (arith, n, h)), k.here) refl;
    }

short : (c : Call) → length (call_text c) ≤ 512
short c = omega (arith, length-call c)

pub call_given : (l : List ℕ) (c : Call) → Writable c → ButForCase l (call_text c) → call l ≡ Some (LineCall.Make c)
unfolding call_text call_named later_named same_text run in_word report_call stats_call heads_call
call_given l (Call.Deliver a p h) f k =
    let w = after_word l (ascii "deliver") _ refl refl refl k (short (Call.Deliver a p h)) in w.named ∙ deliver_given a p h f w.later
call_given l (Call.Claim ticket) f k =
    let w = after_word l (ascii "claim") _ refl refl refl k (short (Call.Claim ticket)) in w.named ∙ claim_given ticket f w.later
call_given l (Call.Release owner) f k =
    let w = after_word l (ascii "release") _ refl refl refl k (short (Call.Release owner)) in w.named ∙ release_given owner f w.later
call_given l (Call.Apply ticket list h c report) f k =
    let w = after_word l (ascii "apply") _ refl refl refl k (short (Call.Apply ticket list h c report)) in
    w.named ∙ apply_given ticket list h c report f w.later
call_given l (Call.Snapshot a h) f k =
    let w = after_word l (ascii "snapshot") _ refl refl refl k (short (Call.Snapshot a h)) in w.named ∙ snapshot_given a h f w.later
call_given l (Call.Wait n a h) f k =
    let w = after_word l (ascii "wait") _ refl refl refl k (short (Call.Wait n a h)) in w.named ∙ wait_given n a h f w.later
call_given l (Call.Resume n h) f k =
    let w = after_word l (ascii "resume") _ refl refl refl k (short (Call.Resume n h)) in w.named ∙ resume_given n h f w.later
call_given l (Call.Completion a) f k =
    let w = after_word l (ascii "completion") _ refl refl refl k (short (Call.Completion a)) in w.named ∙ completion_given a f w.later
call_given l (Call.Link parent a p) f k =
    let w = after_word l (ascii "link") _ refl refl refl k (short (Call.Link parent a p)) in w.named ∙ link_given parent a p f w.later
call_given l Call.Report f k =
    let w = after_word l (ascii "report") _ refl refl refl k (short Call.Report) in w.named ∙ closed_given w.rest Call.Report w.later
call_given l Call.Stats f k =
    let w = after_word l (ascii "stats") _ refl refl refl k (short Call.Stats) in w.named ∙ closed_given w.rest Call.Stats w.later
call_given l Call.Heads f k =
    let w = after_word l (ascii "heads") _ refl refl refl k (short Call.Heads) in w.named ∙ closed_given w.rest Call.Heads w.later

-- a call's own line is one of them
pub call_back : (c : Call) → Writable c → call (call_text c) ≡ Some (LineCall.Make c)
call_back c f = call_given (call_text c) c f (same_line (call_text c))

pub sheet_back : call sheet_call_text ≡ Some LineCall.Sheet
unfolding sheet_call_text call_named later_named same_text run in_word sheet_call
sheet_back =
    let w = after_word (ascii "(sheet)") (ascii "sheet") (ascii ")") refl refl refl (same_line (ascii "(sheet)")) (omega arith) in
    w.named ∙ rw (end_given w.rest w.later) refl
