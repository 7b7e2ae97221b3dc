-- Document 01, "Turned away by the input", "Turned away by the state", and the numbers of document 02's jobs: each condition in its words,
-- which call tests which, and what a refusal changes.
use Rattle.head_ready.specs.declared.Generation.{Generation}
use Rattle.head_current.specs.declared.HeadDelivery.{HeadDelivery}
use Rattle.std.specs.Prelude.{ℕ, ◌<◌, Bool, true, false, List, [], ◌∷◌, ◌↔◌, ◌⊎◌, ◌≡◌, eqb, length, Option, Some, None, cond}
use Rattle.head_count.specs.Counters.{stats_of, up}
use Rattle.head_current.specs.Heads.{delivery}
use Rattle.head_life.specs.State.{with_stats}
use Rattle.head_waits.specs.Parts.{waiter_at}
use Rattle.hash_text.specs.Cases.{ButForCase}
use Rattle.script_call.specs.Calls.{call}
use Rattle.head_call.specs.Ranges.{Writable}
use Rattle.script_call.specs.Texts.{call_text}
use Rattle.rebuild.specs.Rebuilds.{Taken}
use Rattle.text.specs.Ascii.{ascii}
use Rattle.head_values.specs.declared.BalSkip.{BalSkip}
use Rattle.head_values.specs.declared.PreparedBal.{PreparedBal}
use Rattle.head_values.specs.declared.ReadAnchor.{ReadAnchor}
use Rattle.head_count.specs.declared.HeadStats.{HeadStats}
use Rattle.head_attempt.specs.declared.Waiter.{Waiter}
use Rattle.head_current.specs.declared.CurrentHead.{CurrentHead}
use Rattle.head_current.specs.declared.HeadTicket.{HeadTicket}
use Rattle.head_driver.specs.declared.Driver.{Driver}
use Rattle.head_call.specs.declared.Call.{Call}
use Rattle.script_call.specs.declared.LineCall.{LineCall}

-- a condition: where it applies, the number of the refusal and the anchors that it names
pub record Test : Type 1 where
  pub applies : Type 0
  pub number : ℕ
  pub names : List ReadAnchor

abbrev pub test : Type 0 → ℕ → List ReadAnchor → Test
test applies number names = record { applies = applies; number = number; names = names }

-- ---- turned away by the input

-- 1 line is no call: it is not `(sheet)`, and no call's own text but for the case of hash digits, the call's numbers and the words of its
-- hashes below 2^64
abbrev pub no_call : List ℕ → Test
no_call line = test ((¬ (line ≡ ascii "(sheet)")) × ((c : Call) → Writable c → ¬ ButForCase line (call_text c))) 1 []

-- 2 list and anchor disagree on `no-hash`: it is not so that the skip is `no-hash` exactly when the anchor has no hash
abbrev pub at_odds : PreparedBal → Test
at_odds list = test (¬ ((list.skip ≡ BalSkip.NoHash) ↔ (list.anchor.hash ≡ None))) 2 []

-- 3 waiter number above 15
abbrev pub no_waiter : ℕ → Test
no_waiter n = test (15 < n) 3 []

-- 4 sheet buffer shorter than 4,096 bytes
abbrev pub too_short : List ℕ → Test
too_short buffer = test (length buffer < 4096) 4 []

-- Document 02, Job 2: "5 for bytes not taken", those to rebuild a driver from: there is no driver whose sheet form they are and that meets
-- the rules
abbrev pub not_taken : List ℕ → Test
not_taken bytes = test ((x : Driver) → ¬ Taken bytes x) 5 []

-- ---- turned away by the state

-- 11 superseded: no current head (names the ticket's anchor), or ticket's anchor or seq is not the current head's (names the current anchor)
abbrev pub superseded : Option HeadDelivery → HeadTicket → Test
superseded None ticket = test (Unit {0}) 11 (ticket.anchor ∷ [])
superseded (Some held) ticket = test (¬ ((ticket.anchor ≡ held.anchor) × (ticket.seq ≡ held.seq))) 11 (held.anchor ∷ [])

-- 12 foreign: the list's anchor is not the head's; names both
abbrev pub foreign : Option HeadDelivery → PreparedBal → Test
foreign None list = test ⊥ 12 []
foreign (Some held) list = test (¬ (list.anchor ≡ held.anchor)) 12 (list.anchor ∷ (held.anchor ∷ []))

-- the head is installed
abbrev pub HeadInstalled : Option Generation → Option HeadDelivery → Type 0
HeadInstalled installed None = ⊥
HeadInstalled None (Some held) = ⊥
HeadInstalled (Some g) (Some held) = g.anchor ≡ held.anchor

abbrev pub IsPreparing : CurrentHead → Type 0
IsPreparing CurrentHead.Absent = ⊥
IsPreparing (CurrentHead.Unclaimed u) = ⊥
IsPreparing (CurrentHead.Preparing u) = Unit {0}
IsPreparing (CurrentHead.Settled s) = ⊥

abbrev pub IsSettled : CurrentHead → Type 0
IsSettled CurrentHead.Absent = ⊥
IsSettled (CurrentHead.Unclaimed u) = ⊥
IsSettled (CurrentHead.Preparing u) = ⊥
IsSettled (CurrentHead.Settled s) = Unit {0}

-- 13 already settled: the head is installed
abbrev pub already_installed : Option Generation → Option HeadDelivery → Test
already_installed installed head = test (HeadInstalled installed head) 13 []

-- the same where a claim asks: a settled head is installed in every driver that lines and rebuilds bring about (`ClaimsInstalled`), and
-- where it is not, a claim is refused so all the same
abbrev pub already_settled : Option Generation → CurrentHead → Test
already_settled installed c = test (HeadInstalled installed (delivery c) ⊎ IsSettled c) 13 []

-- 14 in flight: preparing
abbrev pub in_flight : CurrentHead → Test
in_flight c = test (IsPreparing c) 14 []

-- 15 waiter not free
abbrev pub not_free : Waiter → Test
not_free w = test (¬ (w ≡ Waiter.Free)) 15 []

-- 16 waiter free
abbrev pub free : Waiter → Test
free w = test (w ≡ Waiter.Free) 16 []

-- ---- the table

-- Claim tests 11, 13, 14. Apply tests 2, 11, 12, 13. Wait tests 3, 15; resume 3, 16. No other call tests anything.
abbrev pub call_tests : Driver → Call → List Test
call_tests d (Call.Deliver a p cold) = []
call_tests d (Call.Claim ticket) = superseded (delivery d.life.current) ticket ∷ (already_settled d.life.installed d.life.current ∷ (in_flight d.life.current ∷ []))
call_tests d (Call.Release owner) = []
call_tests d (Call.Apply ticket list handle carried report) = at_odds list ∷ (superseded (delivery d.life.current) ticket ∷ (foreign (delivery d.life.current) list ∷ (already_installed d.life.installed (delivery d.life.current) ∷ [])))
call_tests d (Call.Snapshot a spare) = []
call_tests d (Call.Wait n a spare) = no_waiter n ∷ (not_free (waiter_at d.waiters n) ∷ [])
call_tests d (Call.Resume n spare) = no_waiter n ∷ (free (waiter_at d.waiters n) ∷ [])
call_tests d (Call.Completion a) = []
call_tests d (Call.Link parent child parent_hash) = []
call_tests d Call.Report = []
call_tests d Call.Stats = []
call_tests d Call.Heads = []

-- `(sheet)` tests 4
abbrev pub later_tests : Driver → Option LineCall → List ℕ → List Test
later_tests d None buffer = []
later_tests d (Some LineCall.Sheet) buffer = too_short buffer ∷ []
later_tests d (Some (LineCall.Make c)) buffer = call_tests d c

-- bytes to rebuild a driver from are tested for 5, and for nothing else
abbrev pub rebuild_tests : List ℕ → List Test
rebuild_tests bytes = not_taken bytes ∷ []

-- every line is first tested for 1
abbrev pub tests : Driver → List ℕ → List ℕ → List Test
tests d line buffer = no_call line ∷ later_tests d (call line) buffer

-- ---- what comes of them

-- the number with the anchors that are named, or that the call is accepted
pub data Refusal : Type 0 where
  accepted : Refusal
  refused : ℕ → List ReadAnchor → Refusal

-- the first condition that applies refuses the call; where none applies it is accepted
abbrev pub FirstThatApplies : List Test → Refusal → Type 0
FirstThatApplies [] r = r ≡ Refusal.accepted
FirstThatApplies (t ∷ ts) r = (t.applies × (r ≡ Refusal.refused t.number t.names)) ⊎ ((¬ t.applies) × FirstThatApplies ts r)

-- discarded plus 1, and nothing else
abbrev pub one_more_discarded : HeadStats → HeadStats
one_more_discarded s = stats_of s.delivered s.repeated s.superseded s.settled s.already_current (up s.discarded) s.ready_views s.cold_views

-- apply's 11 and 12
abbrev pub counted_by : Option LineCall → ℕ → Bool
counted_by None n = false
counted_by (Some LineCall.Sheet) n = false
counted_by (Some (LineCall.Make (Call.Deliver a p cold))) n = false
counted_by (Some (LineCall.Make (Call.Claim ticket))) n = false
counted_by (Some (LineCall.Make (Call.Release owner))) n = false
counted_by (Some (LineCall.Make (Call.Apply ticket list handle carried report))) n = cond (eqb n 11) true (eqb n 12)
counted_by (Some (LineCall.Make (Call.Snapshot a spare))) n = false
counted_by (Some (LineCall.Make (Call.Wait m a spare))) n = false
counted_by (Some (LineCall.Make (Call.Resume m spare))) n = false
counted_by (Some (LineCall.Make (Call.Completion a))) n = false
counted_by (Some (LineCall.Make (Call.Link parent child parent_hash))) n = false
counted_by (Some (LineCall.Make Call.Report)) n = false
counted_by (Some (LineCall.Make Call.Stats)) n = false
counted_by (Some (LineCall.Make Call.Heads)) n = false

-- apply's 11 and 12 add 1 to discarded; nothing else changes in any refusal
abbrev pub after_refusal : Driver → Option LineCall → ℕ → Driver
after_refusal d q n = cond (counted_by q n) (record { life = with_stats d.life (one_more_discarded d.life.stats); waiters = d.waiters }) d
