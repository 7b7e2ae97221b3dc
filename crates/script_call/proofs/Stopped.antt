-- Where reading has stopped, nothing is read.
use mathlib.Core.Path.{◌≡◌, refl}
use mathlib.Core.Bool.{false}
use Rattle.std.specs.Prelude.{None}
use Rattle.head_call.specs.declared.Call.{Call}
use Rattle.text.specs.Rests.{stopped, after_byte, after, at_end}
use Rattle.value_text.specs.declared.page.Page.{Page}
use Rattle.value_read.proofs.Stopped.{anchor_stopped, hash_stopped, skip_stopped}
use Rattle.script_call.specs.Values.{spaced_hash, spaced_anchor, spaced_skip}
use Rattle.script_call.specs.Calls.{ends, closed, spaced_list}

pub spaced_hash_stopped : (spaced_hash stopped).next ≡ stopped
unfolding spaced_hash after after_byte
spaced_hash_stopped = hash_stopped Page.Line

pub spaced_anchor_stopped : (spaced_anchor stopped).next ≡ stopped
unfolding spaced_anchor after after_byte
spaced_anchor_stopped = anchor_stopped Page.Line

pub spaced_skip_stopped : (spaced_skip stopped).next ≡ stopped
unfolding spaced_skip after after_byte
spaced_skip_stopped = skip_stopped

pub spaced_list_stopped : (spaced_list stopped).next ≡ stopped
unfolding spaced_list
spaced_list_stopped = rw (spaced_anchor_stopped, spaced_skip_stopped)

pub closed_stopped : (c : Call) → closed stopped c ≡ None
unfolding closed ends after after_byte at_end
closed_stopped c = refl

pub end_stopped : false ≡ at_end stopped
unfolding at_end
end_stopped = refl
