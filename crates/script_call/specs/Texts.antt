-- Document 01, "Lines": each call's own line, in its order, with no line feed.
use Rattle.std.specs.Prelude.{ℕ, List, ◌++◌}
use Rattle.head_call.specs.declared.Call.{Call}
use Rattle.text.specs.Ascii.{ascii}
use Rattle.text.specs.Decimals.{decimal}
use Rattle.hash_text.specs.Texts.{hash_text}
use Rattle.value_text.specs.Texts.{anchor_text, slot_text, skip_text}

unfoldable pub call_text : Call → List ℕ
call_text (Call.Deliver a p h) = ascii "(deliver " ++ (anchor_text a ++ (ascii " " ++ (hash_text p ++ (ascii " " ++ (decimal h ++ ascii ")")))))
call_text (Call.Claim ticket) = ascii "(claim " ++ (anchor_text ticket.anchor ++ (ascii " " ++ (decimal ticket.seq.0 ++ ascii ")")))
call_text (Call.Release owner) = ascii "(release " ++ (decimal owner.seq.0 ++ (ascii " " ++ (decimal owner.epoch.0 ++ ascii ")")))
call_text (Call.Apply ticket list h c report) =
    ascii "(apply "
    ++ (anchor_text ticket.anchor ++ (ascii " "
    ++ (decimal ticket.seq.0 ++ (ascii " "
    ++ (anchor_text list.anchor ++ (ascii " "
    ++ (skip_text list.skip ++ (ascii " "
    ++ (decimal h ++ (ascii " "
    ++ (decimal c ++ (ascii " "
    ++ (decimal report ++ ascii ")")))))))))))))
call_text (Call.Snapshot a h) = ascii "(snapshot " ++ (anchor_text a ++ (ascii " " ++ (decimal h ++ ascii ")")))
call_text (Call.Wait n a h) = ascii "(wait " ++ (decimal n ++ (ascii " " ++ (anchor_text a ++ (ascii " " ++ (decimal h ++ ascii ")")))))
call_text (Call.Resume n h) = ascii "(resume " ++ (decimal n ++ (ascii " " ++ (decimal h ++ ascii ")")))
call_text (Call.Completion a) = ascii "(completion " ++ (anchor_text a ++ ascii ")")
call_text (Call.Link parent a p) = ascii "(link " ++ (slot_text parent ++ (ascii " " ++ (anchor_text a ++ (ascii " " ++ (hash_text p ++ ascii ")")))))
call_text Call.Report = ascii "(report)"
call_text Call.Stats = ascii "(stats)"
call_text Call.Heads = ascii "(heads)"

unfoldable pub sheet_call_text : List ℕ
sheet_call_text = ascii "(sheet)"
