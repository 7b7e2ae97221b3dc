-- What `finish` printed is compared without its delivery numbers, and counted.
use Rattle.std.proofs.Common.{arith, sym, length-take, length-take-le}
use Rattle.replay.proofs.Replaying.{compares, printed_within}
use Rattle.replay.proofs.call_compared.Goals as goal

pub slice_bounds-strike-end : goal.slice_bounds-strike-end
slice_bounds-strike-end c = printed_within _ _ _ _ _ c.finish-printed.ensures

pub slice_bounds-strike-end-2 : goal.slice_bounds-strike-end-2
slice_bounds-strike-end-2 c = sym (length-take-le _ _ (printed_within _ _ _ _ _ c.finish-printed.ensures))

pub returns : goal.returns
returns c =
    let bound = c.strike-count.ensures.upper_bound in
    let all = length-take c.finish-printed.result.written c.finish-printed.new.out in
    let kept = c.finish-printed.auto.out in
    let room = c.requires in
    compares _ _ _ _ _ _ _ _ _ _ _ _ _ c.finish-printed.ensures c.strike-count.ensures.wrote (omega arith) c.same_front-equal.ensures
    c.after_call.ensures
