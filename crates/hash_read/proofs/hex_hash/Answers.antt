-- All values are those of digits, so each part of sixteen is below 2^64.
use Rattle.hash_read.proofs.Values.{part_below}
use Rattle.hash_read.proofs.hex_hash.Goals as goal

pub number-w0-requires : goal.number-w0-requires
number-w0-requires c = search (part_below, c.put_values.ensures.values_after, c.put_values.ensures.value, c.if-put_values-gt15.false)

pub number-w1-requires : goal.number-w1-requires
number-w1-requires c = search (part_below, c.put_values.ensures.values_after, c.put_values.ensures.value, c.if-put_values-gt15.false)

pub number-w2-requires : goal.number-w2-requires
number-w2-requires c = search (part_below, c.put_values.ensures.values_after, c.put_values.ensures.value, c.if-put_values-gt15.false)

pub number-w3-requires : goal.number-w3-requires
number-w3-requires c = search (part_below, c.put_values.ensures.values_after, c.put_values.ensures.value, c.if-put_values-gt15.false)
