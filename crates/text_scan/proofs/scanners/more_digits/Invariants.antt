-- The digits still to come, after the value so far, give what all of them give; the value stays below 10 to the digits read.
use Rattle.std.proofs.Common.{◌≡◌, ◌+◌, ◌-◌, ◌<◌, ◌≤◌, length, drop}
use Rattle.text.specs.Parser.{digits_after}
use Rattle.text.proofs.Numbers.{cap}
use Rattle.text_scan.proofs.scanners.more_digits.Given as goal

abbrev pub invariant-loop-at : goal.invariant-loop-at
invariant-loop-at l = record {
  inside : l.at ≤ length l.text;
  below : l.value < cap (l.fn.from + 4 - l.at);
  same : digits_after 4 l.fn.first (drop l.fn.from l.text) ≡ digits_after (l.fn.from + 4 - l.at) l.value (drop l.at l.text);
}
