-- Each way out is one of `reading`'s; `Verdict` says which check fails first.
use Rattle.std.proofs.Common.{arith, rules, ◌≡◌}
use Rattle.text_read.proofs.Verdict.{reads-long, not-long, the-fronts, reads_kept, check-fails, all_pass}
use Rattle.text_read.proofs.read_into.Goals as goal

pub returns-then-text-gt-MAX_BYTES : goal.returns-then-text-gt-MAX_BYTES
returns-then-text-gt-MAX_BYTES c =
    let text = c.args.text.now in
    record { refuses = λ z. reads-long text c.if-text-gt-MAX_BYTES.true; accepts = λ z. absurd (omega arith); kept = λ p. not-long text p c.if-text-gt-MAX_BYTES.true }

pub verdict_on-verdict-requires : goal.verdict_on-verdict-requires
verdict_on-verdict-requires c =
    let k = c.scan-scanned.auto in
    let a = c.requires in
    λ f g. the-fronts c.args.text.now _ _ _ _ _ _ _ _ _ _ _ _ _ c.scan-scanned.ensures c.if-text-gt-MAX_BYTES.false f g
    (omega (arith, k.sizes, a.sizes_long)) (omega (arith, k.vias, a.vias_long)) (omega (arith, k.uppers, a.uppers_long))

pub returns : goal.returns
returns c =
    let text = c.args.text.now in
    record {
      refuses = λ z. check-fails text _ _ _ _ _ _ _ _ _ _ _ _ _ c.scan-scanned.ensures c.if-text-gt-MAX_BYTES.false _ c.verdict_on-verdict.ensures z;
      accepts = λ z. all_pass text _ _ _ _ _ _ _ _ _ _ _ _ _ c.scan-scanned.ensures c.if-text-gt-MAX_BYTES.false _ c.verdict_on-verdict.ensures z;
      kept = reads_kept text _ _ _ _ _ _ _ _ _ _ _ _ _ c.scan-scanned.ensures c.if-text-gt-MAX_BYTES.false;
    }
