use Rattle.std.proofs.Common.{◌+◌, ◌-◌, arith}
use Rattle.pass_tables.proofs.RunLaws.{next}
use Rattle.pass_tables.proofs.slack.starts_loose.Goals as goal

pub is_loose-requires : goal.is_loose-requires
is_loose-requires c = let a = c.args in
    (omega (arith, c.run_end.ensures, (next a.vias.now (a.v + 1) (a.to - (a.v + 1))).low), omega arith, c.requires.3)
