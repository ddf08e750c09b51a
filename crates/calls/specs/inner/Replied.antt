-- What load, draw or clear answered and left, in the words of any call.
use Rattle.std.specs.Prelude.{◌≡◌, Result}
use Rattle.ints.specs.Refusals.{verdict_of}
use Rattle.ints.specs.declared.refusal.Refusal.{Refusal}
use Rattle.sheet.specs.declared.types.Sheet.{Sheet}
use Rattle.calls.specs.declared.types.Reply.{Reply}
use Rattle.calls.specs.Replies.{done, reply_of, each}

pub record Changes (a : Result Unit Refusal) (s : Sheet) (r : Result Reply Refusal) (t : Sheet) : Type 0 where
  pub replied : reply_of r ≡ each (λ u. done) (verdict_of a)
  pub left : t ≡ s
