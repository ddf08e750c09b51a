-- What any call of a sheet gives, and the program's word for it.
use Rattle.std.specs.Prelude.{ℕ, Result}
use Rattle.ints.specs.Refusals.{Verdict, gives, refuses, verdict_of}
use Rattle.ints.specs.declared.refusal.Refusal.{Refusal}
use Rattle.marks.specs.declared.types.Mark.{Mark}
use Rattle.calls.specs.declared.types.Reply.{Reply}
use Rattle.calls.specs.declared.types.Reply.TheVariants.{Done, Written, Given}

-- Nothing, a length or a count, a mark.
pub data Value : Type 0 where
  done : Value
  written : ℕ → Value
  marked : Mark → Value

-- Document 01's value of each reply.
abbrev pub value_of : Reply → Value
value_of Done = done
value_of (Written n) = written n
value_of (Given m) = marked m

-- What one of the sheet's calls gives, as a value of this kind.
abbrev pub each : {A : Type 0} → (A → Value) → Verdict A → Verdict Value
each f (gives a) = gives (f a)
each f (refuses n) = refuses n

-- Document 01's number and values for each answer.
abbrev pub reply_of : Result Reply Refusal → Verdict Value
reply_of r = each value_of (verdict_of r)
