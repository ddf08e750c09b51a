-- The walk between two neighbouring levels of a text's plan (document 02, E3), the text tangled or not.
use Rattle.std.specs.Prelude.{cond, List, ℕ}
use Rattle.ints.specs.Refusals.{Verdict, gives, refuses}
use Rattle.plan.specs.Walk.{walk, has_next}
use Rattle.plan.specs.declared.walk.Walk.{Walk}
use Rattle.text.specs.Reading.{Reading, accepted, refused, tangled_reading}

-- From level l to the next; 7 where there are no such levels.
unfoldable pub walk_of : ℕ → Reading → Verdict Walk
walk_of l (accepted p) = cond (has_next p l) (gives (walk p l)) (refuses 7)
walk_of l (refused n) = refuses n

-- Of a text, which is to pass checks 1 to 5.
unfoldable pub text_walk : ℕ → List ℕ → Verdict Walk
text_walk l text = walk_of l (tangled_reading text)
