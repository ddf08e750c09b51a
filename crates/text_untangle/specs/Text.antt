-- The text of the rearranged plan in a lent buffer, if that has room for it, and each vertex's number in the text in another. Where
-- the text is refused or a buffer is too short both stay as they are.
use Rattle.std.specs.Prelude.{◌≡◌, cond, ◌&&◌, List, ℕ, leb, length, Result}
use Rattle.ints.specs.Lists.{over}
use Rattle.ints.specs.Refusals.{Verdict, gives, refuses, verdict_of}
use Rattle.ints.specs.declared.refusal.Refusal.{Refusal}
use Rattle.plan.specs.Plan.{vertex_count}
use Rattle.plan_untangle.specs.Order.{order, untangled}
use Rattle.text.specs.Reading.{Reading, accepted, refused}
use Rattle.text.specs.Writing.{text_of}

-- An answer, and two lent buffers as they are left.
pub record Left : Type 0 where
  pub answer : Verdict ℕ
  pub buffer : List ℕ
  pub numbers : List ℕ

unfoldable pub untangled_text : Reading → List ℕ → List ℕ → Left
untangled_text (accepted p) o m =
    let text = text_of (untangled p) in
    let written : Left = record { answer = gives (length text); buffer = over text o; numbers = over (order p) m } in
    cond (leb (length text) (length o) && leb (vertex_count p) (length m)) written (record { answer = refuses 14; buffer = o; numbers = m })
untangled_text (refused n) o m = record { answer = refuses n; buffer = o; numbers = m }

-- The program answers so and leaves the buffers so.
pub record Leaves (l : Left) (r : Result ℕ Refusal) (out m : List ℕ) : Type 0 where
  pub answer : verdict_of r ≡ l.answer
  pub buffer : out ≡ l.buffer
  pub numbers : m ≡ l.numbers
