-- What reading a text that may be tangled answers: as the first way of reading, but of the rearranged plan, and beside it each vertex's number in the text.
use Rattle.std.specs.Prelude.{length, replicate}
use Rattle.ints.specs.Lists.{over}
use Rattle.ints.specs.Refusals.{Verdict, gives, refuses}
use Rattle.plan.specs.Limits.{max_vertices}
use Rattle.plan.specs.Plan.{vertex_count}
use Rattle.plan_untangle.specs.Order.{order, untangled}
use Rattle.text.specs.Reading.{Reading, accepted, refused}
use Rattle.text_read.specs.Answer.{plan_of}
use Rattle.text_untangle.specs.declared.ReadTangled.{ReadTangled}

unfoldable pub untangled_answer : Reading → Verdict ReadTangled
untangled_answer (accepted p) = gives (record {
  vertices = vertex_count (untangled p);
  segments = length (untangled p).uppers;
  plan = plan_of (untangled p);
  numbers = over (order p) (replicate max_vertices 0);
})
untangled_answer (refused n) = refuses n
