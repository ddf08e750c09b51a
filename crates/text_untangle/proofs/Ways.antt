-- A plan without crossings is read alike both ways. Assumes nothing.
use mathlib.Core.Path.{◌≡◌, refl, ◌∙◌, ap}
use mathlib.Core.List.{List}
use Prim.Native.Nat.{ℕ}
use lib.ListN.{length, replicate}
use Rattle.ints.specs.Lists.{over}
use Rattle.ints.specs.Refusals.{Verdict, gives}
use Rattle.plan.specs.Limits.{max_vertices}
use Rattle.plan.specs.Plan.{PlanData, vertex_count, numbers}
use Rattle.plan_untangle.specs.Order.{order, untangled}
use Rattle.plan_untangle.proofs.Untangled.{order_is, untangled-stays}
use Rattle.text.specs.Reading.{accepted, reading, tangled_reading}
use Rattle.text.proofs.BothWays.{taken-both}
use Rattle.text.proofs.RoundTrip.{read-acceptable}
use Rattle.text_read.specs.Answer.{plan_of}
use Rattle.text_untangle.specs.Untangled.{untangled_answer}
use Rattle.text_untangle.specs.declared.ReadTangled.{ReadTangled}

-- what is answered of a plan whose vertices have the numbers m in the text
abbrev answer_by : PlanData → List ℕ → Verdict ReadTangled
answer_by q m = gives (record {
  vertices = vertex_count q;
  segments = length q.uppers;
  plan = plan_of q;
  numbers = over m (replicate max_vertices 0);
})

answer-is : (p : PlanData) → untangled_answer (accepted p) ≡ answer_by (untangled p) (order p)
unfolding untangled_answer
answer-is p = refl

pub untangled-answer-same : (s : List ℕ) (p : PlanData) → reading s ≡ accepted p
    → untangled_answer (tangled_reading s) ≡ gives (record {
      vertices = vertex_count p;
      segments = length p.uppers;
      plan = plan_of p;
      numbers = over (numbers 0 (vertex_count p)) (replicate max_vertices 0);
    })
untangled-answer-same s p e =
    let ok = read-acceptable s p e in
    ap untangled_answer (taken-both s p e) ∙ answer-is p ∙ ap (λ (q : PlanData). answer_by q (order p)) (untangled-stays p ok)
    ∙ ap (answer_by p) (order_is p ok)
