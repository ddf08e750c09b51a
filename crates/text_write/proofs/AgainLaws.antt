-- A plan as it was read is stored with the very data of the reading, so its text is the reading's.
use mathlib.Core.Path.{◌≡◌, refl, sym, ◌∙◌, ap, subst}
use mathlib.Core.Bool.{true, false}
use mathlib.Core.List.{List}
use Prim.Native.Nat.{ℕ, ◌≤◌, ◌<◌, ◌^◌}
use native.Mathlib.Omega.{arith}
use borrow.Author.Tests.{lt-leb, le-leb}
use lib.Dec.{leb}
use lib.ListN.{length, take, drop, replicate, length-append}
use lib.Seq.{take_at}
use Rattle.ints.specs.Lists.{over}
use Rattle.plan.specs.Plan.{PlanData}
use Rattle.plan.specs.Limits.{max_levels, max_vertices, max_segments}
use Rattle.plan.specs.Stored.{plan_data}
use Rattle.plan.specs.Checks.{checks_of}
use Rattle.plan.specs.Acceptable.{limits_hold, acceptable}
use Rattle.plan.specs.declared.data.Plan.{Plan}
use Rattle.std.specs.Prelude.{Ok, Err}
use Rattle.ints.specs.Refusals.{none_refuses, gives, refuses, number_of}
use Rattle.ints.specs.declared.refusal.Refusal.{Refusal}
use Rattle.ints.specs.declared.refusal.Refusal.TheVariants.{Room}
use Rattle.ints.proofs.Tests.{test, and_left}
use Rattle.plan.proofs.LimitLaws.{Limits}
use Rattle.plan.proofs.Sound.{sound}
use Rattle.text.specs.Reading.{Reading, accepted, refused, reading}
use Rattle.text.specs.Writing.{text_of}
use Rattle.text_read.specs.Answer.{plan_of, answer_of}
use Rattle.text_read.specs.declared.ReadText.{ReadText}
use Rattle.text.proofs.DecimalLaws.{decimal-length}
use Rattle.text.proofs.RoundTrip.{text-short, written_read, read-acceptable}
use Rattle.text_write.specs.inner.Data.{max_text}
use Rattle.text_write.specs.Again.{refused_line, text_if_short, rewritten, Leaves}
use Rattle.text_write.specs.inner.Written.{Fronts}
use Rattle.text_write.specs.inner.Stored.{StoredLimits, StoredPlan}

-- ---- what was read
front : {A : Type 0} (xs o : List A) (n : ℕ) → length xs ≡ n → take n (over xs o) ≡ xs
front xs o n e = take_at xs (drop (length xs) o) n e

pub stored-data : (p : PlanData) → Limits p → plan_data (plan_of p) (length p.vias) (length p.uppers) ≡ p
unfolding plan_of
stored-data p l =
    let s = front p.sizes (replicate max_levels 0) p.levels l.sizes_long in
    let v = front p.vias (replicate max_vertices false) (length p.vias) refl in
    let h = front p.halves (replicate max_vertices 0) (length p.vias) l.halves_long in
    let a = front p.uppers (replicate max_segments 0) (length p.uppers) refl in
    let b = front p.lowers (replicate max_segments 0) (length p.uppers) l.ends_long in
    let w = front p.ratings (replicate max_segments 0) (length p.uppers) l.ratings_long in
    rw (s, v, h, a, b, w)

-- a plan that is that of a text is within its limits
pub stored-limits : {p : Plan} {v e : ℕ} → StoredPlan p v e → StoredLimits p v e
unfolding acceptable
stored-limits {p} {v} {e} s = record {
  levels = s.levels;
  vertices = s.vertices;
  segments = s.segments;
  plan = and_left (limits_hold (plan_data p v e)) (none_refuses (checks_of (plan_data p v e))) s.plan;
}

pub plan-stored : (p : PlanData) → acceptable p ≡ true → StoredPlan (plan_of p) (length p.vias) (length p.uppers)
unfolding plan_of
plan-stored p a =
    let l = (sound p a).limits in
    record { levels = l.levels_high; vertices = l.vertices; segments = l.segments; plan = ap acceptable (stored-data p l) ∙ a }

-- a plan that was read, stored with the data of the reading, and its text
pub record Again (s : List ℕ) (p : Plan) (v e : ℕ) : Type 0 where
  pub stored : StoredPlan p v e
  pub read : reading s ≡ accepted (plan_data p v e)
  pub same : text_of (plan_data p v e) ≡ s
  pub short : length (text_of (plan_data p v e)) ≤ max_text

plan-again : (s : List ℕ) (p : PlanData) → reading s ≡ accepted p → Again s (plan_of p) (length p.vias) (length p.uppers)
plan-again s p e =
    let a = read-acceptable s p e in
    let same = stored-data p (sound p a).limits in
    record {
      stored = plan-stored p a;
      read = e ∙ ap accepted (sym same);
      same = ap text_of same ∙ written_read s p e;
      short = rw same (text-short p a);
    }

pub read-accepted : (s : List ℕ) (r : ReadText) → gives r ≡ answer_of (reading s) → Again s r.plan r.vertices r.segments
unfolding answer_of
read-accepted s r q = go (reading s) refl
  where
    go : (g : Reading) → reading s ≡ g → Again s r.plan r.vertices r.segments
    go (accepted p) h =
        let told : gives r ≡ answer_of (accepted p) = q ∙ ap answer_of h in
        let same : record { vertices = length p.vias; segments = length p.uppers; plan = plan_of p } ≡ r = cc told in
        subst (λ (x : ReadText). Again s x.plan x.vertices x.segments) same (plan-again s p h)
    go (refused n) h =
        let told : gives r ≡ answer_of (refused n) = q ∙ ap answer_of h in
        let z : ◌≡◌ {A = ℕ} 0 1 = cc told in
        absurd (omega arith)

pub read-refused : (s : List ℕ) (n : ℕ) → refuses n ≡ answer_of (reading s) → reading s ≡ refused n
unfolding answer_of
read-refused s n q = go (reading s) refl
  where
    go : (g : Reading) → reading s ≡ g → reading s ≡ refused n
    go (accepted p) h =
        let told : refuses n ≡ answer_of (accepted p) = q ∙ ap answer_of h in
        let z : ◌≡◌ {A = ℕ} 0 1 = cc told in
        absurd (omega arith)
    go (refused m) h =
        let told : refuses n ≡ answer_of (refused m) = q ∙ ap answer_of h in
        let same : m ≡ n = cc told in
        h ∙ ap refused same

-- what is written of either
pub rewritten-accepted : (p : PlanData) (o : List ℕ) → rewritten (accepted p) o ≡ text_if_short (text_of p) o
unfolding rewritten
rewritten-accepted p o = refl

-- into a buffer with no room, and with room
module _ (w o : List ℕ) where
  pub leaves-short : length o < length w → Leaves (text_if_short w o) (Err Room) o
  unfolding text_if_short
  leaves-short h = rw (lt-leb (length w) (length o) h) (record { answer = refl; buffer = refl })

  pub leaves-written : {n : ℕ} {out : List ℕ} → length w ≤ length o → Fronts w o n out → Leaves (text_if_short w o) (Ok n) out
  unfolding text_if_short
  leaves-written h f = rw (le-leb (length w) (length o) h) (record { answer = ap gives f.count; buffer = f.bytes })

pub leaves-refused : (f : Refusal) (o : List ℕ) → Leaves (rewritten (refused (number_of f)) o) (Err f) o
unfolding rewritten
leaves-refused f o = record { answer = refl; buffer = refl }

pub refused-short : (n : ℕ) → n < 2 ^ 32 → length (refused_line n) ≤ 21
unfolding refused_line
refused-short n h = let d = decimal-length 9 n (omega arith) in simp length-append (omega arith)

-- no more than a plan's text is written
pub written-few : (s o : List ℕ) (n : ℕ) → (rewritten (reading s) o).answer ≡ gives n → n ≤ max_text
unfolding rewritten text_if_short
written-few s o n = go (reading s) refl
  where
    go : (g : Reading) → reading s ≡ g → (rewritten g o).answer ≡ gives n → n ≤ max_text
    go (accepted p) h e = test (leb (length (text_of p)) (length o))
        (λ t. let told : gives (length (text_of p)) ≡ gives n = rw t at e in let same : length (text_of p) ≡ n = cc told in omega (arith, text-short p (read-acceptable s p h)))
        (λ t. let told : refuses 14 ≡ gives n = rw t at e in let z : ◌≡◌ {A = ℕ} 0 1 = cc told in absurd (omega arith))
    go (refused m) h e = let z : ◌≡◌ {A = ℕ} 0 1 = cc e in absurd (omega arith)
