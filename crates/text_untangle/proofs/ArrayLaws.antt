-- From the arrays of a tangled plan to those of the untangled plan. Assumes nothing.
use mathlib.Core.Path.{◌≡◌, sym, ◌∙◌, ap}
use mathlib.Core.Bool.{Bool, true, false}
use mathlib.Core.List.{List, ◌++◌}
use Prim.Native.Nat.{ℕ, ◌≤◌}
use native.Mathlib.Omega.{arith}
use lib.ListN.{length, take, drop, replicate}
use lib.Seq.{drop_at, length-take-le}
use Rattle.ints.specs.Lists.{over}
use Rattle.ints.specs.Refusals.{Verdict, gives}
use Rattle.ints.specs.Ratings.{all_ratings}
use Rattle.plan.specs.Limits.{max_vertices}
use Rattle.plan.specs.Acceptable.{acceptable}
use Rattle.plan.specs.Plan.{PlanData}
use Rattle.plan.specs.Stored.{stored_plan}
use Rattle.plan.proofs.LimitLaws.{Limits, limits}
use Rattle.plan_renumber.specs.inner.Words.{EachRated}
use Rattle.plan_renumber.proofs.Kept.{header-same}
use Rattle.plan_untangle.specs.Order.{order, untangled}
use Rattle.plan_untangle.specs.inner.Arrays.{Untangles}
use Rattle.plan_untangle.proofs.Untangled.{untangled-acceptable}
use Rattle.text.specs.Reading.{accepted, tangled_reading}
use Rattle.text.proofs.RoundTrip.{tangled-limits, tangled-through}
use Rattle.text_read.specs.inner.Filled.{Kept}
use Rattle.text_read.specs.declared.form.Scanned.{Scanned}
use Rattle.text_read.proofs.Verdict.{in-fronts, kept-plan, within, sizes-front, vias-front, halves-front, uppers-front, lowers-front, ratings-front}
use Rattle.text_untangle.specs.Untangled.{untangled_answer}
use Rattle.text_untangle.specs.declared.ReadTangled.{ReadTangled}
use Rattle.text_untangle.specs.inner.Fronts.{TangledIn, Front, UntangledIn, AcceptsTangled}

-- what passes checks 1 to 5 is acceptable once it is untangled
pub untangled-ok : (s : List ℕ) (p : PlanData) → tangled_reading s ≡ accepted p → acceptable (untangled p) ≡ true
untangled-ok s p e = let t = tangled-through s p e in untangled-acceptable p (tangled-limits s p e) t.three t.four t.five

-- ---- the front of an array written anew
-- a part of n elements that was lent and is xs now
pub front-put : {A : Type 0} (xs part o : List A) (n : ℕ) → xs ≡ part → length part ≡ length (take n o) → n ≤ length o → Front xs n o (part ++ drop n o)
front-put xs part o n e f h =
    let long : n ≡ length xs = sym (ap length e ∙ f ∙ length-take-le n o h) in
    record { long = long; written = ap (λ (l : List _). l ++ drop n o) (sym e) ∙ ap (λ (k : ℕ). xs ++ drop k o) long }

-- xs over ys, which are as many, leaves what ys left
put-again : {A : Type 0} (xs ys o mid new : List A) (n : ℕ) → mid ≡ over ys o → n ≡ length ys → Front xs n mid new → new ≡ over xs o
put-again {A} xs ys o mid new n e f p =
    let rest : drop (length xs) mid ≡ drop (length xs) o =
    ap (drop (length xs)) e ∙ drop_at ys (drop (length ys) o) (length xs) (sym f ∙ p.long) ∙ ap (λ (k : ℕ). drop k o) (sym f ∙ p.long) in
    p.written ∙ ap (λ (l : List A). xs ++ l) rest

-- ---- the arrays of the two plans
module _ (s : List ℕ) (p : PlanData) (e : tangled_reading s ≡ accepted p) (r : Scanned) (sizes : List ℕ) (vias : List Bool) (halves uppers lowers ratings sizes' : List ℕ)
    (vias' : List Bool) (halves' uppers' lowers' ratings' : List ℕ) (K : Kept p r sizes vias halves uppers lowers ratings sizes' vias' halves' uppers' lowers' ratings') where
  the-limits : Limits p
  the-limits = limits p (tangled-limits s p e)

  pub tangled-in : (numbers : List ℕ) → length numbers ≡ max_vertices → TangledIn p r sizes' vias' halves' uppers' lowers' ratings' numbers
  tangled-in numbers n =
      let l = the-limits in
      let t = tangled-through s p e in
      let sizes_are = sizes-front p r sizes vias halves uppers lowers ratings sizes' vias' halves' uppers' lowers' ratings' K in
      record {
        lists = record {
          levels_are = sym (ap length sizes_are ∙ l.sizes_long);
          sizes_are = sym sizes_are;
          vias_are = sym (vias-front p r sizes vias halves uppers lowers ratings sizes' vias' halves' uppers' lowers' ratings' K);
          uppers_are = sym (uppers-front p r sizes vias halves uppers lowers ratings sizes' vias' halves' uppers' lowers' ratings' K);
          lowers_are = sym (lowers-front p r sizes vias halves uppers lowers ratings sizes' vias' halves' uppers' lowers' ratings' K);
          limits = tangled-limits s p e;
          three = t.three;
          four = t.four;
          five = t.five;
        };
        halves_are = sym (halves-front p r sizes vias halves uppers lowers ratings sizes' vias' halves' uppers' lowers' ratings' K l);
        ratings_are = sym (ratings-front p r sizes vias halves uppers lowers ratings sizes' vias' halves' uppers' lowers' ratings' K);
        sizes_reach = omega (arith, K.level-lines, within p.sizes sizes sizes' K.sizes-kept);
        vias_reach = omega (arith, K.vertices, within p.vias vias vias' K.vias-kept);
        halves_reach = omega (arith, K.vertices, l.halves_long, within p.halves halves halves' K.halves-kept);
        uppers_reach = omega (arith, K.segments, within p.uppers uppers uppers' K.uppers-kept);
        lowers_reach = omega (arith, K.lower-ends, within p.lowers lowers lowers' K.lowers-kept);
        ratings_reach = omega (arith, K.rated, within p.ratings ratings ratings' K.ratings-kept);
        numbers_reach = omega (arith, K.vertices, l.vertices);
      }

  module _ (numbers : List ℕ) (vias'' : List Bool) (halves'' uppers'' lowers'' ratings'' numbers'' : List ℕ)
      (U : UntangledIn p r vias' halves' uppers' lowers' ratings' numbers vias'' halves'' uppers'' lowers'' ratings'' numbers'') where
    kept-untangled : Kept (untangled p) r sizes vias halves uppers lowers ratings sizes' vias'' halves'' uppers'' lowers'' ratings''
    unfolding untangled
    kept-untangled =
        let h = header-same p (order p) in
        record {
          levels = K.levels ∙ sym h.levels;
          gap = K.gap ∙ sym h.gap;
          spacing = K.spacing ∙ sym h.spacing;
          level-lines = K.level-lines ∙ sym (ap length h.sizes);
          vertices = U.vias-put.long;
          segments = U.uppers-put.long;
          lower-ends = U.lowers-put.long;
          rated = U.ratings-put.long;
          sizes-kept = K.sizes-kept ∙ ap (λ (l : List ℕ). over l sizes) (sym h.sizes);
          vias-kept = put-again _ p.vias vias vias' vias'' r.vertices K.vias-kept K.vertices U.vias-put;
          halves-kept = put-again _ p.halves halves halves' halves'' r.vertices K.halves-kept (K.vertices ∙ sym the-limits.halves_long) U.halves-put;
          uppers-kept = put-again _ p.uppers uppers uppers' uppers'' r.segments K.uppers-kept K.segments U.uppers-put;
          lowers-kept = put-again _ p.lowers lowers lowers' lowers'' r.segments K.lowers-kept K.lower-ends U.lowers-put;
          ratings-kept = put-again _ p.ratings ratings ratings' ratings'' r.segments K.ratings-kept K.rated U.ratings-put;
        }

    pub accepts-tangled : AcceptsTangled s r sizes vias halves uppers lowers ratings numbers sizes' vias'' halves'' uppers'' lowers'' ratings'' numbers''
    accepts-tangled =
        record {
          plan = p;
          reads = e;
          kept = kept-untangled;
          numbered = U.numbers-put.written;
          fronts = in-fronts (untangled p) r sizes vias halves uppers lowers ratings sizes' vias'' halves'' uppers'' lowers'' ratings'' kept-untangled
              (untangled-ok s p e);
        }

-- ---- a rating for each segment
pub rated-fronts : {p : PlanData} {r : Scanned} {sizes : List ℕ} {vias : List Bool} {halves uppers lowers ratings numbers : List ℕ}
    → TangledIn p r sizes vias halves uppers lowers ratings numbers → EachRated (take r.segments uppers) (take r.segments ratings)
rated-fronts {p} t =
    let l = limits p t.lists.limits in
    record {
      long = ap length (sym t.ratings_are) ∙ l.ratings_long ∙ ap length t.lists.uppers_are;
      each = ap all_ratings (sym t.ratings_are) ∙ l.ratings;
    }

-- ---- the parts lent are those of the untangled plan
pub untangled-in : (p : PlanData) (r : Scanned) (sizes : List ℕ) (vias : List Bool) (halves uppers lowers ratings numbers : List ℕ) → TangledIn p r sizes vias halves uppers lowers ratings numbers
    → (vias' : List Bool) (halves' uppers' lowers' ratings' numbers' : List ℕ) → Untangles p numbers' vias' halves' uppers' lowers' ratings'
    → length vias' ≡ length (take r.vertices vias) → length halves' ≡ length (take r.vertices halves) → length uppers' ≡ length (take r.segments uppers)
    → length lowers' ≡ length (take r.segments lowers) → length ratings' ≡ length (take r.segments ratings) → length numbers' ≡ length (take r.vertices numbers)
    → UntangledIn p r vias halves uppers lowers ratings numbers (vias' ++ drop r.vertices vias) (halves' ++ drop r.vertices halves)
    (uppers' ++ drop r.segments uppers) (lowers' ++ drop r.segments lowers) (ratings' ++ drop r.segments ratings) (numbers' ++ drop r.vertices numbers)
untangled-in p r sizes vias halves uppers lowers ratings numbers t vias' halves' uppers' lowers' ratings' numbers' u a b c d w f = record {
  vias-put = front-put (untangled p).vias vias' vias r.vertices u.lists.vias_are a t.vias_reach;
  halves-put = front-put (untangled p).halves halves' halves r.vertices u.lists.halves_are b t.halves_reach;
  uppers-put = front-put (untangled p).uppers uppers' uppers r.segments u.lists.uppers_are c t.uppers_reach;
  lowers-put = front-put (untangled p).lowers lowers' lowers r.segments u.lists.lowers_are d t.lowers_reach;
  ratings-put = front-put (untangled p).ratings ratings' ratings r.segments u.lists.ratings_are w t.ratings_reach;
  numbers-put = front-put (order p) numbers' numbers r.vertices (sym u.numbers_are) f t.numbers_reach;
}

-- ---- what is answered, from arrays that were 0
pub tangled-answer : (p : PlanData) (r : Scanned) (sizes : List ℕ) (vias : List Bool) (halves uppers lowers ratings : List ℕ)
    → Kept (untangled p) r (replicate 64 0) (replicate 1024 false) (replicate 1024 0) (replicate 2048 0) (replicate 2048 0) (replicate 2048 0) sizes vias halves uppers lowers ratings
    → (numbers : List ℕ) → numbers ≡ over (order p) (replicate 1024 0)
    → ◌≡◌ {A = Verdict ReadTangled}
    (gives (record {
      vertices = r.vertices;
      segments = r.segments;
      plan = stored_plan r.levels r.gap r.spacing sizes vias halves uppers lowers ratings;
      numbers = numbers;
    }))
    (untangled_answer (accepted p))
unfolding untangled_answer
tangled-answer p r sizes vias halves uppers lowers ratings K numbers e =
    let a = kept-plan (untangled p) r sizes vias halves uppers lowers ratings K in
    λ i. gives (record { vertices = (a i).vertices; segments = (a i).segments; plan = (a i).plan; numbers = e i })
