-- Placing strands: every strand comes to stand at the greatest (sibling + distance) over the left siblings of the same class
-- of its vertices, and these where they stand in the end. Left siblings have lower rank, so no placing comes back to a strand
-- that is under way: those all have higher rank than the one being placed. Assumes nothing.
use mathlib.Core.Path.{◌≡◌, refl, sym, ◌∙◌, ap}
use mathlib.Core.Logic.{inl, inr}
use mathlib.Core.Bool.{Bool, true, false, true≢false}
use mathlib.Core.List.{List, [], ◌∷◌}
use mathlib.Core.Option.{Option, none, some}
use Prim.Native.Nat.{ℕ, zero, suc, ◌+◌, ◌*◌, ◌≤◌, ◌<◌, max}
use native.Mathlib.Omega.{arith}
use lib.ListN.{length, get_or, replicate, length-replicate, get_or-replicate}
use lib.Seq.{ext_get_or}
use Rattle.ints.proofs.Laws.{if-ind, cases}
use Rattle.plan.specs.Plan.{PlanData, vertex_count, distance, Siblings, numbers}
use Rattle.ints.specs.inner.Members.{Mem}
use Rattle.plan.proofs.Sound.{Sound, distance_high, mem-numbers, numbers-mem}
use Rattle.preliminary.specs.Place.{Placing, Asked, begin, stand, asked_by, with_sibling, place_strand, place_siblings, place_each, placed_strands}
use Rattle.preliminary.proofs.Strands.{top_of, strand_at, in-strand, strand-in, strand-descends, strand-same}
use Rattle.preliminary.proofs.Rows.{Adjacent, none-some, asked-left, left-in-list}
use Rattle.preliminary.proofs.Give.{alike, either, give-long, mark-long, mark-keeps, strand-given, strand-kept, strand-marked, strand-unmarked, waiting, waiting_none, mark-waiting}
use Rattle.preliminary.proofs.Rank.{Rank}

abbrev pub begun_at : Placing → ℕ → Bool
begun_at s v = get_or s.begun v false

abbrev pub stands_at : Placing → ℕ → ℕ
stands_at s v = get_or s.at v 0

-- "the greatest (sibling + distance) over those, 0 if there are none": over the left siblings of the same class of these
-- members, where the vertices stand at xs
abbrev pub asked_at : PlanData → List ℕ → ℕ → Option ℕ → ℕ
asked_at p xs v none = 0
asked_at p xs v (some u) = get_or xs u 0 + distance p u v

unfoldable pub greatest_asked : PlanData → List Siblings → List ℕ → List ℕ → List ℕ → ℕ
greatest_asked p ss cs xs [] = 0
greatest_asked p ss cs xs (v ∷ vs) = max (asked_at p xs v (asked_by ss cs v)) (greatest_asked p ss cs xs vs)

module _ (p : PlanData) (ss : List Siblings) (cs : List ℕ) where
  greatest-above : (xs vs : List ℕ) (u v : ℕ) → Mem v vs → asked_by ss cs v ≡ some u → get_or xs u 0 + distance p u v ≤ greatest_asked p ss cs xs vs
  unfolding greatest_asked
  greatest-above xs [] u v m e = absurd m
  greatest-above xs (w ∷ vs) u v (inl q) e = rw (← q, e) (omega arith)
  greatest-above xs (w ∷ vs) u v (inr m) e = omega (arith, greatest-above xs vs u v m e)

  greatest-none : (xs : List ℕ) → greatest_asked p ss cs xs [] ≡ 0
  unfolding greatest_asked
  greatest-none xs = refl

  greatest-unasked : (xs : List ℕ) (v : ℕ) (vs : List ℕ) → asked_by ss cs v ≡ none → greatest_asked p ss cs xs (v ∷ vs) ≡ greatest_asked p ss cs xs vs
  unfolding greatest_asked
  greatest-unasked xs v vs e = rw e (omega arith)

  greatest-asked : (xs : List ℕ) (u v : ℕ) (vs : List ℕ) → asked_by ss cs v ≡ some u → greatest_asked p ss cs xs (v ∷ vs) ≡ max (get_or xs u 0 + distance p u v) (greatest_asked p ss cs xs vs)
  unfolding greatest_asked
  greatest-asked xs u v vs e = rw e

  -- it depends on where those siblings stand
  greatest-same : (xs ys vs : List ℕ) → ((v u : ℕ) → Mem v vs → asked_by ss cs v ≡ some u → get_or ys u 0 ≡ get_or xs u 0) → greatest_asked p ss cs ys vs ≡ greatest_asked p ss cs xs vs
  unfolding greatest_asked
  greatest-same xs ys [] f = refl
  greatest-same xs ys (v ∷ vs) f = omega (arith, here (asked_by ss cs v) refl, greatest-same xs ys vs (λ w u m e. f w u (inr m) e))
    where
      here : (o : Option ℕ) → asked_by ss cs v ≡ o → asked_at p ys v o ≡ asked_at p xs v o
      here none e = refl
      here (some u) e = omega (arith, f v u (inl refl) e)

-- where strands stand that are placed in the order of these vertices
abbrev pub placed_by : PlanData → List Siblings → List ℕ → List ℕ → List ℕ
placed_by p ss cs vs = (place_each p (strand_at p) ss cs (3 * vertex_count p) vs (record { at = replicate (vertex_count p) 0; begun = replicate (vertex_count p) false })).at

-- what holds in the end
pub record Stood (p : PlanData) (ss : List Siblings) (cs xs : List ℕ) : Type 0 where
  pub long : length xs ≡ vertex_count p
  pub greatest : (v : ℕ) → v < vertex_count p → get_or xs v 0 ≡ greatest_asked p ss cs xs (strand_at p v)
  pub strands : (v w : ℕ) → v < vertex_count p → w < vertex_count p → top_of p v ≡ top_of p w → get_or xs v 0 ≡ get_or xs w 0
  pub spaced : (u v : ℕ) → v < vertex_count p → asked_by ss cs v ≡ some u → get_or xs u 0 + distance p u v ≤ get_or xs v 0
  pub size : (v : ℕ) → v < vertex_count p → get_or xs v 0 ≤ 512000

module _ (p : PlanData) (key : ℕ → ℕ) (R : Rank p key) (ss : List Siblings) (cs : List ℕ) where
  abbrev rank_of : ℕ → ℕ
  rank_of v = R.rank (top_of p v)

  -- strands of rank below r whose placing has begun stand; d placings are under way
  record Standing (r d : ℕ) (s : Placing) : Type 0 where
    pub at_long : length s.at ≡ vertex_count p
    pub begun_long : length s.begun ≡ vertex_count p
    pub at_strands : (v w : ℕ) → v < vertex_count p → w < vertex_count p → top_of p v ≡ top_of p w → stands_at s v ≡ stands_at s w
    pub begun_strands : (v w : ℕ) → v < vertex_count p → w < vertex_count p → top_of p v ≡ top_of p w → begun_at s v ≡ begun_at s w
    pub asked_begun : (w u : ℕ) → w < vertex_count p → begun_at s w ≡ true → rank_of w < r → asked_by ss cs w ≡ some u → begun_at s u ≡ true
    pub greatest : (w : ℕ) → w < vertex_count p → begun_at s w ≡ true → rank_of w < r → stands_at s w ≡ greatest_asked p ss cs s.at (strand_at p w)
    pub size : (w : ℕ) → w < vertex_count p → stands_at s w + 500 * (d + waiting s.begun) ≤ 500 * vertex_count p

  -- from s to t: what had begun keeps its place, what begins has rank below r
  record Later (r : ℕ) (s t : Placing) : Type 0 where
    pub kept : (w : ℕ) → w < vertex_count p → begun_at s w ≡ true → (begun_at t w ≡ true) × (stands_at t w ≡ stands_at s w)
    pub new : (w : ℕ) → w < vertex_count p → begun_at s w ≡ false → begun_at t w ≡ true → rank_of w < r
    pub fewer : waiting t.begun ≤ waiting s.begun

  record Placed (r d v : ℕ) (s t : Placing) : Type 0 where
    pub stands : Standing r d t
    pub later : Later r s t
    pub begun : begun_at t v ≡ true

  record Answered (r d : ℕ) (vs : List ℕ) (most : ℕ) (s : Placing) (a : Asked) : Type 0 where
    pub stands : Standing r (suc d) a.after
    pub later : Later r s a.after
    pub greatest : a.most ≡ max most (greatest_asked p ss cs a.after.at vs)
    pub size : a.most + 500 * (d + waiting a.after.begun) ≤ 500 * vertex_count p
    pub answers : (v u : ℕ) → Mem v vs → asked_by ss cs v ≡ some u → begun_at a.after u ≡ true

  abbrev PlaceClaim : ℕ → Type 0
  PlaceClaim f = (r d v : ℕ) (s : Placing) → Standing r d s → v < vertex_count p → rank_of v < r → 2 * waiting s.begun + 1 ≤ f → Placed r d v s (place_strand p (strand_at p) ss cs f v s)

  abbrev SiblingsClaim : ℕ → Type 0
  SiblingsClaim f = (r d : ℕ) (vs : List ℕ) (most : ℕ) (s : Placing) → Standing r (suc d) s → ((v : ℕ) → Mem v vs → (v < vertex_count p) × (rank_of v ≡ r))
      → most + 500 * (d + waiting s.begun) ≤ 500 * vertex_count p → 2 * waiting s.begun + length vs + 1 ≤ f → Answered r d vs most s (place_siblings p (strand_at p) ss cs f vs most s)

  later_refl : (r : ℕ) (s : Placing) → Later r s s
  later_refl r s = record { kept = λ w h e. (e, refl); new = λ w h e q. absurd (true≢false (sym q ∙ e)); fewer = omega arith }

  later_trans : (r : ℕ) (s t u : Placing) → Later r s t → Later r t u → Later r s u
  later_trans r s t u a b = record {
    kept = λ w h e. let x = a.kept w h e in let y = b.kept w h x.0 in (y.0, y.1 ∙ x.1);
    new = λ w h e q. either (begun_at t w) (λ i. a.new w h e i) (λ i. b.new w h i q);
    fewer = omega (arith, a.fewer, b.fewer);
  }

  module _ (S : Sound p) (adjacent : (s : Siblings) → Mem s ss → Adjacent p key s.left s.right) where
    asked : (u v : ℕ) → asked_by ss cs v ≡ some u → Adjacent p key u v
    asked u v e = adjacent (record { left = u; right = v }) (left-in-list ss u v (asked-left ss cs u v e))

    asked-lower : (u v : ℕ) → asked_by ss cs v ≡ some u → rank_of u < rank_of v
    asked-lower u v e = let a = asked u v e in R.rises u v a.left_in a.right_in a.level a.before

    -- who is asked by a strand that stands has begun
    strand-asked : (r d : ℕ) (s : Placing) → Standing r d s → (w : ℕ) → w < vertex_count p → begun_at s w ≡ true → rank_of w < r → (x u : ℕ) → Mem x (strand_at p w) → asked_by ss cs x ≡ some u
        → (begun_at s u ≡ true) × (rank_of u < rank_of w)
    strand-asked r d s I w i e q x u m j = let y = strand-in p S w x i m in let k = ap R.rank y.1 in
        (I.asked_begun x u y.0 (I.begun_strands x w y.0 i y.1 ∙ e) (omega arith) j, omega (arith, asked-lower u x j))

    -- a strand stays at its greatest as long as it and those that it asks stay
    stays-greatest : (r d : ℕ) (s t : Placing) → Standing r d s → (w : ℕ) → w < vertex_count p → begun_at s w ≡ true → rank_of w < r → stands_at t w ≡ stands_at s w
        → ((u : ℕ) → u < vertex_count p → begun_at s u ≡ true → rank_of u < rank_of w → stands_at t u ≡ stands_at s u) → stands_at t w ≡ greatest_asked p ss cs t.at (strand_at p w)
    stays-greatest r d s t I w i e q k f = k ∙ I.greatest w i e q ∙ sym (greatest-same p ss cs s.at t.at (strand_at p w)
        (λ x u m j. let y = strand-asked r d s I w i e q x u m j in f u (asked u x j).left_in y.0 y.1))

    -- ---- one strand
    module _ (r d v : ℕ) (s : Placing) (I : Standing r d s) (h : v < vertex_count p) (k : rank_of v < r) (b : begun_at s v ≡ false) where
      abbrev started : Placing
      started = begin (strand_at p v) s

      other : (w : ℕ) → w < vertex_count p → begun_at s w ≡ true → top_of p w ≡ top_of p v → ⊥
      other w i e t = true≢false (sym e ∙ I.begun_strands w v i h t ∙ b)

      started-waiting : waiting started.begun + length (strand_at p v) ≡ waiting s.begun
      started-waiting = mark-waiting p s.begun (strand-descends p S v) (λ w m. let x = strand-in p S v w h m in
          (omega (arith, x.0, I.begun_long), I.begun_strands w v x.0 h x.1 ∙ b))

      strand-some : 1 ≤ length (strand_at p v)
      strand-some = go (strand_at p v) (in-strand p S v v h refl)
        where
          go : (vs : List ℕ) → Mem v vs → 1 ≤ length vs
          go [] m = absurd m
          go (x ∷ xs) m = omega arith

      begun-before : (w : ℕ) → (top_of p w ≡ top_of p v → ⊥) → begun_at started w ≡ begun_at s w
      begun-before w t = strand-unmarked p S v h w s.begun t

      began : (w : ℕ) → w < vertex_count p → top_of p w ≡ top_of p v → begun_at started w ≡ true
      began w i t = strand-marked p S v h w s.begun I.begun_long i t

      still : (w : ℕ) → w < vertex_count p → begun_at s w ≡ true → begun_at started w ≡ true
      still w i e = mark-keeps w (strand_at p v) s.begun (omega (arith, I.begun_long)) e

      lower : (w : ℕ) → rank_of w < rank_of v → top_of p w ≡ top_of p v → ⊥
      lower w q e = omega (arith, ap R.rank e)

      start : Standing (rank_of v) (suc d) started
      start = record {
        at_long = I.at_long;
        begun_long = mark-long (strand_at p v) s.begun ∙ I.begun_long;
        at_strands = I.at_strands;
        begun_strands = λ x w hx hw t. alike (top_of p x) (top_of p v) (λ e. began x hx e ∙ sym (began w hw (sym t ∙ e)))
            (λ e. begun-before x e ∙ I.begun_strands x w hx hw t ∙ sym (begun-before w (λ q. e (t ∙ q))));
        asked_begun = λ w u i e q j. still u (asked u w j).left_in (I.asked_begun w u i (sym (begun-before w (lower w q)) ∙ e) (omega arith) j);
        greatest = λ w i e q. I.greatest w i (sym (begun-before w (lower w q)) ∙ e) (omega arith);
        size = λ w i. omega (arith, I.size w i, started-waiting, strand-some);
      }

      module _ (a : Asked) (A : Answered (rank_of v) d (strand_at p v) 0 started a) where
        abbrev ended : Placing
        ended = stand (strand_at p v) a

        here : (w : ℕ) → w < vertex_count p → top_of p w ≡ top_of p v → stands_at ended w ≡ a.most
        here w i t = strand-given p S v h a.most w a.after.at A.stands.at_long i t

        elsewhere : (w : ℕ) → (top_of p w ≡ top_of p v → ⊥) → stands_at ended w ≡ stands_at a.after w
        elsewhere w t = strand-kept p S v h a.most w a.after.at t

        -- of those begun in the end, one of rank v's or more that is not v's strand had begun before
        begun-earlier : (w : ℕ) → w < vertex_count p → begun_at ended w ≡ true → (top_of p w ≡ top_of p v → ⊥) → rank_of v ≤ rank_of w → begun_at s w ≡ true
        begun-earlier w i e t z = sym (begun-before w t) ∙ either (begun_at started w) (λ y. y) (λ y. absurd (omega (arith, A.later.new w i y e)))

        kept-begun : (w : ℕ) → w < vertex_count p → begun_at s w ≡ true → (begun_at ended w ≡ true) × (stands_at ended w ≡ stands_at s w)
        kept-begun w i e = let x = A.later.kept w i (still w i e) in (x.0, elsewhere w (other w i e) ∙ x.1)

        end-asked : (w u : ℕ) → w < vertex_count p → begun_at ended w ≡ true → rank_of w < r → asked_by ss cs w ≡ some u → begun_at ended u ≡ true
        end-asked w u i e q j =
            alike (top_of p w) (top_of p v)
            (λ t. A.answers w u (in-strand p S v w i t) j)
            (λ t. cases (rank_of v) (rank_of w)
            (λ z. (kept-begun u (asked u w j).left_in (I.asked_begun w u i (begun-earlier w i e t z) q j)).0)
            (λ z. A.stands.asked_begun w u i e z j))

        end-greatest : (w : ℕ) → w < vertex_count p → begun_at ended w ≡ true → rank_of w < r → stands_at ended w ≡ greatest_asked p ss cs ended.at (strand_at p w)
        end-greatest w i e q =
            alike (top_of p w) (top_of p v)
            (λ t. rw (strand-same p S v w h (in-strand p S v w i t)) (omega (
              arith,
              here w i t,
              A.greatest,
              greatest-same p ss cs a.after.at ended.at (strand_at p v)
                  (λ x u m j. elsewhere u (lower u (omega (arith, asked-lower u x j, ap R.rank (strand-in p S v x h m).1)))),
            )))
            (λ t. cases (rank_of v) (rank_of w)
            (λ z. let es = begun-earlier w i e t z in stays-greatest r d s ended I w i es q (kept-begun w i es).1 (λ u j f k. (kept-begun u j f).1))
            (λ z. stays-greatest (rank_of v) (suc d) a.after ended A.stands w i e z (elsewhere w t) (λ u j f k. elsewhere u (lower u (omega arith)))))

        end : Placed r d v s ended
        end = record {
          stands = record {
            at_long = give-long a.most (strand_at p v) a.after.at ∙ A.stands.at_long;
            begun_long = A.stands.begun_long;
            at_strands = λ x w hx hw t. alike (top_of p x) (top_of p v) (λ e. here x hx e ∙ sym (here w hw (sym t ∙ e)))
                (λ e. elsewhere x e ∙ A.stands.at_strands x w hx hw t ∙ sym (elsewhere w (λ q. e (t ∙ q))));
            begun_strands = A.stands.begun_strands;
            asked_begun = end-asked;
            greatest = end-greatest;
            size = λ w i. alike (top_of p w) (top_of p v) (λ t. omega (arith, here w i t, A.size)) (λ t. omega (arith, elsewhere w t, A.stands.size w i));
          };
          later = record {
            kept = kept-begun;
            new = λ w i e q. alike (top_of p w) (top_of p v) (λ t. omega (arith, ap R.rank t)) (λ t. omega (arith, A.later.new w i (begun-before w t ∙ e) q));
            fewer = omega (arith, A.later.fewer, started-waiting);
          };
          begun = (A.later.kept v h (began v h refl)).0;
        }

    place-step : (f : ℕ) → SiblingsClaim f → PlaceClaim (suc f)
    unfolding place_strand
    place-step f claim r d v s I h k m = if-ind (get_or s.begun v false) s (stand (strand_at p v) (place_siblings p (strand_at p) ss cs f (strand_at p v) 0 (begin (strand_at p v) s)))
        (λ t. Placed r d v s t)
        (λ e. record { stands = I; later = later_refl r s; begun = e })
        (λ e. end r d v s I h k e (place_siblings p (strand_at p) ss cs f (strand_at p v) 0 (begin (strand_at p v) s))
        (claim (rank_of v) d (strand_at p v) 0 (begin (strand_at p v) s) (start r d v s I h k e)
        (λ w i. let x = strand-in p S v w h i in (x.0, ap R.rank x.1))
        (omega (arith, (start r d v s I h k e).size v h)) (omega (arith, started-waiting r d v s I h k e, strand-some r d v s I h k e))))

    -- ---- the left siblings of a strand's members
    siblings-step : (f : ℕ) → PlaceClaim f → SiblingsClaim f → SiblingsClaim (suc f)
    unfolding place_strand
    siblings-step f P C r d [] most s I g b m = record { stands = I; later = later_refl r s; greatest = omega (arith, greatest-none p ss cs s.at); size = b; answers = λ v u n. absurd n }
    siblings-step f P C r d (v ∷ vs) most s I g b m = go (asked_by ss cs v) refl
      where
        go : (o : Option ℕ) → asked_by ss cs v ≡ o → Answered r d (v ∷ vs) most s (with_sibling o
            (λ u. let t = place_strand p (strand_at p) ss cs f u s in place_siblings p (strand_at p) ss cs f vs (max most (get_or t.at u 0 + distance p u v)) t)
            (place_siblings p (strand_at p) ss cs f vs most s))
        go none e = let A = C r d vs most s I (λ w n. g w (inr n)) b (omega arith) in record {
          stands = A.stands;
          later = A.later;
          greatest = A.greatest ∙ ap (max most) (sym (greatest-unasked p ss cs (place_siblings p (strand_at p) ss cs f vs most s).after.at v vs e));
          size = A.size;
          answers = λ w u n q. elim n [ inl x ↦ absurd (none-some (sym e ∙ ap (asked_by ss cs) (sym x) ∙ q)) | inr x ↦ A.answers w u x q ];
        }
        go (some u) e =
            let t = place_strand p (strand_at p) ss cs f u s in
            let X = P r (suc d) u s I (asked u v e).left_in (omega (arith, asked-lower u v e, (g v (inl refl)).1)) (omega arith) in
            let A = C r d vs (max most (stands_at t u + distance p u v)) t X.stands (λ w n. g w (inr n))
            (omega (arith, X.later.fewer, X.stands.size u (asked u v e).left_in, distance_high p S.limits u v)) (omega (arith, X.later.fewer)) in
            let K = A.later.kept u (asked u v e).left_in X.begun in
            record {
              stands = A.stands;
              later = later_trans r s t (place_siblings p (strand_at p) ss cs f vs (max most (stands_at t u + distance p u v)) t).after X.later A.later;
              greatest = omega (arith, A.greatest, K.1, greatest-asked p ss cs (place_siblings p (strand_at p) ss cs f vs (max most (stands_at t u + distance p u v)) t).after.at u v vs e);
              size = A.size;
              answers = λ w x n q. elim n [
                | inl y ↦ (let z : x ≡ u = cc (ap (asked_by ss cs) y) in rw z K.0)
                | inr y ↦ A.answers w x y q
              ];
            }

    both : (f : ℕ) → PlaceClaim f × SiblingsClaim f
    both zero = (λ r d v s I h k m. absurd (omega arith), λ r d vs most s I g b m. absurd (omega arith))
    both (suc f) = (place-step f (both f).1, siblings-step f (both f).0 (both f).1)

    -- ---- all strands
    record Grown (s t : Placing) : Type 0 where
      pub stands : (r : ℕ) → Standing r 0 t
      pub kept : (w : ℕ) → w < vertex_count p → begun_at s w ≡ true → begun_at t w ≡ true
      pub fewer : waiting t.begun ≤ waiting s.begun

    each_step : (f v : ℕ) (s : Placing) → ((r : ℕ) → Standing r 0 s) → v < vertex_count p → 2 * waiting s.begun + 1 ≤ f → Grown s (place_strand p (strand_at p) ss cs f v s) × (begun_at (place_strand p (strand_at p) ss cs f v s) v ≡ true)
    each_step f v s I h m =
        let t = place_strand p (strand_at p) ss cs f v s in
        let X = (both f).0 (suc (rank_of v)) 0 v s (I (suc (rank_of v))) h (omega arith) m in
        let earlier : (w : ℕ) → w < vertex_count p → begun_at t w ≡ true → rank_of v < rank_of w → begun_at s w ≡ true =
        λ w i e z. either (begun_at s w) (λ y. y) (λ y. absurd (omega (arith, X.later.new w i y e))) in (
          record {
            stands = λ r. record {
              at_long = X.stands.at_long;
              begun_long = X.stands.begun_long;
              at_strands = X.stands.at_strands;
              begun_strands = X.stands.begun_strands;
              asked_begun = λ w u i e q j. cases (rank_of w) (rank_of v) (λ z. X.stands.asked_begun w u i e (omega arith) j)
                  (λ z. (X.later.kept u (asked u w j).left_in ((I (suc (rank_of w))).asked_begun w u i (earlier w i e z) (omega arith) j)).0);
              greatest = λ w i e q. cases (rank_of w) (rank_of v) (λ z. X.stands.greatest w i e (omega arith))
                  (λ z. stays-greatest (suc (rank_of w)) 0 s t (I (suc (rank_of w))) w i (earlier w i e z) (omega arith) (X.later.kept w i (earlier w i e z)).1 (λ u j f k. (X.later.kept u j f).1));
              size = X.stands.size;
            };
            kept = λ w i e. (X.later.kept w i e).0;
            fewer = X.later.fewer;
          },
          X.begun,
        )

    each : (f : ℕ) (vs : List ℕ) (s : Placing) → ((r : ℕ) → Standing r 0 s) → ((v : ℕ) → Mem v vs → v < vertex_count p) → ((v : ℕ) → v < vertex_count p → 2 * waiting s.begun + 1 ≤ f)
        → Grown s (place_each p (strand_at p) ss cs f vs s) × ((v : ℕ) → Mem v vs → begun_at (place_each p (strand_at p) ss cs f vs s) v ≡ true)
    unfolding place_each
    each f [] s I g m = (record { stands = I; kept = λ w i e. e; fewer = omega arith }, λ v n. absurd n)
    each f (v ∷ vs) s I g m =
        let X = each_step f v s I (g v (inl refl)) (m v (g v (inl refl))) in
        let Y = each f vs (place_strand p (strand_at p) ss cs f v s) X.0.stands (λ w n. g w (inr n)) (λ w i. omega (arith, X.0.fewer, m w i)) in (
          record { stands = Y.0.stands; kept = λ w i e. Y.0.kept w i (X.0.kept w i e); fewer = omega (arith, X.0.fewer, Y.0.fewer) },
          λ w n. elim n [ inl e ↦ rw e (Y.0.kept v (g v (inl refl)) X.1) | inr k ↦ Y.1 w k ],
        )

    nothing : (r : ℕ) → Standing r 0 (record { at = replicate (vertex_count p) 0; begun = replicate (vertex_count p) false })
    nothing r = record {
      at_long = length-replicate (vertex_count p) 0;
      begun_long = length-replicate (vertex_count p) false;
      at_strands = λ v w h k e. get_or-replicate (vertex_count p) v 0 0 h ∙ sym (get_or-replicate (vertex_count p) w 0 0 k);
      begun_strands = λ v w h k e. get_or-replicate (vertex_count p) v false false h ∙ sym (get_or-replicate (vertex_count p) w false false k);
      asked_begun = λ w u h e q j. absurd (true≢false (sym e ∙ get_or-replicate (vertex_count p) w false false h));
      greatest = λ w h e q. absurd (true≢false (sym e ∙ get_or-replicate (vertex_count p) w false false h));
      size = λ w h. omega (arith, get_or-replicate {A = ℕ} (vertex_count p) w 0 0 h, waiting_none (vertex_count p));
    }

    -- in whatever order, if every vertex has its turn
    pub stood-by : (vs : List ℕ) → ((v : ℕ) → Mem v vs → v < vertex_count p) → ((v : ℕ) → v < vertex_count p → Mem v vs) → Stood p ss cs (placed_by p ss cs vs)
    stood-by vs inside all =
        let n = vertex_count p in
        let X = each (3 * n) vs (record { at = replicate n 0; begun = replicate n false }) nothing inside (λ v h. omega (arith, waiting_none n)) in
        let greatest : (v : ℕ) → v < n → get_or (placed_by p ss cs vs) v 0 ≡ greatest_asked p ss cs (placed_by p ss cs vs) (strand_at p v) =
        λ v k. (X.0.stands (suc (rank_of v))).greatest v k (X.1 v (all v k)) (omega arith) in
        record {
          long = (X.0.stands 0).at_long;
          strands = (X.0.stands 0).at_strands;
          greatest = greatest;
          spaced = λ u v k j. omega (arith, greatest v k, greatest-above p ss cs (placed_by p ss cs vs) (strand_at p v) u v (in-strand p S v v k refl) j);
          size = λ v k. omega (arith, (X.0.stands 0).size v k, S.limits.vertices);
        }

    pub stood : Stood p ss cs (placed_strands p (strand_at p) ss cs)
    unfolding placed_strands
    stood = let n = vertex_count p in stood-by (numbers 0 n) (λ v m. omega (arith, numbers-mem 0 n v m)) (λ v h. mem-numbers 0 n v (omega arith) (omega arith))

    -- the order changes nothing: whoever is asked has lower rank, so there is one way to stand
    alike-below : (xs ys : List ℕ) → Stood p ss cs xs → Stood p ss cs ys → (r v : ℕ) → v < vertex_count p → rank_of v < r → get_or ys v 0 ≡ get_or xs v 0
    alike-below xs ys X Y zero v h k = absurd (omega arith)
    alike-below xs ys X Y (suc r) v h k =
        Y.greatest v h
        ∙ greatest-same p ss cs xs ys (strand_at p v) (λ w u m e. alike-below xs ys X Y r u (asked u w e).left_in (omega (arith, asked-lower u w e, ap R.rank (strand-in p S v w h m).1)))
        ∙ sym (X.greatest v h)

    pub any_order : (vs : List ℕ) → ((v : ℕ) → Mem v vs → v < vertex_count p) → ((v : ℕ) → v < vertex_count p → Mem v vs) → placed_by p ss cs vs ≡ placed_strands p (strand_at p) ss cs
    any_order vs inside all =
        let Y = stood-by vs inside all in
        ext_get_or 0 (placed_by p ss cs vs) (placed_strands p (strand_at p) ss cs) (Y.long ∙ sym stood.long)
        (λ i h. alike-below (placed_strands p (strand_at p) ss cs) (placed_by p ss cs vs) stood Y (suc (rank_of i)) i (omega (arith, Y.long)) (omega arith))
