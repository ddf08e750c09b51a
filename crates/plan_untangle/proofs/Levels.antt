-- What the program keeps as it rearranges level after level: the order is that of the definition after as many levels. Assumes nothing.
use Prim.Native.Nat.{ℕ, suc, ◌+◌, ◌-◌, ◌<◌, ◌≤◌}
use mathlib.Core.Path.{◌≡◌, refl, sym, ◌∙◌, ap}
use mathlib.Core.Bool.{true, cond, ◌&&◌}
use mathlib.Core.List.{List}
use native.Mathlib.Omega.{arith}
use borrow.Author.Tests.{eqb-true}
use lib.ListN.{length, get_or, take}
use Rattle.ints.specs.Lists.{sum}
use Rattle.ints.proofs.Tests.{test}
use Rattle.ints.proofs.Lists.{take_more}
use Rattle.plan.specs.Plan.{PlanData, vertex_count, is_via, level_of}
use Rattle.plan.specs.Limits.{max_vertices}
use Rattle.plan.specs.inner.Levels.{first_on, size_on, On}
use Rattle.plan.proofs.Levels.{level-within, has-level}
use Rattle.plan.proofs.LimitLaws.{limits}
use Rattle.plan.proofs.Sound.{goes}
use Rattle.plan_renumber.specs.inner.Words.{Once}
use Rattle.plan_untangle.specs.Order.{upper_end, order_to, order as order_of}
use Rattle.plan_untangle.specs.inner.Turns.{is_turn, shared_by, Among, Sharable}
use Rattle.plan_untangle.specs.inner.Ordering.{Ordering, SomeOrdering, ShareRoom}
use Rattle.plan_untangle.proofs.Orders.{order-start, order-once, order-to-own}
use Rattle.plan_untangle.proofs.Steps.{upper-below, step_is}

-- ---- a vertex whose turn comes on level l stands there
module _ (p : PlanData) (sizes turn upper order₀ : List ℕ) (o : Ordering p sizes turn upper order₀) where
  turn_level : (l v : ℕ) → 2 ≤ l → v < vertex_count p → is_turn turn l v ≡ true → level_of p v ≡ l
  turn_level l v h k e =
      let b = is_via p v && is_via p (upper_end p v) in
      let is : cond b (level_of p v) 0 ≡ l = sym (o.turns v k) ∙ eqb-true (get_or turn v 0) l e in
      test b (λ q. rw q at is) (λ q. let no : 0 ≡ l = rw q at is in absurd (omega arith))

  turn-place : (k l i : ℕ) → 2 ≤ l → i < vertex_count p → is_turn turn l (get_or (order_to p k) i 0) ≡ true → On p l i
  turn-place k l i h j e =
      let own = order-to-own p k in
      let is : level_of p i ≡ l = sym (own.level i j) ∙ turn_level l (get_or (order_to p k) i 0) h (own.once.below i j) e in
      rw is at (has-level p i (omega (arith, (limits p o.limits).sizes_sum))).on

  turn-among : (k l first end : ℕ) → 2 ≤ l → first ≡ first_on p l → end ≡ first + size_on p l → Among turn l (order_to p k) first end
  turn-among k l first end h f g =
      let n = vertex_count p in
      let long : length (order_to p k) ≡ n = (order-once p k).long in
      let all = (limits p o.limits).sizes_sum in
      record {
        first_in = omega (arith, level-within p l);
        end_in = omega (arith, level-within p l);
        before = λ i j. test (is_turn turn l (get_or (order_to p k) i 0))
            (λ e. absurd (omega (arith, (turn-place k l i h (omega (arith, level-within p l)) e).from)))
            (λ e. e);
        after = λ i j q. test (is_turn turn l (get_or (order_to p k) i 0))
            (λ e. absurd (omega (arith, (turn-place k l i h (omega arith) e).to)))
            (λ e. e);
      }

-- `first` is where the level above l begins.
pub record Rearranging (sizes turn upper order₀ places₀ codes₀ order places codes : List ℕ) (first l : ℕ) : Type 0 where
  pub low : 2 ≤ l
  pub high : l ≤ length sizes + 1
  pub start : first ≡ sum (take (l - 2) sizes)
  pub order_long : length order ≡ length order₀
  pub places_long : length places ≡ length places₀
  pub codes_long : length codes ≡ length codes₀
  pub after : (p : PlanData) → Ordering p sizes turn upper order₀ → order ≡ order_to p (l - 2)

module _ (sizes turn upper order₀ places₀ codes₀ : List ℕ) (some : SomeOrdering sizes turn upper order₀) where
  pub rearrange-start : Rearranging sizes turn upper order₀ places₀ codes₀ order₀ places₀ codes₀ 0 2
  unfolding sum
  rearrange-start = record {
    low = omega arith;
    high = omega (arith, (limits some.plan some.tables.limits).levels_low, some.tables.levels_are);
    start = refl;
    order_long = refl;
    places_long = refl;
    codes_long = refl;
    after = λ p o. o.start ∙ sym (order-start p);
  }

  module _ (order places codes : List ℕ) (first l : ℕ) (w : Rearranging sizes turn upper order₀ places₀ codes₀ order places codes first l) where
    pub rearrange-end : length sizes < l → (p : PlanData) → Ordering p sizes turn upper order₀ → order ≡ order_of p
    unfolding order_of
    rearrange-end h p o = w.after p o ∙ ap (order_to p) (omega (arith, w.high, o.levels_are))

    from-sizes : (p : PlanData) → Ordering p sizes turn upper order₀ → sum (take (l - 1) sizes) ≡ first_on p l
    unfolding first_on
    from-sizes p o = ap (λ (ns : List ℕ). sum (take (l - 1) ns)) (sym o.sizes_are)

    size_is : (p : PlanData) → Ordering p sizes turn upper order₀ → (n : ℕ) → n + get_or sizes (l - 1) 0 ≡ n + size_on p l
    unfolding size_on
    size_is p o n = ap (λ (ns : List ℕ). n + get_or ns (l - 1) 0) (sym o.sizes_are)

    -- the next level begins after that
    pub next_start : first + get_or sizes (l - 2) 0 ≡ sum (take (l - 1) sizes)
    next_start = let e : l - 1 ≡ suc (l - 2) = omega (arith, w.low) in omega (arith, w.start, ap (λ (k : ℕ). sum (take k sizes)) e, take_more sizes (l - 2))

    pub level-small : first + get_or sizes (l - 2) 0 + get_or sizes (l - 1) 0 ≤ max_vertices
    level-small =
        let p = some.plan in
        let t = some.tables in
        omega (arith, next_start, from-sizes p t, size_is p t 0, level-within p l, (limits p t.limits).sizes_sum, (limits p t.limits).vertices)

    pub rearrange-sharable : (first' end : ℕ) → first' ≡ first + get_or sizes (l - 2) 0 → end ≡ first' + get_or sizes (l - 1) 0 → ShareRoom order₀ places₀ codes₀
        → Sharable turn l upper order first' end places codes
    rearrange-sharable first' end f g r =
        let p = some.plan in
        let t = some.tables in
        let n = vertex_count p in
        let once : Once n order = rw (w.after p t) (order-once p (l - 2)) in
        let long : length order ≡ n = once.long in
        let few = (limits p t.limits).vertices in
        record {
          few = omega arith;
          turns_long = t.turns_long ∙ sym long;
          uppers_long = t.uppers_long ∙ sym long;
          places_long = w.places_long ∙ r.places_long ∙ sym w.order_long;
          room = omega (arith, r.enough, w.order_long, w.codes_long);
          ends = λ v h. let k : v < n = omega (arith, t.uppers_long) in omega (arith, t.uppers v k, upper-below p (goes p t.three) v k);
          once = rw long once;
          among = rw (w.after p t) (turn-among p sizes turn upper order₀ t (l - 2) l first' end w.low (f ∙ next_start ∙ from-sizes p t) (g ∙ size_is p t first'));
        }

    pub rearrange-on : (order' places' codes' : List ℕ) (first' : ℕ) → l ≤ length sizes → first' ≡ first + get_or sizes (l - 2) 0 → length order' ≡ length order → length places' ≡ length places → length codes' ≡ length codes
        → order' ≡ shared_by turn upper l order → Rearranging sizes turn upper order₀ places₀ codes₀ order' places' codes' first' (l + 1)
    rearrange-on order' places' codes' first' h f a b c e = record {
      low = omega (arith, w.low);
      high = omega arith;
      start = let q : l - 1 ≡ l + 1 - 2 = omega (arith, w.low) in f ∙ next_start ∙ ap (λ (k : ℕ). sum (take k sizes)) q;
      order_long = a ∙ w.order_long;
      places_long = b ∙ w.places_long;
      codes_long = c ∙ w.codes_long;
      after = λ p o.
          let k = l - 2 in
          let is : l ≡ suc (suc k) = omega (arith, w.low) in
          let next : l + 1 - 2 ≡ suc k = omega (arith, w.low) in
          e ∙ ap (λ (j : ℕ). shared_by turn upper j order) is ∙ ap (shared_by turn upper (suc (suc k))) (w.after p o)
          ∙ step_is p (goes p o.three) o.five (limits p o.limits).vertices turn upper o.turns_long o.turns o.uppers k ∙ ap (order_to p) (sym next);
    }
