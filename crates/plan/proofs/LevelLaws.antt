-- Laws of `numbers`, of levels written and of `level_in`, these as a loop over the levels meets them. Assumes nothing.
use Prim.Native.Nat.{ℕ, zero, suc, ◌+◌, ◌-◌, ◌<◌, ◌≤◌, min}
use mathlib.Core.Path.{◌≡◌, sym, ◌∙◌, ap}
use mathlib.Core.List.{List, [], ◌∷◌, ◌++◌}
use native.Mathlib.Omega.{arith}
use native.Mathlib.Numerals.{add-one}
use borrow.Author.Tests.{lt-ltb, le-ltb, ltb-false}
use lib.Dec.{ltb}
use lib.ListN.{length, get_or, take, drop, replicate, drop_of_length-le}
use lib.Seq.{drop-cons}
use borrow.Author.Rules.{rules}
use borrow.Rule.Slice.PartMut.{put_mid}
use Rattle.std.proofs.lemmas.List.{places}
use Rattle.ints.specs.Lists.{sum}
use Rattle.ints.proofs.Laws.{if-ind, cases}
use Rattle.plan.specs.Plan.{numbers, level_in}
use Rattle.plan.specs.inner.Graph.{Levelled}

-- ---- numbers
pub numbers-append : (v a b : ℕ) → numbers v (a + b) ≡ numbers v a ++ numbers (v + a) b
unfolding numbers
numbers-append v zero b =
    let e : 0 + b ≡ b = omega arith in
    let f : v + 0 ≡ v = omega arith in
    rw (e, f)
numbers-append v (suc a) b =
    let e : suc a + b ≡ suc (a + b) = omega arith in
    let f : v + suc a ≡ v + 1 + a = omega arith in
    rw (e, f, numbers-append (v + 1) a b)

-- ---- l written from `at` on, up to `to`
abbrev pub wrote : List ℕ → ℕ → ℕ → ℕ → List ℕ
wrote xs at to l = put_mid at (to - at) xs (replicate (to - at) l)

module _ (xs : List ℕ) (at to l : ℕ) (h : at ≤ to) (k : to ≤ length xs) where
  pub wrote-long : length (wrote xs at to l) ≡ length xs
  wrote-long = search (rules, places)

  pub wrote-before : (v : ℕ) → v < at → get_or (wrote xs at to l) v 0 ≡ get_or xs v 0
  wrote-before v m = search (rules, places)

  pub wrote-in : (v : ℕ) → at ≤ v → v < to → get_or (wrote xs at to l) v 0 ≡ l
  wrote-in v m n = search (rules, places)

-- ---- level_in, of any number and of a vertex
pub level-low : (ns : List ℕ) (v : ℕ) → 1 ≤ level_in ns v
unfolding level_in
level-low [] v = omega arith
level-low (n ∷ ns) v = if-ind (ltb v n) 1 (suc (level_in ns (v - n))) (λ l. 1 ≤ l) (λ t. omega arith) (λ t. omega arith)

pub level-most : (ns : List ℕ) (v : ℕ) → level_in ns v ≤ length ns + 1
unfolding level_in
level-most [] v = omega arith
level-most (n ∷ ns) v =
    let more = level-most ns (v - n) in
    if-ind (ltb v n) 1 (suc (level_in ns (v - n))) (λ l. l ≤ suc (length ns) + 1) (λ t. omega arith) (λ t. omega arith)

pub level-high : (ns : List ℕ) (v : ℕ) → v < sum ns → level_in ns v ≤ length ns
unfolding level_in sum
level-high [] v h = absurd (omega arith)
level-high (n ∷ ns) v h = if-ind (ltb v n) 1 (suc (level_in ns (v - n))) (λ l. l ≤ suc (length ns)) (λ t. omega arith)
    (λ t. let k = ltb-false v n t in let j = level-high ns (v - n) (omega arith) in omega arith)

-- the vertices of level k + 1 are those from its first on, up to the next level's first
pub level-between : (ns : List ℕ) (k v : ℕ) → k < length ns → level_in ns v ≡ suc k → (sum (take k ns) ≤ v) × (v < sum (take k ns) + get_or ns k 0)
unfolding level_in sum
level-between [] k v h e = absurd (omega arith)
level-between (n ∷ ns) zero v h e = cases n v
    (λ m. let low = level-low ns (v - n) in let here = rw (le-ltb v n m) at e in absurd (omega arith))
    (λ m. (omega arith, omega arith))
level-between (n ∷ ns) (suc k) v h e = cases n v
    (λ m. let here : suc (level_in ns (v - n)) ≡ suc (suc k) = rw (le-ltb v n m) at e in
    let more = level-between ns k (v - n) (omega arith) (omega arith) in
    (omega (arith, more.0), omega (arith, more.1)))
    (λ m. let here : 1 ≡ suc (suc k) = rw (lt-ltb v n m) at e in absurd (omega arith))

pub level-rises : (ns : List ℕ) (v w : ℕ) → v ≤ w → level_in ns v ≤ level_in ns w
unfolding level_in
level-rises [] v w h = omega arith
level-rises (n ∷ ns) v w h = cases n v
    (λ k. rw (le-ltb v n k, le-ltb w n (omega arith)) (omega (arith, level-rises ns (v - n) (w - n) (omega arith))))
    (λ k. rw (lt-ltb v n k) (level-low (n ∷ ns) w))

-- ---- level_in, below the first i levels
module _ (ns : List ℕ) (i v : ℕ) where
  pub level-past : length ns ≤ i → level_in (drop i ns) v ≡ 1
  unfolding level_in
  level-past h = rw (drop_of_length-le ns h)

  pub level-here : i < length ns → v < get_or ns i 0 → level_in (drop i ns) v ≡ 1
  unfolding level_in
  level-here h k = rw (drop-cons ns i 0 h, lt-ltb v (get_or ns i 0) k)

  pub level-next : i < length ns → get_or ns i 0 ≤ v → level_in (drop i ns) v ≡ suc (level_in (drop (i + 1) ns) (v - get_or ns i 0))
  unfolding level_in
  level-next h k = rw (add-one, drop-cons ns i 0 h, le-ltb v (get_or ns i 0) k)

-- ---- levels written one after another: i of them, up to vertex `from`
pub record WrittenTo (sizes level : List ℕ) (from i : ℕ) : Type 0 where
  pub written : (v : ℕ) → v < from → get_or level v 0 ≡ level_in sizes v
  pub ahead : (v : ℕ) → from ≤ v → v < length level → level_in sizes v ≡ i + level_in (drop i sizes) (v - from)

module _ (sizes level : List ℕ) (from i : ℕ) (w : WrittenTo sizes level from i) (low : from ≤ length level) where
  pub levels-end : length sizes ≤ i → Levelled sizes (wrote level from (length level) (i + 1))
  levels-end h =
      let now = wrote level from (length level) (i + 1) in
      let long : length now ≡ length level = wrote-long level from (length level) (i + 1) low (omega arith) in
      record {
        each = λ v k. let k' : v < length level = rw long at k in cases from v
            (λ m. wrote-in level from (length level) (i + 1) low (omega arith) v m k'
            ∙ sym (w.ahead v m k' ∙ ap (λ (n : ℕ). i + n) (level-past sizes i (v - from) h)))
            (λ m. wrote-before level from (length level) (i + 1) low (omega arith) v m ∙ w.written v m);
      }

  pub levels-on : (to : ℕ) → i < length sizes → to ≡ min (from + get_or sizes i 0) (length level)
      → WrittenTo sizes (wrote level from to (i + 1)) to (i + 1)
  levels-on to h e =
      let h1 : from ≤ to = omega arith in
      let h2 : to ≤ length level = omega arith in
      let long : length (wrote level from to (i + 1)) ≡ length level = wrote-long level from to (i + 1) h1 h2 in
      record {
        written = λ v k. cases from v
            (λ m. wrote-in level from to (i + 1) h1 h2 v m k
            ∙ sym (w.ahead v m (omega arith) ∙ ap (λ (n : ℕ). i + n) (level-here sizes i (v - from) h (omega arith))))
            (λ m. wrote-before level from to (i + 1) h1 h2 v m ∙ w.written v m);
        ahead = λ v k m.
            let m' : v < length level = rw long at m in
            let next = level-next sizes i (v - from) h (omega arith) in
            let past : v - from - get_or sizes i 0 ≡ v - to = omega arith in
            w.ahead v (omega arith) m' ∙ ap (λ (n : ℕ). i + n) (next ∙ ap (λ (n : ℕ). suc (level_in (drop (i + 1) sizes) n)) past) ∙ omega arith;
      }
