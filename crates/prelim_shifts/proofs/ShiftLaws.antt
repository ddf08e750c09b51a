-- Laws of shifting: what is collected along the chains of a class is what the definition takes its shift from, and no position
-- goes further than the shift of one class allows. Assumes nothing.
use Prim.Native.Nat.{ℕ, zero, suc, ◌+◌, ◌-◌, ◌<◌, ◌≤◌}
use mathlib.Core.Path.{◌≡◌, refl, sym, ◌∙◌, ap}
use mathlib.Core.Bool.{true}
use mathlib.Core.List.{List, [], ◌∷◌, map}
use native.Mathlib.Omega.{arith}
use borrow.Author.Tests.{lt-ltb, le-ltb, eq-eqb, ne_eqb}
use lib.Dec.{eqb}
use lib.ListN.{length, get_or, take, drop, get_or-eq_default}
use lib.Seq.{take-append_seam}
use Rattle.ints.specs.Lists.{over}
use lib.IntN.{ℤ, pos, ◌-ℤ◌}
use Rattle.ints.specs.Ints.{size, SizedTo}
use Rattle.ints.proofs.Laws.{cases, dif, if-ind}
use Rattle.plan.specs.Plan.{PlanData, data_of, Siblings, numbers}
use Rattle.plan.specs.Segments.{Segment, segments_from, segments_of}
use Rattle.plan.proofs.CountLaws.{by-same}
use Rattle.prelim_classes.specs.inner.Links.{chain, positions, among, pairs_by}
use Rattle.preliminary.specs.Shift.{gaps_in, offsets_in, middle, least_or, shift_of, moved, shift_each}
use Rattle.prelim_shifts.specs.inner.Shifts.{gap_key, offset_key, keys_by, slack, offset, slacks, offsets, Shiftable, ShiftsBy, Spread, Linked}
use Rattle.prelim_shifts.proofs.SpreadLaws.{InRange, shift_in}
use Rattle.prelim_shifts.proofs.KeyLaws.{keys_long, keys-at, positions-at}

-- ---- the pairs of a class
module _ (p : PlanData) (classes : List ℕ) (xs : List ℤ) (c : ℕ) (some : 0 < c) where
  gap-in : (v w : ℕ) (ss : List Siblings) → get_or classes v 0 ≡ c → (get_or classes w 0 ≡ c → ⊥) → gaps_in p classes xs c (record { left = v; right = w } ∷ ss) ≡ slack p.gap p.halves xs v w ∷ gaps_in p classes xs c ss
  unfolding gaps_in
  gap-in v w ss e n = rw (eq-eqb (get_or classes v 0) c e, ne_eqb (get_or classes w 0) c n)

  gap_other : (v w : ℕ) (ss : List Siblings) → (get_or classes v 0 ≡ c → ⊥) → gaps_in p classes xs c (record { left = v; right = w } ∷ ss) ≡ gaps_in p classes xs c ss
  unfolding gaps_in
  gap_other v w ss e = rw (ne_eqb (get_or classes v 0) c e)

  gap_same : (v w : ℕ) (ss : List Siblings) → get_or classes v 0 ≡ c → get_or classes w 0 ≡ c → gaps_in p classes xs c (record { left = v; right = w } ∷ ss) ≡ gaps_in p classes xs c ss
  unfolding gaps_in
  gap_same v w ss e n = rw (eq-eqb (get_or classes v 0) c e, eq-eqb (get_or classes w 0) c n)

  pub gaps-same : (f : ℕ → ℤ) (vs ws : List ℕ) (i : ℕ) → length ws ≡ length vs
      → ((j : ℕ) → j < length vs → f (i + j) ≡ slack p.gap p.halves xs (get_or vs j 0) (get_or ws j 0))
      → map f (positions c i (keys_by (gap_key classes) vs ws)) ≡ gaps_in p classes xs c (pairs_by (length classes) vs ws)
  unfolding keys_by pairs_by positions gaps_in
  gaps-same f [] ws i e g = refl
  gaps-same f (v ∷ vs) [] i e g = absurd (omega arith)
  gaps-same f (v ∷ vs) (w ∷ ws) i e g =
      let more = gaps-same f vs ws (i + 1) (omega arith) (λ j h. ap f (omega arith) ∙ g (suc j) (omega arith)) in
      let here : f i ≡ slack p.gap p.halves xs v w = ap f (omega arith) ∙ g 0 (omega arith) in
      let zero-not : 0 ≡ c → ⊥ = λ z. omega arith in
      let ss = pairs_by (length classes) vs ws in
      cases (length classes) w
      (λ o. rw (le-ltb w (length classes) o, ne_eqb 0 c zero-not) more)
      (λ o. by-same (get_or classes w 0) (get_or classes v 0)
      (λ s. rw (lt-ltb w (length classes) o, eq-eqb (get_or classes w 0) (get_or classes v 0) s, ne_eqb 0 c zero-not) (more ∙ by-same (get_or classes v 0) c
      (λ q. sym (gap_same v w ss q (s ∙ q)))
      (λ q. sym (gap_other v w ss q))))
      (λ s. by-same (get_or classes v 0) c
      (λ q. rw (lt-ltb w (length classes) o, ne_eqb (get_or classes w 0) (get_or classes v 0) s) (ap (map f) (in-it q)
      ∙ ap (λ (l : List ℤ). f i ∷ l) more ∙ ap (λ (x : ℤ). x ∷ gaps_in p classes xs c ss) here ∙ sym (gap-in v w ss q (λ z. s (z ∙ sym q)))))
      (λ q. rw (lt-ltb w (length classes) o, ne_eqb (get_or classes w 0) (get_or classes v 0) s) (ap (map f) (out-it q) ∙ more ∙ sym (gap_other v w ss q)))))
    where
      in-it : get_or classes v 0 ≡ c → positions c i (get_or classes v 0 ∷ keys_by (gap_key classes) vs ws) ≡ i ∷ positions c (i + 1) (keys_by (gap_key classes) vs ws)
      in-it q = rw (eq-eqb (get_or classes v 0) c q)

      out-it : (get_or classes v 0 ≡ c → ⊥) → positions c i (get_or classes v 0 ∷ keys_by (gap_key classes) vs ws) ≡ positions c (i + 1) (keys_by (gap_key classes) vs ws)
      out-it q = rw (ne_eqb (get_or classes v 0) c q)

-- ---- the segments of a class
module _ (classes : List ℕ) (xs : List ℤ) (c : ℕ) (some : 0 < c) where
  take-key : (f : ℕ → ℤ) (i k : ℕ) (ks : List ℕ) → k ≡ c → map f (positions c i (k ∷ ks)) ≡ f i ∷ map f (positions c (i + 1) ks)
  unfolding positions
  take-key f i k ks e = rw (eq-eqb k c e)

  skip-key : (f : ℕ → ℤ) (i k : ℕ) (ks : List ℕ) → (k ≡ c → ⊥) → map f (positions c i (k ∷ ks)) ≡ map f (positions c (i + 1) ks)
  unfolding positions
  skip-key f i k ks e = rw (ne_eqb k c e)

  key-down : (a b : ℕ) → get_or classes b 0 < get_or classes a 0 → offset_key classes a b ≡ get_or classes a 0
  key-down a b h = rw (lt-ltb (get_or classes b 0) (get_or classes a 0) h)

  key-up : (a b : ℕ) → get_or classes a 0 < get_or classes b 0 → offset_key classes a b ≡ get_or classes b 0
  key-up a b h = rw (le-ltb (get_or classes b 0) (get_or classes a 0) (omega arith), lt-ltb (get_or classes a 0) (get_or classes b 0) h)

  key-none : (a b : ℕ) → get_or classes a 0 ≡ get_or classes b 0 → offset_key classes a b ≡ 0
  key-none a b h = rw (le-ltb (get_or classes b 0) (get_or classes a 0) (omega arith), le-ltb (get_or classes a 0) (get_or classes b 0) (omega arith))

  down : (a b : ℕ) (ss : List Segment) → get_or classes a 0 ≡ c → get_or classes b 0 < c → offsets_in classes xs c (record { upper = a; lower = b } ∷ ss) ≡ offset c classes xs a b ∷ offsets_in classes xs c ss
  unfolding offsets_in
  down a b ss e h = rw (eq-eqb (get_or classes a 0) c e, lt-ltb (get_or classes b 0) c h)

  up : (a b : ℕ) (ss : List Segment) → get_or classes b 0 ≡ c → get_or classes a 0 < c → offsets_in classes xs c (record { upper = a; lower = b } ∷ ss) ≡ offset c classes xs a b ∷ offsets_in classes xs c ss
  unfolding offsets_in
  up a b ss e h = rw (ne_eqb (get_or classes a 0) c (λ z. omega arith), eq-eqb (get_or classes b 0) c e, lt-ltb (get_or classes a 0) c h)

  neither : (a b : ℕ) (ss : List Segment) → (get_or classes a 0 ≡ c → c ≤ get_or classes b 0) → (get_or classes b 0 ≡ c → c ≤ get_or classes a 0) → offsets_in classes xs c (record { upper = a; lower = b } ∷ ss) ≡ offsets_in classes xs c ss
  unfolding offsets_in
  neither a b ss f g = by-same (get_or classes a 0) c
      (λ e. by-same (get_or classes b 0) c
      (λ q. rw (eq-eqb (get_or classes a 0) c e, eq-eqb (get_or classes b 0) c q, le-ltb (get_or classes b 0) c (f e), le-ltb (get_or classes a 0) c (g q)))
      (λ q. rw (eq-eqb (get_or classes a 0) c e, ne_eqb (get_or classes b 0) c q, le-ltb (get_or classes b 0) c (f e))))
      (λ e. by-same (get_or classes b 0) c
      (λ q. rw (ne_eqb (get_or classes a 0) c e, eq-eqb (get_or classes b 0) c q, le-ltb (get_or classes a 0) c (g q)))
      (λ q. rw (ne_eqb (get_or classes a 0) c e, ne_eqb (get_or classes b 0) c q)))

  pub offsets-same : (f : ℕ → ℤ) («as» bs : List ℕ) (i : ℕ) → length «as» ≡ length bs
      → ((j : ℕ) → j < length «as» → f (i + j) ≡ offset c classes xs (get_or «as» j 0) (get_or bs j 0))
      → map f (positions c i (keys_by (offset_key classes) «as» bs)) ≡ offsets_in classes xs c (segments_from «as» bs)
  unfolding keys_by segments_from positions offsets_in
  offsets-same f [] bs i e g = refl
  offsets-same f (a ∷ «as») [] i e g = absurd (omega arith)
  offsets-same f (a ∷ «as») (b ∷ bs) i e g =
      let more = offsets-same f «as» bs (i + 1) (omega arith) (λ j h. ap f (omega arith) ∙ g (suc j) (omega arith)) in
      let here : f i ≡ offset c classes xs a b = ap f (omega arith) ∙ g 0 (omega arith) in
      let ss = segments_from «as» bs in
      let ks = keys_by (offset_key classes) «as» bs in
      let k = offset_key classes a b in
      let taken : k ≡ c → map f (positions c i (k ∷ ks)) ≡ offset c classes xs a b ∷ offsets_in classes xs c ss = λ q. take-key f i k ks q ∙ ap (λ (l : List ℤ). f i ∷ l) more ∙ ap (λ (x : ℤ). x ∷ offsets_in classes xs c ss) here in
      let passed : (k ≡ c → ⊥) → map f (positions c i (k ∷ ks)) ≡ offsets_in classes xs c ss = λ q. skip-key f i k ks q ∙ more in
      cases (get_or classes a 0) (get_or classes b 0)
      (λ h. cases (get_or classes b 0) (get_or classes a 0)
      (λ m. passed (λ z. omega (arith, key-none a b (omega arith))) ∙ sym (neither a b ss (λ z. omega arith) (λ z. omega arith)))
      (λ m. by-same (get_or classes b 0) c
      (λ q. taken (key-up a b m ∙ q) ∙ sym (up a b ss q (omega arith)))
      (λ q. passed (λ z. q (sym (key-up a b m) ∙ z)) ∙ sym (neither a b ss (λ z. omega arith) (λ z. absurd (q z))))))
      (λ m. by-same (get_or classes a 0) c
      (λ q. taken (key-down a b m ∙ q) ∙ sym (down a b ss q (omega arith)))
      (λ q. passed (λ z. q (sym (key-down a b m) ∙ z)) ∙ sym (neither a b ss (λ z. absurd (q z)) (λ z. omega arith))))

-- ---- the buffer
pub over-take : (l o b : List ℤ) (n : ℕ) → b ≡ over l o → n ≡ length l → take n b ≡ l
over-take l o b n e h = rw (e, h) (take-append_seam l (drop (length l) o))

pub offset-sized : (c : ℕ) (classes : List ℕ) (xs : List ℤ) (a b : ℕ) → SizedTo 134217728 xs → size (offset c classes xs a b) ≤ 268435456
offset-sized c classes xs a b s =
    let x = get_or xs a (pos 0) in
    let y = get_or xs b (pos 0) in
    if-ind (eqb (get_or classes a 0) c) (y -ℤ x) (x -ℤ y) (λ z. size z ≤ 268435456)
    (λ t. omega (arith, dif y x, s.each a, s.each b))
    (λ t. omega (arith, dif x y, s.each a, s.each b))

-- ---- the shift of a class, by its chains
-- the plan that has these lists and nothing else
abbrev only_these : ℕ → List ℕ → List ℕ → List ℕ → PlanData
only_these gap halves uppers lowers = data_of 0 gap 0 [] [] halves uppers lowers []

module _ (gap : ℕ) (halves order right uppers lowers classes pair_head pair_link segment_head segment_link member_head member_link : List ℕ)
    (s : Shiftable gap halves order right uppers lowers classes) (l : Linked order right uppers lowers classes pair_head pair_link segment_head segment_link member_head member_link)
    (c : ℕ) (some : 0 < c) (few : c < length pair_head) (xs : List ℤ) where
  pub shift_is : (p : PlanData) (siblings : List Siblings) → ShiftsBy p siblings gap halves order right uppers lowers classes
      → least_or (middle (offsets c classes xs uppers lowers (chain segment_link (get_or segment_head c 0)))) (slacks gap halves xs order right (chain pair_link (get_or pair_head c 0))) ≡ shift_of p siblings classes c xs
  unfolding shift_of
  shift_is p siblings b =
      let f : ℕ → ℤ = λ i. slack gap halves xs (get_or order i 0) (get_or right i 0) in
      let g : ℕ → ℤ = λ i. offset c classes xs (get_or uppers i 0) (get_or lowers i 0) in
      let gaps : map f (chain pair_link (get_or pair_head c 0)) ≡ gaps_in p classes xs c siblings =
      ap (map f) (l.pairs.each c (omega (arith, l.pair_heads)))
      ∙ gaps-same p classes xs c some f order right 0 (omega (arith, s.orders, s.rights)) (λ j h. let z : 0 + j ≡ j = omega arith in let same : f j ≡ slack p.gap p.halves xs (get_or order j 0) (get_or right j 0) = rw (b.gaps, b.widths) refl in ap f z ∙ same)
      ∙ ap (gaps_in p classes xs c) (sym b.pairs) in
      let ends : map g (chain segment_link (get_or segment_head c 0)) ≡ offsets_in classes xs c (segments_of p) =
      ap (map g) (l.segments.each c (omega (arith, l.segment_heads, l.pair_heads)))
      ∙ offsets-same classes xs c some g uppers lowers 0 s.ends (λ j h. let z : 0 + j ≡ j = omega arith in ap g z)
      ∙ ap (offsets_in classes xs c) (sym b.segments) in
      ap (λ (z : List ℤ). least_or (middle z) (map f (chain pair_link (get_or pair_head c 0)))) ends ∙ ap (least_or (middle (offsets_in classes xs c (segments_of p)))) gaps

  these : ShiftsBy (only_these gap halves uppers lowers) (pairs_by (length classes) order right) gap halves order right uppers lowers classes
  unfolding segments_of
  these = record { gaps = refl; widths = refl; segments = refl; pairs = refl }

  half : (v : ℕ) → get_or halves v 0 ≤ 200
  half v = cases (length halves) v (λ h. omega (arith, get_or-eq_default {A = ℕ} halves 0 {n = v} h)) (λ h. s.within v h)

  pub shift-range : (m : ℕ) → Spread c m classes xs → (d : ℤ)
      → d ≡ least_or (middle (offsets c classes xs uppers lowers (chain segment_link (get_or segment_head c 0)))) (slacks gap halves xs order right (chain pair_link (get_or pair_head c 0)))
      → InRange m d
  shift-range m q d e =
      let p = only_these gap halves uppers lowers in
      let ss = pairs_by (length classes) order right in
      rw (e ∙ shift_is p ss these) (shift_in c m classes xs q p ss (λ u v. omega (arith, half u, half v, s.gaps)))

  pub pairs_below : (i : ℕ) → among i (chain pair_link (get_or pair_head c 0)) ≡ true → get_or right i 0 < length classes
  pairs_below i h =
      let keys = keys_by (gap_key classes) order right in
      let a = positions-at c 0 keys i (sym (ap (among i) (l.pairs.each c (omega (arith, l.pair_heads)))) ∙ h) in
      let long = keys_long (gap_key classes) order right (omega (arith, s.orders, s.rights)) in
      let z : i - 0 ≡ i = omega arith in
      let key : get_or keys i 0 ≡ c = rw z at a.same in
      let is = keys-at (gap_key classes) order right i (omega (arith, s.orders, s.rights)) (omega (arith, a.below, long)) in
      cases (length classes) (get_or right i 0)
      (λ o. absurd (omega (arith, sym is ∙ key, none-key o)))
      (λ o. o)
    where
      none-key : length classes ≤ get_or right i 0 → gap_key classes (get_or order i 0) (get_or right i 0) ≡ 0
      none-key o = rw (le-ltb (get_or right i 0) (length classes) o)

-- ---- all classes
pub record Shifting (gap : ℕ) (halves order right uppers lowers classes : List ℕ) (levels c : ℕ) (xs xs₀ : List ℤ) : Type 0 where
  pub each : (p : PlanData) (siblings : List Siblings) → ShiftsBy p siblings gap halves order right uppers lowers classes
      → shift_each p siblings classes (numbers c (levels + 1 - c)) xs ≡ shift_each p siblings classes (numbers 1 levels) xs₀

shift_one : (p : PlanData) (siblings : List Siblings) (classes : List ℕ) (c n m : ℕ) (xs : List ℤ) → n ≡ m + 1
    → shift_each p siblings classes (numbers c n) xs ≡ shift_each p siblings classes (numbers (c + 1) m) (moved c (shift_of p siblings classes c xs) classes xs)
unfolding shift_each numbers
shift_one p siblings classes c zero m xs e = absurd (omega arith)
shift_one p siblings classes c (suc n) m xs e = let i : n ≡ m = omega arith in rw i

shift_none : (p : PlanData) (siblings : List Siblings) (classes : List ℕ) (c n : ℕ) (xs : List ℤ) → n ≡ 0 → shift_each p siblings classes (numbers c n) xs ≡ xs
unfolding shift_each numbers
shift_none p siblings classes c n xs e = rw e

module _ (gap : ℕ) (halves order right uppers lowers classes : List ℕ) (levels : ℕ) where
  module _ (c : ℕ) (xs xs₀ : List ℤ) (w : Shifting gap halves order right uppers lowers classes levels c xs xs₀) where
    pub shifting-on : c ≤ levels → (d : ℤ) (xs' : List ℤ)
        → ((p : PlanData) (siblings : List Siblings) → ShiftsBy p siblings gap halves order right uppers lowers classes → d ≡ shift_of p siblings classes c xs)
        → xs' ≡ moved c d classes xs → Shifting gap halves order right uppers lowers classes levels (c + 1) xs' xs₀
    shifting-on h d xs' is e = record {
      each = λ p siblings b.
          ap (shift_each p siblings classes (numbers (c + 1) (levels + 1 - (c + 1)))) (e ∙ ap (λ (z : ℤ). moved c z classes xs) (is p siblings b))
          ∙ sym (shift_one p siblings classes c (levels + 1 - c) (levels + 1 - (c + 1)) xs (omega arith)) ∙ w.each p siblings b;
    }

    pub shifting-end : levels < c → (p : PlanData) (siblings : List Siblings) → ShiftsBy p siblings gap halves order right uppers lowers classes → xs ≡ shift_each p siblings classes (numbers 1 levels) xs₀
    shifting-end h p siblings b = sym (shift_none p siblings classes c (levels + 1 - c) xs (omega arith)) ∙ w.each p siblings b
