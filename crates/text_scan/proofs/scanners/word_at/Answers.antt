-- `text_scan::scanners::word_at` meets its contract: the text begins with the word exactly if `word` finds it.
use Rattle.std.proofs.Common.{◌≡◌, ◌-◌, Bool, true, false, cond, ◌&&◌, List, [], ◌∷◌, ℕ, eqb, length, take, drop, refl, ap, ◌∙◌, arith, length-drop, length-take-le}
use Rattle.std.specs.Cmp.Lexicographic.{pointwise}
use Rattle.std.proofs.lemmas.List.{drop-drop}
use Rattle.std.proofs.Math.Seq.{take_all}
use Rattle.text.specs.Parser.{got, nothing, word}
use Rattle.text_scan.proofs.scanners.word_at.Goals as goal

-- whether the text begins with the word
abbrev begins : List ℕ → List ℕ → Bool
begins w s = pointwise eqb w (take (length w) s)

word-begins : (w s : List ℕ) → word w s ≡ cond (begins w s) (got tt (drop (length w) s)) nothing
unfolding word
word-begins [] s = refl
word-begins (a ∷ w) [] = refl
word-begins (a ∷ w) (b ∷ s) = go (eqb a b) (word-begins w s)
  where
    go : (t : Bool) → word w s ≡ cond (begins w s) (got tt (drop (length w) s)) nothing
        → cond t (word w s) nothing ≡ cond (t && begins w s) (got tt (drop (length w) s)) nothing
    go true e = e
    go false e = refl

pub returns : goal.returns
returns c =
    let a = c.args in
    let w = a.word.now in
    let s = drop a.at a.text.now in
    let e : c.starts_with.result ≡ begins w s = c.starts_with.ensures.value ∙ ap (begins w) (take_all _ s (let d = length-drop a.at a.text.now in omega arith)) in
    record {
      gives = word-begins w s ∙ rw (e, drop-drop (length w) a.at a.text.now);
      inside = λ q.
          let d = length-drop a.at a.text.now in
          let t = length-take-le (length a.text.now - a.at) s (omega arith) in
          let f = c.starts_with.ensures.bound q in
          omega arith;
    }
