use Rattle.std.proofs.Common.{◌∙◌, ℕ, sym, replicate}
use Rattle.std.proofs.lemmas.List.{length-take-le}
use Rattle.pass_draw.proofs.ThreeLaws.{levels-few, sizes_sum, at_first}
use Rattle.pass_draw.proofs.three.run_with_starts.Goals as goal

pub slice_bounds-starts-end : goal.slice_bounds-starts-end
slice_bounds-starts-end c = levels-few c.requires.is

pub slice_bounds-starts-end-2 : goal.slice_bounds-starts-end-2
slice_bounds-starts-end-2 c = sym (length-take-le {A = ℕ} _ (replicate 65 0) (levels-few c.requires.is))

pub level_starts-requires : goal.level_starts-requires
level_starts-requires c = (length-take-le {A = ℕ} _ (replicate 65 0) (levels-few c.requires.is), sizes_sum c.requires.is)

pub run_passes-requires : goal.run_passes-requires
run_passes-requires c = let s = c.requires in
    record { it = s.it; is = at_first s.is c.level_starts.new.starts (c.level_starts.auto.starts ∙ length-take-le {A = ℕ} _ (replicate 65 0) (levels-few s.is)) c.level_starts.ensures }

pub returns : goal.returns
returns c = λ p k. c.run_passes.ensures p (at_first k c.level_starts.new.starts (c.level_starts.auto.starts ∙ length-take-le {A = ℕ} _ (replicate 65 0) (levels-few k)) c.level_starts.ensures)
