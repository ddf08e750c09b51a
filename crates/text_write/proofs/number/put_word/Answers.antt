use Rattle.std.proofs.Common.{◌≡◌, ◌+◌, ◌≤◌, ℕ, List, take, drop, length, append_assoc, arith, sym, refl}
use Rattle.std.proofs.lemmas.List.{drop-drop}
use borrow.Rule.Slice.PartMut.{put_mid}
use lib.Seq.{sets, sets-eq}
use Rattle.text_write.proofs.number.put_word.Goals as goal

put_mid-sets : (at k : ℕ) (o w : List ℕ) → at + k ≡ at + length w → at + length w ≤ length o → put_mid at k o w ≡ sets o at w
put_mid-sets at k o w e h = rw (sets-eq w o at h, drop-drop k at o, e) (sym (append_assoc (take at o) w (drop (at + length w) o)))

pub returns : goal.returns
returns c = record {
  next = refl;
  bytes = rw c.copy_from_slice.ensures.after (put_mid-sets c.args.at _ c.args.out.now c.args.word.now (omega arith) c.requires);
}
