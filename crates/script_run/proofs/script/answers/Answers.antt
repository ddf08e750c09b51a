-- The second run finds the buffer as it was, and room for all.
use Rattle.std.proofs.Common.{rules, arith, ◌≡◌, ◌∙◌, sym, refl, ℕ, length, true, false, is_some, Option, None, Some, Ok}
use Rattle.std.specs.Option.{ok_or, unwrap_or}
use Prim.Native.Nat.{min}
use Rattle.text.proofs.Words.{never}
use Rattle.ints.specs.declared.refusal.Refusal.{Refusal}
use Rattle.script_told.specs.Scripts.{max_length}
use Rattle.script_told.proofs.Twice.{too_short, all-written}
use Rattle.script_run.proofs.script.answers.Goals as goal

given : (r : Option ℕ) (e : Refusal) → is_some r ≡ true → ok_or r e ≡ Ok (unwrap_or r 0)
given None e h = never h
given (Some n) e h = refl

pub returns-then-is_none : goal.returns-then-is_none
returns-then-is_none c =
    let a = c.args in
    let room : c.min-room.result ≡ min max_length (length a.out.now) =
    let e : c.min-room.result ≡ min (length a.out.now) max_length = search rules in omega (arith, e) in
    let n : is_some c.each_line.result ≡ false = search rules in
    too_short a.script.now a.out.now room c.each_line.ensures n

pub returns : goal.returns
returns c =
    let a = c.args in
    let room : c.min-room.result ≡ min max_length (length a.out.now) =
    let e : c.min-room.result ≡ min (length a.out.now) max_length = search rules in omega (arith, e) in
    let n : is_some c.each_line.result ≡ true = search rules in
    let m = c.each_line-2.ensures.ends ∙ sym c.each_line.ensures.ends ∙ n in
    rw (c.ok_or.ensures.value ∙ given _ _ m) (all-written a.script.now a.out.now room c.each_line.ensures n c.each_line-2.ensures)
