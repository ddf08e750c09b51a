-- `script_commands::read::walk` meets its contract: a number up to the first space, and what the text leaves in the buffer.
use Prim.Native.Nat.{ℕ, ◌+◌}
use mathlib.Core.Path.{◌≡◌, refl, sym, ◌∙◌, ap}
use native.Mathlib.Omega.{arith}
use borrow.Author.Tests.{not-true, not-false}
use borrow.Author.Rules.{rules}
use lib.ListN.{length, take}
use lib.Seq.{length-take-le}
use Rattle.script_forms.specs.Forms.{whole_at}
use Rattle.script_texts.specs.Texts.{unescaped}
use Rattle.script_texts.specs.inner.Units.{size_in}
use Rattle.script_words.specs.Numbers.{is_whole}
use Rattle.script_words.specs.inner.Ends.{between}
use Rattle.script_words.proofs.PartLaws.{rest}
use Rattle.script_commands.specs.Commands.{walk}
use Rattle.script_commands.specs.Table.{loading, walking}
use Rattle.script_commands.specs.inner.Held.{lent, shortened}
use Rattle.script_commands.proofs.TableLaws.{walk-no-number, walk-no-text, walking-is, load-text, load-bad}
use Rattle.script_commands.proofs.read.walk.Statement.{statement}
use Rattle.script_commands.proofs.read.walk.Tie as tie

slice-aggregate-number : tie.Need-slice_bounds-number-end
slice-aggregate-number c = sym (length-take-le _ _ c.end_of-end.ensures.inside)

returns : tie.Need-returns-then-not-is_whole
returns c = λ b.
    let a = c.args in
    record {
      says = walk-no-number a.given.now _ c.end_of-end.ensures (lent a.text.now b)
          (sym (c.is_whole.ensures ∙ ap is_whole c.number.ensures) ∙ not-true _ c.if-not-is_whole.true-raw);
      inside = tt;
    }

returns-2 : tie.Need-returns-then-given-end
returns-2 c = λ b.
    let a = c.args in
    record { says = walk-no-text a.given.now _ c.end_of-end.ensures (lent a.text.now b) c.if-given-end.true; inside = tt }

-- a number and a text
said-walk : (c : tie.After-unescape-arg-1) → let given = c.args.given.now in
    loading (walk (whole_at given 0)) (unescaped (between (c.end_of-end.result + 1) (length given) given)) ≡ walking given
said-walk c =
    let a = c.args in
    let end = c.end_of-end in
    ap (λ t. loading (walk (whole_at a.given.now 0)) (unescaped t)) (rest (end.result + 1) a.given.now)
    ∙ sym (walking-is a.given.now end.result end.ensures
    (sym (c.is_whole.ensures ∙ ap is_whole c.number.ensures) ∙ not-false _ c.if-not-is_whole.false-raw) c.if-given-end.false)

returns-3 : tie.Need-returns-in-Bytes
returns-3 c = λ b.
    let a = c.args in
    let u = c.unescape-r in
    let r = c.in-Bytes in
    let say = walk (whole_at a.given.now 0) in
    let end = c.end_of-end in
    record {
      says =
          ap (λ (l : ℕ). walk l (take r.n u.new.out)) c.whole_at.ensures
          ∙ load-text (lent a.text.now b) say (λ t. refl) (unescaped (between (end.result + 1) (length a.given.now) a.given.now)) u.result u.new.out u.ensures.holds r.n r.is
          ∙ ap (shortened (lent a.text.now b)) (said-walk c.before.before.before.before.before.before);
      inside = omega (arith, u.ensures.inside, ap size_in r.is);
    }

returns-4 : tie.Need-returns-in-Bad
returns-4 c = λ b.
    let a = c.args in
    let u = c.unescape-r in
    let say = walk (whole_at a.given.now 0) in
    let end = c.end_of-end in
    record {
      says =
          load-bad (lent a.text.now b) say (λ t. refl) (unescaped (between (end.result + 1) (length a.given.now) a.given.now)) u.result u.new.out u.ensures.holds c.in-Bad.is
          ∙ ap (shortened (lent a.text.now b)) (said-walk c.before.before.before.before.before);
      inside = tt;
    }

pub walk_spec : {M : Type 1} → statement M
walk_spec =
    tie.close
    (tie.spec (λ c κs. search rules) slice-aggregate-number (λ c κs. search rules) (λ c κs. search rules) returns returns-2
    (λ c. search rules) (λ c. search rules) (λ c. search rules) (λ c. search rules) (λ c κs. search rules) (λ c. search rules)
    (λ c κs. search rules) (λ c. search rules) (λ c. search rules) returns-3 (λ c. search rules) returns-4)
