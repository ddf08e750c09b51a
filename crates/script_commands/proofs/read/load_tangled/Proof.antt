-- `script_commands::read::load_tangled` meets its contract: what the text leaves in the buffer.
use mathlib.Core.Path.{refl, ap}
use native.Mathlib.Omega.{arith}
use borrow.Author.Rules.{rules}
use Rattle.script_texts.specs.Texts.{unescaped}
use Rattle.script_texts.specs.inner.Units.{size_in}
use Rattle.script_commands.specs.Commands.{load_tangled}
use Rattle.script_commands.specs.inner.Held.{lent}
use Rattle.script_commands.proofs.TableLaws.{load-text, load-bad}
use Rattle.script_commands.proofs.read.load_tangled.Statement.{statement}
use Rattle.script_commands.proofs.read.load_tangled.Tie as tie

returns : tie.Need-returns-in-Bytes
returns c = λ b.
    let c9 = c in
    let a = c9.args in
    let u = c.unescape-r in
    let r = c.in-Bytes in
    record {
      says = load-text (lent a.text.now b) load_tangled (λ t. refl) (unescaped a.escaped.now) u.result u.new.out u.ensures.holds r.n r.is;
      inside = omega (arith, u.ensures.inside, ap size_in r.is);
    }

returns-2 : tie.Need-returns-in-Bad
returns-2 c = λ b.
    let c8 = c in
    let a = c8.args in
    let u = c.unescape-r in
    record {
      says = load-bad (lent a.text.now b) load_tangled (λ t. refl) (unescaped a.escaped.now) u.result u.new.out u.ensures.holds
          c.in-Bad.is;
      inside = tt;
    }

pub load_tangled_spec : {M : Type 1} → statement M
load_tangled_spec =
    tie.close
    (tie.spec (λ c κs. search rules) (λ c. search rules) (λ c. search rules) (λ c. search rules) returns (λ c. search rules) returns-2)
