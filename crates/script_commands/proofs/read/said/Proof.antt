-- `script_commands::read::said` meets its contract: the arms of the match are the rows of the table.
use mathlib.Core.Path.{◌≡◌, refl, sym, ◌∙◌, ap}
use mathlib.Core.List.{◌++◌}
use native.Mathlib.Omega.{arith}
use borrow.Author.Rules.{rules}
use Rattle.script_forms.specs.inner.First.{first_form}
use Rattle.script_commands.specs.Table.{calls, plan_pokes, loading_pokes, drawing_pokes}
use Rattle.script_commands.proofs.TableLaws.{forms_of, said_at, said-none, above, calls-forms}
use Rattle.script_commands.proofs.read.said.Statement.{statement}
use Rattle.script_commands.proofs.read.said.Tie as tie

-- the number of the form that was found
found : (c : tie.After-first_form) → c.first_form.result ≡ first_form (forms_of calls) c.args.line.now
found c = c.first_form.ensures ∙ ap (λ fs. first_form fs c.args.line.now) calls-forms

returns : tie.Need-returns-in-0
unfolding calls
returns c = record {
  says = λ b. sym (said_at c.args.line.now calls (plan_pokes ++ loading_pokes ++ drawing_pokes) 0
      (sym (found c.before) ∙ c.in-0.is) (omega arith));
  bare = refl;
}

returns-2 : tie.Need-returns-in-1
unfolding calls
returns-2 c = record {
  says = λ b. sym (said_at c.args.line.now calls (plan_pokes ++ loading_pokes ++ drawing_pokes) 1
      (sym (found c.before) ∙ c.in-1.is) (omega arith));
  bare = refl;
}

returns-3 : tie.Need-returns-in-2
unfolding calls
returns-3 c = record {
  says = λ b. sym (said_at c.args.line.now calls (plan_pokes ++ loading_pokes ++ drawing_pokes) 2
      (sym (found c.before) ∙ c.in-2.is) (omega arith));
  bare = refl;
}

returns-4 : tie.Need-returns-in-3
unfolding calls
returns-4 c =
    let c6 = c in
    record {
      says = λ b. rw c.whole_at.ensures (sym (said_at c6.args.line.now calls (plan_pokes ++ loading_pokes ++ drawing_pokes) 3
          (sym (found c.before.before) ∙ c.in-3.is) (omega arith)));
      bare = refl;
    }

returns-5 : tie.Need-returns-in-4
unfolding calls
returns-5 c =
    let c7 = c in
    record {
      says = λ b. rw (c.whole_at-in-4.ensures, c.whole_at-in-4-2.ensures)
          (sym (said_at c7.args.line.now calls (plan_pokes ++ loading_pokes ++ drawing_pokes) 4
          (sym (found c.before.before.before) ∙ c.in-4.is) (omega arith)));
      bare = refl;
    }

returns-6 : tie.Need-returns-in-5
unfolding calls
returns-6 c = record {
  says = λ b. sym (said_at c.args.line.now calls (plan_pokes ++ loading_pokes ++ drawing_pokes) 5
      (sym (found c.before) ∙ c.in-5.is) (omega arith));
  bare = refl;
}

returns-7 : tie.Need-returns-in-6
unfolding calls
returns-7 c =
    let c6 = c in
    record {
      says = λ b. rw c.whole_at-in-6.ensures (sym (said_at c6.args.line.now calls (plan_pokes ++ loading_pokes ++ drawing_pokes) 6
          (sym (found c.before.before) ∙ c.in-6.is) (omega arith)));
      bare = refl;
    }

returns-8 : tie.Need-returns-in-7
unfolding calls
returns-8 c = record {
  says = λ b. sym (said_at c.args.line.now calls (plan_pokes ++ loading_pokes ++ drawing_pokes) 7
      (sym (found c.before) ∙ c.in-7.is) (omega arith));
  bare = refl;
}

returns-9 : tie.Need-returns-in-8
unfolding calls
returns-9 c =
    let c6 = c in
    record {
      says = λ b. rw c.whole_at-in-8.ensures (sym (said_at c6.args.line.now calls (plan_pokes ++ loading_pokes ++ drawing_pokes) 8
          (sym (found c.before.before) ∙ c.in-8.is) (omega arith)));
      bare = refl;
    }

returns-10 : tie.Need-returns-in-9
unfolding calls
returns-10 c =
    let c7 = c in
    record {
      says = λ b. rw (c.whole_at-in-9.ensures, c.whole_at-in-9-2.ensures)
          (sym (said_at c7.args.line.now calls (plan_pokes ++ loading_pokes ++ drawing_pokes) 9
          (sym (found c.before.before.before) ∙ c.in-9.is) (omega arith)));
      bare = refl;
    }

returns-11 : tie.Need-returns-in-10
unfolding calls
returns-11 c = record {
  says = λ b. sym (said_at c.args.line.now calls (plan_pokes ++ loading_pokes ++ drawing_pokes) 10
      (sym (found c.before) ∙ c.in-10.is) (omega arith));
  bare = refl;
}

returns-12 : tie.Need-returns-in_default
unfolding calls
returns-12 c =
    let c6 = c in
    let n = c.in_default.in_default-own.rest in
    let h = (above 10 (above 9 (above 8 (above 7 (above 6 (above 5 (above 4
    (above 3 (above 2 (above 1 (above 0 (omega arith) n.0.0.0.0.0.0.0.0.0.0.1) n.0.0.0.0.0.0.0.0.0.1)
    n.0.0.0.0.0.0.0.0.1) n.0.0.0.0.0.0.0.1) n.0.0.0.0.0.0.1) n.0.0.0.0.0.1) n.0.0.0.0.1)
    n.0.0.0.1) n.0.0.1) n.0.1) n.1) in
    let s = c.said_by_pokes.ensures in
    record {
      says = λ b. s.says b ∙ sym (said-none c6.args.line.now calls (plan_pokes ++ loading_pokes ++ drawing_pokes)
          (omega (arith, h, found c.before.before)));
      bare = s.bare;
    }

pub said_spec : {M : Type 1} → statement M
said_spec =
    tie.close
    (tie.spec (λ c κs. search rules) (λ c κs. search rules) (λ c κs. search rules) (λ c κs. search rules) (λ c κs. search rules)
    (λ c κs. search rules) (λ c κs. search rules) (λ c κs. search rules) (λ c κs. search rules) returns returns-2 returns-3 returns-4 returns-5
    returns-6 returns-7 returns-8 returns-9 returns-10 returns-11 returns-12)
