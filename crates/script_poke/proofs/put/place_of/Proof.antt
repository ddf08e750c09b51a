-- `script_poke::put::place_of` meets its contract: the tests of `has_box`, the sum of counts kept below 2,048.
use mathlib.Core.Path.{◌≡◌, sym}
use native.Mathlib.Omega.{arith}
use borrow.Author.Rules.{rules}
use lib.ListN.{length, take}
use lib.Seq.{length-take-le}
use Rattle.script_poke.proofs.BoxLaws.{no-placing, no-box, no_room, has-box}
use Rattle.script_poke.proofs.put.place_of.Statement.{statement}
use Rattle.script_poke.proofs.put.place_of.Tie as tie

returns : tie.Need-returns-then-q-ge-MAX_LISTED
returns c = let a = c.args in rw (no-placing a.counts a.q a.b c.if-q-ge-MAX_LISTED.true)

returns-2 : tie.Need-returns-then-wide-b
returns-2 c = let a = c.args in rw (no-box a.counts a.q a.b (omega (arith, c.wide.ensures)))

-- the front of the counts
front : (c : tie.After-counts-1) → length (take c.args.q c.args.counts)
    ≡ c.args.q
front c = length-take-le c.args.q c.args.counts (search rules)

total-requires : tie.Need-total-before-requires
total-requires c κs = omega (arith, front c)

returns-3 : tie.Need-returns-then-before-ge-MAX_LISTED
returns-3 c =
    let c6 = c in
    let a = c6.args in rw (no_room a.counts a.q a.b (omega (arith, c.total-before.ensures)))

returns-4 : tie.Need-returns-then-before-b
returns-4 c =
    let c7 = c in
    let a = c7.args in rw (no_room a.counts a.q a.b (omega (arith, c.total-before.ensures)))

returns-5 : tie.Need-returns
returns-5 c =
    let c7 = c in
    let a = c7.args in
    rw (
      has-box a.counts a.q a.b (omega arith) (omega (arith, c.wide.ensures))
          (omega (arith, c.total-before.ensures)),
      c.total-before.ensures,
    )

pub place_of_spec : {M : Type 1} → statement M
place_of_spec =
    tie.close
    (tie.spec returns (λ c. search rules) (λ c. search rules) (λ c κs. search rules) returns-2 (λ c. search rules) (λ c. sym (front c)) total-requires
    returns-3 (λ c. search rules) returns-4 (λ c. search rules) returns-5)
