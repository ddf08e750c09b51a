use Rattle.std.proofs.Common.{refl, sym}
use Rattle.run.specs.Call.{call_of, placed_of}
use Rattle.place_run.proofs.Taken.{taken_places}
use Rattle.place_run.proofs.call.place_run.Goals as goal

pub returns-then-not-is_taken : goal.returns-then-not-is_taken
unfolding call_of
returns-then-not-is_taken c = rw (sym c.if-not-is_taken.ensures) (record { answered = refl; left = refl })

pub place_rated-requires : goal.place_rated-requires
place_rated-requires c = taken_places _ _ _ _ _ _ _ _ _ (sym c.if-not-is_taken.ensures)

pub returns : goal.returns
unfolding call_of placed_of
returns c = rw (sym c.if-not-is_taken.ensures) (record { answered = refl; left = c.place_rated.ensures })
