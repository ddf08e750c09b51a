-- `placerun r=3 [left=..] [right=..] old=1,2,3 counts=1,0,2 nbrs=4,5,6 dist=9,9 [ratings=1,1,1] [answer=LEN]`: what its words say. They
-- stand in any order, none twice.
use Rattle.std.specs.Prelude.{Bool, true, cond, ◌&&◌, List, ℕ, ◌+◌, eqb, leb, length, replicate, ℤ, Option, None, Some}
use Prim.Native.String.{String}
use Rattle.text.specs.Bytes.{bytes}
use Rattle.run.specs.Call.{Request}
use Rattle.script_words.specs.Numbers.{number_in, is_whole, whole_of, is_signed, signed_of}
use Rattle.script_runs.specs.declared.types.Kind.TheVariants.{Unsigned, Signed, Any}
use Rattle.script_runs.specs.Lists.{is_list, wholes_in, signeds_in}
use Rattle.script_runs.specs.Names.{times_of, value_of}

abbrev pub times : String → List (List ℕ) → ℕ
times name ws = times_of (bytes name) ws

abbrev pub value : String → List (List ℕ) → List ℕ
value name ws = value_of (bytes name) ws

-- Whether a name, written with its `=`, is said once.
abbrev pub is_said : List ℕ → List (List ℕ) → Bool
is_said name ws = eqb (times_of name ws) 1

-- r, the old positions, the neighbours' counts and positions and the distances are said once;
unfoldable pub has_parts : List (List ℕ) → Bool
has_parts ws =
    is_said (bytes "r=") ws && is_said (bytes "old=") ws && is_said (bytes "counts=") ws && is_said (bytes "nbrs=") ws
    && is_said (bytes "dist=") ws

-- the bounds, the ratings and the answer's length at most once, and nothing else: no name begins with another, so no word counts twice.
unfoldable pub has_options : List (List ℕ) → Bool
has_options ws =
    leb (times "left=" ws) 1 && leb (times "right=" ws) 1 && leb (times "ratings=" ws) 1 && leb (times "answer=" ws) 1
    && eqb (length ws) (5 + times "left=" ws + times "right=" ws + times "ratings=" ws + times "answer=" ws)

-- Each is a number, or a list of numbers, that its place can hold. A distance and a rating may be any number.
abbrev pub may_bound : List ℕ → List (List ℕ) → Bool
may_bound name ws = cond (is_said name ws) (is_signed (number_in (value_of name ws))) true

abbrev pub may_room : List (List ℕ) → Bool
may_room ws = cond (is_said (bytes "answer=") ws) (is_whole (number_in (value "answer=" ws))) true

unfoldable pub has_numbers : List (List ℕ) → Bool
has_numbers ws = is_whole (number_in (value "r=" ws)) && may_bound (bytes "left=") ws && may_bound (bytes "right=") ws && may_room ws

unfoldable pub has_lists : List (List ℕ) → Bool
has_lists ws =
    is_list Signed (value "old=" ws) && is_list Unsigned (value "counts=" ws) && is_list Signed (value "nbrs=" ws)
    && is_list Any (value "dist=" ws) && is_list Any (value "ratings=" ws)

-- Whether the words are a request.
unfoldable pub is_request : List (List ℕ) → Bool
is_request ws = has_parts ws && has_options ws && has_numbers ws && has_lists ws

-- Without `left` or `right` there is no such bound; without `answer` the answer buffer has length r.
abbrev pub bound_in : List ℕ → List (List ℕ) → Option ℤ
bound_in name ws = cond (is_said name ws) (Some (signed_of (number_in (value_of name ws)))) None

abbrev pub boxes_in : List (List ℕ) → ℕ
boxes_in ws = whole_of (number_in (value "r=" ws))

abbrev pub room_in : List (List ℕ) → ℕ
room_in ws = cond (is_said (bytes "answer=") ws) (whole_of (number_in (value "answer=" ws))) (boxes_in ws)

-- Document 02, E5: "without one it has rating 1". Without `ratings` each neighbour has rating 1.
abbrev pub ratings_in : List (List ℕ) → List ℕ
ratings_in ws = cond (is_said (bytes "ratings=") ws) (wholes_in (value "ratings=" ws)) (replicate (length (signeds_in (value "nbrs=" ws))) 1)

-- A distance or a rating below 0 is as good as 0: 8 refuses both.
unfoldable pub request_in : List (List ℕ) → Request
request_in ws = record {
  boxes = boxes_in ws;
  left = bound_in (bytes "left=") ws;
  right = bound_in (bytes "right=") ws;
  old = signeds_in (value "old=" ws);
  distances = wholes_in (value "dist=" ws);
  counts = wholes_in (value "counts=" ws);
  neighbours = signeds_in (value "nbrs=" ws);
  ratings = ratings_in ws;
}
