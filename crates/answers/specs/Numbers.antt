-- The numbers of the answers (docs/RULES.md, "Answers").
use Rattle.std.specs.Prelude.{ℕ}

abbrev pub done : ℕ
done = 0

abbrev pub bad_start : ℕ
bad_start = 1

abbrev pub out_of_bounds : ℕ
out_of_bounds = 2

abbrev pub odd_count : ℕ
odd_count = 3

abbrev pub no_room : ℕ
no_room = 4

abbrev pub position_past_end : ℕ
position_past_end = 5

abbrev pub malformed : ℕ
malformed = 6

abbrev pub other_kind : ℕ
other_kind = 7

abbrev pub number_out_of_bounds : ℕ
number_out_of_bounds = 8
