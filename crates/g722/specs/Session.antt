-- What encoders and decoders share: the position, the bounds of a session, and how one is begun (docs/RULES.md, "Sessions", "Bounds").
use Rattle.std.specs.Prelude.{ℕ, ◌+◌, Bool, cond, ◌&&◌, pos, eqb, leb, ltb}
use Rattle.answers.specs.Numbers.{done, bad_start}
use Rattle.answers.specs.Outcomes.{reply}
use Rattle.answers.specs.declared.Answer.{Answer}
use Rattle.band.specs.declared.Filters.{Filters}
use Rattle.band.specs.Fresh.{fresh_filters}
use Rattle.band.specs.Bounds.{filters_in_bounds}
use Rattle.runs.specs.Rates.{decode_room}
use Rattle.g722.specs.declared.Session.{Session}
use Rattle.g722.specs.declared.Encoding.{Encoding}
use Rattle.g722.specs.declared.Decoding.{Decoding}

abbrev pub Encoder : Type 0
Encoder = Session Encoding

abbrev pub Decoder : Type 0
Decoder = Session Decoding

abbrev pub session_at : {K : Type 0} → ℕ → ℕ → ℕ → Filters → Session K
session_at rate start position filters = record { rate = rate; start = start; position = position; filters = filters; kind = record {} }

-- so many samples further on, with these filters
abbrev pub moved : {K : Type 0} → Session K → ℕ → Filters → Session K
moved s samples filters = session_at s.rate s.start (s.position + samples) filters

-- the answer with this number: done, it counts so many items and hands back the session after; refused, the one given
abbrev pub answered : {K : Type 0} → ℕ → ℕ → Session K → Session K → Answer (Session K)
answered number count after s = reply number count (cond (eqb number done) after s)

abbrev pub position_most : ℕ
position_most = 4294967295

-- position counts samples at the session's rate: those that an encoder takes, one each at any rate, and those that a decoder gives out
unfoldable pub encoder_moves : ℕ → ℕ → ℕ
encoder_moves rate n = n

unfoldable pub decoder_moves : ℕ → ℕ → ℕ
decoder_moves rate n = decode_room rate n

-- start is 0 or 1, and position and the filters are within their bounds
unfoldable pub session_in_bounds : ℕ → ℕ → Filters → Bool
session_in_bounds start position filters = leb start 1 && (leb position position_most && filters_in_bounds filters)

abbrev pub in_bounds : {K : Type 0} → Session K → Bool
in_bounds s = session_in_bounds s.start s.position s.filters

unfoldable pub begin_number : ℕ → ℕ
begin_number start = cond (ltb 1 start) bad_start done

-- a start that is refused is taken for 0
unfoldable pub start_begun : ℕ → ℕ
start_begun start = cond (ltb 1 start) 0 start

-- everything is 0, but from the standard start det: 32 in the low band, 8 in the high one
unfoldable pub fresh_at : ℕ → Filters
fresh_at start = cond (eqb start 1) (fresh_filters (pos 32) (pos 8)) (fresh_filters (pos 0) (pos 0))

unfoldable pub begun : {K : Type 0} → ℕ → ℕ → Answer (Session K)
begun rate start = reply (begin_number start) 0 (session_at rate (start_begun start) 0 (fresh_at (start_begun start)))
