-- A recording that is listed piece by piece is listed whole; and an example.
use mathlib.Core.Path.{◌≡◌, refl, ap, ◌∙◌}
use mathlib.Core.List.{List, [], ◌∷◌, ◌++◌, flatten}
use Prim.Native.Nat.{ℕ, ◌+◌}
use native.Mathlib.Omega.{arith}
use lib.IntN.{pos, negsuc}
use lib.ListN.{length}
use Rattle.text.specs.Number.{decimal, digits, digits_in}
use Rattle.text.specs.Fields.{parted}
use Rattle.g722.specs.Session.{Decoder, decoder_moves, begun}
use Rattle.runs.specs.Runs.{kept_at, pairs_of_bytes}
use Rattle.g722.specs.Decoding.{decoder_after, decoded_samples}
use Rattle.g722.proofs.Cut.{decoded_cut, decoded_length}
use Rattle.rows.specs.Text.{header_text, row_text, rows_text, end_text, listing_text}
use Rattle.rows.specs.Listing.{rows_of, rows_of_pieces, zero_start, listing}
use Rattle.rows.proofs.Texts.{rows_append}

-- ---- pieces

rows_none : (first : ℕ) (s : Decoder) → rows_of first s [] ≡ []
unfolding rows_of rows_text decoded_samples pairs_of_bytes kept_at
rows_none first s = refl

rows_cut : (first : ℕ) (s : Decoder) (a b : List ℕ)
    → rows_of first s (a ++ b) ≡ rows_of first s a ++ rows_of (first + length (decoded_samples s a)) (decoder_after s a) b
unfolding rows_of
rows_cut first s a b = ap (rows_text first) (decoded_cut s a b) ∙ rows_append first (decoded_samples s a) (decoded_samples (decoder_after s a) b)

by_pieces : (first : ℕ) (s : Decoder) (ps : List (List ℕ)) → rows_of first s (flatten ps) ≡ rows_of_pieces first s ps
unfolding rows_of_pieces flatten
by_pieces first s [] = rows_none first s
by_pieces first s (p ∷ ps) =
    rows_cut first s p (flatten ps)
    ∙ ap (λ (l : List ℕ). rows_of first s p ++ l) (by_pieces (first + length (decoded_samples s p)) (decoder_after s p) ps)

-- the header, the rows of each piece, and the end row
pub listed : (ps : List (List ℕ)) → listing (flatten ps)
    ≡ header_text ++ (rows_of_pieces 0 zero_start ps ++ end_text (length (decoded_samples zero_start (flatten ps))))
unfolding listing_text rows_of
listed ps =
    let total = length (decoded_samples zero_start (flatten ps)) in
    ap (λ (rows : List ℕ). header_text ++ (rows ++ end_text total)) (by_pieces 0 zero_start ps)

-- at 16000 the samples so far are the position, which the program counts its indices by
pub position_counts : (bs : List ℕ) → length (decoded_samples zero_start bs) ≡ (decoder_after zero_start bs).position
unfolding decoder_after decoder_moves begun
position_counts bs = omega (arith, decoded_length zero_start bs)

-- ---- an example

pub four_samples : listing_text (pos 0 ∷ pos 0 ∷ pos 0 ∷ negsuc 0 ∷ []) ≡
    115 ∷ 97 ∷ 109 ∷ 112 ∷ 108 ∷ 101 ∷ 9 ∷ 118 ∷ 97 ∷ 108 ∷ 117 ∷ 101 ∷ 10
    ∷ 48 ∷ 9 ∷ 48 ∷ 10 ∷ 49 ∷ 9 ∷ 48 ∷ 10 ∷ 50 ∷ 9 ∷ 48 ∷ 10 ∷ 51 ∷ 9 ∷ 45 ∷ 49 ∷ 10
    ∷ 101 ∷ 110 ∷ 100 ∷ 9 ∷ 52 ∷ 10 ∷ []
unfolding listing_text header_text rows_text row_text end_text parted decimal digits digits_in
four_samples = refl
