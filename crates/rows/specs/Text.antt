-- The rows of a listing as text (docs/RULES.md, "Listing"): fields parted by a tab, and a newline after each row.
use Rattle.std.specs.Prelude.{List, [], ◌∷◌, ◌++◌, ℕ, suc, ℤ, pos, length}
use Rattle.text.specs.Number.{decimal}
use Rattle.text.specs.Fields.{parted}

-- "sample", "value" and "end"
abbrev pub sample_word : List ℕ
sample_word = 115 ∷ 97 ∷ 109 ∷ 112 ∷ 108 ∷ 101 ∷ []

abbrev pub value_word : List ℕ
value_word = 118 ∷ 97 ∷ 108 ∷ 117 ∷ 101 ∷ []

abbrev pub end_word : List ℕ
end_word = 101 ∷ 110 ∷ 100 ∷ []

unfoldable pub header_text : List ℕ
header_text = parted (sample_word ∷ value_word ∷ [])

unfoldable pub row_text : ℕ → ℤ → List ℕ
row_text index value = parted (decimal (pos index) ∷ decimal value ∷ [])

-- a row for each sample, the first with the index `first`
unfoldable pub rows_text : ℕ → List ℤ → List ℕ
rows_text first [] = []
rows_text first (v ∷ vs) = row_text first v ++ rows_text (suc first) vs

unfoldable pub end_text : ℕ → List ℕ
end_text total = parted (end_word ∷ decimal (pos total) ∷ [])

-- the listing of all the samples
unfoldable pub listing_text : List ℤ → List ℕ
listing_text vs = header_text ++ (rows_text 0 vs ++ end_text (length vs))

-- the most bytes of a row: ten digits, a tab, a minus, five digits and a newline
abbrev pub row_most : ℕ
row_most = 18
