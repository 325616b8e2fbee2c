-- Runs of the coders: an encoder takes pairs of samples and a decoder gives them, and the rate says how pairs and samples go together
-- (docs/RULES.md, "G.722").
use Rattle.std.specs.Prelude.{ℕ, cond, List, [], ◌∷◌, ◌++◌, ℤ}
use Rattle.band.specs.declared.Filters.{Filters}
use Rattle.step.specs.Step.{encode_step, decode_step}
use Rattle.runs.specs.Rates.{resamples}

pub record Pair : Type 0 where
  pub first : ℤ
  pub second : ℤ

abbrev pub pair : ℤ → ℤ → Pair
pair a b = record { first = a; second = b }

-- each sample stands for a pair of itself
unfoldable pub doubled : List ℤ → List Pair
doubled [] = []
doubled (a ∷ xs) = pair a a ∷ doubled xs

-- each two samples are a pair; a last odd one is left
unfoldable pub paired : List ℤ → List Pair
paired [] = []
paired (a ∷ []) = []
paired (a ∷ b ∷ xs) = pair a b ∷ paired xs

-- the pairs that an encoder makes of samples
unfoldable pub pairs_at : ℕ → List ℤ → List Pair
pairs_at rate xs = cond (resamples rate) (doubled xs) (paired xs)

-- what a decoder keeps of a pair: at rate 8000 the first sample, else both
unfoldable pub kept_of : ℕ → Pair → List ℤ
kept_of rate p = p.first ∷ cond (resamples rate) [] (p.second ∷ [])

unfoldable pub kept_at : ℕ → List Pair → List ℤ
kept_at rate [] = []
kept_at rate (p ∷ ps) = kept_of rate p ++ kept_at rate ps

-- the encoder's run: the filters after the pairs, and a byte for each pair
unfoldable pub filters_after_pairs : Filters → List Pair → Filters
filters_after_pairs f [] = f
filters_after_pairs f (p ∷ ps) = filters_after_pairs (encode_step f p.first p.second).filters ps

unfoldable pub bytes_of_pairs : Filters → List Pair → List ℕ
bytes_of_pairs f [] = []
bytes_of_pairs f (p ∷ ps) = let t = encode_step f p.first p.second in t.byte ∷ bytes_of_pairs t.filters ps

-- the decoder's run: the filters after the bytes, and a pair for each byte
unfoldable pub filters_after_bytes : Filters → List ℕ → Filters
filters_after_bytes f [] = f
filters_after_bytes f (b ∷ bs) = filters_after_bytes (decode_step f b).filters bs

unfoldable pub pairs_of_bytes : Filters → List ℕ → List Pair
pairs_of_bytes f [] = []
pairs_of_bytes f (b ∷ bs) = let t = decode_step f b in pair t.first t.second ∷ pairs_of_bytes t.filters bs
