-- A worked life: a begin that is refused, bytes cut into two calls, a call that is refused, a mark written and one restored.
use Prim.Native.Nat.{ℕ}
use native.Mathlib.Omega.{arith}
use mathlib.Core.Path.{◌≡◌, refl, sym, ap, ◌∙◌}
use mathlib.Core.List.{List, [], ◌∷◌, ◌++◌}
use lib.IntN.{ℤ, pos, negsuc}
use lib.ListN.{drop, replicate}
use Rattle.runs.specs.Rates.{decode_room}
use Rattle.g722.specs.Session.{Decoder, begun as session_begun, decoder_moves, begin_number}
use Rattle.life.specs.Life.{fresh, given_by, mark_by, coded, code_refused, wrote, Life, begun, begin_refused, called, restored}
use Rattle.history.specs.Decoding.{decoding}
use Rattle.history.proofs.Histories.{decoders}
use Rattle.history.proofs.Computed.{of_A0, of_A0_04}

abbrev samples : ℕ → List ℤ
samples n = replicate n (pos 0)

abbrev bytes : List ℕ
bytes = replicate 512 0

-- begun at 16000 from the zero start
abbrev first : Decoder
first = fresh decoding 16000 0

first_lives : Life decoding first 16000 0 []
unfolding session_begun begin_number
first_lives = begun 16000 0 (omega arith) refl

-- A0 is taken, into room for two samples
abbrev second : Decoder
second = (decoding.code first (160 ∷ []) 2).session

second_lives : Life decoding second 16000 0 (160 ∷ [])
unfolding decode_room decoder_moves
second_lives = called first_lives (coded (160 ∷ []) (samples 2) tt ((decoders.unbroken first_lives).answers (160 ∷ []) 2))

-- 04 is refused, for want of room
abbrev third : Decoder
third = (decoding.code second (4 ∷ []) 1).session

third_lives : Life decoding third 16000 0 (160 ∷ [])
unfolding decode_room decoder_moves
third_lives = called second_lives (code_refused (4 ∷ []) (samples 1) refused)
  where
    refused : ¬ ((decoding.code second (4 ∷ []) 1).number ≡ 0)
    refused e = let q : ◌≡◌ {A = ℕ} 4 0 = sym ((decoders.unbroken second_lives).answers (4 ∷ []) 1) ∙ e in omega arith

-- its mark is written, and changes nothing
third_writes : Life decoding (decoding.write third 512).session 16000 0 (160 ∷ [])
third_writes = called third_lives (wrote bytes)

-- another session, begun with a start that is refused, restores that mark
abbrev fourth : Decoder
fourth = (decoding.restore (fresh decoding 8000 7) (mark_by decoding third bytes)).session

fourth_lives : Life decoding fourth 16000 0 (160 ∷ [])
unfolding session_begun begin_number
fourth_lives =
    restored (begin_refused 8000 7 (omega arith) refused) third_lives bytes ((decoders.unbroken third_lives).writes 512 (omega arith))
  where
    refused : ¬ ((decoding.begin 8000 7).number ≡ 0)
    refused e = let q : ◌≡◌ {A = ℕ} 1 0 = e in omega arith

-- and takes 04
abbrev fifth : Decoder
fifth = (decoding.code fourth (4 ∷ []) 2).session

taken : (decoding.code fourth (4 ∷ []) 2).number ≡ 0
unfolding decode_room decoder_moves
taken = (decoders.unbroken fourth_lives).answers (4 ∷ []) 2

pub fifth_lives : Life decoding fifth 16000 0 (160 ∷ 4 ∷ [])
fifth_lives = called fourth_lives (coded (4 ∷ []) (samples 2) tt taken)

-- what it writes is what one run over A0 04 gives out after A0
pub fifth_gives : given_by decoding fourth (4 ∷ []) (samples 2) ≡ negsuc 0 ∷ pos 0 ∷ []
fifth_gives =
    let now = given_by decoding fourth (4 ∷ []) (samples 2) in
    let e = (decoders.unbroken fourth_lives).next (coded (4 ∷ []) (samples 2) tt taken) in
    sym (ap (λ (l : List ℤ). drop 2 (l ++ now)) of_A0) ∙ ap (drop 2) (sym e ∙ of_A0_04)
