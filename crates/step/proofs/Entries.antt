-- The entries of the inverse quantisers' tables lie within 15 bits and a sign.
use Prim.Native.Nat.{ℕ}
use lib.IntN.{ℤ, pos}
use lib.ListN.{get_or}
use mathlib.Core.List.{List}
use Rattle.fixed.specs.Number.{minus, In}
use Rattle.fixed.proofs.Wide.{E, asks, rd, table, var}
use Rattle.band.specs.Tables.{QM2, QM4, QM6}

abbrev pub Entry : List ℤ → ℕ → Type 0
Entry q i = E (minus 32767) (pos 32767) (get_or q i (pos 0)) (get_or q i (pos 0))

module _ (i : ℕ) where
  pub six : Entry QM6 i
  six = var (table _ _ QM6 tt i) tt

  pub four : Entry QM4 i
  four = var (table _ _ QM4 tt i) tt

  pub two : Entry QM2 i
  two = var (table _ _ QM2 tt i) tt

  -- what is asked of them
  pub in_six : In (minus 32767) (pos 32767) (rd (get_or QM6 i (pos 0)))
  in_six = asks six _ _ tt tt

  pub in_four : In (minus 32767) (pos 32767) (rd (get_or QM4 i (pos 0)))
  in_four = asks four _ _ tt tt

  pub in_two : In (minus 32767) (pos 32767) (rd (get_or QM2 i (pos 0)))
  in_two = asks two _ _ tt tt

pub ruleset entries = (in_four, in_six, in_two)
