-- A line has one newline, its last byte; and so has every text that is well-formed.
use mathlib.Core.Path.{◌≡◌, ap, ◌∙◌}
use mathlib.Core.Bool.{true}
use mathlib.Core.List.{List, ◌∷◌, append-nil}
use Prim.Native.Nat.{ℕ}
use native.Mathlib.Omega.{arith}
use lib.IntN.{ℤ}
use lib.Seq.{drop-length}
use Rattle.text.specs.Ascii.{TAB}
use Rattle.text.specs.Newline.{OneLine}
use Rattle.text.proofs.Tests.{false_is_true}
use Rattle.text.proofs.Newline.{fields_one_line}
use Rattle.line.specs.Line.{line_text, kind_letter, start_letter, WellFormed}
use Rattle.line.proofs.LineTexts.{line_is}

pub line_one_line : (k z : ℕ) (vs : List ℤ) → kind_letter k ≡ true → start_letter z ≡ true → OneLine (line_text k z vs)
line_one_line k z vs hk hz =
    let r = fields_one_line vs in
    record {
      body = k ∷ TAB ∷ z ∷ r.body;
      text = line_is k z vs ∙ ap (λ (m : List ℕ). k ∷ TAB ∷ z ∷ m) r.text;
      clean = (λ e. false_is_true (rw e at hk), (λ e. omega (arith, e), (λ e. false_is_true (rw e at hz), r.clean)));
    }

pub well_formed_one_line : (n : ℕ) (l : List ℕ) → WellFormed n l → OneLine l
well_formed_one_line n l w =
    let i = w.whole in
    let o = line_one_line w.kind w.start w.numbers i.kind_ok i.start_ok in
    record { body = o.body; text = i.text ∙ rw (drop-length l) (append-nil _) ∙ o.text; clean = o.clean }
