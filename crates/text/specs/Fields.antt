-- Fields of numbers, parted by tabs and ended by a newline (docs/RULES.md, "Mark lines"), for every count of them.
use Rattle.std.specs.Prelude.{◌≡◌, cond, Option, Some, None, List, [], ◌∷◌, ◌++◌, ℕ, zero, suc, ◌+◌, ℤ, length, drop}
use Rattle.text.specs.Ascii.{TAB, NEWLINE}
use Rattle.text.specs.Number.{decimal, Short, begins, read_number, Number}

-- ---- writing

-- fields with a tab between each two, and a newline at the end
unfoldable pub parted : List (List ℕ) → List ℕ
parted [] = NEWLINE ∷ []
parted (f ∷ []) = f ++ NEWLINE ∷ []
parted (f ∷ g ∷ fs) = f ++ TAB ∷ parted (g ∷ fs)

-- what follows the first field, where the others are numbers: a tab before each, and the newline
unfoldable pub fields_text : List ℤ → List ℕ
fields_text [] = NEWLINE ∷ []
fields_text (v ∷ vs) = TAB ∷ (decimal v ++ fields_text vs)

-- each number has at most ten digits
abbrev pub AllShort : List ℤ → Type 0
AllShort [] = Unit {0}
AllShort (v ∷ vs) = Short v × AllShort vs

-- ---- reading

-- a tab and a number; the count is that of both
abbrev pub after_tab : Option Number → Option Number
after_tab (Some n) = Some (record { value = n.value; count = n.count + 1 })
after_tab None = None

unfoldable pub read_field : List ℕ → Option Number
read_field l = cond (begins TAB l) (after_tab (read_number (drop 1 l))) None

-- the numbers that were read before a fault or the end, and how many bytes they and the newline take: none where there is a fault
pub record Fields : Type 0 where
  pub numbers : List ℤ
  pub ending : Option ℕ

abbrev pub ended : Fields
ended = record { numbers = []; ending = Some 1 }

abbrev pub fault : Fields
fault = record { numbers = []; ending = None }

-- the end is so many bytes further on
abbrev pub further : ℕ → Option ℕ → Option ℕ
further count (Some more) = Some (count + more)
further count None = None

-- a field at the front of l, and what `rest` reads behind it
abbrev pub field_then : (List ℕ → Fields) → List ℕ → Option Number → Fields
field_then rest l (Some n) =
    record { numbers = n.value ∷ (rest (drop n.count l)).numbers; ending = further n.count (rest (drop n.count l)).ending }
field_then rest l None = fault

-- n fields and a newline
unfoldable pub read_fields : ℕ → List ℕ → Fields
read_fields zero l = cond (begins NEWLINE l) ended fault
read_fields (suc n) l = field_then (λ (m : List ℕ). read_fields n m) l (read_field l)

-- ---- what reading has to do with writing

-- l begins with the text of the n numbers vs, which takes count bytes
pub record FieldsOf (n : ℕ) (l : List ℕ) (vs : List ℤ) (count : ℕ) : Type 0 where
  pub many : length vs ≡ n
  pub short : AllShort vs
  pub counted : count ≡ length (fields_text vs)
  pub text : l ≡ fields_text vs ++ drop count l
