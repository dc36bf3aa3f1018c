-- What the scans look for: a sample above the top.
use Rattle.std.specs.Prelude.{List, ℕ, zero, suc, ◌+◌, ◌-◌, ◌<◌, min, length, get_or}
use Rattle.std.specs.Int.Bits.{bit_or}
use Rattle.standard.specs.declared.Rectangle.{Rectangle}
use Rattle.standard.specs.Picture.{Inside}
use Rattle.standard.specs.Samples.{at}

-- of any samples
abbrev pub SampleAbove : List ℕ → ℕ → Type 0
SampleAbove samples top = (n : ℕ) × (n < length samples) × (top < get_or samples n 0)

-- of a rectangle of a plane, w samples to a row
abbrev pub BlockAbove : List ℕ → ℕ → Rectangle → ℕ → Type 0
BlockAbove plane w r top = (x : ℕ) × (y : ℕ) × Inside r x y × (top < at plane w x y)

-- f 0 to f (n - 1), ORed together
unfoldable pub together : (ℕ → ℕ) → ℕ → ℕ
together f zero = 0
together f (suc n) = bit_or (together f n) (f n)

-- the row below y, or y itself where it is the rectangle's last
abbrev pub row_below : Rectangle → ℕ → ℕ
row_below r y = min (y + 1) (r.y1 - 1)

-- row y and the row below it
abbrev pub pair_together : List ℕ → ℕ → Rectangle → ℕ → ℕ
pair_together plane w r y = together (λ j. bit_or (at plane w (r.x0 + j) y) (at plane w (r.x0 + j) (row_below r y))) (r.x1 - r.x0)
