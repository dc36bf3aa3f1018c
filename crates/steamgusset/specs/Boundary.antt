-- The numbers that cross: the version; a state, each of its numbers at the place that is named here; what a caller has to lend as fourteen,
-- the place of a block as four.
use Rattle.std.specs.Prelude.{Bool, true, false, cond, List, [], ◌∷◌, ℕ, zero, suc, ◌+◌, ◌*◌, ◌≤◌, min, ltb, get_or, set, replicate, Result, Ok, Err}
use Rattle.standard.specs.declared.Picture.{Picture}
use Rattle.standard.specs.declared.State.{State}
use Rattle.standard.specs.declared.Rectangle.{Rectangle}
use Rattle.standard.specs.declared.Refusal.{Refusal}
use Rattle.standard.specs.Refusals.{number_of}
use Rattle.standard.specs.Picture.{components, plane_width, plane_height, samples_of, columns, rows, ctu_count}
use Rattle.standard.specs.Table.{entry_size}
use Rattle.standard.specs.Reasons.{mark_count}

-- ---- the version

abbrev pub MAJOR : ℕ
MAJOR = 5

abbrev pub MINOR : ℕ
MINOR = 0

-- the two as one number, the major above the low 16 bits
abbrev pub version_of : ℕ → ℕ → ℕ
version_of major minor = major * 65536 + minor

abbrev pub version : ℕ
version = version_of MAJOR MINOR

-- ---- the layout of a state: the place of each number among those that cross, and how many they are

abbrev pub WIDTH : ℕ
WIDTH = 0

abbrev pub HEIGHT : ℕ
HEIGHT = suc WIDTH

abbrev pub CTB : ℕ
CTB = suc HEIGHT

abbrev pub FORMAT : ℕ
FORMAT = suc CTB

abbrev pub LUMA-DEPTH : ℕ
LUMA-DEPTH = suc FORMAT

abbrev pub CHROMA-DEPTH : ℕ
CHROMA-DEPTH = suc LUMA-DEPTH

abbrev pub LUMA : ℕ
LUMA = suc CHROMA-DEPTH

abbrev pub CHROMA : ℕ
CHROMA = suc LUMA

abbrev pub NEXT : ℕ
NEXT = suc CHROMA

abbrev pub NUMBERS : ℕ
NUMBERS = suc NEXT

-- ---- a state

-- a switch is 1 where it is on
abbrev pub digit : Bool → ℕ
digit false = 0
digit true = 1

abbrev pub is_on : ℕ → Bool
is_on zero = false
is_on (suc n) = true

-- as many numbers as cross, those that are told at their places
abbrev pub laid : List (ℕ × ℕ) → List ℕ
laid [] = replicate NUMBERS 0
laid ((place, n) ∷ l) = set (laid l) place n

abbrev pub numbers_of : State → List ℕ
numbers_of s =
    laid (
    (WIDTH, s.picture.width)
    ∷ (HEIGHT, s.picture.height)
    ∷ (CTB, s.picture.ctb)
    ∷ (FORMAT, s.picture.format)
    ∷ (LUMA-DEPTH, s.picture.depth.luma)
    ∷ (CHROMA-DEPTH, s.picture.depth.chroma)
    ∷ (LUMA, digit s.picture.luma)
    ∷ (CHROMA, digit s.picture.chroma)
    ∷ (NEXT, s.next)
    ∷ []
    )

unfoldable pub state_of : List ℕ → State
state_of a =
    record {
      picture = record {
        width = get_or a WIDTH 0;
        height = get_or a HEIGHT 0;
        ctb = get_or a CTB 0;
        format = get_or a FORMAT 0;
        depth = record { luma = get_or a LUMA-DEPTH 0; chroma = get_or a CHROMA-DEPTH 0 };
        luma = is_on (get_or a LUMA 0);
        chroma = is_on (get_or a CHROMA 0);
      };
      next = get_or a NEXT 0;
    }

-- the fields of a state hold the numbers: format and depths are bytes, and a switch is 0 or 1
pub record Held (a : List ℕ) : Type 0 where
  pub format : get_or a FORMAT 0 ≤ 255
  pub luma_depth : get_or a LUMA-DEPTH 0 ≤ 255
  pub chroma_depth : get_or a CHROMA-DEPTH 0 ≤ 255
  pub luma : get_or a LUMA 0 ≤ 1
  pub chroma : get_or a CHROMA 0 ≤ 1

-- ---- a component

abbrev pub in_byte : ℕ → ℕ
in_byte i = min i 255

-- ---- an answer

-- 0, or the number of the refusal
abbrev pub code_of : {T : Type 0} → Result T Refusal → ℕ
code_of (Ok x) = 0
code_of (Err r) = number_of r

-- ---- what a caller has to lend

-- an absent component has a plane of no width and no height
abbrev pub width_of : Picture → ℕ → ℕ
width_of p i = cond (ltb i (components p)) (plane_width p i) 0

abbrev pub height_of : Picture → ℕ → ℕ
height_of p i = cond (ltb i (components p)) (plane_height p i) 0

-- of each plane the width, the height and the number of samples; CTB columns and rows, CTUs; bytes of marks and of the table
unfoldable pub sizes_of : Picture → List ℕ
sizes_of p =
    width_of p 0
    ∷ width_of p 1
    ∷ width_of p 2
    ∷ height_of p 0
    ∷ height_of p 1
    ∷ height_of p 2
    ∷ samples_of p 0
    ∷ samples_of p 1
    ∷ samples_of p 2
    ∷ columns p
    ∷ rows p
    ∷ ctu_count p
    ∷ mark_count p
    ∷ (entry_size * ctu_count p)
    ∷ []

abbrev pub place_of : Rectangle → List ℕ
place_of r = r.x0 ∷ r.x1 ∷ r.y0 ∷ r.y1 ∷ []
