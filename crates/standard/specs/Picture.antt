-- The picture (document 01, "The picture"; H.265 6.2 and 6.3.1): its components, planes and CTBs, and the rules of a description.
-- Components are numbered 0 luma, 1 Cb, 2 Cr; CTUs, and the CTBs of each component, in raster order.
use Rattle.std.specs.Prelude.{◌≡◌, false, cond, ◌⊎◌, ℕ, zero, suc, ◌+◌, ◌-◌, ◌*◌, ◌/◌, ◌%◌, ◌≤◌, ◌<◌, min, eqb, ltb}
use Rattle.std.specs.Prelude.{Option, Some as some, None as none}
use Rattle.standard.specs.declared.Picture.{Picture}
use Rattle.standard.specs.declared.State.{State}
use Rattle.standard.specs.declared.Rectangle.{Rectangle}

-- ---- the rules of a description

abbrev pub Side : ℕ → Type 0
Side n = (n % 8 ≡ 0) × (8 ≤ n) × (n ≤ 8192)

abbrev pub Depth : ℕ → Type 0
Depth n = (8 ≤ n) × (n ≤ 16)

pub record Rules (p : Picture) : Type 0 where
  pub width : Side p.width
  pub height : Side p.height
  pub size : (p.ctb ≡ 16) ⊎ ((p.ctb ≡ 32) ⊎ (p.ctb ≡ 64))
  -- chroma_format_idc: monochrome, 4:2:0, 4:2:2 or 4:4:4
  pub format : p.format ≤ 3
  pub luma_depth : Depth p.depth.luma
  pub chroma_depth : Depth p.depth.chroma
  -- in monochrome the chroma switch must be off, and the chroma depth equal the luma depth
  pub mono : p.format ≡ 0 → p.chroma ≡ false
  pub mono_depth : p.format ≡ 0 → p.depth.chroma ≡ p.depth.luma

-- the bit depth of a component: BitDepthY of luma, BitDepthC of Cb and Cr
unfoldable pub depth_of : Picture → ℕ → ℕ
depth_of p zero = p.depth.luma
depth_of p (suc i) = p.depth.chroma

-- ---- components and planes

-- what a component's width and height are divided by: of chroma SubWidthC and SubHeightC, by chroma_format_idc (Table 6-1)
unfoldable pub divisors : ℕ → ℕ → ℕ × ℕ
divisors format zero = (1, 1)
divisors format (suc i) = cond (eqb format 1) (2, 2) (cond (eqb format 2) (2, 1) (1, 1))

abbrev pub components : Picture → ℕ
components p = cond (eqb p.format 0) 1 3

abbrev pub plane_width : Picture → ℕ → ℕ
plane_width p i = p.width / (divisors p.format i).0

abbrev pub plane_height : Picture → ℕ → ℕ
plane_height p i = p.height / (divisors p.format i).1

-- how many samples a plane has: none, where the component is absent
abbrev pub samples_of : Picture → ℕ → ℕ
samples_of p i = cond (ltb i (components p)) (plane_width p i * plane_height p i) 0

-- ---- CTUs and CTBs

abbrev pub ctb_width : Picture → ℕ → ℕ
ctb_width p i = p.ctb / (divisors p.format i).0

abbrev pub ctb_height : Picture → ℕ → ℕ
ctb_height p i = p.ctb / (divisors p.format i).1

-- PicWidthInCtbsY, PicHeightInCtbsY and PicSizeInCtbsY. The last column and row may be cut short
abbrev pub columns : Picture → ℕ
columns p = (p.width + (p.ctb - 1)) / p.ctb

abbrev pub rows : Picture → ℕ
rows p = (p.height + (p.ctb - 1)) / p.ctb

abbrev pub ctu_count : Picture → ℕ
ctu_count p = columns p * rows p

abbrev pub Inside : Rectangle → ℕ → ℕ → Type 0
Inside r x y = ((r.x0 ≤ x) × (x < r.x1)) × ((r.y0 ≤ y) × (y < r.y1))

-- the samples of CTB k, cut at the right and lower border
unfoldable pub rectangle : Picture → ℕ → ℕ → Rectangle
rectangle p i k =
    let x = k % columns p * ctb_width p i in
    let y = k / columns p * ctb_height p i in
    record { x0 = x; x1 = min (x + ctb_width p i) (plane_width p i); y0 = y; y1 = min (y + ctb_height p i) (plane_height p i) }

-- and one sample around it, inside the picture
unfoldable pub grown : Picture → ℕ → Rectangle → Rectangle
grown p i r = record { x0 = r.x0 - 1; x1 = min (r.x1 + 1) (plane_width p i); y0 = r.y0 - 1; y1 = min (r.y1 + 1) (plane_height p i) }

-- the CTB in which column x of row y lies
abbrev pub ctb_at : Picture → ℕ → ℕ → ℕ → ℕ
ctb_at p i x y = y / ctb_height p i * columns p + x / ctb_width p i

-- CTB j is k or one of its up to eight neighbours
pub record Adjacent (p : Picture) (k j : ℕ) : Type 0 where
  pub there : j < ctu_count p
  pub left : k % columns p ≤ j % columns p + 1
  pub right : j % columns p ≤ k % columns p + 1
  pub above : k / columns p ≤ j / columns p + 1
  pub below : j / columns p ≤ k / columns p + 1

-- ---- the order of reading

-- the CTU that is read as number k
unfoldable pub address : Picture → ℕ → ℕ
address p k = k

-- the CTU that is due
abbrev pub due : State → ℕ
due s = address s.picture s.next

-- the CTU left of CTU k, and the one above it
unfoldable pub left_of : Picture → ℕ → Option ℕ
left_of p k = cond (eqb (k % columns p) 0) none (some (k - 1))

unfoldable pub above_of : Picture → ℕ → Option ℕ
above_of p k = cond (ltb k (columns p)) none (some (k - columns p))

-- the CTU that a merge to the left of the CTU that is due may reach, and that a merge upwards may
unfoldable pub merge_left : State → Option ℕ
merge_left s = left_of s.picture (due s)

unfoldable pub merge_up : State → Option ℕ
merge_up s = above_of s.picture (due s)
