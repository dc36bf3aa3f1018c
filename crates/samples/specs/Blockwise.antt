-- Contexts that go by blocks: whether two samples may be compared is a matter of the CTBs in which they lie, as with slices and tiles.
use Rattle.std.specs.Prelude.{◌≡◌, Bool, false, ◌&&◌, ℕ, ◌+◌, ◌-◌, ◌*◌, ◌/◌, ◌%◌, nat_abs}
use Rattle.standard.specs.declared.Picture.{Picture}
use Rattle.standard.specs.Picture.{plane_width, plane_height, columns, rectangle, ctb_at}
use Rattle.standard.specs.Samples.{Context, in_picture}
use Rattle.samples.specs.declared.Around.{Around}
use Rattle.samples.specs.declared.Side.{Side}
use Rattle.samples.specs.declared.Side.TheVariants.{Before, Within, After}
use Rattle.samples.specs.Around.{answer_of, there}

-- may j n: a sample of CTB j may be compared with one of CTB n, where both are in the picture
abbrev pub block_context : Picture → ℕ → (ℕ → ℕ → Bool) → Context
block_context p i may = record {
  counts = λ x y u v. in_picture (plane_width p i) (plane_height p i) u v && may (ctb_at p i x y) (ctb_at p i (nat_abs u) (nat_abs v));
  kept = λ x y. false;
}

-- the column, or row, of CTBs on that side of c
abbrev pub shifted : ℕ → Side → ℕ
shifted c Before = c - 1
shifted c Within = c
shifted c After = c + 1

-- the CTB on that side of CTB k
abbrev pub ctb_on : Picture → ℕ → Side → Side → ℕ
ctb_on p k across down = shifted (k / columns p) down * columns p + shifted (k % columns p) across

-- the answers for CTB k: on each side there is a CTB, and it may be compared with
abbrev pub RightBlocks : Picture → ℕ → ℕ → (ℕ → ℕ → Bool) → Around → Type 0
RightBlocks p i k may o =
    let r = rectangle p i k in
    (across down : Side)
    → answer_of o across down ≡ ((there (plane_width p i) r.x0 r.x1 across && there (plane_height p i) r.y0 r.y1 down) && may k (ctb_on p k across down))
