-- The colour formats in document 02's words (K1): the sides of chroma in 4:2:2 and 4:4:4, and that reason 1 covers neither.
use mathlib.Core.Path.{◌≡◌, refl, sym, ap, ◌∙◌}
use Prim.Native.Nat.{ℕ, ◌/◌, ◌≤◌}
use native.Mathlib.Omega.{arith}
use Rattle.standard.specs.declared.Picture.{Picture}
use Rattle.standard.specs.Picture.{Rules, divisors, plane_width, plane_height, ctb_width, ctb_height}
use Rattle.standard.proofs.Divisors.{of_luma_lem, of_422, of_444}

-- the plane of component i is w wide and h high, and so are its CTBs with v and g
pub record Sides (p : Picture) (i w h v g : ℕ) : Type 0 where
  pub width : plane_width p i ≡ w
  pub height : plane_height p i ≡ h
  pub ctb_width_lem : ctb_width p i ≡ v
  pub ctb_height_lem : ctb_height p i ≡ g

sides : (p : Picture) (i a b : ℕ) → divisors p.format i ≡ (a, b) → Sides p i (p.width / a) (p.height / b) (p.ctb / a) (p.ctb / b)
sides p i a b e = record {
  width = ap (λ (d : ℕ × ℕ). p.width / d.0) e;
  height = ap (λ (d : ℕ × ℕ). p.height / d.1) e;
  ctb_width_lem = ap (λ (d : ℕ × ℕ). p.ctb / d.0) e;
  ctb_height_lem = ap (λ (d : ℕ × ℕ). p.ctb / d.1) e;
}

module _ (p : Picture) (i : ℕ) (chroma : ¬ (i ≡ 0)) where
  -- "In 4:2:2 chroma planes and chroma CTBs have half width and full height"
  pub half_width : p.format ≡ 2 → Sides p i (p.width / 2) p.height (p.ctb / 2) p.ctb
  half_width e =
      let s = sides p i 2 1 (of_422 p.format i chroma e) in
      record { width = s.width; height = s.height ∙ omega arith; ctb_width_lem = s.ctb_width_lem; ctb_height_lem = s.ctb_height_lem ∙ omega arith }

  -- "in 4:4:4 they equal luma"
  pub equals_luma : p.format ≡ 3 → Sides p i (plane_width p 0) (plane_height p 0) (ctb_width p 0) (ctb_height p 0)
  equals_luma e =
      let s = sides p i 1 1 (of_444 p.format i chroma (λ f. omega arith) (λ f. omega arith)) in
      let luma = sides p 0 1 1 (of_luma_lem p.format refl) in
      record {
        width = s.width ∙ sym luma.width;
        height = s.height ∙ sym luma.height;
        ctb_width_lem = s.ctb_width_lem ∙ sym luma.ctb_width_lem;
        ctb_height_lem = s.ctb_height_lem ∙ sym luma.ctb_height_lem;
      }

abbrev pub in_format : ℕ → Picture → Picture
in_format f p = record { width = p.width; height = p.height; ctb = p.ctb; format = f; depth = p.depth; luma = p.luma; chroma = p.chroma }

-- "1 no longer covers these two formats": a description keeps the rules in 4:2:2 and in 4:4:4 if it keeps them at all
pub in_colour : (p : Picture) (f : ℕ) → 1 ≤ f → f ≤ 3 → Rules p → Rules (in_format f p)
in_colour p f a b r = record {
  width = r.width;
  height = r.height;
  size = r.size;
  format = b;
  luma_depth = r.luma_depth;
  chroma_depth = r.chroma_depth;
  mono = λ e. absurd (omega (arith, a, e));
  mono_depth = λ e. absurd (omega (arith, a, e));
}
