-- Two depths in document 02's words (K3): what follows a component's own depth, and which depths reason 1 covers.
use mathlib.Core.Path.{◌≡◌, refl, sym, ap, ◌∙◌}
use Prim.Native.Nat.{ℕ, zero, suc, ◌-◌, min}
use native.Mathlib.Omega.{arith}
use Rattle.standard.specs.declared.BitDepths.{BitDepths}
use Rattle.standard.specs.declared.Picture.{Picture}
use Rattle.standard.specs.Picture.{Depth, Rules, depth_of}
use Rattle.standard.specs.Sets.{largest, most, switches_in}
use Rattle.standard.specs.Samples.{shift_of, layout_of}
use Rattle.standard.proofs.Depths.{depths, depth_of_luma, depth_of_chroma}
use Rattle.standard.proofs.Longest.{in_picture_lem}

-- "M, the shift, the band width and the upper limit follow the component's own depth": the last two are those of the depth in its layout
pub record Follows (p : Picture) (i d : ℕ) : Type 0 where
  pub m : most (switches_in p) i ≡ largest d
  pub shift : shift_of p i ≡ d - min d 10
  pub layout : (layout_of p i).depth ≡ d

m_of : (p : Picture) (i : ℕ) → most (switches_in p) i ≡ largest (depth_of p i)
m_of p zero = ap largest ((in_picture_lem p).luma ∙ sym (depth_of_luma p refl))
m_of p (suc zero) = ap largest ((in_picture_lem p).cb ∙ sym (depth_of_chroma p (λ e. omega arith)))
m_of p (suc (suc i)) = ap largest ((in_picture_lem p).cr ∙ sym (depth_of_chroma p (λ e. omega arith)))

follows : (p : Picture) (i d : ℕ) → depth_of p i ≡ d → Follows p i d
unfolding shift_of layout_of
follows p i d e = record { m = m_of p i ∙ ap largest e; shift = ap (λ (n : ℕ). n - min n 10) e; layout = e }

pub luma_follows : (p : Picture) → Follows p 0 p.depth.luma
luma_follows p = follows p 0 p.depth.luma (depth_of_luma p refl)

pub chroma_follows : (p : Picture) {i : ℕ} → ¬ (i ≡ 0) → Follows p i p.depth.chroma
chroma_follows p {i = i} n = follows p i p.depth.chroma (depth_of_chroma p n)

-- "1 also when either depth is outside 8 to 16; in monochrome the chroma depth must equal the luma depth"
module _ (p : Picture) where
  pub luma_outside : ¬ Depth p.depth.luma → ¬ Rules p
  luma_outside n r = n r.luma_depth

  pub chroma_outside : ¬ Depth p.depth.chroma → ¬ Rules p
  chroma_outside n r = n r.chroma_depth

  pub unequal_in_monochrome : p.format ≡ 0 → ¬ (p.depth.chroma ≡ p.depth.luma) → ¬ Rules p
  unequal_in_monochrome f n r = n (r.mono_depth f)

abbrev pub in_depths : BitDepths → Picture → Picture
in_depths d p = record { width = p.width; height = p.height; ctb = p.ctb; format = p.format; depth = d; luma = p.luma; chroma = p.chroma }

-- and no other depths: in colour a description keeps the rules at every pair, if it keeps them at all
pub every_pair : (p : Picture) (y c : ℕ) → ¬ (p.format ≡ 0) → Depth y → Depth c → Rules p → Rules (in_depths (depths y c) p)
every_pair p y c n dy dc r = record {
  width = r.width;
  height = r.height;
  size = r.size;
  format = r.format;
  luma_depth = dy;
  chroma_depth = dc;
  mono = r.mono;
  mono_depth = λ f. absurd (n f);
}
