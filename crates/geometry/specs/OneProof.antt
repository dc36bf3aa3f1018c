-- A description keeps the rules in one way, so that a type may keep them as a ghost field.
use Rattle.std.specs.Prelude.{◌≡◌, false, ◌⊎◌, ℕ, ◌≤◌}
use Rattle.std.proofs.Props.{props}
use Rattle.std.proofs.Common.{ap, inl, inr, arith}
use Rattle.standard.specs.declared.Picture.{Picture}
use Rattle.standard.specs.Picture.{Side, Depth, Rules}

either_prop : {A B : Type 0} → IsProp A → IsProp B → (A → B → ⊥) → IsProp (A ⊎ B)
either_prop a b apart (inl x) (inl y) = ap inl (a x y)
either_prop a b apart (inl x) (inr y) = absurd (apart x y)
either_prop a b apart (inr x) (inl y) = absurd (apart y x)
either_prop a b apart (inr x) (inr y) = ap inr (b x y)

size_prop : (n : ℕ) → IsProp ((n ≡ 16) ⊎ ((n ≡ 32) ⊎ (n ≡ 64)))
size_prop n =
    let eq_prop : (m : ℕ) → IsProp (n ≡ m) = λ m. hlevel props in
    either_prop (eq_prop 16) (either_prop (eq_prop 32) (eq_prop 64) (λ a b. omega arith)) (λ a b. omega arith)

pub Rules-prop : (p : Picture) → IsProp (Rules p)
Rules-prop p x y =
    let side_prop : (n : ℕ) → IsProp (Side n) = λ n. hlevel props in
    let depth_prop : (n : ℕ) → IsProp (Depth n) = λ n. hlevel props in
    let format_prop : IsProp (p.format ≤ 3) = hlevel props in
    let mono_prop : IsProp (p.format ≡ 0 → p.chroma ≡ false) = hlevel props in
    let mono_depth_prop : IsProp (p.format ≡ 0 → p.depth.chroma ≡ p.depth.luma) = hlevel props in
    λ i. record {
      width = side_prop p.width x.width y.width i;
      height = side_prop p.height x.height y.height i;
      size = size_prop p.ctb x.size y.size i;
      format = format_prop x.format y.format i;
      luma_depth = depth_prop p.depth.luma x.luma_depth y.luma_depth i;
      chroma_depth = depth_prop p.depth.chroma x.chroma_depth y.chroma_depth i;
      mono = mono_prop x.mono y.mono i;
      mono_depth = mono_depth_prop x.mono_depth y.mono_depth i;
    }
