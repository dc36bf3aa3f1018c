-- What the test of a description and that of a block's numbers find: nothing exactly where a rule is broken, or a number names nothing.
use Rattle.std.specs.Prelude.{◌≡◌, ◌⊎◌, ℕ, ◌≤◌, Option, MatchOption}
use Rattle.standard.specs.declared.Picture.{Picture}
use Rattle.standard.specs.Picture.{Rules, components, ctu_count}
use Rattle.geometry.specs.declared.described.Described.{Described}
use Rattle.geometry.specs.declared.block.Block.{Block}

abbrev pub FindsPicture : Picture → Option Described → Type 0
FindsPicture p r = MatchOption r (¬ Rules p) (λ d. d.picture ≡ p)

abbrev pub NoBlock : Described → ℕ → ℕ → Type 0
NoBlock d i k = (components d.picture ≤ i) ⊎ (ctu_count d.picture ≤ k)

abbrev pub IsBlock : Described → ℕ → ℕ → Block → Type 0
IsBlock d i k b = (b.of ≡ d) × (b.component ≡ i) × (b.ctb ≡ k)

abbrev pub FindsBlock : Described → ℕ → ℕ → Option Block → Type 0
FindsBlock d i k r = MatchOption r (NoBlock d i k) (IsBlock d i k)
