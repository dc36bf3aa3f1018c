-- A value that carries what is known of it is one: a described picture, the CTU that is due, a block, M and a component's divisors; and so is what a
-- test finds, or that it finds nothing.
use mathlib.Core.Path.{◌≡◌, refl, sym, ap, subst, ◌∙◌}
use mathlib.Core.Logic.{⊎_elim}
use mathlib.Core.HLevel.{is_prop→PathP}
use native.Mathlib.Bridge.{le_prop}
use native.Mathlib.Omega.{arith}
use Prim.Native.Nat.{ℕ, ◌<◌}
use Rattle.std.specs.Prelude.{Option, Some, None}
use Rattle.standard.specs.declared.Picture.{Picture}
use Rattle.standard.specs.Picture.{Rules, components, ctu_count}
use Rattle.geometry.specs.declared.described.Described.{Described}
use Rattle.geometry.specs.declared.due.Due.{Due}
use Rattle.geometry.specs.declared.block.Block.{Block}
use Rattle.geometry.specs.declared.most.Most.{Most}
use Rattle.geometry.specs.declared.divisors.Divisors.{Divisors}
use Rattle.geometry.specs.OneProof.{Rules-prop}
use Rattle.geometry.specs.Found.{FindsPicture, NoBlock, IsBlock, FindsBlock}

pub same_described : (a b : Described) → a.picture ≡ b.picture → a ≡ b
same_described a b picture i = record {
  picture = picture i;
  rules = is_prop→PathP (λ j. Rules (picture j)) (λ j. Rules-prop (picture j)) a.rules b.rules i;
}

pub same_due : (a b : Due) → a.of.picture ≡ b.of.picture → a.next ≡ b.next → a ≡ b
same_due a b picture next =
    let of = same_described a.of b.of picture in
    λ i. record {
      of = of i;
      next = next i;
      there = is_prop→PathP (λ j. next j < ctu_count (of j).picture) (λ j. le_prop) a.there b.there i;
    }

pub same_block : (a b : Block) → a.of.picture ≡ b.of.picture → a.component ≡ b.component → a.ctb ≡ b.ctb → a ≡ b
same_block a b picture component ctb =
    let of = same_described a.of b.of picture in
    λ i. record {
      of = of i;
      component = component i;
      ctb = ctb i;
      component_in = is_prop→PathP (λ j. component j < components (of j).picture) (λ j. le_prop) a.component_in b.component_in i;
      ctb_in = is_prop→PathP (λ j. ctb j < ctu_count (of j).picture) (λ j. le_prop) a.ctb_in b.ctb_in i;
    }

pub same_most : (a b : Most) → a.value ≡ b.value → a ≡ b
same_most a b value i = record {
  value = value i;
  below = is_prop→PathP (λ j. value j < 32) (λ j. le_prop) a.below b.below i;
}

pub same_divisors : (a b : Divisors) → a.across ≡ b.across → a.down ≡ b.down → a ≡ b
same_divisors a b across down i = record {
  across = across i;
  down = down i;
  some_across = is_prop→PathP (λ j. 0 < across j) (λ j. le_prop) a.some_across b.some_across i;
  some_down = is_prop→PathP (λ j. 0 < down j) (λ j. le_prop) a.some_down b.some_down i;
}

-- ---- what a description and a block's numbers are found to be, or that they are nothing

pub of_pinned : (p : Picture) (a b : Option Described) → FindsPicture p a → FindsPicture p b → a ≡ b
of_pinned p None None x y = refl
of_pinned p None (Some d) x y = absurd (x (subst Rules y d.rules))
of_pinned p (Some d) None x y = absurd (y (subst Rules x d.rules))
of_pinned p (Some d) (Some e) x y = ap Some (same_described d e (x ∙ sym y))

module _ (d : Described) (i k : ℕ) where
  some_block : (b : Block) → IsBlock d i k b → ¬ NoBlock d i k
  some_block b is none =
      let picture : b.of.picture ≡ d.picture = ap (λ (e : Described). e.picture) is.0 in
      ⊎_elim (λ l. omega (arith, b.component_in, is.1, ap components picture)) (λ l. omega (arith, b.ctb_in, is.2, ap ctu_count picture)) none

  pub found_pinned : (a b : Option Block) → FindsBlock d i k a → FindsBlock d i k b → a ≡ b
  found_pinned None None x y = refl
  found_pinned None (Some b) x y = absurd (some_block b y x)
  found_pinned (Some a) None x y = absurd (some_block a x y)
  found_pinned (Some a) (Some b) x y =
      ap Some
      (same_block a b (ap (λ (e : Described). e.picture) (x.0 ∙ sym y.0)) (x.1 ∙ sym y.1) (x.2 ∙ sym y.2))
