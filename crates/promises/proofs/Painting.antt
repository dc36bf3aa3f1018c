-- One CTB of one plane written: that painting writes it, and that nothing else does.
use mathlib.Core.Path.{◌≡◌, refl, sym, ◌∙◌, subst}
use mathlib.Core.List.{List}
use Prim.Native.Nat.{ℕ, zero, suc, ◌*◌, ◌<◌}
use native.Mathlib.Decide.{ℕ_discrete}
use native.Mathlib.Omega.{arith}
use lib.ListN.{length}
use Rattle.standard.specs.declared.Picture.{Picture}
use Rattle.standard.specs.Picture.{components, plane_width, plane_height, rectangle}
use Rattle.standard.specs.Samples.{at}
use Rattle.standard.specs.Reasons.{Planes, plane_of, PlanesFit}
use Rattle.standard.specs.Calls.{Written, BlockWritten}
use Rattle.standard.proofs.Rasters.{length_plane_by, at_plane_by, inside?, written_unique}
use Rattle.promises.specs.Ours.{choose, painted, with_plane, painted_in}
use Rattle.standard.proofs.Three.{components_most, plane_long}

-- ---- a choice

pub choose_yes : {A B : Type 0} (d : Dec A) (x y : B) → A → choose d x y ≡ x
choose_yes (yes a) x y h = refl
choose_yes (no n) x y h = absurd (n h)

pub choose_no : {A B : Type 0} (d : Dec A) (x y : B) → ¬ A → choose d x y ≡ y
choose_no (yes a) x y n = absurd (n a)
choose_no (no m) x y n = refl

-- ---- one plane of three

own_plane : (planes : Planes) (i : ℕ) (plane : List ℕ) → i < 3 → plane_of (with_plane planes i plane) i ≡ plane
unfolding with_plane
own_plane planes zero plane h = choose_yes (ℕ_discrete 0 0) plane planes.y refl
own_plane planes (suc zero) plane h = choose_yes (ℕ_discrete 1 1) plane planes.cb refl
own_plane planes (suc (suc zero)) plane h = choose_yes (ℕ_discrete 2 2) plane planes.cr refl
own_plane planes (suc (suc (suc i))) plane h = absurd (omega arith)

other_plane : (planes : Planes) (i : ℕ) (plane : List ℕ) (j : ℕ) → ¬ (j ≡ i) → plane_of (with_plane planes i plane) j ≡ plane_of planes j
unfolding with_plane
other_plane planes i plane zero n = choose_no (ℕ_discrete 0 i) plane planes.y n
other_plane planes i plane (suc zero) n = choose_no (ℕ_discrete 1 i) plane planes.cb n
other_plane planes i plane (suc (suc zero)) n = choose_no (ℕ_discrete 2 i) plane planes.cr n
other_plane planes i plane (suc (suc (suc j))) n = refl

-- ---- painting writes the block

module _ (p : Picture) (i k : ℕ) (f : ℕ → ℕ → ℕ) where
  painted_written : (plane : List ℕ) → length plane ≡ plane_width p i * plane_height p i
      → Written (plane_width p i) (plane_height p i) (rectangle p i k) f plane (painted p i k f plane)
  unfolding painted
  painted_written plane long = record {
    long = length_plane_by (plane_width p i) (plane_height p i) _ ∙ sym long;
    inside = λ x y a b t. at_plane_by (plane_width p i) (plane_height p i) _ a b ∙ choose_yes (inside? (rectangle p i k) x y) (f x y) (at plane (plane_width p i) x y) t;
    outside = λ x y a b n. at_plane_by (plane_width p i) (plane_height p i) _ a b ∙ choose_no (inside? (rectangle p i k) x y) (f x y) (at plane (plane_width p i) x y) n;
  }

  pub painted_block : (planes : Planes) → i < components p → PlanesFit p planes → BlockWritten p i k f planes (painted_in p i k f planes)
  unfolding painted_in
  painted_block planes h fits = record {
    own = subst (Written (plane_width p i) (plane_height p i) (rectangle p i k) f (plane_of planes i))
        (sym (own_plane planes i (painted p i k f (plane_of planes i)) (omega (arith, components_most p))))
        (painted_written (plane_of planes i) (plane_long i fits h));
    others = λ j n. other_plane planes i (painted p i k f (plane_of planes i)) j n;
  }

-- ---- and nothing else does

same_planes : {a b : Planes} → ((j : ℕ) → plane_of a j ≡ plane_of b j) → a ≡ b
same_planes e n = record { y = e 0 n; cb = e 1 n; cr = e 2 n }

pub block_unique : {p : Picture} {i k : ℕ} {f : ℕ → ℕ → ℕ} {before a b : Planes} → BlockWritten p i k f before a → BlockWritten p i k f before b
    → i < components p → PlanesFit p before → a ≡ b
block_unique {p} {i} {k} {f} {before} {a} {b} s t h fits = same_planes (λ j. go j (ℕ_discrete j i))
  where
    go : (j : ℕ) → Dec (j ≡ i) → plane_of a j ≡ plane_of b j
    go j (yes e) = subst (λ (n : ℕ). plane_of a n ≡ plane_of b n) (sym e) (written_unique s.own t.own (plane_long i fits h))
    go j (no n) = s.others j n ∙ sym (t.others j n)
