-- One number of finished rows is right: no row of the one is left out by the other.
use mathlib.Core.Path.{◌≡◌, sym, ap, ◌∙◌}
use mathlib.Core.List.{List}
use mathlib.Core.Logic.{⊎_elim}
use Prim.Native.Nat.{ℕ, ◌*◌, ◌<◌, min}
use native.Mathlib.Omega.{arith}
use Rattle.standard.specs.declared.State.{State}
use Rattle.standard.specs.Picture.{plane_height, ctb_height}
use Rattle.standard.specs.Calls.{FinishedRows}

pub rows_unique : {s : State} {i : ℕ} {marks : List ℕ} {m n : ℕ} → FinishedRows s i marks m → FinishedRows s i marks n → m ≡ n
rows_unique {s} {i} {marks} f g =
    f.number ∙ ap (λ (r : ℕ). min (r * ctb_height s.picture i) (plane_height s.picture i)) same ∙ sym g.number
  where
    not_less : {m n : ℕ} (f : FinishedRows s i marks m) (g : FinishedRows s i marks n) → ¬ (f.row < g.row)
    not_less f g l =
        ⊎_elim (λ e. ⊎_elim (λ e'. omega arith) (λ t. omega (arith, t.0)) g.ends)
        (λ t. t.1.2 (g.whole f.row t.1.0 l t.1.1))
        f.ends

    same : f.row ≡ g.row
    same = let a : ¬ (f.row < g.row) = not_less f g in let b : ¬ (g.row < f.row) = not_less g f in omega arith
