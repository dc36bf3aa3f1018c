-- What the filter of a block ensures determines every sample of the filtered plane.
use mathlib.Core.Path.{◌≡◌}
use mathlib.Core.List.{List}
use Prim.Native.Nat.{ℕ}
use Rattle.standard.specs.declared.Layout.{Layout}
use Rattle.standard.specs.declared.Offsets.{Offsets}
use Rattle.standard.specs.declared.Rectangle.{Rectangle}
use Rattle.standard.specs.Samples.{Context, sample}
use Rattle.standard.specs.Calls.{Written}
use Rattle.standard.proofs.Rasters.{written_unique}
use Rattle.samples.specs.declared.Around.{Around}
use Rattle.samples.specs.Around.{context_from, Agrees}
use Rattle.samples.specs.Blocks.{Ready}
use Rattle.samples.proofs.Picture.{own_agrees}

-- under every context that agrees with the answers, of which there is one: theirs
pub one_outcome : (l : Layout) (set : Offsets) (o : Around) {r : Rectangle} (plane : List ℕ) {out a b : List ℕ} → Ready l set o r plane out
    → ((context : Context) → Agrees context r o → Written l.width l.height r (sample l context set plane) out a)
    → ((context : Context) → Agrees context r o → Written l.width l.height r (sample l context set plane) out b) → a ≡ b
one_outcome l set o {r} plane k v w = written_unique (v (context_from r o) (own_agrees r o)) (w (context_from r o) (own_agrees r o)) k.lent.filtered
