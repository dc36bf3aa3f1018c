-- What `WritesSet` says: the contract has one outcome, what is written reads back as the set with the same count, and there is no room
-- exactly if the shortest bins that mean the set do not fit.
use mathlib.Core.Path.{◌≡◌, refl, sym, ap, ap₂, ◌∙◌, subst}
use mathlib.Core.Bool.{Bool}
use mathlib.Core.List.{List, []}
use Rattle.std.specs.Prelude.{Option, Result, Ok, Err}
use Prim.Native.Nat.{ℕ, ◌*◌, ◌<◌}
use native.Mathlib.Omega.{arith}
use lib.ListN.{length}
use Rattle.standard.specs.declared.CtuSet.{CtuSet}
use Rattle.standard.specs.declared.Switches.{Switches}
use Rattle.standard.specs.Bins.{bins_of}
use Rattle.standard.specs.Means.{Shortest}
use Rattle.standard.proofs.Codes.{got}
use Rattle.standard.proofs.Packed.{packed_back}
use Rattle.standard.proofs.Reader.{read_ctu, meant_is_got}
use Rattle.writer.specs.declared.Shape.{Shape}
use Rattle.writer.specs.declared.NoRoom.{NoRoom}
use Rattle.writer.specs.Forms.{shape_bins}
use Rattle.writer.specs.Outcome.{Writes, WritesSet}
use Rattle.writer.proofs.Chosen.{HasBins, one_choice, has_means, has_shortest}

bins_one : (bins : List Bool) (before : List ℕ) {after after' : List ℕ} (r r' : Result ℕ NoRoom) → Writes bins before after r → Writes bins before after' r'
    → (r ≡ r') × (after ≡ after')
bins_one bins before (Ok n) (Ok k) h i = (ap Ok (h.1 ∙ sym i.1), h.2 ∙ sym i.2)
bins_one bins before (Ok n) (Err e) h i = absurd (omega (arith, h.0, i.0))
bins_one bins before (Err e) (Ok k) h i = absurd (omega (arith, h.0, i.0))
bins_one bins before (Err e) (Err f) h i = (refl, h.1 ∙ sym i.1)

pub writes_one : {s : Switches} {left up : Option CtuSet} {q : CtuSet} (before : List ℕ) {after after' : List ℕ} (r r' : Result ℕ NoRoom)
    → WritesSet s left up q before after r → WritesSet s left up q before after' r' → (r ≡ r') × (after ≡ after')
writes_one {s} {left} {up} {q} before {after} r r' v w =
    let same = one_choice s left up q v.shape w.shape v.choice w.choice in
    bins_one (shape_bins s left up q w.shape) before r r'
    (subst (λ (shape : Shape). Writes (shape_bins s left up q shape) before after r) same v.writes) w.writes

-- ---- bins in bytes, and back

-- the bytes, with the count that is answered, hold the bins
pub writes_back : (bins : List Bool) (before : List ℕ) {after : List ℕ} {n : ℕ} → Writes bins before after (Ok n) → bins_of after n ≡ bins
writes_back bins before w = ap₂ bins_of w.2 w.1 ∙ packed_back bins before

module _ (s : Switches) (left up : Option CtuSet) (q : CtuSet) (has : HasBins s left up q) where
  abbrev bins_in : Shape → List Bool
  bins_in shape = shape_bins s left up q shape

  -- what was written is read as the set, and no bins are left over
  pub wrote_back : (before : List ℕ) {after : List ℕ} {n : ℕ} → WritesSet s left up q before after (Ok n) → read_ctu s left up (bins_of after n) ≡ got q []
  wrote_back before w =
      ap (read_ctu s left up) (writes_back (bins_in w.shape) before w.writes) ∙ meant_is_got (has_means s left up q w.shape w.choice has)

  pub wrote_shortest : (before : List ℕ) {after : List ℕ} {n : ℕ} → WritesSet s left up q before after (Ok n) → Shortest s left up q (bins_of after n)
  wrote_shortest before w =
      subst (Shortest s left up q) (sym (writes_back (bins_in w.shape) before w.writes)) (has_shortest s left up q w.shape w.choice has)

  -- ---- room

  pub no_room : (before : List ℕ) {after : List ℕ} {e : NoRoom} → WritesSet s left up q before after (Err e)
      → (bins : List Bool) × Shortest s left up q bins × (8 * length before < length bins)
  no_room before w = (bins_in w.shape, has_shortest s left up q w.shape w.choice has, w.writes.0)

  pub room : (before : List ℕ) {after : List ℕ} {n : ℕ} → WritesSet s left up q before after (Ok n)
      → ¬ ((bins : List Bool) × Shortest s left up q bins × (8 * length before < length bins))
  room before w t = omega (arith, w.writes.0, t.2, t.1.least (bins_in w.shape) (has_means s left up q w.shape w.choice has))
