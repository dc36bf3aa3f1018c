-- What a call is lent has its right length; of what it is not lent nothing is asked.
use Rattle.std.specs.Prelude.{◌≡◌, ℕ, ◌*◌, length, Option, Some, None}
use Rattle.standard.specs.declared.Picture.{Picture}
use Rattle.standard.specs.declared.State.{State}
use Rattle.standard.specs.Picture.{samples_of, ctu_count}
use Rattle.standard.specs.Table.{entry_size}
use Rattle.standard.specs.Reasons as reasons
use Rattle.standard.specs.Reasons.{mark_count}
use Rattle.geometry.specs.declared.block.Block.{Block}
use Rattle.lent.specs.declared.Lent.{Lent}
use Rattle.lent.specs.declared.Planes.{Planes}
use Rattle.lent.specs.declared.PlaneLengths.{PlaneLengths}

-- the three planes as lists
abbrev pub lists_of : Planes → reasons.Planes
lists_of l = record { y = l.y.now; cb = l.cb.now; cr = l.cr.now }

-- and how long they are
abbrev pub lengths_of : reasons.Planes → PlaneLengths
lengths_of l = record { y = length l.y; cb = length l.cb; cr = length l.cr }

abbrev pub PlanesRight : Picture → Option PlaneLengths → Type 0
PlanesRight p None = Unit {0}
PlanesRight p (Some l) = (l.y ≡ samples_of p 0) × (l.cb ≡ samples_of p 1) × (l.cr ≡ samples_of p 2)

abbrev pub BytesRight : ℕ → Option ℕ → Type 0
BytesRight n None = Unit {0}
BytesRight n (Some m) = m ≡ n

pub record LentRight (p : Picture) (l : Lent) : Type 0 where
  pub deblocked : PlanesRight p l.deblocked
  pub filtered : PlanesRight p l.filtered
  pub marks : BytesRight (mark_count p) l.marks
  pub table : BytesRight (entry_size * ctu_count p) l.table

-- the block that a call names
pub record Names (s : State) (i k : ℕ) (b : Block) : Type 0 where
  pub picture : b.of.picture ≡ s.picture
  pub component : b.component ≡ i
  pub ctb : b.ctb ≡ k
