-- What takes bins: that it has room for some more, and what it is after it has taken some.
use Rattle.std.specs.Prelude.{◌≡◌, Bool, List, [], ◌++◌, ℕ, ◌+◌, ◌^◌, ◌≤◌, ◌<◌, length}
use Rattle.standard.specs.Bins.{fixed_length}
use Rattle.standard.specs.declared.Offsets.{Offsets}
use Rattle.standard.specs.declared.Offsets.TheVariants.{Off, Band, Edge}
use Rattle.sink.specs.declared.Bytes.{Bytes}
use Rattle.sink.specs.declared.Count.{Count}
use Rattle.sink.specs.Puts.{Room, Puts}

pub record SinkLaws {S : Type 0} (has_room : S → ℕ → Type 0) (takes : S → List Bool → S → Type 0) : Type 0 where
  -- no bins change nothing
  pub nothing : (s : S) → takes s [] s
  -- bins and those that follow them are taken as one row
  pub both : {s t u : S} {a b : List Bool} → takes s a t → takes t b u → takes s (a ++ b) u
  -- room for more is room for fewer
  pub fewer : {s : S} {j n : ℕ} → j ≤ n → has_room s n → has_room s j
  -- what was taken leaves the rest of the room
  pub left : {s t : S} {a : List Bool} {n : ℕ} → has_room s (length a + n) → takes s a t → has_room t n

-- bytes, and the place of the next bin in them
abbrev pub has_bytes : Bytes → ℕ → Type 0
has_bytes b n = Room b.put.at n b.out.now

pub record PutInto (b : Bytes) (bins : List Bool) (c : Bytes) : Type 0 where
  pub puts : Puts b.put.at bins b.out.now c.out.now c.put.at
  pub same_bytes : c.out.ghost_name ≡ b.out.ghost_name

-- a count, that has to fit its type
abbrev pub can_count : Count → ℕ → Type 0
can_count c n = c.bins + n < 2 ^ 64

abbrev pub Counted : Count → List Bool → Count → Type 0
Counted c bins d = d.bins ≡ c.bins + length bins

-- an edge's class, which follows the offsets of luma and Cb
abbrev pub class_bins : Offsets → List Bool
class_bins Off = []
class_bins (Band position o) = []
class_bins (Edge class o) = fixed_length 2 class
