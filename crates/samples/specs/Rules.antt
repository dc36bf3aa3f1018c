-- What the rules of a block, each as one value, make of its samples.
use Rattle.std.specs.Prelude.{◌≡◌, Bool, List, ℕ, ◌*◌, length}
use Rattle.standard.specs.declared.Rectangle.{Rectangle}
use Rattle.standard.specs.Samples.{at, band_idx}
use Rattle.standard.specs.Calls.{Written}
use Rattle.rows.specs.Moves.{moved}
use Rattle.samples.specs.declared.Around.{Around}
use Rattle.samples.specs.declared.Deblocked.{Deblocked}
use Rattle.samples.specs.declared.ByBand.{ByBand}
use Rattle.samples.specs.declared.ByEdge.{ByEdge}
use Rattle.samples.specs.Steps.{step_to, Reach}
use Rattle.samples.specs.Around.{is_open, context_from}
use Rattle.samples.specs.Blocks.{Lent, EdgeReady, by_edge, compared, edge_if}

-- a rectangle of the plane d, and a filtered plane
abbrev pub LentFrom : Deblocked → Rectangle → List ℕ → Type 0
LentFrom d r out = Lent d.layout r d.samples.now out

-- a filtered plane is as large as d
abbrev pub AsLarge : Deblocked → List ℕ → Type 0
AsLarge d out = length out ≡ d.layout.width * d.layout.height

-- in r the samples become as f says, and no other changes
abbrev pub Becomes : Deblocked → Rectangle → (ℕ → ℕ → ℕ) → List ℕ → List ℕ → Type 0
Becomes d = Written d.layout.width d.layout.height

-- a sample as it is
abbrev pub kept : Deblocked → ℕ → ℕ → ℕ
kept d = at d.samples.now d.layout.width

-- by band
abbrev pub banded : ByBand → ℕ → ℕ → ℕ
banded b x y = moved b.moves (band_idx b.bands.depth b.bands.position (kept b.from x y)) (kept b.from x y)

-- ---- by edge

-- both neighbours of each sample of p lie in the picture
abbrev pub Reaching : ByEdge → Rectangle → Type 0
Reaching e p = Reach e.from.layout (step_to e.a) p × Reach e.from.layout (step_to e.b) p

-- a sample, where both neighbours count
abbrev pub edged : ByEdge → ℕ → ℕ → ℕ
edged e = compared e.from.layout e.moves (step_to e.a) (step_to e.b) e.from.samples.now

-- so, or as it is
abbrev pub edged_if : Bool → ByEdge → ℕ → ℕ → ℕ
edged_if whole e = edge_if whole e.from.layout e.moves (step_to e.a) (step_to e.b) e.from.samples.now

-- a sample of the block r, where the neighbours count that the answers o allow
abbrev pub edged_in : ByEdge → Around → Rectangle → ℕ → ℕ → ℕ
edged_in e o r = by_edge e.from.layout (context_from r o) e.moves (step_to e.a) (step_to e.b) e.from.samples.now

-- whether both may be compared with it
abbrev pub open_in : ByEdge → Around → Rectangle → ℕ → ℕ → Bool
open_in e o r = is_open o r (step_to e.a) (step_to e.b)

-- the block, the rule and the answers are as the filter by edge wants them
abbrev pub BlockReady : ByEdge → Around → Rectangle → Type 0
BlockReady e o r = EdgeReady e.from.layout e.moves (step_to e.a) (step_to e.b) o r e.from.samples.now
