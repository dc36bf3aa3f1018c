-- A set and its rules (H.265 7.4.9.3): the values that some bins can mean. Offsets are as coded, before they are scaled.
use Rattle.std.specs.Prelude.{◌≡◌, Bool, true, false, ℕ, zero, suc, ◌-◌, ◌^◌, ◌≤◌, ◌<◌, min, ℤ, pos, negsuc, nat_abs}
use Rattle.standard.specs.declared.Picture.{Picture}
use Rattle.standard.specs.declared.State.{State}
use Rattle.standard.specs.declared.Switches.{Switches}
use Rattle.standard.specs.declared.Four.{Four}
use Rattle.standard.specs.declared.Offsets.{Offsets}
use Rattle.standard.specs.declared.Offsets.TheVariants.{Off, Band, Edge}
use Rattle.standard.specs.declared.CtuSet.{CtuSet}
use Rattle.standard.specs.Picture.{depth_of}

-- M, the largest magnitude at a depth: cMax of sao_offset_abs (9.3.3)
unfoldable pub largest : ℕ → ℕ
largest depth = 2 ^ (min depth 10 - 5) - 1

-- what the syntax of a CTU depends on: slice_sao_luma_flag, slice_sao_chroma_flag, and each component's depth
unfoldable pub switches_in : Picture → Switches
switches_in p = record { luma = p.luma; chroma = p.chroma; y = depth_of p 0; cb = depth_of p 1; cr = depth_of p 2 }

-- that of the CTU that is due
unfoldable pub switches_of : State → Switches
switches_of s = switches_in s.picture

abbrev pub depth_in : Switches → ℕ → ℕ
depth_in s zero = s.y
depth_in s (suc zero) = s.cb
depth_in s (suc (suc i)) = s.cr

-- M of a component
abbrev pub most : Switches → ℕ → ℕ
most s i = largest (depth_in s i)

abbrev pub NotNegative : ℤ → Type 0
NotNegative (pos n) = Unit {0}
NotNegative (negsuc n) = ⊥

abbrev pub NotPositive : ℤ → Type 0
NotPositive (pos zero) = Unit {0}
NotPositive (pos (suc n)) = ⊥
NotPositive (negsuc n) = Unit {0}

-- one for each of the four offsets, in their order
abbrev pub four : {A : Type 0} → A → A → A → A → Four A
four a b c d = record { o1 = a; o2 = b; o3 = c; o4 = d }

-- no magnitude is above m
pub record Small (m : ℕ) (o : Four ℤ) : Type 0 where
  pub m1 : nat_abs o.o1 ≤ m
  pub m2 : nat_abs o.o2 ≤ m
  pub m3 : nat_abs o.o3 ≤ m
  pub m4 : nat_abs o.o4 ≤ m

-- edge signs are not coded: the first two offsets are not negative, the last two not positive
pub record EdgeSigns (o : Four ℤ) : Type 0 where
  pub s1 : NotNegative o.o1
  pub s2 : NotNegative o.o2
  pub s3 : NotPositive o.o3
  pub s4 : NotPositive o.o4

-- one component, with no magnitude above m
abbrev pub Fits : ℕ → Offsets → Type 0
Fits m Off = Unit {0}
Fits m (Band position o) = Small m o × (position < 32)
Fits m (Edge class o) = Small m o × (class < 4) × EdgeSigns o

-- Cr has Cb's type and class
abbrev pub Shares : Offsets → Offsets → Type 0
Shares Off Off = Unit {0}
Shares (Band position o) (Band position' o') = Unit {0}
Shares (Edge class o) (Edge class' o') = class ≡ class'
Shares Off (Band position o) = ⊥
Shares Off (Edge class o) = ⊥
Shares (Band position o) Off = ⊥
Shares (Band position o) (Edge class o') = ⊥
Shares (Edge class o) Off = ⊥
Shares (Edge class o) (Band position o') = ⊥

-- the rule of a component whose switch is on; where it is off, the component is off
abbrev pub Ruled : Bool → Type 0 → Type 0 → Type 0
Ruled true on off = on
Ruled false on off = off

-- the set is within the rules
pub record Valid (s : Switches) (q : CtuSet) : Type 0 where
  pub luma : Ruled s.luma (Fits (most s 0) q.luma) (q.luma ≡ Off)
  pub chroma : Ruled s.chroma (Fits (most s 1) q.cb × Fits (most s 2) q.cr × Shares q.cb q.cr) ((q.cb ≡ Off) × (q.cr ≡ Off))

abbrev pub all_off : CtuSet
all_off = record { luma = Off; cb = Off; cr = Off }

-- one component's set
abbrev pub component_of : CtuSet → ℕ → Offsets
component_of q zero = q.luma
component_of q (suc zero) = q.cb
component_of q (suc (suc i)) = q.cr
