-- A set is stored with what its syntax depended on, and stays so: the entry that is written is that of the CTU that is due, and no other moves.
use mathlib.Core.Path.{◌≡◌, refl}
use mathlib.Core.List.{List}
use Prim.Native.Nat.{ℕ}
use Rattle.standard.specs.declared.Picture.{Picture}
use Rattle.standard.specs.declared.State.{State}
use Rattle.standard.specs.declared.CtuSet.{CtuSet}
use Rattle.standard.specs.Picture.{due}
use Rattle.standard.specs.Sets.{switches_in, switches_of}
use Rattle.standard.specs.Table.{switches_at, entered}
use Rattle.standard.specs.Calls.{table_with}

-- as that of every CTU of the picture
pub switches_at_lem : (p : Picture) (table : List ℕ) (k : ℕ) → switches_at p table k ≡ switches_in p
unfolding switches_at
switches_at_lem p table k = refl

pub switches_entered : (s : State) (q : CtuSet) (table : List ℕ) → switches_at s.picture (table_with s q table) (due s) ≡ switches_of s
unfolding switches_at switches_of
switches_entered s q table = refl

pub switches_other : (p : Picture) (table : List ℕ) (k : ℕ) (q : CtuSet) (j : ℕ) → ¬ (j ≡ k) → switches_at p (entered table k q) j ≡ switches_at p table j
unfolding switches_at
switches_other p table k q j d = refl
