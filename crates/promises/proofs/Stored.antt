-- The sets that are in are the picture's own and within the rules, and stay so when the next is stored: bins mean a set within the rules,
-- where what a merge copies is.
use mathlib.Core.Path.{◌≡◌, refl, sym, ◌∙◌, subst}
use mathlib.Core.Bool.{Bool, true, false}
use mathlib.Core.List.{List, [], ◌∷◌, ◌++◌}
use mathlib.Core.Logic.Dec
use Rattle.std.specs.Prelude.{Option, Some as some, None as none}
use Prim.Native.Nat.{ℕ, ◌+◌, ◌*◌, ◌≤◌, ◌<◌}
use native.Mathlib.Decide.{ℕ_discrete}
use native.Mathlib.Omega.{arith}
use lib.ListN.{length}
use Rattle.standard.specs.declared.Picture.{Picture}
use Rattle.standard.specs.declared.State.{State}
use Rattle.standard.specs.declared.Offsets.TheVariants.{Off}
use Rattle.standard.specs.declared.CtuSet.{CtuSet}
use Rattle.standard.specs.declared.Switches.{Switches}
use Rattle.standard.specs.Picture.{ctu_count, address, due, merge_left, merge_up}
use Rattle.standard.specs.Sets.{switches_of, Ruled, Valid, all_off}
use Rattle.standard.specs.Means.{not_taken, Means, no_bins, merged_left, merged_up, in_full}
use Rattle.standard.specs.Samples.{Parameters}
use Rattle.standard.specs.Table.{entry_size, Sound, switches_at, stored, stored_at, parameters_in}
use Rattle.standard.specs.Reasons.{TableFits, MeansHere, Copies, NeighbourOutsideTheRules}
use Rattle.standard.specs.Reasons as reasons
use Rattle.standard.specs.Calls.{table_with, state_after}
use Rattle.standard.proofs.Order.{address_lt, address_once}
use Rattle.standard.proofs.Seeing.{SameFor}
use Rattle.standard.proofs.Clearing.{SetIn}
use Rattle.standard.proofs.Onward.{switches_entered, switches_other}
use Rattle.standard.proofs.Refusing.{sound?}
use Rattle.standard.proofs.Entries.{valid_bytes, stored_sound, entered_length, stored_same, stored_other, sound_same, sound_other}
use Rattle.promises.specs.Demands.{OwnSet}

-- ---- bins mean a set within the rules

ruled : (b : Bool) (on off : Type 0) → on → off → Ruled b on off
ruled true on off a b = a
ruled false on off a b = b

pub off_valid : (s : Switches) → Valid s all_off
off_valid s = record {
  luma = ruled s.luma (Unit {0}) (Off ≡ Off) tt refl;
  chroma = ruled s.chroma (Unit {0} × Unit {0} × Unit {0}) ((Off ≡ Off) × (Off ≡ Off)) (tt, tt, tt) (refl, refl);
}

-- if those that a merge copies are
pub means_valid : {s : Switches} {left up : Option CtuSet} {q : CtuSet} {bins : List Bool} → (left ≡ some q → bins ≡ true ∷ [] → Valid s q)
    → (up ≡ some q → bins ≡ not_taken left ++ (true ∷ []) → Valid s q) → Means s left up q bins → Valid s q
means_valid {s} l u (no_bins e f g) = subst (Valid s) (sym f) (off_valid s)
means_valid l u (merged_left e f g) = l f g
means_valid l u (merged_up e f g) = u f g
means_valid l u (in_full e f g) = f

pub sound_valid : {s : Switches} {table : List ℕ} {k : ℕ} → Sound s table k → Valid s (stored table k)
sound_valid {s} sound = subst (Valid s) (sym (stored_sound sound)) sound.rules

-- the set of a neighbour whose entry is sound
pub neighbour_valid : {s : Switches} {table : List ℕ} {q : CtuSet} (o : Option ℕ)
    → ((j : ℕ) → o ≡ some j → Sound s table j) → stored_at table o ≡ some q → Valid s q
neighbour_valid none sound e = let z : ◌≡◌ {A = ℕ} 0 1 = cc in absurd (omega arith)
neighbour_valid {s} {table} {q} (some j) sound e = let f : stored table j ≡ q = cc in subst (Valid s) f (sound_valid (sound j refl))

module _ (s : State) (table : List ℕ) where
  -- a set that is read or written, if what a merge copies is
  pub here_valid : {q : CtuSet} {bins : List Bool} → ((j : ℕ) → Copies s table bins j → Sound (switches_of s) table j) → MeansHere s table q bins
      → Valid (switches_of s) q
  here_valid copied m =
      means_valid (λ e f. neighbour_valid (merge_left s) (λ j h. copied j (reasons.left h f)) e)
      (λ e f. neighbour_valid (merge_up s) (λ j h. copied j (reasons.up h f)) e) m

  neighbour_sound : {near : Option ℕ} {j : ℕ} → ¬ NeighbourOutsideTheRules s table near → near ≡ some j → Sound (switches_of s) table j
  neighbour_sound {j = j} n e = (Dec.not-not (sound? (switches_of s) table j)).0 (λ h. n (subst (NeighbourOutsideTheRules s table) (sym e) h))

  -- and it is where the neighbours are
  pub copied_sound : {bins : List Bool} → ¬ NeighbourOutsideTheRules s table (merge_left s) → ¬ NeighbourOutsideTheRules s table (merge_up s)
      → (j : ℕ) → Copies s table bins j → Sound (switches_of s) table j
  copied_sound l u j (reasons.left e f) = neighbour_sound l e
  copied_sound l u j (reasons.up e f) = neighbour_sound u e

-- ---- the sets that are in

-- an entry is sound by what its own syntax depended on
abbrev pub SoundAt : Picture → List ℕ → ℕ → Type 0
SoundAt p table k = Sound (switches_at p table k) table k

-- parameters that are the same of CTU k
abbrev SameAt : Parameters → Parameters → ℕ → Type 0
SameAt a b k = a.sets k ≡ b.sets k

-- of the CTUs that were read
pub record SetsIn (s : State) (own : Parameters) (table : List ℕ) : Type 0 where
  pub fits : TableFits s.picture table
  pub most : s.next ≤ ctu_count s.picture
  pub its_own : (n : ℕ) → n < s.next → SameAt (parameters_in table) own (address s.picture n)
  pub sound : (n : ℕ) → n < s.next → SoundAt s.picture table (address s.picture n)

pub none_in : {s : State} {own : Parameters} {table : List ℕ} → s.next ≡ 0 → TableFits s.picture table → SetsIn s own table
none_in start fits = record { fits = fits; most = omega arith; its_own = λ n h. absurd (omega arith); sound = λ n h. absurd (omega arith) }

module _ {s : State} {own : Parameters} {table : List ℕ} (v : SetsIn s own table) where
  -- where a CTU's set is in, the table has the picture's own parameters for its filter
  pub own_in : (i k : ℕ) → SetIn s k → SameFor s.picture i k (parameters_in table) own
  own_in i k t = subst (SameAt (parameters_in table) own) t.2 (v.its_own t.0 t.1)

  pub sound_in : (k : ℕ) → SetIn s k → SoundAt s.picture table k
  sound_in k t = subst (SoundAt s.picture table) t.2 (v.sound t.0 t.1)

  pub one_more_in : {q : CtuSet} → s.next < ctu_count s.picture → Valid (switches_of s) q → OwnSet own s q
      → SetsIn (state_after s) own (table_with s q table)
  one_more_in {q} l valid e = record {
    fits = entered_length table (due s) q room ∙ v.fits;
    most = omega arith;
    its_own = λ n h. own_at n h (ℕ_discrete n s.next);
    sound = λ n h. sound_at n h (ℕ_discrete n s.next);
  }
    where
      room : entry_size * due s + entry_size ≤ length table
      room = let a = address_lt s.picture l in omega (arith, v.fits)

      other : (n : ℕ) → n < s.next + 1 → ¬ (n ≡ s.next) → (n < s.next) × (¬ (address s.picture n ≡ due s))
      other n h d = let b : n < s.next = omega arith in (b, λ f. d (address_once s.picture (omega arith) l f))

      own_at : (n : ℕ) → n < s.next + 1 → Dec (n ≡ s.next) → SameAt (parameters_in (table_with s q table)) own (address s.picture n)
      own_at n h (yes d) =
          subst (λ (j : ℕ). SameAt (parameters_in (table_with s q table)) own (address s.picture j)) (sym d)
          (stored_same table (due s) q room (valid_bytes (switches_of s) valid) ∙ e)
      own_at n h (no d) = let o = other n h d in stored_other table (due s) q room (address s.picture n) o.1 ∙ v.its_own n o.0

      sound_at : (n : ℕ) → n < s.next + 1 → Dec (n ≡ s.next) → SoundAt s.picture (table_with s q table) (address s.picture n)
      sound_at n h (yes d) =
          subst (λ (j : ℕ). SoundAt s.picture (table_with s q table) (address s.picture j)) (sym d)
          (subst (λ (a : Switches). Sound a (table_with s q table) (due s)) (sym (switches_entered s q table)) (sound_same table (due s) q room valid))
      sound_at n h (no d) =
          let o = other n h d in
          let k = address s.picture n in
          subst (λ (a : Switches). Sound a (table_with s q table) k) (sym (switches_other s.picture table (due s) q k o.1))
          (sound_other table (due s) q room k o.1 (v.sound n o.0))
