-- What holds where the parts of a call's reasons that calls share are clear, and back. Above, a part is used through these laws.
use mathlib.Core.List.{List, ◌++◌}
use mathlib.Core.Path.{refl}
use mathlib.Core.Logic.Dec
use mathlib.Core.Logic.{inl, inr, ⊎_elim}
use Prim.Native.Nat.{ℕ, ◌≤◌, ◌<◌}
use native.Mathlib.Omega.{arith}
use Rattle.standard.specs.declared.State.{State}
use Rattle.standard.specs.Picture.{Rules, components, ctu_count}
use Rattle.standard.specs.Refusals.{First, Clear}
use Rattle.standard.specs.Reasons.{NextAboveTheCount, UnitIsDue, NoSuchComponent, description_reasons, length_reasons, state_reasons, lent_reasons, call_reasons, due_reasons, block_reasons, marks_reasons}
use Rattle.standard.proofs.Judging.{rules?}
use Rattle.standard.proofs.Parts.{clear_front, clear_back, clear_both, Same, same_itself, same_both}

-- ---- the description

pub described : (s : State) → Clear (description_reasons s) → Rules s.picture
described s c = (Dec.not-not (rules? s.picture)).0 c.0

pub described_clear : (s : State) → Rules s.picture → Clear (description_reasons s)
described_clear s rules = (λ n. n rules, tt)

-- ---- and what is lent

pub record Lent (s : State) (fit : Type 0) : Type 0 where
  pub rules : Rules s.picture
  pub fits : fit

module _ (s : State) {fit : Type 0} where
  pub lent_rules : Clear (lent_reasons s fit) → Rules s.picture
  lent_rules c = described s (clear_front (description_reasons s) (length_reasons fit) c)

  pub lent : Dec fit → Clear (lent_reasons s fit) → Lent s fit
  lent d c = record { rules = lent_rules c; fits = (Dec.not-not d).0 (clear_back (description_reasons s) (length_reasons fit) c).0 }

  pub lent_clear : Lent s fit → Clear (lent_reasons s fit)
  lent_clear l = clear_both (description_reasons s) (length_reasons fit) (described_clear s l.rules) (λ n. n l.fits, tt)

-- ---- and the state

-- a state that an accepted call leaves
abbrev pub SoundState : State → Type 0
SoundState s = s.next ≤ ctu_count s.picture

pub record Called (s : State) (fit : Type 0) : Type 0 where
  pub rules : Rules s.picture
  pub fits : fit
  pub state : SoundState s

pub sound_state : (s : State) → ¬ NextAboveTheCount s → SoundState s
sound_state s n = omega arith

module _ (s : State) {fit : Type 0} where
  pub called_rules : Clear (call_reasons s fit) → Rules s.picture
  called_rules c = lent_rules s (clear_front (lent_reasons s fit) (state_reasons s) c)

  pub called : Dec fit → Clear (call_reasons s fit) → Called s fit
  called d c =
      let l = lent s d (clear_front (lent_reasons s fit) (state_reasons s) c) in
      record { rules = l.rules; fits = l.fits; state = sound_state s (clear_back (lent_reasons s fit) (state_reasons s) c).0 }

  pub called_clear : Called s fit → Clear (call_reasons s fit)
  called_clear c =
      let sound : s.next ≤ ctu_count s.picture = c.state in
      clear_both (lent_reasons s fit) (state_reasons s) (lent_clear s (record { rules = c.rules; fits = c.fits })) (λ h. omega arith, tt)

-- ---- the lengths said in other words

module _ (s : State) {A B : Type 0} (f : A → B) (g : B → A) where
  pub lent_same : Same (lent_reasons s A) (lent_reasons s B)
  lent_same = same_both (description_reasons s) (description_reasons s) (length_reasons A) (length_reasons B) (same_itself (description_reasons s)) ((refl, (λ n b. n (g b)), λ n a. n (f a)), tt)

  pub call_same : Same (call_reasons s A) (call_reasons s B)
  call_same = same_both (lent_reasons s A) (lent_reasons s B) (state_reasons s) (state_reasons s) lent_same (same_itself (state_reasons s))

-- ---- a CTU that is due

pub unit_next : (s : State) → UnitIsDue s → s.next < ctu_count s.picture
unit_next s u = u

pub unit_sound : (s : State) → UnitIsDue s → SoundState s
unit_sound s u = omega (arith, u)

pub due_unit : (s : State) → Clear (due_reasons s) → UnitIsDue s
due_unit s c = let n = c.0 in omega arith

pub due_clear : (s : State) → UnitIsDue s → Clear (due_reasons s)
due_clear s u = (λ h. omega (arith, u), tt)

-- ---- a block that is there

pub record Named (s : State) (i k : ℕ) : Type 0 where
  pub component : i < components s.picture
  pub ctb : k < ctu_count s.picture

module _ (s : State) {i k : ℕ} where
  pub named : Clear (block_reasons s i k) → Named s i k
  named c =
      let a : ¬ (components s.picture ≤ i) = λ l. c.0 (inl l) in
      let b : ¬ (ctu_count s.picture ≤ k) = λ l. c.0 (inr l) in
      record { component = omega arith; ctb = omega arith }

  pub named_clear : Named s i k → Clear (block_reasons s i k)
  named_clear n = (λ h. ⊎_elim (λ l. omega (arith, n.component)) (λ l. omega (arith, n.ctb)) h, tt)

-- a component that is not there
pub absent_block : (s : State) (i k : ℕ) → NoSuchComponent s i → First (block_reasons s i k) 3
absent_block s i k n = inl (inl n, refl)

pub absent_marks : (s : State) (i : ℕ) (marks : List ℕ) → NoSuchComponent s i → First (marks_reasons s i marks) 3
absent_marks s i marks n = inl (n, refl)

-- a call that names a block, where none of the first reasons holds and the block is there
pub record BlockCalled (s : State) (fit : Type 0) (i k : ℕ) : Type 0 where
  pub rules : Rules s.picture
  pub fits : fit
  pub state : SoundState s
  pub component : i < components s.picture
  pub ctb : k < ctu_count s.picture

module _ (s : State) {fit : Type 0} {i k : ℕ} where
  pub block_called : Dec fit → Clear (call_reasons s fit ++ block_reasons s i k) → BlockCalled s fit i k
  block_called d c =
      let begins = called s d (clear_front (call_reasons s fit) (block_reasons s i k) c) in
      let there = named s (clear_back (call_reasons s fit) (block_reasons s i k) c) in
      record { rules = begins.rules; fits = begins.fits; state = begins.state; component = there.component; ctb = there.ctb }

  pub block_called_clear : BlockCalled s fit i k → Clear (call_reasons s fit ++ block_reasons s i k)
  block_called_clear b =
      clear_both (call_reasons s fit) (block_reasons s i k) (called_clear s (record { rules = b.rules; fits = b.fits; state = b.state }))
      (named_clear s (record { component = b.component; ctb = b.ctb }))
