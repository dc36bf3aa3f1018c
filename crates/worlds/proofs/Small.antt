-- Small pictures and their worlds, and the decisions by which what holds of them is computed: what the premises of the demands ask of a run
-- of calls is decided for any stage.
use mathlib.Core.Path.{◌≡◌, refl, sym, ap, ◌∙◌}
use mathlib.Core.Bool.{true, cond}
use mathlib.Core.List.{List, [], ◌∷◌, ◌++◌}
use mathlib.Core.Logic.Dec
use Rattle.std.specs.Prelude.{None as none}
use Prim.Native.Nat.{ℕ, ◌*◌, ◌<◌}
use native.Mathlib.Decide.{ℕ_discrete}
use lib.Dec.{ltb}
use lib.IntN.{pos, negsuc}
use lib.ListN.{get_or, replicate}
use Rattle.standard.specs.declared.Picture.{Picture}
use Rattle.standard.specs.declared.Offsets.TheVariants.{Edge}
use Rattle.standard.specs.declared.CtuSet.{CtuSet}
use Rattle.standard.specs.Picture.{plane_width, divisors, rectangle, due}
use Rattle.standard.specs.Sets.{four, switches_of, all_off}
use Rattle.standard.specs.Bins.{bins_of}
use Rattle.standard.specs.Samples.{at, plane_by}
use Rattle.standard.specs.Table.{entry_size, encode_entry}
use Rattle.standard.specs.Reasons.{Planes, MeansHere}
use Rattle.standard.specs.Calls.{delivered}
use Rattle.standard.proofs.Computing.{definitions}
use Rattle.standard.proofs.Cases.{mono, colour_of, of_luma, everywhere}
use Rattle.standard.proofs.Decisions.{differ, by_iff, or?, some?}
use Rattle.standard.proofs.Depths.{depths, alike}
use Rattle.standard.proofs.Rasters.{inside?}
use Rattle.standard.proofs.Judging.{rules?, same_set?}
use Rattle.standard.proofs.Reader.{got_is_meant}
use Rattle.standard.proofs.Refusing.{unit_due?}
use Rattle.promises.specs.World.{World, picture_of, Call, Open, Read, Write, Deliver, Filter, Rows, Answer, refused, done, set_read, bins_written, rows, Accepted, Stage}
use Rattle.promises.specs.Demands.{Own, IsBlock, OwnData, NoOpening, Honest, Happened, Filters, Delivers, Lengths, Due, Life}
use Rattle.promises.specs.Ours.{act, ours}

-- all that a run of the stage computes with: `unfolding computing` opens it
unfoldable pub computing : Unit {0}
unfolding ours act definitions
computing = tt

-- ---- what is decided

abbrev pub IsYes : {A : Type 0} → Dec A → Type 0
IsYes (yes a) = Unit {0}
IsYes (no n) = ⊥

abbrev pub IsNo : {A : Type 0} → Dec A → Type 0
IsNo (yes a) = ⊥
IsNo (no n) = Unit {0}

pub holds : {A : Type 0} (d : Dec A) → IsYes d → A
holds (yes a) h = a
holds (no n) h = absurd h

pub fails : {A : Type 0} (d : Dec A) → IsNo d → ¬ A
fails (yes a) h = absurd h
fails (no n) h = n

pub apart : (a b : ℕ) → IsNo (ℕ_discrete a b) → ¬ (a ≡ b)
apart a b = fails (ℕ_discrete a b)

-- where one holds, so does another
unfoldable pub if? : {A B : Type 0} → Dec A → Dec B → Dec (A → B)
if? (yes a) b = by_iff (λ h x. h) (λ f. f a) b
if? (no n) b = yes (λ a. absurd (n a))

-- all numbers below n
unfoldable pub all? : (n : ℕ) {P : ℕ → Type 0} → ((k : ℕ) → Dec (P k)) → Dec ((k : ℕ) → k < n → P k)
unfolding some? Dec.not
all? n {P} d = by_iff (λ f k h. go f k h (d k)) (λ f t. t.2 (f t.0 t.1)) (Dec.not (some? n (λ k. Dec.not (d k))))
  where
    go : ¬ ((k : ℕ) × (k < n) × (¬ P k)) → (k : ℕ) → k < n → Dec (P k) → P k
    go f k h (yes p) = p
    go f k h (no m) = absurd (f (k, h, m))

-- ---- what the demands ask of a run

unfoldable pub accepted? : (a : Answer) → Dec (Accepted a)
accepted? (refused n) = no (λ b. b)
accepted? done = yes tt
accepted? (set_read q) = yes tt
accepted? (bins_written n) = yes tt
accepted? (rows n part) = yes tt

unfoldable pub filters? : (i k : ℕ) (c : Call) → Dec (Filters i k c)
unfolding Dec.and
filters? i k Open = no (λ b. b)
filters? i k (Read bytes count) = no (λ b. b)
filters? i k (Write q out) = no (λ b. b)
filters? i k (Deliver j l samples) = no (λ b. b)
filters? i k (Filter j l) = Dec.and (ℕ_discrete j i) (ℕ_discrete l k)
filters? i k (Rows j) = no (λ b. b)

unfoldable pub delivers? : (i k : ℕ) (c : Call) → Dec (Delivers i k c)
unfolding Dec.and
delivers? i k Open = no (λ b. b)
delivers? i k (Read bytes count) = no (λ b. b)
delivers? i k (Write q out) = no (λ b. b)
delivers? i k (Deliver j l samples) = Dec.and (ℕ_discrete j i) (ℕ_discrete l k)
delivers? i k (Filter j l) = no (λ b. b)
delivers? i k (Rows j) = no (λ b. b)

unfoldable pub no_opening? : (c : Call) → Dec (NoOpening c)
no_opening? Open = no (λ b. b)
no_opening? (Read bytes count) = yes tt
no_opening? (Write q out) = yes tt
no_opening? (Deliver i k samples) = yes tt
no_opening? (Filter i k) = yes tt
no_opening? (Rows i) = yes tt

unfoldable pub is_block? : (p : Picture) (i k : ℕ) (plane samples : List ℕ) → Dec (IsBlock p i k plane samples)
unfolding all? inside? if?
is_block? p i k plane samples =
    let r = rectangle p i k in
    by_iff (λ f x y h. f x h.0.1 y h.1.1 h) (λ f x a y b h. f x y h)
    (all? r.x1 (λ x. all? r.y1 (λ y. if? (inside? r x y) (ℕ_discrete (delivered r samples x y) (at plane (plane_width p i) x y)))))

abbrev set_of : Answer → CtuSet
set_of (refused n) = all_off
set_of done = all_off
set_of (set_read q) = q
set_of (bins_written n) = all_off
set_of (rows n part) = all_off

-- the set read, if one was, is q
is_read? : (a : Answer) (q : CtuSet) → Dec ((s : CtuSet) → a ≡ set_read s → s ≡ q)
unfolding same_set?
is_read? (refused n) q = yes (λ s e. differ (cc))
is_read? done q = yes (λ s e. differ (cc))
is_read? (set_read s) q = by_iff (λ h t e. sym (ap set_of e) ∙ h) (λ f. f s refl) (same_set? s q)
is_read? (bins_written n) q = yes (λ s e. differ (cc))
is_read? (rows n part) q = yes (λ s e. differ (cc))

unfoldable pub own_data? : (own : Own) (c : Call) (w : World) (a : Answer) → Dec (OwnData own c w a)
unfolding is_read? accepted? is_block? if? same_set?
own_data? own Open w a = yes tt
own_data? own (Read bytes count) w a = is_read? a (own.parameters.sets (due w.state))
own_data? own (Write q out) w a = if? (accepted? a) (same_set? q (own.parameters.sets (due w.state)))
own_data? own (Deliver i k samples) w a = if? (accepted? a) (is_block? (picture_of w) i k (own.planes i) samples)
own_data? own (Filter i k) w a = yes tt
own_data? own (Rows i) w a = yes tt

unfoldable pub honest? : (stage : Stage) (own : Own) (cs : List Call) (w : World) → Dec (Honest stage own cs w)
unfolding no_opening? own_data? Dec.and
honest? stage own [] w = yes tt
honest? stage own (c ∷ cs) w =
    by_iff (λ t. (t.0, t.1.0, t.1.1)) (λ t. (t.0, (t.1, t.2)))
    (Dec.and (no_opening? c) (Dec.and (own_data? own c w (stage c w).answer) (honest? stage own cs (stage c w).world)))

unfoldable pub happened? : (stage : Stage) {Q : Call → Type 0} → ((c : Call) → Dec (Q c)) → (cs : List Call) (w : World) → Dec (Happened stage Q cs w)
unfolding accepted? or? Dec.and
happened? stage q [] w = no (λ b. b)
happened? stage q (c ∷ cs) w = or? (Dec.and (q c) (accepted? (stage c w).answer)) (happened? stage q cs (stage c w).world)

-- ---- lives

unfoldable pub deciding : Unit {0}
unfolding computing filters? delivers? honest? happened? all?
deciding = tt

pub lives : {stage : Stage} {own : Own} {w : World} {cs : List Call} → Lengths w → Accepted (stage Open w).answer
    → IsYes (honest? stage own cs (stage Open w).world) → Life stage own w cs
lives {stage} {own} {w} {cs} l a h = record { lengths = l; opened = a; honest = holds (honest? stage own cs (stage Open w).world) h }

-- ---- worlds of monochrome pictures

abbrev pub luma_only : List ℕ → Planes
luma_only plane = record { y = plane; cb = []; cr = [] }

-- the next CTU; the deblocked and the filtered plane; marks and table
abbrev pub world : Picture → ℕ → List ℕ → List ℕ → List ℕ → List ℕ → World
world p n deblocked filtered marks table = record {
  state = record { picture = p; next = n };
  deblocked = luma_only deblocked;
  filtered = luma_only filtered;
  marks = marks;
  table = table;
}

-- the set of document 01's case 7, and its bins
abbrev pub edgy : CtuSet
edgy = of_luma (Edge 0 (four (pos 2) (pos 1) (negsuc 0) (negsuc 1)))

abbrev pub edgy_bytes : List ℕ
edgy_bytes = 245 ∷ 96 ∷ []

abbrev pub edgy_count : ℕ
edgy_count = 14

-- ONE CTB: 8x8, each row that of case 7
abbrev pub plane8 : List ℕ
plane8 = plane_by 8 8 (λ x y. get_or (5 ∷ 3 ∷ 5 ∷ 5 ∷ 6 ∷ 6 ∷ 4 ∷ 4 ∷ []) x 0)

abbrev pub own8 : Own
own8 = record { parameters = everywhere edgy; planes = λ i. plane8 }

-- before its opening, with what another picture left: deblocked samples 7, filtered ones 1
abbrev pub before8 : World
before8 = world (mono 8 8) 7 (replicate 64 7) (replicate 64 1) (9 ∷ []) (replicate entry_size 9)

-- opened
abbrev pub opened8 : World
opened8 = world (mono 8 8) 0 (replicate 64 7) (replicate 64 1) (0 ∷ []) (replicate entry_size 9)

-- set and block are in
abbrev pub ready8 : World
ready8 = world (mono 8 8) 1 plane8 (replicate 64 1) (1 ∷ []) (encode_entry edgy)

-- the first filter is refused
abbrev pub calls8 : List Call
calls8 = Read edgy_bytes edgy_count ∷ Filter 0 0 ∷ Deliver 0 0 plane8 ∷ Filter 0 0 ∷ []

-- TWO CTBs side by side: 24x8, the first all 4, the second, cut short, all 3
abbrev pub plane24 : List ℕ
plane24 = plane_by 24 8 (λ x y. cond (ltb x 16) 4 3)

abbrev pub own24 : Own
own24 = record { parameters = everywhere edgy; planes = λ i. plane24 }

abbrev pub before24 : World
before24 = world (mono 24 8) 7 (replicate 192 7) (replicate 192 1) (9 ∷ 9 ∷ []) (replicate (2 * entry_size) 9)

-- both sets are in, the second by a merge, and of the blocks the first
abbrev pub half24 : World
half24 = world (mono 24 8) 2 (replicate 192 7) (replicate 192 1) (1 ∷ 0 ∷ []) (encode_entry edgy ++ encode_entry edgy)

-- the first filter is asked for while the block to the right is missing
abbrev pub calls24 : List Call
calls24 =
    Read edgy_bytes edgy_count
    ∷ Read (128 ∷ []) 1
    ∷ Deliver 0 0 (replicate 128 4)
    ∷ Filter 0 0
    ∷ Deliver 0 1 (replicate 64 3)
    ∷ Filter 0 0
    ∷ Filter 0 1
    ∷ []

-- TWO CTBs one above the other: 8x24, of which the upper is filtered
abbrev pub tall24 : World
tall24 = world (mono 8 24) 2 (replicate 192 7) (replicate 192 1) (2 ∷ 1 ∷ []) (encode_entry edgy ++ encode_entry edgy)

-- 8x8 in 4:2:2, opened, but lent chroma planes of 4:2:0
abbrev pub halved : World
halved =
    let planes : Planes = record { y = replicate 64 7; cb = replicate 16 7; cr = replicate 16 7 } in
    record {
      state = record { picture = record { width = 8; height = 8; ctb = 16; format = 2; depth = alike 8; luma = true; chroma = true }; next = 0 };
      deblocked = planes;
      filtered = planes;
      marks = 0 ∷ 0 ∷ 0 ∷ [];
      table = replicate entry_size 9;
    }

-- 8x8 in 4:4:4 with luma at 10 and chroma at 8, opened
abbrev pub opened10_8 : World
opened10_8 =
    let planes : Planes = record { y = replicate 64 7; cb = replicate 64 7; cr = replicate 64 7 } in
    record {
      state = record { picture = colour_of (depths 10 8) 8 8; next = 0 };
      deblocked = planes;
      filtered = planes;
      marks = 0 ∷ 0 ∷ 0 ∷ [];
      table = replicate entry_size 9;
    }

pub lengths8 : Lengths before8
unfolding divisors
lengths8 = record { deblocked = record { y = refl; cb = refl; cr = refl }; filtered = record { y = refl; cb = refl; cr = refl }; marks = refl; table = refl }

pub lengths24 : Lengths before24
unfolding divisors
lengths24 = record { deblocked = record { y = refl; cb = refl; cr = refl }; filtered = record { y = refl; cb = refl; cr = refl }; marks = refl; table = refl }

-- the CTU is due, and its bins mean the set
pub due8 : Due opened8
unfolding computing
due8 = record {
  rules = holds (rules? (mono 8 8)) tt;
  lengths = record { deblocked = record { y = refl; cb = refl; cr = refl }; filtered = record { y = refl; cb = refl; cr = refl }; marks = refl; table = refl };
  unit = holds (unit_due? opened8.state) tt;
  left = λ b. b;
  above = λ b. b;
}

pub means_edgy : MeansHere opened8.state opened8.table edgy (bins_of edgy_bytes edgy_count)
unfolding computing
means_edgy = got_is_meant (switches_of opened8.state) none none (bins_of edgy_bytes edgy_count) refl
