-- The exports are the stage of the promises: where a state holds the numbers, an export answers, and leaves, what `ours` does in the world
-- that they are of.
use mathlib.Core.Bool.{Bool, true, false}
use mathlib.Core.List.{List, [], ◌∷◌}
use mathlib.Core.Logic.{inl, inr}
use mathlib.Core.Path.{◌≡◌, refl, sym, ap, ◌∙◌}
use Prim.Native.Nat.{ℕ, zero, suc, ◌*◌}
use native.Mathlib.Omega.{arith}
use lib.ListN.{length, get_or, take}
use Rattle.standard.specs.declared.State.{State}
use Rattle.standard.specs.declared.CtuSet.{CtuSet}
use Rattle.standard.specs.Table.{encode}
use Rattle.standard.specs.Refusals.{◌if◌, First, Clear}
use Rattle.standard.specs.Reasons.{Planes, plane_of}
use Rattle.standard.specs.Picture.{plane_width}
use Rattle.standard.specs.Sets.{all_off}
use Rattle.standard.specs.Calls.{opened_state, state_after, leading}
use Rattle.sets.specs.Entries.{StandsFor}
use Rattle.promises.specs.World.{World, Call, Open, Read, Write, Deliver, Filter, Rows, Answer, refused, done, set_read, bins_written, rows, Result, reasons_of}
use Rattle.promises.specs.Contract.{Effect, unchanged}
use Rattle.promises.specs.Ties.{resulting}
use Rattle.promises.specs.Ours.{ours}
use Rattle.promises.proofs.Meets.{meets_refused, meets_acted}
use Rattle.promises.proofs.Unique.{is_ours}
use Rattle.steamgusset.specs.Boundary.{digit, is_on, numbers_of, state_of, Held}
use Rattle.steamgusset.specs.Exports.{NoStateHoldsThem, OpenCrosses, ReadCrosses, WriteCrosses, DeliverCrosses, FilterCrosses, RowsCrosses}

-- ---- the numbers of a state say it

on_digit : (b : Bool) → is_on (digit b) ≡ b
on_digit false = refl
on_digit true = refl

pub numbers_back : (s : State) → state_of (numbers_of s) ≡ s
unfolding state_of
numbers_back s = simp on_digit

-- the state that is left
left : {b : List ℕ} (s : State) → b ≡ numbers_of s → s ≡ state_of b
left s e = sym (ap state_of e ∙ numbers_back s)

-- ---- a beginning of a list, by its length

take_length : (n : ℕ) (l : List ℕ) → take (length (take n l)) l ≡ take n l
take_length zero l = refl
take_length (suc n) [] = refl
take_length (suc n) (x ∷ l) = ap (λ (t : List ℕ). x ∷ t) (take_length n l)

-- ---- the answer that a number is

abbrev pub told : ℕ → Answer → Answer
told zero answer = answer
told (suc n) answer = refused (suc n)

-- ---- from an answer to the stage's

module _ (a : List ℕ) (held : Held a) (c : Call) (w : World) where
  acted : {D : Type 0} {t : Result} → Clear ((1 if NoStateHoldsThem a) ∷ reasons_of c w) × D → (D → Effect c w t) → ours c w ≡ t
  acted h e = sym (is_ours (meets_acted h.0.1 (e h.1)))

  kept : {B : Type 0} {n : ℕ} → First ((1 if NoStateHoldsThem a) ∷ reasons_of c w) n × B → ours c w ≡ unchanged c w n
  kept (inl f, b) = absurd (f.0 held)
  kept (inr f, b) = sym (is_ours (meets_refused f.1 refl))

module _ (a : List ℕ) (held : Held a) (deblocked filtered : Planes) (marks table : List ℕ) where
  -- the world that the numbers and the lent buffers are of
  abbrev pub world : World
  world = record { state = state_of a; deblocked = deblocked; filtered = filtered; marks = marks; table = table }

  pub open_ours : (r : ℕ) (b m : List ℕ) → OpenCrosses a marks r b m → ours Open world ≡ resulting (told r done) [] (state_of b) deblocked filtered m table
  open_ours zero b m h =
      acted a held Open world h (λ t z. resulting done [] (sym (left (opened_state (state_of a)) t.0) z) deblocked filtered (t.1 z) table)
  open_ours (suc n) b m h =
      kept a held Open world h ∙ (λ z. resulting (refused (suc n)) [] (state_of (sym h.1.0 z)) deblocked filtered (sym h.1.1 z) table)

  pub deliver_ours : (i k : ℕ) (samples : List ℕ) (r : ℕ) (planes : Planes) (m : List ℕ) → DeliverCrosses a i k samples deblocked marks r planes m
      → ours (Deliver i k samples) world ≡ resulting (told r done) [] (state_of a) planes filtered m table
  deliver_ours i k samples zero planes m h =
      acted a held (Deliver i k samples) world h (λ t. (planes, t.0, λ z. resulting done [] (state_of a) planes filtered (t.1 z) table))
  deliver_ours i k samples (suc n) planes m h =
      kept a held (Deliver i k samples) world h ∙ (λ z. resulting (refused (suc n)) [] (state_of a) (sym h.1.0 z) filtered (sym h.1.1 z) table)

  pub filter_ours : (i k r : ℕ) (planes : Planes) (m : List ℕ) → FilterCrosses a i k deblocked filtered marks table r planes m
      → ours (Filter i k) world ≡ resulting (told r done) [] (state_of a) deblocked planes m table
  filter_ours i k zero planes m h =
      acted a held (Filter i k) world h (λ t. (planes, t.0, λ z. resulting done [] (state_of a) deblocked planes (t.1 z) table))
  filter_ours i k (suc n) planes m h =
      kept a held (Filter i k) world h ∙ (λ z. resulting (refused (suc n)) [] (state_of a) deblocked (sym h.1.0 z) (sym h.1.1 z) table)

  -- the set that is answered is the one whose encoding is left; a refusal answers none
  pub read_ours : (bytes : List ℕ) (count : ℕ) (set : List ℕ) (r : ℕ) (b t e : List ℕ) → ReadCrosses a bytes count table set r b t e
      → (q : CtuSet) × (r ≡ 0 → e ≡ encode q) × (ours (Read bytes count) world ≡ resulting (told r (set_read q)) [] (state_of b) deblocked filtered marks t)
  read_ours bytes count set zero b t e h =
      let g = h.1.1 in (
        g.set,
        (λ z. g.encoded),
        acted a held (Read bytes count) world h
            (λ d. (g.set, g.means, λ z. resulting (set_read g.set) [] (sym (left (state_after (state_of a)) h.1.0) z) deblocked filtered marks (g.stored z))),
      )
  read_ours bytes count set (suc n) b t e h = (
    all_off,
    (λ z. absurd (omega arith)),
    kept a held (Read bytes count) world h ∙ (λ z. resulting (refused (suc n)) [] (state_of (sym h.1.0 z)) deblocked filtered marks (sym h.1.1 z)),
  )

  pub write_ours : (set out : List ℕ) (k r : ℕ) (b o t : List ℕ) (n : ℕ) → WriteCrosses a set out table k r b o t n
      → (q : CtuSet) × StandsFor set q × (ours (Write q out) world ≡ resulting (told r (bins_written n)) o (state_of b) deblocked filtered marks t)
  write_ours set out k zero b o t n (q, s, h) =
      (q, s, acted a held (Write q out) world h (λ e. (n, o, e.1, λ z. resulting (bins_written n) o (sym (left (state_after (state_of a)) e.0) z) deblocked filtered marks (e.2 z))))
  write_ours set out k (suc m) b o t n (q, s, h) =
      (q, s, kept a held (Write q out) world h ∙ (λ z. resulting (refused (suc m)) (sym h.1.1 z) (state_of (sym h.1.0 z)) deblocked filtered marks (sym h.1.2 z)))

  -- the rows are the plane's first samples, as many as are told
  pub rows_ours : (i : ℕ) (finished : List ℕ) (r : ℕ) (f : List ℕ) → RowsCrosses a i filtered marks finished r f
      → ours (Rows i) world ≡ resulting (told r (rows (get_or f 0 0) (take (get_or f 1 0) (plane_of filtered i)))) [] (state_of a) deblocked filtered marks table
  rows_ours i finished zero f h =
      acted a held (Rows i) world h
      (λ d. (
        d.rows,
        d.finished,
        λ z. resulting (rows (get_or (d.numbers z) 0 0) (part d.rows (plane_of filtered i) d.numbers z)) [] (state_of a) deblocked filtered marks table,
      ))
    where
      part : (n : ℕ) (plane : List ℕ) → f ≡ n ∷ length (leading (state_of a) i n plane) ∷ [] → take (get_or f 1 0) plane ≡ leading (state_of a) i n plane
      part n plane e = ap (λ (l : List ℕ). take (get_or l 1 0) plane) e ∙ take_length (n * plane_width (state_of a).picture i) plane
  rows_ours i finished (suc n) f h = kept a held (Rows i) world h
