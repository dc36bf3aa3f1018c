-- A picture's life told by events, calls whose answers are known: what the demands ask of a run of calls follows from the events, of which each is
-- computed once, in a world that is told by what is in.
use mathlib.Core.Path.{◌≡◌, refl, sym, ap, ap₂, ◌∙◌, subst}
use mathlib.Core.Bool.{Bool, cond}
use mathlib.Core.List.{List, [], ◌∷◌, ◌++◌}
use mathlib.Core.Logic.Dec
use mathlib.Core.Logic.{◌⊎◌, inl, inr}
use Prim.Native.Nat.{ℕ, zero, suc, ◌+◌, ◌-◌, ◌*◌, ◌/◌, ◌<◌, min}
use native.Mathlib.Omega.{arith}
use lib.Dec.{leb, ltb}
use lib.ListN.{length, get_or, set, take, drop, replicate, length-replicate}
use Rattle.standard.specs.declared.Picture.{Picture}
use Rattle.standard.specs.declared.CtuSet.{CtuSet}
use Rattle.standard.specs.Picture.{components, plane_width, plane_height, samples_of, ctb_width, ctb_height, columns, ctu_count, rectangle, address}
use Rattle.standard.specs.Sets.{all_off}
use Rattle.standard.specs.Samples.{plane_by}
use Rattle.standard.specs.Table.{entry_size, encode_entry}
use Rattle.standard.specs.Reasons.{Planes, plane_of, mark_count, mark_place, mark_of}
use Rattle.standard.specs.Calls.{leading}
use Rattle.standard.proofs.Decisions.{differ, or?}
use Rattle.standard.proofs.Rasters.{at_plane_by}
use Rattle.promises.specs.World.{World, Call, Open, Read, Write, Deliver, Filter, Rows, Answer, refused, done, set_read, bins_written, rows, Accepted, room, Result}
use Rattle.promises.specs.Demands.{Lengths, Own, IsBlock, OwnData, NoOpening, Honest, run, Happened, sets_of, sets_in}
use Rattle.promises.specs.Ours.{ours}
use Rattle.worlds.proofs.Small.{accepted?}

pub record Setup : Type 0 where
  pub picture : Picture
  -- its own: the set of each CTU, and of each component each row of deblocked samples
  pub sets : List CtuSet
  pub deblocked : ℕ → ℕ → List ℕ
  -- and what is made of it
  pub filtered : ℕ → ℕ → List ℕ

-- what is in
pub record Time : Type 0 where
  pub next : ℕ
  pub marks : List ℕ

-- ---- the worlds

-- a row with its CTBs as they are where they are in, w samples wide and n of them, and other samples elsewhere
abbrev pub partly : ℕ → ℕ → (ℕ → Bool) → ℕ → List ℕ → List ℕ
partly zero w is_in other row = []
partly (suc n) w is_in other row =
    let part = take w row in
    cond (is_in 0) part (replicate (length part) other) ++ partly n w (λ c. is_in (suc c)) other (drop w row)

-- n rows, one after the other
abbrev pub in_rows : ℕ → (ℕ → List ℕ) → List ℕ
in_rows zero f = []
in_rows (suc n) f = f 0 ++ in_rows n (λ y. f (suc y))

-- the planes that there are, of rows of which those CTBs are in whose marks are not below n
abbrev pub planes_in : Picture → List ℕ → ℕ → ℕ → (ℕ → ℕ → List ℕ) → Planes
planes_in p marks n other f =
    let plane : ℕ → List ℕ = λ i.
    in_rows (plane_height p i) (λ y.
    partly (columns p) (ctb_width p i) (λ c. leb n (mark_of p marks i (y / ctb_height p i * columns p + c))) other (f i y)) in
    record { y = plane 0; cb = cond (ltb 1 (components p)) (plane 1) []; cr = cond (ltb 2 (components p)) (plane 2) [] }

abbrev pub entries : List CtuSet → List ℕ
entries [] = []
entries (q ∷ qs) = encode_entry q ++ entries qs

-- the world while so much is in, the rest being what another picture left: deblocked samples 7, filtered ones 1, a table of 9
abbrev pub world_at : Setup → Time → World
world_at s t =
    let p = s.picture in
    record {
      state = record { picture = p; next = t.next };
      deblocked = planes_in p t.marks 1 7 s.deblocked;
      filtered = planes_in p t.marks 2 1 s.filtered;
      marks = t.marks;
      table = entries (take t.next s.sets) ++ replicate (entry_size * (ctu_count p - t.next)) 9;
    }

abbrev filled : Picture → ℕ → Planes
filled p n = record { y = replicate (samples_of p 0) n; cb = replicate (samples_of p 1) n; cr = replicate (samples_of p 2) n }

-- before the opening
abbrev pub lent : Picture → World
lent p = record {
  state = record { picture = p; next = 7 };
  deblocked = filled p 7;
  filtered = filled p 1;
  marks = replicate (mark_count p) 9;
  table = replicate (entry_size * ctu_count p) 9;
}

pub lent_lengths : (p : Picture) → Lengths (lent p)
lent_lengths p = record {
  deblocked = record { y = length-replicate (samples_of p 0) 7; cb = length-replicate (samples_of p 1) 7; cr = length-replicate (samples_of p 2) 7 };
  filtered = record { y = length-replicate (samples_of p 0) 1; cb = length-replicate (samples_of p 1) 1; cr = length-replicate (samples_of p 2) 1 };
  marks = length-replicate (mark_count p) 9;
  table = length-replicate (entry_size * ctu_count p) 9;
}

-- the deblocked sample at column x of row y of component i
abbrev pub sample_of : Setup → ℕ → ℕ → ℕ → ℕ
sample_of s i x y = get_or (s.deblocked i y) x 0

abbrev pub own : Setup → Own
own s = record {
  parameters = record { sets = λ k. get_or s.sets k all_off };
  planes = λ i. plane_by (plane_width s.picture i) (plane_height s.picture i) (sample_of s i);
}

-- ---- events

-- a CTB delivered, or filtered; the set of the CTU that is due read from bytes and a count, or written to a room with so many bins, which leaves
-- these bytes there; so many rows of a component finished; a call refused with a number
pub data Event : Type 0 where
  delivers : ℕ → ℕ → Event
  filters : ℕ → ℕ → Event
  reads : List ℕ → ℕ → Event
  writes : List ℕ → ℕ → List ℕ → Event
  counts : ℕ → ℕ → Event
  refuses : Call → ℕ → Event

abbrev pub set_at : Setup → Time → CtuSet
set_at s t = get_or s.sets t.next all_off

-- the samples of CTB k of component i
abbrev pub block_of : Setup → ℕ → ℕ → List ℕ
block_of s i k =
    let r = rectangle s.picture i k in
    plane_by (r.x1 - r.x0) (r.y1 - r.y0) (λ x y. sample_of s i (r.x0 + x) (r.y0 + y))

abbrev pub call_of : Setup → Time → Event → Call
call_of s t (delivers i k) = Deliver i k (block_of s i k)
call_of s t (filters i k) = Filter i k
call_of s t (reads bytes count) = Read bytes count
call_of s t (writes room n bytes) = Write (set_at s t) room
call_of s t (counts i n) = Rows i
call_of s t (refuses c n) = c

abbrev pub answer_of : Setup → Time → Event → Answer
answer_of s t (delivers i k) = done
answer_of s t (filters i k) = done
answer_of s t (reads bytes count) = set_read (set_at s t)
answer_of s t (writes room n bytes) = bins_written n
answer_of s t (counts i n) = rows n (leading (world_at s t).state i n (plane_of (world_at s t).filtered i))
answer_of s t (refuses c n) = refused n

abbrev pub out_of : Event → List ℕ
out_of (delivers i k) = []
out_of (filters i k) = []
out_of (reads bytes count) = []
out_of (writes room n bytes) = bytes
out_of (counts i n) = []
out_of (refuses c n) = room c

abbrev marking : Setup → Time → ℕ → ℕ → ℕ → Time
marking s t i k n = record { next = t.next; marks = set t.marks (mark_place s.picture i k) n }

abbrev pub later : Setup → Time → Event → Time
later s t (delivers i k) = marking s t i k 1
later s t (filters i k) = marking s t i k 2
later s t (reads bytes count) = record { next = t.next + 1; marks = t.marks }
later s t (writes room n bytes) = record { next = t.next + 1; marks = t.marks }
later s t (counts i n) = t
later s t (refuses c n) = t

-- no opening is refused
abbrev Fair : Event → Type 0
Fair (delivers i k) = Unit {0}
Fair (filters i k) = Unit {0}
Fair (reads bytes count) = Unit {0}
Fair (writes room n bytes) = Unit {0}
Fair (counts i n) = Unit {0}
Fair (refuses c n) = NoOpening c

-- THE EVENTS HAPPEN: each call has its answer and leaves the world of its time
abbrev pub Happens : Setup → Time → Event → Type 0
Happens s t e =
    (ours (call_of s t e) (world_at s t) ≡ record { answer = answer_of s t e; out = out_of e; world = world_at s (later s t e) }) × Fair e

abbrev pub Happen : Setup → Time → List Event → Type 0
Happen s t [] = Unit {0}
Happen s t (e ∷ es) = Happens s t e × Happen s (later s t e) es

abbrev pub until : Setup → Time → List Event → Time
until s t [] = t
until s t (e ∷ es) = until s (later s t e) es

abbrev pub calls : Setup → Time → List Event → List Call
calls s t [] = []
calls s t (e ∷ es) = call_of s t e ∷ calls s (later s t e) es

-- ---- what follows

lt_min : (a b : ℕ) {x : ℕ} → x < min a b → x < b
lt_min a b h = omega (arith, h)

answers : {r t : Result} → r ≡ t → r.answer ≡ t.answer
answers e = ap (λ (r : Result). r.answer) e

leaves : {r t : Result} → r ≡ t → r.world ≡ t.world
leaves e = ap (λ (r : Result). r.world) e

module _ (s : Setup) where
  pub happen_on : (t : Time) (es fs : List Event) → Happen s t es → Happen s (until s t es) fs → Happen s t (es ++ fs)
  happen_on t [] fs h k = k
  happen_on t (e ∷ es) fs h k = (h.0, happen_on (later s t e) es fs h.1 k)

  pub run_is : (t : Time) (es : List Event) → Happen s t es → run ours (calls s t es) (world_at s t) ≡ world_at s (until s t es)
  run_is t [] h = refl
  run_is t (e ∷ es) h = ap (run ours (calls s (later s t e) es)) (leaves h.0.0) ∙ run_is (later s t e) es h.1

  is_block : (i k : ℕ) → IsBlock s.picture i k ((own s).planes i) (block_of s i k)
  unfolding rectangle
  is_block i k x y ((a, b), (c, d)) =
      let p = s.picture in
      let r = rectangle p i k in
      let left : r.x0 + (x - r.x0) ≡ x = omega (arith, a) in
      let top : r.y0 + (y - r.y0) ≡ y = omega (arith, c) in
      at_plane_by (r.x1 - r.x0) (r.y1 - r.y0) (λ x y. sample_of s i (r.x0 + x) (r.y0 + y)) (omega (arith, a, b)) (omega (arith, c, d))
      ∙ ap₂ (sample_of s i) left top
      ∙ sym (at_plane_by (plane_width p i) (plane_height p i) (sample_of s i) (lt_min (r.x0 + ctb_width p i) (plane_width p i) b) (lt_min (r.y0 + ctb_height p i) (plane_height p i) d))

  set_of_lem : {q r : CtuSet} → set_read q ≡ set_read r → q ≡ r
  set_of_lem e = cc

  none_read : {n : ℕ} {q : CtuSet} → refused n ≡ set_read q → ◌≡◌ {A = ℕ} 0 1
  none_read e = cc

  own_data : (t : Time) (e : Event) → Fair e → OwnData (own s) (call_of s t e) (world_at s t) (answer_of s t e)
  unfolding address
  own_data t (delivers i k) f = λ a. is_block i k
  own_data t (filters i k) f = tt
  own_data t (reads bytes count) f = λ q e. sym (set_of_lem e)
  own_data t (writes room n bytes) f = λ a. refl
  own_data t (counts i n) f = tt
  own_data t (refuses Open n) f = absurd f
  own_data t (refuses (Read bytes count) n) f = λ q e. differ (none_read e)
  own_data t (refuses (Write q out) n) f = λ a. absurd a
  own_data t (refuses (Deliver i k samples) n) f = λ a. absurd a
  own_data t (refuses (Filter i k) n) f = tt
  own_data t (refuses (Rows i) n) f = tt

  no_opening : (t : Time) (e : Event) → Fair e → NoOpening (call_of s t e)
  no_opening t (delivers i k) f = tt
  no_opening t (filters i k) f = tt
  no_opening t (reads bytes count) f = tt
  no_opening t (writes room n bytes) f = tt
  no_opening t (counts i n) f = tt
  no_opening t (refuses c n) f = f

  pub honest : (t : Time) (es : List Event) → Happen s t es → Honest ours (own s) (calls s t es) (world_at s t)
  honest t [] h = tt
  honest t (e ∷ es) h = (
    no_opening t e h.0.1,
    subst (OwnData (own s) (call_of s t e) (world_at s t)) (sym (answers h.0.0)) (own_data t e h.0.1),
    subst (Honest ours (own s) (calls s (later s t e) es)) (sym (leaves h.0.0)) (honest (later s t e) es h.1),
  )

-- the accepted among the events, as Q says
abbrev pub Known : Setup → (Call → Type 0) → Time → List Event → Type 0
Known s Q t [] = ⊥
Known s Q t (e ∷ es) = (Q (call_of s t e) × Accepted (answer_of s t e)) ⊎ Known s Q (later s t e) es

unfoldable pub known? : (s : Setup) {Q : Call → Type 0} → ((c : Call) → Dec (Q c)) → (t : Time) (es : List Event) → Dec (Known s Q t es)
unfolding accepted? or? Dec.and
known? s q t [] = no (λ b. b)
known? s q t (e ∷ es) = or? (Dec.and (q (call_of s t e)) (accepted? (answer_of s t e))) (known? s q (later s t e) es)

abbrev pub sets_among : Setup → Time → List Event → ℕ
sets_among s t [] = 0
sets_among s t (e ∷ es) = sets_of (call_of s t e) (answer_of s t e) + sets_among s (later s t e) es

module _ (s : Setup) (Q : Call → Type 0) where
  pub happened : (t : Time) (es : List Event) → Happen s t es → Known s Q t es → Happened ours Q (calls s t es) (world_at s t)
  happened t [] h x'' = elim x'' [ ]
  happened t (e ∷ es) h (inl k) = inl (k.0, subst Accepted (sym (answers h.0.0)) k.1)
  happened t (e ∷ es) h (inr k) =
      inr (subst (Happened ours Q (calls s (later s t e) es)) (sym (leaves h.0.0)) (happened (later s t e) es h.1 k))

  pub only_happened : (t : Time) (es : List Event) → Happen s t es → Happened ours Q (calls s t es) (world_at s t) → Known s Q t es
  only_happened t [] h k = k
  only_happened t (e ∷ es) h (inl k) = inl (k.0, subst Accepted (answers h.0.0) k.1)
  only_happened t (e ∷ es) h (inr k) =
      inr (only_happened (later s t e) es h.1 (subst (Happened ours Q (calls s (later s t e) es)) (leaves h.0.0) k))

pub sets_among_lem : (s : Setup) (t : Time) (es : List Event) → Happen s t es → sets_in ours (calls s t es) (world_at s t) ≡ sets_among s t es
sets_among_lem s t [] h = refl
sets_among_lem s t (e ∷ es) h =
    ap₂ ◌+◌ (ap (sets_of (call_of s t e)) (answers h.0.0)) (ap (sets_in ours (calls s (later s t e) es)) (leaves h.0.0) ∙ sets_among_lem s (later s t e) es h.1)
