-- DEMAND 3 of every stage that meets the contract.
use mathlib.Core.Path.{◌≡◌, refl, sym, ◌∙◌, subst}
use mathlib.Core.List.{List}
use mathlib.Core.Logic.{⊎_elim}
use Prim.Native.Nat.{ℕ, zero, suc, ◌≤◌, ◌<◌}
use native.Mathlib.Omega.{arith}
use lib.ListN.{get_or, replicate, length-replicate}
use Rattle.standard.specs.declared.Picture.{Picture}
use Rattle.standard.specs.declared.State.{State}
use Rattle.standard.specs.Picture.{Rules, components, plane_width, ctu_count, Inside, rectangle, ctb_at}
use Rattle.standard.specs.Samples.{at, filtered_plane}
use Rattle.standard.specs.Reasons.{plane_of, mark_place, mark_count, mark_of, filter_reasons}
use Rattle.standard.specs.Refusals.{Clear}
use Rattle.standard.proofs.Called.{lent_rules}
use Rattle.standard.proofs.Rasters.{is_filtered}
use Rattle.standard.proofs.Grid.{inside_count, ctb_inside, ctb_lt}
use Rattle.promises.specs.World.{World, picture_of, Call, Open, Filter, Accepted, Result, Stage, reasons_of}
use Rattle.promises.specs.Contract.{opened, Contract}
use Rattle.promises.specs.Demands.{Lengths, Own, Filters, Delivers, sets_in, Life, after, Done, final, Demand3}
use Rattle.promises.proofs.Turns.{turn, effect}
use Rattle.standard.proofs.Three.{plane_long}
use Rattle.promises.proofs.Stored.{SetsIn, none_in}
use Rattle.promises.proofs.Blocks.{Blocks}
use Rattle.promises.proofs.Invariant.{mark, Holds, Moves}
use Rattle.promises.proofs.History.{runs}
use Rattle.promises.proofs.Ready.{ready_clear}

-- ---- the opening

all_zero : (n k : ℕ) → get_or {A = ℕ} (replicate n 0) k 0 ≡ 0
all_zero zero k = refl
all_zero (suc n) zero = refl
all_zero (suc n) (suc k) = all_zero n k

record Start (own : Own) (w w0 : World) : Type 0 where
  picture : picture_of w0 ≡ picture_of w
  holds : Holds own w.filtered w0
  zeros : (i k : ℕ) → mark w0 i k ≡ 0
  none : w0.state.next ≡ 0

started : (own : Own) (w : World) → Lengths w → Rules (picture_of w) → Start own w (opened w)
started own w lengths rules = record {
  picture = refl;
  holds = record {
    rules = rules;
    sets = none_in refl lengths.table;
    blocks = record {
      deblocked_fits = lengths.deblocked;
      filtered_fits = lengths.filtered;
      marks_fit = length-replicate (mark_count (picture_of w)) 0;
      marks_low = λ i k il kl. omega (arith, zeros i k);
      places = λ i k x y il h. record {
        low = λ m. absurd (omega (arith, zeros i k));
        its_own = λ m. absurd (omega (arith, zeros i k));
        final = λ m. absurd (omega (arith, zeros i k));
        before = λ m. refl;
      };
    };
  };
  zeros = zeros;
  none = refl;
}
  where
    zeros : (i k : ℕ) → mark (opened w) i k ≡ 0
    zeros i k = all_zero (mark_count (picture_of w)) (mark_place (picture_of w) i k)

opening : (own : Own) (w : World) {r : Result} → Contract Open w r → Lengths w → Accepted r.answer → Start own w r.world
opening own w k lengths =
    turn Open w k (λ r. Accepted r.answer → Start own w r.world) (λ n a. absurd a)
    (λ free a. started own w lengths (lent_rules w.state free))

-- ---- the opening and the calls

-- a state, of another picture
abbrev of_picture : Picture → State → State
of_picture p s = record { picture = p; next = s.next }

-- w and the world after the calls, in terms of the picture at the start
record Lived (own : Own) (w w1 : World) (F D : ℕ → ℕ → Type 0) (n : ℕ) : Type 0 where
  picture : picture_of w1 ≡ picture_of w
  next : w1.state.next ≡ n
  rules : Rules (picture_of w)
  sets : SetsIn (of_picture (picture_of w) w1.state) own.parameters w1.table
  blocks : Blocks own w.filtered (picture_of w) w1.deblocked w1.filtered w1.marks
  filtered : (i k : ℕ) → k < ctu_count (picture_of w) → F i k → mark_of (picture_of w) w1.marks i k ≡ 2
  delivered : (i k : ℕ) → k < ctu_count (picture_of w) → D i k → 1 ≤ mark_of (picture_of w) w1.marks i k
  because : (i k : ℕ) → k < ctu_count (picture_of w) → mark_of (picture_of w) w1.marks i k ≡ 2 → F i k

lived : {own : Own} {w w0 w1 : World} {F D : ℕ → ℕ → Type 0} {n : ℕ} → Start own w w0 → Moves own w.filtered F D n w0 w1 → Lived own w w1 F D n
lived {own} {w} {w0} {w1} {F} {D} start m = record {
  picture = e;
  next = omega (arith, m.next, start.none);
  rules = subst Rules e m.holds.rules;
  sets = subst (λ (p : Picture). SetsIn (of_picture p w1.state) own.parameters w1.table) e m.holds.sets;
  blocks = subst (λ (p : Picture). Blocks own w.filtered p w1.deblocked w1.filtered w1.marks) e m.holds.blocks;
  filtered = λ i k h f. subst (λ (p : Picture). mark_of p w1.marks i k ≡ 2) e ((m.marks i k (there k h)).filtered f);
  delivered = λ i k h d. subst (λ (p : Picture). 1 ≤ mark_of p w1.marks i k) e ((m.marks i k (there k h)).delivered d);
  because = λ i k h f.
      ⊎_elim (λ z. absurd (omega (arith, z, start.zeros i k))) (λ t. t)
      ((m.marks i k (there k h)).because (subst (λ (p : Picture). mark_of p w1.marks i k ≡ 2) (sym e) f));
}
  where
    e : picture_of w1 ≡ picture_of w
    e = m.picture ∙ start.picture

    there : (k : ℕ) → k < ctu_count (picture_of w) → k < ctu_count (picture_of w0)
    there k h = subst (λ (p : Picture). k < ctu_count p) (sym start.picture) h

-- ---- the four parts

module _ (stage : Stage) (meets : (c : Call) (w : World) → Contract c w (stage c w)) (own : Own) (w : World) (cs : List Call) (life : Life stage own w cs) where
  told : Lived own w (after stage w cs) (λ i k. Done stage w cs (Filters i k)) (λ i k. Done stage w cs (Delivers i k)) (sets_in stage cs (stage Open w).world)
  told =
      let start = opening own w (meets Open w) life.lengths life.opened in
      lived start (runs stage meets own w.filtered cs (stage Open w).world start.holds life.honest)

  its_final : (i k x y : ℕ) → i < components (picture_of w) → Inside (rectangle (picture_of w) i k) x y → Done stage w cs (Filters i k)
      → at (plane_of (after stage w cs).filtered i) (plane_width (picture_of w) i) x y ≡ final own (picture_of w) i k x y
  its_final i k x y il h done = (told.blocks.places i k x y il h).final (told.filtered i k (inside_count told.rules i k h) done)

  as_before : (i k x y : ℕ) → i < components (picture_of w) → Inside (rectangle (picture_of w) i k) x y → ¬ Done stage w cs (Filters i k)
      → at (plane_of (after stage w cs).filtered i) (plane_width (picture_of w) i) x y ≡ at (plane_of w.filtered i) (plane_width (picture_of w) i) x y
  as_before i k x y il h never = (told.blocks.places i k x y il h).before (λ e. never (told.because i k (inside_count told.rules i k h) e))

  in_the_end : (i : ℕ) → i < components (picture_of w) → ((k : ℕ) → k < ctu_count (picture_of w) → Done stage w cs (Filters i k))
      → plane_of (after stage w cs).filtered i ≡ filtered_plane (picture_of w) own.parameters i (own.planes i)
  in_the_end i il all =
      is_filtered (picture_of w) own.parameters i (own.planes i) (plane_long i told.blocks.filtered_fits il)
      (λ x y xw yh. its_final i (ctb_at (picture_of w) i x y) x y il (ctb_inside told.rules i xw yh refl) (all _ (ctb_lt told.rules i xw yh)))

  at_first_ask : sets_in stage cs (stage Open w).world ≡ ctu_count (picture_of w)
      → ((i k : ℕ) → i < components (picture_of w) → k < ctu_count (picture_of w) → Done stage w cs (Delivers i k))
      → (i k : ℕ) → i < components (picture_of w) → k < ctu_count (picture_of w) → ¬ Done stage w cs (Filters i k)
      → Accepted (stage (Filter i k) (after stage w cs)).answer
  at_first_ask full all i k il kl never =
      effect (Filter i k) w1 (λ r. Accepted r.answer) ((meets (Filter i k) w1).acts free) (λ planes b. tt)
    where
      w1 : World
      w1 = after stage w cs

      free : Clear (reasons_of (Filter i k) w1)
      free =
          subst (λ (p : Picture). Clear (filter_reasons (of_picture p w1.state) i k w1.deblocked w1.filtered w1.marks w1.table))
          (sym told.picture)
          (ready_clear told.rules told.sets told.blocks (told.next ∙ full) il kl (λ j jl. told.delivered i j jl (all i j il jl))
          (λ e. never (told.because i k kl e)))

pub third : (stage : Stage) → ((c : Call) (w : World) → Contract c w (stage c w)) → Demand3 stage
third stage meets = record { filtered = its_final stage meets; others = as_before stage meets; whole = in_the_end stage meets; ready = at_first_ask stage meets }
