-- The history of a picture: every call, refused or not, keeps what holds of the world and moves it as accepted calls tell, and so do all of them.
use mathlib.Core.Path.{◌≡◌, refl}
use mathlib.Core.List.{List, [], ◌∷◌}
use Prim.Native.Nat.{ℕ, ◌^◌, ◌<◌}
use native.Mathlib.Decide.{dec_lt}
use native.Mathlib.Omega.{arith}
use lib.Pow.{pow_pos}
use lib.ListN.{length, get_or, get_or-eq_default}
use Rattle.standard.specs.declared.Picture.{Picture}
use Rattle.standard.specs.declared.CtuSet.{CtuSet}
use Rattle.standard.specs.Picture.{depth_of, components, ctu_count}
use Rattle.standard.specs.Sets.{switches_of, Valid}
use Rattle.standard.specs.Table.{parameters_in}
use Rattle.standard.specs.Refusals.{Clear}
use Rattle.standard.specs.Reasons.{Planes, mark_of, UnitIsDue}
use Rattle.standard.specs.Calls.{Delivered, Filtered}
use Rattle.standard.proofs.Called.{unit_next}
use Rattle.standard.proofs.Granted.{may_read, may_write, MayDeliver, may_deliver, MayFilter, may_filter}
use Rattle.promises.specs.World.{World, picture_of, Call, Open, Read, Write, Deliver, Filter, Rows, refused, done, Accepted, Result, Stage, reasons_of}
use Rattle.promises.specs.Contract.{appended, with_delivered, with_filtered, unchanged, Contract}
use Rattle.promises.specs.Demands.{Own, OwnSet, OwnData, NoOpening, Honest, run, Happened, Filters, Delivers, sets_of, sets_in}
use Rattle.promises.proofs.Turns.{Acts, turn}
use Rattle.promises.proofs.Written.{Other, here_or_there, marked_here, marked_there}
use Rattle.promises.proofs.Stored.{own_in, here_valid, copied_sound, one_more_in}
use Rattle.promises.proofs.Blocks.{deliver_kept, filter_kept}
use Rattle.promises.proofs.Invariant.{mark, Holds, Moved, idle, now_delivered, now_filtered, Moves, moves_then}

-- ---- one call

-- beyond its end a list reads as 0, which is low too
all_low : (samples : List ℕ) (bound : ℕ) → 0 < bound → ((n : ℕ) → n < length samples → get_or samples n 0 < bound) → (n : ℕ) → get_or samples n 0 < bound
all_low samples bound p low n = go (dec_lt n (length samples))
  where
    go : Dec (n < length samples) → get_or samples n 0 < bound
    go (yes l) = low n l
    go (no l) = let e : get_or samples n 0 ≡ 0 = get_or-eq_default samples 0 (omega arith) in omega arith

no_sets : (c : Call) (n : ℕ) → sets_of c (refused n) ≡ 0
no_sets Open n = refl
no_sets (Read bytes count) n = refl
no_sets (Write q out) n = refl
no_sets (Deliver i k samples) n = refl
no_sets (Filter i k) n = refl
no_sets (Rows i) n = refl

module _ (own : Own) (first : Planes) where
  -- what a call does, by its result
  abbrev Does : Call → World → Result → Type 0
  Does c w r =
      Moves own first (λ i k. Filters i k c × Accepted r.answer) (λ i k. Delivers i k c × Accepted r.answer) (sets_of c r.answer) w r.world

  module _ (w : World) (v : Holds own first w) where
    refusal_does : (c : Call) (n : ℕ) → Does c w (unchanged c w n)
    refusal_does c n = record {
      picture = refl;
      holds = v;
      marks = λ i k h. idle (λ t. t.1) (λ t. t.1) refl;
      next = omega (arith, no_sets c n);
    }

    -- a read or a write
    append_does : (q : CtuSet) → Valid (switches_of w.state) q → UnitIsDue w.state
        → OwnSet own.parameters w.state q → Moves own first (λ i k. ⊥ × Unit {0}) (λ i k. ⊥ × Unit {0}) 1 w (appended w q)
    append_does q valid l e = record {
      picture = refl;
      holds = record { rules = v.rules; sets = one_more_in v.sets (unit_next w.state l) valid e; blocks = v.blocks };
      marks = λ i k h. idle (λ t. t.0) (λ t. t.0) refl;
      next = refl;
    }

    deliver_does : (i k : ℕ) (samples : List ℕ) (planes : Planes) → Delivered w.state i k samples w.deblocked planes
        → MayDeliver w.state i k samples w.deblocked w.marks → OwnData own (Deliver i k samples) w done
        → Does (Deliver i k samples) w (record { answer = done; out = []; world = with_delivered w i k planes })
    deliver_does i k samples planes b may o = record {
      picture = refl;
      holds = record {
        rules = v.rules;
        sets = v.sets;
        blocks = deliver_kept v.rules v.blocks il kl samples new (λ x y h. all_low samples (2 ^ depth_of p i) (pow_pos (depth_of p i)) may.deliverable.low _) (o tt) b;
      };
      marks = λ j l. here_or_there P i k j l (λ h. now_delivered (λ t. t.0) new (marked_here p w.marks kl 1 v.blocks.marks_fit il)) (there j l);
      next = omega arith;
    }
      where
        p : Picture
        p = picture_of w

        il : i < components p
        il = may.block.component

        kl : k < ctu_count p
        kl = may.block.ctb

        new : mark_of p w.marks i k ≡ 0
        new = may.deliverable.new

        P : ℕ → ℕ → Type 0
        P j l = l < ctu_count p → Moved (⊥ × Unit {0}) (((i ≡ j) × (k ≡ l)) × Unit {0}) (mark w j l) (mark (with_delivered w i k planes) j l)

        there : (j l : ℕ) → Other i k j l → P j l
        there j l other h = idle (λ t. t.0) (λ t. other t.0) (marked_there p w.marks kl 1 j h other)

    filter_does : (i k : ℕ) (planes : Planes) → Filtered w.state i k w.table w.deblocked w.filtered planes
        → MayFilter w.state i k w.deblocked w.filtered w.marks w.table
        → Does (Filter i k) w (record { answer = done; out = []; world = with_filtered w i k planes })
    filter_does i k planes b may = record {
      picture = refl;
      holds = record {
        rules = v.rules;
        sets = v.sets;
        blocks = filter_kept v.rules v.blocks il kl (parameters_in w.table) (own_in v.sets i k may.ready.set) may.ready.delivered b;
      };
      marks = λ j l. here_or_there P i k j l (λ h. now_filtered ((refl, refl), tt) (marked_here p w.marks kl 2 v.blocks.marks_fit il)) (there j l);
      next = omega arith;
    }
      where
        p : Picture
        p = picture_of w

        il : i < components p
        il = may.block.component

        kl : k < ctu_count p
        kl = may.block.ctb

        P : ℕ → ℕ → Type 0
        P j l = l < ctu_count p → Moved (((i ≡ j) × (k ≡ l)) × Unit {0}) (⊥ × Unit {0}) (mark w j l) (mark (with_filtered w i k planes) j l)

        there : (j l : ℕ) → Other i k j l → P j l
        there j l other h = idle (λ t. other t.0) (λ t. t.0) (marked_there p w.marks kl 2 j h other)

    acts_do : (c : Call) → NoOpening c → Clear (reasons_of c w) → Acts c w (λ r. OwnData own c w r.answer → Does c w r)
    acts_do Open other free = absurd other
    acts_do (Read bytes count) other free = λ q means o.
        let may = may_read w.state bytes count w.table free in
        append_does q (here_valid w.state w.table may.bins.copied means) may.due.unit (o q refl)
    acts_do (Write q out) other free = λ n out' wrote o.
        let may = may_write w.state q out w.table free in
        append_does q (here_valid w.state w.table (copied_sound w.state w.table may.set.left may.set.up) wrote.shortest.mean) may.due.unit (o tt)
    acts_do (Deliver i k samples) other free = λ planes b o. deliver_does i k samples planes b (may_deliver w.state i k samples w.deblocked w.marks free) o
    acts_do (Filter i k) other free = λ planes b o. filter_does i k planes b (may_filter w.state i k w.deblocked w.filtered w.marks w.table free)
    acts_do (Rows i) other free = λ n b o. record { picture = refl; holds = v; marks = λ j k h. idle (λ t. t.0) (λ t. t.0) refl; next = omega arith }

-- ---- all of the calls

module _ (stage : Stage) (meets : (c : Call) (w : World) → Contract c w (stage c w)) (own : Own) (first : Planes) where
  does : (c : Call) (w : World) → Holds own first w → NoOpening c → OwnData own c w (stage c w).answer → Does own first c w (stage c w)
  does c w v other =
      turn c w (meets c w) (λ r. OwnData own c w r.answer → Does own first c w r) (λ n o. refusal_does own first w v c n) (acts_do own first w v c other)

  pub runs : (cs : List Call) (w : World) → Holds own first w → Honest stage own cs w
      → Moves own first (λ i k. Happened stage (Filters i k) cs w) (λ i k. Happened stage (Delivers i k) cs w) (sets_in stage cs w) w (run stage cs w)
  runs [] w v h = record { picture = refl; holds = v; marks = λ i k h. idle (λ t. t) (λ t. t) refl; next = omega arith }
  runs (c ∷ cs) w v h = let one = does c w v h.0 h.1 in moves_then one (runs cs (stage c w).world one.holds h.2)
