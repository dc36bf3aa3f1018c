-- The executable stage meets the contract.
use mathlib.Core.Path.{◌≡◌, refl, ap, ◌∙◌}
use mathlib.Core.List.{List}
use Prim.Native.Nat.{ℕ}
use Rattle.standard.specs.declared.CtuSet.{CtuSet}
use Rattle.standard.specs.Sets.{switches_of}
use Rattle.standard.specs.Bins.{bins_of}
use Rattle.standard.specs.Reasons.{left_set, upper_set}
use Rattle.standard.specs.Refusals.{First, Clear}
use Rattle.standard.proofs.Decisions.{Verdict, refusal, clear}
use Rattle.standard.proofs.Numbers.{first_unique, first_not_clear}
use Rattle.standard.proofs.Granted.{may_read, may_write, may_deliver, may_filter}
use Rattle.standard.proofs.Reader.{Heard, meant, early, remain, hear}
use Rattle.standard.proofs.Spelling.{Spelling, shortest, unspelled, spell_out}
use Rattle.promises.specs.World.{World, picture_of, Call, Open, Read, Write, Deliver, Filter, Rows, Result, reasons_of}
use Rattle.promises.specs.Contract.{Effect, unchanged, Contract}
use Rattle.promises.specs.Ours.{heard_in, spelled_in, act, verdict_of, conclude, ours}
use Rattle.promises.proofs.Painting.{painted_block}
use Rattle.promises.proofs.Finishing.{rows_finished}

-- ---- where no reason holds it acts

acts_reading : (bytes : List ℕ) (count : ℕ) (w : World) → Clear (reasons_of (Read bytes count) w) → Effect (Read bytes count) w (act (Read bytes count) w)
unfolding act
acts_reading bytes count w free = go (hear (switches_of w.state) (left_set w.state w.table) (upper_set w.state w.table) (bins_of bytes count))
  where
    go : (h : Heard (switches_of w.state) (left_set w.state w.table) (upper_set w.state w.table) (bins_of bytes count))
        → Effect (Read bytes count) w (heard_in h (Read bytes count) w)
    go (meant q m) = (q, m, refl)
    go (early e) = absurd ((may_read w.state bytes count w.table free).bins.not_early e)
    go (remain r) = absurd ((may_read w.state bytes count w.table free).bins.none_remain r)

acts_writing : (q : CtuSet) (out : List ℕ) (w : World) → Clear (reasons_of (Write q out) w) → Effect (Write q out) w (act (Write q out) w)
unfolding act
acts_writing q out w free = go (spell_out (switches_of w.state) (left_set w.state w.table) (upper_set w.state w.table) q)
  where
    go : (h : Spelling (switches_of w.state) (left_set w.state w.table) (upper_set w.state w.table) q)
        → Effect (Write q out) w (spelled_in h out (Write q out) w)
    go (shortest bins s) = (_, _, record { bins = bins; shortest = s; number = refl; bytes = refl }, refl)
    go (unspelled f) = absurd ((may_write w.state q out w.table free).set.meant f)

acts : (c : Call) (w : World) → Clear (reasons_of c w) → Effect c w (act c w)
unfolding act
acts Open w free = refl
acts (Read bytes count) w free = acts_reading bytes count w free
acts (Write q out) w free = acts_writing q out w free
acts (Deliver i k samples) w free =
    let may = may_deliver w.state i k samples w.deblocked w.marks free in
    (_, painted_block (picture_of w) i k _ w.deblocked may.block.component may.deblocked_fits, refl)
acts (Filter i k) w free =
    let may = may_filter w.state i k w.deblocked w.filtered w.marks w.table free in
    (_, painted_block (picture_of w) i k _ w.filtered may.block.component may.filtered_fits, refl)
acts (Rows i) w free = (_, rows_finished w.state i w.marks, refl)

-- ---- a result meets the contract by what became of its call

pub meets_refused : {c : Call} {w : World} {r : Result} {n : ℕ} → First (reasons_of c w) n → r ≡ unchanged c w n → Contract c w r
meets_refused {c} {w} f e = record {
  refuses = λ m g. e ∙ ap (unchanged c w) (first_unique (reasons_of c w) f g);
  acts = λ k. absurd (first_not_clear (reasons_of c w) _ f k);
}

pub meets_acted : {c : Call} {w : World} {r : Result} → Clear (reasons_of c w) → Effect c w r → Contract c w r
meets_acted {c} {w} k e = record {
  refuses = λ n f. absurd (first_not_clear (reasons_of c w) n f k);
  acts = λ k'. e;
}

-- ---- it meets the contract

pub meets : (c : Call) (w : World) → Contract c w (ours c w)
unfolding ours
meets c w = go (verdict_of c w)
  where
    go : (v : Verdict (reasons_of c w)) → Contract c w (conclude c w v)
    go (refusal n f) = meets_refused f refl
    go (clear k) = meets_acted k (acts c w k)
