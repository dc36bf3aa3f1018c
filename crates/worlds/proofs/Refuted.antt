-- No wrong stage meets the demands: of each, the demand that it breaks, by a small picture in which the wrong answer is computed.
use mathlib.Core.Path.{◌≡◌, refl, sym, ap, subst}
use mathlib.Core.List.{[], ◌∷◌}
use mathlib.Core.Logic.{inl, inr}
use Prim.Native.Nat.{ℕ, ◌*◌, min}
use native.Mathlib.Omega.{arith}
use lib.Dec.{lit<, lit≤}
use lib.ListN.{replicate}
use Rattle.standard.specs.declared.Offsets.{Offsets}
use Rattle.standard.specs.declared.Offsets.TheVariants.{Off, Band, Edge}
use Rattle.standard.specs.declared.CtuSet.{CtuSet}
use Rattle.standard.specs.Sets.{all_off}
use Rattle.standard.specs.Bins.{bins_of}
use Rattle.standard.proofs.Cases.{of_luma, case5, uneven, misread, lost}
use Rattle.standard.proofs.Codes.{Got, got, short, never}
use Rattle.standard.proofs.Decisions.{differ, refused_with, accepted}
use Rattle.standard.proofs.Reader.{meant_is_got}
use Rattle.promises.specs.World.{Read, Deliver, Filter, Answer, refused, done, set_read, bins_written, rows, Accepted, Result}
use Rattle.promises.specs.Demands.{Demand1, Demand2, Demand3}
use Rattle.promises.specs.Ours.{verdict_of}
use Rattle.promises.proofs.Second.{reads_clear, reads_as_meant}
use Rattle.worlds.specs.Wrong.{refuses_everything, reads_as_off, only_marks, never_writes, first_block_only, invented_count, invented_rows, trusts_the_count, reads_past_the_count, filters_in_place, waits_for_own_only, every_format_is420, chroma_in_lumas_depth}
use Rattle.worlds.proofs.Small.{computing, deciding, apart, lives, edgy, edgy_bytes, edgy_count, own8, before8, opened8, ready8, calls8, own24, before24, half24, calls24, tall24, halved, opened10_8, lengths8, lengths24, due8, means_edgy}

-- ---- a stage that refuses everything, or reads every CTU as off

accepting : {r s : Result} → r ≡ s → Accepted s.answer → Accepted r.answer
accepting e h = subst (λ (r : Result). Accepted r.answer) (sym e) h

pub refuses_everything_refuted : Demand2 refuses_everything → ⊥
unfolding refuses_everything
refuses_everything_refuted d = accepting (d.reads edgy_bytes edgy_count opened8 (reads_clear edgy_bytes edgy_count opened8 due8 (lit≤ tt) means_edgy)).2 tt

-- whether the set read has luma off
abbrev LumaOff : Answer → Type 0
LumaOff (refused n) = ⊥
LumaOff done = ⊥
LumaOff (set_read q) = q.luma ≡ Off
LumaOff (bins_written n) = ⊥
LumaOff (rows n part) = ⊥

pub reads_as_off_refuted : Demand2 reads_as_off → ⊥
unfolding reads_as_off computing
reads_as_off_refuted d =
    let e : set_read all_off ≡ set_read edgy = ap (λ (r : Result). r.answer) (reads_as_meant d edgy_bytes edgy_count opened8 edgy due8 (lit≤ tt) means_edgy) in
    let z : edgy.luma ≡ Off = subst LumaOff e refl in
    differ (cc)

-- ---- a filter that only sets its mark, or an output never written

pub only_marks_refuted : Demand2 only_marks → ⊥
unfolding only_marks computing
only_marks_refuted d = apart 1 5 tt ((d.filters 0 0 ready8 tt).0.own.inside 0 0 (lit< tt) (lit< tt) ((lit≤ tt, lit< tt), (lit≤ tt, lit< tt)))

pub only_marks_in_a_life : Demand3 only_marks → ⊥
unfolding only_marks deciding
only_marks_in_a_life d =
    apart 1 5 tt
    (d.filtered own8 before8 calls8 (lives lengths8 tt tt) 0 0 0 0 (lit< tt) ((lit≤ tt, lit< tt), (lit≤ tt, lit< tt)) (inr (inr (inr (inl ((refl, refl), tt))))))

pub never_writes_refuted : Demand2 never_writes → ⊥
unfolding never_writes computing
never_writes_refuted d = apart 1 5 tt ((d.filters 0 0 ready8 tt).0.own.inside 0 0 (lit< tt) (lit< tt) ((lit≤ tt, lit< tt), (lit≤ tt, lit< tt)))

pub never_writes_in_a_life : Demand3 never_writes → ⊥
unfolding never_writes deciding
never_writes_in_a_life d =
    apart 1 5 tt
    (d.filtered own8 before8 calls8 (lives lengths8 tt tt) 0 0 0 0 (lit< tt) ((lit≤ tt, lit< tt), (lit≤ tt, lit< tt)) (inr (inr (inr (inl ((refl, refl), tt))))))

-- ---- one that filters the first CTB and merely marks the others

pub first_block_only_refuted : Demand3 first_block_only → ⊥
unfolding first_block_only deciding
first_block_only_refuted d =
    apart 1 4 tt
    (d.filtered own24 before24 calls24 (lives lengths24 tt tt) 0 1 16 0 (lit< tt) ((lit≤ tt, lit< tt), (lit≤ tt, lit< tt))
    (inr (inr (inr (inr (inr (inr (inl ((refl, refl), tt)))))))))

-- ---- a writer with an invented bin count, or an invented number of finished rows

pub invented_count_refuted : Demand2 invented_count → ⊥
unfolding invented_count computing
invented_count_refuted d =
    let t = d.writes edgy (0 ∷ 0 ∷ []) opened8 15 refl in
    omega (arith, t.2, t.1.least (bins_of edgy_bytes edgy_count) means_edgy)

pub invented_rows_refuted : Demand2 invented_rows → ⊥
unfolding invented_rows computing
invented_rows_refuted d =
    let f = (d.finishes 0 tall24 17 (replicate 128 1) refl).0 in
    let e : 17 ≡ min (f.row * 16) 24 = f.number in
    omega arith

-- ---- document 00's version one: half a set's bins are accepted

-- case 5's first byte under the full count: the band position is taken from the bytes beyond
pub trusts_the_count_refuted : Demand1 (trusts_the_count (175 ∷ 0 ∷ [])) → ⊥
unfolding trusts_the_count computing
trusts_the_count_refuted d = accepting (sym (d.refuses (Read (156 ∷ []) 17) opened8 4 (refused_with (verdict_of (Read (156 ∷ []) 17) opened8) tt))) tt

pub trusts_the_count_reading : Demand2 (trusts_the_count (175 ∷ 0 ∷ [])) → ⊥
unfolding trusts_the_count computing
trusts_the_count_reading d = never (meant_is_got (d.reads_only (156 ∷ []) 17 opened8 (of_luma case5) refl).0)

-- a count that leaves out the last bins
pub reads_past_the_count_refuted : Demand1 reads_past_the_count → ⊥
unfolding reads_past_the_count computing
reads_past_the_count_refuted d = accepting (sym (d.refuses (Read edgy_bytes 10) opened8 5 (refused_with (verdict_of (Read edgy_bytes 10) opened8) tt))) tt

pub reads_past_the_count_reading : Demand2 reads_past_the_count → ⊥
unfolding reads_past_the_count computing
reads_past_the_count_reading d = never (meant_is_got (d.reads_only edgy_bytes 10 opened8 edgy refl).0)

-- ---- version two: a block is compared with samples already filtered

-- case 7's third sample stays 5
pub filters_in_place_refuted : Demand2 filters_in_place → ⊥
unfolding filters_in_place computing
filters_in_place_refuted d = apart 5 4 tt ((d.filters 0 0 ready8 tt).0.own.inside 2 0 (lit< tt) (lit< tt) ((lit≤ tt, lit< tt), (lit≤ tt, lit< tt)))

-- and the next block's first column stays 3
pub filters_in_place_in_a_life : Demand3 filters_in_place → ⊥
unfolding filters_in_place deciding
filters_in_place_in_a_life d =
    apart 3 4 tt
    (d.filtered own24 before24 calls24 (lives lengths24 tt tt) 0 1 16 0 (lit< tt) ((lit≤ tt, lit< tt), (lit≤ tt, lit< tt))
    (inr (inr (inr (inr (inr (inr (inl ((refl, refl), tt)))))))))

-- ---- version three: a block is filtered before the one to its right is in

pub waits_for_own_only_refuted : Demand1 waits_for_own_only → ⊥
unfolding waits_for_own_only computing
waits_for_own_only_refuted d = accepting (sym (d.refuses (Filter 0 0) half24 10 (refused_with (verdict_of (Filter 0 0) half24) tt))) tt

-- its last column is compared with the previous picture
pub waits_for_own_only_in_a_life : Demand3 waits_for_own_only → ⊥
unfolding waits_for_own_only deciding
waits_for_own_only_in_a_life d =
    apart 5 3 tt
    (d.filtered own24 before24 calls24 (lives lengths24 tt tt) 0 0 15 0 (lit< tt) ((lit≤ tt, lit< tt), (lit≤ tt, lit< tt))
    (inr (inr (inr (inl ((refl, refl), tt))))))

-- ---- document 02's K1: chroma of 4:2:2 is taken to have half of luma's rows

pub every_format_is_420_refuted : Demand1 every_format_is420 → ⊥
unfolding every_format_is420 computing
every_format_is_420_refuted d =
    let block = Deliver 1 0 (replicate 16 8) in
    accepting (sym (d.refuses block halved 2 (refused_with (verdict_of block halved) tt))) tt

-- ---- document 02's K3: the feed that lost its place in the bins

-- the class that is read for Cb, where it has one
abbrev class_in : Offsets → ℕ
class_in Off = 4
class_in (Band position o) = 4
class_in (Edge class o) = class

abbrev class_of_cb : Got CtuSet → ℕ
class_of_cb (got q beyond) = class_in q.cb
class_of_cb short = 4

-- case 22's bins are read as another set
pub chroma_in_lumas_depth_refuted : Demand2 chroma_in_lumas_depth → ⊥
unfolding chroma_in_lumas_depth computing
chroma_in_lumas_depth_refuted d = apart 0 1 tt (ap class_of_cb (meant_is_got (d.reads_only uneven 35 opened10_8 misread refl).0))

-- and case 23's, which end with the CTU, are refused
pub chroma_in_lumas_depth_refusing : Demand2 chroma_in_lumas_depth → ⊥
unfolding chroma_in_lumas_depth computing
chroma_in_lumas_depth_refusing d = accepting (d.reads lost 19 opened10_8 (accepted (verdict_of (Read lost 19) opened10_8) (λ h. h))).2 tt
